-- The terminal symbols of the grammar.
use Rattle.std.specs.Prelude.{ℕ, Bool, List, [], ◌∷◌, ◌++◌, map, bytes_eq, if◌then◌else◌}
use denote.Enum.Bare.{sameb}
use Rattle.c_lex.specs.declared.token.Kind.{Kind}
use Rattle.c_lex.specs.declared.token.Kind.TheVariants as kinds
use Rattle.c_lex.specs.Tokens.{Lexeme}
use Rattle.c_tree.specs.declared.term.Term.{Term}
use Rattle.c_tree.specs.declared.term.Term.TheVariants as terms
use Rattle.c_tree.specs.contracts.term.Term.{the_type}
use Rattle.c_tree.specs.Words.{words, refused_words, marks}

-- `==` on terminal symbols
unfoldable pub same_term : Term → Term → Bool
same_term = sameb the_type

-- the first entry of a table for a text
abbrev pub lookup : List (List ℕ × Term) → List ℕ → Term → Term
lookup [] text otherwise = otherwise
lookup (e ∷ es) text otherwise = if bytes_eq e.0 text then e.1 else lookup es text otherwise

-- A word that is in neither list is a name.
unfoldable pub word_term : List ℕ → Term
word_term text = lookup (words ++ map (λ word. (word, terms.Refused)) refused_words) text terms.Name

unfoldable pub mark_term : List ℕ → Term
mark_term text = lookup marks text terms.Refused

abbrev pub kind_term : Kind → List ℕ → Term
kind_term kinds.Word text = word_term text
kind_term kinds.Number text = terms.Number
kind_term kinds.Mark text = mark_term text
kind_term kinds.Foreign text = terms.Refused

-- what a token is to the grammar
abbrev pub term_of : Lexeme → Term
term_of t = kind_term t.kind t.bytes
