-- The tokens that are names are C names, so the names that a tree has of its text are.
use Rattle.std.proofs.Common.{◌≡◌, ℕ, ◌+◌, rules, Bool, true, false, ◌&&◌, cond, List, [], ◌∷◌, ◌++◌, length, bytes_eq, refl, arith, sym, ap, subst, ◌∙◌}
use Rattle.std.specs.Prelude.{slice_index}
use Rattle.std.specs.List.{AllByRecursion, list_all}
use Rattle.std.proofs.lemmas.Bool.{false≢true}
use Rattle.thr_base.specs.ColumnText.{is_c_name}
use Rattle.c_lex.specs.declared.token.Kind.{Kind}
use Rattle.c_lex.specs.declared.token.Kind.TheVariants as kinds
use Rattle.c_lex.specs.Bytes.{is_letter, is_word_byte}
use Rattle.c_lex.proofs.Longest.{tokens_from_longest}
use Rattle.c_lex.specs.Tokens.{Lexeme, IsToken, AreTokens}
use Rattle.c_tree.specs.declared.term.Term.{Term}
use Rattle.c_tree.specs.declared.term.Term.TheVariants as terms
use Rattle.c_tree.specs.Words.{marks}
use Rattle.c_tree.specs.Term.{lookup, mark_term, kind_term, term_of}
use Rattle.c_tree.specs.declared.item.Tree.{Tree}
use Rattle.c_tree.specs.GrammarItem.{IsTreeOf}
use Rattle.c_tree.specs.Seen.{plain_tree}
use Rattle.c_tree.proofs.SittingText.{tree_leaves_are}
use Rattle.c_tree.specs.Leaves.{tree_leaves, AreLeaves, IsNamed, IsSaid, Leaf, NamesAreOfC, Said}

-- ---- no mark and no number is a name

abbrev is_name : Term → Bool
is_name terms.Name = true
is_name _ = false

by_test : (b : Bool) (x y : Term) → is_name x ≡ false → is_name y ≡ false → is_name (cond b x y) ≡ false
by_test true x y one other = one
by_test false x y one other = other

-- no entry is that of a name
abbrev NoName : List (List ℕ × Term) → Type 0
NoName [] = Unit {0}
NoName (e ∷ es) = (is_name e.1 ≡ false) × NoName es

lookup_no_name : (es : List (List ℕ × Term)) (text : List ℕ) (otherwise : Term) → NoName es → is_name otherwise ≡ false → is_name (lookup es text otherwise) ≡ false
lookup_no_name [] text otherwise none other = other
lookup_no_name (e ∷ es) text otherwise none other = by_test (bytes_eq e.0 text) e.1 (lookup es text otherwise) none.0 (lookup_no_name es text otherwise none.1 other)

mark_no_name : (text : List ℕ) → is_name (mark_term text) ≡ false
unfolding mark_term marks
mark_no_name text = lookup_no_name marks text terms.Refused (search rules) refl

-- ---- a token that is a name is a C name

letters : (bytes : List ℕ) → is_letter (slice_index bytes 0) ≡ true → list_all is_word_byte bytes ≡ true → is_c_name bytes ≡ true
letters [] first all = absurd (false≢true first)
letters (b ∷ bytes) first all = rw first (behind_first (is_word_byte b) _ all)
  where
    behind_first : (x y : Bool) → (x && y) ≡ true → y ≡ true
    behind_first true y e = e
    behind_first false y e = absurd (false≢true e)

named_token : (kind : Kind) (bytes : List ℕ) (next : ℕ) → IsToken kind bytes next → kind_term kind bytes ≡ terms.Name → is_c_name bytes ≡ true
named_token kinds.Word bytes next is named = letters bytes is.0 is.1
named_token kinds.Number bytes next is named = absurd (false≢true (ap is_name named))
named_token kinds.Mark bytes next is named = absurd (false≢true (sym (mark_no_name bytes) ∙ ap is_name named))
named_token kinds.Foreign bytes next is named = absurd (false≢true (ap is_name named))

-- ---- tokens

-- each token that is a name is a C name
abbrev AreNamed : List Lexeme → Type 0
AreNamed ts = AllByRecursion (λ (t : Lexeme). term_of t ≡ terms.Name → is_c_name t.bytes ≡ true) ts

tokens_named : (text : List ℕ) (ts : List Lexeme) → AreTokens text ts → AreNamed ts
tokens_named text [] are = tt
tokens_named text (t ∷ ts) are = (named_token t.kind t.bytes (slice_index text (t.from + length t.bytes)) are.0, tokens_named text ts are.1)

-- a token among others, and those behind it
among : (before : List Lexeme) (t : Lexeme) (after : List Lexeme) → AreNamed (before ++ t ∷ after) → (term_of t ≡ terms.Name → is_c_name t.bytes ≡ true) × AreNamed after
among [] t after are = are
among (b ∷ before) t after are = among before t after are.1

said_named : (said : Said) (t : Lexeme) → IsSaid said t → (term_of t ≡ terms.Name → is_c_name t.bytes ≡ true) → IsNamed said
said_named Said.Anything t is named = tt
said_named (Said.Mark term) t is named = tt
said_named (Said.Named text) t is named = subst (λ (bytes : List ℕ). is_c_name bytes ≡ true) is.1 (named is.0)

leaves_named : (leaves : List Leaf) (ts : List Lexeme) → AreLeaves leaves ts → AreNamed ts → NamesAreOfC leaves
leaves_named [] ts are named = tt
leaves_named (Leaf.Token said place ∷ leaves) ts are named =
    let here = among are.0 are.1 are.2 (subst AreNamed are.3 named) in
    (said_named said are.1 are.5 here.0, leaves_named leaves are.2 are.6 here.1)
leaves_named (Leaf.Number value ∷ leaves) ts are named = leaves_named leaves ts are.1 named

-- the names of the tree of a text
pub names_of_text : (text : List ℕ) (tree : Tree) → IsTreeOf text tree → NamesAreOfC (tree_leaves (plain_tree tree))
names_of_text text tree is =
    leaves_named (tree_leaves (plain_tree tree)) is.0 (tree_leaves_are is.0 tree.items is.2) (tokens_named text is.0 (tokens_from_longest (length text) 0 true text text is.0 refl (omega arith) is.1))
