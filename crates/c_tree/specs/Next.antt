-- The next token, and the refusals at it.
use Rattle.std.specs.Prelude.{ℕ, List, [], ◌∷◌}
use Rattle.thr_base.specs.declared.stops.Refusal.{Refusal}
use Rattle.thr_base.specs.Refusals.{expected, not_in_profile, too_many}
use Rattle.c_lex.specs.Tokens.{Lexeme}
use Rattle.c_tree.specs.declared.term.Term.{Term}
use Rattle.c_tree.specs.declared.term.Term.TheVariants as terms
use Rattle.c_tree.specs.Term.{term_of}

-- what the next token is, of those that are left
abbrev pub term_at : List Lexeme → Term
term_at [] = terms.End
term_at (t ∷ ts) = term_of t

-- where it begins, or the text ends
abbrev pub place_at : ℕ → List Lexeme → ℕ
place_at end [] = end
place_at end (t ∷ ts) = t.from

abbrev pub bytes_at : List Lexeme → List ℕ
bytes_at [] = []
bytes_at (t ∷ ts) = t.bytes

abbrev pub refusal_code : Term → ℕ
refusal_code terms.Refused = not_in_profile
refusal_code _ = expected

-- the refusal of a token that nothing goes on with
abbrev pub refusal_at : ℕ → List Lexeme → Refusal
refusal_at end ts = record { code = refusal_code (term_at ts); place = place_at end ts }

-- that of a token that opens a level too many
abbrev pub too_deep_at : ℕ → List Lexeme → Refusal
too_deep_at end ts = record { code = too_many; place = place_at end ts }
