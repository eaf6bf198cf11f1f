-- The first equality of a list, by its place.
use Rattle.std.proofs.Common.{◌≡◌, ℕ, zero, suc, ◌+◌, ◌<◌, refl, ◌∙◌, ap, arith, List, [], ◌∷◌, length, get_or, Bool, true, false, cond, Some, None}
use Rattle.std.specs.Prelude.{find, not, nat_lt}
use Rattle.std.specs.List.{position, position_or_len, remove}
use Rattle.std.proofs.lemmas.Bool.{ltb-true, lt-ltb}
use Rattle.farkas_cert.specs.Line.{Line}
use Rattle.farkas_cert.specs.Elimination.{without_equality}

abbrev is_equality : Line → Bool
is_equality line = line.equal

-- The equality is found there, and the others are those without it.
pub record IsFirst (lines : List Line) (i : ℕ) (equality : Line) : Type 0 where
  pub found : find (λ line. line.equal) lines ≡ Some equality
  pub others : without_equality lines ≡ remove lines i

first_by : (lines : List Line) (i : ℕ) (d : Line) → i < length lines → position_or_len is_equality lines ≡ i → IsFirst lines i (get_or lines i d)
unfolding without_equality
first_by [] i d h e = absurd (omega arith)
first_by (line ∷ lines) zero d h e = at line.equal refl e where
  at : (b : Bool) → line.equal ≡ b → cond (not b) (1 + position_or_len is_equality lines) 0 ≡ 0 → IsFirst (line ∷ lines) 0 line
  at true t e = record {
    found = ap (λ b. cond b (Some line) (find (λ line. line.equal) lines)) t;
    others = ap (λ b. cond b lines (line ∷ without_equality lines)) t;
  }
  at false t e = absurd (omega arith)
first_by (line ∷ lines) (suc i) d h e = at (first_by lines i d) line.equal refl e where
  at : (i < length lines → position_or_len is_equality lines ≡ i → IsFirst lines i (get_or lines i d)) → (b : Bool) → line.equal ≡ b
      → cond (not b) (1 + position_or_len is_equality lines) 0 ≡ suc i → IsFirst (line ∷ lines) (suc i) (get_or lines i d)
  at rest true t e = absurd (omega arith)
  at rest false t e =
      let r = rest (omega arith) (omega arith) in
      record {
        found = ap (λ b. cond b (Some line) (find (λ line. line.equal) lines)) t ∙ r.found;
        others = ap (λ b. cond b lines (line ∷ without_equality lines)) t ∙ ap (λ ls. line ∷ ls) r.others;
      }

some_place : (n l i : ℕ) (b : Bool) → nat_lt n l ≡ b → cond b (Some n) None ≡ Some i → (i < l) × (n ≡ i)
some_place n l i true t e = let same : n ≡ i = cc in let h = ltb-true n l t in (omega arith, same)
some_place n l i false t e = absurd cc

no_place : (n l : ℕ) (b : Bool) → nat_lt n l ≡ b → cond b (Some n) None ≡ None → ¬ (n < l)
no_place n l true t e = absurd cc
no_place n l false t e = λ h. let k = lt-ltb n l h in absurd cc

pub first_at : (lines : List Line) (i : ℕ) (d : Line) → position (λ line. line.equal) lines ≡ Some i → IsFirst lines i (get_or lines i d)
first_at lines i d e =
    let at = some_place (position_or_len is_equality lines) (length lines) i (nat_lt (position_or_len is_equality lines) (length lines)) refl e in
    first_by lines i d at.0 at.1

pub place_within : (lines : List Line) (i : ℕ) → position (λ line. line.equal) lines ≡ Some i → i < length lines
place_within lines i e = (some_place (position_or_len is_equality lines) (length lines) i (nat_lt (position_or_len is_equality lines) (length lines)) refl e).0

none_by : (lines : List Line) → ¬ (position_or_len is_equality lines < length lines) → find (λ line. line.equal) lines ≡ None
none_by [] h = refl
none_by (line ∷ lines) h = at (none_by lines) line.equal refl h where
  at : ((¬ (position_or_len is_equality lines < length lines)) → find (λ line. line.equal) lines ≡ None) → (b : Bool) → line.equal ≡ b
      → (¬ (cond (not b) (1 + position_or_len is_equality lines) 0 < suc (length lines))) → cond b (Some line) (find (λ line. line.equal) lines) ≡ None
  at rest true t h = absurd (h (omega arith))
  at rest false t h = rest (λ l. h (omega arith))

pub none_at : (lines : List Line) → position (λ line. line.equal) lines ≡ None → find (λ line. line.equal) lines ≡ None
none_at lines e =
    none_by lines (no_place (position_or_len is_equality lines) (length lines) (nat_lt (position_or_len is_equality lines) (length lines)) refl e)
