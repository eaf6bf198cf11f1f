-- A text is split at its first mark.
use Rattle.std.proofs.Common.{◌≡◌, ◌≢◌, ◌==◌, ℕ, suc, ◌+◌, List, [], ◌∷◌, ◌++◌, length, take, drop, Some, None, refl, sym, ap, ◌∙◌, arith, inl, inr, ◌⊎◌}
use Rattle.std.specs.List.{AllByRecursion, position}
use Rattle.std.proofs.lemmas.Bool.Decides.{eqb_tells}
use Rattle.std.proofs.Math.Seq.{take-append_seam}
use Rattle.transition_formula.proofs.Words.{position-marked, position-unmarked}

-- what stands in front of the first mark, and behind it
pub record Split (m : ℕ) (text front behind : List ℕ) : Type 0 where
  pub plain : AllByRecursion (λ b. b ≢ m) front
  pub text_is : text ≡ front ++ (m ∷ behind)

-- There is a mark in the text.
pub record Marked (m : ℕ) (text : List ℕ) : Type 0 where
  pub front : List ℕ
  pub behind : List ℕ
  pub split : Split m text front behind

marked-more : (m b : ℕ) (text : List ℕ) → b ≢ m → Marked m text → Marked m (b ∷ text)
marked-more m b text other marked = record {
  front = b ∷ marked.front;
  behind = marked.behind;
  split = record { plain = (other, marked.split.plain); text_is = ap (λ (t : List ℕ). b ∷ t) marked.split.text_is };
}

pub marked_or_not : (m : ℕ) (text : List ℕ) → AllByRecursion (λ b. b ≢ m) text ⊎ Marked m text
marked_or_not m [] = inl tt
marked_or_not m (b ∷ text) = elim (eqb_tells b m) [
  | inl p ↦ inr (record { front = []; behind = text; split = record { plain = tt; text_is = ap (λ (c : ℕ). c ∷ text) p.1 } })
  | inr p ↦ elim (marked_or_not m text) [
    | inl none ↦ inl (p.1, none)
    | inr marked ↦ inr (marked-more m b text p.1 marked)
  ]
]

pub position-None : (m : ℕ) (text : List ℕ) → position (λ b. b == m) text ≡ None → AllByRecursion (λ b. b ≢ m) text
position-None m text none = elim (marked_or_not m text) [
  | inl plain ↦ plain
  | inr marked ↦ absurd (not-both (length marked.front) (sym none ∙ ap (position (λ b. b == m)) marked.split.text_is ∙ position-marked m marked.front marked.behind marked.split.plain))
]
  where
    not-both : (k : ℕ) → None ≡ Some k → ⊥
    not-both k e = cc

split-marked : (m place : ℕ) (text front behind : List ℕ) → position (λ b. b == m) text ≡ Some place → front ≡ take place text → behind ≡ drop (place + 1) text → Marked m text
    → Split m text front behind
split-marked m place text front behind at front_is behind_is marked =
    let found = ap (position (λ b. b == m)) marked.split.text_is ∙ position-marked m marked.front marked.behind marked.split.plain in
    let here : place ≡ length marked.front = cc in
    let next : place + 1 ≡ suc (length marked.front) = omega arith in
    let first : front ≡ marked.front = front_is ∙ rw (here, marked.split.text_is) (take-append_seam marked.front (m ∷ marked.behind)) in
    let second : behind ≡ marked.behind = behind_is ∙ rw (next, marked.split.text_is) (drop-one-more marked.front marked.behind) in
    rw (first, second) marked.split
  where
    drop-one-more : (xs ys : List ℕ) → drop (suc (length xs)) (xs ++ (m ∷ ys)) ≡ ys
    drop-one-more [] ys = refl
    drop-one-more (x ∷ xs) ys = drop-one-more xs ys

pub split : (m place : ℕ) (text front behind : List ℕ) → position (λ b. b == m) text ≡ Some place → front ≡ take place text → behind ≡ drop (place + 1) text → Split m text front behind
split m place text front behind at front_is behind_is = elim (marked_or_not m text) [
  | inl plain ↦ absurd (not-both place (sym (position-unmarked m text plain) ∙ at))
  | inr marked ↦ split-marked m place text front behind at front_is behind_is marked
]
  where
    not-both : (k : ℕ) → None ≡ Some k → ⊥
    not-both k e = cc
