-- Texts are cut into lines in one way.
use Rattle.std.proofs.Common.{◌≡◌, ◌≢◌, ℕ, ◌≤◌, List, [], ◌∷◌, ◌++◌, length, refl, sym, ap, ap₂, ◌∙◌, arith, append_assoc, length-append}
use Rattle.std.specs.List.{AllByRecursion}
use Rattle.annotation_form.specs.Lines.{IsLine, lines_text}

-- what stands in front of the first mark, and behind it
pub cut-at_mark : (m : ℕ) (x a y b : List ℕ) → AllByRecursion (λ c. c ≢ m) x → AllByRecursion (λ c. c ≢ m) y → x ++ (m ∷ a) ≡ y ++ (m ∷ b) → (x ≡ y) × (a ≡ b)
cut-at_mark m [] a [] b p q e = (refl, cc)
cut-at_mark m [] a (c ∷ y) b p q e = absurd (q.0 (cc))
cut-at_mark m (c ∷ x) a [] b p q e = absurd (p.0 (cc))
cut-at_mark m (c ∷ x) a (d ∷ y) b p q e =
    let rest = cut-at_mark m x a y b p.1 q.1 (cc) in
    let first : c ≡ d = cc in
    (ap₂ (λ h t. h ∷ t) first rest.0, rest.1)

pub no_mark : (m : ℕ) (x y b : List ℕ) → AllByRecursion (λ c. c ≢ m) x → x ≡ y ++ (m ∷ b) → ⊥
no_mark m [] [] b p e = cc
no_mark m [] (d ∷ y) b p e = cc
no_mark m (c ∷ x) [] b p e = p.0 (cc)
no_mark m (c ∷ x) (d ∷ y) b p e = no_mark m x y b p.1 (cc)

pub lines_text-append : (xs ys : List (List ℕ)) (r : List ℕ) → lines_text (xs ++ ys) ++ r ≡ lines_text xs ++ (lines_text ys ++ r)
lines_text-append [] ys r = refl
lines_text-append (x ∷ xs) ys r =
    append_assoc x (10 ∷ lines_text (xs ++ ys)) r
    ∙ ap (λ (t : List ℕ). x ++ (10 ∷ t)) (lines_text-append xs ys r)
    ∙ sym (append_assoc x (10 ∷ lines_text xs) (lines_text ys ++ r))

-- one line more
pub lines_text-more : (xs : List (List ℕ)) (x r : List ℕ) → lines_text (xs ++ x ∷ []) ++ r ≡ lines_text xs ++ (x ++ (10 ∷ r))
lines_text-more xs x r = lines_text-append xs (x ∷ []) r ∙ ap (λ (t : List ℕ). lines_text xs ++ t) (append_assoc x (10 ∷ []) r)

-- each line has a byte at least
pub length-lines_text : (xs : List (List ℕ)) → length xs ≤ length (lines_text xs)
length-lines_text [] = omega arith
length-lines_text (x ∷ xs) = omega (arith, length-lines_text xs, length-append x (10 ∷ lines_text xs))

-- Lines are followed by others.
pub record Longer (xs ys : List (List ℕ)) (r s : List ℕ) : Type 0 where
  pub more : List (List ℕ)
  pub lines_are : ys ≡ xs ++ more
  pub rest_is : r ≡ lines_text more ++ s

-- of two cuts of a text, the one with more lines goes on as the other does
pub cut-lines : (xs ys : List (List ℕ)) (r s : List ℕ) → AllByRecursion IsLine xs → AllByRecursion IsLine ys → lines_text xs ++ r ≡ lines_text ys ++ s → length xs ≤ length ys
    → Longer xs ys r s
cut-lines [] ys r s p q e h = record { more = ys; lines_are = refl; rest_is = e }
cut-lines (x ∷ xs) [] r s p q e h = absurd (omega arith)
cut-lines (x ∷ xs) (y ∷ ys) r s p q e h =
    let here : x ++ (10 ∷ (lines_text xs ++ r)) ≡ y ++ (10 ∷ (lines_text ys ++ s)) = sym (append_assoc x (10 ∷ lines_text xs) r) ∙ e ∙ append_assoc y (10 ∷ lines_text ys) s in
    let one = cut-at_mark 10 x (lines_text xs ++ r) y (lines_text ys ++ s) p.0 q.0 here in
    let rest = cut-lines xs ys r s p.1 q.1 one.1 (omega arith) in
    record {
      more = rest.more;
      lines_are = ap₂ (λ h t. h ∷ t) (sym one.0) rest.lines_are;
      rest_is = rest.rest_is;
    }

-- a rest with no line feed is behind all lines
pub cut-open : (xs ys : List (List ℕ)) (r s : List ℕ) → AllByRecursion IsLine xs → AllByRecursion IsLine ys → IsLine r → lines_text xs ++ r ≡ lines_text ys ++ s → length ys ≤ length xs
cut-open xs [] r s p q is e = omega arith
cut-open [] (y ∷ ys) r s p q is e = absurd (no_mark 10 r y (lines_text ys ++ s) is (e ∙ append_assoc y (10 ∷ lines_text ys) s))
cut-open (x ∷ xs) (y ∷ ys) r s p q is e =
    let here : x ++ (10 ∷ (lines_text xs ++ r)) ≡ y ++ (10 ∷ (lines_text ys ++ s)) = sym (append_assoc x (10 ∷ lines_text xs) r) ∙ e ∙ append_assoc y (10 ∷ lines_text ys) s in
    let one = cut-at_mark 10 x (lines_text xs ++ r) y (lines_text ys ++ s) p.0 q.0 here in
    let rest = cut-open xs ys r s p.1 q.1 is one.1 in
    omega (arith, rest)
