-- The front of a chain of operands: the first one, and so many of those behind marks.
use Rattle.std.proofs.Common.{◌≡◌, ℕ, ◌+◌, ◌<◌, ◌≤◌, List, [], ◌∷◌, ◌++◌, map, take, length, get_or, refl, ap, sym, ◌∙◌, arith}
use Rattle.std.proofs.Math.Seq.{take-length}
use Rattle.std.proofs.lemmas.List.{take_more, map-append}
use Rattle.c_tree.specs.Plain as plain
use Rattle.c_tree.specs.Seen.{left_to_right}

abbrev pub front : {M A : Type 0} → (M → plain.Expr → plain.Expr → plain.Expr) → (A → plain.Expr) → plain.Expr → List (M × A) → ℕ → plain.Expr
front mark f first more i = left_to_right mark first (map (λ m. (m.0, f m.1)) (take i more))

-- A chain behind marks goes on where its front ends.
pub left_to_right-append : {M : Type 0} → (mark : M → plain.Expr → plain.Expr → plain.Expr) (first : plain.Expr) (xs ys : List (M × plain.Expr)) →
    left_to_right mark first (xs ++ ys) ≡ left_to_right mark (left_to_right mark first xs) ys
left_to_right-append mark first [] ys = refl
left_to_right-append mark first (x ∷ xs) ys = left_to_right-append mark (mark x.0 first x.1) xs ys

-- The front of all is the whole.
pub front-all : {M A : Type 0} → (mark : M → plain.Expr → plain.Expr → plain.Expr) (f : A → plain.Expr) (first : plain.Expr) (more : List (M × A)) →
    front mark f first more (length more) ≡ left_to_right mark first (map (λ m. (m.0, f m.1)) more)
front-all mark f first more = ap (λ xs. left_to_right mark first (map (λ m. (m.0, f m.1)) xs)) (take-length more)

pub front-end : {M A : Type 0} → (mark : M → plain.Expr → plain.Expr → plain.Expr) (f : A → plain.Expr) (first : plain.Expr) (more all : List (M × A)) (i : ℕ) (whole : plain.Expr) →
    length more ≤ i → i ≤ length more → more ≡ all → whole ≡ left_to_right mark first (map (λ m. (m.0, f m.1)) all) → front mark f first more i ≡ whole
front-end mark f first more all i whole low high same whole-is =
    let end : i ≡ length more = omega arith in
    ap (front mark f first more) end ∙ front-all mark f first more ∙ ap (λ xs. left_to_right mark first (map (λ m. (m.0, f m.1)) xs)) same ∙ sym whole-is

-- The next front has one more mark and operand.
pub front-next : {M A : Type 0} → (mark : M → plain.Expr → plain.Expr → plain.Expr) (f : A → plain.Expr) (first : plain.Expr) (more : List (M × A)) (i : ℕ) (m : M × A) →
    i < length more → get_or more i m ≡ m → front mark f first more (i + 1) ≡ mark m.0 (front mark f first more i) (f m.1)
front-next {M = M} {A = A} mark f first more i m within at =
    ap (λ xs. left_to_right mark first (map behind xs)) (take_more more i m within ∙ ap (λ x. take i more ++ x ∷ []) at)
    ∙ ap (left_to_right mark first) (map-append behind (take i more) (m ∷ []))
    ∙ left_to_right-append mark first (map behind (take i more)) (behind m ∷ [])
  where
    behind : M × A → M × plain.Expr
    behind x = (x.0, f x.1)
