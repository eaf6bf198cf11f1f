-- Products of the coefficients of a program's rows with points.
use Rattle.std.proofs.Common.{◌≡◌, ℕ, zero, suc, ◌<◌, ◌≤◌, ℤ, pos, negsuc, ◌+ℤ◌, ◌*ℤ◌, neg_ℤ, List, [], ◌∷◌, ◌++◌, map, take, drop, length, get_or, refl, sym, ◌∙◌, ap, ap₂, arith, length-take}
use Rattle.std.proofs.lemmas.Int.{ints}
use Rattle.std.proofs.lemmas.List.{take-append-drop, length-replicate, length-set, length-map}
use Rattle.lin_rows.specs.Row.{product_of}
use Rattle.lin_rows.proofs.Integers.{mul-zero_ℤ, zero-mul_ℤ, one-mul_ℤ, add-nothing_ℤ, nothing-add_ℤ}
use Rattle.lin_rows.proofs.Points.{product_of-neg}
use Rattle.transition_formula.specs.Rows.{zeros, unit}

-- A sum may be grouped to the left.
regroup : (a b c : ℤ) → a +ℤ (b +ℤ c) ≡ (a +ℤ b) +ℤ c
regroup a b c = omega (arith, ints)

-- The product of lists one behind the other is the sum of the products.
pub product_of-append : (xs ys zs ws : List ℤ) → length xs ≡ length zs → product_of (xs ++ ys) (zs ++ ws) ≡ product_of xs zs +ℤ product_of ys ws
product_of-append [] ys [] ws e = omega (arith, ints)
product_of-append [] ys (z ∷ zs) ws e = absurd (omega arith)
product_of-append (x ∷ xs) ys [] ws e = absurd (omega arith)
product_of-append (x ∷ xs) ys (z ∷ zs) ws e =
    ap (λ v. x *ℤ z +ℤ v) (product_of-append xs ys zs ws (omega arith)) ∙ regroup (x *ℤ z) (product_of xs zs) (product_of ys ws)

-- The product of zeros is 0.
pub product_of-zeros : (n : ℕ) (z : List ℤ) → product_of (zeros n) z ≡ pos 0
product_of-zeros zero z = refl
product_of-zeros (suc n) [] = refl
product_of-zeros (suc n) (v ∷ z) = ap₂ ◌+ℤ◌ (zero-mul_ℤ v) (product_of-zeros n z)

-- one coefficient
pub product_of-unit : (n c : ℕ) (k : ℤ) (z : List ℤ) → c < n → product_of (unit n c k) z ≡ k *ℤ get_or z c (pos 0)
product_of-unit zero c k z h = absurd (omega arith)
product_of-unit (suc n) zero k [] h = sym (mul-zero_ℤ k)
product_of-unit (suc n) zero k (v ∷ z) h = add-nothing_ℤ (k *ℤ v) (product_of (zeros n) z) (product_of-zeros n z)
product_of-unit (suc n) (suc c) k [] h = sym (mul-zero_ℤ k)
product_of-unit (suc n) (suc c) k (v ∷ z) h =
    nothing-add_ℤ (pos 0 *ℤ v) (product_of (unit n c k) z) (k *ℤ get_or z c (pos 0)) (zero-mul_ℤ v) (product_of-unit n c k z (omega arith))

-- The product of a 1 among zeros is the number at its place.
pub product_of-one : (n c : ℕ) (z : List ℤ) → c < n → product_of (unit n c (pos 1)) z ≡ get_or z c (pos 0)
product_of-one n c z h = product_of-unit n c (pos 1) z h ∙ one-mul_ℤ (get_or z c (pos 0))

-- A number among zeros has the length of all.
length-unit : (n c : ℕ) (k : ℤ) → length (unit n c k) ≡ n
length-unit n c k = length-set (zeros n) c k ∙ length-replicate n (pos 0)

-- ---- over the columns before, the columns after and the inputs
-- The product over columns before, columns after and inputs is the sum of the three products.
product_of-three : (xs ys zs before after inputs : List ℤ) → length xs ≡ length before → length ys ≡ length after
    → product_of (xs ++ (ys ++ zs)) (before ++ (after ++ inputs)) ≡ product_of xs before +ℤ (product_of ys after +ℤ product_of zs inputs)
product_of-three xs ys zs before after inputs one two =
    product_of-append xs (ys ++ zs) before (after ++ inputs) one ∙ ap (λ v. product_of xs before +ℤ v) (product_of-append ys zs after inputs two)

-- The three products of a kept column make the difference of its values.
kept_difference : (p q r a b : ℤ) → p ≡ negsuc 0 *ℤ a → q ≡ b → r ≡ pos 0 → p +ℤ (q +ℤ r) ≡ b +ℤ neg_ℤ a
kept_difference p q r a b e f g = omega (arith, ints)

-- The product of a kept column's row is the value after less the one before.
pub kept_product : (n m c : ℕ) (before after inputs : List ℤ) → c < n → length before ≡ n → length after ≡ n
    → product_of (unit n c (negsuc 0) ++ (unit n c (pos 1) ++ zeros m)) (before ++ (after ++ inputs)) ≡ get_or after c (pos 0) +ℤ neg_ℤ (get_or before c (pos 0))
kept_product n m c before after inputs h one two =
    product_of-three (unit n c (negsuc 0)) (unit n c (pos 1)) (zeros m) before after inputs (length-unit n c (negsuc 0) ∙ sym one) (length-unit n c (pos 1) ∙ sym two)
    ∙ kept_difference _ _ _ _ _ (product_of-unit n c (negsuc 0) before h) (product_of-one n c after h) (product_of-zeros m inputs)

-- So many first numbers have this length.
length-front : (n : ℕ) (xs : List ℤ) → n ≤ length xs → length (take n xs) ≡ n
length-front n xs h = omega (arith, length-take n xs)

-- The product over columns and inputs is the sum of both products.
parts_product : (n : ℕ) (xs before inputs : List ℤ) → n ≤ length xs → length before ≡ n
    → product_of xs (before ++ inputs) ≡ product_of (take n xs) before +ℤ product_of (drop n xs) inputs
parts_product n xs before inputs h one =
    ap (λ (l : List ℤ). product_of l (before ++ inputs)) (sym (take-append-drop n xs))
    ∙ product_of-append (take n xs) (drop n xs) before inputs (length-front n xs h ∙ sym one)

-- The product of a test over the columns of a step is that over the columns before and the inputs.
pub test_product : (n : ℕ) (xs before after inputs : List ℤ) → n ≤ length xs → length before ≡ n → length after ≡ n
    → product_of (take n xs ++ (zeros n ++ drop n xs)) (before ++ (after ++ inputs)) ≡ product_of xs (before ++ inputs)
test_product n xs before after inputs h one two =
    product_of-three (take n xs) (zeros n) (drop n xs) before after inputs (length-front n xs h ∙ sym one) (length-replicate n (pos 0) ∙ sym two)
    ∙ ap (λ v. product_of (take n xs) before +ℤ v) (nothing-add_ℤ _ _ (product_of (drop n xs) inputs) (product_of-zeros n after) refl)
    ∙ sym (parts_product n xs before inputs h one)

-- The three products of a set make the difference of the value after and the form's.
set_difference : (p q r a b w k : ℤ) → p ≡ neg_ℤ a → q ≡ b → r ≡ neg_ℤ w → k ≡ a +ℤ w → p +ℤ (q +ℤ r) ≡ b +ℤ neg_ℤ k
set_difference p q r a b w k e f g s = omega (arith, ints)

-- The product of a set's row is the value after less the form's products.
pub set_product : (n c : ℕ) (xs before after inputs : List ℤ) → c < n → n ≤ length xs → length before ≡ n → length after ≡ n
    → product_of (map neg_ℤ (take n xs) ++ (unit n c (pos 1) ++ map neg_ℤ (drop n xs))) (before ++ (after ++ inputs))
    ≡ get_or after c (pos 0) +ℤ neg_ℤ (product_of xs (before ++ inputs))
set_product n c xs before after inputs within h one two =
    product_of-three (map neg_ℤ (take n xs)) (unit n c (pos 1)) (map neg_ℤ (drop n xs)) before after inputs
    (length-map (take n xs) neg_ℤ ∙ length-front n xs h ∙ sym one) (length-unit n c (pos 1) ∙ sym two)
    ∙ set_difference _ _ _ _ _ _ _ (product_of-neg (take n xs) before) (product_of-one n c after within) (product_of-neg (drop n xs) inputs) (parts_product n xs before inputs h one)
