-- Each point of a step's system is the values of its variables, where these are apart and kept columns have one.
use Rattle.std.proofs.Common.{◌≡◌, ℕ, zero, suc, ◌+◌, ◌<◌, List, [], ◌∷◌, ◌++◌, map, length, take, drop, get_or, Bool, true, false, ℤ, pos, neg_ℤ, ◌+ℤ◌, ◌*ℤ◌, Some, refl, sym, ◌∙◌, ap, ap₂, subst, arith, length-take, length-drop}
use Rattle.std.specs.Prelude.{◌||◌, if◌then◌else◌, slice_get}
use Rattle.std.specs.List.{AllByRecursion, list_any, range_with_len}
use Rattle.std.proofs.lemmas.Int.{ints}
use Rattle.std.proofs.lemmas.List.{take-append-drop}
use Rattle.std.proofs.lemmas.List.FromFn.{length-map-range_with_len}
use Rattle.std.proofs.lemmas.Option.{slice_get_within}
use Rattle.lin_rows.specs.Row.{Row, MeetsOver}
use Rattle.transition_formula.specs.Program.{Program, Thread, Edge}
use Rattle.transition_formula.specs.Rows.{is_kept, kept_row, kept_columns}
use Rattle.transition_formula.proofs.ProductLemmas.{kept_product}
use Rattle.transition_formula.proofs.NextValues.{range-to}
use Rattle.derivation_tree.specs.Variable.{Variable, After, Before, Input, same_variable}
use Rattle.derivation_tree.specs.Nodes.{Moments}
use Rattle.derivation_tree.specs.Sums.{coefficient_at}
use Rattle.derivation_tree.proofs.Values.{same-is, same-refl, AreApart, values-list}
use Rattle.derivation_tree.proofs.Shared.{HasEach}
use Rattle.derivation_tree.proofs.CaseRows.{values}
use Rattle.derivation_tree.proofs.Spread.{IsAt, IsFrom, StandAt, stand-from, columns-apart, AtColumns}

-- ---- values by the variables before and after

abbrev pub assigned_by : List Variable → List Variable → List ℤ → List ℤ → (Variable → ℤ) → Variable → ℤ
assigned_by [] cs ps qs rest w = rest w
assigned_by (b ∷ bs) [] ps qs rest w = rest w
assigned_by (b ∷ bs) (a ∷ cs) [] qs rest w = rest w
assigned_by (b ∷ bs) (a ∷ cs) (p ∷ ps) [] rest w = rest w
assigned_by (b ∷ bs) (a ∷ cs) (p ∷ ps) (q ∷ qs) rest w = if same_variable b w then p else if same_variable a w then q else assigned_by bs cs ps qs rest w

-- variables of later columns
skip : (k : ℕ) (b a : Variable) (bs cs : List Variable) (p q : ℤ) (ps qs : List ℤ) (rest : Variable → ℤ) (ws : List Variable) → IsAt k b → IsAt k a → AllByRecursion (IsFrom (suc k)) ws
    → map (assigned_by (b ∷ bs) (a ∷ cs) (p ∷ ps) (q ∷ qs) rest) ws ≡ map (assigned_by bs cs ps qs rest) ws
skip k b a bs cs p q ps qs rest [] hb ha all = refl
skip k b a bs cs p q ps qs rest (w ∷ ws) hb ha all =
    ap₂ (λ (x : ℤ) l. x ∷ l)
    (ap₂ (λ (x y : Bool). if x then p else if y then q else assigned_by bs cs ps qs rest w) (columns-apart k b w hb all.0) (columns-apart k a w ha all.0))
    (skip k b a bs cs p q ps qs rest ws hb ha all.1)

-- the numbers are alike where the variables are one
abbrev pub AreAlike : List Variable → List Variable → List ℤ → List ℤ → Type 0
AreAlike [] cs ps qs = Unit {0}
AreAlike (b ∷ bs) [] ps qs = Unit {0}
AreAlike (b ∷ bs) (a ∷ cs) [] qs = Unit {0}
AreAlike (b ∷ bs) (a ∷ cs) (p ∷ ps) [] = Unit {0}
AreAlike (b ∷ bs) (a ∷ cs) (p ∷ ps) (q ∷ qs) = (same_variable b a ≡ true → p ≡ q) × AreAlike bs cs ps qs

assigned-before : (k : ℕ) (bs cs : List Variable) (ps qs : List ℤ) (rest : Variable → ℤ) → StandAt k bs → StandAt k cs → length bs ≡ length cs → length ps ≡ length bs → length qs ≡ length bs
    → map (assigned_by bs cs ps qs rest) bs ≡ ps
assigned-before k [] cs [] qs rest hb ha e f g = refl
assigned-before k [] cs (p ∷ ps) qs rest hb ha e f g = absurd (omega arith)
assigned-before k (b ∷ bs) [] ps qs rest hb ha e f g = absurd (omega arith)
assigned-before k (b ∷ bs) (a ∷ cs) [] qs rest hb ha e f g = absurd (omega arith)
assigned-before k (b ∷ bs) (a ∷ cs) (p ∷ ps) [] rest hb ha e f g = absurd (omega arith)
assigned-before k (b ∷ bs) (a ∷ cs) (p ∷ ps) (q ∷ qs) rest hb ha e f g =
    ap₂ (λ (x : ℤ) l. x ∷ l)
    (ap (λ (x : Bool). if x then p else if same_variable a b then q else assigned_by bs cs ps qs rest b) (same-refl b))
    (skip k b a bs cs p q ps qs rest bs hb.0 ha.0 (stand-from (suc k) (suc k) bs (omega arith) hb.1) ∙ assigned-before (suc k) bs cs ps qs rest hb.1 ha.1 (omega arith) (omega arith) (omega arith))

assigned-after : (k : ℕ) (bs cs : List Variable) (ps qs : List ℤ) (rest : Variable → ℤ) → StandAt k bs → StandAt k cs → length bs ≡ length cs → length ps ≡ length bs → length qs ≡ length bs → AreAlike bs cs ps qs
    → map (assigned_by bs cs ps qs rest) cs ≡ qs
assigned-after k [] [] ps [] rest hb ha e f g alike = refl
assigned-after k [] [] ps (q ∷ qs) rest hb ha e f g alike = absurd (omega arith)
assigned-after k [] (a ∷ cs) ps qs rest hb ha e f g alike = absurd (omega arith)
assigned-after k (b ∷ bs) [] ps qs rest hb ha e f g alike = absurd (omega arith)
assigned-after k (b ∷ bs) (a ∷ cs) [] qs rest hb ha e f g alike = absurd (omega arith)
assigned-after k (b ∷ bs) (a ∷ cs) (p ∷ ps) [] rest hb ha e f g alike = absurd (omega arith)
assigned-after k (b ∷ bs) (a ∷ cs) (p ∷ ps) (q ∷ qs) rest hb ha e f g alike =
    ap₂ (λ (x : ℤ) l. x ∷ l) (at (same_variable b a) refl)
    (skip k b a bs cs p q ps qs rest cs hb.0 ha.0 (stand-from (suc k) (suc k) cs (omega arith) ha.1) ∙ assigned-after (suc k) bs cs ps qs rest hb.1 ha.1 (omega arith) (omega arith) (omega arith) alike.1)
  where
    at : (x : Bool) → same_variable b a ≡ x → (if x then p else if same_variable a a then q else assigned_by bs cs ps qs rest a) ≡ q
    at true is = alike.0 is
    at false is = ap (λ (y : Bool). if y then q else assigned_by bs cs ps qs rest a) (same-refl a)

-- inputs are of no column
no-input : (k n j : ℕ) (b : Variable) → IsAt k b → same_variable b (Input n j) ≡ false
no-input k n j (After m c) h = refl
no-input k n j (Before m c) h = refl
no-input k n j (Input m c) h = absurd h

assigned-input : (k n j : ℕ) (bs cs : List Variable) (ps qs : List ℤ) (rest : Variable → ℤ) → StandAt k bs → StandAt k cs → assigned_by bs cs ps qs rest (Input n j) ≡ rest (Input n j)
assigned-input k n j [] cs ps qs rest hb ha = refl
assigned-input k n j (b ∷ bs) [] ps qs rest hb ha = refl
assigned-input k n j (b ∷ bs) (a ∷ cs) [] qs rest hb ha = refl
assigned-input k n j (b ∷ bs) (a ∷ cs) (p ∷ ps) [] rest hb ha = refl
assigned-input k n j (b ∷ bs) (a ∷ cs) (p ∷ ps) (q ∷ qs) rest hb ha =
    ap₂ (λ (x y : Bool). if x then p else if y then q else assigned_by bs cs ps qs rest (Input n j)) (no-input k n j b hb.0) (no-input k n j a ha.0) ∙ assigned-input (suc k) n j bs cs ps qs rest hb.1 ha.1

assigned-inputs : (n : ℕ) (bs cs : List Variable) (ps qs : List ℤ) (rest : Variable → ℤ) (js : List ℕ) → StandAt 0 bs → StandAt 0 cs → map (assigned_by bs cs ps qs rest) (map (Input n) js) ≡ map rest (map (Input n) js)
assigned-inputs n bs cs ps qs rest [] hb ha = refl
assigned-inputs n bs cs ps qs rest (j ∷ js) hb ha = ap₂ (λ (x : ℤ) l. x ∷ l) (assigned-input 0 n j bs cs ps qs rest hb ha) (assigned-inputs n bs cs ps qs rest js hb ha)

-- the inputs of a node differ
input-later : (n k a m : ℕ) → k < a → list_any (same_variable (Input n k)) (map (Input n) (range_with_len a m)) ≡ false
input-later n k a zero h = refl
input-later n k a (suc m) h = ap₂ (λ x y. x || y) (at (same_variable (Input n k) (Input n a)) refl) (input-later n k (a + 1) m (omega arith))
  where
    at : (b : Bool) → same_variable (Input n k) (Input n a) ≡ b → b ≡ false
    at false is = refl
    at true is = let same = same-is (Input n k) (Input n a) is in let number : k ≡ a = cc in absurd (omega arith)

inputs-apart : (n a m : ℕ) → AreApart (map (Input n) (range_with_len a m))
inputs-apart n a zero = tt
inputs-apart n a (suc m) = (input-later n a (a + 1) m (omega arith), inputs-apart n (a + 1) m)

-- ---- points

-- a column that is not kept has two variables
abbrev pub Parts : Thread → Edge → Moments → Type 0
Parts thread edge moments = (c : ℕ) (b a : Variable) → is_kept thread.counter edge c ≡ false → slice_get moments.before c ≡ Some b → slice_get moments.after c ≡ Some a → same_variable b a ≡ false

-- the numbers at a column are alike where its variables are one
alike-from : (bs cs : List Variable) (ps qs : List ℤ) → length bs ≡ length cs → length ps ≡ length bs → length qs ≡ length bs
    → ((c : ℕ) (b a : Variable) → slice_get bs c ≡ Some b → slice_get cs c ≡ Some a → same_variable b a ≡ true → get_or ps c (pos 0) ≡ get_or qs c (pos 0)) → AreAlike bs cs ps qs
alike-from [] cs ps qs e f g h = tt
alike-from (b ∷ bs) [] ps qs e f g h = tt
alike-from (b ∷ bs) (a ∷ cs) [] qs e f g h = tt
alike-from (b ∷ bs) (a ∷ cs) (p ∷ ps) [] e f g h = tt
alike-from (b ∷ bs) (a ∷ cs) (p ∷ ps) (q ∷ qs) e f g h = (h 0 b a refl refl, alike-from bs cs ps qs (omega arith) (omega arith) (omega arith) (λ c x y is there. h (suc c) x y is there))

no_difference : (a b d : ℤ) → a +ℤ neg_ℤ b ≡ pos 0 *ℤ d → b ≡ a
no_difference a b d e = omega (arith, ints)

unmapped : (P : Row → Type 0) (f : ℕ → Row) (xs : List ℕ) → AllByRecursion P (map f xs) → AllByRecursion (λ x. P (f x)) xs
unmapped P f [] all = tt
unmapped P f (x ∷ xs) all = (all.0, unmapped P f xs all.1)

-- the numbers of a column that has one variable
kept-alike : (program : Program) (thread : Thread) (edge : Edge) (m c : ℕ) (moments : Moments) (b a : Variable) (xb xa xi : List ℤ) (d : ℤ) → HasEach program moments → Parts thread edge moments
    → slice_get moments.before c ≡ Some b → slice_get moments.after c ≡ Some a → same_variable b a ≡ true → length xb ≡ length program.columns → length xa ≡ length program.columns
    → AllByRecursion (λ row. MeetsOver row (xb ++ (xa ++ xi)) d) (map (kept_row (length program.columns) m) (kept_columns (length program.columns) thread.counter edge))
    → get_or xb c (pos 0) ≡ get_or xa c (pos 0)
kept-alike program thread edge m c moments b a xb xa xi d each parts is there same lb la kept = at (is_kept thread.counter edge c) refl
  where
    at : (y : Bool) → is_kept thread.counter edge c ≡ y → get_or xb c (pos 0) ≡ get_or xa c (pos 0)
    at false none = let wrong : false ≡ true = sym (parts c b a none is there) ∙ same in cc
    at true pass =
        let within = slice_get_within moments.before c b is in
        let h : c < length program.columns = omega (arith, within, each.before) in
        let row = range-to (λ j. MeetsOver (kept_row (length program.columns) m j) (xb ++ (xa ++ xi)) d) (is_kept thread.counter edge) 0 (length program.columns) c
        (unmapped (λ row. MeetsOver row (xb ++ (xa ++ xi)) d) (kept_row (length program.columns) m) (kept_columns (length program.columns) thread.counter edge) kept) (omega arith) (omega arith) pass in
        no_difference (get_or xa c (pos 0)) (get_or xb c (pos 0)) d (sym (kept_product (length program.columns) m c xb xa xi h lb la) ∙ row)

pub found-values : (program : Program) (thread : Thread) (edge : Edge) (n m : ℕ) (moments : Moments) (x : List ℤ) (d : ℤ) (js : List ℕ) → HasEach program moments → AtColumns moments → Parts thread edge moments
    → js ≡ range_with_len 0 m → length x ≡ length program.columns + (length program.columns + m)
    → AllByRecursion (λ row. MeetsOver row x d) (map (kept_row (length program.columns) m) (kept_columns (length program.columns) thread.counter edge))
    → (v : Variable → ℤ) × (values v moments (map (Input n) js) ≡ x)
found-values program thread edge n m moments x d js each at parts range one kept =
    let k = length program.columns in
    let xb = take k x in
    let rest = drop k x in
    let xa = take k rest in
    let xi = drop k rest in
    let whole : xb ++ (xa ++ xi) ≡ x = ap (λ l. xb ++ l) (take-append-drop k rest) ∙ take-append-drop k x in
    let lb : length xb ≡ k = omega (arith, length-take k x) in
    let lr : length rest ≡ k + m = omega (arith, length-drop k x) in
    let la : length xa ≡ k = omega (arith, length-take k rest) in
    let li : length xi ≡ m = omega (arith, length-drop k rest) in
    let inputs = map (Input n) (range_with_len 0 m) in
    let by_inputs = coefficient_at inputs xi in
    let v = assigned_by moments.before moments.after xb xa by_inputs in
    let parted = subst (λ l. AllByRecursion (λ row. MeetsOver row l d) (map (kept_row k m) (kept_columns k thread.counter edge))) (sym whole) kept in
    let alike = alike-from moments.before moments.after xb xa (each.before ∙ sym each.after) (lb ∙ sym each.before) (la ∙ sym each.before)
    (λ c b a is there same. kept-alike program thread edge m c moments b a xb xa xi d each parts is there same lb la parted) in
    let first = assigned-before 0 moments.before moments.after xb xa by_inputs at.before at.after (each.before ∙ sym each.after) (lb ∙ sym each.before) (la ∙ sym each.before) in
    let second = assigned-after 0 moments.before moments.after xb xa by_inputs at.before at.after (each.before ∙ sym each.after) (lb ∙ sym each.before) (la ∙ sym each.before) alike in
    let third = ap (λ l. map v (map (Input n) l)) range ∙ assigned-inputs n moments.before moments.after xb xa by_inputs (range_with_len 0 m) at.before at.after ∙ values-list inputs xi (inputs-apart n 0 m) (li ∙ sym (length-map-range_with_len (Input n) 0 m)) in
    (v, ap₂ (λ l r. l ++ r) first (ap₂ (λ l r. l ++ r) second third) ∙ whole)
