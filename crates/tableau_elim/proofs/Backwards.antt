-- What the lines of a tableau say is what the given lines say: pivots can be taken back.
use Rattle.std.proofs.Common.{◌≡◌, ℕ, zero, suc, ◌<◌, refl, sym, ◌∙◌, ap, subst, arith, List, [], ◌∷◌, map, length, get_or, Bool, true, false, Option, Some, None, ◌⊎◌, inl, inr}
use Rattle.std.specs.Prelude.{ℤ, pos, negsuc, neg_ℤ, ◌*ℤ◌, ◌<ℤ◌, ◌≢◌, ◌==◌, slice_set, unsigned_abs}
use Rattle.std.specs.Int.{int_signum}
use Rattle.std.specs.List.{AllByRecursion}
use Rattle.std.specs.Option.{option_map}
use Rattle.std.proofs.lemmas.Bool.{eqb-true, eq-eqb, ne_eqb}
use Rattle.std.proofs.lemmas.Int.{ints}
use Rattle.lin_rows.specs.Row.{Row, product_of, multiple_of}
use Rattle.lin_rows.specs.System.{System}
use Rattle.lin_rows.proofs.Integers.{mul_assoc_ℤ, mul_comm_ℤ, mul-zero_ℤ, zero-mul_ℤ, one-mul_ℤ}
use Rattle.lin_rows.proofs.Lists.{AllByRecursion-at}
use Rattle.farkas_cert.specs.Divided.{divided_numbers}
use Rattle.farkas_cert.specs.Line.{combination}
use Rattle.farkas_cert.specs.Elimination.{every}
use Rattle.farkas_cert.proofs.Integers.{linear, eq_of_mul_right_ℤ}
use Rattle.farkas_cert.proofs.Linear.{product-linear, from_divided_vanishes}
use Rattle.farkas_cert.proofs.Lists.{all_both, all_from}
use Rattle.tableau_elim.specs.Tableau.{Line, Tableau, Pivot, are_same, number_at, given_tableau, given_lines, pivot_at, solved_line, combined_line, line_after_pivot, pivoted_tableau}
use Rattle.tableau_elim.specs.declared.variable.Variable.{Variable}
use Rattle.tableau_elim.specs.declared.variable.Variable.TheVariants.{Column, Slack}
use Rattle.tableau_elim.proofs.Changed.{by_change, substituted_is}
use Rattle.tableau_elim.proofs.Identities.{Values, Holds, defect, weighed, places_after, moved_numbers, other_defect, own_defect, same_defect, sign_twice}
use Rattle.tableau_elim.proofs.Kept.{Apart, NotAmong, Distinct, IsKeptLine, IsKept, apart_turned, pivoted_parts}

-- ---- lists of what may be there

-- the first is there, and the rest
pub every_parts : {X Y : Type 0} (f : X → Option Y) (x : X) (xs : List X) (ys : List Y) → every (map f (x ∷ xs)) ≡ Some ys
    → (y : Y) × (rest : List Y) × (f x ≡ Some y) × (every (map f xs) ≡ Some rest) × (ys ≡ y ∷ rest)
unfolding every
every_parts {X} {Y} f x xs ys e = at (f x) refl e where
  later : (y : Y) (o : Option (List Y)) → option_map (λ zs. y ∷ zs) o ≡ Some ys → (rest : List Y) × (o ≡ Some rest) × (ys ≡ y ∷ rest)
  later y None e = absurd cc
  later y (Some rest) e = (rest, refl, cc)

  at : (o : Option Y) → f x ≡ o → every (o ∷ map f xs) ≡ Some ys → (y : Y) × (rest : List Y) × (f x ≡ Some y) × (every (map f xs) ≡ Some rest) × (ys ≡ y ∷ rest)
  at None is e = absurd cc
  at (Some y) is e = let more = later y (every (map f xs)) e in (y, more.0, is, more.1, more.2)

-- From what holds of what was made, and of the elements, to what holds of the elements.
pub every_back : {X Y : Type 0} (P R : X → Type 0) (Q : Y → Type 0) (f : X → Option Y) (xs : List X) (ys : List Y) → ((x : X) (y : Y) → R x → f x ≡ Some y → Q y → P x)
    → every (map f xs) ≡ Some ys → AllByRecursion R xs → AllByRecursion Q ys → AllByRecursion P xs
every_back P R Q f [] ys g e r q = tt
every_back {X} {Y} P R Q f (x ∷ xs) ys g e r q =
    let parts = every_parts f x xs ys e in
    let all : AllByRecursion Q (parts.0 ∷ parts.1) = subst (λ (zs : List Y). AllByRecursion Q zs) parts.4 q in
    (g x parts.0 r.0 parts.2 all.0, every_back P R Q f xs parts.1 g parts.3 r.1 all.1)

-- an element of a list
abbrev pub Among : {X : Type 0} → X → List X → Type 0
Among x [] = ⊥
Among x (y ∷ ys) = (y ≡ x) ⊎ Among x ys

pub all_among : {X : Type 0} (xs : List X) → AllByRecursion (λ x. Among x xs) xs
all_among [] = tt
all_among {X} (x ∷ xs) = (inl refl, all_from (λ (y : X). Among y xs) (λ y. Among y (x ∷ xs)) xs (λ y h. inr h) (all_among xs))

pub among_has : {X : Type 0} (P : X → Type 0) (x : X) (xs : List X) → Among x xs → AllByRecursion P xs → P x
among_has P x [] a h = absurd a
among_has P x (y ∷ ys) a h = elim a [ inl e ↦ subst P e h.0 | inr b ↦ among_has P x ys b h.1 ]

-- what was made of an element
made_has : {X Y : Type 0} (P : Y → Type 0) (f : X → Option Y) (x : X) (y : Y) (xs : List X) (ys : List Y) → Among x xs → f x ≡ Some y → every (map f xs) ≡ Some ys
    → AllByRecursion P ys → P y
made_has P f x y [] ys a e m h = absurd a
made_has {X} {Y} P f x y (z ∷ xs) ys a e m h =
    let parts = every_parts f z xs ys m in
    let all : AllByRecursion P (parts.0 ∷ parts.1) = subst (λ (zs : List Y). AllByRecursion P zs) parts.4 h in
    elim a [
      | inl same ↦ let is : parts.0 ≡ y = cc in subst P is all.0
      | inr b ↦ made_has P f x y xs parts.1 b e parts.3 all.1
    ]

-- ---- basics that stand once

pub same_self : (x : Variable) → are_same x x ≡ true
same_self (Column c) = eq-eqb c c refl
same_self (Slack s) = eq-eqb s.row s.row refl

pub apart_along : (x a b : Variable) → are_same a b ≡ true → Apart x a → Apart x b
apart_along (Column c) (Column d) (Column e) s h = let same = eqb-true d e s in subst (λ (k : ℕ). (c == k) ≡ false) same h
apart_along (Column c) (Slack p) (Slack q) s h = refl
apart_along (Slack p) (Column d) (Column e) s h = refl
apart_along (Slack p) (Slack q) (Slack r) s h = let same = eqb-true q.row r.row s in subst (λ (k : ℕ). (p.row == k) ≡ false) same h
apart_along x (Column d) (Slack q) s h = absurd cc
apart_along x (Slack p) (Column e) s h = absurd cc

abbrev pub basics_of : List Line → List Variable
basics_of lines = map (λ line. line.basic) lines

not_both : (b : Bool) → b ≡ true → b ≡ false → ⊥
not_both true p q = cc
not_both false p q = cc

-- a line whose basic is that of another is that line
only_one : (lines : List Line) (own : Line) → Among own lines → Distinct (basics_of lines) → AllByRecursion (λ line. are_same line.basic own.basic ≡ true → line ≡ own) lines
only_one [] own a d = tt
only_one (line ∷ lines) own a d = elim a [
  | inl same ↦ ((λ s. same), later line lines own same d.0)
  | inr b ↦ (
    (λ s. absurd (not_both (are_same line.basic own.basic) s (apart_own lines line own b d.0))),
    only_one lines own b d.1,
  )
] where
  later : (line : Line) (lines : List Line) (own : Line) → line ≡ own → NotAmong line.basic (basics_of lines) → AllByRecursion (λ line. are_same line.basic own.basic ≡ true → line ≡ own) lines
  later line [] own e n = tt
  later line (other ∷ lines) own e n =
      let far : Apart other.basic own.basic = subst (λ (l : Line). Apart other.basic l.basic) e (apart_turned line.basic other.basic n.0) in
      ((λ s. absurd (not_both (are_same other.basic own.basic) s far)), later line lines own e n.1)

  apart_own : (lines : List Line) (line own : Line) → Among own lines → NotAmong line.basic (basics_of lines) → Apart line.basic own.basic
  apart_own [] line own a n = absurd a
  apart_own (other ∷ lines) line own a n = elim a [
    | inl e ↦ subst (λ (l : Line). Apart line.basic l.basic) e n.0
    | inr b ↦ apart_own lines line own b n.1
  ]

-- ---- a pivot keeps the basics apart

-- x stays apart from the new basic of a line, where it is apart from the old one or the entering variable
basic_apart : (x : Variable) (pivot : Pivot) (line new : Line) → line_after_pivot pivot line ≡ Some new → (are_same line.basic pivot.leaving ≡ true → Apart x pivot.entering)
    → (are_same line.basic pivot.leaving ≡ false → Apart x line.basic) → Apart x new.basic
unfolding solved_line
basic_apart x pivot line new e f g =
    by_change (λ made. Apart x made.basic) pivot line new e f
    (λ s t m. subst (λ (made : Line). Apart x made.basic) (substituted_is pivot line new m).1 (g s)) (λ s t. g s)

all_apart : (x : Variable) (pivot : Pivot) (lines made : List Line) → every (map (line_after_pivot pivot) lines) ≡ Some made
    → AllByRecursion (λ line. (are_same line.basic pivot.leaving ≡ true → Apart x pivot.entering) × (are_same line.basic pivot.leaving ≡ false → Apart x line.basic)) lines
    → NotAmong x (basics_of made)
unfolding every
all_apart x pivot [] made e h = let same : [] ≡ made = cc in rw (← same) tt
all_apart x pivot (line ∷ lines) made e h =
    let parts = every_parts (line_after_pivot pivot) line lines made e in
    let rest = all_apart x pivot lines parts.1 parts.3 h.1 in
    rw parts.4 (basic_apart x pivot line parts.0 parts.2 h.0.0 h.0.1, rest)

-- what an entering variable is apart from
entering_apart : (lines : List Line) (places : List Variable) (j : ℕ) → j < length places → AllByRecursion (λ line. NotAmong line.basic places) lines
    → AllByRecursion (λ line. Apart line.basic (get_or places j (Column 0))) lines
entering_apart [] places j h k = tt
entering_apart (line ∷ lines) places j h k = (AllByRecursion-at (Apart line.basic) places j (Column 0) k.0 h, entering_apart lines places j h k.1)

pub distinct_after : (pivot : Pivot) (lines made : List Line) → every (map (line_after_pivot pivot) lines) ≡ Some made → Distinct (basics_of lines)
    → AllByRecursion (λ line. Apart line.basic pivot.entering) lines → Distinct (basics_of made)
unfolding every solved_line
distinct_after pivot [] made e d k = let same : [] ≡ made = cc in rw (← same) tt
distinct_after pivot (line ∷ lines) made e d k =
    let parts = every_parts (line_after_pivot pivot) line lines made e in
    let rest = distinct_after pivot lines parts.1 parts.3 d.1 k.1 in
    let here = by_change (λ new. NotAmong new.basic (basics_of parts.1)) pivot line parts.0 parts.2
    (λ s. all_apart pivot.entering pivot lines parts.1 parts.3 (entered line lines s d.0 k.1))
    (λ s t m. subst (λ (new : Line). NotAmong new.basic (basics_of parts.1)) (substituted_is pivot line parts.0 m).1 (all_apart line.basic pivot lines parts.1 parts.3 (stays line.basic lines k.0 d.0)))
    (λ s t. all_apart line.basic pivot lines parts.1 parts.3 (stays line.basic lines k.0 d.0)) in
    rw parts.4 (here, rest)
  where
    entered : (line : Line) (lines : List Line) → are_same line.basic pivot.leaving ≡ true → NotAmong line.basic (basics_of lines)
        → AllByRecursion (λ line. Apart line.basic pivot.entering) lines
        → AllByRecursion (λ other. (are_same other.basic pivot.leaving ≡ true → Apart pivot.entering pivot.entering) × (are_same other.basic pivot.leaving ≡ false → Apart pivot.entering other.basic)) lines
    entered line [] s n k = tt
    entered line (other ∷ lines) s n k =
        let far = apart_along other.basic line.basic pivot.leaving s (apart_turned line.basic other.basic n.0) in
        (((λ t. absurd (not_both (are_same other.basic pivot.leaving) t far)), (λ t. apart_turned other.basic pivot.entering k.0)), entered line lines s n.1 k.1)

    stays : (x : Variable) (lines : List Line) → Apart x pivot.entering → NotAmong x (basics_of lines)
        → AllByRecursion (λ other. (are_same other.basic pivot.leaving ≡ true → Apart x pivot.entering) × (are_same other.basic pivot.leaving ≡ false → Apart x other.basic)) lines
    stays x [] a n = tt
    stays x (other ∷ lines) a n = (((λ t. a), (λ t. n.0)), stays x lines a n.1)

-- ---- a pivot is taken back

unsigned_zero : (s x : ℤ) → s *ℤ s ≡ pos 1 → neg_ℤ (s *ℤ x) ≡ pos 0 → x ≡ pos 0
unsigned_zero s x e h =
    let none : s *ℤ x ≡ pos 0 = omega (arith, linear) in
    sym (one-mul_ℤ x) ∙ ap (λ t. t *ℤ x) (sym e) ∙ mul_assoc_ℤ s s x ∙ ap (λ t. s *ℤ t) none ∙ mul-zero_ℤ s

pub own_back : (v : Values) (tableau : Tableau) (j : ℕ) (own : Line) → j < length tableau.places → number_at j own ≢ pos 0 → length own.numbers ≡ suc (length tableau.places)
    → Holds v (places_after j own tableau.places) (solved_line (pivot_at j own tableau)) → Holds v tableau.places own
unfolding solved_line pivot_at
own_back v tableau j own h p w e =
    let n = number_at j own in
    let numbers = slice_set (multiple_of (neg_ℤ (int_signum n)) (moved_numbers j own)) 0 (pos (unsigned_abs n)) in
    let ws = weighed v (places_after j own tableau.places) (get_or tableau.places j (Column 0)) in
    unsigned_zero (int_signum n) (defect v tableau.places own) (sign_twice n p)
    (sym (own_defect v tableau.places j own h w) ∙ from_divided_vanishes (λ xs. product_of xs ws) (product-linear ws) numbers e)

abs_positive : (p : ℤ) → p ≢ pos 0 → pos 0 <ℤ pos (unsigned_abs p)
abs_positive (pos zero) h = absurd (h refl)
abs_positive (pos (suc n)) h = omega (arith, ints)
abs_positive (negsuc n) h = omega (arith, ints)

substituted_back : (v : Values) (tableau : Tableau) (j : ℕ) (own line new : Line) → j < length tableau.places → number_at j own ≢ pos 0 → length own.numbers ≡ suc (length tableau.places)
    → length line.numbers ≡ suc (length tableau.places) → Holds v tableau.places own → combined_line (pivot_at j own tableau) line ≡ Some new
    → Holds v (places_after j own tableau.places) new → Holds v tableau.places line
unfolding pivot_at
substituted_back v tableau j own line new h p wo wl eo m e =
    let n = number_at j own in
    let u = number_at j line in
    let a = pos (unsigned_abs n) in
    let b = neg_ℤ (int_signum n) *ℤ u in
    let rest = slice_set line.numbers (suc j) (pos 0) in
    let ws = weighed v (places_after j own tableau.places) line.basic in
    let made : Line = record { basic = line.basic; numbers = divided_numbers (combination a rest b (moved_numbers j own)) } in
    let zero_made : Holds v (places_after j own tableau.places) made = subst (λ (l : Line). Holds v (places_after j own tableau.places) l) (sym (substituted_is (pivot_at j own tableau) line new m).1) e in
    let none = from_divided_vanishes (λ xs. product_of xs ws) (product-linear ws) (combination a rest b (moved_numbers j own)) zero_made in
    let all = sym (other_defect v tableau.places j own line h wo wl) ∙ none in
    let own_none = ap (λ t. (int_signum n *ℤ u) *ℤ t) eo ∙ mul-zero_ℤ (int_signum n *ℤ u) in
    let product : defect v tableau.places line *ℤ a ≡ pos 0 *ℤ a = mul_comm_ℤ (defect v tableau.places line) a ∙ omega (arith, linear, zero-mul_ℤ a) in
    eq_of_mul_right_ℤ (defect v tableau.places line) (pos 0) a (abs_positive n p) product

changed_back : (v : Values) (tableau : Tableau) (j : ℕ) (own line new : Line) → j < length tableau.places → number_at j own ≢ pos 0 → length own.numbers ≡ suc (length tableau.places)
    → length line.numbers ≡ suc (length tableau.places) → (are_same line.basic own.basic ≡ true → line ≡ own) → Holds v tableau.places own → line_after_pivot (pivot_at j own tableau) line ≡ Some new
    → Holds v (places_after j own tableau.places) new → Holds v tableau.places line
unfolding pivot_at
changed_back v tableau j own line new h p wo wl one eo m =
    by_change (λ made. Holds v (places_after j own tableau.places) made → Holds v tableau.places line) (pivot_at j own tableau) line new m
    (λ s e. subst (λ (l : Line). Holds v tableau.places l) (sym (one s)) eo)
    (λ s t q e. substituted_back v tableau j own line new h p wo wl eo q e)
    (λ s t e. sym (same_defect v tableau.places j own line h t) ∙ e)

solved_is : (j : ℕ) (own : Line) (tableau : Tableau) → line_after_pivot (pivot_at j own tableau) own ≡ Some (solved_line (pivot_at j own tableau))
unfolding line_after_pivot pivot_at
solved_is j own tableau = rw (same_self own.basic) refl

pub pivot_back : (v : Values) (system : System) (tableau next : Tableau) (j : ℕ) (own : Line) → j < length tableau.places → number_at j own ≢ pos 0 → IsKept system tableau
    → Distinct (basics_of tableau.lines) → Among own tableau.lines → pivoted_tableau (pivot_at j own tableau) tableau ≡ Some next
    → AllByRecursion (Holds v next.places) next.lines → AllByRecursion (Holds v tableau.places) tableau.lines
pivot_back v system tableau next j own h p k d a e all =
    let is = pivoted_parts j own tableau next e in
    let places = is.1.1 in
    let made : AllByRecursion (Holds v (places_after j own tableau.places)) next.lines = subst (λ (ps : List Variable). AllByRecursion (Holds v ps) next.lines) places all in
    let ko = among_has (IsKeptLine system tableau.places) own tableau.lines a k.lines in
    let eo = own_back v tableau j own h p ko.wide (made_has (Holds v (places_after j own tableau.places)) (line_after_pivot (pivot_at j own tableau)) own (solved_line (pivot_at j own tableau)) tableau.lines next.lines a (solved_is j own tableau) is.1.0 made) in
    every_back (Holds v tableau.places) (λ line. IsKeptLine system tableau.places line × (are_same line.basic own.basic ≡ true → line ≡ own)) (Holds v (places_after j own tableau.places)) (line_after_pivot (pivot_at j own tableau)) tableau.lines next.lines
    (λ line new both m q. changed_back v tableau j own line new h p ko.wide both.0.wide both.1 eo m q)
    is.1.0 (all_both (IsKeptLine system tableau.places) (λ line. are_same line.basic own.basic ≡ true → line ≡ own) tableau.lines k.lines (only_one tableau.lines own a d)) made

-- ---- what is kept besides

pub record IsBack (system : System) (tableau : Tableau) : Type 0 where
  pub distinct : Distinct (basics_of tableau.lines)
  pub says : (v : Values) → AllByRecursion (Holds v tableau.places) tableau.lines → AllByRecursion (Holds v (given_tableau system).places) (given_tableau system).lines

pub back_by_pivot : (system : System) (tableau next : Tableau) (j : ℕ) (own : Line) → j < length tableau.places → number_at j own ≢ pos 0 → IsKept system tableau → IsBack system tableau
    → Among own tableau.lines → pivoted_tableau (pivot_at j own tableau) tableau ≡ Some next → IsBack system next
unfolding pivot_at
back_by_pivot system tableau next j own h p k b a e =
    let is = pivoted_parts j own tableau next e in
    record {
      distinct = distinct_after (pivot_at j own tableau) tableau.lines next.lines is.1.0 b.distinct
          (entering_apart tableau.lines tableau.places j h (all_from (IsKeptLine system tableau.places) (λ line. NotAmong line.basic tableau.places) tableau.lines (λ line kl. kl.apart) k.lines));
      says = λ v all. b.says v (pivot_back v system tableau next j own h p k b.distinct a e all);
    }

later_apart : (k : ℕ) (equal : Bool) (bound : ℤ) (n : ℕ) (rows : List Row) → k < n → NotAmong (Slack (record { row = k; equal = equal; bound = bound })) (basics_of (given_lines n rows))
unfolding given_lines
later_apart k equal bound n [] h = tt
later_apart k equal bound n (row ∷ rows) h = (ne_eqb k n (λ e. absurd (omega arith)), later_apart k equal bound (suc n) rows (omega arith))

distinct_given : (k : ℕ) (rows : List Row) → Distinct (basics_of (given_lines k rows))
unfolding given_lines
distinct_given k [] = tt
distinct_given k (row ∷ rows) = (later_apart k row.equal row.bound (suc k) rows (omega arith), distinct_given (suc k) rows)

pub back_given : (system : System) → IsBack system (given_tableau system)
back_given system = record { distinct = distinct_given 0 system.rows; says = λ v h. h }
