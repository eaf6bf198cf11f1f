-- A pivot of the tableau that a program holds.
use Rattle.std.proofs.Common.{◌≡◌, ℕ, suc, ◌*◌, ◌<◌, refl, sym, ◌∙◌, ap, arith, List, [], ◌∷◌, map, length, get_or, Some, None}
use Rattle.std.specs.Prelude.{ℤ, pos, slice_set}
use Rattle.std.specs.List.{AllByRecursion}
use Rattle.std.proofs.Math.ListN.{length-set}
use Rattle.farkas_cert.specs.Elimination.{every}
use Rattle.farkas_cert.proofs.Lists.{all_from}
use Rattle.thr_base.specs.Number.{Fits}
use Rattle.lin_rows.proofs.Lists.{AllByRecursion-at}
use Rattle.tableau_elim.specs.Tableau.{Line, Tableau, Pivot, divisor_of, pivot_at, line_after_pivot, pivoted_tableau}
use Rattle.tableau_elim.specs.declared.variable.Variable.{Variable}
use Rattle.tableau_elim.specs.declared.tableau.Tableau.{Tableau as HeldTableau}
use Rattle.tableau_elim.specs.inside.Held.{tableau_of}
use Rattle.tableau_elim.specs.inside.Lines.{lines_of, tableau_by, IsHeld, IsSound, IsPivot}
use Rattle.tableau_elim.proofs.Soundness.{all_changed_sound, all_wide}

pub pivot_same : (place : ℕ) (basic : Variable) (numbers : List ℤ) (places : List Variable) (line : Line) (tableau : Tableau)
    → basic ≡ line.basic → numbers ≡ line.numbers → places ≡ tableau.places
    → pivot_at place (record { basic = basic; numbers = numbers }) (record { lines = []; places = places }) ≡ pivot_at place line tableau
unfolding pivot_at
pivot_same place basic numbers places line tableau e f g = rw (e, f, g) refl

pub pivot_place : (place : ℕ) (line : Line) (tableau : Tableau) → (pivot_at place line tableau).place ≡ place
unfolding pivot_at
pivot_place place line tableau = refl

pub front_zero : (xs : List ℤ) (y : ℤ) → get_or (slice_set xs 0 y) 0 y ≡ y
front_zero [] y = refl
front_zero (x ∷ xs) y = refl

-- where a line does not fit, the pivot is not made
pub pivoted_by_none : (held : HeldTableau) (pivot other : Pivot) (w : ℕ) (basics : List Variable) (numbers : List ℤ) → pivot ≡ other
    → w ≡ suc (length held.places.items) → basics ≡ held.basics.items → numbers ≡ held.numbers.items
    → every (map (line_after_pivot pivot) (lines_of w basics numbers)) ≡ None → None ≡ pivoted_tableau other (tableau_of held)
unfolding pivoted_tableau
pivoted_by_none held pivot other w basics numbers e f g h none =
    let all : every (map (line_after_pivot other) (tableau_of held).lines) ≡ None = rw (← e, ← f, ← g, ← h) none in
    rw all refl

-- where all lines fit, the tableau is that of the changed parts
pub pivoted_by_some : (held : HeldTableau) (pivot other : Pivot) (w : ℕ) (basics more made_basics made_places : List Variable) (numbers next made_numbers : List ℤ) → pivot ≡ other
    → w ≡ suc (length held.places.items) → basics ≡ held.basics.items → numbers ≡ held.numbers.items
    → every (map (line_after_pivot pivot) (lines_of w basics numbers)) ≡ Some (lines_of w more next)
    → made_basics ≡ more → made_numbers ≡ next → made_places ≡ slice_set held.places.items pivot.place pivot.leaving
    → Some (tableau_by made_basics made_numbers made_places) ≡ pivoted_tableau other (tableau_of held)
unfolding pivoted_tableau
pivoted_by_some held pivot other w basics more made_basics made_places numbers next made_numbers e f g h some b n p =
    let all : every (map (line_after_pivot other) (tableau_of held).lines) ≡ Some (lines_of w more next) = rw (← e, ← f, ← g, ← h) some in
    let places : made_places ≡ slice_set held.places.items other.place other.leaving = rw (← e) p in
    let wide : suc (length made_places) ≡ w = ap suc (ap length places ∙ length-set held.places.items other.place other.leaving) ∙ sym f in
    rw (all, wide, b, n, places) refl

-- what always holds of a tableau holds of the changed parts
pub held_by : (held : HeldTableau) (pivot : Pivot) (w : ℕ) (basics more made_basics made_places : List Variable) (numbers next made_numbers : List ℤ)
    → IsPivot (suc (length held.places.items)) pivot
    → w ≡ suc (length held.places.items) → basics ≡ held.basics.items → numbers ≡ held.numbers.items
    → every (map (line_after_pivot pivot) (lines_of w basics numbers)) ≡ Some (lines_of w more next)
    → length more ≡ length basics → length next ≡ length numbers
    → made_basics ≡ more → made_numbers ≡ next → made_places ≡ slice_set held.places.items pivot.place pivot.leaving
    → IsHeld made_basics made_numbers made_places
held_by held pivot w basics more made_basics made_places numbers next made_numbers is_pivot f g h some l m b n p =
    let known : IsPivot w pivot = rw f is_pivot in
    let wide : suc (length made_places) ≡ w = ap suc (ap length p ∙ length-set held.places.items pivot.place pivot.leaving) ∙ sym f in
    let size : length numbers ≡ length basics * w = rw (f, g, h) held.size in
    let sound : AllByRecursion IsSound (lines_of w basics numbers) = rw (f, g, h) held.sound in
    let long = all_from (λ (line : Line). length line.numbers ≡ w) (λ line. 0 < length line.numbers) (lines_of w basics numbers) (λ line e. omega (arith, known.within)) (all_wide w basics numbers size) in
    record {
      size = rw (wide, b, n) (m ∙ size ∙ ap (λ k. k * w) (sym l));
      sound = rw (wide, b, n) (all_changed_sound w pivot (lines_of w basics numbers) (lines_of w more next) known sound long some);
      few = let e : length made_places ≡ length held.places.items = omega (arith, wide, f) in rw e held.few;
    }

-- the first number of a line is its divisor
pub divisor_read : (line : Line) (n : ℕ) → length line.numbers ≡ suc n → get_or line.numbers 0 (pos 0) ≡ divisor_of line
divisor_read line n e = at line.numbers e where
  at : (xs : List ℤ) → length xs ≡ suc n → get_or xs 0 (pos 0) ≡ get_or xs 0 (pos 1)
  at [] e = absurd (omega arith)
  at (x ∷ xs) e = refl

-- the divisor of a sound line fits
pub divisor_fits : (line : Line) (n : ℕ) → length line.numbers ≡ suc n → IsSound line → Fits (divisor_of line)
divisor_fits line n e s = AllByRecursion-at Fits line.numbers 0 (pos 1) s.0 (omega arith)
