-- The tableau of the given rows, as it is made.
use Rattle.std.proofs.Common.{◌≡◌, ℕ, zero, suc, ◌+◌, ◌-◌, ◌*◌, ◌<◌, ◌≤◌, ◌^◌, refl, sym, ◌∙◌, ap, ap₂, subst, arith, List, [], ◌∷◌, ◌++◌, map, length, take, drop, get_or, append_assoc, append-nil, add-one}
use Rattle.std.specs.Prelude.{ℤ, pos, slice_get, Some, Bool}
use Rattle.std.specs.List.{AllByRecursion, range_with_len}
use Rattle.std.proofs.Math.Nat.{suc-mul, zero-mul}
use Rattle.std.proofs.lemmas.List.{take_at, take_all, length-drop, drop_all, length-append, nil_from_length, take-append-le, drop-append-le}
use Rattle.std.proofs.lemmas.Int.{ints}
use Rattle.lin_rows.specs.Row.{Row}
use Rattle.lin_rows.specs.System.{System, IsRowOver}
use Rattle.lin_rows.proofs.Numbers.{one_fits}
use Rattle.farkas_cert.proofs.NumberedRows.{drop_row}
use Rattle.tableau_elim.specs.Tableau.{Line, given_tableau, given_lines}
use Rattle.tableau_elim.specs.declared.variable.Variable.{Variable}
use Rattle.tableau_elim.specs.declared.variable.Variable.TheVariants.{Column, Slack}
use Rattle.tableau_elim.specs.inside.Lines.{lines_of, tableau_by, IsHeld, IsSound}

-- ---- by the numbers of rows, from 1

pub slack_is : (r : ℕ) (equal other : Bool) (bound more : ℤ) → equal ≡ other → bound ≡ more → Slack (record { row = r; equal = equal; bound = bound }) ≡ Slack (record { row = r; equal = other; bound = more })
slack_is r equal other bound more e f = rw (e, f) refl

-- ---- one line

get_last : (xs : List ℤ) (b : ℤ) (n : ℕ) → length xs ≡ n → get_or (xs ++ b ∷ []) n (pos 0) ≡ b
get_last [] b zero e = refl
get_last [] b (suc n) e = absurd (omega arith)
get_last (x ∷ xs) b zero e = absurd (omega arith)
get_last (x ∷ xs) b (suc n) e = get_last xs b n (omega arith)

-- the numbers without the bound, and the bound
pub line_pushed : (old coefficients p q : List ℤ) (b : ℤ) (n : ℕ) → p ≡ old ++ pos 1 ∷ [] → q ≡ p ++ (coefficients ++ b ∷ []) → n ≡ length q
    → (take (n - 1) q ≡ old ++ pos 1 ∷ coefficients) × (get_or q (n - 1) (pos 0) ≡ b) × (n - 1 < length q)
line_pushed old coefficients p q b n e f l =
    let front = old ++ pos 1 ∷ coefficients in
    let whole : q ≡ front ++ b ∷ [] =
    f ∙ ap (λ xs. xs ++ (coefficients ++ b ∷ [])) e ∙ append_assoc old (pos 1 ∷ []) (coefficients ++ b ∷ []) ∙ sym (append_assoc old (pos 1 ∷ coefficients) (b ∷ [])) in
    let size : length front ≡ n - 1 = omega (arith, ap length whole, length-append front (b ∷ [])) in
    (ap (take (n - 1)) whole ∙ take_at front (b ∷ []) (n - 1) size, ap (λ xs. get_or xs (n - 1) (pos 0)) whole ∙ get_last front b (n - 1) size, omega (arith, ap length whole, length-append front (b ∷ [])))

-- ---- all lines

lines_append : (w : ℕ) (basics : List Variable) (numbers ys : List ℤ) (x : Variable) → length numbers ≡ length basics * w → length ys ≡ w
    → lines_of w (basics ++ x ∷ []) (numbers ++ ys) ≡ lines_of w basics numbers ++ record { basic = x; numbers = ys } ∷ []
lines_append w [] numbers ys x e l =
    let none : numbers ≡ [] = nil_from_length numbers (e ∙ zero-mul w) in
    let all : take w (numbers ++ ys) ≡ ys = ap (λ xs. take w (xs ++ ys)) none ∙ take_all w ys (omega arith) in
    ap (λ xs. record { basic = x; numbers = xs } ∷ []) all
lines_append w (b ∷ basics) numbers ys x e l =
    let more = suc-mul (length basics) w in
    let front : take w (numbers ++ ys) ≡ take w numbers = take-append-le w numbers ys (omega arith) in
    let back : drop w (numbers ++ ys) ≡ drop w numbers ++ ys = drop-append-le w numbers ys (omega arith) in
    let rest = lines_append w basics (drop w numbers) ys x (omega (arith, length-drop w numbers)) l in
    ap₂ (λ n ls. record { basic = b; numbers = n } ∷ ls) front (ap (lines_of w (basics ++ x ∷ [])) back ∙ rest)

-- the lines of the rows so far, and those of the rows that are left
pub record IsGiving (rows : List Row) (w : ℕ) (basics : List Variable) (numbers : List ℤ) (place : ℕ) : Type 0 where
  pub whole : lines_of w basics numbers ++ given_lines place (drop place rows) ≡ given_lines 0 rows
  pub size : length numbers ≡ length basics * w

pub giving_begins : (rows : List Row) (w : ℕ) (basics : List Variable) (numbers : List ℤ) → basics ≡ [] → numbers ≡ [] → IsGiving rows w basics numbers 0
giving_begins rows w basics numbers e f = record {
  whole = ap (λ bs. lines_of w bs numbers ++ given_lines 0 rows) e;
  size = ap length f ∙ sym (zero-mul w) ∙ ap (λ bs. length bs * w) (sym e);
}

pub giving_goes_on : (rows : List Row) (w : ℕ) (basics more : List Variable) (numbers next : List ℤ) (place : ℕ) (row : Row) → slice_get rows place ≡ Some row
    → suc (length row.coefficients) ≡ w → more ≡ basics ++ Slack (record { row = place; equal = row.equal; bound = row.bound }) ∷ [] → next ≡ numbers ++ pos 1 ∷ row.coefficients
    → IsGiving rows w basics numbers place → IsGiving rows w more next (place + 1)
unfolding given_lines
giving_goes_on rows w basics more numbers next place row at wide b n i =
    let x = Slack (record { row = place; equal = row.equal; bound = row.bound }) in
    let line : Line = record { basic = x; numbers = pos 1 ∷ row.coefficients } in
    let made : lines_of w more next ≡ lines_of w basics numbers ++ line ∷ [] = ap₂ (lines_of w) b n ∙ lines_append w basics numbers (pos 1 ∷ row.coefficients) x i.size wide in
    let step = ap (λ rs. lines_of w basics numbers ++ given_lines place rs) (drop_row rows place row at) in
    record {
      whole = ap₂ (λ ls k. ls ++ given_lines k (drop k rows)) made (add-one place) ∙ append_assoc (lines_of w basics numbers) (line ∷ []) (given_lines (suc place) (drop (suc place) rows)) ∙ sym step ∙ i.whole;
      size = rw (b, n, length-append, length-append) (omega (arith, i.size, suc-mul (length basics) w));
    }

pub giving_ends : (rows : List Row) (w : ℕ) (basics : List Variable) (numbers : List ℤ) (place : ℕ) → length rows ≤ place → IsGiving rows w basics numbers place
    → lines_of w basics numbers ≡ given_lines 0 rows
unfolding given_lines
giving_ends rows w basics numbers place h i =
    sym (append-nil (lines_of w basics numbers)) ∙ ap (λ rs. lines_of w basics numbers ++ given_lines place rs) (sym (drop_all place rows h)) ∙ i.whole

-- the lines of given rows are sound
given_sound : (columns k : ℕ) (rows : List Row) → AllByRecursion (IsRowOver columns) rows → AllByRecursion IsSound (given_lines k rows)
unfolding given_lines
given_sound columns k [] h = tt
given_sound columns k (row ∷ rows) h = (((one_fits, h.0.fits.coefficients), omega (arith, ints)), given_sound columns (suc k) rows h.1)

pub long_range : (a n : ℕ) → length (map Column (range_with_len a n)) ≡ n
long_range a zero = refl
long_range a (suc n) = ap suc (long_range (a + 1) n)

-- the whole tableau
pub given_is : (system : System) (basics : List Variable) (numbers : List ℤ) (places : List Variable) (w : ℕ) → places ≡ map Column (range_with_len 0 system.columns) → w ≡ suc system.columns
    → lines_of w basics numbers ≡ given_lines 0 system.rows → tableau_by basics numbers places ≡ given_tableau system
given_is system basics numbers places w p e l =
    let wide : suc (length places) ≡ w = ap suc (ap length p ∙ long_range 0 system.columns) ∙ sym e in
    let lines : lines_of (suc (length places)) basics numbers ≡ given_lines 0 system.rows = ap (λ w. lines_of w basics numbers) wide ∙ l in
    rw (lines, p) refl

-- what always holds of a tableau holds of that of given rows
pub given_held : (system : System) (basics : List Variable) (numbers : List ℤ) (places : List Variable) (w : ℕ) → places ≡ map Column (range_with_len 0 system.columns) → w ≡ suc system.columns → system.columns < 2 ^ 32
    → AllByRecursion (IsRowOver system.columns) system.rows → lines_of w basics numbers ≡ given_lines 0 system.rows
    → length numbers ≡ length basics * w → IsHeld basics numbers places
given_held system basics numbers places w p e few rows l size =
    let long : length places ≡ system.columns = ap length p ∙ long_range 0 system.columns in
    let wide : suc (length places) ≡ w = ap suc long ∙ sym e in
    let lines : lines_of (suc (length places)) basics numbers ≡ given_lines 0 system.rows = ap (λ w. lines_of w basics numbers) wide ∙ l in
    record {
      size = size ∙ ap (λ w. length basics * w) (sym wide);
      sound = subst (λ (ls : List Line). AllByRecursion IsSound ls) (sym lines) (given_sound system.columns 0 system.rows rows);
      few = subst (λ (n : ℕ). n < 2 ^ 32) (sym long) few;
    }
