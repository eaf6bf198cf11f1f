-- Lines whose numbers stand in one list, one line behind the other.
use Rattle.std.proofs.Common.{◌≡◌, ℕ, zero, suc, ◌+◌, ◌-◌, ◌*◌, ◌<◌, ◌≤◌, refl, sym, ◌∙◌, ap, ap₂, arith, List, [], ◌∷◌, ◌++◌, length, take, drop, get_or, add-one}
use Rattle.std.specs.Prelude.{ℤ, slice_set}
use Rattle.std.proofs.Math.Nat.{zero-mul, mul-le-mul_right}
use Rattle.std.proofs.lemmas.List.{take-take, drop-drop, drop-take, length-take-le, length-drop, drop_at}
use Rattle.std.proofs.lemmas.Slice.{take-put_mid_below, drop-put_mid, take-put_mid}
use borrow.Rule.Slice.PartMut.{put_mid}
use Rattle.tableau_elim.specs.Tableau.{Line}
use Rattle.tableau_elim.specs.declared.variable.Variable.{Variable}
use Rattle.tableau_elim.specs.declared.variable.Variable.TheVariants.{Column}
use Rattle.tableau_elim.specs.inside.Lines.{lines_of}
use Rattle.lin_rows.proofs.StoredRows.{row_end}

abbrev pub no_line : Line
no_line = record { basic = Column 0; numbers = [] }

pub length-lines : (w : ℕ) (basics : List Variable) (numbers : List ℤ) → length (lines_of w basics numbers) ≡ length basics
length-lines w [] numbers = refl
length-lines w (x ∷ basics) numbers = ap suc (length-lines w basics (drop w numbers))

-- so many numbers are a line's
pub part_is : (n c : ℕ) → (n + 1) * c - n * c ≡ c
part_is n c = ap (λ k. k * c - n * c) (add-one n) ∙ omega (arith, row_end n c)

pub line_here : (w : ℕ) (basics : List Variable) (numbers : List ℤ) (k : ℕ) (d : Variable) (none : Line) → k < length basics
    → get_or (lines_of w basics numbers) k none ≡ record { basic = get_or basics k d; numbers = take ((k + 1) * w - k * w) (drop (k * w) numbers) }
line_here w basics numbers k d none h = at w basics numbers k h ∙ ap (λ n. record { basic = get_or basics k d; numbers = take n (drop (k * w) numbers) }) (sym (part_is k w))
  where
    at : (w : ℕ) (basics : List Variable) (numbers : List ℤ) (k : ℕ) → k < length basics
        → get_or (lines_of w basics numbers) k none ≡ record { basic = get_or basics k d; numbers = take w (drop (k * w) numbers) }
    at w [] numbers k h = absurd (omega arith)
    at w (x ∷ basics) numbers zero h = ap (λ n. record { basic = x; numbers = take w (drop n numbers) }) (sym (zero-mul w))
    at w (x ∷ basics) numbers (suc k) h =
        at w basics (drop w numbers) k (omega arith)
        ∙ ap (λ xs. record { basic = get_or basics k d; numbers = take w xs }) (drop-drop (k * w) w numbers ∙ ap (λ n. drop n numbers) (sym (row_end k w)))

-- a line that is replaced
set_by : (w : ℕ) (basics : List Variable) (numbers more ys : List ℤ) (k : ℕ) (x : Variable) → k < length basics
    → take (k * w) more ≡ take (k * w) numbers → take w (drop (k * w) more) ≡ ys → drop (suc k * w) more ≡ drop (suc k * w) numbers
    → lines_of w (slice_set basics k x) more ≡ slice_set (lines_of w basics numbers) k (record { basic = x; numbers = ys })
set_by w [] numbers more ys k x h front here back = absurd (omega arith)
set_by w (b ∷ basics) numbers more ys zero x h front here back =
    let one : suc zero * w ≡ w = omega (arith, row_end 0 w) in
    let rest : drop w more ≡ drop w numbers = rw (← one) back in
    let first : take w more ≡ ys = ap (λ n. take w (drop n more)) (sym (zero-mul w)) ∙ here in
    rw (first, rest) refl
set_by w (b ∷ basics) numbers more ys (suc k) x h front here back =
    let e = row_end k w in
    let f = row_end (suc k) w in
    let front' : take (w + k * w) more ≡ take (w + k * w) numbers = rw (← e) front in
    let first : take w more ≡ take w numbers = sym (take-take w (w + k * w) more (omega arith)) ∙ ap (take w) front' ∙ take-take w (w + k * w) numbers (omega arith) in
    let middle : take (k * w) (drop w more) ≡ take (k * w) (drop w numbers) = sym (drop-take w (k * w) more) ∙ ap (drop w) front' ∙ drop-take w (k * w) numbers in
    let there : take w (drop (k * w) (drop w more)) ≡ ys = ap (take w) (drop-drop (k * w) w more ∙ ap (λ n. drop n more) (sym e)) ∙ here in
    let last : drop (suc k * w) (drop w more) ≡ drop (suc k * w) (drop w numbers) =
    drop-drop (suc k * w) w more ∙ ap (λ n. drop n more) (sym f) ∙ back ∙ ap (λ n. drop n numbers) f ∙ sym (drop-drop (suc k * w) w numbers) in
    ap₂ (λ l ls. record { basic = b; numbers = l } ∷ ls) first (set_by w basics (drop w numbers) (drop w more) ys k x (omega arith) middle there last)

pub line_set : (w : ℕ) (basics : List Variable) (numbers ys : List ℤ) (k : ℕ) (x : Variable) → k < length basics → length numbers ≡ length basics * w → length ys ≡ w
    → lines_of w (slice_set basics k x) (put_mid (k * w) ((k + 1) * w - k * w) numbers ys)
    ≡ slice_set (lines_of w basics numbers) k (record { basic = x; numbers = ys })
line_set w basics numbers ys k x h l m =
    let size = part_is k w in
    let e = row_end k w in
    let long : suc k * w ≤ length basics * w = mul-le-mul_right w (omega arith) in
    let within : k * w ≤ length numbers = omega arith in
    let more = put_mid (k * w) ((k + 1) * w - k * w) numbers ys in
    let front : take (k * w) more ≡ take (k * w) numbers = take-put_mid_below (k * w) ((k + 1) * w - k * w) numbers ys (k * w) (omega arith) within in
    let both : take (k * w + w) more ≡ take (k * w) numbers ++ ys = take-put_mid (k * w) ((k + 1) * w - k * w) numbers ys (k * w + w) (omega arith) within in
    let here : take w (drop (k * w) more) ≡ ys =
    sym (drop-take (k * w) w more) ∙ ap (drop (k * w)) both ∙ drop_at (take (k * w) numbers) ys (k * w) (length-take-le (k * w) numbers within) in
    let back : drop (suc k * w) more ≡ drop (suc k * w) numbers = drop-put_mid (k * w) ((k + 1) * w - k * w) numbers ys (suc k * w) (omega arith) within (omega arith) in
    set_by w basics numbers more ys k x h front here back

-- a line has its numbers
pub part_long : (w count k : ℕ) (numbers : List ℤ) → k < count → length numbers ≡ count * w → length (take ((k + 1) * w - k * w) (drop (k * w) numbers)) ≡ w
part_long w count k numbers h l =
    let size = part_is k w in
    let e = row_end k w in
    let long : suc k * w ≤ count * w = mul-le-mul_right w (omega arith) in
    length-take-le ((k + 1) * w - k * w) (drop (k * w) numbers) (omega (arith, length-drop (k * w) numbers)) ∙ size

-- the end of a line's part is within the list
pub part_within : (w count k : ℕ) (numbers : List ℤ) → k < count → length numbers ≡ count * w → (k + 1) * w ≤ length numbers
part_within w count k numbers h l =
    let long : (k + 1) * w ≤ count * w = mul-le-mul_right w (omega arith) in
    omega arith
