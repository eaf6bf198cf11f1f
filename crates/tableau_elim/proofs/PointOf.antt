-- The point that the tableau gives is a rational point of the system.
use Rattle.std.proofs.Common.{◌≡◌, ℕ, suc, refl, sym, ◌∙◌, ap, ap₂, subst, arith, List, [], ◌∷◌, map, length, drop, get_or, Bool, true, false, cond, Option, Some, None}
use Rattle.std.specs.Prelude.{ℤ, pos, negsuc, neg_ℤ, ◌+ℤ◌, ◌*ℤ◌, ◌≤ℤ◌, ◌<ℤ◌, int_lt, not, ◌&&◌, unsigned_abs, find, filter, fold, slice_get, MatchBool}
use Rattle.std.specs.Int.{◌∣◌}
use Rattle.std.specs.List.{AllByRecursion}
use Rattle.std.proofs.Math.Nat.{dvd-mul_right}
use Rattle.std.proofs.lemmas.Bool.{eqb-true}
use Rattle.std.proofs.lemmas.Int.{ints, by_lt_z, unsigned_abs-mul}
use Rattle.thr_base.specs.Number.{fits}
use Rattle.lin_rows.specs.Exact.{fitting}
use Rattle.lin_rows.specs.Row.{Row, product_of, multiple_of}
use Rattle.lin_rows.specs.Sum.{sum_in_order}
use Rattle.lin_rows.specs.System.{System}
use Rattle.lin_rows.proofs.Integers.{mul_assoc_ℤ, mul_comm_ℤ, zero-mul_ℤ, mul-neg_ℤ}
use Rattle.lin_rows.proofs.Sums.{sum_in_order-given}
use Rattle.farkas_cert.specs.Divided.{over}
use Rattle.farkas_cert.proofs.Divisors.{over-exact}
use Rattle.farkas_cert.proofs.Integers.{linear, factors, mul-positive_ℤ, mul_right_le_ℤ}
use Rattle.farkas_cert.proofs.Lists.{all_from, all_unfilter}
use Rattle.farkas_cert.proofs.Slack.{product-scaled_right}
use Rattle.tableau_elim.specs.Tableau.{Line, Tableau, are_same, comes_before, divisor_of, value_at_place, sum_of_line}
use Rattle.tableau_elim.specs.Rounds.{first_out, earlier, is_within, standing_of, standing_by, standing_by_basic, standing_to_limit}
use Rattle.tableau_elim.specs.declared.variable.Variable.{Variable}
use Rattle.tableau_elim.specs.declared.variable.Variable.TheVariants.{Column, Slack}
use Rattle.tableau_elim.specs.declared.standing.Side.TheVariants.{High, Low}
use Rattle.tableau_elim.specs.declared.standing.Standing.{Standing}
use Rattle.tableau_elim.specs.declared.standing.Standing.TheVariants.{Within, Out, Unfit}
use Rattle.tableau_elim.proofs.Changed.{Front}
use Rattle.tableau_elim.proofs.Identities.{Values, Holds}
use Rattle.tableau_elim.proofs.Kept.{Apart, NotAmong, Distinct, IsOf, IsKeptLine}
use Rattle.tableau_elim.proofs.Backwards.{basics_of, same_self}

-- ---- a common multiple of all divisors

unfoldable pub multiple : List Line → ℤ
multiple [] = pos 1
multiple (line ∷ lines) = divisor_of line *ℤ multiple lines

pub multiple_positive : (lines : List Line) → AllByRecursion (λ line. Front line.numbers) lines → pos 0 <ℤ multiple lines
unfolding multiple
multiple_positive [] h = omega (arith, ints)
multiple_positive (line ∷ lines) h = mul-positive_ℤ (divisor_of line) (multiple lines) h.0 (multiple_positive lines h.1)

-- a line's divisor times a number is the multiple
abbrev pub IsShare : ℤ → Line → Type 0
IsShare m line = (q : ℤ) × (q *ℤ divisor_of line ≡ m) × (pos 0 <ℤ q)

pub shares : (lines : List Line) → AllByRecursion (λ line. Front line.numbers) lines → AllByRecursion (IsShare (multiple lines)) lines
unfolding multiple
shares [] h = tt
shares (line ∷ lines) h = (
  (multiple lines, mul_comm_ℤ (multiple lines) (divisor_of line), multiple_positive lines h.1),
  all_from (IsShare (multiple lines)) (IsShare (divisor_of line *ℤ multiple lines)) lines
      (λ other s. (divisor_of line *ℤ s.0, mul_assoc_ℤ (divisor_of line) s.0 (divisor_of other) ∙ ap (λ t. divisor_of line *ℤ t) s.1, mul-positive_ℤ (divisor_of line) s.0 h.0 s.2))
      (shares lines h.1),
)

-- what is left of the multiple, without a line's divisor
abbrev pub share : ℤ → Line → ℤ
share m line = over (unsigned_abs (divisor_of line)) m

pub share_is : (m : ℤ) (line : Line) → pos 0 <ℤ divisor_of line → IsShare m line → share m line *ℤ divisor_of line ≡ m
share_is m line p s =
    let d = divisor_of line in
    let divides : unsigned_abs d ∣ unsigned_abs m = subst (λ (n : ℕ). unsigned_abs d ∣ n) (sym (unsigned_abs-mul d s.0) ∙ ap unsigned_abs (mul_comm_ℤ d s.0 ∙ s.1)) (dvd-mul_right (unsigned_abs d) (unsigned_abs s.0)) in
    let exact = over-exact (unsigned_abs d) m divides in
    let same : pos (unsigned_abs d) ≡ d = positive_is d p in
    mul_comm_ℤ (share m line) d ∙ ap (λ d'. d' *ℤ share m line) (sym same) ∙ exact
  where
    positive_is : (d : ℤ) → pos 0 <ℤ d → pos (unsigned_abs d) ≡ d
    positive_is (pos n) h = refl
    positive_is (negsuc n) h = absurd (omega (arith, ints))

-- ---- the values of all variables, times the multiple

unfoldable pub line_sum : List Variable → Line → ℤ
line_sum places line = product_of (drop 1 line.numbers) (map value_at_place places)

abbrev pub line_value : ℤ → List Variable → Variable → Option Line → ℤ
line_value m places x None = m *ℤ value_at_place x
line_value m places x (Some line) = line_sum places line *ℤ share m line

abbrev pub line_of : List Line → Variable → Option Line
line_of lines x = find (λ line. are_same line.basic x) lines

abbrev pub values_of : ℤ → Tableau → Values
values_of m tableau x = line_value m tableau.places x (line_of tableau.lines x)

none_line : (lines : List Line) (x : Variable) → AllByRecursion (λ line. Apart line.basic x) lines → line_of lines x ≡ None
none_line [] x h = refl
none_line (line ∷ lines) x h = rw h.0 (none_line lines x h.1)

pub place_values : (m : ℤ) (tableau : Tableau) (places : List Variable) → AllByRecursion (λ line. NotAmong line.basic places) tableau.lines
    → map (values_of m tableau) places ≡ multiple_of m (map value_at_place places)
place_values m tableau [] h = refl
place_values m tableau (x ∷ places) h =
    let none = none_line tableau.lines x (all_from (λ (line : Line). NotAmong line.basic (x ∷ places)) (λ line. Apart line.basic x) tableau.lines (λ line n. n.0) h) in
    let rest = place_values m tableau places (all_from (λ (line : Line). NotAmong line.basic (x ∷ places)) (λ line. NotAmong line.basic places) tableau.lines (λ line n. n.1) h) in
    ap₂ (λ y ys. y ∷ ys) (ap (line_value m tableau.places x) none) rest

-- each line is found by its basic
pub found_itself : (lines : List Line) → Distinct (basics_of lines) → AllByRecursion (λ line. line_of lines line.basic ≡ Some line) lines
found_itself [] d = tt
found_itself (line ∷ lines) d = (rw (same_self line.basic) refl, later line lines lines d.0 (found_itself lines d.1)) where
  later : (line : Line) (all lines : List Line) → NotAmong line.basic (basics_of lines) → AllByRecursion (λ other. line_of all other.basic ≡ Some other) lines
      → AllByRecursion (λ other. line_of (line ∷ all) other.basic ≡ Some other) lines
  later line all [] n h = tt
  later line all (other ∷ lines) n h = (rw n.0 h.0, later line all lines n.1 h.1)

holds_algebra : (d sum q m : ℤ) → q *ℤ d ≡ m → d *ℤ neg_ℤ (sum *ℤ q) +ℤ m *ℤ sum ≡ pos 0
holds_algebra d sum q m e =
    let same : d *ℤ (sum *ℤ q) ≡ (q *ℤ d) *ℤ sum = simp factors in
    let all = ap (λ t. t *ℤ sum) e in
    omega (arith, linear, mul-neg_ℤ d (sum *ℤ q))

pub line_holds : (m : ℤ) (tableau : Tableau) (line : Line) (n : ℕ) → length line.numbers ≡ suc n → line_of tableau.lines line.basic ≡ Some line
    → map (values_of m tableau) tableau.places ≡ multiple_of m (map value_at_place tableau.places) → share m line *ℤ divisor_of line ≡ m
    → Holds (values_of m tableau) tableau.places line
unfolding line_sum
line_holds m tableau line n w f p s = at line.numbers refl w where
  at : (numbers : List ℤ) → line.numbers ≡ numbers → length numbers ≡ suc n → product_of line.numbers (neg_ℤ (values_of m tableau line.basic) ∷ map (values_of m tableau) tableau.places) ≡ pos 0
  at [] e l = absurd (omega arith)
  at (d ∷ ts) e l =
      let own : values_of m tableau line.basic ≡ line_sum tableau.places line *ℤ share m line = ap (line_value m tableau.places line.basic) f in
      let sum = product_of ts (map value_at_place tableau.places) in
      let sum_is : line_sum tableau.places line ≡ sum = ap (λ xs. product_of (drop 1 xs) (map value_at_place tableau.places)) e in
      let divisor : divisor_of line ≡ d = ap (λ xs. get_or xs 0 (pos 1)) e in
      let q = share m line in
      let all = holds_algebra d sum q m (ap (λ t. q *ℤ t) (sym divisor) ∙ s) in
      let places = ap (product_of ts) p ∙ product-scaled_right m ts (map value_at_place tableau.places) in
      let front = ap (λ t. d *ℤ neg_ℤ t) (own ∙ ap (λ t. t *ℤ q) sum_is) in
      ap (λ xs. product_of xs (neg_ℤ (values_of m tableau line.basic) ∷ map (values_of m tableau) tableau.places)) e ∙ omega (arith, linear)

-- ---- no line is out

pub none_out : (tableau : Tableau) → first_out tableau ≡ None → AllByRecursion (λ line. standing_of tableau.places line ≡ Within) tableau.lines
unfolding first_out
none_out tableau e =
    all_from (λ line. not (is_within (standing_of tableau.places line)) ≡ true → ⊥) (λ line. standing_of tableau.places line ≡ Within) tableau.lines
    (λ line n. within_is (standing_of tableau.places line) n)
    (all_unfilter (λ line. ⊥) (λ line. not (is_within (standing_of tableau.places line))) tableau.lines
    (empty (filter (λ line. not (is_within (standing_of tableau.places line))) tableau.lines) e))
  where
    some : (best : Line) (lines : List Line) → fold earlier (Some best) lines ≡ None → ⊥
    some best [] e = absurd cc
    some best (x ∷ lines) e = some (cond (comes_before x.basic best.basic) x best) lines e

    empty : (lines : List Line) → fold earlier None lines ≡ None → AllByRecursion (λ (line : Line). ⊥) lines
    empty [] e = tt
    empty (x ∷ lines) e = absurd (some x lines e)

    within_is : (s : Standing) → (not (is_within s) ≡ true → ⊥) → s ≡ Within
    within_is Within n = refl
    within_is (Out side) n = absurd (n refl)
    within_is Unfit n = absurd (n refl)

fitting_is : (z x : ℤ) → fitting z ≡ Some x → x ≡ z
fitting_is z x e = at (fits z) e where
  at : (b : Bool) → cond b (Some z) None ≡ Some x → x ≡ z
  at true e = cc
  at false e = absurd cc

-- what a slack's line keeps
abbrev pub Keeps : Bool → ℤ → ℤ → Type 0
Keeps equal sum limit = (sum ≤ℤ limit) × (equal ≡ true → sum ≡ limit)

compared_within : (equal : Bool) (sum limit : ℤ) → standing_to_limit equal sum limit ≡ Within → Keeps equal sum limit
compared_within equal sum limit e = at (int_lt limit sum) equal (int_lt sum limit) refl refl refl e where
  at : (a b d : Bool) → int_lt limit sum ≡ a → equal ≡ b → int_lt sum limit ≡ d → cond a (Out High) (cond (b && d) (Out Low) Within) ≡ Within → Keeps equal sum limit
  at true b d p q r e = absurd cc
  at false true true p q r e = absurd cc
  at false true false p q r e = (omega (arith, ints), (λ h. omega (arith, ints)))
  at false false d p q r e = (omega (arith, ints), (λ h. absurd cc))

within_keeps : (places : List Variable) (line : Line) (r : ℕ) (equal : Bool) (bound : ℤ) → line.basic ≡ Slack (record { row = r; equal = equal; bound = bound })
    → standing_of places line ≡ Within → Keeps equal (line_sum places line) (bound *ℤ divisor_of line)
unfolding standing_of sum_of_line line_sum
within_keeps places line r equal bound b e =
    at (sum_in_order (drop 1 line.numbers) (map value_at_place places)) (fitting (bound *ℤ divisor_of line)) refl refl (ap (standing_by_basic places line) (sym b) ∙ e)
  where
    at : (o p : Option ℤ) → sum_in_order (drop 1 line.numbers) (map value_at_place places) ≡ o → fitting (bound *ℤ divisor_of line) ≡ p → standing_by equal o p ≡ Within
        → Keeps equal (product_of (drop 1 line.numbers) (map value_at_place places)) (bound *ℤ divisor_of line)
    at None p s l e = absurd cc
    at (Some sum) None s l e = absurd cc
    at (Some sum) (Some limit) s l e =
        let keeps = compared_within equal sum limit e in
        let sum_is = (sum_in_order-given (drop 1 line.numbers) (map value_at_place places) sum s).1 in
        let limit_is = fitting_is (bound *ℤ divisor_of line) limit l in
        (rw (← sum_is, ← limit_is) keeps.0, λ h. sym sum_is ∙ keeps.1 h ∙ limit_is)

-- ---- the slack of a row

-- what the value of a row's slack keeps
abbrev pub KeepsRow : ℤ → Row → ℤ → Type 0
KeepsRow m row x = MatchBool row.equal (x ≡ row.bound *ℤ m) (x ≤ℤ (row.bound *ℤ m))

keeps_same : (equal : Bool) (x y : ℤ) → x ≡ y → MatchBool equal (x ≡ y) (x ≤ℤ y)
keeps_same true x y e = e
keeps_same false x y e = omega (arith, ints)

keeps_scaled : (equal : Bool) (sum bound d q m : ℤ) → pos 0 <ℤ q → q *ℤ d ≡ m → Keeps equal sum (bound *ℤ d) → MatchBool equal (sum *ℤ q ≡ bound *ℤ m) ((sum *ℤ q) ≤ℤ (bound *ℤ m))
keeps_scaled true sum bound d q m p e k = ap (λ t. t *ℤ q) (k.1 refl) ∙ mul_assoc_ℤ bound d q ∙ ap (λ t. bound *ℤ t) (mul_comm_ℤ d q ∙ e)
keeps_scaled false sum bound d q m p e k =
    let scaled_le = mul_right_le_ℤ sum (bound *ℤ d) q (omega (arith, linear)) k.0 in
    let same = mul_assoc_ℤ bound d q ∙ ap (λ t. bound *ℤ t) (mul_comm_ℤ d q ∙ e) in
    omega (arith, linear)

pub line_found : (P : Line → Type 0) (lines : List Line) (x : Variable) (line : Line) → AllByRecursion P lines → line_of lines x ≡ Some line → P line × (are_same line.basic x ≡ true)
line_found P [] x line h e = absurd cc
line_found P (l ∷ lines) x line h e = at (line_found P lines x line h.1) (are_same l.basic x) refl e where
  at : (line_of lines x ≡ Some line → P line × (are_same line.basic x ≡ true)) → (b : Bool) → are_same l.basic x ≡ b → cond b (Some l) (line_of lines x) ≡ Some line
      → P line × (are_same line.basic x ≡ true)
  at rest true s e = let same : l ≡ line = cc in subst (λ (k : Line). P k × (are_same k.basic x ≡ true)) same (h.0, s)
  at rest false s e = rest e

slack_found : (system : System) (x : Variable) (k : ℕ) (row : Row) (equal : Bool) (bound : ℤ) → IsOf system x → are_same x (Slack (record { row = k; equal = equal; bound = bound })) ≡ true
    → slice_get system.rows k ≡ Some row → x ≡ Slack (record { row = k; equal = row.equal; bound = row.bound })
slack_found system (Column c) k row equal bound o s e = absurd cc
slack_found system (Slack q) k row equal bound o s e =
    let number : q.row ≡ k = eqb-true q.row k s in
    let there : Some o.there ≡ Some row = sym o.at ∙ ap (slice_get system.rows) number ∙ e in
    let same : o.there ≡ row = cc in
    let equal_is = sym o.equal_is ∙ ap (λ (r : Row). r.equal) same in
    let bound_is = sym o.bound_is ∙ ap (λ (r : Row). r.bound) same in
    slack_parts q.row k q.equal row.equal q.bound row.bound number equal_is bound_is
  where
    slack_parts : (r k : ℕ) (e f : Bool) (b d : ℤ) → r ≡ k → e ≡ f → b ≡ d → Slack (record { row = r; equal = e; bound = b }) ≡ Slack (record { row = k; equal = f; bound = d })
    slack_parts r k e f b d p q s = rw (p, q, s) refl

-- what is known of each line of a tableau of which no line is out
abbrev pub IsFine : System → ℤ → Tableau → Line → Type 0
IsFine system m tableau line = IsKeptLine system tableau.places line × (standing_of tableau.places line ≡ Within) × (share m line *ℤ divisor_of line ≡ m)

share_positive : (m : ℤ) (line : Line) → pos 0 <ℤ m → pos 0 <ℤ divisor_of line → share m line *ℤ divisor_of line ≡ m → pos 0 <ℤ share m line
share_positive m line p d e =
    by_lt_z (pos 0) (share m line) (λ l. l) (λ l. absurd (omega (arith, linear, mul_right_le_ℤ (share m line) (pos 0) (divisor_of line) (omega (arith, linear)) l, zero-mul_ℤ (divisor_of line))))

pub row_keeps : (system : System) (m : ℤ) (tableau : Tableau) (k : ℕ) (row : Row) → pos 0 <ℤ m → AllByRecursion (IsFine system m tableau) tableau.lines → slice_get system.rows k ≡ Some row
    → KeepsRow m row (values_of m tableau (Slack (record { row = k; equal = row.equal; bound = row.bound })))
row_keeps system m tableau k row p h e = at (line_of tableau.lines x) refl where
  x : Variable
  x = Slack (record { row = k; equal = row.equal; bound = row.bound })

  at : (o : Option Line) → line_of tableau.lines x ≡ o → KeepsRow m row (line_value m tableau.places x o)
  at None f = keeps_same row.equal (m *ℤ row.bound) (row.bound *ℤ m) (mul_comm_ℤ m row.bound)
  at (Some line) f =
      let is = line_found (IsFine system m tableau) tableau.lines x line h f in
      let fine = is.0 in
      let basic = slack_found system line.basic k row row.equal row.bound fine.0.known is.1 e in
      keeps_scaled row.equal (line_sum tableau.places line) row.bound (divisor_of line) (share m line) m (share_positive m line p fine.0.positive fine.2) fine.2
      (within_keeps tableau.places line k row.equal row.bound basic fine.1)
