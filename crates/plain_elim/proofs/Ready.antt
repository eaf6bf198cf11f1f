-- What the definition keeps true of its lines: they are as wide as those of the system, and what is kept bounds its column.
use Rattle.std.proofs.Common.{◌≡◌, ℕ, suc, ◌+◌, ◌*◌, ◌<◌, refl, sym, ◌∙◌, ap, subst, arith, List, [], ◌∷◌, ◌++◌, map, length, Bool, true, false, cond, Option, Some, None, length-append}
use Rattle.std.specs.Prelude.{ℤ, pos, neg_ℤ, ◌*ℤ◌, int_lt, unsigned_abs, replicate, slice_set, filter, flat_map, find, not}
use Rattle.lin_rows.proofs.Lists.{AllByRecursion-append}
use Rattle.farkas_cert.specs.declared.answers.LeaveKind.TheVariants.{Rows}
use Rattle.std.specs.Int.{int_signum}
use Rattle.std.specs.Option.{option_map}
use Rattle.std.specs.List.{AllByRecursion}
use Rattle.std.proofs.lemmas.List.{length-set, length-map, length-replicate}
use Rattle.lin_rows.specs.Gcd.{gcd}
use Rattle.lin_rows.specs.Row.{Row, multiple_of}
use Rattle.lin_rows.specs.System.{System}
use Rattle.farkas_cert.specs.Divided.{over}
use Rattle.farkas_cert.specs.Line.{Line, given_line, given_lines, coefficient_at, has_variable, is_false, is_nonzero, lowest_column, lowest_of, combination, made_line}
use Rattle.farkas_cert.specs.BackSubstitution.{Kept, Solved, Bounded}
use Rattle.farkas_cert.specs.Elimination.{Leaves, Work, Ends, stage_number, every, constant_test, constant_test_by, follows, without_equality, substituted_line, equality_stage, paired_line, positives, negatives, with_column, without_column, pairs_at, are_too_many, pair_stage, take_column_out, take_column_out_by}
use Rattle.farkas_cert.proofs.Certificates.{appended}
use Rattle.farkas_cert.proofs.Derived.{made_is}
use Rattle.farkas_cert.proofs.Fuel.{all_open, all_within}
use Rattle.farkas_cert.proofs.Lists.{all_filter, filter_all, all_both, all_from, all_map, all_flat_map, all_every, found}
use Rattle.farkas_cert.proofs.OpenColumns.{lowest_is, lowest_of_open}
use Rattle.farkas_cert.proofs.Lengths.{length-sum, length-divided}
use Rattle.plain_elim.specs.inside.Held.{BoundsColumn, BoundsItsColumn, IsOpen, IsReady, IsReadyNext}
use Rattle.plain_elim.specs.inside.Stages.{IsWide, IsWideWork, IsWideNext, KeepsOneMore}

-- ---- given lines

given_wide : (system : System) (k : ℕ) (row : Row) → length row.coefficients ≡ system.columns → IsWide system (given_line (length system.rows) k row)
given_wide system k row h =
    let total = length system.rows in
    let ms = slice_set (replicate total (pos 0)) k (pos 1) in
    let long : length ms ≡ total = length-set (replicate total (pos 0)) k (pos 1) ∙ length-replicate total (pos 0) in
    record { width = length-append row.coefficients (row.bound ∷ ms) ∙ omega (arith, h, long) }

pub all_given_wide : (system : System) (k : ℕ) (rows : List Row) → AllByRecursion (λ row. length row.coefficients ≡ system.columns) rows
    → AllByRecursion (IsWide system) (given_lines (length system.rows) k rows)
unfolding given_lines
all_given_wide system k [] h = tt
all_given_wide system k (row ∷ rows) h = (given_wide system k row h.0, all_given_wide system (suc k) rows h.1)

-- ---- made lines

made_wide : (system : System) (equal : Bool) (a : ℤ) (left : Line) (b : ℤ) (right made : Line) → IsWide system left → IsWide system right
    → made_line equal a left.numbers b right.numbers ≡ Some made → IsWide system made
made_wide system equal a left b right made h k e =
    let is = made_is equal a left.numbers b right.numbers made e in
    let xs = length-map left.numbers (λ x. a *ℤ x) in
    let ys = length-map right.numbers (λ x. b *ℤ x) in
    let sum = length-sum (multiple_of a left.numbers) (multiple_of b right.numbers) (xs ∙ h.width ∙ sym k.width ∙ sym ys) in
    let long = length-divided (combination a left.numbers b right.numbers) ∙ sum ∙ ys ∙ k.width in
    record { width = ap (λ (line : Line). length line.numbers) (sym is) ∙ long }

-- ---- the equality stage

-- what comes after a stage that keeps what bounds its column
follows_wide : (system : System) (work : Work) (kept : Kept) (made : ℕ) (o : Option (List Line)) → BoundsItsColumn system.columns kept
    → AllByRecursion (BoundsItsColumn system.columns) work.kept → ((lines : List Line) → o ≡ Some lines → AllByRecursion (IsWide system) lines)
    → IsWideNext system (follows work kept made o)
follows_wide system work kept made None b k h = tt
follows_wide system work kept made (Some lines) b k h = record { lines = h lines refl; kept = (b, k) }

without_equality_wide : (system : System) (lines : List Line) → AllByRecursion (IsWide system) lines → AllByRecursion (IsWide system) (without_equality lines)
unfolding without_equality
without_equality_wide system [] h = tt
without_equality_wide system (line ∷ lines) h = at (without_equality_wide system lines h.1) line.equal where
  at : AllByRecursion (IsWide system) (without_equality lines) → (b : Bool) → AllByRecursion (IsWide system) (cond b lines (line ∷ without_equality lines))
  at rest true = h.1
  at rest false = (h.0, rest)

substituted_wide : (system : System) (c : ℕ) (equality line next : Line) → IsWide system equality → IsWide system line
    → substituted_line c equality line ≡ Some next → IsWide system next
unfolding substituted_line
substituted_wide system c equality line next h k e = at (is_nonzero (coefficient_at c line)) e where
  p : ℤ
  p = coefficient_at c equality

  q : ℤ
  q = coefficient_at c line

  g : ℕ
  g = gcd (unsigned_abs p) (unsigned_abs q)

  at : (b : Bool)
      → cond b (made_line line.equal (over g (pos (unsigned_abs p))) line.numbers (neg_ℤ (over g (int_signum p *ℤ q))) equality.numbers) (Some line) ≡ Some next
      → IsWide system next
  at true e = made_wide system line.equal (over g (pos (unsigned_abs p))) line (neg_ℤ (over g (int_signum p *ℤ q))) equality next k h e
  at false e = let same : line ≡ next = cc in rw (← same) k

-- an open line is wide
open_wide : (system : System) (lines : List Line) → AllByRecursion (IsOpen system) lines → AllByRecursion (IsWide system) lines
open_wide system lines h = all_from (IsOpen system) (IsWide system) lines (λ line o. record { width = o.width }) h

equality_stage_wide : (system : System) (work : Work) (equality : Line) → IsReady system work → IsOpen system equality
    → IsWideNext system (equality_stage system work equality)
unfolding equality_stage
equality_stage_wide system work equality h o =
    let c = lowest_column system.columns equality in
    let lowest = lowest_is system.columns equality o.variable in
    let rest = without_equality work.lines in
    let long : system.columns < length equality.numbers = omega (arith, o.width) in
    let wide : IsWide system equality = record { width = o.width } in
    follows_wide system work (Solved c equality) work.made (every (map (substituted_line c equality) rest)) (record { within = lowest.0; has_bound = long; there = lowest.1 }) h.kept
    (λ lines m. all_every (IsWide system) (map (substituted_line c equality) rest) lines
    (all_map (IsWide system) (λ o. (line : Line) → o ≡ Some line → IsWide system line) (substituted_line c equality) rest
    (λ line w next s. substituted_wide system c equality line next wide w s)
    (without_equality_wide system work.lines (open_wide system work.lines h.lines))) m)

-- ---- the pair stage

paired_wide : (system : System) (c : ℕ) (positive negative next : Line) → IsWide system positive → IsWide system negative
    → paired_line c positive negative ≡ Some next → IsWide system next
unfolding paired_line
paired_wide system c positive negative next h k e =
    let p = coefficient_at c positive in
    let q = neg_ℤ (coefficient_at c negative) in
    let g = gcd (unsigned_abs p) (unsigned_abs q) in
    made_wide system false (over g q) positive (over g p) negative next h k e

pairs_wide : (system : System) (c : ℕ) (lines pairs : List Line) → AllByRecursion (IsWide system) lines → pairs_at c lines ≡ Some pairs
    → AllByRecursion (IsWide system) pairs
unfolding pairs_at
pairs_wide system c lines pairs h e =
    let IsMade : Option Line → Type 0 = λ o. (line : Line) → o ≡ Some line → IsWide system line in
    all_every (IsWide system) (flat_map (λ positive. map (paired_line c positive) (negatives c lines)) (positives c lines)) pairs
    (all_flat_map (IsWide system) IsMade (λ positive. map (paired_line c positive) (negatives c lines)) (positives c lines)
    (λ positive p. all_map (IsWide system) IsMade (paired_line c positive) (negatives c lines)
    (λ negative n next s. paired_wide system c positive negative next p n s)
    (all_filter (IsWide system) (λ line. int_lt (coefficient_at c line) (pos 0)) lines h))
    (all_filter (IsWide system) (λ line. int_lt (pos 0) (coefficient_at c line)) lines h))
    e

bounded_by : (system : System) (c : ℕ) (lines : List Line) → c < system.columns → AllByRecursion (IsWide system) lines
    → BoundsItsColumn system.columns (Bounded c (with_column c lines))
bounded_by system c lines l h =
    let p = λ (line : Line). is_nonzero (coefficient_at c line) in (
      l,
      all_from (λ line. IsWide system line × (p line ≡ true)) (BoundsColumn system.columns c) (filter p lines)
          (λ line w. record { within = l; has_bound = omega (arith, w.0.width); there = w.1 })
          (all_both (IsWide system) (λ line. p line ≡ true) (filter p lines) (all_filter (IsWide system) p lines h) (filter_all p lines)),
    )

lowest_within : (system : System) (lines : List Line) → 0 < length lines → AllByRecursion (IsOpen system) lines → lowest_of system.columns lines < system.columns
lowest_within system [] s h = absurd (omega arith)
lowest_within system (line ∷ lines) s h =
    let n = system.columns in
    let vary = all_from (IsOpen system) (λ line. has_variable n line ≡ true) (line ∷ lines) (λ line o. o.variable) h in
    (lowest_of_open n all_open line lines (all_within n (line ∷ lines)) vary).0

pair_stage_wide : (system : System) (work : Work) → IsReady system work → 0 < length work.lines → IsWideNext system (pair_stage system work)
unfolding pair_stage
pair_stage_wide system work h s = by_limit (are_too_many system made) where
  c : ℕ
  c = lowest_of system.columns work.lines

  made : ℕ
  made = work.made + length (positives c work.lines) * length (negatives c work.lines)

  wide : AllByRecursion (IsWide system) work.lines
  wide = open_wide system work.lines h.lines

  pairs : Option (List Line)
  pairs = option_map (λ pairs. without_column c work.lines ++ pairs) (pairs_at c work.lines)

  by_limit : (b : Bool)
      → IsWideNext system (cond b (Ends (Leaves (stage_number work) Rows)) (follows work (Bounded c (with_column c work.lines)) made pairs))
  by_limit true = tt
  by_limit false =
      follows_wide system work (Bounded c (with_column c work.lines)) made pairs (bounded_by system c work.lines (lowest_within system work.lines s h.lines) wide) h.kept
      (λ lines e. let m = appended (without_column c work.lines) (pairs_at c work.lines) lines e in
      subst (λ (all : List Line). AllByRecursion (IsWide system) all) m.2
      (AllByRecursion-append (IsWide system) (without_column c work.lines) m.0 (all_filter (IsWide system) (λ line. not (is_nonzero (coefficient_at c line))) work.lines wide)
      (pairs_wide system c work.lines m.0 wide m.1)))

take_column_out_by-wide : (system : System) (work : Work) (o : Option Line) → find (λ line. line.equal) work.lines ≡ o → IsReady system work → 0 < length work.lines
    → IsWideNext system (take_column_out_by system work o)
take_column_out_by-wide system work None e h s = pair_stage_wide system work h s
take_column_out_by-wide system work (Some equality) e h s =
    equality_stage_wide system work equality h (found (IsOpen system) (λ line. line.equal) work.lines equality h.lines e).0

pub take_column_out-wide : (system : System) (work : Work) → IsReady system work → 0 < length work.lines → IsWideNext system (take_column_out system work)
unfolding take_column_out
take_column_out-wide system work h s = take_column_out_by-wide system work (find (λ line. line.equal) work.lines) refl h s

-- ---- the constant test

pub constant_test-ready : (system : System) (number : ℕ) (work : Work) → IsWideWork system work → IsReadyNext system (constant_test system number work)
unfolding constant_test
constant_test-ready system number work h = by_found (find (is_false system.columns) work.lines) where
  p : Line → Bool
  p = has_variable system.columns

  by_found : (o : Option Line) → IsReadyNext system (constant_test_by system number work o)
  by_found None = record {
    lines = all_from (λ line. IsWide system line × (p line ≡ true)) (IsOpen system) (filter p work.lines) (λ line w. record { width = w.0.width; variable = w.1 })
        (all_both (IsWide system) (λ line. p line ≡ true) (filter p work.lines) (all_filter (IsWide system) p work.lines h.lines) (filter_all p work.lines));
    kept = h.kept;
  }
  by_found (Some line) = tt

-- ---- each stage keeps one more

follows_keeps : (work : Work) (kept : Kept) (made : ℕ) (o : Option (List Line)) → KeepsOneMore (length work.kept) (follows work kept made o)
follows_keeps work kept made None = tt
follows_keeps work kept made (Some lines) = refl

by_limit_keeps : (work : Work) (b : Bool) (kept : Kept) (made : ℕ) (o : Option (List Line))
    → KeepsOneMore (length work.kept) (cond b (Ends (Leaves (stage_number work) Rows)) (follows work kept made o))
by_limit_keeps work true kept made o = tt
by_limit_keeps work false kept made o = follows_keeps work kept made o

take_column_out_by-keeps : (system : System) (work : Work) (o : Option Line) → KeepsOneMore (length work.kept) (take_column_out_by system work o)
unfolding equality_stage pair_stage
take_column_out_by-keeps system work None =
    let c = lowest_of system.columns work.lines in
    let made = work.made + length (positives c work.lines) * length (negatives c work.lines) in
    by_limit_keeps work (are_too_many system made) (Bounded c (with_column c work.lines)) made (option_map (λ pairs. without_column c work.lines ++ pairs) (pairs_at c work.lines))
take_column_out_by-keeps system work (Some equality) =
    let c = lowest_column system.columns equality in
    follows_keeps work (Solved c equality) work.made (every (map (substituted_line c equality) (without_equality work.lines)))

pub take_column_out-keeps : (system : System) (work : Work) → KeepsOneMore (length work.kept) (take_column_out system work)
unfolding take_column_out
take_column_out-keeps system work = take_column_out_by-keeps system work (find (λ line. line.equal) work.lines)
