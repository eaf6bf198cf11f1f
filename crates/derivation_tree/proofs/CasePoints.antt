-- Values that meet a node's rows and its premises' rows are a point of its instance's system, and the other way round.
use Rattle.std.proofs.Common.{◌≡◌, ℕ, ◌+◌, List, [], ◌∷◌, ◌++◌, map, length, ℤ, pos, ◌<ℤ◌, sym, ◌∙◌, ap, subst, arith, length-append, append_assoc}
use Rattle.std.specs.List.{AllByRecursion}
use Rattle.std.proofs.lemmas.List.{length-map, map-append, append-nil}
use Rattle.lin_rows.specs.Row.{Row, product_of, MeetsOver}
use Rattle.lin_rows.specs.System.{IsRationalPoint}
use Rattle.lin_rows.proofs.Lists.{AllByRecursion-append, AllByRecursion-rest}
use Rattle.transition_formula.specs.Program.{Program, Thread, Edge}
use Rattle.transition_formula.specs.Rows.{zeros, column_is, kept_row, kept_columns, test_row, set_row, edge_rows}
use Rattle.horn_rules.specs.Case.{wider_row, behind, own_case, env_case, inter_case}
use Rattle.horn_rules.proofs.Described.{product-widened}
use Rattle.derivation_tree.specs.Variable.{Variable}
use Rattle.derivation_tree.specs.Nodes.{Moments}
use Rattle.derivation_tree.specs.Solution.{NodeRow, says}
use Rattle.derivation_tree.proofs.Values.{AllMeetAt, all-named, named-all}
use Rattle.derivation_tree.proofs.Shared.{HasEach, Keeps}
use Rattle.derivation_tree.proofs.CaseRows.{over-alike, over-back, product-moved, values, values-are, kept-meet, named_over, moving_rows}

-- ---- what is known of a step's variables

pub record StepVariables (program : Program) (thread : Thread) (edge : Edge) (moments : Moments) (inputs : List Variable) : Type 0 where
  pub each : HasEach program moments
  pub keeps : Keeps thread edge moments
  pub inputs_each : length inputs ≡ edge.inputs

abbrev MeetAll : List Row → List ℤ → ℤ → Type 0
MeetAll rows x d = AllByRecursion (λ row. MeetsOver row x d) rows

pub named-meet : (v : Variable → ℤ) (d : ℤ) (moments : Moments) (inputs : List Variable) (rows : List Row) → AllMeetAt v d (named_over moments inputs rows) → MeetAll rows (values v moments inputs) d
named-meet v d moments inputs rows all = subst (λ x. MeetAll rows x d) (values-are v moments inputs) (named-all v d (moments.before ++ (moments.after ++ inputs)) rows all)

meet-named : (v : Variable → ℤ) (d : ℤ) (moments : Moments) (inputs : List Variable) (rows : List Row) → MeetAll rows (values v moments inputs) d → AllMeetAt v d (named_over moments inputs rows)
meet-named v d moments inputs rows all = all-named v d (moments.before ++ (moments.after ++ inputs)) rows (subst (λ x. MeetAll rows x d) (sym (values-are v moments inputs)) all)

length-values : (v : Variable → ℤ) (moments : Moments) (inputs : List Variable) → length (values v moments inputs) ≡ length moments.before + (length moments.after + length inputs)
length-values v moments inputs =
    omega (arith, length-append (map v moments.before) (map v moments.after ++ map v inputs), length-append (map v moments.after) (map v inputs), length-map moments.before v, length-map moments.after v, length-map inputs v)

-- ---- the rows of an edge

pub to-edge : (program : Program) (thread : Thread) (edge : Edge) (moments : Moments) (inputs : List Variable) (v : Variable → ℤ) (d : ℤ) → StepVariables program thread edge moments inputs
    → MeetAll (moving_rows program thread edge) (values v moments inputs) d → MeetAll (edge_rows (length program.columns) thread.counter edge) (values v moments inputs) d
to-edge program thread edge moments inputs v d known all =
    let n = length program.columns in (
      all.0,
      (
        all.1.0,
        AllByRecursion-append (λ row. MeetsOver row (values v moments inputs) d) (map (kept_row n edge.inputs) (kept_columns n thread.counter edge)) (map (test_row n) edge.tests ++ map (set_row n) edge.sets)
            (kept-meet program thread edge edge.inputs moments inputs v d known.each known.keeps) all.1.1,
      ),
    )

from-edge : (program : Program) (thread : Thread) (edge : Edge) (x : List ℤ) (d : ℤ) → MeetAll (edge_rows (length program.columns) thread.counter edge) x d → MeetAll (moving_rows program thread edge) x d
from-edge program thread edge x d all =
    let n = length program.columns in (
      all.0,
      (all.1.0, AllByRecursion-rest (λ row. MeetsOver row x d) (map (kept_row n edge.inputs) (kept_columns n thread.counter edge)) (map (test_row n) edge.tests ++ map (set_row n) edge.sets) all.1.1),
    )

-- ---- a premise's row

to-state : (v : Variable → ℤ) (d : ℤ) (k : ℕ) (moments : Moments) (inputs : List Variable) (row : Row) → length row.coefficients ≡ length moments.before
    → MeetsOver row (map v moments.before) d → MeetsOver (wider_row k row) (values v moments inputs) d
to-state v d k moments inputs row one h =
    over-alike row (row.coefficients ++ zeros k) (map v moments.before) (values v moments inputs) d
    (product-widened k row.coefficients (map v moments.before) (map v moments.after ++ map v inputs) (one ∙ sym (length-map moments.before v))) h

from-state : (v : Variable → ℤ) (d : ℤ) (k : ℕ) (moments : Moments) (inputs : List Variable) (row : Row) → length row.coefficients ≡ length moments.before
    → MeetsOver (wider_row k row) (values v moments inputs) d → MeetsOver row (map v moments.before) d
from-state v d k moments inputs row one h =
    over-back row (row.coefficients ++ zeros k) (map v moments.before) (values v moments inputs) d
    (product-widened k row.coefficients (map v moments.before) (map v moments.after ++ map v inputs) (one ∙ sym (length-map moments.before v))) h

-- ---- a thread's own step, and the same as others see it

pub own-point : (program : Program) (i : ℕ) (thread : Thread) (edge : Edge) (moments : Moments) (inputs : List Variable) (v : Variable → ℤ) (d : ℤ) (first : NodeRow) → StepVariables program thread edge moments inputs
    → pos 0 <ℤ d → length first.row.coefficients ≡ length program.columns
    → AllMeetAt v d (named_over moments inputs (column_is (length program.columns + behind program edge) thread.counter (pos edge.from) ∷ moving_rows program thread edge))
    → MeetsOver first.row (map v moments.before) d → IsRationalPoint (own_case program i thread edge (says first)).system (values v moments inputs) d
own-point program i thread edge moments inputs v d first known positive one all premise =
    let rows = named-meet v d moments inputs (column_is (length program.columns + behind program edge) thread.counter (pos edge.from) ∷ moving_rows program thread edge) all in
    record {
      whole = omega (arith, length-values v moments inputs, known.each.before, known.each.after, known.inputs_each);
      positive = positive;
      meets = (rows.0, (to-state v d (behind program edge) moments inputs first.row (one ∙ sym known.each.before) premise, to-edge program thread edge moments inputs v d known rows.1));
    }

pub point-own : (program : Program) (i : ℕ) (thread : Thread) (edge : Edge) (moments : Moments) (inputs : List Variable) (v : Variable → ℤ) (d : ℤ) (first : NodeRow) → HasEach program moments
    → length first.row.coefficients ≡ length program.columns
    → IsRationalPoint (own_case program i thread edge (says first)).system (values v moments inputs) d
    → AllMeetAt v d (named_over moments inputs (column_is (length program.columns + behind program edge) thread.counter (pos edge.from) ∷ moving_rows program thread edge))
    × MeetsOver first.row (map v moments.before) d
point-own program i thread edge moments inputs v d first each one point = (
  meet-named v d moments inputs (column_is (length program.columns + behind program edge) thread.counter (pos edge.from) ∷ moving_rows program thread edge)
      (point.meets.0, from-edge program thread edge (values v moments inputs) d point.meets.1.1),
  from-state v d (behind program edge) moments inputs first.row (one ∙ sym each.before) point.meets.1.0,
)

-- ---- a step that is told

without-inputs : (v : Variable → ℤ) (moments : Moments) → values v moments [] ≡ map v (moments.before ++ moments.after)
without-inputs v moments = ap (λ l. map v moments.before ++ l) (append-nil (map v moments.after)) ∙ sym (map-append v moments.before moments.after)

pub env-point : (program : Program) (k l : ℕ) (other thread : Thread) (edge : Edge) (moments : Moments) (v : Variable → ℤ) (d : ℤ) (first told : NodeRow) → HasEach program moments → Keeps thread edge moments
    → pos 0 <ℤ d → length first.row.coefficients ≡ length program.columns
    → AllMeetAt v d (named_over moments [] (column_is (length program.columns + length program.columns) other.counter (pos l)
    ∷ column_is (length program.columns + length program.columns) thread.counter (pos edge.from)
    ∷ column_is (length program.columns + length program.columns) (length program.columns + thread.counter) (pos edge.to) ∷ []))
    → MeetsOver first.row (map v moments.before) d → MeetsOver told.row (map v (moments.before ++ moments.after)) d
    → IsRationalPoint (env_case program k l other thread edge (says first) (says told)).system (values v moments []) d
env-point program k l other thread edge moments v d first told each keeps positive one all premise second =
    let n = length program.columns in
    let rows = named-meet v d moments [] (column_is (n + n) other.counter (pos l) ∷ column_is (n + n) thread.counter (pos edge.from) ∷ column_is (n + n) (n + thread.counter) (pos edge.to) ∷ []) all in
    record {
      whole = omega (arith, length-values v moments [], each.before, each.after);
      positive = positive;
      meets = (
        rows.0,
        (
          to-state v d n moments [] first.row (one ∙ sym each.before) premise,
          (
            rows.1.0,
            (
              rows.1.1.0,
              AllByRecursion-append (λ row. MeetsOver row (values v moments []) d) (map (kept_row n 0) (kept_columns n thread.counter edge)) (told.row ∷ [])
                  (kept-meet program thread edge 0 moments [] v d each keeps) (subst (λ x. MeetsOver told.row x d) (sym (without-inputs v moments)) second, tt),
            ),
          ),
        ),
      );
    }

pub point-env : (program : Program) (k l : ℕ) (other thread : Thread) (edge : Edge) (moments : Moments) (v : Variable → ℤ) (d : ℤ) (first told : NodeRow) → HasEach program moments
    → length first.row.coefficients ≡ length program.columns
    → IsRationalPoint (env_case program k l other thread edge (says first) (says told)).system (values v moments []) d
    → AllMeetAt v d (named_over moments [] (column_is (length program.columns + length program.columns) other.counter (pos l)
    ∷ column_is (length program.columns + length program.columns) thread.counter (pos edge.from)
    ∷ column_is (length program.columns + length program.columns) (length program.columns + thread.counter) (pos edge.to) ∷ []))
    × MeetsOver first.row (map v moments.before) d × MeetsOver told.row (map v (moments.before ++ moments.after)) d
point-env program k l other thread edge moments v d first told each one point =
    let n = length program.columns in
    let rest = AllByRecursion-rest (λ row. MeetsOver row (values v moments []) d) (map (kept_row n 0) (kept_columns n thread.counter edge)) (told.row ∷ []) point.meets.1.1.1.1 in (
      meet-named v d moments [] (column_is (n + n) other.counter (pos l) ∷ column_is (n + n) thread.counter (pos edge.from) ∷ column_is (n + n) (n + thread.counter) (pos edge.to) ∷ [])
          (point.meets.0, (point.meets.1.1.0, (point.meets.1.1.1.0, tt))),
      from-state v d n moments [] first.row (one ∙ sym each.before) point.meets.1.0,
      subst (λ x. MeetsOver told.row x d) (without-inputs v moments) rest.0,
    )

-- ---- a step of another thread

pub inter-point : (program : Program) (k l : ℕ) (other thread : Thread) (edge : Edge) (moments : Moments) (inputs : List Variable) (v : Variable → ℤ) (d : ℤ) (first second : NodeRow)
    → StepVariables program thread edge moments inputs → pos 0 <ℤ d → length first.row.coefficients ≡ length program.columns → length second.row.coefficients ≡ length program.columns
    → AllMeetAt v d (named_over moments inputs (column_is (length program.columns + behind program edge) other.counter (pos l)
    ∷ column_is (length program.columns + behind program edge) thread.counter (pos edge.from) ∷ moving_rows program thread edge))
    → MeetsOver first.row (map v moments.before) d → MeetsOver second.row (map v moments.before) d
    → IsRationalPoint (inter_case program k l other thread edge (says first) (says second)).system (values v moments inputs) d
inter-point program k l other thread edge moments inputs v d first second known positive one two all premise more =
    let b = behind program edge in
    let n = length program.columns in
    let rows = named-meet v d moments inputs (column_is (n + b) other.counter (pos l) ∷ column_is (n + b) thread.counter (pos edge.from) ∷ moving_rows program thread edge) all in
    record {
      whole = omega (arith, length-values v moments inputs, known.each.before, known.each.after, known.inputs_each);
      positive = positive;
      meets = (
        rows.0,
        (
          to-state v d b moments inputs first.row (one ∙ sym known.each.before) premise,
          (rows.1.0, (to-state v d b moments inputs second.row (two ∙ sym known.each.before) more, to-edge program thread edge moments inputs v d known rows.1.1)),
        ),
      );
    }

pub point-inter : (program : Program) (k l : ℕ) (other thread : Thread) (edge : Edge) (moments : Moments) (inputs : List Variable) (v : Variable → ℤ) (d : ℤ) (first second : NodeRow)
    → HasEach program moments → length first.row.coefficients ≡ length program.columns → length second.row.coefficients ≡ length program.columns
    → IsRationalPoint (inter_case program k l other thread edge (says first) (says second)).system (values v moments inputs) d
    → AllMeetAt v d (named_over moments inputs (column_is (length program.columns + behind program edge) other.counter (pos l)
    ∷ column_is (length program.columns + behind program edge) thread.counter (pos edge.from) ∷ moving_rows program thread edge))
    × MeetsOver first.row (map v moments.before) d × MeetsOver second.row (map v moments.before) d
point-inter program k l other thread edge moments inputs v d first second each one two point =
    let b = behind program edge in
    let n = length program.columns in (
      meet-named v d moments inputs (column_is (n + b) other.counter (pos l) ∷ column_is (n + b) thread.counter (pos edge.from) ∷ moving_rows program thread edge)
          (point.meets.0, (point.meets.1.1.0, from-edge program thread edge (values v moments inputs) d point.meets.1.1.1.1)),
      from-state v d b moments inputs first.row (one ∙ sym each.before) point.meets.1.0,
      from-state v d b moments inputs second.row (two ∙ sym each.before) point.meets.1.1.1.0,
    )

-- ---- where the row of a node stands

-- behind the state before
pub product-after : (program : Program) (moments : Moments) (inputs : List Variable) (m : ℕ) (v : Variable → ℤ) (xs : List ℤ) → HasEach program moments → length xs ≡ length program.columns
    → product_of (zeros (length program.columns) ++ (xs ++ zeros m)) (values v moments inputs) ≡ product_of xs (map v moments.after)
product-after program moments inputs m v xs each one =
    product-moved (length program.columns) m xs (map v moments.before) (map v moments.after) (map v inputs) (length-map moments.before v ∙ each.before) (one ∙ sym (length-map moments.after v ∙ each.after))

-- over both states
pub product-both : (program : Program) (moments : Moments) (inputs : List Variable) (m : ℕ) (v : Variable → ℤ) (xs : List ℤ) → HasEach program moments → length xs ≡ length program.columns + length program.columns
    → product_of (xs ++ zeros m) (values v moments inputs) ≡ product_of xs (map v (moments.before ++ moments.after))
product-both program moments inputs m v xs each one =
    let seen = map v (moments.before ++ moments.after) in
    let size : length xs ≡ length seen = omega (arith, length-map (moments.before ++ moments.after) v, length-append moments.before moments.after, each.before, each.after) in
    ap (λ x. product_of (xs ++ zeros m) x) (sym (append_assoc (map v moments.before) (map v moments.after) (map v inputs)) ∙ ap (λ l. l ++ map v inputs) (sym (map-append v moments.before moments.after)))
    ∙ product-widened m xs seen (map v inputs) size
