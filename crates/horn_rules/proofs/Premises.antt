-- The rows of a premise, made one after another.
use Rattle.std.proofs.Common.{◌≡◌, ℕ, zero, suc, ◌+◌, ◌-◌, ◌*◌, ◌<◌, ◌≤◌, Bool, true, false, List, [], ◌∷◌, ◌++◌, map, filter, length, Option, Some, None, refl, sym, ◌∙◌, ap, ap₂, arith, pos, ◌^◌, append_assoc, length-append}
use Rattle.std.proofs.lemmas.List.{map-append, append-nil, length-map}
use Rattle.std.proofs.lemmas.List.Elements.{filter-append, filter_map-append}
use Rattle.std.specs.Prelude.{slice_get, cond, filter_map}
use Rattle.std.specs.List.{range_with_len, cons_option}
use Rattle.lin_rows.specs.Row.{Row}
use Rattle.lin_rows.specs.System.{System, with_row, with_rows}
use Rattle.std.specs.Prelude.{option_map}
use Rattle.transition_formula.specs.Program.{Program, Thread, Edge, IsProgram, IsThreadOf, IsEdgeOf, at_number}
use Rattle.transition_formula.specs.Rows.{column_is, edge_rows, edge_system, seen_system, kept_columns, kept_row, is_kept, test_row, set_row}
use Rattle.transition_formula.proofs.Programs.{edge-is, sets-within, few_sets}
use Rattle.std.proofs.lemmas.List.FromFn.{length-range_with_len}
use Rattle.std.proofs.lemmas.List.Sums.{length-filter, count_by-le-length}
use Rattle.std.specs.List.{AllByRecursion}
use Rattle.lin_rows.proofs.Lists.{AllByRecursion-weaken}
use Rattle.horn_rules.specs.declared.job.Premise.{Premise}
use Rattle.horn_rules.specs.Home.{Home, State, Env, home_width}
use Rattle.thr_base.specs.Held.{holds, positions}
use Rattle.thr_base.specs.Limits.{most_predicates}
use Rattle.horn_rules.specs.Fact.{Statement, IsSetOf, IsAtomOf, atoms_at}
use Rattle.horn_rules.specs.Case.{wider_row, state_rows, env_rows, with_edge, behind}
use Rattle.horn_rules.specs.Job.{premise_says}
use Rattle.horn_rules.specs.inside.JobRows.{said_rows}

-- ---- atoms that are held

slice_get-past : {A : Type 0} (xs : List A) (k : ℕ) → length xs ≤ k → slice_get xs k ≡ None
slice_get-past [] zero past = refl
slice_get-past [] (suc k) past = refl
slice_get-past (x ∷ xs) zero past = absurd (omega arith)
slice_get-past (x ∷ xs) (suc k) past = slice_get-past xs k (omega arith)

numbered-past : {A : Type 0} (xs : List A) (k : ℕ) → length xs ≤ k - 1 → at_number xs k ≡ None
numbered-past xs zero past = refl
numbered-past xs (suc k) past = slice_get-past xs k (omega arith)

-- where a list ends before a position, nothing is there
pub none_there : (w : Row → Row) (atoms : List Row) (held : Bool) (position : ℕ) (system : System) → held ≡ true → length atoms ≤ position - 1
    → system ≡ with_rows system (map w (filter_map (at_number atoms) (cond held (position ∷ []) [])))
none_there w atoms held position system is past =
    rw (is, numbered-past atoms position past) (ap (λ rows. record system { rows = rows }) (sym (append-nil system.rows)))

-- before the first position, all are left
pub held-start : (w : Row → Row) (atoms done : List Row) (held : ℕ)
    → done ++ map w (filter_map (at_number atoms) (filter (holds held) (range_with_len 1 most_predicates))) ≡ done ++ map w (atoms_at atoms (positions held))
unfolding positions
held-start w atoms done held = refl

-- one position more
pub held-next : (w : Row → Row) (g : ℕ → Option Row) (p : ℕ → Bool) (done more total : List Row) (k : ℕ) → k < most_predicates + 1 → more ≡ done ++ map w (filter_map g (filter p (k ∷ [])))
    → done ++ map w (filter_map g (filter p (range_with_len k (most_predicates + 1 - k)))) ≡ total → more ++ map w (filter_map g (filter p (range_with_len (k + 1) (most_predicates + 1 - (k + 1))))) ≡ total
held-next w g p done more total k below is made =
    let rest = range_with_len (k + 1) (129 - (k + 1)) in
    let left : most_predicates + 1 - k ≡ suc (most_predicates + 1 - (k + 1)) = omega arith in
    let whole : map w (filter_map g (filter p (k ∷ rest))) ≡ map w (filter_map g (filter p (k ∷ []))) ++ map w (filter_map g (filter p rest)) =
    ap (λ l. map w (filter_map g l)) (filter-append p (k ∷ []) rest)
    ∙ ap (map w) (filter_map-append g (filter p (k ∷ [])) (filter p rest))
    ∙ map-append w (filter_map g (filter p (k ∷ []))) (filter_map g (filter p rest)) in
    ap (λ l. l ++ map w (filter_map g (filter p rest))) is
    ∙ append_assoc done (map w (filter_map g (filter p (k ∷ [])))) (map w (filter_map g (filter p rest)))
    ∙ ap (λ l. done ++ l) (sym whole)
    ∙ ap (λ n. done ++ map w (filter_map g (filter p (range_with_len k n)))) (sym left)
    ∙ made

one_given : (w : Row → Row) (given : Option Row) → length (map w (cons_option given [])) ≤ 1
one_given w None = omega arith
one_given w (Some row) = omega arith

one_held : (w : Row → Row) (g : ℕ → Option Row) (held : Bool) (k : ℕ) → length (map w (filter_map g (cond held (k ∷ []) []))) ≤ 1
one_held w g true k = one_given w (g k)
one_held w g false k = omega arith

pub held-room : (w : Row → Row) (g : ℕ → Option Row) (p : ℕ → Bool) (done more : List Row) (k n : ℕ) → more ≡ done ++ map w (filter_map g (filter p (k ∷ [])))
    → length done + 1 ≤ n + k → length more + 1 ≤ n + (k + 1)
held-room w g p done more k n is room = omega (arith, ap length is, length-append done (map w (filter_map g (filter p (k ∷ [])))), one_held w g (p k) k)

-- ---- counters

pub counter-is : (program : Program) (i : ℕ) (thread : Thread) (column : ℕ) → option_map (λ (found : Thread). found.counter) (at_number program.threads i) ≡ Some column → IsThreadOf program i thread
    → column ≡ thread.counter
counter-is program i thread column e at =
    let here : Some thread.counter ≡ Some column = sym (ap (option_map (λ (found : Thread). found.counter)) at) ∙ e in
    cc

-- ---- what a premise says

pub atoms-over : (program : Program) (home : Home) (atoms given : List Row) (n : ℕ) → IsSetOf program home atoms → given ≡ atoms → n ≡ home_width (length program.columns) home
    → AllByRecursion (λ atom. length atom.coefficients ≡ n) given
atoms-over program home atoms given n is same width =
    rw (same, width) (AllByRecursion-weaken (IsAtomOf program home) (λ atom. length atom.coefficients ≡ home_width (length program.columns) home) (λ atom h. h.one_each) atoms is.are_atoms)

pub said-next : (program : Program) (first more last : System) (n width : ℕ) (thread : Thread) (a b i l : ℕ) (premise : Premise) (set : List Row) → Some (State a b) ≡ Some (State i l)
    → more ≡ with_row first (column_is first.columns thread.counter (pos b)) → last ≡ with_rows more (map (wider_row (more.columns - width)) (atoms_at set (positions premise.fact.held)))
    → width ≡ n → set ≡ premise.set.value → last ≡ with_rows first (said_rows n first.columns thread l (premise_says program premise).atoms)
said-next program first more last n width thread a b i l premise set home more_is last_is count same =
    let place : b ≡ l = cc in
    let row = column_is first.columns thread.counter (pos l) in
    let atoms = map (wider_row (first.columns - n)) (atoms_at premise.set.value (positions premise.fact.held)) in
    rw (last_is, same, count, more_is, place) (ap (λ rows. record { columns = first.columns; rows = rows }) (append_assoc first.rows (row ∷ []) atoms))

pub same_thread : (program : Program) (a b i l : ℕ) (thread : Thread) → Some (State a b) ≡ Some (State i l) → IsThreadOf program i thread → IsThreadOf program a thread
same_thread program a b i l thread home at = let same : a ≡ i = cc in rw same at

-- they are those of what it says
pub said_is : (program : Program) (f : Statement) (thread : Thread) (l k width : ℕ) → width ≡ length program.columns + k
    → said_rows (length program.columns) width thread l f.atoms ≡ state_rows program thread l f k
said_is program f thread l k width is =
    let n = length program.columns in
    ap (λ w. said_rows n w thread l f.atoms) is ∙ ap (λ (j : ℕ). column_is (n + k) thread.counter (pos l) ∷ map (wider_row j) f.atoms) (omega arith)

-- two lists of rows behind none
with_rows-two : (columns : ℕ) (first first' second second' : List Row) (empty said last rows : System) → empty ≡ record { columns = rows.columns; rows = [] } → said ≡ with_rows empty first
    → last ≡ with_rows said second → first ≡ first' → second ≡ second' → rows.columns ≡ columns → last ≡ record { columns = columns; rows = first' ++ second' }
with_rows-two columns first first' second second' empty said last rows empty_is said_is last_is same same' width =
    last_is
    ∙ ap (λ system. with_rows system second) (said_is ∙ ap (λ system. with_rows system first) empty_is)
    ∙ ap₂ (λ (n : ℕ) (l : List Row). record { columns = n; rows = l ++ second }) width same
    ∙ ap (λ (l : List Row). record { columns = columns; rows = first' ++ l }) same'

pub step_is : (program : Program) (f : Statement) (thread : Thread) (edge : Edge) (empty said last rows : System)
    → rows ≡ edge_system program thread edge → empty ≡ record { columns = rows.columns; rows = [] }
    → said ≡ with_rows empty (said_rows (length program.columns) empty.columns thread edge.from f.atoms) → last ≡ with_rows said rows.rows
    → last ≡ with_edge program thread edge (state_rows program thread edge.from f (behind program edge))
step_is program f thread edge empty said last rows rows_is empty_is said_is_ last_is =
    let width = ap (λ system. system.columns) rows_is in
    with_rows-two _ _ _ _ _ empty said last rows empty_is said_is_ last_is
    (said_is program f thread edge.from (behind program edge) empty.columns (ap (λ system. system.columns) empty_is ∙ width))
    (ap (λ system. system.rows) rows_is) width

pub same_edge : (program : Program) (a b i l e : ℕ) (thread : Thread) (edge : Edge) → Some (State a b) ≡ Some (State i l) → IsEdgeOf program i e thread edge → IsEdgeOf program a e thread edge
same_edge program a b i l e thread edge home is = record { thread_is = same_thread program a b i l thread home is.thread_is; edge_is = is.edge_is }

pub wide : (program : Program) (thread : Thread) (edge : Edge) (rows view empty : System) (w : ℕ) → rows ≡ edge_system program thread edge → view ≡ rows → w ≡ view.columns
    → empty ≡ record { columns = w; rows = [] } → length program.columns ≤ empty.columns
wide program thread edge rows view empty w is same width made =
    omega (arith, ap (λ system. system.columns) is, ap (λ system. system.columns) same, width, ap (λ system. system.columns) made)

pub few_edge_rows : (program : Program) (i e : ℕ) (thread : Thread) (edge : Edge) → IsProgram program → IsEdgeOf program i e thread edge
    → length (edge_rows (length program.columns) thread.counter edge) ≤ 2 ^ 21
few_edge_rows program i e thread edge is at =
    let n = length program.columns in
    let well = edge-is program i e thread edge is at.thread_is at.edge_is in
    let kept = kept_columns n thread.counter edge in
    let kept_rows = map (kept_row n edge.inputs) kept in
    let tests = map (test_row n) edge.tests in
    let sets = map (set_row n) edge.sets in
    let few_kept : length kept ≤ n = omega (arith, length-filter (is_kept thread.counter edge) (range_with_len 0 n), count_by-le-length (is_kept thread.counter edge) (range_with_len 0 n), length-range_with_len 0 n) in
    let set_few = few_sets edge.sets n (sets-within program edge.sets well.sets_no_counter) well.sets_none_twice in
    omega (arith, length-append kept_rows (tests ++ sets), length-append tests sets, length-map kept (kept_row n edge.inputs), length-map edge.tests (test_row n), length-map edge.sets (set_row n), few_kept, set_few, well.few_tests, is.few_columns)

-- a premise's rows and an edge's have room in one system
pub room : (program : Program) (i e k : ℕ) (thread : Thread) (edge : Edge) (rows view empty said : System) (w : ℕ) → IsProgram program → IsEdgeOf program i e thread edge
    → rows ≡ edge_system program thread edge → view ≡ rows → empty ≡ record { columns = w; rows = [] } → length said.rows ≤ length empty.rows + k → k ≤ 2 * (most_predicates + 1)
    → length said.rows + length view.rows < 2 ^ 32 - 1
room program i e k thread edge rows view empty said w is at rows_is same made few less =
    omega (arith, few_edge_rows program i e thread edge is at, ap (λ system. length system.rows) rows_is, ap (λ system. length system.rows) same, ap (λ system. length system.rows) made, few)

-- ---- two premises

pub inter_is : (program : Program) (f g : Statement) (l : ℕ) (other thread : Thread) (edge : Edge) (empty one two last rows : System)
    → rows ≡ edge_system program thread edge → empty ≡ record { columns = rows.columns; rows = [] }
    → one ≡ with_rows empty (said_rows (length program.columns) empty.columns other l f.atoms) → two ≡ with_rows one (said_rows (length program.columns) one.columns thread edge.from g.atoms)
    → last ≡ with_rows two rows.rows
    → last ≡ with_edge program thread edge (state_rows program other l f (behind program edge) ++ state_rows program thread edge.from g (behind program edge))
inter_is program f g l other thread edge empty one two last rows rows_is empty_is one_is two_is last_is =
    let n = length program.columns in
    let width = ap (λ system. system.columns) rows_is in
    let before = said_rows n empty.columns other l f.atoms in
    let after = said_rows n one.columns thread edge.from g.atoms in
    let whole = ap (λ system. system.columns) empty_is ∙ width in
    let both : two ≡ with_rows empty (before ++ after) = two_is ∙ ap (λ system. with_rows system after) one_is ∙ ap (λ (rows : List Row). record { columns = empty.columns; rows = rows }) (append_assoc empty.rows before after) in
    with_rows-two _ _ _ _ _ empty two last rows empty_is both last_is
    (ap₂ (λ (a : List Row) (b : List Row). a ++ b) (said_is program f other l (behind program edge) empty.columns whole)
    (said_is program g thread edge.from (behind program edge) one.columns (ap (λ system. system.columns) one_is ∙ whole)))
    (ap (λ system. system.rows) rows_is) width

widened-none : (rows : List Row) → map (wider_row 0) rows ≡ rows
widened-none [] = refl
widened-none (row ∷ rows) = ap₂ (λ (a : Row) (b : List Row). a ∷ b) (ap (λ l. record row { coefficients = l }) (append-nil row.coefficients)) (widened-none rows)

widened-same : (k : ℕ) (rows : List Row) → k ≡ 0 → map (wider_row k) rows ≡ rows
widened-same k rows none = rw none (widened-none rows)

pub env_is : (program : Program) (f t : Statement) (l w : ℕ) (other thread : Thread) (edge : Edge) (atoms : List Row) (empty one two last rows : System)
    → rows ≡ seen_system program thread edge → empty ≡ record { columns = rows.columns; rows = [] } → w ≡ rows.columns
    → one ≡ with_rows empty (said_rows (length program.columns) empty.columns other l f.atoms) → two ≡ with_rows one rows.rows → atoms ≡ t.atoms
    → last ≡ with_rows two (map (wider_row (two.columns - w)) atoms)
    → last ≡ record { columns = length program.columns + length program.columns; rows = state_rows program other l f (length program.columns) ++ env_rows program thread edge t }
env_is program f t l w other thread edge atoms empty one two last rows rows_is empty_is wide one_is two_is same last_is =
    let n = length program.columns in
    let width = ap (λ system. system.columns) rows_is in
    let whole = ap (λ system. system.columns) empty_is ∙ width in
    let placed = map (wider_row (two.columns - w)) atoms in
    let all : two.columns ≡ w = ap (λ system. system.columns) two_is ∙ ap (λ system. system.columns) one_is ∙ ap (λ system. system.columns) empty_is ∙ sym wide in
    let both : last ≡ with_rows one (rows.rows ++ placed) = last_is ∙ ap (λ system. with_rows system placed) two_is ∙ ap (λ (l : List Row). record { columns = one.columns; rows = l }) (append_assoc one.rows rows.rows placed) in
    let held : placed ≡ t.atoms = widened-same (two.columns - w) atoms (omega (arith, all)) ∙ same in
    with_rows-two _ _ _ _ _ empty one last rows empty_is one_is both
    (said_is program f other l n empty.columns whole)
    (ap₂ (λ (a : List Row) (b : List Row). a ++ b) (ap (λ system. system.rows) rows_is) held) width

pub few_seen : (program : Program) (thread : Thread) (edge : Edge) (rows : System) → IsProgram program → rows ≡ seen_system program thread edge → length rows.rows ≤ 4098
few_seen program thread edge rows is rows_is =
    let n = length program.columns in
    let kept = kept_columns n thread.counter edge in
    let few_kept : length kept ≤ n = omega (arith, length-filter (is_kept thread.counter edge) (range_with_len 0 n), count_by-le-length (is_kept thread.counter edge) (range_with_len 0 n), length-range_with_len 0 n) in
    omega (arith, ap (λ system. length system.rows) rows_is, length-map kept (kept_row n 0), few_kept, is.few_columns)

pub same_seen : (program : Program) (a b i e : ℕ) (thread : Thread) (edge : Edge) → Some (Env a b) ≡ Some (Env i e) → IsEdgeOf program i e thread edge → IsEdgeOf program a b thread edge
same_seen program a b i e thread edge home is =
    let same : a ≡ i = cc in
    let number : b ≡ e = cc in
    record { thread_is = rw same is.thread_is; edge_is = rw number is.edge_is }

pub seen_wide : (program : Program) (thread : Thread) (edge : Edge) (rows view empty : System) (w : ℕ) → rows ≡ seen_system program thread edge → view ≡ rows → w ≡ view.columns
    → empty ≡ record { columns = w; rows = [] } → length program.columns ≤ empty.columns
seen_wide program thread edge rows view empty w is same width made =
    omega (arith, ap (λ system. system.columns) is, ap (λ system. system.columns) same, width, ap (λ system. system.columns) made)

-- rows of a premise with those that are seen are few
pub few_after : (seen view empty said last : System) (w : ℕ) → length seen.rows ≤ 4098 → view ≡ seen → length said.rows ≤ length empty.rows + (most_predicates + 1) → empty ≡ record { columns = w; rows = [] }
    → last ≡ with_rows said view.rows → length last.rows < 2 ^ 31
few_after seen view empty said last w few same more made is =
    omega (arith, few, ap (λ system. length system.rows) same, more, ap (λ system. length system.rows) made, ap (λ system. length system.rows) is, length-append said.rows view.rows)
