-- States and steps are points of the systems of instances over what describes them.
use Rattle.std.proofs.Common.{◌≡◌, ℕ, suc, ◌+◌, ◌<◌, ℤ, pos, List, [], ◌∷◌, ◌++◌, map, length, get_or, refl, sym, ap, subst, ◌∙◌, arith, length-append}
use Rattle.std.specs.List.{AllByRecursion}
use Rattle.std.proofs.lemmas.List.{append-nil, get_or_append_left, get_or-append_right}
use Rattle.std.proofs.lemmas.Option.{get_or_from_slice_get}
use Rattle.lin_rows.specs.Row.{Row, Meets, product_of}
use Rattle.lin_rows.specs.System.{IsPoint}
use Rattle.lin_rows.proofs.Lists.{AllByRecursion-append, AllByRecursion-front}
use Rattle.transition_formula.specs.Program.{Column, Program, Thread, Edge, IsThreadOf, IsEdgeOf, IsProgram}
use Rattle.transition_formula.specs.Rows.{unit, kept_row, kept_columns, is_kept, edge_rows, edge_width, init_system}
use Rattle.transition_formula.specs.Step.{Steps, IsInitial}
use Rattle.transition_formula.proofs.ProductLemmas.{product_of-one, kept_product}
use Rattle.transition_formula.proofs.Programs.{counter-within}
use Rattle.transition_formula.proofs.NextValues.{range-from}
use Rattle.transition_formula.proofs.InitialRows.{init_rows-exact}
use Rattle.transition_formula.proofs.StepRows.{edge_rows-exact, length-after_step}
use Rattle.horn_rules.specs.Home.{State}
use Rattle.horn_rules.specs.Fact.{Statement, IsStatementOf}
use Rattle.horn_rules.specs.Case.{behind, state_rows, env_rows, with_edge, env_case, inter_case}
use Rattle.horn_rules.specs.Steps.{Describes}
use Rattle.horn_rules.proofs.Described.{three-lengths, arrives, starts-at, state_rows-meet}

-- ---- initial states

pub initial-length : (columns : List Column) (state : List ℤ) → IsInitial columns state → length state ≡ length columns
initial-length [] [] all = refl
initial-length [] (v ∷ state) all = absurd all
initial-length (column ∷ columns) [] all = absurd all
initial-length (column ∷ columns) (v ∷ state) all = ap suc (initial-length columns state all.1)

pub initial-point : (program : Program) (state : List ℤ) → IsInitial program.columns state → IsPoint (init_system program) state
initial-point program state initial =
    let one = initial-length program.columns state initial in
    record { whole = one; meets = (init_rows-exact program state one).1 initial }

-- ---- steps of the statement's thread

pub length-after : (thread : Thread) (edge : Edge) (before inputs after : List ℤ) → Steps thread edge before inputs after → length after ≡ length before
length-after thread edge before inputs after steps = ap length steps.leads ∙ length-after_step thread edge before inputs

-- rows in AllByRecursion-front that hold, and those of the edge
edge-point : (program : Program) (i e : ℕ) (thread : Thread) (edge : Edge) (rows : List Row) (before inputs after : List ℤ)
    → IsProgram program → IsEdgeOf program i e thread edge → length before ≡ length program.columns → Steps thread edge before inputs after
    → AllByRecursion (λ row. Meets row (before ++ (after ++ inputs))) rows → IsPoint (with_edge program thread edge rows) (before ++ (after ++ inputs))
edge-point program i e thread edge rows before inputs after is at one steps first =
    let n = length program.columns in
    let z = before ++ (after ++ inputs) in
    let two : length after ≡ n = length-after thread edge before inputs after steps ∙ one in
    let edge_meets = (edge_rows-exact program i e thread edge before after inputs is at one two steps.one_each).1 steps in
    let whole : length z ≡ edge_width n edge.inputs = omega (arith, three-lengths before after inputs, steps.one_each) in
    record { whole = whole; meets = AllByRecursion-append (λ row. Meets row z) rows (edge_rows n thread.counter edge) first edge_meets }

pub own-point : (program : Program) (i e : ℕ) (thread : Thread) (edge : Edge) (f : Statement) (before inputs after : List ℤ)
    → IsProgram program → IsStatementOf program f → IsEdgeOf program i e thread edge → f.home ≡ State i edge.from
    → length before ≡ length program.columns → Steps thread edge before inputs after → Describes program i f before
    → IsPoint (with_edge program thread edge (state_rows program thread edge.from f (behind program edge))) (before ++ (after ++ inputs))
own-point program i e thread edge f before inputs after is are at stands one steps told =
    edge-point program i e thread edge (state_rows program thread edge.from f (behind program edge)) before inputs after is at one steps
    (state_rows-meet program f i edge.from (behind program edge) thread before (after ++ inputs) is are at.thread_is stands one told)

-- ---- steps of another thread

pub inter-point : (program : Program) (k l i e : ℕ) (other thread : Thread) (edge : Edge) (f g : Statement) (before inputs after : List ℤ)
    → IsProgram program → IsStatementOf program f → IsStatementOf program g → IsThreadOf program k other → IsEdgeOf program i e thread edge
    → f.home ≡ State k l → g.home ≡ State i edge.from → length before ≡ length program.columns → Steps thread edge before inputs after
    → Describes program k f before → Describes program i g before → IsPoint (inter_case program k l other thread edge f g).system (before ++ (after ++ inputs))
inter-point program k l i e other thread edge f g before inputs after is are_f are_g there at stands_f stands_g one steps told_f told_g =
    let b = behind program edge in
    let z = before ++ (after ++ inputs) in
    edge-point program i e thread edge (state_rows program other l f b ++ state_rows program thread edge.from g b) before inputs after is at one steps
    (AllByRecursion-append (λ row. Meets row z) (state_rows program other l f b) (state_rows program thread edge.from g b)
    (state_rows-meet program f k l b other before (after ++ inputs) is are_f there stands_f one told_f)
    (state_rows-meet program g i edge.from b thread before (after ++ inputs) is are_g at.thread_is stands_g one told_g))

kept-meet : (n m : ℕ) (columns : List ℕ) (before after inputs : List ℤ) → length before ≡ n → length after ≡ n → AllByRecursion (λ c. c < n) columns
    → AllByRecursion (λ row. Meets row (before ++ (after ++ inputs))) (map (kept_row n m) columns) → AllByRecursion (λ row. Meets row (before ++ (after ++ []))) (map (kept_row n 0) columns)
kept-meet n m [] before after inputs one two below all = tt
kept-meet n m (c ∷ columns) before after inputs one two below all = (
  kept_product n 0 c before after [] below.0 one two ∙ sym (kept_product n m c before after inputs below.0 one two) ∙ all.0,
  kept-meet n m columns before after inputs one two below.1 all.1,
)

ends-at : (n c : ℕ) (v : ℤ) (before after : List ℤ) → length before ≡ n → length after ≡ n → c < n → get_or after c (pos 0) ≡ v
    → product_of (unit (n + n) (n + c) (pos 1)) (before ++ (after ++ [])) ≡ v
ends-at n c v before after one two h e =
    product_of-one (n + n) (n + c) (before ++ (after ++ [])) (omega arith)
    ∙ get_or-append_right before (after ++ []) n (n + c) (pos 0) one (omega arith)
    ∙ ap (λ (k : ℕ). get_or (after ++ []) k (pos 0)) (omega arith)
    ∙ get_or_append_left after [] (pos 0) c (omega arith)
    ∙ e

env_rows-meet : (program : Program) (t : Statement) (i e : ℕ) (thread : Thread) (edge : Edge) (before inputs after : List ℤ)
    → IsProgram program → IsEdgeOf program i e thread edge → length before ≡ length program.columns → Steps thread edge before inputs after
    → AllByRecursion (λ atom. Meets atom (before ++ after)) t.atoms → AllByRecursion (λ row. Meets row (before ++ (after ++ []))) (env_rows program thread edge t)
env_rows-meet program t i e thread edge before inputs after is at one steps hold =
    let n = length program.columns in
    let two : length after ≡ n = length-after thread edge before inputs after steps ∙ one in
    let within = counter-within program i thread is at.thread_is in
    let inside : thread.counter < length before = omega (arith, within.1) in
    let edge_meets = (edge_rows-exact program i e thread edge before after inputs is at one two steps.one_each).1 steps in
    let columns = kept_columns n thread.counter edge in
    let kept_before = AllByRecursion-front _ (map (kept_row n edge.inputs) columns) _ edge_meets.1.1 in
    let below = range-from (λ c. c < n) (is_kept thread.counter edge) 0 n (λ c low high pass. omega arith) in
    let kept = kept-meet n edge.inputs columns before after inputs one two below kept_before in
    let arrived = get_or_from_slice_get after thread.counter (pos edge.to) (pos 0) (arrives thread edge before inputs after inside steps) in
    let atoms = subst (λ rest. AllByRecursion (λ atom. Meets atom (before ++ rest)) t.atoms) (sym (append-nil after)) hold in (
      starts-at (n + n) thread.counter (pos edge.from) before (after ++ []) (omega arith) steps.at_source inside,
      (
        ends-at n thread.counter (pos edge.to) before after one two within.1 arrived,
        AllByRecursion-append (λ row. Meets row (before ++ (after ++ []))) (map (kept_row n 0) columns) t.atoms kept atoms,
      ),
    )

-- of the told step, the atoms of the statement that tells it are asked for alone
pub env-point : (program : Program) (k l i e : ℕ) (other thread : Thread) (edge : Edge) (f t : Statement) (before inputs after : List ℤ)
    → IsProgram program → IsStatementOf program f → IsThreadOf program k other → IsEdgeOf program i e thread edge → f.home ≡ State k l
    → length before ≡ length program.columns → Steps thread edge before inputs after → Describes program k f before
    → AllByRecursion (λ atom. Meets atom (before ++ after)) t.atoms
    → IsPoint (env_case program k l other thread edge f t).system (before ++ (after ++ []))
env-point program k l i e other thread edge f t before inputs after is are there at stands one steps told hold =
    let n = length program.columns in
    let z = before ++ (after ++ []) in
    let two : length after ≡ n = length-after thread edge before inputs after steps ∙ one in
    let first = state_rows-meet program f k l n other before (after ++ []) is are there stands one told in
    let second = env_rows-meet program t i e thread edge before inputs after is at one steps hold in
    let whole : length z ≡ n + n = omega (arith, length-append before (after ++ []), ap length (append-nil after)) in
    record {
      whole = whole;
      meets = AllByRecursion-append (λ row. Meets row z) (state_rows program other l f n) (env_rows program thread edge t) first second;
    }
