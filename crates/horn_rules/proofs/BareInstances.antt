-- Where no edge has a test and no home a predicate, some whole point meets the system of each instance.
use Rattle.std.proofs.Common.{◌≡◌, ◌≢◌, ℕ, zero, suc, ◌<◌, ℤ, pos, List, [], ◌∷◌, ◌++◌, length, get_or, cond, Option, Some, None, refl, sym, ap, subst, ◌∙◌, arith, get_or-set_same}
use Rattle.std.specs.Prelude.{slice_get, slice_set, unwrap_or}
use Rattle.std.specs.List.{AllByRecursion}
use Rattle.std.proofs.lemmas.List.{length-replicate, length-set}
use Rattle.std.proofs.lemmas.Option.{slice_get-get_or}
use Rattle.std.proofs.lemmas.Bool.{ne_eqb}
use Rattle.lin_rows.specs.Row.{Meets}
use Rattle.lin_rows.specs.System.{IsPoint}
use Rattle.farkas_cert.proofs.Refutations.{refuted-has-no-whole-point}
use Rattle.transition_formula.specs.Program.{Column, Program, Thread, Edge, IsThreadOf, IsEdgeOf, IsProgram}
use Rattle.transition_formula.specs.Rows.{zeros}
use Rattle.transition_formula.specs.Step.{Steps, MayStart, IsInitial, after_step}
use Rattle.transition_formula.proofs.Programs.{counter-within}
use Rattle.transition_formula.proofs.NextValues.{get_or-set}
use Rattle.horn_rules.specs.Home.{Home, State}
use Rattle.horn_rules.specs.Fact.{Sets, Fact, Statement, IsAtomOf, IsStatementOf, atoms_at, statement_of}
use Rattle.horn_rules.specs.Instance.{Instance, Init, Own, Guar, Env as Environment, Inter, premises_of, map_instance}
use Rattle.horn_rules.specs.Case.{init, own, guar, env, inter, own_case}
use Rattle.horn_rules.specs.Steps.{Describes}
use Rattle.horn_rules.specs.Laws.{HasNoTests, BareInstancesAreOpen, EachInstanceGivesItsHome}
use Rattle.horn_rules.proofs.Points.{initial-point, own-point, env-point, inter-point}
use Rattle.horn_rules.proofs.Derivations.{each-open-gives-its-home}

-- ---- an initial state

may-start : (start : Option ℤ) → MayStart start (unwrap_or start (pos 0))
may-start None = tt
may-start (Some v) = refl

start_values : List Column → List ℤ
start_values [] = []
start_values (column ∷ columns) = unwrap_or column.start (pos 0) ∷ start_values columns

starts : (columns : List Column) → IsInitial columns (start_values columns)
unfolding start_values
starts [] = tt
starts (column ∷ columns) = (may-start column.start, starts columns)

-- ---- states with threads at given places

set-at : (state : List ℤ) (c : ℕ) (v : ℤ) → c < length state → slice_get (slice_set state c v) c ≡ Some v
set-at state c v h =
    slice_get-get_or (slice_set state c v) c (pos 0) (omega (arith, length-set state c v)) ∙ ap Some (get_or-set_same state c v (pos 0) h)

set-elsewhere : (state : List ℤ) (c d : ℕ) (v : ℤ) → d ≢ c → c < length state → slice_get (slice_set state d v) c ≡ slice_get state c
set-elsewhere state c d v apart h =
    slice_get-get_or (slice_set state d v) c (pos 0) (omega (arith, length-set state d v))
    ∙ ap Some (get_or-set state d c v h ∙ ap (λ b. cond b v (get_or state c (pos 0))) (ne_eqb d c apart))
    ∙ sym (slice_get-get_or state c (pos 0) h)

-- ---- bare statements

bare-describes : (program : Program) (i l : ℕ) (thread : Thread) (f : Statement) (state : List ℤ) → IsThreadOf program i thread → f.home ≡ State i l → f.atoms ≡ []
    → slice_get state thread.counter ≡ Some (pos l) → Describes program i f state
bare-describes program i l thread f state at is none there = record {
  l = l;
  thread = thread;
  thread_is = at;
  stands = is;
  there = there;
  hold = subst (AllByRecursion (λ atom. Meets atom state)) (sym none) tt;
}

bare-is : (program : Program) (f : Statement) → f.atoms ≡ [] → IsStatementOf program f
bare-is program f none = record { are_atoms = subst (AllByRecursion (IsAtomOf program f.home)) (sym none) tt }

-- ---- a step without tests

no_inputs : Edge → List ℤ
no_inputs edge = zeros edge.inputs

free-step : (thread : Thread) (edge : Edge) (before : List ℤ) → slice_get before thread.counter ≡ Some (pos edge.from) → edge.tests ≡ []
    → Steps thread edge before (no_inputs edge) (after_step thread edge before (no_inputs edge))
unfolding no_inputs
free-step thread edge before at none = record {
  at_source = at;
  one_each = length-replicate edge.inputs (pos 0);
  tests_hold = subst (AllByRecursion (λ row. Meets row (before ++ zeros edge.inputs))) (sym none) tt;
  leads = refl;
}

-- ---- one thread at a place

record IsStandingAt (program : Program) (thread : Thread) (l : ℕ) (state : List ℤ) : Type 0 where
  one_each : length state ≡ length program.columns
  there : slice_get state thread.counter ≡ Some (pos l)

one_there : Program → Thread → ℕ → List ℤ
one_there program thread l = slice_set (zeros (length program.columns)) thread.counter (pos l)

one-stands : (program : Program) (i l : ℕ) (thread : Thread) → IsProgram program → IsThreadOf program i thread → IsStandingAt program thread l (one_there program thread l)
unfolding one_there
one-stands program i l thread is at =
    let n = length program.columns in
    let long = length-replicate n (pos 0) in
    let within = counter-within program i thread is at in
    record {
      one_each = length-set (zeros n) thread.counter (pos l) ∙ long;
      there = set-at (zeros n) thread.counter (pos l) (omega (arith, within.1));
    }

-- ---- and another one

two_there : Program → Thread → ℕ → Thread → ℕ → List ℤ
two_there program thread l other m = slice_set (one_there program thread l) other.counter (pos m)

record AreStandingAt (program : Program) (thread : Thread) (l : ℕ) (other : Thread) (m : ℕ) (state : List ℤ) : Type 0 where
  one_each : length state ≡ length program.columns
  there : slice_get state thread.counter ≡ Some (pos l)
  other_there : slice_get state other.counter ≡ Some (pos m)

two-stand : (program : Program) (k i l m : ℕ) (thread other : Thread) → IsProgram program → k ≢ i → IsThreadOf program k thread → IsThreadOf program i other
    → AreStandingAt program thread l other m (two_there program thread l other m)
unfolding two_there
two-stand program k i l m thread other is apart at there =
    let one = one-stands program k l thread is at in
    let state = one_there program thread l in
    let within = counter-within program k thread is at in
    let within_other = counter-within program i other is there in
    let order = (is.threads_are k thread at).in_order in
    let other_order = (is.threads_are i other there).in_order in
    record {
      one_each = length-set state other.counter (pos m) ∙ one.one_each;
      there = set-elsewhere state thread.counter other.counter (pos m) (λ same. apart (omega (arith, order, other_order, same))) (omega (arith, within.1, one.one_each)) ∙ one.there;
      other_there = set-at state other.counter (pos m) (omega (arith, within_other.1, one.one_each));
    }

-- ---- all instances

own-open : (program : Program) (i e : ℕ) (thread : Thread) (edge : Edge) (f : Statement) → IsProgram program → HasNoTests program → IsEdgeOf program i e thread edge
    → f.home ≡ State i edge.from → f.atoms ≡ [] → (z : List ℤ) × IsPoint (own_case program i thread edge f).system z
own-open program i e thread edge f is free at home none =
    let before = one_there program thread edge.from in
    let stands = one-stands program i edge.from thread is at.thread_is in
    let after = after_step thread edge before (no_inputs edge) in
    let steps = free-step thread edge before stands.there (free i e thread edge at) in
    let told = bare-describes program i edge.from thread f before at.thread_is home none stands.there in
    (before ++ (after ++ no_inputs edge), own-point program i e thread edge f before (no_inputs edge) after is (bare-is program f none) at home stands.one_each steps told)

pub bare-instances-open : BareInstancesAreOpen
bare-instances-open program instance given is free none (init i thread at) = (start_values program.columns, initial-point program (start_values program.columns) (starts program.columns))
bare-instances-open program instance given is free none (own i e thread edge f at home) = own-open program i e thread edge f is free at home none.0
bare-instances-open program instance given is free none (guar i e thread edge f at home) = own-open program i e thread edge f is free at home none.0
bare-instances-open program instance given is free none (env k l i e other thread edge f t apart there at home_f home_t) =
    let before = two_there program other l thread edge.from in
    let stand = two-stand program k i l edge.from other thread is apart there.thread_is at.thread_is in
    let after = after_step thread edge before (no_inputs edge) in
    let steps = free-step thread edge before stand.other_there (free i e thread edge at) in
    let told = bare-describes program k l other f before there.thread_is home_f none.0 stand.there in
    let hold = subst (AllByRecursion (λ atom. Meets atom (before ++ after))) (sym none.1.0) tt in
    (before ++ (after ++ []), env-point program k l i e other thread edge f t before (no_inputs edge) after is (bare-is program f none.0) there.thread_is at home_f stand.one_each steps told hold)
bare-instances-open program instance given is free none (inter k l i e other thread edge f g apart there at home_f home_g) =
    let before = two_there program other l thread edge.from in
    let stand = two-stand program k i l edge.from other thread is apart there.thread_is at.thread_is in
    let after = after_step thread edge before (no_inputs edge) in
    let steps = free-step thread edge before stand.other_there (free i e thread edge at) in
    let told_f = bare-describes program k l other f before there.thread_is home_f none.0 stand.there in
    let told_g = bare-describes program i edge.from thread g before at.thread_is home_g none.1.0 stand.other_there in (
      before ++ (after ++ no_inputs edge),
      inter-point program k l i e other thread edge f g before (no_inputs edge) after is (bare-is program f none.0) (bare-is program g none.1.0) there.thread_is at home_f home_g stand.one_each steps told_f told_g,
    )

-- ---- facts without predicates

none-picked : (held : List ℕ) → atoms_at [] held ≡ []
none-picked [] = refl
none-picked (zero ∷ held) = none-picked held
none-picked (suc k ∷ held) = none-picked held

says-nothing : (sets : Sets) (fact : Fact) → ((home : Home) → sets home ≡ []) → (statement_of sets fact).atoms ≡ []
says-nothing sets fact bare = ap (λ atoms. atoms_at atoms fact.held) (bare fact.home) ∙ none-picked fact.held

premises-say-nothing : (sets : Sets) (instance : Instance Fact) → ((home : Home) → sets home ≡ [])
    → AllByRecursion (λ statement. statement.atoms ≡ []) (premises_of (map_instance (statement_of sets) instance))
premises-say-nothing sets (Init i) bare = tt
premises-say-nothing sets (Own f e) bare = (says-nothing sets f bare, tt)
premises-say-nothing sets (Guar f e) bare = (says-nothing sets f bare, tt)
premises-say-nothing sets (Environment f t) bare = (says-nothing sets f bare, (says-nothing sets t bare, tt))
premises-say-nothing sets (Inter f g e) bare = (says-nothing sets f bare, (says-nothing sets g bare, tt))

pub each-gives-its-home : EachInstanceGivesItsHome
each-gives-its-home program rule sets instance given is free bare has case =
    let (z, point) = bare-instances-open program (map_instance (statement_of sets) instance) given is free (premises-say-nothing sets instance bare) case in
    each-open-gives-its-home program rule sets instance given bare has case (λ refuted. refuted-has-no-whole-point given.system z refuted point)
