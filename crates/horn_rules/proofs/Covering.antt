-- What is closed under a rule covers all runs.
use Rattle.std.proofs.Common.{◌≡◌, ◌≢◌, ℕ, ◌<◌, ℤ, pos, List, [], ◌++◌, length, Some, sym, ap, subst, ◌∙◌, inl, inr, arith}
use Rattle.std.specs.List.{Contains, slice_get}
use Rattle.std.proofs.lemmas.Bool.Decides.{eqb_tells}
use Rattle.thr_base.specs.declared.names.RuleName.{RuleName}
use Rattle.thr_base.specs.declared.names.RuleName.TheVariants.{Rg, Og}
use Rattle.transition_formula.specs.Program.{Program, Thread, Edge, IsThreadOf, IsEdgeOf, IsProgram, at_number}
use Rattle.transition_formula.specs.Step.{Steps, IsInitial}
use Rattle.transition_formula.specs.Run.{Reaches, start, step}
use Rattle.transition_formula.specs.Laws.{FailingRunsReach}
use Rattle.transition_formula.proofs.Programs.{counter-within, edge-is}
use Rattle.horn_rules.specs.Home.{State, IsLocationOf}
use Rattle.horn_rules.specs.Fact.{Sets, Statement, AreSetsOf, IsStatementOf}
use Rattle.horn_rules.specs.Instance.{HasKind, Init, Own, Guar, Env as Environment, Inter}
use Rattle.horn_rules.specs.Case.{init_case, own_case, guar_case, env_case, inter_case, init, own, guar, env, inter}
use Rattle.horn_rules.specs.Least.{LeastSays}
use Rattle.horn_rules.specs.Steps.{Describes}
use Rattle.horn_rules.specs.Cover.{IsClosed, Covers, HasNoneFailing, NeverFails, NoRunFails, ClosedListsCover, ClosedLeastCovers, CoveredListsDoNotFail, CoveredLeastDoesNotFail, CoveredListsAreSafe, CoveredLeastIsSafe}
use Rattle.horn_rules.proofs.Lists.{all-contained}
use Rattle.horn_rules.proofs.GivenAtoms.{statement-is}
use Rattle.horn_rules.proofs.Described.{arrives, described-at, other-stays, stands-at}
use Rattle.horn_rules.proofs.OwnSteps.{counter-starts, starts-described, own-steps-described, own-steps-told}
use Rattle.horn_rules.proofs.OtherSteps.{told-steps-described, interfering-steps-described}
use Rattle.horn_rules.proofs.Points.{initial-length, initial-point, length-after, own-point, env-point, inter-point}

-- what is known of a set of statements: each is made of atoms of its home, and it is closed
record IsRuled (program : Program) (rule : RuleName) (Stands : Statement → Type 0) : Type 0 where
  program_is : IsProgram program
  are : (statement : Statement) → Stands statement → IsStatementOf program statement
  closed : IsClosed program rule Stands

-- a statement that stands describes the state at thread i
abbrev Covered : Program → (Statement → Type 0) → ℕ → List ℤ → Type 0
Covered program Stands i state = (statement : Statement) × Stands statement × Describes program i statement state

start-covered : (program : Program) (rule : RuleName) (Stands : Statement → Type 0) (i : ℕ) (thread : Thread) (state : List ℤ) → IsRuled program rule Stands
    → HasKind {F = Statement} rule (Init i) → IsThreadOf program i thread → IsInitial program.columns state → Covered program Stands i state
start-covered program rule Stands i thread state is has at initial =
    let (given, stands, gives) = is.closed (Init i) (init_case program i) state has (init i thread at) tt (initial-point program state initial) in
    (given, stands, starts-described program i thread given state is.program_is at (is.are given stands) initial gives)

own-covered : (program : Program) (rule : RuleName) (Stands : Statement → Type 0) (i e : ℕ) (thread : Thread) (edge : Edge) (f : Statement) (before inputs after : List ℤ)
    → IsRuled program rule Stands → HasKind rule (Own f e) → IsEdgeOf program i e thread edge → length before ≡ length program.columns
    → Steps thread edge before inputs after → Stands f → Describes program i f before → Covered program Stands i after
own-covered program rule Stands i e thread edge f before inputs after is has at one steps stands told =
    let home = stands-at program f before i edge.from thread told at.thread_is steps.at_source in
    let point = own-point program i e thread edge f before inputs after is.program_is (is.are f stands) at home one steps told in
    let (given, there, gives) = is.closed (Own f e) (own_case program i thread edge f) (before ++ (after ++ inputs)) has (own i e thread edge f at home) (stands, tt) point in
    (given, there, own-steps-described program i e thread edge f given before inputs after is.program_is at (is.are f stands) (is.are given there) one steps told gives)

reached-length : (program : Program) (state : List ℤ) → Reaches program state → length state ≡ length program.columns
reached-length program state (start _ initial) = initial-length program.columns state initial
reached-length program state (step taken before _ reached leads) =
    length-after leads.of_thread leads.by_edge before taken.inputs state leads.steps ∙ reached-length program before reached

-- A thread is at one of its locations.
record IsInside (thread : Thread) (state : List ℤ) : Type 0 where
  l : ℕ
  within : l < thread.locations
  there : slice_get state thread.counter ≡ Some (pos l)

-- in each state that a run comes to, each thread is at one of its locations
reached-inside : (program : Program) (state : List ℤ) (k : ℕ) (thread : Thread) → IsProgram program → Reaches program state → IsThreadOf program k thread → IsInside thread state
reached-inside program state k thread is (start _ initial) at =
    record { l = 1; within = omega (arith, (is.threads_are k thread at).has_start); there = counter-starts program k thread state is at initial }
reached-inside program state k other is (step taken before _ reached leads) there =
    let i = taken.thread in
    let thread = leads.of_thread in
    let edge = leads.by_edge in
    let at = leads.edge_is in
    let one = reached-length program before reached in
    elim (eqb_tells k i) [
      | inl (hit, same) ↦
          let both : Some other ≡ Some thread = sym there ∙ ap (at_number program.threads) same ∙ at.thread_is in
          let mine : other ≡ thread = cc in
          let place : IsInside thread state = record {
            l = edge.to;
            within = (edge-is program i taken.edge thread edge is at.thread_is at.edge_is).to_location;
            there = arrives thread edge before taken.inputs state (omega (arith, one, (counter-within program i thread is at.thread_is).1)) leads.steps;
          } in
          subst (λ found. IsInside found state) (sym mine) place
      | inr (miss, apart) ↦
          let was = reached-inside program before k other is reached there in
          record {
            l = was.l;
            within = was.within;
            there = other-stays program k i taken.edge other thread edge before taken.inputs state (pos was.l) is apart there at one leads.steps was.there;
          }
    ]

-- a statement that describes a thread in such a state stands at one of its locations
location-is : (program : Program) (state : List ℤ) (k l : ℕ) (thread : Thread) (f : Statement) → IsProgram program → Reaches program state → IsThreadOf program k thread
    → Describes program k f state → f.home ≡ State k l → IsLocationOf program k l thread
location-is program state k l thread f is reached at told stands =
    let inside = reached-inside program state k thread is reached at in
    let both : Some (pos inside.l) ≡ Some (pos l) = sym inside.there ∙ described-at program f state k l thread told at stands in
    let same : inside.l ≡ l = cc in
    record { thread_is = at; within = subst (λ n. n < thread.locations) same inside.within }

-- thread k, which f describes, stays where it is in a step of thread i, which g describes: by what is told of the step
told-covered : (program : Program) (Stands : Statement → Type 0) (k i e : ℕ) (other thread : Thread) (edge : Edge) (f g : Statement) (before inputs after : List ℤ)
    → IsRuled program Rg Stands → k ≢ i → IsThreadOf program k other → IsEdgeOf program i e thread edge → Reaches program before
    → Steps thread edge before inputs after → Stands f → Describes program k f before → Stands g → Describes program i g before → Covered program Stands k after
told-covered program Stands k i e other thread edge f g before inputs after is apart there at reached steps stands_f told_f stands_g told_g =
    let one = reached-length program before reached in
    let home_g = stands-at program g before i edge.from thread told_g at.thread_is steps.at_source in
    let own_z = own-point program i e thread edge g before inputs after is.program_is (is.are g stands_g) at home_g one steps told_g in
    let (t, stands_t, gives_t) = is.closed (Guar g e) (guar_case program i e thread edge g) (before ++ (after ++ inputs)) tt (guar i e thread edge g at home_g) (stands_g, tt) own_z in
    let tells = own-steps-told program i e thread edge g t before inputs after is.program_is at (is.are g stands_g) (is.are t stands_t) one steps told_g gives_t in
    let l = told_f.l in
    let point = env-point program k l i e other thread edge f t before inputs after is.program_is (is.are f stands_f) there at told_f.stands one steps told_f tells.hold in
    let location = location-is program before k l other f is.program_is reached there told_f told_f.stands in
    let case = env k l i e other thread edge f t apart location at told_f.stands gives_t.at_target in
    let (given, stands, gives) = is.closed (Environment f t) (env_case program k l other thread edge f t) (before ++ (after ++ [])) tt case (stands_f, (stands_t, tt)) point in (
      given,
      stands,
      told-steps-described program k l i e other thread edge f t given before inputs after is.program_is apart there at told_f.stands
          (is.are f stands_f) (is.are t stands_t) (is.are given stands) one told_f tells gives,
    )

-- the same by interference
inter-covered : (program : Program) (Stands : Statement → Type 0) (k i e : ℕ) (other thread : Thread) (edge : Edge) (f g : Statement) (before inputs after : List ℤ)
    → IsRuled program Og Stands → k ≢ i → IsThreadOf program k other → IsEdgeOf program i e thread edge → Reaches program before
    → Steps thread edge before inputs after → Stands f → Describes program k f before → Stands g → Describes program i g before → Covered program Stands k after
inter-covered program Stands k i e other thread edge f g before inputs after is apart there at reached steps stands_f told_f stands_g told_g =
    let one = reached-length program before reached in
    let home_g = stands-at program g before i edge.from thread told_g at.thread_is steps.at_source in
    let l = told_f.l in
    let point = inter-point program k l i e other thread edge f g before inputs after is.program_is (is.are f stands_f) (is.are g stands_g) there at told_f.stands home_g one steps told_f told_g in
    let location = location-is program before k l other f is.program_is reached there told_f told_f.stands in
    let case = inter k l i e other thread edge f g apart location at told_f.stands home_g in
    let (given, stands, gives) = is.closed (Inter f g e) (inter_case program k l other thread edge f g) (before ++ (after ++ inputs)) tt case (stands_f, (stands_g, tt)) point in (
      given,
      stands,
      interfering-steps-described program k l i e other thread edge f g given before inputs after is.program_is apart there at told_f.stands
          (is.are f stands_f) (is.are g stands_g) (is.are given stands) one steps told_f told_g gives,
    )

other-covered : (program : Program) (rule : RuleName) (Stands : Statement → Type 0) (k i e : ℕ) (other thread : Thread) (edge : Edge) (f g : Statement) (before inputs after : List ℤ)
    → IsRuled program rule Stands → k ≢ i → IsThreadOf program k other → IsEdgeOf program i e thread edge → Reaches program before
    → Steps thread edge before inputs after → Stands f → Describes program k f before → Stands g → Describes program i g before → Covered program Stands k after
other-covered program Rg Stands = told-covered program Stands
other-covered program Og Stands = inter-covered program Stands

-- both rules have starts and own steps
has-start : (rule : RuleName) (i : ℕ) → HasKind {F = Statement} rule (Init i)
has-start Rg i = tt
has-start Og i = tt

has-own : (rule : RuleName) (f : Statement) (e : ℕ) → HasKind rule (Own f e)
has-own Rg f e = tt
has-own Og f e = tt

covers : (program : Program) (rule : RuleName) (Stands : Statement → Type 0) → IsRuled program rule Stands → (state : List ℤ) → Reaches program state
    → (i : ℕ) (thread : Thread) → IsThreadOf program i thread → Covered program Stands i state
covers program rule Stands is state (start _ initial) i thread at = start-covered program rule Stands i thread state is (has-start rule i) at initial
covers program rule Stands is state (step taken before _ reached leads) k other there =
    let i = taken.thread in
    let e = taken.edge in
    let thread = leads.of_thread in
    let edge = leads.by_edge in
    let one = reached-length program before reached in
    let (g, stands_g, told_g) = covers program rule Stands is before reached i thread leads.edge_is.thread_is in
    elim (eqb_tells k i) [
      | inl (hit, same) ↦ subst (λ n. Covered program Stands n state) (sym same)
          (own-covered program rule Stands i e thread edge g before taken.inputs state is (has-own rule g e) leads.edge_is one leads.steps stands_g told_g)
      | inr (miss, apart) ↦
          let (f, stands_f, told_f) = covers program rule Stands is before reached k other there in
          other-covered program rule Stands k i e other thread edge f g before taken.inputs state is apart there leads.edge_is reached leads.steps stands_f told_f stands_g told_g
    ]

-- for any set of statements
pub closed-covers : (program : Program) (rule : RuleName) (Stands : Statement → Type 0) → IsProgram program → ((statement : Statement) → Stands statement → IsStatementOf program statement)
    → IsClosed program rule Stands → Covers program Stands
closed-covers program rule Stands is are closed state i thread reached at =
    covers program rule Stands (record { program_is = is; are = are; closed = closed }) state reached i thread at

pub closed-lists-cover : ClosedListsCover
closed-lists-cover program rule statements is are closed =
    closed-covers program rule (Contains statements) is (λ statement there. all-contained (IsStatementOf program) statements statement are there) closed

least-is : (program : Program) (rule : RuleName) (sets : Sets) (statement : Statement) → AreSetsOf program sets → LeastSays program rule sets statement → IsStatementOf program statement
least-is program rule sets statement are (fact, least, same) = subst (IsStatementOf program) (sym same) (statement-is program sets fact are)

pub closed-least-covers : ClosedLeastCovers
closed-least-covers program rule sets is are closed =
    closed-covers program rule (LeastSays program rule sets) is (λ statement there. least-is program rule sets statement are there) closed

-- ---- no run fails

never-fails : (program : Program) (Stands : Statement → Type 0) (i : ℕ) (thread : Thread) → Covers program Stands → IsThreadOf program i thread → HasNoneFailing Stands i → NeverFails program thread
never-fails program Stands i thread covered at none state reached fails =
    let (statement, stands, told) = covered state i thread reached at in
    none statement stands (stands-at program statement state i 0 thread told at fails)

no-run-fails : (program : Program) (Stands : Statement → Type 0) → FailingRunsReach → Covers program Stands → ((i : ℕ) → HasNoneFailing Stands i) → NoRunFails program
no-run-fails program Stands reach covered none run last is fails =
    let (state, reached, failing) = reach program run last is fails in
    never-fails program Stands failing.i failing.thread covered failing.thread_is (none failing.i) state reached failing.fails

pub lists-do-not-fail : CoveredListsDoNotFail
lists-do-not-fail program statements = never-fails program (Contains statements)

pub least-does-not-fail : CoveredLeastDoesNotFail
least-does-not-fail program rule sets = never-fails program (LeastSays program rule sets)

pub lists-are-safe : FailingRunsReach → CoveredListsAreSafe
lists-are-safe reach program statements = no-run-fails program (Contains statements) reach

pub least-is-safe : FailingRunsReach → CoveredLeastIsSafe
least-is-safe reach program rule sets = no-run-fails program (LeastSays program rule sets) reach
