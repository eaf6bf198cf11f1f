-- What each state of a legal history keeps.
use Rattle.std.proofs.Common.{◌≡◌, ◌≢◌, ◌≤◌, ◌+◌, ℕ, Bool, not, List, [], ◌∷◌, Some, refl, sym, ap, subst, ◌∙◌, inl, inr, arith}
use Rattle.std.specs.Prelude.{◌==◌, AllPairs}
use Rattle.std.specs.List.{AllByRecursion, Contains}
use Rattle.lin_rows.proofs.Lists.{AllByRecursion-weaken}
use Rattle.transition_formula.specs.Program.{Program}
use Rattle.horn_rules.specs.Home.{Home}
use Rattle.horn_rules.specs.Fact.{Sets, Statement, statement_of}
use Rattle.horn_rules.specs.Instance.{Instance, HasKind, premises_of, map_instance}
use Rattle.horn_rules.specs.Case.{Case, IsCaseOf}
use Rattle.horn_rules.specs.Target.{target_of}
use Rattle.horn_rules.proofs.Cases.{cases-unique}
use Rattle.horn_rules.proofs.Targets.{cases-have-their-target}
use Rattle.horn_rules.proofs.Lists.{Contains-first, Contains-later, first-or-later, contains-nothing}
use Rattle.horn_rules.proofs.InstanceLists.{eq-is, is-eq}
use Rattle.derivation_tree.specs.Facts.{KeptFact}
use Rattle.core_steps.specs.State.{Opening, State, Task, Hold, held_by, holds_without, start_of}
use Rattle.core_steps.specs.Withdrawn.{remaining}
use Rattle.core_steps.specs.Allowed.{IsOver}
use Rattle.core_steps.specs.Laws.{IsPosted}
use Rattle.core_steps.proofs.Tests.{tells, true-false, filter-from, not-true}
use Rattle.core_steps.proofs.Live.{Falls, remaining-from, all-mapped, map-map, premises-same}
use Rattle.core_steps.proofs.Derived.{all-both, AreDerived}

-- Among live facts the task's instance leads to its home alone.
abbrev pub IsAimed : Program → List KeptFact → Task → Type 0
IsAimed program live task =
    (premises : Instance KeptFact) → map_instance (λ (f : KeptFact). f.id) premises ≡ task.instance → AllByRecursion (Contains live) (premises_of premises)
    → (home : Home) → target_of program (map_instance (λ (f : KeptFact). f.fact.home) premises) ≡ Some home → home ≡ task.home

-- The task was one by which a job was taken: its instance is of the rule, over ids that were given, and its epoch was its home's.
pub record WasTaken (opening : Opening) (given : ℕ) (live : List KeptFact) (epochs : Home → ℕ) (task : Task) : Type 0 where
  pub has_kind : HasKind opening.rule task.instance
  pub old : AllByRecursion (λ id. id ≤ given) (premises_of task.instance)
  pub aimed : IsAimed opening.program live task
  pub epoch : task.epoch ≤ epochs task.home

pub record Keeps (opening : Opening) (state : State) : Type 0 where
  pub falls : Falls state.live
  pub old : AllByRecursion (λ (f : KeptFact). f.id ≤ state.given) state.live
  pub derived : AreDerived opening.program opening.rule state.sets state.live
  pub held_taken : (hold : Hold) → Contains state.holds hold → WasTaken opening state.given state.live state.epochs hold.task
  pub held_new : (hold : Hold) → Contains state.holds hold → ¬ Contains state.published hold.task
  pub held_apart : (one other : Hold) → Contains state.holds one → Contains state.holds other → one.task ≡ other.task → one.worker ≡ other.worker
  pub published_taken : (task : Task) → Contains state.published task → WasTaken opening state.given state.live state.epochs task
  pub once : AllPairs (λ one other. one ≢ other) state.published
  pub posted : (task : Task) → Contains state.published task → task.epoch ≡ state.epochs task.home
      → (given : Case) → IsOver opening.program state.sets state.live task.instance given → IsPosted state given

-- ---- tasks

-- the case of a task is at its home
pub target-home : (opening : Opening) (sets : Sets) (n : ℕ) (live : List KeptFact) (epochs : Home → ℕ) (task : Task) (given : Case)
    → WasTaken opening n live epochs task → IsOver opening.program sets live task.instance given → given.target ≡ task.home
target-home opening sets n live epochs task given taken over =
    let led = cases-have-their-target opening.program (map_instance (λ (f : KeptFact). statement_of sets f.fact) over.premises) given over.is_case in
    let same = map-map (λ (f : KeptFact). statement_of sets f.fact) (λ statement. Statement.home statement) over.premises in
    taken.aimed over.premises over.ids_are over.are_live given.target (ap (target_of opening.program) (sym same) ∙ led)

-- an instance has one case over live facts
pub over-same : (program : Program) (sets : Sets) (live : List KeptFact) (instance : Instance ℕ) (one other : Case) → Falls live
    → IsOver program sets live instance one → IsOver program sets live instance other → one ≡ other
over-same program sets live instance one other falls a b =
    let same = premises-same live a.premises b.premises falls a.are_live b.are_live (a.ids_are ∙ sym b.ids_are) in
    cases-unique program (map_instance (λ (f : KeptFact). statement_of sets f.fact) b.premises) one other
    (subst (λ p. IsCaseOf program (map_instance (λ (f : KeptFact). statement_of sets f.fact) p) one) same a.is_case) b.is_case

-- what old ids name among more facts was there before
older-premises : (n : ℕ) (f : KeptFact) (live : List KeptFact) (instance : Instance ℕ) (premises : Instance KeptFact) → f.id ≡ n + 1
    → AllByRecursion (λ id. id ≤ n) (premises_of instance) → map_instance (λ (g : KeptFact). g.id) premises ≡ instance
    → AllByRecursion (Contains (f ∷ live)) (premises_of premises) → AllByRecursion (Contains live) (premises_of premises)
older-premises n f live instance premises next old ids all =
    let ids_old = all-mapped (λ id. id ≤ n) (λ (g : KeptFact). g.id) premises (subst (λ i. AllByRecursion (λ id. id ≤ n) (premises_of i)) (sym ids) old) in
    AllByRecursion-weaken (λ (g : KeptFact). Contains (f ∷ live) g × (g.id ≤ n)) (Contains live) (λ g pair. older g pair.0 pair.1) (premises_of premises)
    (all-both (Contains (f ∷ live)) (λ (g : KeptFact). g.id ≤ n) (premises_of premises) all ids_old)
  where
    older : (g : KeptFact) → Contains (f ∷ live) g → g.id ≤ n → Contains live g
    older g there below = elim (first-or-later f g live there) [
      | inl same ↦ let ids_same : f.id ≡ g.id = ap (λ h. KeptFact.id h) same in absurd (omega (arith, ids_same, next, below))
      | inr later ↦ later
    ]

-- ---- one more fact

pub over-older : (program : Program) (sets : Sets) (n : ℕ) (f : KeptFact) (live : List KeptFact) (instance : Instance ℕ) (given : Case) → f.id ≡ n + 1
    → AllByRecursion (λ id. id ≤ n) (premises_of instance) → IsOver program sets (f ∷ live) instance given → IsOver program sets live instance given
over-older program sets n f live instance given next old over = record {
  premises = over.premises;
  ids_are = over.ids_are;
  are_live = older-premises n f live instance over.premises next old over.ids_are over.are_live;
  is_case = over.is_case;
}

pub taken-later : (opening : Opening) (n : ℕ) (f : KeptFact) (live : List KeptFact) (epochs : Home → ℕ) (task : Task) → f.id ≡ n + 1
    → WasTaken opening n live epochs task → WasTaken opening f.id (f ∷ live) epochs task
taken-later opening n f live epochs task next taken = record {
  has_kind = taken.has_kind;
  old = AllByRecursion-weaken (λ id. id ≤ n) (λ id. id ≤ f.id) (λ id below. omega (arith, below, next)) (premises_of task.instance) taken.old;
  aimed = λ premises ids all home is. taken.aimed premises ids (older-premises n f live task.instance premises next taken.old ids all) home is;
  epoch = taken.epoch;
}

-- ---- some facts less

pub taken-still : (opening : Opening) (n : ℕ) (changed : Home → Bool) (live : List KeptFact) (epochs later : Home → ℕ) (task : Task) → ((home : Home) → epochs home ≤ later home)
    → WasTaken opening n live epochs task → WasTaken opening n (remaining changed live) later task
taken-still opening n changed live epochs later task grow taken = record {
  has_kind = taken.has_kind;
  old = taken.old;
  aimed = λ premises ids all home is.
      taken.aimed premises ids (AllByRecursion-weaken (Contains (remaining changed live)) (Contains live) (λ f there. remaining-from changed live f there) (premises_of premises) all) home is;
  epoch = let more = grow task.home in omega (arith, more, taken.epoch);
}

-- ---- the start

pub keeps-start : (opening : Opening) → Keeps opening (start_of opening)
keeps-start opening = record {
  falls = tt;
  old = tt;
  derived = tt;
  held_taken = λ hold there. absurd (contains-nothing hold there);
  held_new = λ hold there. absurd (contains-nothing hold there);
  held_apart = λ one other there. absurd (contains-nothing one there);
  published_taken = λ task there. absurd (contains-nothing task there);
  once = λ i j d p q. absurd (omega (arith, q));
  posted = λ task there. absurd (contains-nothing task there);
}

-- ---- jobs that are let go

pub keeps-fewer : (opening : Opening) (state : State) (holds : List Hold) → ((hold : Hold) → Contains holds hold → Contains state.holds hold)
    → Keeps opening state → Keeps opening (record state { holds = holds })
keeps-fewer opening state holds fewer keeps = record {
  falls = keeps.falls;
  old = keeps.old;
  derived = keeps.derived;
  held_taken = λ hold there. keeps.held_taken hold (fewer hold there);
  held_new = λ hold there. keeps.held_new hold (fewer hold there);
  held_apart = λ one other there also. keeps.held_apart one other (fewer one there) (fewer other also);
  published_taken = keeps.published_taken;
  once = keeps.once;
  posted = keeps.posted;
}

-- what w does not hold
pub without-from : (w : ℕ) (holds : List Hold) (hold : Hold) → Contains (holds_without w holds) hold → Contains holds hold × (hold.worker ≢ w)
without-from w holds hold there =
    let (kept, other) = filter-from (λ (h : Hold). not (h.worker == w)) holds hold there in
    (kept, λ same. true-false (hold.worker == w) (is-eq hold.worker w same) (not-true (hold.worker == w) other))

-- what w holds is there
pub held_by-found : (holds : List Hold) (w : ℕ) (task : Task) → held_by holds w ≡ Some task → (hold : Hold) × Contains holds hold × (hold.worker ≡ w) × (hold.task ≡ task)
held_by-found [] w task e = absurd cc
held_by-found (h ∷ holds) w task e = elim (tells (h.worker == w)) [
  | inl hit ↦
      let at : held_by (h ∷ holds) w ≡ Some h.task = rw hit refl in
      let same : h.task ≡ task = let both_some : Some h.task ≡ Some task = sym at ∙ e in cc in
      (h, Contains-first h holds, eq-is h.worker w hit, same)
  | inr miss ↦
      let at : held_by (h ∷ holds) w ≡ held_by holds w = rw miss refl in
      let (found, there, is, same) = held_by-found holds w task (sym at ∙ e) in
      (found, Contains-later h found holds there, is, same)
]
