-- How homes get predicates, and what goes where they do.
use Rattle.std.specs.Prelude.{◌≡◌, ◌⊎◌, ◌<◌, ◌≤◌, ◌+◌, ◌-◌, ℕ, Bool, true, false, not, is_some, if◌then◌else◌, List, [], ◌∷◌, ◌++◌, length, map, filter, Option, Some, None, IsSome}
use Rattle.std.specs.List.{AllByRecursion, Contains}
use Rattle.thr_base.specs.Limits.{most_predicates}
use Rattle.thr_base.specs.declared.names.HomeNo.{HomeNo}
use Rattle.lin_rows.specs.Row.{Row}
use Rattle.predicate_sets.specs.Sets.{set_at, with_set}
use Rattle.predicate_sets.specs.HomeSet.{Lacks}
use Rattle.fact_table.specs.declared.live_fact.LiveFact.{LiveFact}
use Rattle.fact_table.specs.Live.{live_at}
use Rattle.transition_formula.specs.Program.{Program, at_number}
use Rattle.horn_rules.specs.Home.{Home, homes}
use Rattle.horn_rules.specs.Predicate.{Predicate}
use Rattle.horn_rules.specs.Stored.{home_numbered}
use Rattle.derivation_tree.specs.Kept.{Lesson, predicates_of_stored}
use Rattle.pending_instances.specs.Pending.{is_among}
use Rattle.core_steps.specs.declared.growing.Growth.{Growth}
use Rattle.core_steps.specs.declared.growing.Growth.TheVariants as growth
use Rattle.core_steps.specs.State.{Opening, State, claimed_by}
use Rattle.core_steps.specs.Event.{StaleRefine}
use Rattle.core_steps.specs.Withdrawn.{has_id, remaining}
use Rattle.core_steps.specs.Predicates.{with_predicates, is_changed, AreNew, Overfills}
use Rattle.core_steps.specs.Claims.{KeptAgrees}
use Rattle.core_steps.specs.Refines.{IsSmall}
use Rattle.core_steps.specs.Readers.{IsListsOf}
use Rattle.core_steps.specs.Course.{Course, state_of, with_events}

-- a predicate as it is stored
abbrev pub StoredPredicate : Type 0
StoredPredicate = HomeNo × Row

-- ---- a claim that is refined

-- It is the run's, and stands.
pub record Stands (opening : Opening) (state : State) (lesson : Lesson) : Type 0 where
  pub program_is : lesson.kept.program ≡ opening.program
  pub small : IsSmall opening lesson
  pub no_stop : state.stop ≡ None
  pub claimed : claimed_by state.claims lesson.kept.worker ≡ Some lesson.kept.root
  pub is_live : has_id state.live lesson.kept.root ≡ true
  pub agrees : KeptAgrees state lesson.kept

-- After a stop: the claim that the worker holds is dropped, if it holds one.
abbrev pub DropsAnyClaim : Course → ℕ → Course → Type 0
DropsAnyClaim old w new =
    ((claimed_by (state_of old).claims w ≡ None) × (new ≡ old))
    ⊎ ((id : ℕ) × (claimed_by (state_of old).claims w ≡ Some id) × (new ≡ with_events old (StaleRefine w ∷ [])))

-- ---- predicates

-- The predicate's home exists.
abbrev pub HasItsNumber : Program → StoredPredicate → Type 0
HasItsNumber program pair = IsSome (at_number (homes program) pair.0.0)

-- Each home has its list, where homes got these predicates.
abbrev pub AreListsWith : Program → State → List Predicate → List (List Row) → Type 0
AreListsWith program state new lists = IsListsOf program (record state { sets = with_predicates state.sets new }) lists

-- How a predicate comes in: its home's list is full; or it has the predicate already, or gets it at its end.
abbrev pub GrowsBy : List (List Row) → List StoredPredicate → StoredPredicate → Bool → List (List Row) → List StoredPredicate → Type 0
GrowsBy lists new pair true later more = Lacks (set_at lists pair.0.0) pair.1 × (most_predicates ≤ length (set_at lists pair.0.0))
GrowsBy lists new pair false later more =
    (Contains (set_at lists pair.0.0) pair.1 × (later ≡ lists) × (more ≡ new))
    ⊎ (Lacks (set_at lists pair.0.0) pair.1 × (length (set_at lists pair.0.0) < most_predicates)
    × (later ≡ with_set lists pair.0.0 (set_at lists pair.0.0 ++ pair.1 ∷ [])) × (more ≡ new ++ pair ∷ []))

-- Where these predicates came in first and those are left, what they come to is what all come to.
pub record IsGrown (program : Program) (state : State) (all left new : List Predicate) (lists : List (List Row)) : Type 0 where
  pub are_new : (rest : List Predicate) → AreNew (with_predicates state.sets new) left rest → AreNew state.sets all (new ++ rest)
  pub overfills : (home : Home) → Overfills (with_predicates state.sets new) left home → Overfills state.sets all home
  pub lists_are : AreListsWith program state new lists

-- All came in, or this home is the first that would get too many.
abbrev pub Grows : Program → State → List Predicate → Option HomeNo → List StoredPredicate → List (List Row) → Type 0
Grows program state all None new lists =
    AreNew state.sets all (predicates_of_stored program new) × AreListsWith program state (predicates_of_stored program new) lists × AllByRecursion (HasItsNumber program) new
Grows program state all (Some home) new lists = IsSome (at_number (homes program) home.0) × Overfills state.sets all (home_numbered program home.0)

abbrev pub IsGrowth : Program → State → List Predicate → Growth → Type 0
IsGrowth program state all (growth.New sets new) = Grows program state all None new.items sets
IsGrowth program state all (growth.Full home) = Grows program state all (Some home) [] []

-- ---- what goes

-- the homes of predicates
abbrev pub homes_of : List StoredPredicate → List HomeNo
homes_of new = map (λ pair. pair.0) new

-- the homes of the facts that are live no more
abbrev pub lost_homes : List LiveFact → List LiveFact → List HomeNo
lost_homes later before = map (λ f. f.fact.home) (filter (λ f. not (is_some (live_at later f.id.0))) before)

-- the epochs of homes by number, of which the first has number n: the next of each that is among these
abbrev pub raised : List HomeNo → ℕ → List ℕ → List ℕ
raised renewed n [] = []
raised renewed n (epoch ∷ epochs) = (if is_among renewed (record { 0 = n }) then epoch + 1 else epoch) ∷ raised renewed (n + 1) epochs

-- so many facts go
abbrev pub gone_with : State → List Predicate → ℕ
gone_with state new = length state.live - length (remaining (is_changed new) state.live)
