-- What a refine answers.
use Rattle.std.proofs.Common.{◌≡◌, ◌≢◌, ◌<◌, ◌≤◌, ℕ, Bool, true, false, List, [], ◌∷◌, Option, Some, None, refl, sym, ap, subst, inl, inr}
use Rattle.std.specs.Prelude.{IsSome, unwrap_or}
use Rattle.std.specs.List.{AllByRecursion}
use Rattle.transition_formula.specs.Program.{Program, at_number}
use Rattle.horn_rules.specs.Home.{Home, IsHomeOf, homes, State as AtLocation}
use Rattle.horn_rules.specs.Predicate.{Predicate, IsPredicateOf}
use Rattle.horn_rules.specs.Stored.{home_numbered}
use Rattle.horn_rules.proofs.HomesThere.{state-thread}
use Rattle.derivation_tree.specs.declared.scope.Scope.{Scope}
use Rattle.derivation_tree.specs.declared.scope.Scope.TheVariants.{Modular, Full}
use Rattle.derivation_tree.specs.Tree.{Tree}
use Rattle.derivation_tree.specs.Sums.{IsTaught}
use Rattle.derivation_tree.specs.Kept.{Lesson, IsLesson, IsKept, predicates_of_stored}
use Rattle.core_steps.specs.declared.answers.Refined.TheVariants as told
use Rattle.core_steps.specs.declared.standing.Standing.TheVariants as standing
use Rattle.core_steps.specs.State.{Opening, State, Refinements, Predicates, claimed_by}
use Rattle.core_steps.specs.Event.{Refine, StaleRefine, Stop}
use Rattle.core_steps.specs.Withdrawn.{has_id}
use Rattle.core_steps.specs.Predicates.{AreNew, Overfills}
use Rattle.core_steps.specs.Allowed.{Allows, Refutes}
use Rattle.core_steps.specs.Ends.{Done, StaleClaim, NotHeld, Stopped, stopped, drops, other_claim, disagrees, stale, spent, overfills, refines}
use Rattle.core_steps.specs.Course.{Course, opening_of, state_of, with_events}
use Rattle.core_steps.specs.Claims.{KeptAgrees}
use Rattle.core_steps.specs.Refines.{IsSmall, Refines}
use Rattle.core_steps.specs.inside.Standing.{StandsSo, IsClaimOf, IsGone}
use Rattle.core_steps.specs.inside.Changing.{StoredPredicate, HasItsNumber, DropsAnyClaim, Stands, gone_with}
use Rattle.core_steps.proofs.Tests.{tells, true-false}
use Rattle.core_steps.proofs.Live.{Falls}
use Rattle.core_steps.proofs.Counts.{Counts}
use Rattle.core_steps.proofs.Standings.{claimed-worker}
use Rattle.core_steps.proofs.ClaimAgreements.{agrees-tree}

-- ---- what is allowed

pub unclaim-allowed : (opening : Opening) (state : State) (w id : ℕ) → Counts opening state → claimed_by state.claims w ≡ Some id → (state.stop ≡ None → has_id state.live id ≡ false) → Allows opening state (StaleRefine w)
unclaim-allowed opening state w id counts claimed gone = record { worker = claimed-worker opening state w id counts claimed; suits = record { id = id; claimed = claimed; stale = gone } }

-- ---- predicates that are taught

taught-predicates : (program : Program) (tree : Tree) (scope : Scope) (predicates : List Predicate) → IsTaught program tree scope predicates → AllByRecursion (IsPredicateOf program) predicates
taught-predicates program tree Modular predicates taught = taught.1.are_predicates
taught-predicates program tree Full predicates taught = taught.3.are_predicates

home-number : (program : Program) (n : ℕ) → IsHomeOf program (home_numbered program n) → IsSome (at_number (homes program) n)
home-number program n is = by-home (at_number (homes program) n) refl
  where
    by-home : (o : Option Home) → at_number (homes program) n ≡ o → IsSome (at_number (homes program) n)
    by-home (Some h) at = subst (λ x. IsSome x) (sym at) refl
    by-home None at =
        let zero_home : home_numbered program n ≡ AtLocation 0 0 = ap (λ (o : Option Home). unwrap_or o (AtLocation 0 0)) at in
        true-false false (state-thread program 0 0 (subst (IsHomeOf program) zero_home is)) refl

-- the homes of what a claim teaches are there
pub lesson-numbers : (program : Program) (lesson : Lesson) (stored : List StoredPredicate) → IsLesson lesson → lesson.kept.program ≡ program → predicates_of_stored lesson.kept.program stored ≡ lesson.predicates
    → AllByRecursion (HasItsNumber program) stored
lesson-numbers program lesson stored (tree, has, taught) program_is same = subst (λ p. AllByRecursion (HasItsNumber p) stored) program_is
    (each stored (subst (AllByRecursion (IsPredicateOf lesson.kept.program)) (sym same) (taught-predicates lesson.kept.program tree lesson.scope lesson.predicates taught)))
  where
    each : (pairs : List StoredPredicate) → AllByRecursion (IsPredicateOf lesson.kept.program) (predicates_of_stored lesson.kept.program pairs) → AllByRecursion (HasItsNumber lesson.kept.program) pairs
    each [] all = tt
    each (pair ∷ pairs) all = (home-number lesson.kept.program pair.0.0 all.0.has_home, each pairs all.1)

-- ---- what the tree of a claim that stands teaches

pub stands-refutes : (opening : Opening) (state : State) (lesson : Lesson) → Falls state.live → IsKept lesson.kept → IsLesson lesson → Stands opening state lesson
    → Refutes opening state lesson.kept.worker lesson.scope lesson.predicates
stands-refutes opening state lesson falls is (tree, has, taught) stands = record {
  id = lesson.kept.root;
  tree = tree;
  claims = record { claimed = stands.claimed; is_live = stands.is_live; tree_is = agrees-tree state lesson.kept tree is falls stands.agrees has };
  small = stands.small tree has;
  taught = subst (λ p. IsTaught p tree lesson.scope lesson.predicates) stands.program_is taught;
}

-- ---- answers

pub refine-dropped : (old : Course) (lesson : Lesson) (later : Course) → (state_of old).stop ≢ None → DropsAnyClaim old lesson.kept.worker later → Refines old lesson told.Stopped later
refine-dropped old lesson later stop (inl (none, course)) = record { answer = Stopped; events = []; is_answer = stopped stop none; tells = tt; course = course }
refine-dropped old lesson later stop (inr (id, claimed, course)) =
    record { answer = Stopped; events = StaleRefine lesson.kept.worker ∷ []; is_answer = drops id stop claimed; tells = tt; course = course }

not-false : (b : Bool) → (b ≡ false → ⊥) → b ≡ true
not-false b differ = elim (tells b) [ inl hit ↦ hit | inr miss ↦ absurd (differ miss) ]

pub refine-foreign : (old : Course) (lesson : Lesson) → (state_of old).stop ≡ None
    → StandsSo (IsClaimOf (state_of old) lesson.kept.worker lesson.kept) (IsGone (state_of old) lesson.kept) (KeptAgrees (state_of old) lesson.kept) standing.Foreign → Refines old lesson told.NotHeld old
refine-foreign old lesson none (inl not) = record { answer = NotHeld; events = []; is_answer = other_claim none (λ claimed. not (refl, claimed)); tells = tt; course = refl }
refine-foreign old lesson none (inr (named, live, differs)) =
    record { answer = NotHeld; events = []; is_answer = disagrees none named.1 (not-false (has_id (state_of old).live lesson.kept.root) live) differs; tells = tt; course = refl }

pub refine-stale : (old : Course) (lesson : Lesson) (later : Course) → (state_of old).stop ≡ None
    → StandsSo (IsClaimOf (state_of old) lesson.kept.worker lesson.kept) (IsGone (state_of old) lesson.kept) (KeptAgrees (state_of old) lesson.kept) standing.Stale
    → later ≡ with_events old (StaleRefine lesson.kept.worker ∷ []) → Refines old lesson told.Stale later
refine-stale old lesson later none (named, gone) course =
    record { answer = StaleClaim; events = StaleRefine lesson.kept.worker ∷ []; is_answer = stale none named.1 gone; tells = tt; course = course }

pub holds-stands : (opening : Opening) (state : State) (lesson : Lesson) → lesson.kept.program ≡ opening.program → IsSmall opening lesson → state.stop ≡ None
    → StandsSo (IsClaimOf state lesson.kept.worker lesson.kept) (IsGone state lesson.kept) (KeptAgrees state lesson.kept) standing.Holds → Stands opening state lesson
holds-stands opening state lesson program small none (named, live, agrees) = record {
  program_is = program;
  small = small;
  no_stop = none;
  claimed = named.1;
  is_live = not-false (has_id state.live lesson.kept.root) live;
  agrees = agrees;
}

-- too many refinements, or too many predicates at a home
pub spent-allowed : (opening : Opening) (state : State) (lesson : Lesson) → Counts opening state → Stands opening state lesson → Refutes opening state lesson.kept.worker lesson.scope lesson.predicates
    → opening.limits.refinements ≤ state.refined → Allows opening state (Stop lesson.kept.worker (Refinements opening.limits.refinements))
spent-allowed opening state lesson counts stands refutes full = record {
  worker = claimed-worker opening state lesson.kept.worker lesson.kept.root counts stands.claimed;
  suits = (stands.no_stop, (refl, record { scope = lesson.scope; predicates = lesson.predicates; refutes = refutes; spent = full }));
}

pub overfills-allowed : (opening : Opening) (state : State) (lesson : Lesson) (home : Home) → Counts opening state → Stands opening state lesson
    → Refutes opening state lesson.kept.worker lesson.scope lesson.predicates → state.refined < opening.limits.refinements → Overfills state.sets lesson.predicates home
    → Allows opening state (Stop lesson.kept.worker (Predicates home))
overfills-allowed opening state lesson home counts stands refutes left many = record {
  worker = claimed-worker opening state lesson.kept.worker lesson.kept.root counts stands.claimed;
  suits = (stands.no_stop, record { scope = lesson.scope; predicates = lesson.predicates; refutes = refutes; left_over = left; overfills = many });
}

pub new-allowed : (opening : Opening) (state : State) (lesson : Lesson) (new : List Predicate) → Counts opening state → Stands opening state lesson
    → Refutes opening state lesson.kept.worker lesson.scope lesson.predicates → state.refined < opening.limits.refinements → AreNew state.sets lesson.predicates new
    → Allows opening state (Refine lesson.kept.worker lesson.scope new)
new-allowed opening state lesson new counts stands refutes left are_new = record {
  worker = claimed-worker opening state lesson.kept.worker lesson.kept.root counts stands.claimed;
  suits = (stands.no_stop, record { predicates = lesson.predicates; refutes = refutes; left_over = left; are_new = are_new });
}

pub refine-spent : (old : Course) (lesson : Lesson) (later : Course) → Stands (opening_of old) (state_of old) lesson
    → Allows (opening_of old) (state_of old) (Stop lesson.kept.worker (Refinements old.limits.refinements))
    → later ≡ with_events old (Stop lesson.kept.worker (Refinements old.limits.refinements) ∷ []) → Refines old lesson told.Stopped later
refine-spent old lesson later stands allowed course = record {
  answer = Stopped;
  events = Stop lesson.kept.worker (Refinements old.limits.refinements) ∷ [];
  is_answer = spent stands.no_stop stands.agrees stands.claimed allowed.suits.1;
  tells = tt;
  course = course;
}

pub refine-overfills : (old : Course) (lesson : Lesson) (home : Home) (later : Course) → Stands (opening_of old) (state_of old) lesson
    → Allows (opening_of old) (state_of old) (Stop lesson.kept.worker (Predicates home))
    → later ≡ with_events old (Stop lesson.kept.worker (Predicates home) ∷ []) → Refines old lesson told.Stopped later
refine-overfills old lesson home later stands allowed course = record {
  answer = Stopped;
  events = Stop lesson.kept.worker (Predicates home) ∷ [];
  is_answer = overfills home stands.no_stop stands.agrees stands.claimed allowed.suits.1;
  tells = tt;
  course = course;
}

pub refine-done : (old : Course) (lesson : Lesson) (new : List Predicate) (gone : ℕ) (later : Course) → Stands (opening_of old) (state_of old) lesson
    → Allows (opening_of old) (state_of old) (Refine lesson.kept.worker lesson.scope new) → AreNew (state_of old).sets lesson.predicates new → gone ≡ gone_with (state_of old) new
    → later ≡ with_events old (Refine lesson.kept.worker lesson.scope new ∷ []) → Refines old lesson (told.Done gone) later
refine-done old lesson new gone later stands allowed are_new count course = record {
  answer = Done (gone_with (state_of old) new);
  events = Refine lesson.kept.worker lesson.scope new ∷ [];
  is_answer = refines new stands.no_stop stands.agrees stands.claimed are_new allowed.suits.1;
  tells = sym count;
  course = course;
}
