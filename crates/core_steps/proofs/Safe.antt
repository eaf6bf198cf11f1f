-- Homes have predicates of the program, and in a clear state no run fails.
use Rattle.std.proofs.Common.{◌≡◌, ℕ, List, [], ◌∷◌, ◌++◌, map, Option, Some, None, refl, sym, ap, subst, ◌∙◌, inl, inr}
use Rattle.std.specs.List.{AllByRecursion, Contains}
use Rattle.lin_rows.specs.Row.{Row}
use Rattle.lin_rows.proofs.Lists.{AllByRecursion-append, AllByRecursion-weaken}
use Rattle.predicate_sets.specs.HomeSet.{Lacks}
use Rattle.predicate_sets.proofs.Atoms.{AreDistinct-append}
use Rattle.farkas_cert.proofs.Refutations.{refuted-has-no-whole-point}
use Rattle.transition_formula.specs.Program.{Program}
use Rattle.transition_formula.proofs.Runs.{failing-runs}
use Rattle.horn_rules.specs.Home.{Home}
use Rattle.horn_rules.specs.Fact.{Sets, Fact, IsAtomOf, IsSetOf, AreSetsOf, Statement}
use Rattle.horn_rules.specs.Instance.{Instance, premises_of}
use Rattle.horn_rules.specs.Least.{Least}
use Rattle.horn_rules.specs.Predicate.{Predicate, IsPredicateOf}
use Rattle.horn_rules.specs.Stored.{same_home}
use Rattle.horn_rules.specs.Cover.{GivesFacts}
use Rattle.horn_rules.proofs.Derivations.{least-closed}
use Rattle.horn_rules.proofs.Covering.{closed-least-covers, least-is-safe}
use Rattle.horn_rules.proofs.Lists.{Contains-first, Contains-later, Contains-unmap}
use Rattle.derivation_tree.specs.declared.scope.Scope.{Scope}
use Rattle.derivation_tree.specs.declared.scope.Scope.TheVariants.{Modular, Full}
use Rattle.derivation_tree.specs.Facts.{KeptFact, target_among}
use Rattle.derivation_tree.specs.Tree.{Tree}
use Rattle.derivation_tree.specs.Sums.{IsTaught}
use Rattle.core_steps.specs.State.{Opening, State, Task, IsOpening, held_by}
use Rattle.core_steps.specs.Event.{Event, Take, New, Same, Nothing, StalePublish, Claim, Refine, StaleRefine, Stop, StaleStop, History}
use Rattle.core_steps.specs.Predicates.{with_predicate, with_predicates, AreNew, none, known, added}
use Rattle.core_steps.specs.After.{with_job, with_published, with_fact, effect, after}
use Rattle.core_steps.specs.Allowed.{Suits}
use Rattle.core_steps.specs.Legal.{IsLegal}
use Rattle.core_steps.specs.Pending.{IsQuiet}
use Rattle.core_steps.specs.Laws.{QuietStatesCover, ClearStatesAreSafe}
use Rattle.core_steps.proofs.Tests.{tells, same_home-is}
use Rattle.core_steps.proofs.Live.{found-fact_at}
use Rattle.core_steps.proofs.Refines.{keeps-legal}
use Rattle.core_steps.proofs.Histories.{quiet-posted, quiet-least}

-- ---- predicates of the program

lacks-from : (xs : List Row) (y : Row) → (¬ Contains xs y) → Lacks xs y
lacks-from [] y lacks = tt
lacks-from (x ∷ xs) y lacks = (λ same. lacks (subst (Contains (x ∷ xs)) same (Contains-first x xs)), lacks-from xs y (λ c. lacks (Contains-later x y xs c)))

one-more : (program : Program) (sets : Sets) (p : Predicate) → IsPredicateOf program p → (¬ Contains (sets p.home) p.atom) → AreSetsOf program sets → AreSetsOf program (with_predicate sets p)
one-more program sets p is new are home = elim (tells (same_home home p.home)) [
  | inl hit ↦
      let same : home ≡ p.home = same_home-is home p.home hit in
      let at : with_predicate sets p home ≡ sets home ++ p.atom ∷ [] = rw hit refl in
      subst (IsSetOf program home) (sym at) (record {
        are_atoms = AllByRecursion-append (IsAtomOf program home) (sets home) (p.atom ∷ []) (are home).are_atoms (subst (λ h. IsAtomOf program h p.atom) (sym same) is.is_atom, tt);
        none_twice = AreDistinct-append (sets home) p.atom (are home).none_twice (subst (λ h. Lacks (sets h) p.atom) (sym same) (lacks-from (sets p.home) p.atom new));
      })
  | inr miss ↦
      let at : with_predicate sets p home ≡ sets home = rw miss refl in
      subst (IsSetOf program home) (sym at) (are home)
]

more : (program : Program) (sets : Sets) (predicates new : List Predicate) → AreNew sets predicates new → AllByRecursion (IsPredicateOf program) predicates → AreSetsOf program sets
    → AreSetsOf program (with_predicates sets new)
more program _ _ _ (none sets) all are = are
more program _ _ _ (known sets p ps rest there others) all are = more program sets ps rest others all.1 are
more program _ _ _ (added sets p ps rest lacks room others) all are =
    more program (with_predicate sets p) ps rest others all.1 (one-more program sets p all.0 lacks are)

taught-predicates : (program : Program) (tree : Tree) (scope : Scope) (predicates : List Predicate) → IsTaught program tree scope predicates → AllByRecursion (IsPredicateOf program) predicates
taught-predicates program tree Modular predicates taught = taught.1.are_predicates
taught-predicates program tree Full predicates taught = taught.3.are_predicates

-- ---- through a history

job-sets : (w : ℕ) (instance : Instance ℕ) (state : State) (home : Option Home) → (with_job w instance state home).sets ≡ state.sets
job-sets w instance state None = refl
job-sets w instance state (Some home) = refl

published-sets : (state : State) (task : Option Task) → (with_published state task).sets ≡ state.sets
published-sets state None = refl
published-sets state (Some task) = refl

fact-sets : (id : ℕ) (fact : Fact) (state : State) (task : Option Task) → (with_fact id fact state task).sets ≡ state.sets
fact-sets id fact state None = refl
fact-sets id fact state (Some task) = refl

effect-sets : (opening : Opening) (state : State) (event : Event) → Suits opening state event → AreSetsOf opening.program state.sets → AreSetsOf opening.program (effect opening state event).sets
effect-sets opening state (Take w instance) suits are = subst (AreSetsOf opening.program) (sym (job-sets w instance state (target_among opening.program state.live instance))) are
effect-sets opening state (New w id fact) suits are =
    subst (AreSetsOf opening.program) (sym (fact-sets id fact (with_published state (held_by state.holds w)) (held_by state.holds w) ∙ published-sets state (held_by state.holds w))) are
effect-sets opening state (Same w id) suits are = subst (AreSetsOf opening.program) (sym (published-sets state (held_by state.holds w))) are
effect-sets opening state (Nothing w) suits are = subst (AreSetsOf opening.program) (sym (published-sets state (held_by state.holds w))) are
effect-sets opening state (StalePublish w) suits are = are
effect-sets opening state (Claim w id) suits are = are
effect-sets opening state (Refine w scope predicates) suits are =
    let refine = suits.1 in
    more opening.program state.sets refine.predicates predicates refine.are_new (taught-predicates opening.program refine.refutes.tree scope refine.predicates refine.refutes.taught) are
effect-sets opening state (StaleRefine w) suits are = are
effect-sets opening state (Stop w reason) suits are = are
effect-sets opening state (StaleStop w) suits are = are

pub legal-sets : (opening : Opening) (history : History) → IsOpening opening → IsLegal opening history → AreSetsOf opening.program (after opening history).sets
legal-sets opening [] is legal = is.are_sets
legal-sets opening (event ∷ earlier) is legal = effect-sets opening (after opening earlier) event legal.0.suits (legal-sets opening earlier is legal.1)

-- ---- clear states

least-gives : (opening : Opening) (history : History) → IsLegal opening history → IsQuiet opening (after opening history) → GivesFacts opening.program opening.rule (after opening history).sets
least-gives opening history legal quiet instance given z has is all point =
    let state = after opening history in
    let live = AllByRecursion-weaken (Least opening.program opening.rule state.sets) (Contains (map (λ (f : KeptFact). f.fact) state.live))
    (λ fact least. (quiet-least opening history fact legal quiet).1 least) (premises_of instance) all in
    elim (quiet-posted opening state instance given (keeps-legal opening history legal) quiet has is live) [
      | inl refuted ↦ absurd (refuted-has-no-whole-point given.system z refuted point)
      | inr (fact, posted, there) ↦ (fact, posted)
    ]

pub quiet-covers : QuietStatesCover
quiet-covers opening history is legal quiet =
    let state = after opening history in
    let closed = least-closed opening.program opening.rule state.sets (least-gives opening history legal quiet) in
    closed-least-covers opening.program opening.rule state.sets is.is_program (legal-sets opening history is legal) closed

pub clear-safe : ClearStatesAreSafe
clear-safe opening history is legal clear =
    let state = after opening history in
    let keeps = keeps-legal opening history legal in
    least-is-safe failing-runs opening.program opening.rule state.sets (quiet-covers opening history is legal clear.quiet)
    (λ i statement (fact, least, says) at.
    let live = (quiet-least opening history fact legal clear.quiet).1 least in
    let (f, there, same) = Contains-unmap (λ (g : KeptFact). g.fact) state.live fact live in
    clear.none_failing f.id i f.fact (found-fact_at state.live f keeps.falls there) (ap (λ x. Fact.home x) same ∙ ap (λ s. Statement.home s) (sym says) ∙ at))
