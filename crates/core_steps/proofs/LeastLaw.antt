-- The stop of a history in which no predicate was added, and what it tells.
use Rattle.std.proofs.Common.{◌≡◌, ◌≢◌, ◌≤◌, ℕ, suc, List, [], ◌∷◌, length, map, Option, Some, None, refl, sym, ap, subst, ◌∙◌, inl, inr}
use Rattle.std.specs.List.{AllByRecursion, Contains}
use Rattle.lin_rows.proofs.Lists.{AllByRecursion-weaken}
use Rattle.transition_formula.specs.Program.{Program, IsProgram}
use Rattle.horn_rules.specs.Home.{Home, IsHomeOf}
use Rattle.horn_rules.specs.Fact.{Sets, Fact, statement_of}
use Rattle.horn_rules.specs.Instance.{Instance, HasKind, premises_of, map_instance}
use Rattle.horn_rules.specs.Case.{Case, IsCaseOf}
use Rattle.horn_rules.specs.Post.{IsFactOf}
use Rattle.horn_rules.specs.Least.{Least}
use Rattle.abstract_post.specs.Left.{IsLeft}
use Rattle.horn_rules.proofs.Derivations.{given-least}
use Rattle.horn_rules.proofs.Lists.{first-or-later, contains-nothing, Contains-map, all-contained}
use Rattle.derivation_tree.specs.Facts.{KeptFact}
use Rattle.derivation_tree.proofs.Derivations.{target-there}
use Rattle.core_steps.specs.State.{Opening, State, Reason, Task, Facts, Jobs, Refinements, Predicates, JobLeft, RootLeft, Unsafe, Memory, IsOpening, held_by}
use Rattle.core_steps.specs.Event.{Event, Take, New, Same, Nothing, StalePublish, Claim, Refine, StaleRefine, Stop, StaleStop, History}
use Rattle.core_steps.specs.After.{with_job, with_fact, with_published, without_job, effect, after}
use Rattle.core_steps.specs.Allowed.{IsOver, IsReason, IsFull, IsSpent, IsJobLeft}
use Rattle.core_steps.specs.Legal.{IsLegal}
use Rattle.core_steps.specs.Bounds.{IsLeast, TellsOfLeast, StopsTellOfLeast}
use Rattle.core_steps.proofs.Tests.{true-false, is-same_task, none-at}
use Rattle.core_steps.specs.Pending.{same_task}
use Rattle.core_steps.proofs.Live.{Falls, map-map, all-unmap, kind-other}
use Rattle.core_steps.proofs.Derived.{IsDerived, AreDerived}
use Rattle.core_steps.proofs.Keeps.{Keeps, held_by-found}
use Rattle.core_steps.proofs.Refines.{keeps-legal}
use Rattle.core_steps.proofs.Histories.{live-least}
use Rattle.core_steps.proofs.LeastStops.{Leads, Unrefined, unrefined-start, unrefined-fewer, unrefined-take, unrefined-post, unrefined-new}
use Rattle.core_steps.proofs.LeastTold.{more-facts, more-instances}

-- ---- what an event leaves as it was

-- the stop, and how many refines there were
record LeavesCounts (state later : State) : Type 0 where
  stop : later.stop ≡ state.stop
  refined : later.refined ≡ state.refined

job-leaves : (w : ℕ) (instance : Instance ℕ) (state : State) (home : Option Home) → LeavesCounts state (with_job w instance state home)
job-leaves w instance state None = record { stop = refl; refined = refl }
job-leaves w instance state (Some home) = record { stop = refl; refined = refl }

post-leaves : (w : ℕ) (state : State) (task : Option Task) → LeavesCounts state (without_job w (with_published state task))
post-leaves w state None = record { stop = refl; refined = refl }
post-leaves w state (Some task) = record { stop = refl; refined = refl }

new-leaves : (w id : ℕ) (fact : Fact) (state : State) (task : Option Task) → LeavesCounts state (without_job w (with_fact id fact (with_published state task) task))
new-leaves w id fact state None = record { stop = refl; refined = refl }
new-leaves w id fact state (Some task) = record { stop = refl; refined = refl }

-- ---- no predicate was added

pub unrefined-legal : (opening : Opening) (history : History) → IsLegal opening history → (after opening history).refined ≡ 0 → Unrefined opening (after opening history)
unrefined-legal opening [] legal none = unrefined-start opening
unrefined-legal opening (Take w instance ∷ earlier) legal none =
    let S = after opening earlier in
    let (stop, take) = legal.0.suits in
    unrefined-take opening S w instance (unrefined-legal opening earlier legal.1 (sym (job-leaves w instance S _).refined ∙ none)) take
unrefined-legal opening (New w id fact ∷ earlier) legal none =
    let S = after opening earlier in
    let (stop, publish) = legal.0.suits in
    unrefined-new opening S w id fact (unrefined-legal opening earlier legal.1 (sym (new-leaves w id fact S _).refined ∙ none)) publish (keeps-legal opening (New w id fact ∷ earlier) legal).falls
unrefined-legal opening (Same w id ∷ earlier) legal none =
    let S = after opening earlier in
    let (stop, publish) = legal.0.suits in
    unrefined-post opening S w publish.task (unrefined-legal opening earlier legal.1 (sym (post-leaves w S _).refined ∙ none)) publish.posts.held
unrefined-legal opening (Nothing w ∷ earlier) legal none =
    let S = after opening earlier in
    let (stop, publish) = legal.0.suits in
    unrefined-post opening S w publish.task (unrefined-legal opening earlier legal.1 (sym (post-leaves w S _).refined ∙ none)) publish.posts.held
unrefined-legal opening (StalePublish w ∷ earlier) legal none = unrefined-fewer opening (after opening earlier) w (unrefined-legal opening earlier legal.1 none)
unrefined-legal opening (Claim w id ∷ earlier) legal none = same-but (after opening earlier) (unrefined-legal opening earlier legal.1 none)
  where
    same-but : (state : State) → Unrefined opening state → Unrefined opening (effect opening state (Claim w id))
    same-but state is = record { sets_are = is.sets_are; epochs_are = is.epochs_are; apart = is.apart; held = is.held; published = is.published }
unrefined-legal opening (Refine w scope new ∷ earlier) legal none = absurd cc
unrefined-legal opening (StaleRefine w ∷ earlier) legal none = same-but (after opening earlier) (unrefined-legal opening earlier legal.1 none)
  where
    same-but : (state : State) → Unrefined opening state → Unrefined opening (effect opening state (StaleRefine w))
    same-but state is = record { sets_are = is.sets_are; epochs_are = is.epochs_are; apart = is.apart; held = is.held; published = is.published }
unrefined-legal opening (Stop w reason ∷ earlier) legal none = same-but (after opening earlier) (unrefined-fewer opening (after opening earlier) w (unrefined-legal opening earlier legal.1 none))
  where
    same-but : (state : State) → Unrefined opening (without_job w state) → Unrefined opening (effect opening state (Stop w reason))
    same-but state is = record { sets_are = is.sets_are; epochs_are = is.epochs_are; apart = is.apart; held = is.held; published = is.published }
unrefined-legal opening (StaleStop w ∷ earlier) legal none = same-but (after opening earlier) (unrefined-fewer opening (after opening earlier) w (unrefined-legal opening earlier legal.1 none))
  where
    same-but : (state : State) → Unrefined opening (without_job w state) → Unrefined opening (effect opening state (StaleStop w))
    same-but state is = record { sets_are = is.sets_are; epochs_are = is.epochs_are; apart = is.apart; held = is.held; published = is.published }

-- ---- where it stopped

-- What was so where the run stopped.
record StoppedAt (opening : Opening) (reason : Reason) : Type 0 where
  earlier : History
  w : ℕ
  legal : IsLegal opening earlier
  none : (after opening earlier).refined ≡ 0
  is_reason : IsReason opening (after opening earlier) w reason

stopped-at : (opening : Opening) (history : History) (reason : Reason) → IsLegal opening history → (after opening history).refined ≡ 0 → (after opening history).stop ≡ Some reason → StoppedAt opening reason
stopped-at opening [] reason legal none stop = absurd cc
stopped-at opening (Take w instance ∷ earlier) reason legal none stop =
    let leaves = job-leaves w instance (after opening earlier) _ in
    stopped-at opening earlier reason legal.1 (sym leaves.refined ∙ none) (sym leaves.stop ∙ stop)
stopped-at opening (New w id fact ∷ earlier) reason legal none stop =
    let leaves = new-leaves w id fact (after opening earlier) _ in
    stopped-at opening earlier reason legal.1 (sym leaves.refined ∙ none) (sym leaves.stop ∙ stop)
stopped-at opening (Same w id ∷ earlier) reason legal none stop =
    let leaves = post-leaves w (after opening earlier) _ in
    stopped-at opening earlier reason legal.1 (sym leaves.refined ∙ none) (sym leaves.stop ∙ stop)
stopped-at opening (Nothing w ∷ earlier) reason legal none stop =
    let leaves = post-leaves w (after opening earlier) _ in
    stopped-at opening earlier reason legal.1 (sym leaves.refined ∙ none) (sym leaves.stop ∙ stop)
stopped-at opening (StalePublish w ∷ earlier) reason legal none stop = stopped-at opening earlier reason legal.1 none stop
stopped-at opening (Claim w id ∷ earlier) reason legal none stop = stopped-at opening earlier reason legal.1 none stop
stopped-at opening (Refine w scope new ∷ earlier) reason legal none stop = absurd cc
stopped-at opening (StaleRefine w ∷ earlier) reason legal none stop = stopped-at opening earlier reason legal.1 none stop
stopped-at opening (Stop w other ∷ earlier) reason legal none stop =
    let same : other ≡ reason = cc in
    record { earlier = earlier; w = w; legal = legal.1; none = none; is_reason = subst (IsReason opening (after opening earlier) w) same legal.0.suits.1 }
stopped-at opening (StaleStop w ∷ earlier) reason legal none stop = stopped-at opening earlier reason legal.1 none stop

-- ---- what is live

-- Live facts that are derived stand at homes of the program.
live-homes : (program : Program) (opening : Opening) (sets : Sets) (live : List KeptFact) (f : KeptFact) → IsProgram program → AreDerived program opening.rule sets live → Contains live f → IsHomeOf program f.fact.home
live-homes program opening sets [] f is derived there = absurd (contains-nothing f there)
live-homes program opening sets (x ∷ xs) f is derived there = elim (first-or-later x f xs there) [
  | inl same ↦
      let at = subst (IsHomeOf program) (sym derived.0.is_fact.at_target) (target-there program _ derived.0.given is derived.0.is_over.is_case) in
      subst (λ g. IsHomeOf program (Fact.home (KeptFact.fact g))) same at
  | inr later ↦ live-homes program opening sets xs f is derived.1 later
]

-- The premises of an instance over live facts are in the least set, under the predicates that the run opened with.
over-least : (opening : Opening) (state : State) (instance : Instance ℕ) (given : Case) (over : IsOver opening.program state.sets state.live instance given) → state.sets ≡ opening.sets
    → ((f : KeptFact) → Contains state.live f → IsLeast opening f.fact)
    → AllByRecursion (IsLeast opening) (premises_of (map_instance (λ (f : KeptFact). f.fact) over.premises))
over-least opening state instance given over sets least =
    all-unmap (IsLeast opening) (λ (f : KeptFact). f.fact) over.premises
    (AllByRecursion-weaken (Contains state.live) (λ (f : KeptFact). IsLeast opening f.fact) least (premises_of over.premises) over.are_live)

over-case : (opening : Opening) (state : State) (instance : Instance ℕ) (given : Case) (over : IsOver opening.program state.sets state.live instance given) → state.sets ≡ opening.sets
    → IsCaseOf opening.program (map_instance (statement_of opening.sets) (map_instance (λ (f : KeptFact). f.fact) over.premises)) given
over-case opening state instance given over sets =
    subst (λ i. IsCaseOf opening.program i given) (sym (map-map (λ (f : KeptFact). f.fact) (statement_of opening.sets) over.premises))
    (subst (λ s. IsCaseOf opening.program (map_instance (λ (f : KeptFact). statement_of s f.fact) over.premises) given) sets over.is_case)

over-kind : (opening : Opening) (state : State) (instance : Instance ℕ) (given : Case) (over : IsOver opening.program state.sets state.live instance given) → HasKind opening.rule instance
    → HasKind opening.rule (map_instance (λ (f : KeptFact). f.fact) over.premises)
over-kind opening state instance given over kind =
    kind-other opening.rule (λ (f : KeptFact). f.id) (λ (f : KeptFact). f.fact) over.premises (subst (HasKind opening.rule) (sym over.ids_are) kind)

live-facts : (opening : Opening) (history : History) → IsLegal opening history → (after opening history).sets ≡ opening.sets
    → (f : KeptFact) → Contains (after opening history).live f → IsLeast opening f.fact
live-facts opening history legal sets f there =
    subst (λ s. Least opening.program opening.rule s f.fact) sets (live-least opening history f.fact legal (Contains-map (λ (g : KeptFact). g.fact) (after opening history).live f there))

held-kind : (opening : Opening) (state : State) (w : ℕ) (task : Task) → Keeps opening state → held_by state.holds w ≡ Some task → HasKind opening.rule task.instance
held-kind opening state w task keeps held =
    let (own, there, worker_is, task_is) = held_by-found state.holds w task held in
    subst (λ t. HasKind opening.rule (Task.instance t)) task_is (keeps.held_taken own there).has_kind

-- ---- what the stop tells

tells : (opening : Opening) (reason : Reason) → IsOpening opening → StoppedAt opening reason → TellsOfLeast opening reason
tells opening (Facts n) is at =
    let S = after opening at.earlier in
    let keeps = keeps-legal opening at.earlier at.legal in
    let unrefined = unrefined-legal opening at.earlier at.legal at.none in
    let (n_is, full) = at.is_reason in
    let least : (f : KeptFact) → Contains S.live f → IsLeast opening f.fact = live-facts opening at.earlier at.legal unrefined.sets_are in
    let also : IsLeast opening full.fact =
    given-least opening.program opening.rule opening.sets (map_instance (λ (f : KeptFact). f.fact) full.posts.is_over.premises) full.given full.fact
    (over-kind opening S full.task.instance full.given full.posts.is_over (held-kind opening S at.w full.task keeps full.posts.held))
    (over-case opening S full.task.instance full.given full.posts.is_over unrefined.sets_are) (over-least opening S full.task.instance full.given full.posts.is_over unrefined.sets_are least)
    (subst (λ s. IsFactOf s full.given full.fact) unrefined.sets_are full.is_fact) in
    more-facts opening S full.fact n keeps.falls unrefined least also full.not_live (subst (λ m. m ≤ length S.live) (sym n_is) full.full)
tells opening (Jobs n) is at =
    let S = after opening at.earlier in
    let keeps = keeps-legal opening at.earlier at.legal in
    let unrefined = unrefined-legal opening at.earlier at.legal at.none in
    let (n_is, spent) = at.is_reason in
    let task = spent.task in
    let least : (f : KeptFact) → Contains S.live f → IsLeast opening f.fact = live-facts opening at.earlier at.legal unrefined.sets_are in
    more-instances opening S task n is.is_program keeps unrefined
    (λ f there. (least f there, live-homes opening.program opening S.sets S.live f is.is_program keeps.derived there)) spent.pending.has_kind
    (record { leads = spent.pending.leads; first = spent.pending.present ∙ unrefined.epochs_are task.home })
    (λ there. true-false (same_task task task) (is-same_task task) (none-at (same_task task) S.published task spent.pending.not_done there))
    (subst (λ m. m ≤ length S.published) (sym n_is) spent.spent)
tells opening (Refinements n) is at = tt
tells opening (Predicates home) is at = tt
tells opening (JobLeft instance kind) is at =
    let S = after opening at.earlier in
    let keeps = keeps-legal opening at.earlier at.legal in
    let unrefined = unrefined-legal opening at.earlier at.legal at.none in
    let left = at.is_reason in
    let least : (f : KeptFact) → Contains S.live f → IsLeast opening f.fact = live-facts opening at.earlier at.legal unrefined.sets_are in
    record {
      instance = map_instance (λ (f : KeptFact). f.fact) left.posts.is_over.premises;
      given = left.given;
      kind = kind;
      has_kind = over-kind opening S left.task.instance left.given left.posts.is_over (held-kind opening S at.w left.task keeps left.posts.held);
      is_case = over-case opening S left.task.instance left.given left.posts.is_over unrefined.sets_are;
      stand = over-least opening S left.task.instance left.given left.posts.is_over unrefined.sets_are least;
      is_left = subst (λ s. IsLeft left.given (s left.given.target) kind) unrefined.sets_are left.is_left;
    }
tells opening (RootLeft id left) is at = tt
tells opening (Unsafe run) is at = tt
tells opening Memory is at = tt

pub stops-tell : StopsTellOfLeast
stops-tell opening history reason is legal none stop = tells opening reason is (stopped-at opening history reason legal none stop)
