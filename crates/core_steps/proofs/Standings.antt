-- How what a worker names stands, and what is so where it does.
use Rattle.std.proofs.Common.{◌≡◌, ◌⊎◌, ◌<◌, ◌≤◌, ℕ, Bool, true, false, List, Option, Some, None, refl, sym, ap, subst, ◌∙◌, inl, inr, arith}
use Rattle.std.specs.Prelude.{unwrap_or}
use Rattle.lin_rows.specs.Row.{Row}
use Rattle.farkas_cert.specs.declared.answers.LeaveKind.{LeaveKind}
use Rattle.horn_rules.specs.declared.job.Job.{Job}
use Rattle.horn_rules.specs.Home.{State as AtLocation}
use Rattle.horn_rules.specs.Job.{ComesTo}
use Rattle.horn_rules.specs.Stored.{home_numbered}
use Rattle.abstract_post.specs.Left.{IsLeft}
use Rattle.derivation_tree.specs.declared.scope.TreeLeft.{TreeLeft}
use Rattle.derivation_tree.specs.Kept.{KeptTree, IsKept, OfJob, OfTree, IsLeaving}
use Rattle.derivation_tree.specs.Left.{IsTreeLeft}
use Rattle.core_steps.specs.State.{Opening, State, Claimed, held_by, claimed_by, IsWorker}
use Rattle.core_steps.specs.Withdrawn.{has_id}
use Rattle.core_steps.specs.Pending.{is_present}
use Rattle.core_steps.specs.Allowed.{IsReason}
use Rattle.core_steps.specs.Jobs.{JobAgrees}
use Rattle.core_steps.specs.Publishes.{job_task}
use Rattle.core_steps.specs.Claims.{KeptAgrees}
use Rattle.core_steps.specs.Stops.{IsOfRun}
use Rattle.core_steps.specs.Stored.{reason_of_left}
use Rattle.core_steps.specs.declared.standing.Standing.{Standing}
use Rattle.core_steps.specs.declared.standing.Standing.TheVariants as standing
use Rattle.core_steps.specs.inside.Standing.{StandsSo, WhereItStands, IsClaimOf, IsGone}
use Rattle.core_steps.proofs.Tests.{tells}
use Rattle.core_steps.proofs.Live.{Falls}
use Rattle.core_steps.proofs.Workers.{claimed_by-is, by_worker-found}
use Rattle.core_steps.proofs.Counts.{Counts, claimer}
use Rattle.core_steps.proofs.Agreements.{job-posts}
use Rattle.core_steps.proofs.ClaimAgreements.{agrees-tree}
use Rattle.horn_rules.proofs.Lists.{all-contained}

-- ---- who claims is a worker

pub claimed-worker : (opening : Opening) (state : State) (w id : ℕ) → Counts opening state → claimed_by state.claims w ≡ Some id → IsWorker opening w
claimed-worker opening state w id counts claimed =
    let (claim, there, worker, same) = by_worker-found claimer (λ (claim : Claimed). claim.root) state.claims w id (sym (claimed_by-is state.claims w) ∙ claimed) in
    let within = all-contained (λ (c : Claimed). (1 ≤ c.worker) × (c.worker ≤ opening.workers)) state.claims claim counts.claimers there in
    record { from_1 = let low = within.0 in omega (arith, low, worker); within = let high = within.1 in omega (arith, high, worker) }

pub claimed-outside : (opening : Opening) (state : State) (w : ℕ) → Counts opening state → (w ≡ 0) ⊎ (opening.workers < w) → claimed_by state.claims w ≡ None
claimed-outside opening state w counts outside = by-claim (claimed_by state.claims w) refl
  where
    by-claim : (o : Option ℕ) → claimed_by state.claims w ≡ o → claimed_by state.claims w ≡ None
    by-claim None is = is
    by-claim (Some id) is =
        let worker = claimed-worker opening state w id counts is in
        let low = worker.from_1 in
        let high = worker.within in
        absurd (elim outside [ inl zero ↦ omega (arith, low, zero) | inr above ↦ omega (arith, high, above) ])

-- ---- where it stands

not-false : (b : Bool) → (b ≡ false → ⊥) → b ≡ true
not-false b differ = elim (tells b) [ inl hit ↦ hit | inr miss ↦ absurd (differ miss) ]

-- what follows of what is named and agrees is so where it stands
pub where-stands : (Named Stale Agrees So : Type 0) (standing : Standing) → StandsSo Named Stale Agrees standing → (Named → (¬ Stale) → Agrees → So) → WhereItStands standing So
where-stands Named Stale Agrees So standing.Foreign so follows = tt
where-stands Named Stale Agrees So standing.Stale so follows = tt
where-stands Named Stale Agrees So standing.Holds so follows = follows so.0 so.1 so.2

-- a job that is left and stands is a reason
pub job-reason : (opening : Opening) (state : State) (w : ℕ) (job : Job) (kind : LeaveKind) → IsLeaving (OfJob job kind) → job.program.now ≡ opening.program
    → (job.worker ≡ w) × (held_by state.holds w ≡ Some (job_task opening.program job)) → (¬ (is_present state (job_task opening.program job) ≡ false)) → JobAgrees opening state job
    → IsReason opening state w (reason_of_left (OfJob job kind))
job-reason opening state w job kind (given, comes, left) program (worker, held) present agrees =
    let comes_to = subst (λ p. ComesTo p job given) program comes in
    let home : home_numbered opening.program job.home.0 ≡ given.target = ap (λ o. unwrap_or o (AtLocation 0 0)) comes_to.home_is in
    let held_own : held_by state.holds job.worker ≡ Some (job_task opening.program job) = ap (held_by state.holds) worker ∙ held in
    let posts = job-posts opening state job given agrees comes_to held_own (not-false (is_present state (job_task opening.program job)) present) in
    record {
      task = job_task opening.program job;
      instance_is = refl;
      given = given;
      posts = record { held = held; present = posts.present; is_over = posts.is_over };
      is_left = subst (λ (atoms : List Row). IsLeft given atoms kind) (agrees.target ∙ ap state.sets home) left;
    }

-- so is a claim
pub tree-reason : (opening : Opening) (state : State) (w : ℕ) (kept : KeptTree) (left : TreeLeft) → IsKept kept → Falls state.live → IsLeaving (OfTree kept left) → IsOfRun opening (OfTree kept left)
    → IsClaimOf state w kept → (¬ IsGone state kept) → KeptAgrees state kept → IsReason opening state w (reason_of_left (OfTree kept left))
tree-reason opening state w kept left is falls (tree, has, is_left) (program, sized) (worker, claimed) live agrees = record {
  tree = tree;
  claims = record { claimed = claimed; is_live = not-false (has_id state.live kept.root) live; tree_is = agrees-tree state kept tree is falls agrees has };
  is_left = subst (λ p. IsTreeLeft p tree left) program is_left;
  of_size = sized tree has;
}
