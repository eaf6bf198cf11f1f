use Rattle.std.proofs.Common.{◌≡◌, false, Some, sym, subst}
use Rattle.derivation_tree.specs.Kept.{IsLeaving}
use Rattle.core_steps.specs.State.{JobLeft, held_by}
use Rattle.core_steps.specs.Allowed.{IsReason}
use Rattle.core_steps.specs.Course.{opening_of, state_of}
use Rattle.core_steps.specs.Jobs.{JobAgrees}
use Rattle.core_steps.specs.Pending.{is_present}
use Rattle.core_steps.specs.Publishes.{job_task}
use Rattle.core_steps.specs.Stops.{IsOfRun}
use Rattle.core_steps.specs.Stored.{reason_of_left}
use Rattle.horn_rules.specs.Stored.{instance_of}
use Rattle.core_steps.specs.inside.Standing.{WhereItStands}
use Rattle.core_steps.proofs.Standings.{where-stands, job-reason}
use Rattle.core_steps.proofs.stored_core.Core.left_standing.Goals as goal

pub returns-in-Some-clause-is_reason : goal.returns-in-Some-clause-is_reason
returns-in-Some-clause-is_reason c =
    let O = opening_of c.args.self.now in
    let S = state_of c.args.self.now in
    let job = c.in-Some.job.now in
    let kind = c.in-Some.field-0-1 in
    let same = c.in-Some.ensures.some in
    let task = job_task O.program job in
    subst (λ x. WhereItStands c.job_standing.result (IsReason O S c.args.w (reason_of_left x))) (sym same)
    (where-stands ((job.worker ≡ c.args.w) × (held_by S.holds c.args.w ≡ Some task)) (is_present S task ≡ false) (JobAgrees O S job) (IsReason O S c.args.w (JobLeft (instance_of job.instance) kind))
    c.job_standing.result c.job_standing.ensures
    (λ named present agrees. job-reason O S c.args.w job kind (subst IsLeaving same c.in-Some.ensures.left) (subst (IsOfRun O) same c.requires) named present agrees))
