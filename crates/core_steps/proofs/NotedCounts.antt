-- How many entries a core's whole history has.
use Rattle.std.proofs.Common.{◌≡◌, ◌<◌, ◌≤◌, ◌+◌, ◌*◌, ◌^◌, length, map, ◌∙◌, arith}
use Rattle.std.proofs.lemmas.List.{length-map, length-reverse}
use Rattle.std.proofs.Math.Nat.{mul-le-mul_right}
use Rattle.core_steps.specs.Stored.{event_of}
use Rattle.core_steps.specs.Course.{opening_of}
use Rattle.core_steps.specs.inside.Kept.{seen, IsKept}
use Rattle.core_steps.specs.declared.stored_core.Core.TheInside.{Inside}
use Rattle.core_steps.proofs.Reserve.{histories-short}

length-events : (inside : Inside) → length (seen inside).history ≡ length inside.journal.items
length-events inside = length-reverse (map (event_of inside.program.now) inside.journal.items) ∙ length-map inside.journal.items (event_of inside.program.now)

-- they are few
pub noted-few : (inside : Inside) → IsKept inside → length inside.journal.items + 1 < 2 ^ 63
noted-few inside kept =
    let short = histories-short (opening_of (seen inside)) (seen inside).history kept.legal in
    let long = length-events inside in
    let jobs = kept.opening.are_allowed.few_jobs in
    let refinements = kept.opening.are_allowed.few_refinements in
    let workers = kept.opening.few_workers in
    let product : inside.workers * (inside.limits.refinements + 1) ≤ 65536 * (inside.limits.refinements + 1) = mul-le-mul_right (inside.limits.refinements + 1) workers in
    omega (arith, short, long, jobs, refinements, workers, product)
