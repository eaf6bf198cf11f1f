use Rattle.std.proofs.Common.{◌≡◌, ◌-◌, length, true, refl, sym, ap, subst, ◌∙◌, arith}
use Rattle.std.proofs.lemmas.List.{length-map, get_or_read}
use Rattle.std.specs.List.{AllByRecursion}
use Rattle.predicate_sets.proofs.Homes.{set_at-map}
use Rattle.horn_rules.specs.Home.{homes}
use Rattle.horn_rules.specs.Instance.{premises_of}
use Rattle.core_steps.specs.Course.{Course, opening_of, state_of}
use Rattle.core_steps.specs.State.{Task}
use Rattle.core_steps.specs.Withdrawn.{has_id}
use Rattle.core_steps.specs.inside.Kept.{seen}
use Rattle.core_steps.specs.inside.Taking.{IsNextOf}
use Rattle.core_steps.specs.inside.Premises.{ArePremisesOf, IsTaskJob}
use Rattle.core_steps.proofs.PresentTasks.{all-to, leads-live}
use Rattle.core_steps.proofs.PremiseFacts.{job-fits, number-within}
use Rattle.core_steps.proofs.stored_core.Core.job_of.Goals as goal

pub premises_of-requires : goal.premises_of-requires
premises_of-requires c =
    let (task, of) = c.requires in
    let s = state_of c.args.self.now in
    let live = leads-live (opening_of c.args.self.now) s.live task.instance task.home of.pending.leads in
    subst (λ i. AllByRecursion (λ id. has_id s.live id ≡ true) (premises_of i)) of.instance_is (all-to (has_id s.live) (premises_of task.instance) live)

pub index-requires : goal.index-requires
index-requires c =
    let Next : Course → Type 0 = λ s. (task : Task) × IsNextOf (opening_of s) (state_of s) c.args.next task in
    let (task, of) = subst Next (sym c.self.view_is) c.requires in
    let within = number-within (homes c.self.inside.program.now) c.args.next.home.0 task.home of.home_is in
    let holds = c.self.invariant.holds in
    let shared = ap length holds.shared in
    let mapped = length-map c.self.inside.lists.items (λ list. list.value) in
    omega (arith, within.0, within.1, shared, mapped, holds.lists.one_each, c.self.inside.lists.ok.0)

pub index-requires-2 : goal.index-requires-2
index-requires-2 c =
    let Next : Course → Type 0 = λ s. (task : Task) × IsNextOf (opening_of s) (state_of s) c.args.next task in
    let (task, of) = subst Next (sym c.self.view_is) c.requires in
    let within = number-within (homes c.self.inside.program.now) c.args.next.home.0 task.home of.home_is in
    let holds = c.self.invariant.holds in
    omega (arith, within.0, within.1, holds.epochs.one_each, c.self.inside.epochs.ok.0)

pub returns : goal.returns
returns c =
    let Next : Course → Type 0 = λ s. (task : Task) × IsNextOf (opening_of s) (state_of s) c.args.next task in
    let (task, of) = subst Next (sym c.self.view_is) c.requires in
    let o = opening_of (seen c.self.inside) in
    let kept = c.self.invariant in
    let one = kept.holds.lists.one_each in
    let within = number-within (homes c.self.inside.program.now) c.args.next.home.0 task.home of.home_is in
    let list = set_at-map (λ list. list.value) c.self.inside.lists.items c.self.inside.sets c.args.next.home.0 c.index.result.now kept.holds.shared
    (within.0, omega (arith, within.1, one)) c.index.ensures in
    let epoch = get_or_read c.self.inside.epochs.items (c.args.next.home.0 - 1) c.index-2.result.now (omega (arith, within.0, within.1, kept.holds.epochs.one_each)) c.index-2.ensures 0 in
    let present = of.pending.present ∙ kept.holds.epochs.each c.args.next.home.0 task.home of.home_is in
    let Premises : Course → Type 0 = λ s. ArePremisesOf (opening_of s) (state_of s) c.args.next.instance c.in_ok-first.first c.in_ok-first.second in
    let Made : Course → Type 0 = λ s. IsTaskJob (opening_of s) (state_of s) c.args.w c.args.next (record {
      program = c.self.inside.program;
      worker = c.args.w;
      instance = c.args.next.instance;
      home = c.args.next.home;
      epoch = record { 0 = c.index-2.result.now };
      first = c.in_ok-first.first;
      second = c.in_ok-first.second;
      target = c.in_ok-target.target;
    }) in
    subst Made c.self.view_is
    (job-fits o (seen c.self.inside).history c.self.inside.sets c.args.w c.args.next task c.in_ok-first.first c.in_ok-first.second _ kept.opening kept.legal kept.holds.lists of
    (subst Premises (sym c.self.view_is) c.in_ok-first.ensures) refl refl refl refl (epoch ∙ sym present) refl refl (c.in_ok-target.ensures ∙ sym list))
