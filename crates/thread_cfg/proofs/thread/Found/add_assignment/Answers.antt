use Rattle.std.proofs.Common.{◌≡◌, ◌+◌, ◌<◌, ◌≤◌, ◌∷◌, [], OnOk, true, false, length, refl, sym, ap, subst, ◌∙◌, arith}
use Rattle.c_check.specs.Plan.{postfix}
use Rattle.c_check.specs.Items.{few, over_temporaries, reads, shared_in, written}
use Rattle.thread_cfg.specs.Path.{Event}
use Rattle.thread_cfg.specs.Action.{assign_accesses, read_actions, simple}
use Rattle.thread_cfg.specs.inside.Adds.{AddsActions, AreWithin}
use Rattle.thread_cfg.specs.inside.Sizes.{locations, shared_operations, shared_variables}
use Rattle.thread_cfg.proofs.AddLemmas.{AddsActions-then}
use Rattle.thread_cfg.proofs.PassSteps.{on_ok-then}
use Rattle.thread_cfg.proofs.ReadLemmas.{assign-few, assign-many, assign_accesses-is, few-false, few-true, length-shared, length-variables, locations-many, variables-is, within-front, within-rest}
use Rattle.thread_cfg.proofs.thread.Found.add_assignment.Goals as goal

pub add_simple-requires : goal.add_simple-requires
add_simple-requires c =
    let a = c.args.assignment.now in
    let e = c.requires.within.0 in
    let os = c.as_slice-operations.result.now in
    let is : os ≡ postfix e = c.as_slice-operations.ensures ∙ c.requires.within.1 in
    let n = assign_accesses-is a.variable c.shared_operations-reads.result c.accesses_of.result os e is c.shared_operations-reads.ensures.value c.accesses_of.ensures in
    let one : few (assign_accesses a.variable e) ≡ true = few-true (assign_accesses a.variable e) (subst (λ k. k < 2) n c.if-accesses_of-lt2.true) in
    record {
      within = (
        a.from,
        Event.Sets a.at a.variable e,
        (refl, refl, is),
        subst (AreWithin c.args.running.now) (assign-few c.args.running.now.temporary c.args.at.0 c.args.next.0 a.from a.at a.variable e one) c.requires.within.2,
      );
    }

pub returns-then-accesses_of-lt2 : goal.returns-then-accesses_of-lt2
returns-then-accesses_of-lt2 c e given =
    let a = c.args.assignment.now in
    let os = c.as_slice-operations.result.now in
    let is : os ≡ postfix e = c.as_slice-operations.ensures ∙ given in
    let n = assign_accesses-is a.variable c.shared_operations-reads.result c.accesses_of.result os e is c.shared_operations-reads.ensures.value c.accesses_of.ensures in
    let one : few (assign_accesses a.variable e) ≡ true = few-true (assign_accesses a.variable e) (subst (λ k. k < 2) n c.if-accesses_of-lt2.true) in
    subst (λ l. OnOk c.add_simple.result (AddsActions c.args.running.now c.args.at.0 c.args.self.now c.add_simple.new.self l))
    (sym (assign-few c.args.running.now.temporary c.args.at.0 c.args.next.0 a.from a.at a.variable e one))
    (c.add_simple.ensures a.from (Event.Sets a.at a.variable e) (refl, refl, is))

pub add_reads-requires-clause-room : goal.add_reads-requires-clause-room
add_reads-requires-clause-room c =
    let a = c.args.assignment.now in
    let os = c.as_slice-operations.result.now in
    let n : c.shared_operations-reads.result ≡ shared_operations a.value = c.shared_operations-reads.ensures.value ∙ ap shared_operations c.as_slice-operations.ensures in
    let size = locations-many c.accesses_of.result c.shared_operations-reads.result c.if-accesses_of-lt2.false in
    let same = subst (λ k. locations (written a.variable k) k ≡ k + 1) n (subst (λ k. locations k c.shared_operations-reads.result ≡ c.shared_operations-reads.result + 1) c.accesses_of.ensures size) in
    omega (arith, same, c.requires.room, length-shared os, ap shared_operations c.as_slice-operations.ensures)

pub add_reads-requires-clause-within : goal.add_reads-requires-clause-within
add_reads-requires-clause-within c =
    let a = c.args.assignment.now in
    let e = c.requires.within.0 in
    let os = c.as_slice-operations.result.now in
    let running = c.args.running.now in
    let is : os ≡ postfix e = c.as_slice-operations.ensures ∙ c.requires.within.1 in
    let n = assign_accesses-is a.variable c.shared_operations-reads.result c.accesses_of.result os e is c.shared_operations-reads.ensures.value c.accesses_of.ensures in
    let more : few (assign_accesses a.variable e) ≡ false = few-false (assign_accesses a.variable e) (subst (λ k. 2 ≤ k) n c.if-accesses_of-lt2.false) in
    let all = subst (AreWithin running) (assign-many running.temporary c.args.at.0 c.args.next.0 a.from a.at a.variable e more) c.requires.within.2 in
    subst (λ vs. AreWithin running (read_actions a.from (reads running.temporary vs) c.args.at.0)) (sym (variables-is os e is))
    (within-front running (read_actions a.from (reads running.temporary (shared_in e)) c.args.at.0)
    (simple a.from (Event.Sets a.at a.variable (over_temporaries running.temporary e)) c.args.next.0 ∷ []) all)

pub add_simple-requires-else-accesses_of-lt2 : goal.add_simple-requires-else-accesses_of-lt2
add_simple-requires-else-accesses_of-lt2 c =
    let a = c.args.assignment.now in
    let e = c.requires.within.0 in
    let os = c.as_slice-operations.result.now in
    let running = c.args.running.now in
    let is : os ≡ postfix e = c.as_slice-operations.ensures ∙ c.requires.within.1 in
    let n = assign_accesses-is a.variable c.shared_operations-reads.result c.accesses_of.result os e is c.shared_operations-reads.ensures.value c.accesses_of.ensures in
    let more : few (assign_accesses a.variable e) ≡ false = few-false (assign_accesses a.variable e) (subst (λ k. 2 ≤ k) n c.if-accesses_of-lt2.false) in
    let all = subst (AreWithin running) (assign-many running.temporary c.args.at.0 c.args.next.0 a.from a.at a.variable e more) c.requires.within.2 in
    record {
      within = (
        a.from,
        Event.Sets a.at a.variable (over_temporaries running.temporary e),
        (refl, refl, (e, is, refl)),
        within-rest running (read_actions a.from (reads running.temporary (shared_in e)) c.args.at.0)
            (simple a.from (Event.Sets a.at a.variable (over_temporaries running.temporary e)) c.args.next.0 ∷ []) all,
      );
    }

pub returns-in_ok-last : goal.returns-in_ok-last
returns-in_ok-last c e given =
    let a = c.args.assignment.now in
    let os = c.as_slice-operations.result.now in
    let running = c.args.running.now in
    let at = c.args.at.0 in
    let is : os ≡ postfix e = c.as_slice-operations.ensures ∙ given in
    let n = assign_accesses-is a.variable c.shared_operations-reads.result c.accesses_of.result os e is c.shared_operations-reads.ensures.value c.accesses_of.ensures in
    let more : few (assign_accesses a.variable e) ≡ false = few-false (assign_accesses a.variable e) (subst (λ k. 2 ≤ k) n c.if-accesses_of-lt2.false) in
    let vs = shared_variables os in
    let rs = read_actions a.from (reads running.temporary (shared_in e)) at in
    let set = simple a.from (Event.Sets a.at a.variable (over_temporaries running.temporary e)) c.args.next.0 in
    let added = subst (λ l. AddsActions running at c.args.self.now c.add_reads.new.self (read_actions a.from (reads running.temporary l) at)) (variables-is os e is) c.in_ok-last.ensures.added in
    let behind : at + length rs ≡ c.in_ok-last.last.at.0 =
    omega (arith, length-variables a.from running.temporary at (shared_in e), ap length (variables-is os e is), c.in_ok-last.ensures.at) in
    subst (λ l. OnOk c.add_simple-else-accesses_of-lt2.result (AddsActions running at c.args.self.now c.add_simple-else-accesses_of-lt2.new.self l))
    (sym (assign-many running.temporary at c.args.next.0 a.from a.at a.variable e more))
    (on_ok-then
    (AddsActions-then running at c.in_ok-last.last.at.0 c.args.self.now c.add_reads.new.self c.add_simple-else-accesses_of-lt2.new.self rs (set ∷ []) behind added)
    c.add_simple-else-accesses_of-lt2.result
    (c.add_simple-else-accesses_of-lt2.ensures a.from (Event.Sets a.at a.variable (over_temporaries running.temporary e)) (refl, refl, (e, is, refl))))
