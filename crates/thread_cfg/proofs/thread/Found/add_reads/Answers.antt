use Rattle.std.proofs.Common.{◌≡◌, ◌+◌, ◌++◌, pos, drop, get_or, length, sym, ap, subst, ◌∙◌, arith}
use Rattle.std.proofs.lemmas.List.{append_assoc, length-append}
use Rattle.c_check.specs.declared.operation.Operation.TheVariants as operation
use Rattle.c_check.specs.Items.{reads}
use Rattle.thread_cfg.specs.Action.{read_actions}
use Rattle.thread_cfg.specs.inside.Adds.{AddsReads, AreWithin}
use Rattle.thread_cfg.specs.inside.Sizes.{shared_of, shared_variables}
use Rattle.thread_cfg.proofs.ReadLemmas.{AddsReads-then, left-within, shared_variables-next}
use Rattle.thread_cfg.proofs.thread.Found.add_reads.Goals as goal

pub operations-preserved : goal.operations-preserved
operations-preserved c =
    let os = c.args.operations.now in
    let i = c.operations.operation-index in
    let o = get_or os i (operation.Number (pos 0)) in
    let rest = shared_variables (drop (i + 1) os) in
    let running = c.args.running.now in
    let from = c.args.from in
    let before = c.operations.reading in
    let after = c.in_ok-reading.reading in
    let split : shared_variables (drop i os) ≡ shared_of o ++ rest = shared_variables-next os i (operation.Number (pos 0)) c.operations-test.true in
    let step : AddsReads running from c.operations.self c.add_operation.new.self before after (shared_of o) = c.in_ok-reading.ensures in
    let far = c.operations.invariant.far in
    record {
      room = omega (arith, ap length split, length-append (shared_of o) rest, step.at, c.operations.invariant.room);
      within = left-within running from before after (shared_of o) rest step.at step.temporary
          (subst (λ l. AreWithin running (read_actions from (reads before.temporary l) before.at.0)) split c.operations.invariant.within);
      far = (
        far.0 ++ shared_of o,
        append_assoc far.0 (shared_of o) rest ∙ ap (λ l. far.0 ++ l) (sym split) ∙ far.1,
        AddsReads-then running from c.args.self.now c.operations.self c.add_operation.new.self c.args.first before after far.0 (shared_of o) far.2 step,
      );
    }
