use Rattle.std.proofs.Common.{[], ◌∷◌, pos, Some, refl}
use Rattle.c_check.specs.declared.meaning.Variable.TheVariants as variable
use Rattle.c_check.specs.Plan.{Arithmetic}
use Rattle.thread_cfg.specs.declared.relation.Relation.TheVariants as related
use Rattle.thread_cfg.specs.Path.{Event}
use Rattle.thread_cfg.specs.Source.{lock_column}
use Rattle.thread_cfg.specs.Action.{Alternative, lock_variable, requiring, unlock_action}
use Rattle.thread_cfg.specs.inside.Meant.{frame_of}
use Rattle.thread_cfg.proofs.AddLemmas.{AddsActions-ways, AddsWays-then}
use Rattle.thread_cfg.proofs.PassSteps.{on_ok-then}
use Rattle.thread_cfg.proofs.thread.Found.add_unlock.Goals as goal

pub returns : goal.returns
returns c =
    let frame = frame_of c.args.running.now.frame in
    let from = c.args.from in
    let thread = Arithmetic.Number (pos c.args.running.now.frame.thread.0) in
    let lock = lock_variable frame c.args.lock in
    let held : Alternative = record {
      events = Event.Requires from related.Equal lock thread ∷ (Event.Sets from (variable.Shared (lock_column frame c.args.lock)) (Arithmetic.Number (pos 0)) ∷ []);
      to = c.args.next.0;
    } in
    let first = rw c.lock_variable-variable.ensures at c.in_ok-add_exchange.ensures in
    let second = rw c.lock_variable-variable.ensures at
    (c.add_requiring.ensures (Arithmetic.Value c.lock_variable-variable.result) thread (refl, c.number.ensures)) in
    on_ok-then
    (λ more. AddsActions-ways c.args.running.now c.args.at.0 c.args.self.now c.add_requiring.new.self (unlock_action frame from c.args.lock c.args.next.0) refl
    (AddsWays-then c.args.running.now c.args.at.0 c.args.self.now c.add_exchange.new.self c.add_requiring.new.self
    (held ∷ []) (requiring from (related.Less ∷ (related.Greater ∷ [])) lock thread (Some 0)) first more))
    c.add_requiring.result second
