use Rattle.std.proofs.Common.{◌≡◌, ◌+◌, ◌<◌, ◌^◌, ◌++◌, List, drop, length}
use Rattle.c_check.specs.declared.meaning.Variable.{Variable}
use Rattle.c_check.specs.Items.{reads}
use Rattle.thread_cfg.specs.Action.{read_actions}
use Rattle.thread_cfg.specs.inside.Adds.{AddsReads, AreWithin}
use Rattle.thread_cfg.specs.inside.Sizes.{shared_variables}
use Rattle.thread_cfg.proofs.thread.Found.add_reads.Given as goal

-- so far, and what is left, are all
abbrev pub invariant-operations : goal.invariant-operations
invariant-operations l = record {
  room : l.reading.at.0 + length (shared_variables (drop l.operation-index l.operations)) < 2 ^ 32;
  within : AreWithin l.running (read_actions l.from (reads l.reading.temporary (shared_variables (drop l.operation-index l.operations))) l.reading.at.0);
  far : (vs : List Variable) × (vs ++ shared_variables (drop l.operation-index l.operations) ≡ shared_variables l.operations)
      × AddsReads l.running l.from l.fn.self l.self l.fn.first l.reading vs;
}
