use Rattle.std.proofs.Common.{◌≡◌, ◌++◌, ◌≤◌, drop}
use Rattle.thread_cfg.specs.inside.Sizes.{places_from}
use Rattle.thread_cfg.proofs.places.places_of_code.Given as goal

-- so far, and what is left, are all
abbrev pub invariant-code : goal.invariant-code
invariant-code l = record {
  shallow : l.depth ≤ l.instruction-index;
  all : l.places.items ++ places_from l.depth (drop l.instruction-index l.code) ≡ places_from 0 l.code;
}
