use Rattle.std.proofs.Common.{◌≡◌, ◌≤◌, List, length, map, take}
use Rattle.thread_cfg.specs.inside.Adds.{AreDone, AreLeft}
use Rattle.thread_cfg.specs.inside.Parts.{Part, written}
use Rattle.thread_cfg.specs.inside.Passing.{parts_held}
use Rattle.thread_cfg.proofs.thread.Found.add_parts.Given as goal

-- what is left, and what is done
abbrev pub invariant-parts : goal.invariant-parts
invariant-parts l = record {
  within : l.index ≤ length l.parts;
  left : AreLeft l.running l.at.0 (parts_held (take l.index l.parts));
  far : (whole : List Part) → parts_held l.parts ≡ map written whole → AreDone l.running l.fn.self l.self l.at.0 (parts_held (take l.index l.parts)) whole;
}
