use Rattle.std.proofs.Common.{◌≡◌, ◌*◌, ◌^◌, ◌≤◌, length, take}
use Rattle.horn_rules.specs.Home.{by_number}
use Rattle.horn_rules.specs.inside.Kinds.{homes_in}
use Rattle.horn_rules.proofs.homes.count_before.Given as goal

abbrev pub invariant-loop-i : goal.invariant-loop-i
invariant-loop-i l = record {
  count : l.count ≡ length (by_number (homes_in l.kind) 1 (take l.i l.program.threads));
  few : l.count ≤ l.i * 2 ^ 16;
}
