use Rattle.std.proofs.Common.{◌≡◌, ◌+◌, drop}
use Rattle.std.specs.List.{slice_get}
use Rattle.horn_rules.specs.Home.{by_number}
use Rattle.horn_rules.specs.inside.Kinds.{homes_in}
use Rattle.horn_rules.proofs.homes.home_at.Given as goal

abbrev pub invariant-loop-i : goal.invariant-loop-i
invariant-loop-i l =
    slice_get (by_number (homes_in l.kind) (l.i + 1) (drop l.i l.program.threads)) l.left ≡ slice_get (by_number (homes_in l.kind) 1 l.program.threads) l.place
