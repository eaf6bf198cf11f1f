use Rattle.std.proofs.Common.{◌≡◌, [], map, replicate}
use Rattle.serial_fix.proofs.found.no_words.Given as goal

abbrev pub invariant-loop-home : goal.invariant-loop-home
invariant-loop-home l = map (λ held. held.items) l.words.items ≡ replicate l._home []
