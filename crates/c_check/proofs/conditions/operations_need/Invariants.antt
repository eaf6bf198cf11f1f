use Rattle.std.proofs.Common.{◌≡◌, take}
use Rattle.c_check.specs.inside.Tests.{operations_need}
use Rattle.c_check.proofs.conditions.operations_need.Given as goal

abbrev pub invariant-loop-test : goal.invariant-loop-test
invariant-loop-test l = l.most ≡ operations_need (take l.test-index l.tests)
