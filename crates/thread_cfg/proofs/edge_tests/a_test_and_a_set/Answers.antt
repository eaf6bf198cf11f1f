use Rattle.std.proofs.Common.{pos, [], ◌∷◌, refl, arith}
use Rattle.c_check.specs.Plan.{Arithmetic}
use Rattle.c_check.specs.declared.meaning.Variable.TheVariants as variable
use Rattle.thread_cfg.specs.declared.relation.Relation.TheVariants as related
use Rattle.thread_cfg.specs.Path.{Event}
use Rattle.thread_cfg.proofs.edge_tests.a_test_and_a_set.Goals as goal

pub edge-requires-clause-within : goal.edge-requires-clause-within
edge-requires-clause-within g c = record {
  meant = Event.Requires 3 related.Less (Arithmetic.Value (variable.Shared 0)) (Arithmetic.Number (pos 5))
      ∷ (Event.Sets 4 (variable.Shared 1) (Arithmetic.Sum (Arithmetic.Difference (Arithmetic.Product (Arithmetic.Number (pos 2)) (Arithmetic.Value (variable.Shared 0))) (Arithmetic.Value (variable.Own 0))) (Arithmetic.Number (pos 3))) ∷ []);
  stand = ((refl, refl, refl, refl), ((refl, refl, refl), tt));
  within = ((omega arith, tt), ((omega arith, (((tt, omega arith), omega arith), tt)), tt));
}
