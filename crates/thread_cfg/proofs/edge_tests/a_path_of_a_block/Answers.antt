use Rattle.std.proofs.Common.{pos, [], ◌∷◌, refl, arith}
use Rattle.c_check.specs.Plan.{Arithmetic}
use Rattle.c_check.specs.declared.meaning.Variable.TheVariants as variable
use Rattle.thread_cfg.specs.declared.relation.Relation.TheVariants as related
use Rattle.thread_cfg.specs.Path.{Event}
use Rattle.thread_cfg.proofs.edge_tests.a_path_of_a_block.Goals as goal

pub edge-requires-clause-within : goal.edge-requires-clause-within
edge-requires-clause-within g c = record {
  meant = Event.Sets 4 (variable.Shared 1) (Arithmetic.Sum (Arithmetic.Product (Arithmetic.Number (pos 2)) (Arithmetic.Value (variable.Shared 0))) (Arithmetic.Number (pos 1)))
      ∷ (Event.Sets 5 (variable.Shared 0) (Arithmetic.Value (variable.Shared 1))
      ∷ (Event.Sets 4 (variable.Shared 1) (Arithmetic.Sum (Arithmetic.Product (Arithmetic.Number (pos 2)) (Arithmetic.Value (variable.Shared 0))) (Arithmetic.Number (pos 1)))
      ∷ (Event.SetsAny (variable.Own 0) ∷ (Event.Requires 6 related.AtMost (Arithmetic.Value (variable.Own 0)) (Arithmetic.Value (variable.Shared 0)) ∷ []))));
  stand = ((refl, refl, refl), ((refl, refl, refl), ((refl, refl, refl), (refl, ((refl, refl, refl, refl), tt)))));
  within = ((omega arith, ((tt, omega arith), tt)), ((omega arith, omega arith), ((omega arith, ((tt, omega arith), tt)), (omega arith, ((omega arith, omega arith), tt)))));
}
