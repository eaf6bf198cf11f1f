use Rattle.std.proofs.Common.{[], ◌∷◌, refl, arith}
use Rattle.c_check.specs.Plan.{Arithmetic}
use Rattle.c_check.specs.declared.meaning.Variable.TheVariants as variable
use Rattle.thread_cfg.specs.Path.{Event}
use Rattle.thread_cfg.proofs.edge_tests.temporaries_in_place_of_what_is_shared.Goals as goal

pub edge-requires-clause-within : goal.edge-requires-clause-within
edge-requires-clause-within g c = record {
  meant = Event.Sets 7 (variable.Shared 0) (Arithmetic.Product (Arithmetic.Value (variable.Own 0)) (Arithmetic.Value (variable.Own 1))) ∷ [];
  stand = ((refl, refl, (Arithmetic.Product (Arithmetic.Value (variable.Shared 0)) (Arithmetic.Value (variable.Shared 0)), refl, refl)), tt);
  within = ((omega arith, (omega arith, omega arith)), tt);
}

pub edge-requires-2-clause-within : goal.edge-requires-2-clause-within
edge-requires-2-clause-within g c = record {
  meant = Event.Sets 7 (variable.Shared 0) (Arithmetic.Difference (Arithmetic.Value (variable.Own 0)) (Arithmetic.Value (variable.Own 1))) ∷ [];
  stand = ((refl, refl, (Arithmetic.Difference (Arithmetic.Value (variable.Shared 0)) (Arithmetic.Value (variable.Shared 1)), refl, refl)), tt);
  within = ((omega arith, (omega arith, omega arith)), tt);
}
