use Rattle.std.proofs.Common.{pos, [], ◌∷◌, refl}
use Rattle.c_check.specs.Plan.{Arithmetic}
use Rattle.thread_cfg.specs.declared.relation.Relation.TheVariants as related
use Rattle.thread_cfg.specs.Path.{Event}
use Rattle.thread_cfg.proofs.edge_tests.rows_between_numbers.Goals as goal

pub edge-requires-clause-within : goal.edge-requires-clause-within
edge-requires-clause-within g c = record {
  meant = Event.Requires 8 related.AtMost (Arithmetic.Number (pos 0)) (Arithmetic.Number (pos 1)) ∷ [];
  stand = ((refl, refl, refl, refl), tt);
  within = ((tt, tt), tt);
}

pub edge-requires-2-clause-within : goal.edge-requires-2-clause-within
edge-requires-2-clause-within g c = record {
  meant = Event.Requires 8 related.Equal (Arithmetic.Number (pos 0)) (Arithmetic.Number (pos 1)) ∷ [];
  stand = ((refl, refl, refl, refl), tt);
  within = ((tt, tt), tt);
}

pub edge-requires-3-clause-within : goal.edge-requires-3-clause-within
edge-requires-3-clause-within g c = record {
  meant = Event.Requires 8 related.Greater (Arithmetic.Number (pos 0)) (Arithmetic.Number (pos 170141183460469231731687303715884105727)) ∷ [];
  stand = ((refl, refl, refl, refl), tt);
  within = ((tt, tt), tt);
}
