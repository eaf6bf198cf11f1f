use Rattle.step_meaning.proofs.Outcomes.{goes-steps, blocks-no_step, steps-given, fits-no_overflow, given-fits, first_stops-told}
use Rattle.step_meaning.proofs.Order.{order-kept}
use Rattle.step_meaning.proofs.laws.outcomes_are_exact.Goals as goal

pub returns : goal.returns
returns c = record {
  goes = goes-steps;
  blocks = blocks-no_step;
  given = steps-given;
  fits = fits-no_overflow;
  numbers = given-fits;
  first = first_stops-told;
  order = order-kept;
}
