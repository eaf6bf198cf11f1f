use Rattle.std.proofs.Common.{◌≡◌, ◌∙◌, Some, None, length}
use Rattle.transition_formula.proofs.Words.{position-marked, position-unmarked}
use Rattle.transition_formula.proofs.read_term.until.Goals as goal

pub returns-clause-marked : goal.returns-clause-marked
returns-clause-marked c front rest none is =
    let at : c.place_of.result ≡ Some (length front) = c.place_of.ensures.value ∙ rw is (position-marked c.args.mark front rest none) in
    rw at at c.unwrap_or.ensures

pub returns-clause-unmarked : goal.returns-clause-unmarked
returns-clause-unmarked c none =
    let at : c.place_of.result ≡ None = c.place_of.ensures.value ∙ position-unmarked c.args.mark c.args.text.now none in
    rw at at c.unwrap_or.ensures
