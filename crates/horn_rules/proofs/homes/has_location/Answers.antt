use Rattle.std.proofs.Common.{◌∙◌, sym, refl}
use Rattle.std.proofs.lemmas.Bool.{false≢true}
use Rattle.std.proofs.lemmas.Bool.Decides.{Decides-ltb}
use Rattle.horn_rules.proofs.HomesThere.{location-there, location-within, state-thread}
use Rattle.horn_rules.proofs.homes.has_location.Goals as goal

pub returns-then-has_thread : goal.returns-then-has_thread
returns-then-has_thread c =
    let program = c.args.program.now in
    let test = Decides-ltb c.args.location.0 c.locations.result in (
      λ e. location-there program c.args.thread.0 c.args.location.0 c.locations.result _ refl c.locations.ensures (test.0 e),
      λ is. test.1 (location-within program c.args.thread.0 c.args.location.0 c.locations.result c.locations.ensures is),
    )

pub returns-else-has_thread : goal.returns-else-has_thread
returns-else-has_thread c = (
  λ e. absurd (false≢true (sym c.if-has_thread.false ∙ e)),
  λ is. c.has_thread.ensures.1 (state-thread c.args.program.now c.args.thread.0 c.args.location.0 is),
)
