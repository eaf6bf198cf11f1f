-- Legal histories.
use Rattle.std.specs.Prelude.{[], ◌∷◌}
use Rattle.core_steps.specs.State.{Opening}
use Rattle.core_steps.specs.Event.{History}
use Rattle.core_steps.specs.After.{after}
use Rattle.core_steps.specs.Allowed.{Allows}

-- Each event is allowed in the state that the events before it leave.
abbrev pub IsLegal : Opening → History → Type 0
IsLegal opening [] = Unit {0}
IsLegal opening (event ∷ earlier) = Allows opening (after opening earlier) event × IsLegal opening earlier
