-- Where an instance leads, as the homes of its premises tell.
use Rattle.std.specs.Prelude.{ℕ, ◌==◌, if◌then◌else◌, Option, Some, None, option_map}
use Rattle.transition_formula.specs.Program.{Program, Edge, at_number}
use Rattle.horn_rules.specs.Home.{Home, State, Env}
use Rattle.horn_rules.specs.Instance.{Instance, Init, Own, Guar, Env as Environment, Inter, first_of, second_of}
use Rattle.horn_rules.specs.Instances.{edges_of, tells_another, of_another}

-- the edge, where it leads on from the location
abbrev pub if_from : ℕ → Option Edge → Option Edge
if_from l None = None
if_from l (Some edge) = if edge.from == l then Some edge else None

-- edge e of a home's thread, where it leads on from the home
abbrev pub edge_from : Program → Home → ℕ → Option Edge
edge_from program (State i l) e = if_from l (at_number (edges_of (at_number program.threads i)) e)
edge_from program (Env i k) e = None

-- the home at the place, in the home's thread: where its edge leads, and the edge itself
abbrev pub location_beside : Home → ℕ → Home
location_beside (State i l) m = State i m
location_beside (Env i k) m = State i m

abbrev pub edge_beside : Home → ℕ → Home
edge_beside (State i l) e = Env i e
edge_beside (Env i k) e = Env i e

-- The home of which an instance gives a fact, where its premises stand at these homes; nothing where it is no instance.
abbrev pub target_at : {F : Type 0} → Program → Instance F → Option Home → Option Home → Option Home
target_at program (Init i) first second = option_map (λ thread. State i 1) (at_number program.threads i)
target_at program (Own f e) (Some home) second = option_map (λ edge. location_beside home edge.to) (edge_from program home e)
target_at program (Guar f e) (Some home) second = option_map (λ edge. edge_beside home e) (edge_from program home e)
target_at program (Environment f t) (Some home) (Some told) = if tells_another home told then Some home else None
target_at program (Inter f g e) (Some home) (Some other) = if of_another home other then option_map (λ edge. home) (edge_from program other e) else None
target_at program instance first second = None

abbrev pub target_of : Program → Instance Home → Option Home
target_of program instance = target_at program instance (first_of instance) (second_of instance)
