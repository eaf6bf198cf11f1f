-- One kind of homes. No public clause cites this file.
use Rattle.std.specs.Prelude.{ℕ, suc, ◌<◌, List, length}
use Rattle.transition_formula.specs.Program.{Program, Thread, IsThreadOf}
use Rattle.horn_rules.specs.declared.homes.Kind.{Kind}
use Rattle.horn_rules.specs.declared.homes.Kind.TheVariants.{Location, Edge}
use Rattle.horn_rules.specs.Home.{Home, State, Env, state_homes, env_homes}

-- the homes of thread i, of one kind
abbrev pub homes_in : Kind → ℕ → Thread → List Home
homes_in Location = state_homes
homes_in Edge = env_homes

-- the home of a kind at a place of thread i; the first edge has number 1
abbrev pub home_in : Kind → ℕ → ℕ → Home
home_in Location i place = State i place
home_in Edge i place = Env i (suc place)

-- Thread i has a home of the kind at the place.
pub record HasPlace (program : Program) (kind : Kind) (i place : ℕ) : Type 0 where
  pub thread : Thread
  pub thread_is : IsThreadOf program i thread
  pub within : place < length (homes_in kind i thread)
