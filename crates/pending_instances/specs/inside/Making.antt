-- What is made of a program for cursors, one after another.
use Rattle.std.specs.Prelude.{◌≡◌, ℕ, false, List, [], ◌∷◌, ◌++◌, Some}
use Rattle.instance_cursors.specs.declared.layout.EdgeHomes.{EdgeHomes}
use Rattle.instance_cursors.specs.declared.start.Start.{Start as StartOf}
use Rattle.transition_formula.specs.Program.{Program, at_number}
use Rattle.horn_rules.specs.Home.{Home, State, Env, homes}
use Rattle.pending_instances.specs.Layout.{IsEdgeSeen}

-- The start of a thread, which was not taken.
pub record IsStartOf (program : Program) (thread : ℕ) (start : StartOf) : Type 0 where
  pub thread_is : start.thread.0 ≡ thread
  pub home_is : at_number (homes program) start.home.0 ≡ Some (State thread 1)
  pub not_taken : start.taken ≡ false

-- The edge of the program at the home of this number.
pub record IsEdgeAt (program : Program) (n : ℕ) (seen : EdgeHomes) : Type 0 where
  pub is_seen : IsEdgeSeen program seen
  pub number : seen.told.0 ≡ n

-- Where the home is one of steps, its edge follows.
abbrev pub AddsEdge : Program → ℕ → Home → List EdgeHomes → List EdgeHomes → Type 0
AddsEdge program n (State i l) old new = new ≡ old
AddsEdge program n (Env i e) old new = (seen : EdgeHomes) × IsEdgeAt program n seen × (new ≡ old ++ seen ∷ [])
