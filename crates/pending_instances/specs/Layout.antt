-- A program as cursors see it.
use Rattle.std.specs.Prelude.{◌≡◌, ℕ, false, List, map, slice_get, Some}
use Rattle.std.specs.List.{Contains}
use Rattle.std.specs.Option.{IsSome}
use Rattle.thr_base.specs.Held.{Rise}
use Rattle.instance_cursors.specs.declared.layout.EdgeHomes.{EdgeHomes}
use Rattle.instance_cursors.specs.declared.layout.HomeOf.{HomeOf}
use Rattle.instance_cursors.specs.declared.layout.HomeKind.TheVariants as kinds
use Rattle.instance_cursors.specs.declared.start.Start.{Start as StartOf}
use Rattle.instance_cursors.specs.Ways.{Layout}
use Rattle.transition_formula.specs.Program.{Program, Thread, Edge, IsEdgeOf, at_number}
use Rattle.horn_rules.specs.Home.{Home, State, Env, homes}

-- a home's thread and kind
abbrev pub seen_home : Home → HomeOf
seen_home (State i l) = record { thread = record { 0 = i }; kind = kinds.State }
seen_home (Env i e) = record { thread = record { 0 = i }; kind = kinds.Step }

-- The edge of the program, with the numbers of its homes.
pub record IsEdgeSeen (program : Program) (seen : EdgeHomes) : Type 0 where
  pub thread : Thread
  pub edge : Edge
  pub edge_is : IsEdgeOf program seen.thread.0 seen.edge.0 thread edge
  pub source : at_number (homes program) seen.source.0 ≡ Some (State seen.thread.0 edge.from)
  pub target : at_number (homes program) seen.target.0 ≡ Some (State seen.thread.0 edge.to)
  pub told : at_number (homes program) seen.told.0 ≡ Some (Env seen.thread.0 seen.edge.0)

-- The list has exactly the edges of the program, each once.
pub record AreEdgesSeen (program : Program) (edges : List EdgeHomes) : Type 0 where
  pub are : (place : ℕ) (seen : EdgeHomes) → slice_get edges place ≡ Some seen → IsEdgeSeen program seen
  pub all : (i e : ℕ) (thread : Thread) (edge : Edge) → IsEdgeOf program i e thread edge
      → (place : ℕ) × (seen : EdgeHomes) × (slice_get edges place ≡ Some seen) × (seen.thread.0 ≡ i) × (seen.edge.0 ≡ e)
  pub rise : Rise 0 (map (λ seen. seen.told.0) edges)

-- The list has the start of each thread.
pub record AreStartsSeen (program : Program) (starts : List StartOf) : Type 0 where
  pub are : (start : StartOf) → Contains starts start → IsSome (at_number program.threads start.thread.0)
  pub homes_are : (start : StartOf) → Contains starts start → at_number (homes program) start.home.0 ≡ Some (State start.thread.0 1)
  pub all : (i : ℕ) → IsSome (at_number program.threads i) → (start : StartOf) × Contains starts start × (start.thread.0 ≡ i)

-- No start was taken.
abbrev pub NoneIsTaken : List StartOf → Type 0
NoneIsTaken starts = (start : StartOf) → Contains starts start → start.taken ≡ false

-- The layout is of the program.
pub record IsLayoutOf (program : Program) (layout : Layout) : Type 0 where
  pub homes : layout.homes ≡ map seen_home (homes program)
  pub edges : AreEdgesSeen program layout.edges
