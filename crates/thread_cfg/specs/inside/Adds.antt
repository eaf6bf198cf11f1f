-- What is added to what was found of a thread.
use Rattle.std.specs.Prelude.{◌≡◌, ℕ, ◌+◌, ◌<◌, ◌^◌, List, [], ◌++◌, length, map, flat_map}
use Rattle.std.specs.List.{AllByRecursion}
use Rattle.thr_base.specs.declared.stops.Refusal.{Refusal}
use Rattle.c_check.specs.First.{first_of}
use Rattle.transition_formula.specs.Program.{Edge}
use Rattle.transition_formula.specs.Stored.{edge_of}
use Rattle.thread_cfg.specs.declared.thread.Found.{Found}
use Rattle.c_check.specs.declared.meaning.Variable.{Variable}
use Rattle.c_check.specs.Items.{reads}
use Rattle.c_check.specs.Plan.{Arithmetic}
use Rattle.thread_cfg.specs.declared.comparing.Compared.{Compared}
use Rattle.thread_cfg.specs.declared.reading.Reading.{Reading}
use Rattle.thread_cfg.specs.declared.running.Running.{Running}
use Rattle.thread_cfg.specs.Action.{Action, Alternative, path_alternative, read_actions}
use Rattle.thread_cfg.specs.Edge.{alternative_edge}
use Rattle.thread_cfg.specs.Graph.{edge_made, edges_from, refusals_from, unfit}
use Rattle.thread_cfg.specs.Path.{Path}
use Rattle.thread_cfg.specs.inside.Few.{WrittenPath, path_written}
use Rattle.thread_cfg.specs.inside.Meant.{Means, frame_of}
use Rattle.thread_cfg.specs.inside.Parts.{Part, Written, part_actions, parts_actions, parts_size, written}
use Rattle.thread_cfg.specs.inside.Within.{ActionsWithin}
use Rattle.thread_cfg.specs.Within.{EventsWithin}

-- The refusals are added, and where there are none the edges.
pub record Adds (old new : Found) (refusals : List Refusal) (edges : List Edge) : Type 0 where
  pub refusal_is : (done : List Refusal) → old.refusal ≡ first_of done → new.refusal ≡ first_of (done ++ refusals)
  pub edges_are : refusals ≡ [] → map edge_of new.edges.items ≡ map edge_of old.edges.items ++ edges

-- the refusal of a way on from a location
abbrev pub way_refusals : Running → ℕ → Alternative → List Refusal
way_refusals running at a = unfit (alternative_edge running.columns (frame_of running.frame) at a)

-- the edge of a way on from a location
abbrev pub way_edges : Running → ℕ → Alternative → List Edge
way_edges running at a = edge_made (alternative_edge running.columns (frame_of running.frame) at a)

-- The ways on from a location are added.
abbrev pub AddsWays : Running → ℕ → Found → Found → List Alternative → Type 0
AddsWays running at old new ways = Adds old new (flat_map (way_refusals running at) ways) (flat_map (way_edges running at) ways)

-- Actions are added, the first of which is at this location.
abbrev pub AddsActions : Running → ℕ → Found → Found → List Action → Type 0
AddsActions running at old new actions =
    Adds old new (refusals_from running.columns (frame_of running.frame) at actions) (edges_from running.columns (frame_of running.frame) at actions)

-- They read and set only columns that there are.
abbrev pub WaysWithin : Running → List Alternative → Type 0
WaysWithin running ways = AllByRecursion (λ a. EventsWithin running.columns (frame_of running.frame) a.events) ways

-- The actions read and set only columns that there are.
abbrev pub AreWithin : Running → List Action → Type 0
AreWithin running actions = ActionsWithin running.columns (frame_of running.frame) actions

-- Two expressions are these.
abbrev pub AreCompared : Compared → Arithmetic → Arithmetic → Type 0
AreCompared compared a b = Means compared.left a × Means compared.right b

-- The reads of these variables are added, and where the next read is.
pub record AddsReads (running : Running) (from : ℕ) (old new : Found) (first next : Reading) (vs : List Variable) : Type 0 where
  pub added : AddsActions running first.at.0 old new (read_actions from (reads first.temporary vs) first.at.0)
  pub at : next.at.0 ≡ first.at.0 + length vs
  pub temporary : next.temporary ≡ first.temporary + length vs

-- the actions of a part, the first of which is at this location
abbrev pub actions_of_part : Running → ℕ → Part → List Action
actions_of_part running at p = part_actions (frame_of running.frame) running.temporary at p

-- the actions of parts, the first of which is at this location
abbrev pub actions_of_parts : Running → ℕ → List Part → List Action
actions_of_parts running at ps = parts_actions (frame_of running.frame) running.temporary at ps

-- Of parts these are left from a location on.
pub record AreLeft (running : Running) (at : ℕ) (remaining : List Written) : Type 0 where
  pub parts : List Part
  pub written_so : remaining ≡ map written parts
  pub room : at + parts_size parts < 2 ^ 32
  pub within : AreWithin running (actions_of_parts running at parts)

-- Of parts all are added but for those that are left from a location on.
pub record AreDone (running : Running) (old new : Found) (at : ℕ) (remaining : List Written) (whole : List Part) : Type 0 where
  pub rest : List Part
  pub rest_is : remaining ≡ map written rest
  pub done : List Action
  pub added : AddsActions running 1 old new done
  pub far : 1 + length done ≡ at
  pub all : done ++ actions_of_parts running at rest ≡ actions_of_parts running 1 whole

-- Of the ways of paths all are added but for those that are left.
pub record WaysDone (running : Running) (at next : ℕ) (old new : Found) (remaining : List WrittenPath) (whole : List Path) : Type 0 where
  pub rest : List Path
  pub rest_is : remaining ≡ map path_written rest
  pub done : List Alternative
  pub added : AddsWays running at old new done
  pub all : done ++ map (path_alternative next) rest ≡ map (path_alternative next) whole
