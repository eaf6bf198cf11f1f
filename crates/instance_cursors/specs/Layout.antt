-- Which turns a series has: the steps of a fact, from 1, by its home.
use Rattle.std.specs.Prelude.{ℕ, zero, suc, nat_eq, Bool, true, false, not, ◌&&◌, cond, length, slice_get, Option, Some, None}
use Rattle.thr_base.specs.declared.names.RuleName.{RuleName}
use Rattle.thr_base.specs.declared.names.RuleName.TheVariants.{Rg, Og}
use Rattle.thr_base.specs.declared.names.FactId.{FactId}
use Rattle.thr_base.specs.declared.names.HomeNo.{HomeNo}
use Rattle.thr_base.specs.declared.names.ThreadNo.{ThreadNo}
use Rattle.instance_cursors.specs.declared.layout.EdgeHomes.{EdgeHomes}
use Rattle.instance_cursors.specs.declared.layout.HomeKind.{HomeKind}
use Rattle.instance_cursors.specs.declared.layout.HomeKind.TheVariants.{State, Step}
use Rattle.instance_cursors.specs.declared.layout.HomeOf.{HomeOf}
use Rattle.instance_cursors.specs.Ways.{Layout}
use Rattle.instance_cursors.specs.declared.turns.Series.{Series}
use Rattle.instance_cursors.specs.declared.turns.Series.TheVariants.{Own, Told, Beside}
use Rattle.instance_cursors.specs.declared.turns.Turn.{Turn}

-- the edge at this place leads on from the home
abbrev pub leads_from : Option EdgeHomes → ℕ → Bool
leads_from None home = false
leads_from (Some edge) home = nat_eq edge.source.0 home

abbrev pub has_source : Layout → ℕ → ℕ → Bool
has_source layout edge home = leads_from (slice_get layout.edges edge) home

-- a home, by number from 1
abbrev pub home_at : Layout → ℕ → Option HomeOf
home_at layout zero = None
home_at layout (suc place) = slice_get layout.homes place

-- Steps are told to the other threads by rely-guarantee.
abbrev pub is_told : RuleName → Bool
is_told Rg = true
is_told Og = false

-- whether the facts at a home describe states
abbrev pub is_state : HomeKind → Bool
is_state State = true
is_state Step = false

-- the one home is a state home, and the other is of another thread
abbrev pub are_apart : Option HomeOf → Option HomeOf → Bool
are_apart None other = false
are_apart (Some own) None = false
are_apart (Some own) (Some other) = cond (is_state own.kind) (not (nat_eq own.thread.0 other.thread.0)) false

-- whether they describe steps
abbrev pub is_step_home : Option HomeOf → Bool
is_step_home None = false
is_step_home (Some home) = not (is_state home.kind)

-- an edge, counted from 1, leads on from the home
abbrev pub leaves_by_edge : Layout → ℕ → ℕ → Bool
leaves_by_edge layout home zero = false
leaves_by_edge layout home (suc edge) = has_source layout edge home

-- a fact at the home leaves something of the facts of other threads by its step: by rely-guarantee a told step, as its one step; by the
-- rule of Owicki and Gries a state, by each edge that leads on from it
abbrev pub leaves : RuleName → Layout → ℕ → ℕ → Bool
leaves Rg layout home step = is_step_home (home_at layout home) && nat_eq step 1
leaves Og layout home step = leaves_by_edge layout home step

-- the series has this step at the home
abbrev pub has_step : Layout → Series → ℕ → ℕ → Bool
has_step layout (Own edge) home step = nat_eq step 1 && has_source layout edge home
has_step layout (Told edge) home step = nat_eq step 1 && (is_told layout.rule && has_source layout edge home)
has_step layout (Beside at id) home step = are_apart (home_at layout at.0) (home_at layout home) && leaves layout.rule layout home step

-- no series has a step above these
abbrev pub last_beside_by : RuleName → Layout → ℕ
last_beside_by Rg layout = 1
last_beside_by Og layout = length layout.edges

abbrev pub last_beside : Layout → ℕ
last_beside layout = last_beside_by layout.rule layout

abbrev pub last_step : Layout → Series → ℕ
last_step layout (Own edge) = 1
last_step layout (Told edge) = 1
last_step layout (Beside at id) = last_beside layout

-- the step of a fact up to which its turns are passed
abbrev pub step_after : Turn → FactId → ℕ
step_after passed id = cond (nat_eq id.0 passed.id.0) passed.step 0

-- ---- where the instances of a series lead

abbrev pub no_home : HomeNo
no_home = record { 0 = 0 }

abbrev pub target_in : Option EdgeHomes → HomeNo
target_in None = no_home
target_in (Some edge) = edge.target

abbrev pub told_in : Option EdgeHomes → HomeNo
told_in None = no_home
told_in (Some edge) = edge.told

abbrev pub target_of : Layout → Series → HomeNo
target_of layout (Own edge) = target_in (slice_get layout.edges edge)
target_of layout (Told edge) = told_in (slice_get layout.edges edge)
target_of layout (Beside home id) = home

abbrev pub thread_in : Option HomeOf → ThreadNo
thread_in None = record { 0 = 0 }
thread_in (Some home) = home.thread

-- the thread of a home
abbrev pub thread_at : Layout → HomeNo → ThreadNo
thread_at layout home = thread_in (home_at layout home.0)
