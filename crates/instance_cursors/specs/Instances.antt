-- Which instance of the rule a turn is.
use Rattle.std.specs.Prelude.{ℕ, zero, suc, slice_get, Option, Some, None}
use Rattle.thr_base.specs.declared.names.EdgeNo.{EdgeNo}
use Rattle.thr_base.specs.declared.names.FactId.{FactId}
use Rattle.thr_base.specs.declared.names.Instance.{Instance}
use Rattle.thr_base.specs.declared.names.Instance.TheVariants.{Own as OwnStep, Guar, Env, Inter}
use Rattle.thr_base.specs.declared.names.RuleName.{RuleName}
use Rattle.thr_base.specs.declared.names.RuleName.TheVariants.{Rg, Og}
use Rattle.instance_cursors.specs.declared.layout.EdgeHomes.{EdgeHomes}
use Rattle.instance_cursors.specs.Ways.{Layout}
use Rattle.instance_cursors.specs.declared.turns.Series.{Series}
use Rattle.instance_cursors.specs.declared.turns.Series.TheVariants.{Own, Told, Beside}
use Rattle.instance_cursors.specs.declared.turns.Turn.{Turn}

abbrev pub number_in : Option EdgeHomes → EdgeNo
number_in None = record { 0 = 0 }
number_in (Some edge) = edge.edge

-- the number that an edge of the layout has in its thread
abbrev pub edge_number : Layout → ℕ → EdgeNo
edge_number layout edge = number_in (slice_get layout.edges edge)

-- the number of the edge that a step, from 1, stands for
abbrev pub step_number : Layout → ℕ → EdgeNo
step_number layout zero = record { 0 = 0 }
step_number layout (suc edge) = edge_number layout edge

abbrev pub beside : RuleName → Layout → FactId → Turn → Instance
beside Rg layout id turn = Env id turn.id
beside Og layout id turn = Inter id turn.id (step_number layout turn.step)

abbrev pub instance_of : Layout → Series → Turn → Instance
instance_of layout (Own edge) turn = OwnStep turn.id (edge_number layout edge)
instance_of layout (Told edge) turn = Guar turn.id (edge_number layout edge)
instance_of layout (Beside home id) turn = beside layout.rule layout id turn
