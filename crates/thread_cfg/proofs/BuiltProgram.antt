-- What is found of all threads makes the program of the text.
use Rattle.std.proofs.Common.{◌≡◌, List, [], length, map, Option, None, sym, subst, ap, ◌∙◌}
use Rattle.thr_base.specs.declared.stops.Refusal.{Refusal}
use Rattle.c_tree.specs.Plain as plain
use Rattle.c_check.specs.declared.plan.Plan.{Plan}
use Rattle.c_check.specs.Columns.{columns_of}
use Rattle.c_check.proofs.FirstOf.{first_of-none}
use Rattle.transition_formula.specs.declared.graph.Column.{Column}
use Rattle.transition_formula.specs.declared.graph.ThreadGraph.{ThreadGraph}
use Rattle.transition_formula.specs.Program.{IsProgram}
use Rattle.transition_formula.specs.Stored as stored
use Rattle.thread_cfg.specs.Threads.{threads_running}
use Rattle.thread_cfg.specs.Graph.{program_column, program_of, refusals_of}
use Rattle.thread_cfg.specs.inside.Built.{AreFound}
use Rattle.thread_cfg.specs.inside.Known.{IsKnownPlan}
use Rattle.thread_cfg.proofs.ProgramIs.{program-is}

-- The program is that of the text, in which nothing is refused.
pub record IsBuilt (tree : plain.Tree) (columns : List Column) (graphs : List ThreadGraph) : Type 0 where
  pub none_refused : refusals_of tree ≡ []
  pub program_is : stored.program_of columns graphs ≡ program_of tree
  pub is_program : IsProgram (stored.program_of columns graphs)

-- columns and graphs that were found of a known plan without a refusal are those of the program of its text
pub built : (tree : plain.Tree) (plan : Plan) (columns : List Column) (graphs : List ThreadGraph) (refusal : Option Refusal) → IsKnownPlan tree plan
    → AreFound (length (columns_of tree)) (length (threads_running tree)) (threads_running tree) graphs refusal → refusal ≡ None
    → map stored.column_of columns ≡ map program_column plan.columns → IsBuilt tree columns graphs
built tree plan columns graphs refusal known found none made =
    let refused : refusals_of tree ≡ [] = first_of-none (refusals_of tree) (sym found.refusal_is ∙ none) in
    let same : stored.program_of columns graphs ≡ program_of tree =
    λ j. record { columns = (made ∙ ap (map program_column) known.plan_is.columns_are) j; threads = found.graphs_are refused j } in
    record {
      none_refused = refused;
      program_is = same;
      is_program = subst IsProgram (sym same) (program-is tree plan known.accepted known.plan_is known.well_formed refused);
    }
