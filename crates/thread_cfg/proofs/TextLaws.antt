-- The program of a text steps as the text does, and fails where it fails.
use Rattle.std.proofs.Common.{ℕ, ℤ, List, map, refl, sym, subst, ◌↔◌}
use Rattle.c_tree.specs.declared.item.Tree.{Tree}
use Rattle.c_tree.specs.Seen.{plain_tree}
use Rattle.c_check.specs.declared.plan.Plan.{Plan}
use Rattle.c_check.specs.Program.{functions_of}
use Rattle.c_check.specs.Check.{stored_function}
use Rattle.c_check.specs.Columns.{columns_of, threads_of}
use Rattle.transition_formula.specs.Program.{IsEdgeOf, IsProgram, Program}
use Rattle.transition_formula.specs.Run.{Fails, IsRun, Run}
use Rattle.thread_cfg.specs.Graph.{program_of}
use Rattle.thread_cfg.specs.SameSteps.{SameSteps}
use Rattle.thread_cfg.specs.Interleaving.{TextFails, ThreadFails, ThreadReachesFailure}
use Rattle.thread_cfg.specs.Telling.{RunsTellInterleavings}
use Rattle.thread_cfg.specs.Laws.{EdgesAreOfActions, ProgramsStepAlike, RunsGoAsInterleavings, TextsFailAlike, ThreadsFailAlike}
use Rattle.thread_cfg.specs.Read.{IsProgramText}
use Rattle.thread_cfg.specs.inside.Known.{IsKnownPlan}
use Rattle.thread_cfg.proofs.Graphs.{edge-of-action, programs-fail-alike, programs-runs-tell, programs-step-alike, programs-threads-fail-alike}
use Rattle.thread_cfg.proofs.KnownText.{known-of-text}
use Rattle.thread_cfg.proofs.ProgramIs.{program-is}

-- the plan of a tree
abbrev plan_of : Tree → Plan
plan_of tree = record {
  columns = columns_of (plain_tree tree);
  functions = map stored_function (functions_of (plain_tree tree));
  threads = threads_of (plain_tree tree);
}

-- of the plan of a program's text all is known that the graph asks for
known : (bytes : List ℕ) (tree : Tree) (program : Program) → IsProgramText bytes tree program → IsKnownPlan (plain_tree tree) (plan_of tree)
known bytes tree program is =
    known-of-text bytes tree (plan_of tree) (record {
      is_tree = is.is_tree;
      accepted = is.accepted;
      plan_is = record { columns_are = refl; functions_are = refl; threads_are = refl };
    })

-- the program of a text has its steps
pub texts-step-alike : ProgramsStepAlike
texts-step-alike bytes tree program is =
    let k = known bytes tree program is in
    subst (SameSteps (plain_tree tree)) (sym is.program_is) (programs-step-alike (plain_tree tree) (plan_of tree) k.plan_is k.well_formed is.fits)

-- what a text comes to is a program
is-program : (bytes : List ℕ) (tree : Tree) (program : Program) → IsProgramText bytes tree program → IsProgram (program_of (plain_tree tree))
is-program bytes tree program is =
    let k = known bytes tree program is in program-is (plain_tree tree) (plan_of tree) k.accepted k.plan_is k.well_formed is.fits

-- a text fails where its program does, and the other way round
pub texts-fail-alike : TextsFailAlike
texts-fail-alike bytes tree program is =
    let k = known bytes tree program is in
    subst (λ (p : Program). ((run : Run) × (last : List ℤ) × IsRun p run last × Fails p run) ↔ TextFails (plain_tree tree)) (sym is.program_is)
    (programs-fail-alike (plain_tree tree) (plan_of tree) k.plan_is k.well_formed is.fits (is-program bytes tree program is))

-- a thread of a text fails where that of its program does, and the other way round
pub threads-fail-alike : ThreadsFailAlike
threads-fail-alike bytes tree program i is =
    let k = known bytes tree program is in
    subst (λ (p : Program). ThreadReachesFailure p i ↔ ThreadFails (plain_tree tree) i) (sym is.program_is)
    (programs-threads-fail-alike (plain_tree tree) (plan_of tree) k.plan_is k.well_formed is.fits (is-program bytes tree program is) i)

-- runs of a text's program go as its interleavings do
pub runs-go-as-interleavings : RunsGoAsInterleavings
runs-go-as-interleavings bytes tree program is =
    let k = known bytes tree program is in
    subst (RunsTellInterleavings (plain_tree tree)) (sym is.program_is)
    (programs-runs-tell (plain_tree tree) (plan_of tree) k.plan_is k.well_formed is.fits (is-program bytes tree program is))

-- each edge of a text's program is that of one way on
pub edges-are-of-actions : EdgesAreOfActions
edges-are-of-actions bytes tree program i e thread edge is at =
    let k = known bytes tree program is in
    edge-of-action (plain_tree tree) (plan_of tree) k.plan_is k.well_formed is.fits i e thread edge (subst (λ (p : Program). IsEdgeOf p i e thread edge) is.program_is at)
