-- What the program of a text says of the text.
use Rattle.std.specs.Prelude.{◌≡◌, ◌⊎◌, ◌↔◌, ℕ, ℤ, List}
use Rattle.thr_base.specs.declared.stops.Refusal.{Refusal}
use Rattle.c_tree.specs.declared.item.Tree.{Tree}
use Rattle.c_tree.specs.Seen.{plain_tree}
use Rattle.transition_formula.specs.Program.{Edge, IsEdgeOf, Program, Thread}
use Rattle.transition_formula.specs.Run.{Fails, IsRun, Run}
use Rattle.thread_cfg.specs.SameSteps.{SameSteps}
use Rattle.thread_cfg.specs.Interleaving.{TextFails, ThreadFails, ThreadReachesFailure}
use Rattle.thread_cfg.specs.EdgeLaws.{IsEdgeOfAction}
use Rattle.thread_cfg.specs.Telling.{RunsTellInterleavings}
use Rattle.thread_cfg.specs.Read.{IsProgramText, Refuses}

-- The program of a text has the same steps as the text.
abbrev pub ProgramsStepAlike : Type 0
ProgramsStepAlike = (bytes : List ℕ) (tree : Tree) (program : Program) → IsProgramText bytes tree program → SameSteps (plain_tree tree) program

-- Some run of the program of a text fails exactly where an interleaving of the text's threads makes one of them fail.
abbrev pub TextsFailAlike : Type 0
TextsFailAlike = (bytes : List ℕ) (tree : Tree) (program : Program) → IsProgramText bytes tree program
    → ((run : Run) × (last : List ℤ) × IsRun program run last × Fails program run) ↔ TextFails (plain_tree tree)

-- The i-th thread of the program comes to location 0 in a run exactly where an interleaving of the text's threads makes that thread fail.
abbrev pub ThreadsFailAlike : Type 0
ThreadsFailAlike = (bytes : List ℕ) (tree : Tree) (program : Program) (i : ℕ) → IsProgramText bytes tree program
    → ThreadReachesFailure program i ↔ ThreadFails (plain_tree tree) i

-- Each run of the program of a text goes step by step as an interleaving of the text's threads does, and the other way round.
abbrev pub RunsGoAsInterleavings : Type 0
RunsGoAsInterleavings = (bytes : List ℕ) (tree : Tree) (program : Program) → IsProgramText bytes tree program
    → RunsTellInterleavings (plain_tree tree) program

-- Each edge of the program is that of one way on from the action at its location.
abbrev pub EdgesAreOfActions : Type 0
EdgesAreOfActions = (bytes : List ℕ) (tree : Tree) (program : Program) (i e : ℕ) (thread : Thread) (edge : Edge)
    → IsProgramText bytes tree program → IsEdgeOf program i e thread edge → IsEdgeOfAction (plain_tree tree) i thread edge

-- Bytes are the text of one program, or break one rule first, and never both.
pub record TextsAreReadExactly : Type 0 where
  pub one : (bytes : List ℕ) (tree other : Tree) (program more : Program) → IsProgramText bytes tree program → IsProgramText bytes other more
      → (tree ≡ other) × (program ≡ more)
  pub one_refusal : (bytes : List ℕ) (refusal other : Refusal) → Refuses bytes refusal → Refuses bytes other → refusal ≡ other
  pub not_both : (bytes : List ℕ) (tree : Tree) (program : Program) (refusal : Refusal) → IsProgramText bytes tree program → ¬ Refuses bytes refusal
  pub either : (bytes : List ℕ) → ((tree : Tree) × (program : Program) × IsProgramText bytes tree program) ⊎ ((refusal : Refusal) × Refuses bytes refusal)
