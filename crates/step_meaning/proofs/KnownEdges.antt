-- What is known of an edge that a program gives.
use Rattle.std.proofs.Common.{◌≡◌, ℕ, ◌+◌, ◌<◌, length, Option, Some, None, option_map, refl, sym, subst}
use Rattle.std.specs.List.{AllByRecursion}
use Rattle.lin_rows.specs.System.{IsRowOver}
use Rattle.transition_formula.specs.Program.{Thread, Edge, Program, IsThreadOf, IsEdgeOf, IsProgram, IsFormOver, at_number}
use Rattle.transition_formula.proofs.Programs.{edge-is, sets-within}

-- The thread of a number has this counter and this edge.
pub record IsKnown (program : Program) (i e counter : ℕ) (edge : Edge) : Type 0 where
  pub thread : Thread
  pub counts : thread.counter ≡ counter
  pub is_edge : IsEdgeOf program i e thread edge

pub known : (program : Program) (i e counter : ℕ) (edge : Edge) → option_map (λ thread. thread.counter) (at_number program.threads i) ≡ Some counter
    → ((thread : Thread) → IsThreadOf program i thread → at_number thread.edges e ≡ Some edge) → IsKnown program i e counter edge
known program i e counter edge counts found = by (at_number program.threads i) refl counts
  where
    by : (o : Option Thread) → at_number program.threads i ≡ o → option_map (λ thread. thread.counter) o ≡ Some counter → IsKnown program i e counter edge
    by None is c = absurd cc
    by (Some thread) is c = record { thread = thread; counts = cc; is_edge = record { thread_is = is; edge_is = found thread is } }

-- What a step over a state and inputs of the right lengths asks of its edge.
pub record IsOver (edge : Edge) (columns inputs : ℕ) : Type 0 where
  pub tests : AllByRecursion (IsRowOver (columns + inputs)) edge.tests
  pub forms : AllByRecursion (λ set. IsFormOver (columns + inputs) set.1) edge.sets
  pub within : AllByRecursion (λ set. set.0 < columns) edge.sets

pub known-over : (program : Program) (i e counter : ℕ) (edge : Edge) (columns inputs : ℕ) → IsProgram program → columns ≡ length program.columns
    → ((thread : Thread) (by_edge : Edge) → IsEdgeOf program i e thread by_edge → inputs ≡ by_edge.inputs) → IsKnown program i e counter edge → IsOver edge columns inputs
known-over program i e counter edge columns inputs is width count known =
    let of_thread = known.thread in
    let here = edge-is program i e of_thread edge is known.is_edge.thread_is known.is_edge.edge_is in
    let over : IsOver edge (length program.columns) edge.inputs =
    record { tests = here.tests_over; forms = here.forms_over; within = sets-within program edge.sets here.sets_no_counter } in
    subst (λ (n : ℕ). IsOver edge n inputs) (sym width) (subst (λ (m : ℕ). IsOver edge (length program.columns) m) (sym (count of_thread edge known.is_edge)) over)
