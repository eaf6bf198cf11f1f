-- What is known of the threads and edges of a program.
use Rattle.std.proofs.Common.{◌≡◌, ℕ, ◌<◌, ◌≤◌, List, [], ◌∷◌, map, length, true, Some, sym, ◌∙◌, ap, subst, arith, inl, inr}
use Rattle.std.specs.Prelude.{◌||◌, nat_eq}
use Rattle.std.specs.List.{AllByRecursion, IsDistinct, list_any}
use Rattle.std.proofs.lemmas.Bool.Decides.{eqb_tells}
use Rattle.std.proofs.lemmas.List.{length-map}
use Rattle.std.proofs.lemmas.Map.Steps.{length-le_from_distinct_below}
use Rattle.lin_rows.proofs.Lists.{AllByRecursion-weaken}
use Rattle.transition_formula.specs.Program.{Form, Edge, Thread, Program, IsThreadOf, IsEdge, IsProgram, at_number, first_counter}
use Rattle.transition_formula.proofs.Lookups.{AllByRecursion-numbered, numbered-within}

-- A thread's counter is a column, among the last ones.
pub counter-within : (program : Program) (i : ℕ) (thread : Thread) → IsProgram program → IsThreadOf program i thread → (first_counter program ≤ thread.counter) × (thread.counter < length program.columns)
counter-within program i thread is at =
    let h = is.threads_are i thread at in
    let k = numbered-within program.threads i thread at in
    (omega (arith, h.in_order, is.has_counters), omega (arith, h.in_order, is.has_counters))

-- An edge of a program's thread meets what is asked of edges.
pub edge-is : (program : Program) (i e : ℕ) (thread : Thread) (edge : Edge) → IsProgram program → IsThreadOf program i thread → at_number thread.edges e ≡ Some edge → IsEdge program thread edge
edge-is program i e thread edge is at found = AllByRecursion-numbered (IsEdge program thread) thread.edges e edge (is.threads_are i thread at).edges_are found

-- Sets of columns before the counters are sets of columns.
pub sets-within : (program : Program) (sets : List (ℕ × Form)) → AllByRecursion (λ set. set.0 < first_counter program) sets → AllByRecursion (λ set. set.0 < length program.columns) sets
sets-within program sets all = AllByRecursion-weaken (λ set. set.0 < first_counter program) (λ set. set.0 < length program.columns) (λ set h. omega arith) sets all

-- A column that is set is below a bound of all that are.
among : (sets : List (ℕ × Form)) (n q : ℕ) → AllByRecursion (λ set. set.0 < n) sets → list_any (nat_eq q) (map (λ set. set.0) sets) ≡ true → q < n
among [] n q all found = cc
among ((c, form) ∷ sets) n q all found = elim (eqb_tells q c) [
  | inl (hit, same) ↦ subst (λ (k : ℕ). k < n) (sym same) all.0
  | inr (miss, other) ↦ among sets n q all.1 (sym (ap (λ b. b || list_any (nat_eq q) (map (λ set. set.0) sets)) miss) ∙ found)
]

-- columns below n, none of them twice, are at most n
pub few_sets : (sets : List (ℕ × Form)) (n : ℕ) → AllByRecursion (λ set. set.0 < n) sets → IsDistinct nat_eq (map (λ set. set.0) sets) → length sets ≤ n
few_sets sets n below apart =
    omega (arith, length-map sets (λ set. set.0), length-le_from_distinct_below (map (λ set. set.0) sets) n apart (λ q found. among sets n q below found))
