use Rattle.std.proofs.Common.{◌≡◌, ◌<◌, ◌≤◌, ◌+◌, ◌-◌, ◌^◌, ℕ, List, map, length, ap, sym, ◌∙◌, subst, arith}
use Rattle.std.proofs.lemmas.List.{length-map}
use Rattle.std.proofs.Math.Nat.{le_trans}
use Rattle.transition_formula.specs.Rows.{test_row}
use Rattle.transition_formula.proofs.Pieces.{length-with_rows}
use Rattle.std.specs.List.{AllByRecursion}
use Rattle.transition_formula.specs.Program.{Program, first_counter}
use Rattle.transition_formula.specs.Stored.{edge_of, set_of}
use Rattle.transition_formula.specs.declared.graph.Edge.{Edge}
use Rattle.transition_formula.specs.declared.graph.Line.{Line}
use Rattle.transition_formula.proofs.Programs.{sets-within, few_sets}
use Rattle.transition_formula.proofs.edges.rows_of.Goals as goal
use Rattle.lin_rows.proofs.Systems.{length-with_row}

sets_are : (program : Program) (edge : Edge) (sets : List (ℕ × Line)) (n : ℕ) → n ≡ length program.columns → sets ≡ edge.sets.items
    → AllByRecursion (λ set. set.0 < first_counter program) (map set_of edge.sets.items) → AllByRecursion (λ set. set.0 < n) (map set_of sets)
sets_are program edge sets n count same below = rw (count, same) (sets-within program (map set_of edge.sets.items) below)

-- how many rows there are before those of the sets, step by step: none, one for the counter before, one for it after, at most one for each
-- of n columns, one for each test
room : (none one two kept tested tests sets n : ℕ) → none ≡ 0 → one ≡ none + 1 → two ≡ one + 1 → kept ≤ two + n → tested ≡ kept + tests
    → n ≤ 64 → tests ≤ 1048576 → sets ≤ 64 → tested + sets < 2 ^ 32 - 1
room none one two kept tested tests sets n is_none is_one is_two are_kept are_tested few_columns few_tests few = omega arith

pub push_sets-requires-clause-within : goal.push_sets-requires-clause-within
push_sets-requires-clause-within c = sets_are c.args.program.now c.args.edge.now _ _ c.columns-columns.ensures.columns c.as_slice.ensures.value c.requires.edge.sets_no_counter

pub push_sets-requires-clause-room : goal.push_sets-requires-clause-room
push_sets-requires-clause-room c =
    let edge = edge_of c.args.edge.now in
    let columns = c.requires.program.few_columns in
    let within = sets-within c.args.program.now edge.sets c.requires.edge.sets_no_counter in
    let few = few_sets edge.sets (length c.args.program.now.columns) within c.requires.edge.sets_none_twice in
    let none = ap (λ system. length system.rows) c.new-rows.ensures in
    let one = length-with_row _ _ _ c.in_ok-push_column_is.ensures.ok in
    let two = length-with_row _ _ _ c.in_ok-push_column_is-2.ensures.ok in
    let tested = length-with_rows (test_row c.columns-columns.result) _ _ _ c.in_ok-push_tests.ensures in
    let tests = subst (λ (k : ℕ). k ≤ 1048576) (sym (ap (λ system. length system.rows) c.view.ensures)) c.requires.edge.few_tests in
    let n = subst (λ (k : ℕ). k ≤ 64) (sym c.columns-columns.ensures.columns) columns in
    let sets = subst (λ (k : ℕ). k ≤ 64) (sym (ap length c.as_slice.ensures.value ∙ sym (length-map c.args.edge.now.sets.items set_of))) (le_trans few columns) in
    room _ _ _ _ _ _ _ _ none one two c.in_ok-push_kept_rows.ensures.few tested n tests sets
