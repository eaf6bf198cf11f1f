-- The rows of an edge hold at exactly the steps by it.
use Rattle.std.proofs.Common.{◌≡◌, ◌≢◌, inl, inr, ℕ, ◌+◌, ◌<◌, ◌≤◌, ℤ, pos, ◌+ℤ◌, ◌≤ℤ◌, neg_ℤ, List, [], ◌∷◌, ◌++◌, map, length, get_or, Bool, true, false, cond, not, Some, refl, sym, ◌∙◌, ap, subst, arith}
use Rattle.std.specs.Prelude.{◌==◌, ◌&&◌, ◌||◌, nat_eq, MatchBool}
use Rattle.std.specs.List.{AllByRecursion, IsDistinct}
use Rattle.std.proofs.lemmas.Int.{ints}
use Rattle.std.proofs.lemmas.List.{length-set, ext_get_or, get_or_append_left, get_or-append_right}
use Rattle.std.proofs.lemmas.Option.{slice_get-get_or, get_or_from_slice_get}
use Rattle.std.proofs.lemmas.Bool.Decides.{eqb_tells}
use Rattle.std.proofs.lemmas.Bool.{ne_eqb, eq-eqb}
use Rattle.lin_rows.specs.Row.{Row, product_of, Meets}
use Rattle.lin_rows.specs.System.{IsRowOver}
use Rattle.transition_formula.specs.Program.{Form, Edge, Thread, IsFormOver, first_counter}
use Rattle.transition_formula.specs.Step.{after_sets, after_step, Steps}
use Rattle.transition_formula.specs.Rows.{unit, is_kept, kept_row, test_row, set_row, edge_width, kept_columns, edge_rows}
use Rattle.transition_formula.specs.Laws.{MeetsAll, EdgeRowsAreExact}
use Rattle.transition_formula.proofs.ProductLemmas.{product_of-one, kept_product, test_product, set_product}
use Rattle.transition_formula.proofs.NextValues.{next_value, is_set, AreSet, get_or-set, length-assigned, get_or-assigned, next_value-from, next_value-kept, AreSet-from, range-to, range-from}
use Rattle.transition_formula.proofs.Programs.{counter-within, edge-is, sets-within}

-- ---- the counter
-- The product of a column before is its value before.
before_is : (n m c : ℕ) (before after inputs : List ℤ) → c < n → length before ≡ n
    → product_of (unit (edge_width n m) c (pos 1)) (before ++ (after ++ inputs)) ≡ get_or before c (pos 0)
before_is n m c before after inputs h one =
    product_of-one (edge_width n m) c (before ++ (after ++ inputs)) (omega arith) ∙ get_or_append_left before (after ++ inputs) (pos 0) c (omega arith)

-- The product of a column after is its value after.
after_is : (n m c : ℕ) (before after inputs : List ℤ) → c < n → length before ≡ n → length after ≡ n
    → product_of (unit (edge_width n m) (n + c) (pos 1)) (before ++ (after ++ inputs)) ≡ get_or after c (pos 0)
after_is n m c before after inputs h one two =
    product_of-one (edge_width n m) (n + c) (before ++ (after ++ inputs)) (omega arith)
    ∙ get_or-append_right before (after ++ inputs) n (n + c) (pos 0) one (omega arith)
    ∙ ap (λ (k : ℕ). get_or (after ++ inputs) k (pos 0)) (omega arith)
    ∙ get_or_append_left after inputs (pos 0) c (omega arith)

-- ---- differences
-- A difference of 0 makes both the same.
none_left : (a b : ℤ) → a +ℤ neg_ℤ b ≡ pos 0 → a ≡ b
none_left a b e = omega (arith, ints)

-- A difference is added to the second number.
some_left : (a b k : ℤ) → a +ℤ neg_ℤ b ≡ k → a ≡ b +ℤ k
some_left a b k e = omega (arith, ints)

-- The difference of a number with itself is 0.
left_none : (a b : ℤ) → a ≡ b → a +ℤ neg_ℤ b ≡ pos 0
left_none a b e = omega (arith, ints)

-- A number less another is what was added.
left_some : (a b k : ℤ) → a ≡ b +ℤ k → a +ℤ neg_ℤ b ≡ k
left_some a b k e = omega (arith, ints)

-- ---- tests
-- Where the rows of tests hold, the tests hold before the step.
tests-to : (n m : ℕ) (before after inputs : List ℤ) → length before ≡ n → length after ≡ n
    → (tests : List Row) → AllByRecursion (IsRowOver (n + m)) tests → MeetsAll (map (test_row n) tests) (before ++ (after ++ inputs)) → MeetsAll tests (before ++ inputs)
tests-to n m before after inputs one two [] over all = tt
tests-to n m before after inputs one two (row ∷ tests) over all =
    let same = test_product n row.coefficients before after inputs (omega (arith, over.0.width)) one two in (
      subst (λ p. MatchBool row.equal (p ≡ row.bound) (p ≤ℤ row.bound)) same all.0,
      tests-to n m before after inputs one two tests over.1 all.1,
    )

-- Where tests hold before the step, their rows hold.
tests-from : (n m : ℕ) (before after inputs : List ℤ) → length before ≡ n → length after ≡ n
    → (tests : List Row) → AllByRecursion (IsRowOver (n + m)) tests → MeetsAll tests (before ++ inputs) → MeetsAll (map (test_row n) tests) (before ++ (after ++ inputs))
tests-from n m before after inputs one two [] over all = tt
tests-from n m before after inputs one two (row ∷ tests) over all =
    let same = test_product n row.coefficients before after inputs (omega (arith, over.0.width)) one two in (
      subst (λ p. MatchBool row.equal (p ≡ row.bound) (p ≤ℤ row.bound)) (sym same) all.0,
      tests-from n m before after inputs one two tests over.1 all.1,
    )

-- ---- sets
-- Where the rows of sets hold, the sets are done.
sets-to : (n m : ℕ) (before after inputs : List ℤ) → length before ≡ n → length after ≡ n
    → (sets : List (ℕ × Form)) → AllByRecursion (λ set. set.0 < n) sets → AllByRecursion (λ set. IsFormOver (n + m) set.1) sets
    → MeetsAll (map (set_row n) sets) (before ++ (after ++ inputs)) → AreSet sets (before ++ inputs) after
sets-to n m before after inputs one two [] within over all = tt
sets-to n m before after inputs one two ((c, form) ∷ sets) within over all =
    let wide : n ≤ length form.coefficients = omega (arith, over.0.one_each) in (
      some_left _ _ form.constant (sym (set_product n c form.coefficients before after inputs within.0 wide one two) ∙ all.0),
      sets-to n m before after inputs one two sets within.1 over.1 all.1,
    )

-- Where sets are done, their rows hold.
sets-from : (n m : ℕ) (before after inputs : List ℤ) → length before ≡ n → length after ≡ n
    → (sets : List (ℕ × Form)) → AllByRecursion (λ set. set.0 < n) sets → AllByRecursion (λ set. IsFormOver (n + m) set.1) sets
    → AreSet sets (before ++ inputs) after → MeetsAll (map (set_row n) sets) (before ++ (after ++ inputs))
sets-from n m before after inputs one two [] within over all = tt
sets-from n m before after inputs one two ((c, form) ∷ sets) within over all =
    let wide : n ≤ length form.coefficients = omega (arith, over.0.one_each) in (
      set_product n c form.coefficients before after inputs within.0 wide one two ∙ left_some _ _ form.constant all.0,
      sets-from n m before after inputs one two sets within.1 over.1 all.1,
    )

-- a column that is set is one of those below k
set-below : (sets : List (ℕ × Form)) (k c : ℕ) → AllByRecursion (λ set. set.0 < k) sets → is_set sets c ≡ true → c < k
set-below [] k c below found = cc
set-below ((d, form) ∷ sets) k c below found = elim (eqb_tells d c) [
  | inl (hit, same) ↦ subst (λ (i : ℕ). i < k) same below.0
  | inr (miss, other) ↦ set-below sets k c below.1 (sym (ap (λ b. b || is_set sets c) miss) ∙ found)
]

-- ---- kept columns
-- What holds of all images holds of the image of each.
AllByRecursion-from_map : (P : Row → Type 0) (f : ℕ → Row) (xs : List ℕ) → AllByRecursion P (map f xs) → AllByRecursion (λ x. P (f x)) xs
AllByRecursion-from_map P f [] all = tt
AllByRecursion-from_map P f (x ∷ xs) all = (all.0, AllByRecursion-from_map P f xs all.1)

-- What holds of the image of each holds of all images.
AllByRecursion-to_map : (P : Row → Type 0) (f : ℕ → Row) (xs : List ℕ) → AllByRecursion (λ x. P (f x)) xs → AllByRecursion P (map f xs)
AllByRecursion-to_map P f [] all = tt
AllByRecursion-to_map P f (x ∷ xs) all = (all.0, AllByRecursion-to_map P f xs all.1)

-- A point that meets all rows meets both parts.
appended-to : (xs ys : List Row) (z : List ℤ) → MeetsAll (xs ++ ys) z → MeetsAll xs z × MeetsAll ys z
appended-to [] ys z all = (tt, all)
appended-to (x ∷ xs) ys z all = let rest = appended-to xs ys z all.1 in ((all.0, rest.0), rest.1)

-- A point that meets both parts meets all rows.
appended-from : (xs ys : List Row) (z : List ℤ) → MeetsAll xs z → MeetsAll ys z → MeetsAll (xs ++ ys) z
appended-from [] ys z one other = other
appended-from (x ∷ xs) ys z one other = (one.0, appended-from xs ys z one.1 other)

-- A column that is neither the counter nor set is kept.
kept_when : (counter c : ℕ) (edge : Edge) → counter ≢ c → is_set edge.sets c ≡ false → is_kept counter edge c ≡ true
kept_when counter c edge other none =
    let apart : (c == counter) ≡ false = ne_eqb c counter (λ e. other (sym e)) in
    ap (λ b. not b && not (is_set edge.sets c)) apart ∙ ap not none

-- Neither of two tests holds where their negations do.
kept_cases : (a b : Bool) → (not a && not b) ≡ true → (a ≡ false) × (b ≡ false)
kept_cases true b h = cc
kept_cases false true h = cc
kept_cases false false h = (refl, refl)

-- A column that is kept is neither the counter nor set.
kept_then : (counter c : ℕ) (edge : Edge) → is_kept counter edge c ≡ true → ((counter == c) ≡ false) × (is_set edge.sets c ≡ false)
kept_then counter c edge kept =
    let h = kept_cases (c == counter) (is_set edge.sets c) kept in
    (ne_eqb counter c (λ e. let hit : (c == counter) ≡ true = eq-eqb c counter (sym e) in let wrong : true ≡ false = sym hit ∙ h.0 in cc), h.1)

-- ---- the state after, column by column
-- The value of a column after a step: the next location, the next value, or what it was.
after_step-value : (thread : Thread) (edge : Edge) (before inputs : List ℤ) (c : ℕ) → c < length before
    → get_or (after_step thread edge before inputs) c (pos 0) ≡ cond (thread.counter == c) (pos edge.to) (next_value edge.sets (before ++ inputs) before c)
after_step-value thread edge before inputs c h =
    let w = before ++ inputs in
    get_or-set (after_sets edge.sets w before) thread.counter c (pos edge.to) (omega (arith, length-assigned edge.sets w before))
    ∙ ap (λ v. cond (thread.counter == c) (pos edge.to) v) (get_or-assigned edge.sets w before c h)

-- A state keeps its length over a step.
pub length-after_step : (thread : Thread) (edge : Edge) (before inputs : List ℤ) → length (after_step thread edge before inputs) ≡ length before
length-after_step thread edge before inputs =
    length-set (after_sets edge.sets (before ++ inputs) before) thread.counter (pos edge.to) ∙ length-assigned edge.sets (before ++ inputs) before

-- A column has its value after a step where counter, sets and kept columns have.
after-value : (thread : Thread) (edge : Edge) (before after inputs : List ℤ) (c : ℕ) → get_or after thread.counter (pos 0) ≡ pos edge.to → AreSet edge.sets (before ++ inputs) after
    → (is_kept thread.counter edge c ≡ true → get_or after c (pos 0) ≡ get_or before c (pos 0))
    → get_or after c (pos 0) ≡ cond (thread.counter == c) (pos edge.to) (next_value edge.sets (before ++ inputs) before c)
after-value thread edge before after inputs c target sets kept = elim (eqb_tells thread.counter c) [
  | inl (hit, same) ↦ rw hit (subst (λ (k : ℕ). get_or after k (pos 0) ≡ pos edge.to) same target)
  | inr (miss, other) ↦ rw miss (next_value-from edge.sets (before ++ inputs) before after c sets (λ none. kept (kept_when thread.counter c edge other none)))
]

-- ---- all rows
-- Where the rows of an edge hold, the thread steps by it.
rows-to : (n : ℕ) (thread : Thread) (edge : Edge) (before after inputs : List ℤ) → length before ≡ n → length after ≡ n → length inputs ≡ edge.inputs
    → thread.counter < n → AllByRecursion (IsRowOver (n + edge.inputs)) edge.tests → AllByRecursion (λ set. set.0 < n) edge.sets → AllByRecursion (λ set. IsFormOver (n + edge.inputs) set.1) edge.sets
    → MeetsAll (edge_rows n thread.counter edge) (before ++ (after ++ inputs)) → Steps thread edge before inputs after
rows-to n thread edge before after inputs one two each counter tests_over within over all =
    let z = before ++ (after ++ inputs) in
    let m = edge.inputs in
    let kept_rows = map (kept_row n m) (kept_columns n thread.counter edge) in
    let tests = map (test_row n) edge.tests in
    let sets = map (set_row n) edge.sets in
    let first = appended-to kept_rows (tests ++ sets) z all.1.1 in
    let second = appended-to tests sets z first.1 in
    let source = sym (before_is n m thread.counter before after inputs counter one) ∙ all.0 in
    let target = sym (after_is n m thread.counter before after inputs counter one two) ∙ all.1.0 in
    let kept_all = AllByRecursion-from_map (λ row. Meets row z) (kept_row n m) (kept_columns n thread.counter edge) first.0 in
    let kept = λ (c : ℕ) (h : c < n) (pass : is_kept thread.counter edge c ≡ true).
    none_left (get_or after c (pos 0)) (get_or before c (pos 0)) (sym (kept_product n m c before after inputs h one two) ∙ range-to (λ k. Meets (kept_row n m k) z) (is_kept thread.counter edge) 0 n c kept_all (omega arith) (omega arith) pass) in
    let are_set = sets-to n m before after inputs one two edge.sets within over second.1 in
    let inside : thread.counter < length before = omega arith in
    record {
      at_source = slice_get-get_or before thread.counter (pos 0) inside ∙ ap Some source;
      one_each = each;
      tests_hold = tests-to n m before after inputs one two edge.tests tests_over second.0;
      leads = ext_get_or (pos 0) after (after_step thread edge before inputs) (two ∙ sym one ∙ sym (length-after_step thread edge before inputs)) (λ c h.
          after-value thread edge before after inputs c target are_set (kept c (omega arith)) ∙ sym (after_step-value thread edge before inputs c (omega arith)));
    }

-- Where the thread steps by an edge, its rows hold.
rows-from : (n k : ℕ) (thread : Thread) (edge : Edge) (before after inputs : List ℤ) → length before ≡ n → length after ≡ n
    → k ≤ thread.counter → thread.counter < n → AllByRecursion (IsRowOver (n + edge.inputs)) edge.tests → AllByRecursion (λ set. set.0 < k) edge.sets → AllByRecursion (λ set. set.0 < n) edge.sets
    → AllByRecursion (λ set. IsFormOver (n + edge.inputs) set.1) edge.sets → IsDistinct nat_eq (map (λ set. set.0) edge.sets)
    → Steps thread edge before inputs after → MeetsAll (edge_rows n thread.counter edge) (before ++ (after ++ inputs))
rows-from n k thread edge before after inputs one two last counter tests_over below within over apart steps =
    let z = before ++ (after ++ inputs) in
    let w = before ++ inputs in
    let m = edge.inputs in
    let kept_rows = map (kept_row n m) (kept_columns n thread.counter edge) in
    let tests = map (test_row n) edge.tests in
    let sets = map (set_row n) edge.sets in
    let value = λ (c : ℕ) (h : c < n). let inside : c < length before = omega arith in ap (λ (l : List ℤ). get_or l c (pos 0)) steps.leads ∙ after_step-value thread edge before inputs c inside in
    let source = get_or_from_slice_get before thread.counter (pos edge.from) (pos 0) steps.at_source in
    let itself : (thread.counter == thread.counter) ≡ true = eq-eqb thread.counter thread.counter refl in
    let target = value thread.counter counter ∙ ap (λ b. cond b (pos edge.to) (next_value edge.sets w before thread.counter)) itself in
    let kept = λ (c : ℕ) (h : c < n) (pass : is_kept thread.counter edge c ≡ true).
    let then = kept_then thread.counter c edge pass in
    value c h ∙ ap (λ b. cond b (pos edge.to) (next_value edge.sets w before c)) then.0 ∙ next_value-kept edge.sets w before c then.1 in
    let are_set = AreSet-from edge.sets w before after apart (λ c found.
    let under = set-below edge.sets k c below found in
    let miss : (thread.counter == c) ≡ false = ne_eqb thread.counter c (λ e. absurd (omega arith)) in
    value c (omega arith) ∙ ap (λ b. cond b (pos edge.to) (next_value edge.sets w before c)) miss) in
    let kept_all = AllByRecursion-to_map (λ row. Meets row z) (kept_row n m) (kept_columns n thread.counter edge)
    (range-from (λ c. Meets (kept_row n m c) z) (is_kept thread.counter edge) 0 n (λ c low high pass.
    let h : c < n = omega arith in
    kept_product n m c before after inputs h one two ∙ left_none (get_or after c (pos 0)) (get_or before c (pos 0)) (kept c h pass))) in
    let tests_all = tests-from n m before after inputs one two edge.tests tests_over steps.tests_hold in
    let sets_all = sets-from n m before after inputs one two edge.sets within over are_set in (
      before_is n m thread.counter before after inputs counter one ∙ source,
      (
        after_is n m thread.counter before after inputs counter one two ∙ target,
        appended-from kept_rows (tests ++ sets) z kept_all (appended-from tests sets z tests_all sets_all),
      ),
    )

-- The rows of an edge hold at exactly the steps by it.
pub edge_rows-exact : EdgeRowsAreExact
edge_rows-exact program i e thread edge before after inputs is at one two each =
    let n = length program.columns in
    let h = edge-is program i e thread edge is at.thread_is at.edge_is in
    let counter = counter-within program i thread is at.thread_is in
    let within = sets-within program edge.sets h.sets_no_counter in (
      rows-to n thread edge before after inputs one two each counter.1 h.tests_over within h.forms_over,
      rows-from n (first_counter program) thread edge before after inputs one two counter.0 counter.1 h.tests_over h.sets_no_counter within h.forms_over h.sets_none_twice,
    )
