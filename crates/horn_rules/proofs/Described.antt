-- Rows of facts at states and steps that the facts describe.
use Rattle.std.proofs.Common.{◌≡◌, ◌≢◌, ℕ, ◌+◌, ◌<◌, ◌≤◌, ℤ, pos, ◌≤ℤ◌, List, [], ◌∷◌, ◌++◌, map, length, get_or, false, cond, Some, refl, sym, ap, subst, ◌∙◌, arith, length-append, get_or-set_same, inl, inr}
use Rattle.std.specs.List.{AllByRecursion, slice_get}
use Rattle.std.specs.Prelude.{MatchBool, ◌==◌, ◌||◌}
use Rattle.std.proofs.lemmas.List.{length-replicate, get_or_append_left}
use Rattle.std.proofs.lemmas.Option.{slice_get-get_or, get_or_from_slice_get}
use Rattle.std.proofs.lemmas.Bool.Decides.{eqb_tells}
use Rattle.std.proofs.lemmas.Bool.{ne_eqb}
use Rattle.lin_rows.specs.Row.{Row, Meets, product_of}
use Rattle.transition_formula.specs.Program.{Form, Program, Thread, Edge, IsThreadOf, IsEdgeOf, IsProgram}
use Rattle.transition_formula.specs.Rows.{zeros, unit}
use Rattle.transition_formula.specs.Step.{Steps, after_sets}
use Rattle.transition_formula.proofs.ProductLemmas.{product_of-append, product_of-zeros, product_of-one}
use Rattle.transition_formula.proofs.Programs.{counter-within, edge-is}
use Rattle.transition_formula.proofs.NextValues.{is_set, get_or-set, length-assigned, get_or-assigned, next_value-kept}
use Rattle.transition_formula.proofs.StepRows.{length-after_step}
use Rattle.horn_rules.specs.Home.{Home, State, home_width}
use Rattle.horn_rules.specs.Fact.{Statement, IsAtomOf, IsStatementOf}
use Rattle.horn_rules.specs.Case.{wider_row, moved_row, state_rows}
use Rattle.horn_rules.specs.Steps.{Describes}
use Rattle.lin_rows.proofs.Integers.{add-nothing_ℤ, nothing-add_ℤ}

-- ---- placed rows

-- a row holds at another point where its product is the same
pub meets-alike : (row : Row) (xs y z : List ℤ) → product_of xs z ≡ product_of row.coefficients y → Meets row y → Meets (record row { coefficients = xs }) z
meets-alike row xs y z e h = subst (λ v. MatchBool row.equal (v ≡ row.bound) (v ≤ℤ row.bound)) (sym e) h

pub meets-back : (row : Row) (xs y z : List ℤ) → product_of xs z ≡ product_of row.coefficients y → Meets (record row { coefficients = xs }) z → Meets row y
meets-back row xs y z e h = subst (λ v. MatchBool row.equal (v ≡ row.bound) (v ≤ℤ row.bound)) e h

pub product-widened : (k : ℕ) (xs y rest : List ℤ) → length xs ≡ length y → product_of (xs ++ zeros k) (y ++ rest) ≡ product_of xs y
product-widened k xs y rest e = product_of-append xs (zeros k) y rest e ∙ add-nothing_ℤ (product_of xs y) (product_of (zeros k) rest) (product_of-zeros k rest)

product-moved : (n m : ℕ) (xs before after inputs : List ℤ) → length before ≡ n → length xs ≡ length after
    → product_of (zeros n ++ (xs ++ zeros m)) (before ++ (after ++ inputs)) ≡ product_of xs after
product-moved n m xs before after inputs one e =
    product_of-append (zeros n) (xs ++ zeros m) before (after ++ inputs) (length-replicate n (pos 0) ∙ sym one)
    ∙ nothing-add_ℤ _ _ _ (product_of-zeros n before) (product-widened m xs after inputs e)

pub widened-meet : (program : Program) (home : Home) (k : ℕ) (atoms : List Row) (state rest : List ℤ) → length state ≡ home_width (length program.columns) home
    → AllByRecursion (IsAtomOf program home) atoms → AllByRecursion (λ atom. Meets atom state) atoms → AllByRecursion (λ row. Meets row (state ++ rest)) (map (wider_row k) atoms)
widened-meet program home k [] state rest e are hold = tt
widened-meet program home k (atom ∷ atoms) state rest e are hold = (
  meets-alike atom (atom.coefficients ++ zeros k) state (state ++ rest) (product-widened k atom.coefficients state rest (are.0.one_each ∙ sym e)) hold.0,
  widened-meet program home k atoms state rest e are.1 hold.1,
)

pub moved-meet : (program : Program) (home : Home) (n m : ℕ) (atoms : List Row) (before after inputs : List ℤ) → length before ≡ n → length after ≡ home_width (length program.columns) home
    → AllByRecursion (IsAtomOf program home) atoms → AllByRecursion (λ atom. Meets (moved_row n m atom) (before ++ (after ++ inputs))) atoms → AllByRecursion (λ atom. Meets atom after) atoms
moved-meet program home n m [] before after inputs one e are hold = tt
moved-meet program home n m (atom ∷ atoms) before after inputs one e are hold = (
  meets-back atom (zeros n ++ (atom.coefficients ++ zeros m)) after (before ++ (after ++ inputs)) (product-moved n m atom.coefficients before after inputs one (are.0.one_each ∙ sym e)) hold.0,
  moved-meet program home n m atoms before after inputs one e are.1 hold.1,
)

-- ---- the step

pub three-lengths : (before after inputs : List ℤ) → length (before ++ (after ++ inputs)) ≡ length before + (length after + length inputs)
three-lengths before after inputs = omega (arith, length-append before (after ++ inputs), length-append after inputs)

pub arrives : (thread : Thread) (edge : Edge) (before inputs after : List ℤ) → thread.counter < length before → Steps thread edge before inputs after
    → slice_get after thread.counter ≡ Some (pos edge.to)
arrives thread edge before inputs after h steps =
    let set_columns = after_sets edge.sets (before ++ inputs) before in
    let inside : thread.counter < length set_columns = omega (arith, length-assigned edge.sets (before ++ inputs) before) in
    let value = ap (λ state. get_or state thread.counter (pos 0)) steps.leads ∙ get_or-set_same set_columns thread.counter (pos edge.to) (pos 0) inside in
    let long : length after ≡ length before = ap length steps.leads ∙ length-after_step thread edge before inputs in
    slice_get-get_or after thread.counter (pos 0) (omega arith) ∙ ap Some value

-- ---- the rows of a fact that describes the state before

pub described-at : (program : Program) (f : Statement) (state : List ℤ) (i l : ℕ) (thread : Thread) → Describes program i f state → IsThreadOf program i thread → f.home ≡ State i l
    → slice_get state thread.counter ≡ Some (pos l)
described-at program f state i l thread told at stands =
    let same : State i told.l ≡ State i l = sym told.stands ∙ stands in
    let place : told.l ≡ l = cc in
    let both : Some told.thread ≡ Some thread = sym told.thread_is ∙ at in
    let one : told.thread ≡ thread = cc in
    ap (λ (found : Thread). slice_get state found.counter) (sym one) ∙ told.there ∙ ap (λ n. Some (pos n)) place

-- it stands where its thread is
pub stands-at : (program : Program) (f : Statement) (state : List ℤ) (i l : ℕ) (thread : Thread) → Describes program i f state → IsThreadOf program i thread
    → slice_get state thread.counter ≡ Some (pos l) → f.home ≡ State i l
stands-at program f state i l thread told at there =
    let both : Some told.thread ≡ Some thread = sym told.thread_is ∙ at in
    let one : told.thread ≡ thread = cc in
    let values : Some (pos told.l) ≡ Some (pos l) = sym told.there ∙ ap (λ (found : Thread). slice_get state found.counter) one ∙ there in
    let place : told.l ≡ l = cc in
    told.stands ∙ ap (State i) place

pub starts-at : (width c : ℕ) (v : ℤ) (before rest : List ℤ) → length before ≤ width → slice_get before c ≡ Some v → c < length before
    → product_of (unit width c (pos 1)) (before ++ rest) ≡ v
starts-at width c v before rest wide at h =
    product_of-one width c (before ++ rest) (omega arith) ∙ get_or_append_left before rest (pos 0) c h ∙ get_or_from_slice_get before c v (pos 0) at

pub state_rows-meet : (program : Program) (f : Statement) (i l k : ℕ) (thread : Thread) (before rest : List ℤ)
    → IsProgram program → IsStatementOf program f → IsThreadOf program i thread → f.home ≡ State i l → length before ≡ length program.columns → Describes program i f before
    → AllByRecursion (λ row. Meets row (before ++ rest)) (state_rows program thread l f k)
state_rows-meet program f i l k thread before rest is are at stands one told =
    let n = length program.columns in
    let wide : length before ≡ home_width n f.home = one ∙ sym (ap (home_width n) stands) in
    let within = counter-within program i thread is at in (
      starts-at (n + k) thread.counter (pos l) before rest (omega arith) (described-at program f before i l thread told at stands) (omega (arith, within.1)),
      widened-meet program f.home k f.atoms before rest wide are.are_atoms told.hold,
    )

-- ---- a thread stays where it is in a step of another

set-none : (sets : List (ℕ × Form)) (k c : ℕ) → AllByRecursion (λ set. set.0 < k) sets → k ≤ c → is_set sets c ≡ false
set-none [] k c below h = refl
set-none ((d, form) ∷ sets) k c below h = elim (eqb_tells d c) [
  | inl (hit, same) ↦ let wrong : d < k = below.0 in absurd (omega arith)
  | inr (miss, other) ↦ ap (λ b. b || is_set sets c) miss ∙ set-none sets k c below.1 h
]

pub other-stays : (program : Program) (k i e : ℕ) (other thread : Thread) (edge : Edge) (before inputs after : List ℤ) (v : ℤ)
    → IsProgram program → k ≢ i → IsThreadOf program k other → IsEdgeOf program i e thread edge → length before ≡ length program.columns → Steps thread edge before inputs after
    → slice_get before other.counter ≡ Some v → slice_get after other.counter ≡ Some v
other-stays program k i e other thread edge before inputs after v is apart there at one steps from =
    let c = other.counter in
    let w = before ++ inputs in
    let set_columns = after_sets edge.sets w before in
    let within = counter-within program k other is there in
    let inside : c < length before = omega (arith, within.1) in
    let order = (is.threads_are i thread at.thread_is).in_order in
    let other_order = (is.threads_are k other there).in_order in
    let miss : (thread.counter == c) ≡ false = ne_eqb thread.counter c (λ same. apart (omega (arith, order, other_order, same))) in
    let none = set-none edge.sets _ c (edge-is program i e thread edge is at.thread_is at.edge_is).sets_no_counter within.0 in
    let same_after = ap (λ (state : List ℤ). get_or state c (pos 0)) steps.leads
    ∙ get_or-set set_columns thread.counter c (pos edge.to) (omega (arith, length-assigned edge.sets w before))
    ∙ ap (λ b. cond b (pos edge.to) (get_or set_columns c (pos 0))) miss
    ∙ get_or-assigned edge.sets w before c inside
    ∙ next_value-kept edge.sets w before c none in
    let long : length after ≡ length before = ap length steps.leads ∙ length-after_step thread edge before inputs in
    slice_get-get_or after c (pos 0) (omega arith) ∙ ap Some (same_after ∙ get_or_from_slice_get before c v (pos 0) from)
