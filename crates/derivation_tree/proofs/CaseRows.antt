-- The rows of a node are those of its instance: values meet the node's rows, and its premises' rows, exactly where they are a point of the
-- instance's system.
use Rattle.std.proofs.Common.{◌≡◌, ℕ, suc, ◌+◌, ◌<◌, List, [], ◌∷◌, ◌++◌, map, length, drop, get_or, true, ℤ, pos, neg_ℤ, ◌+ℤ◌, ◌*ℤ◌, ◌≤ℤ◌, MatchBool, refl, sym, ◌∙◌, ap, ap₂, subst, arith}
use Rattle.std.specs.Prelude.{slice_get, unwrap_or, option_map}
use Rattle.std.specs.List.{AllByRecursion, range_with_len}
use Rattle.std.proofs.lemmas.Int.{ints}
use Rattle.std.proofs.lemmas.List.{length-map, length-replicate, map-append}
use Rattle.std.proofs.lemmas.Option.{unwrap_or-slice_get, slice_get-map}
use Rattle.lin_rows.specs.Row.{Row, product_of, MeetsOver}
use Rattle.lin_rows.proofs.Integers.{nothing-add_ℤ}
use Rattle.lin_rows.proofs.Lists.{AllByRecursion-map}
use Rattle.transition_formula.specs.Program.{Program, Thread, Edge, IsThreadOf, IsEdgeOf}
use Rattle.transition_formula.specs.Rows.{zeros, column_is, kept_row, kept_columns, is_kept, test_row, set_row, edge_width}
use Rattle.transition_formula.proofs.ProductLemmas.{product_of-append, product_of-zeros, kept_product}
use Rattle.transition_formula.proofs.NextValues.{range-from}
use Rattle.horn_rules.specs.Home.{Home, State, Env as AtEdge}
use Rattle.horn_rules.specs.Case.{behind, own_case, env_case, inter_case}
use Rattle.horn_rules.proofs.Described.{product-widened}
use Rattle.derivation_tree.specs.Tree.{Tree, Own, Guar, Env, Inter, IsTreeOf, thread_at, edge_at, thread_of, place_of}
use Rattle.derivation_tree.specs.Variable.{Variable, Input, NamedRow, row_named}
use Rattle.derivation_tree.specs.Nodes.{Moments, bare, without_kept, inputs_of, own_rows}
use Rattle.derivation_tree.proofs.Below.{thread-at, edge-at, root-home}
use Rattle.derivation_tree.proofs.Shared.{HasEach, Keeps}

-- ---- rows at points

pub over-alike : (row : Row) (xs y z : List ℤ) (d : ℤ) → product_of xs z ≡ product_of row.coefficients y → MeetsOver row y d → MeetsOver (record row { coefficients = xs }) z d
over-alike row xs y z d e h = subst (λ p. MatchBool row.equal (p ≡ row.bound *ℤ d) (p ≤ℤ (row.bound *ℤ d))) (sym e) h

pub over-back : (row : Row) (xs y z : List ℤ) (d : ℤ) → product_of xs z ≡ product_of row.coefficients y → MeetsOver (record row { coefficients = xs }) z d → MeetsOver row y d
over-back row xs y z d e h = subst (λ p. MatchBool row.equal (p ≡ row.bound *ℤ d) (p ≤ℤ (row.bound *ℤ d))) e h

pub product-moved : (n m : ℕ) (xs before after inputs : List ℤ) → length before ≡ n → length xs ≡ length after
    → product_of (zeros n ++ (xs ++ zeros m)) (before ++ (after ++ inputs)) ≡ product_of xs after
product-moved n m xs before after inputs one e =
    product_of-append (zeros n) (xs ++ zeros m) before (after ++ inputs) (length-replicate n (pos 0) ∙ sym one)
    ∙ nothing-add_ℤ _ _ _ (product_of-zeros n before) (product-widened m xs after inputs e)

-- ---- values before and after a step, and of the inputs

abbrev pub values : (Variable → ℤ) → Moments → List Variable → List ℤ
values v moments inputs = map v moments.before ++ (map v moments.after ++ map v inputs)

pub values-are : (v : Variable → ℤ) (moments : Moments) (inputs : List Variable) → map v (moments.before ++ (moments.after ++ inputs)) ≡ values v moments inputs
values-are v moments inputs = map-append v moments.before (moments.after ++ inputs) ∙ ap (λ l. map v moments.before ++ l) (map-append v moments.after inputs)

alike-values : (v : Variable → ℤ) (xs ys : List Variable) (c : ℕ) → slice_get xs c ≡ slice_get ys c → get_or (map v xs) c (pos 0) ≡ get_or (map v ys) c (pos 0)
alike-values v xs ys c e =
    sym (unwrap_or-slice_get (map v xs) c (pos 0)) ∙ ap (λ o. unwrap_or o (pos 0)) (slice_get-map v xs c ∙ ap (option_map v) e ∙ sym (slice_get-map v ys c)) ∙ unwrap_or-slice_get (map v ys) c (pos 0)

no_difference : (a b d : ℤ) → a ≡ b → b +ℤ neg_ℤ a ≡ pos 0 *ℤ d
no_difference a b d e = omega (arith, ints)

pub kept-meet : (program : Program) (thread : Thread) (edge : Edge) (m : ℕ) (moments : Moments) (inputs : List Variable) (v : Variable → ℤ) (d : ℤ) → HasEach program moments → Keeps thread edge moments
    → AllByRecursion (λ row. MeetsOver row (values v moments inputs) d) (map (kept_row (length program.columns) m) (kept_columns (length program.columns) thread.counter edge))
kept-meet program thread edge m moments inputs v d each keeps =
    let n = length program.columns in
    AllByRecursion-map (λ (c : ℕ). (c < n) × (is_kept thread.counter edge c ≡ true)) (λ row. MeetsOver row (values v moments inputs) d) (kept_row n m)
    (λ c there. kept_product n m c (map v moments.before) (map v moments.after) (map v inputs) there.0 (length-map moments.before v ∙ each.before) (length-map moments.after v ∙ each.after)
    ∙ no_difference _ _ d (alike-values v moments.before moments.after c (keeps c there.1)))
    (kept_columns n thread.counter edge)
    (range-from (λ c. (c < n) × (is_kept thread.counter edge c ≡ true)) (is_kept thread.counter edge) 0 n (λ c low high pass. (omega arith, pass)))

-- ---- the rows that are left out

pub left-out : (f : ℕ → Row) (ks : List ℕ) (rest : List Row) → drop (length ks) (map f ks ++ rest) ≡ rest
left-out f [] rest = refl
left-out f (k ∷ ks) rest = left-out f ks rest

without-kept_one : (program : Program) (thread : Thread) (edge : Edge) (m : ℕ) (a s t : Row) (rest : List Row)
    → without_kept program thread edge 1 (a ∷ s ∷ t ∷ (map (kept_row (length program.columns) m) (kept_columns (length program.columns) thread.counter edge) ++ rest)) ≡ a ∷ s ∷ t ∷ rest
without-kept_one program thread edge m a s t rest =
    let n = length program.columns in
    let ks = kept_columns n thread.counter edge in
    let all = map (kept_row n m) ks ++ rest in
    let many : 1 + 2 + length ks ≡ suc (suc (suc (length ks))) = omega arith in
    ap (λ (k : ℕ). a ∷ s ∷ t ∷ drop k (a ∷ s ∷ t ∷ all)) many ∙ ap (λ l. a ∷ s ∷ t ∷ l) (left-out (kept_row n m) ks rest)

without-kept_two : (program : Program) (thread : Thread) (edge : Edge) (m : ℕ) (a b s t : Row) (rest : List Row)
    → without_kept program thread edge 2 (a ∷ b ∷ s ∷ t ∷ (map (kept_row (length program.columns) m) (kept_columns (length program.columns) thread.counter edge) ++ rest)) ≡ a ∷ b ∷ s ∷ t ∷ rest
without-kept_two program thread edge m a b s t rest =
    let n = length program.columns in
    let ks = kept_columns n thread.counter edge in
    let all = map (kept_row n m) ks ++ rest in
    let many : 2 + 2 + length ks ≡ suc (suc (suc (suc (length ks)))) = omega arith in
    ap (λ (k : ℕ). a ∷ b ∷ s ∷ t ∷ drop k (a ∷ b ∷ s ∷ t ∷ all)) many ∙ ap (λ l. a ∷ b ∷ s ∷ t ∷ l) (left-out (kept_row n m) ks rest)

-- ---- a node's rows, where its thread and edge are known

-- over the variables before and after, and the inputs
abbrev pub named_over : Moments → List Variable → List Row → List NamedRow
named_over moments inputs rows = map (row_named (moments.before ++ (moments.after ++ inputs))) rows

abbrev pub inputs_at : ℕ → Edge → List Variable
inputs_at n edge = map (Input n) (range_with_len 0 edge.inputs)

-- the rows of an edge, without those of kept columns
abbrev pub moving_rows : Program → Thread → Edge → List Row
moving_rows program thread edge =
    let n = length program.columns in
    let width = edge_width n edge.inputs in
    column_is width thread.counter (pos edge.from) ∷ column_is width (n + thread.counter) (pos edge.to) ∷ (map (test_row n) edge.tests ++ map (set_row n) edge.sets)

pub own-rows : (program : Program) (n : ℕ) (f : Tree) (e i : ℕ) (thread : Thread) (edge : Edge) (moments : Moments) → IsTreeOf program f (State i edge.from) → IsEdgeOf program i e thread edge
    → own_rows program n (Own f e) moments
    ≡ named_over moments (inputs_at n edge) (column_is (length program.columns + behind program edge) thread.counter (pos edge.from) ∷ moving_rows program thread edge)
own-rows program n f e i thread edge moments is at =
    let by = λ (t : Thread) (d : Edge). map (row_named (moments.before ++ (moments.after ++ inputs_at n d))) (without_kept program t d 1 (own_case program i t d (bare (State i 0))).system.rows) in
    ap (λ (h : Home). map (row_named (moments.before ++ (moments.after ++ inputs_of program n (thread_of h) e))) (without_kept program (thread_at program (thread_of h)) (edge_at program (thread_of h) e) 1 (own_case program (thread_of h) (thread_at program (thread_of h)) (edge_at program (thread_of h) e) (bare h)).system.rows)) (root-home program f (State i edge.from) is)
    ∙ ap₂ by (thread-at program i thread at.thread_is) (edge-at program i e thread edge at)
    ∙ ap (λ rows. named_over moments (inputs_at n edge) rows) (without-kept_one program thread edge edge.inputs _ _ _ (map (test_row (length program.columns)) edge.tests ++ map (set_row (length program.columns)) edge.sets))

pub guar-rows : (program : Program) (n : ℕ) (f : Tree) (e i : ℕ) (thread : Thread) (edge : Edge) (moments : Moments) → IsTreeOf program f (State i edge.from) → IsEdgeOf program i e thread edge
    → own_rows program n (Guar f e) moments
    ≡ named_over moments (inputs_at n edge) (column_is (length program.columns + behind program edge) thread.counter (pos edge.from) ∷ moving_rows program thread edge)
guar-rows program n f e i thread edge moments is at = own-rows program n f e i thread edge moments is at

pub env-rows : (program : Program) (n : ℕ) (f t : Tree) (k l i e : ℕ) (other thread : Thread) (edge : Edge) (moments : Moments)
    → IsTreeOf program f (State k l) → IsTreeOf program t (AtEdge i e) → IsThreadOf program k other → IsEdgeOf program i e thread edge
    → own_rows program n (Env f t) moments
    ≡ named_over moments [] (column_is (length program.columns + length program.columns) other.counter (pos l)
    ∷ column_is (length program.columns + length program.columns) thread.counter (pos edge.from)
    ∷ column_is (length program.columns + length program.columns) (length program.columns + thread.counter) (pos edge.to) ∷ [])
env-rows program n f t k l i e other thread edge moments is told there at =
    let by = λ (o : Thread) (s : Thread) (d : Edge). map (row_named (moments.before ++ (moments.after ++ []))) (without_kept program s d 1 (env_case program k l o s d (bare (State k l)) (bare (AtEdge i e))).system.rows) in
    ap₂ (λ (h : Home) (m : Home). map (row_named (moments.before ++ (moments.after ++ []))) (without_kept program (thread_at program (thread_of m)) (edge_at program (thread_of m) (place_of m)) 1
    (env_case program (thread_of h) (place_of h) (thread_at program (thread_of h)) (thread_at program (thread_of m)) (edge_at program (thread_of m) (place_of m)) (bare h) (bare m)).system.rows))
    (root-home program f (State k l) is) (root-home program t (AtEdge i e) told)
    ∙ ap (λ o. by o (thread_at program i) (edge_at program i e)) (thread-at program k other there)
    ∙ ap₂ (λ s d. by other s d) (thread-at program i thread at.thread_is) (edge-at program i e thread edge at)
    ∙ ap (λ rows. named_over moments [] rows) (without-kept_one program thread edge 0 _ _ _ [])

pub inter-rows : (program : Program) (n : ℕ) (f g : Tree) (k l i e : ℕ) (other thread : Thread) (edge : Edge) (moments : Moments)
    → IsTreeOf program f (State k l) → IsTreeOf program g (State i edge.from) → IsThreadOf program k other → IsEdgeOf program i e thread edge
    → own_rows program n (Inter f g e) moments
    ≡ named_over moments (inputs_at n edge) (column_is (length program.columns + behind program edge) other.counter (pos l)
    ∷ column_is (length program.columns + behind program edge) thread.counter (pos edge.from) ∷ moving_rows program thread edge)
inter-rows program n f g k l i e other thread edge moments is other_is there at =
    let by = λ (o : Thread) (s : Thread) (d : Edge). map (row_named (moments.before ++ (moments.after ++ inputs_at n d))) (without_kept program s d 2 (inter_case program k l o s d (bare (State k l)) (bare (State i 0))).system.rows) in
    ap₂ (λ (h : Home) (m : Home). map (row_named (moments.before ++ (moments.after ++ inputs_of program n (thread_of m) e))) (without_kept program (thread_at program (thread_of m)) (edge_at program (thread_of m) e) 2
    (inter_case program (thread_of h) (place_of h) (thread_at program (thread_of h)) (thread_at program (thread_of m)) (edge_at program (thread_of m) e) (bare h) (bare m)).system.rows))
    (root-home program f (State k l) is) (root-home program g (State i edge.from) other_is)
    ∙ ap (λ o. by o (thread_at program i) (edge_at program i e)) (thread-at program k other there)
    ∙ ap₂ (λ s d. by other s d) (thread-at program i thread at.thread_is) (edge-at program i e thread edge at)
    ∙ ap (λ rows. named_over moments (inputs_at n edge) rows) (without-kept_two program thread edge edge.inputs _ _ _ _ (map (test_row (length program.columns)) edge.tests ++ map (set_row (length program.columns)) edge.sets))
