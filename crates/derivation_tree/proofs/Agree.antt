-- Values that are alike on the variables of a node, and of those below it, are alike on their rows.
use Rattle.std.proofs.Common.{◌≡◌, ℕ, suc, ◌+◌, ◌<◌, ◌≤◌, List, [], ◌∷◌, ◌++◌, map, length, Bool, true, false, ℤ, refl, sym, ◌∙◌, ap, ap₂, subst, arith}
use Rattle.std.specs.Prelude.{if◌then◌else◌}
use Rattle.std.specs.List.{AllByRecursion, range_with_len}
use Rattle.std.proofs.lemmas.Grind.{flat_map-append}
use Rattle.std.proofs.lemmas.List.{map-append}
use Rattle.lin_rows.specs.Row.{Row, product_of}
use Rattle.lin_rows.proofs.Lists.{AllByRecursion-append}
use Rattle.transition_formula.specs.Program.{Program, Column, Thread, Edge}
use Rattle.transition_formula.specs.Rows.{is_kept}
use Rattle.horn_rules.specs.Home.{Home}
use Rattle.horn_rules.specs.Case.{init_case, own_case, guar_case, env_case, inter_case}
use Rattle.derivation_tree.specs.Tree.{Tree, Init, Own, Guar, Env, Inter, size_of, thread_at, edge_at, thread_of, place_of, root_home, step_thread, step_edge}
use Rattle.derivation_tree.specs.Variable.{Variable, After, Before, Input, NamedRow, row_named}
use Rattle.derivation_tree.specs.Nodes.{Sharing, Moments, Node, shared, before_step, own_after, state_moments, moments_of, bare, without_kept, step_rows, inputs_of, own_rows, at_before, node_at, nodes_of, rows_of}
use Rattle.derivation_tree.proofs.Values.{worth, worth-terms_over}

-- ---- variables by the numbers of their nodes

abbrev pub number_of : Variable → ℕ
number_of (After n c) = n
number_of (Before n c) = n
number_of (Input n c) = n

-- of a node behind the first ones, up to node n
pub record IsOwn (first n : ℕ) (w : Variable) : Type 0 where
  pub behind : first < number_of w
  pub up_to : number_of w ≤ n

-- values alike on these variables, and on all others
abbrev pub AlikeOn : ℕ → ℕ → (Variable → ℤ) → (Variable → ℤ) → Type 0
AlikeOn first n u v = (w : Variable) → IsOwn first n w → u w ≡ v w

abbrev pub AlikeOff : ℕ → ℕ → (Variable → ℤ) → (Variable → ℤ) → Type 0
AlikeOff first n u v = (w : Variable) → (IsOwn first n w → ⊥) → u w ≡ v w

-- alike on the node's variables
pub record AlikeMoments (u v : Variable → ℤ) (moments : Moments) : Type 0 where
  pub before : map u moments.before ≡ map v moments.before
  pub after : map u moments.after ≡ map v moments.after

-- alike on the rows
abbrev pub SameWorth : (Variable → ℤ) → (Variable → ℤ) → NamedRow → Type 0
SameWorth u v row = worth u row.terms ≡ worth v row.terms

-- ---- lists of variables

first-alike : (u v : Variable → ℤ) (a : Variable) (xs : List Variable) → map u (a ∷ xs) ≡ map v (a ∷ xs) → (u a ≡ v a) × (map u xs ≡ map v xs)
first-alike u v a xs e = (cc, cc)

pub made-alike : (u v : Variable → ℤ) (make : ℕ → Variable) (xs : List ℕ) → ((j : ℕ) → u (make j) ≡ v (make j)) → map u (map make xs) ≡ map v (map make xs)
made-alike u v make [] h = refl
made-alike u v make (x ∷ xs) h = ap₂ (λ a l. a ∷ l) (h x) (made-alike u v make xs h)

pub shared-same : (share : Sharing) (home : Home) (columns : List Column) (above fresh : List Variable) (u v : Variable → ℤ) → map u above ≡ map v above → map u fresh ≡ map v fresh
    → map u (shared share home columns above fresh) ≡ map v (shared share home columns above fresh)
shared-same share home [] above fresh u v e f = refl
shared-same share home (column ∷ columns) [] fresh u v e f = refl
shared-same share home (column ∷ columns) (a ∷ above) [] u v e f = refl
shared-same share home (column ∷ columns) (a ∷ above) (o ∷ fresh) u v e f =
    let (first, later) = first-alike u v a above e in
    let (mine, rest) = first-alike u v o fresh f in
    ap₂ (λ x l. x ∷ l) (at (share home column.owner) first mine) (shared-same share home columns above fresh u v later rest)
  where
    at : (b : Bool) → u a ≡ v a → u o ≡ v o → u (if b then a else o) ≡ v (if b then a else o)
    at true p q = p
    at false p q = q

before-same : (n : ℕ) (thread : Thread) (edge : Edge) (c : ℕ) (after : List Variable) (u v : Variable → ℤ) → ((j : ℕ) → u (Before n j) ≡ v (Before n j)) → map u after ≡ map v after
    → map u (before_step n thread edge c after) ≡ map v (before_step n thread edge c after)
before-same n thread edge c [] u v own e = refl
before-same n thread edge c (a ∷ after) u v own e =
    let (first, later) = first-alike u v a after e in
    ap₂ (λ x l. x ∷ l) (at (is_kept thread.counter edge c) first) (before-same n thread edge (suc c) after u v own later)
  where
    at : (b : Bool) → u a ≡ v a → u (if b then a else Before n c) ≡ v (if b then a else Before n c)
    at true p = p
    at false p = own c

-- ---- the variables of a node

-- alike on the node's own variables
pub record AlikeAt (n : ℕ) (u v : Variable → ℤ) : Type 0 where
  pub after : (c : ℕ) → u (After n c) ≡ v (After n c)
  pub before : (c : ℕ) → u (Before n c) ≡ v (Before n c)

state-same : (program : Program) (share : Sharing) (n : ℕ) (tree : Tree) (above : Moments) (u v : Variable → ℤ) → AlikeMoments u v above → AlikeAt n u v → AlikeMoments u v (state_moments program share n tree above)
state-same program share n tree above u v alike own =
    let after = shared-same share (root_home program tree) program.columns above.after (own_after program n) u v alike.after (made-alike u v (After n) (range_with_len 0 (length program.columns)) own.after) in
    record {
      before = before-same n (thread_at program (step_thread program tree)) (edge_at program (step_thread program tree) (step_edge program tree)) 0 (state_moments program share n tree above).after u v own.before after;
      after = after;
    }

pub moments-same : (program : Program) (share : Sharing) (n : ℕ) (tree : Tree) (above : Moments) (u v : Variable → ℤ) → AlikeMoments u v above → AlikeAt n u v → AlikeMoments u v (moments_of program share n tree above)
moments-same program share n (Guar f e) above u v alike own =
    let inner = state-same program share n (Guar f e) above u v alike own in
    record {
      before = shared-same share (root_home program (Guar f e)) program.columns above.before (state_moments program share n (Guar f e) above).before u v alike.before inner.before;
      after = inner.after;
    }
moments-same program share n (Init i) above u v alike own = state-same program share n (Init i) above u v alike own
moments-same program share n (Own f e) above u v alike own = state-same program share n (Own f e) above u v alike own
moments-same program share n (Env f t) above u v alike own = state-same program share n (Env f t) above u v alike own
moments-same program share n (Inter f g e) above u v alike own = state-same program share n (Inter f g e) above u v alike own

-- where those after the step are alike, so are those before it
pub before-alike : (program : Program) (share : Sharing) (n : ℕ) (tree : Tree) (above : Moments) (u v : Variable → ℤ) → AlikeAt n u v
    → map u (state_moments program share n tree above).after ≡ map v (state_moments program share n tree above).after → AlikeMoments u v (state_moments program share n tree above)
before-alike program share n tree above u v own after = record {
  before = before-same n (thread_at program (step_thread program tree)) (edge_at program (step_thread program tree) (step_edge program tree)) 0 (state_moments program share n tree above).after u v own.before after;
  after = after;
}

pub at_before-same : (u v : Variable → ℤ) (moments : Moments) → AlikeMoments u v moments → AlikeMoments u v (at_before moments)
at_before-same u v moments alike = record { before = alike.before; after = alike.before }

-- ---- rows

named-same : (u v : Variable → ℤ) (variables : List Variable) (rows : List Row) → map u variables ≡ map v variables → AllByRecursion (SameWorth u v) (map (row_named variables) rows)
named-same u v variables [] e = tt
named-same u v variables (row ∷ rows) e = (
  worth-terms_over u variables row.coefficients ∙ ap (product_of row.coefficients) e ∙ sym (worth-terms_over v variables row.coefficients),
  named-same u v variables rows e,
)

lists-same : (u v : Variable → ℤ) (moments : Moments) (inputs : List Variable) → AlikeMoments u v moments → map u inputs ≡ map v inputs
    → map u (moments.before ++ (moments.after ++ inputs)) ≡ map v (moments.before ++ (moments.after ++ inputs))
lists-same u v moments inputs alike e =
    map-append u moments.before (moments.after ++ inputs) ∙ ap (λ l. map u moments.before ++ l) (map-append u moments.after inputs)
    ∙ ap₂ (λ b l. b ++ l) alike.before (ap₂ (λ a i. a ++ i) alike.after e)
    ∙ sym (map-append v moments.before (moments.after ++ inputs) ∙ ap (λ l. map v moments.before ++ l) (map-append v moments.after inputs))

steps-same : (program : Program) (i e k : ℕ) (rows : List Row) (moments : Moments) (inputs : List Variable) (u v : Variable → ℤ) → AlikeMoments u v moments → map u inputs ≡ map v inputs
    → AllByRecursion (SameWorth u v) (step_rows program i e moments inputs k rows)
steps-same program i e k rows moments inputs u v alike e_inputs =
    named-same u v (moments.before ++ (moments.after ++ inputs)) (without_kept program (thread_at program i) (edge_at program i e) k rows) (lists-same u v moments inputs alike e_inputs)

pub own-same : (program : Program) (n : ℕ) (tree : Tree) (moments : Moments) (u v : Variable → ℤ) → AlikeMoments u v moments → ((j : ℕ) → u (Input n j) ≡ v (Input n j)) → AllByRecursion (SameWorth u v) (own_rows program n tree moments)
own-same program n (Init i) moments u v alike inputs = named-same u v moments.after (init_case program i).system.rows alike.after
own-same program n (Own f e) moments u v alike inputs =
    let i = thread_of (root_home program f) in
    steps-same program i e 1 (own_case program i (thread_at program i) (edge_at program i e) (bare (root_home program f))).system.rows moments (inputs_of program n i e) u v alike
    (made-alike u v (Input n) (range_with_len 0 (edge_at program i e).inputs) inputs)
own-same program n (Guar f e) moments u v alike inputs =
    let i = thread_of (root_home program f) in
    steps-same program i e 1 (guar_case program i e (thread_at program i) (edge_at program i e) (bare (root_home program f))).system.rows moments (inputs_of program n i e) u v alike
    (made-alike u v (Input n) (range_with_len 0 (edge_at program i e).inputs) inputs)
own-same program n (Env f t) moments u v alike inputs =
    let home = root_home program f in
    let told = root_home program t in
    let i = thread_of told in
    let e = place_of told in
    steps-same program i e 1 (env_case program (thread_of home) (place_of home) (thread_at program (thread_of home)) (thread_at program i) (edge_at program i e) (bare home) (bare told)).system.rows moments [] u v alike refl
own-same program n (Inter f g e) moments u v alike inputs =
    let home = root_home program f in
    let other = root_home program g in
    let i = thread_of other in
    steps-same program i e 2 (inter_case program (thread_of home) (place_of home) (thread_at program (thread_of home)) (thread_at program i) (edge_at program i e) (bare home) (bare other)).system.rows moments (inputs_of program n i e) u v alike
    (made-alike u v (Input n) (range_with_len 0 (edge_at program i e).inputs) inputs)

pub last-same : (u v : Variable → ℤ) (below : List Node) (node : Node) → AllByRecursion (SameWorth u v) (rows_of below) → AllByRecursion (SameWorth u v) node.rows → AllByRecursion (SameWorth u v) (rows_of (below ++ node ∷ []))
last-same u v below node low mine =
    subst (AllByRecursion (SameWorth u v)) (sym (flat_map-append (λ (n : Node). n.rows) below (node ∷ [])))
    (AllByRecursion-append (SameWorth u v) (rows_of below) (rows_of (node ∷ [])) low (AllByRecursion-append (SameWorth u v) node.rows [] mine tt))

pub two-same : (u v : Variable → ℤ) (below others : List Node) (node : Node) → AllByRecursion (SameWorth u v) (rows_of below) → AllByRecursion (SameWorth u v) (rows_of others) → AllByRecursion (SameWorth u v) node.rows
    → AllByRecursion (SameWorth u v) (rows_of (below ++ (others ++ node ∷ [])))
two-same u v below others node low side mine =
    subst (AllByRecursion (SameWorth u v)) (sym (flat_map-append (λ (n : Node). n.rows) below (others ++ node ∷ [])))
    (AllByRecursion-append (SameWorth u v) (rows_of below) (rows_of (others ++ node ∷ [])) low (last-same u v others node side mine))

pub size-positive : (tree : Tree) → 0 < size_of tree
size-positive (Init i) = omega arith
size-positive (Own f e) = omega arith
size-positive (Guar f e) = omega arith
size-positive (Env f t) = omega arith
size-positive (Inter f g e) = omega arith

-- alike on the variables of all nodes is so on those of one
pub at-node : (first n m : ℕ) (u v : Variable → ℤ) → AlikeOn first n u v → first < m → m ≤ n → AlikeAt m u v
at-node first n m u v alike low high = record {
  after = λ c. alike (After m c) (record { behind = low; up_to = high });
  before = λ c. alike (Before m c) (record { behind = low; up_to = high });
}

pub narrower : (first n a b : ℕ) (u v : Variable → ℤ) → AlikeOn first n u v → first ≤ a → b ≤ n → AlikeOn a b u v
narrower first n a b u v alike low high w own = alike w (record { behind = let h = own.behind in omega arith; up_to = let h = own.up_to in omega arith })

pub nodes-same : (program : Program) (share : Sharing) (tree : Tree) (first : ℕ) (above : Moments) (u v : Variable → ℤ) → AlikeOn first (first + size_of tree) u v → AlikeMoments u v (moments_of program share (first + size_of tree) tree above)
    → AllByRecursion (SameWorth u v) (rows_of (nodes_of program share first tree above))
nodes-same program share (Init i) first above u v own alike =
    AllByRecursion-append (SameWorth u v) _ [] (own-same program (first + 1) (Init i) (moments_of program share (first + 1) (Init i) above) u v alike (λ j. own (Input (first + 1) j) (record { behind = omega arith; up_to = omega arith }))) tt
nodes-same program share (Own f e) first above u v own alike =
    let n = first + size_of (Own f e) in
    let moments = moments_of program share n (Own f e) above in
    let positive = size-positive f in
    last-same u v (nodes_of program share first f (at_before moments)) (node_at program n (Own f e) moments)
    (nodes-same program share f first (at_before moments) u v (narrower first n first (first + size_of f) u v own (omega arith) (omega arith))
    (moments-same program share (first + size_of f) f (at_before moments) u v (at_before-same u v moments alike) (at-node first n (first + size_of f) u v own (omega arith) (omega arith))))
    (own-same program n (Own f e) moments u v alike (λ j. own (Input n j) (record { behind = omega arith; up_to = omega arith })))
nodes-same program share (Guar f e) first above u v own alike =
    let n = first + size_of (Guar f e) in
    let moments = moments_of program share n (Guar f e) above in
    let positive = size-positive f in
    last-same u v (nodes_of program share first f (at_before moments)) (node_at program n (Guar f e) moments)
    (nodes-same program share f first (at_before moments) u v (narrower first n first (first + size_of f) u v own (omega arith) (omega arith))
    (moments-same program share (first + size_of f) f (at_before moments) u v (at_before-same u v moments alike) (at-node first n (first + size_of f) u v own (omega arith) (omega arith))))
    (own-same program n (Guar f e) moments u v alike (λ j. own (Input n j) (record { behind = omega arith; up_to = omega arith })))
nodes-same program share (Env f t) first above u v own alike =
    let n = first + size_of (Env f t) in
    let moments = moments_of program share n (Env f t) above in
    let positive = size-positive f in
    let other = size-positive t in
    two-same u v (nodes_of program share first f (at_before moments)) (nodes_of program share (first + size_of f) t moments) (node_at program n (Env f t) moments)
    (nodes-same program share f first (at_before moments) u v (narrower first n first (first + size_of f) u v own (omega arith) (omega arith))
    (moments-same program share (first + size_of f) f (at_before moments) u v (at_before-same u v moments alike) (at-node first n (first + size_of f) u v own (omega arith) (omega arith))))
    (nodes-same program share t (first + size_of f) moments u v (narrower first n (first + size_of f) (first + size_of f + size_of t) u v own (omega arith) (omega arith))
    (moments-same program share (first + size_of f + size_of t) t moments u v alike (at-node first n (first + size_of f + size_of t) u v own (omega arith) (omega arith))))
    (own-same program n (Env f t) moments u v alike (λ j. own (Input n j) (record { behind = omega arith; up_to = omega arith })))
nodes-same program share (Inter f g e) first above u v own alike =
    let n = first + size_of (Inter f g e) in
    let moments = moments_of program share n (Inter f g e) above in
    let positive = size-positive f in
    let other = size-positive g in
    two-same u v (nodes_of program share first f (at_before moments)) (nodes_of program share (first + size_of f) g (at_before moments)) (node_at program n (Inter f g e) moments)
    (nodes-same program share f first (at_before moments) u v (narrower first n first (first + size_of f) u v own (omega arith) (omega arith))
    (moments-same program share (first + size_of f) f (at_before moments) u v (at_before-same u v moments alike) (at-node first n (first + size_of f) u v own (omega arith) (omega arith))))
    (nodes-same program share g (first + size_of f) (at_before moments) u v (narrower first n (first + size_of f) (first + size_of f + size_of g) u v own (omega arith) (omega arith))
    (moments-same program share (first + size_of f + size_of g) g (at_before moments) u v (at_before-same u v moments alike) (at-node first n (first + size_of f + size_of g) u v own (omega arith) (omega arith))))
    (own-same program n (Inter f g e) moments u v alike (λ j. own (Input n j) (record { behind = omega arith; up_to = omega arith })))
