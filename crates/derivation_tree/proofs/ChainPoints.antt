-- Values that meet the full rows of a tree meet the rows of its chain.
use Rattle.std.proofs.Common.{◌≡◌, ℕ, suc, ◌+◌, List, [], ◌∷◌, ◌++◌, map, length, drop, ℤ, Some, refl, sym, ◌∙◌, ap, ap₂, subst, arith}
use Rattle.lin_rows.specs.Row.{Row}
use Rattle.lin_rows.proofs.Lists.{AllByRecursion-front, AllByRecursion-append}
use Rattle.transition_formula.specs.Program.{Program, Column, Thread, Edge, IsEdgeOf}
use Rattle.transition_formula.specs.Rows.{kept_row, kept_columns, test_row, set_row, edge_rows}
use Rattle.horn_rules.specs.Home.{Home, State, Env as AtEdge}
use Rattle.horn_rules.specs.Instance as instance
use Rattle.horn_rules.specs.Case.{Case}
use Rattle.horn_rules.proofs.Cases.{shape}
use Rattle.derivation_tree.specs.Tree.{Tree, Own, Guar, Env, Inter, size_of, IsTreeOf, root_home, thread_of, place_of}
use Rattle.derivation_tree.specs.Variable.{Variable, variables_of, row_named}
use Rattle.derivation_tree.specs.Nodes.{Moments, moments_of, at_before, bare, without_kept, inputs_of, node_at, nodes_of, root_moments, tree_nodes, rows_of, shared, own_after}
use Rattle.derivation_tree.specs.System.{share_all, chain_step, chain_of, chain_rows}
use Rattle.derivation_tree.specs.Sums.{coefficient_at}
use Rattle.derivation_tree.specs.Laws.{FullPointsGiveChainPoints}
use Rattle.derivation_tree.proofs.Values.{MeetsAt, AllMeetAt}
use Rattle.derivation_tree.proofs.Numbering.{point-values, values-point}
use Rattle.derivation_tree.proofs.Below.{thread-at, edge-at, root-home}
use Rattle.derivation_tree.proofs.Shared.{HasEach, state-each, moments-each, before-each, length-own_after}
use Rattle.derivation_tree.proofs.CaseRows.{left-out, named_over, inputs_at, moving_rows, own-rows, guar-rows, inter-rows}
use Rattle.derivation_tree.proofs.Modular.{rows-last, rows-two, root-each}
use Rattle.derivation_tree.proofs.Derivations.{Derives, init, own, guar, env, inter, derives-home, tree-derives}

-- ---- a step of the chain

without-kept_none : (program : Program) (thread : Thread) (edge : Edge) (m : ℕ) (s t : Row) (rest : List Row)
    → without_kept program thread edge 0 (s ∷ t ∷ (map (kept_row (length program.columns) m) (kept_columns (length program.columns) thread.counter edge) ++ rest)) ≡ s ∷ t ∷ rest
without-kept_none program thread edge m s t rest =
    let n = length program.columns in
    let ks = kept_columns n thread.counter edge in
    let all = map (kept_row n m) ks ++ rest in
    let many : 0 + 2 + length ks ≡ suc (suc (length ks)) = omega arith in
    ap (λ (k : ℕ). s ∷ t ∷ drop k (s ∷ t ∷ all)) many ∙ ap (λ l. s ∷ t ∷ l) (left-out (kept_row n m) ks rest)

-- the rows of a step, where its thread and edge are known
pub chain-step : (program : Program) (n i e : ℕ) (thread : Thread) (edge : Edge) (moments : Moments) → IsEdgeOf program i e thread edge
    → chain_step program i e moments (inputs_of program n i e) ≡ named_over moments (inputs_at n edge) (moving_rows program thread edge)
chain-step program n i e thread edge moments at =
    let by = λ (t : Thread) (x : Edge). map (row_named (moments.before ++ (moments.after ++ inputs_at n x))) (without_kept program t x 0 (edge_rows (length program.columns) t.counter x)) in
    ap₂ by (thread-at program i thread at.thread_is) (edge-at program i e thread edge at)
    ∙ ap (λ rows. named_over moments (inputs_at n edge) rows) (without-kept_none program thread edge edge.inputs _ _ (map (test_row (length program.columns)) edge.tests ++ map (set_row (length program.columns)) edge.sets))

-- where the thread is that of a premise
pub step-of : (program : Program) (n : ℕ) (f : Tree) (i e : ℕ) (thread : Thread) (edge : Edge) (moments : Moments) → IsTreeOf program f (State i edge.from) → IsEdgeOf program i e thread edge
    → chain_step program (thread_of (root_home program f)) e moments (inputs_of program n (thread_of (root_home program f)) e) ≡ named_over moments (inputs_at n edge) (moving_rows program thread edge)
step-of program n f i e thread edge moments is at =
    ap (λ h. chain_step program (thread_of h) e moments (inputs_of program n (thread_of h) e)) (root-home program f (State i edge.from) is) ∙ chain-step program n i e thread edge moments at

pub told-of : (program : Program) (n : ℕ) (t : Tree) (i e : ℕ) (thread : Thread) (edge : Edge) (moments : Moments) → IsTreeOf program t (AtEdge i e) → IsEdgeOf program i e thread edge
    → chain_step program (thread_of (root_home program t)) (place_of (root_home program t)) moments (inputs_of program n (thread_of (root_home program t)) (place_of (root_home program t)))
    ≡ named_over moments (inputs_at n edge) (moving_rows program thread edge)
told-of program n t i e thread edge moments is at =
    ap (λ h. chain_step program (thread_of h) (place_of h) moments (inputs_of program n (thread_of h) (place_of h))) (root-home program t (AtEdge i e) is) ∙ chain-step program n i e thread edge moments at

-- ---- where all is shared

pub shared-all : (home : Home) (columns : List Column) (above fresh : List Variable) → length above ≡ length columns → length fresh ≡ length columns → shared share_all home columns above fresh ≡ above
shared-all home [] [] fresh e f = refl
shared-all home [] (a ∷ above) fresh e f = absurd (omega arith)
shared-all home (column ∷ columns) [] fresh e f = absurd (omega arith)
shared-all home (column ∷ columns) (a ∷ above) [] e f = absurd (omega arith)
shared-all home (column ∷ columns) (a ∷ above) (o ∷ fresh) e f = ap (λ l. a ∷ l) (shared-all home columns above fresh (omega arith) (omega arith))

-- a step that is told stands over the variables of the step above
pub told-moments : (program : Program) (n : ℕ) (f : Tree) (e : ℕ) (above : Moments) → HasEach program above → moments_of program share_all n (Guar f e) above ≡ above
told-moments program n f e above each =
    let home = root_home program (Guar f e) in
    let inner = moments-each program share_all n (Guar f e) above each in
    ap₂ (λ (b a : List Variable). record { before = b; after = a })
    (shared-all home program.columns above.before _ each.before (state-each program share_all n (Guar f e) above each).before)
    (shared-all home program.columns above.after (own_after program n) each.after (length-own_after program n))

-- ---- the rows

-- the step that a node tells
told-rows : (program : Program) (t : Tree) (home : Home) (i e : ℕ) (thread : Thread) (edge : Edge) (v : Variable → ℤ) (d : ℤ) (first : ℕ) (above : Moments) → Derives program t home → home ≡ AtEdge i e → IsEdgeOf program i e thread edge → HasEach program above
    → AllMeetAt v d (rows_of (nodes_of program share_all first t above)) → AllMeetAt v d (named_over above (inputs_at (first + size_of t) edge) (moving_rows program thread edge))
told-rows program t home i e thread edge v d first above (init j given there case same) is at each all =
    let wrong : State j 1 ≡ AtEdge i e = sym (ap (λ (c : Case). c.target) (shape program (instance.Init j) given case)) ∙ same ∙ is in cc
told-rows program t home i e thread edge v d first above (own f m from given there h case same) is at each all =
    let (step, shaped) = shape program (instance.Own (bare from) m) given case in
    let wrong : State step.i step.edge.to ≡ AtEdge i e = sym (ap (λ (c : Case). c.target) shaped) ∙ same ∙ is in cc
told-rows program t home i e thread edge v d first above (env f u from told given there h k case same) is at each all =
    let (stay, tells, shaped) = shape program (instance.Env (bare from) (bare told)) given case in
    let wrong : State stay.k stay.l ≡ AtEdge i e = sym (ap (λ (c : Case). c.target) shaped) ∙ same ∙ is in cc
told-rows program t home i e thread edge v d first above (inter f g m from other given there h k case same) is at each all =
    let (stay, step, shaped) = shape program (instance.Inter (bare from) (bare other) m) given case in
    let wrong : State stay.k stay.l ≡ AtEdge i e = sym (ap (λ (c : Case). c.target) shaped) ∙ same ∙ is in cc
told-rows program t home i e thread edge v d first above (guar f m from given there h case same) is at each all =
    let (step, shaped) = shape program (instance.Guar (bare from) m) given case in
    let ends : AtEdge step.i m ≡ AtEdge i e = sym (ap (λ (c : Case). c.target) shaped) ∙ same ∙ is in
    let number : step.i ≡ i = cc in
    let place : m ≡ e = cc in
    let known : IsEdgeOf program i e step.thread step.edge = subst (λ j. IsEdgeOf program j e step.thread step.edge) number (subst (λ k. IsEdgeOf program step.i k step.thread step.edge) place step.edge_is) in
    let n = first + size_of (Guar f m) in
    let moments = moments_of program share_all n (Guar f m) above in
    let (low, mine) = rows-last v d (nodes_of program share_all first f (at_before moments)) (node_at program n (Guar f m) moments) all in
    let below = derives-home program f from h ∙ ap Some step.home_is in
    let rows = subst (AllMeetAt v d) (guar-rows program n f m step.i step.thread step.edge moments below step.edge_is) mine in
    subst (λ x. AllMeetAt v d (named_over above (inputs_at n x) (moving_rows program thread x)))
    (sym (edge-at program i e step.thread step.edge known) ∙ edge-at program i e thread edge at)
    (subst (λ s. AllMeetAt v d (named_over above (inputs_at n step.edge) (moving_rows program s step.edge))) (sym (thread-at program i step.thread known.thread_is) ∙ thread-at program i thread at.thread_is)
    (subst (λ m. AllMeetAt v d (named_over m (inputs_at n step.edge) (moving_rows program step.thread step.edge))) (told-moments program n f m above each) rows.1))

pub chain-met : (program : Program) (v : Variable → ℤ) (d : ℤ) (tree : Tree) (home : Home) → Derives program tree home → (first : ℕ) (above : Moments) → HasEach program above
    → AllMeetAt v d (rows_of (nodes_of program share_all first tree above)) → AllMeetAt v d (chain_of program first tree above)
chain-met program v d tree home (init i given there case same) k above each all = AllByRecursion-front (MeetsAt v d) _ [] all
chain-met program v d tree home (own f e from given there h case same) k above each all =
    let n = k + size_of (Own f e) in
    let moments = moments_of program share_all n (Own f e) above in
    let (low, mine) = rows-last v d (nodes_of program share_all k f (at_before moments)) (node_at program n (Own f e) moments) all in
    let (step, shaped) = shape program (instance.Own (bare from) e) given case in
    let below = derives-home program f from h ∙ ap Some step.home_is in
    let rows = subst (AllMeetAt v d) (own-rows program n f e step.i step.thread step.edge moments below step.edge_is) mine in
    AllByRecursion-append (MeetsAt v d) (chain_of program k f (at_before moments)) _
    (chain-met program v d f from h k (at_before moments) (before-each program moments (moments-each program share_all n (Own f e) above each)) low)
    (subst (AllMeetAt v d) (sym (step-of program n f step.i e step.thread step.edge moments below step.edge_is)) rows.1)
chain-met program v d tree home (guar f e from given there h case same) k above each all = tt
chain-met program v d tree home (env f t from told given there h j case same) k above each all =
    let n = k + size_of (Env f t) in
    let moments = moments_of program share_all n (Env f t) above in
    let lengths = moments-each program share_all n (Env f t) above each in
    let (low, side, mine) = rows-two v d (nodes_of program share_all k f (at_before moments)) (nodes_of program share_all (k + size_of f) t moments) (node_at program n (Env f t) moments) all in
    let (stay, tells, shaped) = shape program (instance.Env (bare from) (bare told)) given case in
    let beside = derives-home program t told j ∙ ap Some tells.home_is in
    AllByRecursion-append (MeetsAt v d) (chain_of program k f (at_before moments)) _
    (chain-met program v d f from h k (at_before moments) (before-each program moments lengths) low)
    (subst (AllMeetAt v d) (sym (told-of program (k + size_of f + size_of t) t tells.i tells.e tells.thread tells.edge moments beside tells.edge_is))
    (told-rows program t told tells.i tells.e tells.thread tells.edge v d (k + size_of f) moments j tells.home_is tells.edge_is lengths side))
chain-met program v d tree home (inter f g e from other given there h j case same) k above each all =
    let n = k + size_of (Inter f g e) in
    let moments = moments_of program share_all n (Inter f g e) above in
    let lengths = before-each program moments (moments-each program share_all n (Inter f g e) above each) in
    let (low, side, mine) = rows-two v d (nodes_of program share_all k f (at_before moments)) (nodes_of program share_all (k + size_of f) g (at_before moments)) (node_at program n (Inter f g e) moments) all in
    let (stay, step, shaped) = shape program (instance.Inter (bare from) (bare other) e) given case in
    let below = derives-home program f from h ∙ ap Some stay.home_is in
    let beside = derives-home program g other j ∙ ap Some step.home_is in
    let rows = subst (AllMeetAt v d) (inter-rows program n f g stay.k stay.l step.i e stay.thread step.thread step.edge moments below beside stay.thread_is step.edge_is) mine in
    AllByRecursion-append (MeetsAt v d) (chain_of program k f (at_before moments)) _
    (chain-met program v d f from h k (at_before moments) lengths low)
    (subst (AllMeetAt v d) (sym (step-of program n g step.i e step.thread step.edge moments beside step.edge_is)) rows.1.1)

pub full-points : FullPointsGiveChainPoints
full-points program tree home is at (x, d, point) =
    let rows = rows_of (tree_nodes program share_all tree) in
    let v = coefficient_at (variables_of rows) x in
    let met = chain-met program v d tree home (tree-derives program tree home is at).derives 0 (root_moments program tree) (root-each program tree) (point-values rows x d point) in
    (map v (variables_of (chain_rows program tree)), d, values-point v d (chain_rows program tree) point.positive met)
