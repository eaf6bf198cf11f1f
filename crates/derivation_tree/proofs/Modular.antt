-- A tree whose cut system has a point has no modular solution.
use Rattle.std.proofs.Common.{◌≡◌, ℕ, ◌+◌, List, [], ◌∷◌, ◌++◌, map, length, false, ℤ, pos, ◌*ℤ◌, ◌≤ℤ◌, ◌<ℤ◌, MatchBool, refl, sym, subst, arith}
use Rattle.std.specs.List.{AllByRecursion}
use Rattle.std.proofs.lemmas.Int.{ints}
use Rattle.std.proofs.lemmas.Grind.{flat_map-append}
use Rattle.lin_rows.specs.Row.{Row, product_of, MeetsOver}
use Rattle.lin_rows.specs.System.{IsRationalPoint}
use Rattle.lin_rows.proofs.Integers.{mul-lt-mul_ℤ, mul_comm_ℤ, mul-zero_ℤ}
use Rattle.lin_rows.proofs.Points.{product_of-AllZero}
use Rattle.lin_rows.proofs.Lists.{AllByRecursion-front, AllByRecursion-rest, AllByRecursion-weaken}
use Rattle.farkas_cert.specs.Cert.{IsContradiction}
use Rattle.transition_formula.specs.Program.{Program, Column}
use Rattle.horn_rules.specs.Home.{Home, State, Env as AtEdge, home_width}
use Rattle.horn_rules.specs.Instance as instance
use Rattle.horn_rules.proofs.Cases.{shape}
use Rattle.horn_rules.specs.Scope.{in_scope, columns_of, IsModular}
use Rattle.derivation_tree.specs.Tree.{Tree, Own, Guar, Env, Inter, size_of}
use Rattle.derivation_tree.specs.Variable.{Variable, variables_of, system_over}
use Rattle.derivation_tree.specs.Nodes.{Sharing, Moments, Node, moments_of, at_before, node_at, nodes_of, root_moments, tree_nodes, rows_of}
use Rattle.derivation_tree.specs.System.{share_scope, share_all}
use Rattle.derivation_tree.specs.Solution.{NodeRow, says, Solves, IsSolution, init, own, guar, env, inter}
use Rattle.derivation_tree.specs.Sums.{coefficient_at}
use Rattle.derivation_tree.specs.Laws.{CutPointsHaveNoModularSolution, FullPointsHaveNoSolution}
use Rattle.derivation_tree.proofs.Values.{MeetsAt, AllMeetAt}
use Rattle.derivation_tree.proofs.Numbering.{point-values}
use Rattle.derivation_tree.proofs.Below.{solved-home}
use Rattle.derivation_tree.proofs.Shared.{HasEach, moments-each, before-each, length-own_after, Vanishes, modular-vanishes}
use Rattle.derivation_tree.proofs.Solved.{seen, Tells, init-here, own-here, guar-here, env-here, inter-here}

-- ---- the rows of a node and of those below it

pub rows-last : (v : Variable → ℤ) (d : ℤ) (below : List Node) (node : Node) → AllMeetAt v d (rows_of (below ++ node ∷ [])) → AllMeetAt v d (rows_of below) × AllMeetAt v d node.rows
rows-last v d below node all =
    let split = subst (AllMeetAt v d) (flat_map-append (λ (n : Node). n.rows) below (node ∷ [])) all in (
      AllByRecursion-front (MeetsAt v d) (rows_of below) (rows_of (node ∷ [])) split,
      AllByRecursion-front (MeetsAt v d) node.rows [] (AllByRecursion-rest (MeetsAt v d) (rows_of below) (rows_of (node ∷ [])) split),
    )

pub rows-two : (v : Variable → ℤ) (d : ℤ) (below others : List Node) (node : Node) → AllMeetAt v d (rows_of (below ++ (others ++ node ∷ [])))
    → AllMeetAt v d (rows_of below) × AllMeetAt v d (rows_of others) × AllMeetAt v d node.rows
rows-two v d below others node all =
    let split = subst (AllMeetAt v d) (flat_map-append (λ (n : Node). n.rows) below (others ++ node ∷ [])) all in (
      AllByRecursion-front (MeetsAt v d) (rows_of below) (rows_of (others ++ node ∷ [])) split,
      (rows-last v d others node (AllByRecursion-rest (MeetsAt v d) (rows_of below) (rows_of (others ++ node ∷ [])) split)).0,
      (rows-last v d others node (AllByRecursion-rest (MeetsAt v d) (rows_of below) (rows_of (others ++ node ∷ [])) split)).1,
    )

-- ---- what a solution keeps

pub solved-row : (program : Program) (tree : Tree) (rows : List NodeRow) (here : NodeRow) → Solves program tree rows here → (here.row.equal ≡ false) × (length here.row.coefficients ≡ home_width (length program.columns) here.home)
solved-row program tree rows here (init i given last case follows) = (follows.no_equality, follows.one_each)
solved-row program tree rows here (own f e below first given last h case follows) = (follows.no_equality, follows.one_each)
solved-row program tree rows here (guar f e below first given last h case follows) = (follows.no_equality, follows.one_each)
solved-row program tree rows here (env f t below told first second given last h k case follows) = (follows.no_equality, follows.one_each)
solved-row program tree rows here (inter f g e below others first second given last h k case follows) = (follows.no_equality, follows.one_each)

-- each row speaks of what is shared alone
abbrev pub IsShared : Program → Sharing → NodeRow → Type 0
IsShared program share at = Vanishes (share at.home) (columns_of program at.home) at.row.coefficients

abbrev pub AreShared : Program → Sharing → List NodeRow → Type 0
AreShared program share rows = AllByRecursion (IsShared program share) rows

-- a premise at a location is told nothing
state-tells : (program : Program) (home : Home) (i l : ℕ) (moments : Moments) → home ≡ State i l → Tells program home moments
state-tells program home i l moments is = subst (λ h. Tells program h moments) (sym is) tt

pub solved-seen : (program : Program) (share : Sharing) (v : Variable → ℤ) (d : ℤ) → pos 0 <ℤ d → (tree : Tree) (rows : List NodeRow) (here : NodeRow) → Solves program tree rows here → AreShared program share rows
    → (first : ℕ) (above : Moments) → HasEach program above → Tells program here.home above → AllMeetAt v d (rows_of (nodes_of program share first tree above)) → MeetsOver here.row (map v (seen here.home above)) d
solved-seen program share v d positive tree rows here (init i given last case follows) vanish k above each tells all =
    init-here program share (k + 1) i above v d here given positive (solved-home program tree rows here (init i given last case follows)) case follows
    (record { width = follows.one_each; zeros = vanish.0 }) each (AllByRecursion-front (MeetsAt v d) _ [] all)
solved-seen program share v d positive tree rows here (own f e below first given last h case follows) vanish k above each tells all =
    let n = k + size_of (Own f e) in
    let moments = moments_of program share n (Own f e) above in
    let (low, mine) = rows-last v d (nodes_of program share k f (at_before moments)) (node_at program n (Own f e) moments) all in
    let (step, same) = shape program (instance.Own (says first) e) given case in
    let premise = solved-seen program share v d positive f below first h (AllByRecursion-front (IsShared program share) below (here ∷ []) vanish) k (at_before moments)
    (before-each program moments (moments-each program share n (Own f e) above each)) (state-tells program first.home step.i step.edge.from (at_before moments) step.home_is) low in
    own-here program share n f e above v d first here given positive (solved-home program f below first h) (solved-home program tree rows here (own f e below first given last h case follows)) (solved-row program f below first h).1
    case follows (record { width = follows.one_each; zeros = (AllByRecursion-rest (IsShared program share) below (here ∷ []) vanish).0 }) each mine premise
solved-seen program share v d positive tree rows here (guar f e below first given last h case follows) vanish k above each tells all =
    let n = k + size_of (Guar f e) in
    let moments = moments_of program share n (Guar f e) above in
    let (low, mine) = rows-last v d (nodes_of program share k f (at_before moments)) (node_at program n (Guar f e) moments) all in
    let (step, same) = shape program (instance.Guar (says first) e) given case in
    let premise = solved-seen program share v d positive f below first h (AllByRecursion-front (IsShared program share) below (here ∷ []) vanish) k (at_before moments)
    (before-each program moments (moments-each program share n (Guar f e) above each)) (state-tells program first.home step.i step.edge.from (at_before moments) step.home_is) low in
    guar-here program share n f e above v d first here given positive (solved-home program f below first h) (solved-home program tree rows here (guar f e below first given last h case follows)) (solved-row program f below first h).1
    case follows (record { width = follows.one_each; zeros = (AllByRecursion-rest (IsShared program share) below (here ∷ []) vanish).0 }) each tells mine premise
solved-seen program share v d positive tree rows here (env f t below told first second given last h k case follows) vanish from above each tells all =
    let n = from + size_of (Env f t) in
    let moments = moments_of program share n (Env f t) above in
    let (low, side, mine) = rows-two v d (nodes_of program share from f (at_before moments)) (nodes_of program share (from + size_of f) t moments) (node_at program n (Env f t) moments) all in
    let (stay, telling, same) = shape program (instance.Env (says first) (says second)) given case in
    let lengths = moments-each program share n (Env f t) above each in
    let later = AllByRecursion-rest (IsShared program share) below (told ++ here ∷ []) vanish in
    let premise = solved-seen program share v d positive f below first h (AllByRecursion-front (IsShared program share) below (told ++ here ∷ []) vanish) from (at_before moments)
    (before-each program moments lengths) (state-tells program first.home stay.k stay.l (at_before moments) stay.home_is) low in
    env-here program share n f t above v d first second here given positive (solved-home program f below first h) (solved-home program t told second k)
    (solved-home program tree rows here (env f t below told first second given last h k case follows)) (solved-row program f below first h).1
    case follows (record { width = follows.one_each; zeros = (AllByRecursion-rest (IsShared program share) told (here ∷ []) later).0 }) each mine premise
    (λ known. solved-seen program share v d positive t told second k (AllByRecursion-front (IsShared program share) told (here ∷ []) later) (from + size_of f) moments lengths (known telling.i telling.e telling.home_is) side)
solved-seen program share v d positive tree rows here (inter f g e below others first second given last h k case follows) vanish from above each tells all =
    let n = from + size_of (Inter f g e) in
    let moments = moments_of program share n (Inter f g e) above in
    let (low, side, mine) = rows-two v d (nodes_of program share from f (at_before moments)) (nodes_of program share (from + size_of f) g (at_before moments)) (node_at program n (Inter f g e) moments) all in
    let (stay, step, same) = shape program (instance.Inter (says first) (says second) e) given case in
    let lengths = before-each program moments (moments-each program share n (Inter f g e) above each) in
    let later = AllByRecursion-rest (IsShared program share) below (others ++ here ∷ []) vanish in
    let premise = solved-seen program share v d positive f below first h (AllByRecursion-front (IsShared program share) below (others ++ here ∷ []) vanish) from (at_before moments)
    lengths (state-tells program first.home stay.k stay.l (at_before moments) stay.home_is) low in
    let beside = solved-seen program share v d positive g others second k (AllByRecursion-front (IsShared program share) others (here ∷ []) later) (from + size_of f) (at_before moments)
    lengths (state-tells program second.home step.i step.edge.from (at_before moments) step.home_is) side in
    inter-here program share n f g e above v d first second here given positive (solved-home program f below first h) (solved-home program g others second k)
    (solved-home program tree rows here (inter f g e below others first second given last h k case follows)) (solved-row program f below first h).1 (solved-row program g others second k).1
    case follows (record { width = follows.one_each; zeros = (AllByRecursion-rest (IsShared program share) others (here ∷ []) later).0 }) each mine premise beside

-- ---- the law

-- the root's node above is itself
pub root-each : (program : Program) (tree : Tree) → HasEach program (root_moments program tree)
root-each program tree = record { before = length-own_after program (size_of tree); after = length-own_after program (size_of tree) }

root-tells : (program : Program) (tree : Tree) (home : Home) → Tells program home (root_moments program tree)
root-tells program tree (State i l) = tt
root-tells program tree (AtEdge i e) = λ c kept. refl

-- a contradiction has no point
no-point : (row : Row) (y : List ℤ) (d : ℤ) → pos 0 <ℤ d → row.equal ≡ false → IsContradiction row → ¬ MeetsOver row y d
no-point row y d positive none wrong h =
    let low : product_of row.coefficients y ≤ℤ (row.bound *ℤ d) = subst (λ b. MatchBool b (product_of row.coefficients y ≡ row.bound *ℤ d) (product_of row.coefficients y ≤ℤ (row.bound *ℤ d))) none h in
    let zero_there = product_of-AllZero row.coefficients y wrong.cancels in
    let below = mul-lt-mul_ℤ d row.bound (pos 0) positive wrong.negative in
    omega (arith, ints, low, zero_there, below, mul_comm_ℤ d row.bound, mul-zero_ℤ d)

-- a row of a modular scope speaks of what a premise of the cut system shares
modular-shared : (program : Program) (at : NodeRow) → IsModular program at.home at.row → IsShared program share_scope at
modular-shared program at is = modular-vanishes (in_scope at.home) (columns_of program at.home) at.row.coefficients is

-- where all is shared, any row does
all-shared : (home : Home) (columns : List Column) (xs : List ℤ) → Vanishes (share_all home) columns xs
all-shared home [] xs = tt
all-shared home (column ∷ columns) [] = tt
all-shared home (column ∷ columns) (x ∷ xs) = (λ none. cc, all-shared home columns xs)

any-shared : (program : Program) (rows : List NodeRow) → AreShared program share_all rows
any-shared program [] = tt
any-shared program (at ∷ rows) = (all-shared at.home (columns_of program at.home) at.row.coefficients, any-shared program rows)

-- a solution with rows over what is shared has no point of the system
no-solution : (program : Program) (share : Sharing) (tree : Tree) (rows : List NodeRow) (x : List ℤ) (d : ℤ) → IsSolution program tree rows → AreShared program share rows → ¬ IsRationalPoint (system_over (rows_of (tree_nodes program share tree))) x d
no-solution program share tree rows x d solution among point =
    let nodes = tree_nodes program share tree in
    let root = solution.root in
    let v = coefficient_at (variables_of (rows_of nodes)) x in
    let met = solved-seen program share v d point.positive tree rows root solution.solves among 0 (root_moments program tree) (root-each program tree) (root-tells program tree root.home) (point-values (rows_of nodes) x d point) in
    no-point root.row (map v (seen root.home (root_moments program tree))) d point.positive (solved-row program tree rows root solution.solves).0 solution.contradicts met

pub cut-points : CutPointsHaveNoModularSolution
cut-points program tree (x, d, point) (rows, solution, modular) =
    no-solution program share_scope tree rows x d solution (AllByRecursion-weaken (λ (at : NodeRow). IsModular program at.home at.row) (IsShared program share_scope) (modular-shared program) rows modular) point

pub full-points-none : FullPointsHaveNoSolution
full-points-none program tree (x, d, point) (rows, solution) = no-solution program share_all tree rows x d solution (any-shared program rows) point
