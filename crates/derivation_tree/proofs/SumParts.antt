-- Where the parts of a certificate's sum hold, at the premises and at the node, the node's own row is met.
use Rattle.std.proofs.Common.{◌≡◌, ℕ, suc, ◌+◌, ◌≤◌, List, [], ◌∷◌, ◌++◌, map, length, false, ℤ, ◌*ℤ◌, ◌≤ℤ◌, MatchBool, sym, ◌∙◌, ap, ap₂, subst, arith, length-append, append_assoc}
use Rattle.std.specs.List.{AllByRecursion}
use Rattle.std.proofs.lemmas.List.{append-nil}
use Rattle.std.proofs.lemmas.Grind.{flat_map-append}
use Rattle.lin_rows.specs.Row.{Row, product_of, MeetsOver}
use Rattle.farkas_cert.specs.Cert.{Pairs}
use Rattle.transition_formula.specs.Program.{Program}
use Rattle.transition_formula.specs.Rows.{zeros}
use Rattle.horn_rules.specs.Home.{Home, State, Env as AtEdge, home_width, by_number}
use Rattle.horn_rules.specs.Case.{wider_row, moved_row}
use Rattle.derivation_tree.specs.Tree.{Tree, size_of, IsTreeOf, root_home}
use Rattle.derivation_tree.specs.Variable.{Variable, NamedRow}
use Rattle.derivation_tree.specs.Nodes.{Sharing, Moments, Node, moments_of, at_before, node_at, nodes_of, rows_of}
use Rattle.derivation_tree.specs.Solution.{NodeRow, Solves}
use Rattle.derivation_tree.specs.Sums.{pairs_within, sum_at}
use Rattle.derivation_tree.proofs.Values.{AllMeetAt}
use Rattle.derivation_tree.proofs.Below.{root-home}
use Rattle.derivation_tree.proofs.Shared.{HasEach}
use Rattle.derivation_tree.proofs.CaseRows.{values}
use Rattle.derivation_tree.proofs.CasePoints.{product-after, product-both}
use Rattle.derivation_tree.proofs.Solved.{seen, IsHere}
use Rattle.derivation_tree.proofs.Weights.{row_bound, total, SignsFit}
use Rattle.derivation_tree.proofs.NodeSums.{from_of, to_of, part_sum}
use Rattle.derivation_tree.proofs.NodeRows.{Gives, part-holds, parts-hold}

-- ---- what holds of a part

abbrev pub Holds : List NamedRow → Pairs → (Variable → ℤ) → ℤ → ℕ → ℕ → Type 0
Holds rows pairs v d a b = part_sum rows pairs a b v ≤ℤ (total row_bound rows (pairs_within a b pairs) *ℤ d)

meets-at-most : (row : Row) (y : List ℤ) (d : ℤ) → row.equal ≡ false → MeetsOver row y d → product_of row.coefficients y ≤ℤ (row.bound *ℤ d)
meets-at-most row y d none h = subst (λ b. MatchBool b (product_of row.coefficients y ≡ row.bound *ℤ d) (product_of row.coefficients y ≤ℤ (row.bound *ℤ d))) none h

at-most-meets : (row : Row) (p : ℤ) (d : ℤ) → row.equal ≡ false → p ≤ℤ (row.bound *ℤ d) → MatchBool row.equal (p ≡ row.bound *ℤ d) (p ≤ℤ (row.bound *ℤ d))
at-most-meets row p d none h = subst (λ b. MatchBool b (p ≡ row.bound *ℤ d) (p ≤ℤ (row.bound *ℤ d))) (sym none) h

-- a premise's row, met where it stands, gives that its part holds
pub premise-holds : (program : Program) (share : Sharing) (tree : Tree) (home : Home) (first : ℕ) (above : Moments) (all front : List Node) (pairs : Pairs) (v : Variable → ℤ) (d : ℤ)
    → (given : Gives program share tree home first above all front pairs) → MeetsOver given.row (map v (seen home above)) d → Holds (rows_of all) pairs v d (from_of front) (to_of program share tree first above front)
premise-holds program share tree home first above all front pairs v d given met =
    let low = meets-at-most given.row (map v (seen home above)) d given.no_equality met in
    subst (λ p. p ≤ℤ (total row_bound (rows_of all) (pairs_within (from_of front) (to_of program share tree first above front) pairs) *ℤ d)) (given.higher v)
    (subst (λ b. product_of given.row.coefficients (map v (seen home above)) ≤ℤ (b *ℤ d)) given.bound low)

-- and where a node's part holds, its row, as it is placed, is met
pub placed-meets : (program : Program) (share : Sharing) (tree : Tree) (home : Home) (first : ℕ) (above : Moments) (all front : List Node) (pairs : Pairs) (v : Variable → ℤ) (d p : ℤ)
    → (given : Gives program share tree home first above all front pairs) → Holds (rows_of all) pairs v d (from_of front) (to_of program share tree first above front)
    → p ≡ product_of given.row.coefficients (map v (seen home (moments_of program share (first + size_of tree) tree above)))
    → MatchBool given.row.equal (p ≡ given.row.bound *ℤ d) (p ≤ℤ (given.row.bound *ℤ d))
placed-meets program share tree home first above all front pairs v d p given holds is =
    at-most-meets given.row p d given.no_equality
    (subst (λ q. q ≤ℤ (given.row.bound *ℤ d)) (sym (is ∙ given.here v)) (subst (λ b. part_sum (rows_of all) pairs (from_of front) (to_of program share tree first above front) v ≤ℤ (b *ℤ d)) (sym given.bound) holds))

-- the rows of the node itself
pub node-holds : (all front below : List Node) (node : Node) (back : List Node) (pairs : Pairs) (v : Variable → ℤ) (d : ℤ) → all ≡ front ++ ((below ++ node ∷ []) ++ back) → SignsFit (rows_of all) pairs → AllMeetAt v d node.rows
    → Holds (rows_of all) pairs v d (from_of front + length (rows_of below)) (from_of front + length (rows_of (below ++ node ∷ [])))
node-holds all front below node back pairs v d split signs met =
    let rows = λ (n : Node). n.rows in
    let before = rows_of front ++ rows_of below in
    let whole : rows_of all ≡ before ++ (node.rows ++ rows_of back) =
    ap rows_of (split ∙ ap (λ l. front ++ l) (append_assoc below (node ∷ []) back))
    ∙ flat_map-append rows front (below ++ node ∷ back) ∙ ap (λ l. rows_of front ++ l) (flat_map-append rows below (node ∷ back)) ∙ sym (append_assoc (rows_of front) (rows_of below) (node.rows ++ rows_of back)) in
    let low : length before ≡ from_of front + length (rows_of below) = length-append (rows_of front) (rows_of below) in
    let size : length (rows_of (below ++ node ∷ [])) ≡ length (rows_of below) + length node.rows =
    ap length (flat_map-append rows below (node ∷ [])) ∙ length-append (rows_of below) (rows_of (node ∷ [])) ∙ ap (λ l. length (rows_of below) + length l) (append-nil node.rows) in
    let high : length before + length node.rows ≡ from_of front + length (rows_of (below ++ node ∷ [])) = omega (arith, low, size) in
    let here = part-holds (rows_of all) before node.rows (rows_of back) pairs v d whole signs met in
    subst (λ a. Holds (rows_of all) pairs v d a (from_of front + length (rows_of (below ++ node ∷ [])))) low (subst (λ b. Holds (rows_of all) pairs v d (length before) b) high here)

length-below : (below : List Node) (node : Node) → length (rows_of below) ≤ length (rows_of (below ++ node ∷ []))
length-below below node = omega (arith, ap length (flat_map-append (λ (n : Node). n.rows) below (node ∷ [])), length-append (rows_of below) (rows_of (node ∷ [])))

-- one premise, and the node
pub one-holds : (all front below : List Node) (node : Node) (back : List Node) (pairs : Pairs) (v : Variable → ℤ) (d : ℤ) → all ≡ front ++ ((below ++ node ∷ []) ++ back) → SignsFit (rows_of all) pairs → AllMeetAt v d node.rows
    → Holds (rows_of all) pairs v d (from_of front) (from_of front + length (rows_of below)) → Holds (rows_of all) pairs v d (from_of front) (from_of front + length (rows_of (below ++ node ∷ [])))
one-holds all front below node back pairs v d split signs met premise =
    parts-hold (rows_of all) pairs v d (from_of front) (from_of front + length (rows_of below)) (from_of front + length (rows_of (below ++ node ∷ []))) (omega arith) (omega (arith, length-below below node)) premise
    (node-holds all front below node back pairs v d split signs met)

-- two premises, and the node
pub two-hold : (all front below others : List Node) (node : Node) (back : List Node) (pairs : Pairs) (v : Variable → ℤ) (d : ℤ) → all ≡ front ++ ((below ++ (others ++ node ∷ [])) ++ back) → SignsFit (rows_of all) pairs → AllMeetAt v d node.rows
    → Holds (rows_of all) pairs v d (from_of front) (from_of front + length (rows_of below))
    → Holds (rows_of all) pairs v d (from_of (front ++ below)) (from_of (front ++ below) + length (rows_of others))
    → Holds (rows_of all) pairs v d (from_of front) (from_of front + length (rows_of (below ++ (others ++ node ∷ []))))
two-hold all front below others node back pairs v d split signs met one two =
    let rows = λ (n : Node). n.rows in
    let joined : below ++ (others ++ node ∷ []) ≡ (below ++ others) ++ node ∷ [] = sym (append_assoc below others (node ∷ [])) in
    let middle : from_of (front ++ below) ≡ from_of front + length (rows_of below) = ap length (flat_map-append rows front below) ∙ length-append (rows_of front) (rows_of below) in
    let both : length (rows_of (below ++ others)) ≡ length (rows_of below) + length (rows_of others) = ap length (flat_map-append rows below others) ∙ length-append (rows_of below) (rows_of others) in
    let high : from_of (front ++ below) + length (rows_of others) ≡ from_of front + length (rows_of (below ++ others)) = omega (arith, middle, both) in
    let second = subst (λ a. Holds (rows_of all) pairs v d a (from_of front + length (rows_of (below ++ others)))) middle (subst (λ b. Holds (rows_of all) pairs v d (from_of (front ++ below)) b) high two) in
    let premises = parts-hold (rows_of all) pairs v d (from_of front) (from_of front + length (rows_of below)) (from_of front + length (rows_of (below ++ others))) (omega arith) (omega (arith, both)) one second in
    subst (λ l. Holds (rows_of all) pairs v d (from_of front) (from_of front + length (rows_of l))) (sym joined)
    (one-holds all front (below ++ others) node back pairs v d (split ∙ ap (λ l. front ++ (l ++ back)) joined) signs met premises)

-- ---- the rows, as the list of all sums

abbrev pub row_at : Home → Row → NodeRow
row_at home row = record { home = home; row = row }

by_number-append : (give : ℕ → Node → List NodeRow) (k j : ℕ) (xs ys : List Node) → j ≡ k + length xs → by_number give k (xs ++ ys) ≡ by_number give k xs ++ by_number give j ys
by_number-append give k j [] ys e = let same : k ≡ j = omega arith in ap (λ i. by_number give i ys) same
by_number-append give k j (x ∷ xs) ys e =
    ap (λ l. give k x ++ l) (by_number-append give (suc k) j xs ys (omega arith)) ∙ sym (append_assoc (give k x) (by_number give (suc k) xs) (by_number give j ys))

abbrev pub sums_from : List Node → Pairs → ℕ → List Node → List NodeRow
sums_from all pairs k nodes = by_number (λ n (node : Node). record { home = node.home; row = sum_at all pairs n node } ∷ []) k nodes

pub last-sum : (all : List Node) (pairs : Pairs) (k n : ℕ) (below : List Node) (node : Node) (at : NodeRow) → n ≡ k + length below → row_at node.home (sum_at all pairs n node) ≡ at
    → sums_from all pairs k (below ++ node ∷ []) ≡ sums_from all pairs k below ++ at ∷ []
last-sum all pairs k n below node at e is =
    by_number-append (λ n (node : Node). record { home = node.home; row = sum_at all pairs n node } ∷ []) k n below (node ∷ []) e ∙ ap (λ x. sums_from all pairs k below ++ x ∷ []) is

pub two-sums : (all : List Node) (pairs : Pairs) (k j n : ℕ) (below others : List Node) (node : Node) (at : NodeRow) → j ≡ k + length below → n ≡ j + length others → row_at node.home (sum_at all pairs n node) ≡ at
    → sums_from all pairs k (below ++ (others ++ node ∷ [])) ≡ sums_from all pairs k below ++ (sums_from all pairs j others ++ at ∷ [])
two-sums all pairs k j n below others node at e f is =
    by_number-append (λ n (node : Node). record { home = node.home; row = sum_at all pairs n node } ∷ []) k j below (others ++ node ∷ []) e
    ∙ ap (λ l. sums_from all pairs k below ++ l) (last-sum all pairs j n others node at f is)

-- what a subtree comes to
pub record SumsAt (program : Program) (share : Sharing) (tree : Tree) (home : Home) (first : ℕ) (above : Moments) (all front : List Node) (pairs : Pairs) : Type 0 where
  pub given : Gives program share tree home first above all front pairs
  pub solves : Solves program tree (sums_from all pairs (first + 1) (nodes_of program share first tree above)) (record { home = home; row = given.row })
  pub shared : AllByRecursion (IsHere program share) (sums_from all pairs (first + 1) (nodes_of program share first tree above))

pub node-is : (program : Program) (share : Sharing) (tree : Tree) (home : Home) (first : ℕ) (above : Moments) (all front : List Node) (pairs : Pairs) (given : Gives program share tree home first above all front pairs) → IsTreeOf program tree home
    → row_at (root_home program tree) (sum_at all pairs (first + size_of tree) (node_at program (first + size_of tree) tree (moments_of program share (first + size_of tree) tree above)))
    ≡ row_at home given.row
node-is program share tree home first above all front pairs given is = ap₂ row_at (root-home program tree home is) given.is

-- ---- a node, where its parts hold

-- the row of a node at a location, placed behind the state before
pub state-placed : (program : Program) (share : Sharing) (tree : Tree) (i l : ℕ) (first : ℕ) (above : Moments) (all front : List Node) (pairs : Pairs) (v : Variable → ℤ) (d : ℤ) (inputs : List Variable) (m : ℕ)
    → (given : Gives program share tree (State i l) first above all front pairs) → HasEach program (moments_of program share (first + size_of tree) tree above)
    → Holds (rows_of all) pairs v d (from_of front) (to_of program share tree first above front)
    → MeetsOver (moved_row (length program.columns) m given.row) (values v (moments_of program share (first + size_of tree) tree above) inputs) d
state-placed program share tree i l first above all front pairs v d inputs m given each holds =
    let moments = moments_of program share (first + size_of tree) tree above in
    placed-meets program share tree (State i l) first above all front pairs v d
    (product_of (zeros (length program.columns) ++ (given.row.coefficients ++ zeros m)) (values v moments inputs)) given holds
    (product-after program moments inputs m v given.row.coefficients each given.width)

pub told-placed : (program : Program) (share : Sharing) (tree : Tree) (i k : ℕ) (first : ℕ) (above : Moments) (all front : List Node) (pairs : Pairs) (v : Variable → ℤ) (d : ℤ) (inputs : List Variable) (m : ℕ)
    → (given : Gives program share tree (AtEdge i k) first above all front pairs) → HasEach program (moments_of program share (first + size_of tree) tree above)
    → Holds (rows_of all) pairs v d (from_of front) (to_of program share tree first above front)
    → MeetsOver (wider_row m given.row) (values v (moments_of program share (first + size_of tree) tree above) inputs) d
told-placed program share tree i k first above all front pairs v d inputs m given each holds =
    let moments = moments_of program share (first + size_of tree) tree above in
    placed-meets program share tree (AtEdge i k) first above all front pairs v d
    (product_of (given.row.coefficients ++ zeros m) (values v moments inputs)) given holds
    (product-both program moments inputs m v given.row.coefficients each given.width)

-- a premise at a location stands over the state before
pub state-premise : (program : Program) (share : Sharing) (f : Tree) (home : Home) (i l : ℕ) (first : ℕ) (moments : Moments) (all front : List Node) (pairs : Pairs) (v : Variable → ℤ) (d : ℤ) → home ≡ State i l
    → (given : Gives program share f home first (at_before moments) all front pairs) → MeetsOver given.row (map v moments.before) d
    → Holds (rows_of all) pairs v d (from_of front) (to_of program share f first (at_before moments) front)
state-premise program share f home i l first moments all front pairs v d is given met =
    premise-holds program share f home first (at_before moments) all front pairs v d given (subst (λ h. MeetsOver given.row (map v (seen h (at_before moments))) d) (sym is) met)

pub state-wide : (program : Program) (share : Sharing) (f : Tree) (home : Home) (i l : ℕ) (first : ℕ) (above : Moments) (all front : List Node) (pairs : Pairs) → home ≡ State i l
    → (given : Gives program share f home first above all front pairs) → length given.row.coefficients ≡ length program.columns
state-wide program share f home i l first above all front pairs is given = given.width ∙ ap (home_width (length program.columns)) is
