-- The solution of a certificate: at each node the weighted sum of its subtree's rows, and the predicates that these sums teach.
use Rattle.std.specs.Prelude.{◌≡◌, nat_lt, nat_le, ℕ, ◌-◌, ℤ, pos, not, ◌&&◌, Bool, if◌then◌else◌, List, [], ◌∷◌, ◌++◌, length, map, filter, flat_map, take}
use Rattle.std.specs.List.{AllByRecursion, list_any}
use Rattle.std.specs.Ordering.{int_eq}
use Rattle.lin_rows.specs.Row.{Row}
use Rattle.lin_rows.specs.System.{System, IsRationalPoint}
use Rattle.lin_rows.specs.Normal.{reduced_row}
use Rattle.lin_rows.specs.Atom.{inequality}
use Rattle.farkas_cert.specs.Cert.{Pairs, Refutes, weighted_sum}
use Rattle.farkas_cert.specs.Reduced.{IsReduced}
use Rattle.transition_formula.specs.Program.{Program}
use Rattle.horn_rules.specs.Home.{Home, State, Env, by_number}
use Rattle.horn_rules.specs.Predicate.{Predicate, IsPredicateOf}
use Rattle.derivation_tree.specs.declared.scope.Scope.{Scope}
use Rattle.derivation_tree.specs.declared.scope.Scope.TheVariants.{Modular, Full}
use Rattle.derivation_tree.specs.Tree.{Tree}
use Rattle.derivation_tree.specs.Variable.{Variable, same_variable, variables_of, system_over}
use Rattle.derivation_tree.specs.Nodes.{Moments, Node, tree_nodes, rows_of}
use Rattle.derivation_tree.specs.Solution.{NodeRow}
use Rattle.derivation_tree.specs.System.{cut_system, full_system, share_scope, share_all, IsWithin}

-- ---- sums

-- the pairs of the rows from one number up to another, the first of which does not count
abbrev pub pairs_within : ℕ → ℕ → Pairs → Pairs
pairs_within from to pairs = filter (λ pair. nat_lt from pair.0 && nat_le pair.0 to) pairs

-- what a variable has in coefficients over these variables
abbrev pub coefficient_at : List Variable → List ℤ → Variable → ℤ
coefficient_at (other ∷ variables) (a ∷ coefficients) v = if same_variable other v then a else coefficient_at variables coefficients v
coefficient_at variables coefficients v = pos 0

-- what stands for a column before and after counts before
abbrev pub if_changed : ℤ → Variable → Variable → ℤ
if_changed a before after = if same_variable before after then pos 0 else a

abbrev pub changed_coefficients : (Variable → ℤ) → List Variable → List Variable → List ℤ
changed_coefficients coefficient (b ∷ before) (a ∷ after) = if_changed (coefficient a) b a ∷ changed_coefficients coefficient before after
changed_coefficients coefficient before after = []

-- the coefficients of the columns of a node's home
abbrev pub home_coefficients : (Variable → ℤ) → Home → Moments → List ℤ
home_coefficients coefficient (State i l) moments = map coefficient moments.after
home_coefficients coefficient (Env i e) moments = map coefficient moments.before ++ changed_coefficients coefficient moments.before moments.after

-- the sum at node n: over the pairs of the rows of its subtree, as a row over its home's columns
abbrev pub sum_at : List Node → Pairs → ℕ → Node → Row
sum_at nodes pairs n node =
    let rows = rows_of nodes in
    let from = length (rows_of (take (n - node.size) nodes)) in
    let to = length (rows_of (take n nodes)) in
    let sum = weighted_sum (system_over rows).rows (pairs_within from to pairs) in
    inequality (home_coefficients (coefficient_at (variables_of rows) sum.coefficients) node.home node.moments) sum.bound

-- the rows that the sums are, at the nodes in their order
abbrev pub sums_of : List Node → Pairs → List NodeRow
sums_of nodes pairs = by_number (λ n node. record { home = node.home; row = sum_at nodes pairs n node } ∷ []) 1 nodes

-- ---- predicates

-- all coefficients are 0
abbrev pub is_constant : Row → Bool
is_constant row = not (list_any (λ a. not (int_eq a (pos 0))) row.coefficients)

-- the normal form of a sum; a sum without coefficients teaches nothing
abbrev pub predicate_at : Home → Row → List Predicate
predicate_at home row = if is_constant row then [] else record { home = home; atom = reduced_row row } ∷ []

-- the predicates of the nodes in their order, which may be the same at several nodes
abbrev pub predicates_of : List Node → Pairs → List Predicate
predicates_of nodes pairs = flat_map (λ at. predicate_at at.home at.row) (sums_of nodes pairs)

-- The predicates are those of a reduced certificate that refutes the nodes' system, and each is one of the program.
pub record AreTaughtBy (program : Program) (nodes : List Node) (predicates : List Predicate) : Type 0 where
  pub pairs : Pairs
  pub refutes : Refutes (system_over (rows_of nodes)) pairs
  pub is_reduced : IsReduced pairs
  pub are_sums : predicates ≡ predicates_of nodes pairs
  pub are_predicates : AllByRecursion (IsPredicateOf program) predicates

-- some rational point meets the system
abbrev pub HasRationalPoint : System → Type 0
HasRationalPoint system = (x : List ℤ) × (d : ℤ) × IsRationalPoint system x d

-- The predicates are those that the tree teaches: by its cut system, or by the full system, and then only where the cut system has a point.
abbrev pub IsTaught : Program → Tree → Scope → List Predicate → Type 0
IsTaught program tree Modular predicates =
    IsWithin (cut_system program tree) × AreTaughtBy program (tree_nodes program share_scope tree) predicates
IsTaught program tree Full predicates =
    IsWithin (cut_system program tree) × HasRationalPoint (cut_system program tree) × IsWithin (full_system program tree)
    × AreTaughtBy program (tree_nodes program share_all tree) predicates
