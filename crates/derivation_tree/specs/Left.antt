-- When a tree is left. It is looked at in this order: its size, the width of its cut system, the decision of that, and the sums of its
-- certificate where it is refuted; otherwise the same of its full system; otherwise its chain.
use Rattle.std.specs.Prelude.{◌≡◌, ◌≢◌, ◌⊎◌, ◌<◌, ◌-◌, ℕ, ℤ, ◌*ℤ◌, false, List, length, take, Some, None, option_map}
use Rattle.std.specs.List.{Contains}
use Rattle.lin_rows.specs.System.{System}
use Rattle.lin_rows.specs.Atom.{greatest}
use Rattle.lin_rows.specs.Normal.{reduced_row}
use Rattle.farkas_cert.specs.Cert.{Pairs, Refutes}
use Rattle.farkas_cert.specs.Reduced.{IsReduced}
use Rattle.farkas_cert.specs.Proof.{overflow_of}
use Rattle.farkas_cert.specs.Elimination.{outcome_of, left_by, Refuted, Point}
use Rattle.farkas_cert.specs.declared.answers.LeaveKind.{LeaveKind}
use Rattle.farkas_cert.specs.declared.answers.LeaveKind.TheVariants.{Overflow, Rows}
use Rattle.rational_entail.specs.Entailment.{leave_of}
use Rattle.transition_formula.specs.Program.{Program, at_number}
use Rattle.derivation_tree.specs.declared.scope.TreeLeft.{TreeLeft}
use Rattle.derivation_tree.specs.declared.scope.TreeLeft.TheVariants as left
use Rattle.derivation_tree.specs.declared.scope.System.TheVariants.{Cut, Full, Chain}
use Rattle.derivation_tree.specs.Tree.{Tree, size_of}
use Rattle.derivation_tree.specs.Variable.{system_over}
use Rattle.derivation_tree.specs.Nodes.{Node, tree_nodes, rows_of}
use Rattle.derivation_tree.specs.System.{share_all, share_scope, full_system, cut_system, chain_system, IsWithin}
use Rattle.derivation_tree.specs.Sums.{pairs_within, sum_at, is_constant, HasRationalPoint}
use Rattle.derivation_tree.specs.Replay.{OverflowAt, IsReplay}
use Rattle.derivation_tree.specs.Chain.{chain_run}

-- The solver leaves the system with this kind.
abbrev pub SolverLeaves : System → LeaveKind → Type 0
SolverLeaves system kind = leave_of system ≡ Some kind

-- The elimination of the system leaves with this kind, whatever the tableau does.
abbrev pub EliminationLeaves : System → LeaveKind → Type 0
EliminationLeaves system kind = option_map (λ left. left.1) (left_by (outcome_of system)) ≡ Some kind

-- The certificate is the elimination's; where the elimination leaves, it is a reduced one that refutes the system.
pub data IsInHand (system : System) (pairs : Pairs) : Type 0 where
  found : outcome_of system ≡ Refuted pairs → IsInHand system pairs
  kept : (kind : LeaveKind) → EliminationLeaves system kind → Refutes system pairs → IsReduced pairs → IsInHand system pairs

-- At node n a product or a partial sum of the certificate's sum does not fit, or the sum's normal form has no negation.
abbrev pub IsStuckAt : List Node → Pairs → ℕ → Node → Type 0
IsStuckAt nodes pairs n node =
    let from = length (rows_of (take (n - node.size) nodes)) in
    let to = length (rows_of (take n nodes)) in
    let sum = sum_at nodes pairs n node in
    (overflow_of (system_over (rows_of nodes)).rows (pairs_within from to pairs) ≢ None) ⊎ ((is_constant sum ≡ false) × ((reduced_row sum).bound ≡ greatest))

-- Node k is the first such.
pub record IsFirstStuck (nodes : List Node) (pairs : Pairs) (k : ℕ) : Type 0 where
  pub node : Node
  pub there : at_number nodes k ≡ Some node
  pub stuck : IsStuckAt nodes pairs k node
  pub first : (n : ℕ) (earlier : Node) → n < k → at_number nodes n ≡ Some earlier → ¬ IsStuckAt nodes pairs n earlier

-- ---- how far a tree is looked at

abbrev pub ReachesCut : Program → Tree → Type 0
ReachesCut program tree = IsWithin (cut_system program tree)

abbrev pub ReachesFull : Program → Tree → Type 0
ReachesFull program tree = ReachesCut program tree × HasRationalPoint (cut_system program tree) × IsWithin (full_system program tree)

abbrev pub ReachesChain : Program → Tree → Type 0
ReachesChain program tree = ReachesFull program tree × HasRationalPoint (full_system program tree)

-- Each coordinate of x / d is whole.
abbrev pub IsWhole : List ℤ → ℤ → Type 0
IsWhole x d = (a : ℤ) → Contains x a → (q : ℤ) × (a ≡ q *ℤ d)

-- these whole numbers are x / d
abbrev pub AreQuotients : List ℤ → List ℤ → ℤ → Type 0
AreQuotients z x d = (c : ℕ) (q : ℤ) → at_number z c ≡ Some q → at_number x c ≡ Some (q *ℤ d)

-- The elimination's point of the chain is whole, and the replay of its run has numbers that do not fit.
pub record ChainOverflows (program : Program) (tree : Tree) : Type 0 where
  pub x : List ℤ
  pub d : ℤ
  pub z : List ℤ
  pub step : ℕ
  pub found : outcome_of (chain_system program tree) ≡ Point x d
  pub one_each : length z ≡ length x
  pub quotients : AreQuotients z x d
  pub overflows : IsReplay program (chain_run program tree z) (OverflowAt step)

-- it is not whole
pub record ChainIsNotWhole (program : Program) (tree : Tree) : Type 0 where
  pub x : List ℤ
  pub d : ℤ
  pub found : outcome_of (chain_system program tree) ≡ Point x d
  pub not_whole : ¬ IsWhole x d

-- When the tree is left so.
abbrev pub IsTreeLeft : Program → Tree → TreeLeft → Type 0
IsTreeLeft program tree (left.Tree n) = n < size_of tree
IsTreeLeft program tree (left.Wide Cut) = ¬ IsWithin (cut_system program tree)
IsTreeLeft program tree (left.Wide Full) = ReachesCut program tree × HasRationalPoint (cut_system program tree) × (¬ IsWithin (full_system program tree))
IsTreeLeft program tree (left.Wide Chain) = ⊥
IsTreeLeft program tree (left.Leaves Cut kind) = ReachesCut program tree × SolverLeaves (cut_system program tree) kind
IsTreeLeft program tree (left.Leaves Full kind) = ReachesFull program tree × SolverLeaves (full_system program tree) kind
IsTreeLeft program tree (left.Leaves Chain Overflow) = ReachesChain program tree × (EliminationLeaves (chain_system program tree) Overflow ⊎ ChainOverflows program tree)
IsTreeLeft program tree (left.Leaves Chain Rows) = ReachesChain program tree × EliminationLeaves (chain_system program tree) Rows
IsTreeLeft program tree (left.Interpolant Cut k cert) =
    ReachesCut program tree × IsInHand (cut_system program tree) cert × IsFirstStuck (tree_nodes program share_scope tree) cert k
IsTreeLeft program tree (left.Interpolant Full k cert) =
    ReachesFull program tree × IsInHand (full_system program tree) cert × IsFirstStuck (tree_nodes program share_all tree) cert k
IsTreeLeft program tree (left.Interpolant Chain k cert) = ⊥
IsTreeLeft program tree left.Unrefinable = ReachesChain program tree × ChainIsNotWhole program tree
