-- What the nodes of a tree of the program are: their homes, threads and edges.
use Rattle.std.proofs.Common.{◌≡◌, ℕ, List, [], Some, None, sym, ◌∙◌, ap, ap₂}
use Rattle.std.specs.Prelude.{unwrap_or}
use Rattle.transition_formula.specs.Program.{Program, Thread, Edge, IsThreadOf, IsEdgeOf, at_number}
use Rattle.horn_rules.specs.Home.{Home, State}
use Rattle.horn_rules.specs.Fact.{Statement}
use Rattle.horn_rules.specs.Instance as instance
use Rattle.horn_rules.specs.Case.{Case, IsCaseOf}
use Rattle.horn_rules.specs.Target.{target_at}
use Rattle.horn_rules.proofs.Targets.{cases-have-their-target}
use Rattle.derivation_tree.specs.Tree.{Tree, Init, Own, Guar, Env, Inter, IsTreeOf, root_home, thread_at, edge_at}
use Rattle.derivation_tree.specs.Solution.{NodeRow, says, Solves, init, own, guar, env, inter}

pub thread-at : (program : Program) (i : ℕ) (thread : Thread) → IsThreadOf program i thread → thread_at program i ≡ thread
thread-at program i thread at = ap (λ o. unwrap_or o (record { counter = 0; locations = 0; edges = [] })) at

pub edge-at : (program : Program) (i e : ℕ) (thread : Thread) (edge : Edge) → IsEdgeOf program i e thread edge → edge_at program i e ≡ edge
edge-at program i e thread edge at =
    ap (λ (t : Thread). unwrap_or (at_number t.edges e) (record { from = 0; to = 0; inputs = 0; tests = []; sets = [] })) (thread-at program i thread at.thread_is)
    ∙ ap (λ o. unwrap_or o (record { from = 0; to = 0; inputs = 0; tests = []; sets = [] })) at.edge_is

pub root-home : (program : Program) (tree : Tree) (home : Home) → IsTreeOf program tree home → root_home program tree ≡ home
root-home program tree home is = ap (λ o. unwrap_or o (State 0 0)) is

-- a node's home, by those of its premises
pub own-home : (program : Program) (f : Tree) (e : ℕ) (first : Statement) (given : Case) → IsTreeOf program f first.home → IsCaseOf program (instance.Own first e) given → IsTreeOf program (Own f e) given.target
own-home program f e first given is case = ap (λ h. target_at program (instance.Own f e) h None) is ∙ cases-have-their-target program (instance.Own first e) given case

pub guar-home : (program : Program) (f : Tree) (e : ℕ) (first : Statement) (given : Case) → IsTreeOf program f first.home → IsCaseOf program (instance.Guar first e) given → IsTreeOf program (Guar f e) given.target
guar-home program f e first given is case = ap (λ h. target_at program (instance.Guar f e) h None) is ∙ cases-have-their-target program (instance.Guar first e) given case

pub env-home : (program : Program) (f t : Tree) (first told : Statement) (given : Case) → IsTreeOf program f first.home → IsTreeOf program t told.home → IsCaseOf program (instance.Env first told) given
    → IsTreeOf program (Env f t) given.target
env-home program f t first told given is told_is case =
    ap₂ (λ h k. target_at program (instance.Env f t) h k) is told_is ∙ cases-have-their-target program (instance.Env first told) given case

pub inter-home : (program : Program) (f g : Tree) (e : ℕ) (first other : Statement) (given : Case) → IsTreeOf program f first.home → IsTreeOf program g other.home → IsCaseOf program (instance.Inter first other e) given
    → IsTreeOf program (Inter f g e) given.target
inter-home program f g e first other given is other_is case =
    ap₂ (λ h k. target_at program (instance.Inter f g e) h k) is other_is ∙ cases-have-their-target program (instance.Inter first other e) given case

pub init-home : (program : Program) (i : ℕ) (given : Case) → IsCaseOf program (instance.Init i) given → IsTreeOf program (Init i) given.target
init-home program i given case = cases-have-their-target program (instance.Init i) given case

-- a tree with a solution is one of the program
pub solved-home : (program : Program) (tree : Tree) (rows : List NodeRow) (at : NodeRow) → Solves program tree rows at → IsTreeOf program tree at.home
solved-home program tree rows here (init i given at case follows) = init-home program i given case ∙ ap Some (sym follows.at_target)
solved-home program tree rows here (own f e below first given at h case follows) =
    own-home program f e (says first) given (solved-home program f below first h) case ∙ ap Some (sym follows.at_target)
solved-home program tree rows here (guar f e below first given at h case follows) =
    guar-home program f e (says first) given (solved-home program f below first h) case ∙ ap Some (sym follows.at_target)
solved-home program tree rows here (env f t below told first second given at h k case follows) =
    env-home program f t (says first) (says second) given (solved-home program f below first h) (solved-home program t told second k) case ∙ ap Some (sym follows.at_target)
solved-home program tree rows here (inter f g e below others first second given at h k case follows) =
    inter-home program f g e (says first) (says second) given (solved-home program f below first h) (solved-home program g others second k) case ∙ ap Some (sym follows.at_target)
