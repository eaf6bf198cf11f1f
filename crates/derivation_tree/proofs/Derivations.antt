-- A tree of a program: each node is an instance over the homes of its premises.
use Rattle.std.proofs.Common.{◌≡◌, ℕ, Option, Some, None, refl, ◌∙◌, ap, subst, arith}
use Rattle.transition_formula.specs.Program.{Program, IsProgram}
use Rattle.transition_formula.proofs.Programs.{edge-is}
use Rattle.horn_rules.specs.Home.{Home, IsHomeOf}
use Rattle.horn_rules.specs.Instance as instance
use Rattle.horn_rules.specs.Fact.{Statement}
use Rattle.horn_rules.specs.Case as cases
use Rattle.horn_rules.specs.Case.{Case, IsCaseOf}
use Rattle.horn_rules.specs.Target.{target_at}
use Rattle.horn_rules.proofs.Targets.{targets-have-cases}
use Rattle.horn_rules.proofs.HomesThere.{location-home, edge-home}
use Rattle.derivation_tree.specs.Tree.{Tree, Init, Own, Guar, Env, Inter, home_of, IsTreeOf}
use Rattle.derivation_tree.specs.Nodes.{bare}
use Rattle.derivation_tree.proofs.Below.{init-home, own-home, guar-home, env-home, inter-home}

pub data Derives (program : Program) : Tree → Home → Type 0 where
  init : (i : ℕ) (given : Case) (home : Home) → IsCaseOf program (instance.Init i) given → given.target ≡ home → Derives program (Init i) home
  own : (f : Tree) (e : ℕ) (from : Home) (given : Case) (home : Home) → Derives program f from → IsCaseOf program (instance.Own (bare from) e) given → given.target ≡ home → Derives program (Own f e) home
  guar : (f : Tree) (e : ℕ) (from : Home) (given : Case) (home : Home) → Derives program f from → IsCaseOf program (instance.Guar (bare from) e) given → given.target ≡ home → Derives program (Guar f e) home
  env : (f t : Tree) (from told : Home) (given : Case) (home : Home) → Derives program f from → Derives program t told → IsCaseOf program (instance.Env (bare from) (bare told)) given → given.target ≡ home → Derives program (Env f t) home
  inter : (f g : Tree) (e : ℕ) (from other : Home) (given : Case) (home : Home) → Derives program f from → Derives program g other → IsCaseOf program (instance.Inter (bare from) (bare other) e) given → given.target ≡ home
      → Derives program (Inter f g e) home

pub derives-home : (program : Program) (tree : Tree) (home : Home) → Derives program tree home → IsTreeOf program tree home
derives-home program tree home (init i given there case same) = init-home program i given case ∙ ap Some same
derives-home program tree home (own f e from given there h case same) = own-home program f e (bare from) given (derives-home program f from h) case ∙ ap Some same
derives-home program tree home (guar f e from given there h case same) = guar-home program f e (bare from) given (derives-home program f from h) case ∙ ap Some same
derives-home program tree home (env f t from told given there h k case same) =
    env-home program f t (bare from) (bare told) given (derives-home program f from h) (derives-home program t told k) case ∙ ap Some same
derives-home program tree home (inter f g e from other given there h k case same) =
    inter-home program f g e (bare from) (bare other) given (derives-home program f from h) (derives-home program g other k) case ∙ ap Some same

-- the home to which an instance of the program leads is one
pub target-there : (program : Program) (i : instance.Instance Statement) (given : Case) → IsProgram program → IsCaseOf program i given → IsHomeOf program given.target
target-there program i given is (cases.init k thread at) =
    location-home program k 1 thread (record { thread_is = at; within = let h = (is.threads_are k thread at).has_start in omega arith })
target-there program i given is (cases.own k e thread edge f at home) =
    location-home program k edge.to thread (record { thread_is = at.thread_is; within = (edge-is program k e thread edge is at.thread_is at.edge_is).to_location })
target-there program i given is (cases.guar k e thread edge f at home) = edge-home program k e thread edge at
target-there program i given is (cases.env k l m e other thread edge f t apart there at home_f home_t) = location-home program k l other there
target-there program i given is (cases.inter k l m e other thread edge f g apart there at home_f home_g) = location-home program k l other there

pub record IsDerived (program : Program) (tree : Tree) (home : Home) : Type 0 where
  pub derives : Derives program tree home
  pub there : IsHomeOf program home

pub tree-derives : (program : Program) (tree : Tree) (home : Home) → IsProgram program → IsTreeOf program tree home → IsDerived program tree home
tree-derives program (Init i) home is at =
    let (given, case, same) = targets-have-cases program (instance.Init i) home tt at in
    record { derives = init i given home case same; there = subst (IsHomeOf program) same (target-there program (instance.Init i) given is case) }
tree-derives program (Own f e) home is at = of (home_of program f) refl (λ h there. tree-derives program f h is there) at
  where
    of : (o : Option Home) → home_of program f ≡ o → ((h : Home) → IsTreeOf program f h → IsDerived program f h) → target_at program (instance.Own f e) o None ≡ Some home → IsDerived program (Own f e) home
    of None found below leads = cc
    of (Some h) found below leads =
        let under = below h found in
        let (given, case, same) = targets-have-cases program (instance.Own (bare h) e) home (under.there, tt) leads in
        record { derives = own f e h given home under.derives case same; there = subst (IsHomeOf program) same (target-there program (instance.Own (bare h) e) given is case) }
tree-derives program (Guar f e) home is at = of (home_of program f) refl (λ h there. tree-derives program f h is there) at
  where
    of : (o : Option Home) → home_of program f ≡ o → ((h : Home) → IsTreeOf program f h → IsDerived program f h) → target_at program (instance.Guar f e) o None ≡ Some home → IsDerived program (Guar f e) home
    of None found below leads = cc
    of (Some h) found below leads =
        let under = below h found in
        let (given, case, same) = targets-have-cases program (instance.Guar (bare h) e) home (under.there, tt) leads in
        record { derives = guar f e h given home under.derives case same; there = subst (IsHomeOf program) same (target-there program (instance.Guar (bare h) e) given is case) }
tree-derives program (Env f t) home is at = of (home_of program f) (home_of program t) refl refl (λ h there. tree-derives program f h is there) (λ h there. tree-derives program t h is there) at
  where
    of : (o p : Option Home) → home_of program f ≡ o → home_of program t ≡ p → ((h : Home) → IsTreeOf program f h → IsDerived program f h) → ((h : Home) → IsTreeOf program t h → IsDerived program t h)
        → target_at program (instance.Env f t) o p ≡ Some home → IsDerived program (Env f t) home
    of None p found told below beside leads = cc
    of (Some h) None found told below beside leads = cc
    of (Some h) (Some k) found told below beside leads =
        let under = below h found in
        let side = beside k told in
        let (given, case, same) = targets-have-cases program (instance.Env (bare h) (bare k)) home (under.there, (side.there, tt)) leads in
        record { derives = env f t h k given home under.derives side.derives case same; there = subst (IsHomeOf program) same (target-there program (instance.Env (bare h) (bare k)) given is case) }
tree-derives program (Inter f g e) home is at = of (home_of program f) (home_of program g) refl refl (λ h there. tree-derives program f h is there) (λ h there. tree-derives program g h is there) at
  where
    of : (o p : Option Home) → home_of program f ≡ o → home_of program g ≡ p → ((h : Home) → IsTreeOf program f h → IsDerived program f h) → ((h : Home) → IsTreeOf program g h → IsDerived program g h)
        → target_at program (instance.Inter f g e) o p ≡ Some home → IsDerived program (Inter f g e) home
    of None p found told below beside leads = cc
    of (Some h) None found told below beside leads = cc
    of (Some h) (Some k) found told below beside leads =
        let under = below h found in
        let side = beside k told in
        let (given, case, same) = targets-have-cases program (instance.Inter (bare h) (bare k) e) home (under.there, (side.there, tt)) leads in
        record { derives = inter f g e h k given home under.derives side.derives case same; there = subst (IsHomeOf program) same (target-there program (instance.Inter (bare h) (bare k) e) given is case) }
