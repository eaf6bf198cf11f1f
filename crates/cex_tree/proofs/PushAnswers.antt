-- The answers of the parts of a tree give that of the whole.
use Rattle.std.proofs.Common.{◌≡◌, ℕ, ◌+◌, ◌<◌, ◌≤◌, List, [], ◌++◌, Some, None, IsSome, length, map, ◌^◌, Result, Ok, Err, refl, sym, ◌∙◌, ap, ap₂, subst, arith}
use Rattle.thr_base.specs.declared.names.FactId.{FactId}
use Rattle.thr_base.specs.declared.names.EdgeNo.{EdgeNo}
use Rattle.thr_base.specs.declared.names.ThreadNo.{ThreadNo}
use Rattle.thr_base.specs.declared.names.Instance.TheVariants as stored
use Rattle.transition_formula.specs.Program.{Program}
use Rattle.horn_rules.specs.Home.{Home, State}
use Rattle.horn_rules.specs.Stored.{home_of}
use Rattle.horn_rules.specs.Instance as instance
use Rattle.horn_rules.specs.Target.{target_at}
use Rattle.derivation_tree.specs.Facts.{home_at, AreKept}
use Rattle.derivation_tree.specs.Tree.{Tree, Init, Own, Guar, Env, Inter, size_of, place_of, IsTreeOf}
use Rattle.derivation_tree.specs.Tree as trees
use Rattle.derivation_tree.specs.Kept.{KeptTree, IsKept, kept_facts_of}
use Rattle.cex_tree.specs.Grown.{IsGrowAnswer}
use Rattle.derivation_tree.proofs.Below.{root-home}
use Rattle.cex_tree.specs.declared.node.Kind.TheVariants as kinds
use Rattle.cex_tree.specs.declared.node.Node.{Node}
use Rattle.cex_tree.specs.declared.stops.GrowStop.{GrowStop}
use Rattle.cex_tree.specs.declared.stops.GrowStop.TheVariants.{TooLarge, Memory}
use Rattle.cex_tree.specs.inside.Flat.{Shape, shape_of, root_shape, shapes_of, tree_in, AreNodes}
use Rattle.cex_tree.specs.inside.Growing.{StoredFacts, StandsWith, tree_at, IsInitNode, IsStepNode, IsBesideNode, IsAppended, ArePushed, IsPushAnswer}
use Rattle.cex_tree.proofs.KeptTrees.{grows, known, is-some}
use Rattle.cex_tree.proofs.Shapes.{init-shape, own-shape, guar-shape, env-shape, inter-shape, leaf-pushed, one-pushed, two-pushed, stop-above, stop-beside, pushed-length, length-shapes_of, tree_in-shapes_of}

-- the home of a root that was answered
root-there : (program : Program) (tree : Tree) (home : Home) (root : Node) → IsTreeOf program tree home → shape_of root ≡ root_shape program tree → Some (home_of root.home) ≡ trees.home_of program tree
root-there program tree home root is root_is = ap Some (ap (λ (s : Shape). s.home) root_is ∙ root-home program tree home is) ∙ sym is

-- ---- a start

pub init-target : (program : Program) (facts : StoredFacts) (id : ℕ) (i : ThreadNo) → AreKept program (kept_facts_of program facts) → IsSome (home_at (kept_facts_of program facts) id) → StandsWith facts id (stored.Init i)
    → IsSome (target_at {F = ℕ} program (instance.Init i.0) None None)
init-target program facts id i kept there stands =
    let whole = known program (kept_facts_of program facts) id kept there in
    is-some (target_at {F = ℕ} program (instance.Init i.0) None None) whole.home (subst (λ x. IsTreeOf program x whole.home) (grows program facts id (stored.Init i) kept stands) whole.of_program)

pub init-answer : (program : Program) (facts : StoredFacts) (id : ℕ) (i : ThreadNo) (owed limit : ℕ) (old new : List Node) (node : Node) (result : Result Node GrowStop)
    → AreKept program (kept_facts_of program facts) → IsSome (home_at (kept_facts_of program facts) id) → StandsWith facts id (stored.Init i) → length old + owed < limit
    → IsInitNode program (instance.Init i.0) i.0 (shape_of node) → IsAppended old new node result → IsPushAnswer program (tree_at (kept_facts_of program facts) id) owed limit old new result
init-answer program facts id i owed limit old new node result kept there stands few is appended =
    let whole = known program (kept_facts_of program facts) id kept there in
    let grown = grows program facts id (stored.Init i) kept stands in
    subst (λ x. IsPushAnswer program x owed limit old new result) (sym grown)
    (leaf-pushed program (Init i.0) owed limit old new node result refl refl few (init-shape program i.0 whole.home (shape_of node) (subst (λ x. IsTreeOf program x whole.home) grown whole.of_program) is) appended)

-- ---- a step

pub own-target : (program : Program) (facts : StoredFacts) (id : ℕ) (f : FactId) (e : EdgeNo) (owed limit : ℕ) (old mid : List Node) (first : Node) → AreKept program (kept_facts_of program facts)
    → IsSome (home_at (kept_facts_of program facts) id) → StandsWith facts id (stored.Own f e) → ArePushed program (tree_at (kept_facts_of program facts) f.0) owed limit old mid first
    → IsSome (target_at program (instance.Own f.0 e.0) (Some (home_of first.home)) None)
own-target program facts id f e owed limit old mid first kept there stands pushed =
    let whole = known program (kept_facts_of program facts) id kept there in
    let grown = grows program facts id (stored.Own f e) kept stands in
    let below = grown.0.is_known in
    is-some (target_at program (instance.Own f.0 e.0) (Some (home_of first.home)) None) whole.home
    (ap (λ o. target_at program (instance.Own f.0 e.0) o None) (root-there program (tree_at (kept_facts_of program facts) f.0) below.home first below.of_program pushed.root_is)
    ∙ subst (λ x. IsTreeOf program x whole.home) grown.1 whole.of_program)

pub own-stop : (program : Program) (facts : StoredFacts) (id : ℕ) (f : FactId) (e : EdgeNo) (owed limit : ℕ) (old mid new : List Node) (stop : GrowStop) → AreKept program (kept_facts_of program facts)
    → StandsWith facts id (stored.Own f e) → IsPushAnswer program (tree_at (kept_facts_of program facts) f.0) (owed + 1) limit old mid (Err stop)
    → IsPushAnswer program (tree_at (kept_facts_of program facts) id) owed limit old new (Err stop)
own-stop program facts id f e owed limit old mid new stop kept stands stopped =
    let grown = grows program facts id (stored.Own f e) kept stands in
    let tree = tree_at (kept_facts_of program facts) f.0 in
    subst (λ x. IsPushAnswer program x owed limit old new (Err stop)) (sym grown.1) (stop-above program (Own tree e.0) tree owed limit old mid new stop (omega arith) stopped)

pub own-answer : (program : Program) (facts : StoredFacts) (id : ℕ) (f : FactId) (e : EdgeNo) (owed limit : ℕ) (old mid new : List Node) (first node : Node) (result : Result Node GrowStop)
    → AreKept program (kept_facts_of program facts) → IsSome (home_at (kept_facts_of program facts) id) → StandsWith facts id (stored.Own f e)
    → ArePushed program (tree_at (kept_facts_of program facts) f.0) (owed + 1) limit old mid first → IsStepNode program kinds.Own (instance.Own f.0 e.0) (shape_of first) e.0 (shape_of node)
    → IsAppended mid new node result → IsPushAnswer program (tree_at (kept_facts_of program facts) id) owed limit old new result
own-answer program facts id f e owed limit old mid new first node result kept there stands pushed is appended =
    let whole = known program (kept_facts_of program facts) id kept there in
    let grown = grows program facts id (stored.Own f e) kept stands in
    let below = grown.0.is_known in
    let tree = tree_at (kept_facts_of program facts) f.0 in
    subst (λ x. IsPushAnswer program x owed limit old new result) (sym grown.1)
    (one-pushed program (Own tree e.0) tree owed limit old mid new first node result refl refl pushed
    (own-shape program tree f.0 e.0 below.home whole.home (shape_of first) (shape_of node) below.of_program (subst (λ x. IsTreeOf program x whole.home) grown.1 whole.of_program) pushed.root_is is) appended)

-- ---- a step that is told

pub guar-target : (program : Program) (facts : StoredFacts) (id : ℕ) (f : FactId) (e : EdgeNo) (owed limit : ℕ) (old mid : List Node) (first : Node) → AreKept program (kept_facts_of program facts)
    → IsSome (home_at (kept_facts_of program facts) id) → StandsWith facts id (stored.Guar f e) → ArePushed program (tree_at (kept_facts_of program facts) f.0) owed limit old mid first
    → IsSome (target_at program (instance.Guar f.0 e.0) (Some (home_of first.home)) None)
guar-target program facts id f e owed limit old mid first kept there stands pushed =
    let whole = known program (kept_facts_of program facts) id kept there in
    let grown = grows program facts id (stored.Guar f e) kept stands in
    let below = grown.0.is_known in
    is-some (target_at program (instance.Guar f.0 e.0) (Some (home_of first.home)) None) whole.home
    (ap (λ o. target_at program (instance.Guar f.0 e.0) o None) (root-there program (tree_at (kept_facts_of program facts) f.0) below.home first below.of_program pushed.root_is)
    ∙ subst (λ x. IsTreeOf program x whole.home) grown.1 whole.of_program)

pub guar-stop : (program : Program) (facts : StoredFacts) (id : ℕ) (f : FactId) (e : EdgeNo) (owed limit : ℕ) (old mid new : List Node) (stop : GrowStop) → AreKept program (kept_facts_of program facts)
    → StandsWith facts id (stored.Guar f e) → IsPushAnswer program (tree_at (kept_facts_of program facts) f.0) (owed + 1) limit old mid (Err stop)
    → IsPushAnswer program (tree_at (kept_facts_of program facts) id) owed limit old new (Err stop)
guar-stop program facts id f e owed limit old mid new stop kept stands stopped =
    let grown = grows program facts id (stored.Guar f e) kept stands in
    let tree = tree_at (kept_facts_of program facts) f.0 in
    subst (λ x. IsPushAnswer program x owed limit old new (Err stop)) (sym grown.1) (stop-above program (Guar tree e.0) tree owed limit old mid new stop (omega arith) stopped)

pub guar-answer : (program : Program) (facts : StoredFacts) (id : ℕ) (f : FactId) (e : EdgeNo) (owed limit : ℕ) (old mid new : List Node) (first node : Node) (result : Result Node GrowStop)
    → AreKept program (kept_facts_of program facts) → IsSome (home_at (kept_facts_of program facts) id) → StandsWith facts id (stored.Guar f e)
    → ArePushed program (tree_at (kept_facts_of program facts) f.0) (owed + 1) limit old mid first → IsStepNode program kinds.Guar (instance.Guar f.0 e.0) (shape_of first) e.0 (shape_of node)
    → IsAppended mid new node result → IsPushAnswer program (tree_at (kept_facts_of program facts) id) owed limit old new result
guar-answer program facts id f e owed limit old mid new first node result kept there stands pushed is appended =
    let whole = known program (kept_facts_of program facts) id kept there in
    let grown = grows program facts id (stored.Guar f e) kept stands in
    let below = grown.0.is_known in
    let tree = tree_at (kept_facts_of program facts) f.0 in
    subst (λ x. IsPushAnswer program x owed limit old new result) (sym grown.1)
    (one-pushed program (Guar tree e.0) tree owed limit old mid new first node result refl refl pushed
    (guar-shape program tree f.0 e.0 below.home whole.home (shape_of first) (shape_of node) below.of_program (subst (λ x. IsTreeOf program x whole.home) grown.1 whole.of_program) pushed.root_is is) appended)

-- ---- a thread that stays in a step that is told

pub env-target : (program : Program) (facts : StoredFacts) (id : ℕ) (f g : FactId) (owed limit : ℕ) (old mid late : List Node) (first second : Node) → AreKept program (kept_facts_of program facts)
    → IsSome (home_at (kept_facts_of program facts) id) → StandsWith facts id (stored.Env f g) → ArePushed program (tree_at (kept_facts_of program facts) f.0) owed limit old mid first
    → ArePushed program (tree_at (kept_facts_of program facts) g.0) owed limit mid late second
    → IsSome (target_at program (instance.Env f.0 g.0) (Some (home_of first.home)) (Some (home_of second.home)))
env-target program facts id f g owed limit old mid late first second kept there stands pushed late_pushed =
    let whole = known program (kept_facts_of program facts) id kept there in
    let grown = grows program facts id (stored.Env f g) kept stands in
    let below = grown.0.is_known in
    let beside = grown.1.is_known in
    is-some (target_at program (instance.Env f.0 g.0) (Some (home_of first.home)) (Some (home_of second.home))) whole.home
    (ap₂ (λ o m. target_at program (instance.Env f.0 g.0) o m) (root-there program (tree_at (kept_facts_of program facts) f.0) below.home first below.of_program pushed.root_is)
    (root-there program (tree_at (kept_facts_of program facts) g.0) beside.home second beside.of_program late_pushed.root_is)
    ∙ subst (λ x. IsTreeOf program x whole.home) grown.2 whole.of_program)

pub env-room : (program : Program) (facts : StoredFacts) (f g : FactId) (owed limit : ℕ) (old mid late : List Node) (first second : Node)
    → ArePushed program (tree_at (kept_facts_of program facts) f.0) owed limit old mid first → ArePushed program (tree_at (kept_facts_of program facts) g.0) owed limit mid late second → 1 ≤ owed
    → first.size + second.size + 1 ≤ limit
env-room program facts f g owed limit old mid late first second pushed late_pushed some =
    let k = pushed-length program (tree_at (kept_facts_of program facts) f.0) owed limit old mid first pushed in
    let h = late_pushed.few in
    let a : first.size ≡ size_of (tree_at (kept_facts_of program facts) f.0) = ap (λ (s : Shape). s.size) pushed.root_is in
    let b : second.size ≡ size_of (tree_at (kept_facts_of program facts) g.0) = ap (λ (s : Shape). s.size) late_pushed.root_is in
    omega arith

pub env-stop : (program : Program) (facts : StoredFacts) (id : ℕ) (f g : FactId) (owed limit : ℕ) (old mid new : List Node) (stop : GrowStop) → AreKept program (kept_facts_of program facts)
    → StandsWith facts id (stored.Env f g) → IsPushAnswer program (tree_at (kept_facts_of program facts) f.0) (owed + 1) limit old mid (Err stop)
    → IsPushAnswer program (tree_at (kept_facts_of program facts) id) owed limit old new (Err stop)
env-stop program facts id f g owed limit old mid new stop kept stands stopped =
    let grown = grows program facts id (stored.Env f g) kept stands in
    let tree = tree_at (kept_facts_of program facts) f.0 in
    let other = tree_at (kept_facts_of program facts) g.0 in
    subst (λ x. IsPushAnswer program x owed limit old new (Err stop)) (sym grown.2) (stop-above program (Env tree other) tree owed limit old mid new stop (omega arith) stopped)

pub env-stop_beside : (program : Program) (facts : StoredFacts) (id : ℕ) (f g : FactId) (owed limit : ℕ) (old mid late new : List Node) (first : Node) (stop : GrowStop) → AreKept program (kept_facts_of program facts)
    → StandsWith facts id (stored.Env f g) → ArePushed program (tree_at (kept_facts_of program facts) f.0) (owed + 1) limit old mid first
    → IsPushAnswer program (tree_at (kept_facts_of program facts) g.0) (owed + 1) limit mid late (Err stop)
    → IsPushAnswer program (tree_at (kept_facts_of program facts) id) owed limit old new (Err stop)
env-stop_beside program facts id f g owed limit old mid late new first stop kept stands pushed stopped =
    let grown = grows program facts id (stored.Env f g) kept stands in
    let tree = tree_at (kept_facts_of program facts) f.0 in
    let other = tree_at (kept_facts_of program facts) g.0 in
    subst (λ x. IsPushAnswer program x owed limit old new (Err stop)) (sym grown.2) (stop-beside program (Env tree other) tree other owed limit old mid late new first stop refl pushed stopped)

pub env-answer : (program : Program) (facts : StoredFacts) (id : ℕ) (f g : FactId) (owed limit : ℕ) (old mid late new : List Node) (first second node : Node) (e : ℕ) (result : Result Node GrowStop)
    → e ≡ place_of (home_of second.home) → AreKept program (kept_facts_of program facts) → IsSome (home_at (kept_facts_of program facts) id) → StandsWith facts id (stored.Env f g)
    → ArePushed program (tree_at (kept_facts_of program facts) f.0) (owed + 1) limit old mid first → ArePushed program (tree_at (kept_facts_of program facts) g.0) (owed + 1) limit mid late second
    → IsBesideNode program kinds.Env (instance.Env f.0 g.0) (shape_of first) (shape_of second) e (shape_of node)
    → IsAppended late new node result → IsPushAnswer program (tree_at (kept_facts_of program facts) id) owed limit old new result
env-answer program facts id f g owed limit old mid late new first second node e result edge kept there stands pushed late_pushed is appended =
    let whole = known program (kept_facts_of program facts) id kept there in
    let grown = grows program facts id (stored.Env f g) kept stands in
    let below = grown.0.is_known in
    let beside = grown.1.is_known in
    let tree = tree_at (kept_facts_of program facts) f.0 in
    let other = tree_at (kept_facts_of program facts) g.0 in
    subst (λ x. IsPushAnswer program x owed limit old new result) (sym grown.2)
    (two-pushed program (Env tree other) tree other owed limit old mid late new first second node result refl refl pushed late_pushed
    (env-shape program tree other f.0 g.0 e below.home beside.home whole.home (shape_of first) (shape_of second) (shape_of node) below.of_program beside.of_program
    (subst (λ x. IsTreeOf program x whole.home) grown.2 whole.of_program) pushed.root_is late_pushed.root_is edge is) appended)

-- ---- a thread that stays in another one's step

pub inter-target : (program : Program) (facts : StoredFacts) (id : ℕ) (f g : FactId) (e : EdgeNo) (owed limit : ℕ) (old mid late : List Node) (first second : Node) → AreKept program (kept_facts_of program facts)
    → IsSome (home_at (kept_facts_of program facts) id) → StandsWith facts id (stored.Inter f g e) → ArePushed program (tree_at (kept_facts_of program facts) f.0) owed limit old mid first
    → ArePushed program (tree_at (kept_facts_of program facts) g.0) owed limit mid late second
    → IsSome (target_at program (instance.Inter f.0 g.0 e.0) (Some (home_of first.home)) (Some (home_of second.home)))
inter-target program facts id f g e owed limit old mid late first second kept there stands pushed late_pushed =
    let whole = known program (kept_facts_of program facts) id kept there in
    let grown = grows program facts id (stored.Inter f g e) kept stands in
    let below = grown.0.is_known in
    let beside = grown.1.is_known in
    is-some (target_at program (instance.Inter f.0 g.0 e.0) (Some (home_of first.home)) (Some (home_of second.home))) whole.home
    (ap₂ (λ o m. target_at program (instance.Inter f.0 g.0 e.0) o m) (root-there program (tree_at (kept_facts_of program facts) f.0) below.home first below.of_program pushed.root_is)
    (root-there program (tree_at (kept_facts_of program facts) g.0) beside.home second beside.of_program late_pushed.root_is)
    ∙ subst (λ x. IsTreeOf program x whole.home) grown.2 whole.of_program)

pub inter-room : (program : Program) (facts : StoredFacts) (f g : FactId) (owed limit : ℕ) (old mid late : List Node) (first second : Node)
    → ArePushed program (tree_at (kept_facts_of program facts) f.0) owed limit old mid first → ArePushed program (tree_at (kept_facts_of program facts) g.0) owed limit mid late second → 1 ≤ owed
    → first.size + second.size + 1 ≤ limit
inter-room program facts f g owed limit old mid late first second pushed late_pushed some =
    let k = pushed-length program (tree_at (kept_facts_of program facts) f.0) owed limit old mid first pushed in
    let h = late_pushed.few in
    let a : first.size ≡ size_of (tree_at (kept_facts_of program facts) f.0) = ap (λ (s : Shape). s.size) pushed.root_is in
    let b : second.size ≡ size_of (tree_at (kept_facts_of program facts) g.0) = ap (λ (s : Shape). s.size) late_pushed.root_is in
    omega arith

pub inter-stop : (program : Program) (facts : StoredFacts) (id : ℕ) (f g : FactId) (e : EdgeNo) (owed limit : ℕ) (old mid new : List Node) (stop : GrowStop) → AreKept program (kept_facts_of program facts)
    → StandsWith facts id (stored.Inter f g e) → IsPushAnswer program (tree_at (kept_facts_of program facts) f.0) (owed + 1) limit old mid (Err stop)
    → IsPushAnswer program (tree_at (kept_facts_of program facts) id) owed limit old new (Err stop)
inter-stop program facts id f g e owed limit old mid new stop kept stands stopped =
    let grown = grows program facts id (stored.Inter f g e) kept stands in
    let tree = tree_at (kept_facts_of program facts) f.0 in
    let other = tree_at (kept_facts_of program facts) g.0 in
    subst (λ x. IsPushAnswer program x owed limit old new (Err stop)) (sym grown.2) (stop-above program (Inter tree other e.0) tree owed limit old mid new stop (omega arith) stopped)

pub inter-stop_beside : (program : Program) (facts : StoredFacts) (id : ℕ) (f g : FactId) (e : EdgeNo) (owed limit : ℕ) (old mid late new : List Node) (first : Node) (stop : GrowStop) → AreKept program (kept_facts_of program facts)
    → StandsWith facts id (stored.Inter f g e) → ArePushed program (tree_at (kept_facts_of program facts) f.0) (owed + 1) limit old mid first
    → IsPushAnswer program (tree_at (kept_facts_of program facts) g.0) (owed + 1) limit mid late (Err stop)
    → IsPushAnswer program (tree_at (kept_facts_of program facts) id) owed limit old new (Err stop)
inter-stop_beside program facts id f g e owed limit old mid late new first stop kept stands pushed stopped =
    let grown = grows program facts id (stored.Inter f g e) kept stands in
    let tree = tree_at (kept_facts_of program facts) f.0 in
    let other = tree_at (kept_facts_of program facts) g.0 in
    subst (λ x. IsPushAnswer program x owed limit old new (Err stop)) (sym grown.2) (stop-beside program (Inter tree other e.0) tree other owed limit old mid late new first stop refl pushed stopped)

pub inter-answer : (program : Program) (facts : StoredFacts) (id : ℕ) (f g : FactId) (e : EdgeNo) (owed limit : ℕ) (old mid late new : List Node) (first second node : Node) (result : Result Node GrowStop)
    → AreKept program (kept_facts_of program facts) → IsSome (home_at (kept_facts_of program facts) id) → StandsWith facts id (stored.Inter f g e)
    → ArePushed program (tree_at (kept_facts_of program facts) f.0) (owed + 1) limit old mid first → ArePushed program (tree_at (kept_facts_of program facts) g.0) (owed + 1) limit mid late second
    → IsBesideNode program kinds.Inter (instance.Inter f.0 g.0 e.0) (shape_of first) (shape_of second) e.0 (shape_of node)
    → IsAppended late new node result → IsPushAnswer program (tree_at (kept_facts_of program facts) id) owed limit old new result
inter-answer program facts id f g e owed limit old mid late new first second node result kept there stands pushed late_pushed is appended =
    let whole = known program (kept_facts_of program facts) id kept there in
    let grown = grows program facts id (stored.Inter f g e) kept stands in
    let below = grown.0.is_known in
    let beside = grown.1.is_known in
    let tree = tree_at (kept_facts_of program facts) f.0 in
    let other = tree_at (kept_facts_of program facts) g.0 in
    subst (λ x. IsPushAnswer program x owed limit old new result) (sym grown.2)
    (two-pushed program (Inter tree other e.0) tree other owed limit old mid late new first second node result refl refl pushed late_pushed
    (inter-shape program tree other f.0 g.0 e.0 below.home beside.home whole.home (shape_of first) (shape_of second) (shape_of node) below.of_program beside.of_program
    (subst (λ x. IsTreeOf program x whole.home) grown.2 whole.of_program) pushed.root_is late_pushed.root_is is) appended)

-- ---- all nodes

-- what is kept of a claim, as it is stored
record Claim (program : Program) (kept : KeptTree) (facts : StoredFacts) (root : ℕ) : Type 0 where
  same : kept_facts_of program facts ≡ kept.facts
  are_kept : AreKept program (kept_facts_of program facts)
  there : IsSome (home_at (kept_facts_of program facts) root)

claim : (program : Program) (kept : KeptTree) (facts : StoredFacts) (root : ℕ) → program ≡ kept.program → kept_facts_of kept.program facts ≡ kept.facts → root ≡ kept.root → IsKept kept → Claim program kept facts root
claim program kept facts root of_program are root_is is =
    let same : kept_facts_of program facts ≡ kept.facts = ap (λ p. kept_facts_of p facts) of_program ∙ are in
    let at : home_at (kept_facts_of program facts) root ≡ Some (State is.i 0) = ap₂ (λ ks id. home_at ks id) same root_is ∙ is.root_fails in
    record {
      same = same;
      are_kept = subst (λ p. AreKept p (kept_facts_of program facts)) (sym of_program) (subst (AreKept kept.program) (sym same) is.are_kept);
      there = is-some (home_at (kept_facts_of program facts) root) (State is.i 0) at;
    }

list-is : (program : Program) (tree : Tree) (limit : ℕ) (old new : List Node) (node : Node) → old ≡ [] → ArePushed program tree 0 limit old new node → map shape_of new ≡ shapes_of program tree
list-is program tree limit old new node none pushed = pushed.pushed ∙ ap (λ l. map shape_of l ++ shapes_of program tree) none

pub whole-nodes : (program : Program) (kept : KeptTree) (facts : StoredFacts) (root limit : ℕ) (old new : List Node) (node : Node) → program ≡ kept.program → kept_facts_of kept.program facts ≡ kept.facts → root ≡ kept.root → IsKept kept
    → limit < 2 ^ 32 → old ≡ [] → ArePushed program (tree_at (kept_facts_of program facts) root) 0 limit old new node → AreNodes program (map shape_of new) (tree_in (map shape_of new))
whole-nodes program kept facts root limit old new node of_program are root_is is fits none pushed =
    let claimed = claim program kept facts root of_program are root_is is in
    let tree = tree_at (kept_facts_of program facts) root in
    let whole = known program (kept_facts_of program facts) root claimed.are_kept claimed.there in
    let list = list-is program tree limit old new node none pushed in
    let few : length (map shape_of new) < 2 ^ 32 = (let e : length (map shape_of new) ≡ size_of tree = ap length list ∙ length-shapes_of program tree in let h = pushed.few in omega arith) in
    subst (AreNodes program (map shape_of new)) (sym (ap tree_in list ∙ tree_in-shapes_of program tree)) (record { home = whole.home; of_program = whole.of_program; are_its = list; few = few })

pub whole-answer : (program : Program) (kept : KeptTree) (facts : StoredFacts) (root limit : ℕ) (old new : List Node) (node : Node) → program ≡ kept.program → kept_facts_of kept.program facts ≡ kept.facts → root ≡ kept.root → IsKept kept
    → old ≡ [] → ArePushed program (tree_at (kept_facts_of program facts) root) 0 limit old new node → IsGrowAnswer kept limit (Ok (record { program = program; tree = tree_in (map shape_of new) }))
whole-answer program kept facts root limit old new node of_program are root_is is none pushed =
    let claimed = claim program kept facts root of_program are root_is is in
    let tree = tree_at (kept_facts_of program facts) root in
    let whole = known program (kept_facts_of program facts) root claimed.are_kept claimed.there in
    let tree_is : tree_in (map shape_of new) ≡ tree = ap tree_in (list-is program tree limit old new node none pushed) ∙ tree_in-shapes_of program tree in
    let few : size_of tree ≤ limit = (let h = pushed.few in omega arith) in (
      of_program,
      sym (ap₂ (λ ks id. trees.tree_of ks id) claimed.same root_is) ∙ whole.tree_is ∙ ap Some (sym tree_is),
      subst (λ t. size_of t ≤ limit) (sym tree_is) few,
    )

pub stop-answer : (program : Program) (kept : KeptTree) (facts : StoredFacts) (root limit : ℕ) (old new : List Node) (stop : GrowStop) → program ≡ kept.program → kept_facts_of kept.program facts ≡ kept.facts → root ≡ kept.root → IsKept kept
    → old ≡ [] → IsPushAnswer program (tree_at (kept_facts_of program facts) root) 0 limit old new (Err stop) → IsGrowAnswer kept limit (Err stop)
stop-answer program kept facts root limit old new Memory of_program are root_is is none many = tt
stop-answer program kept facts root limit old new TooLarge of_program are root_is is none many =
    let claimed = claim program kept facts root of_program are root_is is in
    let whole = known program (kept_facts_of program facts) root claimed.are_kept claimed.there in
    let empty : length old ≡ 0 = ap length none in
    (tree_at (kept_facts_of program facts) root, sym (ap₂ (λ ks id. trees.tree_of ks id) claimed.same root_is) ∙ whole.tree_is, omega arith)
