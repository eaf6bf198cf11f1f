-- The nodes of a tree as a list.
use Rattle.std.proofs.Common.{◌≡◌, ℕ, ◌+◌, ◌≤◌, ◌<◌, List, [], ◌∷◌, ◌++◌, map, length, Some, None, Result, Ok, Err, refl, sym, ◌∙◌, ap, ap₂, arith, append_assoc, length-append}
use Rattle.std.proofs.lemmas.List.{map-append, length-map}
use Rattle.transition_formula.specs.Program.{Program}
use Rattle.horn_rules.specs.Home.{Home}
use Rattle.horn_rules.specs.Instance as instance
use Rattle.horn_rules.specs.Instance.{Instance}
use Rattle.horn_rules.specs.Target.{target_at}
use Rattle.derivation_tree.specs.Tree.{Tree, Init, Own, Guar, Env, Inter, size_of, root_home, step_thread, step_edge, thread_of, place_of, IsTreeOf}
use Rattle.derivation_tree.proofs.Below.{root-home}
use Rattle.cex_tree.specs.declared.node.Kind.{Kind}
use Rattle.cex_tree.specs.declared.node.Kind.TheVariants as kinds
use Rattle.cex_tree.specs.declared.node.Node.{Node}
use Rattle.cex_tree.specs.declared.stops.GrowStop.{GrowStop}
use Rattle.cex_tree.specs.declared.stops.GrowStop.TheVariants.{TooLarge, Memory}
use Rattle.cex_tree.specs.inside.TreeCode.{tokens_of, tree_of_tokens, tree_of_tokens-tokens_of}
use Rattle.cex_tree.specs.inside.Flat.{Shape, shape_of, root_shape, shapes_of, token_by, tree_in}
use Rattle.cex_tree.specs.inside.Growing.{IsInitNode, IsStepNode, IsBesideNode, IsAppended, ArePushed, IsPushAnswer}

-- ---- the list of a tree

abbrev token : Shape → ℕ × ℕ
token s = token_by s.kind s.thread s.edge

two-mapped : (xs ys : List Shape) (s : Shape) → map token (xs ++ (ys ++ s ∷ [])) ≡ map token xs ++ (map token ys ++ token s ∷ [])
two-mapped xs ys s = map-append token xs (ys ++ s ∷ []) ∙ ap (λ l. map token xs ++ l) (map-append token ys (s ∷ []))

tokens-shapes_of : (program : Program) (tree : Tree) → map token (shapes_of program tree) ≡ tokens_of tree
tokens-shapes_of program (Init i) = refl
tokens-shapes_of program (Own f e) = map-append token (shapes_of program f) (root_shape program (Own f e) ∷ []) ∙ ap (λ l. l ++ (1, e) ∷ []) (tokens-shapes_of program f)
tokens-shapes_of program (Guar f e) = map-append token (shapes_of program f) (root_shape program (Guar f e) ∷ []) ∙ ap (λ l. l ++ (2, e) ∷ []) (tokens-shapes_of program f)
tokens-shapes_of program (Env f t) =
    two-mapped (shapes_of program f) (shapes_of program t) (root_shape program (Env f t)) ∙ ap₂ (λ l m. l ++ (m ++ (3, 0) ∷ [])) (tokens-shapes_of program f) (tokens-shapes_of program t)
tokens-shapes_of program (Inter f g e) =
    two-mapped (shapes_of program f) (shapes_of program g) (root_shape program (Inter f g e)) ∙ ap₂ (λ l m. l ++ (m ++ (4, e) ∷ [])) (tokens-shapes_of program f) (tokens-shapes_of program g)

pub tree_in-shapes_of : (program : Program) (tree : Tree) → tree_in (shapes_of program tree) ≡ tree
tree_in-shapes_of program tree = ap tree_of_tokens (tokens-shapes_of program tree) ∙ tree_of_tokens-tokens_of tree

pub length-shapes_of : (program : Program) (tree : Tree) → length (shapes_of program tree) ≡ size_of tree
length-shapes_of program (Init i) = refl
length-shapes_of program (Own f e) = length-append (shapes_of program f) (root_shape program (Own f e) ∷ []) ∙ ap (λ k. k + 1) (length-shapes_of program f)
length-shapes_of program (Guar f e) = length-append (shapes_of program f) (root_shape program (Guar f e) ∷ []) ∙ ap (λ k. k + 1) (length-shapes_of program f)
length-shapes_of program (Env f t) =
    let one = length-shapes_of program f in
    let two = length-shapes_of program t in
    omega (arith, length-append (shapes_of program f) (shapes_of program t ++ root_shape program (Env f t) ∷ []), length-append (shapes_of program t) (root_shape program (Env f t) ∷ []))
length-shapes_of program (Inter f g e) =
    let one = length-shapes_of program f in
    let two = length-shapes_of program g in
    omega (arith, length-append (shapes_of program f) (shapes_of program g ++ root_shape program (Inter f g e) ∷ []), length-append (shapes_of program g) (root_shape program (Inter f g e) ∷ []))

-- ---- the root over its premises

shape-is : (s : Shape) (kind : Kind) (home : Home) (thread edge size : ℕ) → s.kind ≡ kind → s.home ≡ home → s.thread ≡ thread → s.edge ≡ edge → s.size ≡ size
    → s ≡ record { kind = kind; home = home; thread = thread; edge = edge; size = size }
shape-is s kind home thread edge size k h t e n =
    ap (λ x. record { kind = x; home = s.home; thread = s.thread; edge = s.edge; size = s.size }) k
    ∙ ap (λ x. record { kind = kind; home = x; thread = s.thread; edge = s.edge; size = s.size }) h
    ∙ ap (λ x. record { kind = kind; home = home; thread = x; edge = s.edge; size = s.size }) t
    ∙ ap (λ x. record { kind = kind; home = home; thread = thread; edge = x; size = s.size }) e
    ∙ ap (λ x. record { kind = kind; home = home; thread = thread; edge = edge; size = x }) n

-- the node of a start, and of steps over premises
pub init-shape : (program : Program) (i : ℕ) (home : Home) (node : Shape) → IsTreeOf program (Init i) home → IsInitNode program (instance.Init i) i node → node ≡ root_shape program (Init i)
init-shape program i home node of_program is =
    let same : Some node.home ≡ Some home = sym is.home_is ∙ of_program in
    let at : node.home ≡ home = cc in
    shape-is node kinds.Init (root_home program (Init i)) i 0 1 is.kind_is (at ∙ sym (root-home program (Init i) home of_program)) is.thread_is is.edge_is is.size_is

pub own-shape : (program : Program) (f : Tree) (p e : ℕ) (h home : Home) (first node : Shape) → IsTreeOf program f h → IsTreeOf program (Own f e) home → first ≡ root_shape program f
    → IsStepNode program kinds.Own (instance.Own p e) first e node → node ≡ root_shape program (Own f e)
own-shape program f p e h home first node below of_program root is =
    let there : first.home ≡ h = ap (λ (s : Shape). s.home) root ∙ root-home program f h below in
    let same : Some node.home ≡ Some home = sym is.home_is ∙ ap (λ o. target_at program (instance.Own p e) o None) (ap Some there ∙ sym below) ∙ of_program in
    let at : node.home ≡ home = cc in
    shape-is node kinds.Own (root_home program (Own f e)) (step_thread program (Own f e)) e (size_of f + 1) is.kind_is (at ∙ sym (root-home program (Own f e) home of_program))
    (is.thread_is ∙ ap (λ (s : Shape). thread_of s.home) root) is.edge_is (is.size_is ∙ ap (λ (s : Shape). s.size + 1) root)

pub guar-shape : (program : Program) (f : Tree) (p e : ℕ) (h home : Home) (first node : Shape) → IsTreeOf program f h → IsTreeOf program (Guar f e) home → first ≡ root_shape program f
    → IsStepNode program kinds.Guar (instance.Guar p e) first e node → node ≡ root_shape program (Guar f e)
guar-shape program f p e h home first node below of_program root is =
    let there : first.home ≡ h = ap (λ (s : Shape). s.home) root ∙ root-home program f h below in
    let same : Some node.home ≡ Some home = sym is.home_is ∙ ap (λ o. target_at program (instance.Guar p e) o None) (ap Some there ∙ sym below) ∙ of_program in
    let at : node.home ≡ home = cc in
    shape-is node kinds.Guar (root_home program (Guar f e)) (step_thread program (Guar f e)) e (size_of f + 1) is.kind_is (at ∙ sym (root-home program (Guar f e) home of_program))
    (is.thread_is ∙ ap (λ (s : Shape). thread_of s.home) root) is.edge_is (is.size_is ∙ ap (λ (s : Shape). s.size + 1) root)

pub env-shape : (program : Program) (f t : Tree) (p q e : ℕ) (h k home : Home) (first second node : Shape) → IsTreeOf program f h → IsTreeOf program t k → IsTreeOf program (Env f t) home
    → first ≡ root_shape program f → second ≡ root_shape program t → e ≡ place_of second.home
    → IsBesideNode program kinds.Env (instance.Env p q) first second e node → node ≡ root_shape program (Env f t)
env-shape program f t p q e h k home first second node below beside of_program root other edge is =
    let there : first.home ≡ h = ap (λ (s : Shape). s.home) root ∙ root-home program f h below in
    let told : second.home ≡ k = ap (λ (s : Shape). s.home) other ∙ root-home program t k beside in
    let same : Some node.home ≡ Some home = sym is.home_is ∙ ap₂ (λ o m. target_at program (instance.Env p q) o m) (ap Some there ∙ sym below) (ap Some told ∙ sym beside) ∙ of_program in
    let at : node.home ≡ home = cc in
    shape-is node kinds.Env (root_home program (Env f t)) (step_thread program (Env f t)) (step_edge program (Env f t)) (size_of f + size_of t + 1) is.kind_is (at ∙ sym (root-home program (Env f t) home of_program))
    (is.thread_is ∙ ap (λ (s : Shape). thread_of s.home) other) (is.edge_is ∙ edge ∙ ap (λ (s : Shape). place_of s.home) other) (is.size_is ∙ ap₂ (λ (s u : Shape). s.size + u.size + 1) root other)

pub inter-shape : (program : Program) (f g : Tree) (p q e : ℕ) (h k home : Home) (first second node : Shape) → IsTreeOf program f h → IsTreeOf program g k → IsTreeOf program (Inter f g e) home
    → first ≡ root_shape program f → second ≡ root_shape program g
    → IsBesideNode program kinds.Inter (instance.Inter p q e) first second e node → node ≡ root_shape program (Inter f g e)
inter-shape program f g p q e h k home first second node below beside of_program root other is =
    let there : first.home ≡ h = ap (λ (s : Shape). s.home) root ∙ root-home program f h below in
    let told : second.home ≡ k = ap (λ (s : Shape). s.home) other ∙ root-home program g k beside in
    let same : Some node.home ≡ Some home = sym is.home_is ∙ ap₂ (λ o m. target_at program (instance.Inter p q e) o m) (ap Some there ∙ sym below) (ap Some told ∙ sym beside) ∙ of_program in
    let at : node.home ≡ home = cc in
    shape-is node kinds.Inter (root_home program (Inter f g e)) (step_thread program (Inter f g e)) e (size_of f + size_of g + 1) is.kind_is (at ∙ sym (root-home program (Inter f g e) home of_program))
    (is.thread_is ∙ ap (λ (s : Shape). thread_of s.home) other) is.edge_is (is.size_is ∙ ap₂ (λ (s u : Shape). s.size + u.size + 1) root other)

-- ---- answers

pub pushed-length : (program : Program) (tree : Tree) (owed limit : ℕ) (old new : List Node) (root : Node) → ArePushed program tree owed limit old new root → length new ≡ length old + size_of tree
pushed-length program tree owed limit old new root pushed =
    sym (length-map new shape_of) ∙ ap length pushed.pushed ∙ length-append (map shape_of old) (shapes_of program tree) ∙ ap₂ (λ a b. a + b) (length-map old shape_of) (length-shapes_of program tree)

pub leaf-pushed : (program : Program) (tree : Tree) (owed limit : ℕ) (old new : List Node) (node : Node) (result : Result Node GrowStop) → shapes_of program tree ≡ root_shape program tree ∷ [] → size_of tree ≡ 1
    → length old + owed < limit → shape_of node ≡ root_shape program tree → IsAppended old new node result → IsPushAnswer program tree owed limit old new result
leaf-pushed program tree owed limit old new node (Err TooLarge) shapes size few is appended = absurd appended
leaf-pushed program tree owed limit old new node (Err Memory) shapes size few is appended = tt
leaf-pushed program tree owed limit old new node (Ok root) shapes size few is appended = record {
  pushed = ap (map shape_of) appended.0 ∙ map-append shape_of old (node ∷ []) ∙ ap (λ s. map shape_of old ++ s ∷ []) is ∙ ap (λ l. map shape_of old ++ l) (sym shapes);
  root_is = ap shape_of appended.1 ∙ is;
  few = omega arith;
}

pub one-pushed : (program : Program) (tree f : Tree) (owed limit : ℕ) (old mid new : List Node) (first node : Node) (result : Result Node GrowStop)
    → shapes_of program tree ≡ shapes_of program f ++ root_shape program tree ∷ [] → size_of tree ≡ size_of f + 1 → ArePushed program f (owed + 1) limit old mid first
    → shape_of node ≡ root_shape program tree → IsAppended mid new node result → IsPushAnswer program tree owed limit old new result
one-pushed program tree f owed limit old mid new first node (Err TooLarge) shapes size pushed is appended = absurd appended
one-pushed program tree f owed limit old mid new first node (Err Memory) shapes size pushed is appended = tt
one-pushed program tree f owed limit old mid new first node (Ok root) shapes size pushed is appended = record {
  pushed = ap (map shape_of) appended.0 ∙ map-append shape_of mid (node ∷ []) ∙ ap₂ (λ l s. l ++ s ∷ []) pushed.pushed is
      ∙ append_assoc (map shape_of old) (shapes_of program f) (root_shape program tree ∷ []) ∙ ap (λ l. map shape_of old ++ l) (sym shapes);
  root_is = ap shape_of appended.1 ∙ is;
  few = let h = pushed.few in omega arith;
}

pub two-pushed : (program : Program) (tree f t : Tree) (owed limit : ℕ) (old mid late new : List Node) (first second node : Node) (result : Result Node GrowStop)
    → shapes_of program tree ≡ shapes_of program f ++ (shapes_of program t ++ root_shape program tree ∷ []) → size_of tree ≡ size_of f + size_of t + 1
    → ArePushed program f (owed + 1) limit old mid first → ArePushed program t (owed + 1) limit mid late second
    → shape_of node ≡ root_shape program tree → IsAppended late new node result → IsPushAnswer program tree owed limit old new result
two-pushed program tree f t owed limit old mid late new first second node (Err TooLarge) shapes size pushed beside is appended = absurd appended
two-pushed program tree f t owed limit old mid late new first second node (Err Memory) shapes size pushed beside is appended = tt
two-pushed program tree f t owed limit old mid late new first second node (Ok root) shapes size pushed beside is appended = record {
  pushed = ap (map shape_of) appended.0 ∙ map-append shape_of late (node ∷ []) ∙ ap₂ (λ l s. l ++ s ∷ []) (beside.pushed ∙ ap (λ l. l ++ shapes_of program t) pushed.pushed) is
      ∙ append_assoc (map shape_of old ++ shapes_of program f) (shapes_of program t) (root_shape program tree ∷ [])
      ∙ append_assoc (map shape_of old) (shapes_of program f) (shapes_of program t ++ root_shape program tree ∷ []) ∙ ap (λ l. map shape_of old ++ l) (sym shapes);
  root_is = ap shape_of appended.1 ∙ is;
  few = let h = beside.few in let k = pushed-length program f (owed + 1) limit old mid first pushed in omega arith;
}

pub stop-above : (program : Program) (tree f : Tree) (owed limit : ℕ) (old mid new : List Node) (stop : GrowStop) → size_of f + 1 ≤ size_of tree → IsPushAnswer program f (owed + 1) limit old mid (Err stop)
    → IsPushAnswer program tree owed limit old new (Err stop)
stop-above program tree f owed limit old mid new TooLarge size many = omega arith
stop-above program tree f owed limit old mid new Memory size many = tt

pub stop-beside : (program : Program) (tree f t : Tree) (owed limit : ℕ) (old mid late new : List Node) (first : Node) (stop : GrowStop) → size_of tree ≡ size_of f + size_of t + 1 → ArePushed program f (owed + 1) limit old mid first
    → IsPushAnswer program t (owed + 1) limit mid late (Err stop) → IsPushAnswer program tree owed limit old new (Err stop)
stop-beside program tree f t owed limit old mid late new first TooLarge size pushed many = let k = pushed-length program f (owed + 1) limit old mid first pushed in omega arith
stop-beside program tree f t owed limit old mid late new first Memory size pushed many = tt

pub pushed-room : (program : Program) (tree : Tree) (owed limit : ℕ) (old new : List Node) (root : Node) → ArePushed program tree owed limit old new root → length new + owed ≤ limit
pushed-room program tree owed limit old new root pushed =
    let k = pushed-length program tree owed limit old new root pushed in
    let h = pushed.few in
    omega arith

pub size-positive : (tree : Tree) → 1 ≤ size_of tree
size-positive (Init i) = omega arith
size-positive (Own f e) = omega arith
size-positive (Guar f e) = omega arith
size-positive (Env f t) = omega arith
size-positive (Inter f g e) = omega arith
