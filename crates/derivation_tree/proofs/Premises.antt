-- Where the premises of a node stand among all nodes, and what they share with it.
use Rattle.std.proofs.Common.{◌≡◌, ℕ, zero, suc, ◌+◌, ◌<◌, ◌≤◌, List, [], ◌∷◌, ◌++◌, length, Bool, true, false, ℤ, pos, Some, refl, sym, ◌∙◌, ap, subst, arith, length-append, append_assoc}
use Rattle.std.specs.Prelude.{if◌then◌else◌, slice_get, option_map}
use Rattle.std.specs.List.{AllByRecursion, range_with_len}
use Rattle.std.proofs.lemmas.Grind.{flat_map-append}
use Rattle.std.proofs.lemmas.Option.{slice_get-map}
use Rattle.lin_rows.proofs.Lists.{AllByRecursion-append}
use Rattle.transition_formula.specs.Program.{Program, Column, Thread, Edge}
use Rattle.transition_formula.specs.Rows.{is_kept}
use Rattle.horn_rules.specs.Home.{Home, State, Env as AtEdge}
use Rattle.horn_rules.specs.Instance as instance
use Rattle.horn_rules.specs.Case.{Case}
use Rattle.horn_rules.proofs.Cases.{shape}
use Rattle.derivation_tree.specs.Tree.{Tree, Guar, size_of, thread_at, edge_at, thread_of, root_home, step_thread, step_edge}
use Rattle.derivation_tree.specs.Variable.{Variable, After, Before, Input, same_variable}
use Rattle.derivation_tree.specs.Nodes.{Sharing, Moments, Node, shared, before_step, own_after, state_moments, moments_of, bare, at_before, node_at, nodes_of, rows_of}
use Rattle.derivation_tree.proofs.Values.{same-is}
use Rattle.derivation_tree.proofs.Below.{root-home}
use Rattle.derivation_tree.proofs.Shared.{HasEach, Keeps, moments-each, before-each}
use Rattle.derivation_tree.proofs.Derivations.{Derives, init, own, guar, env, inter, derives-home}
use Rattle.derivation_tree.proofs.Agree.{IsOwn, AlikeOff, AlikeMoments, SameWorth, AlikeAt, shared-same, made-alike, moments-same, at_before-same, own-same, size-positive, nodes-same}
use Rattle.derivation_tree.proofs.Spread.{unit_of, AtColumns, moments-columns, before-columns}
use Rattle.derivation_tree.proofs.Found.{Parts}
use Rattle.derivation_tree.proofs.NodeSums.{IsInner, AlikeAround, ToldAbove, Placed}
use Rattle.derivation_tree.proofs.NodeRows.{length-nodes}

-- ---- variables of fewer nodes

widen-inner : (first n a b : ℕ) (w : Variable) → first ≤ a → b < n → IsInner a b w → IsInner first n w
widen-inner first n a b (After m c) low high (p, q) = (omega arith, omega arith)
widen-inner first n a b (Before m c) low high (p, q) = (omega arith, omega arith)
widen-inner first n a b (Input m c) low high (p, q) = (omega arith, omega arith)

own-inner : (first n a b : ℕ) (w : Variable) → first ≤ a → b < n → IsOwn a b w → IsInner first n w
own-inner first n a b (After m c) low high its = let p = its.behind in let q = its.up_to in (omega arith, omega arith)
own-inner first n a b (Before m c) low high its = let p = its.behind in let q = its.up_to in (omega arith, omega arith)
own-inner first n a b (Input m c) low high its = let p = its.behind in let q = its.up_to in (omega arith, omega arith)

own-own : (first n a b : ℕ) (w : Variable) → first ≤ a → b < n → IsOwn a b w → IsOwn first n w
own-own first n a b w low high its = let p = its.behind in let q = its.up_to in record { behind = omega arith; up_to = omega arith }

-- the node's own variables are none of a premise's
off-node : (a b n : ℕ) (u v : Variable → ℤ) → AlikeOff a b u v → b < n → AlikeAt n u v
off-node a b n u v alike high = record {
  after = λ c. alike (After n c) (λ its. let p = its.up_to in omega arith);
  before = λ c. alike (Before n c) (λ its. let p = its.up_to in omega arith);
}

around-node : (a b n : ℕ) (u v : Variable → ℤ) → AlikeAround a b u v → b < n → AlikeAt n u v
around-node a b n u v alike high = record {
  after = λ c. alike (After n c) (λ inner. let p = inner.1 in omega arith);
  before = λ c. alike (Before n c) (λ inner. let p = inner.1 in omega arith);
}

off-moments : (program : Program) (share : Sharing) (tree : Tree) (first : ℕ) (above : Moments) (all front back : List Node) (a b : ℕ) (u v : Variable → ℤ) → Placed program share tree first above all front back
    → first ≤ a → b < first + size_of tree → AlikeOff a b u v → AlikeMoments u v (moments_of program share (first + size_of tree) tree above)
off-moments program share tree first above all front back a b u v placed low high alike =
    let n = first + size_of tree in
    moments-same program share n tree above u v (placed.around u v (λ w out. alike w (λ its. out (own-inner first n a b w low high its)))) (off-node a b n u v alike high)

around-moments : (program : Program) (share : Sharing) (tree : Tree) (first : ℕ) (above : Moments) (all front back : List Node) (a b : ℕ) (u v : Variable → ℤ) → Placed program share tree first above all front back
    → first ≤ a → b < first + size_of tree → AlikeAround a b u v → AlikeMoments u v (moments_of program share (first + size_of tree) tree above)
around-moments program share tree first above all front back a b u v placed low high alike =
    let n = first + size_of tree in
    moments-same program share n tree above u v (placed.around u v (λ w out. alike w (λ inner. out (widen-inner first n a b w low high inner)))) (around-node a b n u v alike high)

-- the rows outside, and those of the node
off-rows : (program : Program) (share : Sharing) (tree : Tree) (first : ℕ) (above : Moments) (all front back : List Node) (a b : ℕ) (u v : Variable → ℤ) → Placed program share tree first above all front back
    → first ≤ a → b < first + size_of tree → AlikeOff a b u v
    → AllByRecursion (SameWorth u v) (rows_of front) × AllByRecursion (SameWorth u v) (rows_of (node_at program (first + size_of tree) tree (moments_of program share (first + size_of tree) tree above) ∷ back))
off-rows program share tree first above all front back a b u v placed low high alike =
    let n = first + size_of tree in
    let moments = moments_of program share n tree above in
    let (one, other) = placed.outside u v (λ w out. alike w (λ its. out (own-own first n a b w low high its))) in (
      one,
      AllByRecursion-append (SameWorth u v) (node_at program n tree moments).rows (rows_of back)
          (own-same program n tree moments u v (off-moments program share tree first above all front back a b u v placed low high alike) (λ j. alike (Input n j) (λ its. let p = its.up_to in omega arith))) other,
    )

-- ---- premises

-- the only one
pub one-placed : (program : Program) (share : Sharing) (tree f : Tree) (first : ℕ) (above : Moments) (all front back : List Node) → Placed program share tree first above all front back → size_of tree ≡ size_of f + 1
    → nodes_of program share first tree above ≡ nodes_of program share first f (at_before (moments_of program share (first + size_of tree) tree above)) ++ node_at program (first + size_of tree) tree (moments_of program share (first + size_of tree) tree above) ∷ []
    → ToldAbove program f (at_before (moments_of program share (first + size_of tree) tree above))
    → Placed program share f first (at_before (moments_of program share (first + size_of tree) tree above)) all front (node_at program (first + size_of tree) tree (moments_of program share (first + size_of tree) tree above) ∷ back)
one-placed program share tree f first above all front back placed size shape told =
    let n = first + size_of tree in
    let moments = moments_of program share n tree above in
    let node = node_at program n tree moments in
    let below = nodes_of program share first f (at_before moments) in
    record {
      split = placed.split ∙ ap (λ l. front ++ (l ++ back)) shape ∙ ap (λ l. front ++ l) (append_assoc below (node ∷ []) back);
      first_is = placed.first_is;
      each = before-each program moments (moments-each program share n tree above placed.each);
      columns = before-columns moments (moments-columns program share n tree above placed.columns);
      around = λ u v alike. at_before-same u v moments (around-moments program share tree first above all front back first (first + size_of f) u v placed (omega arith) (omega arith) alike);
      outside = λ u v alike. off-rows program share tree first above all front back first (first + size_of f) u v placed (omega arith) (omega arith) alike;
      told = told;
    }

-- the first of two
pub first-placed : (program : Program) (share : Sharing) (tree f t : Tree) (first : ℕ) (above beside : Moments) (all front back : List Node) → Placed program share tree first above all front back → size_of tree ≡ size_of f + size_of t + 1
    → ((u v : Variable → ℤ) → AlikeMoments u v (moments_of program share (first + size_of tree) tree above) → AlikeMoments u v beside)
    → nodes_of program share first tree above ≡ nodes_of program share first f (at_before (moments_of program share (first + size_of tree) tree above))
    ++ (nodes_of program share (first + size_of f) t beside ++ node_at program (first + size_of tree) tree (moments_of program share (first + size_of tree) tree above) ∷ [])
    → ToldAbove program f (at_before (moments_of program share (first + size_of tree) tree above))
    → Placed program share f first (at_before (moments_of program share (first + size_of tree) tree above)) all front
    (nodes_of program share (first + size_of f) t beside ++ node_at program (first + size_of tree) tree (moments_of program share (first + size_of tree) tree above) ∷ back)
first-placed program share tree f t first above beside all front back placed size alike_beside shape told =
    let n = first + size_of tree in
    let moments = moments_of program share n tree above in
    let node = node_at program n tree moments in
    let below = nodes_of program share first f (at_before moments) in
    let others = nodes_of program share (first + size_of f) t beside in
    let positive = size-positive t in
    record {
      split = placed.split ∙ ap (λ l. front ++ (l ++ back)) shape ∙ ap (λ l. front ++ l) (append_assoc below (others ++ node ∷ []) back ∙ ap (λ l. below ++ l) (append_assoc others (node ∷ []) back));
      first_is = placed.first_is;
      each = before-each program moments (moments-each program share n tree above placed.each);
      columns = before-columns moments (moments-columns program share n tree above placed.columns);
      around = λ u v alike. at_before-same u v moments (around-moments program share tree first above all front back first (first + size_of f) u v placed (omega arith) (omega arith) alike);
      outside = λ u v alike.
          let (one, other) = off-rows program share tree first above all front back first (first + size_of f) u v placed (omega arith) (omega arith) alike in
          let mine = off-moments program share tree first above all front back first (first + size_of f) u v placed (omega arith) (omega arith) alike in
          let side = nodes-same program share t (first + size_of f) beside u v (λ w its. alike w (λ low. let p = its.behind in let q = low.up_to in omega arith))
          (moments-same program share (first + size_of f + size_of t) t beside u v (alike_beside u v mine) (off-node first (first + size_of f) (first + size_of f + size_of t) u v alike (omega arith))) in
          (one, subst (AllByRecursion (SameWorth u v)) (sym (flat_map-append (λ (k : Node). k.rows) others (node ∷ back))) (AllByRecursion-append (SameWorth u v) (rows_of others) (rows_of (node ∷ back)) side other));
      told = told;
    }

-- the second
pub second-placed : (program : Program) (share : Sharing) (tree f t : Tree) (first : ℕ) (above beside : Moments) (all front back : List Node) → Placed program share tree first above all front back → size_of tree ≡ size_of f + size_of t + 1
    → ((u v : Variable → ℤ) → AlikeMoments u v (moments_of program share (first + size_of tree) tree above) → AlikeMoments u v beside)
    → HasEach program beside → AtColumns beside
    → nodes_of program share first tree above ≡ nodes_of program share first f (at_before (moments_of program share (first + size_of tree) tree above))
    ++ (nodes_of program share (first + size_of f) t beside ++ node_at program (first + size_of tree) tree (moments_of program share (first + size_of tree) tree above) ∷ [])
    → ToldAbove program t beside
    → Placed program share t (first + size_of f) beside all (front ++ nodes_of program share first f (at_before (moments_of program share (first + size_of tree) tree above)))
    (node_at program (first + size_of tree) tree (moments_of program share (first + size_of tree) tree above) ∷ back)
second-placed program share tree f t first above beside all front back placed size alike_beside each columns shape told =
    let n = first + size_of tree in
    let moments = moments_of program share n tree above in
    let node = node_at program n tree moments in
    let below = nodes_of program share first f (at_before moments) in
    let others = nodes_of program share (first + size_of f) t beside in
    let a = first + size_of f in
    let b = first + size_of f + size_of t in
    let positive = size-positive f in
    record {
      split = placed.split ∙ ap (λ l. front ++ (l ++ back)) shape
          ∙ ap (λ l. front ++ l) (append_assoc below (others ++ node ∷ []) back ∙ ap (λ l. below ++ l) (append_assoc others (node ∷ []) back)) ∙ sym (append_assoc front below (others ++ node ∷ back));
      first_is = omega (arith, placed.first_is, length-append front below, length-nodes program share f first (at_before moments));
      each = each;
      columns = columns;
      around = λ u v alike. alike_beside u v (around-moments program share tree first above all front back a b u v placed (omega arith) (omega arith) alike);
      outside = λ u v alike.
          let (one, other) = off-rows program share tree first above all front back a b u v placed (omega arith) (omega arith) alike in
          let mine = off-moments program share tree first above all front back a b u v placed (omega arith) (omega arith) alike in
          let node_f : AlikeAt (first + size_of f) u v = record {
            after = λ c. alike (After (first + size_of f) c) (λ its. let p = its.behind in omega arith);
            before = λ c. alike (Before (first + size_of f) c) (λ its. let p = its.behind in omega arith);
          } in
          let low = nodes-same program share f first (at_before moments) u v (λ w its. alike w (λ high. let p = its.up_to in let q = high.behind in omega arith))
          (moments-same program share (first + size_of f) f (at_before moments) u v (at_before-same u v moments mine) node_f) in
          (subst (AllByRecursion (SameWorth u v)) (sym (flat_map-append (λ (k : Node). k.rows) front below)) (AllByRecursion-append (SameWorth u v) (rows_of front) (rows_of below) one low), other);
      told = told;
    }

-- ---- columns that a step changes have two variables

before_step-is : (n : ℕ) (thread : Thread) (edge : Edge) (k c : ℕ) (after : List Variable) (b : Variable) → is_kept thread.counter edge (k + c) ≡ false → slice_get (before_step n thread edge k after) c ≡ Some b → b ≡ Before n (k + c)
before_step-is n thread edge k zero [] b out is = cc
before_step-is n thread edge k (suc c) [] b out is = cc
before_step-is n thread edge k zero (a ∷ after) b out is =
    let same : k + 0 ≡ k = omega arith in
    let here : Some (Before n k) ≡ Some b = sym (ap (λ (x : Bool). Some (if x then a else Before n k)) (ap (is_kept thread.counter edge) (sym same) ∙ out)) ∙ is in
    let one : Before n k ≡ b = cc in
    sym one ∙ ap (Before n) (sym same)
before_step-is n thread edge k (suc c) (a ∷ after) b out is =
    let same : suc k + c ≡ k + suc c = omega arith in
    before_step-is n thread edge (suc k) c after b (ap (is_kept thread.counter edge) same ∙ out) is ∙ ap (Before n) same

unit-apart : (w a : Variable) → unit_of w a ≡ pos 0 → same_variable w a ≡ false
unit-apart w a e = at (same_variable w a) e
  where
    at : (b : Bool) → (if b then pos 1 else pos 0) ≡ pos 0 → b ≡ false
    at false h = refl
    at true h = cc

unit-around : (first n c : ℕ) → first < n → AlikeAround first n (unit_of (Before n c)) (λ x. pos 0)
unit-around first n c h x out = at (same_variable (Before n c) x) refl
  where
    at : (b : Bool) → same_variable (Before n c) x ≡ b → (if b then pos 1 else pos 0) ≡ pos 0
    at false e = refl
    at true e = absurd (out (subst (IsInner first n) (same-is (Before n c) x e) (h, omega arith)))

pub state-parts : (program : Program) (share : Sharing) (tree : Tree) (first : ℕ) (above : Moments) (all front back : List Node) → Placed program share tree first above all front back
    → Parts (thread_at program (step_thread program tree)) (edge_at program (step_thread program tree) (step_edge program tree)) (state_moments program share (first + size_of tree) tree above)
state-parts program share tree first above all front back placed c b a out is there =
    let n = first + size_of tree in
    let positive = size-positive tree in
    let thread = thread_at program (step_thread program tree) in
    let edge = edge_at program (step_thread program tree) (step_edge program tree) in
    let after = (state_moments program share n tree above).after in
    let none : 0 + c ≡ c = omega arith in
    let w = Before n c in
    let is_before = before_step-is n thread edge 0 c after b (ap (is_kept thread.counter edge) none ∙ out) is ∙ ap (Before n) none in
    let alike = placed.around (unit_of w) (λ x. pos 0) (unit-around first n c (omega arith)) in
    let list = shared-same share (root_home program tree) program.columns above.after (own_after program n) (unit_of w) (λ x. pos 0) alike.after (made-alike (unit_of w) (λ x. pos 0) (After n) (range_with_len 0 (length program.columns)) (λ j. refl)) in
    let at_c : Some (unit_of w a) ≡ Some (pos 0) = sym (ap (option_map (unit_of w)) there) ∙ sym (slice_get-map (unit_of w) after c) ∙ ap (λ l. slice_get l c) list ∙ slice_get-map (λ x. pos 0) after c ∙ ap (option_map (λ x. pos 0)) there in
    ap (λ x. same_variable x a) is_before ∙ unit-apart w a cc

shared-parts : (share : Sharing) (home : Home) (columns : List Column) (c : ℕ) (ab aa ob oa : List Variable) (b a : Variable)
    → ((x y : Variable) → slice_get ab c ≡ Some x → slice_get aa c ≡ Some y → same_variable x y ≡ false)
    → ((x y : Variable) → slice_get ob c ≡ Some x → slice_get (shared share home columns aa oa) c ≡ Some y → same_variable x y ≡ false)
    → slice_get (shared share home columns ab ob) c ≡ Some b → slice_get (shared share home columns aa oa) c ≡ Some a → same_variable b a ≡ false
shared-parts share home [] zero ab aa ob oa b a p q is there = cc
shared-parts share home [] (suc c) ab aa ob oa b a p q is there = cc
shared-parts share home (column ∷ columns) zero [] aa ob oa b a p q is there = cc
shared-parts share home (column ∷ columns) (suc c) [] aa ob oa b a p q is there = cc
shared-parts share home (column ∷ columns) zero (x ∷ ab) aa [] oa b a p q is there = cc
shared-parts share home (column ∷ columns) (suc c) (x ∷ ab) aa [] oa b a p q is there = cc
shared-parts share home (column ∷ columns) zero (x ∷ ab) [] (o ∷ ob) oa b a p q is there = cc
shared-parts share home (column ∷ columns) (suc c) (x ∷ ab) [] (o ∷ ob) oa b a p q is there = cc
shared-parts share home (column ∷ columns) zero (x ∷ ab) (y ∷ aa) (o ∷ ob) [] b a p q is there = cc
shared-parts share home (column ∷ columns) (suc c) (x ∷ ab) (y ∷ aa) (o ∷ ob) [] b a p q is there = cc
shared-parts share home (column ∷ columns) (suc c) (x ∷ ab) (y ∷ aa) (o ∷ ob) (l ∷ oa) b a p q is there = shared-parts share home columns c ab aa ob oa b a p q is there
shared-parts share home (column ∷ columns) zero (x ∷ ab) (y ∷ aa) (o ∷ ob) (l ∷ oa) b a p q is there = at (share home column.owner) q is there
  where
    at : (s : Bool) → ((h k : Variable) → Some o ≡ Some h → Some (if s then y else l) ≡ Some k → same_variable h k ≡ false) → Some (if s then x else o) ≡ Some b → Some (if s then y else l) ≡ Some a → same_variable b a ≡ false
    at true r e f = p b a e f
    at false r e f = r b a e f

pub told-parts : (program : Program) (share : Sharing) (f : Tree) (e first : ℕ) (above : Moments) (all front back : List Node) → Placed program share (Guar f e) first above all front back
    → Parts (thread_at program (step_thread program (Guar f e))) (edge_at program (step_thread program (Guar f e)) e) (moments_of program share (first + size_of (Guar f e)) (Guar f e) above)
told-parts program share f e first above all front back placed c b a out is there =
    let n = first + size_of (Guar f e) in
    let inner = state_moments program share n (Guar f e) above in
    shared-parts share (root_home program (Guar f e)) program.columns c above.before above.after inner.before (own_after program n) b a
    (λ x y p q. placed.told.1 c x y out p q) (λ x y p q. state-parts program share (Guar f e) first above all front back placed c x y out p q) is there

-- ---- what is told to a premise

pub state-told : (program : Program) (tree : Tree) (home : Home) (i l : ℕ) (moments : Moments) → Derives program tree home → home ≡ State i l → ToldAbove program tree moments
state-told program tree home i l moments (init j given there case same) is = tt
state-told program tree home i l moments (own f e from given there h case same) is = tt
state-told program tree home i l moments (env f t from told given there h k case same) is = tt
state-told program tree home i l moments (inter f g e from other given there h k case same) is = tt
state-told program tree home i l moments (guar f e from given there h case same) is =
    let (step, shaped) = shape program (instance.Guar (bare from) e) given case in
    let wrong : AtEdge step.i e ≡ State i l = sym (ap (λ (c : Case). c.target) shaped) ∙ same ∙ is in cc

pub edge-told : (program : Program) (tree : Tree) (home : Home) (i m : ℕ) (moments : Moments) → Derives program tree home → home ≡ AtEdge i m
    → Keeps (thread_at program i) (edge_at program i m) moments → Parts (thread_at program i) (edge_at program i m) moments → ToldAbove program tree moments
edge-told program tree home i m moments (init j given there case same) is keeps parts = tt
edge-told program tree home i m moments (own f e from given there h case same) is keeps parts = tt
edge-told program tree home i m moments (env f t from told given there h k case same) is keeps parts = tt
edge-told program tree home i m moments (inter f g e from other given there h k case same) is keeps parts = tt
edge-told program tree home i m moments (guar f e from given there h case same) is keeps parts =
    let (step, shaped) = shape program (instance.Guar (bare from) e) given case in
    let ends : AtEdge step.i e ≡ AtEdge i m = sym (ap (λ (c : Case). c.target) shaped) ∙ same ∙ is in
    let number : step.i ≡ i = cc in
    let place : e ≡ m = cc in
    let thread : thread_of (root_home program f) ≡ i = ap thread_of (root-home program f (State step.i step.edge.from) (derives-home program f from h ∙ ap Some step.home_is)) ∙ number in (
      subst (λ j. Keeps (thread_at program j) (edge_at program j e) moments) (sym thread) (subst (λ p. Keeps (thread_at program i) (edge_at program i p) moments) (sym place) keeps),
      subst (λ j. Parts (thread_at program j) (edge_at program j e) moments) (sym thread) (subst (λ p. Parts (thread_at program i) (edge_at program i p) moments) (sym place) parts),
    )
