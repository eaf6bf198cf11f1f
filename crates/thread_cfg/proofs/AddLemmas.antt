-- What is added in turn.
use Rattle.std.proofs.Common.{◌≡◌, ℕ, ◌+◌, false, List, [], ◌∷◌, ◌++◌, length, map, Option, Some, None, Err, refl, sym, ap, subst, ◌∙◌, arith}
use Rattle.std.specs.Prelude.{flat_map}
use Rattle.std.proofs.lemmas.List.{append-nil, append_assoc}
use Rattle.thr_base.specs.declared.stops.Refusal.{Refusal}
use Rattle.thr_base.specs.Refusals.{coefficient}
use Rattle.c_check.specs.First.{earlier, first_of, of_two}
use Rattle.transition_formula.specs.Program.{Edge}
use Rattle.transition_formula.specs.Stored.{edge_of}
use Rattle.thread_cfg.specs.declared.thread.Found.{Found}
use Rattle.thread_cfg.specs.declared.running.Running.{Running}
use Rattle.thread_cfg.specs.Source.{Frame}
use Rattle.c_check.specs.declared.operation.Mark.{Mark}
use Rattle.c_check.specs.declared.operation.Mark.TheVariants as mark
use Rattle.c_check.specs.Plan.{Arithmetic}
use Rattle.thread_cfg.specs.Action.{Action, Alternative, test_action}
use Rattle.thread_cfg.specs.Edge.{alternative_edge}
use Rattle.thread_cfg.specs.Graph.{action_edges, action_refusals, edge_made, edges_from, is_too_large, refusals_from, unfit}
use Rattle.thread_cfg.specs.inside.Adds.{Adds, AddsActions, AddsWays, way_edges, way_refusals}
use Rattle.thread_cfg.specs.inside.Meant.{frame_of}

-- ---- the first refusal

-- the earlier of three refusals, whichever two are compared first
of_two-of_two : (d e f : Refusal) → of_two d (of_two e f) ≡ of_two (of_two d e) f
of_two-of_two d e f = grind arith

-- the earlier of three that may be missing, whichever two are compared first
earlier-earlier : (a b c : Option Refusal) → earlier a (earlier b c) ≡ earlier (earlier a b) c
earlier-earlier None b c = refl
earlier-earlier (Some d) None c = refl
earlier-earlier (Some d) (Some e) None = refl
earlier-earlier (Some d) (Some e) (Some f) = ap Some (of_two-of_two d e f)

-- The first refusal of two lists is the earlier one of their first ones.
pub first_of-append : (ds es : List Refusal) → first_of (ds ++ es) ≡ earlier (first_of ds) (first_of es)
first_of-append [] es = refl
first_of-append (d ∷ ds) es = ap (earlier (Some d)) (first_of-append ds es) ∙ earlier-earlier (Some d) (first_of ds) (first_of es)

-- ---- in turn

-- a list is empty where a longer one is
front-nil : {X : Type 0} → (xs ys : List X) → xs ++ ys ≡ [] → xs ≡ []
front-nil [] ys e = refl
front-nil (x ∷ xs) ys e = absurd cc

-- where a list joined of two is empty, so is the second
back-nil : {X : Type 0} → (xs ys : List X) → xs ++ ys ≡ [] → ys ≡ []
back-nil [] ys e = e
back-nil (x ∷ xs) ys e = absurd cc

-- nothing is added
pub Adds-none : (f : Found) → Adds f f [] []
Adds-none f = record {
  refusal_is = λ done e. e ∙ ap first_of (sym (append-nil done));
  edges_are = λ e. sym (append-nil (map edge_of f.edges.items));
}

-- one thing, and then another
pub Adds-then : (a b c : Found) (rs ss : List Refusal) (es fs : List Edge) → Adds a b rs es → Adds b c ss fs → Adds a c (rs ++ ss) (es ++ fs)
Adds-then a b c rs ss es fs one other = record {
  refusal_is = λ done e. other.refusal_is (done ++ rs) (one.refusal_is done e) ∙ ap first_of (append_assoc done rs ss);
  edges_are = λ e. other.edges_are (back-nil rs ss e) ∙ ap (λ l. l ++ fs) (one.edges_are (front-nil rs ss e)) ∙ append_assoc (map edge_of a.edges.items) es fs;
}

-- what is added by other names
pub Adds-same : (a b : Found) (rs ss : List Refusal) (es fs : List Edge) → rs ≡ ss → es ≡ fs → Adds a b rs es → Adds a b ss fs
Adds-same a b rs ss es fs e f h = subst (λ l. Adds a b l fs) e (subst (λ l. Adds a b rs l) f h)

-- ---- ways

-- over joined lists, it is joined of what both give
flat_map-append : {X Y : Type 0} (f : X → List Y) → (xs ys : List X) → flat_map f (xs ++ ys) ≡ flat_map f xs ++ flat_map f ys
flat_map-append f [] ys = refl
flat_map-append f (x ∷ xs) ys = ap (λ l. f x ++ l) (flat_map-append f xs ys) ∙ sym (append_assoc (f x) (flat_map f xs) (flat_map f ys))

-- ways, and then more
pub AddsWays-then : (running : Running) (at : ℕ) (a b c : Found) (xs ys : List Alternative) → AddsWays running at a b xs → AddsWays running at b c ys
    → AddsWays running at a c (xs ++ ys)
AddsWays-then running at a b c xs ys one other =
    Adds-same a c _ _ _ _ (sym (flat_map-append (way_refusals running at) xs ys)) (sym (flat_map-append (way_edges running at) xs ys))
    (Adds-then a b c (flat_map (way_refusals running at) xs) (flat_map (way_refusals running at) ys) (flat_map (way_edges running at) xs) (flat_map (way_edges running at) ys) one other)

-- ---- actions

-- the refusals of joined actions, the second ones at the locations behind the first
refusals_from-append : (columns : ℕ) (frame : Frame) (at : ℕ) (xs ys : List Action)
    → refusals_from columns frame at (xs ++ ys) ≡ refusals_from columns frame at xs ++ refusals_from columns frame (at + length xs) ys
refusals_from-append columns frame at [] ys = ap (λ n. refusals_from columns frame n ys) (omega arith)
refusals_from-append columns frame at (x ∷ xs) ys =
    ap (λ l. action_refusals columns frame at x ++ l) (
    refusals_from-append columns frame (at + 1) xs ys ∙ ap (λ n. refusals_from columns frame (at + 1) xs ++ refusals_from columns frame n ys) (omega arith))
    ∙ sym (append_assoc (action_refusals columns frame at x) (refusals_from columns frame (at + 1) xs) (refusals_from columns frame (at + length (x ∷ xs)) ys))

-- the edges of joined actions, the second ones at the locations behind the first
edges_from-append : (columns : ℕ) (frame : Frame) (at : ℕ) (xs ys : List Action)
    → edges_from columns frame at (xs ++ ys) ≡ edges_from columns frame at xs ++ edges_from columns frame (at + length xs) ys
edges_from-append columns frame at [] ys = ap (λ n. edges_from columns frame n ys) (omega arith)
edges_from-append columns frame at (x ∷ xs) ys =
    ap (λ l. action_edges columns frame at x ++ l) (
    edges_from-append columns frame (at + 1) xs ys ∙ ap (λ n. edges_from columns frame (at + 1) xs ++ edges_from columns frame n ys) (omega arith))
    ∙ sym (append_assoc (action_edges columns frame at x) (edges_from columns frame (at + 1) xs) (edges_from columns frame (at + length (x ∷ xs)) ys))

-- actions, and then more
pub AddsActions-then : (running : Running) (at next : ℕ) (a b c : Found) (xs ys : List Action) → at + length xs ≡ next
    → AddsActions running at a b xs → AddsActions running next b c ys → AddsActions running at a c (xs ++ ys)
AddsActions-then running at next a b c xs ys e one other =
    let columns = running.columns in let frame = frame_of running.frame in
    Adds-same a c _ _ _ _
    (ap (λ n. refusals_from columns frame at xs ++ refusals_from columns frame n ys) (sym e) ∙ sym (refusals_from-append columns frame at xs ys))
    (ap (λ n. edges_from columns frame at xs ++ edges_from columns frame n ys) (sym e) ∙ sym (edges_from-append columns frame at xs ys))
    (Adds-then a b c (refusals_from columns frame at xs) (refusals_from columns frame next ys) (edges_from columns frame at xs) (edges_from columns frame next ys) one other)

-- an action that is not too large
pub AddsActions-ways : (running : Running) (at : ℕ) (a b : Found) (action : Action) → is_too_large action ≡ false
    → AddsWays running at a b action.alternatives → AddsActions running at a b (action ∷ [])
AddsActions-ways running at a b action small h =
    let rs = flat_map (way_refusals running at) action.alternatives in
    let es = flat_map (way_edges running at) action.alternatives in
    let same : rs ≡ refusals_from running.columns (frame_of running.frame) at (action ∷ []) = rw small (sym (append-nil rs)) in
    Adds-same a b _ _ _ _ same (sym (append-nil es)) h

-- ---- one way

-- a product or sum that does not fit
pub AddsWays-unfit : (running : Running) (at place : ℕ) (old new : Found) (a : Alternative)
    → Err place ≡ alternative_edge running.columns (frame_of running.frame) at a
    → new.refusal ≡ earlier old.refusal (Some (record { code = coefficient; place = place })) → AddsWays running at old new (a ∷ [])
AddsWays-unfit running at place old new a is e =
    let d : Refusal = record { code = coefficient; place = place } in
    let added : d ∷ [] ≡ way_refusals running at a ++ [] = ap (λ r. unfit r ++ []) is in
    let none : [] ≡ way_edges running at a ++ [] = ap (λ r. edge_made r ++ []) is in
    Adds-same old new (d ∷ []) _ [] _ added none (record {
      refusal_is = λ done was. e ∙ ap (λ r. earlier r (Some d)) was ∙ sym (first_of-append done (d ∷ []));
      edges_are = λ absent. absurd cc;
    })

-- ---- actions are small

-- a test is never too large: it has three alternatives at most, with one event each
pub small-test : (from : ℕ) (m : Mark) (a b : Arithmetic) (t f : Option ℕ) → is_too_large (test_action from m a b t f) ≡ false
small-test from mark.Equal a b None None = refl
small-test from mark.Equal a b None (Some f) = refl
small-test from mark.Equal a b (Some t) None = refl
small-test from mark.Equal a b (Some t) (Some f) = refl
small-test from mark.Unequal a b None None = refl
small-test from mark.Unequal a b None (Some f) = refl
small-test from mark.Unequal a b (Some t) None = refl
small-test from mark.Unequal a b (Some t) (Some f) = refl
small-test from mark.Less a b None None = refl
small-test from mark.Less a b None (Some f) = refl
small-test from mark.Less a b (Some t) None = refl
small-test from mark.Less a b (Some t) (Some f) = refl
small-test from mark.AtMost a b None None = refl
small-test from mark.AtMost a b None (Some f) = refl
small-test from mark.AtMost a b (Some t) None = refl
small-test from mark.AtMost a b (Some t) (Some f) = refl
small-test from mark.Greater a b None None = refl
small-test from mark.Greater a b None (Some f) = refl
small-test from mark.Greater a b (Some t) None = refl
small-test from mark.Greater a b (Some t) (Some f) = refl
small-test from mark.AtLeast a b None None = refl
small-test from mark.AtLeast a b None (Some f) = refl
small-test from mark.AtLeast a b (Some t) None = refl
small-test from mark.AtLeast a b (Some t) (Some f) = refl
