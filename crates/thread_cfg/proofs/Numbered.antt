-- Which edges a thread has: those of the alternatives at its locations.
use Rattle.std.proofs.Common.{◌≡◌, ◌⊎◌, ℕ, zero, suc, ◌+◌, Bool, true, false, List, [], ◌∷◌, ◌++◌, flat_map, Option, Some, None, Result, Ok, Err, inl, inr, refl, sym, ap, subst, arith, slice_get}
use Rattle.transition_formula.specs.Program.{Edge}
use Rattle.thread_cfg.specs.Source.{Frame}
use Rattle.thread_cfg.specs.Action.{Action, Alternative}
use Rattle.thread_cfg.specs.Edge.{alternative_edge}
use Rattle.thread_cfg.specs.Graph.{action_edges, action_refusals, edge_made, edges_from, is_too_large, refusals_from, unfit}

-- The list has the element.
abbrev pub Has : {X : Type 0} → List X → X → Type 0
Has [] x = ⊥
Has (y ∷ ys) x = (x ≡ y) ⊎ Has ys x

-- what is in a joined list is in one of the two
pub has-++ : {X : Type 0} → (xs ys : List X) (x : X) → Has (xs ++ ys) x → Has xs x ⊎ Has ys x
has-++ [] ys x h = inr h
has-++ (y ∷ xs) ys x h = elim h [ inl e ↦ inl (inl e) | inr h ↦ elim (has-++ xs ys x h) [ inl g ↦ inl (inr g) | inr g ↦ inr g ] ]

-- what is in the first list is in the joined one
pub has-front : {X : Type 0} → (xs ys : List X) (x : X) → Has xs x → Has (xs ++ ys) x
has-front [] ys x h = absurd h
has-front (y ∷ xs) ys x h = elim h [ inl e ↦ inl e | inr h ↦ inr (has-front xs ys x h) ]

-- what is in the second list is in the joined one
pub has-behind : {X : Type 0} → (xs ys : List X) (x : X) → Has ys x → Has (xs ++ ys) x
has-behind [] ys x h = h
has-behind (y ∷ xs) ys x h = inr (has-behind xs ys x h)

-- an element has a number
pub has-number : {X : Type 0} → (xs : List X) (x : X) → Has xs x → (e : ℕ) × (slice_get xs e ≡ Some x)
has-number [] x h = absurd h
has-number (y ∷ xs) x h = elim h [ inl e ↦ (0, ap Some (sym e)) | inr h ↦ let n = has-number xs x h in (suc n.0, n.1) ]

-- what two options hold is the same where they are
pub some-same : {X : Type 0} → (x y : X) → Some x ≡ Some y → x ≡ y
some-same x y e = ap (λ o. elim o as (λ _. _) [ None ↦ x | Some z ↦ z ]) e

-- nothing is not something
pub none-some : {X : Type 0} → (x : X) → ¬ (None ≡ Some x)
none-some x e = subst (λ o. elim o as (λ _. Type 0) [ None ↦ Unit {0} | Some y ↦ ⊥ ]) e tt

-- what has a number is an element
pub number-has : {X : Type 0} → (xs : List X) (x : X) (e : ℕ) → slice_get xs e ≡ Some x → Has xs x
number-has [] x e h = absurd (none-some x h)
number-has (y ∷ xs) x zero h = inl (sym (some-same y x h))
number-has (y ∷ xs) x (suc e) h = inr (number-has xs x e h)

-- ---- edges of one action

-- The edge is that of an alternative at the location.
pub record IsOf (columns : ℕ) (frame : Frame) (at : ℕ) (alternatives : List Alternative) (edge : Edge) : Type 0 where
  pub alternative : Alternative
  pub is_there : Has alternatives alternative
  pub made : alternative_edge columns frame at alternative ≡ Ok (Some edge)

-- an edge is made only where it is the one that is given
made-has : (r : Result (Option Edge) ℕ) (edge : Edge) → Has (edge_made r) edge → r ≡ Ok (Some edge)
made-has (Ok (Some made)) edge h = elim h [ inl e ↦ ap (λ x. Ok (Some x)) (sym e) | inr h ↦ absurd h ]
made-has (Ok None) edge h = absurd h
made-has (Err from) edge h = absurd h

-- an edge of an action is that of one of its alternatives
of-action : (columns : ℕ) (frame : Frame) (at : ℕ) (as' : List Alternative) (edge : Edge)
    → Has (flat_map (λ a. edge_made (alternative_edge columns frame at a)) as') edge → IsOf columns frame at as' edge
of-action columns frame at [] edge h = absurd h
of-action columns frame at (a ∷ as') edge h =
    elim (has-++ (edge_made (alternative_edge columns frame at a)) (flat_map (λ a. edge_made (alternative_edge columns frame at a)) as') edge h) [
      | inl g ↦ record { alternative = a; is_there = inl refl; made = made-has (alternative_edge columns frame at a) edge g }
      | inr g ↦ let more = of-action columns frame at as' edge g in record { alternative = more.alternative; is_there = inr more.is_there; made = more.made }
    ]

-- the edge of an alternative is among those of its action
action-has : (columns : ℕ) (frame : Frame) (at : ℕ) (as' : List Alternative) (a : Alternative) (edge : Edge) → Has as' a → alternative_edge columns frame at a ≡ Ok (Some edge)
    → Has (flat_map (λ a. edge_made (alternative_edge columns frame at a)) as') edge
action-has columns frame at [] a edge h made = absurd h
action-has columns frame at (b ∷ as') a edge h made =
    elim h [
      | inl e ↦ has-front (edge_made (alternative_edge columns frame at b)) (flat_map (λ a. edge_made (alternative_edge columns frame at a)) as') edge
          (subst (λ r. Has (edge_made r) edge) (sym (subst (λ x. alternative_edge columns frame at x ≡ Ok (Some edge)) e made)) (inl refl))
      | inr h ↦ has-behind (edge_made (alternative_edge columns frame at b)) (flat_map (λ a. edge_made (alternative_edge columns frame at a)) as') edge
          (action-has columns frame at as' a edge h made)
    ]

-- ---- edges of all actions

-- The edge is that of an alternative of the action of this number, which stands at its location.
pub record IsAt (columns : ℕ) (frame : Frame) (at : ℕ) (actions : List Action) (edge : Edge) : Type 0 where
  pub l : ℕ
  pub action : Action
  pub action_is : slice_get actions l ≡ Some action
  pub is_of : IsOf columns frame (at + l) action.alternatives edge

-- an edge of actions is that of an alternative of the action at its location
pub edge-at : (columns : ℕ) (frame : Frame) (at : ℕ) (actions : List Action) (edge : Edge) → Has (edges_from columns frame at actions) edge → IsAt columns frame at actions edge
edge-at columns frame at [] edge h = absurd h
edge-at columns frame at (action ∷ actions) edge h =
    elim (has-++ (action_edges columns frame at action) (edges_from columns frame (at + 1) actions) edge h) [
      | inl g ↦ record { l = 0; action = action; action_is = refl; is_of = subst (λ l. IsOf columns frame l action.alternatives edge) (omega arith) (of-action columns frame at action.alternatives edge g) }
      | inr g ↦ let more = edge-at columns frame (at + 1) actions edge g in
          record { l = suc more.l; action = more.action; action_is = more.action_is; is_of = subst (λ l. IsOf columns frame l more.action.alternatives edge) (omega arith) more.is_of }
    ]

-- the edge of an alternative of the action at a location is among those of all actions
pub at-edge : (columns : ℕ) (frame : Frame) (at : ℕ) (actions : List Action) (l : ℕ) (action : Action) (a : Alternative) (edge : Edge)
    → slice_get actions l ≡ Some action → Has action.alternatives a → alternative_edge columns frame (at + l) a ≡ Ok (Some edge) → Has (edges_from columns frame at actions) edge
at-edge columns frame at [] l action a edge is has made = absurd (none-some action is)
at-edge columns frame at (b ∷ actions) zero action a edge is has made =
    has-front (action_edges columns frame at b) (edges_from columns frame (at + 1) actions) edge
    (action-has columns frame at b.alternatives a edge (subst (λ x. Has x.alternatives a) (sym (some-same b action is)) has)
    (subst (λ l. alternative_edge columns frame l a ≡ Ok (Some edge)) (omega arith) made))
at-edge columns frame at (b ∷ actions) (suc l) action a edge is has made =
    has-behind (action_edges columns frame at b) (edges_from columns frame (at + 1) actions) edge
    (at-edge columns frame (at + 1) actions l action a edge is has (subst (λ l. alternative_edge columns frame l a ≡ Ok (Some edge)) (omega arith) made))

-- ---- nothing is refused

-- a list with an element is not empty
pub cons-empty : {X : Type 0} → (y : X) (ys : List X) → ¬ ((y ∷ ys) ≡ [])
cons-empty y ys e = subst (λ l. elim l as (λ _. Type 0) [ [] ↦ ⊥ | z ∷ zs ↦ Unit {0} ]) e tt

-- where a joined list is empty, so is the first
pub empty-front : {X : Type 0} → (xs ys : List X) → xs ++ ys ≡ [] → xs ≡ []
empty-front [] ys e = refl
empty-front (x ∷ xs) ys e = absurd (cons-empty x (xs ++ ys) e)

-- where a joined list is empty, so is the second
pub empty-behind : {X : Type 0} → (xs ys : List X) → xs ++ ys ≡ [] → ys ≡ []
empty-behind [] ys e = e
empty-behind (x ∷ xs) ys e = absurd (cons-empty x (xs ++ ys) e)

-- An edge is made of the alternative, or it is never gone by.
pub record IsFit (columns : ℕ) (frame : Frame) (at : ℕ) (a : Alternative) : Type 0 where
  pub made : Option Edge
  pub is_made : alternative_edge columns frame at a ≡ Ok made

-- where nothing is refused, an edge or none is given
unfit-none : (r : Result (Option Edge) ℕ) → unfit r ≡ [] → (made : Option Edge) × (r ≡ Ok made)
unfit-none (Ok made) e = (made, refl)
unfit-none (Err from) e = absurd (cons-empty _ _ e)

-- where no alternative is refused, each gives an edge or none
alternatives-fit : (columns : ℕ) (frame : Frame) (at : ℕ) (as' : List Alternative) (a : Alternative)
    → flat_map (λ a. unfit (alternative_edge columns frame at a)) as' ≡ [] → Has as' a → IsFit columns frame at a
alternatives-fit columns frame at [] a e h = absurd h
alternatives-fit columns frame at (b ∷ as') a e h =
    elim h [
      | inl same ↦ let fit = unfit-none (alternative_edge columns frame at b) (empty-front (unfit (alternative_edge columns frame at b)) _ e) in
          subst (IsFit columns frame at) (sym same) (record { made = fit.0; is_made = fit.1 })
      | inr h ↦ alternatives-fit columns frame at as' a (empty-behind (unfit (alternative_edge columns frame at b)) _ e) h
    ]

-- an action that is not refused is not too large, and its alternatives fit
pub action-fits : (columns : ℕ) (frame : Frame) (at : ℕ) (action : Action) → action_refusals columns frame at action ≡ []
    → (is_too_large action ≡ false) × ((a : Alternative) → Has action.alternatives a → IsFit columns frame at a)
action-fits columns frame at action e = by (is_too_large action) refl
  where
    by : (b : Bool) → is_too_large action ≡ b → (is_too_large action ≡ false) × ((a : Alternative) → Has action.alternatives a → IsFit columns frame at a)
    by true is = absurd (cons-empty _ _ (rw is at e))
    by false is = (is, λ a h. alternatives-fit columns frame at action.alternatives a (rw is at e) h)

-- where nothing is refused, each action is not too large, and its alternatives fit
pub actions-fit : (columns : ℕ) (frame : Frame) (at : ℕ) (actions : List Action) (l : ℕ) (action : Action) → refusals_from columns frame at actions ≡ []
    → slice_get actions l ≡ Some action → (is_too_large action ≡ false) × ((a : Alternative) → Has action.alternatives a → IsFit columns frame (at + l) a)
actions-fit columns frame at [] l action e is = absurd (none-some action is)
actions-fit columns frame at (b ∷ actions) zero action e is =
    subst (λ x. (is_too_large x ≡ false) × ((a : Alternative) → Has x.alternatives a → IsFit columns frame (at + 0) a)) (some-same b action is)
    (subst (λ l. (is_too_large b ≡ false) × ((a : Alternative) → Has b.alternatives a → IsFit columns frame l a)) (omega arith)
    (action-fits columns frame at b (empty-front (action_refusals columns frame at b) _ e)))
actions-fit columns frame at (b ∷ actions) (suc l) action e is =
    subst (λ n. (is_too_large action ≡ false) × ((a : Alternative) → Has action.alternatives a → IsFit columns frame n a)) (omega arith)
    (actions-fit columns frame (at + 1) actions l action (empty-behind (action_refusals columns frame at b) _ e) is)
