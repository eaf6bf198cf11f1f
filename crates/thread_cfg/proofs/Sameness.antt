-- A thread's graph has the same steps as its source.
use Rattle.std.proofs.Common.{◌≡◌, ◌⊎◌, ◌↔◌, ℕ, zero, suc, ◌+◌, ◌-◌, ◌<◌, ◌≤◌, ℤ, pos, List, [], ◌∷◌, ◌++◌, length, map, Option, Some, None, option_map, IsSome, true≢false, Ok, inl, inr, refl, sym, ap, subst, arith, slice_get, slice_set, length-append, ◌∙◌}
use Rattle.std.specs.List.{AllByRecursion}
use Rattle.c_check.specs.Plan.{Stmts}
use Rattle.c_check.specs.Items.{Grain, Items, items, joined}
use Rattle.transition_formula.specs.Program.{Edge, Form, IsEdgeOf, IsThreadOf, Program, Thread, at_number}
use Rattle.transition_formula.specs.Step.{Steps, after_sets}
use Rattle.thread_cfg.specs.Source.{DoesFirst, Frame, SourceSteps, Standing, read_as}
use Rattle.thread_cfg.specs.Happen.{Happen}
use Rattle.thread_cfg.specs.Action.{Action, Alternative, entry, exit_of, size, thread_actions}
use Rattle.thread_cfg.specs.Edge.{alternative_edge}
use Rattle.thread_cfg.specs.Graph.{edges_from, refusals_from}
use Rattle.thread_cfg.specs.SameSteps.{EdgeSteps, HasSameSteps, SourceStepsTo, standing_as, state_of}
use Rattle.thread_cfg.specs.inside.Left.{left, standing_at, standing_in}
use Rattle.thread_cfg.specs.inside.Within.{ActionsWithin}
use Rattle.thread_cfg.specs.Within.{EventsWithin}
use Rattle.thread_cfg.proofs.Taken.{IsTaken, SomeTaken}
use Rattle.thread_cfg.proofs.Matching.{AllMatch, Matches, StandsFrom, stands-front}
use Rattle.thread_cfg.proofs.Entries.{entry-stands, stmts-length}
use Rattle.thread_cfg.proofs.Control.{stmts-match}
use Rattle.thread_cfg.proofs.Edges.{edge-from, edge-is}
use Rattle.thread_cfg.proofs.Fronts.{assigned-front, counter-get, get-below, get-exists, pos-same, set-counter}
use Rattle.thread_cfg.proofs.Happenings.{edges-happen, never-happen}
use Rattle.thread_cfg.proofs.Numbered.{Has, IsAt, IsFit, actions-fit, at-edge, edge-at, has-number, none-some, number-has, some-same}

-- ---- what is left at each location

-- what stands behind others, from its location on
stands-all : (pre xs : List Items) → StandsFrom (standing_in (pre ++ xs)) (length pre + 1) xs
stands-all pre [] = tt
stands-all pre (x ∷ xs) = (
  here pre,
  subst (λ ys. StandsFrom (standing_in ys) (length pre + 1 + 1) xs) (split pre)
      (subst (λ n. StandsFrom (standing_in ((pre ++ x ∷ []) ++ xs)) n xs) (more pre) (stands-all (pre ++ x ∷ []) xs)),
)
  where
    more : (pre : List Items) → length (pre ++ x ∷ []) + 1 ≡ length pre + 1 + 1
    more pre = let e = length-append pre (x ∷ []) in omega (arith, e)

    split : (pre : List Items) → (pre ++ x ∷ []) ++ xs ≡ pre ++ (x ∷ xs)
    split [] = refl
    split (p ∷ pre) = ap (λ l. p ∷ l) (split pre)

    here : (pre : List Items) → standing_in (pre ++ (x ∷ xs)) (length pre + 1) ≡ Some (Standing.Doing x)
    here pre = rw (add-one' (length pre)) (at pre)
      where
        add-one' : (n : ℕ) → n + 1 ≡ suc n
        add-one' n = omega arith

        at : (pre : List Items) → option_map Standing.Doing (slice_get (pre ++ (x ∷ xs)) (length pre)) ≡ Some (Standing.Doing x)
        at [] = refl
        at (p ∷ pre) = at pre

-- with nothing behind them items stay
joined-end : (is : Items) → joined is Items.End ≡ is
joined-end Items.End = refl
joined-end (Items.Then i is) = ap (λ x. Items.Then i x) (joined-end is)

-- a thread begins at location 1
entry-first : (body : Stmts) → entry body 1 (exit_of body) ≡ 1
entry-first Stmts.End = refl
entry-first (Stmts.Then s rest) = refl

-- ---- what is left and the actions, one by one

-- What is left at a location, and its action.
record IsPair (frame : Frame) (lefts : ℕ → Option Standing) (actions : List Action) (l : ℕ) (is : Items) : Type 0 where
  action : Action
  action_is : slice_get actions l ≡ Some action
  matches : Matches frame lefts is action

-- the items at a place have an action there, which matches them
pair-of : (frame : Frame) (lefts : ℕ → Option Standing) (xs : List Items) (as' : List Action) (l : ℕ) (is : Items)
    → AllMatch frame lefts xs as' → slice_get xs l ≡ Some is → IsPair frame lefts as' l is
pair-of frame lefts [] as' l is all e = absurd (none-some is e)
pair-of frame lefts (x ∷ xs) [] l is all e = absurd all
pair-of frame lefts (x ∷ xs) (a ∷ as') zero is all e = record { action = a; action_is = refl; matches = subst (λ y. Matches frame lefts y a) (some-same x is e) all.0 }
pair-of frame lefts (x ∷ xs) (a ∷ as') (suc l) is all e =
    let more = pair-of frame lefts xs as' l is all.1 e in record { action = more.action; action_is = more.action_is; matches = more.matches }

-- the same, from the action
record IsPairOf (frame : Frame) (lefts : ℕ → Option Standing) (xs : List Items) (l : ℕ) (action : Action) : Type 0 where
  is : Items
  is_left : slice_get xs l ≡ Some is
  matches : Matches frame lefts is action

-- the action at a place has items there, which it matches
pair-at : (frame : Frame) (lefts : ℕ → Option Standing) (xs : List Items) (as' : List Action) (l : ℕ) (action : Action)
    → AllMatch frame lefts xs as' → slice_get as' l ≡ Some action → IsPairOf frame lefts xs l action
pair-at frame lefts [] [] l action all e = absurd (none-some action e)
pair-at frame lefts [] (a ∷ as') l action all e = absurd all
pair-at frame lefts (x ∷ xs) [] l action all e = absurd all
pair-at frame lefts (x ∷ xs) (a ∷ as') zero action all e = record { is = x; is_left = refl; matches = subst (λ y. Matches frame lefts x y) (some-same a action e) all.0 }
pair-at frame lefts (x ∷ xs) (a ∷ as') (suc l) action all e =
    let more = pair-at frame lefts xs as' l action all.1 e in record { is = more.is; is_left = more.is_left; matches = more.matches }

-- in front of the last location stands what is left at the others
front-or-last : (xs : List Items) (l : ℕ) (is : Items) → slice_get (xs ++ Items.End ∷ []) l ≡ Some is → (slice_get xs l ≡ Some is) ⊎ (is ≡ Items.End)
front-or-last [] zero is e = inr (sym (some-same Items.End is e))
front-or-last [] (suc l) is e = absurd (none-some is e)
front-or-last (x ∷ xs) zero is e = inl e
front-or-last (x ∷ xs) (suc l) is e = front-or-last xs l is e

-- the items at a place stay there where the end is put behind all
front-get : (xs : List Items) (l : ℕ) (is : Items) → slice_get xs l ≡ Some is → slice_get (xs ++ Items.End ∷ []) l ≡ Some is
front-get [] l is e = absurd (none-some is e)
front-get (x ∷ xs) zero is e = e
front-get (x ∷ xs) (suc l) is e = front-get xs l is e

-- behind all items is the end
last-get : (xs : List Items) → slice_get (xs ++ Items.End ∷ []) (length xs) ≡ Some Items.End
last-get [] = refl
last-get (x ∷ xs) = last-get xs

-- a standing that is made of items is that of having them to do
doing-of : (o : Option Items) (standing : Standing) → option_map Standing.Doing o ≡ Some standing → (is : Items) × (o ≡ Some is) × (standing ≡ Standing.Doing is)
doing-of None standing e = absurd (none-some standing e)
doing-of (Some is) standing e = (is, refl, sym (some-same (Standing.Doing is) standing e))

-- who has failed has nothing to do
doing-failed : (is : Items) → ¬ (Standing.Failed ≡ Standing.Doing is)
doing-failed is e = subst (λ s. elim s as (λ _. Type 0) [ Standing.Doing y ↦ ⊥ | Standing.Failed ↦ Unit {0} ]) e tt

-- ---- alternatives

-- An alternative of the list is taken.
record IsTakenOf (frame : Frame) (values : List ℤ) (as' : List Alternative) (after : List ℤ) (to : ℕ) : Type 0 where
  alternative : Alternative
  is_there : Has as' alternative
  taken : IsTaken frame values alternative after to

-- where some alternative is taken, it is one of the list
taken-of : (frame : Frame) (values : List ℤ) (as' : List Alternative) (after : List ℤ) (to : ℕ) → SomeTaken frame values as' after to → IsTakenOf frame values as' after to
taken-of frame values [] after to h = absurd h
taken-of frame values (a ∷ as') after to h =
    elim h [
      | inl g ↦ record { alternative = a; is_there = inl refl; taken = g }
      | inr g ↦ let more = taken-of frame values as' after to g in record { alternative = more.alternative; is_there = inr more.is_there; taken = more.taken }
    ]

-- where an alternative of the list is taken, some is
of-taken : (frame : Frame) (values : List ℤ) (as' : List Alternative) (a : Alternative) (after : List ℤ) (to : ℕ) → Has as' a → IsTaken frame values a after to → SomeTaken frame values as' after to
of-taken frame values [] a after to h t = absurd h
of-taken frame values (b ∷ as') a after to h t =
    elim h [ inl e ↦ inl (subst (λ x. IsTaken frame values x after to) e t) | inr g ↦ inr (of-taken frame values as' a after to g t) ]

-- what holds of all holds of an element
all-at : {X : Type 0} → (P : X → Type 0) (xs : List X) (x : X) → AllByRecursion P xs → Has xs x → P x
all-at P [] x all h = absurd h
all-at P (y ∷ xs) x all h = elim h [ inl e ↦ subst P (sym e) all.0 | inr g ↦ all-at P xs x all.1 g ]

-- ---- a thread

-- The thread of a program is the graph of these statements, and nothing of it is refused.
pub record IsGraphOf (program : Program) (n k : ℕ) (frame : Frame) (temporary : ℕ) (body : Stmts) (thread : Thread) : Type 0 where
  pub thread_is : IsThreadOf program frame.thread thread
  pub some : 1 ≤ frame.thread
  pub among : frame.thread ≤ k
  pub counter_is : thread.counter ≡ n + (frame.thread - 1)
  pub locations_are : thread.locations ≡ exit_of body + 1
  pub edges_are : thread.edges ≡ edges_from (n + k) frame 1 (thread_actions frame temporary body)
  pub within : ActionsWithin n frame (thread_actions frame temporary body)
  pub fits : refusals_from (n + k) frame 1 (thread_actions frame temporary body) ≡ []

module _ (program : Program) (n k : ℕ) (frame : Frame) (temporary : ℕ) (body : Stmts) (thread : Thread) (is : IsGraphOf program n k frame temporary body thread) where
  abbrev lefts : List Items
  lefts = left temporary body Items.End

  abbrev acts : List Action
  acts = thread_actions frame temporary body

  -- there is something left at each location but the last one
  size-lefts : length lefts ≡ size body
  size-lefts = stmts-length temporary body Items.End

  -- at the last location nothing is left
  exit-stands : standing_at temporary body (exit_of body) ≡ Some (Standing.Doing Items.End)
  exit-stands = rw (exit-suc body) (ap (option_map Standing.Doing) (subst (λ l. slice_get (lefts ++ Items.End ∷ []) l ≡ Some Items.End) size-lefts (last-get lefts)))
    where
      exit-suc : (body : Stmts) → exit_of body ≡ suc (size body)
      exit-suc body = omega arith

  -- what is left stands at the locations from 1 on
  all-stand : StandsFrom (standing_at temporary body) 1 lefts
  all-stand = stands-front (standing_at temporary body) 1 lefts (Items.End ∷ []) (stands-all [] (lefts ++ Items.End ∷ []))

  -- at location 1 all of the body is left
  begins : standing_at temporary body 1 ≡ Some (Standing.Doing (read_as (items (Grain.Cut temporary) body)))
  begins = subst (λ is. standing_at temporary body 1 ≡ Some (Standing.Doing (read_as is))) (joined-end (items (Grain.Cut temporary) body))
      (subst (λ l. standing_at temporary body l ≡ Some (Standing.Doing (read_as (joined (items (Grain.Cut temporary) body) Items.End)))) (entry-first body)
      (entry-stands (standing_at temporary body) temporary 1 (exit_of body) body Items.End all-stand exit-stands))

  -- what is left at each location is matched by its action
  all-match : AllMatch frame (standing_at temporary body) lefts acts
  all-match = stmts-match (standing_at temporary body) (record { frame = frame; temporary = temporary; exit = exit_of body; out = exit_of body }) 1 (exit_of body) body Items.End
      (record { next_stands = exit-stands; out_stands = exit-stands; exit_stands = exit-stands; fails = refl }) all-stand

  -- ---- a step of the source is a step by an edge

  -- where an alternative is taken there is a step by an edge
  by-alternative : (values : List ℤ) (locations : List ℕ) (l : ℕ) (action : Action) (after : List ℤ) (to : ℕ)
      → length values ≡ n → length locations ≡ k → at_number locations frame.thread ≡ Some (suc l) → slice_get acts l ≡ Some action
      → IsTakenOf frame values action.alternatives after to → EdgeSteps program frame.thread values locations after to
  by-alternative values locations l action after to vs ls at action_is t = by (fit.made) refl
    where
      within : EventsWithin n frame t.alternative.events
      within = all-at (λ a. EventsWithin n frame a.events) action.alternatives t.alternative
          (all-at (λ (x : Action). AllByRecursion (λ a. EventsWithin n frame a.events) x.alternatives) acts action is.within (number-has acts action l action_is)) t.is_there

      fit : IsFit (n + k) frame (1 + l) t.alternative
      fit = (actions-fit (n + k) frame 1 acts l action is.fits action_is).1 t.alternative t.is_there

      by : (made : Option Edge) → fit.made ≡ made → EdgeSteps program frame.thread values locations after to
      by None e = absurd (never-happen n k (1 + l) frame t.alternative values after t.taken.inputs within (rw e at fit.is_made) vs t.taken.happen)
      by (Some edge) e =
          let made : alternative_edge (n + k) frame (1 + l) t.alternative ≡ Ok (Some edge) = rw e at fit.is_made in
          let from = edge-from (n + k) frame (1 + l) t.alternative edge made in
          let number = has-number (edges_from (n + k) frame 1 acts) edge (at-edge (n + k) frame 1 acts l action t.alternative edge action_is t.is_there made) in
          let here : at_number locations frame.thread ≡ Some (1 + l) = subst (λ x. at_number locations frame.thread ≡ Some x) (omega arith) at in
          record {
            thread = thread;
            e = suc number.0;
            edge = edge;
            edge_is = record { thread_is = is.thread_is; edge_is = subst (λ es. at_number es (suc number.0) ≡ Some edge) (sym is.edges_are) number.1 };
            inputs = t.taken.inputs;
            target = from.1 ∙ sym t.taken.leads;
            steps = rw t.taken.leads ((edges-happen n k frame.thread (1 + l) frame t.alternative edge thread values after locations t.taken.inputs within made is.counter_is is.some is.among vs ls here).1 t.taken.happen);
          }

  -- each step of the source is one by an edge
  by-edges : (values : List ℤ) (locations : List ℕ) (from : ℕ) (standing : Standing) (after : List ℤ) (next : Standing)
      → length values ≡ n → length locations ≡ k → at_number locations frame.thread ≡ Some from → standing_at temporary body from ≡ Some standing
      → SourceSteps frame values standing after next
      → (to : ℕ) × (standing_at temporary body to ≡ Some (standing_as next)) × EdgeSteps program frame.thread values locations after to
  by-edges values locations zero standing after next vs ls at left_is steps =
      absurd (subst (λ s. SourceSteps frame values s after next) (sym (some-same Standing.Failed standing left_is)) steps)
  by-edges values locations (suc l) standing after next vs ls at left_is steps =
      let d = doing-of (slice_get (lefts ++ Items.End ∷ []) l) standing left_is in
      let stepping : DoesFirst frame values (read_as d.0) after next = subst (λ s. SourceSteps frame values s after next) d.2 steps in
      elim (front-or-last lefts l d.0 d.1) [
        | inl got ↦ by d.0 (pair-of frame (standing_at temporary body) lefts acts l d.0 all-match got) stepping
        | inr end ↦ absurd (subst (λ x. DoesFirst frame values (read_as x) after next) end stepping)
      ]
    where
      by : (x : Items) → IsPair frame (standing_at temporary body) acts l x → DoesFirst frame values (read_as x) after next
          → (to : ℕ) × (standing_at temporary body to ≡ Some (standing_as next)) × EdgeSteps program frame.thread values locations after to
      by x pair stepping =
          let t = pair.matches.by_action values after next (subst (λ y. DoesFirst frame values y after next) pair.matches.reads_as stepping) in
          (t.0, t.2, by-alternative values locations l pair.action after t.0 vs ls at pair.action_is (taken-of frame values pair.action.alternatives after t.0 t.1))

  -- ---- a step by an edge is one of the source

  -- the state after a step by an edge of an alternative
  by-source : (values : List ℤ) (locations : List ℕ) (from e : ℕ) (edge : Edge) (inputs state : List ℤ)
      → length values ≡ n → length locations ≡ k → at_number locations frame.thread ≡ Some from → IsEdgeOf program frame.thread e thread edge
      → Steps thread edge (state_of values locations) inputs state → SourceStepsTo frame (standing_at temporary body) locations from values state
  by-source values locations from e edge inputs state vs ls at edge_is s = found (edge-at (n + k) frame 1 acts edge has)
    where
      has : Has (edges_from (n + k) frame 1 acts) edge
      has = subst (λ es. Has es edge) is.edges_are (numbered-has thread.edges edge e edge_is.edge_is)
        where
          numbered-has : (xs : List Edge) (x : Edge) (e : ℕ) → at_number xs e ≡ Some x → Has xs x
          numbered-has xs x zero h = absurd (none-some x h)
          numbered-has xs x (suc e) h = number-has xs x e h

      place : (f : ℕ) → at_number locations f ≡ Some from → 1 ≤ f → slice_get locations (f - 1) ≡ Some from
      place zero h some = absurd (none-some from h)
      place (suc f) h some = rw (back f) h
        where
          back : (f : ℕ) → suc f - 1 ≡ f
          back f = omega arith

      source : from ≡ edge.from
      source = pos-same from edge.from (some-same (pos from) (pos edge.from)
          (sym (subst (λ m. slice_get (state_of values locations) (m + (frame.thread - 1)) ≡ Some (pos from)) vs
          (counter-get values locations (frame.thread - 1) ∙ ap (option_map pos) (place frame.thread at is.some)))
          ∙ subst (λ c. slice_get (state_of values locations) c ≡ Some (pos edge.from)) is.counter_is s.at_source))

      found : IsAt (n + k) frame 1 acts edge → SourceStepsTo frame (standing_at temporary body) locations from values state
      found f =
          let a = f.is_of.alternative in
          let within : EventsWithin n frame a.events = all-at (λ x. EventsWithin n frame x.events) f.action.alternatives a
          (all-at (λ (x : Action). AllByRecursion (λ y. EventsWithin n frame y.events) x.alternatives) acts f.action is.within (number-has acts f.action f.l f.action_is)) f.is_of.is_there in
          let from_to = edge-from (n + k) frame (1 + f.l) a edge f.is_of.made in
          let at_from : from ≡ 1 + f.l = source ∙ from_to.0 in
          let back : suc f.l ≡ from = omega (arith, at_from) in
          let front = assigned-front edge.sets (state_of values locations ++ inputs) values (map pos locations)
          (subst (λ m. AllByRecursion (λ (set : ℕ × Form). set.0 < m) edge.sets) (sym vs) (edge-is n (n + k) frame (1 + f.l) a edge within f.is_of.made).sets_no_counter) in
          let counter : thread.counter ≡ length front.front + (frame.thread - 1) = omega (arith, is.counter_is, front.as_long, vs) in
          let set : slice_set (after_sets edge.sets (state_of values locations ++ inputs) (state_of values locations)) thread.counter (pos edge.to) ≡ state_of front.front (slice_set locations (frame.thread - 1) edge.to) =
          ap (λ l. slice_set l thread.counter (pos edge.to)) front.whole_is
          ∙ ap (λ c. slice_set (state_of front.front locations) c (pos edge.to)) counter
          ∙ set-counter front.front locations (frame.thread - 1) edge.to in
          let state_is : state ≡ state_of front.front (slice_set locations (frame.thread - 1) a.to) =
          s.leads ∙ set ∙ ap (λ x. state_of front.front (slice_set locations (frame.thread - 1) x)) from_to.1 in
          let happen : Happen frame values a.events inputs front.front =
          (edges-happen n k frame.thread (1 + f.l) frame a edge thread values front.front locations inputs within f.is_of.made is.counter_is is.some is.among vs ls
          (subst (λ x. at_number locations frame.thread ≡ Some x) at_from at)).0
          (subst (λ x. Steps thread edge (state_of values locations) inputs x) state_is s) in
          let pair = pair-at frame (standing_at temporary body) lefts acts f.l f.action all-match f.action_is in
          let step = pair.matches.by_items values front.front a.to (of-taken frame values f.action.alternatives a front.front a.to f.is_of.is_there (record { inputs = inputs; happen = happen; leads = refl })) in
          record {
            standing = Standing.Doing pair.is;
            after = front.front;
            next = step.0;
            to = a.to;
            stands = subst (λ l. standing_at temporary body l ≡ Some (Standing.Doing pair.is)) back (ap (option_map Standing.Doing) (front-get lefts f.l pair.is pair.is_left));
            steps = subst (λ y. DoesFirst frame values y front.front step.0) (sym pair.matches.reads_as) step.1;
            lands = step.2;
            state_is = state_is;
          }

  -- the thread has the same steps as the items of its statements
  pub same-steps : HasSameSteps program n k frame (items (Grain.Cut temporary) body)
  same-steps = record {
    thread = thread;
    thread_is = is.thread_is;
    left = standing_at temporary body;
    begins = begins;
    fails = refl;
    ends = subst (λ l. standing_at temporary body l ≡ Some (Standing.Doing Items.End)) (omega (arith, is.locations_are)) exit-stands;
    fails_alone = fails-alone;
    at_each = at-each;
    by_edges = by-edges;
    by_source = by-source;
  }
    where
      fails-alone : (l : ℕ) → standing_at temporary body l ≡ Some Standing.Failed → l ≡ 0
      fails-alone zero e = refl
      fails-alone (suc l) e = let d = doing-of (slice_get (lefts ++ Items.End ∷ []) l) Standing.Failed e in absurd (doing-failed d.0 d.2)

      some-of : {X : Type 0} → (o : Option X) → IsSome o → (x : X) × (o ≡ Some x)
      some-of None h = absurd (true≢false (sym h))
      some-of (Some x) h = (x, refl)

      is-some : {X : Type 0} → (o : Option X) (x : X) → o ≡ Some x → IsSome o
      is-some o x e = subst IsSome (sym e) refl

      count : length (lefts ++ Items.End ∷ []) + 1 ≡ thread.locations
      count = let m = length-append lefts (Items.End ∷ []) in omega (arith, m, size-lefts, is.locations_are)

      at-each : (l : ℕ) → IsSome (standing_at temporary body l) ↔ (l < thread.locations)
      at-each zero = (λ h. omega (arith, count), λ h. refl)
      at-each (suc l) = (
        λ h. let s = some-of (standing_at temporary body (suc l)) h in
            let d = doing-of (slice_get (lefts ++ Items.End ∷ []) l) s.0 s.1 in
            let w = get-below (lefts ++ Items.End ∷ []) l d.0 d.1 in omega (arith, w, count),
        λ h. let here = get-exists (lefts ++ Items.End ∷ []) l (omega (arith, h, count)) in
            is-some (standing_at temporary body (suc l)) (Standing.Doing here.0) (ap (option_map Standing.Doing) here.1),
      )
