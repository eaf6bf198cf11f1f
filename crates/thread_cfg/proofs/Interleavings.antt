-- A program that has the same steps as a text: each step of the one, from a state that tells a configuration, is a step of the other from there.
use Rattle.std.proofs.Common.{◌≡◌, Bool, true, false, ◌==◌, ◌↔◌, ℕ, zero, suc, ◌+◌, ◌-◌, ◌<◌, ◌≤◌, ℤ, pos, List, [], ◌∷◌, ◌++◌, length, map, Option, Some, None, option_map, inl, inr, refl, sym, ap, subst, arith, slice_get, slice_set, length-append, ◌∙◌}
use Rattle.std.proofs.lemmas.List.{length-map}
use Rattle.std.proofs.lemmas.Bool.Decides.{Decides-eqb, not_from_Decides}
use Rattle.std.specs.List.{AllByRecursion}
use Rattle.c_tree.specs.Plain as plain
use Rattle.c_check.specs.Items.{Item, Items}
use Rattle.c_check.specs.Check.{function_items}
use Rattle.c_check.specs.Columns.{columns_of, counters_from}
use Rattle.c_check.specs.Program.{created_of}
use Rattle.transition_formula.specs.Program.{Edge, Form, IsEdgeOf, IsProgram, IsThreadOf, Program, Thread, at_number}
use Rattle.transition_formula.specs.Step.{IsInitial, Steps, after_step, after_sets, value_of}
use Rattle.transition_formula.specs.Run.{Leads, Reaches, RunStep}
use Rattle.thread_cfg.specs.Source.{DoesFirst, Frame, SourceSteps, Standing, read_as}
use Rattle.thread_cfg.specs.Threads.{Running, threads_running}
use Rattle.thread_cfg.specs.Columns.{program_column, value_columns}
use Rattle.thread_cfg.specs.SameSteps.{HasSameSteps, SameSteps, standing_as, state_of}
use Rattle.thread_cfg.specs.Interleaving.{Configuration, Interleaves, SourceStep}
use Rattle.thread_cfg.specs.Telling.{StepsBy, Tells}
use Rattle.thread_cfg.proofs.Entries.{read-branch}
use Rattle.thread_cfg.proofs.Fronts.{counter-get, get-all, get-below, length-slice_set, numbered-get, numbered-same, numbered-set, pos-same}
use Rattle.thread_cfg.proofs.Starts.{get-ones, initial-starts, length-counters, length-ones, ones, start-length, starts-initial}
use Rattle.thread_cfg.proofs.Numbered.{Has, none-some, some-same}

-- What is known of a text and its program.
pub record IsKnown (tree : plain.Tree) (program : Program) : Type 0 where
  pub same : SameSteps tree program
  pub is_program : IsProgram program
  pub columns_are : program.columns ≡ map program_column (columns_of tree)
  pub counters_are : columns_of tree ≡ value_columns tree ++ counters_from 1 (created_of tree)
  pub created_are : length (created_of tree) ≡ length (threads_running tree)

-- ---- standings are read once

-- to read items twice is to read them once
read-read : (is : Items) → read_as (read_as is) ≡ read_as is
read-read Items.End = refl
read-read (Items.Then (Item.Loop g body last) rest) = read-branch g _ _ rest
read-read (Items.Then (Item.Again g body last) rest) = read-branch g _ _ rest
read-read (Items.Then (Item.Read t v) rest) = refl
read-read (Items.Then (Item.Assign v e) rest) = refl
read-read (Items.Then (Item.AssignAny v) rest) = refl
read-read (Items.Then (Item.Branch c t f) rest) = refl
read-read (Items.Then (Item.Lock n) rest) = refl
read-read (Items.Then (Item.Unlock n) rest) = refl
read-read (Items.Then Item.Break rest) = refl
read-read (Items.Then Item.Exit rest) = refl
read-read (Items.Then (Item.Atomic inner) rest) = refl

-- a standing steps as it is read
steps-as : (frame : Frame) (values after : List ℤ) (standing next : Standing) → SourceSteps frame values standing after next → SourceSteps frame values (standing_as standing) after next
steps-as frame values after Standing.Failed next h = h
steps-as frame values after (Standing.Doing is) next h = subst (λ x. DoesFirst frame values x after next) (sym (read-read is)) h

-- a thread steps from what is read as it does from what is there
as-steps : (frame : Frame) (values after : List ℤ) (standing next : Standing) → SourceSteps frame values (standing_as standing) after next → SourceSteps frame values standing after next
as-steps frame values after Standing.Failed next h = h
as-steps frame values after (Standing.Doing is) next h = subst (λ x. DoesFirst frame values x after next) (read-read is) h

-- what is read as failed is failed
pub failed-as : (standing : Standing) → standing_as standing ≡ Standing.Failed → standing ≡ Standing.Failed
failed-as Standing.Failed e = refl
failed-as (Standing.Doing is) e = absurd (subst (λ s. elim s as (λ _. Type 0) [ Standing.Doing y ↦ Unit {0} | Standing.Failed ↦ ⊥ ]) e tt)

-- what holds of all holds of an element
pub all-has : {X : Type 0} → (P : X → Type 0) (xs : List X) (x : X) → AllByRecursion P xs → Has xs x → P x
all-has P [] x all h = absurd h
all-has P (y ∷ xs) x all h = elim h [ inl e ↦ subst P (sym e) all.0 | inr g ↦ all-has P xs x all.1 g ]

-- ---- what is left, thread by thread

module _ (tree : plain.Tree) (program : Program) (known : IsKnown tree program) where
  abbrev k : ℕ
  k = length (threads_running tree)

  abbrev n : ℕ
  n = length (columns_of tree) - length (threads_running tree)

  -- what is left at the locations of a thread that runs; nothing where there is none
  lefts_of : (i : ℕ) (o : Option Running) → at_number (threads_running tree) i ≡ o → ℕ → Option Standing
  lefts_of i None e = λ l. None
  lefts_of i (Some t) e = (known.same.steps_are i t e).left

  -- what is left at the locations of the i-th thread
  pub left_at : ℕ → ℕ → Option Standing
  left_at i = lefts_of i (at_number (threads_running tree) i) refl

  -- each thread that runs steps by what is left
  pub same-at : (i : ℕ) (t : Running) → at_number (threads_running tree) i ≡ Some t → StepsBy tree program (left_at i) t
  unfolding left_at lefts_of
  same-at i t e = let h = by (at_number (threads_running tree) i) refl e in record { steps = h.0; left_is = h.1 }
    where
      by : (o : Option Running) (p : at_number (threads_running tree) i ≡ o) → o ≡ Some t
          → (steps : HasSameSteps program n k t.frame (function_items t.function)) × (steps.left ≡ lefts_of i o p)
      by None p q = absurd (none-some t q)
      by (Some s) p q =
          subst (λ (u : Running). (steps : HasSameSteps program n k u.frame (function_items u.function)) × (steps.left ≡ (known.same.steps_are i s p).left)) (some-same s t q)
          (known.same.steps_are i s p, refl)

  -- ---- states that tell configurations

  abbrev pub Shows : Configuration → List ℤ → Type 0
  Shows = Tells tree left_at

  -- where one thread goes on to values and to a location where that is left, the state after tells the configuration after
  tells-next : (c : Configuration) (before : List ℤ) (t : Shows c before) (i to : ℕ) (next : Standing) (values : List ℤ) → 1 ≤ i → i ≤ k → length values ≡ n
      → left_at i to ≡ Some (standing_as next)
      → Shows (record { values = values; standings = slice_set c.standings (i - 1) next }) (state_of values (slice_set t.locations (i - 1) to))
  tells-next c before t i to next values some among vs lands = record {
    locations = slice_set t.locations (i - 1) to;
    values_length = vs;
    locations_length = length-slice_set t.locations (i - 1) to ∙ t.locations_length;
    standings_length = length-slice_set c.standings (i - 1) next ∙ t.standings_length;
    state_is = refl;
    stand = λ j l st at stands. by j l st (j == i) refl at stands;
  }
    where
      by : (j l : ℕ) (st : Standing) (b : Bool) → (j == i) ≡ b → at_number (slice_set t.locations (i - 1) to) j ≡ Some l
          → at_number (slice_set c.standings (i - 1) next) j ≡ Some st → left_at j l ≡ Some (standing_as st)
      by j l st true e at stands =
          let is : j ≡ i = (Decides-eqb j i).0 e in
          let l_is : to ≡ l = numbered-same t.locations i to l some (omega (arith, among, t.locations_length)) (subst (λ m. at_number (slice_set t.locations (i - 1) to) m ≡ Some l) is at) in
          let st_is : next ≡ st = numbered-same c.standings i next st some (omega (arith, among, t.standings_length)) (subst (λ m. at_number (slice_set c.standings (i - 1) next) m ≡ Some st) is stands) in
          subst (λ m. left_at m l ≡ Some (standing_as st)) (sym is)
          (subst (λ s. left_at i l ≡ Some (standing_as s)) st_is (subst (λ m. left_at i m ≡ Some (standing_as next)) l_is lands))
      by j l st false e at stands =
          let differ : ¬ (j ≡ i) = not_from_Decides (j == i) (Decides-eqb j i) e in
          t.stand j l st (numbered-set t.locations i j to l some differ at) (numbered-set c.standings i j next st some differ stands)

  -- the counter of the i-th thread
  pub counter-is : (i : ℕ) (thread : Thread) → IsThreadOf program i thread → (thread.counter ≡ n + (i - 1)) × (1 ≤ i) × (i ≤ k)
  counter-is i thread e =
      let is = known.is_program.threads_are i thread e in
      let at = numbered-get program.threads i thread e in
      let below = get-below program.threads (i - 1) thread at.1 in
      let few = known.is_program.has_counters in (
        omega (arith, is.in_order, known.same.columns_are, known.same.threads_are, at.0, few),
        at.0,
        omega (arith, below, at.0, known.same.threads_are),
      )

  -- ---- a step of the program is one of the text

  pub record StepsOn (c : Configuration) (taken : RunStep) (after : List ℤ) : Type 0 where
    pub done : SourceStep
    pub same_thread : taken.thread ≡ done.thread
    pub next : Configuration
    pub interleaves : Interleaves tree done c next
    pub tells : Shows next after

  -- a step keeps the number of columns
  after-length : (thread : Thread) (edge : Edge) (before inputs : List ℤ) → length (after_step thread edge before inputs) ≡ length before
  after-length thread edge before inputs =
      length-slice_set (after_sets edge.sets (before ++ inputs) before) thread.counter (pos edge.to) ∙ assigned-length edge.sets (before ++ inputs) before
    where
      assigned-length : (sets : List (ℕ × Form)) (z state : List ℤ) → length (after_sets sets z state) ≡ length state
      assigned-length [] z state = refl
      assigned-length (s ∷ sets) z state = length-slice_set (after_sets sets z state) s.0 (value_of s.1 z) ∙ assigned-length sets z state

  -- so many values stand in front of the counters
  values-length : (values counters : List ℤ) (m : ℕ) → length (values ++ counters) ≡ m + length counters → length values ≡ m
  values-length values counters m e = let a = length-append values counters in omega (arith, a, e)

  -- a step of the program is one of the text
  pub program-steps : (c : Configuration) (taken : RunStep) (before after : List ℤ) → Shows c before → Leads program taken before after → StepsOn c taken after
  program-steps c taken before after t leads = go (get-all (threads_running tree) i (counter.1) counter.2) (get-all t.locations i counter.1 (omega (arith, counter.2, t.locations_length)))
      (get-all c.standings i counter.1 (omega (arith, counter.2, t.standings_length)))
    where
      i : ℕ
      i = taken.thread

      counter : (leads.of_thread.counter ≡ n + (i - 1)) × (1 ≤ i) × (i ≤ k)
      counter = counter-is i leads.of_thread leads.edge_is.thread_is

      go : (running : (x : Running) × (at_number (threads_running tree) i ≡ Some x)) (at : (x : ℕ) × (at_number t.locations i ≡ Some x))
          (stands : (x : Standing) × (at_number c.standings i ≡ Some x)) → StepsOn c taken after
      go running at stands =
          let thread_no : running.0.frame.thread ≡ i = known.same.numbered_so i running.0 running.1 in
          let alike = same-at i running.0 running.1 in
          let same_thread : leads.of_thread ≡ alike.steps.thread =
          some-same leads.of_thread alike.steps.thread (sym leads.edge_is.thread_is ∙ subst (λ m. at_number program.threads m ≡ Some alike.steps.thread) thread_no alike.steps.thread_is) in
          let s = alike.steps.by_source c.values t.locations at.0 taken.edge leads.by_edge taken.inputs after t.values_length t.locations_length
          (subst (λ m. at_number t.locations m ≡ Some at.0) (sym thread_no) at.1)
          (subst (λ m. IsEdgeOf program m taken.edge alike.steps.thread leads.by_edge) (sym thread_no)
          (subst (λ x. IsEdgeOf program i taken.edge x leads.by_edge) same_thread leads.edge_is))
          (subst (λ x. Steps x leads.by_edge (state_of c.values t.locations) taken.inputs after) same_thread
          (subst (λ x. Steps leads.of_thread leads.by_edge x taken.inputs after) t.state_is leads.steps)) in
          let standing_is : s.standing ≡ standing_as stands.0 =
          some-same s.standing (standing_as stands.0)
          (sym s.stands ∙ subst (λ l. l at.0 ≡ Some (standing_as stands.0)) (sym alike.left_is) (t.stand i at.0 stands.0 at.1 stands.1)) in
          let lands : left_at i s.to ≡ Some (standing_as s.next) = subst (λ l. l s.to ≡ Some (standing_as s.next)) alike.left_is s.lands in
          let state_is : after ≡ state_of s.after (slice_set t.locations (i - 1) s.to) = subst (λ m. after ≡ state_of s.after (slice_set t.locations (m - 1) s.to)) thread_no s.state_is in
          let after_length : length s.after ≡ n =
          values-length s.after (map pos (slice_set t.locations (i - 1) s.to)) n
          (ap length (sym state_is) ∙ ap length leads.steps.leads ∙ after-length leads.of_thread leads.by_edge before taken.inputs ∙ ap length t.state_is ∙ state-length c.values t.locations s.to t.values_length) in
          record {
            done = record { thread = i; values = s.after; standing = s.next };
            same_thread = refl;
            next = record { values = s.after; standings = slice_set c.standings (i - 1) s.next };
            interleaves = record {
              running = running.0;
              standing = stands.0;
              thread_is = running.1;
              stands = stands.1;
              steps = as-steps running.0.frame c.values s.after stands.0 s.next (subst (λ x. SourceSteps running.0.frame c.values x s.after s.next) standing_is s.steps);
              leads = refl;
            };
            tells = subst (Shows (record { values = s.after; standings = slice_set c.standings (i - 1) s.next })) (sym state_is)
                (tells-next c before t i s.to s.next s.after counter.1 counter.2 after_length lands);
          }
        where
          state-length : (values : List ℤ) (locations : List ℕ) (to : ℕ) → length values ≡ n → length (state_of values locations) ≡ n + length (map pos (slice_set locations (i - 1) to))
          state-length values locations to e =
              let a = length-append values (map pos locations) in
              let b = length-map locations pos in
              let d = length-map (slice_set locations (i - 1) to) pos in
              let f = length-slice_set locations (i - 1) to in omega (arith, a, b, d, e, f)

  -- ---- a step of the text is one of the program

  pub record IsStep (before : List ℤ) (done : SourceStep) (c : Configuration) : Type 0 where
    pub taken : RunStep
    pub same_thread : taken.thread ≡ done.thread
    pub after : List ℤ
    pub leads : Leads program taken before after
    pub tells : Shows c after

  -- a step of the text is one of the program
  pub text-steps : (c next : Configuration) (done : SourceStep) (before : List ℤ) → Shows c before → Interleaves tree done c next → IsStep before done next
  text-steps c next done before t s =
      go (get-all t.locations done.thread at.0 (omega (arith, below, at.0, t.standings_length, t.locations_length)))
    where
      at : (1 ≤ done.thread) × (slice_get c.standings (done.thread - 1) ≡ Some s.standing)
      at = numbered-get c.standings done.thread s.standing s.stands

      below : done.thread - 1 < length c.standings
      below = get-below c.standings (done.thread - 1) s.standing at.1

      go : (l : (x : ℕ) × (at_number t.locations done.thread ≡ Some x)) → IsStep before done next
      go l =
          let thread_no : s.running.frame.thread ≡ done.thread = known.same.numbered_so done.thread s.running s.thread_is in
          let alike = same-at done.thread s.running s.thread_is in
          let r = alike.steps.by_edges c.values t.locations l.0 (standing_as s.standing) done.values done.standing t.values_length t.locations_length
          (subst (λ m. at_number t.locations m ≡ Some l.0) (sym thread_no) l.1)
          (subst (λ x. x l.0 ≡ Some (standing_as s.standing)) (sym alike.left_is) (t.stand done.thread l.0 s.standing l.1 s.stands))
          (steps-as s.running.frame c.values done.values s.standing done.standing s.steps) in
          let e = r.2 in
          let lands : left_at done.thread r.0 ≡ Some (standing_as done.standing) = subst (λ x. x r.0 ≡ Some (standing_as done.standing)) alike.left_is r.1 in
          let steps : Steps e.thread e.edge before e.inputs (state_of done.values (slice_set t.locations (done.thread - 1) r.0)) =
          subst (λ x. Steps e.thread e.edge x e.inputs (state_of done.values (slice_set t.locations (done.thread - 1) r.0))) (sym t.state_is)
          (subst (λ m. Steps e.thread e.edge (state_of c.values t.locations) e.inputs (state_of done.values (slice_set t.locations (m - 1) r.0))) thread_no e.steps) in
          let values_are : length done.values ≡ n =
          values-length done.values (map pos (slice_set t.locations (done.thread - 1) r.0)) n
          (ap length steps.leads ∙ after-length e.thread e.edge before e.inputs ∙ ap length t.state_is ∙ state-length r.0) in
          record {
            taken = record { thread = done.thread; edge = e.e; inputs = e.inputs };
            same_thread = refl;
            after = state_of done.values (slice_set t.locations (done.thread - 1) r.0);
            leads = record {
              of_thread = e.thread;
              by_edge = e.edge;
              edge_is = subst (λ m. IsEdgeOf program m e.e e.thread e.edge) thread_no e.edge_is;
              steps = steps;
            };
            tells = subst (λ x. Shows x (state_of done.values (slice_set t.locations (done.thread - 1) r.0))) (sym s.leads)
                (tells-next c before t done.thread r.0 done.standing done.values at.0 (omega (arith, below, at.0, t.standings_length)) values_are lands);
          }
        where
          state-length : (to : ℕ) → length (state_of c.values t.locations) ≡ n + length (map pos (slice_set t.locations (done.thread - 1) to))
          state-length to =
              let a = length-append c.values (map pos t.locations) in
              let b = length-map t.locations pos in
              let d = length-map (slice_set t.locations (done.thread - 1) to) pos in
              let f = length-slice_set t.locations (done.thread - 1) to in omega (arith, a, b, d, f, t.values_length)

  -- ---- starts

  -- at the start each thread has its function to do
  mapped-get : (ts : List Running) (i : ℕ) (st : Standing) → at_number (map (λ (t : Running). Standing.Doing (function_items t.function)) ts) i ≡ Some st
      → (t : Running) × (at_number ts i ≡ Some t) × (st ≡ Standing.Doing (function_items t.function))
  mapped-get ts zero st e = absurd (none-some st e)
  mapped-get [] (suc i) st e = absurd (none-some st e)
  mapped-get (t ∷ ts) (suc zero) st e = (t, refl, sym (some-same (Standing.Doing (function_items t.function)) st e))
  mapped-get (t ∷ ts) (suc (suc i)) st e = mapped-get ts (suc i) st e

  -- the configuration at the start that has these values
  unfoldable pub start_with : List ℤ → Configuration
  start_with values = record { values = values; standings = map (λ (t : Running). Standing.Doing (function_items t.function)) (threads_running tree) }

  -- so many columns have values in the source
  value-count : length (value_columns tree) ≡ n
  value-count =
      let a = ap length known.counters_are in
      let b = length-append (value_columns tree) (counters_from 1 (created_of tree)) in
      let d = length-counters 1 (created_of tree) in omega (arith, a, b, d, known.created_are)

  -- initial values with all threads at location 1 tell the start
  pub start-tells : (values : List ℤ) → IsInitial (map program_column (value_columns tree)) values → Shows (start_with values) (values ++ map pos (ones (created_of tree)))
  unfolding start_with
  start-tells values h = record {
    locations = ones (created_of tree);
    values_length = start-length (value_columns tree) values h ∙ value-count;
    locations_length = length-ones (created_of tree) ∙ known.created_are;
    standings_length = length-map (threads_running tree) (λ (t : Running). Standing.Doing (function_items t.function));
    state_is = refl;
    stand = stand;
  }
    where
      stand : (i l : ℕ) (st : Standing) → at_number (ones (created_of tree)) i ≡ Some l → at_number (map (λ (t : Running). Standing.Doing (function_items t.function)) (threads_running tree)) i ≡ Some st
          → left_at i l ≡ Some (standing_as st)
      stand i l st at stands =
          let m = mapped-get (threads_running tree) i st stands in
          let alike = same-at i m.0 m.1 in
          let one : l ≡ 1 = get-ones (created_of tree) (i - 1) l (numbered-get (ones (created_of tree)) i l at).1 in
          subst (λ x. left_at i x ≡ Some (standing_as st)) (sym one)
          (subst (λ s. left_at i 1 ≡ Some (standing_as s)) (sym m.2) (subst (λ f. f 1 ≡ Some (Standing.Doing (read_as (function_items m.0.function)))) alike.left_is alike.steps.begins))

  -- initial states are those of the columns in front of the counters and of the counters
  pub initial-columns : (state : List ℤ) → IsInitial program.columns state ↔ IsInitial (map program_column (value_columns tree ++ counters_from 1 (created_of tree))) state
  initial-columns state =
      let e : program.columns ≡ map program_column (value_columns tree ++ counters_from 1 (created_of tree)) = known.columns_are ∙ ap (map program_column) known.counters_are in
      (λ h. subst (λ cs. IsInitial cs state) e h, λ h. subst (λ cs. IsInitial cs state) (sym e) h)
