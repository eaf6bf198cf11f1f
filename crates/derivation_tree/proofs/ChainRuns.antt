-- A whole point of a tree's chain is a run that ends where the root's thread is at the root's location.
use Rattle.std.proofs.Common.{◌≡◌, ℕ, ◌+◌, ◌<◌, List, [], ◌∷◌, ◌++◌, map, length, ℤ, pos, ◌*ℤ◌, ◌≤ℤ◌, MatchBool, Some, refl, sym, ◌∙◌, ap, subst, arith}
use Rattle.std.specs.Prelude.{slice_get}
use Rattle.std.specs.List.{AllByRecursion}
use Rattle.std.proofs.lemmas.Int.{ints}
use Rattle.std.proofs.lemmas.List.{length-map}
use Rattle.std.proofs.lemmas.List.FromFn.{length-map-range_with_len}
use Rattle.lin_rows.specs.Row.{Row, product_of, Meets, MeetsOver}
use Rattle.lin_rows.proofs.Lists.{AllByRecursion-front, AllByRecursion-rest, AllByRecursion-weaken}
use Rattle.lin_rows.proofs.Points.{MeetsOver-one}
use Rattle.transition_formula.specs.Program.{Program, Thread, Edge, IsProgram, IsThreadOf, IsEdgeOf}
use Rattle.transition_formula.specs.Rows.{init_rows, edge_rows}
use Rattle.transition_formula.specs.Step.{Steps, IsInitial}
use Rattle.transition_formula.specs.Run.{RunStep, Leads, LeadTo}
use Rattle.transition_formula.proofs.Programs.{counter-within}
use Rattle.transition_formula.proofs.Lookups.{numbered-one}
use Rattle.transition_formula.proofs.InitialRows.{init_rows-exact}
use Rattle.transition_formula.proofs.StepRows.{edge_rows-exact}
use Rattle.horn_rules.specs.Home.{Home, State, Env as AtEdge}
use Rattle.horn_rules.specs.Instance as instance
use Rattle.horn_rules.specs.Case.{Case, IsCaseOf}
use Rattle.horn_rules.proofs.Cases.{shape}
use Rattle.horn_rules.proofs.Described.{arrives, other-stays}
use Rattle.horn_rules.proofs.OwnSteps.{counter-starts}
use Rattle.derivation_tree.specs.Tree.{Tree, Init, Own, Env, Inter, size_of, IsTreeOf, root_home, thread_of, place_of}
use Rattle.derivation_tree.specs.Variable.{Variable, Input, variables_of}
use Rattle.derivation_tree.specs.Nodes.{Moments, own_after, state_moments, moments_of, bare, inputs_of, at_before, root_moments}
use Rattle.derivation_tree.specs.System.{share_all, chain_step, chain_of, chain_rows, chain_system}
use Rattle.derivation_tree.specs.Sums.{coefficient_at}
use Rattle.derivation_tree.specs.Chain.{first_state, step_at, chain_steps}
use Rattle.derivation_tree.specs.Laws.{ChainPointsAreRuns}
use Rattle.derivation_tree.proofs.Values.{MeetsAt, AllMeetAt, named-all}
use Rattle.derivation_tree.proofs.Numbering.{point-values}
use Rattle.derivation_tree.proofs.Below.{edge-at, root-home}
use Rattle.derivation_tree.proofs.Shared.{HasEach, Keeps, moments-each, before-each, state-keeps, length-own_after}
use Rattle.derivation_tree.proofs.CaseRows.{values, inputs_at, named_over, moving_rows}
use Rattle.derivation_tree.proofs.CasePoints.{StepVariables, to-edge, named-meet}
use Rattle.derivation_tree.proofs.Solved.{step-known, told-known}
use Rattle.derivation_tree.proofs.Modular.{root-each}
use Rattle.derivation_tree.proofs.Derivations.{Derives, init, own, guar, env, inter, derives-home, tree-derives}
use Rattle.derivation_tree.proofs.ChainPoints.{shared-all, step-of, told-of}
use Rattle.derivation_tree.proofs.TwoPremises.{two-of}

-- ---- whole points

meets-whole : (row : Row) (z : List ℤ) → MeetsOver row z (pos 1) → Meets row z
meets-whole row z h =
    let one : row.bound *ℤ pos 1 ≡ row.bound = omega (arith, ints) in
    subst (λ b. MatchBool row.equal (product_of row.coefficients z ≡ b) (product_of row.coefficients z ≤ℤ b)) one h

all-whole : (rows : List Row) (z : List ℤ) → AllByRecursion (λ row. MeetsOver row z (pos 1)) rows → AllByRecursion (λ row. Meets row z) rows
all-whole rows z all = AllByRecursion-weaken (λ row. MeetsOver row z (pos 1)) (λ row. Meets row z) (λ row h. meets-whole row z h) rows all

-- ---- one step

-- the rows of a step that values meet tell it
step-taken : (program : Program) (i e : ℕ) (thread : Thread) (edge : Edge) (n : ℕ) (moments : Moments) (v : Variable → ℤ) → IsProgram program → IsEdgeOf program i e thread edge → HasEach program moments → Keeps thread edge moments
    → AllMeetAt v (pos 1) (named_over moments (inputs_at n edge) (moving_rows program thread edge))
    → Steps thread edge (map v moments.before) (map v (inputs_at n edge)) (map v moments.after)
step-taken program i e thread edge n moments v is at each keeps rows =
    let inputs = inputs_at n edge in
    let many = length-map-range_with_len (Input n) 0 edge.inputs in
    let known : StepVariables program thread edge moments inputs = record { each = each; keeps = keeps; inputs_each = many } in
    let met = to-edge program thread edge moments inputs v (pos 1) known (named-meet v (pos 1) moments inputs (moving_rows program thread edge) rows) in
    (edge_rows-exact program i e thread edge (map v moments.before) (map v moments.after) (map v inputs) is at (length-map moments.before v ∙ each.before) (length-map moments.after v ∙ each.after) (length-map inputs v ∙ many)).0
    (all-whole (edge_rows (length program.columns) thread.counter edge) (values v moments inputs) met)

-- a step of the chain, where its thread and edge are known
step-is : (program : Program) (v : Variable → ℤ) (n i e : ℕ) (thread : Thread) (edge : Edge) → IsEdgeOf program i e thread edge → step_at program v n i e ≡ record { thread = i; edge = e; inputs = map v (inputs_at n edge) }
step-is program v n i e thread edge at = ap (λ (x : Edge). record { thread = i; edge = e; inputs = map v (inputs_at n x) }) (edge-at program i e thread edge at)

leads-by : (program : Program) (v : Variable → ℤ) (n i e : ℕ) (thread : Thread) (edge : Edge) (before after : List ℤ) → IsEdgeOf program i e thread edge → Steps thread edge before (map v (inputs_at n edge)) after → Leads program (step_at program v n i e) before after
leads-by program v n i e thread edge before after at steps =
    subst (λ taken. Leads program taken before after) (sym (step-is program v n i e thread edge at)) (record { of_thread = thread; by_edge = edge; edge_is = at; steps = steps })

-- one more step
one-more : (program : Program) (start : List ℤ) (steps : List RunStep) (taken : RunStep) (before after : List ℤ) → LeadTo program start steps before → Leads program taken before after → LeadTo program start (steps ++ taken ∷ []) after
one-more program start [] taken before after same leads = (after, subst (λ s. Leads program taken s after) (sym same) leads, refl)
one-more program start (step ∷ steps) taken before after (next, first, rest) leads = (next, first, one-more program next steps taken before after rest leads)

-- ---- the chain

-- what the chain of a subtree comes to, in the state that it shares with the node above
pub record Runs (program : Program) (v : Variable → ℤ) (tree : Tree) (i l : ℕ) (first : ℕ) (above : Moments) : Type 0 where
  pub initial : IsInitial program.columns (map v (first_state program first tree above))
  pub lead : LeadTo program (map v (first_state program first tree above)) (chain_steps program v first tree) (map v above.after)
  pub ends : (thread : Thread) → IsThreadOf program i thread → slice_get (map v above.after) thread.counter ≡ Some (pos l)

-- where all is shared, the state after is that of the node above
after-above : (program : Program) (n : ℕ) (tree : Tree) (above : Moments) → HasEach program above → (state_moments program share_all n tree above).after ≡ above.after
after-above program n tree above each = shared-all (root_home program tree) program.columns above.after (own_after program n) each.after (length-own_after program n)

init-runs : (program : Program) (v : Variable → ℤ) (i first : ℕ) (above : Moments) (given : Case) → IsProgram program → IsCaseOf program (instance.Init i) given → HasEach program above
    → AllMeetAt v (pos 1) (chain_of program first (Init i) above) → Runs program v (Init i) i 1 first above
init-runs program v i first above given is case each met =
    let moments = moments_of program share_all (first + 1) (Init i) above in
    let same = after-above program (first + 1) (Init i) above each in
    let state = map v moments.after in
    let size : length state ≡ length program.columns = length-map moments.after v ∙ ap length same ∙ each.after in
    let initial = (init_rows-exact program state size).0 (all-whole (init_rows program) state (named-all v (pos 1) moments.after (init_rows program) met)) in
    record {
      initial = initial;
      lead = ap (map v) same;
      ends = λ thread at. subst (λ s. slice_get (map v s) thread.counter ≡ Some (pos 1)) same (counter-starts program i thread state is at initial);
    }

own-runs : (program : Program) (v : Variable → ℤ) (f : Tree) (e i : ℕ) (thread : Thread) (edge : Edge) (first : ℕ) (above : Moments) → IsProgram program → IsTreeOf program f (State i edge.from) → IsEdgeOf program i e thread edge → HasEach program above
    → AllMeetAt v (pos 1) (chain_of program first (Own f e) above)
    → Runs program v f i edge.from first (at_before (moments_of program share_all (first + size_of (Own f e)) (Own f e) above)) → Runs program v (Own f e) i edge.to first above
own-runs program v f e i thread edge first above is below at each met runs =
    let n = first + size_of (Own f e) in
    let moments = moments_of program share_all n (Own f e) above in
    let same = after-above program n (Own f e) above each in
    let lengths = moments-each program share_all n (Own f e) above each in
    let home = root-home program f (State i edge.from) below in
    let keeps : Keeps thread edge moments = step-known program f e i thread edge (λ t x. Keeps t x moments) below at (state-keeps program share_all n (Own f e) above) in
    let rows = subst (AllMeetAt v (pos 1)) (step-of program n f i e thread edge moments below at)
    (AllByRecursion-rest (MeetsAt v (pos 1)) (chain_of program first f (at_before moments)) (chain_step program (thread_of (root_home program f)) e moments (inputs_of program n (thread_of (root_home program f)) e)) met) in
    let steps = step-taken program i e thread edge n moments v is at lengths keeps rows in
    let leads = subst (λ h. Leads program (step_at program v n (thread_of h) e) (map v moments.before) (map v moments.after)) (sym home) (leads-by program v n i e thread edge (map v moments.before) (map v moments.after) at steps) in
    let within = counter-within program i thread is at.thread_is in
    let inside : thread.counter < length (map v moments.before) = omega (arith, length-map moments.before v, lengths.before, within.1) in
    record {
      initial = runs.initial;
      lead = subst (λ s. LeadTo program (map v (first_state program first f (at_before moments))) (chain_steps program v first (Own f e)) (map v s)) same
          (one-more program (map v (first_state program first f (at_before moments))) (chain_steps program v first f) (step_at program v n (thread_of (root_home program f)) e) (map v moments.before) (map v moments.after) runs.lead leads);
      ends = λ other there.
          let one : other ≡ thread = numbered-one program.threads i other thread there at.thread_is in
          subst (λ (t : Thread). slice_get (map v above.after) t.counter ≡ Some (pos edge.to)) (sym one)
          (subst (λ s. slice_get (map v s) thread.counter ≡ Some (pos edge.to)) same (arrives thread edge (map v moments.before) (map v (inputs_at n edge)) (map v moments.after) inside steps));
    }

-- a step of another thread, whose inputs are those of node m
other-runs : (program : Program) (v : Variable → ℤ) (tree f : Tree) (k l i e m : ℕ) (thread : Thread) (edge : Edge) (first : ℕ) (above moments : Moments) → IsProgram program → ((p : ℕ) → k ≡ i → ⊥) → IsEdgeOf program i e thread edge → HasEach program moments
    → moments.after ≡ above.after → Keeps thread edge moments → AllMeetAt v (pos 1) (named_over moments (inputs_at m edge) (moving_rows program thread edge))
    → first_state program first tree above ≡ first_state program first f (at_before moments)
    → chain_steps program v first tree ≡ chain_steps program v first f ++ step_at program v m i e ∷ []
    → Runs program v f k l first (at_before moments) → Runs program v tree k l first above
other-runs program v tree f k l i e m thread edge first above moments is apart at each same keeps rows first_same steps_same runs =
    let steps = step-taken program i e thread edge m moments v is at each keeps rows in
    let leads = leads-by program v m i e thread edge (map v moments.before) (map v moments.after) at steps in
    record {
      initial = subst (λ s. IsInitial program.columns (map v s)) (sym first_same) runs.initial;
      lead = subst (λ s. LeadTo program (map v s) (chain_steps program v first tree) (map v above.after)) (sym first_same)
          (subst (λ ts. LeadTo program (map v (first_state program first f (at_before moments))) ts (map v above.after)) (sym steps_same)
          (subst (λ s. LeadTo program (map v (first_state program first f (at_before moments))) (chain_steps program v first f ++ step_at program v m i e ∷ []) (map v s)) same
          (one-more program (map v (first_state program first f (at_before moments))) (chain_steps program v first f) (step_at program v m i e) (map v moments.before) (map v moments.after) runs.lead leads)));
      ends = λ other there. subst (λ s. slice_get (map v s) other.counter ≡ Some (pos l)) same
          (other-stays program k i e other thread edge (map v moments.before) (map v (inputs_at m edge)) (map v moments.after) (pos l) is (λ e. apart 0 e) there at (length-map moments.before v ∙ each.before) steps (runs.ends other there));
    }

pub chain-runs : (program : Program) (v : Variable → ℤ) → IsProgram program → (tree : Tree) (home : Home) → Derives program tree home → (i l first : ℕ) (above : Moments) → home ≡ State i l → HasEach program above
    → AllMeetAt v (pos 1) (chain_of program first tree above) → Runs program v tree i l first above
chain-runs program v is tree home (init j given there case same) i l first above at each met =
    let ends : State j 1 ≡ State i l = sym (ap (λ (c : Case). c.target) (shape program (instance.Init j) given case)) ∙ same ∙ at in
    let number : j ≡ i = cc in
    let place : 1 ≡ l = cc in
    subst (λ m. Runs program v (Init j) i m first above) place (subst (λ m. Runs program v (Init j) m 1 first above) number (init-runs program v j first above given is case each met))
chain-runs program v is tree home (guar f e from given there h case same) i l first above at each met =
    let (step, shaped) = shape program (instance.Guar (bare from) e) given case in
    let wrong : AtEdge step.i e ≡ State i l = sym (ap (λ (c : Case). c.target) shaped) ∙ same ∙ at in cc
chain-runs program v is tree home (own f e from given there h case same) i l first above at each met =
    let n = first + size_of (Own f e) in
    let moments = moments_of program share_all n (Own f e) above in
    let (step, shaped) = shape program (instance.Own (bare from) e) given case in
    let ends : State step.i step.edge.to ≡ State i l = sym (ap (λ (c : Case). c.target) shaped) ∙ same ∙ at in
    let number : step.i ≡ i = cc in
    let place : step.edge.to ≡ l = cc in
    let below = derives-home program f from h ∙ ap Some step.home_is in
    let runs = chain-runs program v is f from h step.i step.edge.from first (at_before moments) step.home_is (before-each program moments (moments-each program share_all n (Own f e) above each))
    (AllByRecursion-front (MeetsAt v (pos 1)) (chain_of program first f (at_before moments)) _ met) in
    subst (λ m. Runs program v (Own f e) i m first above) place (subst (λ m. Runs program v (Own f e) m step.edge.to first above) number
    (own-runs program v f e step.i step.thread step.edge first above is below step.edge_is each met runs))
chain-runs program v is tree home (env f t from told given there h j case same) i l first above at each met =
    let n = first + size_of (Env f t) in
    let m = first + size_of f + size_of t in
    let moments = moments_of program share_all n (Env f t) above in
    let two = two-of program (instance.Env (bare from) (bare told)) given case in
    let ends : State two.k two.l ≡ State i l = sym (ap (λ (c : Case). c.target) two.is) ∙ same ∙ at in
    let number : two.k ≡ i = cc in
    let place : two.l ≡ l = cc in
    let beside = derives-home program t told j ∙ ap Some two.home_t in
    let told_home = root-home program t (AtEdge two.i two.e) beside in
    let lengths = moments-each program share_all n (Env f t) above each in
    let keeps : Keeps two.thread two.edge moments = told-known program t two.i two.e two.thread two.edge (λ s x. Keeps s x moments) beside two.edge_is (state-keeps program share_all n (Env f t) above) in
    let runs = chain-runs program v is f from h two.k two.l first (at_before moments) two.home_f (before-each program moments lengths)
    (AllByRecursion-front (MeetsAt v (pos 1)) (chain_of program first f (at_before moments)) _ met) in
    let rows = subst (AllMeetAt v (pos 1)) (told-of program m t two.i two.e two.thread two.edge moments beside two.edge_is)
    (AllByRecursion-rest (MeetsAt v (pos 1)) (chain_of program first f (at_before moments)) (chain_step program (thread_of (root_home program t)) (place_of (root_home program t)) moments (inputs_of program m (thread_of (root_home program t)) (place_of (root_home program t)))) met) in
    subst (λ p. Runs program v (Env f t) i p first above) place (subst (λ p. Runs program v (Env f t) p two.l first above) number
    (other-runs program v (Env f t) f two.k two.l two.i two.e m two.thread two.edge first above moments is (λ p e. two.apart e) two.edge_is lengths (after-above program n (Env f t) above each) keeps rows refl
    (ap (λ h. chain_steps program v first f ++ step_at program v m (thread_of h) (place_of h) ∷ []) told_home) runs))
chain-runs program v is tree home (inter f g e from other given there h j case same) i l first above at each met =
    let n = first + size_of (Inter f g e) in
    let moments = moments_of program share_all n (Inter f g e) above in
    let two = two-of program (instance.Inter (bare from) (bare other) e) given case in
    let ends : State two.k two.l ≡ State i l = sym (ap (λ (c : Case). c.target) two.is) ∙ same ∙ at in
    let number : two.k ≡ i = cc in
    let place : two.l ≡ l = cc in
    let beside = derives-home program g other j ∙ ap Some two.home_g in
    let other_home = root-home program g (State two.i two.edge.from) beside in
    let lengths = moments-each program share_all n (Inter f g e) above each in
    let keeps : Keeps two.thread two.edge moments = step-known program g e two.i two.thread two.edge (λ s x. Keeps s x moments) beside two.edge_is (state-keeps program share_all n (Inter f g e) above) in
    let runs = chain-runs program v is f from h two.k two.l first (at_before moments) two.home_f (before-each program moments lengths)
    (AllByRecursion-front (MeetsAt v (pos 1)) (chain_of program first f (at_before moments)) _ met) in
    let rows = subst (AllMeetAt v (pos 1)) (step-of program n g two.i e two.thread two.edge moments beside two.edge_is)
    (AllByRecursion-rest (MeetsAt v (pos 1)) (chain_of program first f (at_before moments)) (chain_step program (thread_of (root_home program g)) e moments (inputs_of program n (thread_of (root_home program g)) e)) met) in
    subst (λ p. Runs program v (Inter f g e) i p first above) place (subst (λ p. Runs program v (Inter f g e) p two.l first above) number
    (other-runs program v (Inter f g e) f two.k two.l two.i e n two.thread two.edge first above moments is (λ p e. two.apart e) two.edge_is lengths (after-above program n (Inter f g e) above each) keeps rows refl
    (ap (λ h. chain_steps program v first f ++ step_at program v n (thread_of h) e ∷ []) other_home) runs))

-- ---- the law

pub chain-points : ChainPointsAreRuns
chain-points program tree i l z is_program is point =
    let rows = chain_rows program tree in
    let v = coefficient_at (variables_of rows) z in
    let above = root_moments program tree in
    let met = point-values rows z (pos 1) (record { whole = point.whole; positive = omega (arith, ints); meets = AllByRecursion-weaken (λ row. Meets row z) (λ row. MeetsOver row z (pos 1)) (λ row h. MeetsOver-one row z h) (chain_system program tree).rows point.meets }) in
    let runs = chain-runs program v is_program tree (State i l) (tree-derives program tree (State i l) is_program is).derives i l 0 above refl (root-each program tree) met in
    record { last = map v above.after; is_run = record { initial = runs.initial; lead = runs.lead }; there = runs.ends }
