-- What runs say of the states that are reached.
use Rattle.std.proofs.Common.{ℤ, List, [], ◌∷◌, ◌++◌, refl, subst, sym, inl, inr}
use Rattle.transition_formula.specs.Program.{Program}
use Rattle.transition_formula.specs.Run.{RunStep, Run, Leads, LeadTo, IsRun, IsFailing, FailsFrom, Reaches, start, step}
use Rattle.transition_formula.specs.Laws.{RunsEndInReachedStates, FailingStatesEndRuns, FailingRunsReach}

-- steps from a reached state lead to reached states
LeadTo-reaches : (program : Program) (state : List ℤ) (steps : List RunStep) (last : List ℤ) → Reaches program state → LeadTo program state steps last → Reaches program last
LeadTo-reaches program state [] last reached lead = subst (λ s. Reaches program s) lead reached
LeadTo-reaches program state (taken ∷ steps) last reached (next, leads, lead) =
    LeadTo-reaches program next steps last (step taken state next reached leads) lead

-- one more step at the end
LeadTo-append : (program : Program) (state : List ℤ) (steps : List RunStep) (before after : List ℤ) (taken : RunStep)
    → LeadTo program state steps before → Leads program taken before after → LeadTo program state (steps ++ taken ∷ []) after
LeadTo-append program state [] before after taken lead leads = (after, subst (λ s. Leads program taken s after) (sym lead) leads, refl)
LeadTo-append program state (first ∷ steps) before after taken (next, one, lead) leads =
    (next, one, LeadTo-append program next steps before after taken lead leads)

-- A state that is reached ends a run.
run-to : (program : Program) (state : List ℤ) → Reaches program state → (run : Run) × IsRun program run state
run-to program state (start _ initial) = (record { start = state; steps = [] }, record { initial = initial; lead = refl })
run-to program state (step taken before _ reached leads) =
    let (run, is) = run-to program before reached in (
      record { start = run.start; steps = run.steps ++ taken ∷ [] },
      record { initial = is.initial; lead = LeadTo-append program run.start run.steps before state taken is.lead leads },
    )

-- A state is reached exactly where a run ends in it.
pub runs-end : RunsEndInReachedStates
runs-end program state = (
  run-to program state,
  λ found. LeadTo-reaches program found.0.start found.0.steps state (start found.0.start found.1.initial) found.1.lead,
)

-- A run whose last state fails fails.
FailsFrom-end : (program : Program) (state : List ℤ) (steps : List RunStep) (last : List ℤ) → LeadTo program state steps last → IsFailing program last → FailsFrom program state steps
FailsFrom-end program state [] last lead failing = subst (λ s. IsFailing program s) (sym lead) failing
FailsFrom-end program state (taken ∷ steps) last (next, leads, lead) failing = inr (next, leads, FailsFrom-end program next steps last lead failing)

-- A run fails where its last state does.
pub failing-states : FailingStatesEndRuns
failing-states program run state is failing = FailsFrom-end program run.start run.steps state is.lead failing

-- A run that fails comes to a state that is reached and fails.
failing-reached : (program : Program) (state : List ℤ) (steps : List RunStep) → Reaches program state → FailsFrom program state steps
    → (found : List ℤ) × Reaches program found × IsFailing program found
failing-reached program state [] reached fails = (state, reached, fails)
failing-reached program state (taken ∷ steps) reached (inl here) = (state, reached, here)
failing-reached program state (taken ∷ steps) reached (inr (next, leads, later)) =
    failing-reached program next steps (step taken state next reached leads) later

-- A run fails exactly where it comes to a state that fails.
pub failing-runs : FailingRunsReach
failing-runs program run last is fails = failing-reached program run.start run.steps (start run.start is.initial) fails
