-- The instances over facts of the program of the tests, and what one comes to.
use Rattle.std.proofs.Common.{◌≡◌, ℕ, ℤ, pos, negsuc, List, [], ◌∷◌, true, refl, arith}
use Rattle.thr_base.specs.declared.names.RuleName.TheVariants.{Rg, Og}
use Rattle.lin_rows.specs.Row.{Row}
use Rattle.horn_rules.specs.Home.{State, Env}
use Rattle.horn_rules.specs.Fact.{Statement}
use Rattle.horn_rules.specs.Instance.{Init, Own, Guar, Env as Environment, Inter}
use Rattle.horn_rules.specs.Case.{Case, env, env_case, IsCaseOf}
use Rattle.horn_rules.specs.Instances.{instances_over}
use Rattle.horn_rules.specs.inside.Worked.{worked_program, first_thread, second_thread, bare_edge}

abbrev bare : ℕ → ℕ → Statement
bare i l = record { home = State i l; atoms = [] }

abbrev told : ℕ → ℕ → Statement
told i e = record { home = Env i e; atoms = [] }

-- both threads at their starts, and their first steps as the other sees them
pub rg-instances : instances_over worked_program Rg (bare 1 1 ∷ bare 2 1 ∷ told 1 1 ∷ told 2 1 ∷ [])
    ≡ (Init 1 ∷ Init 2 ∷ Own 1 1 ∷ Own 2 1 ∷ Guar 1 1 ∷ Guar 2 1 ∷ Environment 1 4 ∷ Environment 2 3 ∷ [])
rg-instances = refl

og-instances : instances_over worked_program Og (bare 1 1 ∷ bare 2 1 ∷ []) ≡ (Init 1 ∷ Init 2 ∷ Own 1 1 ∷ Own 2 1 ∷ Inter 1 2 1 ∷ Inter 2 1 1 ∷ [])
og-instances = refl

-- the first thread stays at its start in the second thread's step
abbrev stays : Case
stays = env_case worked_program 1 1 first_thread second_thread (bare_edge 1 3) (bare 1 1) (told 2 1)

stays-is : IsCaseOf worked_program (Environment (bare 1 1) (told 2 1)) stays
stays-is = env 1 1 2 1 first_thread second_thread (bare_edge 1 3) (bare 1 1) (told 2 1) (λ same. omega arith) (record { thread_is = refl; within = omega arith }) (record { thread_is = refl; edge_is = refl }) refl refl

abbrev equation : List ℤ → ℕ → Row
equation coefficients n = record { equal = true; coefficients = coefficients; bound = pos n }

stays-rows : stays.system.rows
    ≡ (equation (pos 1 ∷ pos 0 ∷ pos 0 ∷ pos 0 ∷ []) 1
    ∷ equation (pos 0 ∷ pos 1 ∷ pos 0 ∷ pos 0 ∷ []) 1
    ∷ equation (pos 0 ∷ pos 0 ∷ pos 0 ∷ pos 1 ∷ []) 3
    ∷ equation (negsuc 0 ∷ pos 0 ∷ pos 1 ∷ pos 0 ∷ []) 0
    ∷ [])
stays-rows = refl
