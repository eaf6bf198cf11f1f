-- The instances of a rule, over the homes of facts alone. No public clause cites this file.
use Rattle.std.specs.Prelude.{ℕ, if◌then◌else◌, List, [], ◌∷◌, ◌++◌, map}
use Rattle.thr_base.specs.declared.names.RuleName.{RuleName}
use Rattle.thr_base.specs.declared.names.RuleName.TheVariants.{Rg, Og}
use Rattle.transition_formula.specs.Program.{Program}
use Rattle.horn_rules.specs.Home.{Home, by_number}
use Rattle.horn_rules.specs.Instance.{Instance, Own, Guar, Env as Environment, Inter}
use Rattle.horn_rules.specs.Instances.{edges_from, tells_another, of_another, init_instances}

abbrev pub own_at : Program → ℕ → Home → List (Instance ℕ)
own_at program n home = map (Own n) (edges_from program home)

abbrev pub guar_at : Program → ℕ → Home → List (Instance ℕ)
guar_at program n home = map (Guar n) (edges_from program home)

abbrev pub env_at : ℕ → Home → ℕ → Home → List (Instance ℕ)
env_at n home m told = if tells_another home told then Environment n m ∷ [] else []

abbrev pub inter_at : Program → ℕ → Home → ℕ → Home → List (Instance ℕ)
inter_at program n home m other = if of_another home other then map (Inter n m) (edges_from program other) else []

-- all instances of a rule over facts at these homes
abbrev pub instances_at : Program → RuleName → List Home → List (Instance ℕ)
instances_at program Rg homes =
    init_instances program
    ++ (by_number (own_at program) 1 homes ++ (by_number (guar_at program) 1 homes ++ by_number (λ n home. by_number (env_at n home) 1 homes) 1 homes))
instances_at program Og homes =
    init_instances program ++ (by_number (own_at program) 1 homes ++ by_number (λ n home. by_number (inter_at program n home) 1 homes) 1 homes)
