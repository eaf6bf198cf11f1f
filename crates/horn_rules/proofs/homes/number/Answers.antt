use Rattle.std.proofs.Common.{◌≡◌, ◌+◌, ◌-◌, suc, Some, length, sym, ap, subst, ◌∙◌, arith}
use Rattle.std.proofs.lemmas.Option.{slice_get_within}
use Rattle.std.proofs.lemmas.List.{take_all}
use Rattle.horn_rules.specs.Home.{Env, IsHomeOf, by_number, state_homes}
use Rattle.horn_rules.specs.Stored.{home_of}
use Rattle.horn_rules.proofs.Numbers.{state_home-place, env_home-place, numbered-homes_left, numbered-homes_right}
use Rattle.horn_rules.proofs.homes.number.Goals as goal

pub place_of-requires-clause-there : goal.place_of-requires-clause-there
place_of-requires-clause-there c =
    state_home-place c.args.program.now c.in-State.thread.0 c.in-State.location.0 (subst (λ home. IsHomeOf c.args.program.now (home_of home)) c.in-State.is c.requires)

pub overflow_sub-edge : goal.overflow_sub-edge
overflow_sub-edge c =
    let there = env_home-place c.args.program.now c.in-Env.thread.0 c.in-Env.edge.0 (subst (λ home. IsHomeOf c.args.program.now (home_of home)) c.in-Env.is c.requires) in
    omega (arith, there.0)

pub place_of-requires-in-Env-clause-there : goal.place_of-requires-in-Env-clause-there
place_of-requires-in-Env-clause-there c =
    (env_home-place c.args.program.now c.in-Env.thread.0 c.in-Env.edge.0 (subst (λ home. IsHomeOf c.args.program.now (home_of home)) c.in-Env.is c.requires)).1

pub returns-in-State : goal.returns-in-State
returns-in-State c =
    let r = c.place_of.result in
    numbered-homes_left c.args.program.now (r + 1) r (omega arith) (slice_get_within _ r _ c.place_of.ensures.place)
    ∙ c.place_of.ensures.place
    ∙ ap (λ home. Some (home_of home)) (sym c.in-State.is)

pub returns-in-Env : goal.returns-in-Env
returns-in-Env c =
    let there = env_home-place c.args.program.now c.in-Env.thread.0 c.in-Env.edge.0 (subst (λ home. IsHomeOf c.args.program.now (home_of home)) c.in-Env.is c.requires) in
    let r = c.place_of-in-Env.result in
    let edge : suc (c.in-Env.edge.0 - 1) ≡ c.in-Env.edge.0 = omega (arith, there.0) in
    let all = ap (λ threads. length (by_number state_homes 1 threads)) (take_all c.threads-threads.result c.args.program.now.threads (omega (arith, c.threads-threads.ensures.threads))) in
    numbered-homes_right c.args.program.now (c.count_before-states.result + r + 1) r (omega (arith, c.count_before-states.ensures.count, all))
    ∙ c.place_of-in-Env.ensures.place
    ∙ ap (λ e. Some (Env c.in-Env.thread.0 e)) edge
    ∙ ap (λ home. Some (home_of home)) (sym c.in-Env.is)
