use Rattle.horn_rules.proofs.Covering.{lists-do-not-fail, least-does-not-fail, lists-are-safe, least-is-safe}
use Rattle.horn_rules.proofs.laws.where_nothing_fails_no_run_does.Goals as goal

pub returns-clause-lists : goal.returns-clause-lists
returns-clause-lists c = lists-do-not-fail

pub returns-clause-least : goal.returns-clause-least
returns-clause-least c = least-does-not-fail

pub returns-clause-safe_lists : goal.returns-clause-safe_lists
returns-clause-safe_lists c = lists-are-safe c.runs_end_in_reached_states.ensures.failing_runs

pub returns-clause-safe_least : goal.returns-clause-safe_least
returns-clause-safe_least c = least-is-safe c.runs_end_in_reached_states.ensures.failing_runs
