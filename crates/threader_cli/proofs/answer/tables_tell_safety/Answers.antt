use Rattle.threader_cli.proofs.SafetyLemmas.{tables-tell-safety}
use Rattle.threader_cli.proofs.answer.tables_tell_safety.Goals as goal

pub returns : goal.returns
returns c = tables-tell-safety c.where_nothing_fails_no_run_does.ensures.safe_least c.texts_fail_alike.ensures
