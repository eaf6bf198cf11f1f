use Rattle.threader_cli.specs.inside.Parts.{all, front}
use Rattle.threader_cli.proofs.answer.write.Goals as goal

pub returns-in-Ok : goal.returns-in-Ok
returns-in-Ok g c = all c.in-Ok.ensures.ok

pub returns-in-Err : goal.returns-in-Err
returns-in-Err g c = front c.in-Err.ensures.err
