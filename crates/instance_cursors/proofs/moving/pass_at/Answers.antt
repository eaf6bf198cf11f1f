use Rattle.std.proofs.Common.{arith}
use Rattle.instance_cursors.proofs.Places.{set-passed}
use Rattle.instance_cursors.proofs.moving.pass_at.Goals as goal

pub returns-clause-cursors : goal.returns-clause-cursors
returns-clause-cursors c = set-passed c.args.cursors.now.items c.args.place c.index-cursor.result.now c.args.turn (omega arith) c.index-cursor.ensures
