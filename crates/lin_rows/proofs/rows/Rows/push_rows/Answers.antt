use Rattle.std.proofs.Common.{◌∙◌, subst, arith}
use Rattle.lin_rows.specs.inside.Stored.{IsStored}
use Rattle.lin_rows.proofs.Views.{IsStored-view, length-system_of, columns-system_of}
use Rattle.lin_rows.proofs.rows.Rows.push_rows.Goals as goal

pub append-requires-clause-stored : goal.append-requires-clause-stored
append-requires-clause-stored c =
    subst (λ n. IsStored n c.args.more.now.sides.now c.args.more.now.numbers.now) (columns-system_of c.args.more.now ∙ c.requires.columns) (IsStored-view c.args.more.now)

pub append-requires-clause-room : goal.append-requires-clause-room
append-requires-clause-room c = let same = length-system_of c.args.more.now in omega arith
