use Rattle.std.proofs.Common.{sym, ◌∙◌, arith}
use Rattle.c_lex.proofs.Comments.{closed_at, not_closed_at, never_closed}
use Rattle.c_lex.proofs.piece.through_close.Goals as goal
use Rattle.c_lex.proofs.piece.through_close.Goals.{else-bytes-i-eq42-via-then-bytes-i-eq42+else-bytes-i-eq47, else-bytes-i-eq42-via-else-bytes-i-eq42}

pub returns-then-bytes-i-eq47-clause-exact : goal.returns-then-bytes-i-eq47-clause-exact
returns-then-bytes-i-eq47-clause-exact c =
    sym (closed_at c.args.bytes.now c.loop-i.i (omega arith) (omega arith) c.if-bytes-i-eq42.true c.if-bytes-i-eq47.true) ∙ c.loop-i.invariant

pub loop-i-preserved : goal.loop-i-preserved
loop-i-preserved c =
    let off = not_closed_at c.args.bytes.now c.loop-i.i (omega arith) (omega arith) in
    elim c.else-bytes-i-eq42.branch [
      | else-bytes-i-eq42-via-then-bytes-i-eq42+else-bytes-i-eq47 w ↦ sym (off (λ first second. w.if-bytes-i-eq47.false second)) ∙ c.loop-i.invariant
      | else-bytes-i-eq42-via-else-bytes-i-eq42 w ↦ sym (off (λ first second. w.if-bytes-i-eq42.false first)) ∙ c.loop-i.invariant
    ]

pub returns-clause-exact : goal.returns-clause-exact
returns-clause-exact c = sym (never_closed c.args.bytes.now c.loop-i.i (omega arith)) ∙ c.loop-i.invariant
