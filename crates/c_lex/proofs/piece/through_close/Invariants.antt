use Rattle.std.proofs.Common.{◌≡◌, ◌-◌, drop}
use Rattle.c_lex.specs.Piece.{through_close}
use Rattle.c_lex.proofs.Comments.{shifted}
use Rattle.c_lex.proofs.piece.through_close.Given as goal

-- the comment's end is not before the byte in front of i
abbrev pub invariant-loop-i : goal.invariant-loop-i
invariant-loop-i l = shifted (l.i - 1) (through_close (drop (l.i - 1) l.bytes)) ≡ through_close l.bytes
