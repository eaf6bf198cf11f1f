use Rattle.std.proofs.Common.{◌≡◌, pos, rules}
use Rattle.std.specs.Prelude.{neg_ℤ, unsigned_abs}
use Rattle.std.specs.Int.{int_signum}
use Rattle.lin_rows.specs.Row.{multiple_of}
use Rattle.tableau_elim.proofs.Pivots.{solved_fit}
use Rattle.tableau_elim.proofs.pivot.Pivot.solve.Goals as goal

pub divide-requires : goal.divide-requires
divide-requires c =
    let moved = c.args.self.now.moved.items in
    let p = c.args.self.now.number in
    let turned : c.turn.new.numbers ≡ multiple_of (neg_ℤ (int_signum p)) moved = search rules in
    search (rules, solved_fit moved c.turn.new.numbers p (pos (unsigned_abs p)) c.requires.known.fits c.requires.known.number_fits turned)
