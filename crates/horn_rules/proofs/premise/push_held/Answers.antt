use Rattle.std.proofs.Common.{◌-◌, length, refl, ap, sym, ◌∙◌, arith}
use Rattle.transition_formula.specs.Program.{at_number}
use Rattle.horn_rules.specs.Case.{wider_row}
use Rattle.thr_base.specs.Held.{holds}
use Rattle.horn_rules.proofs.Premises.{held-start, held-next, held-room}
use Rattle.horn_rules.proofs.premise.push_held.Goals as goal

pub positions-init : goal.positions-init
positions-init c = record {
  made = held-start (wider_row (c.args.rows.now.columns - c.args.columns)) c.args.atoms.now c.args.rows.now.rows c.args.held;
  width = refl;
  room = omega arith;
  from_1 = omega arith;
}

pub positions-preserved : goal.positions-preserved
positions-preserved c =
    let row = wider_row (c.args.rows.now.columns - c.args.columns) in
    let atom = at_number c.args.atoms.now in
    let held = holds c.args.held in
    let width = c.positions.invariant.width in
    let more = ap (λ system. system.rows) c.in_ok-push_if_held.ensures in
    record {
      made = held-next row atom held _ _ _ c.positions.position c.positions-test.true (rw (sym width) more) c.positions.invariant.made;
      width = ap (λ system. system.columns) c.in_ok-push_if_held.ensures ∙ width;
      room = held-room row atom held _ _ c.positions.position (length c.args.rows.now.rows) (rw (sym width) more) c.positions.invariant.room;
      from_1 = omega (arith, c.positions.invariant.from_1);
    }
