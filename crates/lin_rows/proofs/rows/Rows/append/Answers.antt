use Rattle.std.proofs.Common.{◌≡◌, ◌++◌, sym, rules}
use Rattle.lin_rows.proofs.StoredRows.{IsStored-appended, stored_system-appended}
use Rattle.lin_rows.proofs.rows.Rows.append.Goals as goal

pub invariant_of-self-else-is_err : goal.invariant_of-self-else-is_err
invariant_of-self-else-is_err c =
    let sides : c.extend_from_slice.new.self.items ≡ c.self.inside.sides.items ++ c.args.sides.now = search rules in
    let numbers : c.extend_from_slice-2.new.self.items ≡ c.self.inside.numbers.items ++ c.args.numbers.now = search rules in
    let stored = IsStored-appended c.self.inside.columns c.self.inside.sides.items c.args.sides.now _ c.self.inside.numbers.items c.args.numbers.now _ c.args.self.now (sym c.self.view_is) c.self.invariant.stored c.requires.stored c.requires.room sides numbers in
    record { columns_fit = c.self.invariant.columns_fit; stored = stored }

pub returns-clause-ok : goal.returns-clause-ok
returns-clause-ok c =
    let sides : c.extend_from_slice.new.self.items ≡ c.self.inside.sides.items ++ c.args.sides.now = search rules in
    let numbers : c.extend_from_slice-2.new.self.items ≡ c.self.inside.numbers.items ++ c.args.numbers.now = search rules in
    stored_system-appended c.self.inside.columns c.self.inside.sides.items c.args.sides.now _ c.self.inside.numbers.items c.args.numbers.now _ c.args.self.now (sym c.self.view_is) c.self.invariant.stored sides numbers
