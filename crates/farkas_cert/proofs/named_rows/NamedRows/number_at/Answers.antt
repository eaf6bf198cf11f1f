use Rattle.std.proofs.Common.{◌<◌, ◌-◌, option_map, IsSome, length, sym, subst, ap, ◌∙◌, to_z-of_z, arith}
use Rattle.std.specs.Int.{w128}
use Rattle.lin_rows.specs.View.{row_of, system_of}
use Rattle.farkas_cert.specs.Cert.{row_numbered}
use Rattle.farkas_cert.specs.inside.Columns.{number_at, perhaps_denying}
use Rattle.farkas_cert.proofs.NamedRowsLemmas.{row_numbered-own, row_numbered-denied, row_numbered-none, row_numbered-some}
use Rattle.farkas_cert.proofs.named_rows.NamedRows.number_at.Goals as goal

pub returns-then-place-count : goal.returns-then-place-count
returns-then-place-count c =
    let k = c.args.row in
    let rows = system_of c.self.inside.rows in
    let some : 0 < k = row_numbered-some c.args.self.now.rows k c.requires.there in
    let below : k - 1 < length rows.rows = omega arith in
    let own = row_numbered-own rows (option_map row_of c.self.inside.denied) k some below in
    to_z-of_z {w = w128} record { sfits = c.number_of.type_inv } ∙ c.number_of.ensures
    ∙ ap (λ row. number_at row c.args.column) (sym c.row.ensures.row ∙ sym own)
    ∙ ap (λ system. number_at (row_numbered system.rows k) c.args.column) c.self.view_is

pub unreachable-requires : goal.unreachable-requires
unreachable-requires c =
    let k = c.args.row in
    let rows = system_of c.self.inside.rows in
    let there = subst (λ system. IsSome (row_numbered system.rows k)) (sym (ap (λ denied. perhaps_denying rows (option_map row_of denied)) (sym c.in-None.is) ∙ c.self.view_is)) c.requires.there in
    row_numbered-none rows k (omega arith) there

pub returns : goal.returns
returns c =
    let k = c.args.row in
    let rows = system_of c.self.inside.rows in
    let atom = row_of c.in-Some.atom in
    let is = ap (λ denied. perhaps_denying rows (option_map row_of denied)) (sym c.in-Some.is) ∙ c.self.view_is in
    let there = subst (λ system. IsSome (row_numbered system.rows k)) (sym is) c.requires.there in
    let denied = row_numbered-denied rows atom k (omega arith) there in
    to_z-of_z {w = w128} record { sfits = c.denied_number.type_inv } ∙ c.denied_number.ensures
    ∙ ap (λ row. number_at row c.args.column) (sym denied)
    ∙ ap (λ system. number_at (row_numbered system.rows k) c.args.column) is
