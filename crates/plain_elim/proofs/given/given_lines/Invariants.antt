use Rattle.std.proofs.Common.{◌≡◌, ◌++◌, drop}
use Rattle.farkas_cert.specs.Line as specs
use Rattle.plain_elim.proofs.given.given_lines.Given as goal

abbrev pub invariant-rows : goal.invariant-rows
invariant-rows l = l.lines.items ++ specs.given_lines l.total l.place (drop l.place l.rows.rows) ≡ specs.given_lines l.total 0 l.rows.rows
