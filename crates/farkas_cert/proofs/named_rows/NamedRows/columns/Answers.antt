use Rattle.std.proofs.Common.{subst}
use Rattle.lin_rows.specs.View.{system_of}
use Rattle.farkas_cert.specs.NamedRows.{IsNamed}
use Rattle.farkas_cert.proofs.NamedRowsLemmas.{IsNamed-perhaps_denying}
use Rattle.farkas_cert.proofs.named_rows.NamedRows.columns.Goals as goal

pub returns-clause-named : goal.returns-clause-named
returns-clause-named c =
    subst IsNamed c.self.view_is (IsNamed-perhaps_denying (system_of c.self.inside.rows) c.self.inside.denied c.columns.ensures.well_formed c.self.invariant)
