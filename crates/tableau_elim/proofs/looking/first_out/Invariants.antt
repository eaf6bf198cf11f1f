use Rattle.std.proofs.Common.{◌≡◌, ◌<◌, drop, length, IfSome}
use Rattle.std.specs.Option.{option_map}
use Rattle.tableau_elim.specs.Rounds.{first_out}
use Rattle.tableau_elim.specs.inside.Held.{tableau_of}
use Rattle.tableau_elim.specs.inside.Lines.{line_at}
use Rattle.tableau_elim.proofs.Firsts.{first_from}
use Rattle.tableau_elim.proofs.looking.first_out.Given as goal

abbrev pub invariant-lines : goal.invariant-lines
invariant-lines l = record {
  found : first_from l.tableau.places.items (option_map (λ k. line_at k (tableau_of l.tableau)) l.best) (drop l.line (tableau_of l.tableau).lines) ≡ first_out (tableau_of l.tableau);
  within : IfSome l.best (λ k. k < length l.tableau.basics.items);
}
