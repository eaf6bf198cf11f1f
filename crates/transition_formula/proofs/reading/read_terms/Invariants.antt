use Rattle.transition_formula.specs.AtomText.{column_texts}
use Rattle.transition_formula.proofs.ReadTerms.{ReadSoFar}
use Rattle.transition_formula.proofs.reading.read_terms.Given as goal

abbrev pub invariant-columns : goal.invariant-columns
invariant-columns l = ReadSoFar (column_texts l.program.columns) l.width l.text l.column l.place l.first l.coefficients.items
