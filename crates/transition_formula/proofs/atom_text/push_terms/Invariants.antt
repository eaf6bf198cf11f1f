use Rattle.std.proofs.Common.{◌≡◌, ◌++◌, true, drop}
use Rattle.transition_formula.specs.AtomText.{column_texts, terms_text}
use Rattle.transition_formula.proofs.atom_text.push_terms.Given as goal

-- what is appended, followed by the terms that are left, is all
abbrev pub invariant-terms : goal.invariant-terms
invariant-terms l = l.out.items ++ terms_text l.first (drop l.column l.coefficients) (drop l.column (column_texts l.program.columns)) ≡ l.initial.out.items ++ terms_text true l.coefficients (column_texts l.program.columns)
