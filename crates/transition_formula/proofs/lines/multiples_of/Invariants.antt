use Rattle.std.proofs.Common.{◌≡◌, pos, drop, length, map}
use Rattle.transition_formula.specs.Forms.{constant_form, with_multiples}
use Rattle.transition_formula.specs.Stored.{form_of}
use Rattle.transition_formula.proofs.lines.multiples_of.Given as goal

-- the sum, with the multiples that are left, is the whole
abbrev pub invariant-places : goal.invariant-places
invariant-places l = record {
  made : with_multiples (form_of l.sum) (drop l.place l.numbers) (drop l.place (map form_of l.lines)) ≡ with_multiples (constant_form l.width (pos 0)) l.numbers (map form_of l.lines);
  width : length (form_of l.sum).coefficients ≡ l.width;
}
