-- What the parts of sums and multiples of forms say. No public clause cites this file.
use Rattle.std.specs.Prelude.{ℤ, List, Option, Some, None, if◌then◌else◌}
use Rattle.std.specs.List.{list_all}
use Rattle.thr_base.specs.Number.{fits}
use Rattle.transition_formula.specs.Program.{Form}

-- the numbers, where each of them fits
abbrev pub fitting_list : List ℤ → Option (List ℤ)
fitting_list xs = if list_all fits xs then Some xs else None

-- the form of these coefficients and this constant, where there are both
abbrev pub form_of_both : Option (List ℤ) → Option ℤ → Option Form
form_of_both None constant = None
form_of_both (Some coefficients) None = None
form_of_both (Some coefficients) (Some constant) = Some (record { coefficients = coefficients; constant = constant })
