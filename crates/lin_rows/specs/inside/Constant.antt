-- The normal form of a row whose coefficients are all 0.
use Rattle.std.specs.Prelude.{ℤ, pos, ◌≤ℤ◌, ◌<ℤ◌}
use Rattle.lin_rows.specs.declared.normal_form.NormalForm.{NormalForm}
use Rattle.lin_rows.specs.declared.normal_form.NormalForm.TheVariants.{Always, Never, Atom}

-- What a row says whose coefficients are all 0.
abbrev pub IsConstantForm : ℤ → NormalForm → Type 0
IsConstantForm bound Always = pos 0 ≤ℤ bound
IsConstantForm bound Never = bound <ℤ pos 0
IsConstantForm bound (Atom atom) = ⊥
