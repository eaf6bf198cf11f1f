-- Certificates without a common divisor.
use Rattle.std.specs.Prelude.{ℕ, ◌≤◌, unsigned_abs}
use Rattle.std.specs.Int.{◌∣◌}
use Rattle.std.specs.List.{AllByRecursion}
use Rattle.farkas_cert.specs.Cert.{Pairs}

-- No number above 1 divides every multiplier.
abbrev pub IsReduced : Pairs → Type 0
IsReduced pairs = (g : ℕ) → AllByRecursion (λ pair. g ∣ unsigned_abs pair.1) pairs → g ≤ 1
