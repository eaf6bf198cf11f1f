-- Sums and products that are given where they fit.
use Rattle.std.specs.Prelude.{ℤ, Option, Some, None, if◌then◌else◌}
use Rattle.thr_base.specs.Number.{fits}

-- the number, where it fits
abbrev pub fitting : ℤ → Option ℤ
fitting z = if fits z then Some z else None
