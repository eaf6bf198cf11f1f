-- The numbers of a combination that may be there.
use Rattle.std.specs.Prelude.{ℤ, List, Option}
use Rattle.std.specs.Option.{option_map}
use Rattle.std.specs.Global.{Vec}

-- the numbers of a list that may be there
abbrev pub numbers_in : Option (Vec ℤ) → Option (List ℤ)
numbers_in numbers = option_map (λ v. v.items) numbers
