-- Certificates that are kept, each once.
use Rattle.std.specs.Prelude.{◌≡◌, ◌≢◌, ◌<◌, ◌+◌, ◌^◌, ◌⊎◌, ℕ, pos, List, [], ◌∷◌, ◌++◌, length}
use Rattle.std.specs.List.{Contains}
use Rattle.thr_base.specs.Number.{Fits}
use Rattle.farkas_cert.specs.Cert.{Pairs}
use Rattle.transition_formula.specs.Program.{at_number}
use Rattle.std.specs.Prelude.{Some}

-- The numbers of rows rise strictly from above `last` and are ones that the code holds, and the multipliers fit and are not 0.
abbrev pub AreListed : ℕ → Pairs → Type 0
AreListed last [] = Unit {0}
AreListed last ((k, m) ∷ pairs) = (last < k) × (k < 2 ^ 32) × Fits m × (m ≢ pos 0) × AreListed k pairs

-- The certificate has number n among those that are kept: it was there and nothing changed, or it is new and stands last now.
abbrev pub IsKept : List Pairs → Pairs → ℕ → List Pairs → Type 0
IsKept before pairs n later =
    ((at_number before n ≡ Some pairs) × (later ≡ before))
    ⊎ ((¬ Contains before pairs) × (n ≡ length before + 1) × (later ≡ before ++ pairs ∷ []))

-- No certificate stands twice.
abbrev pub NoneTwice : List Pairs → Type 0
NoneTwice [] = Unit {0}
NoneTwice (pairs ∷ rest) = (¬ Contains rest pairs) × NoneTwice rest
