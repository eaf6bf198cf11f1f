-- What the parts of the printer say. No public clause cites this file.
use Rattle.std.specs.Prelude.{◌<◌, ◌≤◌, ℕ, List, ◌++◌, codes, flat_map, length}
use Rattle.std.specs.List.{AllByRecursion}
use Rattle.thr_base.specs.Number.{Fits}
use Rattle.farkas_cert.specs.Cert.{Pairs}
use Rattle.transition_formula.specs.Program.{Program}
use Rattle.annotation_form.specs.AnnotationText.{Line, line_text}

-- the text of these lines
abbrev pub shown : Program → List Line → List ℕ
shown program lines = flat_map (λ line. line_text program line ++ codes "\n") lines

-- The multipliers fit.
abbrev pub AllFit : Pairs → Type 0
AllFit pairs = AllByRecursion (λ pair. Fits pair.1) pairs

-- There is a certificate with the number.
abbrev pub IsThere : List Pairs → ℕ → Type 0
IsThere certificates c = (0 < c) × (c ≤ length certificates)

abbrev pub AreThere : List Pairs → List ℕ → Type 0
AreThere certificates numbers = AllByRecursion (IsThere certificates) numbers
