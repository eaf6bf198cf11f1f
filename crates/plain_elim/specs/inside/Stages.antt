-- How a stage goes in the program.
use Rattle.std.specs.Prelude.{◌≡◌, ℕ, suc, ◌+◌, ◌*◌, List, [], length, map, flat_map, reverse, find, if◌then◌else◌, Option, Some, None, ⊤}
use Rattle.std.specs.List.{AllByRecursion}
use Rattle.std.specs.Option.{option_map}
use Rattle.std.specs.Global.{Vec}
use Rattle.lin_rows.specs.System.{System}
use Rattle.farkas_cert.specs.Cert.{Pairs}
use Rattle.farkas_cert.specs.Line.{Line, is_false, refuting_multipliers, nonzero_pairs}
use Rattle.farkas_cert.specs.Elimination.{Work, Next, Goes, Ends, every, paired_line, negatives, are_too_many}
use Rattle.plain_elim.specs.declared.kept.Kept.{Kept as HeldKept}
use Rattle.plain_elim.specs.inside.Held.{kept_of, BoundsItsColumn}

-- The line has as many numbers as a line of the system.
pub record IsWide (system : System) (line : Line) : Type 0 where
  pub width : length line.numbers ≡ system.columns + suc (length system.rows)

-- the lines of a list that may be there
abbrev pub lines_in : Option (Vec Line) → Option (List Line)
lines_in lines = option_map (λ v. v.items) lines

-- the certificate of the first false line, where there is one
abbrev pub refutation_of : System → List Line → Option Pairs
refutation_of system lines = option_map (λ line. nonzero_pairs 1 (refuting_multipliers system.columns line)) (find (is_false system.columns) lines)

-- what a stage starts from, for the definitions that look at what was kept alone
abbrev pub after_stages : List HeldKept → Work
after_stages kept = record { lines = []; kept = reverse (map kept_of kept); made = 0 }

-- how many lines pairs made so far and in a stage, where they are not too many
abbrev pub made_with : System → ℕ → ℕ → ℕ → Option ℕ
made_with system made positives negatives =
    if are_too_many system (made + positives * negatives) then None else Some (made + positives * negatives)

-- the pairs of some positive lines with the negative lines of a list
abbrev pub pairs_of : ℕ → List Line → List Line → Option (List Line)
pairs_of c kept some = every (flat_map (λ positive. map (paired_line c positive) (negatives c kept)) some)

-- Each line is as wide as one of the system, and what was kept bounds its column.
pub record IsWideWork (system : System) (work : Work) : Type 0 where
  pub lines : AllByRecursion (IsWide system) work.lines
  pub kept : AllByRecursion (BoundsItsColumn system.columns) work.kept

abbrev pub IsWideNext : System → Next → Type 0
IsWideNext system (Goes work) = IsWideWork system work
IsWideNext system (Ends outcome) = ⊤

-- One more was kept than so many.
abbrev pub KeepsOneMore : ℕ → Next → Type 0
KeepsOneMore n (Goes work) = length work.kept ≡ suc n
KeepsOneMore n (Ends outcome) = ⊤
