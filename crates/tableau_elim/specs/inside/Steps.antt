-- Single steps of a round.
use Rattle.std.specs.Prelude.{Bool, true, cond, not, List, Option, Some, None}
use Rattle.tableau_elim.specs.Tableau.{Line, comes_before}
use Rattle.tableau_elim.specs.Rounds.{earlier, is_within, standing_of}
use Rattle.tableau_elim.specs.declared.variable.Variable.{Variable}

-- whether a line comes before the best so far
abbrev pub comes_first : Option Line → Line → Bool
comes_first None line = true
comes_first (Some best) line = comes_before line.basic best.basic

-- the best so far with one more line, which counts where it is out
abbrev pub earlier_out : List Variable → Option Line → Line → Option Line
earlier_out places best line = cond (not (is_within (standing_of places line))) (earlier best line) best
