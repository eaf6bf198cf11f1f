-- The texts of homes.
use Rattle.std.specs.Prelude.{ℕ, pos, List, ◌++◌, codes}
use Rattle.thr_base.specs.Number.{number_text}
use Rattle.horn_rules.specs.Home.{Home, State, Env}

-- the text of a home: `s 1 2` is location 2 of thread 1, `e 1 2` its edge 2
abbrev pub home_text : Home → List ℕ
home_text (State i l) = codes "s " ++ (number_text (pos i) ++ (codes " " ++ number_text (pos l)))
home_text (Env i e) = codes "e " ++ (number_text (pos i) ++ (codes " " ++ number_text (pos e)))
