-- The ids at each home, in one list: those of a home stand between the end of the home before and its own end.
use Rattle.std.specs.Prelude.{ℕ, zero, suc, ◌+◌, ◌-◌, ◌≤◌, List, [], ◌∷◌, ◌++◌, take, drop, map, slice_index_or, slice_set}
use Rattle.thr_base.specs.declared.names.FactId.{FactId}

-- how many ids may stand there, how many stand there, and those of each home
pub record HomeIds : Type 0 where
  pub room : ℕ
  pub count : ℕ
  pub lists : List (List FactId)

-- the parts of a list from a place on up to each of these ends
abbrev pub parts : List FactId → ℕ → List ℕ → List (List FactId)
parts ids from [] = []
parts ids from (end ∷ ends) = take (end - from) (drop from ids) ∷ parts ids end ends

-- These are ends of parts that begin at a place, of a list of this length.
abbrev pub AreEnds : ℕ → ℕ → List ℕ → Type 0
AreEnds count from [] = Unit {0}
AreEnds count from (end ∷ ends) = (from ≤ end) × (end ≤ count) × AreEnds count end ends

-- the ends from place n on, one more each
abbrev pub raised_ends : ℕ → List ℕ → List ℕ
raised_ends n ends = take n ends ++ map (λ end. end + 1) (drop n ends)

-- the lists with one more id at the end of that of a home, which has this place
abbrev pub with_id : List (List FactId) → ℕ → FactId → List (List FactId)
with_id lists place id = slice_set lists place (slice_index_or lists place [] ++ id ∷ [])

-- where the part at a place begins
abbrev pub start_of : ℕ → List ℕ → ℕ → ℕ
start_of from ends zero = from
start_of from ends (suc place) = slice_index_or ends place 0
