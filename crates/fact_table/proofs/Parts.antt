-- The parts of one list that stand for many.
use Rattle.std.proofs.Common.{◌≡◌, ℕ, zero, suc, ◌+◌, ◌-◌, ◌<◌, ◌≤◌, List, [], ◌∷◌, ◌++◌, length, take, drop, map, replicate, get_or, refl, ap, subst, ◌∙◌, arith}
use Rattle.std.specs.List.{insert}
use Rattle.std.proofs.lemmas.List.Edits.{length-insert}
use Rattle.thr_base.specs.declared.names.FactId.{FactId}
use Rattle.fact_table.specs.inside.HomeIds.{HomeIds, parts, AreEnds, raised_ends, with_id, start_of}
use Rattle.fact_table.proofs.Inserts.{drop-insert, take-drop-insert, take-drop-insert_at}

pub length-parts : (ids : List FactId) (from : ℕ) (ends : List ℕ) → length (parts ids from ends) ≡ length ends
length-parts ids from [] = refl
length-parts ids from (end ∷ ends) = ap (λ n. suc n) (length-parts ids end ends)

-- the part at a place
pub part_from_is : (ids : List FactId) (from : ℕ) (ends : List ℕ) (place : ℕ) → place < length ends
    → get_or (parts ids from ends) place [] ≡ take (get_or ends place 0 - start_of from ends place) (drop (start_of from ends place) ids)
part_from_is ids from [] place lt = absurd (omega arith)
part_from_is ids from (end ∷ ends) zero lt = refl
part_from_is ids from (end ∷ ends) (suc zero) lt = part_from_is ids end ends zero (omega arith)
part_from_is ids from (end ∷ ends) (suc (suc place)) lt = part_from_is ids end ends (suc place) (omega arith)

pub part_is : (ids : List FactId) (ends : List ℕ) (place : ℕ) → place < length ends
    → get_or (parts ids 0 ends) place [] ≡ take (get_or ends place 0 - start_of 0 ends place) (drop (start_of 0 ends place) ids)
part_is ids ends place lt = part_from_is ids 0 ends place lt

-- It is within the list.
pub start_from_within : (count from : ℕ) (ends : List ℕ) (place : ℕ) → AreEnds count from ends → place < length ends
    → (start_of from ends place ≤ get_or ends place 0) × (get_or ends place 0 ≤ count)
start_from_within count from [] place are lt = absurd (omega arith)
start_from_within count from (end ∷ ends) zero are lt = (are.0, are.1)
start_from_within count from (end ∷ ends) (suc zero) are lt = start_from_within count end ends zero are.2 (omega arith)
start_from_within count from (end ∷ ends) (suc (suc place)) are lt = start_from_within count end ends (suc place) are.2 (omega arith)

pub start_within : (count : ℕ) (ends : List ℕ) (place : ℕ) → AreEnds count 0 ends → place < length ends
    → (start_of 0 ends place ≤ get_or ends place 0) × (get_or ends place 0 ≤ count)
start_within count ends place are lt = start_from_within count 0 ends place are lt

-- nothing stands anywhere
pub parts-nothing : (n : ℕ) → parts [] 0 (replicate n 0) ≡ replicate n []
parts-nothing zero = refl
parts-nothing (suc n) = ap (λ lists. [] ∷ lists) (parts-nothing n)

pub AreEnds-zeros : (n : ℕ) → AreEnds 0 0 (replicate n 0)
AreEnds-zeros zero = tt
AreEnds-zeros (suc n) = (omega arith, omega arith, AreEnds-zeros n)

end_le : (count from : ℕ) (ends : List ℕ) (place : ℕ) → AreEnds count from ends → place < length ends → from ≤ get_or ends place 0
end_le count from [] place are lt = absurd (omega arith)
end_le count from (end ∷ ends) zero are lt = are.0
end_le count from (end ∷ ends) (suc place) are lt = let more = end_le count end ends place are.2 (omega arith) in omega arith

-- one more id at the end of a part

parts-insert_behind : (ids : List FactId) (id : FactId) (at from : ℕ) (ends : List ℕ) → at ≤ from → from ≤ length ids → AreEnds (length ids) from ends
    → parts (insert ids at id) (from + 1) (map (λ end. end + 1) ends) ≡ parts ids from ends
parts-insert_behind ids id at from [] le within are = refl
parts-insert_behind ids id at from (end ∷ ends) le within are =
    let one : from + 1 ≡ suc from = omega arith in
    let many : (end + 1) - (from + 1) ≡ end - from = omega arith in
    let behind : drop (suc from) (insert ids at id) ≡ drop from ids = drop-insert ids at from id le (omega arith) in
    let rest = parts-insert_behind ids id at end ends (omega arith) are.1 are.2 in
    cc

pub parts-insert : (ids : List FactId) (id : FactId) (from : ℕ) (ends : List ℕ) (place : ℕ) → AreEnds (length ids) from ends → place < length ends
    → parts (insert ids (get_or ends place 0) id) from (raised_ends place ends) ≡ with_id (parts ids from ends) place id
parts-insert ids id from [] place are lt = absurd (omega arith)
parts-insert ids id from (end ∷ ends) zero are lt =
    let many : (end + 1) - from ≡ suc (end - from) = omega arith in
    let here : take (suc (end - from)) (drop from (insert ids end id)) ≡ take (end - from) (drop from ids) ++ id ∷ [] = take-drop-insert_at ids end from (end - from) id (omega arith) are.1 in
    let rest : parts (insert ids end id) (end + 1) (map (λ end. end + 1) ends) ≡ parts ids end ends = parts-insert_behind ids id end end ends (omega arith) are.1 are.2 in
    cc
parts-insert ids id from (end ∷ ends) (suc place) are lt =
    let bound = start_from_within (length ids) end ends place are.2 (omega arith) in
    let at_least = end_le (length ids) end ends place are.2 (omega arith) in
    let here = take-drop-insert ids (get_or ends place 0) from (end - from) id (omega arith) bound.1 in
    let rest = parts-insert ids id end ends place are.2 (omega arith) in
    cc

pub ends_below : (count from : ℕ) (ends : List ℕ) → AreEnds count from ends → (k : ℕ) → k < length ends → get_or ends k 0 ≤ count
ends_below count from [] are k lt = absurd (omega arith)
ends_below count from (end ∷ ends) are zero lt = are.1
ends_below count from (end ∷ ends) are (suc k) lt = ends_below count end ends are.2 k (omega arith)

-- The raised ends are ends in the longer list.
AreEnds-raised_behind : (count from : ℕ) (ends : List ℕ) → AreEnds count from ends → AreEnds (count + 1) (from + 1) (map (λ end. end + 1) ends)
AreEnds-raised_behind count from [] are = tt
AreEnds-raised_behind count from (end ∷ ends) are = (omega arith, omega arith, AreEnds-raised_behind count end ends are.2)

pub AreEnds-raised : (count from : ℕ) (ends : List ℕ) (place : ℕ) → AreEnds count from ends → AreEnds (count + 1) from (raised_ends place ends)
AreEnds-raised count from [] zero are = tt
AreEnds-raised count from [] (suc place) are = tt
AreEnds-raised count from (end ∷ ends) zero are = (omega arith, omega arith, AreEnds-raised_behind count end ends are.2)
AreEnds-raised count from (end ∷ ends) (suc place) are = (are.0, omega arith, AreEnds-raised count end ends place are.2)

-- ---- what contracts see

abbrev pub seen : ℕ → List FactId → List ℕ → HomeIds
seen room ids ends = record { room = room; count = length ids; lists = parts ids 0 ends }

pub place_within : (room : ℕ) (ids : List FactId) (ends : List ℕ) (was : HomeIds) (home : ℕ)
    → seen room ids ends ≡ was → 0 < home → home ≤ length was.lists → home - 1 < length ends
place_within room ids ends was home is some within =
    let lists = ap (λ (w : HomeIds). length w.lists) is in
    omega (arith, lists, length-parts ids 0 ends)

pub seen-push : (room : ℕ) (ids new_ids : List FactId) (ends new_ends : List ℕ) (place end : ℕ) (id : FactId) (was : HomeIds)
    → seen room ids ends ≡ was → AreEnds (length ids) 0 ends → place < length ends → end ≡ get_or ends place 0
    → new_ids ≡ insert ids end id → new_ends ≡ raised_ends place ends
    → seen room new_ids new_ends ≡ record was { count = was.count + 1; lists = with_id was.lists place id }
seen-push room ids new_ids ends new_ends place end id was is are lt at ids_is ends_is =
    let bound = ends_below (length ids) 0 ends are place lt in
    let within : end ≤ length ids = omega (arith, at, bound) in
    let more = length-insert ids end id within in
    let count : length new_ids ≡ length ids + 1 = ap length ids_is ∙ more in
    let inserted = parts-insert ids id 0 ends place are lt in
    let lists : parts new_ids 0 new_ends ≡ with_id (parts ids 0 ends) place id = cc in
    let Seen : HomeIds → Type 0 = λ w. seen room new_ids new_ends ≡ record w { count = w.count + 1; lists = with_id w.lists place id } in
    subst Seen is (cc)

pub fits-push : (ids new_ids : List FactId) (ends new_ends : List ℕ) (place end : ℕ) (id : FactId) → AreEnds (length ids) 0 ends → place < length ends → end ≡ get_or ends place 0
    → new_ids ≡ insert ids end id → new_ends ≡ raised_ends place ends
    → (length new_ids ≡ length ids + 1) × AreEnds (length new_ids) 0 new_ends
fits-push ids new_ids ends new_ends place end id are lt at ids_is ends_is =
    let bound = ends_below (length ids) 0 ends are place lt in
    let within : end ≤ length ids = omega (arith, at, bound) in
    let more = length-insert ids end id within in
    let count : length new_ids ≡ length ids + 1 = ap length ids_is ∙ more in
    (count, rw (count, ends_is) (AreEnds-raised (length ids) 0 ends place are))

pub seen-clear : (room : ℕ) (ids new_ids : List FactId) (ends new_ends : List ℕ) (was : HomeIds)
    → seen room ids ends ≡ was → new_ids ≡ [] → new_ends ≡ replicate (length ends) 0
    → seen room new_ids new_ends ≡ record was { count = 0; lists = replicate (length was.lists) [] }
seen-clear room ids new_ids ends new_ends was is ids_is ends_is =
    let count = length-parts ids 0 ends in
    let Seen : HomeIds → Type 0 = λ w. seen room new_ids new_ends ≡ record w { count = 0; lists = replicate (length w.lists) [] } in
    subst Seen is (rw (ids_is, ends_is, count) (ap (λ (lists : List (List FactId)). let made : HomeIds = record { room = room; count = 0; lists = lists } in made) (parts-nothing (length ends))))

pub fits-clear : (ids : List FactId) (ends : List ℕ) (n : ℕ) → ids ≡ [] → ends ≡ replicate n 0 → (length ids ≡ 0) × AreEnds (length ids) 0 ends
fits-clear ids ends n ids_is ends_is = (ap length ids_is, rw (ids_is, ends_is) (AreEnds-zeros n))

pub seen-made : (room homes : ℕ) (ids : List FactId) (ends : List ℕ) → ids ≡ [] → ends ≡ replicate homes 0
    → seen room ids ends ≡ record { room = room; count = 0; lists = replicate homes [] }
seen-made room homes ids ends ids_is ends_is =
    rw (ids_is, ends_is) (ap (λ (lists : List (List FactId)). let made : HomeIds = record { room = room; count = 0; lists = lists } in made) (parts-nothing homes))
