-- Worked lists of what the paths of atomic bodies pick.
use Rattle.std.specs.Prelude.{◌≡◌, true, false, List, [], ◌∷◌, map}
use Rattle.std.proofs.Common.{refl}
use Rattle.c_check.specs.declared.operation.Mark.TheVariants as mark
use Rattle.c_check.specs.Plan.{Stmt, Test}
use Rattle.thread_cfg.specs.declared.relation.Relation.TheVariants as related
use Rattle.thread_cfg.specs.Picks.{Pick, block_picked}
use Rattle.thread_cfg.proofs.WorkedWords.{any, assert, assume, body, compare, if_else, l, number, plus, set_l, set_x, when, x}

abbrev picks_of : List Stmt → List (List Pick)
picks_of is = map (λ p. p.picks) (block_picked (body is))

abbrev equal : Pick
equal = Pick.Took related.Equal

abbrev less : Pick
less = Pick.Took related.Less

abbrev greater : Pick
greater = Pick.Took related.Greater

abbrev at_most : Pick
at_most = Pick.Took related.AtMost

abbrev at_least : Pick
at_least = Pick.Took related.AtLeast

-- nothing in the body: one path, which picks nothing
picks-empty : picks_of [] ≡ [] ∷ []
picks-empty = refl

-- if (l < x) { assert(l == 0); x = l; } else l = l + 1; assume(x >= l);
picks-mixed :
    picks_of (if_else (when (compare mark.Less l x)) (assert (compare mark.Equal l (number 0)) ∷ set_x l ∷ []) (set_l (plus l 1) ∷ [])
    ∷ assume (compare mark.AtLeast x l) ∷ []) ≡
    (less ∷ equal ∷ at_least ∷ [])
    ∷ (less ∷ less ∷ [])
    ∷ (less ∷ greater ∷ [])
    ∷ (at_least ∷ at_least ∷ []) ∷ []
picks-mixed = refl

-- if (x == l) ; if (any) ; of which no two paths pick the same
picks-apart : picks_of (if_else (when (compare mark.Equal x l)) [] [] ∷ if_else any [] [] ∷ []) ≡
    (equal ∷ Pick.Went true ∷ [])
    ∷ (equal ∷ Pick.Went false ∷ [])
    ∷ (less ∷ Pick.Went true ∷ [])
    ∷ (less ∷ Pick.Went false ∷ [])
    ∷ (greater ∷ Pick.Went true ∷ [])
    ∷ (greater ∷ Pick.Went false ∷ []) ∷ []
picks-apart = refl

-- if (l <= 0 || x <= 1) l = 9; where nothing is picked of the second test if the first one is true
picks-or :
    picks_of (if_else (when (Test.Or (compare mark.AtMost l (number 0)) (compare mark.AtMost x (number 1)))) (set_l (number 9) ∷ []) [] ∷ []) ≡
    (at_most ∷ [])
    ∷ (greater ∷ at_most ∷ [])
    ∷ (greater ∷ greater ∷ []) ∷ []
picks-or = refl
