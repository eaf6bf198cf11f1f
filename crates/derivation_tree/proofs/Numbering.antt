-- The variables of rows, each once, and the points of the rows' system as values of the variables.
use Rattle.std.proofs.Common.{◌≡◌, List, [], ◌∷◌, ◌++◌, map, flat_map, Bool, true, false, ℤ, pos, ◌≤ℤ◌, ◌<ℤ◌, ◌*ℤ◌, MatchBool, refl, sym, ◌∙◌, ap, subst}
use Rattle.std.specs.Prelude.{◌||◌, if◌then◌else◌}
use Rattle.std.specs.List.{AllByRecursion, list_any}
use Rattle.std.proofs.lemmas.List.{length-map}
use Rattle.lin_rows.specs.Row.{MeetsOver}
use Rattle.lin_rows.specs.System.{IsRationalPoint}
use Rattle.lin_rows.proofs.Lists.{AllByRecursion-front, AllByRecursion-rest}
use Rattle.derivation_tree.specs.Variable.{Variable, same_variable, Term, NamedRow, variables_after, variables_of, row_over, system_over}
use Rattle.derivation_tree.specs.Sums.{coefficient_at}
use Rattle.derivation_tree.proofs.Values.{MeetsAt, AllMeetAt, same-is, same-refl, IsNamed, AreApart, AreNamed, product-worth, values-list}

-- ---- one more variable

extended : Bool → List Variable → Variable → List Variable
extended b named u = if b then named else named ++ u ∷ []

any-append : (u : Variable) (xs ys : List Variable) → list_any (same_variable u) (xs ++ ys) ≡ (list_any (same_variable u) xs || list_any (same_variable u) ys)
any-append u [] ys = refl
any-append u (x ∷ xs) ys = ap (λ b. same_variable u x || b) (any-append u xs ys) ∙ join (same_variable u x) (list_any (same_variable u) xs) (list_any (same_variable u) ys)
  where
    join : (a b c : Bool) → (a || (b || c)) ≡ ((a || b) || c)
    join true b c = refl
    join false b c = refl

not_turned : (u w : Variable) (b : Bool) → same_variable w u ≡ b → same_variable u w ≡ false → b ≡ false
not_turned u w false is none = refl
not_turned u w true is none = let turned : same_variable u u ≡ false = ap (same_variable u) (sym (same-is w u is)) ∙ none in let wrong : true ≡ false = sym (same-refl u) ∙ turned in cc

neither : (a b : Bool) → (a || b) ≡ false → (a ≡ false) × (b ≡ false)
neither false false e = (refl, refl)
neither false true e = cc
neither true b e = cc

or_none : (a b : Bool) → a ≡ false → b ≡ false → (a || b) ≡ false
or_none false false e f = refl
or_none true b e f = cc
or_none false true e f = cc

apart-snoc : (named : List Variable) (u : Variable) → AreApart named → list_any (same_variable u) named ≡ false → AreApart (named ++ u ∷ [])
apart-snoc [] u apart none = (refl, tt)
apart-snoc (w ∷ named) u apart none =
    let (here, later) = neither (same_variable u w) (list_any (same_variable u) named) none in
    let turned = not_turned u w (same_variable w u) refl here in
    (any-append w named (u ∷ []) ∙ or_none (list_any (same_variable w) named) (same_variable w u || false) apart.0 (or_none (same_variable w u) false turned refl), apart-snoc named u apart.1 later)

extended-apart : (b : Bool) (named : List Variable) (u : Variable) → list_any (same_variable u) named ≡ b → AreApart named → AreApart (if b then named else named ++ u ∷ [])
extended-apart true named u is apart = apart
extended-apart false named u is apart = apart-snoc named u apart is

or_true : (a : Bool) → (a || true) ≡ true
or_true true = refl
or_true false = refl

or_left : (a b : Bool) → a ≡ true → (a || b) ≡ true
or_left true b e = refl
or_left false b e = cc

extended-there : (b : Bool) (named : List Variable) (u : Variable) → list_any (same_variable u) named ≡ b → IsNamed (if b then named else named ++ u ∷ []) u
extended-there true named u is = is
extended-there false named u is = any-append u named (u ∷ []) ∙ ap (λ b. list_any (same_variable u) named || (b || false)) (same-refl u) ∙ or_true (list_any (same_variable u) named)

extended-stays : (b : Bool) (named : List Variable) (u w : Variable) → IsNamed named w → IsNamed (if b then named else named ++ u ∷ []) w
extended-stays true named u w there = there
extended-stays false named u w there = any-append w named (u ∷ []) ∙ or_left (list_any (same_variable w) named) (same_variable w u || false) there

-- ---- all variables

after-apart : (named : List Variable) (terms : List Term) → AreApart named → AreApart (variables_after named terms)
after-apart named [] apart = apart
after-apart named (term ∷ terms) apart =
    let b = list_any (same_variable term.variable) named in
    after-apart (if b then named else named ++ term.variable ∷ []) terms (extended-apart b named term.variable refl apart)

after-stays : (named : List Variable) (terms : List Term) (w : Variable) → IsNamed named w → IsNamed (variables_after named terms) w
after-stays named [] w there = there
after-stays named (term ∷ terms) w there =
    let b = list_any (same_variable term.variable) named in
    after-stays (if b then named else named ++ term.variable ∷ []) terms w (extended-stays b named term.variable w there)

after-named : (named : List Variable) (terms : List Term) → AreNamed (variables_after named terms) terms
after-named named [] = tt
after-named named (term ∷ terms) =
    let b = list_any (same_variable term.variable) named in
    let more = if b then named else named ++ term.variable ∷ [] in
    (after-stays more terms term.variable (extended-there b named term.variable refl), after-named more terms)

pub variables-apart : (rows : List NamedRow) → AreApart (variables_of rows)
variables-apart rows = after-apart [] (flat_map (λ row. row.terms) rows) tt

-- each row's variables stand there
abbrev pub AllNamed : List Variable → List NamedRow → Type 0
AllNamed variables rows = AllByRecursion (λ (row : NamedRow). AreNamed variables row.terms) rows

by_rows : (variables : List Variable) (rows : List NamedRow) → AreNamed variables (flat_map (λ row. row.terms) rows) → AllNamed variables rows
by_rows variables [] all = tt
by_rows variables (row ∷ rows) all = (
  AllByRecursion-front (λ (term : Term). IsNamed variables term.variable) row.terms (flat_map (λ row. row.terms) rows) all,
  by_rows variables rows (AllByRecursion-rest (λ (term : Term). IsNamed variables term.variable) row.terms (flat_map (λ row. row.terms) rows) all),
)

pub variables-named : (rows : List NamedRow) → AllNamed (variables_of rows) rows
variables-named rows = by_rows (variables_of rows) rows (after-named [] (flat_map (λ row. row.terms) rows))

-- ---- points and values

meets-over : (v : Variable → ℤ) (d : ℤ) (variables : List Variable) (row : NamedRow) → AreApart variables → AreNamed variables row.terms → MeetsAt v d row → MeetsOver (row_over variables row) (map v variables) d
meets-over v d variables row apart named h =
    subst (λ p. MatchBool row.equal (p ≡ row.bound *ℤ d) (p ≤ℤ (row.bound *ℤ d))) (sym (product-worth v variables row.terms apart named)) h

over-meets : (v : Variable → ℤ) (d : ℤ) (variables : List Variable) (row : NamedRow) → AreApart variables → AreNamed variables row.terms → MeetsOver (row_over variables row) (map v variables) d → MeetsAt v d row
over-meets v d variables row apart named h =
    subst (λ p. MatchBool row.equal (p ≡ row.bound *ℤ d) (p ≤ℤ (row.bound *ℤ d))) (product-worth v variables row.terms apart named) h

all-over : (v : Variable → ℤ) (d : ℤ) (variables : List Variable) (rows : List NamedRow) → AreApart variables → AllNamed variables rows → AllMeetAt v d rows
    → AllByRecursion (λ row. MeetsOver row (map v variables) d) (map (row_over variables) rows)
all-over v d variables [] apart named all = tt
all-over v d variables (row ∷ rows) apart named all = (meets-over v d variables row apart named.0 all.0, all-over v d variables rows apart named.1 all.1)

over-all : (v : Variable → ℤ) (d : ℤ) (variables : List Variable) (rows : List NamedRow) → AreApart variables → AllNamed variables rows
    → AllByRecursion (λ row. MeetsOver row (map v variables) d) (map (row_over variables) rows) → AllMeetAt v d rows
over-all v d variables [] apart named all = tt
over-all v d variables (row ∷ rows) apart named all = (over-meets v d variables row apart named.0 all.0, over-all v d variables rows apart named.1 all.1)

-- values that meet the rows are a point of their system
pub values-point : (v : Variable → ℤ) (d : ℤ) (rows : List NamedRow) → pos 0 <ℤ d → AllMeetAt v d rows → IsRationalPoint (system_over rows) (map v (variables_of rows)) d
values-point v d rows positive all = record {
  whole = length-map (variables_of rows) v;
  positive = positive;
  meets = all-over v d (variables_of rows) rows (variables-apart rows) (variables-named rows) all;
}

-- a point gives such values
pub point-values : (rows : List NamedRow) (x : List ℤ) (d : ℤ) → IsRationalPoint (system_over rows) x d → AllMeetAt (coefficient_at (variables_of rows) x) d rows
point-values rows x d point =
    let variables = variables_of rows in
    let v = coefficient_at variables x in
    let same = values-list variables x (variables-apart rows) point.whole in
    over-all v d variables rows (variables-apart rows) (variables-named rows)
    (subst (λ y. AllByRecursion (λ row. MeetsOver row y d) (map (row_over variables) rows)) (sym same) point.meets)
