-- The columns of the stages, set one after another from the latest on.
use Rattle.std.proofs.Common.{◌≡◌, ℕ, suc, refl, ap, ◌∙◌, arith, List, [], ◌∷◌, ◌++◌, map, reverse, length, Some, None}
use Rattle.std.specs.List.{AllByRecursion}
use Rattle.std.proofs.lemmas.List.{reverse-append, map-append, length-map, length-reverse}
use Rattle.farkas_cert.specs.BackSubstitution.{RationalPoint, Kept, set_column}
use Rattle.farkas_cert.specs.Elimination.{Point, Leaves, point_from}
use Rattle.farkas_cert.specs.declared.answers.LeaveKind.TheVariants.{Overflow}
use Rattle.plain_elim.specs.declared.kept.Kept.{Kept as HeldKept}
use Rattle.plain_elim.specs.inside.Held.{kept_of, BoundsItsColumn}
use Rattle.lin_rows.proofs.Lists.{AllByRecursion-front, AllByRecursion-rest}

-- what the program holds, latest first
abbrev pub latest_first : List HeldKept → List Kept
latest_first kept = reverse (map kept_of kept)

latest_first-append : (kept rest : List HeldKept) (latest : HeldKept) → kept ≡ rest ++ latest ∷ [] → latest_first kept ≡ kept_of latest ∷ latest_first rest
latest_first-append kept rest latest e = ap latest_first e ∙ ap reverse (map-append kept_of rest (latest ∷ [])) ∙ reverse-append (map kept_of rest) (kept_of latest ∷ [])

pub point_from-stops : (n : ℕ) (kept rest : List HeldKept) (latest : HeldKept) (point : RationalPoint) → kept ≡ rest ++ latest ∷ []
    → None ≡ set_column n point (kept_of latest) → Leaves (suc (length rest)) Overflow ≡ point_from n (latest_first kept) point
unfolding point_from
point_from-stops n kept rest latest point e none =
    let size : length (latest_first rest) ≡ length rest = length-reverse (map kept_of rest) ∙ length-map rest kept_of in
    rw (latest_first-append kept rest latest e, ← none, size) refl

pub point_from-goes : (n : ℕ) (kept rest : List HeldKept) (latest : HeldKept) (point next : RationalPoint) → kept ≡ rest ++ latest ∷ []
    → Some next ≡ set_column n point (kept_of latest) → point_from n (latest_first rest) next ≡ point_from n (latest_first kept) point
unfolding point_from
point_from-goes n kept rest latest point next e some = rw (latest_first-append kept rest latest e, ← some) refl

pub bounds_of_rest : (n : ℕ) (kept rest : List HeldKept) (latest : HeldKept) → kept ≡ rest ++ latest ∷ []
    → AllByRecursion (BoundsItsColumn n) (map kept_of kept) → AllByRecursion (BoundsItsColumn n) (map kept_of rest)
bounds_of_rest n kept rest latest e all =
    AllByRecursion-front (BoundsItsColumn n) (map kept_of rest) (kept_of latest ∷ []) (rw (e, map-append kept_of rest (latest ∷ [])) at all)

pub bounds_of_latest : (n : ℕ) (kept rest : List HeldKept) (latest : HeldKept) → kept ≡ rest ++ latest ∷ []
    → AllByRecursion (BoundsItsColumn n) (map kept_of kept) → BoundsItsColumn n (kept_of latest)
bounds_of_latest n kept rest latest e all =
    (AllByRecursion-rest (BoundsItsColumn n) (map kept_of rest) (kept_of latest ∷ []) (rw (e, map-append kept_of rest (latest ∷ [])) at all)).0

pub point_from-end : (n : ℕ) (kept : List HeldKept) (point : RationalPoint) → length kept ≡ 0
    → Point point.numerators point.denominator ≡ point_from n (latest_first kept) point
unfolding point_from
point_from-end n [] point e = refl
point_from-end n (k ∷ kept) point e = absurd (omega arith)
