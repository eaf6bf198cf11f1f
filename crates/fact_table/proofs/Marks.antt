-- A mark changes nothing of what is found.
use Rattle.std.proofs.Common.{◌≡◌, ◌≢◌, ℕ, zero, suc, ◌+◌, ◌≤◌, eqb, Bool, true, false, cond, List, [], ◌∷◌, length, map, Option, Some, None, refl, ap, sym, ◌∙◌, subst, arith}
use Rattle.std.specs.List.{AllByRecursion, range_with_len}
use Rattle.thr_base.specs.Held.{Rise}
use Rattle.thr_base.specs.declared.names.FactId.{FactId}
use Rattle.fact_table.specs.declared.index.Index.{Index}
use Rattle.fact_table.specs.declared.live_fact.LiveFact.{LiveFact}
use Rattle.fact_table.specs.Live.{ids_at}
use Rattle.fact_table.specs.Table.{AreDistinct, FactTable, HasHome, IsTable}
use Rattle.fact_table.specs.inside.FactIds.{is_key, key_of}
use Rattle.fact_table.specs.inside.Index.{IsIndexOf, id_of, later}
use Rattle.fact_table.specs.inside.Stored.{marked_at}

length-marked_at : (live : List LiveFact) (place : ℕ) → length (marked_at live place) ≡ length live
length-marked_at [] place = refl
length-marked_at (f ∷ live) zero = refl
length-marked_at (f ∷ live) (suc place) = ap (λ n. suc n) (length-marked_at live place)

ids-marked_at : (live : List LiveFact) (place : ℕ) → map (λ f. f.id) (marked_at live place) ≡ map (λ f. f.id) live
ids-marked_at [] place = refl
ids-marked_at (f ∷ live) zero = refl
ids-marked_at (f ∷ live) (suc place) = ap (λ (ids : List FactId). f.id ∷ ids) (ids-marked_at live place)

numbers-marked_at : (live : List LiveFact) (place : ℕ) → map (λ f. f.id.0) (marked_at live place) ≡ map (λ f. f.id.0) live
numbers-marked_at [] place = refl
numbers-marked_at (f ∷ live) zero = refl
numbers-marked_at (f ∷ live) (suc place) = ap (λ (ids : List ℕ). f.id.0 ∷ ids) (numbers-marked_at live place)

id_of-marked_at : (live : List LiveFact) (place : ℕ) (key : ℕ × ℕ) → id_of (marked_at live place) key ≡ id_of live key
id_of-marked_at [] place key = refl
id_of-marked_at (f ∷ live) zero key = refl
id_of-marked_at (f ∷ live) (suc place) key = ap (λ (o : Option FactId). later o (cond (is_key (key_of f.fact) key) (Some f.id) None)) (id_of-marked_at live place key)

cond_ids : (b : Bool) (f : LiveFact) (one other : List LiveFact) → map (λ (g : LiveFact). g.id) one ≡ map (λ (g : LiveFact). g.id) other
    → map (λ (g : LiveFact). g.id) (cond b (f ∷ one) one) ≡ map (λ (g : LiveFact). g.id) (cond b (f ∷ other) other)
cond_ids true f one other e = ap (λ (ids : List FactId). f.id ∷ ids) e
cond_ids false f one other e = e

marked_first : (b : Bool) (f : LiveFact) (live : List LiveFact) → map (λ (g : LiveFact). g.id) (cond b (record f { marked = true } ∷ live) live) ≡ map (λ (g : LiveFact). g.id) (cond b (f ∷ live) live)
marked_first true f live = refl
marked_first false f live = refl

ids_at-marked_at : (home : ℕ) (live : List LiveFact) (place : ℕ) → ids_at home (marked_at live place) ≡ ids_at home live
ids_at-marked_at home [] place = refl
ids_at-marked_at home (f ∷ live) zero = marked_first (eqb f.fact.home.0 home) f _
ids_at-marked_at home (f ∷ live) (suc place) = cond_ids (eqb f.fact.home.0 home) f _ _ (ids_at-marked_at home live place)

lists-marked_at : (k n : ℕ) (live : List LiveFact) (place : ℕ) → map (λ home. ids_at home (marked_at live place)) (range_with_len k n) ≡ map (λ home. ids_at home live) (range_with_len k n)
lists-marked_at k zero live place = refl
lists-marked_at k (suc n) live place =
    let here = ids_at-marked_at k live place in
    let rest = lists-marked_at (k + 1) n live place in
    cc

All-marked_at : (P : LiveFact → Type 0) → ((f : LiveFact) → P f → P (record f { marked = true })) → (live : List LiveFact) (place : ℕ) → AllByRecursion P live → AllByRecursion P (marked_at live place)
All-marked_at P stays [] place all = tt
All-marked_at P stays (f ∷ live) zero all = (stays f all.0, all.1)
All-marked_at P stays (f ∷ live) (suc place) all = (all.0, All-marked_at P stays live place all.1)

AreDistinct-marked_at : (live : List LiveFact) (place : ℕ) → AreDistinct live → AreDistinct (marked_at live place)
AreDistinct-marked_at [] place distinct = tt
AreDistinct-marked_at (f ∷ live) zero distinct = distinct
AreDistinct-marked_at (f ∷ live) (suc place) distinct = (All-marked_at (λ g. g.fact ≢ f.fact) (λ g apart. apart) live place distinct.0, AreDistinct-marked_at live place distinct.1)

pub IsTable-marked_at : (table : FactTable) (place : ℕ) → IsTable table → IsTable (record table { live = marked_at table.live place })
IsTable-marked_at table place is =
    let Up : List ℕ → Type 0 = λ ks. Rise 0 ks in
    record {
      few = omega (arith, length-marked_at table.live place, is.few);
      ids_rise = subst Up (sym (numbers-marked_at table.live place)) is.ids_rise;
      ids_given = All-marked_at (λ f. f.id.0 ≤ table.given) (λ f le. le) table.live place is.ids_given;
      at_homes = All-marked_at (λ f. HasHome table.homes f.fact.home.0) (λ f there. there) table.live place is.at_homes;
      distinct = AreDistinct-marked_at table.live place is.distinct;
    }

pub IsIndexOf-marked_at : (live : List LiveFact) (place : ℕ) (index : Index) → IsIndexOf live index → IsIndexOf (marked_at live place) index
IsIndexOf-marked_at live place index is = record {
  rooms = is.rooms;
  ids = is.ids ∙ sym (ids-marked_at live place);
  fact_count = is.fact_count ∙ sym (length-marked_at live place);
  fact_ids = λ key. is.fact_ids key ∙ sym (id_of-marked_at live place key);
  home_count = is.home_count ∙ sym (length-marked_at live place);
  home_ids = is.home_ids ∙ sym (lists-marked_at 1 (length index.by_home.lists) live place);
}
