-- What is known of each table stays so as facts come in, are marked and are swept out.
use Rattle.std.proofs.Common.{◌≡◌, ◌≢◌, ℕ, zero, suc, ◌+◌, ◌<◌, ◌≤◌, Bool, true, false, cond, List, [], ◌∷◌, ◌++◌, length, map, take, get_or, sym, subst, arith, length-append}
use Rattle.std.specs.List.{AllByRecursion, filter}
use Rattle.thr_base.specs.Held.{Rise}
use Rattle.fact_table.specs.declared.live_fact.LiveFact.{LiveFact}
use Rattle.fact_table.specs.Live.{Lacks}
use Rattle.fact_table.specs.Table.{AreDistinct, FactTable, HasHome, IsTable}

-- ---- of each element

All-push : (P : LiveFact → Type 0) (live : List LiveFact) (f : LiveFact) → AllByRecursion P live → P f → AllByRecursion P (live ++ f ∷ [])
All-push P [] f all one = (one, tt)
All-push P (g ∷ live) f all one = (all.0, All-push P live f all.1 one)

All-weaker : (P Q : LiveFact → Type 0) → ((f : LiveFact) → P f → Q f) → (live : List LiveFact) → AllByRecursion P live → AllByRecursion Q live
All-weaker P Q weaker [] all = tt
All-weaker P Q weaker (f ∷ live) all = (weaker f all.0, All-weaker P Q weaker live all.1)

cond_all : (P : LiveFact → Type 0) (b : Bool) (f : LiveFact) (kept : List LiveFact) → P f → AllByRecursion P kept → AllByRecursion P (cond b (f ∷ kept) kept)
cond_all P true f kept one all = (one, all)
cond_all P false f kept one all = all

All-kept : (P : LiveFact → Type 0) (keep : LiveFact → Bool) (live : List LiveFact) → AllByRecursion P live → AllByRecursion P (filter keep live)
All-kept P keep [] all = tt
All-kept P keep (f ∷ live) all = cond_all P (keep f) f (filter keep live) all.0 (All-kept P keep live all.1)

pub All-at : (P : LiveFact → Type 0) (live : List LiveFact) (i : ℕ) (d : LiveFact) → AllByRecursion P live → i < length live → P (get_or live i d)
All-at P [] i d all lt = absurd (omega arith)
All-at P (g ∷ live) zero d all lt = all.0
All-at P (g ∷ live) (suc i) d all lt = All-at P live i d all.1 (omega arith)

-- ---- ids rise

Rise-push : (last : ℕ) (live : List LiveFact) (f : LiveFact) → Rise last (map (λ g. g.id.0) live) → last < f.id.0 → AllByRecursion (λ g. g.id.0 < f.id.0) live
    → Rise last (map (λ g. g.id.0) (live ++ f ∷ []))
Rise-push last [] f rise above all = (above, tt)
Rise-push last (g ∷ live) f rise above all = (rise.0, Rise-push g.id.0 live f rise.1 all.0 all.1)

Rise-lower : (low last : ℕ) (ks : List ℕ) → low ≤ last → Rise last ks → Rise low ks
Rise-lower low last [] le rise = tt
Rise-lower low last (k ∷ ks) le rise = (omega (arith, le, rise.0), rise.1)

cond_rise : (b : Bool) (last : ℕ) (f : LiveFact) (kept : List LiveFact) → last < f.id.0 → Rise f.id.0 (map (λ g. g.id.0) kept) → Rise last (map (λ g. g.id.0) (cond b (f ∷ kept) kept))
cond_rise true last f kept above rise = (above, rise)
cond_rise false last f kept above rise = Rise-lower last f.id.0 (map (λ g. g.id.0) kept) (omega arith) rise

Rise-kept : (keep : LiveFact → Bool) (last : ℕ) (live : List LiveFact) → Rise last (map (λ g. g.id.0) live) → Rise last (map (λ g. g.id.0) (filter keep live))
Rise-kept keep last [] rise = tt
Rise-kept keep last (f ∷ live) rise = cond_rise (keep f) last f (filter keep live) rise.0 (Rise-kept keep f.id.0 live rise.1)

-- ---- no fact twice

AreDistinct-push : (live : List LiveFact) (f : LiveFact) → AreDistinct live → Lacks live f.fact → AreDistinct (live ++ f ∷ [])
AreDistinct-push [] f distinct lacks = (tt, tt)
AreDistinct-push (g ∷ live) f distinct lacks =
    (All-push (λ h. h.fact ≢ g.fact) live f distinct.0 (λ e. lacks.0 (sym e)), AreDistinct-push live f distinct.1 lacks.1)

cond_distinct : (b : Bool) (f : LiveFact) (kept : List LiveFact) → AllByRecursion (λ h. h.fact ≢ f.fact) kept → AreDistinct kept → AreDistinct (cond b (f ∷ kept) kept)
cond_distinct true f kept all distinct = (all, distinct)
cond_distinct false f kept all distinct = distinct

AreDistinct-kept : (keep : LiveFact → Bool) (live : List LiveFact) → AreDistinct live → AreDistinct (filter keep live)
AreDistinct-kept keep [] distinct = tt
AreDistinct-kept keep (f ∷ live) distinct =
    cond_distinct (keep f) f (filter keep live) (All-kept (λ h. h.fact ≢ f.fact) keep live distinct.0) (AreDistinct-kept keep live distinct.1)

pub AreDistinct-before : (live : List LiveFact) (i : ℕ) (d : LiveFact) → AreDistinct live → i < length live → Lacks (take i live) (get_or live i d).fact
AreDistinct-before [] i d distinct lt = absurd (omega arith)
AreDistinct-before (g ∷ live) zero d distinct lt = tt
AreDistinct-before (g ∷ live) (suc i) d distinct lt =
    (λ e. All-at (λ h. h.fact ≢ g.fact) live i d distinct.0 (omega arith) (sym e), AreDistinct-before live i d distinct.1 (omega arith))

-- ---- tables

cond_length : (b : Bool) (f : LiveFact) (kept : List LiveFact) (n : ℕ) → length kept ≤ n → length (cond b (f ∷ kept) kept) ≤ suc n
cond_length true f kept n le = omega arith
cond_length false f kept n le = omega arith

pub length-kept : (keep : LiveFact → Bool) (live : List LiveFact) → length (filter keep live) ≤ length live
length-kept keep [] = omega arith
length-kept keep (f ∷ live) = cond_length (keep f) f (filter keep live) (length live) (length-kept keep live)

pub IsTable-nothing : (homes limit : ℕ) → IsTable (record { homes = homes; limit = limit; given = 0; live = [] })
IsTable-nothing homes limit = record { few = omega arith; ids_rise = tt; ids_given = tt; at_homes = tt; distinct = tt }

pub IsTable-push : (table later : FactTable) (f : LiveFact) → IsTable table → Lacks table.live f.fact → length table.live < table.limit → HasHome table.homes f.fact.home.0
    → f.id.0 ≡ table.given + 1 → later ≡ record table { given = table.given + 1; live = table.live ++ f ∷ [] } → IsTable later
IsTable-push table later f is lacks few there id later_is =
    let longer = length-append table.live (f ∷ []) in
    let below = All-weaker (λ g. g.id.0 ≤ table.given) (λ g. g.id.0 < f.id.0) (λ g le. omega (arith, le, id)) table.live is.ids_given in
    let at_most = All-weaker (λ g. g.id.0 ≤ table.given) (λ g. g.id.0 ≤ table.given + 1) (λ g le. omega (arith, le)) table.live is.ids_given in
    subst IsTable (sym later_is) (record {
      few = omega (arith, longer);
      ids_rise = Rise-push 0 table.live f is.ids_rise (omega (arith, id)) below;
      ids_given = All-push (λ g. g.id.0 ≤ table.given + 1) table.live f at_most (omega (arith, id));
      at_homes = All-push (λ g. HasHome table.homes g.fact.home.0) table.live f is.at_homes there;
      distinct = AreDistinct-push table.live f is.distinct lacks;
    })

pub IsTable-kept : (table : FactTable) (keep : LiveFact → Bool) → IsTable table → IsTable (record table { live = filter keep table.live })
IsTable-kept table keep is = record {
  few = omega (arith, length-kept keep table.live, is.few);
  ids_rise = Rise-kept keep 0 table.live is.ids_rise;
  ids_given = All-kept (λ g. g.id.0 ≤ table.given) keep table.live is.ids_given;
  at_homes = All-kept (λ g. HasHome table.homes g.fact.home.0) keep table.live is.at_homes;
  distinct = AreDistinct-kept keep table.live is.distinct;
}
