-- What comes in rests on what came before.
use Rattle.std.proofs.Common.{◌≡◌, ℕ, zero, suc, ◌+◌, ◌<◌, ◌≤◌, List, [], ◌∷◌, ◌++◌, length, map, get_or, refl, ap, sym, ◌∙◌, subst, arith, length-append}
use Rattle.std.specs.List.{AllByRecursion, Contains}
use Rattle.thr_base.specs.declared.names.Fact.{Fact}
use Rattle.thr_base.specs.declared.names.FactId.{FactId}
use Rattle.thr_base.specs.declared.names.Instance.{Instance}
use Rattle.fact_table.specs.declared.live_fact.LiveFact.{LiveFact}
use Rattle.fact_table.specs.declared.table.Inserted.{Inserted}
use Rattle.fact_table.specs.declared.table.Inserted.TheVariants.{New, Same, Full}
use Rattle.fact_table.specs.Live.{ArePremisesLive, IsLive, premises_of}
use Rattle.fact_table.specs.Table.{FactTable, IsInsertAnswer, IsTable, new_fact}
use Rattle.withdraw.specs.Withdrawal.{CameBefore, InsertionsRestOnEarlier, RestOnEarlier}

get_or-front : (live more : List LiveFact) (k : ℕ) (g : LiveFact) → k < length live → get_or (live ++ more) k g ≡ get_or live k g
get_or-front [] more k g lt = absurd (omega arith)
get_or-front (f ∷ live) more zero g lt = refl
get_or-front (f ∷ live) more (suc k) g lt = get_or-front live more k g (omega arith)

IsLive-more : (live more : List LiveFact) (id : FactId) → IsLive live id → IsLive (live ++ more) id
IsLive-more live more id is =
    (is.0, (is.1.0, omega (arith, is.1.1, length-append live more), get_or-front live more is.1.0 is.0 is.1.1 ∙ is.1.2), is.2)

rest-more : (live more : List LiveFact) (f : LiveFact) (ids : List FactId) → AllByRecursion (CameBefore live f) ids → AllByRecursion (CameBefore (live ++ more) f) ids
rest-more live more f [] all = tt
rest-more live more f (id ∷ ids) all = ((IsLive-more live more id all.0.0, all.0.1), rest-more live more f ids all.1)

all-more : (live more part : List LiveFact) → AllByRecursion (λ f. AllByRecursion (CameBefore live f) (premises_of f.kept)) part → AllByRecursion (λ f. AllByRecursion (CameBefore (live ++ more) f) (premises_of f.kept)) part
all-more live more [] all = tt
all-more live more (f ∷ part) all = (rest-more live more f (premises_of f.kept) all.0, all-more live more part all.1)

all-push : (P : LiveFact → Type 0) (live : List LiveFact) (f : LiveFact) → AllByRecursion P live → P f → AllByRecursion P (live ++ f ∷ [])
all-push P [] f all one = (one, tt)
all-push P (g ∷ live) f all one = (all.0, all-push P live f all.1 one)

at : (P : LiveFact → Type 0) (live : List LiveFact) (g : LiveFact) (k : ℕ) → AllByRecursion P live → k < length live → get_or live k g ≡ g → P g
at P [] g k all lt is = absurd (omega arith)
at P (f ∷ live) g zero all lt is = subst P is all.0
at P (f ∷ live) g (suc k) all lt is = at P live g k all.1 (omega arith) is

new_rests : (table : FactTable) (f : LiveFact) (more : List LiveFact) (ids : List FactId) → IsTable table → f.id.0 ≡ table.given + 1 → AllByRecursion (IsLive table.live) ids
    → AllByRecursion (CameBefore (table.live ++ more) f) ids
new_rests table f more [] is new live = tt
new_rests table f more (id ∷ ids) is new live =
    let given = at (λ g. g.id.0 ≤ table.given) table.live live.0.0 live.0.1.0 is.ids_given live.0.1.1 live.0.1.2 in
    let before : id.0 < f.id.0 = omega (arith, given, live.0.2, new) in
    ((IsLive-more table.live more id live.0, before), new_rests table f more ids is new live.1)

pub insertions_rest : InsertionsRestOnEarlier
insertions_rest table later fact instance (New id) is live answer early =
    let f : LiveFact = new_fact table fact instance in
    let Rests : FactTable → Type 0 = λ t. RestOnEarlier t.live in
    subst Rests (sym answer.3)
    (all-push (λ g. AllByRecursion (CameBefore (table.live ++ f ∷ []) g) (premises_of g.kept)) table.live f (all-more table.live (f ∷ []) table.live early)
    (new_rests table f (f ∷ []) (premises_of instance) is refl live))
insertions_rest table later fact instance (Same id) is live answer early = let Rests : FactTable → Type 0 = λ t. RestOnEarlier t.live in subst Rests (sym answer.1) early
insertions_rest table later fact instance Full is live answer early = let Rests : FactTable → Type 0 = λ t. RestOnEarlier t.live in subst Rests (sym answer.2) early
