use Rattle.std.proofs.Common.{◌≢◌, ◌∙◌, List, ap, sym, subst, map, arith}
use Rattle.std.specs.List.{AllByRecursion}
use Rattle.thr_base.specs.declared.names.FactId.{FactId}
use Rattle.fact_table.specs.declared.live_fact.LiveFact.{LiveFact}
use Rattle.fact_table.specs.Live.{IsLive}
use Rattle.fact_table.specs.Table.{FactTable, IsTable}
use Rattle.fact_table.specs.inside.Index.{IsIndexOf}
use Rattle.fact_table.specs.inside.Stored.{seen}
use Rattle.fact_table.proofs.Lookups.{IsLive-place, Rise-ids, marked_at-id, within_from_id}
use Rattle.fact_table.proofs.Marks.{IsIndexOf-marked_at, IsTable-marked_at}
use Rattle.fact_table.proofs.table.Table.mark.Goals as goal

pub place_of-requires : goal.place_of-requires
place_of-requires c = rw c.deref.ensures.value (Rise-ids _ _ c.self.invariant.index.ids c.self.invariant.table.ids_rise)

pub unreachable-requires : goal.unreachable-requires
unreachable-requires c =
    let Live : FactTable → Type 0 = λ t. IsLive t.live c.args.id in
    let live : IsLive c.self.inside.facts.items c.args.id = subst Live (sym c.self.view_is) c.requires in
    let Lack : List FactId → Type 0 = λ ids. AllByRecursion (λ each. each ≢ c.args.id) ids in
    let lacks : Lack (map (λ (f : LiveFact). f.id) c.self.inside.facts.items) = subst Lack (c.deref.ensures.value ∙ c.self.invariant.index.ids) c.in_default.ensures in
    IsLive-place c.self.inside.facts.items c.args.id live lacks

pub mark_at-requires : goal.mark_at-requires
mark_at-requires c = within_from_id c.self.inside.facts.items c.deref.result.now _ c.args.id (c.deref.ensures.value ∙ c.self.invariant.index.ids) c.in-Some.ensures

pub invariant_of-self : goal.invariant_of-self
invariant_of-self c =
    let stored = c.self.invariant in
    let Is : List LiveFact → Type 0 = λ live. IsIndexOf live c.self.inside.index in
    let Is_table : List LiveFact → Type 0 = λ live. let table : FactTable = record { homes = c.self.inside.homes; limit = c.self.inside.limit; given = c.self.inside.given; live = live } in IsTable table in
    record {
      table = subst Is_table (sym c.mark_at.ensures.facts) (IsTable-marked_at (seen c.self.inside) c.in-Some.place stored.table);
      facts_room = omega (arith, stored.facts_room, c.mark_at.ensures.capacity);
      room = stored.room;
      homes = stored.homes;
      index = subst Is (sym c.mark_at.ensures.facts) (IsIndexOf-marked_at c.self.inside.facts.items c.in-Some.place c.self.inside.index stored.index);
    }

pub returns : goal.returns
returns c =
    let with_live : List LiveFact → FactTable = λ live. record { homes = c.self.inside.homes; limit = c.self.inside.limit; given = c.self.inside.given; live = live } in
    let marks = marked_at-id c.self.inside.facts.items c.deref.result.now c.in-Some.place c.args.id (c.deref.ensures.value ∙ c.self.invariant.index.ids) c.self.invariant.table.ids_rise c.in-Some.ensures in
    rw (← c.self.view_is) (ap with_live (c.mark_at.ensures.facts ∙ marks))
