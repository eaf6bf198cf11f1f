use Rattle.std.proofs.Common.{◌∙◌, List, ap, sym, subst, length, not, arith}
use Rattle.fact_table.specs.declared.live_fact.LiveFact.{LiveFact}
use Rattle.fact_table.specs.Live.{NoneIsMarked}
use Rattle.fact_table.specs.Table.{AreDistinct, FactTable, IsTable}
use Rattle.fact_table.specs.inside.Index.{IsIndexOf}
use Rattle.fact_table.specs.inside.Stored.{seen}
use Rattle.fact_table.proofs.Tables.{IsTable-kept, length-kept}
use Rattle.fact_table.proofs.Found.{NoneIsMarked-unmarked}
use Rattle.fact_table.proofs.table.Table.sweep.Goals as goal

pub fill-requires-clause-few : goal.fill-requires-clause-few
fill-requires-clause-few c =
    let left = c.deref.ensures.value ∙ c.keep_unmarked.ensures.facts in
    omega (arith, ap length left, length-kept (λ (f : LiveFact). not f.marked) c.self.inside.facts.items, c.self.invariant.table.few, c.self.invariant.room)

pub fill-requires-clause-homes : goal.fill-requires-clause-homes
fill-requires-clause-homes c =
    let left = c.deref.ensures.value ∙ c.keep_unmarked.ensures.facts in
    let kept = IsTable-kept (seen c.self.inside) (λ (f : LiveFact). not f.marked) c.self.invariant.table in
    rw (left, c.self.invariant.homes) kept.at_homes

pub fill-requires-clause-distinct : goal.fill-requires-clause-distinct
fill-requires-clause-distinct c =
    let left = c.deref.ensures.value ∙ c.keep_unmarked.ensures.facts in
    let kept = IsTable-kept (seen c.self.inside) (λ (f : LiveFact). not f.marked) c.self.invariant.table in
    let Distinct : List LiveFact → Type 0 = λ live. AreDistinct live in
    subst Distinct (sym left) kept.distinct

pub overflow_sub-result : goal.overflow_sub-result
overflow_sub-result c =
    omega (arith, ap length c.keep_unmarked.ensures.facts, length-kept (λ (f : LiveFact). not f.marked) c.self.inside.facts.items, c.len-before.ensures)

pub invariant_of-self : goal.invariant_of-self
invariant_of-self c =
    let stored = c.self.invariant in
    let kept = IsTable-kept (seen c.self.inside) (λ (f : LiveFact). not f.marked) stored.table in
    let Is : List LiveFact → Type 0 = λ live. IsIndexOf live c.fill.new.index in
    let Is_table : List LiveFact → Type 0 = λ live. let table : FactTable = record { homes = c.self.inside.homes; limit = c.self.inside.limit; given = c.self.inside.given; live = live } in IsTable table in
    record {
      table = subst Is_table (sym c.keep_unmarked.ensures.facts) kept;
      facts_room = omega (arith, stored.facts_room, c.keep_unmarked.ensures.capacity);
      room = c.fill.ensures.size.room ∙ stored.room;
      homes = c.fill.ensures.size.homes ∙ stored.homes;
      index = subst Is c.deref.ensures.value c.fill.ensures.index;
    }

pub returns-clause-count : goal.returns-clause-count
returns-clause-count c =
    let was = ap (λ (t : FactTable). length t.live) c.self.view_is in
    omega (arith, was, ap length c.keep_unmarked.ensures.facts, length-kept (λ (f : LiveFact). not f.marked) c.self.inside.facts.items, c.len-before.ensures)

pub returns-clause-unmarked : goal.returns-clause-unmarked
returns-clause-unmarked c =
    let None : List LiveFact → Type 0 = λ live. NoneIsMarked live in
    subst None (sym c.keep_unmarked.ensures.facts) (NoneIsMarked-unmarked c.self.inside.facts.items)
