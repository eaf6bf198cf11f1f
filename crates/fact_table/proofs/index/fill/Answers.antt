use Rattle.std.proofs.Common.{◌∙◌, length, take, get_or, sym, subst, arith, List}
use Rattle.std.proofs.lemmas.List.{length-take, take_more, take_all}
use Rattle.fact_table.specs.declared.live_fact.LiveFact.{LiveFact}
use Rattle.fact_table.specs.Table.{HasHome}
use Rattle.fact_table.specs.inside.Index.{IsIndexOf}
use Rattle.fact_table.proofs.Found.{id_of-lacking}
use Rattle.fact_table.proofs.Indexes.{IsAsLarge-add, IsIndexOf-absent, IsIndexOf-add, IsIndexOf-room}
use Rattle.fact_table.proofs.Tables.{All-at, AreDistinct-before}
use Rattle.fact_table.proofs.index.fill.Goals as goal

pub add-requires-clause-room : goal.add-requires-clause-room
add-requires-clause-room c =
    IsIndexOf-room _ _ c.loop-fact.invariant.index (omega (arith, length-take {A = LiveFact}, c.loop-fact.invariant.large.room, c.requires.few, c.loop-fact-test.true))

pub add-requires-clause-home : goal.add-requires-clause-home
add-requires-clause-home c =
    rw c.loop-fact.invariant.large.homes (All-at (λ f. HasHome (length c.args.index.now.by_home.lists) f.fact.home.0) c.args.facts.now c.loop-fact.fact-index _ c.requires.homes c.loop-fact-test.true)

pub add-requires-clause-absent : goal.add-requires-clause-absent
add-requires-clause-absent c =
    IsIndexOf-absent _ _ _ c.loop-fact.invariant.index (id_of-lacking _ _ (AreDistinct-before c.args.facts.now c.loop-fact.fact-index _ c.requires.distinct c.loop-fact-test.true))

pub loop-fact-preserved : goal.loop-fact-preserved
loop-fact-preserved c =
    let d : LiveFact = _ in
    let f : LiveFact = get_or c.args.facts.now c.loop-fact.fact-index d in
    let there : HasHome (length c.loop-fact.index.by_home.lists) f.fact.home.0 =
    rw c.loop-fact.invariant.large.homes (All-at (λ g. HasHome (length c.args.index.now.by_home.lists) g.fact.home.0) c.args.facts.now c.loop-fact.fact-index d c.requires.homes c.loop-fact-test.true) in
    let large = IsAsLarge-add c.loop-fact.index c.add.new.self f c.add.ensures there in
    let Is : List LiveFact → Type 0 = λ live. IsIndexOf live c.add.new.self in
    record {
      index = subst Is (sym (take_more c.args.facts.now c.loop-fact.fact-index d c.loop-fact-test.true)) (IsIndexOf-add (take c.loop-fact.fact-index c.args.facts.now) c.loop-fact.index c.add.new.self f c.loop-fact.invariant.index c.add.ensures there);
      large = record { room = large.room ∙ c.loop-fact.invariant.large.room; homes = large.homes ∙ c.loop-fact.invariant.large.homes };
    }

pub returns : goal.returns
returns c =
    let Is : List LiveFact → Type 0 = λ live. IsIndexOf live c.loop-fact.index in
    record {
      index = subst Is (take_all c.loop-fact.fact-index c.args.facts.now (omega (arith, c.loop-fact-test.false))) c.loop-fact.invariant.index;
      size = c.loop-fact.invariant.large;
    }
