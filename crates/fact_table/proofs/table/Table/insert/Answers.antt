use Rattle.std.proofs.Common.{◌≡◌, ◌∙◌, ◌<◌, ◌+◌, ◌++◌, ◌∷◌, [], List, length, ap, sym, refl, subst, Some, false, arith}
use Rattle.fact_table.specs.declared.live_fact.LiveFact.{LiveFact}
use Rattle.fact_table.specs.declared.live_fact.Rank.{Rank}
use Rattle.fact_table.specs.Live.{HasFact, IsLive, Lacks, rank_of}
use Rattle.fact_table.specs.Table.{FactTable, HasHome}
use Rattle.fact_table.specs.inside.FactIds.{key_of}
use Rattle.fact_table.specs.inside.Index.{Adds, IsIndexOf, id_of}
use Rattle.fact_table.specs.inside.Stored.{seen}
use Rattle.fact_table.proofs.Found.{HasFact-from_some, IsLive-fact, IsLive-push, Lacks-from_none}
use Rattle.fact_table.proofs.Indexes.{IsAsLarge-add, IsIndexOf-add}
use Rattle.fact_table.proofs.Tables.{IsTable-push}
use Rattle.fact_table.proofs.table.Table.insert.Goals as goal

pub returns-in-Some-clause-answer : goal.returns-in-Some-clause-answer
returns-in-Some-clause-answer c =
    let found : id_of c.self.inside.facts.items (key_of c.args.fact) ≡ Some c.in-Some.id = sym (c.self.invariant.index.fact_ids (key_of c.args.fact)) ∙ sym c.in-Some.ensures in
    let Has : FactTable → Type 0 = λ t. HasFact t.live c.in-Some.id c.args.fact in
    (subst Has c.self.view_is (HasFact-from_some _ _ _ found), refl)

pub returns-in-Some-clause-live : goal.returns-in-Some-clause-live
returns-in-Some-clause-live c =
    let found : id_of c.self.inside.facts.items (key_of c.args.fact) ≡ Some c.in-Some.id = sym (c.self.invariant.index.fact_ids (key_of c.args.fact)) ∙ sym c.in-Some.ensures in
    let Live : FactTable → Type 0 = λ t. IsLive t.live c.in-Some.id in
    subst Live c.self.view_is (IsLive-fact _ _ c.args.fact (HasFact-from_some _ _ _ found))

pub returns-clause-live : goal.returns-clause-live
returns-clause-live c =
    let Live : List LiveFact → Type 0 = λ live. IsLive live (record { 0 = c.self.inside.given + 1 }) in
    subst Live (sym c.push_within.ensures.items) (IsLive-push c.self.inside.facts.items _)

pub returns-then-len-self-clause-answer : goal.returns-then-len-self-clause-answer
returns-then-len-self-clause-answer c =
    let lacks = Lacks-from_none c.self.inside.facts.items c.args.fact (sym (c.self.invariant.index.fact_ids (key_of c.args.fact)) ∙ (sym c.get.ensures ∙ c.in_default.is)) in
    let Lack : FactTable → Type 0 = λ t. Lacks t.live c.args.fact in
    let full : length c.self.inside.facts.items ≡ c.self.inside.limit = omega (arith, c.self.invariant.table.few, c.if-len-self.true, c.len.ensures) in
    let Is_full : FactTable → Type 0 = λ t. length t.live ≡ t.limit in
    (subst Lack c.self.view_is lacks, subst Is_full c.self.view_is full, refl)

pub invariant_of-self : goal.invariant_of-self
invariant_of-self c =
    let stored = c.self.invariant in
    let lacks = Lacks-from_none c.self.inside.facts.items c.args.fact (sym (stored.index.fact_ids (key_of c.args.fact)) ∙ (sym c.get.ensures ∙ c.in_default.is)) in
    let few : length c.self.inside.facts.items < c.self.inside.limit = omega (arith, c.if-len-self.false, c.len.ensures) in
    let Has_home : FactTable → Type 0 = λ t. HasHome t.homes c.args.fact.home.0 in
    let there : HasHome c.self.inside.homes c.args.fact.home.0 = subst Has_home (sym c.self.view_is) c.requires.home in
    let f : LiveFact = record { id = record { 0 = c.self.inside.given + 1 }; fact = c.args.fact; kept = c.args.kept; rank = c.rank_of-rank.result; marked = false } in
    let Has : Type 0 = HasHome (length c.self.inside.index.by_home.lists) c.args.fact.home.0 in
    let there_too : Has = rw stored.homes there in
    let adds : Adds c.self.inside.index f.id f.fact c.add.new.self = c.add.ensures in
    let large = IsAsLarge-add c.self.inside.index c.add.new.self f adds there_too in
    let Is : List LiveFact → Type 0 = λ live. IsIndexOf live c.add.new.self in
    record {
      table = IsTable-push (seen c.self.inside) _ f stored.table lacks few there refl
          (ap (λ (live : List LiveFact). let made : FactTable = record { homes = c.self.inside.homes; limit = c.self.inside.limit; given = c.self.inside.given + 1; live = live } in made) c.push_within.ensures.items);
      facts_room = omega (arith, stored.facts_room, c.push_within.ensures.capacity);
      room = large.room ∙ stored.room;
      homes = large.homes ∙ stored.homes;
      index = subst Is (sym c.push_within.ensures.items) (IsIndexOf-add c.self.inside.facts.items c.self.inside.index c.add.new.self f stored.index adds there_too);
    }

pub returns-clause-answer : goal.returns-clause-answer
returns-clause-answer c =
    let stored = c.self.invariant in
    let lacks = Lacks-from_none c.self.inside.facts.items c.args.fact (sym (stored.index.fact_ids (key_of c.args.fact)) ∙ (sym c.get.ensures ∙ c.in_default.is)) in
    let few : length c.self.inside.facts.items < c.self.inside.limit = omega (arith, c.if-len-self.false, c.len.ensures) in
    let rank_is : c.rank_of-rank.result ≡ rank_of c.self.inside.facts.items c.args.kept = c.rank_of-rank.ensures ∙ ap (λ (live : List LiveFact). rank_of live c.args.kept) c.deref.ensures.value in
    let made : Rank → FactTable = λ rank. record {
      homes = c.self.inside.homes;
      limit = c.self.inside.limit;
      given = c.self.inside.given + 1;
      live = c.self.inside.facts.items ++ record { id = record { 0 = c.self.inside.given + 1 }; fact = c.args.fact; kept = c.args.kept; rank = rank; marked = false } ∷ [];
    } in
    let with_live : List LiveFact → FactTable = λ live. record { homes = c.self.inside.homes; limit = c.self.inside.limit; given = c.self.inside.given + 1; live = live } in
    rw (← c.self.view_is) (lacks, few, refl, ap with_live c.push_within.ensures.items ∙ ap made rank_is)
