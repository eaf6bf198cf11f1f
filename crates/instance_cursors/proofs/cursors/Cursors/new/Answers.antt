use Rattle.std.proofs.Common.{◌≡◌, ◌∙◌, List, [], length, refl, ap, sym, subst, arith}
use Rattle.instance_cursors.specs.declared.early.Early.{Early}
use Rattle.instance_cursors.specs.declared.turns.Cursor.{Cursor}
use Rattle.fact_table.specs.declared.live_fact.LiveFact.{LiveFact}
use Rattle.instance_cursors.specs.Cursors.{AreHeads, edge_cursors}
use Rattle.instance_cursors.proofs.StoredTaken.{Made, made_begins, made_stored}
use Rattle.instance_cursors.proofs.cursors.Cursors.new.Goals as goal

pub invariant_of-result : goal.invariant_of-result
invariant_of-result c =
    let By_early : List Early → Type 0 = λ xs. AreHeads c.args.layout xs c.in_ok-live.live.items c.reserve.new.self.items c.find_all.new.heads.items in
    let By_facts : List LiveFact → Type 0 = λ xs. AreHeads c.args.layout [] xs c.deref-2.result.now c.find_all.new.heads.items in
    let By_cursors : List Cursor → Type 0 = λ xs. AreHeads c.args.layout [] c.in_ok-live.live.items xs c.find_all.new.heads.items in
    let edges : c.in_ok-cursors.cursors.items ≡ edge_cursors (length c.args.layout.edges) = c.in_ok-cursors.ensures ∙ ap (λ n. edge_cursors n) c.edge_count.ensures.count in
    let count = ap (λ (xs : List Cursor). length xs) edges in
    let made : Made (record { layout = c.args.layout; room = c.args.facts; given = 0; facts = c.in_ok-live.live; starts = c.args.starts; cursors = c.reserve.new.self; heads = c.find_all.new.heads; early = c.new.result }) c.args.layout c.args.starts.items c.args.facts = record {
      layout_is = refl;
      room = refl;
      given = refl;
      live = c.in_ok-live.ensures.items;
      starts_are = refl;
      cursors = c.reserve.ensures.items ∙ edges;
      early = c.new.ensures.items;
      heads = subst By_early (sym c.new.ensures.items) (subst By_cursors c.deref-2.ensures.value (subst By_facts c.deref.ensures.value c.find_all.ensures.heads));
      facts_room = c.in_ok-live.ensures.capacity;
      cursors_room = (let room = c.in_ok-reserve.ensures.ok in omega (arith, room, count, c.in_ok-cursors.cursors.ok));
      heads_room = (let room = c.in_ok-reserve-2.ensures.ok in let heads = c.in_ok-heads.ensures in let same = c.find_all.ensures.capacity in omega (arith, room, count, heads, same, c.in_ok-cursors.cursors.ok, c.in_ok-heads.heads.ok));
    } in
    made_stored _ c.args.layout c.args.starts.items c.args.facts c.edge_count.ensures.apart made

pub returns : goal.returns
returns c =
    let By_early : List Early → Type 0 = λ xs. AreHeads c.args.layout xs c.in_ok-live.live.items c.reserve.new.self.items c.find_all.new.heads.items in
    let By_facts : List LiveFact → Type 0 = λ xs. AreHeads c.args.layout [] xs c.deref-2.result.now c.find_all.new.heads.items in
    let By_cursors : List Cursor → Type 0 = λ xs. AreHeads c.args.layout [] c.in_ok-live.live.items xs c.find_all.new.heads.items in
    let edges : c.in_ok-cursors.cursors.items ≡ edge_cursors (length c.args.layout.edges) = c.in_ok-cursors.ensures ∙ ap (λ n. edge_cursors n) c.edge_count.ensures.count in
    let count = ap (λ (xs : List Cursor). length xs) edges in
    let made : Made (record { layout = c.args.layout; room = c.args.facts; given = 0; facts = c.in_ok-live.live; starts = c.args.starts; cursors = c.reserve.new.self; heads = c.find_all.new.heads; early = c.new.result }) c.args.layout c.args.starts.items c.args.facts = record {
      layout_is = refl;
      room = refl;
      given = refl;
      live = c.in_ok-live.ensures.items;
      starts_are = refl;
      cursors = c.reserve.ensures.items ∙ edges;
      early = c.new.ensures.items;
      heads = subst By_early (sym c.new.ensures.items) (subst By_cursors c.deref-2.ensures.value (subst By_facts c.deref.ensures.value c.find_all.ensures.heads));
      facts_room = c.in_ok-live.ensures.capacity;
      cursors_room = (let room = c.in_ok-reserve.ensures.ok in omega (arith, room, count, c.in_ok-cursors.cursors.ok));
      heads_room = (let room = c.in_ok-reserve-2.ensures.ok in let heads = c.in_ok-heads.ensures in let same = c.find_all.ensures.capacity in omega (arith, room, count, heads, same, c.in_ok-cursors.cursors.ok, c.in_ok-heads.heads.ok));
    } in
    made_begins _ c.args.layout c.args.starts.items c.args.facts c.requires made
