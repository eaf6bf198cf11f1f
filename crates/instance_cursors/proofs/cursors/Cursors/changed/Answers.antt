use Rattle.std.proofs.Common.{◌≡◌, ◌∙◌, List, length, map, refl, ap, sym, subst, arith}
use Rattle.instance_cursors.specs.declared.cursors.Cursors.TheInside.{Inside}
use Rattle.instance_cursors.specs.declared.early.Early.{Early}
use Rattle.instance_cursors.specs.declared.turns.Cursor.{Cursor}
use Rattle.instance_cursors.specs.Waiting.{Reopens, Waiting}
use Rattle.instance_cursors.specs.inside.Stored.{seen}
use Rattle.fact_table.specs.declared.live_fact.LiveFact.{LiveFact}
use Rattle.std.specs.List.{filter}
use Rattle.thr_base.specs.Held.{Rise}
use Rattle.std.proofs.lemmas.List.{length-map}
use Rattle.instance_cursors.specs.Cursors.{AreHeads, cursor_back, is_of_live}
use Rattle.instance_cursors.proofs.Reopening.{AreLeft, left_of}
use Rattle.instance_cursors.proofs.StoredCursors.{Went, shorter, went_reopens, went_stored}
use Rattle.instance_cursors.proofs.cursors.Cursors.changed.Goals as goal

pub set_facts-requires : goal.set_facts-requires
set_facts-requires c =
    let old : Inside = c.self.inside in
    let keep = c.requires.0 in
    let left : c.args.facts.now ≡ filter keep old.facts.items = c.requires.1 ∙ ap (λ (w : Waiting). filter keep w.live) (sym c.self.view_is) in
    let count = ap (λ (xs : List LiveFact). length xs) left in
    let less = shorter keep old.facts.items in
    let few = c.self.invariant.few in
    let room = c.self.invariant.facts_room in
    omega (arith, count, less, few, room)

pub find_all-requires-clause-ids : goal.find_all-requires-clause-ids
find_all-requires-clause-ids c =
    let old : Inside = c.self.inside in
    let keep = c.requires.0 in
    let left : c.args.facts.now ≡ filter keep old.facts.items = c.requires.1 ∙ ap (λ (w : Waiting). filter keep w.live) (sym c.self.view_is) in
    let Rises : List LiveFact → Type 0 = λ xs. Rise 0 (map (λ f. f.id.0) xs) in
    subst Rises (sym (c.deref-2.ensures.value ∙ (c.set_facts.ensures.items ∙ left))) (left_of (seen old) keep c.self.invariant.kept).rise

pub find_all-requires-clause-count : goal.find_all-requires-clause-count
find_all-requires-clause-count c =
    let old : Inside = c.self.inside in
    let one = ap (λ (xs : List Cursor). length xs) c.deref-3.ensures.value in
    let two = ap (λ (xs : List Cursor). length xs) c.set_cursors_back.ensures.cursors in
    let three = length-map c.keep_live.new.cursors.items (cursor_back old.layout c.args.homes.now) in
    let four = ap (λ (xs : List Cursor). length xs) c.keep_live.ensures.cursors in
    let five = shorter (is_of_live c.args.facts.now) old.cursors.items in
    let six = c.self.invariant.heads.count in
    omega (arith, one, two, three, four, five, six)

pub invariant_of-self : goal.invariant_of-self
invariant_of-self c =
    let old : Inside = c.self.inside in
    let keep = c.requires.0 in
    let left : c.args.facts.now ≡ filter keep old.facts.items = c.requires.1 ∙ ap (λ (w : Waiting). filter keep w.live) (sym c.self.view_is) in
    let Left : List LiveFact → Type 0 = λ xs. AreLeft (seen old) xs in
    let are : AreLeft (seen old) c.args.facts.now = subst Left (sym left) (left_of (seen old) keep c.self.invariant.kept) in
    let By_early : List Early → Type 0 = λ xs. AreHeads old.layout xs c.deref-2.result.now c.deref-3.result.now c.find_all.new.heads.items in
    let By_facts : List LiveFact → Type 0 = λ xs. AreHeads old.layout c.early_back.new.early.items xs c.deref-3.result.now c.find_all.new.heads.items in
    let By_cursors : List Cursor → Type 0 = λ xs. AreHeads old.layout c.early_back.new.early.items c.set_facts.new.facts.items xs c.find_all.new.heads.items in
    let went : Went old (record { layout = c.self.inside.layout; room = c.self.inside.room; given = c.self.inside.given; facts = c.set_facts.new.facts; starts = c.set_starts_back.new.starts; cursors = c.set_cursors_back.new.cursors; heads = c.find_all.new.heads; early = c.early_back.new.early }) c.args.facts.now c.args.homes.now = record {
      layout = refl;
      room = refl;
      given = refl;
      facts = c.set_facts.ensures.items;
      starts = c.set_starts_back.ensures;
      cursors = c.set_cursors_back.ensures.cursors ∙ ap (λ (xs : List Cursor). map (cursor_back old.layout c.args.homes.now) xs) c.keep_live.ensures.cursors;
      early = c.early_back.ensures;
      heads = subst By_cursors c.deref-3.ensures.value (subst By_facts c.deref-2.ensures.value (subst By_early c.deref.ensures.value c.find_all.ensures.heads));
      facts_room = c.set_facts.ensures.capacity;
      cursors_room = (let one = c.keep_live.ensures.capacity in let two = c.set_cursors_back.ensures.capacity in omega (arith, one, two));
      heads_room = (let one = c.find_all.ensures.capacity in omega (arith, one));
    } in
    let count = ap (λ (xs : List LiveFact). length xs) left in
    let less = shorter keep old.facts.items in
    went_stored old _ c.args.facts.now c.args.homes.now c.self.invariant went are (omega (arith, count, less))

pub returns : goal.returns
returns c =
    let old : Inside = c.self.inside in
    let keep = c.requires.0 in
    let left : c.args.facts.now ≡ filter keep old.facts.items = c.requires.1 ∙ ap (λ (w : Waiting). filter keep w.live) (sym c.self.view_is) in
    let Left : List LiveFact → Type 0 = λ xs. AreLeft (seen old) xs in
    let are : AreLeft (seen old) c.args.facts.now = subst Left (sym left) (left_of (seen old) keep c.self.invariant.kept) in
    let By_early : List Early → Type 0 = λ xs. AreHeads old.layout xs c.deref-2.result.now c.deref-3.result.now c.find_all.new.heads.items in
    let By_facts : List LiveFact → Type 0 = λ xs. AreHeads old.layout c.early_back.new.early.items xs c.deref-3.result.now c.find_all.new.heads.items in
    let By_cursors : List Cursor → Type 0 = λ xs. AreHeads old.layout c.early_back.new.early.items c.set_facts.new.facts.items xs c.find_all.new.heads.items in
    let went : Went old (record { layout = c.self.inside.layout; room = c.self.inside.room; given = c.self.inside.given; facts = c.set_facts.new.facts; starts = c.set_starts_back.new.starts; cursors = c.set_cursors_back.new.cursors; heads = c.find_all.new.heads; early = c.early_back.new.early }) c.args.facts.now c.args.homes.now = record {
      layout = refl;
      room = refl;
      given = refl;
      facts = c.set_facts.ensures.items;
      starts = c.set_starts_back.ensures;
      cursors = c.set_cursors_back.ensures.cursors ∙ ap (λ (xs : List Cursor). map (cursor_back old.layout c.args.homes.now) xs) c.keep_live.ensures.cursors;
      early = c.early_back.ensures;
      heads = subst By_cursors c.deref-3.ensures.value (subst By_facts c.deref-2.ensures.value (subst By_early c.deref.ensures.value c.find_all.ensures.heads));
      facts_room = c.set_facts.ensures.capacity;
      cursors_room = (let one = c.keep_live.ensures.capacity in let two = c.set_cursors_back.ensures.capacity in omega (arith, one, two));
      heads_room = (let one = c.find_all.ensures.capacity in omega (arith, one));
    } in
    let From : Waiting → Type 0 = λ w. Reopens w c.args.facts.now c.args.homes.now (seen (record { layout = c.self.inside.layout; room = c.self.inside.room; given = c.self.inside.given; facts = c.set_facts.new.facts; starts = c.set_starts_back.new.starts; cursors = c.set_cursors_back.new.cursors; heads = c.find_all.new.heads; early = c.early_back.new.early })) in
    subst From c.self.view_is (went_reopens old _ c.args.facts.now c.args.homes.now went are)
