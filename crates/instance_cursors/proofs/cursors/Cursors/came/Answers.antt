use Rattle.std.proofs.Common.{◌≡◌, ◌∙◌, ◌+◌, ◌<◌, List, [], ◌∷◌, ◌++◌, length, map, refl, ap, sym, subst, arith}
use Rattle.instance_cursors.specs.declared.cursors.Cursors.TheInside.{Inside}
use Rattle.instance_cursors.specs.declared.early.Early.{Early}
use Rattle.instance_cursors.specs.declared.turns.Cursor.{Cursor}
use Rattle.instance_cursors.specs.Waiting.{Opens, Waiting}
use Rattle.instance_cursors.specs.inside.Stored.{seen}
use Rattle.fact_table.specs.declared.live_fact.LiveFact.{LiveFact}
use Rattle.thr_base.specs.Held.{Rise}
use Rattle.instance_cursors.specs.Cursors.{IsHeadOf}
use Rattle.instance_cursors.specs.inside.Follows.{HeadsFollow}
use Rattle.instance_cursors.proofs.Coming.{CanCome, rise_with}
use Rattle.instance_cursors.proofs.StoredCursors.{Came, came_opens, came_stored}
use Rattle.instance_cursors.proofs.cursors.Cursors.came.Goals as goal

pub look_at-requires-clause-ids : goal.look_at-requires-clause-ids
look_at-requires-clause-ids c =
    let old : Inside = c.self.inside in
    let can : CanCome (seen old) c.args.fact = record { kept = c.self.invariant.kept; next = c.requires.next ∙ ap (λ (w : Waiting). w.given + 1) (sym c.self.view_is) } in
    let Rises : List LiveFact → Type 0 = λ xs. Rise 0 (map (λ f. f.id.0) xs) in
    subst Rises (sym (c.deref-2.ensures.value ∙ c.push_fact.ensures.items)) (rise_with (seen old) c.args.fact can)

pub head_of-requires : goal.head_of-requires
head_of-requires c =
    let old : Inside = c.self.inside in
    let can : CanCome (seen old) c.args.fact = record { kept = c.self.invariant.kept; next = c.requires.next ∙ ap (λ (w : Waiting). w.given + 1) (sym c.self.view_is) } in
    let Rises : List LiveFact → Type 0 = λ xs. Rise 0 (map (λ f. f.id.0) xs) in
    subst Rises (sym (c.deref-5.ensures.value ∙ c.push_fact.ensures.items)) (rise_with (seen old) c.args.fact can)

pub invariant_of-self : goal.invariant_of-self
invariant_of-self c =
    let old : Inside = c.self.inside in
    let can : CanCome (seen old) c.args.fact = record { kept = c.self.invariant.kept; next = c.requires.next ∙ ap (λ (w : Waiting). w.given + 1) (sym c.self.view_is) } in
    let facts : c.deref-2.result.now ≡ old.facts.items ++ c.args.fact ∷ [] = c.deref-2.ensures.value ∙ c.push_fact.ensures.items in
    let facts_too : c.deref-5.result.now ≡ old.facts.items ++ c.args.fact ∷ [] = c.deref-5.ensures.value ∙ c.push_fact.ensures.items in
    let By_early : List Early → Type 0 = λ xs. HeadsFollow old.layout xs c.deref-2.result.now c.args.fact c.deref-3.result.now old.heads.items c.look_at.new.heads.items (length c.deref-3.result.now) in
    let By_facts : List LiveFact → Type 0 = λ xs. HeadsFollow old.layout old.early.items xs c.args.fact c.deref-3.result.now old.heads.items c.look_at.new.heads.items (length c.deref-3.result.now) in
    let By_cursors : List Cursor → Type 0 = λ xs. HeadsFollow old.layout old.early.items (old.facts.items ++ c.args.fact ∷ []) c.args.fact xs old.heads.items c.look_at.new.heads.items (length xs) in
    let Of_early : List Early → Type 0 = λ xs. IsHeadOf old.layout xs c.deref-5.result.now c.at_beginning-cursor.result c.head_of.result in
    let Of_facts : List LiveFact → Type 0 = λ xs. IsHeadOf old.layout old.early.items xs c.at_beginning-cursor.result c.head_of.result in
    let Of_cursor : Cursor → Type 0 = λ x. IsHeadOf old.layout old.early.items (old.facts.items ++ c.args.fact ∷ []) x c.head_of.result in
    let came : Came old (record { layout = c.self.inside.layout; room = c.self.inside.room; given = c.args.fact.id.0; facts = c.push_fact.new.facts; starts = c.self.inside.starts; cursors = c.push_cursor.new.cursors; heads = c.push_head.new.heads; early = c.self.inside.early }) c.args.fact = record {
      layout = refl;
      room = refl;
      given = refl;
      facts = c.push_fact.ensures.items;
      starts = refl;
      cursors = c.push_cursor.ensures.items ∙ ap (λ (x : Cursor). old.cursors.items ++ x ∷ []) c.at_beginning-cursor.ensures;
      early = refl;
      looked = c.look_at.new.heads.items;
      count = c.look_at.ensures.count ∙ ap (λ (xs : List Cursor). length xs) c.deref-3.ensures.value;
      follow = subst By_cursors c.deref-3.ensures.value (subst By_facts facts (subst By_early c.deref.ensures.value c.look_at.ensures.heads));
      head = c.head_of.result;
      head_is = subst Of_cursor c.at_beginning-cursor.ensures (subst Of_facts facts_too (subst Of_early c.deref-4.ensures.value c.head_of.ensures));
      heads = c.push_head.ensures.items;
      facts_room = c.push_fact.ensures.capacity;
      cursors_room = c.push_cursor.ensures.capacity;
      heads_room = (let one = c.look_at.ensures.capacity in let two = c.push_head.ensures.capacity in omega (arith, one, two));
    } in
    let Room : Waiting → Type 0 = λ w. length w.live < w.room in
    came_stored old _ c.args.fact c.self.invariant came can (subst Room (sym c.self.view_is) c.requires.room)

pub returns : goal.returns
returns c =
    let old : Inside = c.self.inside in
    let can : CanCome (seen old) c.args.fact = record { kept = c.self.invariant.kept; next = c.requires.next ∙ ap (λ (w : Waiting). w.given + 1) (sym c.self.view_is) } in
    let facts : c.deref-2.result.now ≡ old.facts.items ++ c.args.fact ∷ [] = c.deref-2.ensures.value ∙ c.push_fact.ensures.items in
    let facts_too : c.deref-5.result.now ≡ old.facts.items ++ c.args.fact ∷ [] = c.deref-5.ensures.value ∙ c.push_fact.ensures.items in
    let By_early : List Early → Type 0 = λ xs. HeadsFollow old.layout xs c.deref-2.result.now c.args.fact c.deref-3.result.now old.heads.items c.look_at.new.heads.items (length c.deref-3.result.now) in
    let By_facts : List LiveFact → Type 0 = λ xs. HeadsFollow old.layout old.early.items xs c.args.fact c.deref-3.result.now old.heads.items c.look_at.new.heads.items (length c.deref-3.result.now) in
    let By_cursors : List Cursor → Type 0 = λ xs. HeadsFollow old.layout old.early.items (old.facts.items ++ c.args.fact ∷ []) c.args.fact xs old.heads.items c.look_at.new.heads.items (length xs) in
    let Of_early : List Early → Type 0 = λ xs. IsHeadOf old.layout xs c.deref-5.result.now c.at_beginning-cursor.result c.head_of.result in
    let Of_facts : List LiveFact → Type 0 = λ xs. IsHeadOf old.layout old.early.items xs c.at_beginning-cursor.result c.head_of.result in
    let Of_cursor : Cursor → Type 0 = λ x. IsHeadOf old.layout old.early.items (old.facts.items ++ c.args.fact ∷ []) x c.head_of.result in
    let came : Came old (record { layout = c.self.inside.layout; room = c.self.inside.room; given = c.args.fact.id.0; facts = c.push_fact.new.facts; starts = c.self.inside.starts; cursors = c.push_cursor.new.cursors; heads = c.push_head.new.heads; early = c.self.inside.early }) c.args.fact = record {
      layout = refl;
      room = refl;
      given = refl;
      facts = c.push_fact.ensures.items;
      starts = refl;
      cursors = c.push_cursor.ensures.items ∙ ap (λ (x : Cursor). old.cursors.items ++ x ∷ []) c.at_beginning-cursor.ensures;
      early = refl;
      looked = c.look_at.new.heads.items;
      count = c.look_at.ensures.count ∙ ap (λ (xs : List Cursor). length xs) c.deref-3.ensures.value;
      follow = subst By_cursors c.deref-3.ensures.value (subst By_facts facts (subst By_early c.deref.ensures.value c.look_at.ensures.heads));
      head = c.head_of.result;
      head_is = subst Of_cursor c.at_beginning-cursor.ensures (subst Of_facts facts_too (subst Of_early c.deref-4.ensures.value c.head_of.ensures));
      heads = c.push_head.ensures.items;
      facts_room = c.push_fact.ensures.capacity;
      cursors_room = c.push_cursor.ensures.capacity;
      heads_room = (let one = c.look_at.ensures.capacity in let two = c.push_head.ensures.capacity in omega (arith, one, two));
    } in
    let From : Waiting → Type 0 = λ w. Opens w c.args.fact (seen (record { layout = c.self.inside.layout; room = c.self.inside.room; given = c.args.fact.id.0; facts = c.push_fact.new.facts; starts = c.self.inside.starts; cursors = c.push_cursor.new.cursors; heads = c.push_head.new.heads; early = c.self.inside.early })) in
    subst From c.self.view_is (came_opens old _ c.args.fact came can)
