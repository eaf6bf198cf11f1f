use Rattle.std.proofs.Common.{◌≡◌, ◌∙◌, List, [], ◌∷◌, ◌++◌, Option, length, map, get_or, refl, ap, sym, subst, arith}
use Rattle.instance_cursors.specs.declared.cursors.Cursors.TheInside.{Inside}
use Rattle.instance_cursors.specs.declared.early.Early.{Early}
use Rattle.instance_cursors.specs.declared.key.Head.{Head}
use Rattle.instance_cursors.specs.declared.turns.Cursor.{Cursor}
use Rattle.instance_cursors.specs.Waiting.{Closes, IsOpen, Waiting}
use Rattle.instance_cursors.specs.inside.Stored.{seen}
use Rattle.fact_table.specs.declared.live_fact.LiveFact.{LiveFact}
use Rattle.std.specs.Prelude.{IfErr, IfOk}
use Rattle.thr_base.specs.Held.{Rise}
use Rattle.instance_cursors.specs.Cursors.{AreHeads}
use Rattle.instance_cursors.specs.inside.Chosen.{early_at, is_head}
use Rattle.instance_cursors.specs.inside.Found.{IsAt, IsNowhere}
use Rattle.instance_cursors.proofs.Chosen.{at_comes, at_elsewhere, at_head, nowhere_open, same_at}
use Rattle.instance_cursors.proofs.Follow.{get_within}
use Rattle.instance_cursors.proofs.StoredTaken.{Added, Moved, Rests, added_closes, added_not, added_stored, items_taken, moved_closes, moved_stored}
use Rattle.instance_cursors.proofs.Taken.{Heads}
use Rattle.instance_cursors.proofs.cursors.Cursors.take_turn.Goals as goal

pub find-requires : goal.find-requires
find-requires c =
    let Rises : List LiveFact → Type 0 = λ xs. Rise 0 (map (λ f. f.id.0) xs) in
    subst Rises (sym c.deref.ensures.value) c.self.invariant.kept.ids_rise

pub unreachable-requires : goal.unreachable-requires
unreachable-requires c =
    let old : Inside = c.self.inside in
    let None_facts : List LiveFact → Type 0 = λ xs. IsNowhere old.layout xs c.deref-2.result.now c.args.instance in
    let None_cursors : List Cursor → Type 0 = λ xs. IsNowhere old.layout old.facts.items xs c.args.instance in
    let none = subst None_cursors c.deref-2.ensures.value (subst None_facts c.deref.ensures.value c.in_default.ensures) in
    let Open : Waiting → Type 0 = λ w. IsOpen w c.args.instance in
    nowhere_open (seen old) c.args.instance none c.requires.no_start (subst Open (sym c.self.view_is) c.requires.is_open)

pub is_head_at-requires : goal.is_head_at-requires
is_head_at-requires c =
    let old : Inside = c.self.inside in
    let At_facts : List LiveFact → Type 0 = λ xs. IsAt old.layout xs c.deref-2.result.now c.args.instance c.in-Some.at in
    let At_cursors : List Cursor → Type 0 = λ xs. IsAt old.layout old.facts.items xs c.args.instance c.in-Some.at in
    let is = subst At_cursors c.deref-2.ensures.value (subst At_facts c.deref.ensures.value c.in-Some.ensures) in
    let lt = get_within old.cursors.items c.in-Some.at.place is.cursor is.cursor_at in
    let count = ap (λ (xs : List (Option Head)). length xs) c.deref-3.ensures.value in
    let heads = c.self.invariant.heads.count in
    omega (arith, lt, count, heads)

pub move_on-requires-clause-ids : goal.move_on-requires-clause-ids
move_on-requires-clause-ids c =
    let Rises : List LiveFact → Type 0 = λ xs. Rise 0 (map (λ f. f.id.0) xs) in
    subst Rises (sym c.deref-then-is_head_at-2.ensures.value) c.self.invariant.kept.ids_rise

pub move_on-requires-clause-count : goal.move_on-requires-clause-count
move_on-requires-clause-count c = c.self.invariant.heads.count

pub move_on-requires-clause-place : goal.move_on-requires-clause-place
move_on-requires-clause-place c =
    let old : Inside = c.self.inside in
    let At_facts : List LiveFact → Type 0 = λ xs. IsAt old.layout xs c.deref-2.result.now c.args.instance c.in-Some.at in
    let At_cursors : List Cursor → Type 0 = λ xs. IsAt old.layout old.facts.items xs c.args.instance c.in-Some.at in
    let is = subst At_cursors c.deref-2.ensures.value (subst At_facts c.deref.ensures.value c.in-Some.ensures) in
    get_within old.cursors.items c.in-Some.at.place is.cursor is.cursor_at

pub invariant_of-self : goal.invariant_of-self
invariant_of-self c =
    let old : Inside = c.self.inside in
    let At_facts : List LiveFact → Type 0 = λ xs. IsAt old.layout xs c.deref-2.result.now c.args.instance c.in-Some.at in
    let At_cursors : List Cursor → Type 0 = λ xs. IsAt old.layout old.facts.items xs c.args.instance c.in-Some.at in
    let is = subst At_cursors c.deref-2.ensures.value (subst At_facts c.deref.ensures.value c.in-Some.ensures) in
    let Says : List (Option Head) → Type 0 = λ xs. (d : Option Head) → c.is_head_at.result ≡ is_head (get_or xs c.in-Some.at.place d) c.in-Some.at.turn in
    let says = subst Says c.deref-3.ensures.value c.is_head_at.ensures in
    let heads : Heads (seen old) c.in-Some.at.place is.cursor c.in-Some.at.turn c.args.instance =
    at_head (seen old) old.heads.items c.args.instance c.in-Some.at c.is_head_at.result c.self.invariant.kept c.self.invariant.heads is says c.if-is_head_at.true in
    let By_early : List Early → Type 0 = λ xs. AreHeads old.layout xs old.facts.items old.cursors.items old.heads.items → AreHeads old.layout xs old.facts.items c.move_on.new.cursors.items c.move_on.new.heads.items in
    let By_facts : List LiveFact → Type 0 = λ xs. AreHeads old.layout c.deref-then-is_head_at.result.now xs old.cursors.items old.heads.items
    → AreHeads old.layout c.deref-then-is_head_at.result.now xs c.move_on.new.cursors.items c.move_on.new.heads.items in
    let stay = subst By_early c.deref-then-is_head_at.ensures.value (subst By_facts c.deref-then-is_head_at-2.ensures.value c.move_on.ensures.heads) in
    let moved : Moved old (record { layout = c.self.inside.layout; room = c.self.inside.room; given = c.self.inside.given; facts = c.self.inside.facts; starts = c.self.inside.starts; cursors = c.move_on.new.cursors; heads = c.move_on.new.heads; early = c.self.inside.early }) c.in-Some.at.place c.in-Some.at.turn = record {
      layout = refl;
      room = refl;
      given = refl;
      facts = refl;
      starts = refl;
      early = refl;
      cursors = c.move_on.ensures.cursors;
      heads = stay c.self.invariant.heads;
      cursors_room = c.move_on.ensures.rooms.0;
      heads_room = c.move_on.ensures.rooms.1;
    } in
    moved_stored old _ c.in-Some.at.place is.cursor c.in-Some.at.turn c.args.instance c.self.invariant moved heads

pub returns-then-is_head_at-clause-closes : goal.returns-then-is_head_at-clause-closes
returns-then-is_head_at-clause-closes c =
    let old : Inside = c.self.inside in
    let At_facts : List LiveFact → Type 0 = λ xs. IsAt old.layout xs c.deref-2.result.now c.args.instance c.in-Some.at in
    let At_cursors : List Cursor → Type 0 = λ xs. IsAt old.layout old.facts.items xs c.args.instance c.in-Some.at in
    let is = subst At_cursors c.deref-2.ensures.value (subst At_facts c.deref.ensures.value c.in-Some.ensures) in
    let Says : List (Option Head) → Type 0 = λ xs. (d : Option Head) → c.is_head_at.result ≡ is_head (get_or xs c.in-Some.at.place d) c.in-Some.at.turn in
    let says = subst Says c.deref-3.ensures.value c.is_head_at.ensures in
    let heads : Heads (seen old) c.in-Some.at.place is.cursor c.in-Some.at.turn c.args.instance =
    at_head (seen old) old.heads.items c.args.instance c.in-Some.at c.is_head_at.result c.self.invariant.kept c.self.invariant.heads is says c.if-is_head_at.true in
    let By_early : List Early → Type 0 = λ xs. AreHeads old.layout xs old.facts.items old.cursors.items old.heads.items → AreHeads old.layout xs old.facts.items c.move_on.new.cursors.items c.move_on.new.heads.items in
    let By_facts : List LiveFact → Type 0 = λ xs. AreHeads old.layout c.deref-then-is_head_at.result.now xs old.cursors.items old.heads.items
    → AreHeads old.layout c.deref-then-is_head_at.result.now xs c.move_on.new.cursors.items c.move_on.new.heads.items in
    let stay = subst By_early c.deref-then-is_head_at.ensures.value (subst By_facts c.deref-then-is_head_at-2.ensures.value c.move_on.ensures.heads) in
    let moved : Moved old (record { layout = c.self.inside.layout; room = c.self.inside.room; given = c.self.inside.given; facts = c.self.inside.facts; starts = c.self.inside.starts; cursors = c.move_on.new.cursors; heads = c.move_on.new.heads; early = c.self.inside.early }) c.in-Some.at.place c.in-Some.at.turn = record {
      layout = refl;
      room = refl;
      given = refl;
      facts = refl;
      starts = refl;
      early = refl;
      cursors = c.move_on.ensures.cursors;
      heads = stay c.self.invariant.heads;
      cursors_room = c.move_on.ensures.rooms.0;
      heads_room = c.move_on.ensures.rooms.1;
    } in
    let From : Waiting → Type 0 = λ w. Closes w c.args.instance (seen (record { layout = c.self.inside.layout; room = c.self.inside.room; given = c.self.inside.given; facts = c.self.inside.facts; starts = c.self.inside.starts; cursors = c.move_on.new.cursors; heads = c.move_on.new.heads; early = c.self.inside.early })) in
    subst From c.self.view_is (moved_closes old _ c.in-Some.at.place is.cursor c.in-Some.at.turn c.args.instance moved heads)

pub take_early-requires : goal.take_early-requires
take_early-requires c =
    let old : Inside = c.self.inside in
    let At_facts : List LiveFact → Type 0 = λ xs. IsAt old.layout xs c.deref-2.result.now c.args.instance c.in-Some.at in
    let At_cursors : List Cursor → Type 0 = λ xs. IsAt old.layout old.facts.items xs c.args.instance c.in-Some.at in
    let is = subst At_cursors c.deref-2.ensures.value (subst At_facts c.deref.ensures.value c.in-Some.ensures) in
    let lt = get_within old.cursors.items c.in-Some.at.place is.cursor is.cursor_at in
    let count = ap (λ (xs : List Cursor). length xs) c.deref-else-is_head_at.ensures.value in
    omega (arith, lt, count)

pub invariant_of-self-else-is_head_at : goal.invariant_of-self-else-is_head_at
invariant_of-self-else-is_head_at c =
    let old : Inside = c.self.inside in
    let At_facts : List LiveFact → Type 0 = λ xs. IsAt old.layout xs c.deref-2.result.now c.args.instance c.in-Some.at in
    let At_cursors : List Cursor → Type 0 = λ xs. IsAt old.layout old.facts.items xs c.args.instance c.in-Some.at in
    let is = subst At_cursors c.deref-2.ensures.value (subst At_facts c.deref.ensures.value c.in-Some.ensures) in
    let Says : List (Option Head) → Type 0 = λ xs. (d : Option Head) → c.is_head_at.result ≡ is_head (get_or xs c.in-Some.at.place d) c.in-Some.at.turn in
    let says = subst Says c.deref-3.ensures.value c.is_head_at.ensures in
    let added : Added old c.in-Some.at.place is.cursor (early_at is.cursor c.in-Some.at.turn) is.fact c.in-Some.at.turn.step c.args.instance = record {
      comes = at_comes (seen old) c.args.instance c.in-Some.at c.self.invariant.kept is;
      elsewhere = at_elsewhere old.heads.items c.in-Some.at c.is_head_at.result says c.if-is_head_at.false;
    } in
    let rests : Rests old (record { layout = c.self.inside.layout; room = c.self.inside.room; given = c.self.inside.given; facts = c.self.inside.facts; starts = c.self.inside.starts; cursors = c.self.inside.cursors; heads = c.self.inside.heads; early = c.take_early.new.early }) = record { layout = refl; room = refl; given = refl; facts = refl; starts = refl; cursors = refl; heads = refl } in
    let cursor_is : get_or c.deref-else-is_head_at.result.now c.in-Some.at.place is.cursor ≡ is.cursor =
    ap (λ (xs : List Cursor). get_or xs c.in-Some.at.place is.cursor) c.deref-else-is_head_at.ensures.value ∙ same_at old.cursors.items c.in-Some.at.place is.cursor is.cursor is.cursor_at in
    let taken = items_taken c.take_early.result _ (c.take_early.new.early.items ≡ old.early.items ++ early_at is.cursor c.in-Some.at.turn ∷ [])
    (λ all. all is.cursor ∙ ap (λ (x : Cursor). old.early.items ++ early_at x c.in-Some.at.turn ∷ []) cursor_is) c.take_early.ensures.taken in
    let kept = c.take_early.ensures.err in
    added_stored c.take_early.result old _ c.in-Some.at.place is.cursor (early_at is.cursor c.in-Some.at.turn) is.fact c.in-Some.at.turn.step c.args.instance c.self.invariant rests added taken kept

pub returns-else-is_head_at-clause-closes : goal.returns-else-is_head_at-clause-closes
returns-else-is_head_at-clause-closes c =
    let old : Inside = c.self.inside in
    let At_facts : List LiveFact → Type 0 = λ xs. IsAt old.layout xs c.deref-2.result.now c.args.instance c.in-Some.at in
    let At_cursors : List Cursor → Type 0 = λ xs. IsAt old.layout old.facts.items xs c.args.instance c.in-Some.at in
    let is = subst At_cursors c.deref-2.ensures.value (subst At_facts c.deref.ensures.value c.in-Some.ensures) in
    let Says : List (Option Head) → Type 0 = λ xs. (d : Option Head) → c.is_head_at.result ≡ is_head (get_or xs c.in-Some.at.place d) c.in-Some.at.turn in
    let says = subst Says c.deref-3.ensures.value c.is_head_at.ensures in
    let added : Added old c.in-Some.at.place is.cursor (early_at is.cursor c.in-Some.at.turn) is.fact c.in-Some.at.turn.step c.args.instance = record {
      comes = at_comes (seen old) c.args.instance c.in-Some.at c.self.invariant.kept is;
      elsewhere = at_elsewhere old.heads.items c.in-Some.at c.is_head_at.result says c.if-is_head_at.false;
    } in
    let rests : Rests old (record { layout = c.self.inside.layout; room = c.self.inside.room; given = c.self.inside.given; facts = c.self.inside.facts; starts = c.self.inside.starts; cursors = c.self.inside.cursors; heads = c.self.inside.heads; early = c.take_early.new.early }) = record { layout = refl; room = refl; given = refl; facts = refl; starts = refl; cursors = refl; heads = refl } in
    let cursor_is : get_or c.deref-else-is_head_at.result.now c.in-Some.at.place is.cursor ≡ is.cursor =
    ap (λ (xs : List Cursor). get_or xs c.in-Some.at.place is.cursor) c.deref-else-is_head_at.ensures.value ∙ same_at old.cursors.items c.in-Some.at.place is.cursor is.cursor is.cursor_at in
    let taken = items_taken c.take_early.result _ (c.take_early.new.early.items ≡ old.early.items ++ early_at is.cursor c.in-Some.at.turn ∷ [])
    (λ all. all is.cursor ∙ ap (λ (x : Cursor). old.early.items ++ early_at x c.in-Some.at.turn ∷ []) cursor_is) c.take_early.ensures.taken in
    let kept = c.take_early.ensures.err in
    let From : Waiting → Type 0 = λ w. IfOk c.take_early.result (λ _. Closes w c.args.instance (seen (record { layout = c.self.inside.layout; room = c.self.inside.room; given = c.self.inside.given; facts = c.self.inside.facts; starts = c.self.inside.starts; cursors = c.self.inside.cursors; heads = c.self.inside.heads; early = c.take_early.new.early }))) in
    subst From c.self.view_is (added_closes c.take_early.result old _ c.in-Some.at.place is.cursor (early_at is.cursor c.in-Some.at.turn) is.fact c.in-Some.at.turn.step c.args.instance rests added taken)

pub returns-else-is_head_at-clause-err : goal.returns-else-is_head_at-clause-err
returns-else-is_head_at-clause-err c =
    let old : Inside = c.self.inside in
    let At_facts : List LiveFact → Type 0 = λ xs. IsAt old.layout xs c.deref-2.result.now c.args.instance c.in-Some.at in
    let At_cursors : List Cursor → Type 0 = λ xs. IsAt old.layout old.facts.items xs c.args.instance c.in-Some.at in
    let is = subst At_cursors c.deref-2.ensures.value (subst At_facts c.deref.ensures.value c.in-Some.ensures) in
    let Says : List (Option Head) → Type 0 = λ xs. (d : Option Head) → c.is_head_at.result ≡ is_head (get_or xs c.in-Some.at.place d) c.in-Some.at.turn in
    let says = subst Says c.deref-3.ensures.value c.is_head_at.ensures in
    let added : Added old c.in-Some.at.place is.cursor (early_at is.cursor c.in-Some.at.turn) is.fact c.in-Some.at.turn.step c.args.instance = record {
      comes = at_comes (seen old) c.args.instance c.in-Some.at c.self.invariant.kept is;
      elsewhere = at_elsewhere old.heads.items c.in-Some.at c.is_head_at.result says c.if-is_head_at.false;
    } in
    let rests : Rests old (record { layout = c.self.inside.layout; room = c.self.inside.room; given = c.self.inside.given; facts = c.self.inside.facts; starts = c.self.inside.starts; cursors = c.self.inside.cursors; heads = c.self.inside.heads; early = c.take_early.new.early }) = record { layout = refl; room = refl; given = refl; facts = refl; starts = refl; cursors = refl; heads = refl } in
    let cursor_is : get_or c.deref-else-is_head_at.result.now c.in-Some.at.place is.cursor ≡ is.cursor =
    ap (λ (xs : List Cursor). get_or xs c.in-Some.at.place is.cursor) c.deref-else-is_head_at.ensures.value ∙ same_at old.cursors.items c.in-Some.at.place is.cursor is.cursor is.cursor_at in
    let taken = items_taken c.take_early.result _ (c.take_early.new.early.items ≡ old.early.items ++ early_at is.cursor c.in-Some.at.turn ∷ [])
    (λ all. all is.cursor ∙ ap (λ (x : Cursor). old.early.items ++ early_at x c.in-Some.at.turn ∷ []) cursor_is) c.take_early.ensures.taken in
    let kept = c.take_early.ensures.err in
    let From : Waiting → Type 0 = λ w. IfErr c.take_early.result (λ _. seen (record { layout = c.self.inside.layout; room = c.self.inside.room; given = c.self.inside.given; facts = c.self.inside.facts; starts = c.self.inside.starts; cursors = c.self.inside.cursors; heads = c.self.inside.heads; early = c.take_early.new.early }) ≡ w) in
    subst From c.self.view_is (added_not c.take_early.result old _ rests kept)
