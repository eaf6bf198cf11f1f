use Rattle.std.proofs.Common.{◌≡◌, ◌∙◌, List, Option, false, length, get_or, ap, sym, subst, arith}
use Rattle.instance_cursors.specs.declared.key.Head.{Head}
use Rattle.instance_cursors.specs.declared.turns.Cursor.{Cursor}
use Rattle.instance_cursors.specs.Waiting.{Waiting}
use Rattle.instance_cursors.specs.inside.Stored.{seen}
use Rattle.instance_cursors.specs.declared.choosing.Next.{Next}
use Rattle.instance_cursors.specs.declared.start.Start.{Start}
use Rattle.instance_cursors.specs.Choice.{AllAreTaken, HasHead, IsOpenStart, NoneHasHead}
use Rattle.instance_cursors.specs.inside.Chosen.{IsWanted, NoneIsWanted, next_start, next_turn}
use Rattle.instance_cursors.proofs.Chosen.{head_wanted, head_within, none_wanted, start_wanted}
use Rattle.instance_cursors.proofs.cursors.Cursors.open_in.Goals as goal

pub returns-in-Some : goal.returns-in-Some
returns-in-Some c =
    let d : Start = record { thread = record { 0 = 0 }; home = record { 0 = 0 }; taken = false } in
    let old : Waiting = seen c.self.inside in
    let Open : List Start → Type 0 = λ xs. IsOpenStart c.self.inside.layout c.args.only xs c.in-Some.place in
    let there = subst Open c.deref.ensures.value c.in-Some.ensures in
    let next : next_start (get_or c.self.inside.starts.items c.in-Some.place d) ≡ c.next_start.result =
    ap (λ (xs : List Start). next_start (get_or xs c.in-Some.place d)) (sym c.deref-in-Some.ensures.value) ∙ sym (c.next_start.ensures d) in
    let Wanted : Next → Type 0 = λ n. IsWanted c.args.only old n in
    let To : Waiting → Type 0 = λ w. IsWanted c.args.only w c.next_start.result in
    subst To c.self.view_is (subst Wanted next (start_wanted old c.args.only c.in-Some.place d there))

pub next_head-requires : goal.next_head-requires
next_head-requires c =
    let Moves : List Cursor → Type 0 = λ xs. HasHead c.self.inside.layout c.args.only xs c.deref-3.result.now c.in-Some-best_head.found.place c.in-Some-best_head.found.head in
    let Tops : List (Option Head) → Type 0 = λ xs. HasHead c.self.inside.layout c.args.only c.self.inside.cursors.items xs c.in-Some-best_head.found.place c.in-Some-best_head.found.head in
    let there = subst Tops c.deref-3.ensures.value (subst Moves c.deref-2.ensures.value c.in-Some-best_head.ensures) in
    let lt = head_within (seen c.self.inside) c.args.only c.self.inside.heads.items c.in-Some-best_head.found.place c.in-Some-best_head.found.head there in
    let count = ap (λ (xs : List Cursor). length xs) c.deref-in-Some-best_head.ensures.value in
    omega (arith, lt, count)

pub returns-in-Some-best_head : goal.returns-in-Some-best_head
returns-in-Some-best_head c =
    let old : Waiting = seen c.self.inside in
    let Moves : List Cursor → Type 0 = λ xs. HasHead c.self.inside.layout c.args.only xs c.deref-3.result.now c.in-Some-best_head.found.place c.in-Some-best_head.found.head in
    let Tops : List (Option Head) → Type 0 = λ xs. HasHead c.self.inside.layout c.args.only c.self.inside.cursors.items xs c.in-Some-best_head.found.place c.in-Some-best_head.found.head in
    let there = subst Tops c.deref-3.ensures.value (subst Moves c.deref-2.ensures.value c.in-Some-best_head.ensures) in
    let d : Cursor = there.cursor in
    let next : next_turn c.self.inside.layout (get_or c.self.inside.cursors.items c.in-Some-best_head.found.place d) c.in-Some-best_head.found.head.turn ≡ c.next_head.result =
    ap (λ (xs : List Cursor). next_turn c.self.inside.layout (get_or xs c.in-Some-best_head.found.place d) c.in-Some-best_head.found.head.turn) (sym c.deref-in-Some-best_head.ensures.value)
    ∙ sym (c.next_head.ensures d) in
    let Wanted : Next → Type 0 = λ n. IsWanted c.args.only old n in
    let To : Waiting → Type 0 = λ w. IsWanted c.args.only w c.next_head.result in
    subst To c.self.view_is (subst Wanted next (head_wanted old c.args.only c.self.inside.heads.items c.in-Some-best_head.found.place c.in-Some-best_head.found.head d c.self.invariant.heads there))

pub returns-in-None : goal.returns-in-None
returns-in-None c =
    let old : Waiting = seen c.self.inside in
    let Taken : List Start → Type 0 = λ xs. AllAreTaken c.self.inside.layout c.args.only xs in
    let Moves : List Cursor → Type 0 = λ xs. NoneHasHead c.self.inside.layout c.args.only xs c.deref-3.result.now in
    let Tops : List (Option Head) → Type 0 = λ xs. NoneHasHead c.self.inside.layout c.args.only c.self.inside.cursors.items xs in
    let To : Waiting → Type 0 = λ w. NoneIsWanted c.args.only w in
    subst To c.self.view_is (none_wanted old c.args.only c.self.inside.heads.items c.self.invariant.heads (subst Taken c.deref.ensures.value c.in_default.ensures)
    (subst Tops c.deref-3.ensures.value (subst Moves c.deref-2.ensures.value c.in-None.ensures)))
