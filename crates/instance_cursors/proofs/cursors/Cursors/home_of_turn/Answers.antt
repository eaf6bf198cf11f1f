use Rattle.std.proofs.Common.{List, length, map, get_or, ap, sym, subst, arith}
use Rattle.instance_cursors.specs.declared.cursors.Cursors.TheInside.{Inside}
use Rattle.instance_cursors.specs.declared.early.Early.{Early}
use Rattle.instance_cursors.specs.declared.turns.Cursor.{Cursor}
use Rattle.instance_cursors.specs.Waiting.{IsOpen, Waiting}
use Rattle.instance_cursors.specs.inside.Stored.{seen}
use Rattle.fact_table.specs.declared.live_fact.LiveFact.{LiveFact}
use Rattle.std.specs.Option.{MatchOption}
use Rattle.instance_cursors.specs.Waiting.{OpensTo}
use Rattle.thr_base.specs.Held.{Rise}
use Rattle.instance_cursors.specs.inside.Chosen.{IsHomeAhead}
use Rattle.instance_cursors.specs.inside.Found.{IsAt, IsNowhere}
use Rattle.instance_cursors.proofs.Chosen.{nowhere_open, turn_home}
use Rattle.instance_cursors.proofs.Follow.{get_within}
use Rattle.instance_cursors.proofs.cursors.Cursors.home_of_turn.Goals as goal

pub find-requires : goal.find-requires
find-requires c =
    let Rises : List LiveFact → Type 0 = λ xs. Rise 0 (map (λ f. f.id.0) xs) in
    subst Rises (sym c.deref.ensures.value) c.self.invariant.kept.ids_rise

pub home_ahead-requires : goal.home_ahead-requires
home_ahead-requires c =
    let old : Inside = c.self.inside in
    let At_facts : List LiveFact → Type 0 = λ xs. IsAt old.layout xs c.deref-2.result.now c.args.instance c.in-Some.at in
    let At_cursors : List Cursor → Type 0 = λ xs. IsAt old.layout old.facts.items xs c.args.instance c.in-Some.at in
    let is = subst At_cursors c.deref-2.ensures.value (subst At_facts c.deref.ensures.value c.in-Some.ensures) in
    let lt = get_within old.cursors.items c.in-Some.at.place is.cursor is.cursor_at in
    let count = ap (λ (xs : List Cursor). length xs) c.deref-in-Some-2.ensures.value in
    omega (arith, lt, count)

pub returns-in-Some : goal.returns-in-Some
returns-in-Some c =
    let old : Inside = c.self.inside in
    let At_facts : List LiveFact → Type 0 = λ xs. IsAt old.layout xs c.deref-2.result.now c.args.instance c.in-Some.at in
    let At_cursors : List Cursor → Type 0 = λ xs. IsAt old.layout old.facts.items xs c.args.instance c.in-Some.at in
    let is = subst At_cursors c.deref-2.ensures.value (subst At_facts c.deref.ensures.value c.in-Some.ensures) in
    let Ahead_early : List Early → Type 0 = λ xs. (d : Cursor) → IsHomeAhead old.layout xs (get_or c.deref-in-Some-2.result.now c.in-Some.at.place d) c.in-Some.at.turn c.home_ahead.result in
    let Ahead_cursors : List Cursor → Type 0 = λ xs. (d : Cursor) → IsHomeAhead old.layout old.early.items (get_or xs c.in-Some.at.place d) c.in-Some.at.turn c.home_ahead.result in
    let says = subst Ahead_cursors c.deref-in-Some-2.ensures.value (subst Ahead_early c.deref-in-Some.ensures.value c.home_ahead.ensures) in
    let To : Waiting → Type 0 = λ w. MatchOption c.home_ahead.result (IsOpen w c.args.instance → ⊥) (OpensTo w c.args.instance) in
    subst To c.self.view_is (turn_home (seen old) c.args.instance c.in-Some.at c.home_ahead.result c.self.invariant.kept is c.requires says)

pub returns-in-None : goal.returns-in-None
returns-in-None c =
    let old : Inside = c.self.inside in
    let None_facts : List LiveFact → Type 0 = λ xs. IsNowhere old.layout xs c.deref-2.result.now c.args.instance in
    let None_cursors : List Cursor → Type 0 = λ xs. IsNowhere old.layout old.facts.items xs c.args.instance in
    let none = subst None_cursors c.deref-2.ensures.value (subst None_facts c.deref.ensures.value c.in-None.ensures) in
    let To : Waiting → Type 0 = λ w. IsOpen w c.args.instance → ⊥ in
    subst To c.self.view_is (nowhere_open (seen old) c.args.instance none c.requires)
