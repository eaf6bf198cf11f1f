use Rattle.std.proofs.Common.{◌≡◌, Option, None, refl, sym, subst}
use Rattle.std.specs.Prelude.{MatchOption}
use Rattle.instance_cursors.specs.declared.choosing.Next.{Next}
use Rattle.core_steps.specs.Course.{Course, opening_of, state_of}
use Rattle.core_steps.specs.State.{Task}
use Rattle.core_steps.specs.inside.Kept.{seen}
use Rattle.core_steps.specs.inside.Taking.{IsNextOf, IsNotPending, IsThisOne}
use Rattle.core_steps.proofs.Choices.{next-of, not-this}
use Rattle.core_steps.proofs.stored_core.Core.this_one.Goals as goal

pub returns : goal.returns
returns c =
    let o = opening_of (seen c.self.inside) in
    let s = state_of (seen c.self.inside) in
    let holds = c.self.invariant.holds in
    let Free : Course → Type 0 = λ course. (state_of course).stop ≡ None in
    let none = subst Free (sym c.self.view_is) c.requires in
    let next : Next = record { instance = c.args.instance; home = c.in_ok-home.home } in
    let Is : Course → Type 0 = λ course. (task : Task) × IsNextOf (opening_of course) (state_of course) next task in
    (refl, subst Is c.self.view_is (next-of o s c.self.inside.table c.self.inside.waiting next holds.table holds.waiting none c.in_ok-home.ensures.is_open (c.in_ok-home.ensures.target_is o.program holds.waiting.is_for)))

pub returns-in_err-home : goal.returns-in_err-home
returns-in_err-home c =
    let o = opening_of (seen c.self.inside) in
    let s = state_of (seen c.self.inside) in
    let waiting = c.self.invariant.holds.waiting in
    let Free : Course → Type 0 = λ course. (state_of course).stop ≡ None in
    let none = subst Free (sym c.self.view_is) c.requires in
    let Not : Course → Type 0 = λ course. IsNotPending (opening_of course) (state_of course) c.args.instance in
    let Answers : Option Next → Type 0 = λ result. MatchOption result (Not c.args.self.now) (IsThisOne (opening_of c.args.self.now) (state_of c.args.self.now) c.args.instance) in
    subst Answers (sym c.from_residual.ensures)
    (subst Not c.self.view_is (not-this o s c.self.inside.table c.self.inside.waiting c.args.instance waiting none c.in_err-home.ensures))
