use Rattle.std.proofs.Common.{List, subst}
use Rattle.std.specs.Option.{MatchOption}
use Rattle.thr_base.specs.declared.names.Instance.TheVariants.{Init}
use Rattle.instance_cursors.specs.declared.start.Start.{Start}
use Rattle.instance_cursors.specs.Waiting.{IsOpen, OpensTo, Waiting}
use Rattle.instance_cursors.specs.inside.Chosen.{HasNoStart, HasStart}
use Rattle.instance_cursors.specs.inside.Stored.{seen}
use Rattle.instance_cursors.proofs.Chosen.{start_home}
use Rattle.instance_cursors.proofs.cursors.Cursors.home_of_start.Goals as goal

pub returns : goal.returns
returns c =
    let Of : List Start → Type 0 = λ xs. MatchOption c.open_start.result (HasNoStart xs c.args.thread) (HasStart xs c.args.thread) in
    let To : Waiting → Type 0 = λ w. MatchOption c.open_start.result (IsOpen w (Init c.args.thread) → ⊥) (OpensTo w (Init c.args.thread)) in
    subst To c.self.view_is (start_home (seen c.self.inside) c.args.thread c.open_start.result (subst Of c.deref.ensures.value c.open_start.ensures))
