use Rattle.std.proofs.Common.{subst, sym}
use Rattle.std.specs.Option.{MatchOption}
use Rattle.thr_base.specs.declared.names.Instance.{Instance}
use Rattle.instance_cursors.specs.Waiting.{IsOpen, OpensTo}
use Rattle.instance_cursors.proofs.cursors.Cursors.home_if_open.Goals as goal

pub returns-in-Init : goal.returns-in-Init
returns-in-Init c =
    let Of : Instance → Type 0 = λ i. MatchOption c.home_of_start.result (IsOpen c.args.self.now i → ⊥) (OpensTo c.args.self.now i) in
    subst Of (sym c.in-Init.is) c.home_of_start.ensures
