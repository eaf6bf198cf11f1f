use Rattle.std.proofs.Common.{◌≡◌, ◌∙◌, ◌-◌, ◌+◌, List, [], length, get_or, ap, arith}
use Rattle.thr_base.specs.declared.names.FactId.{FactId}
use Rattle.fact_table.specs.Live.{ids_at}
use Rattle.fact_table.specs.Table.{FactTable}
use Rattle.fact_table.proofs.Found.{lists_from-at}
use Rattle.fact_table.proofs.table.Table.at.Goals as goal

pub returns : goal.returns
returns c =
    let homes = ap (λ (t : FactTable). t.homes) c.self.view_is in
    let live = ap (λ (t : FactTable). ids_at c.args.home.0 t.live) c.self.view_is in
    let place = lists_from-at 1 (length c.self.inside.index.by_home.lists) (c.args.home.0 - 1) c.self.inside.facts.items (omega (arith, homes, c.requires.0, c.requires.1, c.self.invariant.homes)) in
    c.at.ensures
    ∙ (ap (λ (lists : List (List FactId)). get_or lists (c.args.home.0 - 1) []) c.self.invariant.index.home_ids
    ∙ (place ∙ (ap (λ h. ids_at h c.self.inside.facts.items) (let e : 1 + (c.args.home.0 - 1) ≡ c.args.home.0 = omega (arith, c.requires.0) in e) ∙ live)))
