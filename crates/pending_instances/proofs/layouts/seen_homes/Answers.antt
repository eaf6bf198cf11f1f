use Rattle.std.proofs.Common.{◌≡◌, ◌+◌, ◌++◌, ◌∷◌, [], List, map, take, ap, ◌∙◌, sym}
use Rattle.horn_rules.specs.Home.{Home, homes}
use Rattle.horn_rules.specs.Stored.{home_of}
use Rattle.instance_cursors.specs.declared.layout.HomeOf.{HomeOf}
use Rattle.pending_instances.specs.Layout.{seen_home}
use Rattle.pending_instances.proofs.Edges.{map-take_numbered}
use Rattle.pending_instances.proofs.layouts.seen_homes.Goals as goal
use Rattle.transition_formula.specs.Program.{at_number}
use Rattle.std.proofs.Common.{ℕ, Some}

-- one more home is seen
more_seen : (all : List Home) (k : ℕ) (home : Home) (seen : HomeOf) (made later : List HomeOf) → made ≡ map seen_home (take k all) → at_number all (k + 1) ≡ Some home → seen ≡ seen_home home
    → later ≡ made ++ seen ∷ [] → later ≡ map seen_home (take (k + 1) all)
more_seen all k home seen made later before at is more =
    more ∙ ap (λ front. front ++ seen ∷ []) before ∙ ap (λ x. map seen_home (take k all) ++ x ∷ []) is ∙ sym (map-take_numbered seen_home all k home at)

pub loop-place-preserved : goal.loop-place-preserved
loop-place-preserved c =
    more_seen (homes c.args.program.now) c.loop-place.place (home_of c.named.result) c.seen_home.result c.loop-place.made.items c.push.new.self.items c.loop-place.invariant c.named.ensures c.seen_home.ensures
    c.in_ok-push.ensures.items
