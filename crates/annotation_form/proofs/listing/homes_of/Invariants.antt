use Rattle.std.proofs.Common.{◌≡◌, map, take}
use Rattle.horn_rules.specs.Stored.{home_of, home_numbered}
use Rattle.annotation_form.proofs.listing.homes_of.Given as goal

abbrev pub invariant-loop-fact : goal.invariant-loop-fact
invariant-loop-fact l = map home_of l.found.items ≡ map (λ fact. home_numbered l.program fact.home.0) (take l.fact-index l.facts)
