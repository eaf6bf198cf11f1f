use Rattle.std.proofs.Common.{rules, ◌≡◌, ◌∙◌, map}
use Rattle.horn_rules.specs.Stored.{home_of, home_numbered, instance_of}
use Rattle.annotation_form.specs.Annotation.{instances_of}
use Rattle.annotation_form.specs.inside.Listing.{instances_at}
use Rattle.annotation_form.proofs.Listed.{homes-found, instances-found}
use Rattle.annotation_form.proofs.listing.instances.Goals as goal

pub instances_at-requires-clause-homes : goal.instances_at-requires-clause-homes
instances_at-requires-clause-homes c =
    let homes : map home_of c.as_slice.result.now ≡ map (λ fact. home_numbered c.args.program.now fact.home.0) c.args.annotation.now.facts = search rules in
    homes-found c.args.program.now c.args.annotation.now.facts c.as_slice.result.now c.requires.facts_are homes

pub returns : goal.returns
returns c =
    let homes : map home_of c.as_slice.result.now ≡ map (λ fact. home_numbered c.args.program.now fact.home.0) c.args.annotation.now.facts = search rules in
    let made : map instance_of c.in_ok-found.found.items ≡ instances_at c.args.program.now c.args.annotation.now.rule (map home_of c.as_slice.result.now) = search rules in
    let same = instances-found c.args.program.now c.args.annotation.now c.as_slice.result.now homes in
    let all : map instance_of c.in_ok-found.found.items ≡ instances_of c.args.program.now c.args.annotation.now = made ∙ same in
    search rules
