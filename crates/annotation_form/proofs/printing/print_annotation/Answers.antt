use Rattle.annotation_form.proofs.PrintedLines.{named-are_there, printed-whole}
use Rattle.annotation_form.specs.AnnotationText.{heading, predicate_lines, Listed, group_lines}
use Rattle.std.specs.List.{flat_map}
use Rattle.std.proofs.Common.{map, ◌≡◌, ◌++◌, ap, subst, sym, rules, ◌∙◌}
use Rattle.horn_rules.specs.Home.{homes}
use Rattle.horn_rules.specs.Stored.{facts_of}
use Rattle.annotation_form.specs.Annotation.{group_of}
use Rattle.annotation_form.specs.inside.Printing.{shown}
use Rattle.annotation_form.proofs.printing.print_annotation.Goals as goal

pub push_groups-requires : goal.push_groups-requires
push_groups-requires c = named-are_there c.args.program.now c.args.annotation.now c.groups.result.now c.requires c.groups.ensures.groups

pub returns : goal.returns
returns c =
    let program = c.args.program.now in
    let annotation = c.args.annotation.now in
    printed-whole program (heading annotation.rule) c.new-text.result.items c.push_heading.new.text.items c.push_predicates.new.text.items c.push_facts.new.text.items c.push_groups.new.text.items c.extend_from_slice.new.self.items
    (predicate_lines (homes program) annotation.sets) (map Listed (facts_of program annotation.facts)) (flat_map (group_lines annotation.certificates) annotation.groups)
    c.new-text.ensures.items (search rules) (search rules) (search rules) (search rules) c.in_ok-extend_from_slice.ensures.items
