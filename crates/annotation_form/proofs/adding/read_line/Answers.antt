use Rattle.std.proofs.Common.{◌∙◌, sym, subst}
use Rattle.std.proofs.lemmas.Bool.{false≢true}
use Rattle.horn_rules.specs.Home.{IsHomeOf}
use Rattle.horn_rules.specs.Stored.{home_of}
use Rattle.annotation_form.proofs.Homes.{home-small}
use Rattle.annotation_form.proofs.LineTexts.{line-parts, same-predicate, not-none}
use Rattle.annotation_form.proofs.adding.read_line.Goals as goal

pub returns-in_default-clause-none : goal.returns-in_default-clause-none
returns-in_default-clause-none c = λ other is.
    c.in_default.ensures.none other.home _ (home-small c.args.program.now other.home c.requires is.of_program.has_home) is.line_is

pub returns-then-not-has_home-clause-none : goal.returns-then-not-has_home-clause-none
returns-then-not-has_home-clause-none c = λ other is.
    let parts = line-parts c.args.program.now other (home_of c.in-Some.home) c.in-Some.text.now c.args.line.now c.requires c.in-Some.ensures.small c.in-Some.ensures.some is in
    false≢true (sym c.if-not-has_home.true ∙ c.has_home.ensures.1 (subst (IsHomeOf c.args.program.now) (sym parts.home_is) is.of_program.has_home))

pub returns-in-Some-2-clause-only : goal.returns-in-Some-2-clause-only
returns-in-Some-2-clause-only c = λ other is.
    let parts = line-parts c.args.program.now other (home_of c.in-Some.home) c.in-Some.text.now c.args.line.now c.requires c.in-Some.ensures.small c.in-Some.ensures.some is in
    same-predicate other (home_of c.in-Some.home) c.in-Some-2.atom parts.home_is (sym c.in-Some-2.is ∙ c.in_ok-atom.ensures.printed other.atom (rw c.is_at_edge.ensures parts.atom_is))

pub returns-in-None-clause-none : goal.returns-in-None-clause-none
returns-in-None-clause-none c = λ other is.
    let parts = line-parts c.args.program.now other (home_of c.in-Some.home) c.in-Some.text.now c.args.line.now c.requires c.in-Some.ensures.small c.in-Some.ensures.some is in
    not-none other.atom (sym c.in-None.is ∙ c.in_ok-atom.ensures.printed other.atom (rw c.is_at_edge.ensures parts.atom_is))
