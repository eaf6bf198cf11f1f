-- A text is that of one list of predicates at most.
use Rattle.std.proofs.Common.{◌≡◌, List, [], ◌∷◌, codes, Some, refl, sym, ap, ap₂, ◌∙◌}
use Rattle.std.specs.List.{AllByRecursion}
use Rattle.std.proofs.lemmas.List.{append_cancel_right}
use Rattle.transition_formula.specs.Program.{Program, IsProgram}
use Rattle.transition_formula.specs.AtomText.{atom_text}
use Rattle.transition_formula.specs.TextLaws.{AtomTextsTellAtoms}
use Rattle.annotation_form.specs.Predicates.{Predicate, IsPredicateOf, predicate_text, predicate_texts}
use Rattle.annotation_form.specs.Laws.{TextsTellPredicates}
use Rattle.annotation_form.specs.inside.Reading.{is_env}
use Rattle.annotation_form.proofs.Homes.{home-small}
use Rattle.annotation_form.proofs.LineTexts.{line-parts, same-predicate}
use Rattle.annotation_form.proofs.ReadLines.{all_lines, all-lines, same-lines}

-- a line is that of one predicate at most
line-told : AtomTextsTellAtoms → (program : Program) (one other : Predicate) → IsProgram program → IsPredicateOf program one → IsPredicateOf program other
    → predicate_text program one ≡ predicate_text program other → other ≡ one
line-told atoms program one other is of of' e =
    let text = atom_text program.columns one.atom in
    let line = predicate_text program one in
    let small = home-small program one.home is of.has_home in
    let mine = line-parts program one one.home text line is small refl (record { of_program = of; line_is = refl }) in
    let theirs = line-parts program other one.home text line is small refl (record { of_program = of'; line_is = e }) in
    same-predicate other one.home one.atom theirs.home_is (ap Some (atoms program (is_env one.home) one.atom other.atom text is mine.atom_is theirs.atom_is))

lines-told : AtomTextsTellAtoms → (program : Program) (ps qs : List Predicate) → IsProgram program → AllByRecursion (IsPredicateOf program) ps → AllByRecursion (IsPredicateOf program) qs
    → predicate_texts program ps ≡ predicate_texts program qs → ps ≡ qs
lines-told atoms program [] [] is of of' e = refl
lines-told atoms program [] (q ∷ qs) is of of' e = cc
lines-told atoms program (p ∷ ps) [] is of of' e = cc
lines-told atoms program (p ∷ ps) (q ∷ qs) is of of' e =
    let first : predicate_text program p ≡ predicate_text program q = cc in
    let rest : predicate_texts program ps ≡ predicate_texts program qs = cc in
    ap₂ (λ (h : Predicate) (t : List Predicate). h ∷ t) (sym (line-told atoms program p q is of.0 of'.0 first)) (lines-told atoms program ps qs is of.1 of'.1 rest)

pub texts-told : AtomTextsTellAtoms → TextsTellPredicates
texts-told atoms program one other text is first second =
    let ps = first.allowed.of_program in
    let qs = second.allowed.of_program in
    let lines = same-lines (all_lines program one) (all_lines program other) (all-lines program one is ps) (all-lines program other is qs) (sym first.text_is ∙ second.text_is) in
    lines-told atoms program one other is ps qs (append_cancel_right (predicate_texts program one) (predicate_texts program other) (codes "end" ∷ []) lines)
