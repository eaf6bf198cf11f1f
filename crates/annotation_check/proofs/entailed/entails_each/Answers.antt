use Rattle.std.proofs.Common.{◌≡◌, ◌+◌, ◌≤◌, suc, take, length, sym, ap, subst, ◌∙◌, arith}
use Rattle.std.specs.Prelude.{Some, slice_get}
use Rattle.std.specs.List.{AllByRecursion}
use Rattle.std.proofs.lemmas.Option.{slice_get-get_or}
use Rattle.thr_base.specs.Held.{positions}
use Rattle.thr_base.proofs.Positions.{are-positions, words-below}
use Rattle.lin_rows.proofs.Lists.{AllByRecursion-slice_get}
use Rattle.horn_rules.specs.Fact.{atoms_at}
use Rattle.annotation_form.specs.Passes.{CertificatesProve}
use Rattle.annotation_check.specs.inside.Cases.{told_by}
use Rattle.annotation_check.specs.inside.Proving.{IsNumberOf}
use Rattle.annotation_check.proofs.Lists.{not-proved}
use Rattle.annotation_check.proofs.HeldAtoms.{positions-within, length-atoms_at, all-at_positions, entailed-at, entailed-more}
use Rattle.annotation_check.proofs.entailed.entails_each.Goals as goal

pub atom_at-atom-requires-clause-place : goal.atom_at-atom-requires-clause-place
atom_at-atom-requires-clause-place c =
    let within = positions-within are-positions words-below c.args.atoms.now c.args.held c.requires.few c.requires.held in
    omega (arith, c.loop-place-test.true, c.requires.one_each, length-atoms_at c.args.atoms.now (positions c.args.held) within, ap length c.as_slice.ensures.value, ap length c.in_ok-positions.ensures)

pub atom_at-atom-requires-clause-within : goal.atom_at-atom-requires-clause-within
atom_at-atom-requires-clause-within c =
    let within = positions-within are-positions words-below c.args.atoms.now c.args.held c.requires.few c.requires.held in
    subst (AllByRecursion (IsNumberOf c.args.atoms.now)) (sym (c.as_slice.ensures.value ∙ c.in_ok-positions.ensures)) within

pub entails-requires-clause-within : goal.entails-requires-clause-within
entails-requires-clause-within c =
    AllByRecursion-slice_get (λ atom. c.args.stored.now.before + length atom.coefficients ≤ c.args.stored.now.rows.columns) (atoms_at c.args.atoms.now c.as_slice.result.now) c.loop-place.place
    c.atom_at-atom.result.now
    (all-at_positions (λ atom. c.args.stored.now.before + length atom.coefficients ≤ c.args.stored.now.rows.columns) c.args.atoms.now c.as_slice.result.now c.requires.within) c.atom_at-atom.ensures

pub returns-then-not-branch : goal.returns-then-not-branch
returns-then-not-branch c =
    let at = slice_get-get_or c.args.certificates.now c.loop-place.place 0 c.loop-place-test.true in
    let there = subst (λ ps. slice_get (atoms_at c.args.atoms.now ps) c.loop-place.place ≡ Some c.atom_at-atom.result.now) (c.as_slice.ensures.value ∙ c.in_ok-positions.ensures) c.atom_at-atom.ensures in
    let unproved = not-proved c.in_ok-entails.field-0 c.if-not-branch.true c.in_ok-entails.ensures in (
      (λ t. cc),
      (λ all. absurd (unproved (entailed-at c.args.annotation.now (told_by c.args.stored.now) c.args.certificates.now (atoms_at c.args.atoms.now (positions c.args.held)) c.loop-place.place _ c.atom_at-atom.result.now at there all))),
    )

pub loop-place-preserved : goal.loop-place-preserved
loop-place-preserved c =
    let at = slice_get-get_or c.args.certificates.now c.loop-place.place 0 c.loop-place-test.true in
    let there = subst (λ ps. slice_get (atoms_at c.args.atoms.now ps) c.loop-place.place ≡ Some c.atom_at-atom.result.now) c.as_slice.ensures.value c.atom_at-atom.ensures in
    let next : suc c.loop-place.place ≡ c.loop-place.place + 1 = omega arith in
    subst (λ n. CertificatesProve c.args.annotation.now (told_by c.args.stored.now) (take n c.args.certificates.now) (take n (atoms_at c.args.atoms.now c.in_ok-positions.positions.items))) next
    (entailed-more c.args.annotation.now (told_by c.args.stored.now) c.args.certificates.now (atoms_at c.args.atoms.now c.in_ok-positions.positions.items) c.loop-place.place _ c.atom_at-atom.result.now at there
    c.loop-place.invariant (c.in_ok-entails.ensures.0 c.if-not-branch.false))
