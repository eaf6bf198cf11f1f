-- The atoms of what an instance gives hold at the whole points of its system.
use Rattle.std.proofs.Common.{◌≡◌, ℕ, ℤ, List, [], ◌∷◌, length, Some, sym, ap, subst, ◌∙◌}
use Rattle.std.specs.List.{AllByRecursion}
use Rattle.lin_rows.specs.Row.{Row, Meets}
use Rattle.lin_rows.specs.Atom.{IsAtom}
use Rattle.lin_rows.specs.System.{IsPoint}
use Rattle.farkas_cert.specs.Proof.{Entails}
use Rattle.farkas_cert.proofs.Refutations.{points-meet-entailed}
use Rattle.transition_formula.specs.Program.{Program, at_number}
use Rattle.transition_formula.proofs.Lookups.{AllByRecursion-numbered}
use Rattle.horn_rules.specs.Home.{Home}
use Rattle.horn_rules.specs.Fact.{Sets, Fact, Statement, IsAtomOf, AreSetsOf, IsStatementOf, statement_of}
use Rattle.horn_rules.specs.Instance.{Instance}
use Rattle.horn_rules.specs.Case.{Case, IsCaseOf, init, own, guar, env, inter}
use Rattle.horn_rules.specs.Post.{EntailsAt, IsGiven}
use Rattle.horn_rules.specs.Laws.{FactsAreGiven, GivenAtomsHold}
use Rattle.horn_rules.proofs.Lists.{all-picked}
use Rattle.horn_rules.proofs.WiderAtoms.{IsAtom-widened, IsAtom-moved}

-- what a fact says is made of atoms of its home
pub statement-is : (program : Program) (sets : Sets) (fact : Fact) → AreSetsOf program sets → IsStatementOf program (statement_of sets fact)
statement-is program sets fact are = record {
  are_atoms = all-picked (IsAtomOf program fact.home) (sets fact.home) fact.held (λ k there atom at.
      AllByRecursion-numbered (IsAtomOf program fact.home) (sets fact.home) k atom (are fact.home).are_atoms at);
}

-- Placed atoms are atoms.
abbrev pub PlacesAtoms : Case → Type 0
PlacesAtoms given = (atom : Row) → IsAtom atom → IsAtom (given.place atom)

-- a placed atom is an atom
placed-is : (program : Program) (instance : Instance Statement) (given : Case) (atom : Row) → IsCaseOf program instance given → IsAtom atom → IsAtom (given.place atom)
placed-is program instance given atom (init i thread at) is = is
placed-is program instance given atom (own i e thread edge f at home) is = IsAtom-moved (length program.columns) edge.inputs atom is
placed-is program instance given atom (guar i e thread edge f at home) is = IsAtom-widened edge.inputs atom is
placed-is program instance given atom (env k l i e other thread edge f t apart there at home_f home_t) is = IsAtom-moved (length program.columns) 0 atom is
placed-is program instance given atom (inter k l i e other thread edge f g apart there at home_f home_g) is = IsAtom-moved (length program.columns) edge.inputs atom is

atoms-hold : (program : Program) (given : Case) (home : Home) (z : List ℤ) (atoms : List Row) → PlacesAtoms given → IsPoint given.system z
    → AllByRecursion (IsAtomOf program home) atoms → AllByRecursion (λ atom. Entails given.system (given.place atom)) atoms → AllByRecursion (λ atom. Meets (given.place atom) z) atoms
atoms-hold program given home z [] places point are entailed = tt
atoms-hold program given home z (atom ∷ atoms) places point are entailed = (
  points-meet-entailed given.system (given.place atom) z (places atom are.0.is_atom) entailed.0 point,
  atoms-hold program given home z atoms places point are.1 entailed.1,
)

-- what an instance gives holds where its case places atoms as atoms
pub placed-atoms-hold : (program : Program) (given : Case) (statement : Statement) (z : List ℤ) → PlacesAtoms given → IsStatementOf program statement → IsGiven given statement
    → IsPoint given.system z → AllByRecursion (λ atom. Meets (given.place atom) z) statement.atoms
placed-atoms-hold program given statement z places is gives point =
    atoms-hold program given statement.home z statement.atoms places point is.are_atoms gives.entailed

pub given-atoms-hold : GivenAtomsHold
given-atoms-hold program instance given statement z case is gives point =
    placed-atoms-hold program given statement z (λ atom. placed-is program instance given atom case) is gives point

at-position : (sets : Sets) (given : Case) (home : Home) (k : ℕ) (atom : Row) → home ≡ given.target → EntailsAt given (sets given.target) k → at_number (sets home) k ≡ Some atom
    → Entails given.system (given.place atom)
at-position sets given home k atom same (found, at, entails) here =
    let both : Some found ≡ Some atom = sym at ∙ sym (ap (λ h. at_number (sets h) k) same) ∙ here in
    let one : found ≡ atom = cc in
    subst (λ row. Entails given.system (given.place row)) one entails

pub facts-given : FactsAreGiven
facts-given sets given fact is = record {
  at_target = is.at_target;
  entailed = all-picked (λ atom. Entails given.system (given.place atom)) (sets fact.home) fact.held
      (λ k there atom here. at-position sets given fact.home k atom is.at_target ((is.entailed.exact k).0 there) here);
}
