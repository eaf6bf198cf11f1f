-- The atoms that a fact holds, each with its certificate.
use Rattle.std.proofs.Common.{◌≡◌, ◌<◌, ◌≤◌, ◌^◌, ℕ, zero, suc, List, [], ◌∷◌, length, take, Option, Some, None, refl, sym, ap, ap₂, subst, ◌∙◌, arith}
use Rattle.std.specs.List.{AllByRecursion, slice_get}
use Rattle.std.proofs.Math.Pow.{pow_mono}
use Rattle.thr_base.specs.Held.{positions, ArePositionsOf, WordsAreBelow}
use Rattle.lin_rows.specs.Row.{Row}
use Rattle.lin_rows.proofs.Lists.{slice_get-there}
use Rattle.farkas_cert.specs.Proof.{with_denial}
use Rattle.transition_formula.specs.Program.{at_number}
use Rattle.horn_rules.specs.Fact.{atoms_at}
use Rattle.horn_rules.specs.Case.{Case}
use Rattle.horn_rules.proofs.Lists.{all-picked}
use Rattle.annotation_form.specs.Annotation.{Annotation}
use Rattle.annotation_form.specs.Passes.{CertificateProves, CertificatesProve}
use Rattle.annotation_check.specs.inside.Proving.{IsNumberOf}
use Rattle.annotation_check.proofs.Lists.{all-each, all-numbered}

-- ---- the positions of a word are positions of the list

below-more : (a b c : ℕ) → a < b → b ≤ c → a < c
below-more a b c h j = omega arith

pub positions-within : ((held : ℕ) → ArePositionsOf held (positions held)) → WordsAreBelow → (atoms : List Row) (held : ℕ) → length atoms ≤ 128 → held < 2 ^ length atoms
    → AllByRecursion (IsNumberOf atoms) (positions held)
positions-within are below atoms held few within =
    let more : 2 ^ length atoms ≤ 2 ^ 128 = pow_mono few in
    let fits = below-more held (2 ^ length atoms) (2 ^ 128) within more in
    all-each (IsNumberOf atoms) (positions held) (λ k there. let known = ((are held).exact k).0 there in (known.0, (below held (length atoms) fits few).0 within k there))

missing : (atoms : List Row) (n : ℕ) → IsNumberOf atoms n → at_number atoms n ≡ None → ⊥
missing atoms zero is none = omega (arith, is.0)
missing atoms (suc m) is none = let (x, found) = slice_get-there atoms m (omega (arith, is.1)) in let both : Some x ≡ None = sym found ∙ none in cc

at-first : (atoms : List Row) (ps : List ℕ) (k p : ℕ) (atom : Row) (n : ℕ) (o : Option Row) → at_number atoms k ≡ o → IsNumberOf atoms k → slice_get (k ∷ ps) n ≡ Some p → at_number atoms p ≡ Some atom
    → ((m : ℕ) → slice_get ps m ≡ Some p → slice_get (atoms_at atoms ps) m ≡ Some atom) → slice_get (atoms_at atoms (k ∷ ps)) n ≡ Some atom
at-first atoms ps k p atom n None none is here there later = absurd (missing atoms k is none)
at-first atoms ps k p atom zero (Some x) found is here there later =
    let same : k ≡ p = cc in
    let one : Some x ≡ Some atom = sym found ∙ ap (at_number atoms) same ∙ there in
    rw found one
at-first atoms ps k p atom (suc n) (Some x) found is here there later = rw found (later n here)

-- what stands at a place among the atoms at positions
pub atoms-at_place : (atoms : List Row) (ps : List ℕ) (place p : ℕ) (atom : Row) → AllByRecursion (IsNumberOf atoms) ps → slice_get ps place ≡ Some p → at_number atoms p ≡ Some atom
    → slice_get (atoms_at atoms ps) place ≡ Some atom
atoms-at_place atoms [] place p atom all at there = cc
atoms-at_place atoms (k ∷ ps) place p atom all at there =
    at-first atoms ps k p atom place (at_number atoms k) refl all.0 at there (λ m here. atoms-at_place atoms ps m p atom all.1 here there)

one-longer : (atoms : List Row) (ps : List ℕ) (k : ℕ) (o : Option Row) → at_number atoms k ≡ o → IsNumberOf atoms k → length (atoms_at atoms ps) ≡ length ps → length (atoms_at atoms (k ∷ ps)) ≡ length (k ∷ ps)
one-longer atoms ps k None none is more = absurd (missing atoms k is none)
one-longer atoms ps k (Some x) found is more = rw found (omega (arith, more))

-- there are as many atoms as positions
pub length-atoms_at : (atoms : List Row) (ps : List ℕ) → AllByRecursion (IsNumberOf atoms) ps → length (atoms_at atoms ps) ≡ length ps
length-atoms_at atoms [] all = refl
length-atoms_at atoms (k ∷ ps) all = one-longer atoms ps k (at_number atoms k) refl all.0 (length-atoms_at atoms ps all.1)

-- ---- the first so many are proved

module _ (annotation : Annotation) (given : Case) where
  pub entailed-more : (certificates : List ℕ) (atoms : List Row) (k c : ℕ) (atom : Row) → slice_get certificates k ≡ Some c → slice_get atoms k ≡ Some atom
      → CertificatesProve annotation given (take k certificates) (take k atoms) → CertificateProves annotation (with_denial given.system (given.place atom)) c
      → CertificatesProve annotation given (take (suc k) certificates) (take (suc k) atoms)
  entailed-more [] atoms k c atom at there all one = cc
  entailed-more (d ∷ certificates) [] k c atom at there all one = cc
  entailed-more (d ∷ certificates) (other ∷ atoms) zero c atom at there all one =
      let same : c ≡ d = cc in
      let alike : atom ≡ other = cc in
      (subst (λ n. CertificateProves annotation (with_denial given.system (given.place other)) n) same (subst (λ a. CertificateProves annotation (with_denial given.system (given.place a)) c) alike one), tt)
  entailed-more (d ∷ certificates) (other ∷ atoms) (suc k) c atom at there all one = (all.0, entailed-more certificates atoms k c atom at there all.1 one)

  pub entailed-all : (certificates : List ℕ) (atoms : List Row) (k : ℕ) → length certificates ≤ k → length certificates ≡ length atoms
      → CertificatesProve annotation given (take k certificates) (take k atoms) → CertificatesProve annotation given certificates atoms
  entailed-all [] [] k many same all = tt
  entailed-all [] (atom ∷ atoms) k many same all = absurd (omega arith)
  entailed-all (c ∷ certificates) [] k many same all = absurd (omega arith)
  entailed-all (c ∷ certificates) (atom ∷ atoms) zero many same all = absurd (omega arith)
  entailed-all (c ∷ certificates) (atom ∷ atoms) (suc k) many same all = (all.0, entailed-all certificates atoms k (omega arith) (omega arith) all.1)

  pub entailed-at : (certificates : List ℕ) (atoms : List Row) (k c : ℕ) (atom : Row) → slice_get certificates k ≡ Some c → slice_get atoms k ≡ Some atom
      → CertificatesProve annotation given certificates atoms → CertificateProves annotation (with_denial given.system (given.place atom)) c
  entailed-at [] atoms k c atom at there all = cc
  entailed-at (d ∷ certificates) [] k c atom at there all = cc
  entailed-at (d ∷ certificates) (other ∷ atoms) zero c atom at there all =
      let same : d ≡ c = cc in
      let alike : other ≡ atom = cc in
      subst (λ n. CertificateProves annotation (with_denial given.system (given.place atom)) n) same (subst (λ a. CertificateProves annotation (with_denial given.system (given.place a)) d) alike all.0)
  entailed-at (d ∷ certificates) (other ∷ atoms) (suc k) c atom at there all = entailed-at certificates atoms k c atom at there all.1

-- cases with the same system that place the atoms alike
pub entailed-alike : (annotation : Annotation) (one other : Case) (certificates : List ℕ) (atoms : List Row) → one.system ≡ other.system → AllByRecursion (λ atom. one.place atom ≡ other.place atom) atoms
    → CertificatesProve annotation one certificates atoms → CertificatesProve annotation other certificates atoms
entailed-alike annotation one other [] [] system places all = tt
entailed-alike annotation one other [] (atom ∷ atoms) system places all = absurd all
entailed-alike annotation one other (c ∷ certificates) [] system places all = absurd all
entailed-alike annotation one other (c ∷ certificates) (atom ∷ atoms) system places all = (
  subst (λ s. CertificateProves annotation s c) (ap₂ with_denial system places.0) all.0,
  entailed-alike annotation one other certificates atoms system places.1 all.1,
)

-- what holds of all atoms holds of those at positions
pub all-at_positions : (P : Row → Type 0) (atoms : List Row) (ps : List ℕ) → AllByRecursion P atoms → AllByRecursion P (atoms_at atoms ps)
all-at_positions P atoms ps all = all-picked P atoms ps (λ k there x found. all-numbered P atoms k x all found)
