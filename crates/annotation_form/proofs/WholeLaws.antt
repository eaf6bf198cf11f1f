-- What is known of whole annotations.
use Rattle.std.proofs.Common.{◌<◌, ◌≤◌, ℕ, List, [], ◌∷◌, length, arith, inl, inr}
use Rattle.std.specs.Prelude.{max}
use Rattle.std.specs.List.{AllByRecursion, Contains}
use Rattle.thr_base.specs.declared.names.Fact.{Fact as StoredFact}
use Rattle.transition_formula.specs.Program.{Program}
use Rattle.horn_rules.specs.Stored.{HasItsHome}
use Rattle.horn_rules.proofs.Lists.{first-or-later, contains-nothing}
use Rattle.annotation_form.specs.Annotation.{Annotation}
use Rattle.annotation_form.specs.Whole.{IsAllowed, AreByFirstUse, WholeAnnotationsAreOfTheirProgram, NamedCertificatesAreThere}

have-homes : (program : Program) (annotation : Annotation) (facts : List StoredFact) → AllByRecursion (IsAllowed program annotation) facts → AllByRecursion (HasItsHome program) facts
have-homes program annotation [] all = tt
have-homes program annotation (fact ∷ facts) all = (all.0.has_home, have-homes program annotation facts all.1)

pub whole-of-program : WholeAnnotationsAreOfTheirProgram
whole-of-program program annotation whole = record { sets_are = whole.sets_are; facts_are = have-homes program annotation annotation.facts whole.facts_are }

-- what is known stays known
pub known-below : (known : ℕ) (numbers : List ℕ) (all : ℕ) → AreByFirstUse known numbers all → known ≤ all
known-below known [] all e = omega arith
known-below known (n ∷ numbers) all uses = omega (arith, known-below (max known n) numbers all uses.2)

used-there : (known : ℕ) (numbers : List ℕ) (all c : ℕ) → AreByFirstUse known numbers all → Contains numbers c → (0 < c) × (c ≤ all)
used-there known [] all c uses there = absurd (contains-nothing c there)
used-there known (n ∷ numbers) all c uses there = elim (first-or-later n c numbers there) [
  | inl same ↦ let below = known-below (max known n) numbers all uses.2 in (omega (arith, uses.0, same), omega (arith, below, same))
  | inr later ↦ used-there (max known n) numbers all c uses.2 later
]

pub named-there : NamedCertificatesAreThere
named-there program annotation c whole there = used-there 0 _ (length annotation.certificates) c whole.by_first_use there
