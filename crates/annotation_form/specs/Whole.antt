-- When an annotation is whole under a program: it has all that a text of an annotation has, in the same order.
use Rattle.std.specs.Prelude.{◌≡◌, ◌<◌, ◌≤◌, ◌+◌, ◌^◌, max, ℕ, List, [], ◌∷◌, length, flat_map, AllPairs, Some}
use Rattle.std.specs.List.{AllByRecursion, Contains}
use Rattle.thr_base.specs.declared.names.RuleName.{RuleName}
use Rattle.thr_base.specs.declared.names.RuleName.TheVariants.{Og}
use Rattle.thr_base.specs.declared.names.Fact.{Fact as StoredFact}
use Rattle.predicate_sets.specs.Sets.{set_at}
use Rattle.transition_formula.specs.Program.{Program, at_number}
use Rattle.horn_rules.specs.Home.{Home, Env}
use Rattle.horn_rules.specs.Fact.{Statement}
use Rattle.horn_rules.specs.Stored.{HasItsHome, AreStoredSetsOf, facts_of, home_numbered}
use Rattle.horn_rules.specs.Table.{Precedes}
use Rattle.annotation_form.specs.Annotation.{Annotation, Group, Refuted, Gives, statements_of, instances_of}
use Rattle.annotation_form.specs.Certificates.{AreListed, NoneTwice}
use Rattle.annotation_form.specs.Passes.{IsOfProgram}

-- The rule has facts at the home: that of Owicki and Gries has none that tell of steps.
abbrev pub HasFactsAt : RuleName → Home → Type 0
HasFactsAt Og (Env i e) = ⊥
HasFactsAt rule home = Unit {0}

-- The fact stands at a home of the program, and holds no predicate that is not there.
pub record IsAllowed (program : Program) (annotation : Annotation) (fact : StoredFact) : Type 0 where
  pub has_home : HasItsHome program fact
  pub has_kind : HasFactsAt annotation.rule (home_numbered program fact.home.0)
  pub held_within : fact.held < 2 ^ length (set_at annotation.sets fact.home.0)

-- The group that names a fact names one that is there, with a certificate for each of its atoms.
abbrev pub IsGroupOver : List Statement → Group → Type 0
IsGroupOver statements (Refuted c) = Unit {0}
IsGroupOver statements (Gives n certificates) = (statement : Statement) × (at_number statements n ≡ Some statement) × (length certificates ≡ length statement.atoms)

-- the certificates that a group names, in order
abbrev pub named_by : Group → List ℕ
named_by (Refuted c) = c ∷ []
named_by (Gives n certificates) = certificates

-- The numbers from 1 to `all` come in the order of their first use, where those up to `known` were used before.
abbrev pub AreByFirstUse : ℕ → List ℕ → ℕ → Type 0
AreByFirstUse known [] all = known ≡ all
AreByFirstUse known (n ∷ numbers) all = (0 < n) × (n ≤ known + 1) × AreByFirstUse (max known n) numbers all

-- The annotation is whole: its lists are predicates of the program's homes; its facts are allowed, in the order of tables, none twice;
-- it has one group for each instance, in their order; its certificates are in order, no two alike, numbered by their first use, and
-- all used.
pub record IsWhole (program : Program) (annotation : Annotation) : Type 0 where
  pub sets_are : AreStoredSetsOf program annotation.sets
  pub facts_are : AllByRecursion (IsAllowed program annotation) annotation.facts
  pub facts_rise : AllPairs Precedes (facts_of program annotation.facts)
  pub one_each : length annotation.groups ≡ length (instances_of program annotation)
  pub groups_are : AllByRecursion (IsGroupOver (statements_of program annotation)) annotation.groups
  pub listed : AllByRecursion (AreListed 0) annotation.certificates
  pub none_alike : NoneTwice annotation.certificates
  pub by_first_use : AreByFirstUse 0 (flat_map named_by annotation.groups) (length annotation.certificates)

-- ---- laws

-- A whole annotation speaks of its program.
abbrev pub WholeAnnotationsAreOfTheirProgram : Type 0
WholeAnnotationsAreOfTheirProgram = (program : Program) (annotation : Annotation) → IsWhole program annotation → IsOfProgram program annotation

-- Each certificate that a group of it names is there.
abbrev pub NamedCertificatesAreThere : Type 0
NamedCertificatesAreThere = (program : Program) (annotation : Annotation) (c : ℕ) → IsWhole program annotation
    → Contains (flat_map named_by annotation.groups) c → (0 < c) × (c ≤ length annotation.certificates)
