-- Groups and the cases of their instances.
use Rattle.std.proofs.Common.{◌≡◌, ◌<◌, ◌≤◌, ◌+◌, ℕ, zero, suc, List, [], ◌∷◌, length, Some, refl, sym, ap, subst, ◌∙◌, unwrap_or, arith, map, get_or, ◌-◌}
use Rattle.std.specs.Prelude.{flat_map, option_map}
use Rattle.std.specs.Option.{IsSome}
use Rattle.std.specs.List.{AllByRecursion, Contains, slice_get}
use Rattle.std.proofs.lemmas.Option.{slice_get_within, slice_get-map, slice_get-get_or}
use Rattle.std.proofs.lemmas.List.{length-map}
use Rattle.std.proofs.lemmas.List.Elements.{Contains-append_left, Contains-append_right}
use Rattle.thr_base.specs.Held.{positions}
use Rattle.thr_base.specs.declared.names.Fact.{Fact as StoredFact}
use Rattle.lin_rows.specs.Row.{Row}
use Rattle.lin_rows.proofs.Lists.{AllByRecursion-slice_get}
use Rattle.farkas_cert.specs.Cert.{Pairs}
use Rattle.predicate_sets.specs.Sets.{HasHome, set_at}
use Rattle.transition_formula.specs.Program.{Program, at_number}
use Rattle.horn_rules.specs.Home.{Home, State, homes}
use Rattle.horn_rules.specs.Fact.{Statement, IsAtomOf, atoms_at}
use Rattle.horn_rules.specs.Case.{Case}
use Rattle.horn_rules.specs.Stored.{home_numbered, instance_of}
use Rattle.horn_rules.proofs.Lists.{all-picked}
use Rattle.horn_rules.proofs.StoredSets.{homes-distinct}
use Rattle.thr_base.specs.declared.names.Instance.{Instance as StoredInstance}
use Rattle.horn_rules.specs.Instance.{Instance}
use Rattle.annotation_form.specs.declared.annotation.Group.{Group as StoredGroup}
use Rattle.annotation_form.specs.Annotation.{Annotation, Group, Refuted, Gives, group_of, statements_of, instances_of}
use Rattle.annotation_form.specs.Passes.{ProvesCase, ProvesCheck, GivesBy, CertificateProves}
use Rattle.annotation_form.specs.Whole.{IsAllowed, IsWhole, IsGroupOver, named_by}
use Rattle.annotation_form.proofs.WholeLaws.{named-there}
use Rattle.annotation_check.specs.declared.stored_case.StoredCase.{StoredCase}
use Rattle.annotation_check.specs.inside.Cases.{ComesTo, IsStoredCase, told_by}
use Rattle.annotation_check.specs.inside.Proving.{IsNumberOf, IsReady, GivesFact}
use Rattle.annotation_check.proofs.Lists.{all-numbered, all-each, some-mapped, numbered-map, number-within, numbered-or}
use Rattle.annotation_check.proofs.Cases.{at-its-home, says-by_number, said-of_number, case-proves, proves-case}
use Rattle.annotation_check.proofs.HeldAtoms.{entailed-alike}

-- ---- homes and their lists

-- the list of a home that a program has is there
pub has-list : (program : Program) (annotation : Annotation) (n : ℕ) (home : Home) → IsWhole program annotation → at_number (homes program) n ≡ Some home → HasHome annotation.sets n
has-list program annotation n home whole at = (from-1 n at, let k = within n at in omega (arith, k, whole.sets_are.one_each))
  where
    from-1 : (k : ℕ) → at_number (homes program) k ≡ Some home → 0 < k
    from-1 zero e = cc
    from-1 (suc k) e = omega arith

    within : (k : ℕ) → at_number (homes program) k ≡ Some home → k ≤ length (homes program)
    within zero e = cc
    within (suc k) e = let h = slice_get_within (homes program) k home e in omega (arith, h)

facts-lists : (program : Program) (annotation : Annotation) (facts : List StoredFact) → IsWhole program annotation → AllByRecursion (IsAllowed program annotation) facts
    → AllByRecursion (λ fact. HasHome annotation.sets fact.home.0) facts
facts-lists program annotation [] whole all = tt
facts-lists program annotation (fact ∷ facts) whole all =
    (has-list program annotation fact.home.0 (home_numbered program fact.home.0) whole (at-its-home program annotation fact all.0), facts-lists program annotation facts whole all.1)

pub have-lists : (program : Program) (annotation : Annotation) → IsWhole program annotation → AllByRecursion (λ fact. HasHome annotation.sets fact.home.0) annotation.facts
have-lists program annotation whole = facts-lists program annotation annotation.facts whole whole.facts_are

-- ---- what a fact of a number says

pub fact-allowed : (program : Program) (annotation : Annotation) (n : ℕ) (fact : StoredFact) → IsWhole program annotation → at_number annotation.facts n ≡ Some fact → IsAllowed program annotation fact
fact-allowed program annotation n fact whole at = all-numbered (IsAllowed program annotation) annotation.facts n fact whole.facts_are at

-- by the list of its home's number
abbrev pub said_by_number : Program → Annotation → StoredFact → Statement
said_by_number program annotation fact = record { home = home_numbered program fact.home.0; atoms = atoms_at (set_at annotation.sets fact.home.0) (positions fact.held) }

pub numbered-says : (program : Program) (annotation : Annotation) (n : ℕ) (fact : StoredFact) → IsWhole program annotation → at_number annotation.facts n ≡ Some fact
    → at_number (statements_of program annotation) n ≡ Some (said_by_number program annotation fact)
numbered-says program annotation n fact whole at =
    said-of_number program annotation n fact at ∙ ap Some (says-by_number program annotation fact whole (fact-allowed program annotation n fact whole at))

-- its atoms are of its home
set-widths : (program : Program) (annotation : Annotation) (n : ℕ) (home : Home) → IsWhole program annotation → at_number (homes program) n ≡ Some home
    → AllByRecursion (IsAtomOf program home) (set_at annotation.sets n)
set-widths program annotation n home whole at = (whole.sets_are.sets_are n home at).are_atoms

-- the atoms of the target's list stand within the rows
within-all : (program : Program) (given : Case) (stored : StoredCase) (atoms : List Row) → IsStoredCase program given stored → AllByRecursion (IsAtomOf program given.target) atoms
    → AllByRecursion (λ atom. stored.before + length atom.coefficients ≤ stored.rows.columns) atoms
within-all program given stored [] is all = tt
within-all program given stored (atom ∷ atoms) is all = ((is.places atom all.0.one_each).within, within-all program given stored atoms is all.1)

pub atoms-within : (program : Program) (annotation : Annotation) (given : Case) (stored : StoredCase) (n : ℕ) → IsWhole program annotation → IsStoredCase program given stored → n ≡ stored.home.0
    → AllByRecursion (λ atom. stored.before + length atom.coefficients ≤ stored.rows.columns) (set_at annotation.sets n)
atoms-within program annotation given stored n whole is same =
    within-all program given stored (set_at annotation.sets n) is (set-widths program annotation n given.target whole (ap (at_number (homes program)) same ∙ is.home_is))

places-all : (program : Program) (given : Case) (stored : StoredCase) (atoms : List Row) → IsStoredCase program given stored → AllByRecursion (IsAtomOf program given.target) atoms
    → AllByRecursion (λ atom. given.place atom ≡ (told_by stored).place atom) atoms
places-all program given stored [] is all = tt
places-all program given stored (atom ∷ atoms) is all = ((is.places atom all.0.one_each).placed, places-all program given stored atoms is all.1)

turned : (one other : Case) (atoms : List Row) → AllByRecursion (λ atom. one.place atom ≡ other.place atom) atoms → AllByRecursion (λ atom. other.place atom ≡ one.place atom) atoms
turned one other [] all = tt
turned one other (atom ∷ atoms) all = (sym all.0, turned one other atoms all.1)

-- ---- giving a fact

module _ (program : Program) (annotation : Annotation) (given : Case) (stored : StoredCase) (n : ℕ) (certificates : List ℕ) (fact : StoredFact)
    (whole : IsWhole program annotation) (is : IsStoredCase program given stored) (at : at_number annotation.facts n ≡ Some fact) where
  home-at : at_number (homes program) fact.home.0 ≡ Some (home_numbered program fact.home.0)
  home-at = at-its-home program annotation fact (fact-allowed program annotation n fact whole at)

  picked : home_numbered program fact.home.0 ≡ given.target → AllByRecursion (IsAtomOf program given.target) (atoms_at (set_at annotation.sets fact.home.0) (positions fact.held))
  picked same =
      let all = set-widths program annotation fact.home.0 given.target whole (home-at ∙ ap Some same) in
      all-picked (IsAtomOf program given.target) (set_at annotation.sets fact.home.0) (positions fact.held) (λ k there x found. all-numbered (IsAtomOf program given.target) (set_at annotation.sets fact.home.0) k x all found)

  pub fact-gives : GivesFact annotation stored certificates fact → ProvesCase program annotation given (Gives n certificates)
  fact-gives gives =
      let same : home_numbered program fact.home.0 ≡ given.target = ap (home_numbered program) gives.at_home ∙ ap (λ o. unwrap_or o (State 0 0)) is.home_is in (
        said_by_number program annotation fact,
        numbered-says program annotation n fact whole at,
        record {
          at_target = same;
          entailed = entailed-alike annotation (told_by stored) given certificates (atoms_at (set_at annotation.sets fact.home.0) (positions fact.held)) is.rows_are
              (turned given (told_by stored) (atoms_at (set_at annotation.sets fact.home.0) (positions fact.held)) (places-all program given stored (atoms_at (set_at annotation.sets fact.home.0) (positions fact.held)) is (picked same))) gives.entailed;
        },
      )

  pub gives-fact : ProvesCase program annotation given (Gives n certificates) → GivesFact annotation stored certificates fact
  gives-fact (statement, found, by) =
      let both : Some statement ≡ Some (said_by_number program annotation fact) = sym found ∙ numbered-says program annotation n fact whole at in
      let one : statement ≡ said_by_number program annotation fact = cc in
      let mine = subst (λ (s : Statement). GivesBy annotation given certificates s) one by in
      let number = homes-distinct program fact.home.0 stored.home.0 given.target (home-at ∙ ap Some mine.at_target) is.home_is in
      record {
        at_home = number;
        entailed = entailed-alike annotation given (told_by stored) certificates (atoms_at (set_at annotation.sets fact.home.0) (positions fact.held)) (sym is.rows_are)
            (places-all program given stored (atoms_at (set_at annotation.sets fact.home.0) (positions fact.held)) is (picked mine.at_target)) mine.entailed;
      }

-- ---- groups

each-there : (certificates : List Pairs) (groups : List Group) → ((c : ℕ) → Contains (flat_map named_by groups) c → IsNumberOf certificates c)
    → AllByRecursion (λ group. AllByRecursion (IsNumberOf certificates) (named_by group)) groups
each-there certificates [] each = tt
each-there certificates (group ∷ groups) each = (
  all-each (IsNumberOf certificates) (named_by group) (λ c there. each c (Contains-append_left (named_by group) (flat_map named_by groups) c there)),
  each-there certificates groups (λ c there. each c (Contains-append_right (named_by group) (flat_map named_by groups) c there)),
)

-- the groups of a whole annotation name facts and certificates that are there
pub ready-at : (program : Program) (annotation : Annotation) (k : ℕ) (group : Group) → IsWhole program annotation → slice_get annotation.groups k ≡ Some group → IsReady program annotation group
ready-at program annotation k group whole at = record {
  is_over = AllByRecursion-slice_get (IsGroupOver (statements_of program annotation)) annotation.groups k group whole.groups_are at;
  are_there = AllByRecursion-slice_get (λ g. AllByRecursion (IsNumberOf annotation.certificates) (named_by g)) annotation.groups k group
      (each-there annotation.certificates annotation.groups (λ c there. named-there program annotation c whole there)) at;
}

-- a fact that a group names is there, and has one certificate for each atom
pub record IsNamedFact (annotation : Annotation) (n : ℕ) (certificates : List ℕ) : Type 0 where
  pub there : IsSome (at_number annotation.facts n)
  pub one_each : (fact : StoredFact) → at_number annotation.facts n ≡ Some fact → length certificates ≡ length (atoms_at (set_at annotation.sets fact.home.0) (positions fact.held))

pub named-fact : (program : Program) (annotation : Annotation) (n : ℕ) (certificates : List ℕ) → IsWhole program annotation → IsGroupOver (statements_of program annotation) (Gives n certificates)
    → IsNamedFact annotation n certificates
named-fact program annotation n certificates whole (statement, found, count) = record {
  there = some-mapped _ (at_number annotation.facts n) (subst IsSome (sym found ∙ numbered-map _ annotation.facts n) refl);
  one_each = λ fact at.
      let both : Some statement ≡ Some (said_by_number program annotation fact) = sym found ∙ numbered-says program annotation n fact whole at in
      let one : statement ≡ said_by_number program annotation fact = cc in
      count ∙ ap (λ (s : Statement). length s.atoms) one;
}

-- ---- what the code reads of a group

-- the fact of a number, read at its place
pub fact-read : (facts read : List StoredFact) (n : ℕ) (d : StoredFact) → read ≡ facts → IsSome (at_number facts n) → at_number facts n ≡ Some (get_or read (n - 1) d)
fact-read facts read n d same there = subst (λ xs. at_number facts n ≡ Some (get_or xs (n - 1) d)) (sym same) (numbered-or facts n d (number-within facts n there))

pub named-home : (program : Program) (annotation : Annotation) (n : ℕ) (fact : StoredFact) → IsWhole program annotation → at_number annotation.facts n ≡ Some fact → HasHome annotation.sets fact.home.0
named-home program annotation n fact whole at =
    has-list program annotation fact.home.0 (home_numbered program fact.home.0) whole (at-its-home program annotation fact (fact-allowed program annotation n fact whole at))

-- the check of an instance by a fact is that of its case
pub gives-proves : (program : Program) (annotation : Annotation) (numbers : Instance ℕ) (given : Case) (stored : StoredCase) (n : ℕ) (certificates : List ℕ) (fact : StoredFact) → IsWhole program annotation
    → ComesTo program annotation numbers given → IsStoredCase program given stored → at_number annotation.facts n ≡ Some fact → GivesFact annotation stored certificates fact
    → ProvesCheck program annotation numbers (Gives n certificates)
gives-proves program annotation numbers given stored n certificates fact whole comes is at gives =
    case-proves program annotation numbers given (Gives n certificates) comes (fact-gives program annotation given stored n certificates fact whole is at gives)

pub proves-gives : (program : Program) (annotation : Annotation) (numbers : Instance ℕ) (given : Case) (stored : StoredCase) (n : ℕ) (certificates : List ℕ) (fact : StoredFact) → IsWhole program annotation
    → ComesTo program annotation numbers given → IsStoredCase program given stored → at_number annotation.facts n ≡ Some fact → ProvesCheck program annotation numbers (Gives n certificates)
    → GivesFact annotation stored certificates fact
proves-gives program annotation numbers given stored n certificates fact whole comes is at check =
    gives-fact program annotation given stored n certificates fact whole is at (proves-case program annotation numbers given (Gives n certificates) comes check)

-- so is that by a certificate
pub refuted-proves : (program : Program) (annotation : Annotation) (numbers : Instance ℕ) (given : Case) (stored : StoredCase) (c : ℕ) → ComesTo program annotation numbers given → IsStoredCase program given stored
    → CertificateProves annotation stored.rows c → ProvesCheck program annotation numbers (Refuted c)
refuted-proves program annotation numbers given stored c comes is proof =
    case-proves program annotation numbers given (Refuted c) comes (subst (λ s. CertificateProves annotation s c) is.rows_are proof)

pub proves-refuted : (program : Program) (annotation : Annotation) (numbers : Instance ℕ) (given : Case) (stored : StoredCase) (c : ℕ) → ComesTo program annotation numbers given → IsStoredCase program given stored
    → ProvesCheck program annotation numbers (Refuted c) → CertificateProves annotation stored.rows c
proves-refuted program annotation numbers given stored c comes is check =
    subst (λ s. CertificateProves annotation s c) (sym is.rows_are) (proves-case program annotation numbers given (Refuted c) comes check)

-- the group at a place
pub group-at : (program : Program) (annotation : Annotation) (instances : List StoredInstance) (stored : List StoredGroup) (place : ℕ) (group : StoredGroup) → IsWhole program annotation
    → map instance_of instances ≡ instances_of program annotation → map group_of stored ≡ annotation.groups → place < length instances → group ≡ get_or stored place group
    → slice_get annotation.groups place ≡ Some (group_of group)
group-at program annotation instances stored place group whole one other h is =
    let counts : length instances ≡ length stored =
    omega (arith, whole.one_each, ap length one, ap length other, length-map instances instance_of, length-map stored group_of) in
    ap (λ (gs : List Group). slice_get gs place) (sym other) ∙ slice_get-map group_of stored place
    ∙ ap (option_map group_of) (slice_get-get_or stored place group (omega (arith, h, counts)) ∙ ap (λ g. Some g) (sym is))

-- the instance at a place
pub instance-at : (instances : List StoredInstance) (all : List (Instance ℕ)) (place : ℕ) (d : StoredInstance) → map instance_of instances ≡ all → place < length instances
    → slice_get all place ≡ Some (instance_of (get_or instances place d))
instance-at instances all place d same h =
    ap (λ (xs : List (Instance ℕ)). slice_get xs place) (sym same) ∙ slice_get-map instance_of instances place ∙ ap (option_map instance_of) (slice_get-get_or instances place d h)
