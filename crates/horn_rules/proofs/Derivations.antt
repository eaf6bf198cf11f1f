-- What an instance over facts of the least set gives is in it.
use Rattle.std.proofs.Common.{◌≡◌, ℕ, zero, suc, List, [], ◌∷◌, ◌++◌, Some, refl, sym, ap, ap₂, subst, ◌∙◌, inl, inr}
use Rattle.std.specs.List.{AllByRecursion, Contains}
use Rattle.std.proofs.lemmas.List.Elements.{Contains-append_left, Contains-append_right}
use Rattle.thr_base.specs.declared.names.RuleName.{RuleName}
use Rattle.thr_base.specs.declared.names.RuleName.TheVariants.{Rg, Og}
use Rattle.lin_rows.specs.Row.{Row}
use Rattle.lin_rows.proofs.Lists.{AllByRecursion-weaken}
use Rattle.farkas_cert.specs.Cert.{IsRefuted}
use Rattle.transition_formula.specs.Program.{Program, at_number}
use Rattle.horn_rules.specs.Fact.{Sets, Fact, Statement, statement_of}
use Rattle.horn_rules.specs.Instance.{Instance, Init, Own, Guar, Env, Inter, HasKind, premises_of, map_instance}
use Rattle.horn_rules.specs.Case.{Case, IsCaseOf}
use Rattle.horn_rules.specs.Post.{IsFactOf}
use Rattle.horn_rules.specs.Least.{IsDerivation, Least, LeastSays}
use Rattle.horn_rules.specs.Cover.{LeastIsClosed}
use Rattle.horn_rules.specs.Laws.{OpenInstancesGiveTheirHomes, LeastHasWhatItGives, HasWhatItGives, LeastIsSmallest, bare_at}
use Rattle.horn_rules.proofs.Lists.{Contains-first, first-or-later, contains-nothing}
use Rattle.horn_rules.proofs.GivenAtoms.{facts-given}

derivation-append : (program : Program) (rule : RuleName) (sets : Sets) (xs ys : List Fact) → IsDerivation program rule sets xs → IsDerivation program rule sets ys → IsDerivation program rule sets (xs ++ ys)
derivation-append program rule sets [] ys one other = other
derivation-append program rule sets (x ∷ xs) ys one other = (
  record {
    instance = one.0.instance;
    given = one.0.given;
    has_kind = one.0.has_kind;
    is_case = one.0.is_case;
    stand_earlier = AllByRecursion-weaken (Contains xs) (Contains (xs ++ ys)) (λ f there. Contains-append_left xs ys f there) (premises_of one.0.instance) one.0.stand_earlier;
    is_fact = one.0.is_fact;
  },
  derivation-append program rule sets xs ys one.1 other,
)

-- one derivation for all premises
together : (program : Program) (rule : RuleName) (sets : Sets) (premises : List Fact) → AllByRecursion (Least program rule sets) premises
    → (facts : List Fact) × IsDerivation program rule sets facts × AllByRecursion (Contains facts) premises
together program rule sets [] all = ([], tt, tt)
together program rule sets (f ∷ fs) all =
    let (xs, one, there) = all.0 in
    let (ys, other, rest) = together program rule sets fs all.1 in (
      xs ++ ys,
      derivation-append program rule sets xs ys one other,
      (Contains-append_left xs ys f there, AllByRecursion-weaken (Contains ys) (Contains (xs ++ ys)) (λ g c. Contains-append_right xs ys g c) fs rest),
    )

-- so the least set has what its instances give
pub given-least : LeastHasWhatItGives
given-least program rule sets instance given fact has is all posted =
    let (facts, derived, stand) = together program rule sets (premises_of instance) all in (
      fact ∷ facts,
      (record { instance = instance; given = given; has_kind = has; is_case = is; stand_earlier = stand; is_fact = posted }, derived),
      Contains-first fact facts,
    )

-- a list that has what its instances give has each derivation
derivation-within : (program : Program) (rule : RuleName) (sets : Sets) (facts derived : List Fact) → HasWhatItGives program rule sets facts → IsDerivation program rule sets derived
    → (fact : Fact) → Contains derived fact → Contains facts fact
derivation-within program rule sets facts [] has all fact there = absurd (contains-nothing fact there)
derivation-within program rule sets facts (x ∷ earlier) has all fact there = elim (first-or-later x fact earlier there) [
  | inl same ↦
      let come = all.0 in
      let stand = AllByRecursion-weaken (Contains earlier) (Contains facts) (λ f c. derivation-within program rule sets facts earlier has all.1 f c) (premises_of come.instance) come.stand_earlier in
      subst (Contains facts) same (has come.instance come.given x come.has_kind come.is_case stand come.is_fact)
  | inr later ↦ derivation-within program rule sets facts earlier has all.1 fact later
]

pub least-smallest : LeastIsSmallest
least-smallest program rule sets facts fact has (derived, all, there) = derivation-within program rule sets facts derived has all fact there

-- ---- instances over what facts of the least set say

kind-alike : {F G : Type 0} (rule : RuleName) (f : F → G) (instance : Instance F) → HasKind rule (map_instance f instance) → HasKind rule instance
kind-alike Rg f (Init i) has = tt
kind-alike Rg f (Own g e) has = tt
kind-alike Rg f (Guar g e) has = tt
kind-alike Rg f (Env g t) has = tt
kind-alike Rg f (Inter g h e) has = has
kind-alike Og f (Init i) has = tt
kind-alike Og f (Own g e) has = tt
kind-alike Og f (Guar g e) has = has
kind-alike Og f (Env g t) has = has
kind-alike Og f (Inter g h e) has = tt

-- the facts that say it
record IsLifted (program : Program) (rule : RuleName) (sets : Sets) (instance : Instance Statement) : Type 0 where
  facts : Instance Fact
  say : map_instance (statement_of sets) facts ≡ instance
  least : AllByRecursion (Least program rule sets) (premises_of facts)

-- what the least set says comes from facts of it
least-premises : (program : Program) (rule : RuleName) (sets : Sets) (instance : Instance Statement) → AllByRecursion (LeastSays program rule sets) (premises_of instance)
    → IsLifted program rule sets instance
least-premises program rule sets (Init i) all = record { facts = Init i; say = refl; least = tt }
least-premises program rule sets (Own f e) all = let (fact, least, says) = all.0 in record { facts = Own fact e; say = ap (λ s. Own s e) (sym says); least = (least, tt) }
least-premises program rule sets (Guar f e) all = let (fact, least, says) = all.0 in record { facts = Guar fact e; say = ap (λ s. Guar s e) (sym says); least = (least, tt) }
least-premises program rule sets (Env f t) all =
    let (one, least_one, says_one) = all.0 in
    let (other, least_other, says_other) = all.1.0 in
    record { facts = Env one other; say = ap₂ (λ a b. Env a b) (sym says_one) (sym says_other); least = (least_one, (least_other, tt)) }
least-premises program rule sets (Inter f g e) all =
    let (one, least_one, says_one) = all.0 in
    let (other, least_other, says_other) = all.1.0 in
    record { facts = Inter one other e; say = ap₂ (λ a b. Inter a b e) (sym says_one) (sym says_other); least = (least_one, (least_other, tt)) }

pub least-closed : LeastIsClosed
least-closed program rule sets gives instance given z has is all point =
    let up = least-premises program rule sets instance all in
    let has_facts = kind-alike rule (statement_of sets) up.facts (subst (HasKind rule) (sym up.say) has) in
    let is_facts : IsCaseOf program (map_instance (statement_of sets) up.facts) given = subst (λ i. IsCaseOf program i given) (sym up.say) is in
    let (fact, posted) = gives up.facts given z has_facts is_facts up.least point in (
      statement_of sets fact,
      (fact, given-least program rule sets up.facts given fact has_facts is_facts up.least posted, refl),
      facts-given sets given fact posted,
    )

-- ---- where homes have no predicates

-- an empty list has no number
pub no-number : (k : ℕ) (atom : Row) → at_number [] k ≡ Some atom → ⊥
no-number zero atom e = cc
no-number (suc k) atom e = cc

pub bare-fact : (sets : Sets) (given : Case) → sets given.target ≡ [] → (¬ IsRefuted given.system) → IsFactOf sets given (bare_at given.target)
bare-fact sets given none open_ = record {
  at_target = refl;
  entailed = record {
    open_system = open_;
    rising = tt;
    exact = λ k. (λ c. absurd (contains-nothing k c), λ (atom, at, entails). absurd (no-number k atom (ap (λ l. at_number l k) (sym none) ∙ at)));
  };
}

pub each-open-gives-its-home : OpenInstancesGiveTheirHomes
each-open-gives-its-home program rule sets instance given bare has is open_ =
    let fact = bare-fact sets given (bare given.target) open_ in
    (fact, λ all. given-least program rule sets instance given (bare_at given.target) has is all fact)
