-- What a run has found at the end is the least set.
use Rattle.std.proofs.Common.{◌≡◌, ℕ, ◌≤◌, List, [], ◌∷◌, length, take, sym, subst, arith}
use Rattle.std.specs.List.{AllByRecursion, Contains}
use Rattle.std.proofs.lemmas.List.{length-map, take_all}
use Rattle.thr_base.specs.declared.names.RuleName.TheVariants.{Rg}
use Rattle.thr_base.specs.declared.names.Fact.{Fact as StoredFact}
use Rattle.lin_rows.specs.Row.{Row}
use Rattle.transition_formula.specs.Program.{Program}
use Rattle.horn_rules.specs.Fact.{Fact}
use Rattle.horn_rules.specs.Instance.{premises_of}
use Rattle.horn_rules.specs.Least.{IsDerivation, Least}
use Rattle.horn_rules.specs.Stored.{fact_of, facts_of, sets_of, HasItsHome}
use Rattle.horn_rules.proofs.Covering.{closed-least-covers}
use Rattle.horn_rules.proofs.Derivations.{least-closed}
use Rattle.horn_rules.proofs.Lists.{all-contained}
use Rattle.horn_rules.proofs.StoredSets.{stored-sets-are}
use Rattle.serial_fix.specs.Least.{AreLeast}
use Rattle.serial_fix.specs.inside.Found.{FoundFacts}
use Rattle.serial_fix.specs.inside.Run.{IsStored, IsRun, AllAreSettled}
use Rattle.serial_fix.proofs.Cases.{from-rules}
use Rattle.serial_fix.proofs.Steps.{found-least}
use Rattle.lin_rows.proofs.Lists.{AllByRecursion-weaken}

-- the first n facts are all facts
among-first : (program : Program) (found : List StoredFact) (n : ℕ) (fact : Fact) → length found ≤ n → Contains (facts_of program found) fact → Contains (take n (facts_of program found)) fact
among-first program found n fact whole there =
    let all : take n (facts_of program found) ≡ facts_of program found = take_all n (facts_of program found) (omega (arith, length-map found (fact_of program))) in
    subst (λ l. Contains l fact) (sym all) there

derived-there : (program : Program) (lists : List (List Row)) (found : List StoredFact) (n : ℕ) → length found ≤ n → AllAreSettled program lists n found
    → (facts : List Fact) → IsDerivation program Rg (sets_of program lists) facts → AllByRecursion (Contains (facts_of program found)) facts
derived-there program lists found n whole done [] is = tt
derived-there program lists found n whole done (fact ∷ earlier) is =
    let rest = derived-there program lists found n whole done earlier is.1 in
    let comes = is.0 in
    let stand = AllByRecursion-weaken (Contains earlier) (Contains (take n (facts_of program found)))
    (λ f there. among-first program found n f whole (all-contained (Contains (facts_of program found)) earlier f rest there)) (premises_of comes.instance) comes.stand_earlier in
    let case = from-rules program (sets_of program lists) comes.instance comes.given comes.has_kind comes.is_case in
    ((done (premises_of comes.instance) comes.given case stand).there fact comes.is_fact, rest)

least-there : (program : Program) (lists : List (List Row)) (found : List StoredFact) (n : ℕ) → length found ≤ n → AllAreSettled program lists n found
    → (fact : Fact) → Least program Rg (sets_of program lists) fact → Contains (facts_of program found) fact
least-there program lists found n whole done fact (facts, is, has) = all-contained (Contains (facts_of program found)) facts fact (derived-there program lists found n whole done facts is) has

pub are-least : (program : Program) (lists : List (List Row)) (found : FoundFacts) (n : ℕ) → IsRun program lists found → length found.facts ≤ n → AllAreSettled program lists n found.facts → AreLeast program lists found.facts
are-least program lists found n run whole done = record {
  have_homes = AllByRecursion-weaken (IsStored program lists) (HasItsHome program) (λ stored is. is.has_home) found.facts run.facts_are;
  none_twice = run.none_twice;
  exact = λ fact. (λ there. found-least program lists found fact run there, λ least. least-there program lists found.facts n whole done fact least);
  covers = closed-least-covers program Rg (sets_of program lists) run.program_is (stored-sets-are program lists run.lists_are)
      (least-closed program Rg (sets_of program lists) (λ instance given z has is least point.
      let stand = AllByRecursion-weaken (Least program Rg (sets_of program lists)) (Contains (take n (facts_of program found.facts)))
      (λ f of. among-first program found.facts n f whole (least-there program lists found.facts n whole done f of)) (premises_of instance) least in
      (done (premises_of instance) given (from-rules program (sets_of program lists) instance given has is) stand).gives z point));
}
