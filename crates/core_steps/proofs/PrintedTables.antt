-- The facts of a table, as those of a state.
use Rattle.std.proofs.Common.{◌≡◌, ℕ, Result, Ok, Err, IfOk, Vec, Global, List, [], ◌∷◌, ◌++◌, map, sym, ap, subst, ◌∙◌, inl, inr}
use Rattle.std.specs.Prelude.{◌↔◌, reverse}
use Rattle.std.specs.List.{AllByRecursion, Contains}
use Rattle.std.proofs.lemmas.List.{reverse-append, reverse-reverse}
use Rattle.std.proofs.lemmas.List.Elements.{Contains-append_left, Contains-push}
use Rattle.transition_formula.specs.Program.{Program}
use Rattle.fact_table.specs.declared.live_fact.LiveFact.{LiveFact}
use Rattle.fact_table.specs.Table.{FactTable, HasHome, IsTable}
use Rattle.thr_base.specs.declared.names.Fact.{Fact as StoredFact}
use Rattle.horn_rules.specs.Fact.{Fact}
use Rattle.horn_rules.specs.Table.{IsTableOf as IsTextOf}
use Rattle.horn_rules.specs.Stored.{HasItsHome, fact_of, facts_of}
use Rattle.horn_rules.proofs.Lists.{contains-nothing, first-or-later, Contains-map, Contains-unmap}
use Rattle.derivation_tree.specs.Facts.{KeptFact}
use Rattle.core_steps.specs.State.{State}
use Rattle.core_steps.specs.Allowed.{IsLiveFact}
use Rattle.core_steps.specs.Readers.{IsTableOf, kept_of}
use Rattle.core_steps.proofs.PremiseFacts.{fact-home}

there-reversed : {A : Type 0} (xs : List A) (x : A) → Contains xs x → Contains (reverse xs) x
there-reversed [] x there = absurd (contains-nothing x there)
there-reversed (y ∷ ys) x there = subst (λ l. Contains l x) (sym (reverse-append (y ∷ []) ys)) (elim (first-or-later y x ys there) [
  | inl is ↦ subst (Contains (reverse ys ++ y ∷ [])) is (Contains-push (reverse ys) y)
  | inr later ↦ Contains-append_left (reverse ys) (y ∷ []) x (there-reversed ys x later)
])

-- The facts of a table stand at homes of the program.
pub facts-at-homes : (program : Program) (state : State) (table : FactTable) → IsTableOf program state table → AllByRecursion (HasItsHome program) (map (λ (f : LiveFact). f.fact) table.live)
facts-at-homes program state table is = each table.live is.is_table.at_homes
  where
    each : (live : List LiveFact) → AllByRecursion (λ (f : LiveFact). HasHome table.homes f.fact.home.0) live → AllByRecursion (HasItsHome program) (map (λ (f : LiveFact). f.fact) live)
    each [] all = tt
    each (f ∷ live) all = (fact-home program table f.fact is.homes_are all.0, each live all.1)

-- They stand for exactly the facts that are live.
pub facts-are-live : (program : Program) (state : State) (table : FactTable) (fact : Fact) → IsTableOf program state table
    → Contains (facts_of program (map (λ (f : LiveFact). f.fact) table.live)) fact ↔ IsLiveFact state fact
facts-are-live program state table fact is = (
  λ there.
      let (stored, among, told) = Contains-unmap (fact_of program) (map (λ (f : LiveFact). f.fact) table.live) fact there in
      let (f, live, same) = Contains-unmap (λ (f : LiveFact). f.fact) table.live stored among in
      let kept : Contains state.live (kept_of program f) =
      subst (λ l. Contains l (kept_of program f)) (sym is.live_is) (there-reversed (map (kept_of program) table.live) (kept_of program f) (Contains-map (kept_of program) table.live f live)) in
      subst (IsLiveFact state) (ap (fact_of program) same ∙ told) (Contains-map (λ (k : KeptFact). k.fact) state.live (kept_of program f) kept),
  λ there.
      let (kept, live, told) = Contains-unmap (λ (k : KeptFact). k.fact) state.live fact there in
      let turned : Contains (map (kept_of program) table.live) kept =
      subst (λ l. Contains l kept) (ap reverse is.live_is ∙ reverse-reverse (map (kept_of program) table.live)) (there-reversed state.live kept live) in
      let (f, among, same) = Contains-unmap (kept_of program) table.live kept turned in
      subst (Contains (facts_of program (map (λ (f : LiveFact). f.fact) table.live))) (ap (λ (k : KeptFact). k.fact) same ∙ told)
      (Contains-map (fact_of program) (map (λ (f : LiveFact). f.fact) table.live) f.fact (Contains-map (λ (f : LiveFact). f.fact) table.live f among)),
)

-- The text of these facts is that of the live ones.
pub table-of-live : {E : Type 0} (program : Program) (state : State) (table : FactTable) (same : Program) (facts : List StoredFact) (made : Result (Vec ℕ Global) E) → IsTableOf program state table
    → same ≡ program → facts ≡ map (λ (f : LiveFact). f.fact) table.live
    → IfOk made (λ text. IsTextOf (Contains (facts_of same facts)) text.items) → IfOk made (λ text. IsTextOf (IsLiveFact state) text.items)
table-of-live program state table same facts (Err stop) is program_is facts_are told = tt
table-of-live program state table same facts (Ok text) is program_is facts_are told =
    let each : (fact : Fact) → Contains (facts_of same facts) fact ↔ IsLiveFact state fact =
    λ fact. subst (λ (p : Program). Contains (facts_of p facts) fact ↔ IsLiveFact state fact) (sym program_is)
    (subst (λ (fs : List StoredFact). Contains (facts_of program fs) fact ↔ IsLiveFact state fact) (sym facts_are) (facts-are-live program state table fact is)) in
    record {
      facts = told.facts;
      rising = told.rising;
      exact = λ fact. (λ there. (each fact).0 ((told.exact fact).0 there), λ live. (told.exact fact).1 ((each fact).1 live));
      written = told.written;
    }
