-- One step of a run: an instance that is posted, and what it leaves.
use Rattle.std.proofs.Common.{◌≡◌, ◌≢◌, ℕ, zero, suc, ◌^◌, ◌<◌, ◌≤◌, ◌==◌, Bool, true, List, [], ◌∷◌, ◌++◌, map, length, reverse, get_or, AllPairs, unwrap_or, Option, Some, None, Result, Ok, Err, IfOk, refl, sym, ap, subst, ◌∙◌, arith, inl, inr, IsSome}
use Rattle.std.specs.List.{AllByRecursion, Contains, Any}
use Rattle.std.specs.Option.{ForSome}
use Rattle.std.proofs.lemmas.List.{map-append, reverse-append, append-nil, length-map, length-append, get_or-map}
use Rattle.std.proofs.lemmas.List.Elements.{Contains-append_left, Contains-push, Contains-get_or}
use Rattle.std.proofs.Math.Pow.{pow_mono}
use Rattle.std.proofs.lemmas.Bool.{eqb-true, cases_lt}
use Rattle.std.proofs.lemmas.Option.{slice_get_within}
use Rattle.std.proofs.lemmas.List.Quantifiers.{all_pairs_push}
use Rattle.thr_base.specs.Held.{positions}
use Rattle.thr_base.proofs.Positions.{words-below, are-positions, positions-tell}
use Rattle.thr_base.specs.declared.names.RuleName.TheVariants.{Rg}
use Rattle.thr_base.specs.declared.names.Instance.{Instance}
use Rattle.thr_base.specs.declared.names.HomeNo.{HomeNo}
use Rattle.thr_base.specs.declared.names.Fact.{Fact as StoredFact}
use Rattle.thr_base.specs.declared.limits.Limits.{Limits}
use Rattle.lin_rows.specs.Row.{Row}
use Rattle.farkas_cert.specs.declared.answers.LeaveKind.{LeaveKind}
use Rattle.farkas_cert.specs.Cert.{IsRefuted}
use Rattle.predicate_sets.specs.Sets.{set_at}
use Rattle.transition_formula.specs.Program.{Program, at_number}
use Rattle.horn_rules.specs.declared.job.Premise.{Premise}
use Rattle.horn_rules.specs.Home.{Home, State, homes}
use Rattle.horn_rules.specs.Fact.{Sets, Fact}
use Rattle.horn_rules.specs.Case.{Case}
use Rattle.horn_rules.specs.Post.{IsFactOf}
use Rattle.horn_rules.specs.Least.{Comes, IsDerivation, Least}
use Rattle.horn_rules.specs.Laws.{bare_at}
use Rattle.horn_rules.specs.Stored.{fact_of, facts_of, sets_of}
use Rattle.horn_rules.proofs.Posts.{facts-same}
use Rattle.horn_rules.proofs.StoredSets.{facts-tell}
use Rattle.horn_rules.proofs.Derivations.{bare-fact, no-number}
use Rattle.horn_rules.proofs.Lists.{Contains-first, Contains-later, first-or-later, contains-nothing, Contains-map, all-contained}
use Rattle.abstract_post.specs.Left.{IsLeft}
use Rattle.serial_fix.specs.Least.{LeastLeaves, HasMoreFacts}
use Rattle.serial_fix.specs.inside.Found.{FoundFacts, IsInserted}
use Rattle.serial_fix.specs.inside.Run.{IsStored, IsRun, Extends, IsSettled, IsInstance, InstanceIsSettled, IsEnding, IsPosted}
use Rattle.serial_fix.specs.declared.step.Step.{Step}
use Rattle.serial_fix.specs.declared.step.Step.TheVariants.{Done, Stopped}
use Rattle.serial_fix.proofs.Cases.{to-rules}
use Rattle.serial_fix.proofs.Gives.{not-refuted}
use Rattle.serial_fix.proofs.Jobs.{job-case, target-set, Outcome}
use Rattle.lin_rows.proofs.Lists.{AllByRecursion-at, AllByRecursion-weaken}

-- ---- lists

pub all-push : {A : Type 0} (P : A → Type 0) (xs : List A) (x : A) → AllByRecursion P xs → P x → AllByRecursion P (xs ++ x ∷ [])
all-push P [] x all one = (one, tt)
all-push P (y ∷ ys) x all one = (all.0, all-push P ys x all.1 one)

reverse-push : {A : Type 0} (xs : List A) (x : A) → reverse (xs ++ x ∷ []) ≡ x ∷ reverse xs
reverse-push xs x = reverse-append xs (x ∷ [])

pub Contains-reverse : {A : Type 0} (xs : List A) (x : A) → Contains xs x → Contains (reverse xs) x
Contains-reverse [] x c = absurd (contains-nothing x c)
Contains-reverse (y ∷ ys) x c = subst (λ l. Contains l x) (sym (reverse-append (y ∷ []) ys)) (elim (first-or-later y x ys c) [
  | inl is ↦ subst (Contains (reverse ys ++ y ∷ [])) is (Contains-push (reverse ys) y)
  | inr there ↦ Contains-append_left (reverse ys) (y ∷ []) x (Contains-reverse ys x there)
])

none-is-it : {A : Type 0} (xs : List A) (x : A) → (¬ Contains xs x) → (k : ℕ) (d : A) → k < length xs → get_or xs k d ≢ x
none-is-it xs x lacks k d within is = lacks (subst (Contains xs) is (Contains-get_or xs k d within))

-- a list in which nothing stands is empty
empty : (xs : List ℕ) → ((k : ℕ) → Contains xs k → ⊥) → xs ≡ []
empty [] none = refl
empty (k ∷ ks) none = absurd (none k (Contains-first k ks))

all-of : {A : Type 0} (P : A → Type 0) (xs : List A) → ((x : A) → Contains xs x → P x) → AllByRecursion P xs
all-of P [] each = tt
all-of P (x ∷ xs) each = (each x (Contains-first x xs), all-of P xs (λ y there. each y (Contains-later x y xs there)))

-- what differs is still different after a map that tells it apart
pub map-apart : {A B : Type 0} (P : A → Type 0) (f : A → B) (xs : List A) → AllByRecursion P xs → AllPairs (λ a b. a ≢ b) xs
    → ((a b : A) → P a → P b → f a ≡ f b → a ≡ b) → AllPairs (λ a b. a ≢ b) (map f xs)
map-apart P f [] all apart tells i j d below within same = absurd (omega arith)
map-apart P f (x ∷ xs) all apart tells i j d below within same =
    let inside : j < length (x ∷ xs) = omega (arith, length-map (x ∷ xs) f) in
    let left = get_or-map f (x ∷ xs) i x d (omega arith) in
    let right = get_or-map f (x ∷ xs) j x d inside in
    apart i j x below inside (tells (get_or (x ∷ xs) i x) (get_or (x ∷ xs) j x) (AllByRecursion-at P (x ∷ xs) i x all (omega arith)) (AllByRecursion-at P (x ∷ xs) j x all inside) (sym left ∙ same ∙ right))

-- ---- stored facts

pub fact-is : (program : Program) (home : HomeNo) (held : ℕ) (target : Home) → at_number (homes program) home.0 ≡ Some target
    → fact_of program (record { home = home; held = held }) ≡ record { home = target; held = positions held }
fact-is program home held target at =
    let made : Option Home → Fact = λ o. record { home = unwrap_or o (State 0 0); held = positions held } in
    ap made at

pub numbered-within : {A : Type 0} (xs : List A) (n : ℕ) (x : A) → at_number xs n ≡ Some x → n ≤ length xs
numbered-within xs zero x e = cc
numbered-within xs (suc k) x e = slice_get_within xs k x e

pub length-zero : {A : Type 0} (xs : List A) (r : Bool) → r ≡ true → r ≡ (length xs == 0) → xs ≡ []
length-zero [] r passes is = refl
length-zero (x ∷ xs) r passes is = absurd (omega (arith, eqb-true (length (x ∷ xs)) 0 (sym is ∙ passes)))

-- what is found stays found
pub Extends-same : (found : List StoredFact) → Extends found found
Extends-same found = record { more = []; is = sym (append-nil found) }

pub Extends-Contains : (program : Program) (earlier later : List StoredFact) (fact : Fact) → Extends earlier later → Contains (facts_of program earlier) fact → Contains (facts_of program later) fact
Extends-Contains program earlier later fact on c =
    let whole : facts_of program later ≡ facts_of program earlier ++ facts_of program on.more = ap (facts_of program) on.is ∙ map-append (fact_of program) earlier on.more in
    subst (λ l. Contains l fact) (sym whole) (Contains-append_left (facts_of program earlier) (facts_of program on.more) fact c)

-- ---- an instance that is not posted

-- a fact without predicates at a home without predicates
no-positions : positions 0 ≡ []
no-positions = empty (positions 0) (λ k there.
    let small : k ≤ 0 = (words-below 0 0 (omega arith) (omega arith)).0 (omega arith) k there in
    let (from_1, to_128, held) = ((are-positions 0).exact k).0 there in
    absurd (omega (arith, small, from_1)))

nothing-held : (sets : Sets) (given : Case) (fact : Fact) → IsFactOf sets given fact → sets given.target ≡ [] → fact.held ≡ []
nothing-held sets given fact is none = empty fact.held (λ k there.
    let (atom, at, entails) = (is.entailed.exact k).0 there in
    no-number k atom (ap (λ l. at_number l k) (sym none) ∙ at))

-- a word whose positions are within a list is below 2 ^ its length
held-within : (held n : ℕ) → held < 2 ^ 128 → ((k : ℕ) → Contains (positions held) k → k ≤ n) → held < 2 ^ n
held-within held n small each = elim (cases_lt 128 n) [
  | inl above ↦ let within : 128 ≤ n = omega arith in let most : 2 ^ 128 ≤ 2 ^ n = pow_mono {i = 128} {j = n} within in omega (arith, small, most)
  | inr within ↦ (words-below held n small (omega arith)).1 each
]

stood-alone : (program : Program) (lists : List (List Row)) (home : HomeNo) (target : Home) (stored : StoredFact) → at_number (homes program) home.0 ≡ Some target
    → set_at lists home.0 ≡ [] → stored.home.0 ≡ home.0 → stored.held < 2 ^ length (set_at lists stored.home.0) → fact_of program stored ≡ record { home = target; held = [] }
stood-alone program lists home target stored at none same within =
    let bare : length (set_at lists stored.home.0) ≡ 0 = ap (λ n. length (set_at lists n)) same ∙ ap length none in
    let below : stored.held < 2 ^ 0 = subst (λ n. stored.held < 2 ^ n) bare within in
    let zero_held : stored.held ≡ 0 = omega arith in
    fact-is program stored.home stored.held target (ap (at_number (homes program)) same ∙ at)
    ∙ ap (λ held. record { home = target; held = positions held }) zero_held
    ∙ ap (λ (held : List ℕ). record { home = target; held = held }) no-positions

pub skipped : (program : Program) (lists : List (List Row)) (found : FoundFacts) (home : HomeNo) (given : Case) → IsRun program lists found
    → at_number (homes program) home.0 ≡ Some given.target → set_at lists home.0 ≡ [] → Any (λ (f : StoredFact). f.home.0 ≡ home.0) found.facts → IsSettled program lists found.facts given
skipped program lists found home given run at none (k, stored, within, is, same) =
    let bare : sets_of program lists given.target ≡ [] = target-set program lists home.0 given.target run.lists_are at ∙ none in
    let stands : Contains found.facts stored = (k, within, is) in
    let kept : IsStored program lists stored = all-contained (IsStored program lists) found.facts stored run.facts_are stands in
    let one : fact_of program stored ≡ record { home = given.target; held = [] } = stood-alone program lists home given.target stored at none same kept.within in
    record {
      there = λ fact of.
          let held : fact.held ≡ [] = nothing-held (sets_of program lists) given fact of bare in
          let other : fact ≡ record { home = given.target; held = [] } =
          ap (λ (target : Home). record { home = target; held = fact.held }) of.at_target ∙ ap (λ (l : List ℕ). record { home = given.target; held = l }) held in
          subst (Contains (facts_of program found.facts)) (one ∙ sym other) (Contains-map (fact_of program) found.facts stored stands);
      gives = λ z point. (bare_at given.target, bare-fact (sets_of program lists) given bare (not-refuted given.system z point));
    }

-- ---- an instance that is posted

settled-nothing : (program : Program) (lists : List (List Row)) (found : List StoredFact) (given : Case) → IsRefuted given.system → IsSettled program lists found given
settled-nothing program lists found given refuted = record {
  there = λ fact of. absurd (of.entailed.open_system refuted);
  gives = λ z point. absurd (not-refuted given.system z point refuted);
}

settled-fact : (program : Program) (lists : List (List Row)) (found : List StoredFact) (given : Case) (one : Fact) → IsFactOf (sets_of program lists) given one
    → Contains (facts_of program found) one → IsSettled program lists found given
settled-fact program lists found given one is there = record {
  there = λ fact of.
      let same : one ≡ fact = facts-same (sets_of program lists) given one fact is of in
      subst (Contains (facts_of program found)) same there;
  gives = λ z point. (one, is);
}

-- ---- the facts that are there

-- a fact that was found is of the least set
pub found-least : (program : Program) (lists : List (List Row)) (found : FoundFacts) (fact : Fact) → IsRun program lists found → Contains (facts_of program found.facts) fact → Least program Rg (sets_of program lists) fact
found-least program lists found fact run there = (reverse (facts_of program found.facts), run.derived, Contains-reverse (facts_of program found.facts) fact there)

pub all-least : (program : Program) (lists : List (List Row)) (found : FoundFacts) → IsRun program lists found → AllByRecursion (Least program Rg (sets_of program lists)) (facts_of program found.facts)
all-least program lists found run = all-of (Least program Rg (sets_of program lists)) (facts_of program found.facts) (λ fact there. found-least program lists found fact run there)

-- stored facts that differ stand for facts that differ
pub facts-apart : (program : Program) (lists : List (List Row)) (found : FoundFacts) → IsRun program lists found → AllPairs (λ a b. a ≢ b) (facts_of program found.facts)
facts-apart program lists found run = map-apart (IsStored program lists) (fact_of program) found.facts run.facts_are run.none_twice
    (λ a b is_a is_b same. facts-tell positions-tell program a b is_a.is_word is_b.is_word is_a.has_home is_b.has_home same)

-- the facts with one more
module _ (program : Program) (lists : List (List Row)) (old : FoundFacts) (instance : Instance) (one two : Option Premise) (home : HomeNo) (held : ℕ)
    (run : IsRun program lists old) (is : IsInstance program lists old.facts instance one two home.0) (small : held < 2 ^ 128)
    (outcome : Outcome program lists instance one two home.0 (Some held)) where
  new-fact : StoredFact
  new-fact = record { home = home; held = held }

  of-case : IsFactOf (sets_of program lists) is.given (record { home = is.given.target; held = positions held })
  of-case = record { at_target = refl; entailed = outcome is.premises is.given is.is_case is.home_is }

  new-is : fact_of program (record { home = home; held = held }) ≡ record { home = is.given.target; held = positions held }
  new-is = fact-is program home held is.given.target is.home_is

  new-stored : IsStored program lists (record { home = home; held = held })
  new-stored = record {
    has_home = subst (λ o. IsSome o) (sym is.home_is) refl;
    is_word = small;
    within = held-within held (length (set_at lists home.0)) small (λ k there.
        let (atom, at, entails) = (of-case.entailed.exact k).0 there in
        let here = ap (λ l. at_number l k) (sym (target-set program lists home.0 is.given.target run.lists_are is.home_is)) ∙ at in
        numbered-within (set_at lists home.0) k atom here);
  }

  new-comes : Comes program Rg (sets_of program lists) (reverse (facts_of program old.facts)) (fact_of program (record { home = home; held = held }))
  new-comes =
      let of_rules = to-rules program (sets_of program lists) is.premises is.given (job-case program (sets_of program lists) instance one two is.premises is.given is.is_case) in
      record {
        instance = of_rules.instance;
        given = is.given;
        has_kind = of_rules.has_kind;
        is_case = of_rules.is_case;
        stand_earlier = subst (AllByRecursion (Contains (reverse (facts_of program old.facts)))) (sym of_rules.premises_are)
            (AllByRecursion-weaken (Contains (facts_of program old.facts)) (Contains (reverse (facts_of program old.facts))) (Contains-reverse (facts_of program old.facts)) is.premises is.stand);
        is_fact = subst (IsFactOf (sets_of program lists) is.given) (sym new-is) of-case;
      }

  new-run : (¬ Contains old.facts (record { home = home; held = held })) → IsRun program lists (record old { facts = old.facts ++ record { home = home; held = held } ∷ [] })
  new-run lacks = record {
    program_is = run.program_is;
    lists_are = run.lists_are;
    homes_are = run.homes_are;
    facts_are = all-push (IsStored program lists) old.facts (record { home = home; held = held }) run.facts_are new-stored;
    none_twice = all_pairs_push (λ a b. a ≢ b) old.facts (record { home = home; held = held }) run.none_twice (none-is-it old.facts (record { home = home; held = held }) lacks);
    derived = subst (IsDerivation program Rg (sets_of program lists))
        (sym (ap reverse (map-append (fact_of program) old.facts (record { home = home; held = held } ∷ [])) ∙ reverse-push (facts_of program old.facts) (fact_of program (record { home = home; held = held }))))
        (new-comes, run.derived);
  }

  -- the facts with the new one are more than fit
  more-facts : (¬ Contains old.facts (record { home = home; held = held })) → (most : ℕ) → most ≤ length old.facts → HasMoreFacts program lists most
  more-facts lacks most full =
      let with_new : FoundFacts = record old { facts = old.facts ++ record { home = home; held = held } ∷ [] } in
      let longer : IsRun program lists with_new = new-run lacks in
      record {
        elements = facts_of program with_new.facts;
        none_twice = facts-apart program lists with_new longer;
        are = all-least program lists with_new longer;
        more = omega (arith, full, length-map with_new.facts (fact_of program), length-append old.facts (record { home = home; held = held } ∷ []));
      }

pub added : (program : Program) (lists : List (List Row)) (limits : Limits) (old new : FoundFacts) (instance : Instance) (one two : Option Premise) (home : HomeNo) (held : Option ℕ) (step : Step)
    → IsRun program lists old → IsInstance program lists old.facts instance one two home.0 → ForSome held (λ h. h < 2 ^ 128)
    → Outcome program lists instance one two home.0 held → IsInserted old limits.facts home held new step
    → IsPosted program lists limits old new (InstanceIsSettled program lists instance one two home.0) step
added program lists limits old new instance one two home None (Stopped ending) run is small outcome (never, same) = cc
added program lists limits old new instance one two home None Done run is small outcome (done, same) = (
  subst (IsRun program lists) (sym same) run,
  subst (λ (f : FoundFacts). Extends old.facts f.facts) (sym same) (Extends-same old.facts),
  λ premises given of at. settled-nothing program lists new.facts given (outcome premises given of at),
  ap (λ (f : FoundFacts). f.jobs) same,
)
added program lists limits old new instance one two home (Some held) (Stopped ending) run is small outcome (end, lacks, full) =
    subst (IsEnding program lists limits) (sym end) (more-facts program lists old instance one two home held run is (small held refl) outcome lacks limits.facts full)
added program lists limits old new instance one two home (Some held) Done run is small outcome (inl (there, same)) = (
  subst (IsRun program lists) (sym same) run,
  subst (λ (f : FoundFacts). Extends old.facts f.facts) (sym same) (Extends-same old.facts),
  λ premises given of at.
      settled-fact program lists new.facts given (record { home = given.target; held = positions held }) (record { at_target = refl; entailed = outcome premises given of at })
      (subst (λ (f : FoundFacts). Contains (facts_of program f.facts) (record { home = given.target; held = positions held })) (sym same)
      (subst (Contains (facts_of program old.facts)) (fact-is program home held given.target at) (Contains-map (fact_of program) old.facts (record { home = home; held = held }) there))),
  ap (λ (f : FoundFacts). f.jobs) same,
)
added program lists limits old new instance one two home (Some held) Done run is small outcome (inr (lacks, more)) = (
  subst (IsRun program lists) (sym more) (new-run program lists old instance one two home held run is (small held refl) outcome lacks),
  record { more = record { home = home; held = held } ∷ []; is = ap (λ (f : FoundFacts). f.facts) more },
  λ premises given of at.
      settled-fact program lists new.facts given (record { home = given.target; held = positions held }) (record { at_target = refl; entailed = outcome premises given of at })
      (subst (λ (f : FoundFacts). Contains (facts_of program f.facts) (record { home = given.target; held = positions held })) (sym more)
      (subst (Contains (facts_of program (old.facts ++ record { home = home; held = held } ∷ []))) (fact-is program home held given.target at)
      (Contains-map (fact_of program) (old.facts ++ record { home = home; held = held } ∷ []) (record { home = home; held = held }) (Contains-push old.facts (record { home = home; held = held }))))),
  ap (λ (f : FoundFacts). f.jobs) more,
)

pub if-added : {E : Type 0} (program : Program) (lists : List (List Row)) (limits : Limits) (old new : FoundFacts) (instance : Instance) (one two : Option Premise) (home : HomeNo) (held : Option ℕ)
    (made : Result Step E) → IsRun program lists old → IsInstance program lists old.facts instance one two home.0 → ForSome held (λ h. h < 2 ^ 128)
    → Outcome program lists instance one two home.0 held → IfOk made (IsInserted old limits.facts home held new)
    → IfOk made (IsPosted program lists limits old new (InstanceIsSettled program lists instance one two home.0))
if-added program lists limits old new instance one two home held (Ok step) run is small outcome put = added program lists limits old new instance one two home held step run is small outcome put
if-added program lists limits old new instance one two home held (Err e) run is small outcome put = tt

-- ---- an instance on which the solver leaves

pub leaves : (program : Program) (lists : List (List Row)) (found : FoundFacts) (instance : Instance) (one two : Option Premise) (home : ℕ) (atoms : List Row) (kind : LeaveKind)
    → IsRun program lists found → (is : IsInstance program lists found.facts instance one two home) → atoms ≡ set_at lists home → IsLeft is.given atoms kind → LeastLeaves program lists
leaves program lists found instance one two home atoms kind run is are left =
    let of_rules = to-rules program (sets_of program lists) is.premises is.given (job-case program (sets_of program lists) instance one two is.premises is.given is.is_case) in
    record {
      instance = of_rules.instance;
      given = is.given;
      kind = kind;
      has_kind = of_rules.has_kind;
      is_case = of_rules.is_case;
      stand = subst (AllByRecursion (Least program Rg (sets_of program lists))) (sym of_rules.premises_are)
          (AllByRecursion-weaken (Contains (facts_of program found.facts)) (Least program Rg (sets_of program lists)) (λ fact there. found-least program lists found fact run there) is.premises is.stand);
      is_left = subst (λ l. IsLeft is.given l kind) (are ∙ sym (target-set program lists home is.given.target run.lists_are is.home_is)) left;
    }
