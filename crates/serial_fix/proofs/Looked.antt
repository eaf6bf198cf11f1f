-- The instances that a run looks at: each once.
use Rattle.std.proofs.Common.{◌≡◌, ◌≢◌, ℕ, zero, suc, ◌+◌, ◌*◌, ◌<◌, ◌≤◌, List, [], ◌∷◌, ◌++◌, map, length, get_or, unwrap_or, option_map, AllPairs, Option, Some, Result, Ok, Err, IsSome, IfOk, refl, sym, ap, ap₂, subst, ◌∙◌, arith, inl, inr}
use Rattle.std.specs.List.{AllByRecursion, Contains, slice_get}
use Rattle.std.proofs.lemmas.List.{length-append, map-append}
use Rattle.std.proofs.lemmas.List.Quantifiers.{all_pairs_push}
use Rattle.std.proofs.lemmas.Option.{slice_get-map, slice_get_within, get_or_from_slice_get}
use Rattle.std.proofs.lemmas.Bool.{cases_lt}
use Rattle.thr_base.specs.declared.names.RuleName.TheVariants.{Rg}
use Rattle.thr_base.specs.declared.names.FactId.{FactId}
use Rattle.thr_base.specs.declared.names.Home.{Home as StoredHome}
use Rattle.thr_base.specs.declared.names.Instance.{Instance as StoredInstance}
use Rattle.thr_base.specs.declared.names.Fact.{Fact as StoredFact}
use Rattle.thr_base.specs.declared.limits.Limits.{Limits}
use Rattle.lin_rows.specs.Row.{Row}
use Rattle.lin_rows.proofs.Lists.{AllByRecursion-at, AllByRecursion-weaken}
use Rattle.transition_formula.specs.Program.{Program, at_number}
use Rattle.horn_rules.specs.declared.job.Premise.{Premise}
use Rattle.horn_rules.specs.Home.{Home, State, homes}
use Rattle.horn_rules.specs.Fact.{Sets, Fact, statement_of}
use Rattle.horn_rules.specs.Instance.{Instance, Init, Own, Guar, Env as Environment, Inter, premises_of, map_instance}
use Rattle.horn_rules.specs.Instances.{IsResolved}
use Rattle.horn_rules.specs.Case.{Case, init_case}
use Rattle.horn_rules.specs.Case as rules
use Rattle.horn_rules.specs.Least.{Least}
use Rattle.horn_rules.specs.Stored.{fact_of, facts_of, home_of, sets_of, instance_of, HasItsHome}
use Rattle.horn_rules.proofs.Lists.{Contains-slice_get}
use Rattle.horn_rules.proofs.Places.{slice_get-append_left}
use Rattle.serial_fix.specs.Least.{IsLeastInstance, HasMoreInstances}
use Rattle.serial_fix.specs.inside.Cases.{own_case, guar_case, env_case}
use Rattle.serial_fix.specs.inside.Found.{FoundFacts}
use Rattle.serial_fix.specs.inside.Jobs.{Says, IsJobCase, init, own, guar, env}
use Rattle.serial_fix.specs.inside.Looked.{IsKnown, IsNumbered, IsOver, AreLookedAt, place_in_run, turn, first_pair}
use Rattle.serial_fix.specs.inside.Run.{IsStored, IsRun, Extends, IsInstance, IsPosted, IsStep}
use Rattle.serial_fix.specs.declared.run.Known.{Known}
use Rattle.serial_fix.specs.declared.step.Step.{Step}
use Rattle.serial_fix.specs.declared.step.Step.TheVariants.{Done, Stopped}
use Rattle.serial_fix.proofs.Steps.{all-push, found-least, facts-apart}
use Rattle.serial_fix.proofs.Instances.{some-is}

-- ---- numbers of facts

numbered-there : {A : Type 0} (xs : List A) (n : ℕ) (x : A) → at_number xs n ≡ Some x → Contains xs x
numbered-there xs zero x e = cc
numbered-there xs (suc k) x e = Contains-slice_get xs k x e

-- a fact that stands at its number is there
pub known-there : {program : Program} {facts : List StoredFact} {known : Known} → IsKnown program facts known → Contains facts known.fact
known-there {facts = facts} {known = known} is = numbered-there facts known.id.0 known.fact is.at

numbered-lasts : {A : Type 0} (xs more : List A) (n : ℕ) (x : A) → at_number xs n ≡ Some x → at_number (xs ++ more) n ≡ Some x
numbered-lasts xs more zero x e = cc
numbered-lasts xs more (suc k) x e = slice_get-append_left xs more k (slice_get_within xs k x e) ∙ e

-- and stands there in a longer list
pub known-lasts : {program : Program} {earlier later : List StoredFact} {known : Known} → Extends earlier later → IsKnown program earlier known → IsKnown program later known
known-lasts {earlier = earlier} {known = known} on is =
    record { at = ap (λ l. at_number l known.id.0) on.is ∙ numbered-lasts earlier on.more known.id.0 known.fact is.at; home_is = is.home_is }

-- the n-th fact, from 0, has number n + 1
pub known-at : (program : Program) (facts : List StoredFact) (n : ℕ) (known : Known) → slice_get facts n ≡ Some known.fact → known.id.0 ≡ n + 1
    → at_number (homes program) known.fact.home.0 ≡ Some (home_of known.home) → IsKnown program facts known
known-at program facts n known at id home =
    let number : known.id.0 ≡ suc n = omega (arith, id) in
    record { at = ap (at_number facts) number ∙ at; home_is = home }

-- a known home is that of its number
pub at-home : {program : Program} {facts : List StoredFact} {known : Known} {home : StoredHome} → IsKnown program facts known → known.home ≡ home
    → at_number (homes program) known.fact.home.0 ≡ Some (home_of home)
at-home is same = is.home_is ∙ ap (λ h. Some (home_of h)) same

-- each fact of a run has its home
pub run-homes : (program : Program) (lists : List (List Row)) (found : FoundFacts) → IsRun program lists found → AllByRecursion (HasItsHome program) found.facts
run-homes program lists found run = AllByRecursion-weaken (IsStored program lists) (HasItsHome program) (λ stored is. is.has_home) found.facts run.facts_are

some-lasts : {A : Type 0} (xs more : List A) (n : ℕ) → IsSome (at_number xs n) → at_number (xs ++ more) n ≡ at_number xs n
some-lasts xs more n some =
    let (x, at) = some-is (at_number xs n) some in
    numbered-lasts xs more n x at ∙ sym at

numbered-map : {A B : Type 0} (f : A → B) (xs : List A) (n : ℕ) (x : A) → at_number xs n ≡ Some x → at_number (map f xs) n ≡ Some (f x)
numbered-map f xs zero x e = cc
numbered-map f xs (suc k) x e = slice_get-map f xs k ∙ ap (option_map f) e

-- where no two are the same, an element tells its number
not-twice : {A : Type 0} (xs : List A) → AllPairs (λ a b. a ≢ b) xs → (i j : ℕ) (x : A) → slice_get xs i ≡ Some x → slice_get xs j ≡ Some x → i < j → ⊥
not-twice xs apart i j x at there below =
    apart i j x below (slice_get_within xs j x there) (get_or_from_slice_get xs i x x at ∙ sym (get_or_from_slice_get xs j x x there))

places-apart : {A : Type 0} (xs : List A) → AllPairs (λ a b. a ≢ b) xs → (i j : ℕ) (x : A) → slice_get xs i ≡ Some x → slice_get xs j ≡ Some x → i ≡ j
places-apart xs apart i j x at there = elim (cases_lt i j) [
  | inl below ↦ absurd (not-twice xs apart i j x at there below)
  | inr upto ↦ elim (cases_lt j i) [
    | inl below ↦ absurd (not-twice xs apart j i x there at below)
    | inr other ↦ omega arith
  ]
]

numbers-apart : {A : Type 0} (xs : List A) → AllPairs (λ a b. a ≢ b) xs → (n m : ℕ) → IsSome (at_number xs n) → at_number xs n ≡ at_number xs m → n ≡ m
numbers-apart xs apart zero m some same = cc
numbers-apart xs apart (suc i) zero some same = cc
numbers-apart xs apart (suc i) (suc j) some same =
    let (x, at) = some-is (slice_get xs i) some in
    ap suc (places-apart xs apart i j x at (sym same ∙ at))

-- ---- instances over numbers

-- the same facts make the same instance
tell : {X : Type 0} (get : ℕ → Option X) → ((n m : ℕ) → IsSome (get n) → get n ≡ get m → n ≡ m) → (a b : Instance ℕ)
    → AllByRecursion (λ o. IsSome o) (premises_of (map_instance get a)) → map_instance get a ≡ map_instance get b → a ≡ b
tell get apart (Init i) (Init j) some same = let is : i ≡ j = cc in ap Init is
tell get apart (Init i) (Own m g) some same = cc
tell get apart (Init i) (Guar m g) some same = cc
tell get apart (Init i) (Environment m k) some same = cc
tell get apart (Init i) (Inter m k g) some same = cc
tell get apart (Own n e) (Init j) some same = cc
tell get apart (Own n e) (Own m g) some same =
    let got : get n ≡ get m = cc in
    let edge : e ≡ g = cc in
    ap₂ Own (apart n m some.0 got) edge
tell get apart (Own n e) (Guar m g) some same = cc
tell get apart (Own n e) (Environment m k) some same = cc
tell get apart (Own n e) (Inter m k g) some same = cc
tell get apart (Guar n e) (Init j) some same = cc
tell get apart (Guar n e) (Own m g) some same = cc
tell get apart (Guar n e) (Guar m g) some same =
    let got : get n ≡ get m = cc in
    let edge : e ≡ g = cc in
    ap₂ Guar (apart n m some.0 got) edge
tell get apart (Guar n e) (Environment m k) some same = cc
tell get apart (Guar n e) (Inter m k g) some same = cc
tell get apart (Environment n l) (Init j) some same = cc
tell get apart (Environment n l) (Own m g) some same = cc
tell get apart (Environment n l) (Guar m g) some same = cc
tell get apart (Environment n l) (Environment m k) some same =
    let got : get n ≡ get m = cc in
    let told : get l ≡ get k = cc in
    ap₂ Environment (apart n m some.0 got) (apart l k some.1.0 told)
tell get apart (Environment n l) (Inter m k g) some same = cc
tell get apart (Inter n l e) (Init j) some same = cc
tell get apart (Inter n l e) (Own m g) some same = cc
tell get apart (Inter n l e) (Guar m g) some same = cc
tell get apart (Inter n l e) (Environment m k) some same = cc
tell get apart (Inter n l e) (Inter m k g) some same =
    let got : get n ≡ get m = cc in
    let stepped : get l ≡ get k = cc in
    let edge : e ≡ g = cc in
    ap₂ (λ a b. Inter a b e) (apart n m some.0 got) (apart l k some.1.0 stepped) ∙ ap (Inter m k) edge

-- the premises that an instance names are there
all-some : {X : Type 0} (x : Instance X) → AllByRecursion (λ o. IsSome o) (premises_of (map_instance Some x))
all-some (Init i) = tt
all-some (Own f e) = (refl, tt)
all-some (Guar f e) = (refl, tt)
all-some (Environment f t) = (refl, (refl, tt))
all-some (Inter f g e) = (refl, (refl, tt))

some-named : (facts : List Fact) (numbers : Instance ℕ) (instance : Instance Fact) → IsResolved facts numbers instance
    → AllByRecursion (λ o. IsSome o) (premises_of (map_instance (at_number facts) numbers))
some-named facts numbers instance is = subst (λ (x : Instance (Option Fact)). AllByRecursion (λ o. IsSome o) (premises_of x)) (sym is) (all-some instance)

-- and stay there
lasts-map : (facts more : List Fact) (numbers : Instance ℕ) → AllByRecursion (λ o. IsSome o) (premises_of (map_instance (at_number facts) numbers))
    → map_instance (at_number (facts ++ more)) numbers ≡ map_instance (at_number facts) numbers
lasts-map facts more (Init i) some = refl
lasts-map facts more (Own n e) some = ap (λ o. Own o e) (some-lasts facts more n some.0)
lasts-map facts more (Guar n e) some = ap (λ o. Guar o e) (some-lasts facts more n some.0)
lasts-map facts more (Environment n m) some = ap₂ Environment (some-lasts facts more n some.0) (some-lasts facts more m some.1.0)
lasts-map facts more (Inter n m e) some = ap₂ (λ a b. Inter a b e) (some-lasts facts more n some.0) (some-lasts facts more m some.1.0)

over-lasts : (program : Program) (lists : List (List Row)) (earlier later : List StoredFact) → Extends earlier later → (numbers : Instance ℕ)
    → IsOver program lists earlier numbers → IsOver program lists later numbers
over-lasts program lists earlier later on numbers over =
    let whole : facts_of program later ≡ facts_of program earlier ++ facts_of program on.more = ap (facts_of program) on.is ∙ map-append (fact_of program) earlier on.more in
    record {
      instance = over.instance;
      given = over.given;
      has_kind = over.has_kind;
      is_case = over.is_case;
      resolved = ap (λ facts. map_instance (at_number facts) numbers) whole
          ∙ lasts-map (facts_of program earlier) (facts_of program on.more) numbers (some-named (facts_of program earlier) numbers over.instance over.resolved) ∙ over.resolved;
    }

-- the premises are facts of the list
premises-stand : (facts : List Fact) (numbers : Instance ℕ) (instance : Instance Fact) → IsResolved facts numbers instance → AllByRecursion (Contains facts) (premises_of instance)
premises-stand facts (Init i) (Init j) is = tt
premises-stand facts (Init i) (Own f g) is = cc
premises-stand facts (Init i) (Guar f g) is = cc
premises-stand facts (Init i) (Environment f t) is = cc
premises-stand facts (Init i) (Inter f h g) is = cc
premises-stand facts (Own n e) (Init j) is = cc
premises-stand facts (Own n e) (Own f g) is = let at : at_number facts n ≡ Some f = cc in (numbered-there facts n f at, tt)
premises-stand facts (Own n e) (Guar f g) is = cc
premises-stand facts (Own n e) (Environment f t) is = cc
premises-stand facts (Own n e) (Inter f h g) is = cc
premises-stand facts (Guar n e) (Init j) is = cc
premises-stand facts (Guar n e) (Own f g) is = cc
premises-stand facts (Guar n e) (Guar f g) is = let at : at_number facts n ≡ Some f = cc in (numbered-there facts n f at, tt)
premises-stand facts (Guar n e) (Environment f t) is = cc
premises-stand facts (Guar n e) (Inter f h g) is = cc
premises-stand facts (Environment n m) (Init j) is = cc
premises-stand facts (Environment n m) (Own f g) is = cc
premises-stand facts (Environment n m) (Guar f g) is = cc
premises-stand facts (Environment n m) (Environment f t) is =
    let at : at_number facts n ≡ Some f = cc in
    let told : at_number facts m ≡ Some t = cc in
    (numbered-there facts n f at, (numbered-there facts m t told, tt))
premises-stand facts (Environment n m) (Inter f h g) is = cc
premises-stand facts (Inter n m e) (Init j) is = cc
premises-stand facts (Inter n m e) (Own f g) is = cc
premises-stand facts (Inter n m e) (Guar f g) is = cc
premises-stand facts (Inter n m e) (Environment f t) is = cc
premises-stand facts (Inter n m e) (Inter f h g) is =
    let at : at_number facts n ≡ Some f = cc in
    let stepped : at_number facts m ≡ Some h = cc in
    (numbered-there facts n f at, (numbered-there facts m h stepped, tt))

-- ---- the instance of a job

says-number : (program : Program) (sets : Sets) (facts : List StoredFact) (id : FactId) (premise : Premise) (fact : Fact) → Says program sets id premise fact
    → at_number facts premise.id.0 ≡ Some premise.fact → at_number (facts_of program facts) id.0 ≡ Some fact
says-number program sets facts id premise fact is at =
    let home : unwrap_or (at_number (homes program) premise.fact.home.0) (State 0 0) ≡ fact.home = ap (λ o. unwrap_or o (State 0 0)) is.home_is in
    let same : fact_of program premise.fact ≡ fact = ap₂ (λ (h : Home) (held : List ℕ). record { home = h; held = held }) home (sym is.held_is) in
    let number : premise.id.0 ≡ id.0 = ap (λ (i : FactId). i.0) is.id_is in
    ap (at_number (facts_of program facts)) (sym number) ∙ numbered-map (fact_of program) facts premise.id.0 premise.fact at ∙ ap Some same

job-over : (program : Program) (lists : List (List Row)) (facts : List StoredFact) (stored : StoredInstance) (first second : Option Premise) (premises : List Fact) (given : Case)
    → IsNumbered facts first → IsNumbered facts second → IsJobCase program (sets_of program lists) stored first second premises given → IsOver program lists facts (instance_of stored)
job-over program lists facts stored first second premises given one two (init i thread at) =
    record { instance = Init i.0; given = init_case program i.0; resolved = refl; has_kind = tt; is_case = rules.init i.0 thread at }
job-over program lists facts stored first second premises given one two (own id e premise i thread edge f is at home) = record {
  instance = Own f e.0;
  given = own_case program (sets_of program lists) i thread edge f;
  resolved = ap (λ o. Own o e.0) (says-number program (sets_of program lists) facts id premise f is one);
  has_kind = tt;
  is_case = rules.own i e.0 thread edge (statement_of (sets_of program lists) f) at home;
}
job-over program lists facts stored first second premises given one two (guar id e premise i thread edge f is at home) = record {
  instance = Guar f e.0;
  given = guar_case program (sets_of program lists) i e.0 thread edge f;
  resolved = ap (λ o. Guar o e.0) (says-number program (sets_of program lists) facts id premise f is one);
  has_kind = tt;
  is_case = rules.guar i e.0 thread edge (statement_of (sets_of program lists) f) at home;
}
job-over program lists facts stored first second premises given one two (env id told premise other_premise k l i e other thread edge f t is_f is_t apart there at home_f home_t) = record {
  instance = Environment f t;
  given = env_case program (sets_of program lists) k l other thread edge f t;
  resolved = ap₂ Environment (says-number program (sets_of program lists) facts id premise f is_f one) (says-number program (sets_of program lists) facts told other_premise t is_t two);
  has_kind = tt;
  is_case = rules.env k l i e other thread edge (statement_of (sets_of program lists) f) (statement_of (sets_of program lists) t) apart there at home_f home_t;
}

instance-over : (program : Program) (lists : List (List Row)) (facts : List StoredFact) (stored : StoredInstance) (first second : Option Premise) (home : ℕ)
    → IsInstance program lists facts stored first second home → IsOver program lists facts (instance_of stored)
instance-over program lists facts stored first second home is = job-over program lists facts stored first second is.premises is.given is.first_at is.second_at is.is_case

-- ---- one more

-- nothing is looked at yet
pub looked-none : (program : Program) (lists : List (List Row)) (found : FoundFacts) (upto : ℕ) → found.jobs ≡ 0 → AreLookedAt program lists found upto
looked-none program lists found upto none = record { instances = []; count = sym none; none_twice = λ i j d below within. absurd (omega arith); over = tt; before = tt }

-- what was looked at before a place was so before a later one
pub looked-later : (program : Program) (lists : List (List Row)) (found : FoundFacts) (place upto : ℕ) → AreLookedAt program lists found place → place ≤ upto → AreLookedAt program lists found upto
looked-later program lists found place upto looked within = record {
  instances = looked.instances;
  count = looked.count;
  none_twice = looked.none_twice;
  over = looked.over;
  before = AllByRecursion-weaken (λ instance. place_in_run instance < place) (λ instance. place_in_run instance < upto) (λ instance below. omega arith) looked.instances looked.before;
}

not-looked-at : (program : Program) (lists : List (List Row)) (found : FoundFacts) (numbers : Instance ℕ) (looked : AreLookedAt program lists found (place_in_run numbers))
    → (k : ℕ) (d : Instance ℕ) → k < length looked.instances → get_or looked.instances k d ≢ numbers
not-looked-at program lists found numbers looked k d within is =
    let below : place_in_run (get_or looked.instances k d) < place_in_run numbers =
    AllByRecursion-at (λ instance. place_in_run instance < place_in_run numbers) looked.instances k d looked.before within in
    let same : place_in_run (get_or looked.instances k d) ≡ place_in_run numbers = ap place_in_run is in
    absurd (omega (arith, below, same))

apart-with : (program : Program) (lists : List (List Row)) (found : FoundFacts) (numbers : Instance ℕ) (looked : AreLookedAt program lists found (place_in_run numbers))
    → AllPairs (λ a b. a ≢ b) (looked.instances ++ numbers ∷ [])
apart-with program lists found numbers looked =
    all_pairs_push (λ a b. a ≢ b) looked.instances numbers looked.none_twice (not-looked-at program lists found numbers looked)

-- one more instance, which is looked at in its place
looked-one : (program : Program) (lists : List (List Row)) (old new : FoundFacts) (numbers : Instance ℕ) → AreLookedAt program lists old (place_in_run numbers)
    → IsOver program lists old.facts numbers → Extends old.facts new.facts → new.jobs ≡ old.jobs + 1 → AreLookedAt program lists new (place_in_run numbers + 1)
looked-one program lists old new numbers looked over on jobs = record {
  instances = looked.instances ++ numbers ∷ [];
  count = omega (arith, length-append looked.instances (numbers ∷ []), looked.count, jobs);
  none_twice = apart-with program lists old numbers looked;
  over = all-push (IsOver program lists new.facts) looked.instances numbers
      (AllByRecursion-weaken (IsOver program lists old.facts) (IsOver program lists new.facts) (over-lasts program lists old.facts new.facts on) looked.instances looked.over)
      (over-lasts program lists old.facts new.facts on numbers over);
  before = all-push (λ instance. place_in_run instance < place_in_run numbers + 1) looked.instances numbers
      (AllByRecursion-weaken (λ instance. place_in_run instance < place_in_run numbers) (λ instance. place_in_run instance < place_in_run numbers + 1) (λ instance below. omega arith) looked.instances looked.before)
      (omega arith);
}

-- a job that was counted is one more
pub counted : {E : Type 0} (program : Program) (lists : List (List Row)) (limits : Limits) (old with_job new : FoundFacts) (stored : StoredInstance) (first second : Option Premise) (home : ℕ)
    (P : List StoredFact → Type 0) (made : Result Step E) → IsInstance program lists old.facts stored first second home → AreLookedAt program lists old (place_in_run (instance_of stored))
    → with_job ≡ record old { jobs = old.jobs + 1 } → IfOk made (IsPosted program lists limits with_job new P)
    → IfOk made (IsStep program lists limits old new (place_in_run (instance_of stored) + 1) P)
counted program lists limits old with_job new stored first second home P (Ok Done) is looked more (run, on, settled, jobs) =
    let further : Extends old.facts new.facts = subst (λ (f : FoundFacts). Extends f.facts new.facts) more on in
    (run, further, settled, looked-one program lists old new (instance_of stored) looked (instance-over program lists old.facts stored first second home is) further (jobs ∙ ap (λ (f : FoundFacts). f.jobs) more))
counted program lists limits old with_job new stored first second home P (Ok (Stopped ending)) is looked more ends = ends
counted program lists limits old with_job new stored first second home P (Err e) is looked more posted = tt

-- a run with a job that was counted
pub run-counted : (program : Program) (lists : List (List Row)) (old new : FoundFacts) → IsRun program lists old → new ≡ record old { jobs = old.jobs + 1 } → IsRun program lists new
run-counted program lists old new run more = subst (IsRun program lists) (sym more) (record {
  program_is = run.program_is;
  lists_are = run.lists_are;
  homes_are = run.homes_are;
  facts_are = run.facts_are;
  none_twice = run.none_twice;
  derived = run.derived;
})

pub instance-counted : (program : Program) (lists : List (List Row)) (old new : FoundFacts) (stored : StoredInstance) (first second : Option Premise) (home : ℕ)
    → IsInstance program lists old.facts stored first second home → new ≡ record old { jobs = old.jobs + 1 } → IsInstance program lists new.facts stored first second home
instance-counted program lists old new stored first second home is more = subst (λ (f : FoundFacts). IsInstance program lists f.facts stored first second home) (sym more) is

-- ---- places

-- a pair comes before the same pair the other way
pub both-places : (m n : ℕ) → m < n → place_in_run (Environment n m) + 1 ≤ place_in_run (Environment m n)
both-places m n below = omega arith

-- where the pairs of a fact with an earlier one stand
pub pair-place : (n m id other : ℕ) → id ≡ n + 1 → other ≡ m + 1 → m < n → turn (n + 1) (first_pair + 2 * (m + 1)) ≤ place_in_run (Environment id other)
pair-place n m id other is other_is below = omega (arith, is, other_is)

pub told-place : (n m id other : ℕ) → id ≡ n + 1 → other ≡ m + 1 → m < n → place_in_run (Environment other id) + 1 ≤ turn (n + 1) (first_pair + 2 * (m + 1 + 1))
told-place n m id other is other_is below = omega (arith, is, other_is)

-- ---- too many

-- the instances over facts that numbers stand for
abbrev over-facts : (program : Program) (lists : List (List Row)) (facts : List StoredFact) (numbers : List (Instance ℕ)) → AllByRecursion (IsOver program lists facts) numbers → List (Instance Fact)
over-facts program lists facts [] over = []
over-facts program lists facts (n ∷ ns) over = over.0.instance ∷ over-facts program lists facts ns over.1

over-length : (program : Program) (lists : List (List Row)) (facts : List StoredFact) (numbers : List (Instance ℕ)) (over : AllByRecursion (IsOver program lists facts) numbers)
    → length (over-facts program lists facts numbers over) ≡ length numbers
over-length program lists facts [] over = refl
over-length program lists facts (n ∷ ns) over = ap suc (over-length program lists facts ns over.1)

over-at : (program : Program) (lists : List (List Row)) (facts : List StoredFact) (numbers : List (Instance ℕ)) (over : AllByRecursion (IsOver program lists facts) numbers)
    → (k : ℕ) (d : Instance Fact) (n : Instance ℕ) → k < length numbers
    → IsResolved (facts_of program facts) (get_or numbers k n) (get_or (over-facts program lists facts numbers over) k d)
over-at program lists facts [] over k d n within = absurd (omega arith)
over-at program lists facts (m ∷ ms) over zero d n within = over.0.resolved
over-at program lists facts (m ∷ ms) over (suc k) d n within = over-at program lists facts ms over.1 k d n (omega arith)

-- different numbers stand for different instances
over-apart : (program : Program) (lists : List (List Row)) (facts : List StoredFact) (numbers : List (Instance ℕ)) (over : AllByRecursion (IsOver program lists facts) numbers)
    → AllPairs (λ a b. a ≢ b) (facts_of program facts) → AllPairs (λ a b. a ≢ b) numbers → AllPairs (λ a b. a ≢ b) (over-facts program lists facts numbers over)
over-apart program lists facts [] over facts_differ apart i j d below within same = absurd (omega arith)
over-apart program lists facts (n ∷ ns) over facts_differ apart i j d below within same =
    let inside : j < length (n ∷ ns) = omega (arith, over-length program lists facts (n ∷ ns) over) in
    let one = over-at program lists facts (n ∷ ns) over i d n (omega arith) in
    let other = over-at program lists facts (n ∷ ns) over j d n inside in
    apart i j n below inside (tell (at_number (facts_of program facts)) (numbers-apart (facts_of program facts) facts_differ) (get_or (n ∷ ns) i n) (get_or (n ∷ ns) j n)
    (some-named (facts_of program facts) (get_or (n ∷ ns) i n) (get_or (over-facts program lists facts (n ∷ ns) over) i d) one)
    (one ∙ ap (map_instance Some) same ∙ sym other))

over-least : (program : Program) (lists : List (List Row)) (found : FoundFacts) (numbers : List (Instance ℕ)) (over : AllByRecursion (IsOver program lists found.facts) numbers)
    → IsRun program lists found → AllByRecursion (IsLeastInstance program lists) (over-facts program lists found.facts numbers over)
over-least program lists found [] over run = tt
over-least program lists found (n ∷ ns) over run = (
  record {
    given = over.0.given;
    has_kind = over.0.has_kind;
    is_case = over.0.is_case;
    stand = AllByRecursion-weaken (Contains (facts_of program found.facts)) (Least program Rg (sets_of program lists)) (λ fact there. found-least program lists found fact run there)
        (premises_of over.0.instance) (premises-stand (facts_of program found.facts) n over.0.instance over.0.resolved);
  },
  over-least program lists found ns over.1 run,
)

-- an instance behind as many as may be counted
pub more-instances : (program : Program) (lists : List (List Row)) (found : FoundFacts) (stored : StoredInstance) (first second : Option Premise) (home most : ℕ) → IsRun program lists found
    → IsInstance program lists found.facts stored first second home → AreLookedAt program lists found (place_in_run (instance_of stored)) → most ≤ found.jobs → HasMoreInstances program lists most
more-instances program lists found stored first second home most run is looked full =
    let numbers = looked.instances ++ instance_of stored ∷ [] in
    let over : AllByRecursion (IsOver program lists found.facts) numbers =
    all-push (IsOver program lists found.facts) looked.instances (instance_of stored) looked.over (instance-over program lists found.facts stored first second home is) in
    record {
      elements = over-facts program lists found.facts numbers over;
      none_twice = over-apart program lists found.facts numbers over (facts-apart program lists found run) (apart-with program lists found (instance_of stored) looked);
      are = over-least program lists found numbers over run;
      more = omega (arith, over-length program lists found.facts numbers over, length-append looked.instances (instance_of stored ∷ []), looked.count, full);
    }
