-- A live fact as a premise, and the job over such premises.
use Rattle.std.proofs.Common.{◌≡◌, ◌<◌, ◌≤◌, ◌-◌, ◌^◌, ℕ, zero, suc, true, false, List, [], ◌∷◌, length, Option, Some, None, refl, sym, ap, ap₂, subst, ◌∙◌, inl, inr, arith}
use Rattle.std.specs.Prelude.{◌==◌, option_map, IsSome, unwrap_or}
use Rattle.std.specs.List.{AllByRecursion, Contains}
use Rattle.std.proofs.lemmas.Option.{slice_get_within}
use Rattle.thr_base.specs.Held.{positions}
use Rattle.thr_base.specs.declared.names.FactId.{FactId}
use Rattle.thr_base.specs.declared.names.HomeNo.{HomeNo}
use Rattle.thr_base.specs.declared.names.Fact.{Fact as StoredFact}
use Rattle.thr_base.specs.declared.names.Instance.{Instance as StoredInstance}
use Rattle.thr_base.proofs.Positions.{words-below}
use Rattle.lin_rows.specs.Row.{Row}
use Rattle.lin_rows.proofs.Lists.{AllByRecursion-at, AllByRecursion-weaken}
use Rattle.predicate_sets.specs.HomeSet.{IsHomeSet}
use Rattle.predicate_sets.specs.Sets.{AreHomeSets, set_at}
use Rattle.transition_formula.specs.Program.{Program, at_number}
use Rattle.fact_table.specs.declared.live_fact.LiveFact.{LiveFact}
use Rattle.fact_table.specs.Live.{live_at}
use Rattle.fact_table.specs.Table.{FactTable, HasHome, IsTable}
use Rattle.horn_rules.specs.declared.job.Premise.{Premise}
use Rattle.horn_rules.specs.declared.job.Job.{Job}
use Rattle.horn_rules.specs.Home.{Home, State as AtLocation, homes, IsHomeOf}
use Rattle.horn_rules.specs.Fact.{Fact, Statement, IsSetOf}
use Rattle.horn_rules.specs.Instance.{Instance, Init, Own, Guar, Env, Inter, first_of, second_of, premises_of, map_instance}
use Rattle.horn_rules.specs.Laws.{IsWord}
use Rattle.horn_rules.specs.Job.{IsPremise, premise_says}
use Rattle.horn_rules.specs.Stored.{HasItsHome, fact_of, home_numbered, instance_of}
use Rattle.horn_rules.specs.Target.{target_of, target_at}
use Rattle.horn_rules.proofs.Lists.{Contains-first, Contains-later, all-contained}
use Rattle.horn_rules.proofs.InstanceLists.{eq-is}
use Rattle.horn_rules.proofs.Numbers.{numbered-there, home-numbered}
use Rattle.horn_rules.proofs.Targets.{targets-have-cases}
use Rattle.derivation_tree.specs.Facts.{KeptFact, fact_at, home_at, target_among}
use Rattle.instance_cursors.specs.declared.choosing.Next.{Next}
use Rattle.core_steps.specs.State.{Opening, State, Task, IsOpening}
use Rattle.core_steps.specs.Event.{History}
use Rattle.core_steps.specs.After.{after}
use Rattle.core_steps.specs.Legal.{IsLegal}
use Rattle.core_steps.specs.Withdrawn.{has_id}
use Rattle.core_steps.specs.Readers.{IsListsOf}
use Rattle.core_steps.specs.Jobs.{PremiseAgrees}
use Rattle.core_steps.specs.inside.Parts.{IsFullTable}
use Rattle.core_steps.specs.inside.Taking.{IsNextOf}
use Rattle.core_steps.specs.inside.Premises.{IsPremiseOf, ArePremisesOf, IsTaskJob}
use Rattle.core_steps.proofs.Tests.{tells}
use Rattle.core_steps.proofs.Live.{fact_at-found, has_id-at, all-unmap, map-map}
use Rattle.core_steps.proofs.Histories.{live-posts}
use Rattle.core_steps.proofs.Safe.{legal-sets}
use Rattle.core_steps.proofs.TableFacts.{fact-newest}

pub live_at-found : (live : List LiveFact) (id : ℕ) (f : LiveFact) → live_at live id ≡ Some f → Contains live f × (f.id.0 ≡ id)
live_at-found [] id f e = cc
live_at-found (g ∷ live) id f e = elim (tells (g.id.0 == id)) [
  | inl hit ↦
      let at : live_at (g ∷ live) id ≡ Some g = rw hit refl in
      let some : Some g ≡ Some f = sym at ∙ e in
      let same : g ≡ f = cc in
      (subst (Contains (g ∷ live)) same (Contains-first g live), ap (λ h. (LiveFact.id h).0) (sym same) ∙ eq-is g.id.0 id hit)
  | inr miss ↦
      let at : live_at (g ∷ live) id ≡ live_at live id = rw miss refl in
      let (there, is) = live_at-found live id f (sym at ∙ e) in
      (Contains-later g f live there, is)
]

-- the home of a number that is there
pub home-of : (program : Program) (n : ℕ) → IsSome (at_number (homes program) n) → at_number (homes program) n ≡ Some (home_numbered program n)
home-of program n some = of (at_number (homes program) n) some
  where
    of : (o : Option Home) → IsSome o → o ≡ Some (unwrap_or o (AtLocation 0 0))
    of None some = cc
    of (Some home) some = refl

pub fact-home : (program : Program) (table : FactTable) (fact : StoredFact) → table.homes ≡ length (homes program) → HasHome table.homes fact.home.0 → HasItsHome program fact
fact-home program table fact same has = numbered-there (homes program) fact.home.0 has.0 (let le = has.1 in omega (arith, le, same))

numbered-within : (atoms : List Row) (k : ℕ) (atom : Row) → at_number atoms k ≡ Some atom → k ≤ length atoms
numbered-within atoms zero atom e = omega arith
numbered-within atoms (suc k) atom e = let lt = slice_get_within atoms k atom e in omega (arith, lt)

few-at : (lists : List (List Row)) (n : ℕ) → AreHomeSets lists → 0 < n → n ≤ length lists → length (set_at lists n) ≤ 128
few-at lists n sets above within = (AllByRecursion-at IsHomeSet lists (n - 1) [] sets (omega (arith, above, within))).few

-- a live fact of the table is a premise with the list of its home
pub premise-fits : (opening : Opening) (history : History) (table : FactTable) (lists : List (List Row)) (id : FactId) (f : LiveFact) (premise : Premise)
    → IsOpening opening → IsLegal opening history → IsFullTable opening.program opening.limits.facts (after opening history) table
    → IsListsOf opening.program (after opening history) lists → AreHomeSets lists → live_at table.live id.0 ≡ Some f
    → premise.id ≡ id → premise.fact ≡ f.fact → premise.set.value ≡ set_at lists f.fact.home.0
    → IsPremiseOf opening (after opening history) id premise
premise-fits opening history table lists id f premise is legal stored is_lists sets found id_is fact_is set_is =
    let state = after opening history in
    let program = opening.program in
    let whole = stored.table_is in
    let (there, same_id) = live_at-found table.live id.0 f found in
    let word = all-contained (λ (g : LiveFact). IsWord g.fact) table.live f stored.words there in
    let has = all-contained (λ (g : LiveFact). HasHome table.homes g.fact.home.0) table.live f whole.is_table.at_homes there in
    let some : HasItsHome program f.fact = fact-home program table f.fact whole.homes_are has in
    let home = home-of program f.fact.home.0 some in
    let list = is_lists.each f.fact.home.0 (home_numbered program f.fact.home.0) home in
    let at : fact_at state.live id.0 ≡ Some (fact_of program f.fact) =
    ap (λ live. fact_at live id.0) whole.live_is ∙ fact-newest program 0 table.live id.0 whole.is_table.ids_rise ∙ ap (option_map (λ (g : LiveFact). fact_of program g.fact)) found in
    let (g, live, g_id, g_fact) = fact_at-found state.live id.0 (fact_of program f.fact) at in
    let posts = live-posts opening history g legal live in
    let few = few-at lists f.fact.home.0 sets has.0 (let one = is_lists.one_each in let h = whole.homes_are in let le = has.1 in omega (arith, one, h, le)) in
    let target : posts.given.target ≡ home_numbered program f.fact.home.0 = sym posts.is_fact.at_target ∙ ap (λ x. Fact.home x) g_fact in
    let below : (k : ℕ) → Contains (positions f.fact.held) k → k ≤ length (set_at lists f.fact.home.0) =
    λ k there_k.
    let entails = (posts.is_fact.entailed.exact k).0 (subst (λ x. Contains (Fact.held x) k) (sym g_fact) there_k) in
    let within = numbered-within (state.sets posts.given.target) k entails.0 entails.1 in
    let same = ap length (ap state.sets target ∙ list) in omega (arith, within, same) in
    let held : f.fact.held < 2 ^ length (set_at lists f.fact.home.0) = (words-below f.fact.held (length (set_at lists f.fact.home.0)) word few).1 below in
    record {
      id_is = id_is;
      agrees = (
        ap (λ i. fact_at state.live (FactId.0 i)) id_is ∙ at ∙ ap (λ x. Some (fact_of program x)) (sym fact_is),
        set_is ∙ sym list ∙ ap (λ x. state.sets (home_numbered program (StoredFact.home x).0)) (sym fact_is),
      );
      fits = record {
        has_home = subst (HasItsHome program) (sym fact_is) some;
        set_is = subst (λ x. IsSetOf program (home_numbered program (StoredFact.home x).0) premise.set.value) (sym fact_is)
            (subst (IsSetOf program (home_numbered program f.fact.home.0)) (list ∙ sym set_is) (legal-sets opening history is legal (home_numbered program f.fact.home.0)));
        held_within = subst (λ x. StoredFact.held x < 2 ^ length premise.set.value) (sym fact_is) (subst (λ xs. f.fact.held < 2 ^ length xs) (sym set_is) held);
      };
    }

-- ---- jobs

-- where premises stand at the homes of live facts, the instance leads to the same home
home_at-is : (program : Program) (live : List KeptFact) (premise : Premise) → fact_at live premise.id.0 ≡ Some (fact_of program premise.fact)
    → home_at live premise.id.0 ≡ Some (home_numbered program premise.fact.home.0)
home_at-is program live premise e = ap (option_map (λ fact. Fact.home fact)) e

abbrev at_home : Program → Premise → Home
at_home program premise = home_numbered program premise.fact.home.0

led-by : (program : Program) (live : List KeptFact) (instance : Instance Premise)
    → AllByRecursion (λ (p : Premise). fact_at live p.id.0 ≡ Some (fact_of program p.fact)) (premises_of instance)
    → target_among program live (map_instance (λ (p : Premise). p.id.0) instance) ≡ target_of program (map_instance (at_home program) instance)
led-by program live (Init i) all = refl
led-by program live (Own f e) all = ap (λ o. target_at program (Own (at_home program f) e) o None) (home_at-is program live f all.0)
led-by program live (Guar f e) all = ap (λ o. target_at program (Guar (at_home program f) e) o None) (home_at-is program live f all.0)
led-by program live (Env f t) all = ap₂ (target_at program (Env (at_home program f) (at_home program t))) (home_at-is program live f all.0) (home_at-is program live t all.1.0)
led-by program live (Inter f g e) all = ap₂ (target_at program (Inter (at_home program f) (at_home program g) e)) (home_at-is program live f all.0) (home_at-is program live g all.1.0)

agrees-first : (opening : Opening) (state : State) (instance : Instance Premise) → AllByRecursion (λ (p : Premise). PremiseAgrees opening state (Some p)) (premises_of instance)
    → PremiseAgrees opening state (first_of instance) × PremiseAgrees opening state (second_of instance)
agrees-first opening state (Init i) all = (tt, tt)
agrees-first opening state (Own f e) all = (all.0, tt)
agrees-first opening state (Guar f e) all = (all.0, tt)
agrees-first opening state (Env f t) all = (all.0, all.1.0)
agrees-first opening state (Inter f g e) all = (all.0, all.1.0)

-- the job over its premises
pub job-fits : (opening : Opening) (history : History) (lists : List (List Row)) (w : ℕ) (next : Next) (task : Task) (first second : Option Premise) (job : Job)
    → IsOpening opening → IsLegal opening history → IsListsOf opening.program (after opening history) lists → IsNextOf opening (after opening history) next task
    → ArePremisesOf opening (after opening history) next.instance first second
    → job.program.now ≡ opening.program → job.worker ≡ w → job.instance ≡ next.instance → job.home ≡ next.home → job.epoch.0 ≡ task.epoch
    → job.first ≡ first → job.second ≡ second → job.target.value ≡ set_at lists next.home.0 → IsTaskJob opening (after opening history) w next job
job-fits opening history lists w next task first second job is legal is_lists of are program_is worker_is instance_is home_is epoch_is first_is second_is target_is =
    let state = after opening history in
    let program = opening.program in
    let Fits : Premise → Type 0 = λ p. IsPremiseOf opening state p.id p in
    let agree = AllByRecursion-weaken Fits (λ (p : Premise). PremiseAgrees opening state (Some p)) (λ p fits. fits.agrees) (premises_of are.instance) are.fit in
    let found = AllByRecursion-weaken Fits (λ (p : Premise). fact_at state.live p.id.0 ≡ Some (fact_of program p.fact)) (λ p fits. fits.agrees.0) (premises_of are.instance) are.fit in
    let fit = AllByRecursion-weaken Fits (IsPremise program) (λ p fits. fits.fits) (premises_of are.instance) are.fit in
    let leads : target_of program (map_instance (at_home program) are.instance) ≡ Some task.home =
    sym (led-by program state.live are.instance found) ∙ ap (target_among program state.live) (are.ids_are ∙ sym of.instance_is) ∙ of.pending.leads in
    let there : AllByRecursion (λ (p : Premise). IsHomeOf program (premise_says program p).home) (premises_of are.instance) =
    AllByRecursion-weaken (IsPremise program) (λ (p : Premise). IsHomeOf program (at_home program p)) (λ p fits. home-numbered program p.fact.home.0 (at_home program p) (home-of program p.fact.home.0 fits.has_home)) (premises_of are.instance) fit in
    let (given, is_case, target) = targets-have-cases program (map_instance (premise_says program) are.instance) task.home
    (all-unmap (λ (s : Statement). IsHomeOf program s.home) (premise_says program) are.instance there)
    (ap (target_of program) (map-map (premise_says program) (λ s. Statement.home s) are.instance) ∙ leads) in
    let number : at_number (homes program) job.home.0 ≡ Some task.home = ap (λ h. at_number (homes program) (HomeNo.0 h)) home_is ∙ of.home_is in
    let list : state.sets task.home ≡ set_at lists next.home.0 = is_lists.each next.home.0 task.home of.home_is in
    let named : home_numbered program job.home.0 ≡ task.home = ap (λ o. unwrap_or o (AtLocation 0 0)) number in
    let both = agrees-first opening state are.instance agree in (
      task,
      of,
      record {
        program_is = program_is;
        worker_is = worker_is;
        is_of = record { instance_is = ap instance_of instance_is ∙ sym of.instance_is; home_is = number; epoch_is = epoch_is };
        fits = (
          given,
          record {
            instance = are.instance;
            instance_is = record {
              ids_are = are.ids_are ∙ ap instance_of (sym instance_is);
              first_is = first_is ∙ are.first_is;
              second_is = second_is ∙ are.second_is;
            };
            is_case = is_case;
            premises_are = fit;
            home_is = number ∙ ap (λ h. Some h) (sym target);
            target_is = subst (λ h. IsSetOf program h job.target.value) (sym target) (subst (IsSetOf program task.home) (list ∙ sym target_is) (legal-sets opening history is legal task.home));
          },
        );
        agrees = record {
          first = subst (PremiseAgrees opening state) (sym (first_is ∙ are.first_is)) both.0;
          second = subst (PremiseAgrees opening state) (sym (second_is ∙ are.second_is)) both.1;
          target = target_is ∙ sym list ∙ ap state.sets (sym named);
        };
      },
    )

-- ---- what is live is known

has-fact : (live : List KeptFact) (id : ℕ) → has_id live id ≡ true → (fact : Fact) × (fact_at live id ≡ Some fact)
has-fact [] id e = cc
has-fact (f ∷ live) id e = elim (tells (f.id == id)) [
  | inl hit ↦ let at : fact_at (f ∷ live) id ≡ Some f.fact = rw hit refl in (f.fact, at)
  | inr miss ↦
      let rest : has_id (f ∷ live) id ≡ has_id live id = rw miss refl in
      let at : fact_at (f ∷ live) id ≡ fact_at live id = rw miss refl in
      let (fact, is) = has-fact live id (sym rest ∙ e) in
      (fact, at ∙ is)
]

pub live-there : (program : Program) (limit : ℕ) (state : State) (table : FactTable) (id : ℕ) → IsFullTable program limit state table → has_id state.live id ≡ true
    → (f : LiveFact) × (live_at table.live id ≡ Some f)
live-there program limit state table id is has =
    let (fact, at) = has-fact state.live id has in
    by-option (live_at table.live id) refl fact
    (sym (ap (λ live. fact_at live id) is.table_is.live_is ∙ fact-newest program 0 table.live id is.table_is.is_table.ids_rise) ∙ at)
  where
    by-option : (o : Option LiveFact) → live_at table.live id ≡ o → (fact : Fact) → option_map (λ f. fact_of program (LiveFact.fact f)) (live_at table.live id) ≡ Some fact
        → (f : LiveFact) × (live_at table.live id ≡ Some f)
    by-option None at fact said = let wrong : None ≡ Some fact = sym (ap (option_map (λ f. fact_of program (LiveFact.fact f))) at) ∙ said in cc
    by-option (Some f) at fact said = (f, at)

pub known-there : (live : List LiveFact) (id : ℕ) (fact : StoredFact) (kept : StoredInstance) → option_map {U = StoredFact × StoredInstance} (λ f. (LiveFact.fact f, LiveFact.kept f)) (live_at live id) ≡ Some (fact, kept)
    → (f : LiveFact) × (live_at live id ≡ Some f) × (f.fact ≡ fact)
known-there live id fact kept e = by-option (live_at live id) refl e
  where
    by-option : (o : Option LiveFact) → live_at live id ≡ o → option_map {U = StoredFact × StoredInstance} (λ f. (LiveFact.fact f, LiveFact.kept f)) o ≡ Some (fact, kept) → (f : LiveFact) × (live_at live id ≡ Some f) × (f.fact ≡ fact)
    by-option None at is = cc
    by-option (Some f) at is =
        let one : StoredFact × StoredInstance = (f.fact, f.kept) in
        let other : StoredFact × StoredInstance = (fact, kept) in
        let both : one ≡ other = cc in (f, at, ap (λ (p : StoredFact × StoredInstance). p.0) both)

pub known-home : (table : FactTable) (id : ℕ) (f : LiveFact) → IsTable table → live_at table.live id ≡ Some f → HasHome table.homes f.fact.home.0
known-home table id f is at = all-contained (λ (g : LiveFact). HasHome table.homes g.fact.home.0) table.live f is.at_homes (live_at-found table.live id f at).0

pub some-none : {A : Type 0} (x : A) → Some x ≡ None → ⊥
some-none x e = cc

pub own-id : (opening : Opening) (state : State) (id : FactId) (premise : Premise) → IsPremiseOf opening state id premise → IsPremiseOf opening state premise.id premise
own-id opening state id premise is = record { id_is = refl; agrees = is.agrees; fits = is.fits }

pub number-within : {A : Type 0} (xs : List A) (n : ℕ) (x : A) → at_number xs n ≡ Some x → (0 < n) × (n ≤ length xs)
number-within xs zero x e = cc
number-within xs (suc k) x e = let lt = slice_get_within xs k x e in (omega arith, omega (arith, lt))

pub known-live : (program : Program) (limit : ℕ) (state : State) (table : FactTable) (id : ℕ) (fact : StoredFact) (kept : StoredInstance) → IsFullTable program limit state table
    → option_map {U = StoredFact × StoredInstance} (λ f. (LiveFact.fact f, LiveFact.kept f)) (live_at table.live id) ≡ Some (fact, kept) → has_id state.live id ≡ true
known-live program limit state table id fact kept is e =
    let (f, at, same) = known-there table.live id fact kept e in
    let found : fact_at state.live id ≡ Some (fact_of program f.fact) =
    ap (λ live. fact_at live id) is.table_is.live_is ∙ fact-newest program 0 table.live id is.table_is.is_table.ids_rise ∙ ap (option_map (λ (g : LiveFact). fact_of program g.fact)) at in
    let (g, there, g_id, g_fact) = fact_at-found state.live id (fact_of program f.fact) found in
    ap (has_id state.live) (sym g_id) ∙ has_id-at state.live g there

pub unknown-live : (program : Program) (limit : ℕ) (state : State) (table : FactTable) (id : ℕ) → IsFullTable program limit state table
    → option_map {U = StoredFact × StoredInstance} (λ f. (LiveFact.fact f, LiveFact.kept f)) (live_at table.live id) ≡ None → has_id state.live id ≡ false
unknown-live program limit state table id is e = elim (tells (has_id state.live id)) [
  | inl has ↦
      let (f, at) = live-there program limit state table id is has in
      let pair : LiveFact → StoredFact × StoredInstance = λ g. (LiveFact.fact g, LiveFact.kept g) in
      absurd (some-none (pair f) (sym (ap (option_map pair) at) ∙ e))
  | inr miss ↦ miss
]
