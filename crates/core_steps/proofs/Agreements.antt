-- A job that agrees with the run, and what is posted of it.
use Rattle.std.proofs.Common.{◌≡◌, ◌≢◌, ◌⊎◌, ◌<◌, ◌≤◌, ℕ, true, false, List, [], ◌∷◌, ◌++◌, Option, Some, None, refl, sym, ap, ap₂, subst, ◌∙◌, inl, inr, arith}
use Rattle.std.specs.Prelude.{IsSome, option_map, unwrap_or}
use Rattle.std.specs.List.{AllByRecursion, Contains}
use Rattle.thr_base.specs.Held.{positions}
use Rattle.thr_base.specs.declared.names.FactId.{FactId}
use Rattle.thr_base.specs.declared.names.HomeNo.{HomeNo}
use Rattle.thr_base.specs.declared.names.Epoch.{Epoch}
use Rattle.thr_base.specs.declared.names.Fact.{Fact as StoredFact}
use Rattle.thr_base.specs.declared.names.Instance.{Instance as StoredInstance}
use Rattle.thr_base.specs.declared.names.Instance.TheVariants as stored
use Rattle.thr_base.proofs.Positions.{positions-tell}
use Rattle.lin_rows.specs.Row.{Row}
use Rattle.fact_table.specs.declared.live_fact.LiveFact.{LiveFact}
use Rattle.fact_table.specs.Live.{ArePremisesLive, HasFact, IsLive, Lacks, live_at}
use Rattle.fact_table.specs.Table.{FactTable, HasHome}
use Rattle.transition_formula.specs.Program.{Program, at_number}
use Rattle.horn_rules.specs.declared.job.Premise.{Premise}
use Rattle.horn_rules.specs.declared.job.Job.{Job}
use Rattle.horn_rules.specs.Home.{Home, State as AtLocation, homes}
use Rattle.horn_rules.specs.Fact.{Fact, Statement, statement_of, atoms_at}
use Rattle.horn_rules.specs.Instance.{Instance, Init, Own, Guar, Env, Inter, first_of, second_of, premises_of, map_instance}
use Rattle.horn_rules.specs.Case.{Case, IsCaseOf}
use Rattle.horn_rules.specs.Post.{IsFactOf, AreEntailed}
use Rattle.std.proofs.Math.Pow.{pow_mono}
use Rattle.predicate_sets.specs.HomeSet.{IsHomeSet}
use Rattle.horn_rules.specs.Job.{ComesTo, IsJob, IsPremise, premise_says}
use Rattle.core_steps.specs.inside.Agreeing.{PremiseFits}
use Rattle.horn_rules.specs.Laws.{IsWord}
use Rattle.horn_rules.specs.Stored.{HasItsHome, fact_of, home_numbered, instance_of}
use Rattle.horn_rules.proofs.ByNumber.{Contains-append}
use Rattle.horn_rules.proofs.Lists.{Contains-first, Contains-later, first-or-later, contains-nothing, all-contained, Contains-unmap}
use Rattle.horn_rules.proofs.StoredSets.{facts-tell, homes-distinct}
use Rattle.derivation_tree.specs.Facts.{KeptFact, fact_at}
use Rattle.core_steps.specs.State.{Opening, State, Task, held_by, IsWorker}
use Rattle.core_steps.specs.Withdrawn.{has_id}
use Rattle.core_steps.specs.Pending.{is_present}
use Rattle.core_steps.specs.Allowed.{IsOver, IsLiveFact, Posts}
use Rattle.core_steps.specs.Readers.{kept_of, newest}
use Rattle.core_steps.specs.Jobs.{PremiseAgrees, JobAgrees}
use Rattle.core_steps.specs.Publishes.{job_task}
use Rattle.core_steps.specs.declared.held.Held.{Held}
use Rattle.core_steps.specs.inside.Parts.{IsFullTable, task_of}
use Rattle.core_steps.proofs.KeptEvents.{one-instance}
use Rattle.core_steps.proofs.Live.{Falls, fact_at-found, found-fact_at, has_id-at}
use Rattle.core_steps.proofs.Workers.{held_by-is, by_worker-found}
use Rattle.core_steps.proofs.Counts.{Counts, holder}
use Rattle.core_steps.proofs.PremiseFacts.{home-of, live-there, live_at-found, fact-home}
use Rattle.core_steps.proofs.TableFacts.{newest-cons, fact-newest}
use Rattle.core_steps.proofs.Tests.{true-false}

-- ---- the case of a job that agrees

agrees-each : (opening : Opening) (state : State) (instance : Instance Premise) → PremiseAgrees opening state (first_of instance) → PremiseAgrees opening state (second_of instance)
    → AllByRecursion (λ (p : Premise). PremiseAgrees opening state (Some p)) (premises_of instance)
agrees-each opening state (Init i) one other = tt
agrees-each opening state (Own f e) one other = (one, tt)
agrees-each opening state (Guar f e) one other = (one, tt)
agrees-each opening state (Env f t) one other = (one, (other, tt))
agrees-each opening state (Inter f g e) one other = (one, (other, tt))

-- the live fact behind a premise
record IsBehind (opening : Opening) (state : State) (premise : Premise) : Type 0 where
  fact : KeptFact
  there : Contains state.live fact
  id_is : fact.id ≡ premise.id.0
  says : statement_of state.sets fact.fact ≡ premise_says opening.program premise

behind : (opening : Opening) (state : State) (premise : Premise) → PremiseAgrees opening state (Some premise) → IsBehind opening state premise
behind opening state premise agrees =
    let stored = fact_of opening.program premise.fact in
    let (f, there, id_is, fact_is) = fact_at-found state.live premise.id.0 stored agrees.0 in
    let said : statement_of state.sets stored ≡ premise_says opening.program premise =
    ap (λ (atoms : List Row). let s : Statement = record { home = stored.home; atoms = atoms_at atoms (positions premise.fact.held) } in s) (sym agrees.1) in
    record { fact = f; there = there; id_is = id_is; says = ap (statement_of state.sets) fact_is ∙ said }

-- the instance over live facts
record AreBehind (opening : Opening) (state : State) (instance : Instance Premise) : Type 0 where
  premises : Instance KeptFact
  ids_are : map_instance (λ (f : KeptFact). f.id) premises ≡ map_instance (λ (p : Premise). p.id.0) instance
  are_live : AllByRecursion (Contains state.live) (premises_of premises)
  say : map_instance (λ (f : KeptFact). statement_of state.sets f.fact) premises ≡ map_instance (premise_says opening.program) instance

all-behind : (opening : Opening) (state : State) (instance : Instance Premise) → AllByRecursion (λ (p : Premise). PremiseAgrees opening state (Some p)) (premises_of instance) → AreBehind opening state instance
all-behind opening state (Init i) all = record { premises = Init i; ids_are = refl; are_live = tt; say = refl }
all-behind opening state (Own f e) all =
    let one = behind opening state f all.0 in
    record { premises = Own one.fact e; ids_are = ap (λ n. Own n e) one.id_is; are_live = (one.there, tt); say = ap (λ s. Own s e) one.says }
all-behind opening state (Guar f e) all =
    let one = behind opening state f all.0 in
    record { premises = Guar one.fact e; ids_are = ap (λ n. Guar n e) one.id_is; are_live = (one.there, tt); say = ap (λ s. Guar s e) one.says }
all-behind opening state (Env f t) all =
    let one = behind opening state f all.0 in
    let other = behind opening state t all.1.0 in
    record {
      premises = Env one.fact other.fact;
      ids_are = ap₂ (λ m n. Env m n) one.id_is other.id_is;
      are_live = (one.there, (other.there, tt));
      say = ap₂ (λ s u. Env s u) one.says other.says;
    }
all-behind opening state (Inter f g e) all =
    let one = behind opening state f all.0 in
    let other = behind opening state g all.1.0 in
    record {
      premises = Inter one.fact other.fact e;
      ids_are = ap₂ (λ m n. Inter m n e) one.id_is other.id_is;
      are_live = (one.there, (other.there, tt));
      say = ap₂ (λ s u. Inter s u e) one.says other.says;
    }

pub comes-over : (opening : Opening) (state : State) (job : Job) (given : Case) → JobAgrees opening state job → ComesTo opening.program job given
    → IsOver opening.program state.sets state.live (instance_of job.instance) given
comes-over opening state job given agrees comes =
    let is = comes.instance_is in
    let first = subst (PremiseAgrees opening state) is.first_is agrees.first in
    let second = subst (PremiseAgrees opening state) is.second_is agrees.second in
    let all = all-behind opening state comes.instance (agrees-each opening state comes.instance first second) in
    record {
      premises = all.premises;
      ids_are = all.ids_are ∙ is.ids_are;
      are_live = all.are_live;
      is_case = subst (λ i. IsCaseOf opening.program i given) (sym all.say) comes.is_case;
    }

pub job-posts : (opening : Opening) (state : State) (job : Job) (given : Case) → JobAgrees opening state job → ComesTo opening.program job given
    → held_by state.holds job.worker ≡ Some (job_task opening.program job) → is_present state (job_task opening.program job) ≡ true
    → Posts opening state job.worker (job_task opening.program job) given
job-posts opening state job given agrees comes held present = record { held = held; present = present; is_over = comes-over opening state job given agrees comes }

pub job-fact : (opening : Opening) (state : State) (job : Job) (given : Case) (held : ℕ) → JobAgrees opening state job → ComesTo opening.program job given
    → AreEntailed given job.target.value (positions held) → IsFactOf state.sets given (record { home = home_numbered opening.program job.home.0; held = positions held })
job-fact opening state job given held agrees comes entailed =
    let home : home_numbered opening.program job.home.0 ≡ given.target = ap (λ o. unwrap_or o (AtLocation 0 0)) comes.home_is in
    record { at_target = home; entailed = subst (λ atoms. AreEntailed given atoms (positions held)) (agrees.target ∙ ap state.sets home) entailed }

-- ---- who holds is a worker

pub held-worker : (opening : Opening) (state : State) (w : ℕ) (task : Task) → Counts opening state → held_by state.holds w ≡ Some task → IsWorker opening w
held-worker opening state w task counts held =
    let (hold, there, worker, same) = by_worker-found holder (λ hold. hold.task) state.holds w task (sym (held_by-is state.holds w) ∙ held) in
    let within = all-contained (λ hold. (1 ≤ holder hold) × (holder hold ≤ opening.workers)) state.holds hold counts.holders there in
    record { from_1 = omega (arith, within.0, worker); within = omega (arith, within.1, worker) }

-- ---- the facts of a table and those of a state

pub newest-there : (program : Program) (live : List LiveFact) (g : KeptFact) → Contains (newest program live) g → (f : LiveFact) × Contains live f × (kept_of program f ≡ g)
newest-there program [] g there = absurd (contains-nothing g there)
newest-there program (f ∷ live) g there = elim (Contains-append (newest program live) (kept_of program f ∷ []) g (subst (λ xs. Contains xs g) (newest-cons program f live) there)) [
  | inl front ↦ let (found, is, same) = newest-there program live g front in (found, Contains-later f found live is, same)
  | inr last ↦ elim (first-or-later (kept_of program f) g [] last) [
    | inl same ↦ (f, Contains-first f live, same)
    | inr nothing ↦ absurd (contains-nothing g nothing)
  ]
]

Contains-front : {A : Type 0} (xs ys : List A) (x : A) → Contains xs x → Contains (xs ++ ys) x
Contains-front [] ys x there = absurd (contains-nothing x there)
Contains-front (z ∷ zs) ys x there = elim (first-or-later z x zs there) [
  | inl same ↦ subst (Contains (z ∷ (zs ++ ys))) same (Contains-first z (zs ++ ys))
  | inr later ↦ Contains-later z x (zs ++ ys) (Contains-front zs ys x later)
]

Contains-last : {A : Type 0} (xs : List A) (x : A) → Contains (xs ++ x ∷ []) x
Contains-last [] x = Contains-first x []
Contains-last (z ∷ zs) x = Contains-later z x (zs ++ x ∷ []) (Contains-last zs x)

pub there-newest : (program : Program) (live : List LiveFact) (f : LiveFact) → Contains live f → Contains (newest program live) (kept_of program f)
there-newest program [] f there = absurd (contains-nothing f there)
there-newest program (g ∷ live) f there = subst (λ xs. Contains xs (kept_of program f)) (sym (newest-cons program g live)) (elim (first-or-later g f live there) [
  | inl same ↦ subst (λ h. Contains (newest program live ++ kept_of program g ∷ []) (kept_of program h)) same (Contains-last (newest program live) (kept_of program g))
  | inr later ↦ Contains-front (newest program live) (kept_of program g ∷ []) (kept_of program f) (there-newest program live f later)
])

-- a fact that the table lacks is not live
pub lacks-live : (program : Program) (limit : ℕ) (state : State) (table : FactTable) (fact : StoredFact) → IsFullTable program limit state table → Lacks table.live fact → IsWord fact → HasItsHome program fact
    → ¬ IsLiveFact state (fact_of program fact)
lacks-live program limit state table fact is lacks word home live =
    let (g, there, same) = Contains-unmap (λ (h : KeptFact). h.fact) state.live (fact_of program fact) live in
    let (f, found, kept) = newest-there program table.live g (subst (λ xs. Contains xs g) is.table_is.live_is there) in
    let word_f = all-contained (λ (h : LiveFact). IsWord h.fact) table.live f is.words found in
    let home_f = fact-home program table f.fact is.table_is.homes_are (all-contained (λ (h : LiveFact). HasHome table.homes h.fact.home.0) table.live f is.table_is.is_table.at_homes found) in
    let told : f.fact ≡ fact = facts-tell positions-tell program f.fact fact word_f word home_f home (ap (λ (h : KeptFact). h.fact) kept ∙ same) in
    all-contained (λ (h : LiveFact). h.fact ≢ fact) table.live f lacks found told

-- and one that it has is found by its id
pub has-live : (program : Program) (limit : ℕ) (state : State) (table : FactTable) (id : FactId) (fact : StoredFact) → IsFullTable program limit state table → Falls state.live → HasFact table.live id fact
    → fact_at state.live id.0 ≡ Some (fact_of program fact)
has-live program limit state table id fact is falls (f, there, id_is, fact_is) =
    let live : Contains state.live (kept_of program f) = subst (λ xs. Contains xs (kept_of program f)) (sym is.table_is.live_is) (there-newest program table.live f there) in
    ap (λ (i : FactId). fact_at state.live i.0) (sym id_is) ∙ found-fact_at state.live (kept_of program f) falls live ∙ ap (λ x. Some (fact_of program x)) fact_is

-- a live fact stands in the table
stored-live : (program : Program) (limit : ℕ) (state : State) (table : FactTable) (id : FactId) → IsFullTable program limit state table → has_id state.live id.0 ≡ true → IsLive table.live id
stored-live program limit state table id is has =
    let (f, at) = live-there program limit state table id.0 is has in
    let (there, same) = live_at-found table.live id.0 f at in
    (f, there, same)

-- premises that are live stand in the table
pub premises-stored : (program : Program) (limit : ℕ) (state : State) (table : FactTable) (instance : StoredInstance) → IsFullTable program limit state table
    → AllByRecursion (λ id. has_id state.live id ≡ true) (premises_of (instance_of instance)) → ArePremisesLive table.live instance
premises-stored program limit state table (stored.Init i) is all = tt
premises-stored program limit state table (stored.Own f e) is all = (stored-live program limit state table f is all.0, tt)
premises-stored program limit state table (stored.Guar f e) is all = (stored-live program limit state table f is all.0, tt)
premises-stored program limit state table (stored.Env f t) is all = (stored-live program limit state table f is all.0, (stored-live program limit state table t is all.1.0, tt))
premises-stored program limit state table (stored.Inter f g e) is all = (stored-live program limit state table f is all.0, (stored-live program limit state table g is all.1.0, tt))

-- ---- what is held

pub held-outside : (opening : Opening) (state : State) (w : ℕ) → Counts opening state → (w ≡ 0) ⊎ (opening.workers < w) → held_by state.holds w ≡ None
held-outside opening state w counts outside = by-held (held_by state.holds w) refl
  where
    by-held : (o : Option Task) → held_by state.holds w ≡ o → held_by state.holds w ≡ None
    by-held None is = is
    by-held (Some task) is =
        let worker = held-worker opening state w task counts is in
        elim outside [
          | inl none ↦ absurd (let low = worker.from_1 in omega (arith, none, low))
          | inr above ↦ absurd (let high = worker.within in omega (arith, above, high))
        ]

pub same-held : (program : Program) (held : Held) (job : Job) → (held.instance ≡ job.instance) × (held.home ≡ job.home) × (held.epoch ≡ job.epoch) → task_of program held ≡ job_task program job
same-held program held job (instance, home, epoch) =
    let made : Instance ℕ → Home → ℕ → Task = λ i h n. record { instance = i; home = h; epoch = n } in
    ap (λ i. made (instance_of i) (home_numbered program held.home.0) held.epoch.0) instance
    ∙ ap (λ h. made (instance_of job.instance) (home_numbered program (HomeNo.0 h)) held.epoch.0) home
    ∙ ap (λ n. made (instance_of job.instance) (home_numbered program job.home.0) (Epoch.0 n)) epoch

pub held-same : (program : Program) (held : Held) (job : Job) → IsSome (at_number (homes program) held.home.0) → IsSome (at_number (homes program) job.home.0)
    → Some (task_of program held) ≡ Some (job_task program job) → (held.instance ≡ job.instance) × (held.home ≡ job.home) × (held.epoch ≡ job.epoch)
held-same program held job there also both =
    let same : task_of program held ≡ job_task program job = cc in
    let one = home-of program held.home.0 there in
    let other = home-of program job.home.0 also in
    let number = homes-distinct program held.home.0 job.home.0 (home_numbered program job.home.0) (one ∙ ap (λ (t : Task). Some t.home) same) other in
    let home : ℕ → HomeNo = λ n. record { 0 = n } in
    let epoch : ℕ → Epoch = λ n. record { 0 = n } in
    (one-instance held.instance job.instance (ap (λ (t : Task). t.instance) same), ap home number, ap epoch (ap (λ (t : Task). t.epoch) same))

-- ---- premises that agree

pub known-fact : (program : Program) (limit : ℕ) (state : State) (table : FactTable) (id : ℕ) (f : LiveFact) → IsFullTable program limit state table → live_at table.live id ≡ Some f
    → fact_at state.live id ≡ Some (fact_of program f.fact)
known-fact program limit state table id f is at =
    ap (λ live. fact_at live id) is.table_is.live_is ∙ fact-newest program 0 table.live id is.table_is.is_table.ids_rise ∙ ap (option_map (λ (g : LiveFact). fact_of program g.fact)) at

pub not-known : (state : State) (id : ℕ) (fact : Fact) → has_id state.live id ≡ false → fact_at state.live id ≡ Some fact → ⊥
not-known state id fact miss at =
    let (g, there, g_id, g_fact) = fact_at-found state.live id fact at in
    true-false (has_id state.live id) (ap (has_id state.live) (sym g_id) ∙ has_id-at state.live g there) miss

pub premise-word : (program : Program) (premise : Premise) → IsPremise program premise → IsHomeSet premise.set.value → IsWord premise.fact
premise-word program premise is few =
    let most = pow_mono few.few in
    let within = is.held_within in
    omega (arith, most, within)

-- what stands for the same fact is the same
pub told-apart : (program : Program) (limit : ℕ) (state : State) (table : FactTable) (f : LiveFact) (premise : Premise) → IsFullTable program limit state table → Contains table.live f
    → IsPremise program premise → IsHomeSet premise.set.value → fact_of program f.fact ≡ fact_of program premise.fact → f.fact ≡ premise.fact
told-apart program limit state table f premise is there fits few same =
    let word_f = all-contained (λ (h : LiveFact). IsWord h.fact) table.live f is.words there in
    let home_f = fact-home program table f.fact is.table_is.homes_are (all-contained (λ (h : LiveFact). HasHome table.homes h.fact.home.0) table.live f is.table_is.is_table.at_homes there) in
    facts-tell positions-tell program f.fact premise.fact word_f (premise-word program premise fits few) home_f fits.has_home same

fits-each : (program : Program) (instance : Instance Premise) → AllByRecursion (IsPremise program) (premises_of instance) → PremiseFits program (first_of instance) × PremiseFits program (second_of instance)
fits-each program (Init i) all = (tt, tt)
fits-each program (Own f e) all = (all.0, tt)
fits-each program (Guar f e) all = (all.0, tt)
fits-each program (Env f t) all = (all.0, all.1.0)
fits-each program (Inter f g e) all = (all.0, all.1.0)

-- the premises of a job that fits do
pub job-premises : (program : Program) (job : Job) → IsJob program job → PremiseFits program job.first × PremiseFits program job.second
job-premises program job (given, comes) =
    let (one, other) = fits-each program comes.instance comes.premises_are in
    (subst (PremiseFits program) (sym comes.instance_is.first_is) one, subst (PremiseFits program) (sym comes.instance_is.second_is) other)

pub job-home : (program : Program) (job : Job) → IsJob program job → IsSome (at_number (homes program) job.home.0)
job-home program job (given, comes) = some (at_number (homes program) job.home.0) given.target comes.home_is
  where
    some : (o : Option Home) (home : Home) → o ≡ Some home → IsSome o
    some None home e = cc
    some (Some other) home e = refl
