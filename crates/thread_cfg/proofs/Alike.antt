-- Runs of a program that has the same steps as a text go step by step as interleavings of the text do, and fail where these do.
use Rattle.std.proofs.Common.{◌≡◌, ◌↔◌, ℕ, zero, suc, ◌+◌, ◌-◌, ◌<◌, ◌≤◌, ℤ, pos, List, [], ◌∷◌, ◌++◌, length, map, take, Option, Some, option_map, refl, sym, ap, ap₂, subst, arith, slice_get, ◌∙◌}
use Rattle.c_tree.specs.Plain as plain
use Rattle.c_check.specs.Check.{function_items}
use Rattle.c_check.specs.Program.{created_of}
use Rattle.transition_formula.specs.Program.{IsThreadOf, Program, Thread, at_number}
use Rattle.transition_formula.specs.Step.{IsInitial}
use Rattle.transition_formula.specs.Run.{Fails, IsFailing, IsRun, LeadTo, Leads, Run, RunStep}
use Rattle.transition_formula.proofs.Runs.{failing-runs, failing-states, runs-end}
use Rattle.thread_cfg.specs.Source.{Standing}
use Rattle.thread_cfg.specs.Threads.{Running, threads_running}
use Rattle.thread_cfg.specs.Columns.{program_column, value_columns}
use Rattle.thread_cfg.specs.SameSteps.{Lefts, standing_as, state_of}
use Rattle.thread_cfg.specs.Interleaving.{Configuration, InterleaveTo, Interleaves, Interleaving, IsInterleaving, SourceStep, TextFails, ThreadFails, ThreadReachesFailure}
use Rattle.thread_cfg.specs.Telling.{GoAlike, HasInterleaving, HasRun, RunsTellInterleavings, StepsBy, Tells, TellsBehind}
use Rattle.thread_cfg.proofs.Interleavings.{IsKnown, IsStep, StepsOn, counter-is, failed-as, initial-columns, left_at, program-steps, same-at, start-tells, start_with, text-steps}
use Rattle.thread_cfg.proofs.Fronts.{counter-get, get-all, get-below, numbered-get, pos-same}
use Rattle.thread_cfg.proofs.Starts.{initial-starts, ones, starts-initial}
use Rattle.thread_cfg.proofs.Numbered.{some-same}

module _ (tree : plain.Tree) (program : Program) (known : IsKnown tree program) where
  abbrev lefts : ℕ → Lefts
  lefts = left_at tree program known

  abbrev Shows : Configuration → List ℤ → Type 0
  Shows = Tells tree lefts

  -- ---- step by step

  abbrev Behind : List ℤ → List RunStep → Configuration → List SourceStep → ℕ → Type 0
  Behind state steps c done k = TellsBehind tree program lefts (record { start = state; steps = steps }) (record { start = c; steps = done }) k

  -- the steps of a run from a state and those of an interleaving from a configuration lead together to what is last
  record Together (state : List ℤ) (steps : List RunStep) (last : List ℤ) (c : Configuration) (done : List SourceStep) (end : Configuration) : Type 0 where
    leads : LeadTo program state steps last
    goes : InterleaveTo tree c done end
    ends : Shows end last
    threads : map (λ (s : RunStep). s.thread) steps ≡ map (λ (s : SourceStep). s.thread) done
    at_each : (k : ℕ) → k ≤ length steps → Behind state steps c done k

  -- behind no steps the run is where it began
  behind-none : (state : List ℤ) (steps : List RunStep) (c : Configuration) (done : List SourceStep) → Shows c state → Behind state steps c done 0
  behind-none state steps c done t = record { state = state; configuration = c; run_leads = refl; interleaving_leads = refl; tells = t }

  -- one step more of both, in front
  behind-more : (state next : List ℤ) (taken : RunStep) (steps : List RunStep) (c d : Configuration) (one : SourceStep) (done : List SourceStep) (k : ℕ)
      → Leads program taken state next → Interleaves tree one c d → Behind next steps d done k → Behind state (taken ∷ steps) c (one ∷ done) (suc k)
  behind-more state next taken steps c d one done k leads goes b = record {
    state = b.state;
    configuration = b.configuration;
    run_leads = (next, leads, b.run_leads);
    interleaving_leads = (d, goes, b.interleaving_leads);
    tells = b.tells;
  }

  -- no steps go together
  together-none : (state : List ℤ) (c : Configuration) → Shows c state → Together state [] state c [] c
  together-none state c t = record { leads = refl; goes = refl; ends = t; threads = refl; at_each = by }
    where
      by : (k : ℕ) → k ≤ 0 → Behind state [] c [] k
      by zero h = behind-none state [] c [] t
      by (suc k) h = absurd (omega (arith, h))

  -- one step more of both goes together
  together-more : (state next : List ℤ) (taken : RunStep) (steps : List RunStep) (last : List ℤ) (c d : Configuration) (one : SourceStep) (done : List SourceStep) (end : Configuration)
      → Shows c state → taken.thread ≡ one.thread → Leads program taken state next → Interleaves tree one c d → Together next steps last d done end
      → Together state (taken ∷ steps) last c (one ∷ done) end
  together-more state next taken steps last c d one done end t same leads goes more = record {
    leads = (next, leads, more.leads);
    goes = (d, goes, more.goes);
    ends = more.ends;
    threads = ap₂ (λ (x : ℕ) (xs : List ℕ). x ∷ xs) same more.threads;
    at_each = by;
  }
    where
      by : (k : ℕ) → k ≤ length (taken ∷ steps) → Behind state (taken ∷ steps) c (one ∷ done) k
      by zero h = behind-none state (taken ∷ steps) c (one ∷ done) t
      by (suc k) h = behind-more state next taken steps c d one done k leads goes (more.at_each k (omega (arith, h)))

  -- the steps of a run go as some steps of the text
  run-goes : (steps : List RunStep) (state last : List ℤ) (c : Configuration) → Shows c state → LeadTo program state steps last
      → (done : List SourceStep) × (end : Configuration) × Together state steps last c done end
  run-goes [] state last c t lead = ([], c, subst (λ s. Together state [] s c [] c) lead (together-none state c t))
  run-goes (taken ∷ steps) state last c t (next, leads, lead) =
      let on = program-steps tree program known c taken state next t leads in
      let more = run-goes steps next last on.next on.tells lead in
      (on.done ∷ more.0, more.1, together-more state next taken steps last c on.next on.done more.0 more.1 t on.same_thread leads on.interleaves more.2)

  -- the steps of the text go as some steps of a run
  text-goes : (done : List SourceStep) (c end : Configuration) (state : List ℤ) → Shows c state → InterleaveTo tree c done end
      → (steps : List RunStep) × (last : List ℤ) × Together state steps last c done end
  text-goes [] c end state t lead = ([], state, subst (λ d. Together state [] state c [] d) lead (together-none state c t))
  text-goes (one ∷ done) c end state t (next, goes, lead) =
      let by = text-steps tree program known c next one state t goes in
      let more = text-goes done next end by.after by.tells lead in
      (by.taken ∷ more.0, more.1, together-more state by.after by.taken more.0 more.1 c next one done end t by.same_thread by.leads goes more.2)

  -- ---- from the start

  -- an interleaving that goes as the run does, and what its last configuration tells
  record Told (run : Run) (last : List ℤ) : Type 0 where
    interleaving : Interleaving
    end : Configuration
    is_interleaving : IsInterleaving tree interleaving end
    ends : Shows end last
    alike : GoAlike tree program lefts run interleaving

  -- of a run there is an interleaving that goes as it does
  of-run : (run : Run) (last : List ℤ) → IsRun program run last → Told run last
  unfolding start_with
  of-run run last is =
      let starts = initial-starts (value_columns tree) 1 (created_of tree) run.start ((initial-columns tree program known run.start).0 is.initial) in
      let c : Configuration = start_with tree program known starts.values in
      let t : Shows c run.start = subst (Shows c) (sym starts.state_is) (start-tells tree program known starts.values starts.may_start) in
      let goes = run-goes run.steps run.start last c t is.lead in
      record {
        interleaving = record { start = c; steps = goes.0 };
        end = goes.1;
        is_interleaving = record { starts = record { values_start = starts.may_start; standings_are = refl }; lead = goes.2.goes };
        ends = goes.2.ends;
        alike = record { threads_are = goes.2.threads; at_each = λ k h. copied k (goes.2.at_each k h) };
      }
    where
      copied : {c : Configuration} {done : List SourceStep} → (k : ℕ) → Behind run.start run.steps c done k → TellsBehind tree program lefts run (record { start = c; steps = done }) k
      copied k b = record { state = b.state; configuration = b.configuration; run_leads = b.run_leads; interleaving_leads = b.interleaving_leads; tells = b.tells }

  -- a run that goes as the interleaving does, and what its last state tells
  record Reached (interleaving : Interleaving) (end : Configuration) : Type 0 where
    run : Run
    last : List ℤ
    is_run : IsRun program run last
    ends : Shows end last
    alike : GoAlike tree program lefts run interleaving

  -- of an interleaving there is a run that goes as it does
  of-interleaving : (interleaving : Interleaving) (end : Configuration) → IsInterleaving tree interleaving end → Reached interleaving end
  unfolding start_with
  of-interleaving interleaving end is =
      let vs = interleaving.start.values in
      let state : List ℤ = vs ++ map pos (ones (created_of tree)) in
      let goes = text-goes interleaving.steps interleaving.start end state (shown is.starts.standings_are is.starts.values_start) is.lead in
      record {
        run = record { start = state; steps = goes.0 };
        last = goes.1;
        is_run = record {
          initial = (initial-columns tree program known state).1 (starts-initial (value_columns tree) 1 (created_of tree) vs is.starts.values_start);
          lead = goes.2.leads;
        };
        ends = goes.2.ends;
        alike = record { threads_are = goes.2.threads; at_each = λ k h. copied k (goes.2.at_each k h) };
      }
    where
      shown : interleaving.start.standings ≡ map (λ (t : Running). Standing.Doing (function_items t.function)) (threads_running tree)
          → IsInitial (map program_column (value_columns tree)) interleaving.start.values → Shows interleaving.start (interleaving.start.values ++ map pos (ones (created_of tree)))
      shown e h =
          subst (λ ss. Shows (record { values = interleaving.start.values; standings = ss }) (interleaving.start.values ++ map pos (ones (created_of tree)))) (sym e)
          (start-tells tree program known interleaving.start.values h)

      copied : {state : List ℤ} {steps : List RunStep} → (k : ℕ) → Behind state steps interleaving.start interleaving.steps k
          → TellsBehind tree program lefts (record { start = state; steps = steps }) interleaving k
      copied k b = record { state = b.state; configuration = b.configuration; run_leads = b.run_leads; interleaving_leads = b.interleaving_leads; tells = b.tells }

  -- ---- failing

  -- a thread is at location 0 exactly where it has failed
  failed-at-zero : (c : Configuration) (state : List ℤ) (t : Shows c state) (i l : ℕ) → at_number t.locations i ≡ Some l
      → (l ≡ 0) ↔ (at_number c.standings i ≡ Some Standing.Failed)
  failed-at-zero c state t i l at = (to_failed, to_zero)
    where
      place : (1 ≤ i) × (slice_get t.locations (i - 1) ≡ Some l)
      place = numbered-get t.locations i l at

      below : i - 1 < length t.locations
      below = get-below t.locations (i - 1) l place.1

      running : (x : Running) × (at_number (threads_running tree) i ≡ Some x)
      running = get-all (threads_running tree) i place.0 (omega (arith, below, place.0, t.locations_length))

      stands : (x : Standing) × (at_number c.standings i ≡ Some x)
      stands = get-all c.standings i place.0 (omega (arith, below, place.0, t.locations_length, t.standings_length))

      alike : StepsBy tree program (lefts i) running.0
      alike = same-at tree program known i running.0 running.1

      to_failed : l ≡ 0 → at_number c.standings i ≡ Some Standing.Failed
      to_failed zero_is =
          let left_is : lefts i 0 ≡ Some (standing_as stands.0) = subst (λ m. lefts i m ≡ Some (standing_as stands.0)) zero_is (t.stand i l stands.0 at stands.1) in
          let failed : standing_as stands.0 ≡ Standing.Failed =
          some-same (standing_as stands.0) Standing.Failed (sym left_is ∙ subst (λ f. f 0 ≡ Some Standing.Failed) alike.left_is alike.steps.fails) in
          stands.1 ∙ ap Some (failed-as stands.0 failed)

      to_zero : at_number c.standings i ≡ Some Standing.Failed → l ≡ 0
      to_zero failed = alike.steps.fails_alone l (subst (λ x. x l ≡ Some Standing.Failed) (sym alike.left_is) (t.stand i l Standing.Failed at failed))

  -- the counter of a thread has its location
  counter-holds : (c : Configuration) (state : List ℤ) (t : Shows c state) (i l : ℕ) (thread : Thread) → IsThreadOf program i thread
      → at_number t.locations i ≡ Some l → slice_get state thread.counter ≡ Some (pos l)
  counter-holds c state t i l thread thread_is at =
      let counter = counter-is tree program known i thread thread_is in
      let place : length c.values + (i - 1) ≡ thread.counter = omega (arith, counter.0, t.values_length) in
      subst (λ x. slice_get x thread.counter ≡ Some (pos l)) (sym t.state_is)
      (subst (λ m. slice_get (state_of c.values t.locations) m ≡ Some (pos l)) place
      (counter-get c.values t.locations (i - 1) ∙ ap (option_map pos) (numbered-get t.locations i l at).1))

  -- where a run brings a thread to location 0, an interleaving makes it fail
  at-zero : (i : ℕ) → ThreadReachesFailure program i → ThreadFails tree i
  at-zero i z =
      let told = of-run z.run z.last z.is_run in
      let counter = counter-is tree program known i z.thread z.thread_is in
      let l = get-all told.ends.locations i counter.1 (omega (arith, counter.2, told.ends.locations_length)) in
      let holds = counter-holds told.end z.last told.ends i l.0 z.thread z.thread_is l.1 in
      let zero_is : l.0 ≡ 0 = pos-same l.0 0 (some-same (pos l.0) (pos 0) (sym holds ∙ z.fails)) in
      record {
        interleaving = told.interleaving;
        last = told.end;
        is_interleaving = told.is_interleaving;
        failed = (failed-at-zero told.end z.last told.ends i l.0 l.1).0 zero_is;
      }

  -- where an interleaving makes a thread fail, a run brings it to location 0
  zero-at : (i : ℕ) → ThreadFails tree i → ThreadReachesFailure program i
  zero-at i f =
      let r = of-interleaving f.interleaving f.last f.is_interleaving in
      let t = r.ends in
      let at = numbered-get f.last.standings i Standing.Failed f.failed in
      let below = get-below f.last.standings (i - 1) Standing.Failed at.1 in
      let running = get-all (threads_running tree) i at.0 (omega (arith, below, at.0, t.standings_length)) in
      let l = get-all t.locations i at.0 (omega (arith, below, at.0, t.standings_length, t.locations_length)) in
      let alike = same-at tree program known i running.0 running.1 in
      let zero_is : l.0 ≡ 0 = (failed-at-zero f.last r.last t i l.0 l.1).1 f.failed in
      let thread_is : IsThreadOf program i alike.steps.thread =
      subst (λ m. at_number program.threads m ≡ Some alike.steps.thread) (known.same.numbered_so i running.0 running.1) alike.steps.thread_is in
      record {
        run = r.run;
        last = r.last;
        is_run = r.is_run;
        thread = alike.steps.thread;
        thread_is = thread_is;
        fails = subst (λ m. slice_get r.last alike.steps.thread.counter ≡ Some (pos m)) zero_is (counter-holds f.last r.last t i l.0 alike.steps.thread thread_is l.1);
      }

  -- a run of the program brings a thread to location 0 exactly where an interleaving of the text makes it fail
  pub threads-fail-alike : (i : ℕ) → ThreadReachesFailure program i ↔ ThreadFails tree i
  threads-fail-alike i = (at-zero i, zero-at i)

  -- a run of the program fails exactly where an interleaving of the text does
  pub fails-alike : ((run : Run) × (last : List ℤ) × IsRun program run last × Fails program run) ↔ TextFails tree
  fails-alike = (to_text, to_program)
    where
      to_text : (run : Run) × (last : List ℤ) × IsRun program run last × Fails program run → TextFails tree
      to_text f =
          let s = failing-runs program f.0 f.1 f.2 f.3 in
          let run = (runs-end program s.0).0 s.1 in
          let t = at-zero s.2.i (record { run = run.0; last = s.0; is_run = run.1; thread = s.2.thread; thread_is = s.2.thread_is; fails = s.2.fails }) in
          record { interleaving = t.interleaving; last = t.last; is_interleaving = t.is_interleaving; fails = record { i = s.2.i; failed = t.failed } }

      to_program : TextFails tree → (run : Run) × (last : List ℤ) × IsRun program run last × Fails program run
      to_program f =
          let z = zero-at f.fails.i (record { interleaving = f.interleaving; last = f.last; is_interleaving = f.is_interleaving; failed = f.fails.failed }) in
          (z.run, z.last, z.is_run, failing-states program z.run z.last z.is_run (record { i = f.fails.i; thread = z.thread; thread_is = z.thread_is; fails = z.fails }))

  -- each run goes step by step as an interleaving does, and the other way round
  pub runs-tell : RunsTellInterleavings tree program
  runs-tell = record {
    left = lefts;
    steps = same-at tree program known;
    of_run = λ run last is. let told = of-run run last is in
        record { interleaving = told.interleaving; last = told.end; is_interleaving = told.is_interleaving; alike = told.alike };
    of_interleaving = λ interleaving end is. let reached = of-interleaving interleaving end is in
        record { run = reached.run; last = reached.last; is_run = reached.is_run; alike = reached.alike };
    failed = failed-at-zero;
  }
