-- What has ended stays so: a clear run, and one that stopped.
use Rattle.std.proofs.Common.{◌≡◌, ◌≢◌, ◌≤◌, ◌+◌, ℕ, not, List, [], ◌∷◌, ◌++◌, Option, Some, None, sym, ap, subst, ◌∙◌, inl, inr, arith}
use Rattle.std.specs.Prelude.{◌==◌}
use Rattle.std.specs.List.{Contains}
use Rattle.horn_rules.specs.Home.{Home}
use Rattle.horn_rules.specs.Fact.{Fact}
use Rattle.horn_rules.specs.Instance.{Instance}
use Rattle.horn_rules.proofs.Lists.{first-or-later, contains-nothing, all-contained}
use Rattle.derivation_tree.specs.Facts.{KeptFact, target_among}
use Rattle.core_steps.specs.State.{Opening, State, Task, Claimed, held_by, claims_without, holds_without}
use Rattle.core_steps.specs.Event.{Event, Take, New, Same, Nothing, StalePublish, Claim, Refine, StaleRefine, Stop, StaleStop, History}
use Rattle.core_steps.specs.Predicates.{is_changed}
use Rattle.core_steps.specs.Pending.{IsClear}
use Rattle.core_steps.specs.After.{with_job, with_published, with_fact, without_job, effect, after}
use Rattle.core_steps.specs.Allowed.{Suits}
use Rattle.core_steps.specs.Legal.{IsLegal}
use Rattle.core_steps.specs.Laws.{HasEnded, EndsStay}
use Rattle.core_steps.specs.inside.Quiet.{IsFailing}
use Rattle.core_steps.proofs.Tests.{filter-from}
use Rattle.core_steps.proofs.Live.{Falls, one-id, fact_at-found, found-fact_at, has_id-from, remaining-from}
use Rattle.core_steps.proofs.Keeps.{Keeps}
use Rattle.core_steps.proofs.Refines.{keeps-legal}
use Rattle.core_steps.proofs.Workers.{claimed_by-is, by_worker-found}
use Rattle.core_steps.proofs.Counts.{claimer}

-- ---- claims are of facts that fail

-- Each claim names an id that was given, of a fact at location 0 if it is live.
abbrev ClaimsFail : State → Type 0
ClaimsFail state = (claim : Claimed) → Contains state.claims claim → (claim.root ≤ state.given) × ((f : KeptFact) → Contains state.live f → f.id ≡ claim.root → IsFailing f.fact.home)

fewer-fail : (state later : State) → ((claim : Claimed) → Contains later.claims claim → Contains state.claims claim) → ((f : KeptFact) → Contains later.live f → Contains state.live f) → state.given ≤ later.given
    → ClaimsFail state → ClaimsFail later
fewer-fail state later claims live given fail claim there =
    let (low, fails) = fail claim (claims claim there) in
    (omega (arith, low, given), λ f among is. fails f (live f among) is)

kept-claims : (w : ℕ) (claims : List Claimed) (claim : Claimed) → Contains (claims_without w claims) claim → Contains claims claim
kept-claims w claims claim there = (filter-from (λ (c : Claimed). not (c.worker == w)) claims claim there).0

fail-job : (w : ℕ) (instance : Instance ℕ) (state : State) (home : Option Home) → ClaimsFail state → ClaimsFail (with_job w instance state home)
fail-job w instance state None fail = fail
fail-job w instance state (Some home) fail = fewer-fail state (with_job w instance state (Some home)) (λ claim there. there) (λ f there. there) (omega arith) fail

fail-effect : (opening : Opening) (state : State) (event : Event) → Keeps opening state → Suits opening state event → ClaimsFail state → ClaimsFail (effect opening state event)
fail-effect opening state (Take w instance) keeps suits fail = fail-job w instance state (target_among opening.program state.live instance) fail
fail-effect opening state (New w id fact) keeps suits fail =
    let publish = suits.1 in
    subst (λ o. ClaimsFail (without_job w (with_fact id fact (with_published state o) o))) (sym publish.posts.held) (newer publish.task publish.id_is)
  where
    newer : (task : Task) → id ≡ state.given + 1 → ClaimsFail (without_job w (with_fact id fact (with_published state (Some task)) (Some task)))
    newer task id_is claim there =
        let (low, fails) = fail claim there in
        let new : KeptFact = record { id = id; fact = fact; kept = task.instance } in (
          omega (arith, low, id_is),
          λ f among is. elim (first-or-later new f state.live among) [
            | inl same ↦ let at : id ≡ f.id = ap (λ h. KeptFact.id h) same in absurd (omega (arith, at, is, low, id_is))
            | inr before ↦ fails f before is
          ],
        )
fail-effect opening state (Same w id) keeps suits fail =
    subst (λ o. ClaimsFail (without_job w (with_published state o))) (sym suits.1.posts.held)
    (fewer-fail state (without_job w (with_published state (Some suits.1.task))) (λ claim there. there) (λ f there. there) (omega arith) fail)
fail-effect opening state (Nothing w) keeps suits fail =
    subst (λ o. ClaimsFail (without_job w (with_published state o))) (sym suits.1.posts.held)
    (fewer-fail state (without_job w (with_published state (Some suits.1.task))) (λ claim there. there) (λ f there. there) (omega arith) fail)
fail-effect opening state (StalePublish w) keeps suits fail = fewer-fail state (effect opening state (StalePublish w)) (λ claim there. there) (λ f there. there) (omega arith) fail
fail-effect opening state (Claim w id) keeps suits fail = λ claim there.
    let is = suits.1 in
    let made : Claimed = record { worker = w; root = id } in
    elim (first-or-later made claim state.claims there) [
      | inr before ↦ fail claim before
      | inl same ↦
          let root : id ≡ claim.root = ap (λ c. Claimed.root c) same in
          let (g, among, g_id, g_fact) = fact_at-found state.live id is.fact is.is_live in
          let old = all-contained (λ (f : KeptFact). f.id ≤ state.given) state.live g keeps.old among in (
            omega (arith, old, g_id, root),
            λ f inside f_id.
                let one : f ≡ g = one-id state.live f g keeps.falls inside among (f_id ∙ sym root ∙ sym g_id) in
                (is.i, ap (λ (h : KeptFact). h.fact.home) one ∙ ap (λ h. Fact.home h) g_fact ∙ is.fails),
          )
    ]
fail-effect opening state (Refine w scope predicates) keeps suits fail =
    fewer-fail state (effect opening state (Refine w scope predicates)) (kept-claims w state.claims) (λ f there. remaining-from (is_changed predicates) state.live f there) (omega arith) fail
fail-effect opening state (StaleRefine w) keeps suits fail = fewer-fail state (effect opening state (StaleRefine w)) (kept-claims w state.claims) (λ f there. there) (omega arith) fail
fail-effect opening state (Stop w reason) keeps suits fail = fewer-fail state (effect opening state (Stop w reason)) (kept-claims w state.claims) (λ f there. there) (omega arith) fail
fail-effect opening state (StaleStop w) keeps suits fail = fewer-fail state (effect opening state (StaleStop w)) (kept-claims w state.claims) (λ f there. there) (omega arith) fail

claims-fail : (opening : Opening) (history : History) → IsLegal opening history → ClaimsFail (after opening history)
claims-fail opening [] legal = λ claim there. absurd (contains-nothing claim there)
claims-fail opening (event ∷ earlier) legal =
    fail-effect opening (after opening earlier) event (keeps-legal opening earlier legal.1) legal.0.suits (claims-fail opening earlier legal.1)

-- ---- what has ended

-- who holds nothing drops no job
holds-none : (state : State) (w : ℕ) (task : Task) → state.holds ≡ [] → held_by state.holds w ≡ Some task → ⊥
holds-none state w task none held = let wrong : None ≡ Some task = sym (ap (λ l. held_by l w) none) ∙ held in cc

-- a clear run stays clear where a claim goes
clear-fewer : (opening : Opening) (state : State) (claims : List Claimed) → IsClear opening state → IsClear opening (record state { claims = claims })
clear-fewer opening state claims clear = record {
  quiet = record {
    none_pending = λ task p.
        clear.quiet.none_pending task (record { has_kind = p.has_kind; leads = p.leads; present = p.present; not_done = p.not_done; not_held = p.not_held });
    none_held = clear.quiet.none_held;
    no_stop = clear.quiet.no_stop;
  };
  none_failing = clear.none_failing;
}

clear-dropped : (opening : Opening) (state : State) (w : ℕ) → IsClear opening state → IsClear opening (record state { holds = holds_without w state.holds })
clear-dropped opening state w clear = subst (λ l. IsClear opening (record state { holds = l })) (clear.quiet.none_held ∙ sym (ap (holds_without w) clear.quiet.none_held))
    (record { quiet = record { none_pending = clear.quiet.none_pending; none_held = clear.quiet.none_held; no_stop = clear.quiet.no_stop }; none_failing = clear.none_failing })

clear-effect : (opening : Opening) (state : State) (event : Event) → Falls state.live → ClaimsFail state → Suits opening state event → IsClear opening state → HasEnded opening (effect opening state event)
clear-effect opening state (Take w instance) falls fail suits clear = absurd (clear.quiet.none_pending suits.1.task suits.1.pending)
clear-effect opening state (New w id fact) falls fail suits clear = absurd (holds-none state w suits.1.task clear.quiet.none_held suits.1.posts.held)
clear-effect opening state (Same w id) falls fail suits clear = absurd (holds-none state w suits.1.task clear.quiet.none_held suits.1.posts.held)
clear-effect opening state (Nothing w) falls fail suits clear = absurd (holds-none state w suits.1.task clear.quiet.none_held suits.1.posts.held)
clear-effect opening state (StalePublish w) falls fail suits clear = absurd (holds-none state w suits.task clear.quiet.none_held suits.held)
clear-effect opening state (Claim w id) falls fail suits clear = absurd (clear.none_failing id suits.1.i suits.1.fact suits.1.is_live suits.1.fails)
clear-effect opening state (Refine w scope predicates) falls fail suits clear =
    let claims = suits.1.refutes.claims in
    let id = suits.1.refutes.id in
    let (claim, there, worker, root) = by_worker-found claimer (λ (c : Claimed). c.root) state.claims w id (sym (claimed_by-is state.claims w) ∙ claims.claimed) in
    let (f, among, f_id) = has_id-from state.live id claims.is_live in
    let fails = (fail claim there).1 f among (f_id ∙ sym root) in
    absurd (clear.none_failing f.id fails.0 f.fact (found-fact_at state.live f falls among) fails.1)
clear-effect opening state (StaleRefine w) falls fail suits clear = inl (clear-fewer opening state (claims_without w state.claims) clear)
clear-effect opening state (Stop w reason) falls fail suits clear = inr (λ none. let wrong : Some reason ≡ None = none in cc)
clear-effect opening state (StaleStop w) falls fail suits clear =
    inl (clear-fewer opening (record state { holds = holds_without w state.holds }) (claims_without w state.claims) (clear-dropped opening state w clear))

stopped-effect : (opening : Opening) (state : State) (event : Event) → Suits opening state event → state.stop ≢ None → (effect opening state event).stop ≢ None
stopped-effect opening state (Take w instance) suits stop = absurd (stop suits.0)
stopped-effect opening state (New w id fact) suits stop = absurd (stop suits.0)
stopped-effect opening state (Same w id) suits stop = absurd (stop suits.0)
stopped-effect opening state (Nothing w) suits stop = absurd (stop suits.0)
stopped-effect opening state (StalePublish w) suits stop = stop
stopped-effect opening state (Claim w id) suits stop = absurd (stop suits.0)
stopped-effect opening state (Refine w scope predicates) suits stop = absurd (stop suits.0)
stopped-effect opening state (StaleRefine w) suits stop = stop
stopped-effect opening state (Stop w reason) suits stop = absurd (stop suits.0)
stopped-effect opening state (StaleStop w) suits stop = stop

pub ends-stay : EndsStay
ends-stay opening [] earlier legal ended = ended
ends-stay opening (event ∷ later) earlier legal ended =
    let before = ends-stay opening later earlier legal.1 ended in
    let state = after opening (later ++ earlier) in
    elim before [
      | inl clear ↦ clear-effect opening state event (keeps-legal opening (later ++ earlier) legal.1).falls (claims-fail opening (later ++ earlier) legal.1) legal.0.suits clear
      | inr stop ↦ inr (stopped-effect opening state event legal.0.suits stop)
    ]
