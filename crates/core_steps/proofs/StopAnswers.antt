-- What a stop answers.
use Rattle.std.proofs.Common.{◌≡◌, ◌≢◌, ℕ, [], ◌∷◌, None, refl, sym, ap, subst, ◌∙◌, inl, inr}
use Rattle.transition_formula.specs.Program.{Program}
use Rattle.derivation_tree.specs.Kept.{Leaving, OfJob, OfTree}
use Rattle.core_steps.specs.declared.event.Reason.{Reason as StoredReason}
use Rattle.core_steps.specs.declared.event.Reason.TheVariants as reason
use Rattle.core_steps.specs.declared.answers.StopAnswer.TheVariants as told
use Rattle.core_steps.specs.declared.standing.Standing.TheVariants as standing
use Rattle.core_steps.specs.Event.{Stop, StaleStop}
use Rattle.core_steps.specs.Allowed.{IsReason}
use Rattle.core_steps.specs.Ends.{Recorded, StaleLeft, NotHeld, Stopped, IsNamed, IsStale, IsStopAnswer, stopped, drops, other, disagrees, stale, records}
use Rattle.core_steps.specs.Ends as ends
use Rattle.core_steps.specs.Stored.{reason_of}
use Rattle.core_steps.specs.Course.{Course, opening_of, state_of, with_events}
use Rattle.core_steps.specs.Stops.{Stops, ReasonAgrees, named_of}
use Rattle.core_steps.specs.inside.Standing.{DropsWhatIsHeld, StandsSo}

-- what a reason names is that reason
named-reason : (program : Program) (why : StoredReason) → ends.reason_of (named_of program why) ≡ reason_of why
named-reason program (reason.Facts n) = refl
named-reason program (reason.Jobs n) = refl
named-reason program (reason.Refinements n) = refl
named-reason program (reason.Predicates home) = refl
named-reason program (reason.Left left) = by-left left
  where
    by-left : (l : Leaving) → ends.reason_of (named_of program (reason.Left l)) ≡ reason_of (reason.Left l)
    by-left (OfJob job kind) = refl
    by-left (OfTree kept left) = refl
named-reason program (reason.Unsafe schedule) = refl
named-reason program reason.Memory = refl

pub stop-dropped : (old : Course) (w : ℕ) (why : StoredReason) (later : Course) → (state_of old).stop ≢ None → DropsWhatIsHeld old w later → Stops old w why told.Stopped later
stop-dropped old w why later stop (inl (free, course)) = record { answer = Stopped; events = []; is_answer = stopped stop free; tells = tt; course = course }
stop-dropped old w why later stop (inr (not_free, course)) = record { answer = Stopped; events = StaleStop w ∷ []; is_answer = drops stop not_free; tells = tt; course = course }

pub stop-foreign : (old : Course) (w : ℕ) (why : StoredReason) → (state_of old).stop ≡ None
    → StandsSo (IsNamed (state_of old) w (named_of old.program why)) (IsStale (state_of old) (named_of old.program why)) (ReasonAgrees (opening_of old) (state_of old) why) standing.Foreign
    → Stops old w why told.NotHeld old
stop-foreign old w why none (inl not) = record { answer = NotHeld; events = []; is_answer = other none not; tells = tt; course = refl }
stop-foreign old w why none (inr (named, present, differs)) = record { answer = NotHeld; events = []; is_answer = disagrees none named present differs; tells = tt; course = refl }

pub stop-stale : (old : Course) (w : ℕ) (why : StoredReason) (later : Course) → (state_of old).stop ≡ None
    → StandsSo (IsNamed (state_of old) w (named_of old.program why)) (IsStale (state_of old) (named_of old.program why)) (ReasonAgrees (opening_of old) (state_of old) why) standing.Stale
    → later ≡ with_events old (StaleStop w ∷ []) → Stops old w why told.Stale later
stop-stale old w why later none (named, gone) course = record { answer = StaleLeft; events = StaleStop w ∷ []; is_answer = stale none named gone; tells = tt; course = course }

pub stop-records : (old : Course) (w : ℕ) (why : StoredReason) (later : Course) → (state_of old).stop ≡ None
    → StandsSo (IsNamed (state_of old) w (named_of old.program why)) (IsStale (state_of old) (named_of old.program why)) (ReasonAgrees (opening_of old) (state_of old) why) standing.Holds
    → IsReason (opening_of old) (state_of old) w (reason_of why) → later ≡ with_events old (Stop w (reason_of why) ∷ []) → Stops old w why told.Recorded later
stop-records old w why later none (named, present, agrees) is_reason course =
    let same = named-reason old.program why in
    record {
      answer = Recorded;
      events = Stop w (ends.reason_of (named_of old.program why)) ∷ [];
      is_answer = records none named agrees (subst (IsReason (opening_of old) (state_of old) w) (sym same) is_reason);
      tells = tt;
      course = course ∙ ap (λ r. with_events old (Stop w r ∷ [])) (sym same);
    }
