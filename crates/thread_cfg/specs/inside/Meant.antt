-- What stands for frames, expressions and events in the program.
use Rattle.std.specs.Prelude.{◌≡◌, List, [], ◌∷◌}
use Rattle.c_check.specs.Plan.{Arithmetic, postfix}
use Rattle.c_check.specs.Items.{over_temporaries}
use Rattle.thread_cfg.specs.declared.frame.Frame.{Frame as StoredFrame}
use Rattle.thread_cfg.specs.declared.event.Expression.{Expression}
use Rattle.thread_cfg.specs.declared.event.Expression.TheVariants as expression
use Rattle.thread_cfg.specs.declared.event.Event.{Event as StoredEvent}
use Rattle.thread_cfg.specs.declared.event.Event.TheVariants as stored
use Rattle.thread_cfg.specs.Source.{Frame}
use Rattle.thread_cfg.specs.Path.{Event}

-- a thread among all columns, as it is held
abbrev pub frame_of : StoredFrame → Frame
frame_of frame = record { thread = frame.thread.0; first = frame.first; variables = frame.variables }

-- The expression is this one, as a plan writes it; where it is cut, over temporaries in place of what all threads share.
abbrev pub Means : Expression → Arithmetic → Type 0
Means (expression.Number k) a = a ≡ Arithmetic.Number k
Means (expression.Value v) a = a ≡ Arithmetic.Value v
Means (expression.Whole operations) a = operations.now ≡ postfix a
Means (expression.Cut operations next) a = (read : Arithmetic) × (operations.now ≡ postfix read) × (a ≡ over_temporaries next read)

-- The event is this one.
abbrev pub StandsFor : StoredEvent → Event → Type 0
StandsFor (stored.Requires from r left right) (Event.Requires place s a b) = (place ≡ from) × (s ≡ r) × Means left a × Means right b
StandsFor (stored.Sets place v value) (Event.Sets at w e) = (at ≡ place) × (w ≡ v) × Means value e
StandsFor (stored.SetsAny v) (Event.SetsAny w) = w ≡ v
StandsFor _ _ = ⊥

-- The events are these, in order.
abbrev pub StandFor : List StoredEvent → List Event → Type 0
StandFor [] [] = Unit {0}
StandFor (s ∷ ss) (e ∷ es) = StandsFor s e × StandFor ss es
StandFor _ _ = ⊥
