-- What looks at a core tell.
use Rattle.std.proofs.Common.{◌≡◌, ◌≢◌, Bool, true, false, Option, Some, None, refl, sym, ◌∙◌}
use Rattle.std.specs.Prelude.{ℕ, IsTrue}
use Rattle.core_steps.specs.State.{State, Reason, IsFree}
use Rattle.core_steps.proofs.Tests.{true-false}

pub no-stop : (state : State) (b : Bool) → b ≡ false → (state.stop ≢ None → IsTrue b) → state.stop ≡ None
no-stop state b fails stops = by-stop state.stop refl
  where
    by-stop : (o : Option Reason) → state.stop ≡ o → state.stop ≡ None
    by-stop None is = is
    by-stop (Some reason) is = true-false b (stops (λ none. let wrong : Some reason ≡ None = sym is ∙ none in cc)) fails

pub not-free : (state : State) (w : ℕ) (b : Bool) → b ≡ false → (IsFree state w → IsTrue b) → ¬ IsFree state w
not-free state w b fails passes free = true-false b (passes free) fails

pub is-free : (state : State) (w : ℕ) (b : Bool) → b ≡ true → (IsTrue b → IsFree state w) → IsFree state w
is-free state w b passes free = free passes
