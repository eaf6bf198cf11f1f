-- Refusals of program texts: the codes of the rules, which of two refusals comes first, and how answers name them.
use Rattle.std.specs.Prelude.{◌≡◌, ◌==◌, ◌||◌, ◌&&◌, ◌<◌, ◌⊎◌, ◌↔◌, ℕ, Bool, true, nat_lt, Result, Ok, Err}
use Rattle.thr_base.specs.declared.stops.Refusal.{Refusal}
use Rattle.thr_base.specs.declared.stops.Stop.{Stop}
use Rattle.thr_base.specs.declared.stops.Stop.TheVariants as stop
use Rattle.thr_base.specs.declared.stops.LineStop.{LineStop}
use Rattle.thr_base.specs.declared.stops.LineStop.TheVariants as line_stop

-- ---- the codes

-- The bytes are no text.
abbrev pub not_text : ℕ
not_text = 1

-- A byte begins no token.
abbrev pub bad_byte : ℕ
bad_byte = 2

-- A number does not fit, has a needless zero, or runs into a word.
abbrev pub bad_number : ℕ
bad_number = 3

-- The grammar has no such token there.
abbrev pub expected : ℕ
expected = 4

-- Nor has it, and the token is of a part of C that is left out.
abbrev pub not_in_profile : ℕ
not_in_profile = 5

-- A name is not declared with the kind of its use.
abbrev pub unknown_name : ℕ
unknown_name = 6

-- A name is declared twice in one scope.
abbrev pub twice_named : ℕ
twice_named = 7

-- A product has no constant side, or a comparison is used as a number.
abbrev pub not_linear : ℕ
not_linear = 8

-- `main` is not in its form, or a thread does what `main` alone may do.
abbrev pub bad_main : ℕ
bad_main = 9

-- `main` creates no thread.
abbrev pub no_thread : ℕ
no_thread = 10

-- A limit is passed.
abbrev pub too_many : ℕ
too_many = 11

-- A statement may not stand in an atomic block.
abbrev pub atomic_body : ℕ
atomic_body = 12

-- A number of a linear form or of its rows does not fit.
abbrev pub coefficient : ℕ
coefficient = 13

-- ---- which comes first

-- The refusal at the lower place comes first, at one place that with the lower code.
abbrev pub Precedes : Refusal → Refusal → Type 0
Precedes one other = (one.place < other.place) ⊎ ((one.place ≡ other.place) × (one.code < other.code))

-- the test of `Precedes`
abbrev pub comes_before : Refusal → Refusal → Bool
comes_before one other = nat_lt one.place other.place || (one.place == other.place && nat_lt one.code other.code)

-- It tests that.
abbrev pub OrderIsTested : Type 0
OrderIsTested = (one other : Refusal) → (comes_before one other ≡ true) ↔ Precedes one other

-- Of the rules and places where this is said, the refusal is the first.
pub record IsFirst (IsBroken : Refusal → Type 0) (refusal : Refusal) : Type 0 where
  pub broken : IsBroken refusal
  pub none_earlier : (other : Refusal) → IsBroken other → ¬ Precedes other refusal

-- ---- answers, want of memory aside

-- One fact of a value that was read, and one of a refusal; nothing is said where memory ran out.
abbrev pub MatchStop : {X : Type 0} → Result X Stop → (X → Type 0) → (Refusal → Type 0) → Type 0
MatchStop (Ok x) IsRead IsRefused = IsRead x
MatchStop (Err (stop.Refused refusal)) IsRead IsRefused = IsRefused refusal
MatchStop (Err stop.Memory) IsRead IsRefused = Unit {0}

-- The same of a text of lines, where the first bad line is named, from 1.
abbrev pub MatchLineStop : {X : Type 0} → Result X LineStop → (X → Type 0) → (ℕ → Type 0) → Type 0
MatchLineStop (Ok x) IsRead IsBad = IsRead x
MatchLineStop (Err (line_stop.BadLine line)) IsRead IsBad = IsBad line
MatchLineStop (Err line_stop.Memory) IsRead IsBad = Unit {0}

-- What was read, as `view` shows it, or the refusal is what a definition gives.
abbrev pub Gives : {X Y : Type 0} → (X → Y) → Result X Stop → Result Y Refusal → Type 0
Gives view answer given = MatchStop answer (λ x. given ≡ Ok (view x)) (λ refusal. given ≡ Err refusal)
