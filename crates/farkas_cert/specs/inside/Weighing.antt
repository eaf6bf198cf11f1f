-- How the columns are weighed one after another.
use Rattle.std.specs.Prelude.{ℕ, zero, suc, ℤ, pos, List, Bool, true, false, ◌&&◌, Option, Some, None, Result, Ok, Err, int_lt}
use Rattle.std.specs.Ordering.{int_eq}
use Rattle.farkas_cert.specs.inside.Columns.{column_from, earlier}
use Rattle.farkas_cert.specs.declared.columns.Weighed.{Weighed}
use Rattle.farkas_cert.specs.declared.answers.CertAnswer.{CertAnswer}
use Rattle.farkas_cert.specs.declared.answers.CertAnswer.TheVariants.{Proves, Fails, Overflow}

-- with one more column
abbrev pub weighed_with : Weighed → ℕ → Result ℤ ℕ → Weighed
weighed_with seen column (Ok sum) = record seen { cancels = seen.cancels && int_eq sum (pos 0) }
weighed_with seen column (Err row) = record seen { overflow = earlier seen.overflow row column }

-- the first columns, of a number
abbrev pub weighed_to : ℕ → List (ℕ × List ℤ) → Weighed
weighed_to zero terms = record { overflow = None; cancels = true }
weighed_to (suc column) terms = weighed_with (weighed_to column terms) column (column_from (pos 0) column terms)

-- the sum of the bounds is negative
abbrev pub is_below_zero : Result ℤ ℕ → Bool
is_below_zero (Ok bound) = int_lt bound (pos 0)
is_below_zero (Err row) = false

abbrev pub answer_of : Option (ℕ × ℕ) → Bool → CertAnswer
answer_of (Some place) contradicts = Overflow place.0 place.1
answer_of None true = Proves
answer_of None false = Fails

abbrev pub answer_of_weights : Weighed → ℕ → Result ℤ ℕ → CertAnswer
answer_of_weights seen columns bound = answer_of (weighed_with seen columns bound).overflow (seen.cancels && is_below_zero bound)
