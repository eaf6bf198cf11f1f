-- The texts of the columns of the first two threads.
use Rattle.std.proofs.Common.{◌≡◌, ℕ, ◌≤◌, List, ◌∷◌, codes, refl, arith}
use Rattle.std.specs.Fmt.{digits}
use Rattle.thr_base.specs.ColumnText.{IsOwnName, IsOwnText, counter_text}

-- A name behind `t1.` is a text of the first thread's own columns.
pub first-own : (threads : ℕ) (name : List ℕ) → 1 ≤ threads → IsOwnName name → IsOwnText threads 1 (116 ∷ 49 ∷ 46 ∷ name)
unfolding digits
first-own threads name many is = record { thread_is = (omega arith, many); name = name; name_is = is; text_is = refl }

-- A name behind `t2.` is a text of the second thread's own columns.
pub second-own : (threads : ℕ) (name : List ℕ) → 2 ≤ threads → IsOwnName name → IsOwnText threads 2 (116 ∷ 50 ∷ 46 ∷ name)
unfolding digits
second-own threads name many is = record { thread_is = (omega arith, many); name = name; name_is = is; text_is = refl }

-- The text of the first thread's counter.
pub first-counter : 116 ∷ 49 ∷ 46 ∷ codes "$pc" ≡ counter_text 1
unfolding digits
first-counter = refl

-- The text of the second thread's counter.
pub second-counter : 116 ∷ 50 ∷ 46 ∷ codes "$pc" ≡ counter_text 2
unfolding digits
second-counter = refl
