-- The texts of columns.
use Rattle.std.specs.Prelude.{◌≡◌, ◌<◌, ◌≤◌, ◌||◌, ◌&&◌, ◌==◌, ◌++◌, ℕ, pos, Bool, true, false, List, [], ◌∷◌, Option, Some, None, codes}
use Rattle.std.specs.List.{list_all}
use Rattle.std.specs.Char.{is_ascii_alphabetic, is_ascii_digit}
use Rattle.thr_base.specs.Number.{Fits, number_text}

-- what a C name begins with
abbrev pub is_name_start : ℕ → Bool
is_name_start b = is_ascii_alphabetic b || b == 95

-- a C name: letters, digits and _, with no digit in front
abbrev pub is_c_name : List ℕ → Bool
is_c_name [] = false
is_c_name (b ∷ bytes) = is_name_start b && list_all (λ c. is_name_start c || is_ascii_digit c) bytes

-- The number is that of one of so many threads.
abbrev pub IsThreadNumber : ℕ → ℕ → Type 0
IsThreadNumber threads i = (0 < i) × (i ≤ threads)

-- The text of a column that all threads share: the name of a variable or a lock, or whether a thread was started or is done.
pub data IsSharedText (threads : ℕ) : List ℕ → Type 0 where
  variable : (name : List ℕ) → is_c_name name ≡ true → IsSharedText threads name
  started : (i : ℕ) → IsThreadNumber threads i → IsSharedText threads (codes "$run" ++ number_text (pos i))
  done : (i : ℕ) → IsThreadNumber threads i → IsSharedText threads (codes "$done" ++ number_text (pos i))

-- What names a column among those of its thread: the name of a local, from its second declaration on with the number of the
-- declaration; the number of a temporary; or the counter's own name.
pub data IsOwnName : List ℕ → Type 0 where
  local : (name : List ℕ) → is_c_name name ≡ true → IsOwnName name
  declared_again : (name : List ℕ) (n : ℕ) → is_c_name name ≡ true → 2 ≤ n → Fits (pos n) → IsOwnName (name ++ (codes "#" ++ number_text (pos n)))
  temporary : (k : ℕ) → 0 < k → Fits (pos k) → IsOwnName (codes "$" ++ number_text (pos k))
  counter : IsOwnName (codes "$pc")

-- the text of a column of thread i
abbrev pub own_text : ℕ → List ℕ → List ℕ
own_text i name = codes "t" ++ (number_text (pos i) ++ (codes "." ++ name))

-- the text of the counter of thread i
abbrev pub counter_text : ℕ → List ℕ
counter_text i = own_text i (codes "$pc")

-- The text of thread i's own column.
pub record IsOwnText (threads i : ℕ) (text : List ℕ) : Type 0 where
  pub thread_is : IsThreadNumber threads i
  pub name : List ℕ
  pub name_is : IsOwnName name
  pub text_is : text ≡ own_text i name

-- The text is that of a column with this owner, in a program of so many threads.
abbrev pub IsColumnText : ℕ → Option ℕ → List ℕ → Type 0
IsColumnText threads None text = IsSharedText threads text
IsColumnText threads (Some i) text = IsOwnText threads i text
