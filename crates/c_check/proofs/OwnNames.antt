-- The texts of threads' own columns, taken apart: the thread and the name, and in a name its mark.
use Rattle.std.proofs.Common.{◌≡◌, ◌≢◌, ℕ, zero, suc, ◌+◌, ◌<◌, ◌^◌, pos, Bool, true, false, ◌||◌, List, [], ◌∷◌, ◌++◌, codes, length, get_or, refl, sym, subst, ◌∙◌, arith}
use Rattle.std.specs.List.{AllByRecursion, list_all}
use Rattle.std.specs.Char.{IsAsciiDigit, is_ascii_digit}
use Rattle.std.proofs.lemmas.Bool.{and_parts, true≢false}
use Rattle.std.proofs.lemmas.Fmt.{signed_decimal_injective}
use Rattle.thr_base.specs.Number.{number_text}
use Rattle.thr_base.specs.ColumnText.{is_name_start, own_text}
use Rattle.thr_base.proofs.Numbers.{IsTextOf-number_text}
use Rattle.c_check.specs.Columns.{local_name}
use Rattle.c_check.specs.inside.Words.{IsWord}

-- ---- bytes in front of a mark and behind it
-- The bytes have not this mark.
abbrev pub IsUnmarked : ℕ → List ℕ → Type 0
IsUnmarked mark xs = AllByRecursion (λ b. b ≢ mark) xs

-- what stands in front of the first mark is one, and what stands behind it
split-same : (mark : ℕ) (xs ys us vs : List ℕ) → IsUnmarked mark xs → IsUnmarked mark us → xs ++ mark ∷ ys ≡ us ++ mark ∷ vs → (xs ≡ us) × (ys ≡ vs)
split-same mark [] ys [] vs p q e = (refl, cc)
split-same mark [] ys (u ∷ us) vs p q e = let same : u ≡ mark = cc in absurd (q.0 same)
split-same mark (x ∷ xs) ys [] vs p q e = let same : x ≡ mark = cc in absurd (p.0 same)
split-same mark (x ∷ xs) ys (u ∷ us) vs p q e =
    let first : x ≡ u = cc in
    let rest : xs ++ mark ∷ ys ≡ us ++ mark ∷ vs = cc in
    let parts = split-same mark xs ys us vs p.1 q.1 rest in
    let front : xs ≡ us = parts.0 in
    (cc, parts.1)

-- What has not the mark is nothing that has.
pub unmarked-differs : (mark : ℕ) (xs us vs : List ℕ) → IsUnmarked mark xs → xs ≢ us ++ mark ∷ vs
unmarked-differs mark [] [] vs p e = absurd cc
unmarked-differs mark [] (u ∷ us) vs p e = absurd cc
unmarked-differs mark (x ∷ xs) [] vs p e = let same : x ≡ mark = cc in p.0 same
unmarked-differs mark (x ∷ xs) (u ∷ us) vs p e = let rest : xs ≡ us ++ mark ∷ vs = cc in unmarked-differs mark xs us vs p.1 rest

-- ---- the bytes of numbers and words
-- what holds of digits holds of each byte of digits
each-from_digits : (P : ℕ → Type 0) → ((b : ℕ) → IsAsciiDigit b → P b) → (xs : List ℕ) → ((k : ℕ) → k < length xs → IsAsciiDigit (get_or xs k 0)) → AllByRecursion P xs
each-from_digits P gives [] digits = tt
each-from_digits P gives (x ∷ xs) digits = (gives x (digits 0 (omega arith)), each-from_digits P gives xs (λ k h. digits (suc k) (omega arith)))

-- a digit is no byte above the digits
digit-not : (mark b : ℕ) → 57 < mark → IsAsciiDigit b → b ≢ mark
digit-not mark b h digit e = omega (arith, digit)

-- and none below them
digit-not_below : (mark b : ℕ) → mark < 48 → IsAsciiDigit b → b ≢ mark
digit-not_below mark b h digit e = omega (arith, digit)

-- the text of a number has no byte below the digits
number-unmarked : (mark n : ℕ) → mark < 48 → n < 2 ^ 127 → IsUnmarked mark (number_text (pos n))
number-unmarked mark n h few = each-from_digits (λ b. b ≢ mark) (λ b digit. digit-not_below mark b h digit) (number_text (pos n)) (IsTextOf-number_text (pos n) few).digits

-- and none above them
number-unmarked_above : (mark n : ℕ) → 57 < mark → n < 2 ^ 127 → IsUnmarked mark (number_text (pos n))
number-unmarked_above mark n h few = each-from_digits (λ b. b ≢ mark) (λ b digit. digit-not mark b h digit) (number_text (pos n)) (IsTextOf-number_text (pos n) few).digits

-- what a name may go on with
abbrev goes_on : ℕ → Bool
goes_on b = is_name_start b || is_ascii_digit b

-- a byte that passes a test is none that does not
byte-not : (test : ℕ → Bool) (mark b : ℕ) → test mark ≡ false → test b ≡ true → b ≢ mark
byte-not test mark b fails passes e = true≢false (sym (subst (λ x. test x ≡ true) e passes) ∙ fails)

-- and so for all bytes
bytes-not : (test : ℕ → Bool) (mark : ℕ) (xs : List ℕ) → test mark ≡ false → list_all test xs ≡ true → IsUnmarked mark xs
bytes-not test mark [] fails passes = tt
bytes-not test mark (x ∷ xs) fails passes =
    let parts = and_parts (test x) (list_all test xs) passes in (byte-not test mark x fails parts.0, bytes-not test mark xs fails parts.1)

-- A word has no byte that is none of a name.
pub word-unmarked : (mark : ℕ) (name : List ℕ) → is_name_start mark ≡ false → goes_on mark ≡ false → IsWord name → IsUnmarked mark name
word-unmarked mark [] none fails is = absurd cc
word-unmarked mark (b ∷ bs) none fails is =
    let parts = and_parts (is_name_start b) (list_all (λ c. is_name_start c || is_ascii_digit c) bs) is in
    (byte-not is_name_start mark b none parts.0, bytes-not (λ c. is_name_start c || is_ascii_digit c) mark bs fails parts.1)

-- ---- threads
-- a number has one text
number-same : (m n : ℕ) → m < 2 ^ 62 → n < 2 ^ 62 → number_text (pos m) ≡ number_text (pos n) → m ≡ n
number-same m n few short e = let same : pos m ≡ pos n = signed_decimal_injective (pos m) (pos n) (omega arith) (omega arith) e in cc

-- A text of a thread's own is of one thread, and has one name.
pub own_text-same : (i j : ℕ) (a b : List ℕ) → i < 2 ^ 62 → j < 2 ^ 62 → own_text i a ≡ own_text j b → (i ≡ j) × (a ≡ b)
own_text-same i j a b few short e =
    let rest : number_text (pos i) ++ 46 ∷ a ≡ number_text (pos j) ++ 46 ∷ b = cc in
    let parts = split-same 46 (number_text (pos i)) a (number_text (pos j)) b (number-unmarked 46 i (omega arith) (omega arith)) (number-unmarked 46 j (omega arith) (omega arith)) rest in
    (number-same i j few short parts.0, parts.1)

-- A word is no text of a thread's own.
pub word-own_text : (name : List ℕ) (i : ℕ) (a : List ℕ) → IsWord name → name ≢ own_text i a
word-own_text name i a is = unmarked-differs 46 name (116 ∷ number_text (pos i)) a (word-unmarked 46 name refl refl is)

-- ---- names
-- A local's name says which declaration of which word it is.
pub local_name-same : (k l : ℕ) (a b : List ℕ) → k < 2 ^ 61 → l < 2 ^ 61 → IsWord a → IsWord b → local_name k a ≡ local_name l b → (a ≡ b) × (k ≡ l)
local_name-same zero zero a b few short p q e = (e, refl)
local_name-same zero (suc l) a b few short p q e = absurd (unmarked-differs 35 a b (number_text (pos (l + 2))) (word-unmarked 35 a refl refl p) e)
local_name-same (suc k) zero a b few short p q e = absurd (unmarked-differs 35 b a (number_text (pos (k + 2))) (word-unmarked 35 b refl refl q) (sym e))
local_name-same (suc k) (suc l) a b few short p q e =
    let parts = split-same 35 a (number_text (pos (k + 2))) b (number_text (pos (l + 2))) (word-unmarked 35 a refl refl p) (word-unmarked 35 b refl refl q) e in
    (parts.0, omega (arith, number-same (k + 2) (l + 2) (omega arith) (omega arith) parts.1))

-- No local's name begins as those of temporaries and counters do.
pub local_name-differs : (k : ℕ) (a rest : List ℕ) → IsWord a → local_name k a ≢ 36 ∷ rest
local_name-differs k [] rest is e = absurd cc
local_name-differs zero (b ∷ bs) rest is e = let same : b ≡ 36 = cc in (word-unmarked 36 (b ∷ bs) refl refl is).0 same
local_name-differs (suc k) (b ∷ bs) rest is e = let same : b ≡ 36 = cc in (word-unmarked 36 (b ∷ bs) refl refl is).0 same

-- A temporary's name says its number.
pub temporary-same : (m n : ℕ) → m < 2 ^ 62 → n < 2 ^ 62 → codes "$" ++ number_text (pos m) ≡ codes "$" ++ number_text (pos n) → m ≡ n
temporary-same m n few short e = let rest : number_text (pos m) ≡ number_text (pos n) = cc in number-same m n few short rest

-- and is no counter's
pub temporary-counter : (m : ℕ) → m < 2 ^ 62 → codes "$" ++ number_text (pos m) ≢ codes "$pc"
temporary-counter m few e =
    let rest : number_text (pos m) ≡ codes "pc" = cc in
    (subst (IsUnmarked 112) rest (number-unmarked_above 112 m (omega arith) (omega arith))).0 refl
