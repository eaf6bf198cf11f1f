-- Words are read as what they say.
use Rattle.std.proofs.Common.{◌≡◌, ℕ, suc, ◌+◌, ◌<◌, Bool, true, false, cond, not, ◌&&◌, eqb, List, [], ◌∷◌, ◌++◌, length, map, take, drop, Option, Some, None, codes, bytes_eq, refl, ap, subst, sym, ◌∙◌, length-append, arith}
use Rattle.std.specs.Prelude.{nat_lt, if◌then◌else◌}
use Rattle.std.specs.List.{position_or_len, prefix_len, before_first}
use Rattle.std.proofs.lemmas.Bool.{lt-ltb, ltb-true}
use Rattle.std.proofs.lemmas.Slice.Eq.{bytes_eq-Decides}
use Rattle.command_line.specs.Grammar.{Argument, operand, flag, setting, alone, arguments, begins_with_dash, flag_named, in_front, is_end, kind_alone, kind_of, kind_with_value, option_kind, setting_named, value_within, with_next_word}
use Rattle.command_line.specs.Once.{Say, no_words, only_operands, one_operand, one_flag, value_behind, value_inside}
use Rattle.command_line.specs.declared.commands.Flag.{Flag}
use Rattle.command_line.specs.declared.commands.Flag.TheVariants.{Serial, Journal}
use Rattle.command_line.specs.declared.commands.Setting.{Setting}
use Rattle.command_line.specs.declared.commands.Setting.TheVariants.{Rule, Start, Facts, Jobs, Refinements, Tree}
use Rattle.command_line.specs.declared.kinds.Kind.{Kind}
use Rattle.command_line.specs.declared.kinds.Kind.TheVariants as kind

-- ---- names

abbrev has_no_mark : List ℕ → Bool
has_no_mark [] = true
has_no_mark (b ∷ bytes) = not (eqb b 61) && has_no_mark bytes

-- what the names of all options have in common
record IsName (word : List ℕ) : Type 0 where
  dash : begins_with_dash word ≡ true
  no_end : is_end word ≡ false
  no_mark : has_no_mark word ≡ true

named_so : (word text : List ℕ) → bytes_eq word text ≡ true → IsName text → IsName word
named_so word text is name = (let e : word ≡ text = (bytes_eq-Decides word text).0 is in let P : List ℕ → Type 0 = λ w. IsName w in subst P (sym e) name)

not_a_flag : (word text : List ℕ) → bytes_eq word text ≡ true → flag_named text ≡ None → flag_named word ≡ None
not_a_flag word text is none = ap flag_named ((bytes_eq-Decides word text).0 is) ∙ none

flag_named-name : (word : List ℕ) (found : Flag) → flag_named word ≡ Some found → IsName word
unfolding flag_named
flag_named-name word found = by0 (bytes_eq word (codes "--serial")) refl
  where
    by1 : (is_it : Bool) → bytes_eq word (codes "--journal") ≡ is_it → (if is_it then Some Journal else None) ≡ Some found → IsName word
    by1 true it is = named_so word (codes "--journal") it (record { dash = refl; no_end = refl; no_mark = refl })
    by1 false it is = cc

    by0 : (is_it : Bool) → bytes_eq word (codes "--serial") ≡ is_it → (if is_it then Some Serial else (if bytes_eq word (codes "--journal") then Some Journal else None)) ≡ Some found → IsName word
    by0 true it is = named_so word (codes "--serial") it (record { dash = refl; no_end = refl; no_mark = refl })
    by0 false it is = by1 (bytes_eq word (codes "--journal")) refl is

setting_named-name : (word : List ℕ) (found : Setting) → setting_named word ≡ Some found → IsName word
unfolding setting_named
setting_named-name word found = by0 (bytes_eq word (codes "--rule")) refl
  where
    by5 : (is_it : Bool) → bytes_eq word (codes "--tree") ≡ is_it → (if is_it then Some Tree else None) ≡ Some found → IsName word
    by5 true it is = named_so word (codes "--tree") it (record { dash = refl; no_end = refl; no_mark = refl })
    by5 false it is = cc

    by4 : (is_it : Bool) → bytes_eq word (codes "--refinements") ≡ is_it → (if is_it then Some Refinements else (if bytes_eq word (codes "--tree") then Some Tree else None)) ≡ Some found → IsName word
    by4 true it is = named_so word (codes "--refinements") it (record { dash = refl; no_end = refl; no_mark = refl })
    by4 false it is = by5 (bytes_eq word (codes "--tree")) refl is

    by3 : (is_it : Bool) → bytes_eq word (codes "--jobs") ≡ is_it → (if is_it then Some Jobs else (if bytes_eq word (codes "--refinements") then Some Refinements else (if bytes_eq word (codes "--tree") then Some Tree else None))) ≡ Some found → IsName word
    by3 true it is = named_so word (codes "--jobs") it (record { dash = refl; no_end = refl; no_mark = refl })
    by3 false it is = by4 (bytes_eq word (codes "--refinements")) refl is

    by2 : (is_it : Bool) → bytes_eq word (codes "--facts") ≡ is_it → (if is_it then Some Facts else (if bytes_eq word (codes "--jobs") then Some Jobs else (if bytes_eq word (codes "--refinements") then Some Refinements else (if bytes_eq word (codes "--tree") then Some Tree else None)))) ≡ Some found → IsName word
    by2 true it is = named_so word (codes "--facts") it (record { dash = refl; no_end = refl; no_mark = refl })
    by2 false it is = by3 (bytes_eq word (codes "--jobs")) refl is

    by1 : (is_it : Bool) → bytes_eq word (codes "--start") ≡ is_it → (if is_it then Some Start else (if bytes_eq word (codes "--facts") then Some Facts else (if bytes_eq word (codes "--jobs") then Some Jobs else (if bytes_eq word (codes "--refinements") then Some Refinements else (if bytes_eq word (codes "--tree") then Some Tree else None))))) ≡ Some found → IsName word
    by1 true it is = named_so word (codes "--start") it (record { dash = refl; no_end = refl; no_mark = refl })
    by1 false it is = by2 (bytes_eq word (codes "--facts")) refl is

    by0 : (is_it : Bool) → bytes_eq word (codes "--rule") ≡ is_it → (if is_it then Some Rule else (if bytes_eq word (codes "--start") then Some Start else (if bytes_eq word (codes "--facts") then Some Facts else (if bytes_eq word (codes "--jobs") then Some Jobs else (if bytes_eq word (codes "--refinements") then Some Refinements else (if bytes_eq word (codes "--tree") then Some Tree else None)))))) ≡ Some found → IsName word
    by0 true it is = named_so word (codes "--rule") it (record { dash = refl; no_end = refl; no_mark = refl })
    by0 false it is = by1 (bytes_eq word (codes "--start")) refl is

setting_named-no_flag : (word : List ℕ) (found : Setting) → setting_named word ≡ Some found → flag_named word ≡ None
unfolding setting_named flag_named
setting_named-no_flag word found = by0 (bytes_eq word (codes "--rule")) refl
  where
    by5 : (is_it : Bool) → bytes_eq word (codes "--tree") ≡ is_it → (if is_it then Some Tree else None) ≡ Some found → flag_named word ≡ None
    by5 true it is = not_a_flag word (codes "--tree") it refl
    by5 false it is = cc

    by4 : (is_it : Bool) → bytes_eq word (codes "--refinements") ≡ is_it → (if is_it then Some Refinements else (if bytes_eq word (codes "--tree") then Some Tree else None)) ≡ Some found → flag_named word ≡ None
    by4 true it is = not_a_flag word (codes "--refinements") it refl
    by4 false it is = by5 (bytes_eq word (codes "--tree")) refl is

    by3 : (is_it : Bool) → bytes_eq word (codes "--jobs") ≡ is_it → (if is_it then Some Jobs else (if bytes_eq word (codes "--refinements") then Some Refinements else (if bytes_eq word (codes "--tree") then Some Tree else None))) ≡ Some found → flag_named word ≡ None
    by3 true it is = not_a_flag word (codes "--jobs") it refl
    by3 false it is = by4 (bytes_eq word (codes "--refinements")) refl is

    by2 : (is_it : Bool) → bytes_eq word (codes "--facts") ≡ is_it → (if is_it then Some Facts else (if bytes_eq word (codes "--jobs") then Some Jobs else (if bytes_eq word (codes "--refinements") then Some Refinements else (if bytes_eq word (codes "--tree") then Some Tree else None)))) ≡ Some found → flag_named word ≡ None
    by2 true it is = not_a_flag word (codes "--facts") it refl
    by2 false it is = by3 (bytes_eq word (codes "--jobs")) refl is

    by1 : (is_it : Bool) → bytes_eq word (codes "--start") ≡ is_it → (if is_it then Some Start else (if bytes_eq word (codes "--facts") then Some Facts else (if bytes_eq word (codes "--jobs") then Some Jobs else (if bytes_eq word (codes "--refinements") then Some Refinements else (if bytes_eq word (codes "--tree") then Some Tree else None))))) ≡ Some found → flag_named word ≡ None
    by1 true it is = not_a_flag word (codes "--start") it refl
    by1 false it is = by2 (bytes_eq word (codes "--facts")) refl is

    by0 : (is_it : Bool) → bytes_eq word (codes "--rule") ≡ is_it → (if is_it then Some Rule else (if bytes_eq word (codes "--start") then Some Start else (if bytes_eq word (codes "--facts") then Some Facts else (if bytes_eq word (codes "--jobs") then Some Jobs else (if bytes_eq word (codes "--refinements") then Some Refinements else (if bytes_eq word (codes "--tree") then Some Tree else None)))))) ≡ Some found → flag_named word ≡ None
    by0 true it is = not_a_flag word (codes "--rule") it refl
    by0 false it is = by1 (bytes_eq word (codes "--start")) refl is

-- ---- the first `=`

position-none : (word : List ℕ) → has_no_mark word ≡ true → position_or_len (λ b. eqb b 61) word ≡ length word
position-none [] none = refl
position-none (b ∷ bytes) none = by (eqb b 61) none (λ rest. position-none bytes rest)
  where
    by : (is_mark : Bool) → (not is_mark && has_no_mark bytes) ≡ true → (has_no_mark bytes ≡ true → position_or_len (λ b. eqb b 61) bytes ≡ length bytes)
        → cond (not is_mark) (1 + prefix_len (λ x. not (eqb x 61)) bytes) 0 ≡ suc (length bytes)
    by true none behind = cc
    by false none behind = omega (arith, behind none)

position-first : (name value : List ℕ) → has_no_mark name ≡ true → position_or_len (λ b. eqb b 61) (name ++ 61 ∷ value) ≡ length name
position-first [] value none = refl
position-first (b ∷ name) value none = by (eqb b 61) none (λ rest. position-first name value rest)
  where
    by : (is_mark : Bool) → (not is_mark && has_no_mark name) ≡ true → (has_no_mark name ≡ true → position_or_len (λ b. eqb b 61) (name ++ 61 ∷ value) ≡ length name)
        → cond (not is_mark) (1 + prefix_len (λ x. not (eqb x 61)) (name ++ 61 ∷ value)) 0 ≡ suc (length name)
    by true none behind = cc
    by false none behind = omega (arith, behind none)

take-front : (name rest : List ℕ) → take (length name) (name ++ rest) ≡ name
take-front [] rest = refl
take-front (b ∷ name) rest = ap (λ (bytes : List ℕ). b ∷ bytes) (take-front name rest)

drop-behind : (name value : List ℕ) → drop (length name + 1) (name ++ 61 ∷ value) ≡ value
drop-behind [] value = refl
drop-behind (b ∷ name) value = (let e : suc (length name) + 1 ≡ suc (length name + 1) = omega arith in rw e (drop-behind name value))

value_within-behind : (name value : List ℕ) → has_no_mark name ≡ true → value_within (name ++ 61 ∷ value) ≡ value
value_within-behind name value none = ap (λ (n : ℕ). drop (n + 1) (name ++ 61 ∷ value)) (position-first name value none) ∙ drop-behind name value

before_first-front : (name value : List ℕ) → has_no_mark name ≡ true → before_first (λ b. eqb b 61) (name ++ 61 ∷ value) ≡ name
before_first-front name value none = ap (λ (n : ℕ). take n (name ++ 61 ∷ value)) (position-first name value none) ∙ take-front name (61 ∷ value)

begins_with_dash-front : (name rest : List ℕ) → begins_with_dash name ≡ true → begins_with_dash (name ++ rest) ≡ true
begins_with_dash-front [] rest dash = cc
begins_with_dash-front (b ∷ name) rest dash = dash

-- ---- what a word is

kind_of-operand : (word : List ℕ) → begins_with_dash word ≡ false → kind_of word ≡ kind.Operand
unfolding kind_of
kind_of-operand word dash = ap (λ (b : Bool). if not b then kind.Operand else option_kind word) dash

kind_of-option : (word : List ℕ) → begins_with_dash word ≡ true → kind_of word ≡ option_kind word
unfolding kind_of
kind_of-option word dash = ap (λ (b : Bool). if not b then kind.Operand else option_kind word) dash

not-less : (a b : ℕ) → a ≡ b → nat_lt a b ≡ false
not-less a b same = by (nat_lt a b) refl
  where
    by : (less : Bool) → nat_lt a b ≡ less → nat_lt a b ≡ false
    by false is = is
    by true is = absurd (omega (arith, same, ltb-true a b is))

option_kind-alone : (word : List ℕ) → has_no_mark word ≡ true → option_kind word ≡ kind_alone (flag_named word) (setting_named word)
unfolding option_kind
option_kind-alone word none =
    ap (λ (has : Bool). if has then kind_with_value (setting_named (before_first (λ b. eqb b 61) word)) else kind_alone (flag_named word) (setting_named word))
    (not-less _ _ (position-none word none))

option_kind-within : (name value : List ℕ) (s : Setting) → has_no_mark name ≡ true → setting_named name ≡ Some s → option_kind (name ++ 61 ∷ value) ≡ kind.Within s
unfolding option_kind
option_kind-within name value s none is =
    let place = position-first name value none in
    let long = length-append name (61 ∷ value) in
    let behind : length (61 ∷ value) ≡ suc (length value) = refl in
    let less : position_or_len (λ b. eqb b 61) (name ++ 61 ∷ value) < length (name ++ 61 ∷ value) = omega (arith, place, long, behind) in
    ap (λ (has : Bool). if has then kind_with_value (setting_named (before_first (λ b. eqb b 61) (name ++ 61 ∷ value))) else kind_alone (flag_named (name ++ 61 ∷ value)) (setting_named (name ++ 61 ∷ value)))
    (lt-ltb _ _ less)
    ∙ ap (λ (n : List ℕ). kind_with_value (setting_named n)) (before_first-front name value none) ∙ ap kind_with_value is

kind_of-flag : (word : List ℕ) (f : Flag) → flag_named word ≡ Some f → kind_of word ≡ kind.Flag f
kind_of-flag word f is =
    let name = flag_named-name word f is in
    kind_of-option word name.dash ∙ option_kind-alone word name.no_mark ∙ ap (λ (found : Option Flag). kind_alone found (setting_named word)) is

kind_of-before : (name : List ℕ) (s : Setting) → setting_named name ≡ Some s → kind_of name ≡ kind.Before s
kind_of-before word s is =
    let name = setting_named-name word s is in
    kind_of-option word name.dash ∙ option_kind-alone word name.no_mark
    ∙ ap (λ (found : Option Flag). kind_alone found (setting_named word)) (setting_named-no_flag word s is) ∙ ap (λ (found : Option Setting). kind_alone None found) is

kind_of-within : (name value : List ℕ) (s : Setting) → setting_named name ≡ Some s → kind_of (name ++ 61 ∷ value) ≡ kind.Within s
kind_of-within word value s is =
    let name = setting_named-name word s is in
    kind_of-option (word ++ 61 ∷ value) (begins_with_dash-front word (61 ∷ value) name.dash) ∙ option_kind-within word value s name.no_mark is

is_end-operand : (word : List ℕ) → begins_with_dash word ≡ false → is_end word ≡ false
is_end-operand word dash = by (is_end word) refl
  where
    by : (ends : Bool) → is_end word ≡ ends → is_end word ≡ false
    by false e = e
    by true e =
        (let mark : word ≡ codes "--" = (bytes_eq-Decides word (codes "--")).0 e in
        let two : false ≡ true = sym dash ∙ ap begins_with_dash mark in cc)

is_end-within : (name value : List ℕ) → has_no_mark name ≡ true → is_end (name ++ 61 ∷ value) ≡ false
is_end-within name value none = by (is_end (name ++ 61 ∷ value)) refl
  where
    by : (ends : Bool) → is_end (name ++ 61 ∷ value) ≡ ends → is_end (name ++ 61 ∷ value) ≡ false
    by false e = e
    by true e =
        (let mark : name ++ 61 ∷ value ≡ codes "--" = (bytes_eq-Decides (name ++ 61 ∷ value) (codes "--")).0 e in
        let place : position_or_len (λ b. eqb b 61) (name ++ 61 ∷ value) ≡ 2 = ap (λ (w : List ℕ). position_or_len (λ b. eqb b 61) w) mark in
        let two : length (name ++ 61 ∷ value) ≡ 2 = ap (λ (w : List ℕ). length w) mark in
        let long : length (name ++ 61 ∷ value) ≡ length name + length (61 ∷ value) = length-append name (61 ∷ value) in
        let behind : length (61 ∷ value) ≡ suc (length value) = refl in
        absurd (omega (arith, place, two, long, behind, position-first name value none)))

-- ---- all words

-- a word that is an argument by itself
read_one : (word : List ℕ) (words : List (List ℕ)) (found : List Argument) (k : Kind) (argument : Argument) → is_end word ≡ false → kind_of word ≡ k
    → alone k word ≡ Some (argument ∷ []) → ((next : List ℕ) (from behind : Option (List Argument)) → with_next_word k word next from behind ≡ in_front argument from)
    → arguments words ≡ Some found → arguments (word ∷ words) ≡ Some (argument ∷ found)
read_one word [] found k argument ends is one more rest =
    (let none : [] ≡ found = cc in
    ap (λ (b : Bool). if b then Some [] else alone (kind_of word) word) ends ∙ ap (λ (k : Kind). alone k word) is ∙ one ∙ ap (λ (all : List Argument). Some (argument ∷ all)) none)
read_one word (next ∷ others) found k argument ends is one more rest =
    ap (λ (b : Bool). if b then Some (map operand (next ∷ others)) else with_next_word (kind_of word) word next (arguments (next ∷ others)) (arguments others)) ends
    ∙ ap (λ (k : Kind). with_next_word k word next (arguments (next ∷ others)) (arguments others)) is
    ∙ more next (arguments (next ∷ others)) (arguments others) ∙ ap (in_front argument) rest

-- a setting with its value in the next word
read_value : (name value : List ℕ) (words : List (List ℕ)) (found : List Argument) (s : Setting) → is_end name ≡ false → kind_of name ≡ kind.Before s
    → arguments words ≡ Some found → arguments (name ∷ value ∷ words) ≡ Some (setting s value ∷ found)
read_value name value words found s ends is rest =
    ap (λ (b : Bool). if b then Some (map operand (value ∷ words)) else with_next_word (kind_of name) name value (arguments (value ∷ words)) (arguments words)) ends
    ∙ ap (λ (k : Kind). with_next_word k name value (arguments (value ∷ words)) (arguments words)) is ∙ ap (in_front (setting s value)) rest

read_operands : (words : List (List ℕ)) → arguments (codes "--" ∷ words) ≡ Some (map operand words)
read_operands [] = refl
read_operands (next ∷ others) = refl

pub said-arguments : (words : List (List ℕ)) (found : List Argument) → Say words found → arguments words ≡ Some found
said-arguments _ _ no_words = refl
said-arguments _ _ (only_operands words) = read_operands words
said-arguments _ _ (one_operand word words found dash said) =
    read_one word words found kind.Operand (operand word) (is_end-operand word dash) (kind_of-operand word dash) refl (λ next from behind. refl) (said-arguments words found said)
said-arguments _ _ (one_flag f word words found is said) =
    read_one word words found (kind.Flag f) (flag f word) (flag_named-name word f is).no_end (kind_of-flag word f is) refl (λ next from behind. refl) (said-arguments words found said)
said-arguments _ _ (value_behind s name value words found is said) =
    read_value name value words found s (setting_named-name name s is).no_end (kind_of-before name s is) (said-arguments words found said)
said-arguments _ _ (value_inside s name value words found is said) =
    (let none = (setting_named-name name s is).no_mark in
    let same = value_within-behind name value none in
    read_one (name ++ 61 ∷ value) words found (kind.Within s) (setting s value) (is_end-within name value none) (kind_of-within name value s is)
    (ap (λ (v : List ℕ). Some (setting s v ∷ [])) same) (λ next from behind. ap (λ (v : List ℕ). in_front (setting s v) from) same) (said-arguments words found said))
