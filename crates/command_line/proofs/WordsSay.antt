-- What words say, word by word.
use Rattle.std.proofs.Common.{◌≡◌, ℕ, ◌<◌, Bool, true, false, not, eqb, List, [], ◌∷◌, ◌++◌, length, map, get_or, Option, Some, None, codes, refl, subst, sym}
use Rattle.std.specs.Prelude.{nat_lt, if◌then◌else◌}
use Rattle.std.specs.List.{position_or_len, before_first}
use Rattle.std.proofs.lemmas.Bool.{eqb-true, ltb-true}
use Rattle.std.proofs.lemmas.Slice.Eq.{bytes_eq-Decides}
use Rattle.std.proofs.lemmas.List.Sums.{split_at_first, passes_at_first}
use Rattle.command_line.specs.Grammar.{Argument, operand, flag, setting, alone, arguments, begins_with_dash, flag_named, in_front, is_end, kind_alone, kind_of, kind_with_value, option_kind, setting_named, value_within, with_next_word}
use Rattle.command_line.specs.Once.{Say, no_words, only_operands, one_operand, one_flag, value_behind, value_inside}
use Rattle.command_line.specs.declared.commands.Flag.{Flag}
use Rattle.command_line.specs.declared.commands.Setting.{Setting}
use Rattle.command_line.specs.declared.kinds.Kind.{Kind}
use Rattle.command_line.specs.declared.kinds.Kind.TheVariants as kind

-- ---- one word

-- what the kind of a word tells of it
abbrev KindTells : List ℕ → Kind → Type 0
KindTells word kind.Operand = begins_with_dash word ≡ false
KindTells word (kind.Flag f) = flag_named word ≡ Some f
KindTells word (kind.Before s) = setting_named word ≡ Some s
KindTells word (kind.Within s) = (name : List ℕ) × (setting_named name ≡ Some s) × (word ≡ name ++ 61 ∷ value_within word)
KindTells word kind.Unknown = Unit {0}

kind_alone-tells : (word : List ℕ) (f : Option Flag) (s : Option Setting) → flag_named word ≡ f → setting_named word ≡ s → KindTells word (kind_alone f s)
kind_alone-tells word (Some f) s is other = is
kind_alone-tells word None (Some s) is other = other
kind_alone-tells word None None is other = tt

kind_with_value-tells : (word name : List ℕ) (s : Option Setting) → setting_named name ≡ s → word ≡ name ++ 61 ∷ value_within word → KindTells word (kind_with_value s)
kind_with_value-tells word name (Some s) is split = (name, is, split)
kind_with_value-tells word name None is split = tt

-- a word with an `=` is what stands in front of the first one, it, and what stands behind
split_at_mark : (word : List ℕ) → position_or_len (λ b. eqb b 61) word < length word → word ≡ before_first (λ b. eqb b 61) word ++ 61 ∷ value_within word
split_at_mark word h =
    let here : get_or word (position_or_len (λ b. eqb b 61) word) 0 ≡ 61 = eqb-true _ _ (passes_at_first (λ b. eqb b 61) word 0 h) in
    let P : ℕ → Type 0 = λ x. word ≡ before_first (λ b. eqb b 61) word ++ x ∷ value_within word in
    subst P here (split_at_first (λ b. eqb b 61) word 0 h)

option_kind-tells : (word : List ℕ) → KindTells word (option_kind word)
unfolding option_kind
option_kind-tells word = by (nat_lt (position_or_len (λ b. eqb b 61) word) (length word)) refl
  where
    by : (has : Bool) → nat_lt (position_or_len (λ b. eqb b 61) word) (length word) ≡ has
        → KindTells word (if has then kind_with_value (setting_named (before_first (λ b. eqb b 61) word)) else kind_alone (flag_named word) (setting_named word))
    by true is = kind_with_value-tells word (before_first (λ b. eqb b 61) word) (setting_named (before_first (λ b. eqb b 61) word)) refl (split_at_mark word (ltb-true _ _ is))
    by false is = kind_alone-tells word (flag_named word) (setting_named word) refl refl

kind_of-tells : (word : List ℕ) → KindTells word (kind_of word)
unfolding kind_of
kind_of-tells word = by (begins_with_dash word) refl
  where
    by : (dash : Bool) → begins_with_dash word ≡ dash → KindTells word (if not dash then kind.Operand else option_kind word)
    by true is = option_kind-tells word
    by false is = is

-- ---- all words

in_front-is : (argument : Argument) (others : Option (List Argument)) (found : List Argument) → in_front argument others ≡ Some found
    → (rest : List Argument) × (others ≡ Some rest) × (argument ∷ rest ≡ found)
in_front-is argument None found is = cc
in_front-is argument (Some rest) found is = (rest, refl, cc)

alone-says : (word : List ℕ) (k : Kind) (found : List Argument) → KindTells word k → alone k word ≡ Some found → Say (word ∷ []) found
alone-says word kind.Operand found tells is =
    (let same : operand word ∷ [] ≡ found = cc in subst (λ (f : List Argument). Say (word ∷ []) f) same (one_operand word [] [] tells no_words))
alone-says word (kind.Flag f) found tells is =
    (let same : flag f word ∷ [] ≡ found = cc in subst (λ (f : List Argument). Say (word ∷ []) f) same (one_flag f word [] [] tells no_words))
alone-says word (kind.Before s) found tells is = cc
alone-says word (kind.Within s) found tells is =
    (let same : setting s (value_within word) ∷ [] ≡ found = cc in
    let said : Say ((tells.0 ++ 61 ∷ value_within word) ∷ []) found = subst (λ (f : List Argument). Say ((tells.0 ++ 61 ∷ value_within word) ∷ []) f) same (value_inside s tells.0 (value_within word) [] [] tells.1 no_words) in
    subst (λ (w : List ℕ). Say (w ∷ []) found) (sym tells.2) said)
alone-says word kind.Unknown found tells is = cc

with_next_word-says : (word next : List ℕ) (others : List (List ℕ)) (k : Kind) (from_next behind_next : Option (List Argument)) (found : List Argument)
    → KindTells word k → ((rest : List Argument) → from_next ≡ Some rest → Say (next ∷ others) rest) → ((rest : List Argument) → behind_next ≡ Some rest → Say others rest)
    → with_next_word k word next from_next behind_next ≡ Some found → Say (word ∷ next ∷ others) found
with_next_word-says word next others kind.Operand from_next behind_next found tells said said_behind is =
    (let parts = in_front-is (operand word) from_next found is in
    subst (λ (f : List Argument). Say (word ∷ next ∷ others) f) parts.2 (one_operand word (next ∷ others) parts.0 tells (said parts.0 parts.1)))
with_next_word-says word next others (kind.Flag f) from_next behind_next found tells said said_behind is =
    (let parts = in_front-is (flag f word) from_next found is in
    subst (λ (f : List Argument). Say (word ∷ next ∷ others) f) parts.2 (one_flag f word (next ∷ others) parts.0 tells (said parts.0 parts.1)))
with_next_word-says word next others (kind.Before s) from_next behind_next found tells said said_behind is =
    (let parts = in_front-is (setting s next) behind_next found is in
    subst (λ (f : List Argument). Say (word ∷ next ∷ others) f) parts.2 (value_behind s word next others parts.0 tells (said_behind parts.0 parts.1)))
with_next_word-says word next others (kind.Within s) from_next behind_next found tells said said_behind is =
    (let parts = in_front-is (setting s (value_within word)) from_next found is in
    let one : Say ((tells.0 ++ 61 ∷ value_within word) ∷ next ∷ others) found =
    subst (λ (f : List Argument). Say ((tells.0 ++ 61 ∷ value_within word) ∷ next ∷ others) f) parts.2
    (value_inside s tells.0 (value_within word) (next ∷ others) parts.0 tells.1 (said parts.0 parts.1)) in
    subst (λ (w : List ℕ). Say (w ∷ next ∷ others) found) (sym tells.2) one)
with_next_word-says word next others kind.Unknown from_next behind_next found tells said said_behind is = cc

only_operands-say : (word : List ℕ) (words : List (List ℕ)) (found : List Argument) → is_end word ≡ true → Some (map operand words) ≡ Some found → Say (word ∷ words) found
only_operands-say word words found ends is =
    let same : map operand words ≡ found = cc in
    let mark : word ≡ codes "--" = (bytes_eq-Decides word (codes "--")).0 ends in
    subst (λ (w : List ℕ). Say (w ∷ words) found) (sym mark) (subst (λ (f : List Argument). Say (codes "--" ∷ words) f) same (only_operands words))

last_word-says : (word : List ℕ) (found : List Argument) (ends : Bool) → is_end word ≡ ends
    → (if ends then Some [] else alone (kind_of word) word) ≡ Some found → Say (word ∷ []) found
last_word-says word found true ends is = only_operands-say word [] found ends is
last_word-says word found false ends is = alone-says word (kind_of word) found (kind_of-tells word) is

first_word-says : (word next : List ℕ) (others : List (List ℕ)) (found : List Argument) (ends : Bool) → is_end word ≡ ends
    → ((rest : List Argument) → arguments (next ∷ others) ≡ Some rest → Say (next ∷ others) rest) → ((rest : List Argument) → arguments others ≡ Some rest → Say others rest)
    → (if ends then Some (map operand (next ∷ others)) else with_next_word (kind_of word) word next (arguments (next ∷ others)) (arguments others)) ≡ Some found
    → Say (word ∷ next ∷ others) found
first_word-says word next others found true ends said said_behind is = only_operands-say word (next ∷ others) found ends is
first_word-says word next others found false ends said said_behind is =
    with_next_word-says word next others (kind_of word) (arguments (next ∷ others)) (arguments others) found (kind_of-tells word) said said_behind is

pub arguments-said : (words : List (List ℕ)) (found : List Argument) → arguments words ≡ Some found → Say words found
arguments-said [] found is = (let same : [] ≡ found = cc in subst (λ (f : List Argument). Say [] f) same no_words)
arguments-said (word ∷ []) found is = last_word-says word found (is_end word) refl is
arguments-said (word ∷ next ∷ others) found is =
    first_word-says word next others found (is_end word) refl (λ rest e. arguments-said (next ∷ others) rest e) (λ rest e. arguments-said others rest e) is
