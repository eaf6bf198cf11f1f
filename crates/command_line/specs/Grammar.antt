-- What words are: commands, options and operands.
use Rattle.std.specs.Prelude.{ℕ, Bool, false, not, List, [], ◌∷◌, length, map, Option, Some, None, option_map, codes, bytes_eq, nat_lt, ◌==◌, if◌then◌else◌}
use Rattle.std.specs.List.{position_or_len, before_first, after_first}
use Rattle.command_line.specs.declared.commands.Command.{Command}
use Rattle.command_line.specs.declared.commands.Command.TheVariants.{Verify, Tables, Check, Replay, Generate, Bench, Help}
use Rattle.command_line.specs.declared.commands.Flag.{Flag}
use Rattle.command_line.specs.declared.commands.Flag.TheVariants.{Serial, Journal}
use Rattle.command_line.specs.declared.commands.Setting.{Setting}
use Rattle.command_line.specs.declared.commands.Setting.TheVariants.{Rule, Start, Facts, Jobs, Refinements, Tree}
use Rattle.command_line.specs.declared.kinds.Kind.{Kind}
use Rattle.command_line.specs.declared.kinds.Kind.TheVariants as kind
use Rattle.command_line.specs.declared.arguments.Part.{Part}
use Rattle.command_line.specs.declared.arguments.Part.TheVariants as part

-- ---- names

unfoldable pub command_named : List ℕ → Option Command
command_named word =
    if bytes_eq word (codes "verify") then Some Verify
    else if bytes_eq word (codes "tables") then Some Tables
    else if bytes_eq word (codes "check") then Some Check
    else if bytes_eq word (codes "replay") then Some Replay
    else if bytes_eq word (codes "generate") then Some Generate
    else if bytes_eq word (codes "bench") then Some Bench
    else if bytes_eq word (codes "help") then Some Help
    else None

-- options that are given or not
unfoldable pub flag_named : List ℕ → Option Flag
flag_named word =
    if bytes_eq word (codes "--serial") then Some Serial
    else if bytes_eq word (codes "--journal") then Some Journal
    else None

-- options that have a value
unfoldable pub setting_named : List ℕ → Option Setting
setting_named word =
    if bytes_eq word (codes "--rule") then Some Rule
    else if bytes_eq word (codes "--start") then Some Start
    else if bytes_eq word (codes "--facts") then Some Facts
    else if bytes_eq word (codes "--jobs") then Some Jobs
    else if bytes_eq word (codes "--refinements") then Some Refinements
    else if bytes_eq word (codes "--tree") then Some Tree
    else None

-- ---- one word

abbrev pub begins_with_dash : List ℕ → Bool
begins_with_dash [] = false
begins_with_dash (b ∷ bytes) = b == 45

-- the word `--`, which makes all later words operands
abbrev pub is_end : List ℕ → Bool
is_end word = bytes_eq word (codes "--")

abbrev pub kind_with_value : Option Setting → Kind
kind_with_value None = kind.Unknown
kind_with_value (Some setting) = kind.Within setting

abbrev pub kind_alone : Option Flag → Option Setting → Kind
kind_alone (Some flag) setting = kind.Flag flag
kind_alone None (Some setting) = kind.Before setting
kind_alone None None = kind.Unknown

-- A word with a `-` in front is a setting and its value where there is an `=`, and else a flag or a setting.
unfoldable pub option_kind : List ℕ → Kind
option_kind word =
    if nat_lt (position_or_len (λ b. b == 61) word) (length word) then kind_with_value (setting_named (before_first (λ b. b == 61) word))
    else kind_alone (flag_named word) (setting_named word)

-- what a word other than `--` is, where neither a value nor only operands are expected
unfoldable pub kind_of : List ℕ → Kind
kind_of word =
    if not (begins_with_dash word) then kind.Operand
    else option_kind word

-- what stands behind the first `=`
abbrev pub value_within : List ℕ → List ℕ
value_within word = after_first (λ b. b == 61) word

-- ---- all words behind the command

-- What one word, or an option's word and its value, says. The text of a setting is its value, and that of others the word.
pub record Argument : Type 0 where
  pub part : Part
  pub text : List ℕ

abbrev pub operand : List ℕ → Argument
operand word = record { part = part.Operand; text = word }

abbrev pub flag : Flag → List ℕ → Argument
flag f word = record { part = part.Flag f; text = word }

abbrev pub setting : Setting → List ℕ → Argument
setting s value = record { part = part.Setting s; text = value }

-- an argument in front of others, if these are arguments
abbrev pub in_front : Argument → Option (List Argument) → Option (List Argument)
in_front argument others = option_map (λ arguments. argument ∷ arguments) others

-- what a word of this kind says as the last one
abbrev pub alone : Kind → List ℕ → Option (List Argument)
alone kind.Operand word = Some (operand word ∷ [])
alone (kind.Flag f) word = Some (flag f word ∷ [])
alone (kind.Before s) word = None
alone (kind.Within s) word = Some (setting s (value_within word) ∷ [])
alone kind.Unknown word = None

-- What a word of this kind says with a next one behind it. What the words behind it say is given, from the next on and behind the next.
abbrev pub with_next_word : Kind → List ℕ → List ℕ → Option (List Argument) → Option (List Argument) → Option (List Argument)
with_next_word kind.Operand word next from_next behind_next = in_front (operand word) from_next
with_next_word (kind.Flag f) word next from_next behind_next = in_front (flag f word) from_next
with_next_word (kind.Before s) word next from_next behind_next = in_front (setting s next) behind_next
with_next_word (kind.Within s) word next from_next behind_next = in_front (setting s (value_within word)) from_next
with_next_word kind.Unknown word next from_next behind_next = None

-- the arguments that the words behind the command are, or none where they are refused
abbrev pub arguments : List (List ℕ) → Option (List Argument)
arguments [] = Some []
arguments (word ∷ []) = (if is_end word then Some [] else alone (kind_of word) word)
arguments (word ∷ next ∷ others) =
    if is_end word then Some (map operand (next ∷ others))
    else with_next_word (kind_of word) word next (arguments (next ∷ others)) (arguments others)
