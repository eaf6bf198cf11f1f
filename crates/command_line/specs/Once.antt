-- What words say at their places, and what that gives, whatever its order.
use Rattle.std.specs.Prelude.{◌≡◌, ℕ, ◌≤◌, Bool, true, false, List, [], ◌∷◌, ◌++◌, length, map, Option, Some, None, codes, if◌then◌else◌}
use Rattle.command_line.specs.Grammar.{Argument, operand, flag, setting, begins_with_dash, flag_named, setting_named}
use Rattle.command_line.specs.Request.{Given}
use Rattle.command_line.specs.declared.arguments.Part.{Part}
use Rattle.command_line.specs.declared.arguments.Part.TheVariants as part
use Rattle.command_line.specs.declared.commands.Flag.{Flag}
use Rattle.command_line.specs.declared.commands.Flag.TheVariants.{Serial, Journal}
use Rattle.command_line.specs.declared.commands.Setting.{Setting}
use Rattle.command_line.specs.declared.commands.Setting.TheVariants.{Rule, Start, Facts, Jobs, Refinements, Tree}

-- ---- words, place by place

-- The words say these arguments, in this order.
pub data Say : List (List ℕ) → List Argument → Type 0 where
  no_words : Say [] []
  -- behind `--` each word is an operand
  only_operands : (words : List (List ℕ)) → Say (codes "--" ∷ words) (map operand words)
  -- a word without a `-` in front
  one_operand : (word : List ℕ) (words : List (List ℕ)) (arguments : List Argument) → begins_with_dash word ≡ false
      → Say words arguments → Say (word ∷ words) (operand word ∷ arguments)
  -- the name of a flag
  one_flag : (f : Flag) (word : List ℕ) (words : List (List ℕ)) (arguments : List Argument) → flag_named word ≡ Some f
      → Say words arguments → Say (word ∷ words) (flag f word ∷ arguments)
  -- the name of a setting, and its value as the next word, whatever that is
  value_behind : (s : Setting) (name value : List ℕ) (words : List (List ℕ)) (arguments : List Argument) → setting_named name ≡ Some s
      → Say words arguments → Say (name ∷ value ∷ words) (setting s value ∷ arguments)
  -- the name of a setting, `=` and its value in one word
  value_inside : (s : Setting) (name value : List ℕ) (words : List (List ℕ)) (arguments : List Argument) → setting_named name ≡ Some s
      → Say words arguments → Say ((name ++ 61 ∷ value) ∷ words) (setting s value ∷ arguments)

-- ---- what stands there

abbrev pub same_flag : Flag → Flag → Bool
same_flag Serial Serial = true
same_flag Journal Journal = true
same_flag f g = false

abbrev pub same_setting : Setting → Setting → Bool
same_setting Rule Rule = true
same_setting Start Start = true
same_setting Facts Facts = true
same_setting Jobs Jobs = true
same_setting Refinements Refinements = true
same_setting Tree Tree = true
same_setting s t = false

abbrev pub same_part : Part → Part → Bool
same_part part.Operand part.Operand = true
same_part (part.Flag f) (part.Flag g) = same_flag f g
same_part (part.Setting s) (part.Setting t) = same_setting s t
same_part p q = false

-- the texts of the arguments that are this part, in the order of their places
abbrev pub texts_of : Part → List Argument → List (List ℕ)
texts_of p [] = []
texts_of p (argument ∷ arguments) = if same_part p argument.part then argument.text ∷ texts_of p arguments else texts_of p arguments

-- ---- what is given

-- a value that may be there as a list of one or none
abbrev pub values_of : Option (List ℕ) → List (List ℕ)
values_of None = []
values_of (Some value) = value ∷ []

-- how often a flag stands that is given or not
abbrev pub times : Bool → ℕ
times false = 0
times true = 1

-- Of the arguments this is given: the operands in their order, at most two; each flag stands once where it is given, and else nowhere; each
-- setting stands once where it is given, with this value, and else nowhere.
pub record IsGivenBy (arguments : List Argument) (given : Given) : Type 0 where
  pub operands : given.operands ≡ texts_of part.Operand arguments
  pub few : length given.operands ≤ 2
  pub serial : times given.serial ≡ length (texts_of (part.Flag Serial) arguments)
  pub journal : times given.journal ≡ length (texts_of (part.Flag Journal) arguments)
  pub rule : values_of given.rule ≡ texts_of (part.Setting Rule) arguments
  pub start : values_of given.start ≡ texts_of (part.Setting Start) arguments
  pub facts : values_of given.facts ≡ texts_of (part.Setting Facts) arguments
  pub jobs : values_of given.jobs ≡ texts_of (part.Setting Jobs) arguments
  pub refinements : values_of given.refinements ≡ texts_of (part.Setting Refinements) arguments
  pub tree : values_of given.tree ≡ texts_of (part.Setting Tree) arguments

-- What the words say gives this.
pub record SayGiven (words : List (List ℕ)) (given : Given) : Type 0 where
  pub arguments : List Argument
  pub said : Say words arguments
  pub gives : IsGivenBy arguments given
