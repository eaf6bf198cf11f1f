-- What the words ask for: a command with its files or number, and its options.
use Rattle.std.specs.Prelude.{◌≡◌, ℕ, ◌≤◌, Bool, true, false, not, ◌&&◌, List, [], ◌∷◌, Option, Some, None, option_map, is_none, codes, decimal, IsTrue}
use Rattle.std.specs.Option.{option_and_then}
use Rattle.thr_base.specs.Limits.{most_facts, most_jobs, most_refinements, most_nodes, most_generated, default_facts, default_jobs, default_refinements, default_nodes}
use Rattle.thr_base.specs.declared.limits.Limits.{Limits}
use Rattle.thr_base.specs.declared.names.RuleName.{RuleName}
use Rattle.thr_base.specs.declared.names.RuleName.TheVariants.{Rg, Og}
use Rattle.command_line.specs.Grammar.{Argument, arguments, command_named}
use Rattle.command_line.specs.declared.arguments.Part.{Part}
use Rattle.command_line.specs.declared.arguments.Part.TheVariants as part
use Rattle.command_line.specs.declared.commands.Command.{Command}
use Rattle.command_line.specs.declared.commands.Command.TheVariants as command
use Rattle.command_line.specs.declared.commands.Flag.{Flag}
use Rattle.command_line.specs.declared.commands.Flag.TheVariants.{Serial, Journal}
use Rattle.command_line.specs.declared.commands.Setting.{Setting}
use Rattle.command_line.specs.declared.commands.Setting.TheVariants.{Rule, Start, Facts, Jobs, Refinements, Tree}

-- ---- what arguments give

-- the operands, whether flags are given, and the values of settings that are
pub record Given : Type 0 where
  pub operands : List (List ℕ)
  pub serial : Bool
  pub journal : Bool
  pub rule : Option (List ℕ)
  pub start : Option (List ℕ)
  pub facts : Option (List ℕ)
  pub jobs : Option (List ℕ)
  pub refinements : Option (List ℕ)
  pub tree : Option (List ℕ)

abbrev pub nothing : Given
nothing = record { operands = []; serial = false; journal = false; rule = None; start = None; facts = None; jobs = None; refinements = None; tree = None }

-- no command has more than two operands
abbrev pub one_more : List (List ℕ) → List ℕ → Option (List (List ℕ))
one_more [] word = Some (word ∷ [])
one_more (a ∷ []) word = Some (a ∷ word ∷ [])
one_more (a ∷ b ∷ more) word = None

abbrev pub with_operand : Given → List ℕ → Option Given
with_operand given word = option_map (λ operands. record given { operands = operands }) (one_more given.operands word)

-- a flag, where it was not given before
abbrev pub raised_flag : Bool → Option Bool
raised_flag false = Some true
raised_flag true = None

abbrev pub with_flag : Given → Flag → Option Given
with_flag given Serial = option_map (λ up. record given { serial = up }) (raised_flag given.serial)
with_flag given Journal = option_map (λ up. record given { journal = up }) (raised_flag given.journal)

-- a value, where none was given before
abbrev pub first : Option (List ℕ) → List ℕ → Option (List ℕ)
first None value = Some value
first (Some before) value = None

abbrev pub with_setting : Given → Setting → List ℕ → Option Given
with_setting given Rule value = option_map (λ text. record given { rule = Some text }) (first given.rule value)
with_setting given Start value = option_map (λ text. record given { start = Some text }) (first given.start value)
with_setting given Facts value = option_map (λ text. record given { facts = Some text }) (first given.facts value)
with_setting given Jobs value = option_map (λ text. record given { jobs = Some text }) (first given.jobs value)
with_setting given Refinements value = option_map (λ text. record given { refinements = Some text }) (first given.refinements value)
with_setting given Tree value = option_map (λ text. record given { tree = Some text }) (first given.tree value)

abbrev pub with_part : Given → Part → List ℕ → Option Given
with_part given part.Operand text = with_operand given text
with_part given (part.Flag flag) text = with_flag given flag
with_part given (part.Setting setting) text = with_setting given setting text

abbrev pub with_argument : Given → Argument → Option Given
with_argument given argument = with_part given argument.part argument.text

-- what arguments give behind others that gave this, unless one of them gives again what was given, or is a third operand
abbrev pub with_arguments : Given → List Argument → Option Given
with_arguments given [] = Some given
with_arguments given (argument ∷ arguments) = option_and_then (λ more. with_arguments more arguments) (with_argument given argument)

-- what the words behind the command give
abbrev pub given_by : List (List ℕ) → Option Given
given_by words = option_and_then (with_arguments nothing) (arguments words)

-- ---- numbers and rules

-- The text is the decimal text of this number, which is from `least` to `most`.
pub record IsNumber (least most : ℕ) (text : List ℕ) (n : ℕ) : Type 0 where
  pub text_is : text ≡ decimal n
  pub above : least ≤ n
  pub below : n ≤ most

-- This is the number of a setting: the one that its text writes, or the default where none is given.
abbrev pub IsSetting : ℕ → ℕ → ℕ → Option (List ℕ) → ℕ → Type 0
IsSetting least most default None n = n ≡ default
IsSetting least most default (Some text) n = IsNumber least most text n

abbrev pub rule_text : RuleName → List ℕ
rule_text Rg = codes "rg"
rule_text Og = codes "og"

-- This is the rule of this name, or that of rely-guarantee where none is given.
abbrev pub IsRule : Option (List ℕ) → RuleName → Type 0
IsRule None rule = rule ≡ Rg
IsRule (Some text) rule = text ≡ rule_text rule

-- These are the limits that are given, and the defaults of the others.
pub record AreLimits (given : Given) (limits : Limits) : Type 0 where
  pub facts : IsSetting 1 most_facts default_facts given.facts limits.facts
  pub jobs : IsSetting 1 most_jobs default_jobs given.jobs limits.jobs
  pub refinements : IsSetting 0 most_refinements default_refinements given.refinements limits.refinements
  pub tree : IsSetting 1 most_nodes default_nodes given.tree limits.tree

-- ---- options

-- the options of a command: flags, the rule, the name of a file of predicates to begin with, and the limits of the run
pub record Options : Type 0 where
  pub serial : Bool
  pub journal : Bool
  pub rule : RuleName
  pub start : Option (List ℕ)
  pub limits : Limits

-- no option is given but `--rule`, `--facts` and `--jobs`
abbrev pub has_only_those_of_tables : Given → Bool
has_only_those_of_tables given =
    not given.serial && not given.journal && is_none given.start && is_none given.refinements && is_none given.tree

abbrev pub has_no_option : Given → Bool
has_no_option given = has_only_those_of_tables given && is_none given.rule && is_none given.facts && is_none given.jobs

-- the command has all options that are given
abbrev pub allows : Command → Given → Bool
allows command.Verify given = true
allows command.Tables given = has_only_those_of_tables given
allows command.Check given = has_no_option given
allows command.Replay given = has_no_option given
allows command.Generate given = has_no_option given
allows command.Bench given = has_no_option given
allows command.Help given = has_no_option given

-- These are the options of the command that are given.
pub record AreOptions (command : Command) (given : Given) (options : Options) : Type 0 where
  pub allowed : IsTrue (allows command given)
  pub serial : options.serial ≡ given.serial
  pub journal : options.journal ≡ given.journal
  pub rule : IsRule given.rule options.rule
  pub start : options.start ≡ given.start
  pub limits : AreLimits given options.limits

-- ---- what is to be done

-- a command with the names of the files that it reads, or a number
pub data Work : Type 0 where
  Verify : List ℕ → Work
  Tables : List ℕ → Option (List ℕ) → Work
  Check : List ℕ → List ℕ → Work
  Replay : List ℕ → List ℕ → Work
  Generate : ℕ → Work
  Bench : ℕ → Work
  Help : Work

-- A command does this with these operands: a program's file, a program's file and another, a number, or nothing.
pub data IsWork : Command → List (List ℕ) → Work → Type 0 where
  verify : (program : List ℕ) → IsWork command.Verify (program ∷ []) (Verify program)
  tables : (program : List ℕ) → IsWork command.Tables (program ∷ []) (Tables program None)
  tables_with : (program predicates : List ℕ) → IsWork command.Tables (program ∷ predicates ∷ []) (Tables program (Some predicates))
  check : (program annotation : List ℕ) → IsWork command.Check (program ∷ annotation ∷ []) (Check program annotation)
  replay : (program schedule : List ℕ) → IsWork command.Replay (program ∷ schedule ∷ []) (Replay program schedule)
  generate : (text : List ℕ) (n : ℕ) → IsNumber 1 most_generated text n → IsWork command.Generate (text ∷ []) (Generate n)
  bench : (text : List ℕ) (n : ℕ) → IsNumber 1 most_generated text n → IsWork command.Bench (text ∷ []) (Bench n)
  help : IsWork command.Help [] Help

-- ---- requests

pub record Request : Type 0 where
  pub work : Work
  pub options : Options

-- The words ask for this: the first is a command, and what the others give are its operands and options.
pub record Asks (words : List (List ℕ)) (request : Request) : Type 0 where
  pub first : List ℕ
  pub others : List (List ℕ)
  pub command : Command
  pub given : Given
  pub words_are : words ≡ first ∷ others
  pub is_command : command_named first ≡ Some command
  pub others_give : given_by others ≡ Some given
  pub work : IsWork command given.operands request.work
  pub options : AreOptions command given request.options
