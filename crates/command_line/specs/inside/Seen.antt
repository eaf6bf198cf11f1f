-- What the code holds of arguments. No public clause cites this file.
use Rattle.std.specs.Prelude.{◌≡◌, ℕ, ◌≤◌, List, ◌∷◌, length, map, Option, Some, None, string_bytes, []}
use Rattle.std.specs.Borrow.{Bor}
use Rattle.std.specs.declared.string.String.{String}
use Rattle.command_line.specs.Grammar.{Argument, arguments, in_front}
use Rattle.command_line.specs.Request.{Given}
use Rattle.command_line.specs.Seen.{text_of}
use Rattle.command_line.specs.declared.arguments.Argument.{Argument as Stored}
use Rattle.command_line.specs.declared.given.Given.{Given as StoredGiven}
use Rattle.command_line.specs.declared.given.Operands.{Operands}
use Rattle.command_line.specs.declared.given.Operands.TheVariants.{Missing, One, Two}

-- the argument that is held
abbrev pub argument_of : Stored → Argument
argument_of argument = record { part = argument.part; text = argument.text.now }

-- Words are refused, or begin with this argument, which others follow.
abbrev pub FrontIs : {A : Type 0} → List ℕ → List (List ℕ) → Option (Stored × Bor (List (String A))) → Type 0
FrontIs word rest None = arguments (word ∷ rest) ≡ None
FrontIs word rest (Some (argument, left)) =
    (arguments (word ∷ rest) ≡ in_front (argument_of argument) (arguments (map string_bytes left.now))) × (length left.now ≤ length rest)

-- the operands that are held
abbrev pub operands_of : Operands → List (List ℕ)
operands_of Missing = []
operands_of (One a) = a.now ∷ []
operands_of (Two a b) = a.now ∷ b.now ∷ []

-- what is held of what arguments gave
abbrev pub given_of : StoredGiven → Given
given_of given = record {
  operands = operands_of given.operands;
  serial = given.serial;
  journal = given.journal;
  rule = text_of given.rule;
  start = text_of given.start;
  facts = text_of given.facts;
  jobs = text_of given.jobs;
  refinements = text_of given.refinements;
  tree = text_of given.tree;
}
