-- What the program answers: what its words ask for, the files that they name, and the status and text that follow from both.
use Rattle.std.specs.Prelude.{◌≡◌, ◌≤◌, ℕ, Bool, true, false, List, [], ◌++◌, length, replicate, Option, Some, None, codes, decimal}
use Rattle.thr_base.specs.Limits.{text_limit}
use Rattle.thr_base.specs.Outside.{StoreMeaning, SinkMeaning, Appends, WritesFront}
use Rattle.thr_base.specs.Reading.{IsFileNamed, StopsReading, KeepsFiles}
use Rattle.thr_base.specs.declared.limits.Limits.{Limits}
use Rattle.thr_base.specs.declared.names.RuleName.{RuleName}
use Rattle.thr_base.specs.declared.names.RuleName.TheVariants.{Rg}
use Rattle.thr_base.specs.declared.stops.ReadStop.TheVariants.{Fault, TooLong}
use Rattle.thr_base.specs.declared.stops.Refusal.{Refusal}
use Rattle.lin_rows.specs.Row.{Row}
use Rattle.c_tree.specs.declared.item.Tree.{Tree}
use Rattle.c_tree.specs.Seen.{plain_tree}
use Rattle.transition_formula.specs.Program.{Program}
use Rattle.horn_rules.specs.Home.{State, homes}
use Rattle.horn_rules.specs.Cover.{Covers}
use Rattle.horn_rules.specs.Least.{LeastSays}
use Rattle.horn_rules.specs.Stored.{sets_of}
use Rattle.horn_rules.specs.Table.{IsTable, fact_line}
use Rattle.annotation_form.specs.BadLine.{IsBadLine}
use Rattle.annotation_form.specs.Lines.{lines_text}
use Rattle.annotation_form.specs.Predicates.{IsReadAs, IsTextOfPredicates}
use Rattle.serial_fix.specs.Least.{LeastLeaves, HasMoreFacts, HasMoreInstances}
use Rattle.thread_cfg.specs.Read.{IsProgramText, Refuses}
use Rattle.thread_cfg.specs.Interleaving.{TextFails}
use Rattle.command_line.specs.Request.{Asks, Request, Work, Tables}

-- ---- what is built of what words can ask for

-- what is built by now: the tables by rely-guarantee
abbrev pub is_built : Work → RuleName → Bool
is_built (Tables program predicates) Rg = true
is_built work rule = false

-- Words that the grammar takes ask for nothing that is built.
abbrev pub AskForNothingBuilt : List (List ℕ) → Type 0
AskForNothingBuilt words = (request : Request) → Asks words request → is_built request.work request.options.rule ≡ false

-- The words ask for the tables by rely-guarantee of this program, with the predicates of that file if one is named, within these limits.
pub record AsksTables (words : List (List ℕ)) (program : List ℕ) (predicates : Option (List ℕ)) (limits : Limits) : Type 0 where
  pub request : Request
  pub asked : Asks words request
  pub tables : request.work ≡ Tables program predicates
  pub rule : request.options.rule ≡ Rg
  pub limits_are : request.options.limits ≡ limits

-- ---- kinds of texts

-- A kind of text: its label in answers, and how many bytes it may have.
pub record TextKind : Type 0 where
  pub label : List ℕ
  pub limit : ℕ

abbrev pub program_text : TextKind
program_text = record { label = codes "program"; limit = text_limit }

abbrev pub predicates_text : TextKind
predicates_text = record { label = codes "predicates"; limit = text_limit }

-- ---- what is written where something is refused: the words, a program's text, a line

abbrev pub usage_text : List ℕ
usage_text = codes "usage: threader verify|tables|check|replay|generate|bench|help\n"

abbrev pub refusal_text : Refusal → List ℕ
refusal_text refusal = codes "program E" ++ decimal refusal.code ++ codes " " ++ decimal refusal.place ++ codes "\n"

abbrev pub bad_line_text : TextKind → ℕ → List ℕ
bad_line_text kind n = kind.label ++ codes " line " ++ decimal n ++ codes "\n"

-- ---- programs

-- what is written where a run meets a limit
abbrev pub limit_text : List ℕ → ℕ → List ℕ
limit_text what limit = codes "UNKNOWN " ++ what ++ codes " " ++ decimal limit ++ codes "\n"

-- no predicates: an empty list for each home
abbrev pub no_predicates : Program → List (List Row)
no_predicates program = replicate (length (homes program)) []

-- The status and the text that follow from a program and the predicates of its homes, a list for each in the order of homes, where a run
-- may use so much.
pub data AnswersProgram (limits : Limits) (program : Program) (lists : List (List Row)) : ℕ → List ℕ → Type 0 where
  -- The table is that of the least set of rely-guarantee, and what its facts say covers all runs.
  table : (text : List ℕ) → IsTable program Rg (sets_of program lists) text → Covers program (LeastSays program Rg (sets_of program lists))
      → AnswersProgram limits program lists 0 text
  -- A system that decides an instance over the least set is left undecided.
  leaves : LeastLeaves program lists → AnswersProgram limits program lists 4 (codes "UNKNOWN leaves\n")
  -- The least set has more facts, or there are more instances over it, than a run may use.
  many_facts : HasMoreFacts program lists limits.facts → AnswersProgram limits program lists 4 (limit_text (codes "facts") limits.facts)
  many_jobs : HasMoreInstances program lists limits.jobs → AnswersProgram limits program lists 4 (limit_text (codes "jobs") limits.jobs)

-- The status and the text that follow from a program and the bytes of a file of predicates.
pub data AnswersPredicates (limits : Limits) (program : Program) (bytes : List ℕ) : ℕ → List ℕ → Type 0 where
  bad_line : (n : ℕ) → IsBadLine (IsTextOfPredicates program) bytes n → AnswersPredicates limits program bytes 3 (bad_line_text predicates_text n)
  read : (lists : List (List Row)) (status : ℕ) (text : List ℕ) → IsReadAs program bytes lists → AnswersProgram limits program lists status text
      → AnswersPredicates limits program bytes status text

-- ---- what a table says of the program's text

-- A line of the table is at a location 0: behind whole lines the line of a fact at location 0 of some thread.
pub record HasFailingLine (table : List ℕ) : Type 0 where
  pub before : List (List ℕ)
  pub thread : ℕ
  pub held : List ℕ
  pub behind : List ℕ
  pub is_there : table ≡ lines_text before ++ fact_line (record { home = State thread 0; held = held }) ++ behind

-- With status 0, a table with no line at a location 0 says that no interleaving of the text's threads makes one of them fail.
abbrev pub TellsSafety : Tree → ℕ → List ℕ → Type 0
TellsSafety tree status text = status ≡ 0 → ¬ HasFailingLine text → ¬ TextFails (plain_tree tree)

-- ---- texts that the words name

-- The status and the text that tell why a file with a text of this kind is not read whole.
pub data AnswersUnread (kind : TextKind) (name : List ℕ) (before after : StoreMeaning) : ℕ → List ℕ → Type 0 where
  fault : StopsReading before name kind.limit Fault after → AnswersUnread kind name before after 5 (codes "read fault\n")
  long : StopsReading before name kind.limit TooLong after → AnswersUnread kind name before after 3 (kind.label ++ codes " long\n")

-- The status and the text that follow from a file with a text of this kind: it is not read whole, or its bytes answer.
pub data AnswersText (kind : TextKind) (OfBytes : List ℕ → ℕ → List ℕ → Type 0) (name : List ℕ) (before after : StoreMeaning) : ℕ → List ℕ → Type 0 where
  unread : (status : ℕ) (text : List ℕ) → AnswersUnread kind name before after status text → AnswersText kind OfBytes name before after status text
  read_whole : (bytes : List ℕ) (status : ℕ) (text : List ℕ) → length bytes ≤ kind.limit → IsFileNamed before.files name bytes
      → OfBytes bytes status text → AnswersText kind OfBytes name before after status text

-- The status and the text that follow from the bytes of a program's text: they are refused, or the program answers; and where that is
-- a table with no line at a location 0, no interleaving of the text's threads makes one of them fail.
pub data AnswersProgramText (OfProgram : Program → ℕ → List ℕ → Type 0) (bytes : List ℕ) : ℕ → List ℕ → Type 0 where
  refused : (refusal : Refusal) → Refuses bytes refusal → AnswersProgramText OfProgram bytes 3 (refusal_text refusal)
  accepted : (tree : Tree) (program : Program) (status : ℕ) (text : List ℕ) → IsProgramText bytes tree program → OfProgram program status text
      → TellsSafety tree status text → AnswersProgramText OfProgram bytes status text

-- ---- tables

-- The status and the text that follow from the name of a file of predicates, if one is given, and a program.
pub data AnswersTables (limits : Limits) (before after : StoreMeaning) : Option (List ℕ) → Program → ℕ → List ℕ → Type 0 where
  alone : (program : Program) (status : ℕ) (text : List ℕ) → AnswersProgram limits program (no_predicates program) status text
      → AnswersTables limits before after None program status text
  with_predicates : (name : List ℕ) (program : Program) (status : ℕ) (text : List ℕ)
      → AnswersText predicates_text (AnswersPredicates limits program) name before after status text
      → AnswersTables limits before after (Some name) program status text

-- What is answered of a program tells of its text whether it is safe.
abbrev pub TablesTellSafety : Type 0
TablesTellSafety = (bytes : List ℕ) (tree : Tree) (program : Program) (limits : Limits) (before after : StoreMeaning) (predicates : Option (List ℕ)) (status : ℕ) (text : List ℕ)
    → IsProgramText bytes tree program → AnswersTables limits before after predicates program status text → TellsSafety tree status text

-- The status and the text that follow from the name of a program's file and, if one is given, that of a file of predicates.
abbrev pub AnswersFiles : Limits → StoreMeaning → StoreMeaning → List ℕ → Option (List ℕ) → ℕ → List ℕ → Type 0
AnswersFiles limits before after program predicates =
    AnswersText program_text (AnswersProgramText (AnswersTables limits before after predicates)) program before after

-- ---- calls

-- The status and the text that follow from the words and the store.
pub data Answers (words : List (List ℕ)) (before after : StoreMeaning) : ℕ → List ℕ → Type 0 where
  -- The words are refused, or ask for what is not built.
  usage : AskForNothingBuilt words → Answers words before after 2 usage_text
  tables : (program : List ℕ) (predicates : Option (List ℕ)) (limits : Limits) (status : ℕ) (text : List ℕ) → AsksTables words program predicates limits
      → AnswersFiles limits before after program predicates status text → Answers words before after status text

-- How a call ends, by its status: its whole answer was written; the sink failed behind a front of it; or there was no memory, and
-- nothing was written.
pub data Ends (words : List (List ℕ)) (before after : StoreMeaning) (old new : SinkMeaning) : ℕ → Type 0 where
  whole : (status : ℕ) (text : List ℕ) → Answers words before after status text → Appends old text new → Ends words before after old new status
  write_fault : (status : ℕ) (text : List ℕ) → Answers words before after status text → WritesFront old text new → Ends words before after old new 6
  no_memory : (program : List ℕ) (predicates : Option (List ℕ)) (limits : Limits) → AsksTables words program predicates limits → new ≡ old
      → Ends words before after old new 7

-- What stays in a call: the store's files and its honesty. No count of the store or of the sink falls.
pub record Frame (before after : StoreMeaning) (old new : SinkMeaning) : Type 0 where
  pub store : KeepsFiles before after
  pub sink : old.faults ≤ new.faults
