-- How answers follow from those of the parts.
use Rattle.std.specs.List.{Contains}
use Rattle.std.proofs.Common.{◌≡◌, ◌↔◌, ◌≤◌, ℕ, zero, suc, ◌+◌, ◌-◌, min, List, [], length, map, slice_get, Option, Some, option_map, Result, Ok, Err, IfOk, IsTrue, refl, sym, ap, subst, ◌∙◌, arith}
use Rattle.std.proofs.lemmas.List.{length-map}
use Rattle.std.proofs.lemmas.Option.{slice_get-map, get_or_from_slice_get}
use Rattle.thr_base.specs.Outside.{StoreMeaning, SinkMeaning, Files, Lacks, Rose, count_end}
use Rattle.thr_base.specs.Reading.{IsFileNamed, IsLonger, StopsReading, KeepsFiles}
use Rattle.thr_base.specs.declared.limits.Limits.{Limits}
use Rattle.thr_base.specs.declared.names.Fact.{Fact as StoredFact}
use Rattle.thr_base.specs.declared.names.RuleName.{RuleName}
use Rattle.thr_base.specs.declared.names.RuleName.TheVariants.{Rg}
use Rattle.thr_base.specs.declared.stops.ReadStop.{ReadStop}
use Rattle.thr_base.specs.declared.stops.ReadStop.TheVariants.{Fault, TooLong, Memory}
use Rattle.lin_rows.specs.Row.{Row}
use Rattle.transition_formula.specs.Program.{Program, at_number}
use Rattle.predicate_sets.specs.Sets.{set_at}
use Rattle.horn_rules.specs.Home.{Home, homes}
use Rattle.horn_rules.specs.Stored.{facts_of, sets_of, AreStoredSetsOf}
use Rattle.annotation_form.specs.Predicates.{IsReadAs, home_atoms}
use Rattle.horn_rules.specs.Fact.{Sets, Fact, IsSetOf}
use Rattle.horn_rules.specs.Least.{Least}
use Rattle.horn_rules.specs.Table.{IsTable}
use Rattle.serial_fix.specs.Least.{AreLeast}
use Rattle.threader_cli.specs.Answer.{TextKind, AsksTables, AnswersProgram, table, AnswersUnread, fault, long, AnswersText, unread, read_whole, AnswersProgramText, refused, accepted, AnswersTables, alone, with_predicates, AnswersFiles, program_text, Answers, tables, Ends, whole, write_fault, Frame}
use Rattle.threader_cli.specs.declared.answer.Answer.{Answer}
use Rattle.threader_cli.specs.inside.Parts.{Wrote, all, front}

-- ---- answers that are passed on

-- a status and a text that are said, where they answer
pub said : {E : Type 0} (Gives : ℕ → List ℕ → Type 0) (made : Result Answer E) (status : ℕ) (text : List ℕ)
    → IfOk made (λ answer. (answer.status ≡ status) × (answer.text.items ≡ text)) → Gives status text → IfOk made (λ answer. Gives answer.status answer.text.items)
said Gives (Ok answer) status text h gives = rw (h.0, h.1) gives
said Gives (Err stop) status text h gives = tt

-- an answer of a part, where it is one of the whole
pub passed : {E : Type 0} (Part Whole : ℕ → List ℕ → Type 0) (made : Result Answer E) → ((status : ℕ) (text : List ℕ) → Part status text → Whole status text)
    → IfOk made (λ answer. Part answer.status answer.text.items) → IfOk made (λ answer. Whole answer.status answer.text.items)
passed Part Whole (Ok answer) on h = on answer.status answer.text.items h
passed Part Whole (Err stop) on h = tt

-- ---- stores

min-earlier : (a b c e : ℕ) → a ≤ b → min b e ≤ c → min a e ≤ c
min-earlier a b c e le below = omega arith

Rose-earlier : (before between after : ℕ) → before ≤ between → Rose between after → Rose before after
Rose-earlier before between after le rose = record {
  kept = (let kept = rose.kept in omega arith);
  rose = min-earlier (before + 1) (between + 1) after count_end (omega arith) rose.rose;
}

-- why a file is not read, told of an earlier time
pub StopsReading-earlier : (stop : ReadStop) (before between after : StoreMeaning) (name : List ℕ) (limit : ℕ) → KeepsFiles before between
    → StopsReading between name limit stop after → StopsReading before name limit stop after
StopsReading-earlier Fault before between after name limit kept h = (
  Rose-earlier before.faults between.faults after.faults kept.faults h.0,
  λ honest. subst (λ (files : Option Files). Lacks files name) kept.files (h.1 (subst IsTrue (sym kept.honest) honest)),
)
StopsReading-earlier TooLong before between after name limit kept h = (
  min-earlier (before.taken + limit + 1) (between.taken + limit + 1) after.taken count_end (let le = kept.taken in omega arith) h.0,
  subst (λ (files : Option Files). IsLonger files name limit) kept.files h.1,
)
StopsReading-earlier Memory before between after name limit kept h = tt

-- what stays in two calls, one behind the other
pub KeepsFiles-trans : (before between after : StoreMeaning) → KeepsFiles before between → KeepsFiles between after → KeepsFiles before after
KeepsFiles-trans before between after first second = record {
  files = second.files ∙ first.files;
  honest = second.honest ∙ first.honest;
  taken = (let one = first.taken in let two = second.taken in omega arith);
  faults = (let one = first.faults in let two = second.faults in omega arith);
}

-- nothing happened
pub KeepsFiles-refl : (store : StoreMeaning) → KeepsFiles store store
KeepsFiles-refl store = record { files = refl; honest = refl; taken = omega arith; faults = omega arith }

-- why a text is not read, told of an earlier time
pub AnswersUnread-earlier : {kind : TextKind} {name : List ℕ} {between after : StoreMeaning} {status : ℕ} {text : List ℕ} (before : StoreMeaning)
    → KeepsFiles before between → AnswersUnread kind name between after status text → AnswersUnread kind name before after status text
AnswersUnread-earlier {kind = kind} {name = name} {between = between} {after = after} before kept (fault why) =
    fault (StopsReading-earlier Fault before between after name kind.limit kept why)
AnswersUnread-earlier {kind = kind} {name = name} {between = between} {after = after} before kept (long why) =
    long (StopsReading-earlier TooLong before between after name kind.limit kept why)

-- the answer of a text, told of an earlier time
pub AnswersText-earlier : {kind : TextKind} {OfBytes : List ℕ → ℕ → List ℕ → Type 0} {name : List ℕ} {between after : StoreMeaning} {status : ℕ} {text : List ℕ} (before : StoreMeaning)
    → KeepsFiles before between → AnswersText kind OfBytes name between after status text → AnswersText kind OfBytes name before after status text
AnswersText-earlier before kept (unread status text why) = unread status text (AnswersUnread-earlier before kept why)
AnswersText-earlier {name = name} before kept (read_whole bytes status text within file answers) =
    read_whole bytes status text within (subst (λ (files : Option Files). IsFileNamed files name bytes) kept.files file) answers

-- the answer of a program and a second file, told of an earlier time
pub AnswersTables-earlier : {limits : Limits} {between after : StoreMeaning} {predicates : Option (List ℕ)} {program : Program} {status : ℕ} {text : List ℕ} (before : StoreMeaning)
    → KeepsFiles before between → AnswersTables limits between after predicates program status text → AnswersTables limits before after predicates program status text
AnswersTables-earlier before kept (alone program status text answers) = alone program status text answers
AnswersTables-earlier before kept (with_predicates name program status text answers) =
    with_predicates name program status text (AnswersText-earlier before kept answers)

-- the answer of a program's text where what follows from its program is told of an earlier time
pub AnswersProgramText-earlier : {limits : Limits} {between after : StoreMeaning} {predicates : Option (List ℕ)} {bytes : List ℕ} {status : ℕ} {text : List ℕ} (before : StoreMeaning)
    → KeepsFiles before between → AnswersProgramText (AnswersTables limits between after predicates) bytes status text
    → AnswersProgramText (AnswersTables limits before after predicates) bytes status text
AnswersProgramText-earlier before kept (refused refusal why) = refused refusal why
AnswersProgramText-earlier before kept (accepted tree program status text is answers tells) =
    accepted tree program status text is (AnswersTables-earlier before kept answers) tells

-- ---- predicates

-- each home has its list where a list is made of each home
mapped-at : (give : Home → List Row) (hs : List Home) (n : ℕ) (home : Home) → at_number hs n ≡ Some home → set_at (map give hs) n ≡ give home
mapped-at give hs zero home is = cc
mapped-at give hs (suc k) home is =
    let same : suc k - 1 ≡ k = omega arith in
    get_or_from_slice_get (map give hs) (suc k - 1) (give home) [] (ap (slice_get (map give hs)) same ∙ slice_get-map give hs k ∙ ap (option_map give) is)

-- what is read is a list of predicates for each home
pub IsReadAs-stored : (program : Program) (bytes : List ℕ) (lists : List (List Row)) → IsReadAs program bytes lists → AreStoredSetsOf program lists
IsReadAs-stored program bytes lists read =
    let give = λ (home : Home). home_atoms home read.predicates in
    record {
      one_each = ap length read.sets_are ∙ length-map (homes program) give;
      sets_are = λ n home is.
          subst (IsSetOf program home) (sym (ap (λ (ls : List (List Row)). set_at ls n) read.sets_are ∙ mapped-at give (homes program) n home is))
          (read.is_text.allowed.are_sets home);
    }

-- ---- tables

-- the table of the least set
pub table-answers : (limits : Limits) (program : Program) (lists : List (List Row)) (facts held : List StoredFact) (text : List ℕ) → AreLeast program lists facts → held ≡ facts
    → ((rule : RuleName) (sets : Sets) → ((fact : Fact) → Contains (facts_of program held) fact ↔ Least program rule sets fact) → IsTable program rule sets text)
    → AnswersProgram limits program lists 0 text
table-answers limits program lists facts held text least are written =
    table text (written Rg (sets_of program lists) (subst (AreLeast program lists) (sym are) least).exact) least.covers

-- ---- programs with a second file

-- a choice that is known, in the answer of a program
pub tables-given : {E : Type 0} (limits : Limits) (before after : StoreMeaning) (program : Program) (given known : Option (List ℕ)) (made : Result Answer E) → given ≡ known
    → IfOk made (λ answer. AnswersTables limits before after known program answer.status answer.text.items)
    → IfOk made (λ answer. AnswersTables limits before after given program answer.status answer.text.items)
tables-given limits before after program given known made same h =
    subst (λ (names : Option (List ℕ)). IfOk made (λ answer. AnswersTables limits before after names program answer.status answer.text.items)) (sym same) h

-- the answer of a program whose text is whole, told of the time before it was read
pub whole-files : {E : Type 0} (limits : Limits) (before between after : StoreMeaning) (name : List ℕ) (predicates : Option (List ℕ)) (made : Result Answer E) (bytes held : List ℕ)
    → KeepsFiles before between → length bytes ≤ program_text.limit → IsFileNamed before.files name bytes → held ≡ bytes
    → IfOk made (λ answer. AnswersProgramText (AnswersTables limits between after predicates) held answer.status answer.text.items)
    → IfOk made (λ answer. AnswersFiles limits before after name predicates answer.status answer.text.items)
whole-files limits before between after name predicates made bytes held kept within file same h =
    passed (AnswersProgramText (AnswersTables limits between after predicates) held) (AnswersFiles limits before after name predicates) made
    (λ status text answers. read_whole bytes status text within file
    (AnswersProgramText-earlier before kept (subst (λ (bs : List ℕ). AnswersProgramText (AnswersTables limits between after predicates) bs status text) same answers))) h

-- ---- calls

pub ends_by : {words : List (List ℕ)} {before after : StoreMeaning} {old new : SinkMeaning} (status result : ℕ) (text : List ℕ)
    → Answers words before after status text → Wrote old text new status result → Ends words before after old new result
ends_by status result text answers (all written) = whole status text answers written
ends_by status result text answers (front written) = write_fault status text answers written

-- the answer to words, of which the text is held
pub asked-held : {words : List (List ℕ)} {before after : StoreMeaning} {program : List ℕ} {predicates : Option (List ℕ)} {limits : Limits} {status : ℕ} (text held : List ℕ)
    → AsksTables words program predicates limits → held ≡ text → AnswersFiles limits before after program predicates status text → Answers words before after status held
asked-held {words = words} {before = before} {after = after} {program = program} {predicates = predicates} {limits = limits} {status = status} text held asked same answers =
    subst (λ (t : List ℕ). Answers words before after status t) (sym same) (tables program predicates limits status text asked answers)

-- what stays in a call that writes
pub Frame-wrote : {before after : StoreMeaning} {old new : SinkMeaning} {status result : ℕ} {text : List ℕ} → KeepsFiles before after → Wrote old text new status result
    → Frame before after old new
Frame-wrote kept (all written) = record { store = kept; sink = written.kept }
Frame-wrote kept (front written) = record { store = kept; sink = written.rose.kept }

-- what stays in a call that does not write
pub Frame-silent : (before after : StoreMeaning) (sink : SinkMeaning) → KeepsFiles before after → Frame before after sink sink
Frame-silent before after sink kept = record { store = kept; sink = omega arith }
