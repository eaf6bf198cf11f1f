-- What a table says of the program's text.
use Rattle.std.specs.List.{Contains, flat_map}
use Rattle.std.proofs.Common.{◌≡◌, ℕ, zero, suc, List, [], ◌∷◌, ◌++◌, codes, Option, sym, ap, ◌∙◌, arith, append_assoc}
use Rattle.thr_base.specs.Outside.{StoreMeaning}
use Rattle.thr_base.specs.declared.limits.Limits.{Limits}
use Rattle.thr_base.specs.declared.names.RuleName.TheVariants.{Rg}
use Rattle.lin_rows.specs.Row.{Row}
use Rattle.transition_formula.specs.Program.{Program}
use Rattle.annotation_form.specs.Lines.{lines_text}
use Rattle.horn_rules.specs.Home.{Home, State}
use Rattle.horn_rules.specs.HomeText.{home_text}
use Rattle.horn_rules.specs.Fact.{Fact, Sets}
use Rattle.horn_rules.specs.Least.{LeastSays}
use Rattle.horn_rules.specs.Stored.{sets_of}
use Rattle.horn_rules.specs.Table.{IsTable, fact_line, positions_text}
use Rattle.horn_rules.specs.Cover.{HasNoneFailing, NoRunFails, CoveredLeastIsSafe}
use Rattle.thread_cfg.specs.Laws.{TextsFailAlike}
use Rattle.threader_cli.specs.Answer.{AnswersProgram, table, leaves, many_facts, many_jobs, AnswersPredicates, bad_line, read, AnswersText, unread, read_whole, AnswersUnread, fault, long, AnswersTables, alone, with_predicates, HasFailingLine, TextKind, TablesTellSafety}

-- ---- lines

-- a fact's line without its line feed
bare_line : Fact → List ℕ
bare_line fact = home_text fact.home ++ codes " :" ++ positions_text fact.held

-- a line in front of a text of lines
line_in_front : (fact : Fact) (lines : List (List ℕ)) (more : List ℕ) → fact_line fact ++ (lines_text lines ++ more) ≡ lines_text (bare_line fact ∷ lines) ++ more
unfolding bare_line
line_in_front fact lines more = append_assoc (bare_line fact) (10 ∷ []) (lines_text lines ++ more) ∙ sym (append_assoc (bare_line fact) (10 ∷ lines_text lines) more)

-- The line of the fact stands in the text behind whole lines.
record StandsIn (fact : Fact) (text : List ℕ) : Type 0 where
  pub before : List (List ℕ)
  pub behind : List ℕ
  pub is_there : text ≡ lines_text before ++ fact_line fact ++ behind

-- a fact of a list has its line
line_there : (facts : List Fact) (fact : Fact) (last : List ℕ) → Contains facts fact → StandsIn fact (flat_map fact_line facts ++ last)
line_there [] fact last (k, within, is) = absurd (omega arith)
line_there (other ∷ facts) fact last (zero, within, is) = record {
  before = [];
  behind = flat_map fact_line facts ++ last;
  is_there = append_assoc (fact_line other) (flat_map fact_line facts) last ∙ ap (λ f. fact_line f ++ (flat_map fact_line facts ++ last)) is;
}
line_there (other ∷ facts) fact last (suc k, within, is) =
    let found = line_there facts fact last (k, omega arith, is) in
    record {
      before = bare_line other ∷ found.before;
      behind = found.behind;
      is_there = append_assoc (fact_line other) (flat_map fact_line facts) last
          ∙ ap (λ more. fact_line other ++ more) (found.is_there ∙ append_assoc (lines_text found.before) (fact_line fact) found.behind)
          ∙ line_in_front other found.before (fact_line fact ++ found.behind)
          ∙ sym (append_assoc (lines_text (bare_line other ∷ found.before)) (fact_line fact) found.behind);
    }

-- ---- tables

-- a table without a line at a location 0 is of a set that says nothing there
none-failing : (program : Program) (sets : Sets) (text : List ℕ) (i : ℕ) → IsTable program Rg sets text → ¬ HasFailingLine text
    → HasNoneFailing (LeastSays program Rg sets) i
none-failing program sets text i is none statement (fact, least, says) at =
    let home : fact.home ≡ State i 0 = sym (ap (λ s. s.home) says) ∙ at in
    let found = line_there is.facts fact (codes "end\n") ((is.exact fact).1 least) in
    let same : fact ≡ record { home = State i 0; held = fact.held } = ap (λ (h : Home). record { home = h; held = fact.held }) home in
    none (record {
      before = found.before;
      thread = i;
      held = fact.held;
      behind = found.behind;
      is_there = is.written ∙ found.is_there ∙ ap (λ (f : Fact). lines_text found.before ++ fact_line f ++ found.behind) same;
    })

-- where it is the table of what covers all runs, no run fails
program-safe : {limits : Limits} {program : Program} {lists : List (List Row)} {status : ℕ} {text : List ℕ} → CoveredLeastIsSafe → AnswersProgram limits program lists status text → status ≡ 0 → ¬ HasFailingLine text
    → NoRunFails program
program-safe {program = program} {lists = lists} safe (table text is covers) done none =
    safe program Rg (sets_of program lists) covers (λ i. none-failing program (sets_of program lists) text i is none)
program-safe safe (leaves why) done none = cc
program-safe safe (many_facts why) done none = cc
program-safe safe (many_jobs why) done none = cc

predicates-safe : {limits : Limits} {program : Program} {bytes : List ℕ} {status : ℕ} {text : List ℕ} → CoveredLeastIsSafe → AnswersPredicates limits program bytes status text → status ≡ 0 → ¬ HasFailingLine text
    → NoRunFails program
predicates-safe safe (bad_line n bad) done none = cc
predicates-safe safe (read lists status text is answers) done none = program-safe safe answers done none

-- what is not read whole is answered with another status
unread-other : {kind : TextKind} {name : List ℕ} {before after : StoreMeaning} {status : ℕ} {text : List ℕ} → AnswersUnread kind name before after status text → status ≡ 0 → ⊥
unread-other (fault why) done = cc
unread-other (long why) done = cc

text-safe : {limits : Limits} {kind : TextKind} {program : Program} {name : List ℕ} {before after : StoreMeaning} {status : ℕ} {text : List ℕ} → CoveredLeastIsSafe
    → AnswersText kind (AnswersPredicates limits program) name before after status text → status ≡ 0 → ¬ HasFailingLine text → NoRunFails program
text-safe safe (unread status text why) done none = absurd (unread-other why done)
text-safe safe (read_whole bytes status text within file answers) done none = predicates-safe safe answers done none

tables-safe : {limits : Limits} {before after : StoreMeaning} {predicates : Option (List ℕ)} {program : Program} {status : ℕ} {text : List ℕ} → CoveredLeastIsSafe
    → AnswersTables limits before after predicates program status text → status ≡ 0 → ¬ HasFailingLine text → NoRunFails program
tables-safe safe (alone program status text answers) done none = program-safe safe answers done none
tables-safe safe (with_predicates name program status text answers) done none = text-safe safe answers done none

-- Where the text's program fails as the text does, a table tells of the text whether it is safe.
pub tables-tell-safety : CoveredLeastIsSafe → TextsFailAlike → TablesTellSafety
tables-tell-safety safe alike bytes tree program limits before after predicates status text is answers done none fails =
    let run = (alike bytes tree program is).1 fails in
    tables-safe safe answers done none run.0 run.1 run.2 run.3
