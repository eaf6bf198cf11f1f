-- The text of an annotation: a heading, its predicates, its facts, a group of lines for each check, and a last line `end`.
use Rattle.std.specs.Prelude.{◌≡◌, ◌≤◌, ℕ, ℤ, pos, List, [], ◌∷◌, ◌++◌, length, map, flat_map, unwrap_or, codes}
use Rattle.std.specs.List.{AllByRecursion}
use Rattle.thr_base.specs.Limits.{most_predicates}
use Rattle.thr_base.specs.Number.{number_text}
use Rattle.thr_base.specs.declared.names.RuleName.{RuleName}
use Rattle.thr_base.specs.declared.names.RuleName.TheVariants.{Rg, Og}
use Rattle.lin_rows.specs.Row.{Row}
use Rattle.farkas_cert.specs.Cert.{Pairs}
use Rattle.transition_formula.specs.Program.{Program, at_number}
use Rattle.horn_rules.specs.Home.{Home, homes}
use Rattle.horn_rules.specs.HomeText.{home_text}
use Rattle.horn_rules.specs.Fact.{Fact}
use Rattle.horn_rules.specs.Stored.{facts_of}
use Rattle.horn_rules.specs.Table.{positions_text}
use Rattle.annotation_form.specs.Annotation.{Annotation, Group, Refuted, Gives}
use Rattle.annotation_form.specs.Lines.{lines_text}
use Rattle.annotation_form.specs.Predicates.{Predicate, predicate_text}
use Rattle.annotation_form.specs.Whole.{IsWhole}

-- a line between the heading and the last line
pub data Line : Type 0 where
  -- a predicate, at its home
  Holds : Predicate → Line
  -- a fact, as tables have it
  Listed : Fact → Line
  -- the certificate that refutes an instance
  Refutes : Pairs → Line
  -- the number of the fact that an instance gives
  GivesFact : ℕ → Line
  -- the certificate of an atom of that fact
  Entails : Pairs → Line

-- a row and its multiplier
abbrev pub pair_text : ℕ × ℤ → List ℕ
pair_text (row, multiplier) = codes " " ++ (number_text (pos row) ++ (codes ":" ++ number_text multiplier))

abbrev pub pairs_text : Pairs → List ℕ
pairs_text pairs = flat_map pair_text pairs

abbrev pub fact_text : Fact → List ℕ
fact_text fact = home_text fact.home ++ codes " :" ++ positions_text fact.held

-- the text of a line, without its line feed
abbrev pub line_text : Program → Line → List ℕ
line_text program (Holds predicate) = codes "p " ++ predicate_text program predicate
line_text program (Listed fact) = codes "f " ++ fact_text fact
line_text program (Refutes pairs) = codes "r" ++ pairs_text pairs
line_text program (GivesFact n) = codes "t " ++ number_text (pos n)
line_text program (Entails pairs) = codes "a" ++ pairs_text pairs

-- the lines of lists of predicates, one for each home, at a home in their order
abbrev pub predicate_lines : List Home → List (List Row) → List Line
predicate_lines [] lists = []
predicate_lines (home ∷ homes) [] = []
predicate_lines (home ∷ homes) (atoms ∷ lists) = map (λ atom. Holds (record { home = home; atom = atom })) atoms ++ predicate_lines homes lists

-- the certificate of a number, where it is there
abbrev pub certificate_at : List Pairs → ℕ → Pairs
certificate_at certificates c = unwrap_or (at_number certificates c) []

-- the lines of a group, with the certificates that it names
abbrev pub group_lines : List Pairs → Group → List Line
group_lines certificates (Refuted c) = Refutes (certificate_at certificates c) ∷ []
group_lines certificates (Gives n numbers) = GivesFact n ∷ map (λ c. Entails (certificate_at certificates c)) numbers

-- the lines of an annotation
abbrev pub lines_of : Program → Annotation → List Line
lines_of program annotation =
    predicate_lines (homes program) annotation.sets
    ++ (map Listed (facts_of program annotation.facts) ++ flat_map (group_lines annotation.certificates) annotation.groups)

abbrev pub heading : RuleName → List ℕ
heading Rg = codes "SAFE 1 rg"
heading Og = codes "SAFE 1 og"

abbrev pub text_of_annotation : Program → Annotation → List ℕ
text_of_annotation program annotation = lines_text (heading annotation.rule ∷ (map (line_text program) (lines_of program annotation) ++ codes "end" ∷ []))

-- The text is that of a whole annotation of rely-guarantee; no home has too many predicates.
pub record IsAnnotationText (program : Program) (annotation : Annotation) (text : List ℕ) : Type 0 where
  pub whole : IsWhole program annotation
  pub by_rule : annotation.rule ≡ Rg
  pub few : AllByRecursion (λ atoms. length atoms ≤ most_predicates) annotation.sets
  pub text_is : text ≡ text_of_annotation program annotation

-- The text is that of some annotation.
abbrev pub IsTextOfAnnotation : Program → List ℕ → Type 0
IsTextOfAnnotation program text = (annotation : Annotation) × IsAnnotationText program annotation text
