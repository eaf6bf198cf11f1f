-- The text of a set of facts.
use Rattle.std.specs.Prelude.{◌≡◌, ◌↔◌, ℕ, pos, List, ◌++◌, codes, flat_map, Contains, AllPairs}
use Rattle.std.specs.Ordering.{nat_cmp, ordering_then}
use Rattle.std.specs.Cmp.Lexicographic.{slice_cmp}
use Rattle.std.specs.declared.cmp.Ordering.{Ordering}
use Rattle.std.specs.declared.cmp.Ordering.TheVariants.{Less, Greater}
use Rattle.thr_base.specs.Number.{number_text}
use Rattle.thr_base.specs.declared.names.RuleName.{RuleName}
use Rattle.transition_formula.specs.Program.{Program}
use Rattle.horn_rules.specs.Home.{Home, State, Env}
use Rattle.horn_rules.specs.HomeText.{home_text}
use Rattle.horn_rules.specs.Fact.{Sets, Fact}
use Rattle.horn_rules.specs.Least.{Least}

-- homes at locations by thread and location, then those at edges by thread and edge
abbrev pub home_order : Home → Home → Ordering
home_order (State i l) (State k m) = ordering_then (nat_cmp i k) (nat_cmp l m)
home_order (State i l) (Env k e) = Less
home_order (Env i e) (State k l) = Greater
home_order (Env i e) (Env k g) = ordering_then (nat_cmp i k) (nat_cmp e g)

-- the order of tables: by home, and at one home by the first position that differs, a prefix first
abbrev pub fact_order : Fact → Fact → Ordering
fact_order a b = ordering_then (home_order a.home b.home) (slice_cmp nat_cmp a.held b.held)

-- The fact stands before the other one in tables.
abbrev pub Precedes : Fact → Fact → Type 0
Precedes a b = fact_order a b ≡ Less

-- the positions, each behind a blank
abbrev pub positions_text : List ℕ → List ℕ
positions_text held = flat_map (λ k. codes " " ++ number_text (pos k)) held

-- the line of a fact
abbrev pub fact_line : Fact → List ℕ
fact_line fact = home_text fact.home ++ codes " :" ++ positions_text fact.held ++ codes "\n"

-- The text has a line for each fact of which this is said, in order, and `end`.
pub record IsTableOf (Stands : Fact → Type 0) (text : List ℕ) : Type 0 where
  pub facts : List Fact
  pub rising : AllPairs Precedes facts
  pub exact : (fact : Fact) → Contains facts fact ↔ Stands fact
  pub written : text ≡ flat_map fact_line facts ++ codes "end\n"

-- The text is that of the least set, where homes have these predicates.
abbrev pub IsTable : Program → RuleName → Sets → List ℕ → Type 0
IsTable program rule sets text = IsTableOf (Least program rule sets) text
