-- The live facts of a table, as those of a state.
use Rattle.std.proofs.Common.{◌≡◌, ◌≤◌, ℕ, false, List, [], ◌∷◌, ◌++◌, map, Option, Some, None, refl, sym, ap, ap₂, ◌∙◌, inl, inr, arith}
use Rattle.std.specs.Prelude.{◌==◌, option_map, reverse}
use Rattle.std.specs.Option.{option_and_then}
use Rattle.std.proofs.lemmas.List.{map-append, reverse-append}
use Rattle.std.proofs.lemmas.Grind.{reverse_onto}
use Rattle.thr_base.specs.Held.{Rise}
use Rattle.thr_base.specs.declared.names.Instance.{Instance as StoredInstance}
use Rattle.transition_formula.specs.Program.{Program}
use Rattle.fact_table.specs.declared.live_fact.LiveFact.{LiveFact}
use Rattle.fact_table.specs.Live.{live_at}
use Rattle.horn_rules.specs.Fact.{Fact}
use Rattle.horn_rules.specs.Instance.{first_of, second_of}
use Rattle.horn_rules.specs.Stored.{fact_of, home_numbered, instance_of}
use Rattle.horn_rules.specs.Target.{target_at}
use Rattle.horn_rules.proofs.InstanceLists.{eq-is}
use Rattle.derivation_tree.specs.Facts.{KeptFact, fact_at, home_at, target_among}
use Rattle.pending_instances.specs.Open.{home_live, target_in}
use Rattle.core_steps.specs.Readers.{kept_of, newest}
use Rattle.core_steps.proofs.Tests.{tells}

pub newest-cons : (program : Program) (f : LiveFact) (live : List LiveFact) → newest program (f ∷ live) ≡ newest program live ++ kept_of program f ∷ []
newest-cons program f live = reverse_onto (map (kept_of program) live) (kept_of program f) []

-- a fact that comes is the newest
pub newest-more : (program : Program) (live : List LiveFact) (f : LiveFact) → newest program (live ++ f ∷ []) ≡ kept_of program f ∷ newest program live
newest-more program live f = ap reverse (map-append (kept_of program) live (f ∷ [])) ∙ reverse-append (map (kept_of program) live) (kept_of program f ∷ [])

-- ---- facts by their ids

fact_at-front : (xs ys : List KeptFact) (id : ℕ) (fact : Fact) → fact_at xs id ≡ Some fact → fact_at (xs ++ ys) id ≡ Some fact
fact_at-front [] ys id fact e = absurd cc
fact_at-front (x ∷ xs) ys id fact e = elim (tells (x.id == id)) [
  | inl hit ↦
      let at : fact_at (x ∷ xs) id ≡ Some x.fact = rw hit refl in
      let more : fact_at (x ∷ (xs ++ ys)) id ≡ Some x.fact = rw hit refl in
      more ∙ sym at ∙ e
  | inr miss ↦
      let at : fact_at (x ∷ xs) id ≡ fact_at xs id = rw miss refl in
      let more : fact_at (x ∷ (xs ++ ys)) id ≡ fact_at (xs ++ ys) id = rw miss refl in
      more ∙ fact_at-front xs ys id fact (sym at ∙ e)
]

fact_at-back : (xs ys : List KeptFact) (id : ℕ) → fact_at xs id ≡ None → fact_at (xs ++ ys) id ≡ fact_at ys id
fact_at-back [] ys id e = refl
fact_at-back (x ∷ xs) ys id e = elim (tells (x.id == id)) [
  | inl hit ↦ let at : fact_at (x ∷ xs) id ≡ Some x.fact = rw hit refl in let wrong : Some x.fact ≡ None = sym at ∙ e in absurd cc
  | inr miss ↦
      let at : fact_at (x ∷ xs) id ≡ fact_at xs id = rw miss refl in
      let more : fact_at (x ∷ (xs ++ ys)) id ≡ fact_at (xs ++ ys) id = rw miss refl in
      more ∙ fact_at-back xs ys id (sym at ∙ e)
]

-- ids that rise from above are not there
live_at-below : (low : ℕ) (live : List LiveFact) (id : ℕ) → Rise low (map (λ f. f.id.0) live) → id ≤ low → live_at live id ≡ None
live_at-below low [] id rise le = refl
live_at-below low (f ∷ live) id rise le = elim (tells (f.id.0 == id)) [
  | inl hit ↦ let same = eq-is f.id.0 id hit in absurd (omega (arith, same, rise.0, le))
  | inr miss ↦
      let at : live_at (f ∷ live) id ≡ live_at live id = rw miss refl in
      at ∙ live_at-below f.id.0 live id rise.1 (omega (arith, rise.0, le))
]

abbrev said : Program → Option LiveFact → Option Fact
said program o = option_map (λ f. fact_of program (LiveFact.fact f)) o

snoc-miss : (program : Program) (f : LiveFact) (live : List KeptFact) (id : ℕ) (o : Option LiveFact) → (f.id.0 == id) ≡ false → fact_at live id ≡ said program o
    → fact_at (live ++ kept_of program f ∷ []) id ≡ said program o
snoc-miss program f live id None miss is =
    let none : fact_at (kept_of program f ∷ []) id ≡ None = rw miss refl in
    fact_at-back live (kept_of program f ∷ []) id is ∙ none
snoc-miss program f live id (Some g) miss is = fact_at-front live (kept_of program f ∷ []) id (fact_of program g.fact) is

pub fact-newest : (program : Program) (low : ℕ) (live : List LiveFact) (id : ℕ) → Rise low (map (λ f. f.id.0) live)
    → fact_at (newest program live) id ≡ option_map (λ f. fact_of program f.fact) (live_at live id)
fact-newest program low [] id rise = refl
fact-newest program low (f ∷ live) id rise =
    let rest = fact-newest program f.id.0 live id rise.1 in
    ap (λ xs. fact_at xs id) (newest-cons program f live)
    ∙ elim (tells (f.id.0 == id)) as (λ x. fact_at (newest program live ++ kept_of program f ∷ []) id ≡ said program (live_at (f ∷ live) id)) [
      | inl hit ↦
          let gone = live_at-below f.id.0 live id rise.1 (let same = eq-is f.id.0 id hit in omega (arith, same)) in
          let here : fact_at (kept_of program f ∷ []) id ≡ Some (fact_of program f.fact) = rw hit refl in
          let found : live_at (f ∷ live) id ≡ Some f = rw hit refl in
          fact_at-back (newest program live) (kept_of program f ∷ []) id (rest ∙ ap (said program) gone) ∙ here ∙ sym (ap (said program) found)
      | inr miss ↦
          let found : live_at (f ∷ live) id ≡ live_at live id = rw miss refl in
          snoc-miss program f (newest program live) id (live_at live id) miss rest ∙ sym (ap (said program) found)
    ]

-- ---- homes and targets

map-twice : (program : Program) (o : Option LiveFact) → option_map (λ fact. Fact.home fact) (option_map (λ f. fact_of program (LiveFact.fact f)) o) ≡ option_map (λ f. home_numbered program (LiveFact.fact f).home.0) o
map-twice program None = refl
map-twice program (Some f) = refl

pub home-newest : (program : Program) (low : ℕ) (live : List LiveFact) (id : ℕ) → Rise low (map (λ f. f.id.0) live) → home_at (newest program live) id ≡ home_live program live id
home-newest program low live id rise = ap (option_map (λ fact. Fact.home fact)) (fact-newest program low live id rise) ∙ map-twice program (live_at live id)

each-way : (program : Program) (low : ℕ) (live : List LiveFact) (o : Option ℕ) → Rise low (map (λ f. f.id.0) live)
    → option_and_then (home_at (newest program live)) o ≡ option_and_then (home_live program live) o
each-way program low live None rise = refl
each-way program low live (Some id) rise = home-newest program low live id rise

pub target-newest : (program : Program) (live : List LiveFact) (instance : StoredInstance) → Rise 0 (map (λ f. f.id.0) live)
    → target_among program (newest program live) (instance_of instance) ≡ target_in program live instance
target-newest program live instance rise =
    ap₂ (target_at program (instance_of instance)) (each-way program 0 live (first_of (instance_of instance)) rise) (each-way program 0 live (second_of (instance_of instance)) rise)
