-- An instance is one turn of one series.
use Rattle.std.proofs.Common.{◌≡◌, ℕ, zero, suc, ◌<◌, ◌⊎◌, inl, inr, eqb, Bool, true, ◌&&◌, List, [], ◌∷◌, length, map, get_or, Option, Some, None, refl, ap, sym, ◌∙◌, subst, arith}
use Rattle.std.proofs.lemmas.Bool.{and_parts, cases_order, eqb-true}
use Rattle.std.specs.List.{Contains, slice_get}
use Rattle.thr_base.specs.Held.{Rise}
use Rattle.thr_base.specs.declared.names.EdgeNo.{EdgeNo}
use Rattle.thr_base.specs.declared.names.FactId.{FactId}
use Rattle.thr_base.specs.declared.names.HomeNo.{HomeNo}
use Rattle.thr_base.specs.declared.names.Instance.TheVariants.{Init, Own as OwnStep, Guar, Inter}
use Rattle.thr_base.specs.declared.names.RuleName.{RuleName}
use Rattle.thr_base.specs.declared.names.RuleName.TheVariants.{Rg, Og}
use Rattle.fact_table.specs.declared.live_fact.LiveFact.{LiveFact}
use Rattle.fact_table.specs.Live.{premises_of}
use Rattle.instance_cursors.specs.declared.layout.EdgeHomes.{EdgeHomes}
use Rattle.instance_cursors.specs.declared.turns.Series.{Series}
use Rattle.instance_cursors.specs.declared.turns.Series.TheVariants.{Own, Told, Beside}
use Rattle.instance_cursors.specs.declared.turns.Turn.{Turn}
use Rattle.instance_cursors.specs.Instances.{beside, edge_number, instance_of, step_number}
use Rattle.instance_cursors.specs.Layout.{are_apart, has_source, has_step, home_at, is_step_home, is_told, leads_from, leaves}
use Rattle.instance_cursors.specs.Turns.{turn_at}
use Rattle.instance_cursors.specs.Waiting.{IsSeries}
use Rattle.instance_cursors.specs.Ways.{AreApart, Layout}
use Rattle.instance_cursors.specs.inside.Found.{last_id}
use Rattle.instance_cursors.proofs.HeadSearch.{strictly}

-- ---- ids

pub id_is : (one other : FactId) → one.0 ≡ other.0 → one ≡ other
id_is one other e = let made : ℕ → FactId = λ n. record { 0 = n } in ap made e

home_is : (one other : HomeNo) → one.0 ≡ other.0 → one ≡ other
home_is one other e = let made : ℕ → HomeNo = λ n. record { 0 = n } in ap made e

at_default : (live : List LiveFact) (k : ℕ) (d e : LiveFact) → k < length live → get_or live k d ≡ get_or live k e
at_default [] k d e lt = absurd (omega arith)
at_default (f ∷ live) zero d e lt = refl
at_default (f ∷ live) (suc k) d e lt = at_default live k d e (omega arith)

-- a live fact is told by its id
pub same_fact : (live : List LiveFact) (f g : LiveFact) → Rise 0 (map (λ h. h.id.0) live) → Contains live f → Contains live g → f.id.0 ≡ g.id.0 → f ≡ g
same_fact live f g rise has_f has_g e =
    let f_id = ap (λ (h : LiveFact). h.id.0) has_f.2 in
    let g_id = ap (λ (h : LiveFact). h.id.0) has_g.2 in
    let f_at = ap (λ (h : LiveFact). h.id.0) (at_default live has_f.0 f g has_f.1) in
    elim (cases_order has_f.0 has_g.0) [
      | inl same ↦ sym has_f.2 ∙ (at_default live has_f.0 f g has_f.1 ∙ (ap (λ n. get_or live n g) same ∙ has_g.2))
      | inr differ ↦ elim differ [
        | inl less ↦ let lower = strictly 0 live rise has_f.0 has_g.0 g less has_g.1 in absurd (omega (arith, lower, f_id, g_id, f_at, e))
        | inr more ↦ let lower = strictly 0 live rise has_g.0 has_f.0 g more has_f.1 in absurd (omega (arith, lower, f_id, g_id, f_at, e))
      ]
    ]

last_id-beside : (rule : RuleName) (layout : Layout) (id : FactId) (turn : Turn) → last_id (beside rule layout id turn) ≡ turn.id
last_id-beside Rg layout id turn = refl
last_id-beside Og layout id turn = refl

pub last_id-instance_of : (layout : Layout) (series : Series) (turn : Turn) → last_id (instance_of layout series turn) ≡ turn.id
last_id-instance_of layout (Own edge) turn = refl
last_id-instance_of layout (Told edge) turn = refl
last_id-instance_of layout (Beside home id) turn = last_id-beside layout.rule layout id turn

-- ---- premises

premises-beside : (rule : RuleName) (layout : Layout) (id : FactId) (turn : Turn) → premises_of (beside rule layout id turn) ≡ id ∷ turn.id ∷ []
premises-beside Rg layout id turn = refl
premises-beside Og layout id turn = refl

second_of_two : (one two : FactId) → Contains (one ∷ two ∷ []) two
second_of_two one two = (1, omega arith, refl)

pub has_last : (layout : Layout) (series : Series) (turn : Turn) → Contains (premises_of (instance_of layout series turn)) turn.id
has_last layout (Own edge) turn = (0, omega arith, refl)
has_last layout (Told edge) turn = (0, omega arith, refl)
has_last layout (Beside home id) turn =
    let Has : List FactId → Type 0 = λ ids. Contains ids turn.id in
    subst Has (sym (premises-beside layout.rule layout id turn)) (second_of_two id turn.id)

pub has_first : (layout : Layout) (home : HomeNo) (id : FactId) (turn : Turn) → Contains (premises_of (instance_of layout (Beside home id) turn)) id
has_first layout home id turn =
    let Has : List FactId → Type 0 = λ ids. Contains ids id in
    subst Has (sym (premises-beside layout.rule layout id turn)) (0, omega arith, refl)

-- which ids an instance of a series has
abbrev pub FirstIs : Series → FactId → Type 0
FirstIs (Own edge) id = ⊥
FirstIs (Told edge) id = ⊥
FirstIs (Beside home first) id = first ≡ id

one_only : (one id : FactId) (k : ℕ) → k < 1 → get_or (one ∷ []) k id ≡ id → one ≡ id
one_only one id zero lt is = is
one_only one id (suc k) lt is = absurd (omega arith)

two_only : (one two id : FactId) (k : ℕ) → k < 2 → get_or (one ∷ two ∷ []) k id ≡ id → (one ≡ id) ⊎ (two ≡ id)
two_only one two id zero lt is = inl is
two_only one two id (suc zero) lt is = inr is
two_only one two id (suc (suc k)) lt is = absurd (omega arith)

pub has_one_of : (layout : Layout) (series : Series) (turn : Turn) (id : FactId) → Contains (premises_of (instance_of layout series turn)) id → FirstIs series id ⊎ (turn.id ≡ id)
has_one_of layout (Own edge) turn id has = inr (one_only turn.id id has.0 has.1 has.2)
has_one_of layout (Told edge) turn id has = inr (one_only turn.id id has.0 has.1 has.2)
has_one_of layout (Beside home first) turn id has =
    let Has : List FactId → Type 0 = λ ids. Contains ids id in
    let both = subst Has (premises-beside layout.rule layout first turn) has in
    two_only first turn.id id both.0 both.1 both.2

-- ---- edges

record EdgeAt (layout : Layout) (edge home : ℕ) : Type 0 where
  one : EdgeHomes
  is_there : slice_get layout.edges edge ≡ Some one
  source : one.source.0 ≡ home
  number : edge_number layout edge ≡ one.edge

number_of : Option EdgeHomes → EdgeNo
number_of None = record { 0 = 0 }
number_of (Some edge) = edge.edge

edge_from_some : (layout : Layout) (edge home : ℕ) (o : Option EdgeHomes) → slice_get layout.edges edge ≡ o → leads_from o home ≡ true → EdgeAt layout edge home
edge_from_some layout edge home None is leads = cc
edge_from_some layout edge home (Some one) is leads = record {
  one = one;
  is_there = is;
  source = eqb-true one.source.0 home leads;
  number = let number : Option EdgeHomes → EdgeNo = λ o. elim o [ None ↦ record { 0 = 0 } | Some e ↦ e.edge ] in ap number is;
}

edge_there : (layout : Layout) (edge home : ℕ) → has_source layout edge home ≡ true → EdgeAt layout edge home
edge_there layout edge home leads = edge_from_some layout edge home (slice_get layout.edges edge) refl leads

pub same_edge : (layout : Layout) (edge other home : ℕ) → AreApart layout.edges → has_source layout edge home ≡ true → has_source layout other home ≡ true
    → edge_number layout edge ≡ edge_number layout other → edge ≡ other
same_edge layout edge other home apart leads leads_too same =
    let one = edge_there layout edge home leads in
    let two = edge_there layout other home leads_too in
    apart edge other one.one two.one one.is_there two.is_there (home_is one.one.source two.one.source (one.source ∙ sym two.source)) (sym one.number ∙ (same ∙ two.number))

-- ---- steps

record Leaves (rule : RuleName) (layout : Layout) (home : ℕ) (id other : FactId) (one two : Turn) : Type 0 where
  apart : AreApart layout.edges
  one_there : leaves rule layout home one.step ≡ true
  two_there : leaves rule layout home two.step ≡ true
  same : beside rule layout id one ≡ beside rule layout other two

edges_alike : (layout : Layout) (home : ℕ) (id other : FactId) (one two : FactId) (n m : ℕ) → AreApart layout.edges → leaves Og layout home n ≡ true → leaves Og layout home m ≡ true
    → Inter id one (step_number layout n) ≡ Inter other two (step_number layout m) → (id ≡ other) × (n ≡ m)
edges_alike layout home id other one two zero m apart leads leads_too same = cc
edges_alike layout home id other one two (suc n) zero apart leads leads_too same = cc
edges_alike layout home id other one two (suc n) (suc m) apart leads leads_too same =
    let ids : id ≡ other = cc in
    let numbers : edge_number layout n ≡ edge_number layout m = cc in
    let places = same_edge layout n m home apart leads leads_too numbers in
    (ids, ap (λ k. suc k) places)

one_step : (test : Bool) (step : ℕ) → (test && eqb step 1) ≡ true → step ≡ 1
one_step test step both = eqb-true step 1 ((and_parts test (eqb step 1) both).1)

beside_alike : (rule : RuleName) (layout : Layout) (home : ℕ) (id other : FactId) (one two : Turn) → Leaves rule layout home id other one two → (id ≡ other) × (one.step ≡ two.step)
beside_alike Rg layout home id other one two is =
    let same = is.same in
    let ids : id ≡ other = cc in
    (ids, one_step (is_step_home (home_at layout home)) one.step is.one_there ∙ sym (one_step (is_step_home (home_at layout home)) two.step is.two_there))
beside_alike Og layout home id other one two is = edges_alike layout home id other one.id two.id one.step two.step is.apart is.one_there is.two_there is.same

own_not_beside : (rule : RuleName) (layout : Layout) (id f : FactId) (e : EdgeNo) (turn : Turn) → OwnStep f e ≡ beside rule layout id turn → ⊥
own_not_beside Rg layout id f e turn same = cc
own_not_beside Og layout id f e turn same = cc

told_not_beside : (rule : RuleName) (layout : Layout) (id f : FactId) (e : EdgeNo) (turn : Turn) → Guar f e ≡ beside rule layout id turn → ⊥
told_not_beside Rg layout id f e turn same = cc
told_not_beside Og layout id f e turn same = cc

init_not_beside : (rule : RuleName) (layout : Layout) (id : FactId) (turn : Turn) (t : _) → Init t ≡ beside rule layout id turn → ⊥
init_not_beside Rg layout id turn t same = cc
init_not_beside Og layout id turn t same = cc

pub never_begins : (layout : Layout) (series : Series) (turn : Turn) (t : _) → Init t ≡ instance_of layout series turn → ⊥
never_begins layout (Own edge) turn t same = cc
never_begins layout (Told edge) turn t same = cc
never_begins layout (Beside home id) turn t same = init_not_beside layout.rule layout id turn t same

-- ---- turns

-- Two turns, each a step of a live fact in a series of the layout.
pub record TwoTurns (layout : Layout) (live : List LiveFact) (one two : Series) (f g : LiveFact) (n m : ℕ) : Type 0 where
  pub apart : AreApart layout.edges
  pub rise : Rise 0 (map (λ h. h.id.0) live)
  pub one_is : IsSeries layout live one
  pub two_is : IsSeries layout live two
  pub f_live : Contains live f
  pub g_live : Contains live g
  pub f_has : has_step layout one f.fact.home.0 n ≡ true
  pub g_has : has_step layout two g.fact.home.0 m ≡ true
  pub same : instance_of layout one (turn_at f n) ≡ instance_of layout two (turn_at g m)

facts_alike : (layout : Layout) (live : List LiveFact) (one two : Series) (f g : LiveFact) (n m : ℕ) → TwoTurns layout live one two f g n m → f ≡ g
facts_alike layout live one two f g n m is =
    let ids : f.id ≡ g.id = sym (last_id-instance_of layout one (turn_at f n)) ∙ (ap last_id is.same ∙ last_id-instance_of layout two (turn_at g m)) in
    same_fact live f g is.rise is.f_live is.g_live (ap (λ (x : FactId). x.0) ids)

first_step : (step : ℕ) (test : Bool) → (eqb step 1 && test) ≡ true → step ≡ 1
first_step step test both = eqb-true step 1 ((and_parts (eqb step 1) test both).0)

homes_alike : (live : List LiveFact) (home at : HomeNo) (id other : FactId) → Rise 0 (map (λ h. h.id.0) live) → (f : LiveFact) → Contains live f → f.fact.home ≡ home → f.id ≡ id
    → (g : LiveFact) → Contains live g → g.fact.home ≡ at → g.id ≡ other → id ≡ other → home ≡ at
homes_alike live home at id other rise f f_live f_home f_id g g_live g_home g_id same =
    let facts = same_fact live f g rise f_live g_live (ap (λ (x : FactId). x.0) (f_id ∙ (same ∙ sym g_id))) in
    sym f_home ∙ (ap (λ (x : LiveFact). x.fact.home) facts ∙ g_home)

series_alike : (layout : Layout) (live : List LiveFact) (one two : Series) (f : LiveFact) (n m : ℕ) → TwoTurns layout live one two f f n m → (one ≡ two) × (n ≡ m)
series_alike layout live (Own edge) (Own other) f n m is =
    let same = is.same in
    let numbers : edge_number layout edge ≡ edge_number layout other = cc in
    let leads = and_parts (eqb n 1) (has_source layout edge f.fact.home.0) is.f_has in
    let leads_too = and_parts (eqb m 1) (has_source layout other f.fact.home.0) is.g_has in
    (ap (λ k. Own k) (same_edge layout edge other f.fact.home.0 is.apart leads.1 leads_too.1 numbers), eqb-true n 1 leads.0 ∙ sym (eqb-true m 1 leads_too.0))
series_alike layout live (Own edge) (Told other) f n m is = let same = is.same in cc
series_alike layout live (Own edge) (Beside home id) f n m is = absurd (own_not_beside layout.rule layout id f.id (edge_number layout edge) (turn_at f m) is.same)
series_alike layout live (Told edge) (Own other) f n m is = let same = is.same in cc
series_alike layout live (Told edge) (Told other) f n m is =
    let same = is.same in
    let numbers : edge_number layout edge ≡ edge_number layout other = cc in
    let leads = and_parts (eqb n 1) (is_told layout.rule && has_source layout edge f.fact.home.0) is.f_has in
    let leads_too = and_parts (eqb m 1) (is_told layout.rule && has_source layout other f.fact.home.0) is.g_has in
    let from = and_parts (is_told layout.rule) (has_source layout edge f.fact.home.0) leads.1 in
    let from_too = and_parts (is_told layout.rule) (has_source layout other f.fact.home.0) leads_too.1 in
    (ap (λ k. Told k) (same_edge layout edge other f.fact.home.0 is.apart from.1 from_too.1 numbers), eqb-true n 1 leads.0 ∙ sym (eqb-true m 1 leads_too.0))
series_alike layout live (Told edge) (Beside home id) f n m is = absurd (told_not_beside layout.rule layout id f.id (edge_number layout edge) (turn_at f m) is.same)
series_alike layout live (Beside home id) (Own other) f n m is = absurd (own_not_beside layout.rule layout id f.id (edge_number layout other) (turn_at f n) (sym is.same))
series_alike layout live (Beside home id) (Told other) f n m is = absurd (told_not_beside layout.rule layout id f.id (edge_number layout other) (turn_at f n) (sym is.same))
series_alike layout live (Beside home id) (Beside at other) f n m is =
    let here = and_parts (are_apart (home_at layout home.0) (home_at layout f.fact.home.0)) (leaves layout.rule layout f.fact.home.0 n) is.f_has in
    let there = and_parts (are_apart (home_at layout at.0) (home_at layout f.fact.home.0)) (leaves layout.rule layout f.fact.home.0 m) is.g_has in
    let left : Leaves layout.rule layout f.fact.home.0 id other (turn_at f n) (turn_at f m) = record { apart = is.apart; one_there = here.1; two_there = there.1; same = is.same } in
    let alike = beside_alike layout.rule layout f.fact.home.0 id other (turn_at f n) (turn_at f m) left in
    let homes = homes_alike live home at id other is.rise is.one_is.0 is.one_is.1 is.one_is.2 is.one_is.3 is.two_is.0 is.two_is.1 is.two_is.2 is.two_is.3 alike.0 in
    let series : Beside home id ≡ Beside at other = cc in
    (series, alike.1)

-- they are the same turn
pub turns_alike : (layout : Layout) (live : List LiveFact) (one two : Series) (f g : LiveFact) (n m : ℕ) → TwoTurns layout live one two f g n m → (one ≡ two) × (f ≡ g) × (n ≡ m)
turns_alike layout live one two f g n m is =
    let facts = facts_alike layout live one two f g n m is in
    let Two : LiveFact → Type 0 = λ h. TwoTurns layout live one two f h n m in
    let alike = series_alike layout live one two f n m (subst Two (sym facts) is) in
    (alike.0, facts, alike.1)
