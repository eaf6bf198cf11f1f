-- Turns of a layout are exactly the instances that lead.
use Rattle.std.proofs.Common.{◌≡◌, ℕ, zero, suc, ◌<◌, eqb, Bool, true, false, ◌&&◌, List, [], ◌∷◌, length, map, Option, Some, None, refl, ap, sym, ◌∙◌, subst, arith}
use Rattle.std.specs.Prelude.{option_map, if◌then◌else◌}
use Rattle.std.specs.Option.{IsSome}
use Rattle.std.proofs.lemmas.Bool.{and_from, and_parts}
use Rattle.std.specs.List.{Contains, slice_get}
use Rattle.thr_base.specs.Held.{Rise}
use Rattle.thr_base.specs.declared.names.EdgeNo.{EdgeNo}
use Rattle.thr_base.specs.declared.names.FactId.{FactId}
use Rattle.thr_base.specs.declared.names.HomeNo.{HomeNo}
use Rattle.thr_base.specs.declared.names.ThreadNo.{ThreadNo}
use Rattle.thr_base.specs.declared.names.Instance.{Instance}
use Rattle.thr_base.specs.declared.names.Instance.TheVariants as stored
use Rattle.thr_base.specs.declared.names.RuleName.{RuleName}
use Rattle.thr_base.specs.declared.names.RuleName.TheVariants.{Rg, Og}
use Rattle.fact_table.specs.declared.live_fact.LiveFact.{LiveFact}
use Rattle.transition_formula.specs.Program.{Program, Thread, Edge, IsEdgeOf, at_number}
use Rattle.horn_rules.specs.Home.{Home, State, Env, homes}
use Rattle.horn_rules.specs.Instance.{HasKind, Init, Own, Guar, Env as Environment, Inter}
use Rattle.horn_rules.specs.Instances.{of_another, tells_another}
use Rattle.horn_rules.specs.Laws.{HomesAreDistinct}
use Rattle.horn_rules.specs.Target.{edge_beside, edge_from, location_beside, target_at}
use Rattle.instance_cursors.specs.declared.layout.EdgeHomes.{EdgeHomes}
use Rattle.instance_cursors.specs.declared.start.Start.{Start as StartOf}
use Rattle.instance_cursors.specs.declared.turns.Series.{Series}
use Rattle.instance_cursors.specs.declared.turns.Series.TheVariants as series
use Rattle.instance_cursors.specs.Instances as cursors
use Rattle.instance_cursors.specs.Layout.{are_apart, has_source, has_step, home_at, is_step_home, is_told, leaves, target_of}
use Rattle.instance_cursors.specs.Turns.{turn_at}
use Rattle.instance_cursors.specs.Waiting as waiting
use Rattle.instance_cursors.specs.Ways.{Layout}
use Rattle.pending_instances.specs.Layout.{AreStartsSeen, IsEdgeSeen, IsLayoutOf, seen_home}
use Rattle.pending_instances.specs.Open.{LeadsTo, home_live, target_in}
use Rattle.pending_instances.specs.Pending.{AreAtHomes}
use Rattle.pending_instances.proofs.Seen.{Stands, edge_from-of, edge_from-there, has_source-of, of_back, of_from, seen_at, source_at, stands_from, stands_of, tells_back, tells_from}

-- What is known of a layout, its starts and live facts.
pub record Fits (program : Program) (layout : Layout) (starts : List StartOf) (live : List LiveFact) : Type 0 where
  pub layout_is : IsLayoutOf program layout
  pub starts_are : AreStartsSeen program starts
  pub at_homes : AreAtHomes program live
  pub rise : Rise 0 (map (λ f. f.id.0) live)
  pub distinct : HomesAreDistinct

home_same : (one other : HomeNo) → one.0 ≡ other.0 → one ≡ other
home_same one other e = let made : ℕ → HomeNo = λ n. record { 0 = n } in ap made e

pub id_same : (one other : FactId) → one.0 ≡ other.0 → one ≡ other
id_same one other e = let made : ℕ → FactId = λ n. record { 0 = n } in ap made e

edge_same : (one other : EdgeNo) → one.0 ≡ other.0 → one ≡ other
edge_same one other e = let made : ℕ → EdgeNo = λ n. record { 0 = n } in ap made e

-- ---- kinds

kind_init : (rule : RuleName) (i : ℕ) → HasKind {F = ℕ} rule (Init i)
kind_init Rg i = tt
kind_init Og i = tt

kind_own : (rule : RuleName) (f e : ℕ) → HasKind {F = ℕ} rule (Own f e)
kind_own Rg f e = tt
kind_own Og f e = tt

kind_guar : (rule : RuleName) (f e : ℕ) → is_told rule ≡ true → HasKind {F = ℕ} rule (Guar f e)
kind_guar Rg f e told = tt
kind_guar Og f e told = cc

told_by : (rule : RuleName) (f e : ℕ) → HasKind {F = ℕ} rule (Guar f e) → is_told rule ≡ true
told_by Rg f e kind = refl
told_by Og f e kind = absurd kind

-- ---- where instances lead

pub own_leads : (program : Program) (live : List LiveFact) (f : FactId) (e : EdgeNo) (home : Home) (edge : Edge) → home_live program live f.0 ≡ Some home → edge_from program home e.0 ≡ Some edge
    → target_in program live (stored.Own f e) ≡ Some (location_beside home edge.to)
own_leads program live f e home edge here from =
    ap (λ o. target_at program (Own f.0 e.0) o None) here ∙ ap (option_map (λ (x : Edge). location_beside home x.to)) from

pub guar_leads : (program : Program) (live : List LiveFact) (f : FactId) (e : EdgeNo) (home : Home) (edge : Edge) → home_live program live f.0 ≡ Some home → edge_from program home e.0 ≡ Some edge
    → target_in program live (stored.Guar f e) ≡ Some (edge_beside home e.0)
guar_leads program live f e home edge here from =
    ap (λ o. target_at program (Guar f.0 e.0) o None) here ∙ ap (option_map (λ (x : Edge). edge_beside home e.0)) from

if_true : (b : Bool) (home : Home) → b ≡ true → (if b then Some home else None) ≡ Some home
if_true true home is = refl
if_true false home is = cc

pub env_leads : (program : Program) (live : List LiveFact) (f t : FactId) (home told : Home) → home_live program live f.0 ≡ Some home → home_live program live t.0 ≡ Some told → tells_another home told ≡ true
    → target_in program live (stored.Env f t) ≡ Some home
env_leads program live f t home told here there tells =
    ap (λ o. target_at program (Environment f.0 t.0) o (home_live program live t.0)) here
    ∙ (ap (λ o. target_at program (Environment f.0 t.0) (Some home) o) there ∙ if_true (tells_another home told) home tells)

if_edge : (b : Bool) (home : Home) (o : Option Edge) (edge : Edge) → b ≡ true → o ≡ Some edge → (if b then option_map (λ (x : Edge). home) o else None) ≡ Some home
if_edge true home o edge is from = ap (option_map (λ (x : Edge). home)) from
if_edge false home o edge is from = cc

pub inter_leads : (program : Program) (live : List LiveFact) (f g : FactId) (e : EdgeNo) (home other : Home) (edge : Edge) → home_live program live f.0 ≡ Some home → home_live program live g.0 ≡ Some other
    → of_another home other ≡ true → edge_from program other e.0 ≡ Some edge → target_in program live (stored.Inter f g e) ≡ Some home
inter_leads program live f g e home other edge here there of from =
    ap (λ o. target_at program (Inter f.0 g.0 e.0) o (home_live program live g.0)) here
    ∙ (ap (λ o. target_at program (Inter f.0 g.0 e.0) (Some home) o) there ∙ if_edge (of_another home other) home (edge_from program other e.0) edge of from)

-- ---- turns lead

-- an edge of the layout from a fact's home
record SeenFrom (program : Program) (layout : Layout) (place : ℕ) (home : Home) : Type 0 where
  seen : EdgeHomes
  is_there : slice_get layout.edges place ≡ Some seen
  is_seen : IsEdgeSeen program seen
  home_is : home ≡ State seen.thread.0 is_seen.edge.from

seen_from : (program : Program) (layout : Layout) (place n : ℕ) (home : Home) → IsLayoutOf program layout → has_source layout place n ≡ true → at_number (homes program) n ≡ Some home
    → SeenFrom program layout place home
seen_from program layout place n home is leads there =
    let at = source_at layout place n leads in
    let seen = is.edges.are place at.seen at.is_there in
    let both : Some (State at.seen.thread.0 seen.edge.from) ≡ Some home = sym seen.source ∙ (ap (λ m. at_number (homes program) m) at.source_is ∙ there) in
    let same : State at.seen.thread.0 seen.edge.from ≡ home = cc in
    record { seen = at.seen; is_there = at.is_there; is_seen = seen; home_is = sym same }

edge_number-of : (layout : Layout) (place : ℕ) (seen : EdgeHomes) → slice_get layout.edges place ≡ Some seen → cursors.edge_number layout place ≡ seen.edge
edge_number-of layout place seen is = ap (λ (o : Option EdgeHomes). cursors.number_in o) is

target-of : (layout : Layout) (place : ℕ) (seen : EdgeHomes) → slice_get layout.edges place ≡ Some seen → target_of layout (series.Own place) ≡ seen.target
target-of layout place seen is = ap (λ (o : Option EdgeHomes). targets o) is where
  targets : Option EdgeHomes → HomeNo
  targets None = record { 0 = 0 }
  targets (Some x) = x.target

told-of : (layout : Layout) (place : ℕ) (seen : EdgeHomes) → slice_get layout.edges place ≡ Some seen → target_of layout (series.Told place) ≡ seen.told
told-of layout place seen is = ap (λ (o : Option EdgeHomes). telling o) is where
  telling : Option EdgeHomes → HomeNo
  telling None = record { 0 = 0 }
  telling (Some x) = x.told

own_forward : (program : Program) (layout : Layout) (live : List LiveFact) (place step : ℕ) (f : LiveFact) (home : Home) → IsLayoutOf program layout → Stands program live f.id.0 f home
    → has_step layout (series.Own place) f.fact.home.0 step ≡ true
    → LeadsTo program layout.rule live (cursors.instance_of layout (series.Own place) (turn_at f step)) (target_of layout (series.Own place))
own_forward program layout live place step f home is stands has =
    let leads = and_parts (eqb step 1) (has_source layout place f.fact.home.0) has in
    let from = seen_from program layout place f.fact.home.0 home is leads.1 stands.number_is in
    let number = edge_number-of layout place from.seen from.is_there in
    let edge = edge_from-of program from.seen.thread.0 from.seen.edge.0 from.is_seen.thread from.is_seen.edge from.is_seen.edge_is in
    let Leads_by : EdgeNo → Type 0 = λ e. LeadsTo program layout.rule live (stored.Own f.id e) (target_of layout (series.Own place)) in
    subst Leads_by (sym number) (record {
      has_kind = kind_own layout.rule f.id.0 from.seen.edge.0;
      is_target = record {
        target = State from.seen.thread.0 from.is_seen.edge.to;
        target_is = own_leads program live f.id from.seen.edge (State from.seen.thread.0 from.is_seen.edge.from) from.is_seen.edge (stands.home_is ∙ ap (λ h. Some h) from.home_is) edge;
        number_is = ap (λ (n : HomeNo). at_number (homes program) n.0) (target-of layout place from.seen from.is_there) ∙ from.is_seen.target;
      };
    })

told_forward : (program : Program) (layout : Layout) (live : List LiveFact) (place step : ℕ) (f : LiveFact) (home : Home) → IsLayoutOf program layout → Stands program live f.id.0 f home
    → has_step layout (series.Told place) f.fact.home.0 step ≡ true
    → LeadsTo program layout.rule live (cursors.instance_of layout (series.Told place) (turn_at f step)) (target_of layout (series.Told place))
told_forward program layout live place step f home is stands has =
    let leads = and_parts (eqb step 1) (is_told layout.rule && has_source layout place f.fact.home.0) has in
    let told = and_parts (is_told layout.rule) (has_source layout place f.fact.home.0) leads.1 in
    let from = seen_from program layout place f.fact.home.0 home is told.1 stands.number_is in
    let number = edge_number-of layout place from.seen from.is_there in
    let edge = edge_from-of program from.seen.thread.0 from.seen.edge.0 from.is_seen.thread from.is_seen.edge from.is_seen.edge_is in
    let Leads_by : EdgeNo → Type 0 = λ e. LeadsTo program layout.rule live (stored.Guar f.id e) (target_of layout (series.Told place)) in
    subst Leads_by (sym number) (record {
      has_kind = kind_guar layout.rule f.id.0 from.seen.edge.0 told.0;
      is_target = record {
        target = Env from.seen.thread.0 from.seen.edge.0;
        target_is = guar_leads program live f.id from.seen.edge (State from.seen.thread.0 from.is_seen.edge.from) from.is_seen.edge (stands.home_is ∙ ap (λ h. Some h) from.home_is) edge;
        number_is = ap (λ (n : HomeNo). at_number (homes program) n.0) (told-of layout place from.seen from.is_there) ∙ from.is_seen.told;
      };
    })

apart_seen : (program : Program) (layout : Layout) (n m : ℕ) (home other : Home) → IsLayoutOf program layout → at_number (homes program) n ≡ Some home → at_number (homes program) m ≡ Some other
    → are_apart (home_at layout n) (home_at layout m) ≡ are_apart (Some (seen_home home)) (Some (seen_home other))
apart_seen program layout n m home other is here there =
    ap (λ o. are_apart o (home_at layout m)) (seen_at program layout n home is here) ∙ ap (λ o. are_apart (Some (seen_home home)) o) (seen_at program layout m other is there)

-- a live fact beside another one
record Beside (program : Program) (layout : Layout) (live : List LiveFact) (f g : LiveFact) (home other : Home) (step : ℕ) : Type 0 where
  layout_is : IsLayoutOf program layout
  f_stands : Stands program live f.id.0 f home
  g_stands : Stands program live g.id.0 g other
  apart : are_apart (Some (seen_home home)) (Some (seen_home other)) ≡ true

inter_forward : (program : Program) (layout : Layout) (live : List LiveFact) (f g : LiveFact) (home other : Home) (step : ℕ) → Beside program layout live f g home other step
    → leaves Og layout g.fact.home.0 step ≡ true → LeadsTo program Og live (cursors.beside Og layout f.id (turn_at g step)) f.fact.home
inter_forward program layout live f g home other zero is left = cc
inter_forward program layout live f g home other (suc place) is left =
    let from = seen_from program layout place g.fact.home.0 other is.layout_is left is.g_stands.number_is in
    let number = edge_number-of layout place from.seen from.is_there in
    let edge = edge_from-of program from.seen.thread.0 from.seen.edge.0 from.is_seen.thread from.is_seen.edge from.is_seen.edge_is in
    let Leads_by : EdgeNo → Type 0 = λ e. LeadsTo program Og live (stored.Inter f.id g.id e) f.fact.home in
    let source : Home = State from.seen.thread.0 from.is_seen.edge.from in
    let apart : are_apart (Some (seen_home home)) (Some (seen_home source)) ≡ true = ap (λ h. are_apart (Some (seen_home home)) (Some (seen_home h))) (sym from.home_is) ∙ is.apart in
    subst Leads_by (sym number) (record {
      has_kind = tt;
      is_target = record {
        target = home;
        target_is = inter_leads program live f.id g.id from.seen.edge home source from.is_seen.edge is.f_stands.home_is (is.g_stands.home_is ∙ ap (λ h. Some h) from.home_is)
            (of_from home from.seen.thread.0 from.is_seen.edge.from apart) edge;
        number_is = is.f_stands.number_is;
      };
    })

beside_forward : (rule : RuleName) (program : Program) (layout : Layout) (live : List LiveFact) (f g : LiveFact) (home other : Home) (step : ℕ) → Beside program layout live f g home other step
    → leaves rule layout g.fact.home.0 step ≡ true → LeadsTo program rule live (cursors.beside rule layout f.id (turn_at g step)) f.fact.home
beside_forward Rg program layout live f g home other step is left =
    let step_home = (and_parts (is_step_home (home_at layout g.fact.home.0)) (eqb step 1) left).0 in
    let there : is_step_home (Some (seen_home other)) ≡ true = ap is_step_home (sym (seen_at program layout g.fact.home.0 other is.layout_is is.g_stands.number_is)) ∙ step_home in
    record {
      has_kind = tt;
      is_target = record {
        target = home;
        target_is = env_leads program live f.id g.id home other is.f_stands.home_is is.g_stands.home_is (tells_from home other is.apart there);
        number_is = is.f_stands.number_is;
      };
    }
beside_forward Og program layout live f g home other step is left = inter_forward program layout live f g home other step is left

turn_forward : (program : Program) (layout : Layout) (starts : List StartOf) (live : List LiveFact) → Fits program layout starts live → (s : Series) → waiting.IsSeries layout live s
    → (f : LiveFact) (step : ℕ) → Contains live f → has_step layout s f.fact.home.0 step ≡ true → LeadsTo program layout.rule live (cursors.instance_of layout s (turn_at f step)) (target_of layout s)
turn_forward program layout starts live fits (series.Own place) is f step has_f has =
    let stands = stands_of program live fits.rise fits.at_homes f has_f in
    own_forward program layout live place step f stands.0 fits.layout_is stands.1 has
turn_forward program layout starts live fits (series.Told place) is f step has_f has =
    let stands = stands_of program live fits.rise fits.at_homes f has_f in
    told_forward program layout live place step f stands.0 fits.layout_is stands.1 has
turn_forward program layout starts live fits (series.Beside home id) is g step has_g has =
    let f : LiveFact = is.0 in
    let here = stands_of program live fits.rise fits.at_homes f is.1 in
    let there = stands_of program live fits.rise fits.at_homes g has_g in
    let both = and_parts (are_apart (home_at layout home.0) (home_at layout g.fact.home.0)) (leaves layout.rule layout g.fact.home.0 step) has in
    let apart : are_apart (Some (seen_home here.0)) (Some (seen_home there.0)) ≡ true =
    sym (apart_seen program layout f.fact.home.0 g.fact.home.0 here.0 there.0 fits.layout_is here.1.number_is there.1.number_is)
    ∙ (ap (λ (h : HomeNo). are_apart (home_at layout h.0) (home_at layout g.fact.home.0)) is.2 ∙ both.0) in
    let beside : Beside program layout live f g here.0 there.0 step = record { layout_is = fits.layout_is; f_stands = here.1; g_stands = there.1; apart = apart } in
    let Leads_by : FactId → HomeNo → Type 0 = λ i h. LeadsTo program layout.rule live (cursors.beside layout.rule layout i (turn_at g step)) h in
    let By_id : FactId → Type 0 = λ i. Leads_by i home in
    let By_home : HomeNo → Type 0 = λ h. Leads_by f.id h in
    subst By_id is.3 (subst By_home is.2 (beside_forward layout.rule program layout live f g here.0 there.0 step beside both.1))

start_target : (program : Program) (live : List LiveFact) (thread : ThreadNo) (o : Option Thread) → at_number program.threads thread.0 ≡ o → IsSome o → target_in program live (stored.Init thread) ≡ Some (State thread.0 1)
start_target program live thread None is some = cc
start_target program live thread (Some x) is some = ap (option_map (λ (y : Thread). State thread.0 1)) is

pub leads_forward : (program : Program) (layout : Layout) (starts : List StartOf) (live : List LiveFact) → Fits program layout starts live → (instance : Instance) (home : HomeNo)
    → waiting.LeadsTo layout starts live instance home → LeadsTo program layout.rule live instance home
leads_forward program layout starts live fits instance home (waiting.begins s has s_is home_is) =
    let Leads_by : Instance → Type 0 = λ j. LeadsTo program layout.rule live j home in
    let To : HomeNo → Type 0 = λ h. LeadsTo program layout.rule live (stored.Init s.thread) h in
    subst Leads_by s_is (subst To home_is (record {
      has_kind = kind_init layout.rule s.thread.0;
      is_target = record {
        target = State s.thread.0 1;
        target_is = start_target program live s.thread (at_number program.threads s.thread.0) refl (fits.starts_are.are s has);
        number_is = fits.starts_are.homes_are s has;
      };
    }))
leads_forward program layout starts live fits instance home (waiting.continues s is turn home_is) =
    let Leads_by : Instance → Type 0 = λ j. LeadsTo program layout.rule live j home in
    let To : HomeNo → Type 0 = λ h. LeadsTo program layout.rule live (cursors.instance_of layout s (turn_at turn.fact turn.step)) h in
    subst Leads_by turn.instance_is (subst To home_is (turn_forward program layout starts live fits s is turn.fact turn.step turn.is_live turn.has_step_there))

-- ---- what leads is a turn

-- the target of a number is told by the number
pub same_number : (program : Program) → HomesAreDistinct → (one other : HomeNo) (a b : Home) → at_number (homes program) one.0 ≡ Some a → at_number (homes program) other.0 ≡ Some b → a ≡ b → one ≡ other
same_number program distinct one other a b one_is other_is same = home_same one other (distinct program one.0 other.0 a one_is (other_is ∙ ap (λ h. Some h) (sym same)))

-- the option that a chain goes by
map_there : {X Y : Type 0} (give : X → Y) (o : Option X) (y : Y) → option_map give o ≡ Some y → (x : X) × (o ≡ Some x) × (give x ≡ y)
map_there give None y is = cc
map_there give (Some x) y is = let same : give x ≡ y = cc in (x, refl, same)

pub own_there : (program : Program) (f e : ℕ) (first second : Option Home) (target : Home) → target_at program (Own f e) first second ≡ Some target
    → (home : Home) × (edge : Edge) × (first ≡ Some home) × (edge_from program home e ≡ Some edge) × (location_beside home edge.to ≡ target)
own_there program f e None second target is = cc
own_there program f e (Some home) second target is =
    let edge = map_there (λ (x : Edge). location_beside home x.to) (edge_from program home e) target is in (home, edge.0, refl, edge.1, edge.2)

pub guar_there : (program : Program) (f e : ℕ) (first second : Option Home) (target : Home) → target_at program (Guar f e) first second ≡ Some target
    → (home : Home) × (edge : Edge) × (first ≡ Some home) × (edge_from program home e ≡ Some edge) × (edge_beside home e ≡ target)
guar_there program f e None second target is = cc
guar_there program f e (Some home) second target is =
    let edge = map_there (λ (x : Edge). edge_beside home e) (edge_from program home e) target is in (home, edge.0, refl, edge.1, edge.2)

if_there : (b : Bool) (home target : Home) → (if b then Some home else None) ≡ Some target → (b ≡ true) × (home ≡ target)
if_there true home target is = (refl, cc)
if_there false home target is = cc

pub env_there : (program : Program) (f t : ℕ) (first second : Option Home) (target : Home) → target_at program (Environment f t) first second ≡ Some target
    → (home : Home) × (told : Home) × (first ≡ Some home) × (second ≡ Some told) × (tells_another home told ≡ true) × (home ≡ target)
env_there program f t None second target is = cc
env_there program f t (Some home) None target is = cc
env_there program f t (Some home) (Some told) target is = let both = if_there (tells_another home told) home target is in (home, told, refl, refl, both.0, both.1)

if_edge_there : (b : Bool) (home target : Home) (o : Option Edge) → (if b then option_map (λ (x : Edge). home) o else None) ≡ Some target → (edge : Edge) × (b ≡ true) × (o ≡ Some edge) × (home ≡ target)
if_edge_there true home target o is = let edge = map_there (λ (x : Edge). home) o target is in (edge.0, refl, edge.1, edge.2)
if_edge_there false home target o is = cc

pub inter_there : (program : Program) (f g e : ℕ) (first second : Option Home) (target : Home) → target_at program (Inter f g e) first second ≡ Some target
    → (home : Home) × (other : Home) × (edge : Edge) × (first ≡ Some home) × (second ≡ Some other) × (of_another home other ≡ true) × (edge_from program other e ≡ Some edge) × (home ≡ target)
inter_there program f g e None second target is = cc
inter_there program f g e (Some home) None target is = cc
inter_there program f g e (Some home) (Some other) target is =
    let edge = if_edge_there (of_another home other) home target (edge_from program other e) is in (home, other, edge.0, refl, refl, edge.1, edge.2, edge.3)

-- a place of the layout's edges for an edge that leads on from where a fact stands
pub record PlaceFor (program : Program) (layout : Layout) (f : LiveFact) (e : ℕ) (home : Home) (edge : Edge) : Type 0 where
  pub place : ℕ
  pub seen : EdgeHomes
  pub is_there : slice_get layout.edges place ≡ Some seen
  pub is_seen : IsEdgeSeen program seen
  pub number : seen.edge.0 ≡ e
  pub home_is : home ≡ State seen.thread.0 edge.from
  pub same_edge : is_seen.edge ≡ edge
  pub leads : has_source layout place f.fact.home.0 ≡ true
  pub within : place < length layout.edges

one_edge : (program : Program) (i j e k : ℕ) (one other : Thread) (a b : Edge) → IsEdgeOf program i e one a → IsEdgeOf program j k other b → i ≡ j → e ≡ k → a ≡ b
one_edge program i j e k one other a b is is_too same_i same_e =
    let threads : Some one ≡ Some other = sym is.thread_is ∙ (ap (λ n. at_number program.threads n) same_i ∙ is_too.thread_is) in
    let thread : one ≡ other = cc in
    let edges : Some a ≡ Some b = sym is.edge_is ∙ (ap (λ (t : Thread). at_number t.edges e) thread ∙ (ap (λ n. at_number other.edges n) same_e ∙ is_too.edge_is)) in
    cc

within_at : {X : Type 0} (xs : List X) (k : ℕ) (x : X) → slice_get xs k ≡ Some x → k < length xs
within_at [] k x is = cc
within_at (y ∷ xs) zero x is = omega arith
within_at (y ∷ xs) (suc k) x is = let more = within_at xs k x is in omega (arith, more)

pub place_for : (program : Program) (layout : Layout) (starts : List StartOf) (live : List LiveFact) → Fits program layout starts live → (id : ℕ) (f : LiveFact) (e : ℕ) (home : Home) (edge : Edge)
    → Stands program live id f home → edge_from program home e ≡ Some edge → PlaceFor program layout f e home edge
place_for program layout starts live fits id f e home edge stands from =
    let leads = edge_from-there program home e edge from in
    let at = fits.layout_is.edges.all leads.i e leads.thread edge leads.edge_is in
    let seen = fits.layout_is.edges.are at.0 at.1 at.2 in
    let edges : seen.edge ≡ edge = one_edge program at.1.thread.0 leads.i at.1.edge.0 e seen.thread leads.thread seen.edge edge seen.edge_is leads.edge_is at.3 at.4 in
    let homes_same : home ≡ State at.1.thread.0 edge.from = leads.home_is ∙ ap (λ i. State i edge.from) (sym at.3) in
    let sources : State at.1.thread.0 seen.edge.from ≡ home = ap (λ (x : Edge). State at.1.thread.0 x.from) edges ∙ sym homes_same in
    let numbers = fits.distinct program at.1.source.0 f.fact.home.0 home (seen.source ∙ ap (λ h. Some h) sources) stands.number_is in
    record {
      place = at.0;
      seen = at.1;
      is_there = at.2;
      is_seen = seen;
      number = at.4;
      home_is = homes_same;
      same_edge = edges;
      leads = has_source-of layout at.0 f.fact.home.0 at.1 at.2 numbers;
      within = within_at layout.edges at.0 at.1 at.2;
    }

edge_instance : (layout : Layout) (place : ℕ) (seen : EdgeHomes) (e : EdgeNo) → slice_get layout.edges place ≡ Some seen → seen.edge.0 ≡ e.0 → cursors.edge_number layout place ≡ e
edge_instance layout place seen e is number = edge_number-of layout place seen is ∙ edge_same seen.edge e number

own_back : (program : Program) (layout : Layout) (starts : List StartOf) (live : List LiveFact) → Fits program layout starts live → (id : FactId) (e : EdgeNo) (home : HomeNo)
    → LeadsTo program layout.rule live (stored.Own id e) home → waiting.LeadsTo layout starts live (stored.Own id e) home
own_back program layout starts live fits id e home leads =
    let there = own_there program id.0 e.0 (home_live program live id.0) None leads.is_target.target leads.is_target.target_is in
    let fact = stands_from program live fits.at_homes id.0 there.0 there.2 in
    let place = place_for program layout starts live fits id.0 fact.0 e.0 there.0 there.1 fact.1 there.3 in
    let Of : FactId → EdgeNo → Instance = λ f n. stored.Own f n in
    let turn : waiting.IsTurn layout live (series.Own place.place) (stored.Own id e) = record {
      fact = fact.0;
      step = 1;
      is_live = fact.1.is_live;
      has_step_there = place.leads;
      instance_is = ap (λ n. Of fact.0.id n) (edge_instance layout place.place place.seen e place.is_there place.number) ∙ ap (λ f. Of f e) (id_same fact.0.id id fact.1.id_is);
    } in
    let target : State place.seen.thread.0 place.is_seen.edge.to ≡ leads.is_target.target =
    ap (λ (x : Edge). State place.seen.thread.0 x.to) place.same_edge ∙ (ap (λ h. location_beside h there.1.to) (sym place.home_is) ∙ there.4) in
    waiting.continues (series.Own place.place) place.within turn (target-of layout place.place place.seen place.is_there
    ∙ same_number program fits.distinct place.seen.target home (State place.seen.thread.0 place.is_seen.edge.to) leads.is_target.target place.is_seen.target leads.is_target.number_is target)

guar_back : (program : Program) (layout : Layout) (starts : List StartOf) (live : List LiveFact) → Fits program layout starts live → (id : FactId) (e : EdgeNo) (home : HomeNo)
    → LeadsTo program layout.rule live (stored.Guar id e) home → waiting.LeadsTo layout starts live (stored.Guar id e) home
guar_back program layout starts live fits id e home leads =
    let there = guar_there program id.0 e.0 (home_live program live id.0) None leads.is_target.target leads.is_target.target_is in
    let fact = stands_from program live fits.at_homes id.0 there.0 there.2 in
    let place = place_for program layout starts live fits id.0 fact.0 e.0 there.0 there.1 fact.1 there.3 in
    let Of : FactId → EdgeNo → Instance = λ f n. stored.Guar f n in
    let turn : waiting.IsTurn layout live (series.Told place.place) (stored.Guar id e) = record {
      fact = fact.0;
      step = 1;
      is_live = fact.1.is_live;
      has_step_there = and_from (is_told layout.rule) (has_source layout place.place fact.0.fact.home.0) (told_by layout.rule id.0 e.0 leads.has_kind) place.leads;
      instance_is = ap (λ n. Of fact.0.id n) (edge_instance layout place.place place.seen e place.is_there place.number) ∙ ap (λ f. Of f e) (id_same fact.0.id id fact.1.id_is);
    } in
    let target : Env place.seen.thread.0 place.seen.edge.0 ≡ leads.is_target.target =
    ap (λ n. Env place.seen.thread.0 n) place.number ∙ (ap (λ h. edge_beside h e.0) (sym place.home_is) ∙ there.4) in
    waiting.continues (series.Told place.place) place.within turn (told-of layout place.place place.seen place.is_there
    ∙ same_number program fits.distinct place.seen.told home (Env place.seen.thread.0 place.seen.edge.0) leads.is_target.target place.is_seen.told leads.is_target.number_is target)

-- what stands beside is a turn of the fact's series
record Alongside (program : Program) (layout : Layout) (starts : List StartOf) (live : List LiveFact) (instance : Instance) (home : HomeNo) : Type 0 where
  fits : Fits program layout starts live
  f : LiveFact
  g : LiveFact
  f_home : Home
  g_home : Home
  f_stands : Stands program live f.id.0 f f_home
  g_live : Contains live g
  g_number : at_number (homes program) g.fact.home.0 ≡ Some g_home
  apart : are_apart (Some (seen_home f_home)) (Some (seen_home g_home)) ≡ true
  step : ℕ
  left : leaves layout.rule layout g.fact.home.0 step ≡ true
  instance_is : cursors.beside layout.rule layout f.id (turn_at g step) ≡ instance
  number_is : at_number (homes program) home.0 ≡ Some f_home

alongside : (program : Program) (layout : Layout) (starts : List StartOf) (live : List LiveFact) (instance : Instance) (home : HomeNo) → Alongside program layout starts live instance home
    → waiting.LeadsTo layout starts live instance home
alongside program layout starts live instance home is =
    let turn : waiting.IsTurn layout live (series.Beside is.f.fact.home is.f.id) instance = record {
      fact = is.g;
      step = is.step;
      is_live = is.g_live;
      has_step_there = and_from (are_apart (home_at layout is.f.fact.home.0) (home_at layout is.g.fact.home.0)) (leaves layout.rule layout is.g.fact.home.0 is.step)
          (apart_seen program layout is.f.fact.home.0 is.g.fact.home.0 is.f_home is.g_home is.fits.layout_is is.f_stands.number_is is.g_number ∙ is.apart) is.left;
      instance_is = is.instance_is;
    } in
    waiting.continues (series.Beside is.f.fact.home is.f.id) (is.f, is.f_stands.is_live, refl, refl) turn
    (same_number program is.fits.distinct is.f.fact.home home is.f_home is.f_home is.f_stands.number_is is.number_is refl)

own_id : (program : Program) (live : List LiveFact) (id : ℕ) (f : LiveFact) (home : Home) → Stands program live id f home → Stands program live f.id.0 f home
own_id program live id f home is = let At : ℕ → Type 0 = λ n. Stands program live n f home in subst At (sym is.id_is) is

rg_back : (rule : RuleName) (program : Program) (layout : Layout) (starts : List StartOf) (live : List LiveFact) → Fits program layout starts live → layout.rule ≡ rule → (f t : FactId) (home : HomeNo)
    → LeadsTo program rule live (stored.Env f t) home → waiting.LeadsTo layout starts live (stored.Env f t) home
rg_back Og program layout starts live fits rule_is f t home leads = absurd leads.has_kind
rg_back Rg program layout starts live fits rule_is f t home leads =
    let there = env_there program f.0 t.0 (home_live program live f.0) (home_live program live t.0) leads.is_target.target leads.is_target.target_is in
    let one = stands_from program live fits.at_homes f.0 there.0 there.2 in
    let two = stands_from program live fits.at_homes t.0 there.1 there.3 in
    let tells = tells_back there.0 there.1 there.4 in
    let Left : RuleName → Type 0 = λ r. leaves r layout two.0.fact.home.0 1 ≡ true in
    let Is : RuleName → Type 0 = λ r. cursors.beside r layout one.0.id (turn_at two.0 1) ≡ stored.Env f t in
    let Of : FactId → FactId → Instance = λ x y. stored.Env x y in
    let step_home : is_step_home (home_at layout two.0.fact.home.0) ≡ true =
    ap is_step_home (seen_at program layout two.0.fact.home.0 there.1 fits.layout_is two.1.number_is) ∙ tells.1 in
    let is : Alongside program layout starts live (stored.Env f t) home = record {
      fits = fits;
      f = one.0;
      g = two.0;
      f_home = there.0;
      g_home = there.1;
      f_stands = own_id program live f.0 one.0 there.0 one.1;
      g_live = two.1.is_live;
      g_number = two.1.number_is;
      apart = tells.0;
      step = 1;
      left = subst Left (sym rule_is) (and_from (is_step_home (home_at layout two.0.fact.home.0)) (eqb 1 1) step_home refl);
      instance_is = subst Is (sym rule_is) (ap (λ x. Of x two.0.id) (id_same one.0.id f one.1.id_is) ∙ ap (λ y. Of f y) (id_same two.0.id t two.1.id_is));
      number_is = leads.is_target.number_is ∙ ap (λ h. Some h) (sym there.5);
    } in
    alongside program layout starts live (stored.Env f t) home is

og_back : (rule : RuleName) (program : Program) (layout : Layout) (starts : List StartOf) (live : List LiveFact) → Fits program layout starts live → layout.rule ≡ rule → (f g : FactId) (e : EdgeNo) (home : HomeNo)
    → LeadsTo program rule live (stored.Inter f g e) home → waiting.LeadsTo layout starts live (stored.Inter f g e) home
og_back Rg program layout starts live fits rule_is f g e home leads = absurd leads.has_kind
og_back Og program layout starts live fits rule_is f g e home leads =
    let there = inter_there program f.0 g.0 e.0 (home_live program live f.0) (home_live program live g.0) leads.is_target.target leads.is_target.target_is in
    let one = stands_from program live fits.at_homes f.0 there.0 there.3 in
    let two = stands_from program live fits.at_homes g.0 there.1 there.4 in
    let place = place_for program layout starts live fits g.0 two.0 e.0 there.1 there.2 two.1 there.6 in
    let Left : RuleName → Type 0 = λ r. leaves r layout two.0.fact.home.0 (suc place.place) ≡ true in
    let Is : RuleName → Type 0 = λ r. cursors.beside r layout one.0.id (turn_at two.0 (suc place.place)) ≡ stored.Inter f g e in
    let Of : FactId → FactId → EdgeNo → Instance = λ x y n. stored.Inter x y n in
    let is : Alongside program layout starts live (stored.Inter f g e) home = record {
      fits = fits;
      f = one.0;
      g = two.0;
      f_home = there.0;
      g_home = there.1;
      f_stands = own_id program live f.0 one.0 there.0 one.1;
      g_live = two.1.is_live;
      g_number = two.1.number_is;
      apart = of_back there.0 there.1 there.5;
      step = suc place.place;
      left = subst Left (sym rule_is) place.leads;
      instance_is = subst Is (sym rule_is) (ap (λ n. Of one.0.id two.0.id n) (edge_instance layout place.place place.seen e place.is_there place.number)
          ∙ (ap (λ x. Of x two.0.id e) (id_same one.0.id f one.1.id_is) ∙ ap (λ y. Of f y e) (id_same two.0.id g two.1.id_is)));
      number_is = leads.is_target.number_is ∙ ap (λ h. Some h) (sym there.7);
    } in
    alongside program layout starts live (stored.Inter f g e) home is

pub start_there : (program : Program) (thread : ThreadNo) (o : Option Thread) (target : Home) → at_number program.threads thread.0 ≡ o → option_map (λ (x : Thread). State thread.0 1) o ≡ Some target
    → IsSome (at_number program.threads thread.0) × (State thread.0 1 ≡ target)
start_there program thread None target is there = cc
start_there program thread (Some x) target is there = (subst IsSome (sym is) refl, cc)

init_same : (one other : ThreadNo) → one.0 ≡ other.0 → stored.Init one ≡ stored.Init other
init_same one other e = let made : ℕ → Instance = λ n. stored.Init (record { 0 = n }) in ap made e

pub leads_back : (program : Program) (layout : Layout) (starts : List StartOf) (live : List LiveFact) → Fits program layout starts live → (instance : Instance) (home : HomeNo)
    → LeadsTo program layout.rule live instance home → waiting.LeadsTo layout starts live instance home
leads_back program layout starts live fits (stored.Init thread) home leads =
    let there = start_there program thread (at_number program.threads thread.0) leads.is_target.target refl leads.is_target.target_is in
    let start = fits.starts_are.all thread.0 there.0 in
    let target : State start.0.thread.0 1 ≡ leads.is_target.target = ap (λ n. State n 1) start.2 ∙ there.1 in
    waiting.begins start.0 start.1 (init_same start.0.thread thread start.2)
    (same_number program fits.distinct start.0.home home (State start.0.thread.0 1) leads.is_target.target (fits.starts_are.homes_are start.0 start.1) leads.is_target.number_is target)
leads_back program layout starts live fits (stored.Own id e) home leads = own_back program layout starts live fits id e home leads
leads_back program layout starts live fits (stored.Guar id e) home leads = guar_back program layout starts live fits id e home leads
leads_back program layout starts live fits (stored.Env f t) home leads = rg_back layout.rule program layout starts live fits refl f t home leads
leads_back program layout starts live fits (stored.Inter f g e) home leads = og_back layout.rule program layout starts live fits refl f g e home leads
