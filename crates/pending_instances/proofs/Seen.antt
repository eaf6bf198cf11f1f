-- What a layout shows of its program, and live facts of their homes.
use Rattle.std.proofs.Common.{◌≡◌, ℕ, zero, suc, ◌<◌, ◌⊎◌, inl, inr, eqb, eq-eqb, Bool, true, false, cond, List, [], ◌∷◌, length, map, get_or, Option, Some, None, refl, ap, sym, ◌∙◌, arith}
use Rattle.std.specs.Prelude.{option_map, unwrap_or}
use Rattle.std.proofs.lemmas.Bool.{eqb-true, ne_eqb}
use Rattle.std.proofs.lemmas.Option.{slice_get-map}
use Rattle.std.specs.List.{Contains, slice_get}
use Rattle.std.specs.Option.{IsSome}
use Rattle.thr_base.specs.Held.{Rise}
use Rattle.fact_table.specs.declared.live_fact.LiveFact.{LiveFact}
use Rattle.fact_table.specs.Live.{live_at}
use Rattle.transition_formula.specs.Program.{Program, Thread, Edge, IsEdgeOf, at_number}
use Rattle.horn_rules.specs.Home.{Home, State, Env, homes}
use Rattle.horn_rules.specs.Instances.{edges_of, of_another, tells_another}
use Rattle.horn_rules.specs.Stored.{home_numbered}
use Rattle.horn_rules.specs.Target.{edge_from, if_from}
use Rattle.instance_cursors.specs.declared.layout.EdgeHomes.{EdgeHomes}
use Rattle.instance_cursors.specs.declared.layout.HomeOf.{HomeOf}
use Rattle.instance_cursors.specs.Layout.{are_apart, has_source, home_at, is_step_home, leads_from}
use Rattle.instance_cursors.specs.Ways.{Layout}
use Rattle.pending_instances.specs.Layout.{IsLayoutOf, seen_home}
use Rattle.pending_instances.specs.Open.{home_live}
use Rattle.pending_instances.specs.Pending.{AreAtHomes}

-- ---- live facts

found_case : (b : Bool) (f g : LiveFact) (rest : Option LiveFact) → cond b (Some f) rest ≡ Some g → ((b ≡ true) × (f ≡ g)) ⊎ (rest ≡ Some g)
found_case true f g rest is = inl (refl, cc)
found_case false f g rest is = inr is

pub live_at-there : (live : List LiveFact) (n : ℕ) (g : LiveFact) → live_at live n ≡ Some g → Contains live g × (g.id.0 ≡ n)
live_at-there [] n g is = cc
live_at-there (f ∷ live) n g is = elim (found_case (eqb f.id.0 n) f g (live_at live n) is) [
  | inl here ↦ ((0, omega arith, here.1), ap (λ (x : LiveFact). x.id.0) (sym here.1) ∙ eqb-true f.id.0 n here.0)
  | inr rest ↦ let more = live_at-there live n g rest in ((suc more.0.0, omega (arith, more.0.1), more.0.2), more.1)
]

above : (last : ℕ) (live : List LiveFact) (f : LiveFact) (k : ℕ) → Rise last (map (λ g. g.id.0) live) → k < length live → get_or live k f ≡ f → last < f.id.0
above last [] f k rise lt is = absurd (omega arith)
above last (g ∷ live) f zero rise lt is = let same = ap (λ (x : LiveFact). x.id.0) is in let low = rise.0 in omega (arith, same, low)
above last (g ∷ live) f (suc k) rise lt is = let more = above g.id.0 live f k rise.1 (omega arith) is in let low = rise.0 in omega (arith, more, low)

cond_here : (b : Bool) (f : LiveFact) (rest : Option LiveFact) → b ≡ true → cond b (Some f) rest ≡ Some f
cond_here true f rest is = refl
cond_here false f rest is = cc

cond_later : (b : Bool) (f g : LiveFact) (rest : Option LiveFact) → b ≡ false → rest ≡ Some g → cond b (Some f) rest ≡ Some g
cond_later true f g rest is more = cc
cond_later false f g rest is more = more

live_at-place : (last : ℕ) (live : List LiveFact) (f : LiveFact) (k : ℕ) → Rise last (map (λ g. g.id.0) live) → k < length live → get_or live k f ≡ f → live_at live f.id.0 ≡ Some f
live_at-place last [] f k rise lt is = absurd (omega arith)
live_at-place last (g ∷ live) f zero rise lt is =
    cond_here (eqb g.id.0 f.id.0) g (live_at live f.id.0) (eq-eqb g.id.0 f.id.0 (ap (λ (x : LiveFact). x.id.0) is)) ∙ ap (λ x. Some x) is
live_at-place last (g ∷ live) f (suc k) rise lt is =
    let less = above g.id.0 live f k rise.1 (omega arith) is in
    cond_later (eqb g.id.0 f.id.0) g f (live_at live f.id.0) (ne_eqb g.id.0 f.id.0 (λ e. omega (arith, e, less))) (live_at-place g.id.0 live f k rise.1 (omega arith) is)

-- where a live fact stands
pub record Stands (program : Program) (live : List LiveFact) (id : ℕ) (f : LiveFact) (home : Home) : Type 0 where
  pub is_live : Contains live f
  pub id_is : f.id.0 ≡ id
  pub number_is : at_number (homes program) f.fact.home.0 ≡ Some home
  pub home_is : home_live program live id ≡ Some home

pub some_of : {X : Type 0} (o : Option X) → IsSome o → (x : X) × (o ≡ Some x)
some_of None is = cc
some_of (Some x) is = (x, refl)

pub numbered_home : (program : Program) (n : ℕ) (home : Home) (o : Option Home) → at_number (homes program) n ≡ o → o ≡ Some home → home_numbered program n ≡ home
numbered_home program n home None is there = cc
numbered_home program n home (Some other) is there =
    let same : other ≡ home = cc in
    ap (λ o. unwrap_or o (State 0 0)) is ∙ same

pub stands_of : (program : Program) (live : List LiveFact) → Rise 0 (map (λ g. g.id.0) live) → AreAtHomes program live → (f : LiveFact) → Contains live f → (home : Home) × Stands program live f.id.0 f home
stands_of program live rise at_homes f has =
    let home = some_of (at_number (homes program) f.fact.home.0) (at_homes f has) in (
      home.0,
      record {
        is_live = has;
        id_is = refl;
        number_is = home.1;
        home_is = ap (option_map (λ (g : LiveFact). home_numbered program g.fact.home.0)) (live_at-place 0 live f has.0 rise has.1 has.2)
            ∙ ap (λ h. Some h) (numbered_home program f.fact.home.0 home.0 (at_number (homes program) f.fact.home.0) refl home.1);
      },
    )

live_from : (program : Program) (live : List LiveFact) (id : ℕ) (home : Home) (o : Option LiveFact) → live_at live id ≡ o → option_map (λ (g : LiveFact). home_numbered program g.fact.home.0) o ≡ Some home
    → (f : LiveFact) × (live_at live id ≡ Some f) × (home_numbered program f.fact.home.0 ≡ home)
live_from program live id home None is there = cc
live_from program live id home (Some f) is there = let same : home_numbered program f.fact.home.0 ≡ home = cc in (f, is, same)

pub stands_from : (program : Program) (live : List LiveFact) → AreAtHomes program live → (id : ℕ) (home : Home) → home_live program live id ≡ Some home → (f : LiveFact) × Stands program live id f home
stands_from program live at_homes id home is =
    let from = live_from program live id home (live_at live id) refl is in
    let there = live_at-there live id from.0 from.1 in
    let known = some_of (at_number (homes program) from.0.fact.home.0) (at_homes from.0 there.0) in
    let same : known.0 ≡ home = sym (numbered_home program from.0.fact.home.0 known.0 (at_number (homes program) from.0.fact.home.0) refl known.1) ∙ from.2 in
    (from.0, record { is_live = there.0; id_is = there.1; number_is = known.1 ∙ ap (λ h. Some h) same; home_is = is })

-- ---- homes

home_at-numbered : (program : Program) (layout : Layout) (n : ℕ) → IsLayoutOf program layout → home_at layout n ≡ option_map seen_home (at_number (homes program) n)
home_at-numbered program layout zero is = refl
home_at-numbered program layout (suc k) is = ap (λ (hs : List HomeOf). slice_get hs k) is.homes ∙ slice_get-map seen_home (homes program) k

pub seen_at : (program : Program) (layout : Layout) (n : ℕ) (home : Home) → IsLayoutOf program layout → at_number (homes program) n ≡ Some home → home_at layout n ≡ Some (seen_home home)
seen_at program layout n home is there = home_at-numbered program layout n is ∙ ap (option_map seen_home) there

pub tells_from : (home told : Home) → are_apart (Some (seen_home home)) (Some (seen_home told)) ≡ true → is_step_home (Some (seen_home told)) ≡ true → tells_another home told ≡ true
tells_from (State k l) (State i m) apart step = cc
tells_from (State k l) (Env i e) apart step = apart
tells_from (Env k f) told apart step = cc

pub tells_back : (home told : Home) → tells_another home told ≡ true → (are_apart (Some (seen_home home)) (Some (seen_home told)) ≡ true) × (is_step_home (Some (seen_home told)) ≡ true)
tells_back (State k l) (State i m) tells = cc
tells_back (State k l) (Env i e) tells = (tells, refl)
tells_back (Env k f) (State i m) tells = cc
tells_back (Env k f) (Env i e) tells = cc

pub of_from : (home : Home) (i m : ℕ) → are_apart (Some (seen_home home)) (Some (seen_home (State i m))) ≡ true → of_another home (State i m) ≡ true
of_from (State k l) i m apart = apart
of_from (Env k f) i m apart = cc

pub of_back : (home other : Home) → of_another home other ≡ true → are_apart (Some (seen_home home)) (Some (seen_home other)) ≡ true
of_back (State k l) (State i m) of = of
of_back (State k l) (Env i e) of = cc
of_back (Env k f) (State i m) of = cc
of_back (Env k f) (Env i e) of = cc

-- ---- edges

if_self : (edge : Edge) → if_from edge.from (Some edge) ≡ Some edge
if_self edge = ap (λ (b : Bool). cond b (Some edge) None) (eq-eqb edge.from edge.from refl)

pub edge_from-of : (program : Program) (i e : ℕ) (thread : Thread) (edge : Edge) → IsEdgeOf program i e thread edge → edge_from program (State i edge.from) e ≡ Some edge
edge_from-of program i e thread edge is =
    ap (λ (o : Option Thread). if_from edge.from (at_number (edges_of o) e)) is.thread_is ∙ (ap (λ (o : Option Edge). if_from edge.from o) is.edge_is ∙ if_self edge)

pub record LeadsFrom (program : Program) (home : Home) (e : ℕ) (edge : Edge) : Type 0 where
  pub i : ℕ
  pub thread : Thread
  pub home_is : home ≡ State i edge.from
  pub edge_is : IsEdgeOf program i e thread edge

none_numbered : (e : ℕ) → at_number {X = Edge} [] e ≡ None
none_numbered zero = refl
none_numbered (suc e) = refl

if_case : (b : Bool) (x edge : Edge) → cond b (Some x) None ≡ Some edge → (b ≡ true) × (x ≡ edge)
if_case true x edge is = (refl, cc)
if_case false x edge is = cc

from_edge : (program : Program) (i l e : ℕ) (thread : Thread) (edge : Edge) (o : Option Edge) → at_number program.threads i ≡ Some thread → at_number thread.edges e ≡ o → if_from l o ≡ Some edge
    → LeadsFrom program (State i l) e edge
from_edge program i l e thread edge None thread_is is from = cc
from_edge program i l e thread edge (Some x) thread_is is from =
    let both = if_case (eqb x.from l) x edge from in
    let source : l ≡ edge.from = sym (eqb-true x.from l both.0) ∙ ap (λ (y : Edge). y.from) both.1 in
    record { i = i; thread = thread; home_is = ap (λ m. State i m) source; edge_is = record { thread_is = thread_is; edge_is = is ∙ ap (λ y. Some y) both.1 } }

from_thread : (program : Program) (i l e : ℕ) (edge : Edge) (o : Option Thread) → at_number program.threads i ≡ o → if_from l (at_number (edges_of o) e) ≡ Some edge → LeadsFrom program (State i l) e edge
from_thread program i l e edge None is from = let none : None ≡ Some edge = ap (if_from l) (sym (none_numbered e)) ∙ from in cc
from_thread program i l e edge (Some thread) is from = from_edge program i l e thread edge (at_number thread.edges e) is refl from

pub edge_from-there : (program : Program) (home : Home) (e : ℕ) (edge : Edge) → edge_from program home e ≡ Some edge → LeadsFrom program home e edge
edge_from-there program (State i l) e edge is = from_thread program i l e edge (at_number program.threads i) refl is
edge_from-there program (Env i k) e edge is = cc

-- an edge of a layout that leads on from a home
pub record SourceAt (layout : Layout) (place home : ℕ) : Type 0 where
  pub seen : EdgeHomes
  pub is_there : slice_get layout.edges place ≡ Some seen
  pub source_is : seen.source.0 ≡ home

source_case : (layout : Layout) (place home : ℕ) (o : Option EdgeHomes) → slice_get layout.edges place ≡ o → leads_from o home ≡ true → SourceAt layout place home
source_case layout place home None is leads = cc
source_case layout place home (Some seen) is leads = record { seen = seen; is_there = is; source_is = eqb-true seen.source.0 home leads }

pub source_at : (layout : Layout) (place home : ℕ) → has_source layout place home ≡ true → SourceAt layout place home
source_at layout place home leads = source_case layout place home (slice_get layout.edges place) refl leads

pub has_source-of : (layout : Layout) (place home : ℕ) (seen : EdgeHomes) → slice_get layout.edges place ≡ Some seen → seen.source.0 ≡ home → has_source layout place home ≡ true
has_source-of layout place home seen is source = ap (λ (o : Option EdgeHomes). leads_from o home) is ∙ eq-eqb seen.source.0 home source
