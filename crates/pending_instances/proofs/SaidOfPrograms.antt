-- What calls of cursors do, said of the program that they are for.
use Rattle.std.proofs.Common.{◌≡◌, ◌≢◌, ◌↔◌, ◌⊎◌, ℕ, ◌-◌, inl, inr, List, [], ◌∷◌, ◌++◌, Option, Some, None, Result, Ok, Err, IfOk, map, filter, length, get_or, length-append, refl, ap, sym, ◌∙◌, subst, arith}
use Rattle.std.specs.List.{Contains}
use Rattle.std.specs.Option.{MatchOption}
use Rattle.std.proofs.lemmas.Option.{get_or_from_slice_get}
use Rattle.thr_base.specs.Held.{Rise}
use Rattle.thr_base.specs.declared.names.HomeNo.{HomeNo}
use Rattle.thr_base.specs.declared.names.Instance.{Instance}
use Rattle.thr_base.specs.declared.names.RuleName.{RuleName}
use Rattle.thr_base.specs.declared.names.ThreadNo.{ThreadNo}
use Rattle.fact_table.specs.declared.live_fact.LiveFact.{LiveFact}
use Rattle.fact_table.specs.Live.{premises_of}
use Rattle.fact_table.specs.Table.{FactTable}
use Rattle.instance_cursors.specs.declared.choosing.Next.{Next}
use Rattle.instance_cursors.specs.declared.start.Start.{Start as StartOf}
use Rattle.instance_cursors.specs.Layout.{thread_at, thread_in}
use Rattle.instance_cursors.specs.Waiting as cursors
use Rattle.instance_cursors.specs.Waiting.{IsOpen, NoneIsOpen, OpenLead, OpensTo, Waiting}
use Rattle.instance_cursors.specs.Ways.{Layout}
use Rattle.instance_cursors.proofs.Members.{contains_from_filter}
use Rattle.transition_formula.specs.Program.{Program, at_number}
use Rattle.horn_rules.specs.Home.{Home, State, Env, homes}
use Rattle.horn_rules.specs.Laws.{HomesAreDistinct}
use Rattle.horn_rules.specs.Stored.{home_numbered}
use Rattle.pending_instances.specs.Calls.{Begins, Closes, HasCome, IsLeft, IsNext, IsOpenTo, Opens, Reopens}
use Rattle.pending_instances.specs.Layout.{AreStartsSeen, IsLayoutOf, seen_home}
use Rattle.pending_instances.specs.Open.{Leads, IsTarget, target_in}
use Rattle.pending_instances.specs.Pending.{AreAtHomes, IsFor, thread_of_home}
use Rattle.pending_instances.proofs.Edges.{slice_get-end}
use Rattle.pending_instances.proofs.Leading.{id_same, leads_forward}
use Rattle.pending_instances.proofs.Opening.{begun_lead, changes_reopen, comers_open, fits_of, starts_stay, stays_for}
use Rattle.pending_instances.proofs.Seen.{numbered_home, seen_at}

-- ---- what is open

-- what is open leads to its target's number
pub opens_target : HomesAreDistinct → (w : Waiting) → OpenLead w → Rise 0 (map (λ f. f.id.0) w.live) → (instance : Instance) (home : HomeNo) → OpensTo w instance home
    → (program : Program) → IsFor program w → IsTarget program w.live instance home
opens_target distinct w leads rise instance home opens program is =
    (leads_forward program w.layout w.starts w.live (fits_of distinct program w is rise) instance home (leads instance home opens)).is_target

pub open_to : HomesAreDistinct → (w : Waiting) → OpenLead w → Rise 0 (map (λ f. f.id.0) w.live) → (instance : Instance) (home : HomeNo) → OpensTo w instance home → IsOpenTo w instance home
open_to distinct w leads rise instance home opens =
    record { is_open = (home, opens); target_is = opens_target distinct w leads rise instance home opens }

seen_thread : (home : Home) → (seen_home home).thread.0 ≡ thread_of_home home
seen_thread (State i l) = refl
seen_thread (Env i e) = refl

thread_at-of : (program : Program) (layout : Layout) (home : HomeNo) (target : Home) → IsLayoutOf program layout → at_number (homes program) home.0 ≡ Some target
    → (thread_at layout home).0 ≡ thread_of_home target
thread_at-of program layout home target is there = ap (λ o. (thread_in o).0) (seen_at program layout home.0 target is there) ∙ seen_thread target

prefers_of : HomesAreDistinct → (w : Waiting) → OpenLead w → Rise 0 (map (λ f. f.id.0) w.live) → (thread : ThreadNo) (next : Next) → cursors.IsNext w thread next → (program : Program) → IsFor program w
    → (thread_of_home (home_numbered program next.home.0) ≡ thread.0)
    ⊎ ((j : Instance) (target : Home) → IsOpen w j → target_in program w.live j ≡ Some target → thread_of_home target ≢ thread.0)
prefers_of distinct w leads rise thread next chosen program is = elim chosen.prefers [
  | inl own ↦
      let aimed = opens_target distinct w leads rise next.instance next.home chosen.opens program is in
      let here = numbered_home program next.home.0 aimed.target (at_number (homes program) next.home.0) refl aimed.number_is in
      inl (ap thread_of_home here ∙ sym (thread_at-of program w.layout next.home aimed.target is.layout aimed.number_is) ∙ own)
  | inr none ↦ inr (λ j target open_there there same.
      let aimed = opens_target distinct w leads rise j open_there.0 open_there.1 program is in
      let both : Some aimed.target ≡ Some target = sym aimed.target_is ∙ there in
      let target_same : aimed.target ≡ target = cc in
      none j open_there.0 open_there.1 (thread_at-of program w.layout open_there.0 aimed.target is.layout aimed.number_is ∙ ap thread_of_home target_same ∙ same))
]

pub next_of : HomesAreDistinct → (w : Waiting) → OpenLead w → Rise 0 (map (λ f. f.id.0) w.live) → (thread : ThreadNo) (next : Next) → cursors.IsNext w thread next → IsNext thread.0 w next
next_of distinct w leads rise thread next chosen = record {
  is_open = (next.home, chosen.opens);
  target_is = opens_target distinct w leads rise next.instance next.home chosen.opens;
  prefers = prefers_of distinct w leads rise thread next chosen;
}

-- ---- what changes

pub begins_for : HomesAreDistinct → (program : Program) (rule : RuleName) (layout : Layout) (starts : List StartOf) (facts : ℕ) (made : Waiting)
    → IsLayoutOf program layout → layout.rule ≡ rule → AreStartsSeen program starts → cursors.Begins layout starts facts made → Begins program rule facts made
begins_for distinct program rule layout starts facts made layout_is rule_is starts_are begins =
    let Of : Layout → Type 0 = λ l. IsLayoutOf program l in
    let At_homes : List LiveFact → Type 0 = λ live. AreAtHomes program live in
    let Led : RuleName → Type 0 = λ r. (j : Instance) → IsOpen made j ↔ Leads program r [] j in
    record {
      is_for = record {
        layout = subst Of (sym begins.layout_is) layout_is;
        starts = starts_stay program starts made.starts begins.starts_are starts_are;
        at_homes = subst At_homes (sym begins.live) (λ f has. absurd (omega (arith, has.1)));
      };
      rule_is = ap (λ (l : Layout). l.rule) begins.layout_is ∙ rule_is;
      room_is = begins.room;
      given_is = begins.given;
      live_is = begins.live;
      opens = subst Led rule_is (begun_lead distinct program layout starts facts made layout_is starts_are begins);
    }

pub closes_for : (program : Program) (old new : Waiting) (instance : Instance) → IsFor program old → cursors.Closes old instance new → Closes program old instance new
closes_for program old new instance is closes =
    let At_homes : List LiveFact → Type 0 = λ live. AreAtHomes program live in
    record {
      stays = record {
        is_for = stays_for program old new is closes.stays (subst At_homes (sym closes.live) is.at_homes);
        rule_is = ap (λ (l : Layout). l.rule) closes.stays.layout;
        room_is = closes.stays.room;
        given_is = closes.given;
        live_is = closes.live;
      };
      opens = λ j. (
        λ open_there. let before = (closes.opens j open_there.0).0 open_there.1 in ((open_there.0, before.0), before.1),
        λ before. (before.0.0, (closes.opens j before.0.0).1 (before.0.1, before.1)),
      );
    }

-- the fact that came is the table's last
pub opens_for : HomesAreDistinct → (program : Program) (old new : Waiting) (fact : LiveFact) (table : FactTable) → IsFor program old → AreAtHomes program table.live → table.live ≡ old.live ++ fact ∷ []
    → fact.id.0 ≡ table.given → Rise 0 (map (λ f. f.id.0) new.live) → cursors.Opens old fact new → Opens program old table new
opens_for distinct program old new fact table is at_homes live_is id_is rise opens =
    let At_homes : List LiveFact → Type 0 = λ live. AreAtHomes program live in
    let live_same : new.live ≡ table.live = opens.live ∙ sym live_is in
    let stays = stays_for program old new is opens.stays (subst At_homes (sym live_same) at_homes) in
    let Named : _ → Type 0 = λ id. (j : Instance) → IsOpen new j ↔ (IsOpen old j ⊎ (Leads program new.layout.rule new.live j × Contains (premises_of j) id)) in
    record {
      is_for = stays;
      rule_is = ap (λ (l : Layout). l.rule) opens.stays.layout;
      room_is = opens.stays.room;
      given_is = opens.given ∙ id_is;
      live_is = live_same;
      opens = subst Named (id_same fact.id (record { 0 = table.given }) id_is) (comers_open distinct program old new fact stays rise opens);
    }

last-of : (before : List LiveFact) (fact d : LiveFact) → get_or (before ++ fact ∷ []) (length (before ++ fact ∷ []) - 1) d ≡ fact
last-of before fact d =
    let count : length (before ++ fact ∷ []) - 1 ≡ length before = omega (arith, length-append before (fact ∷ [])) in
    ap (λ n. get_or (before ++ fact ∷ []) n d) count ∙ get_or_from_slice_get (before ++ fact ∷ []) (length before) fact d (slice_get-end before fact)

-- the same where the fact that came is read from the table
pub comes_for : HomesAreDistinct → (old new : Waiting) (table : FactTable) (facts : List LiveFact) (d : LiveFact) → HasCome old table → facts ≡ table.live → Rise 0 (map (λ f. f.id.0) new.live)
    → cursors.Opens old (get_or facts (length facts - 1) d) new → (program : Program) → IsFor program old → AreAtHomes program table.live → Opens program old table new
comes_for distinct old new table facts d come facts_are rise opens program is at_homes =
    let same : get_or facts (length facts - 1) d ≡ come.fact =
    ap (λ fs. get_or fs (length fs - 1) d) (facts_are ∙ come.live_is) ∙ last-of old.live come.fact d in
    let Opened : LiveFact → Type 0 = λ f. cursors.Opens old f new in
    opens_for distinct program old new come.fact table is at_homes come.live_is come.id_is rise (subst Opened same opens)

pub reopens_for : HomesAreDistinct → (program : Program) (old new : Waiting) (among : List HomeNo) (table : FactTable) → IsFor program old → IsLeft old table → OpenLead old
    → Rise 0 (map (λ f. f.id.0) old.live) → Rise 0 (map (λ f. f.id.0) new.live) → cursors.Reopens old table.live among new → Reopens program old among table new
reopens_for distinct program old new among table is left leads old_rise rise reopens =
    let At_homes : List LiveFact → Type 0 = λ live. AreAtHomes program live in
    let Has : List LiveFact → Type 0 = λ live. (f : LiveFact) → Contains live f → Contains old.live f in
    let filtered : new.live ≡ filter left.keep old.live = reopens.live ∙ left.live_is in
    let within : (f : LiveFact) → Contains new.live f → Contains old.live f = subst Has (sym filtered) (λ f has. (contains_from_filter left.keep old.live f has).0) in
    let stays = stays_for program old new is reopens.stays (λ f has. is.at_homes f (within f has)) in
    let Reopened : List LiveFact → Type 0 = λ live. cursors.Reopens old live among new in
    record {
      is_for = stays;
      rule_is = ap (λ (l : Layout). l.rule) reopens.stays.layout;
      room_is = reopens.stays.room;
      given_is = reopens.given ∙ sym left.given_is;
      live_is = reopens.live;
      opens = changes_reopen distinct program old new among stays rise leads is old_rise within (subst Reopened (sym reopens.live) reopens);
    }

-- ---- answers of calls

pub chooses_for : HomesAreDistinct → (w : Waiting) → OpenLead w → Rise 0 (map (λ f. f.id.0) w.live) → (thread : ThreadNo) (result : Option Next) → MatchOption result (NoneIsOpen w) (cursors.IsNext w thread)
    → MatchOption result (NoneIsOpen w) (IsNext thread.0 w)
chooses_for distinct w leads rise thread None answer = answer
chooses_for distinct w leads rise thread (Some next) answer = next_of distinct w leads rise thread next answer

pub home_for : HomesAreDistinct → (w : Waiting) → OpenLead w → Rise 0 (map (λ f. f.id.0) w.live) → (instance : Instance) (result : Option HomeNo)
    → MatchOption result (IsOpen w instance → ⊥) (OpensTo w instance) → MatchOption result (¬ IsOpen w instance) (IsOpenTo w instance)
home_for distinct w leads rise instance None answer = answer
home_for distinct w leads rise instance (Some home) answer = open_to distinct w leads rise instance home answer

pub takes_for : {X E : Type 0} (old new : Waiting) (instance : Instance) (result : Result X E) → IfOk result (λ _. cursors.Closes old instance new)
    → IfOk result (λ _. (program : Program) → IsFor program old → Closes program old instance new)
takes_for old new instance (Ok x) answer = λ program is. closes_for program old new instance is answer
takes_for old new instance (Err e) answer = tt
