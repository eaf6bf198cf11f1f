-- What is open among cursors, said of the program.
use Rattle.std.proofs.Common.{◌≡◌, ℕ, zero, suc, ◌<◌, inl, inr, List, [], ◌∷◌, map, length, get_or, Some, None, refl, ap, sym, ◌∙◌, subst, arith}
use Rattle.std.specs.List.{Contains}
use Rattle.std.specs.Option.{IsSome}
use Rattle.thr_base.specs.Held.{Rise}
use Rattle.thr_base.specs.declared.names.HomeNo.{HomeNo}
use Rattle.thr_base.specs.declared.names.Instance.{Instance}
use Rattle.thr_base.specs.declared.names.Instance.TheVariants as stored
use Rattle.fact_table.specs.declared.live_fact.LiveFact.{LiveFact}
use Rattle.instance_cursors.specs.declared.start.Start.{Start as StartOf}
use Rattle.instance_cursors.specs.Cursors.{is_among}
use Rattle.instance_cursors.specs.Waiting.{OpensTo, Waiting, untaken}
use Rattle.instance_cursors.specs.Ways.{Layout}
use Rattle.transition_formula.specs.Program.{Program, at_number}
use Rattle.horn_rules.specs.Home.{Home, State, homes}
use Rattle.horn_rules.specs.Laws.{HomesAreDistinct}
use Rattle.pending_instances.specs.Layout.{AreStartsSeen, IsLayoutOf}
use Rattle.pending_instances.specs.Laws.{BegunLead, ChangesReopen, ComersOpen, StaysForPrograms, TurnsLead}
use Rattle.pending_instances.specs.Open.{Leads, LeadsTo, home_live, target_in}
use Rattle.pending_instances.specs.Pending.{AreAtHomes, IsFor}
use Rattle.pending_instances.proofs.Leading.{Fits, env_leads, env_there, guar_leads, guar_there, inter_leads, inter_there, leads_back, leads_forward, own_leads, own_there, same_number}
use Rattle.pending_instances.proofs.Numbering.{leads_somewhere}
use Rattle.pending_instances.proofs.Seen.{stands_from, stands_of}

pub turns_lead : HomesAreDistinct → TurnsLead
turns_lead distinct program layout starts live layout_is starts_are at_homes rise instance home =
    let fits : Fits program layout starts live = record { layout_is = layout_is; starts_are = starts_are; at_homes = at_homes; rise = rise; distinct = distinct } in
    (leads_forward program layout starts live fits instance home, leads_back program layout starts live fits instance home)

pub fits_of : HomesAreDistinct → (program : Program) (w : Waiting) → IsFor program w → Rise 0 (map (λ f. f.id.0) w.live) → Fits program w.layout w.starts w.live
fits_of distinct program w is rise = record { layout_is = is.layout; starts_are = is.starts; at_homes = is.at_homes; rise = rise; distinct = distinct }

leads_of : (program : Program) (w : Waiting) (instance : Instance) (home : HomeNo) → LeadsTo program w.layout.rule w.live instance home → Leads program w.layout.rule w.live instance
leads_of program w instance home is = record { has_kind = is.has_kind; target = is.is_target.target; target_is = is.is_target.target_is }

-- ---- starts that differ in what is taken

-- a start of the other list that differs in that alone
record Alike (other : List StartOf) (s : StartOf) : Type 0 where
  start : StartOf
  is_there : Contains other start
  same : untaken start ≡ untaken s

alike_first : (x y : StartOf) (one other : List StartOf) (s : StartOf) → untaken x ≡ untaken y → ((k : ℕ) → k < length one → get_or one k s ≡ s → Alike other s) → (k : ℕ) → k < length (x ∷ one)
    → get_or (x ∷ one) k s ≡ s → Alike (y ∷ other) s
alike_first x y one other s heads more zero lt is = record { start = y; is_there = (0, omega arith, refl); same = sym heads ∙ ap untaken is }
alike_first x y one other s heads more (suc k) lt is =
    let rest = more k (omega (arith, lt)) is in record { start = rest.start; is_there = (suc rest.is_there.0, omega (arith, rest.is_there.1), rest.is_there.2); same = rest.same }

alike_at : (one other : List StartOf) → map untaken one ≡ map untaken other → (s : StartOf) (k : ℕ) → k < length one → get_or one k s ≡ s → Alike other s
alike_at [] other same s k lt is = absurd (omega arith)
alike_at (x ∷ one) [] same s k lt is = cc
alike_at (x ∷ one) (y ∷ other) same s k lt is =
    let heads : untaken x ≡ untaken y = cc in
    let tails : map untaken one ≡ map untaken other = cc in
    alike_first x y one other s heads (λ n less at. alike_at one other tails s n less at) k lt is

untaken_at : (one other : List StartOf) → map untaken one ≡ map untaken other → (s : StartOf) → Contains one s → (t : StartOf) × Contains other t × (untaken t ≡ untaken s)
untaken_at one other same s has = let alike = alike_at one other same s has.0 has.1 has.2 in (alike.start, alike.is_there, alike.same)

pub starts_stay : (program : Program) (one other : List StartOf) → map untaken other ≡ map untaken one → AreStartsSeen program one → AreStartsSeen program other
starts_stay program one other same is =
    record {
      are = λ s has.
          let old = untaken_at other one same s has in
          let Some_thread : ℕ → Type 0 = λ n. IsSome (at_number program.threads n) in
          subst Some_thread (ap (λ (x : StartOf). x.thread.0) old.2) (is.are old.0 old.1);
      homes_are = λ s has.
          let old = untaken_at other one same s has in
          let At : StartOf → Type 0 = λ x. at_number (homes program) x.home.0 ≡ Some (State x.thread.0 1) in
          subst At old.2 (is.homes_are old.0 old.1);
      all = λ i there.
          let start = is.all i there in
          let new = untaken_at one other (sym same) start.0 start.1 in
          (new.0, new.1, ap (λ (x : StartOf). x.thread.0) new.2 ∙ start.2);
    }

pub stays_for : StaysForPrograms
stays_for program old new is stays at_homes =
    let Of : Layout → Type 0 = λ l. IsLayoutOf program l in
    record { layout = subst Of (sym stays.layout) is.layout; starts = starts_stay program old.starts new.starts stays.starts is.starts; at_homes = at_homes }

-- ---- the beginning

pub begun_lead : HomesAreDistinct → BegunLead
begun_lead distinct program layout starts facts made layout_is starts_are begins instance =
    let fits : Fits program layout starts [] = record { layout_is = layout_is; starts_are = starts_are; at_homes = λ f has. absurd (omega (arith, has.1)); rise = tt; distinct = distinct } in (
      (λ open_there.
          let leads = leads_forward program layout starts [] fits instance open_there.0 ((begins.opens instance open_there.0).0 open_there.1) in
          record { has_kind = leads.has_kind; target = leads.is_target.target; target_is = leads.is_target.target_is }),
      λ leads. let at = leads_somewhere program layout starts [] fits instance leads in (at.0, (begins.opens instance at.0).1 (leads_back program layout starts [] fits instance at.0 at.1)),
    )

-- ---- a fact comes

pub comers_open : HomesAreDistinct → ComersOpen
comers_open distinct program old new fact is rise opens instance =
    let fits = fits_of distinct program new is rise in (
      (λ open_there. elim ((opens.opens instance open_there.0).0 open_there.1) [
        | inl before ↦ inl (open_there.0, before)
        | inr leads ↦ inr (leads_of program new instance open_there.0 (leads_forward program new.layout new.starts new.live fits instance open_there.0 leads.0), leads.1)
      ]),
      λ either. elim either [
        | inl before ↦ (before.0, (opens.opens instance before.0).1 (inl before.1))
        | inr leads ↦
            let at = leads_somewhere program new.layout new.starts new.live fits instance leads.0 in
            (at.0, (opens.opens instance at.0).1 (inr (leads_back program new.layout new.starts new.live fits instance at.0 at.1, leads.1)))
      ],
    )

-- ---- facts go, and homes change

-- a fact that is left stands where it stood
home_stays : (program : Program) (old new : List LiveFact) → Rise 0 (map (λ f. f.id.0) old) → AreAtHomes program old → AreAtHomes program new → ((f : LiveFact) → Contains new f → Contains old f)
    → (id : ℕ) (home : Home) → home_live program new id ≡ Some home → home_live program old id ≡ Some home
home_stays program old new rise old_homes new_homes within id home is =
    let there = stands_from program new new_homes id home is in
    let before = stands_of program old rise old_homes there.0 (within there.0 there.1.is_live) in
    let homes_same : Some before.0 ≡ Some home = sym before.1.number_is ∙ there.1.number_is in
    let At : ℕ → Type 0 = λ n. home_live program old n ≡ Some before.0 in
    subst At there.1.id_is before.1.home_is ∙ homes_same

-- The facts that are left are among those before.
record Within (program : Program) (old new : List LiveFact) : Type 0 where
  rise : Rise 0 (map (λ f. f.id.0) old)
  old_homes : AreAtHomes program old
  new_homes : AreAtHomes program new
  within : (f : LiveFact) → Contains new f → Contains old f

target_stays : (program : Program) (old new : List LiveFact) → Within program old new → (instance : Instance) (target : Home) → target_in program new instance ≡ Some target → target_in program old instance ≡ Some target
target_stays program old new is (stored.Init thread) target there = there
target_stays program old new is (stored.Own f e) target there =
    let from = own_there program f.0 e.0 (home_live program new f.0) None target there in
    own_leads program old f e from.0 from.1 (home_stays program old new is.rise is.old_homes is.new_homes is.within f.0 from.0 from.2) from.3 ∙ ap (λ h. Some h) from.4
target_stays program old new is (stored.Guar f e) target there =
    let from = guar_there program f.0 e.0 (home_live program new f.0) None target there in
    guar_leads program old f e from.0 from.1 (home_stays program old new is.rise is.old_homes is.new_homes is.within f.0 from.0 from.2) from.3 ∙ ap (λ h. Some h) from.4
target_stays program old new is (stored.Env f t) target there =
    let from = env_there program f.0 t.0 (home_live program new f.0) (home_live program new t.0) target there in
    env_leads program old f t from.0 from.1 (home_stays program old new is.rise is.old_homes is.new_homes is.within f.0 from.0 from.2)
    (home_stays program old new is.rise is.old_homes is.new_homes is.within t.0 from.1 from.3) from.4 ∙ ap (λ h. Some h) from.5
target_stays program old new is (stored.Inter f g e) target there =
    let from = inter_there program f.0 g.0 e.0 (home_live program new f.0) (home_live program new g.0) target there in
    inter_leads program old f g e from.0 from.1 from.2 (home_stays program old new is.rise is.old_homes is.new_homes is.within f.0 from.0 from.3)
    (home_stays program old new is.rise is.old_homes is.new_homes is.within g.0 from.1 from.4) from.5 from.6 ∙ ap (λ h. Some h) from.7

pub changes_reopen : HomesAreDistinct → ChangesReopen
changes_reopen distinct program old new among is rise old_leads old_is old_rise within reopens instance =
    let fits = fits_of distinct program new is rise in
    let old_fits = fits_of distinct program old old_is old_rise in
    let inside : Within program old.live new.live = record { rise = old_rise; old_homes = old_is.at_homes; new_homes = is.at_homes; within = within } in (
      (λ open_there.
          let both = (reopens.opens instance open_there.0).0 open_there.1 in
          let leads = leads_forward program new.layout new.starts new.live fits instance open_there.0 both.0 in (
            leads_of program new instance open_there.0 leads,
            elim both.1 [
              | inl before ↦ inl (open_there.0, before)
              | inr changed ↦ inr (open_there.0, leads.is_target, changed)
            ],
          )),
      λ both.
          let at = leads_somewhere program new.layout new.starts new.live fits instance both.0 in
          let back = leads_back program new.layout new.starts new.live fits instance at.0 at.1 in
          elim both.1 [
            | inl before ↦
                let old_to = leads_forward program old.layout old.starts old.live old_fits instance before.0 (old_leads instance before.0 before.1) in
                let targets : Some old_to.is_target.target ≡ Some at.1.is_target.target =
                sym old_to.is_target.target_is ∙ target_stays program old.live new.live inside instance at.1.is_target.target at.1.is_target.target_is in
                let target : old_to.is_target.target ≡ at.1.is_target.target = cc in
                let same = same_number program distinct before.0 at.0 old_to.is_target.target at.1.is_target.target old_to.is_target.number_is at.1.is_target.number_is target in
                let Opened : HomeNo → Type 0 = λ h. OpensTo old instance h in
                (at.0, (reopens.opens instance at.0).1 (back, inl (subst Opened same before.1)))
            | inr changed ↦
                let targets : Some changed.1.target ≡ Some at.1.is_target.target = sym changed.1.target_is ∙ at.1.is_target.target_is in
                let target : changed.1.target ≡ at.1.is_target.target = cc in
                let same = same_number program distinct changed.0 at.0 changed.1.target at.1.is_target.target changed.1.number_is at.1.is_target.number_is target in
                (at.0, (reopens.opens instance at.0).1 (back, inr (ap (λ h. is_among among h) (sym same) ∙ changed.2)))
          ],
    )
