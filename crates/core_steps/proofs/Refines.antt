-- A refine keeps what is kept, and a history that is legal does.
use Rattle.std.proofs.Common.{◌≡◌, ◌≤◌, ℕ, suc, Bool, true, false, not, ◌&&◌, ◌||◌, List, [], ◌∷◌, map, refl, sym, ap, subst, ◌∙◌, inl, inr, arith}
use Rattle.std.specs.Prelude.{if◌then◌else◌}
use Rattle.std.specs.List.{AllByRecursion, Contains}
use Rattle.lin_rows.proofs.Lists.{AllByRecursion-weaken}
use Rattle.horn_rules.specs.Home.{Home}
use Rattle.horn_rules.specs.Fact.{Sets, Fact}
use Rattle.horn_rules.specs.Instance.{premises_of}
use Rattle.horn_rules.specs.Case.{Case}
use Rattle.horn_rules.specs.Predicate.{Predicate}
use Rattle.horn_rules.specs.Stored.{same_home}
use Rattle.horn_rules.proofs.Lists.{Contains-map, Contains-unmap}
use Rattle.derivation_tree.specs.Facts.{KeptFact}
use Rattle.core_steps.specs.State.{Opening, State, Task, holds_without}
use Rattle.core_steps.specs.Event.{Event, Take, New, Same, Nothing, StalePublish, Claim, Refine, StaleRefine, Stop, StaleStop, History}
use Rattle.core_steps.specs.Withdrawn.{has_id, remaining, loses}
use Rattle.core_steps.specs.Predicates.{with_predicate, with_predicates, is_changed}
use Rattle.core_steps.specs.After.{with_new, effect, after}
use Rattle.core_steps.specs.Allowed.{IsOver, Suits}
use Rattle.core_steps.specs.Legal.{IsLegal}
use Rattle.core_steps.specs.Laws.{IsPosted}
use Rattle.core_steps.proofs.Tests.{tells, true-false, none-at, neither, with-both, is-same_home}
use Rattle.core_steps.proofs.Live.{Falls, remaining-from, remaining-home, remaining-at, remaining-falls, all-remaining}
use Rattle.core_steps.proofs.Derived.{over-change, fact-change, remaining-derived}
use Rattle.core_steps.proofs.Keeps.{Keeps, target-home, taken-still, keeps-start, keeps-fewer, without-from}
use Rattle.core_steps.proofs.Events.{keeps-take, keeps-new, keeps-same, keeps-nothing}

-- a home of no new predicate keeps its predicates
pub unchanged-predicates : (sets : Sets) (predicates : List Predicate) (home : Home) → is_changed predicates home ≡ false → with_predicates sets predicates home ≡ sets home
unchanged-predicates sets [] home e = refl
unchanged-predicates sets (p ∷ ps) home e =
    let (apart, rest) = neither (same_home home p.home) (is_changed ps home) e in
    let same : with_predicate sets p home ≡ sets home = rw apart refl in
    unchanged-predicates (with_predicate sets p) ps home rest ∙ same

-- epochs rise by one or stay
epoch-rises : (b : Bool) (n : ℕ) → n ≤ (if b then suc n else n)
epoch-rises true n = omega arith
epoch-rises false n = omega arith

-- and where one is no greater than before, it stayed
epoch-stayed : (b : Bool) (n m : ℕ) → m ≤ n → m ≡ (if b then suc n else n) → b ≡ false
epoch-stayed true n m below e = absurd (omega (arith, below, e))
epoch-stayed false n m below e = refl

-- a fact that no home lost remains
lost-nothing : (changed : Home → Bool) (live : List KeptFact) (f : KeptFact) → Falls live → Contains live f → loses live (remaining changed live) f.fact.home ≡ false
    → Contains (remaining changed live) f
lost-nothing changed live f falls there none =
    let test = none-at (λ (g : KeptFact). same_home g.fact.home f.fact.home && not (has_id (remaining changed live) g.id)) live f none there in
    elim (tells (has_id (remaining changed live) f.id)) [
      | inl has ↦ remaining-at changed live f falls there has
      | inr miss ↦
          let gone : not (has_id (remaining changed live) f.id) ≡ true = rw miss refl in
          true-false (same_home f.fact.home f.fact.home && not (has_id (remaining changed live) f.id))
          (with-both (same_home f.fact.home f.fact.home) (not (has_id (remaining changed live) f.id)) (is-same_home f.fact.home) gone) test
    ]

pub keeps-refined : (opening : Opening) (state : State) (predicates : List Predicate) → Keeps opening state → Keeps opening (with_new predicates state)
keeps-refined opening state predicates keeps = record {
  falls = remaining-falls changed state.live keeps.falls;
  old = all-still state.live keeps.old;
  derived = remaining-derived opening.program opening.rule state.sets sets changed state.live (unchanged-predicates state.sets predicates) keeps.falls keeps.derived;
  held_taken = λ hold there. taken-still opening state.given changed state.live state.epochs epochs hold.task rises (keeps.held_taken hold there);
  held_new = keeps.held_new;
  held_apart = keeps.held_apart;
  published_taken = λ task there. taken-still opening state.given changed state.live state.epochs epochs task rises (keeps.published_taken task there);
  once = keeps.once;
  posted = λ task there present given over. still task there present given over;
}
  where
    changed : Home → Bool
    changed home = is_changed predicates home

    sets : Sets
    sets home = with_predicates state.sets predicates home

    epochs : Home → ℕ
    epochs home = if is_changed predicates home || loses state.live (remaining (is_changed predicates) state.live) home then suc (state.epochs home) else state.epochs home

    rises : (home : Home) → state.epochs home ≤ epochs home
    rises home = epoch-rises (is_changed predicates home || loses state.live (remaining (is_changed predicates) state.live) home) (state.epochs home)

    all-still : (live : List KeptFact) → AllByRecursion (λ (f : KeptFact). f.id ≤ state.given) live → AllByRecursion (λ (f : KeptFact). f.id ≤ state.given) (remaining (is_changed predicates) live)
    all-still live all = all-remaining (λ (f : KeptFact). f.id ≤ state.given) (is_changed predicates) live all

    again : (given : Case) → IsPosted state given → is_changed predicates given.target ≡ false
        → loses state.live (remaining (is_changed predicates) state.live) given.target ≡ false → IsPosted (with_new predicates state) given
    again given (inl refuted) kept unlost = inl refuted
    again given (inr (fact, is, there)) kept unlost =
        let (f, found, same) = Contains-unmap (λ (g : KeptFact). g.fact) state.live fact there in
        let home : f.fact.home ≡ given.target = ap (λ x. Fact.home x) same ∙ is.at_target in
        let stays = lost-nothing (is_changed predicates) state.live f keeps.falls found (ap (loses state.live (remaining (is_changed predicates) state.live)) home ∙ unlost) in
        inr (
          fact,
          fact-change state.sets (with_predicates state.sets predicates) given fact (unchanged-predicates state.sets predicates given.target kept) is,
          subst (Contains (map (λ (g : KeptFact). g.fact) (remaining (is_changed predicates) state.live))) same
              (Contains-map (λ (g : KeptFact). g.fact) (remaining (is_changed predicates) state.live) f stays),
        )

    still : (task : Task) → Contains state.published task → task.epoch ≡ epochs task.home → (given : Case)
        → IsOver opening.program sets (remaining (is_changed predicates) state.live) task.instance given → IsPosted (with_new predicates state) given
    still task there present given over =
        let taken = keeps.published_taken task there in
        let renewed = is_changed predicates task.home || loses state.live (remaining (is_changed predicates) state.live) task.home in
        let stayed : renewed ≡ false = epoch-stayed renewed (state.epochs task.home) task.epoch taken.epoch present in
        let (kept, unlost) = neither (is_changed predicates task.home) (loses state.live (remaining (is_changed predicates) state.live) task.home) stayed in
        let same_epoch : epochs task.home ≡ state.epochs task.home = ap (λ b. if b then suc (state.epochs task.home) else state.epochs task.home) stayed in
        let all = AllByRecursion-weaken (Contains (remaining (is_changed predicates) state.live))
        (λ (f : KeptFact). Contains state.live f × (state.sets f.fact.home ≡ with_predicates state.sets predicates f.fact.home))
        (λ f c. (
          remaining-from (is_changed predicates) state.live f c,
          sym (unchanged-predicates state.sets predicates f.fact.home (remaining-home (is_changed predicates) state.live f c)),
        ))
        (premises_of over.premises) over.are_live in
        let before = over-change opening.program (with_predicates state.sets predicates) state.sets (remaining (is_changed predicates) state.live) state.live task.instance given over all in
        let target = target-home opening state.sets state.given state.live state.epochs task given taken before in
        again given (keeps.posted task there (present ∙ same_epoch) given before)
        (ap (is_changed predicates) target ∙ kept) (ap (loses state.live (remaining (is_changed predicates) state.live)) target ∙ unlost)

-- ---- histories

-- claims and a stop stand beside what is kept
keeps-beside : (opening : Opening) (state other : State) → other ≡ record state { claims = other.claims; stop = other.stop; refined = other.refined } → Keeps opening state → Keeps opening other
keeps-beside opening state other same keeps = subst (Keeps opening) (sym same) (record {
  falls = keeps.falls;
  old = keeps.old;
  derived = keeps.derived;
  held_taken = keeps.held_taken;
  held_new = keeps.held_new;
  held_apart = keeps.held_apart;
  published_taken = keeps.published_taken;
  once = keeps.once;
  posted = keeps.posted;
})

pub keeps-effect : (opening : Opening) (state : State) (event : Event) → Keeps opening state → Suits opening state event → Keeps opening (effect opening state event)
keeps-effect opening state (Take w instance) keeps suits = keeps-take opening state w instance keeps suits.1
keeps-effect opening state (New w id fact) keeps suits = keeps-new opening state w id fact keeps suits.1
keeps-effect opening state (Same w id) keeps suits = keeps-same opening state w id keeps suits.1
keeps-effect opening state (Nothing w) keeps suits = keeps-nothing opening state w keeps suits.1
keeps-effect opening state (StalePublish w) keeps suits = keeps-fewer opening state (holds_without w state.holds) (λ hold there. (without-from w state.holds hold there).0) keeps
keeps-effect opening state (Claim w id) keeps suits = keeps-beside opening state (effect opening state (Claim w id)) refl keeps
keeps-effect opening state (Refine w scope predicates) keeps suits =
    keeps-beside opening (with_new predicates state) (effect opening state (Refine w scope predicates)) refl (keeps-refined opening state predicates keeps)
keeps-effect opening state (StaleRefine w) keeps suits = keeps-beside opening state (effect opening state (StaleRefine w)) refl keeps
keeps-effect opening state (Stop w reason) keeps suits =
    keeps-beside opening (record state { holds = holds_without w state.holds }) (effect opening state (Stop w reason)) refl
    (keeps-fewer opening state (holds_without w state.holds) (λ hold there. (without-from w state.holds hold there).0) keeps)
keeps-effect opening state (StaleStop w) keeps suits =
    keeps-beside opening (record state { holds = holds_without w state.holds }) (effect opening state (StaleStop w)) refl
    (keeps-fewer opening state (holds_without w state.holds) (λ hold there. (without-from w state.holds hold there).0) keeps)

pub keeps-legal : (opening : Opening) (history : History) → IsLegal opening history → Keeps opening (after opening history)
keeps-legal opening [] legal = keeps-start opening
keeps-legal opening (event ∷ earlier) legal = keeps-effect opening (after opening earlier) event (keeps-legal opening earlier legal.1) legal.0.suits
