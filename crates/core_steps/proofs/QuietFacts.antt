-- When a core is quiet.
use Rattle.std.proofs.Common.{◌≡◌, ◌<◌, ◌≤◌, ◌+◌, ◌-◌, ℕ, zero, suc, Bool, true, false, List, [], ◌∷◌, length, get_or, take, Option, Some, None, refl, sym, ap, subst, ◌∙◌, inl, inr, arith}
use Rattle.std.specs.Prelude.{option_map, slice_get, is_some, IsSome, IsTrue}
use Rattle.std.specs.List.{AllByRecursion, Contains, list_any}
use Rattle.std.proofs.lemmas.Option.{slice_get-get_or}
use Rattle.lin_rows.proofs.Lists.{AllByRecursion-weaken}
use Rattle.transition_formula.specs.Program.{Program, at_number}
use Rattle.fact_table.specs.declared.live_fact.LiveFact.{LiveFact}
use Rattle.fact_table.specs.Table.{FactTable, HasHome}
use Rattle.horn_rules.specs.Home.{Home, State as AtLocation, Env as AtEdge, homes}
use Rattle.horn_rules.specs.Fact.{Fact}
use Rattle.horn_rules.specs.Stored.{home_numbered, fact_of}
use Rattle.horn_rules.proofs.Lists.{Contains-first, Contains-later, all-contained}
use Rattle.derivation_tree.specs.Facts.{KeptFact}
use Rattle.core_steps.specs.declared.held.Held.{Held}
use Rattle.core_steps.specs.State.{Opening, State, Hold, held_by}
use Rattle.core_steps.specs.Readers.{kept_of}
use Rattle.core_steps.specs.inside.Parts.{AreHolds, IsFullTable, task_of}
use Rattle.core_steps.specs.inside.Quiet.{IsFailing, NoneFails, NoneIn}
use Rattle.core_steps.proofs.Tests.{tells, true-false}
use Rattle.core_steps.proofs.Live.{Falls, fact_at-found, found-fact_at}
use Rattle.core_steps.proofs.Workers.{held-first}
use Rattle.core_steps.proofs.Counts.{Counts, holder}
use Rattle.core_steps.proofs.PremiseFacts.{fact-home}
use Rattle.core_steps.proofs.Agreements.{newest-there, there-newest}

-- each place is free
abbrev pub AreFree : List (Option Held) → Type 0
AreFree holds = AllByRecursion (λ hold. hold ≡ None) holds

all-places : {A : Type 0} (P : A → Type 0) (xs : List A) (k : ℕ) (x : A) → AllByRecursion P xs → slice_get xs k ≡ Some x → P x
all-places P [] k x all is = cc
all-places P (y ∷ ys) zero x all is = let same : y ≡ x = cc in subst P same all.0
all-places P (y ∷ ys) (suc k) x all is = all-places P ys k x all.1 is

places-all : {A : Type 0} (P : A → Type 0) (xs : List A) → ((k : ℕ) (x : A) → slice_get xs k ≡ Some x → P x) → AllByRecursion P xs
places-all P [] each = tt
places-all P (x ∷ xs) each = (each 0 x refl, places-all P xs (λ k y is. each (suc k) y is))

-- a worker that holds a job has its place taken
pub free-none : (opening : Opening) (state : State) (holds : List (Option Held)) → Counts opening state → AreHolds opening.program opening.workers state holds → AreFree holds → state.holds ≡ []
free-none opening state holds counts are free = of state.holds refl
  where
    of : (hs : List Hold) → state.holds ≡ hs → state.holds ≡ []
    of [] is = is
    of (hold ∷ hs) is =
        let within = (subst (AllByRecursion (λ (h : Hold). (1 ≤ holder h) × (holder h ≤ opening.workers))) is counts.holders).0 in
        let place = hold.worker - 1 in
        let lt : place < length holds = let one = are.one_each in omega (arith, one, within.0, within.1) in
        let at = slice_get-get_or holds place None lt in
        let none = all-places (λ (h : Option Held). h ≡ None) holds place (get_or holds place None) free at in
        let held = are.each place (get_or holds place None) at in
        let number : place + 1 ≡ hold.worker = omega (arith, within.0) in
        let there : held_by state.holds hold.worker ≡ Some hold.task = ap (λ xs. held_by xs hold.worker) is ∙ held-first hold hs hold.worker refl in
        let wrong : Some hold.task ≡ None = sym there ∙ ap (held_by state.holds) (sym number) ∙ held ∙ ap (option_map (task_of opening.program)) none in
        cc

pub none-free : (opening : Opening) (state : State) (holds : List (Option Held)) → AreHolds opening.program opening.workers state holds → state.holds ≡ [] → AreFree holds
none-free opening state holds are none = places-all (λ (h : Option Held). h ≡ None) holds (λ k h is. by-held h (sym (are.each k h is) ∙ ap (λ hs. held_by hs (k + 1)) none))
  where
    by-held : (h : Option Held) → option_map (task_of opening.program) h ≡ None → h ≡ None
    by-held None e = refl
    by-held (Some held) e = cc

-- ---- facts that fail

pub none-fails : (program : Program) (limit : ℕ) (state : State) (table : FactTable) → IsFullTable program limit state table → NoneIn program table.live → NoneFails state
none-fails program limit state table is none id i fact at fails =
    let (g, there, id_is, fact_is) = fact_at-found state.live id fact at in
    let (f, found, same) = newest-there program table.live g (subst (λ xs. Contains xs g) is.table_is.live_is there) in
    all-contained (λ (h : LiveFact). ¬ IsFailing (home_numbered program h.fact.home.0)) table.live f none found
    (i, ap (λ (h : KeptFact). h.fact.home) same ∙ ap (λ x. Fact.home x) fact_is ∙ fails)

pub fails-there : (program : Program) (limit : ℕ) (state : State) (table : FactTable) (f : LiveFact) → IsFullTable program limit state table → Falls state.live → Contains table.live f
    → IsFailing (home_numbered program f.fact.home.0) → ¬ NoneFails state
fails-there program limit state table f is falls there (i, fails) none =
    let live : Contains state.live (kept_of program f) = subst (λ xs. Contains xs (kept_of program f)) (sym is.table_is.live_is) (there-newest program table.live f there) in
    none f.id.0 i (fact_of program f.fact) (found-fact_at state.live (kept_of program f) falls live) fails

-- ---- some job is held

any-held : (holds : List (Option Held)) → list_any (λ hold. is_some hold) holds ≡ false → AreFree holds
any-held [] none = tt
any-held (None ∷ holds) none = (refl, any-held holds none)
any-held (Some held ∷ holds) none = cc

free-any : (holds : List (Option Held)) → AreFree holds → list_any (λ hold. is_some hold) holds ≡ false
free-any [] free = refl
free-any (None ∷ holds) free = free-any holds free.1
free-any (Some held ∷ holds) free = let wrong : Some held ≡ None = free.0 in absurd cc

pub some-held : (opening : Opening) (state : State) (holds : List (Option Held)) → AreHolds opening.program opening.workers state holds → list_any (λ hold. is_some hold) holds ≡ true → ¬ (state.holds ≡ [])
some-held opening state holds are some none =
    let free = free-any holds (none-free opening state holds are none) in
    let wrong : true ≡ false = sym some ∙ free in cc

pub held-some : (opening : Opening) (state : State) (holds : List (Option Held)) → Counts opening state → AreHolds opening.program opening.workers state holds → (¬ (state.holds ≡ []))
    → list_any (λ hold. is_some hold) holds ≡ true
held-some opening state holds counts are some = elim (tells (list_any (λ hold. is_some hold) holds)) [
  | inl hit ↦ hit
  | inr miss ↦ absurd (some (free-none opening state holds counts are (any-held holds miss)))
]

pub not-some : (state : State) (b : Bool) → b ≡ false → ((¬ (state.holds ≡ [])) → IsTrue b) → state.holds ≡ []
not-some state b fails some = by-list state.holds refl
  where
    by-list : (holds : List Hold) → state.holds ≡ holds → state.holds ≡ []
    by-list [] is = is
    by-list (hold ∷ holds) is = true-false b (some (λ none. let wrong : hold ∷ holds ≡ [] = sym is ∙ none in cc)) fails

-- the place of a home in its thread
abbrev pub place_at : Home → ℕ
place_at (AtLocation i l) = l
place_at (AtEdge i e) = e

pub homes-there : (program : Program) (limit : ℕ) (state : State) (table : FactTable) (facts : List LiveFact) → IsFullTable program limit state table → facts ≡ table.live
    → AllByRecursion (λ (f : LiveFact). IsSome (at_number (homes program) f.fact.home.0)) facts
homes-there program limit state table facts is same = subst (AllByRecursion (λ (f : LiveFact). IsSome (at_number (homes program) f.fact.home.0))) (sym same)
    (AllByRecursion-weaken (λ (f : LiveFact). HasHome table.homes f.fact.home.0) (λ (f : LiveFact). IsSome (at_number (homes program) f.fact.home.0))
    (λ f has. fact-home program table f.fact is.table_is.homes_are has) table.live is.table_is.is_table.at_homes)

-- where none fails, none in the table does
pub fails-none : (program : Program) (limit : ℕ) (state : State) (table : FactTable) → IsFullTable program limit state table → Falls state.live → NoneFails state → NoneIn program table.live
fails-none program limit state table is falls none = each table.live (λ f there. there)
  where
    each : (live : List LiveFact) → ((f : LiveFact) → Contains live f → Contains table.live f) → NoneIn program live
    each [] inside = tt
    each (f ∷ live) inside =
        ((λ fails. fails-there program limit state table f is falls (inside f (Contains-first f live)) fails none), each live (λ g there. inside g (Contains-later f g live there)))

-- one more that is not there
pub none-more : (program : Program) (facts : List LiveFact) (i : ℕ) (d : LiveFact) → i < length facts → NoneIn program (take i facts)
    → (¬ IsFailing (home_numbered program (get_or facts i d).fact.home.0)) → NoneIn program (take (i + 1) facts)
none-more program [] i d lt none not = absurd (omega arith)
none-more program (f ∷ facts) zero d lt none not = (not, tt)
none-more program (f ∷ facts) (suc i) d lt none not =
    let rest : NoneIn program (take (i + 1) facts) = none-more program facts i d (omega arith) none.1 not in
    let number : suc (i + 1) ≡ suc i + 1 = omega arith in
    subst (λ n. NoneIn program (take n (f ∷ facts))) number (none.0, rest)
