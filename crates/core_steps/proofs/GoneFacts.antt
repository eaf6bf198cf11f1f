-- What goes where homes get predicates, by a table and by a state.
use Rattle.std.proofs.Common.{◌≡◌, ◌<◌, ℕ, Bool, true, false, not, ◌&&◌, ◌||◌, List, [], ◌∷◌, ◌++◌, length, map, Option, Some, None, refl, sym, ap, subst, ◌∙◌, inl, inr, arith}
use Rattle.std.specs.Prelude.{◌==◌, nat_eq, is_some, IsSome, filter}
use Rattle.std.specs.List.{AllByRecursion, Contains}
use Rattle.std.proofs.lemmas.List.{length-map, length-reverse}
use Rattle.lin_rows.proofs.Lists.{AllByRecursion-weaken}
use Rattle.thr_base.specs.declared.names.FactId.{FactId}
use Rattle.thr_base.specs.declared.names.HomeNo.{HomeNo}
use Rattle.fact_table.specs.declared.live_fact.LiveFact.{LiveFact}
use Rattle.fact_table.specs.Live.{NoneIsMarked, live_at, premises_of as stored_premises}
use Rattle.fact_table.specs.Table.{FactTable, IsTable, HasHome}
use Rattle.withdraw.specs.Withdrawal.{IsWithout, RestOnEarlier, CameBefore}
use Rattle.withdraw.specs.Withdrawal as stored
use Rattle.transition_formula.specs.Program.{Program, at_number}
use Rattle.horn_rules.specs.Home.{Home, homes}
use Rattle.horn_rules.specs.Instance.{premises_of}
use Rattle.horn_rules.specs.Laws.{IsWord}
use Rattle.horn_rules.specs.Predicate.{Predicate}
use Rattle.horn_rules.specs.Stored.{home_numbered, same_home, HasItsHome}
use Rattle.horn_rules.proofs.Lists.{Contains-first, Contains-later, first-or-later, contains-nothing, all-contained, Contains-map, Contains-unmap}
use Rattle.horn_rules.proofs.ByNumber.{Contains-append}
use Rattle.horn_rules.proofs.InstanceLists.{eq-is, is-eq}
use Rattle.horn_rules.proofs.StoredSets.{homes-distinct}
use Rattle.derivation_tree.specs.Facts.{KeptFact}
use Rattle.derivation_tree.specs.Kept.{predicates_of_stored}
use Rattle.pending_instances.specs.Pending.{is_among}
use Rattle.core_steps.specs.State.{State}
use Rattle.core_steps.specs.Withdrawn.{has_id, stays, remaining, loses, IsWithdrawn, at_home, rests}
use Rattle.core_steps.specs.Predicates.{is_changed}
use Rattle.core_steps.specs.Readers.{kept_of, newest}
use Rattle.core_steps.specs.inside.Parts.{IsFullTable}
use Rattle.core_steps.specs.inside.Changing.{StoredPredicate, HasItsNumber, homes_of, lost_homes}
use Rattle.core_steps.proofs.Tests.{tells, true-false, any-from, any-at, both, with-both, either, filter-from, same_home-is, is-same_home}
use Rattle.core_steps.proofs.Live.{Falls, one-id, has_id-from, has_id-at, remaining-from, remaining-at}
use Rattle.core_steps.proofs.PremiseFacts.{home-of, fact-home, live-there, live_at-found}
use Rattle.core_steps.proofs.Agreements.{newest-there, there-newest}
use Rattle.core_steps.proofs.KeptPublishes.{names-from, names-to}
use Rattle.core_steps.proofs.TableFacts.{newest-cons}

-- ---- changed homes

one-home : (program : Program) (m n : ℕ) → IsSome (at_number (homes program) m) → IsSome (at_number (homes program) n) → home_numbered program m ≡ home_numbered program n → m ≡ n
one-home program m n there also same = homes-distinct program m n (home_numbered program m) (home-of program m there) (home-of program n also ∙ ap (λ h. Some h) (sym same))

changed-at : (program : Program) (new : List StoredPredicate) (home : HomeNo) → Contains (homes_of new) home → is_changed (predicates_of_stored program new) (home_numbered program home.0) ≡ true
changed-at program new home there =
    let (pair, among, same) = Contains-unmap (λ (p : StoredPredicate). p.0) new home there in
    let made : StoredPredicate → Predicate = λ p. record { home = home_numbered program p.0.0; atom = p.1 } in
    any-at (λ (p : Predicate). same_home (home_numbered program home.0) p.home) (predicates_of_stored program new) (made pair) (Contains-map made new pair among)
    (ap (λ (h : HomeNo). same_home (home_numbered program home.0) (home_numbered program h.0)) same ∙ is-same_home (home_numbered program home.0))

at-changed : (program : Program) (new : List StoredPredicate) (home : HomeNo) → AllByRecursion (HasItsNumber program) new → IsSome (at_number (homes program) home.0)
    → is_changed (predicates_of_stored program new) (home_numbered program home.0) ≡ true → Contains (homes_of new) home
at-changed program new home all some changed =
    let (p, there, test) = any-from (λ (p : Predicate). same_home (home_numbered program home.0) p.home) (predicates_of_stored program new) changed in
    let made : StoredPredicate → Predicate = λ p. record { home = home_numbered program p.0.0; atom = p.1 } in
    let (pair, among, same) = Contains-unmap made new p there in
    let homes_same : home_numbered program home.0 ≡ home_numbered program pair.0.0 = same_home-is (home_numbered program home.0) p.home test ∙ sym (ap (λ q. Predicate.home q) same) in
    let number = one-home program home.0 pair.0.0 some (all-contained (HasItsNumber program) new pair all among) homes_same in
    let numbered : ℕ → HomeNo = λ n. record { 0 = n } in
    subst (Contains (homes_of new)) (sym (ap numbered number)) (Contains-map (λ (p : StoredPredicate). p.0) new pair among)

-- ---- what is withdrawn

withdrawn-to : (program : Program) (new : List StoredPredicate) (live : List LiveFact) (f : LiveFact) → Contains live f → stored.IsWithdrawn (homes_of new) live f
    → IsWithdrawn (newest program live) (is_changed (predicates_of_stored program new)) f.id.0
withdrawn-to program new live f there (stored.at_home f' at) = at_home (kept_of program f') (there-newest program live f' there) (changed-at program new f'.fact.home at)
withdrawn-to program new live f there (stored.by_premise f' g among named goes) =
    rests (kept_of program f') g.id.0 (there-newest program live f' there) (names-from f'.kept g.id named) (withdrawn-to program new live g among goes)

withdrawn-from : (program : Program) (new : List StoredPredicate) (live : List LiveFact) (id : ℕ) → AllByRecursion (HasItsNumber program) new → AllByRecursion (λ (f : LiveFact). HasItsHome program f.fact) live
    → Falls (newest program live) → RestOnEarlier live → IsWithdrawn (newest program live) (is_changed (predicates_of_stored program new)) id
    → (f : LiveFact) → Contains live f → f.id.0 ≡ id → stored.IsWithdrawn (homes_of new) live f
withdrawn-from program new live id numbers there falls rest (at_home g among changed) f inside is =
    let same = one-id (newest program live) g (kept_of program f) falls among (there-newest program live f inside) (sym is) in
    let at : is_changed (predicates_of_stored program new) (home_numbered program f.fact.home.0) ≡ true = ap (λ (h : KeptFact). is_changed (predicates_of_stored program new) h.fact.home) (sym same) ∙ changed in
    stored.at_home f (at-changed program new f.fact.home numbers (all-contained (λ (h : LiveFact). HasItsHome program h.fact) live f there inside) at)
withdrawn-from program new live id numbers there falls rest (rests g p among named goes) f inside is =
    let same = one-id (newest program live) g (kept_of program f) falls among (there-newest program live f inside) (sym is) in
    let made : ℕ → FactId = λ n. record { 0 = n } in
    let premise : Contains (stored_premises f.kept) (made p) = names-to f.kept (made p) (subst (λ (h : KeptFact). Contains (premises_of h.kept) p) same named) in
    let each = all-contained (λ (h : LiveFact). AllByRecursion (CameBefore live h) (stored_premises h.kept)) live f rest inside in
    let came = all-contained (CameBefore live f) (stored_premises f.kept) (made p) each premise in
    let h = came.0.0 in
    let h_is : h.id.0 ≡ p = came.0.2 in
    stored.by_premise f h came.0.1 (subst (Contains (stored_premises f.kept)) (sym (ap made h_is)) premise)
    (withdrawn-from program new live p numbers there falls rest goes h came.0.1 h_is)

-- ---- what is left

without-filter : (Goes : LiveFact → Type 0) (keep : LiveFact → Bool) (live left : List LiveFact) → IsWithout Goes live left → ((f : LiveFact) → Contains live f → Goes f → keep f ≡ false)
    → ((f : LiveFact) → Contains live f → (¬ Goes f) → keep f ≡ true) → left ≡ filter keep live
without-filter Goes keep [] left is goes stay = is
without-filter Goes keep (f ∷ live) left (inl (gone, is)) goes stay =
    let at : filter keep (f ∷ live) ≡ filter keep live = let test = goes f (Contains-first f live) gone in rw test refl in
    without-filter Goes keep live left is (λ g there. goes g (Contains-later f g live there)) (λ g there. stay g (Contains-later f g live there)) ∙ sym at
without-filter Goes keep (f ∷ live) left (inr (not_gone, rest, same, is)) goes stay =
    let at : filter keep (f ∷ live) ≡ f ∷ filter keep live = let test = stay f (Contains-first f live) not_gone in rw test refl in
    same ∙ ap (λ l. f ∷ l) (without-filter Goes keep live rest is (λ g there. goes g (Contains-later f g live there)) (λ g there. stay g (Contains-later f g live there))) ∙ sym at

filter-snoc : (p : KeptFact → Bool) (xs : List KeptFact) (x : KeptFact) → filter p (xs ++ x ∷ []) ≡ filter p xs ++ filter p (x ∷ [])
filter-snoc p [] x = refl
filter-snoc p (y ∷ ys) x = elim (tells (p y)) [
  | inl hit ↦
      let one : filter p (y ∷ (ys ++ x ∷ [])) ≡ y ∷ filter p (ys ++ x ∷ []) = rw hit refl in
      let other : filter p (y ∷ ys) ≡ y ∷ filter p ys = rw hit refl in
      one ∙ ap (λ l. y ∷ l) (filter-snoc p ys x) ∙ sym (ap (λ l. l ++ filter p (x ∷ [])) other)
  | inr miss ↦
      let one : filter p (y ∷ (ys ++ x ∷ [])) ≡ filter p (ys ++ x ∷ []) = rw miss refl in
      let other : filter p (y ∷ ys) ≡ filter p ys = rw miss refl in
      one ∙ filter-snoc p ys x ∙ sym (ap (λ l. l ++ filter p (x ∷ [])) other)
]

append-none : (xs : List KeptFact) → xs ++ [] ≡ xs
append-none [] = refl
append-none (x ∷ xs) = ap (λ l. x ∷ l) (append-none xs)

newest-filter : (program : Program) (p : KeptFact → Bool) (live : List LiveFact) → newest program (filter (λ f. p (kept_of program f)) live) ≡ filter p (newest program live)
newest-filter program p [] = refl
newest-filter program p (f ∷ live) = elim (tells (p (kept_of program f))) [
  | inl hit ↦
      let one : filter (λ g. p (kept_of program g)) (f ∷ live) ≡ f ∷ filter (λ g. p (kept_of program g)) live = rw hit refl in
      let last : filter p (kept_of program f ∷ []) ≡ kept_of program f ∷ [] = rw hit refl in
      ap (newest program) one ∙ newest-cons program f (filter (λ g. p (kept_of program g)) live) ∙ ap (λ l. l ++ kept_of program f ∷ []) (newest-filter program p live)
      ∙ sym (ap (λ l. filter p (newest program live) ++ l) last) ∙ sym (filter-snoc p (newest program live) (kept_of program f)) ∙ sym (ap (filter p) (newest-cons program f live))
  | inr miss ↦
      let one : filter (λ g. p (kept_of program g)) (f ∷ live) ≡ filter (λ g. p (kept_of program g)) live = rw miss refl in
      let last : filter p (kept_of program f ∷ []) ≡ [] = rw miss refl in
      ap (newest program) one ∙ newest-filter program p live ∙ sym (append-none (filter p (newest program live)))
      ∙ sym (ap (λ l. filter p (newest program live) ++ l) last) ∙ sym (filter-snoc p (newest program live) (kept_of program f)) ∙ sym (ap (filter p) (newest-cons program f live))
]

filter-same : (p q : KeptFact → Bool) (xs : List KeptFact) → ((f : KeptFact) → Contains xs f → p f ≡ q f) → filter p xs ≡ filter q xs
filter-same p q [] same = refl
filter-same p q (x ∷ xs) same = elim (tells (q x)) [
  | inl hit ↦
      let p_hit : p x ≡ true = same x (Contains-first x xs) ∙ hit in
      let one : filter p (x ∷ xs) ≡ x ∷ filter p xs = rw p_hit refl in
      let other : filter q (x ∷ xs) ≡ x ∷ filter q xs = rw hit refl in
      one ∙ ap (λ l. x ∷ l) (filter-same p q xs (λ f there. same f (Contains-later x f xs there))) ∙ sym other
  | inr miss ↦
      let p_miss : p x ≡ false = same x (Contains-first x xs) ∙ miss in
      let one : filter p (x ∷ xs) ≡ filter p xs = rw p_miss refl in
      let other : filter q (x ∷ xs) ≡ filter q xs = rw miss refl in
      one ∙ filter-same p q xs (λ f there. same f (Contains-later x f xs there)) ∙ sym other
]

-- what remains is what has an id that remains
remaining-filter : (changed : Home → Bool) (live : List KeptFact) → Falls live → remaining changed live ≡ filter (λ f. has_id (remaining changed live) f.id) live
remaining-filter changed [] falls = refl
remaining-filter changed (x ∷ xs) falls = elim (tells (stays changed (remaining changed xs) x)) [
  | inl hit ↦
      let at : remaining changed (x ∷ xs) ≡ x ∷ remaining changed xs = rw hit refl in
      let own : has_id (x ∷ remaining changed xs) x.id ≡ true = has_id-at (x ∷ remaining changed xs) x (Contains-first x (remaining changed xs)) in
      let first : filter (λ f. has_id (x ∷ remaining changed xs) f.id) (x ∷ xs) ≡ x ∷ filter (λ f. has_id (x ∷ remaining changed xs) f.id) xs = rw own refl in
      let rest : filter (λ f. has_id (x ∷ remaining changed xs) f.id) xs ≡ filter (λ f. has_id (remaining changed xs) f.id) xs =
      filter-same (λ f. has_id (x ∷ remaining changed xs) f.id) (λ f. has_id (remaining changed xs) f.id) xs
      (λ f there. let lt : f.id < x.id = all-contained (λ (h : KeptFact). h.id < x.id) xs f falls.0 there in
      let miss : (x.id == f.id) ≡ false = other x.id f.id (λ e. omega (arith, e, lt)) in
      rw miss refl) in
      at ∙ ap (λ l. x ∷ l) (remaining-filter changed xs falls.1 ∙ sym rest) ∙ sym first ∙ sym (ap (λ r. filter (λ f. has_id r f.id) (x ∷ xs)) at)
  | inr miss ↦
      let at : remaining changed (x ∷ xs) ≡ remaining changed xs = rw miss refl in
      let gone : has_id (remaining changed xs) x.id ≡ false = not-there in
      let first : filter (λ f. has_id (remaining changed xs) f.id) (x ∷ xs) ≡ filter (λ f. has_id (remaining changed xs) f.id) xs = rw gone refl in
      at ∙ remaining-filter changed xs falls.1 ∙ sym first ∙ sym (ap (λ r. filter (λ f. has_id r f.id) (x ∷ xs)) at)
]
  where
    other : (m n : ℕ) → (m ≡ n → ⊥) → (m == n) ≡ false
    other m n differ = elim (tells (m == n)) [ inl hit ↦ absurd (differ (eq-is m n hit)) | inr miss ↦ miss ]

    not-there : has_id (remaining changed xs) x.id ≡ false
    not-there = elim (tells (has_id (remaining changed xs) x.id)) [
      | inl hit ↦
          let (f, among, is) = has_id-from (remaining changed xs) x.id hit in
          let lt : f.id < x.id = all-contained (λ (h : KeptFact). h.id < x.id) xs f falls.0 (remaining-from changed xs f among) in
          absurd (omega (arith, lt, is))
      | inr miss ↦ miss
    ]

-- The table is left with what remains in the state, in its order.
pub record AreLeft (program : Program) (new : List StoredPredicate) (live left : List LiveFact) : Type 0 where
  pub keep : LiveFact → Bool
  pub left_is : left ≡ filter keep live
  pub newest_is : newest program left ≡ remaining (is_changed (predicates_of_stored program new)) (newest program live)

pub are-left : (program : Program) (new : List StoredPredicate) (live left : List LiveFact)
    → ((changed : Home → Bool) (f : KeptFact) → Contains (newest program live) f
    → (Contains (remaining changed (newest program live)) f → ¬ IsWithdrawn (newest program live) changed f.id) × ((¬ IsWithdrawn (newest program live) changed f.id) → Contains (remaining changed (newest program live)) f))
    → AllByRecursion (HasItsNumber program) new → AllByRecursion (λ (f : LiveFact). HasItsHome program f.fact) live → Falls (newest program live) → RestOnEarlier live
    → IsWithout (stored.IsWithdrawn (homes_of new) live) live left → AreLeft program new live left
are-left program new live left remains numbers there falls rest without = record {
  keep = keep;
  left_is = left_is;
  newest_is = ap (newest program) left_is ∙ newest-filter program (λ g. has_id still g.id) live ∙ sym (remaining-filter changed whole falls);
}
  where
    whole : List KeptFact
    whole = newest program live

    changed : Home → Bool
    changed = is_changed (predicates_of_stored program new)

    still : List KeptFact
    still = remaining changed whole

    keep : LiveFact → Bool
    keep f = has_id still f.id.0

    goes : (f : LiveFact) → Contains live f → stored.IsWithdrawn (homes_of new) live f → keep f ≡ false
    goes f inside gone = elim (tells (has_id still f.id.0)) [
      | inl hit ↦
          let among = there-newest program live f inside in
          absurd ((remains changed (kept_of program f) among).0 (remaining-at changed whole (kept_of program f) falls among hit) (withdrawn-to program new live f inside gone))
      | inr miss ↦ miss
    ]

    stay : (f : LiveFact) → Contains live f → (¬ stored.IsWithdrawn (homes_of new) live f) → keep f ≡ true
    stay f inside not_gone =
        let among = there-newest program live f inside in
        has_id-at still (kept_of program f)
        ((remains changed (kept_of program f) among).1 (λ gone. not_gone (withdrawn-from program new live f.id.0 numbers there falls rest gone f inside refl)))

    left_is : left ≡ filter keep live
    left_is = without-filter (stored.IsWithdrawn (homes_of new) live) keep live left without goes stay

-- ---- homes that are renewed

bool-same : (a b : Bool) → (a ≡ true → b ≡ true) → (b ≡ true → a ≡ true) → a ≡ b
bool-same a b there back = elim (tells b) [
  | inl hit ↦ back hit ∙ sym hit
  | inr miss ↦ elim (tells a) [ inl also ↦ absurd (true-false b (there also) miss) | inr no_more ↦ no_more ∙ sym miss ]
]

or-left : (a b : Bool) → a ≡ true → (a || b) ≡ true
or-left a b e = rw e refl

or-right : (a b : Bool) → b ≡ true → (a || b) ≡ true
or-right a b e = elim (tells a) [ inl hit ↦ rw hit refl | inr miss ↦ rw miss e ]

in-front : {A : Type 0} (xs ys : List A) (x : A) → Contains xs x → Contains (xs ++ ys) x
in-front [] ys x there = absurd (contains-nothing x there)
in-front (z ∷ zs) ys x there = elim (first-or-later z x zs there) [
  | inl same ↦ subst (Contains (z ∷ (zs ++ ys))) same (Contains-first z (zs ++ ys))
  | inr later ↦ Contains-later z x (zs ++ ys) (in-front zs ys x later)
]

behind : {A : Type 0} (xs ys : List A) (x : A) → Contains ys x → Contains (xs ++ ys) x
behind [] ys x there = there
behind (z ∷ zs) ys x there = Contains-later z x (zs ++ ys) (behind zs ys x there)

filter-at : {A : Type 0} (p : A → Bool) (xs : List A) (x : A) → Contains xs x → p x ≡ true → Contains (filter p xs) x
filter-at p [] x there e = absurd (contains-nothing x there)
filter-at p (y ∷ ys) x there e = elim (first-or-later y x ys there) [
  | inl same ↦
      let hit : p y ≡ true = ap p same ∙ e in
      let at : filter p (y ∷ ys) ≡ y ∷ filter p ys = rw hit refl in
      subst (λ l. Contains l x) (sym at) (subst (Contains (y ∷ filter p ys)) same (Contains-first y (filter p ys)))
  | inr later ↦ elim (tells (p y)) [
    | inl hit ↦ let at : filter p (y ∷ ys) ≡ y ∷ filter p ys = rw hit refl in subst (λ l. Contains l x) (sym at) (Contains-later y x (filter p ys) (filter-at p ys x later e))
    | inr miss ↦ let at : filter p (y ∷ ys) ≡ filter p ys = rw miss refl in subst (λ l. Contains l x) (sym at) (filter-at p ys x later e)
  ]
]

among-from : (list : List HomeNo) (home : HomeNo) → is_among list home ≡ true → Contains list home
among-from list home hit =
    let (h, there, same) = any-from (λ (h : HomeNo). nat_eq h.0 home.0) list hit in
    let made : ℕ → HomeNo = λ n. record { 0 = n } in
    subst (Contains list) (ap made (eq-is h.0 home.0 same)) there

among-at : (list : List HomeNo) (home : HomeNo) → Contains list home → is_among list home ≡ true
among-at list home there = any-at (λ (h : HomeNo). nat_eq h.0 home.0) list home there (is-eq home.0 home.0 refl)

-- a fact of the table is live no more exactly where its id does not remain
gone-test : (program : Program) (limit : ℕ) (later : State) (table : FactTable) (id : ℕ) → IsFullTable program limit later table → not (is_some (live_at table.live id)) ≡ not (has_id later.live id)
gone-test program limit later table id is = ap not (bool-same (is_some (live_at table.live id)) (has_id later.live id) there back)
  where
    there : is_some (live_at table.live id) ≡ true → has_id later.live id ≡ true
    there some = by-option (live_at table.live id) refl some
      where
        by-option : (o : Option LiveFact) → live_at table.live id ≡ o → is_some o ≡ true → has_id later.live id ≡ true
        by-option None at e = true-false false e refl
        by-option (Some f) at e =
            let (among, id_is) = live_at-found table.live id f at in
            let live = subst (λ l. Contains l (kept_of program f)) (sym is.table_is.live_is) (there-newest program table.live f among) in
            ap (has_id later.live) (sym id_is) ∙ has_id-at later.live (kept_of program f) live

    back : has_id later.live id ≡ true → is_some (live_at table.live id) ≡ true
    back has = let (f, at) = live-there program limit later table id is has in ap (λ o. is_some o) at

-- the homes that begin their next epoch, by number
pub renewed-at : (program : Program) (limit : ℕ) (later : State) (new : List StoredPredicate) (live : List LiveFact) (table : FactTable) (n : ℕ) (home : Home) → IsFullTable program limit later table
    → AllByRecursion (HasItsNumber program) new → AllByRecursion (λ (f : LiveFact). HasItsHome program f.fact) live → at_number (homes program) n ≡ Some home
    → is_among (homes_of new ++ lost_homes table.live live) (record { 0 = n }) ≡ (is_changed (predicates_of_stored program new) home || loses (newest program live) later.live home)
renewed-at program limit later new live table n home is numbers homes_there at = bool-same (is_among (homes_of new ++ lost_homes table.live live) number) (changed || lost) there back
  where
    number : HomeNo
    number = record { 0 = n }

    changed : Bool
    changed = is_changed (predicates_of_stored program new) home

    lost : Bool
    lost = loses (newest program live) later.live home

    some : IsSome (at_number (homes program) n)
    some = subst (λ o. IsSome o) (sym at) refl

    home_is : home_numbered program n ≡ home
    home_is = let both : Some (home_numbered program n) ≡ Some home = sym (home-of program n some) ∙ at in cc

    there : is_among (homes_of new ++ lost_homes table.live live) number ≡ true → (changed || lost) ≡ true
    there hit = elim (Contains-append (homes_of new) (lost_homes table.live live) number (among-from (homes_of new ++ lost_homes table.live live) number hit)) [
      | inl of_new ↦ or-left changed lost (ap (is_changed (predicates_of_stored program new)) (sym home_is) ∙ changed-at program new number of_new)
      | inr of_lost ↦
          let (f, among, same) = Contains-unmap (λ (f : LiveFact). f.fact.home) (filter (λ f. not (is_some (live_at table.live f.id.0))) live) number of_lost in
          let (inside, gone) = filter-from (λ (f : LiveFact). not (is_some (live_at table.live f.id.0))) live f among in
          let homed : home_numbered program f.fact.home.0 ≡ home = ap (λ (h : HomeNo). home_numbered program h.0) same ∙ home_is in
          or-right changed lost (any-at (λ (g : KeptFact). same_home g.fact.home home && not (has_id later.live g.id)) (newest program live) (kept_of program f) (there-newest program live f inside)
          (with-both (same_home (home_numbered program f.fact.home.0) home) (not (has_id later.live f.id.0)) (ap (λ h. same_home h home) homed ∙ is-same_home home) (sym (gone-test program limit later table f.id.0 is) ∙ gone)))
    ]

    back : (changed || lost) ≡ true → is_among (homes_of new ++ lost_homes table.live live) number ≡ true
    back hit = elim (either changed lost hit) [
      | inl of_new ↦ among-at (homes_of new ++ lost_homes table.live live) number
          (in-front (homes_of new) (lost_homes table.live live) number (at-changed program new number numbers some (ap (is_changed (predicates_of_stored program new)) home_is ∙ of_new)))
      | inr of_lost ↦
          let (g, among, test) = any-from (λ (g : KeptFact). same_home g.fact.home home && not (has_id later.live g.id)) (newest program live) of_lost in
          let (f, inside, same) = newest-there program live g among in
          let (homed, gone) = both (same_home g.fact.home home) (not (has_id later.live g.id)) test in
          let homes_same : home_numbered program f.fact.home.0 ≡ home_numbered program n = ap (λ (h : KeptFact). h.fact.home) same ∙ same_home-is g.fact.home home homed ∙ sym home_is in
          let numbers_same = one-home program f.fact.home.0 n (all-contained (λ (h : LiveFact). HasItsHome program h.fact) live f homes_there inside) some homes_same in
          let made : ℕ → HomeNo = λ k. record { 0 = k } in
          let gone_f : not (is_some (live_at table.live f.id.0)) ≡ true = gone-test program limit later table f.id.0 is ∙ ap (λ (h : KeptFact). not (has_id later.live h.id)) same ∙ gone in
          let lost_there = Contains-map (λ (h : LiveFact). h.fact.home) (filter (λ f. not (is_some (live_at table.live f.id.0))) live) f (filter-at (λ (h : LiveFact). not (is_some (live_at table.live h.id.0))) live f inside gone_f) in
          among-at (homes_of new ++ lost_homes table.live live) number (behind (homes_of new) (lost_homes table.live live) number (subst (Contains (lost_homes table.live live)) (ap made numbers_same) lost_there))
    ]

-- the homes of a table's facts are there
pub facts-homes : (program : Program) (limit : ℕ) (state : State) (table : FactTable) → IsFullTable program limit state table → AllByRecursion (λ (f : LiveFact). HasItsHome program f.fact) table.live
facts-homes program limit state table is = AllByRecursion-weaken (λ (f : LiveFact). HasHome table.homes f.fact.home.0) (λ (f : LiveFact). HasItsHome program f.fact)
    (λ f has. fact-home program table f.fact is.table_is.homes_are has) table.live is.table_is.is_table.at_homes

-- such a home has a number
pub renewed-number : (program : Program) (new : List StoredPredicate) (state : State) (preds : List Predicate) (home : Home) {limit : ℕ} {table : FactTable} → preds ≡ predicates_of_stored program new
    → IsFullTable program limit state table → AllByRecursion (HasItsNumber program) new → (is_changed preds home || loses state.live (remaining (is_changed preds) state.live) home) ≡ true
    → (n : ℕ) × (at_number (homes program) n ≡ Some home)
renewed-number program new state preds home {limit} {table} preds_are is numbers hit = elim (either (is_changed preds home) (loses state.live (remaining (is_changed preds) state.live) home) hit) [
  | inl changed ↦
      let (p, there, test) = any-from (λ (p : Predicate). same_home home p.home) preds changed in
      let made : StoredPredicate → Predicate = λ p. record { home = home_numbered program p.0.0; atom = p.1 } in
      let (pair, among, same) = Contains-unmap made new p (subst (λ l. Contains l p) preds_are there) in
      let home_is : home_numbered program pair.0.0 ≡ home = ap (λ q. Predicate.home q) same ∙ sym (same_home-is home p.home test) in
      (pair.0.0, home-of program pair.0.0 (all-contained (HasItsNumber program) new pair numbers among) ∙ ap (λ h. Some h) home_is)
  | inr lost ↦
      let (g, among, test) = any-from (λ (g : KeptFact). same_home g.fact.home home && not (has_id (remaining (is_changed preds) state.live) g.id)) state.live lost in
      let (f, inside, same) = newest-there program table.live g (subst (λ l. Contains l g) is.table_is.live_is among) in
      let (homed, gone) = both (same_home g.fact.home home) (not (has_id (remaining (is_changed preds) state.live) g.id)) test in
      let home_is : home_numbered program f.fact.home.0 ≡ home = ap (λ (h : KeptFact). h.fact.home) same ∙ same_home-is g.fact.home home homed in
      (f.fact.home.0, home-of program f.fact.home.0 (all-contained (λ (h : LiveFact). HasItsHome program h.fact) table.live f (facts-homes program limit state table is) inside) ∙ ap (λ h. Some h) home_is)
]

-- ---- how many go

pub length-newest : (program : Program) (live : List LiveFact) → length (newest program live) ≡ length live
length-newest program live = length-reverse (map (kept_of program) live) ∙ length-map live (kept_of program)

-- what is so of all is so of those that are kept
all-filter : (P : LiveFact → Type 0) (p : LiveFact → Bool) (xs : List LiveFact) → AllByRecursion P xs → AllByRecursion P (filter p xs)
all-filter P p [] all = tt
all-filter P p (x ∷ xs) all = elim (tells (p x)) [
  | inl hit ↦ let at : filter p (x ∷ xs) ≡ x ∷ filter p xs = rw hit refl in subst (AllByRecursion P) (sym at) (all.0, all-filter P p xs all.1)
  | inr miss ↦ let at : filter p (x ∷ xs) ≡ filter p xs = rw miss refl in subst (AllByRecursion P) (sym at) (all-filter P p xs all.1)
]

-- the table after what goes is gone
pub full-left : (program : Program) (limit : ℕ) (state later : State) (table left : FactTable) (new : List StoredPredicate) → IsFullTable program limit state table → AreLeft program new table.live left.live
    → left ≡ record table { live = left.live } → IsTable left → NoneIsMarked left.live → RestOnEarlier left.live → later.given ≡ state.given
    → later.live ≡ remaining (is_changed (predicates_of_stored program new)) state.live → IsFullTable program limit later left
full-left program limit state later table left new is are same is_table unmarked rest given live = record {
  limit_is = ap (λ t. FactTable.limit t) same ∙ is.limit_is;
  table_is = record {
    homes_are = ap (λ t. FactTable.homes t) same ∙ is.table_is.homes_are;
    given_is = given ∙ is.table_is.given_is ∙ sym (ap (λ t. FactTable.given t) same);
    live_is = live ∙ ap (remaining (is_changed (predicates_of_stored program new))) is.table_is.live_is ∙ sym are.newest_is;
    is_table = is_table;
  };
  unmarked = unmarked;
  rest = rest;
  words = subst (AllByRecursion (λ (f : LiveFact). IsWord f.fact)) (sym are.left_is) (all-filter (λ (f : LiveFact). IsWord f.fact) are.keep table.live is.words);
}
