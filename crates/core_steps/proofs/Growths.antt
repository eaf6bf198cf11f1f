-- What predicates come to that homes are to get, and how epochs rise.
use Rattle.std.proofs.Common.{◌≡◌, ◌≢◌, ◌⊎◌, ◌<◌, ◌≤◌, ◌+◌, ◌-◌, ℕ, zero, suc, true, false, List, [], ◌∷◌, ◌++◌, length, drop, get_or, Some, refl, sym, ap, subst, ◌∙◌, inl, inr, arith}
use Rattle.std.specs.Prelude.{◌==◌, if◌then◌else◌, slice_set, slice_index_or, Result, Ok}
use Rattle.std.specs.List.{AllByRecursion, Contains}
use Rattle.std.proofs.lemmas.List.{map-append, length-set}
use Rattle.thr_base.specs.Limits.{most_predicates}
use Rattle.thr_base.specs.declared.names.HomeNo.{HomeNo}
use Rattle.lin_rows.specs.Row.{Row}
use Rattle.lin_rows.proofs.Lists.{AllByRecursion-append}
use Rattle.predicate_sets.specs.HomeSet.{Lacks}
use Rattle.predicate_sets.specs.Sets.{set_at, with_set, IsAddAnswer}
use Rattle.predicate_sets.specs.declared.sets.Added.{Added}
use Rattle.predicate_sets.specs.declared.sets.Added.TheVariants as inserted
use Rattle.predicate_sets.specs.declared.sets.AddStop.{AddStop}
use Rattle.transition_formula.specs.Program.{Program, at_number}
use Rattle.horn_rules.specs.Home.{Home, homes}
use Rattle.horn_rules.specs.Fact.{Sets}
use Rattle.horn_rules.specs.Predicate.{Predicate}
use Rattle.horn_rules.specs.Stored.{home_numbered, same_home}
use Rattle.horn_rules.proofs.Lists.{all-contained, Contains-slice_get}
use Rattle.horn_rules.proofs.InstanceLists.{eq-is, is-eq}
use Rattle.horn_rules.proofs.StoredSets.{homes-distinct}
use Rattle.derivation_tree.specs.Kept.{predicates_of_stored}
use Rattle.pending_instances.specs.Pending.{is_among}
use Rattle.core_steps.specs.State.{State}
use Rattle.core_steps.specs.Predicates.{with_predicate, with_predicates, AreNew, none, known, added, Overfills}
use Rattle.core_steps.specs.Predicates as predicates
use Rattle.core_steps.specs.inside.Changing.{StoredPredicate, HasItsNumber, AreListsWith, GrowsBy, IsGrown, raised}
use Rattle.core_steps.proofs.Tests.{tells, true-false, same_home-is, is-same_home}
use Rattle.core_steps.proofs.PremiseFacts.{home-of, number-within}

-- ---- lists

pub drop-next : {A : Type 0} (xs : List A) (i : ℕ) (x : A) → i < length xs → x ≡ get_or xs i x → drop i xs ≡ x ∷ drop (i + 1) xs
drop-next [] i x lt is = absurd (omega arith)
drop-next (y ∷ ys) zero x lt is = ap (λ z. z ∷ ys) (sym is)
drop-next (y ∷ ys) (suc i) x lt is =
    let number : suc (i + 1) ≡ suc i + 1 = omega arith in
    drop-next ys i x (omega arith) is ∙ ap (λ n. x ∷ drop n (y ∷ ys)) number

pub drop-all : {A : Type 0} (xs : List A) (i : ℕ) → length xs ≤ i → drop i xs ≡ []
drop-all [] zero le = refl
drop-all [] (suc i) le = refl
drop-all (x ∷ xs) zero le = absurd (omega arith)
drop-all (x ∷ xs) (suc i) le = drop-all xs i (omega arith)

pub get-drop : (xs : List ℕ) (i : ℕ) → get_or (drop i xs) 0 0 ≡ get_or xs i 0
get-drop [] zero = refl
get-drop [] (suc i) = refl
get-drop (x ∷ xs) zero = refl
get-drop (x ∷ xs) (suc i) = get-drop xs i

get-set : {A : Type 0} (xs : List A) (k : ℕ) (x d : A) → k < length xs → slice_index_or (slice_set xs k x) k d ≡ x
get-set [] k x d lt = absurd (omega arith)
get-set (y ∷ ys) zero x d lt = refl
get-set (y ∷ ys) (suc k) x d lt = get-set ys k x d (omega arith)

get-set_other : {A : Type 0} (xs : List A) (k j : ℕ) (x d : A) → j ≢ k → slice_index_or (slice_set xs k x) j d ≡ slice_index_or xs j d
get-set_other [] k j x d other = refl
get-set_other (y ∷ ys) zero zero x d other = absurd (other refl)
get-set_other (y ∷ ys) zero (suc j) x d other = refl
get-set_other (y ∷ ys) (suc k) zero x d other = refl
get-set_other (y ∷ ys) (suc k) (suc j) x d other = get-set_other ys k j x d (λ e. other (ap (λ n. suc n) e))

append-none : {A : Type 0} (xs : List A) → xs ++ [] ≡ xs
append-none [] = refl
append-none (x ∷ xs) = ap (λ l. x ∷ l) (append-none xs)

append-last : {A : Type 0} (xs ys : List A) (x : A) → (xs ++ x ∷ []) ++ ys ≡ xs ++ x ∷ ys
append-last [] ys x = refl
append-last (z ∷ xs) ys x = ap (λ l. z ∷ l) (append-last xs ys x)

-- ---- one predicate

with-more : (sets : Sets) (xs : List Predicate) (p : Predicate) → with_predicates sets (xs ++ p ∷ []) ≡ with_predicate (with_predicates sets xs) p
with-more sets [] p = refl
with-more sets (x ∷ xs) p = with-more (with_predicate sets x) xs p

abbrev pub predicate_of : Program → StoredPredicate → Predicate
predicate_of program pair = record { home = home_numbered program pair.0.0; atom = pair.1 }

-- a home's list with one more, by number
lists-added : (program : Program) (state : State) (new : List Predicate) (lists : List (List Row)) (pair : StoredPredicate) → HasItsNumber program pair → AreListsWith program state new lists
    → AreListsWith program state (new ++ predicate_of program pair ∷ []) (with_set lists pair.0.0 (set_at lists pair.0.0 ++ pair.1 ∷ []))
lists-added program state new lists pair some are = record { one_each = length-set lists (n - 1) longer ∙ are.one_each; each = each }
  where
    n : ℕ
    n = pair.0.0

    longer : List Row
    longer = set_at lists pair.0.0 ++ pair.1 ∷ []

    p : Predicate
    p = predicate_of program pair

    before : Sets
    before = with_predicates state.sets new

    here : at_number (homes program) n ≡ Some (home_numbered program n)
    here = home-of program n some

    each : (m : ℕ) (home : Home) → at_number (homes program) m ≡ Some home → with_predicates state.sets (new ++ p ∷ []) home ≡ set_at (with_set lists n longer) m
    each m home at = ap (λ (s : Sets). s home) (with-more state.sets new p) ∙ by-number (tells (m == n))
      where
        within_n : (0 < n) × (n ≤ length (homes program))
        within_n = number-within (homes program) n (home_numbered program n) here

        within_m : (0 < m) × (m ≤ length (homes program))
        within_m = number-within (homes program) m home at

        by-number : ((m == n) ≡ true) ⊎ ((m == n) ≡ false) → with_predicate before p home ≡ set_at (with_set lists n longer) m
        by-number (inl hit) =
            let same : m ≡ n = eq-is m n hit in
            let both : Some home ≡ Some p.home = sym at ∙ ap (at_number (homes program)) same ∙ here in
            let home_is : home ≡ p.home = cc in
            let test : same_home home p.home ≡ true = ap (λ h. same_home h p.home) home_is ∙ is-same_home p.home in
            let grown : with_predicate before p home ≡ before home ++ pair.1 ∷ [] = rw test refl in
            let one = are.one_each in
            let low = within_n.0 in
            let high = within_n.1 in
            grown ∙ ap (λ l. l ++ pair.1 ∷ []) (are.each m home at ∙ ap (set_at lists) same) ∙ sym (get-set lists (n - 1) longer [] (omega (arith, one, low, high))) ∙ ap (λ k. set_at (with_set lists n longer) k) (sym same)
        by-number (inr miss) =
            let apart : m ≢ n = λ e. true-false (m == n) (is-eq m n e) miss in
            let test : same_home home p.home ≡ false = differs apart in
            let stays : with_predicate before p home ≡ before home = rw test refl in
            let low_n = within_n.0 in
            let low_m = within_m.0 in
            stays ∙ are.each m home at ∙ sym (get-set_other lists (n - 1) (m - 1) longer [] (λ e. apart (omega (arith, e, low_n, low_m))))
          where
            differs : m ≢ n → same_home home p.home ≡ false
            differs apart = elim (tells (same_home home p.home)) [
              | inl hit ↦
                  let is = same_home-is home p.home hit in
                  absurd (apart (homes-distinct program m n home at (here ∙ ap (λ h. Some h) (sym is))))
              | inr miss ↦ miss
            ]

-- the list of a predicate's home
list-here : (program : Program) (state : State) (new : List Predicate) (lists : List (List Row)) (pair : StoredPredicate) → HasItsNumber program pair → AreListsWith program state new lists
    → with_predicates state.sets new (home_numbered program pair.0.0) ≡ set_at lists pair.0.0
list-here program state new lists pair some are = are.each pair.0.0 (home_numbered program pair.0.0) (home-of program pair.0.0 some)

lacks-not : (set : List Row) (atom : Row) → Lacks set atom → ¬ Contains set atom
lacks-not set atom lacks there = all-contained (λ (other : Row). other ≢ atom) set atom lacks there refl

pub grown-step : (program : Program) (state : State) (all left : List Predicate) (new more : List StoredPredicate) (lists later : List (List Row)) (pair : StoredPredicate) → HasItsNumber program pair
    → GrowsBy lists new pair false later more → IsGrown program state all (predicate_of program pair ∷ left) (predicates_of_stored program new) lists
    → IsGrown program state all left (predicates_of_stored program more) later
grown-step program state all left new more lists later pair some (inl known_there) is =
    let here = list-here program state (predicates_of_stored program new) lists pair some is.lists_are in
    let before = with_predicates state.sets (predicates_of_stored program new) in
    let p = predicate_of program pair in
    let there : Contains (before p.home) p.atom = subst (λ l. Contains l pair.1) (sym here) known_there.0 in
    let made : IsGrown program state all left (predicates_of_stored program new) lists = record {
      are_new = λ rest new_rest. is.are_new rest (known before p left rest there new_rest);
      overfills = λ home full. is.overfills home (predicates.known before p left home there full);
      lists_are = is.lists_are;
    } in
    subst (λ l. IsGrown program state all left (predicates_of_stored program more) l) (sym known_there.1)
    (subst (λ m. IsGrown program state all left (predicates_of_stored program m) lists) (sym known_there.2) made)
grown-step program state all left new more lists later pair some (inr comes) is =
    let here = list-here program state (predicates_of_stored program new) lists pair some is.lists_are in
    let before = with_predicates state.sets (predicates_of_stored program new) in
    let p = predicate_of program pair in
    let absent : ¬ Contains (before p.home) p.atom = subst (λ l. ¬ Contains l pair.1) (sym here) (lacks-not (set_at lists pair.0.0) pair.1 comes.0) in
    let room : length (before p.home) < most_predicates = subst (λ l. length l < most_predicates) (sym here) comes.1 in
    let next = with-more state.sets (predicates_of_stored program new) p in
    let made : IsGrown program state all left (predicates_of_stored program new ++ p ∷ []) (with_set lists pair.0.0 (set_at lists pair.0.0 ++ pair.1 ∷ [])) = record {
      are_new = λ rest new_rest. subst (AreNew state.sets all) (sym (append-last (predicates_of_stored program new) rest p))
          (is.are_new (p ∷ rest) (added before p left rest absent room (subst (λ s. AreNew s left rest) next new_rest)));
      overfills = λ home full. is.overfills home (predicates.added before p left home absent room (subst (λ s. Overfills s left home) next full));
      lists_are = lists-added program state (predicates_of_stored program new) lists pair some is.lists_are;
    } in
    let names : predicates_of_stored program more ≡ predicates_of_stored program new ++ p ∷ [] = ap (predicates_of_stored program) comes.3 ∙ map-append (predicate_of program) new (pair ∷ []) in
    subst (λ l. IsGrown program state all left (predicates_of_stored program more) l) (sym comes.2)
    (subst (λ m. IsGrown program state all left m (with_set lists pair.0.0 (set_at lists pair.0.0 ++ pair.1 ∷ []))) (sym names) made)

pub numbers-step : (program : Program) (new more : List StoredPredicate) (lists later : List (List Row)) (pair : StoredPredicate) → HasItsNumber program pair → GrowsBy lists new pair false later more
    → AllByRecursion (HasItsNumber program) new → AllByRecursion (HasItsNumber program) more
numbers-step program new more lists later pair some (inl known_there) all = subst (AllByRecursion (HasItsNumber program)) (sym known_there.2) all
numbers-step program new more lists later pair some (inr comes) all =
    subst (AllByRecursion (HasItsNumber program)) (sym comes.3) (AllByRecursion-append (HasItsNumber program) new (pair ∷ []) all (some, tt))

pub grown-full : (program : Program) (state : State) (all left : List Predicate) (new more : List StoredPredicate) (lists later : List (List Row)) (pair : StoredPredicate) → HasItsNumber program pair
    → GrowsBy lists new pair true later more → IsGrown program state all (predicate_of program pair ∷ left) (predicates_of_stored program new) lists → Overfills state.sets all (home_numbered program pair.0.0)
grown-full program state all left new more lists later pair some (lacks, full) is =
    let here = list-here program state (predicates_of_stored program new) lists pair some is.lists_are in
    let before = with_predicates state.sets (predicates_of_stored program new) in
    let p = predicate_of program pair in
    is.overfills p.home (predicates.full before p left (subst (λ l. ¬ Contains l pair.1) (sym here) (lacks-not (set_at lists pair.0.0) pair.1 lacks)) (subst (λ l. most_predicates ≤ length l) (sym here) full))

pub grown-all : (program : Program) (state : State) (all new : List Predicate) (lists : List (List Row)) → IsGrown program state all [] new lists → AreNew state.sets all new × AreListsWith program state new lists
grown-all program state all new lists is = (subst (AreNew state.sets all) (append-none new) (is.are_new [] (none (with_predicates state.sets new))), is.lists_are)

-- an atom that is known is there
pub known-stands : (lists later : List (List Row)) (home place : ℕ) (atom other : Row) → IsAddAnswer lists home atom (Ok (inserted.Known place)) later → atom ≡ other → Contains (set_at lists home) other × (later ≡ lists)
known-stands lists later home zero atom other answer same = absurd answer.0
known-stands lists later home (suc place) atom other answer same = (subst (Contains (set_at lists home)) same (Contains-slice_get (set_at lists home) place atom answer.0), answer.1)

pub known-by : (lists later : List (List Row)) (home place : ℕ) (atom other : Row) (result : Result Added AddStop) (answer : Added) → result ≡ Ok answer → answer ≡ inserted.Known place
    → IsAddAnswer lists home atom result later → atom ≡ other → Contains (set_at lists home) other × (later ≡ lists)
known-by lists later home place atom other result answer is is_known adds same =
    known-stands lists later home place atom other (subst (λ a. IsAddAnswer lists home atom (Ok a) later) is_known (subst (λ r. IsAddAnswer lists home atom r later) is adds)) same

-- ---- epochs

pub length-raised : (renewed : List HomeNo) (n : ℕ) (epochs : List ℕ) → length (raised renewed n epochs) ≡ length epochs
length-raised renewed n [] = refl
length-raised renewed n (e ∷ epochs) = ap (λ k. suc k) (length-raised renewed (n + 1) epochs)

pub raised-at : (renewed : List HomeNo) (n k : ℕ) (epochs : List ℕ) → k < length epochs
    → slice_index_or (raised renewed n epochs) k 0 ≡ if is_among renewed (record { 0 = n + k }) then slice_index_or epochs k 0 + 1 else slice_index_or epochs k 0
raised-at renewed n k [] lt = absurd (omega arith)
raised-at renewed n zero (e ∷ epochs) lt =
    let number : n ≡ n + 0 = omega arith in
    ap (λ m. if is_among renewed (record { 0 = m }) then e + 1 else e) number
raised-at renewed n (suc k) (e ∷ epochs) lt =
    let number : (n + 1) + k ≡ n + suc k = omega arith in
    raised-at renewed (n + 1) k epochs (omega arith) ∙ ap (λ m. if is_among renewed (record { 0 = m }) then slice_index_or epochs k 0 + 1 else slice_index_or epochs k 0) number
