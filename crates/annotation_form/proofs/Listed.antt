-- Lists that are made element by element.
use Rattle.std.proofs.Common.{◌≡◌, ℕ, suc, ◌+◌, ◌<◌, ◌≤◌, List, [], ◌∷◌, ◌++◌, map, length, drop, get_or, Some, refl, sym, ap, ap₂, subst, ◌∙◌, arith, append_assoc, append-nil}
use Rattle.std.specs.List.{slice_get, AllByRecursion}
use Rattle.std.proofs.lemmas.List.{nil_from_length, length-drop}
use Rattle.std.specs.Prelude.{option_map}
use Rattle.std.proofs.lemmas.Option.{slice_get-map, slice_get-get_or}
use Rattle.lin_rows.proofs.Lists.{slice_get-there}
use Rattle.transition_formula.proofs.Lookups.{drop-slice_get}
use Rattle.thr_base.specs.declared.names.Fact.{Fact as StoredFact}
use Rattle.thr_base.specs.declared.names.Home.{Home as StoredHome}
use Rattle.thr_base.specs.declared.names.RuleName.{RuleName}
use Rattle.thr_base.specs.declared.names.RuleName.TheVariants.{Rg, Og}
use Rattle.transition_formula.specs.Program.{Program}
use Rattle.horn_rules.specs.Home.{Home, State, homes, IsHomeOf, by_number}
use Rattle.std.specs.Prelude.{Option, None, unwrap_or}
use Rattle.std.specs.Option.{IsSome}
use Rattle.transition_formula.specs.Program.{at_number}
use Rattle.horn_rules.specs.Stored.{home_of, home_numbered, HasItsHome, fact_of, sets_of}
use Rattle.horn_rules.specs.Fact.{statement_of}
use Rattle.horn_rules.proofs.Numbers.{home-numbered}
use Rattle.annotation_form.specs.Annotation.{Annotation, statements_of, instances_of}
use Rattle.horn_rules.specs.Fact.{Statement}
use Rattle.horn_rules.specs.Instance.{Instance}
use Rattle.horn_rules.specs.Instances.{init_instances, instances_over}
use Rattle.annotation_form.specs.inside.Listing.{own_at, guar_at, env_at, inter_at, instances_at}

-- What is made so far, and what is left to make, are the whole.
abbrev pub IsSoFar : {X Y : Type 0} → (ℕ → X → List Y) → List X → List Y → ℕ → List Y → Type 0
IsSoFar give xs start k made = made ++ by_number give (suc k) (drop k xs) ≡ start ++ by_number give 1 xs

pub so_far-step : {X Y : Type 0} (give : ℕ → X → List Y) (xs : List X) (start made next : List Y) (k m : ℕ) (x : X) → m ≡ k + 1 → slice_get xs k ≡ Some x → next ≡ made ++ give m x
    → IsSoFar give xs start k made → IsSoFar give xs start m next
so_far-step give xs start made next k m x e at grown so_far =
    let one : m ≡ suc k = omega arith in
    subst (λ (j : ℕ). next ++ by_number give (suc j) (drop j xs) ≡ start ++ by_number give 1 xs) (sym one)
    (ap (λ (l : List _). l ++ by_number give (suc (suc k)) (drop (suc k) xs)) (grown ∙ ap (λ (j : ℕ). made ++ give j x) one)
    ∙ append_assoc made (give (suc k) x) (by_number give (suc (suc k)) (drop (suc k) xs))
    ∙ ap (λ (rest : List _). made ++ by_number give (suc k) rest) (sym (drop-slice_get xs k x at))
    ∙ so_far)

pub so_far-end : {X Y : Type 0} (give : ℕ → X → List Y) (xs : List X) (start made : List Y) (k : ℕ) → length xs ≤ k → IsSoFar give xs start k made → made ≡ start ++ by_number give 1 xs
so_far-end give xs start made k many so_far =
    let none : drop k xs ≡ [] = nil_from_length (drop k xs) (omega (arith, length-drop k xs)) in
    sym (append-nil made) ∙ ap (λ (rest : List _). made ++ by_number give (suc k) rest) (sym none) ∙ so_far

-- the next of mapped elements
pub step-mapped : {A X Y : Type 0} (f : A → X) (give : ℕ → X → List Y) (xs : List A) (d : A) (start made next : List Y) (k : ℕ) → k < length xs → next ≡ made ++ give (k + 1) (f (get_or xs k d))
    → IsSoFar give (map f xs) start k made → IsSoFar give (map f xs) start (k + 1) next
step-mapped f give xs d start made next k within grown so_far =
    so_far-step give (map f xs) start made next k (k + 1) (f (get_or xs k d)) refl (slice_get-map f xs k ∙ ap (option_map f) (slice_get-get_or xs k d within)) grown so_far

-- the next thread
pub step-thread : {X Y : Type 0} (give : ℕ → Y) (xs : List X) (start made next : List Y) (k : ℕ) → k < length xs → next ≡ made ++ give (k + 1) ∷ []
    → IsSoFar (λ i (x : X). give i ∷ []) xs start k made → IsSoFar (λ i (x : X). give i ∷ []) xs start (k + 1) next
step-thread give xs start made next k within grown so_far =
    let (x, at) = slice_get-there xs k within in
    so_far-step (λ i x. give i ∷ []) xs start made next k (k + 1) x refl at grown so_far

-- ---- over homes and over what stands there

one-level : (give : ℕ → Home → List (Instance ℕ)) (k : ℕ) (xs : List Statement) → by_number give k (map (λ s. s.home) xs) ≡ by_number (λ n (s : Statement). give n s.home) k xs
one-level give k [] = refl
one-level give k (x ∷ xs) = ap (λ (rest : List (Instance ℕ)). give k x.home ++ rest) (one-level give (suc k) xs)

two-levels : (give : ℕ → Home → ℕ → Home → List (Instance ℕ)) (all : List Statement) (k : ℕ) (xs : List Statement)
    → by_number (λ n home. by_number (give n home) 1 (map (λ s. s.home) all)) k (map (λ s. s.home) xs) ≡ by_number (λ n (s : Statement). by_number (λ m (t : Statement). give n s.home m t.home) 1 all) k xs
two-levels give all k [] = refl
two-levels give all k (x ∷ xs) = ap₂ (λ (here rest : List (Instance ℕ)). here ++ rest) (one-level (give k x.home) 1 all) (two-levels give all (suc k) xs)

pub over-homes : (program : Program) (rule : RuleName) (xs : List Statement) → instances_at program rule (map (λ s. s.home) xs) ≡ instances_over program rule xs
over-homes program Rg xs =
    ap (λ (rest : List (Instance ℕ)). init_instances program ++ rest)
    (ap₂ (λ (own rest : List (Instance ℕ)). own ++ rest) (one-level (own_at program) 1 xs)
    (ap₂ (λ (guar env : List (Instance ℕ)). guar ++ env) (one-level (guar_at program) 1 xs) (two-levels env_at xs 1 xs)))
over-homes program Og xs =
    ap (λ (rest : List (Instance ℕ)). init_instances program ++ rest)
    (ap₂ (λ (own rest : List (Instance ℕ)). own ++ rest) (one-level (own_at program) 1 xs) (two-levels (inter_at program) xs 1 xs))

-- ---- the homes of an annotation's facts

named-there : (program : Program) (n : ℕ) (found : Option Home) → at_number (homes program) n ≡ found → IsSome found → IsHomeOf program (unwrap_or found (State 0 0))
named-there program n None at there = cc
named-there program n (Some home) at there = home-numbered program n home at

homes-there : (program : Program) (facts : List StoredFact) → AllByRecursion (HasItsHome program) facts → AllByRecursion (IsHomeOf program) (map (λ fact. home_numbered program fact.home.0) facts)
homes-there program [] all = tt
homes-there program (fact ∷ facts) all = (named-there program fact.home.0 (at_number (homes program) fact.home.0) refl all.0, homes-there program facts all.1)

unmapped : (program : Program) (found : List StoredHome) → AllByRecursion (IsHomeOf program) (map home_of found) → AllByRecursion (λ home. IsHomeOf program (home_of home)) found
unmapped program [] all = tt
unmapped program (home ∷ found) all = (all.0, unmapped program found all.1)

-- they are homes of the program
pub homes-found : (program : Program) (facts : List StoredFact) (found : List StoredHome) → AllByRecursion (HasItsHome program) facts → map home_of found ≡ map (λ fact. home_numbered program fact.home.0) facts
    → AllByRecursion (λ home. IsHomeOf program (home_of home)) found
homes-found program facts found all e = unmapped program found (subst (AllByRecursion (IsHomeOf program)) (sym e) (homes-there program facts all))

statement-homes : (program : Program) (annotation : Annotation) (facts : List StoredFact)
    → map (λ (s : Statement). s.home) (map (λ fact. statement_of (sets_of program annotation.sets) (fact_of program fact)) facts) ≡ map (λ fact. home_numbered program fact.home.0) facts
statement-homes program annotation [] = refl
statement-homes program annotation (fact ∷ facts) = ap (λ (rest : List Home). home_numbered program fact.home.0 ∷ rest) (statement-homes program annotation facts)

-- the instances over them are those over what the facts say
pub instances-found : (program : Program) (annotation : Annotation) (found : List StoredHome) → map home_of found ≡ map (λ fact. home_numbered program fact.home.0) annotation.facts
    → instances_at program annotation.rule (map home_of found) ≡ instances_of program annotation
instances-found program annotation found e =
    ap (instances_at program annotation.rule) (e ∙ sym (statement-homes program annotation annotation.facts)) ∙ over-homes program annotation.rule (statements_of program annotation)
