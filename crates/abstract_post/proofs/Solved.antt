-- What is found of the rows of a job, as the post of its case.
use Rattle.std.proofs.Common.{◌≡◌, ℕ, zero, suc, ◌+◌, ◌<◌, ◌≤◌, ◌^◌, List, [], ◌∷◌, map, length, Some, refl, sym, ap, ap₂, subst, ◌∙◌, arith, inl, inr}
use Rattle.std.specs.Prelude.{option_map}
use Rattle.std.specs.List.{AllByRecursion, Contains}
use Rattle.std.proofs.lemmas.Option.{slice_get_within}
use Rattle.std.proofs.Math.Pow.{pow_mono}
use Rattle.thr_base.specs.Held.{positions, ArePositionsOf, WordsAreBelow}
use Rattle.lin_rows.specs.Row.{Row}
use Rattle.lin_rows.specs.System.{System}
use Rattle.lin_rows.proofs.Lists.{AllByRecursion-weaken, slice_get-there}
use Rattle.farkas_cert.specs.Proof.{with_denial}
use Rattle.transition_formula.specs.Program.{Program, at_number}
use Rattle.horn_rules.specs.declared.job.Premise.{Premise}
use Rattle.horn_rules.specs.declared.job.Job.{Job}
use Rattle.horn_rules.specs.Fact.{Statement, IsAtomOf}
use Rattle.horn_rules.specs.Instance.{Instance, Init, Own, Guar, Env, Inter, map_instance}
use Rattle.horn_rules.specs.Case.{Case, in_front, placed_at}
use Rattle.horn_rules.specs.Post.{EntailsAt, IsPost}
use Rattle.horn_rules.specs.Stored.{instance_of}
use Rattle.horn_rules.specs.Job.{premise_says, ComesTo}
use Rattle.horn_rules.specs.Laws.{AtomsArePlaced, IsPlacedBy}
use Rattle.abstract_post.specs.declared.deciding.Found.{Found}
use Rattle.abstract_post.specs.declared.deciding.Found.TheVariants as found
use Rattle.abstract_post.specs.Left.{first_leave}
use Rattle.abstract_post.specs.inside.Found.{IsDecidedAt, AreDecided, IsFound}

-- ---- how a job's case places atoms

front-alike : {F G : Type 0} (f : F → G) (n : ℕ) (instance : Instance F) → in_front n (map_instance f instance) ≡ in_front n instance
front-alike f n (Init i) = refl
front-alike f n (Own g e) = refl
front-alike f n (Guar g e) = refl
front-alike f n (Env g t) = refl
front-alike f n (Inter g h e) = refl

abbrev said_of : (program : Program) (job : Job) (given : Case) → ComesTo program job given → Instance Statement
said_of program job given comes = map_instance (premise_says program) comes.instance

-- as many columns stand in front of an atom as the code counts
front-is : (program : Program) (job : Job) (given : Case) (n before : ℕ) (comes : ComesTo program job given) → n ≡ length program.columns → before ≡ in_front n (instance_of job.instance)
    → before ≡ in_front (length program.columns) (said_of program job given comes)
front-is program job given n before comes n_is before_is =
    before_is
    ∙ ap (λ k. in_front k (instance_of job.instance)) n_is
    ∙ ap (in_front (length program.columns)) (sym comes.instance_is.ids_are)
    ∙ front-alike (λ (premise : Premise). premise.id.0) (length program.columns) comes.instance
    ∙ sym (front-alike (premise_says program) (length program.columns) comes.instance)

placed-by : AtomsArePlaced → (program : Program) (job : Job) (given : Case) (comes : ComesTo program job given)
    → AllByRecursion (IsPlacedBy program (said_of program job given comes) given) job.target.value
placed-by law program job given comes =
    AllByRecursion-weaken (IsAtomOf program given.target) (IsPlacedBy program (said_of program job given comes) given)
    (λ atom is. law program (said_of program job given comes) given atom comes.is_case is.one_each) job.target.value comes.target_is.are_atoms

pub within-rows : AtomsArePlaced → (program : Program) (job : Job) (given : Case) (rows view : System) (n before : ℕ) (atoms : List Row) → ComesTo program job given → rows ≡ given.system → view ≡ rows
    → n ≡ length program.columns → before ≡ in_front n (instance_of job.instance) → atoms ≡ job.target.value → AllByRecursion (λ atom. before + length atom.coefficients ≤ view.columns) atoms
within-rows law program job given rows view n before atoms comes rows_are view_is n_is before_is atoms_are =
    let front = front-is program job given n before comes n_is before_is in
    let columns : view.columns ≡ given.system.columns = ap (λ (s : System). s.columns) (view_is ∙ rows_are) in
    subst (AllByRecursion (λ atom. before + length atom.coefficients ≤ view.columns)) (sym atoms_are)
    (AllByRecursion-weaken (IsPlacedBy program (said_of program job given comes) given) (λ atom. before + length atom.coefficients ≤ view.columns)
    (λ atom is. omega (arith, is.within, front, columns)) job.target.value (placed-by law program job given comes))

-- ---- what is found, as the case places atoms

abbrev AreAlike : (Row → Row) → (Row → Row) → List Row → Type 0
AreAlike one other atoms = AllByRecursion (λ atom. one atom ≡ other atom) atoms

alike-at : (one other : Row → Row) (atoms : List Row) (k : ℕ) (atom : Row) → AreAlike one other atoms → at_number atoms k ≡ Some atom → one atom ≡ other atom
alike-at one other atoms zero atom alike at = cc
alike-at one other [] (suc k) atom alike at = cc
alike-at one other (x ∷ xs) (suc zero) atom alike at = let same : x ≡ atom = cc in subst (λ a. one a ≡ other a) same alike.0
alike-at one other (x ∷ xs) (suc (suc k)) atom alike at = alike-at one other xs (suc k) atom alike.1 at

denied-alike : (system : System) (one other : Row → Row) (atoms : List Row) → AreAlike one other atoms
    → map (λ atom. with_denial system (one atom)) atoms ≡ map (λ atom. with_denial system (other atom)) atoms
denied-alike system one other [] alike = refl
denied-alike system one other (x ∷ xs) alike = ap₂ (λ (s : System) (l : List System). s ∷ l) (ap (with_denial system) alike.0) (denied-alike system one other xs alike.1)

found-alike : (system : System) (one other : Row → Row) (atoms : List Row) (what : Found) → AreAlike one other atoms → IsFound system one atoms what → IsFound system other atoms what
found-alike system one other atoms found.Refuted alike is = is
found-alike system one other atoms (found.Held held) alike is = (
  is.0,
  record { no_more = is.1.no_more; each = λ k atom below at. subst (IsDecidedAt system held k) (alike-at one other atoms k atom alike at) (is.1.each k atom below at) },
)
found-alike system one other atoms (found.Left kind) alike (inl leaves) = inl leaves
found-alike system one other atoms (found.Left kind) alike (inr (decided, point, leaves)) =
    inr (decided, point, ap first_leave (sym (denied-alike system one other atoms alike)) ∙ leaves)

pub found-of_case : AtomsArePlaced → (program : Program) (job : Job) (given : Case) (rows view : System) (n before : ℕ) (atoms : List Row) (what : Found) → ComesTo program job given → rows ≡ given.system
    → view ≡ rows → n ≡ length program.columns → before ≡ in_front n (instance_of job.instance) → atoms ≡ job.target.value → IsFound view (placed_at before view.columns) atoms what
    → IsFound given.system given.place job.target.value what
found-of_case law program job given rows view n before atoms what comes rows_are view_is n_is before_is atoms_are is =
    let front = in_front (length program.columns) (said_of program job given comes) in
    let ahead : before ≡ front = front-is program job given n before comes n_is before_is in
    let system : view ≡ given.system = view_is ∙ rows_are in
    let there : IsFound given.system (placed_at front given.system.columns) job.target.value what =
    subst (λ (s : System). IsFound s (placed_at front s.columns) job.target.value what) system
    (subst (λ k. IsFound view (placed_at k view.columns) job.target.value what) ahead
    (subst (λ (l : List Row). IsFound view (placed_at before view.columns) l what) atoms_are is)) in
    let alike : AreAlike (placed_at front given.system.columns) given.place job.target.value =
    AllByRecursion-weaken (IsPlacedBy program (said_of program job given comes) given) (λ atom. placed_at front given.system.columns atom ≡ given.place atom)
    (λ atom placed. sym placed.placed) job.target.value (placed-by law program job given comes) in
    found-alike given.system (placed_at front given.system.columns) given.place job.target.value what alike there

-- ---- the post

numbered-there : (atoms : List Row) (k : ℕ) → 0 < k → k ≤ length atoms → (atom : Row) × (at_number atoms k ≡ Some atom)
numbered-there atoms zero from to = absurd (omega arith)
numbered-there atoms (suc k) from to = slice_get-there atoms k (omega arith)

numbered-within : (atoms : List Row) (k : ℕ) (atom : Row) → at_number atoms k ≡ Some atom → (0 < k) × (k ≤ length atoms)
numbered-within atoms zero atom at = cc
numbered-within atoms (suc k) atom at = let inside = slice_get_within atoms k atom at in (omega arith, omega arith)

held-entailed : WordsAreBelow → (given : Case) (atoms : List Row) (held k : ℕ) → length atoms ≤ 128 → AreDecided given.system given.place atoms held (length atoms) → ArePositionsOf held (positions held)
    → Contains (positions held) k → EntailsAt given atoms k
held-entailed below given atoms held k few are is there =
    let found = (is.exact k).0 there in
    let wide : 2 ^ length atoms ≤ 2 ^ 128 = pow_mono few in
    let less : k ≤ length atoms = (below held (length atoms) (omega (arith, are.no_more, wide)) few).0 are.no_more k there in
    let (atom, at) = numbered-there atoms k found.0 less in
    (atom, at, (are.each k atom less at).held_is.0 found.2)

entailed-held : (given : Case) (atoms : List Row) (held k : ℕ) → length atoms ≤ 128 → AreDecided given.system given.place atoms held (length atoms) → ArePositionsOf held (positions held)
    → EntailsAt given atoms k → Contains (positions held) k
entailed-held given atoms held k few are is (atom, at, entails) =
    let (from, to) = numbered-within atoms k atom at in
    (is.exact k).1 (from, omega arith, (are.each k atom to at).held_is.1 entails)

pub held-outcome : ((held : ℕ) → ArePositionsOf held (positions held)) → WordsAreBelow → (given : Case) (atoms : List Row) (held : ℕ) → length atoms ≤ 128 → IsFound given.system given.place atoms (found.Held held)
    → IsPost given atoms (option_map positions (Some held))
held-outcome exact below given atoms held few is = record {
  open_system = is.0;
  rising = (exact held).rising;
  exact = λ k. (λ there. held-entailed below given atoms held k few is.1 (exact held) there, λ entails. entailed-held given atoms held k few is.1 (exact held) entails);
}
