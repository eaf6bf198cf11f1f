-- An instance comes to one case at most, and how a case places the atoms of its home.
use Rattle.std.proofs.Common.{◌≡◌, ℕ, ◌+◌, ◌-◌, length, Some, refl, sym, ap, ap₂, subst, ◌∙◌, arith}
use Rattle.std.proofs.lemmas.List.{append-nil}
use Rattle.lin_rows.specs.Row.{Row}
use Rattle.transition_formula.specs.Program.{Program, Thread, Edge, IsThreadOf, IsEdgeOf, at_number}
use Rattle.horn_rules.specs.Home.{Home, State, Env}
use Rattle.horn_rules.specs.Fact.{Statement}
use Rattle.horn_rules.specs.Instance.{Instance, Init, Own, Guar, Env as Environment, Inter, first_of, second_of, map_instance}
use Rattle.horn_rules.specs.Case.{Case, IsCaseOf, init, own, guar, env, inter, init_case, own_case, guar_case, env_case, inter_case, moved_row, placed_at}
use Rattle.horn_rules.specs.Job.{premise_says}
use Rattle.horn_rules.specs.Laws.{CasesAreUnique, JobsHaveOneCase, AtomsArePlaced}
use Rattle.horn_rules.specs.declared.job.Premise.{Premise}

-- ---- what a case is, kind by kind

pub record IsStep (program : Program) (f : Statement) (e : ℕ) : Type 0 where
  pub i : ℕ
  pub thread : Thread
  pub edge : Edge
  pub edge_is : IsEdgeOf program i e thread edge
  pub home_is : f.home ≡ State i edge.from

pub record IsStay (program : Program) (f : Statement) : Type 0 where
  pub k : ℕ
  pub l : ℕ
  pub thread : Thread
  pub thread_is : IsThreadOf program k thread
  pub home_is : f.home ≡ State k l

pub record IsTold (program : Program) (t : Statement) : Type 0 where
  pub i : ℕ
  pub e : ℕ
  pub thread : Thread
  pub edge : Edge
  pub edge_is : IsEdgeOf program i e thread edge
  pub home_is : t.home ≡ Env i e

abbrev pub Shape : Program → Instance Statement → Case → Type 0
Shape program (Init i) given = given ≡ init_case program i
Shape program (Own f e) given = (step : IsStep program f e) × (given ≡ own_case program step.i step.thread step.edge f)
Shape program (Guar f e) given = (step : IsStep program f e) × (given ≡ guar_case program step.i e step.thread step.edge f)
Shape program (Environment f t) given =
    (stay : IsStay program f) × (told : IsTold program t) × (given ≡ env_case program stay.k stay.l stay.thread told.thread told.edge f t)
Shape program (Inter f g e) given =
    (stay : IsStay program f) × (step : IsStep program g e) × (given ≡ inter_case program stay.k stay.l stay.thread step.thread step.edge f g)

pub shape : (program : Program) (instance : Instance Statement) (given : Case) → IsCaseOf program instance given → Shape program instance given
shape program instance given (init i thread at) = refl
shape program instance given (own i e thread edge f at home) = (record { i = i; thread = thread; edge = edge; edge_is = at; home_is = home }, refl)
shape program instance given (guar i e thread edge f at home) = (record { i = i; thread = thread; edge = edge; edge_is = at; home_is = home }, refl)
shape program instance given (env k l i e other thread edge f t apart there at home_f home_t) = (
  record { k = k; l = l; thread = other; thread_is = there.thread_is; home_is = home_f },
  record { i = i; e = e; thread = thread; edge = edge; edge_is = at; home_is = home_t },
  refl,
)
shape program instance given (inter k l i e other thread edge f g apart there at home_f home_g) = (
  record { k = k; l = l; thread = other; thread_is = there.thread_is; home_is = home_f },
  record { i = i; thread = thread; edge = edge; edge_is = at; home_is = home_g },
  refl,
)

same-thread : (program : Program) (i j : ℕ) (one other : Thread) → i ≡ j → IsThreadOf program i one → IsThreadOf program j other → one ≡ other
same-thread program i j one other same at there =
    let both : Some one ≡ Some other = sym at ∙ ap (at_number program.threads) same ∙ there in
    cc

same-edge : (program : Program) (i j e m : ℕ) (one other : Thread) (a b : Edge) → i ≡ j → e ≡ m → IsEdgeOf program i e one a → IsEdgeOf program j m other b → a ≡ b
same-edge program i j e m one other a b same number at there =
    let thread = same-thread program i j one other same at.thread_is there.thread_is in
    let both : Some a ≡ Some b = sym at.edge_is ∙ ap₂ (λ (t : Thread) n. at_number t.edges n) thread number ∙ there.edge_is in
    cc

state-same : (home : Home) (i l j m : ℕ) → home ≡ State i l → home ≡ State j m → (i ≡ j) × (l ≡ m)
state-same home i l j m one other = let both : State i l ≡ State j m = sym one ∙ other in (cc, cc)

env-same : (home : Home) (i e j m : ℕ) → home ≡ Env i e → home ≡ Env j m → (i ≡ j) × (e ≡ m)
env-same home i e j m one other = let both : Env i e ≡ Env j m = sym one ∙ other in (cc, cc)

-- a function of the parts of a step gives one value
one-step : {A : Type 0} (program : Program) (f : Statement) (e : ℕ) (make : ℕ → Thread → Edge → A) (a b : IsStep program f e) → make a.i a.thread a.edge ≡ make b.i b.thread b.edge
one-step program f e make a b =
    let number = (state-same f.home a.i a.edge.from b.i b.edge.from a.home_is b.home_is).0 in
    let thread = same-thread program a.i b.i a.thread b.thread number a.edge_is.thread_is b.edge_is.thread_is in
    let edge = same-edge program a.i b.i e e a.thread b.thread a.edge b.edge number refl a.edge_is b.edge_is in
    ap (λ n. make n a.thread a.edge) number ∙ ap₂ (make b.i) thread edge

one-stay : {A : Type 0} (program : Program) (f : Statement) (make : ℕ → ℕ → Thread → A) (a b : IsStay program f) → make a.k a.l a.thread ≡ make b.k b.l b.thread
one-stay program f make a b =
    let (number, place) = state-same f.home a.k a.l b.k b.l a.home_is b.home_is in
    let thread = same-thread program a.k b.k a.thread b.thread number a.thread_is b.thread_is in
    ap (λ n. make n a.l a.thread) number ∙ ap₂ (make b.k) place thread

one-told : {A : Type 0} (program : Program) (t : Statement) (make : Thread → Edge → A) (a b : IsTold program t) → make a.thread a.edge ≡ make b.thread b.edge
one-told program t make a b =
    let (number, place) = env-same t.home a.i a.e b.i b.e a.home_is b.home_is in
    ap₂ make (same-thread program a.i b.i a.thread b.thread number a.edge_is.thread_is b.edge_is.thread_is)
    (same-edge program a.i b.i a.e b.e a.thread b.thread a.edge b.edge number place a.edge_is b.edge_is)

shapes-same : (program : Program) (instance : Instance Statement) (one other : Case) → Shape program instance one → Shape program instance other → one ≡ other
shapes-same program (Init i) one other a b = a ∙ sym b
shapes-same program (Own f e) one other (a, is) (b, there) = is ∙ one-step program f e (λ i thread edge. own_case program i thread edge f) a b ∙ sym there
shapes-same program (Guar f e) one other (a, is) (b, there) = is ∙ one-step program f e (λ i thread edge. guar_case program i e thread edge f) a b ∙ sym there
shapes-same program (Environment f t) one other (a, told_a, is) (b, told_b, there) =
    is
    ∙ one-stay program f (λ k l o. env_case program k l o told_a.thread told_a.edge f t) a b
    ∙ one-told program t (λ thread edge. env_case program b.k b.l b.thread thread edge f t) told_a told_b
    ∙ sym there
shapes-same program (Inter f g e) one other (a, step_a, is) (b, step_b, there) =
    is
    ∙ one-stay program f (λ k l o. inter_case program k l o step_a.thread step_a.edge f g) a b
    ∙ one-step program g e (λ i thread edge. inter_case program b.k b.l b.thread thread edge f g) step_a step_b
    ∙ sym there

pub cases-unique : CasesAreUnique
cases-unique program instance one other a b = shapes-same program instance one other (shape program instance one a) (shape program instance other b)

-- ---- the case of a job

-- instances with the same ids and the same premises are the same
same-instance : {P : Type 0} (id : P → ℕ) (a b : Instance P) → map_instance id a ≡ map_instance id b → first_of a ≡ first_of b → second_of a ≡ second_of b → a ≡ b
same-instance id (Init i) (Init j) ids first second = cc
same-instance id (Own f e) (Own g m) ids first second =
    let place : e ≡ m = cc in
    let same : f ≡ g = cc in
    ap₂ (λ x n. Own x n) same place
same-instance id (Guar f e) (Guar g m) ids first second =
    let place : e ≡ m = cc in
    let same : f ≡ g = cc in
    ap₂ (λ x n. Guar x n) same place
same-instance id (Environment f t) (Environment g u) ids first second =
    let same : f ≡ g = cc in
    let told : t ≡ u = cc in
    ap₂ (λ x y. Environment x y) same told
same-instance id (Inter f h e) (Inter g k m) ids first second =
    let place : e ≡ m = cc in
    let same : f ≡ g = cc in
    let from : h ≡ k = cc in
    ap₂ (λ x y. Inter x y e) same from ∙ ap (λ n. Inter g k n) place
same-instance id a b ids first second = cc

pub jobs-one-case : JobsHaveOneCase
jobs-one-case program job one other a b =
    let ia = a.instance_is in
    let ib = b.instance_is in
    let same = same-instance (λ (premise : Premise). premise.id.0) a.instance b.instance (ia.ids_are ∙ sym ib.ids_are) (sym ia.first_is ∙ ib.first_is) (sym ia.second_is ∙ ib.second_is) in
    cases-unique program (map_instance (premise_says program) b.instance) one other
    (subst (λ i. IsCaseOf program (map_instance (premise_says program) i) one) same a.is_case) b.is_case

-- ---- how a case places atoms

placed-nowhere : (atom : Row) (k : ℕ) → k ≡ 0 → moved_row 0 k atom ≡ atom
placed-nowhere atom k none = ap (λ j. moved_row 0 j atom) none ∙ ap (λ l. record atom { coefficients = l }) (append-nil atom.coefficients)

behind-is : (n width k : ℕ) (atom : Row) → width - (n + length atom.coefficients) ≡ k → moved_row n k atom ≡ placed_at n width atom
behind-is n width k atom e = ap (λ j. moved_row n j atom) (sym e)

pub atoms-placed : AtomsArePlaced
atoms-placed program instance given atom (init i thread at) width = record {
  within = omega (arith, width);
  placed = sym (placed-nowhere atom (length program.columns - (0 + length atom.coefficients)) (omega (arith, width)));
}
atoms-placed program instance given atom (own i e thread edge f at home) width =
    let n = length program.columns in
    record { within = omega (arith, width); placed = behind-is n (n + (n + edge.inputs)) edge.inputs atom (omega (arith, width)) }
atoms-placed program instance given atom (guar i e thread edge f at home) width =
    let n = length program.columns in
    record { within = omega (arith, width); placed = behind-is 0 (n + (n + edge.inputs)) edge.inputs atom (omega (arith, width)) }
atoms-placed program instance given atom (env k l i e other thread edge f t apart there at home_f home_t) width =
    let n = length program.columns in
    record { within = omega (arith, width); placed = behind-is n (n + n) 0 atom (omega (arith, width)) }
atoms-placed program instance given atom (inter k l i e other thread edge f g apart there at home_f home_g) width =
    let n = length program.columns in
    record { within = omega (arith, width); placed = behind-is n (n + (n + edge.inputs)) edge.inputs atom (omega (arith, width)) }
