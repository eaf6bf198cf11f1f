-- The list of instances over facts has exactly those that come to a case, each once.
use Rattle.std.proofs.Common.{◌≡◌, ◌≢◌, ℕ, zero, suc, Bool, true, false, List, [], ◌∷◌, map, length, Option, Some, None, refl, sym, ap, ap₂, subst, ◌∙◌, inl, inr, arith}
use Rattle.std.specs.Prelude.{◌==◌, not, if◌then◌else◌}
use Rattle.std.specs.List.{AllByRecursion, Contains}
use Rattle.std.proofs.lemmas.Bool.Decides.{eqb_tells}
use Rattle.std.proofs.lemmas.List.FromFn.{length-map-range_with_len}
use Rattle.thr_base.specs.declared.names.RuleName.{RuleName}
use Rattle.thr_base.specs.declared.names.RuleName.TheVariants.{Rg, Og}
use Rattle.transition_formula.specs.Program.{Program, Thread, Edge, IsThreadOf, IsEdgeOf, at_number}
use Rattle.transition_formula.proofs.Lookups.{AllByRecursion-numbered}
use Rattle.horn_rules.specs.Home.{Home, State, Env, IsHomeOf, by_number}
use Rattle.horn_rules.specs.Fact.{Statement}
use Rattle.horn_rules.specs.Instance.{Instance, Init, Own, Guar, Env as Environment, Inter, HasKind, map_instance}
use Rattle.horn_rules.specs.Case.{init, own, guar, env, inter, init_case, own_case, guar_case, env_case, inter_case}
use Rattle.horn_rules.specs.Instances.{edges_of, number_from, edges_from, tells_another, of_another, env_instance, inter_instances, init_instances, own_instances, guar_instances, env_instances, all_inter_instances}
use Rattle.horn_rules.specs.Laws.{IsInstanceOver}
use Rattle.horn_rules.proofs.Lists.{Contains-first, first-or-later, contains-nothing, Contains-map, Contains-unmap}
use Rattle.horn_rules.proofs.ByNumber.{numbered-there, numbered-from, IsOnce, once-by_number}
use Rattle.horn_rules.proofs.Numbers.{state_home-place, env_home-place}
use Rattle.horn_rules.proofs.HomesThere.{place-location}
use Rattle.lin_rows.proofs.Lists.{slice_get-there}

-- ---- one element, perhaps

pub perhaps-is : {A : Type 0} (b : Bool) (x y : A) → Contains (if b then x ∷ [] else []) y → (b ≡ true) × (x ≡ y)
perhaps-is true x y there = elim (first-or-later x y [] there) [ inl same ↦ (refl, same) | inr none ↦ absurd (contains-nothing y none) ]
perhaps-is false x y there = absurd (contains-nothing y there)

perhaps-there : {A : Type 0} (b : Bool) (x : A) → b ≡ true → Contains (if b then x ∷ [] else []) x
perhaps-there true x e = Contains-first x []
perhaps-there false x e = cc

pub perhaps-once : {A : Type 0} (b : Bool) (x : A) → IsOnce (if b then x ∷ [] else [])
perhaps-once true x = (λ there. contains-nothing x there, tt)
perhaps-once false x = tt

pub list-is : {A : Type 0} (b : Bool) (xs : List A) (y : A) → Contains (if b then xs else []) y → (b ≡ true) × Contains xs y
list-is true xs y there = (refl, there)
list-is false xs y there = absurd (contains-nothing y there)

list-there : {A : Type 0} (b : Bool) (xs : List A) (y : A) → b ≡ true → Contains xs y → Contains (if b then xs else []) y
list-there true xs y e there = there
list-there false xs y e there = cc

pub list-once : {A : Type 0} (b : Bool) (xs : List A) → IsOnce xs → IsOnce (if b then xs else [])
list-once true xs once = once
list-once false xs once = tt

-- ---- the edges that lead on from a home

pub record LeadsFrom (program : Program) (home : Home) (e : ℕ) : Type 0 where
  pub i : ℕ
  pub thread : Thread
  pub edge : Edge
  pub edge_is : IsEdgeOf program i e thread edge
  pub home_is : home ≡ State i edge.from

pub eq-is : (a b : ℕ) → (a == b) ≡ true → a ≡ b
eq-is a b e = elim (eqb_tells a b) [
  | inl (hit, same) ↦ same
  | inr (miss, apart) ↦ let wrong : false ≡ true = sym miss ∙ e in cc
]

pub is-eq : (a b : ℕ) → a ≡ b → (a == b) ≡ true
is-eq a b e = elim (eqb_tells a b) [
  | inl (hit, same) ↦ hit
  | inr (miss, apart) ↦ absurd (apart e)
]

leads-there : (program : Program) (home : Home) (e : ℕ) → Contains (edges_from program home) e → LeadsFrom program home e
leads-there program (Env i k) e there = absurd (contains-nothing e there)
leads-there program (State i l) e there = of-thread (at_number program.threads i) refl there
  where
    of-thread : (found : Option Thread) → at_number program.threads i ≡ found → Contains (by_number (number_from l) 1 (edges_of found)) e → LeadsFrom program (State i l) e
    of-thread None at c = absurd (contains-nothing e c)
    of-thread (Some thread) at c =
        let found = numbered-from (number_from l) thread.edges e c in
        let (leads, same) = perhaps-is (found.x.from == l) found.n e found.gives in
        record {
          i = i;
          thread = thread;
          edge = found.x;
          edge_is = record { thread_is = at; edge_is = ap (at_number thread.edges) (sym same) ∙ found.x_is };
          home_is = ap (State i) (sym (eq-is found.x.from l leads));
        }

there-leads : (program : Program) (home : Home) (e : ℕ) → LeadsFrom program home e → Contains (edges_from program home) e
there-leads program home e is =
    let thread = is.thread in
    let listed : Contains (by_number (number_from is.edge.from) 1 thread.edges) e =
    numbered-there (number_from is.edge.from) thread.edges e is.edge e is.edge_is.edge_is (perhaps-there (is.edge.from == is.edge.from) e (is-eq is.edge.from is.edge.from refl)) in
    let here : Contains (edges_from program (State is.i is.edge.from)) e =
    subst (λ found. Contains (by_number (number_from is.edge.from) 1 (edges_of found)) e) (sym is.edge_is.thread_is) listed in
    subst (λ h. Contains (edges_from program h) e) (sym is.home_is) here

pub edges-once : (program : Program) (home : Home) → IsOnce (edges_from program home)
edges-once program (Env i k) = tt
edges-once program (State i l) =
    once-by_number (number_from l) (λ e. e) 1 (edges_of (at_number program.threads i)) (λ e edge y there. sym (perhaps-is (edge.from == l) e y there).1) (λ e edge. perhaps-once (edge.from == l) e)

-- ---- two threads

pub record AreToldTo (home told : Home) : Type 0 where
  pub k : ℕ
  pub l : ℕ
  pub i : ℕ
  pub e : ℕ
  pub apart : k ≢ i
  pub home_is : home ≡ State k l
  pub told_is : told ≡ Env i e

not-eq : (k i : ℕ) → not (k == i) ≡ true → k ≢ i
not-eq k i e same = let hit = is-eq k i same in let wrong : not true ≡ true = sym (ap not hit) ∙ e in cc

eq-not : (k i : ℕ) → k ≢ i → not (k == i) ≡ true
eq-not k i apart = elim (eqb_tells k i) [
  | inl (hit, same) ↦ absurd (apart same)
  | inr (miss, other) ↦ ap not miss
]

pub told-is : (home told : Home) → tells_another home told ≡ true → AreToldTo home told
told-is (State k l) (State i m) e = cc
told-is (State k l) (Env i g) e = record { k = k; l = l; i = i; e = g; apart = not-eq k i e; home_is = refl; told_is = refl }
told-is (Env k l) told e = cc

pub is-told : (home told : Home) (k l i e : ℕ) → k ≢ i → home ≡ State k l → told ≡ Env i e → tells_another home told ≡ true
is-told home told k l i e apart one other = rw (one, other) (eq-not k i apart)

pub record AreApart (home other : Home) : Type 0 where
  pub k : ℕ
  pub l : ℕ
  pub i : ℕ
  pub m : ℕ
  pub apart : k ≢ i
  pub home_is : home ≡ State k l
  pub other_is : other ≡ State i m

pub apart-is : (home other : Home) → of_another home other ≡ true → AreApart home other
apart-is (State k l) (State i m) e = record { k = k; l = l; i = i; m = m; apart = not-eq k i e; home_is = refl; other_is = refl }
apart-is (State k l) (Env i g) e = cc
apart-is (Env k l) other e = cc

pub other-number : (k i j : ℕ) → k ≢ i → i ≡ j → k ≢ j
other-number k i j apart same is = apart (is ∙ sym same)

pub same-number : (home : Home) (i m j n : ℕ) → home ≡ State i m → home ≡ State j n → i ≡ j
same-number home i m j n one other = let both : State i m ≡ State j n = sym one ∙ other in cc

pub is-apart : (home other : Home) (k l i m : ℕ) → k ≢ i → home ≡ State k l → other ≡ State i m → of_another home other ≡ true
is-apart home other k l i m apart one two = rw (one, two) (eq-not k i apart)

-- ---- homes that exist

pub edge-there : (program : Program) (i e : ℕ) → IsHomeOf program (Env i e) → (thread : Thread) × (edge : Edge) × IsEdgeOf program i e thread edge
edge-there program i zero is = let (from_1, place) = env_home-place program i zero is in absurd (omega arith)
edge-there program i (suc p) is =
    let (from_1, place) = env_home-place program i (suc p) is in
    let edges = place.thread.edges in
    let count = length-map-range_with_len (Env i) 1 (length edges) in
    let (edge, at) = slice_get-there edges p (omega (arith, place.within, count)) in
    (place.thread, edge, record { thread_is = place.thread_is; edge_is = at })

abbrev pub HaveHomes : Program → List Statement → Type 0
HaveHomes program facts = AllByRecursion (λ fact. IsHomeOf program fact.home) facts

has-home : (program : Program) (facts : List Statement) (n : ℕ) (f : Statement) (home : Home) → HaveHomes program facts → at_number facts n ≡ Some f → f.home ≡ home → IsHomeOf program home
has-home program facts n f home all at is = subst (IsHomeOf program) is (AllByRecursion-numbered (λ (fact : Statement). IsHomeOf program fact.home) facts n f all at)

-- ---- each kind of instances, from the list

pub from-init : (program : Program) (rule : RuleName) (facts : List Statement) (y : Instance ℕ) → ((i : ℕ) → HasKind {F = Statement} rule (Init i)) → Contains (init_instances program) y → IsInstanceOver program rule facts y
from-init program rule facts y has there =
    let found = numbered-from (λ i (thread : Thread). Init i ∷ []) program.threads y there in
    elim (first-or-later (Init found.n) y [] found.gives) [
      | inl same ↦ subst (IsInstanceOver program rule facts) same
          (record { instance = Init found.n; given = init_case program found.n; has_kind = has found.n; resolved = refl; is_case = init found.n found.x found.x_is })
      | inr none ↦ absurd (contains-nothing y none)
    ]

pub from-own : (program : Program) (rule : RuleName) (facts : List Statement) (y : Instance ℕ) → ((f : Statement) (e : ℕ) → HasKind rule (Own f e)) → Contains (own_instances program facts) y → IsInstanceOver program rule facts y
from-own program rule facts y has there =
    let found = numbered-from (λ n (f : Statement). map (Own n) (edges_from program f.home)) facts y there in
    let (e, listed, same) = Contains-unmap (Own found.n) (edges_from program found.x.home) y found.gives in
    let leads = leads-there program found.x.home e listed in
    subst (IsInstanceOver program rule facts) same (record {
      instance = Own found.x e;
      given = own_case program leads.i leads.thread leads.edge found.x;
      has_kind = has found.x e;
      resolved = ap (λ o. Own o e) found.x_is;
      is_case = own leads.i e leads.thread leads.edge found.x leads.edge_is leads.home_is;
    })

pub from-guar : (program : Program) (facts : List Statement) (y : Instance ℕ) → Contains (guar_instances program facts) y → IsInstanceOver program Rg facts y
from-guar program facts y there =
    let found = numbered-from (λ n (f : Statement). map (Guar n) (edges_from program f.home)) facts y there in
    let (e, listed, same) = Contains-unmap (Guar found.n) (edges_from program found.x.home) y found.gives in
    let leads = leads-there program found.x.home e listed in
    subst (IsInstanceOver program Rg facts) same (record {
      instance = Guar found.x e;
      given = guar_case program leads.i e leads.thread leads.edge found.x;
      has_kind = tt;
      resolved = ap (λ o. Guar o e) found.x_is;
      is_case = guar leads.i e leads.thread leads.edge found.x leads.edge_is leads.home_is;
    })

pub from-env : (program : Program) (facts : List Statement) (y : Instance ℕ) → HaveHomes program facts → Contains (env_instances facts) y → IsInstanceOver program Rg facts y
from-env program facts y homes there =
    let one = numbered-from (λ n f. by_number (env_instance n f) 1 facts) facts y there in
    let two = numbered-from (env_instance one.n one.x) facts y one.gives in
    let (tells, same) = perhaps-is (tells_another one.x.home two.x.home) (Environment one.n two.n) y two.gives in
    let are = told-is one.x.home two.x.home tells in
    let place = state_home-place program are.k are.l (has-home program facts one.n one.x (State are.k are.l) homes one.x_is are.home_is) in
    let (thread, edge, edge_is) = edge-there program are.i are.e (has-home program facts two.n two.x (Env are.i are.e) homes two.x_is are.told_is) in
    subst (IsInstanceOver program Rg facts) same (record {
      instance = Environment one.x two.x;
      given = env_case program are.k are.l place.thread thread edge one.x two.x;
      has_kind = tt;
      resolved = ap₂ (λ a b. Environment a b) one.x_is two.x_is;
      is_case = env are.k are.l are.i are.e place.thread thread edge one.x two.x are.apart (place-location program are.k are.l place) edge_is are.home_is are.told_is;
    })

pub from-inter : (program : Program) (facts : List Statement) (y : Instance ℕ) → HaveHomes program facts → Contains (all_inter_instances program facts) y → IsInstanceOver program Og facts y
from-inter program facts y homes there =
    let one = numbered-from (λ n f. by_number (inter_instances program n f) 1 facts) facts y there in
    let two = numbered-from (inter_instances program one.n one.x) facts y one.gives in
    let (differ, listed) = list-is (of_another one.x.home two.x.home) (map (Inter one.n two.n) (edges_from program two.x.home)) y two.gives in
    let (e, edge_listed, same) = Contains-unmap (Inter one.n two.n) (edges_from program two.x.home) y listed in
    let are = apart-is one.x.home two.x.home differ in
    let leads = leads-there program two.x.home e edge_listed in
    let place = state_home-place program are.k are.l (has-home program facts one.n one.x (State are.k are.l) homes one.x_is are.home_is) in
    let number = same-number two.x.home are.i are.m leads.i leads.edge.from are.other_is leads.home_is in
    subst (IsInstanceOver program Og facts) same (record {
      instance = Inter one.x two.x e;
      given = inter_case program are.k are.l place.thread leads.thread leads.edge one.x two.x;
      has_kind = tt;
      resolved = ap₂ (λ a b. Inter a b e) one.x_is two.x_is;
      is_case = inter are.k are.l leads.i e place.thread leads.thread leads.edge one.x two.x (other-number are.k are.i leads.i are.apart number) (place-location program are.k are.l place) leads.edge_is are.home_is leads.home_is;
    })

-- ---- and to the list: what the numbers are

pub own-numbers : (facts : List Statement) (numbers : Instance ℕ) (f : Statement) (e : ℕ) → map_instance (at_number facts) numbers ≡ Own (Some f) e → (n : ℕ) × (numbers ≡ Own n e) × (at_number facts n ≡ Some f)
own-numbers facts (Own n m) f e is = let same : m ≡ e = cc in (n, ap (Own n) same, cc)
own-numbers facts numbers f e is = cc

pub guar-numbers : (facts : List Statement) (numbers : Instance ℕ) (f : Statement) (e : ℕ) → map_instance (at_number facts) numbers ≡ Guar (Some f) e → (n : ℕ) × (numbers ≡ Guar n e) × (at_number facts n ≡ Some f)
guar-numbers facts (Guar n m) f e is = let same : m ≡ e = cc in (n, ap (Guar n) same, cc)
guar-numbers facts numbers f e is = cc

pub init-numbers : (facts : List Statement) (numbers : Instance ℕ) (i : ℕ) → map_instance (at_number facts) numbers ≡ Init i → numbers ≡ Init i
init-numbers facts (Init j) i is = let same : j ≡ i = cc in ap Init same
init-numbers facts numbers i is = cc

pub env-numbers : (facts : List Statement) (numbers : Instance ℕ) (f t : Statement) → map_instance (at_number facts) numbers ≡ Environment (Some f) (Some t)
    → (n : ℕ) × (m : ℕ) × (numbers ≡ Environment n m) × (at_number facts n ≡ Some f) × (at_number facts m ≡ Some t)
env-numbers facts (Environment n m) f t is = (n, m, refl, cc, cc)
env-numbers facts numbers f t is = cc

pub inter-numbers : (facts : List Statement) (numbers : Instance ℕ) (f g : Statement) (e : ℕ) → map_instance (at_number facts) numbers ≡ Inter (Some f) (Some g) e
    → (n : ℕ) × (m : ℕ) × (numbers ≡ Inter n m e) × (at_number facts n ≡ Some f) × (at_number facts m ≡ Some g)
inter-numbers facts (Inter n m j) f g e is = let same : j ≡ e = cc in (n, m, ap (Inter n m) same, cc, cc)
inter-numbers facts numbers f g e is = cc

-- ---- each kind, into its list

pub to-init : (program : Program) (i : ℕ) (thread : Thread) → IsThreadOf program i thread → Contains (init_instances program) (Init i)
to-init program i thread at = numbered-there (λ k (t : Thread). Init k ∷ []) program.threads i thread (Init i) at (Contains-first (Init i) [])

pub to-own : (program : Program) (facts : List Statement) (n e : ℕ) (f : Statement) → at_number facts n ≡ Some f → LeadsFrom program f.home e → Contains (own_instances program facts) (Own n e)
to-own program facts n e f at leads =
    numbered-there (λ m (g : Statement). map (Own m) (edges_from program g.home)) facts n f (Own n e) at (Contains-map (Own n) (edges_from program f.home) e (there-leads program f.home e leads))

pub to-guar : (program : Program) (facts : List Statement) (n e : ℕ) (f : Statement) → at_number facts n ≡ Some f → LeadsFrom program f.home e → Contains (guar_instances program facts) (Guar n e)
to-guar program facts n e f at leads =
    numbered-there (λ m (g : Statement). map (Guar m) (edges_from program g.home)) facts n f (Guar n e) at (Contains-map (Guar n) (edges_from program f.home) e (there-leads program f.home e leads))

pub to-env : (facts : List Statement) (n m : ℕ) (f t : Statement) → at_number facts n ≡ Some f → at_number facts m ≡ Some t → tells_another f.home t.home ≡ true → Contains (env_instances facts) (Environment n m)
to-env facts n m f t at there tells =
    numbered-there (λ k g. by_number (env_instance k g) 1 facts) facts n f (Environment n m) at
    (numbered-there (env_instance n f) facts m t (Environment n m) there (perhaps-there (tells_another f.home t.home) (Environment n m) tells))

pub to-inter : (program : Program) (facts : List Statement) (n m e : ℕ) (f g : Statement) → at_number facts n ≡ Some f → at_number facts m ≡ Some g → of_another f.home g.home ≡ true → LeadsFrom program g.home e
    → Contains (all_inter_instances program facts) (Inter n m e)
to-inter program facts n m e f g at there differ leads =
    numbered-there (λ k h. by_number (inter_instances program k h) 1 facts) facts n f (Inter n m e) at
    (numbered-there (inter_instances program n f) facts m g (Inter n m e) there
    (list-there (of_another f.home g.home) (map (Inter n m) (edges_from program g.home)) (Inter n m e) differ
    (Contains-map (Inter n m) (edges_from program g.home) e (there-leads program g.home e leads))))
