-- All kinds of instances together.
use Rattle.std.proofs.Common.{◌≡◌, ◌≢◌, ℕ, List, [], ◌∷◌, ◌++◌, map, refl, sym, ap, subst, inl, inr, arith}
use Rattle.std.specs.List.{Contains}
use Rattle.std.proofs.lemmas.List.Elements.{Contains-append_left, Contains-append_right}
use Rattle.thr_base.specs.declared.names.RuleName.{RuleName}
use Rattle.thr_base.specs.declared.names.RuleName.TheVariants.{Rg, Og}
use Rattle.transition_formula.specs.Program.{Program, Thread}
use Rattle.horn_rules.specs.Home.{by_number}
use Rattle.horn_rules.specs.Fact.{Statement}
use Rattle.horn_rules.specs.Instance.{Instance, Init, Own, Guar, Env as Environment, Inter, HasKind}
use Rattle.horn_rules.specs.Case.{Case, IsCaseOf, init, own, guar, env, inter}
use Rattle.horn_rules.specs.Instances.{edges_from, tells_another, of_another, env_instance, inter_instances, init_instances, own_instances, guar_instances, env_instances, all_inter_instances, instances_over, IsResolved}
use Rattle.horn_rules.specs.Laws.{IsInstanceOver, InstancesAreExact}
use Rattle.horn_rules.proofs.Lists.{first-or-later, contains-nothing, Contains-unmap}
use Rattle.horn_rules.proofs.ByNumber.{Contains-append, numbered-from, IsOnce, once-pairs, once-append, once-map, once-by_number}
use Rattle.horn_rules.proofs.InstanceLists

-- ---- the lists of a rule

abbrev rest_of : Program → RuleName → List Statement → List (Instance ℕ)
rest_of program Rg facts = guar_instances program facts ++ env_instances facts
rest_of program Og facts = all_inter_instances program facts

over-is : (program : Program) (rule : RuleName) (facts : List Statement) → instances_over program rule facts ≡ init_instances program ++ (own_instances program facts ++ rest_of program rule facts)
over-is program Rg facts = refl
over-is program Og facts = refl

has-init : (rule : RuleName) (i : ℕ) → HasKind {F = Statement} rule (Init i)
has-init Rg i = tt
has-init Og i = tt

has-own : (rule : RuleName) (f : Statement) (e : ℕ) → HasKind rule (Own f e)
has-own Rg f e = tt
has-own Og f e = tt

from-rest : (program : Program) (rule : RuleName) (facts : List Statement) (y : Instance ℕ) → InstanceLists.HaveHomes program facts → Contains (rest_of program rule facts) y → IsInstanceOver program rule facts y
from-rest program Rg facts y homes there = elim (Contains-append (guar_instances program facts) (env_instances facts) y there) [
  | inl here ↦ InstanceLists.from-guar program facts y here
  | inr behind ↦ InstanceLists.from-env program facts y homes behind
]
from-rest program Og facts y homes there = InstanceLists.from-inter program facts y homes there

from-list : (program : Program) (rule : RuleName) (facts : List Statement) (y : Instance ℕ) → InstanceLists.HaveHomes program facts → Contains (instances_over program rule facts) y → IsInstanceOver program rule facts y
from-list program rule facts y homes there =
    let all = subst (λ l. Contains l y) (over-is program rule facts) there in
    elim (Contains-append (init_instances program) (own_instances program facts ++ rest_of program rule facts) y all) [
      | inl here ↦ InstanceLists.from-init program rule facts y (has-init rule) here
      | inr behind ↦ elim (Contains-append (own_instances program facts) (rest_of program rule facts) y behind) [
        | inl here ↦ InstanceLists.from-own program rule facts y (has-own rule) here
        | inr last ↦ from-rest program rule facts y homes last
      ]
    ]

-- ---- into the list

over-has-init : (program : Program) (rule : RuleName) (facts : List Statement) (y : Instance ℕ) → Contains (init_instances program) y → Contains (instances_over program rule facts) y
over-has-init program rule facts y there = subst (λ l. Contains l y) (sym (over-is program rule facts)) (Contains-append_left (init_instances program) _ y there)

over-has-own : (program : Program) (rule : RuleName) (facts : List Statement) (y : Instance ℕ) → Contains (own_instances program facts) y → Contains (instances_over program rule facts) y
over-has-own program rule facts y there =
    subst (λ l. Contains l y) (sym (over-is program rule facts))
    (Contains-append_right (init_instances program) (own_instances program facts ++ rest_of program rule facts) y (Contains-append_left (own_instances program facts) (rest_of program rule facts) y there))

over-has-rest : (program : Program) (rule : RuleName) (facts : List Statement) (y : Instance ℕ) → Contains (rest_of program rule facts) y → Contains (instances_over program rule facts) y
over-has-rest program rule facts y there =
    subst (λ l. Contains l y) (sym (over-is program rule facts))
    (Contains-append_right (init_instances program) (own_instances program facts ++ rest_of program rule facts) y (Contains-append_right (own_instances program facts) (rest_of program rule facts) y there))

to-list : (program : Program) (rule : RuleName) (facts : List Statement) (y : Instance ℕ) (instance : Instance Statement) (given : Case) → IsCaseOf program instance given → HasKind rule instance → IsResolved facts y instance
    → Contains (instances_over program rule facts) y
to-list program rule facts y instance given (init i thread at) has resolved =
    subst (Contains (instances_over program rule facts)) (sym (InstanceLists.init-numbers facts y i resolved)) (over-has-init program rule facts (Init i) (InstanceLists.to-init program i thread at))
to-list program rule facts y instance given (own i e thread edge f at home) has resolved =
    let (n, is, there) = InstanceLists.own-numbers facts y f e resolved in
    subst (Contains (instances_over program rule facts)) (sym is)
    (over-has-own program rule facts (Own n e) (InstanceLists.to-own program facts n e f there (record { i = i; thread = thread; edge = edge; edge_is = at; home_is = home })))
to-list program Rg facts y instance given (guar i e thread edge f at home) has resolved =
    let (n, is, there) = InstanceLists.guar-numbers facts y f e resolved in
    subst (Contains (instances_over program Rg facts)) (sym is)
    (over-has-rest program Rg facts (Guar n e) (Contains-append_left (guar_instances program facts) (env_instances facts) (Guar n e)
    (InstanceLists.to-guar program facts n e f there (record { i = i; thread = thread; edge = edge; edge_is = at; home_is = home }))))
to-list program Og facts y instance given (guar i e thread edge f at home) has resolved = absurd has
to-list program Rg facts y instance given (env k l i e other thread edge f t apart there at home_f home_t) has resolved =
    let (n, m, is, first, second) = InstanceLists.env-numbers facts y f t resolved in
    subst (Contains (instances_over program Rg facts)) (sym is)
    (over-has-rest program Rg facts (Environment n m) (Contains-append_right (guar_instances program facts) (env_instances facts) (Environment n m)
    (InstanceLists.to-env facts n m f t first second (InstanceLists.is-told f.home t.home k l i e apart home_f home_t))))
to-list program Og facts y instance given (env k l i e other thread edge f t apart there at home_f home_t) has resolved = absurd has
to-list program Rg facts y instance given (inter k l i e other thread edge f g apart there at home_f home_g) has resolved = absurd has
to-list program Og facts y instance given (inter k l i e other thread edge f g apart there at home_f home_g) has resolved =
    let (n, m, is, first, second) = InstanceLists.inter-numbers facts y f g e resolved in
    subst (Contains (instances_over program Og facts)) (sym is)
    (over-has-rest program Og facts (Inter n m e) (InstanceLists.to-inter program facts n m e f g first second (InstanceLists.is-apart f.home g.home k l i edge.from apart home_f home_g)
    (record { i = i; thread = thread; edge = edge; edge_is = at; home_is = home_g })))

-- ---- each once

abbrev kind_of : Instance ℕ → ℕ
kind_of (Init i) = 0
kind_of (Own n e) = 1
kind_of (Guar n e) = 2
kind_of (Environment n m) = 3
kind_of (Inter n m e) = 4

abbrev first_number : Instance ℕ → ℕ
first_number (Init i) = i
first_number (Own n e) = n
first_number (Guar n e) = n
first_number (Environment n m) = n
first_number (Inter n m e) = n

abbrev second_number : Instance ℕ → ℕ
second_number (Init i) = 0
second_number (Own n e) = e
second_number (Guar n e) = e
second_number (Environment n m) = m
second_number (Inter n m e) = m

abbrev last_number : Instance ℕ → ℕ
last_number (Inter n m e) = e
last_number instance = 0

single-is : {A : Type 0} (x y : A) → Contains (x ∷ []) y → x ≡ y
single-is x y there = elim (first-or-later x y [] there) [ inl same ↦ same | inr none ↦ absurd (contains-nothing y none) ]

init-once : (program : Program) → IsOnce (init_instances program)
init-once program =
    once-by_number (λ i (thread : Thread). Init i ∷ []) first_number 1 program.threads (λ k thread y there. ap first_number (sym (single-is (Init k) y there)))
    (λ k thread. (λ there. contains-nothing (Init k) there, tt))

own-once : (program : Program) (facts : List Statement) → IsOnce (own_instances program facts)
own-once program facts =
    once-by_number (λ n (f : Statement). map (Own n) (edges_from program f.home)) first_number 1 facts
    (λ n f y there. let (e, listed, same) = Contains-unmap (Own n) (edges_from program f.home) y there in ap first_number (sym same))
    (λ n f. once-map (Own n) (edges_from program f.home) (λ a b e. ap second_number e) (InstanceLists.edges-once program f.home))

guar-once : (program : Program) (facts : List Statement) → IsOnce (guar_instances program facts)
guar-once program facts =
    once-by_number (λ n (f : Statement). map (Guar n) (edges_from program f.home)) first_number 1 facts
    (λ n f y there. let (e, listed, same) = Contains-unmap (Guar n) (edges_from program f.home) y there in ap first_number (sym same))
    (λ n f. once-map (Guar n) (edges_from program f.home) (λ a b e. ap second_number e) (InstanceLists.edges-once program f.home))

env-is : (n : ℕ) (f : Statement) (m : ℕ) (t : Statement) (y : Instance ℕ) → Contains (env_instance n f m t) y → Environment n m ≡ y
env-is n f m t y there = (InstanceLists.perhaps-is (tells_another f.home t.home) (Environment n m) y there).1

env-once : (facts : List Statement) → IsOnce (env_instances facts)
env-once facts =
    once-by_number (λ n f. by_number (env_instance n f) 1 facts) first_number 1 facts
    (λ n f y there. let found = numbered-from (env_instance n f) facts y there in ap first_number (sym (env-is n f found.n found.x y found.gives)))
    (λ n f. once-by_number (env_instance n f) second_number 1 facts (λ m t y there. ap second_number (sym (env-is n f m t y there)))
    (λ m t. InstanceLists.perhaps-once (tells_another f.home t.home) (Environment n m)))

inter-is : (program : Program) (n : ℕ) (f : Statement) (m : ℕ) (g : Statement) (y : Instance ℕ) → Contains (inter_instances program n f m g) y → (e : ℕ) × (Inter n m e ≡ y)
inter-is program n f m g y there =
    let (differ, listed) = InstanceLists.list-is (of_another f.home g.home) (map (Inter n m) (edges_from program g.home)) y there in
    let (e, edge_listed, same) = Contains-unmap (Inter n m) (edges_from program g.home) y listed in
    (e, same)

inter-once : (program : Program) (facts : List Statement) → IsOnce (all_inter_instances program facts)
inter-once program facts =
    once-by_number (λ n f. by_number (inter_instances program n f) 1 facts) first_number 1 facts
    (λ n f y there. let found = numbered-from (inter_instances program n f) facts y there in ap first_number (sym (inter-is program n f found.n found.x y found.gives).1))
    (λ n f. once-by_number (inter_instances program n f) second_number 1 facts (λ m g y there. ap second_number (sym (inter-is program n f m g y there).1))
    (λ m g. InstanceLists.list-once (of_another f.home g.home) (map (Inter n m) (edges_from program g.home))
    (once-map (Inter n m) (edges_from program g.home) (λ a b e. ap last_number e) (InstanceLists.edges-once program g.home))))

-- ---- kinds stand apart

init-kind : (program : Program) (y : Instance ℕ) → Contains (init_instances program) y → kind_of y ≡ 0
init-kind program y there =
    let found = numbered-from (λ i (thread : Thread). Init i ∷ []) program.threads y there in
    ap kind_of (sym (single-is (Init found.n) y found.gives))

own-kind : (program : Program) (facts : List Statement) (y : Instance ℕ) → Contains (own_instances program facts) y → kind_of y ≡ 1
own-kind program facts y there =
    let found = numbered-from (λ n (f : Statement). map (Own n) (edges_from program f.home)) facts y there in
    let (e, listed, same) = Contains-unmap (Own found.n) (edges_from program found.x.home) y found.gives in
    ap kind_of (sym same)

guar-kind : (program : Program) (facts : List Statement) (y : Instance ℕ) → Contains (guar_instances program facts) y → kind_of y ≡ 2
guar-kind program facts y there =
    let found = numbered-from (λ n (f : Statement). map (Guar n) (edges_from program f.home)) facts y there in
    let (e, listed, same) = Contains-unmap (Guar found.n) (edges_from program found.x.home) y found.gives in
    ap kind_of (sym same)

env-kind : (facts : List Statement) (y : Instance ℕ) → Contains (env_instances facts) y → kind_of y ≡ 3
env-kind facts y there =
    let one = numbered-from (λ n f. by_number (env_instance n f) 1 facts) facts y there in
    let two = numbered-from (env_instance one.n one.x) facts y one.gives in
    ap kind_of (sym (env-is one.n one.x two.n two.x y two.gives))

inter-kind : (program : Program) (facts : List Statement) (y : Instance ℕ) → Contains (all_inter_instances program facts) y → kind_of y ≡ 4
inter-kind program facts y there =
    let one = numbered-from (λ n f. by_number (inter_instances program n f) 1 facts) facts y there in
    let two = numbered-from (inter_instances program one.n one.x) facts y one.gives in
    ap kind_of (sym (inter-is program one.n one.x two.n two.x y two.gives).1)

-- the rest has later kinds
rest-kind : (program : Program) (rule : RuleName) (facts : List Statement) (y : Instance ℕ) → Contains (rest_of program rule facts) y → (kind_of y ≢ 0) × (kind_of y ≢ 1)
rest-kind program Rg facts y there = elim (Contains-append (guar_instances program facts) (env_instances facts) y there) [
  | inl here ↦ let is = guar-kind program facts y here in (λ e. absurd (omega arith), λ e. absurd (omega arith))
  | inr behind ↦ let is = env-kind facts y behind in (λ e. absurd (omega arith), λ e. absurd (omega arith))
]
rest-kind program Og facts y there = let is = inter-kind program facts y there in (λ e. absurd (omega arith), λ e. absurd (omega arith))

rest-once : (program : Program) (rule : RuleName) (facts : List Statement) → IsOnce (rest_of program rule facts)
rest-once program Rg facts =
    once-append (guar_instances program facts) (env_instances facts) (guar-once program facts) (env-once facts)
    (λ y here behind. let one = guar-kind program facts y here in let other = env-kind facts y behind in omega arith)
rest-once program Og facts = inter-once program facts

all-once : (program : Program) (rule : RuleName) (facts : List Statement) → IsOnce (instances_over program rule facts)
all-once program rule facts =
    let rest = rest_of program rule facts in
    let own_rest = once-append (own_instances program facts) rest (own-once program facts) (rest-once program rule facts)
    (λ y here behind. (rest-kind program rule facts y behind).1 (own-kind program facts y here)) in
    subst (λ l. IsOnce l) (sym (over-is program rule facts))
    (once-append (init_instances program) (own_instances program facts ++ rest) (init-once program) own_rest
    (λ y here behind. elim (Contains-append (own_instances program facts) rest y behind) [
      | inl mine ↦ let one = init-kind program y here in let other = own-kind program facts y mine in omega arith
      | inr last ↦ (rest-kind program rule facts y last).0 (init-kind program y here)
    ]))

pub instances-exact : InstancesAreExact
instances-exact program rule facts homes = record {
  exact = λ y. (λ there. from-list program rule facts y homes there, λ is. to-list program rule facts y is.instance is.given is.is_case is.has_kind is.resolved);
  none_twice = once-pairs (instances_over program rule facts) (all-once program rule facts);
}
