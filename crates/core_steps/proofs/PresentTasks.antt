-- What leads or is pending has live premises.
use Rattle.std.proofs.Common.{◌≡◌, ℕ, Bool, true, List, [], ◌∷◌, Some, refl, subst}
use Rattle.std.specs.Prelude.{◌==◌}
use Rattle.std.specs.List.{AllByRecursion, Contains, list_all}
use Rattle.lin_rows.proofs.Lists.{AllByRecursion-weaken}
use Rattle.horn_rules.specs.Home.{Home}
use Rattle.horn_rules.specs.Instance.{Instance, premises_of}
use Rattle.horn_rules.proofs.InstanceLists.{is-eq}
use Rattle.derivation_tree.specs.Facts.{KeptFact, target_among}
use Rattle.core_steps.specs.State.{Opening, State, Task}
use Rattle.core_steps.specs.Withdrawn.{has_id}
use Rattle.core_steps.specs.Pending.{IsPending, is_present}
use Rattle.core_steps.proofs.Tests.{both, with-both}
use Rattle.core_steps.proofs.Live.{all-unmap, has_id-at}
use Rattle.core_steps.proofs.Events.{leads-found}

pub all-from : {A : Type 0} (p : A → Bool) (xs : List A) → AllByRecursion (λ x. p x ≡ true) xs → list_all p xs ≡ true
all-from p [] all = refl
all-from p (x ∷ xs) all = with-both (p x) (list_all p xs) all.0 (all-from p xs all.1)

pub all-to : {A : Type 0} (p : A → Bool) (xs : List A) → list_all p xs ≡ true → AllByRecursion (λ x. p x ≡ true) xs
all-to p [] e = tt
all-to p (x ∷ xs) e = let (hit, rest) = both (p x) (list_all p xs) e in (hit, all-to p xs rest)

pub leads-live : (opening : Opening) (live : List KeptFact) (instance : Instance ℕ) (home : Home) → target_among opening.program live instance ≡ Some home → list_all (has_id live) (premises_of instance) ≡ true
leads-live opening live instance home leads =
    let found = leads-found opening.program live instance home leads in
    let all : AllByRecursion (λ (f : KeptFact). has_id live f.id ≡ true) (premises_of found.premises) =
    AllByRecursion-weaken (Contains live) (λ (f : KeptFact). has_id live f.id ≡ true) (λ f there. has_id-at live f there) (premises_of found.premises) found.are_live in
    all-from (has_id live) (premises_of instance)
    (subst (λ i. AllByRecursion (λ id. has_id live id ≡ true) (premises_of i)) found.ids (all-unmap (λ id. has_id live id ≡ true) (λ (f : KeptFact). f.id) found.premises all))

pub pending-present : (opening : Opening) (state : State) (task : Task) → IsPending opening state task → is_present state task ≡ true
pending-present opening state task pending =
    with-both (task.epoch == state.epochs task.home) (list_all (has_id state.live) (premises_of task.instance))
    (is-eq task.epoch (state.epochs task.home) pending.present) (leads-live opening state.live task.instance task.home pending.leads)
