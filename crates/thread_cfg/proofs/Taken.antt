-- Alternatives that are taken.
use Rattle.std.proofs.Common.{◌≡◌, ◌⊎◌, ◌↔◌, ℕ, ℤ, List, [], ◌∷◌, ◌++◌, Some, inl, inr, refl}
use Rattle.c_check.specs.Plan.{Arithmetic}
use Rattle.thread_cfg.specs.declared.relation.Relation.{Relation}
use Rattle.thread_cfg.specs.Source.{Frame, value}
use Rattle.thread_cfg.specs.Happen.{Happen}
use Rattle.thread_cfg.specs.Action.{Alternative, requiring}
use Rattle.thread_cfg.proofs.Comparisons.{SomeHolds}

-- The events of the alternative happen, and it leads to the location.
pub record IsTaken (frame : Frame) (values : List ℤ) (a : Alternative) (after : List ℤ) (to : ℕ) : Type 0 where
  pub inputs : List ℤ
  pub happen : Happen frame values a.events inputs after
  pub leads : to ≡ a.to

-- One of the alternatives is taken.
abbrev pub SomeTaken : Frame → List ℤ → List Alternative → List ℤ → ℕ → Type 0
SomeTaken frame values [] after to = ⊥
SomeTaken frame values (a ∷ as') after to = IsTaken frame values a after to ⊎ SomeTaken frame values as' after to

-- one of alternatives, or one of those behind them
pub taken-++ : (frame : Frame) (values : List ℤ) (xs ys : List Alternative) (after : List ℤ) (to : ℕ)
    → SomeTaken frame values (xs ++ ys) after to ↔ (SomeTaken frame values xs after to ⊎ SomeTaken frame values ys after to)
taken-++ frame values [] ys after to = (λ h. inr h, λ h. elim h [ inl g ↦ absurd g | inr g ↦ g ])
taken-++ frame values (x ∷ xs) ys after to = (
  λ h. elim h [ inl g ↦ inl (inl g) | inr g ↦ elim ((taken-++ frame values xs ys after to).0 g) [ inl g ↦ inl (inr g) | inr g ↦ inr g ] ],
  λ h. elim h [
    | inl g ↦ elim g [ inl g ↦ inl g | inr g ↦ inr ((taken-++ frame values xs ys after to).1 (inl g)) ]
    | inr g ↦ inr ((taken-++ frame values xs ys after to).1 (inr g))
  ],
)

-- one of the relations that lead to a location is taken where it holds
pub taken-requiring : (frame : Frame) (values : List ℤ) (from : ℕ) (rs : List Relation) (a b : Arithmetic) (target : ℕ) (after : List ℤ) (to : ℕ)
    → SomeTaken frame values (requiring from rs a b (Some target)) after to
    ↔ (SomeHolds rs (value frame values a) (value frame values b) × (after ≡ values) × (to ≡ target))
taken-requiring frame values from [] a b target after to = (λ h. absurd h, λ h. h.0)
taken-requiring frame values from (r ∷ rs) a b target after to = (
  λ h. elim h [
    | inl g ↦ (inl g.happen.0, g.happen.1.1, g.leads)
    | inr g ↦ let more = (taken-requiring frame values from rs a b target after to).0 g in (inr more.0, more.1, more.2)
  ],
  λ h. elim h.0 [
    | inl holds ↦ inl (record { inputs = []; happen = (holds, (refl, h.1)); leads = h.2 })
    | inr more ↦ inr ((taken-requiring frame values from rs a b target after to).1 (more, h.1, h.2))
  ],
)
