-- Atoms that are decided one after another.
use Rattle.std.proofs.Common.{◌≡◌, ◌≢◌, ℕ, zero, suc, ◌-◌, ◌^◌, ◌<◌, ◌≤◌, Bool, false, List, [], ◌∷◌, map, Some, None, Ok, Err, refl, sym, ap, subst, ◌∙◌, arith, inl, inr}
use Rattle.std.specs.Prelude.{◌==◌}
use Rattle.std.specs.List.{slice_get}
use Rattle.std.specs.Option.{option_or}
use Rattle.std.proofs.lemmas.Bool.Decides.{eqb_tells}
use Rattle.std.proofs.lemmas.Nat.Bits.{bit_at_above}
use Rattle.thr_base.specs.Held.{holds}
use Rattle.lin_rows.specs.Row.{Row}
use Rattle.lin_rows.specs.System.{System}
use Rattle.farkas_cert.specs.Cert.{IsRefuted}
use Rattle.farkas_cert.specs.Proof.{with_denial}
use Rattle.farkas_cert.specs.declared.answers.LeaveKind.{LeaveKind}
use Rattle.rational_entail.specs.Entailment.{leave_of}
use Rattle.transition_formula.specs.Program.{at_number}
use Rattle.abstract_post.specs.Left.{first_leave, LeavesWith}
use Rattle.abstract_post.specs.inside.Found.{Tells, IsDecidedAt, AreDecided}

-- a word holds no position above all of its own
pub holds-above : (held k : ℕ) → 0 < k → held < 2 ^ (k - 1) → false ≡ holds held k
holds-above held k from few = let none = bit_at_above held (k - 1) (k - 1) few (omega arith) in ap (λ b. b == 1) (sym none)

no-atom : (atoms : List Row) (k : ℕ) (atom : Row) → k ≤ 0 → at_number atoms k ≡ Some atom → ⊥
no-atom atoms zero atom below at = cc
no-atom atoms (suc k) atom below at = absurd (omega arith)

-- at first, nothing is asked
pub none-decided : (system : System) (place : Row → Row) (atoms : List Row) → AreDecided system place atoms 0 0
none-decided system place atoms = record { no_more = omega arith; each = λ k atom below at. absurd (no-atom atoms k atom below at) }

decided-at : (system : System) (row : Row) (next k : ℕ) (entailed : Bool) → Tells system row (Ok entailed) → holds next k ≡ entailed → IsDecidedAt system next k row
decided-at system row next k entailed tells there = record {
  held_is = (λ e. tells.1.0 (sym there ∙ e), λ entails. there ∙ tells.1.1 entails);
  decides = tells.0;
}

decided-kept : (system : System) (row : Row) (held next k : ℕ) → holds next k ≡ holds held k → IsDecidedAt system held k row → IsDecidedAt system next k row
decided-kept system row held next k kept is = record {
  held_is = (λ e. is.held_is.0 (sym kept ∙ e), λ entails. kept ∙ is.held_is.1 entails);
  decides = is.decides;
}

named-at : (atoms : List Row) (p k : ℕ) → k ≡ suc p → at_number atoms k ≡ slice_get atoms p
named-at atoms p k same = ap (at_number atoms) same

next-at : (system : System) (place : Row → Row) (atoms : List Row) (held next p q : ℕ) (atom : Row) (entailed : Bool) → AreDecided system place atoms held p → slice_get atoms p ≡ Some atom
    → Tells system (place atom) (Ok entailed) → q ≡ suc p → holds next q ≡ entailed → ((k : ℕ) → 0 < k → k ≢ q → holds next k ≡ holds held k)
    → (k : ℕ) (other : Row) → k ≤ q → at_number atoms k ≡ Some other → IsDecidedAt system next k (place other)
next-at system place atoms held next p q atom entailed are at tells after bit others zero other below there = cc
next-at system place atoms held next p q atom entailed are at tells after bit others (suc k) other below there = elim (eqb_tells (suc k) q) [
  | inl (hit, same) ↦
      let both : Some atom ≡ Some other = sym at ∙ sym (named-at atoms p (suc k) (same ∙ after)) ∙ there in
      let one : atom ≡ other = cc in
      decided-at system (place other) next (suc k) entailed (subst (λ a. Tells system (place a) (Ok entailed)) one tells) (ap (holds next) same ∙ bit)
  | inr (miss, apart) ↦ decided-kept system (place other) held next (suc k) (others (suc k) (omega arith) apart) (are.each (suc k) other (omega arith) there)
]

pub decided-next : (system : System) (place : Row → Row) (atoms : List Row) (held next p q : ℕ) (atom : Row) (entailed : Bool) → AreDecided system place atoms held p → slice_get atoms p ≡ Some atom
    → Tells system (place atom) (Ok entailed) → q ≡ suc p → next < 2 ^ q → holds next q ≡ entailed → ((k : ℕ) → 0 < k → k ≢ q → holds next k ≡ holds held k)
    → AreDecided system place atoms next q
decided-next system place atoms held next p q atom entailed are at tells after few bit others = record {
  no_more = few;
  each = next-at system place atoms held next p q atom entailed are at tells after bit others;
}

-- the first atom that is left undecided
first-leave-at : (system : System) (place : Row → Row) (atoms : List Row) (p : ℕ) (atom : Row) (kind : LeaveKind) → slice_get atoms p ≡ Some atom
    → leave_of (with_denial system (place atom)) ≡ Some kind
    → ((k : ℕ) (other : Row) → k < p → slice_get atoms k ≡ Some other → leave_of (with_denial system (place other)) ≡ None)
    → first_leave (map (λ a. with_denial system (place a)) atoms) ≡ Some kind
first-leave-at system place [] zero atom kind at leaves earlier = cc
first-leave-at system place [] (suc p) atom kind at leaves earlier = cc
first-leave-at system place (x ∷ xs) zero atom kind at leaves earlier =
    let same : x ≡ atom = cc in
    ap (λ o. option_or o (first_leave (map (λ a. with_denial system (place a)) xs))) (ap (λ a. leave_of (with_denial system (place a))) same ∙ leaves)
first-leave-at system place (x ∷ xs) (suc p) atom kind at leaves earlier =
    ap (λ o. option_or o (first_leave (map (λ a. with_denial system (place a)) xs))) (earlier 0 x (omega arith) refl)
    ∙ first-leave-at system place xs p atom kind at leaves (λ k other below there. earlier (suc k) other (omega arith) there)

pub left-at : (system : System) (place : Row → Row) (atoms : List Row) (held p : ℕ) (atom : Row) (kind : LeaveKind) → leave_of system ≡ None → (¬ IsRefuted system)
    → AreDecided system place atoms held p → slice_get atoms p ≡ Some atom → Tells system (place atom) (Err kind) → LeavesWith system place atoms kind
left-at system place atoms held p atom kind decided point are at tells =
    inr (decided, point, first-leave-at system place atoms p atom kind at tells (λ k other below there. (are.each (suc k) other (omega arith) there).decides))
