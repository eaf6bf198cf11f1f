use Rattle.std.proofs.Common.{◌≤◌, ◌∙◌, ◌↔◌, ℕ, false, IsTrue, length, sym, refl, arith, inl, inr}
use Rattle.std.proofs.lemmas.Bool.{false≢true}
use Rattle.std.proofs.lemmas.Bool.Decides.{leb_tells}
use Rattle.std.specs.Prelude.{nat_le}
use Rattle.horn_rules.proofs.Numbers.{env_home-place}
use Rattle.horn_rules.proofs.HomesThere.{edge-there, edge-within, edges-count, env-thread}
use Rattle.horn_rules.proofs.homes.has_edge.Goals as goal

no : (P : Type 0) → (P → ⊥) → IsTrue false ↔ P
no P h = (λ e. absurd (false≢true e), λ p. absurd (h p))

test : (a b : ℕ) (P : Type 0) → (a ≤ b → P) → (P → a ≤ b) → IsTrue (nat_le a b) ↔ P
test a b P f g = elim (leb_tells a b) [
  | inl p ↦ (λ e. f p.1, λ h. p.0)
  | inr p ↦ (λ e. absurd (false≢true (sym p.0 ∙ e)), λ h. let k = g h in absurd (omega (arith, p.1, k)))
]

pub returns-then-not-has_thread : goal.returns-then-not-has_thread
returns-then-not-has_thread c = no _ (λ is. false≢true (sym c.if-not-has_thread.true ∙ c.has_thread.ensures.1 (env-thread c.args.program.now c.args.thread.0 c.args.edge.0 is)))

pub returns-then-edge-eq0 : goal.returns-then-edge-eq0
returns-then-edge-eq0 c = no _ (λ is. omega (arith, (env_home-place c.args.program.now c.args.thread.0 c.args.edge.0 is).0, c.if-edge-eq0.true))

pub returns : goal.returns
returns c =
    let program = c.args.program.now in
    let count = edges-count _ c.edges.result.now c.edges.ensures in
    test c.args.edge.0 (length c.edges.result.now) _
    (λ few. edge-there program c.args.thread.0 c.args.edge.0 (length c.edges.result.now) _ refl count (omega arith) few)
    (λ is. (edge-within program c.args.thread.0 c.args.edge.0 (length c.edges.result.now) count is).1)
