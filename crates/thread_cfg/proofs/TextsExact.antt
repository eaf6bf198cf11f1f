-- A text has one program or one refusal, and never both.
use Rattle.std.proofs.Common.{◌≡◌, ◌⊎◌, ℕ, Bool, true, false, true≢false, List, [], inl, inr, refl, sym, subst, ap, ◌∙◌}
use Rattle.std.specs.Prelude.{Contains, IsUtf8}
use Rattle.std.specs.Str.{is_utf8}
use Rattle.std.proofs.lemmas.Str.{IsUtf8-from_is_utf8, is_utf8-from_IsUtf8}
use Rattle.thr_base.specs.declared.stops.Refusal.{Refusal}
use Rattle.thr_base.specs.Refusals.{IsFirst}
use Rattle.c_tree.specs.declared.item.Tree.{Tree}
use Rattle.c_tree.specs.GrammarItem.{IsTreeOf}
use Rattle.c_tree.specs.Refused.{IsRefusalOf}
use Rattle.c_tree.specs.Seen.{plain_tree}
use Rattle.c_tree.proofs.Trees.{one_tree}
use Rattle.c_tree.proofs.Refusals.{tree_not_refused, tree_or_refusal}
use Rattle.c_tree.proofs.OneRefusal.{one_refusal}
use Rattle.c_check.specs.Check.{IsAccepted, IsRefused}
use Rattle.c_check.proofs.Exact.{accepted-not, accepted-or-refused, none-first, none-or-first, one-first, refused-once}
use Rattle.transition_formula.specs.Program.{Program}
use Rattle.thread_cfg.specs.Graph.{program_of, refusals_of}
use Rattle.thread_cfg.specs.Laws.{TextsAreReadExactly}
use Rattle.thread_cfg.specs.Read.{IsProgramText, Refuses, not_text_at, not_in_profile, not_in_form, not_fit}

-- ---- texts

-- a text has one tree and one program
same-program : (bytes : List ℕ) (tree other : Tree) (program more : Program) → IsProgramText bytes tree program → IsProgramText bytes other more
    → (tree ≡ other) × (program ≡ more)
same-program bytes tree other program more one two =
    let same : tree ≡ other = one_tree bytes tree other one.is_tree two.is_tree in
    (same, one.program_is ∙ ap (λ (t : Tree). program_of (plain_tree t)) same ∙ sym two.program_is)

-- a text with a program is not refused
not-refused : (bytes : List ℕ) (tree : Tree) (program : Program) (d : Refusal) → IsProgramText bytes tree program → ¬ Refuses bytes d
not-refused bytes tree program d is (Refuses.not_text_at none) = none is.utf8
not-refused bytes tree program d is (Refuses.not_in_profile refusal utf8 refused) = tree_not_refused bytes tree refusal is.is_tree refused
not-refused bytes tree program d is (Refuses.not_in_form other refusal utf8 is_tree refused) =
    accepted-not (plain_tree other) refusal (subst (λ (t : Tree). IsAccepted (plain_tree t)) (one_tree bytes tree other is.is_tree is_tree) is.accepted) refused
not-refused bytes tree program d is (Refuses.not_fit other refusal utf8 is_tree accepted first) =
    none-first (refusals_of (plain_tree other)) refusal (subst (λ (t : Tree). refusals_of (plain_tree t) ≡ []) (one_tree bytes tree other is.is_tree is_tree) is.fits) first

-- a text has one refusal
same-refusal : (bytes : List ℕ) (d e : Refusal) → Refuses bytes d → Refuses bytes e → d ≡ e
same-refusal bytes d e (Refuses.not_text_at none) (Refuses.not_text_at also) = refl
same-refusal bytes d e (Refuses.not_text_at none) (Refuses.not_in_profile f utf8 refused) = absurd (none utf8)
same-refusal bytes d e (Refuses.not_text_at none) (Refuses.not_in_form t f utf8 is_tree refused) = absurd (none utf8)
same-refusal bytes d e (Refuses.not_text_at none) (Refuses.not_fit t f utf8 is_tree accepted first) = absurd (none utf8)
same-refusal bytes d e (Refuses.not_in_profile f utf8 refused) (Refuses.not_text_at none) = absurd (none utf8)
same-refusal bytes d e (Refuses.not_in_profile f utf8 refused) (Refuses.not_in_profile g also other) = one_refusal bytes f g refused other
same-refusal bytes d e (Refuses.not_in_profile f utf8 refused) (Refuses.not_in_form t g also is_tree other) = absurd (tree_not_refused bytes t f is_tree refused)
same-refusal bytes d e (Refuses.not_in_profile f utf8 refused) (Refuses.not_fit t g also is_tree accepted first) = absurd (tree_not_refused bytes t f is_tree refused)
same-refusal bytes d e (Refuses.not_in_form t f utf8 is_tree refused) (Refuses.not_text_at none) = absurd (none utf8)
same-refusal bytes d e (Refuses.not_in_form t f utf8 is_tree refused) (Refuses.not_in_profile g also other) = absurd (tree_not_refused bytes t g is_tree other)
same-refusal bytes d e (Refuses.not_in_form t f utf8 is_tree refused) (Refuses.not_in_form u g also is_other other) =
    refused-once (plain_tree u) f g (subst (λ (x : Tree). IsRefused (plain_tree x) f) (one_tree bytes t u is_tree is_other) refused) other
same-refusal bytes d e (Refuses.not_in_form t f utf8 is_tree refused) (Refuses.not_fit u g also is_other accepted first) =
    absurd (accepted-not (plain_tree u) f accepted (subst (λ (x : Tree). IsRefused (plain_tree x) f) (one_tree bytes t u is_tree is_other) refused))
same-refusal bytes d e (Refuses.not_fit t f utf8 is_tree accepted first) (Refuses.not_text_at none) = absurd (none utf8)
same-refusal bytes d e (Refuses.not_fit t f utf8 is_tree accepted first) (Refuses.not_in_profile g also other) = absurd (tree_not_refused bytes t g is_tree other)
same-refusal bytes d e (Refuses.not_fit t f utf8 is_tree accepted first) (Refuses.not_in_form u g also is_other other) =
    absurd (accepted-not (plain_tree u) g (subst (λ (x : Tree). IsAccepted (plain_tree x)) (one_tree bytes t u is_tree is_other) accepted) other)
same-refusal bytes d e (Refuses.not_fit t f utf8 is_tree accepted first) (Refuses.not_fit u g also is_other other next) =
    one-first (Contains (refusals_of (plain_tree u))) f g
    (subst (λ (x : Tree). IsFirst (Contains (refusals_of (plain_tree x))) f) (one_tree bytes t u is_tree is_other) first) next

-- bytes have a program or a refusal
program-or-refusal : (bytes : List ℕ) → ((tree : Tree) × (program : Program) × IsProgramText bytes tree program) ⊎ ((d : Refusal) × Refuses bytes d)
program-or-refusal bytes = by_text (is_utf8 bytes) refl
  where
    by_graph : (utf8 : IsUtf8 bytes) (t : Tree) → IsTreeOf bytes t → IsAccepted (plain_tree t)
        → (refusals_of (plain_tree t) ≡ []) ⊎ ((d : Refusal) × IsFirst (Contains (refusals_of (plain_tree t))) d)
        → ((tree : Tree) × (program : Program) × IsProgramText bytes tree program) ⊎ ((d : Refusal) × Refuses bytes d)
    by_graph utf8 t is accepted (inl fits) =
        inl (t, program_of (plain_tree t), record { utf8 = utf8; is_tree = is; accepted = accepted; fits = fits; program_is = refl })
    by_graph utf8 t is accepted (inr first) = inr (first.0, not_fit t first.0 utf8 is accepted first.1)

    by_form : (utf8 : IsUtf8 bytes) (t : Tree) → IsTreeOf bytes t → IsAccepted (plain_tree t) ⊎ ((d : Refusal) × IsRefused (plain_tree t) d)
        → ((tree : Tree) × (program : Program) × IsProgramText bytes tree program) ⊎ ((d : Refusal) × Refuses bytes d)
    by_form utf8 t is (inl accepted) = by_graph utf8 t is accepted (none-or-first (refusals_of (plain_tree t)))
    by_form utf8 t is (inr refused) = inr (refused.0, not_in_form t refused.0 utf8 is refused.1)

    by_tree : (utf8 : IsUtf8 bytes) → ((t : Tree) × IsTreeOf bytes t) ⊎ ((d : Refusal) × IsRefusalOf bytes d)
        → ((tree : Tree) × (program : Program) × IsProgramText bytes tree program) ⊎ ((d : Refusal) × Refuses bytes d)
    by_tree utf8 (inl t) = by_form utf8 t.0 t.1 (accepted-or-refused (plain_tree t.0))
    by_tree utf8 (inr d) = inr (d.0, not_in_profile d.0 utf8 d.1)

    by_text : (b : Bool) → is_utf8 bytes ≡ b → ((tree : Tree) × (program : Program) × IsProgramText bytes tree program) ⊎ ((d : Refusal) × Refuses bytes d)
    by_text true e = by_tree (IsUtf8-from_is_utf8 bytes e) (tree_or_refusal bytes)
    by_text false e = inr (_, not_text_at (λ utf8. true≢false (sym (is_utf8-from_IsUtf8 bytes utf8) ∙ e)))

-- bytes have a program or a refusal, one of these, and never both
pub texts-are-read-exactly : TextsAreReadExactly
texts-are-read-exactly = record { one = same-program; one_refusal = same-refusal; not_both = not-refused; either = program-or-refusal }
