-- A text has one bad line at most, and none where it is of the kind: for texts of any kind.
use Rattle.std.proofs.Common.{◌≡◌, ℕ, suc, ◌<◌, List, [], ◌∷◌, ◌++◌, length, sym, ap, subst, ◌∙◌, arith, append_assoc, length-append, inl, inr}
use Rattle.std.specs.List.{AllByRecursion}
use Rattle.std.proofs.lemmas.Bool.Decides.{leb_tells}
use Rattle.annotation_form.specs.Lines.{IsLine, lines_text}
use Rattle.annotation_form.specs.Predicates.{IsTextOfPredicates}
use Rattle.annotation_form.specs.Laws.{OneLineIsBad, TextsHaveNoBadLine}
use Rattle.annotation_form.specs.BadLine.{Begin, IsRefused, Ended, NotEnded, IsBadLine}
use Rattle.annotation_form.proofs.Cuts.{cut-at_mark, no_mark, lines_text-append, lines_text-more, cut-lines}
use Rattle.lin_rows.proofs.Lists.{AllByRecursion-rest}

not-refused : (IsOfKind : List ℕ → Type 0) (lines : List (List ℕ)) (rest : List ℕ) → IsOfKind (lines_text lines ++ rest) → IsRefused IsOfKind lines rest → ⊥
not-refused IsOfKind lines rest is (Ended line more is_line rest_is none) =
    let whole : lines_text lines ++ rest ≡ lines_text (lines ++ line ∷ []) ++ more = ap (λ (t : List ℕ). lines_text lines ++ t) rest_is ∙ sym (lines_text-more lines line more) in
    none (record { rest = more; is_text = subst IsOfKind whole is })
not-refused IsOfKind lines rest is (NotEnded is_line none) = none is

-- a text of the kind has no bad line
pub no_bad_line : (IsOfKind : List ℕ → Type 0) (text : List ℕ) (n : ℕ) → IsOfKind text → ¬ IsBadLine IsOfKind text n
no_bad_line IsOfKind text n is bad = not-refused IsOfKind bad.before bad.rest (subst IsOfKind bad.text_is is) bad.refused

-- lines with which a text begins have none among them that is refused
not-among : (IsOfKind : List ℕ → Type 0) (xs ys : List (List ℕ)) (r s : List ℕ) (more : List (List ℕ)) → ys ≡ xs ++ more → r ≡ lines_text more ++ s → length xs < length ys
    → AllByRecursion IsLine ys → Begin IsOfKind ys → IsRefused IsOfKind xs r → ⊥
not-among IsOfKind xs ys r s [] lines_are rest_is shorter are begin refused = omega (arith, ap length lines_are, length-append xs [])
not-among IsOfKind xs ys r s (z ∷ more) lines_are rest_is shorter are begin (NotEnded is_line none) =
    no_mark 10 r z (lines_text more ++ s) is_line (rest_is ∙ append_assoc z (10 ∷ lines_text more) s)
not-among IsOfKind xs ys r s (z ∷ more) lines_are rest_is shorter are begin (Ended line after is_line r_is none) =
    let z_line = AllByRecursion-rest IsLine xs (z ∷ more) (subst (AllByRecursion IsLine) lines_are are) in
    let here : z ++ (10 ∷ (lines_text more ++ s)) ≡ line ++ (10 ∷ after) = sym (append_assoc z (10 ∷ lines_text more) s) ∙ sym rest_is ∙ r_is in
    let one = cut-at_mark 10 z (lines_text more ++ s) line after z_line.0 is_line here in
    let whole : lines_text ys ++ begin.rest ≡ lines_text (xs ++ line ∷ []) ++ (lines_text more ++ begin.rest) =
    ap (λ lines. lines_text lines ++ begin.rest) lines_are
    ∙ lines_text-append xs (z ∷ more) begin.rest
    ∙ ap (λ (t : List ℕ). lines_text xs ++ t) (append_assoc z (10 ∷ lines_text more) begin.rest)
    ∙ ap (λ (t : List ℕ). lines_text xs ++ (t ++ (10 ∷ (lines_text more ++ begin.rest)))) one.0
    ∙ sym (lines_text-more xs line (lines_text more ++ begin.rest)) in
    none (record { rest = lines_text more ++ begin.rest; is_text = subst IsOfKind whole begin.is_text })

not-earlier : (IsOfKind : List ℕ → Type 0) (text : List ℕ) (n m : ℕ) → (a : IsBadLine IsOfKind text n) → (b : IsBadLine IsOfKind text m) → length a.before < length b.before → ⊥
not-earlier IsOfKind text n m a b shorter =
    let cut = cut-lines a.before b.before a.rest b.rest a.are_lines b.are_lines (sym a.text_is ∙ b.text_is) (omega arith) in
    not-among IsOfKind a.before b.before a.rest b.rest cut.more cut.lines_are cut.rest_is shorter b.are_lines b.begin a.refused

-- two bad lines are the same
pub bad_line_unique : (IsOfKind : List ℕ → Type 0) (text : List ℕ) (n m : ℕ) → IsBadLine IsOfKind text n → IsBadLine IsOfKind text m → n ≡ m
bad_line_unique IsOfKind text n m a b = elim (leb_tells (suc (length a.before)) (length b.before)) [
  | inl p ↦ absurd (not-earlier IsOfKind text n m a b (omega (arith, p.1)))
  | inr p ↦ elim (leb_tells (suc (length b.before)) (length a.before)) [
    | inl q ↦ absurd (not-earlier IsOfKind text m n b a (omega (arith, q.1)))
    | inr q ↦ omega (arith, p.1, q.1, a.number, b.number)
  ]
]

-- ---- texts of predicates

pub one-line-is-bad : OneLineIsBad
one-line-is-bad program = bad_line_unique (IsTextOfPredicates program)

pub texts-have-no-bad-line : TextsHaveNoBadLine
texts-have-no-bad-line program = no_bad_line (IsTextOfPredicates program)
