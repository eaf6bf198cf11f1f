-- The text of an atom tells the atom.
use Rattle.std.proofs.Common.{◌≡◌, ◌≢◌, ◌==◌, ◌&&◌, ℕ, zero, suc, ◌+◌, ◌<◌, ◌≤◌, ℤ, pos, negsuc, Bool, true, false, List, [], ◌∷◌, ◌++◌, length, get_or, codes, unsigned_abs, refl, sym, ap, ap₂, subst, ◌∙◌, arith, append_assoc, inl, inr, ◌⊎◌}
use Rattle.std.specs.List.{AllByRecursion}
use Rattle.std.specs.Char.{IsAsciiDigit}
use Rattle.std.proofs.lemmas.Bool.Decides.{eqb_tells}
use Rattle.thr_base.specs.Number.{Fits, number_text, digits_number}
use Rattle.thr_base.proofs.Numbers.{IsTextOf-number_text}
use Rattle.lin_rows.proofs.Lists.{AllByRecursion-rest}
use Rattle.lin_rows.specs.Row.{Row}
use Rattle.lin_rows.proofs.Numbers.{Fits-unsigned_abs}
use Rattle.transition_formula.specs.Program.{Column}
use Rattle.transition_formula.specs.AtomText.{factor, joint, term_text, terms_text, column_texts, atom_width}
use Rattle.transition_formula.specs.TextLaws.{AtomTextsTellAtoms}
use Rattle.transition_formula.proofs.AtomTexts.{length-column_texts}
use Rattle.transition_formula.proofs.ColumnTexts.{column_texts-words, column_texts-apart}
use Rattle.transition_formula.specs.inside.AtomReading.{IsPlain, IsWord, HasNoMinus}
use Rattle.transition_formula.proofs.Words.{number_text-plain, factor-one, factor-more, no_stars}
use Rattle.transition_formula.proofs.Terms.{size-some, term_text-some, term_text-none, factored-no_blanks, factored-no_minus}

-- ---- texts that are cut at a mark

-- Texts that agree up to a mark, which is in neither front, have the same front and the same rest.
cut : (mark : ℕ) (xs a ys b : List ℕ) → AllByRecursion (λ c. c ≢ mark) xs → AllByRecursion (λ c. c ≢ mark) ys → xs ++ (mark ∷ a) ≡ ys ++ (mark ∷ b) → (xs ≡ ys) × (a ≡ b)
cut mark [] a [] b p q e = let same : a ≡ b = cc in (refl, same)
cut mark [] a (y ∷ ys) b p q e = let same : mark ≡ y = cc in absurd (q.0 (sym same))
cut mark (x ∷ xs) a [] b p q e = let same : x ≡ mark = cc in absurd (p.0 same)
cut mark (x ∷ xs) a (y ∷ ys) b p q e =
    let head : x ≡ y = cc in
    let tail : xs ++ (mark ∷ a) ≡ ys ++ (mark ∷ b) = cc in
    let rest = cut mark xs a ys b p.1 q.1 tail in
    (ap₂ (λ h t. h ∷ t) head rest.0, rest.1)

-- A text without a mark has no part with the mark in it.
no_mark : (mark : ℕ) (xs front rest : List ℕ) → AllByRecursion (λ c. c ≢ mark) xs → xs ≡ front ++ (mark ∷ rest) → ⊥
no_mark mark xs front rest none e =
    (AllByRecursion-rest (λ c. c ≢ mark) front (mark ∷ rest) (subst (AllByRecursion (λ c. c ≢ mark)) e none)).0 refl

-- ---- numbers

-- Natural numbers with the same text are the same.
number-same : (n m : ℕ) → Fits (pos n) → Fits (pos m) → number_text (pos n) ≡ number_text (pos m) → n ≡ m
number-same n m f g e = sym (IsTextOf-number_text (pos n) f).number ∙ ap digits_number e ∙ (IsTextOf-number_text (pos m) g).number

-- digits do not begin with a `-`
no-sign : (n m : ℕ) → Fits (pos n) → Fits (negsuc m) → number_text (pos n) ≡ number_text (negsuc m) → ⊥
no-sign n m f g e =
    let is = IsTextOf-number_text (pos n) f in
    let minus = IsTextOf-number_text (negsuc m) g in
    let first : IsAsciiDigit (get_or (number_text (pos n)) 0 0) = is.digits 0 is.some in
    let sign : get_or (number_text (pos n)) 0 0 ≡ 45 = ap (λ (t : List ℕ). get_or t 0 0) (e ∙ minus.1) in
    omega (arith, first, sign)

-- Numbers with the same text are the same.
bound-same : (b c : ℤ) → Fits b → Fits c → number_text b ≡ number_text c → b ≡ c
bound-same (pos n) (pos m) f g e = ap pos (number-same n m f g e)
bound-same (pos n) (negsuc m) f g e = absurd (no-sign n m f g e)
bound-same (negsuc n) (pos m) f g e = absurd (no-sign m n g f (sym e))
bound-same (negsuc n) (negsuc m) f g e =
    let one = IsTextOf-number_text (negsuc n) f in
    let other = IsTextOf-number_text (negsuc m) g in
    let both : 45 ∷ one.0 ≡ 45 ∷ other.0 = sym one.1 ∙ e ∙ other.1 in
    let digits : one.0 ≡ other.0 = cc in
    let number : suc n ≡ suc m = sym one.2.number ∙ ap digits_number digits ∙ other.2.number in
    let same : n ≡ m = omega arith in
    ap negsuc same

-- ---- words

-- A text with the factor 1 does not begin as one with another factor does.
star-first : (n m : ℕ) (x y : List ℕ) → n ≡ 1 → m ≢ 1 → IsWord x → factor n ++ x ≡ factor m ++ y → ⊥
star-first n m x y one more is e =
    no_mark 42 x (number_text (pos m)) y (no_stars x is.bytes)
    (sym (ap (λ (f : List ℕ). f ++ x) (factor-one n one)) ∙ e ∙ ap (λ (f : List ℕ). f ++ y) (factor-more m more) ∙ append_assoc (number_text (pos m)) (42 ∷ []) y)

-- Factors other than 1 that begin the same text are the same, and so is what follows.
stars-both : (n m : ℕ) (x y : List ℕ) → n ≢ 1 → m ≢ 1 → Fits (pos n) → Fits (pos m) → factor n ++ x ≡ factor m ++ y → (n ≡ m) × (x ≡ y)
stars-both n m x y more many f g e =
    let parts = cut 42 (number_text (pos n)) x (number_text (pos m)) y (no_stars (number_text (pos n)) (number_text-plain n f)) (no_stars (number_text (pos m)) (number_text-plain m g))
    (sym (ap (λ (t : List ℕ). t ++ x) (factor-more n more) ∙ append_assoc (number_text (pos n)) (42 ∷ []) x) ∙ e ∙ ap (λ (t : List ℕ). t ++ y) (factor-more m many) ∙ append_assoc (number_text (pos m)) (42 ∷ []) y) in
    (number-same n m f g parts.0, parts.1)

-- a number and a word are told by their text
words-same : (n m : ℕ) (x y : List ℕ) → Fits (pos n) → Fits (pos m) → IsWord x → IsWord y → factor n ++ x ≡ factor m ++ y → (n ≡ m) × (x ≡ y)
words-same n m x y f g is are e = elim (eqb_tells n 1) [
  | inl one ↦ elim (eqb_tells m 1) [
    | inl two ↦ (one.1 ∙ sym two.1, sym (ap (λ (t : List ℕ). t ++ x) (factor-one n one.1)) ∙ e ∙ ap (λ (t : List ℕ). t ++ y) (factor-one m two.1))
    | inr two ↦ absurd (star-first n m x y one.1 two.1 is e)
  ]
  | inr one ↦ elim (eqb_tells m 1) [
    | inl two ↦ absurd (star-first m n y x two.1 one.1 are (sym e))
    | inr two ↦ stars-both n m x y one.1 two.1 f g e
  ]
]

-- ---- signs

-- whether the number is 0 or more
size-sign : ℤ → Bool
size-sign (pos n) = true
size-sign (negsuc n) = false

-- Joints in front of the same text have the same sign, and the same follows.
joints-same : (first : Bool) (k l : ℤ) (x y : List ℕ) → HasNoMinus x → HasNoMinus y → joint first k ++ x ≡ joint first l ++ y → (size-sign k ≡ size-sign l) × (x ≡ y)
unfolding size-sign
joints-same true (pos n) (pos m) x y p q e = (refl, e)
joints-same true (pos n) (negsuc m) [] y p q e = cc
joints-same true (pos n) (negsuc m) (b ∷ x) y p q e = let same : b ≡ 45 = cc in absurd (p same)
joints-same true (negsuc n) (pos m) x [] p q e = cc
joints-same true (negsuc n) (pos m) x (b ∷ y) p q e = let same : 45 ≡ b = cc in absurd (q (sym same))
joints-same true (negsuc n) (negsuc m) x y p q e = let same : x ≡ y = cc in (refl, same)
joints-same false (pos n) (pos m) x y p q e = let same : x ≡ y = cc in (refl, same)
joints-same false (pos n) (negsuc m) x y p q e = absurd (omega (arith, ap (λ (t : List ℕ). get_or t 1 0) e))
joints-same false (negsuc n) (pos m) x y p q e = absurd (omega (arith, ap (λ (t : List ℕ). get_or t 1 0) e))
joints-same false (negsuc n) (negsuc m) x y p q e = let same : x ≡ y = cc in (refl, same)

-- Numbers of one sign and one absolute value are the same.
sizes-same : (k l : ℤ) → size-sign k ≡ size-sign l → unsigned_abs k ≡ unsigned_abs l → k ≡ l
unfolding size-sign
sizes-same (pos n) (pos m) s e = ap pos e
sizes-same (pos n) (negsuc m) s e = cc
sizes-same (negsuc n) (pos m) s e = cc
sizes-same (negsuc n) (negsuc m) s e = let same : n ≡ m = omega (arith, e) in ap negsuc same

-- ---- what stands behind a term

-- the terms with a bound behind them
abbrev ended : Bool → List ℤ → List (List ℕ) → List ℕ → List ℕ
ended first ks texts bound = terms_text first ks texts ++ (codes " <= " ++ bound)

-- A coefficient 0 adds nothing to the terms.
ended-none : (first : Bool) (k : ℤ) (ks : List ℤ) (text : List ℕ) (texts : List (List ℕ)) (bound : List ℕ) → k ≡ pos 0 → ended first (k ∷ ks) (text ∷ texts) bound ≡ ended first ks texts bound
ended-none first k ks text texts bound e = rw e (same first)
  where
    same : (b : Bool) → ended (b && true) ks texts bound ≡ ended b ks texts bound
    same true = refl
    same false = refl

-- Another coefficient adds its term.
ended-some : (first : Bool) (k : ℤ) (ks : List ℤ) (text : List ℕ) (texts : List (List ℕ)) (bound : List ℕ) → k ≢ pos 0
    → ended first (k ∷ ks) (text ∷ texts) bound ≡ joint first k ++ ((factor (unsigned_abs k) ++ text) ++ ended false ks texts bound)
ended-some first k ks text texts bound other =
    ap₂ (λ (t : List ℕ) (b : Bool). (t ++ terms_text b ks texts) ++ (codes " <= " ++ bound)) (term_text-some first k text other) (no_first first (unsigned_abs k) (size-some k other))
    ∙ append_assoc (joint first k ++ (factor (unsigned_abs k) ++ text)) (terms_text false ks texts) (codes " <= " ++ bound)
    ∙ append_assoc (joint first k) (factor (unsigned_abs k) ++ text) (terms_text false ks texts ++ (codes " <= " ++ bound))
  where
    no_first : (b : Bool) (n : ℕ) → n ≢ 0 → (b && (n == 0)) ≡ false
    no_first b n other = elim (eqb_tells n 0) [ inl p ↦ absurd (other p.1) | inr p ↦ rw p.0 (falses b) ]
      where
        falses : (b : Bool) → (b && false) ≡ false
        falses true = refl
        falses false = refl

-- A number is 0 or it is not.
zero-or-not : (k : ℤ) → (k ≡ pos 0) ⊎ (k ≢ pos 0)
zero-or-not (pos zero) = inl refl
zero-or-not (pos (suc n)) = inr (λ e. cc)
zero-or-not (negsuc n) = inr (λ e. cc)

-- a blank stands behind a term
blank-behind : (ks : List ℤ) (texts : List (List ℕ)) (bound : List ℕ) → (rest : List ℕ) × (ended false ks texts bound ≡ 32 ∷ rest)
blank-behind [] texts bound = (60 ∷ 61 ∷ 32 ∷ bound, refl)
blank-behind (k ∷ ks) [] bound = (60 ∷ 61 ∷ 32 ∷ bound, refl)
blank-behind (k ∷ ks) (text ∷ texts) bound = elim (zero-or-not k) [
  | inl none ↦ (let rest = blank-behind ks texts bound in (rest.0, ended-none false k ks text texts bound none ∙ rest.1))
  | inr some ↦ (let rest = joint-blank k ((factor (unsigned_abs k) ++ text) ++ ended false ks texts bound) in (rest.0, ended-some false k ks text texts bound some ∙ rest.1))
]
  where
    joint-blank : (k : ℤ) (x : List ℕ) → (rest : List ℕ) × (joint false k ++ x ≡ 32 ∷ rest)
    joint-blank (pos n) x = (43 ∷ 32 ∷ x, refl)
    joint-blank (negsuc n) x = (45 ∷ 32 ∷ x, refl)

-- ---- two terms of two columns

-- Both texts go on with a term, or end.
heads-same : (first : Bool) (k l : ℤ) (x y r s : List ℕ) → Fits k → Fits l → IsWord x → IsWord y
    → joint first k ++ ((factor (unsigned_abs k) ++ x) ++ (32 ∷ r)) ≡ joint first l ++ ((factor (unsigned_abs l) ++ y) ++ (32 ∷ s)) → (k ≡ l) × (x ≡ y) × (r ≡ s)
heads-same first k l x y r s f g is are e =
    let n = unsigned_abs k in
    let m = unsigned_abs l in
    let signs = joints-same first k l ((factor n ++ x) ++ (32 ∷ r)) ((factor m ++ y) ++ (32 ∷ s)) (factored-no_minus n x r (Fits-unsigned_abs k f) is) (factored-no_minus m y s (Fits-unsigned_abs l g) are) e in
    let parts = cut 32 (factor n ++ x) r (factor m ++ y) s (factored-no_blanks n x (Fits-unsigned_abs k f) is) (factored-no_blanks m y (Fits-unsigned_abs l g) are) signs.1 in
    let words = words-same n m x y (Fits-unsigned_abs k f) (Fits-unsigned_abs l g) is are parts.0 in
    (sizes-same k l signs.0 words.0, words.1, parts.1)

-- the end is no term
end-no_term : (first : Bool) (l : ℤ) (y b s : List ℕ) → Fits l → IsWord y → codes " <= " ++ b ≡ joint first l ++ ((factor (unsigned_abs l) ++ y) ++ (32 ∷ s)) → ⊥
end-no_term true (pos m) y b s g are e =
    let parts = cut 32 [] (codes "<= " ++ b) (factor m ++ y) s tt (factored-no_blanks m y g are) e in
    word-some m y are (sym parts.0)
  where
    word-some : (m : ℕ) (y : List ℕ) → IsWord y → factor m ++ y ≡ [] → ⊥
    word-some m [] are e = absurd (omega (arith, are.some))
    word-some m (c ∷ y) are e = none (factor m) c y e
      where
        none : (f : List ℕ) (c : ℕ) (y : List ℕ) → f ++ (c ∷ y) ≡ [] → ⊥
        none [] c y e = cc
        none (d ∷ f) c y e = cc
end-no_term true (negsuc m) y b s g are e = absurd (omega (arith, ap (λ (t : List ℕ). get_or t 0 0) e))
end-no_term false (pos m) y b s g are e = absurd (omega (arith, ap (λ (t : List ℕ). get_or t 1 0) e))
end-no_term false (negsuc m) y b s g are e = absurd (omega (arith, ap (λ (t : List ℕ). get_or t 1 0) e))

-- terms of other columns are no term of this one
other-no_term : (first : Bool) (ks : List ℤ) (texts : List (List ℕ)) (b : List ℕ) (l : ℤ) (y s : List ℕ) → AllByRecursion Fits ks → AllByRecursion IsWord texts → AllByRecursion (λ x. x ≢ y) texts → Fits l → IsWord y
    → ended first ks texts b ≡ joint first l ++ ((factor (unsigned_abs l) ++ y) ++ (32 ∷ s)) → ⊥
other-no_term first [] texts b l y s fs ws apart g are e = end-no_term first l y b s g are e
other-no_term first (k ∷ ks) [] b l y s fs ws apart g are e = end-no_term first l y b s g are e
other-no_term first (k ∷ ks) (x ∷ texts) b l y s fs ws apart g are e = elim (zero-or-not k) [
  | inl none ↦ other-no_term first ks texts b l y s fs.1 ws.1 apart.1 g are (sym (ended-none first k ks x texts b none) ∙ e)
  | inr some ↦ (
      let behind = blank-behind ks texts b in
      let whole = sym (ended-some first k ks x texts b some ∙ ap (λ t. joint first k ++ ((factor (unsigned_abs k) ++ x) ++ t)) behind.1) ∙ e in
      apart.0 (heads-same first k l x y behind.0 s fs.0 g ws.0 are whole).1
      )
]

-- ---- all terms

-- each text is none of the later ones
abbrev pub Apart : List (List ℕ) → Type 0
Apart [] = Unit {0}
Apart (x ∷ xs) = AllByRecursion (λ y. y ≢ x) xs × Apart xs

-- Terms with the same text over texts that differ have the same coefficients and the same bound.
pub terms-same : (first : Bool) (ks ls : List ℤ) (texts : List (List ℕ)) (b c : List ℕ) → length ks ≡ length ls → length ks ≤ length texts → AllByRecursion Fits ks → AllByRecursion Fits ls
    → AllByRecursion IsWord texts → Apart texts → ended first ks texts b ≡ ended first ls texts c → (ks ≡ ls) × (b ≡ c)
terms-same first [] [] texts b c same within fs gs ws apart e = let bounds : b ≡ c = cc in (refl, bounds)
terms-same first [] (l ∷ ls) texts b c same within fs gs ws apart e = absurd (omega arith)
terms-same first (k ∷ ks) [] texts b c same within fs gs ws apart e = absurd (omega arith)
terms-same first (k ∷ ks) (l ∷ ls) [] b c same within fs gs ws apart e = absurd (omega arith)
terms-same first (k ∷ ks) (l ∷ ls) (x ∷ texts) b c same within fs gs ws apart e = elim (zero-or-not k) [
  | inl none ↦ elim (zero-or-not l) [
    | inl nothing ↦ (
        let rest = terms-same first ks ls texts b c (omega arith) (omega arith) fs.1 gs.1 ws.1 apart.1 (sym (ended-none first k ks x texts b none) ∙ e ∙ ended-none first l ls x texts c nothing) in
        (ap₂ (λ h t. h ∷ t) (none ∙ sym nothing) rest.0, rest.1)
        )
    | inr some ↦ (
        let behind = blank-behind ls texts c in
        absurd (other-no_term first ks texts b l x behind.0 fs.1 ws.1 apart.0 gs.0 ws.0
        (sym (ended-none first k ks x texts b none) ∙ e ∙ ended-some first l ls x texts c some ∙ ap (λ t. joint first l ++ ((factor (unsigned_abs l) ++ x) ++ t)) behind.1))
        )
  ]
  | inr some ↦ elim (zero-or-not l) [
    | inl nothing ↦ (
        let behind = blank-behind ks texts b in
        absurd (other-no_term first ls texts c k x behind.0 gs.1 ws.1 apart.0 fs.0 ws.0
        (sym (ended-none first l ls x texts c nothing) ∙ sym e ∙ ended-some first k ks x texts b some ∙ ap (λ t. joint first k ++ ((factor (unsigned_abs k) ++ x) ++ t)) behind.1))
        )
    | inr other ↦ (
        let one = blank-behind ks texts b in
        let two = blank-behind ls texts c in
        let heads = heads-same first k l x x one.0 two.0 fs.0 gs.0 ws.0 ws.0
        (sym (ended-some first k ks x texts b some ∙ ap (λ t. joint first k ++ ((factor (unsigned_abs k) ++ x) ++ t)) one.1) ∙ e
        ∙ ended-some first l ls x texts c other ∙ ap (λ t. joint first l ++ ((factor (unsigned_abs l) ++ x) ++ t)) two.1) in
        let rest = terms-same false ks ls texts b c (omega arith) (omega arith) fs.1 gs.1 ws.1 apart.1 (one.1 ∙ ap (λ t. 32 ∷ t) heads.2 ∙ sym two.1) in
        (ap₂ (λ h t. h ∷ t) heads.0 rest.0, rest.1)
        )
  ]
]

-- ---- atoms

-- What holds at each place holds of each text.
each-at : (P : List ℕ → Type 0) (xs : List (List ℕ)) → ((j : ℕ) → j < length xs → P (get_or xs j [])) → AllByRecursion P xs
each-at P [] each = tt
each-at P (x ∷ xs) each = (each 0 (omega arith), each-at P xs (λ j h. each (suc j) (omega arith)))

-- Texts that differ at any two places differ in pairs.
apart-from : (xs : List (List ℕ)) → ((i j : ℕ) → i < j → j < length xs → get_or xs j [] ≢ get_or xs i []) → Apart xs
apart-from [] each = tt
apart-from (x ∷ xs) each = (
  each-at (λ y. y ≢ x) xs (λ j h. each 0 (suc j) (omega arith) (omega arith)),
  apart-from xs (λ i j below within. each (suc i) (suc j) (omega arith) (omega arith)),
)

-- An atom has no more columns than there are texts.
width-within : (columns : List Column) (env : Bool) → atom_width columns env ≤ length (column_texts columns)
width-within columns true = omega (arith, length-column_texts columns)
width-within columns false = omega (arith, length-column_texts columns)

-- Inequalities with the same parts are the same.
row-same : (a b : Row) → a.equal ≡ false → b.equal ≡ false → a.coefficients ≡ b.coefficients → a.bound ≡ b.bound → a ≡ b
row-same a b p q e f = λ i. record { equal = (p ∙ sym q) i; coefficients = e i; bound = f i }

-- Atoms with the same text are the same.
pub atoms-told : AtomTextsTellAtoms
atoms-told program env one other text is first second =
    let texts = column_texts program.columns in
    let apart = apart-from texts (λ i j below within. column_texts-apart program is i j below (omega (arith, within, length-column_texts program.columns))) in
    let parts = terms-same true one.coefficients other.coefficients texts (number_text one.bound) (number_text other.bound) (first.width ∙ sym second.width)
    (omega (arith, first.width, width-within program.columns env)) first.atom_is.fits.coefficients second.atom_is.fits.coefficients (column_texts-words program is) apart (sym first.text_is ∙ second.text_is) in
    row-same one other first.atom_is.no_equality second.atom_is.no_equality parts.0 (bound-same one.bound other.bound first.atom_is.fits.bound second.atom_is.fits.bound parts.1)
