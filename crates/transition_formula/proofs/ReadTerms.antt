-- The terms of an atom are read column by column.
use Rattle.std.proofs.Common.{◌≡◌, ◌≢◌, ◌==◌, ◌&&◌, ℕ, suc, ◌+◌, ◌<◌, ◌≤◌, ℤ, pos, negsuc, unsigned_abs, Bool, true, false, List, [], ◌∷◌, ◌++◌, length, take, drop, get_or, codes, refl, sym, ap, ◌∙◌, arith, append_assoc, inl, inr, ◌⊎◌, length-append}
use Rattle.std.specs.List.{AllByRecursion}
use Rattle.std.proofs.Math.Seq.{drop-append_seam, drop-length, take-length}
use Rattle.std.proofs.lemmas.Bool.Decides.{eqb_tells}
use Rattle.std.proofs.lemmas.List.{take_more, get_or-drop, drop-drop}
use Rattle.std.proofs.Common.{length-drop}
use Rattle.thr_base.specs.Number.{Fits}
use Rattle.lin_rows.proofs.Lists.{AllByRecursion-append, AllByRecursion-at}
use Rattle.transition_formula.specs.AtomText.{joint, factor, term_text, terms_text}
use Rattle.transition_formula.specs.inside.AtomReading.{IsWord, HasTerms}
use Rattle.transition_formula.proofs.AtomTexts.{terms_text-drop}
use Rattle.lin_rows.proofs.Lists.{AllByRecursion-drop}
use Rattle.transition_formula.proofs.Terms.{term_text-some, term_text-none}

-- an integer is 0 or not
zero_or_not : (k : ℤ) → (k ≡ pos 0) ⊎ (k ≢ pos 0)
zero_or_not (pos n) = elim (eqb_tells n 0) [ inl p ↦ inl (ap pos p.1) | inr p ↦ inr (λ e. p.1 (ap unsigned_abs e)) ]
zero_or_not (negsuc n) = inr (λ e. cc)

-- After a column with no term the first one is still to come.
after_none : (first : Bool) (k : ℤ) → k ≡ pos 0 → (first && (unsigned_abs k == 0)) ≡ first
after_none true k e = rw e refl
after_none false k e = refl

-- After a column with a term the first one is past.
after_some : (first : Bool) (k : ℤ) → k ≢ pos 0 → (first && (unsigned_abs k == 0)) ≡ false
after_some true k other = elim (eqb_tells (unsigned_abs k) 0) [ inl p ↦ absurd (size k other p.1) | inr p ↦ p.0 ]
  where
    size : (k : ℤ) → k ≢ pos 0 → unsigned_abs k ≢ 0
    size (pos n) other e = other (ap pos e)
    size (negsuc n) other e = cc
after_some false k other = refl

-- what follows a term that is not the last
later_joint-blank : (k : ℤ) (xs : List ℕ) → (rest : List ℕ) × (joint false k ++ xs ≡ 32 ∷ rest)
later_joint-blank (pos n) xs = (_, refl)
later_joint-blank (negsuc n) xs = (_, refl)

-- Behind a first term comes a blank.
pub later-blank : (ks : List ℤ) (texts : List (List ℕ)) (bound : List ℕ) → (rest : List ℕ) × (terms_text false ks texts ++ (codes " <= " ++ bound) ≡ 32 ∷ rest)
later-blank [] texts bound = (_, refl)
later-blank (k ∷ ks) [] bound = (_, refl)
later-blank (k ∷ ks) (text ∷ texts) bound = elim (zero_or_not k) [
  | inl p ↦
      (let rest = later-blank ks texts bound in
      (rest.0, rw (term_text-none false k text p) rest.1))
  | inr p ↦
      (let rest = later_joint-blank k ((factor (unsigned_abs k) ++ text) ++ (terms_text false ks texts ++ (codes " <= " ++ bound))) in
      (rest.0, rw (term_text-some false k text p, append_assoc, append_assoc) rest.1))
]

-- What comes: the bound, or a term of a column of these.
pub data Next (first : Bool) (P : List ℕ → Type 0) (bound text : List ℕ) : Type 0 where
  AtBound : text ≡ codes " <= " ++ bound → Next first P bound text
  AtTerm : (k : ℤ) (name rest : List ℕ) → k ≢ pos 0 → Fits k → P name → text ≡ term_text first k name ++ (32 ∷ rest) → Next first P bound text

-- Where the next term is this column's, it comes next.
next-term : (first : Bool) (P : List ℕ → Type 0) (k : ℤ) (ks : List ℤ) (name : List ℕ) (texts : List (List ℕ)) (bound : List ℕ) → k ≢ pos 0 → Fits k → P name
    → Next first P bound (terms_text first (k ∷ ks) (name ∷ texts) ++ (codes " <= " ++ bound))
next-term first P k ks name texts bound other fits p =
    let rest = later-blank ks texts bound in
    AtTerm k name rest.0 other fits p (rw (after_some first k other, append_assoc, rest.1) refl)

-- Where this column has no term, what comes next is that of the columns behind.
next-none : (first : Bool) (P : List ℕ → Type 0) (k : ℤ) (ks : List ℤ) (name : List ℕ) (texts : List (List ℕ)) (bound : List ℕ) → k ≡ pos 0
    → Next first P bound (terms_text first ks texts ++ (codes " <= " ++ bound)) → Next first P bound (terms_text first (k ∷ ks) (name ∷ texts) ++ (codes " <= " ++ bound))
next-none first P k ks name texts bound e next = rw (term_text-none first k name e, after_none first k e) next

-- Some term of the columns comes next, or the bound.
pub next-of : (first : Bool) (P : List ℕ → Type 0) (ks : List ℤ) (texts : List (List ℕ)) (bound : List ℕ) → AllByRecursion Fits ks → AllByRecursion P texts
    → Next first P bound (terms_text first ks texts ++ (codes " <= " ++ bound))
next-of first P [] texts bound fit all = AtBound refl
next-of first P (k ∷ ks) [] bound fit all = AtBound refl
next-of first P (k ∷ ks) (name ∷ texts) bound fit all = elim (zero_or_not k) [
  | inl p ↦ next-none first P k ks name texts bound p (next-of first P ks texts bound fit.1 all.1)
  | inr p ↦ next-term first P k ks name texts bound p fit.0 all.0
]

-- What the reader of a term says of a text.
pub record ReadsTerm (first : Bool) (name text : List ℕ) (k : ℤ) (len : ℕ) : Type 0 where
  pub read : (z : ℤ) (rest : List ℕ) → z ≢ pos 0 → Fits z → text ≡ term_text first z name ++ (32 ∷ rest) → (k ≡ z) × (len ≡ length (term_text first z name))
  pub other : (z : ℤ) (other rest : List ℕ) → z ≢ pos 0 → Fits z → IsWord other → other ≢ name → text ≡ term_text first z other ++ (32 ∷ rest) → (k ≡ pos 0) × (len ≡ 0)
  pub end : (rest : List ℕ) → text ≡ codes " <= " ++ rest → (k ≡ pos 0) × (len ≡ 0)

-- a word that is not this one
pub record IsOther (name other : List ℕ) : Type 0 where
  pub word : IsWord other
  pub differs : other ≢ name

-- Where the next term is of another column, this one has none.
reads-next : (first : Bool) (name bound text : List ℕ) (k : ℤ) (len : ℕ) → ReadsTerm first name text k len → Next first (IsOther name) bound text → (k ≡ pos 0) × (len ≡ 0)
reads-next first name bound text k len reads (AtBound is) = reads.end bound is
reads-next first name bound text k len reads (AtTerm z other rest some fits p is) = reads.other z other rest some fits p.word p.differs is

-- the coefficient that is read is the one that is written
reads-first : (first : Bool) (name bound text : List ℕ) (k z : ℤ) (len : ℕ) (ks : List ℤ) (texts : List (List ℕ))
    → ReadsTerm first name text k len → Fits z → AllByRecursion Fits ks → AllByRecursion (IsOther name) texts
    → text ≡ term_text first z name ++ (terms_text (first && (unsigned_abs z == 0)) ks texts ++ (codes " <= " ++ bound))
    → (k ≡ z) × (len ≡ length (term_text first z name))
reads-first first name bound text k z len ks texts reads z_fits fit others is = elim (zero_or_not z) [
  | inl p ↦
      (let none = term_text-none first z name p in
      let rest : text ≡ terms_text first ks texts ++ (codes " <= " ++ bound) = rw (none, after_none first z p) at is in
      let found = reads-next first name bound text k len reads (rw rest (next-of first (IsOther name) ks texts bound fit others)) in
      (found.0 ∙ sym p, found.1 ∙ sym (ap length none)))
  | inr p ↦
      (let blank = later-blank ks texts bound in
      let rest : text ≡ term_text first z name ++ (32 ∷ blank.0) = rw (after_some first z p, blank.1) at is in
      reads.read z blank.0 p z_fits rest)
]

-- What is read of the first columns: the text goes on with the terms of the others.
pub record ReadSoFar (texts : List (List ℕ)) (width : ℕ) (text : List ℕ) (column place : ℕ) (first : Bool) (read : List ℤ) : Type 0 where
  pub within : place ≤ length text
  pub count : length read ≡ column
  pub fit : AllByRecursion Fits read
  pub follows : (ks : List ℤ) (bound : List ℕ) → AllByRecursion Fits ks → length ks ≡ width → HasTerms true ks texts bound text
      → (read ≡ take column ks) × HasTerms first (drop column ks) (drop column texts) bound (drop place text)

-- One column read goes on with the coefficients of the atom, where it is one.
follows-next : (texts : List (List ℕ)) (width : ℕ) (text : List ℕ) (column place : ℕ) (first : Bool) (read : List ℤ) (name : List ℕ) (k : ℤ) (len : ℕ)
    → ReadSoFar texts width text column place first read → column < width → width ≤ length texts
    → get_or texts column [] ≡ name → AllByRecursion (IsOther name) (drop (column + 1) texts)
    → ReadsTerm first name (drop place text) k len
    → (ks : List ℤ) (bound : List ℕ) → AllByRecursion Fits ks → length ks ≡ width → HasTerms true ks texts bound text
    → (read ++ (k ∷ []) ≡ take (column + 1) ks) × HasTerms (first && (unsigned_abs k == 0)) (drop (column + 1) ks) (drop (column + 1) texts) bound (drop (place + len) text)
follows-next texts width text column place first read name k len so_far below few name-is others reads ks bound fit count has =
    let before = so_far.follows ks bound fit count has in
    let z = get_or ks column (pos 0) in
    let tail = terms_text (first && (unsigned_abs z == 0)) (drop (column + 1) ks) (drop (column + 1) texts) ++ (codes " <= " ++ bound) in
    let in_ks : column < length ks = omega arith in
    let in_texts : column < length texts = omega arith in
    let step : terms_text first (drop column ks) (drop column texts) ≡ term_text first z name ++ terms_text (first && (unsigned_abs z == 0)) (drop (column + 1) ks) (drop (column + 1) texts) = rw name-is at (terms_text-drop first ks texts column (pos 0) in_ks in_texts) in
    let here : drop place text ≡ term_text first z name ++ tail = before.1.text_is ∙ ap (λ (t : List ℕ). t ++ (codes " <= " ++ bound)) step ∙ append_assoc (term_text first z name) _ _ in
    let found = reads-first first name bound (drop place text) k z len (drop (column + 1) ks) (drop (column + 1) texts) reads (AllByRecursion-at Fits ks column (pos 0) fit in_ks) (AllByRecursion-drop Fits (column + 1) ks fit) others here in
    let grown : read ++ (k ∷ []) ≡ take (column + 1) ks = rw (before.0, found.0) (sym (take_more ks column (pos 0) in_ks)) in
    let rest : drop (place + len) text ≡ tail = sym (drop-drop len place text) ∙ rw (here, found.1) (drop-append_seam (term_text first z name) tail) in
    (grown, record { text_is = rw found.0 rest })

-- With one more column read, the coefficients so far are those of any atom of this text.
pub so_far-next : (texts : List (List ℕ)) (width : ℕ) (text : List ℕ) (column place : ℕ) (first : Bool) (read : List ℤ) (name : List ℕ) (k : ℤ) (len : ℕ)
    → ReadSoFar texts width text column place first read → column < width → width ≤ length texts
    → get_or texts column [] ≡ name → AllByRecursion (IsOther name) (drop (column + 1) texts)
    → ReadsTerm first name (drop place text) k len → Fits k → len ≤ length (drop place text)
    → ReadSoFar texts width text (column + 1) (place + len) (first && (unsigned_abs k == 0)) (read ++ (k ∷ []))
so_far-next texts width text column place first read name k len so_far below few name-is others reads fits short = record {
  within = omega (arith, so_far.within, length-drop place text);
  count = omega (arith, length-append read (k ∷ []), so_far.count);
  fit = AllByRecursion-append Fits read (k ∷ []) so_far.fit (fits, tt);
  follows = follows-next texts width text column place first read name k len so_far below few name-is others reads;
}

-- the later texts are others
pub others-of : (texts : List (List ℕ)) (i : ℕ) → AllByRecursion IsWord texts → i < length texts
    → ((j : ℕ) → i < j → j < length texts → get_or texts j [] ≢ get_or texts i [])
    → AllByRecursion (IsOther (get_or texts i [])) (drop (i + 1) texts)
others-of texts i words within apart = each-at (IsOther (get_or texts i [])) (drop (i + 1) texts) (λ k below.
    let there : i + 1 + k < length texts = omega (arith, length-drop (i + 1) texts) in
    rw (get_or-drop (i + 1) texts k []) (record { word = AllByRecursion-at IsWord texts (i + 1 + k) [] words there; differs = apart (i + 1 + k) (omega arith) there }))
  where
    each-at : (P : List ℕ → Type 0) (xs : List (List ℕ)) → ((k : ℕ) → k < length xs → P (get_or xs k [])) → AllByRecursion P xs
    each-at P [] gives = tt
    each-at P (x ∷ xs) gives = (gives 0 (omega arith), each-at P xs (λ k below. gives (suc k) (omega arith)))

-- all columns are read
pub all-read : (texts : List (List ℕ)) (width : ℕ) (text : List ℕ) (column place : ℕ) (first : Bool) (read : List ℤ)
    → ReadSoFar texts width text column place first read → column ≡ width
    → (ks : List ℤ) (bound : List ℕ) → AllByRecursion Fits ks → length ks ≡ width → HasTerms true ks texts bound text
    → (read ≡ ks) × (drop place text ≡ codes " <= " ++ bound)
all-read texts width text column place first read so_far done ks bound fit count has =
    let found = so_far.follows ks bound fit count has in
    let whole : column ≡ length ks = omega arith in
    let none : drop column ks ≡ [] = rw whole (drop-length ks) in
    (found.0 ∙ rw whole (take-length ks), rw none at found.1.text_is)
