-- Each token is one of its kind, and the longest that stands there.
use Rattle.std.proofs.Common.{◌≡◌, ℕ, zero, suc, ◌+◌, ◌≤◌, Bool, true, false, ◌&&◌, ◌||◌, not, eqb, List, [], ◌∷◌, ◌++◌, length, drop, take, get_or, Option, Some, None, Result, Ok, Err, refl, sym, ap, subst, ◌∙◌, inl, inr, arith, length-drop}
use Rattle.std.specs.Prelude.{codes, nat_eq, slice_index}
use Rattle.std.specs.Char.{is_ascii_digit}
use Rattle.std.specs.List.{prefix_len, list_all, starts_with, AllByRecursion}
use Rattle.std.proofs.lemmas.Bool.{cases_Bool, cases_lt, false≢true}
use Rattle.std.proofs.lemmas.List.{length-take-le, drop-drop, get_or-drop, get_or_past}
use Rattle.std.proofs.lemmas.List.Sums.{prefix_len_stops}
use Rattle.std.proofs.Math.Numerals.{one-add}
use Rattle.c_lex.specs.declared.token.Kind.{Kind}
use Rattle.c_lex.specs.declared.token.Kind.TheVariants.{Word, Number, Mark, Foreign}
use Rattle.c_lex.specs.declared.piece.Piece.{Piece}
use Rattle.c_lex.specs.Bytes.{is_separator, is_letter, is_word_byte, is_mark, is_double_mark, is_foreign}
use Rattle.c_lex.specs.Piece.{skipped, token_of, through_close, goes_on_include, comment_of, is_number_text, number_of, mark_of, piece_of}
use Rattle.c_lex.specs.Tokens.{Lexeme, is_fresh_after, lexemes_of, tokens_from, IsToken}
use Rattle.c_lex.proofs.Numbers.{digits_front}
use Rattle.c_lex.proofs.Cuts.{Cuts, piece_cuts, chosen, both, letter_word, double_second}
use Rattle.c_lex.proofs.Steps.{step, refusal_step, nothing_left}
use Rattle.c_lex.proofs.Places.{others_of, none_of, failed}

-- a piece that is a token is one of its kind
abbrev pub IsTokenPiece : List ℕ → Piece → Type 0
IsTokenPiece bs p = (kind : Kind) → p.kind ≡ Some kind → IsToken kind (take p.len bs) (get_or bs p.len 0)

no_token : (n : ℕ) (bs : List ℕ) (p : Piece) → skipped n ≡ Ok p → IsTokenPiece bs p
no_token n bs p e = λ kind is. absurd (none kind (ap (λ (q : Piece). q.kind) made ∙ is))
  where
    made : record { kind = None; len = n } ≡ p
    made = cc

    none : (kind : Kind) → ◌≡◌ {A = Option Kind} None (Some kind) → ⊥
    none kind h = cc

one_token : (kind : Kind) (n : ℕ) (bs : List ℕ) (p : Piece) → token_of kind n ≡ Ok p → IsToken kind (take n bs) (get_or bs n 0) → IsTokenPiece bs p
one_token kind n bs p e holds = subst (IsTokenPiece bs) made (λ other is. subst (λ (k : Kind). IsToken k (take n bs) (get_or bs n 0)) (same other is) holds)
  where
    made : record { kind = Some kind; len = n } ≡ p
    made = cc

    same : (other : Kind) → ◌≡◌ {A = Option Kind} (Some kind) (Some other) → kind ≡ other
    same other h = cc

no_comment : (place : Option ℕ) (bs : List ℕ) (p : Piece) → comment_of place ≡ Ok p → IsTokenPiece bs p
no_comment None bs p e = absurd cc
no_comment (Some n) bs p e = no_token (2 + n) bs p e

-- ---- words

front_passes : (p : ℕ → Bool) (bs : List ℕ) → list_all p (take (prefix_len p bs) bs) ≡ true
front_passes p [] = refl
front_passes p (b ∷ bs) =
    elim (cases_Bool (p b)) [
      | inl passes ↦ rw (passes, one-add (prefix_len p bs)) (rw passes (front_passes p bs))
      | inr stops ↦ rw stops refl
    ]

-- the byte behind a run does not pass, nor does the end
run_ends : (p : ℕ → Bool) (bs : List ℕ) → p 0 ≡ false → p (get_or bs (prefix_len p bs) 0) ≡ false
run_ends p bs at_end =
    elim (cases_lt (prefix_len p bs) (length bs)) [
      | inl lt ↦ prefix_len_stops p bs 0 lt
      | inr le ↦ ap p (get_or_past bs (prefix_len p bs) 0 le) ∙ at_end
    ]

word_token : (b : ℕ) (bs : List ℕ) → is_letter b ≡ true → IsToken Word (take (prefix_len is_word_byte (b ∷ bs)) (b ∷ bs)) (get_or (b ∷ bs) (prefix_len is_word_byte (b ∷ bs)) 0)
word_token b bs letter = (first, front_passes is_word_byte (b ∷ bs), run_ends is_word_byte (b ∷ bs) refl)
  where
    first : is_letter (get_or (take (prefix_len is_word_byte (b ∷ bs)) (b ∷ bs)) 0 0) ≡ true
    first = rw (letter_word b letter, one-add (prefix_len is_word_byte bs)) letter

neither : (a b : Bool) → not a ≡ true → b ≡ false → (a || b) ≡ false
neither true b no_a no_b = absurd (false≢true no_a)
neither false b no_a no_b = no_b

number_token : (b : ℕ) (bs : List ℕ) (p : Piece) → number_of (b ∷ bs) ≡ Ok p → IsTokenPiece (b ∷ bs) p
number_token b bs p e =
    let n = prefix_len is_ascii_digit (b ∷ bs) in
    elim (chosen (is_number_text (take n (b ∷ bs)) && not (is_letter (slice_index (b ∷ bs) n))) _ _ (Ok p) e) [
      | inl h ↦ (let parts = both (is_number_text (take n (b ∷ bs))) (not (is_letter (slice_index (b ∷ bs) n))) h.0 in
          one_token Number n (b ∷ bs) p h.1 (digits_front (b ∷ bs), parts.0, no_word (get_or (b ∷ bs) n 0) parts.1 (run_ends is_ascii_digit (b ∷ bs) refl)))
      | inr h ↦ absurd (cc h.1)
    ]
  where
    no_word : (x : ℕ) → not (is_letter x) ≡ true → is_ascii_digit x ≡ false → is_word_byte x ≡ false
    no_word x letter digit = neither (is_letter x) (is_ascii_digit x) letter digit

mark_token : (b : ℕ) (bs : List ℕ) (p : Piece) → mark_of (b ∷ bs) ≡ Ok p → IsTokenPiece (b ∷ bs) p
mark_token b bs p e =
    elim (chosen (is_double_mark b (get_or bs 0 0)) _ _ (Ok p) e) [
      | inl h ↦ one_token Mark 2 (b ∷ bs) p h.1 (two bs h.0)
      | inr h ↦ elim (chosen (is_mark b) _ _ (Ok p) h.1) [
        | inl k ↦ one_token Mark 1 (b ∷ bs) p k.1 (k.0, h.0)
        | inr k ↦ elim (chosen (is_foreign b) _ _ (Ok p) k.1) [
          | inl m ↦ one_token Foreign 1 (b ∷ bs) p m.1 (refl, m.0)
          | inr m ↦ absurd (cc m.1)
        ]
      ]
    ]
  where
    two : (bs : List ℕ) → is_double_mark b (get_or bs 0 0) ≡ true → IsToken Mark (take 2 (b ∷ bs)) (get_or (b ∷ bs) 2 0)
    two [] h = absurd (omega (arith, (double_second b 0 h).0))
    two (c ∷ bs) h = (h, refl)

piece_token : (fresh : Bool) (b : ℕ) (bs : List ℕ) (p : Piece) → piece_of fresh (b ∷ bs) ≡ Ok p → IsTokenPiece (b ∷ bs) p
unfolding piece_of
piece_token fresh b bs p e =
    elim (chosen (is_separator b) _ _ (Ok p) e) [
      | inl h ↦ no_token 1 (b ∷ bs) p h.1
      | inr h ↦ elim (chosen (starts_with nat_eq (b ∷ bs) (codes "//")) _ _ (Ok p) h.1) [
        | inl k ↦ no_token _ (b ∷ bs) p k.1
        | inr k ↦ elim (chosen (starts_with nat_eq (b ∷ bs) (codes "/*")) _ _ (Ok p) k.1) [
          | inl m ↦ no_comment (through_close (drop 2 (b ∷ bs))) (b ∷ bs) p m.1
          | inr m ↦ elim (chosen (fresh && eqb b 35 && goes_on_include bs) _ _ (Ok p) m.1) [
            | inl q ↦ no_token _ (b ∷ bs) p q.1
            | inr q ↦ elim (chosen (is_letter b) _ _ (Ok p) q.1) [
              | inl r ↦ one_token Word _ (b ∷ bs) p r.1 (word_token b bs r.0)
              | inr r ↦ elim (chosen (is_ascii_digit b) _ _ (Ok p) r.1) [
                | inl s ↦ number_token b bs p s.1
                | inr s ↦ mark_token b bs p s.1
              ]
            ]
          ]
        ]
      ]
    ]

-- ---- all tokens

abbrev IsTokenOf : List ℕ → Lexeme → Type 0
IsTokenOf text t = IsToken t.kind t.bytes (get_or text (t.from + length t.bytes) 0)

tokens_more : (text rest : List ℕ) (from : ℕ) (p : Piece) (others : List Lexeme) → drop from text ≡ rest → p.len ≤ length rest → IsTokenPiece rest p → AllByRecursion (IsTokenOf text) others
    → AllByRecursion (IsTokenOf text) (lexemes_of p.kind (take p.len rest) from ++ others)
tokens_more text rest from p others here within is_token all = go p.kind refl
  where
    next : get_or rest p.len 0 ≡ get_or text (from + length (take p.len rest)) 0
    next = ap (λ (bs : List ℕ). get_or bs p.len 0) (sym here) ∙ get_or-drop from text p.len 0 ∙ ap (λ (k : ℕ). get_or text (from + k) 0) (sym (length-take-le p.len rest within))

    go : (kind : Option Kind) → p.kind ≡ kind → AllByRecursion (IsTokenOf text) (lexemes_of kind (take p.len rest) from ++ others)
    go None is = all
    go (Some kind) is = (subst (IsToken kind (take p.len rest)) next (is_token kind is), all)

-- what stands behind a piece
After : ℕ → ℕ → Bool → List ℕ → ℕ → List ℕ → Type 0
After n from fresh text b bs =
    (p : Piece) (others : List Lexeme) → Cuts (b ∷ bs) p.len → drop (from + p.len) text ≡ drop p.len (b ∷ bs) → tokens_from n (from + p.len) (is_fresh_after fresh b) (drop p.len (b ∷ bs)) ≡ Ok others
    → AllByRecursion (IsTokenOf text) others

tokens_at : (n from : ℕ) (fresh : Bool) (text : List ℕ) (b : ℕ) (bs : List ℕ) (ts : List Lexeme) (r : Result Piece ℕ) → piece_of fresh (b ∷ bs) ≡ r → drop from text ≡ b ∷ bs → tokens_from (suc n) from fresh (b ∷ bs) ≡ Ok ts
    → After n from fresh text b bs → AllByRecursion (IsTokenOf text) ts
unfolding After
tokens_at n from fresh text b bs ts (Ok p) is here e behind =
    let cuts = piece_cuts fresh b bs p is in
    let o = others_of (lexemes_of p.kind (take p.len (b ∷ bs)) from) ts _ (sym (step n from fresh b bs p is) ∙ e) in
    let after : drop (from + p.len) text ≡ drop p.len (b ∷ bs) = sym (drop-drop p.len from text) ∙ ap (drop p.len) here in
    subst (AllByRecursion (IsTokenOf text)) (sym o.2) (tokens_more text (b ∷ bs) from p o.0 here cuts.within (piece_token fresh b bs p is) (behind p o.0 cuts after o.1))
tokens_at n from fresh text b bs ts (Err code) is here e behind = absurd (failed _ ts (sym (refusal_step n from fresh b bs code is) ∙ e))

pub tokens_from_longest : (n from : ℕ) (fresh : Bool) (text rest : List ℕ) (ts : List Lexeme) → drop from text ≡ rest → length rest ≤ n → tokens_from n from fresh rest ≡ Ok ts → AllByRecursion (IsTokenOf text) ts
unfolding tokens_from After
tokens_from_longest n from fresh text [] ts here le e = subst (AllByRecursion (IsTokenOf text)) (sym (none_of ts (sym (nothing_left n from fresh) ∙ e))) tt
tokens_from_longest zero from fresh text (b ∷ bs) ts here le e = absurd (omega arith)
tokens_from_longest (suc n) from fresh text (b ∷ bs) ts here le e =
    tokens_at n from fresh text b bs ts (piece_of fresh (b ∷ bs)) refl here e
    (λ p others cuts after is. let some = cuts.some in tokens_from_longest n (from + p.len) (is_fresh_after fresh b) text (drop p.len (b ∷ bs)) others after (omega (arith, length-drop p.len (b ∷ bs))) is)
