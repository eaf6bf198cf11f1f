-- Where a piece ends, a text may be cut: no piece is empty, and one of the bytes beside its end is ASCII.
use Rattle.std.proofs.Common.{◌≡◌, ℕ, suc, ◌+◌, ◌-◌, ◌<◌, ◌≤◌, Bool, true, false, cond, ◌&&◌, not, eqb, ltb, List, [], ◌∷◌, length, drop, take, get_or, Option, Some, None, Ok, refl, sym, ap, subst, ◌⊎◌, inl, inr, ⊎_elim, arith, IsUtf8}
use Rattle.std.specs.Prelude.{option_map, codes, nat_eq, slice_index}
use Rattle.std.specs.Char.{is_ascii_digit}
use Rattle.std.specs.List.{prefix_len, list_all, starts_with}
use Rattle.std.specs.Str.{IsCharBoundary}
use Rattle.std.proofs.lemmas.Bool.{cases_lt, cases_Bool, false≢true, eqb-true, ltb-true}
use Rattle.std.proofs.lemmas.Bool.Decides.{nat_tests}
use Rattle.std.proofs.lemmas.List.Sums.{prefix_len-le-length, prefix_len_passes, prefix_len_stops}
use Rattle.std.proofs.lemmas.Str.{IsCharBoundary-before_ascii, IsCharBoundary-after_ascii, IsCharBoundary-end}
use Rattle.c_lex.specs.declared.token.Kind.{Kind}
use Rattle.c_lex.specs.declared.token.Kind.TheVariants.{Word, Number, Mark, Foreign}
use Rattle.c_lex.specs.declared.piece.Piece.{Piece}
use Rattle.c_lex.specs.Bytes.{is_one_of, is_separator, is_letter, is_word_byte, is_in_line, is_mark, is_double_mark, is_foreign}
use Rattle.c_lex.specs.Piece.{skipped, token_of, through_close, goes_on_include, comment_of, is_number_text, number_of, mark_of, piece_of}

-- a piece of n bytes at the front
pub record Cuts (bs : List ℕ) (n : ℕ) : Type 0 where
  pub some : 0 < n
  pub within : n ≤ length bs
  pub beside : (get_or bs (n - 1) 0 < 128) ⊎ (n < length bs → get_or bs n 0 < 128)

pub boundary : (bs : List ℕ) (n : ℕ) → Cuts bs n → IsUtf8 bs → IsCharBoundary bs n
boundary bs n cuts utf8 =
    let some = cuts.some in
    let within = cuts.within in
    let back : n - 1 + 1 ≡ n = omega arith in
    ⊎_elim
    (λ ascii. subst (IsCharBoundary bs) back (IsCharBoundary-after_ascii bs (n - 1) utf8 (omega arith) ascii))
    (λ ascii. elim (cases_lt n (length bs)) [
      | inl lt ↦ IsCharBoundary-before_ascii bs n lt (ascii lt)
      | inr le ↦ (let e : length bs ≡ n = omega arith in subst (IsCharBoundary bs) e (IsCharBoundary-end bs))
    ])
    cuts.beside

-- which way a test went
pub chosen : {A : Type 0} (b : Bool) (x y z : A) → cond b x y ≡ z → ((b ≡ true) × (x ≡ z)) ⊎ ((b ≡ false) × (y ≡ z))
chosen true x y z e = inl (refl, e)
chosen false x y z e = inr (refl, e)

pub both : (a b : Bool) → (a && b) ≡ true → (a ≡ true) × (b ≡ true)
both true b e = (refl, e)
both false b e = absurd cc

-- the length of what is given
len_of_skipped : (n : ℕ) (p : Piece) → skipped n ≡ Ok p → p.len ≡ n
len_of_skipped n p e = let r : record { kind = None; len = n } ≡ p = cc in ap (λ (q : Piece). q.len) (sym r)

len_of_token : (kind : Kind) (n : ℕ) (p : Piece) → token_of kind n ≡ Ok p → p.len ≡ n
len_of_token kind n p e = let r : record { kind = Some kind; len = n } ≡ p = cc in ap (λ (q : Piece). q.len) (sym r)

-- ---- bytes below 128

one_of_below : (bytes : List ℕ) (b : ℕ) → list_all (λ x. ltb x 128) bytes ≡ true → is_one_of bytes b ≡ true → b < 128
one_of_below [] b all e = absurd cc
one_of_below (x ∷ bytes) b all e =
    let parts = both (ltb x 128) (list_all (λ y. ltb y 128) bytes) all in
    elim (cases_Bool (eqb x b)) [
      | inl here ↦ (let lt = ltb-true x 128 parts.0 in let same = eqb-true x b here in omega arith)
      | inr there ↦ one_of_below bytes b parts.1 (rw there at e)
    ]

one_byte : (b : ℕ) (bs : List ℕ) → b < 128 → Cuts (b ∷ bs) 1
one_byte b bs ascii = record { some = omega arith; within = omega arith; beside = inl ascii }

-- a run of bytes below 128
pub run_cuts : (p : ℕ → Bool) (bs : List ℕ) → ((x : ℕ) → p x ≡ true → x < 128) → 0 < prefix_len p bs → Cuts bs (prefix_len p bs)
run_cuts p bs below some = record {
  some = some;
  within = prefix_len-le-length p bs;
  beside = inl (below _ (prefix_len_passes p bs (prefix_len p bs - 1) 0 (omega arith)));
}

begun : (p : ℕ → Bool) (b : ℕ) (bs : List ℕ) → p b ≡ true → 0 < prefix_len p (b ∷ bs)
begun p b bs first = rw first (omega arith)

pub digit_below : (x : ℕ) → is_ascii_digit x ≡ true → x < 128
digit_below x e = grind (arith, nat_tests)

word_byte_below : (x : ℕ) → is_word_byte x ≡ true → x < 128
word_byte_below x e = grind (arith, nat_tests)

-- a line with its first byte
line_cuts : (b : ℕ) (bs : List ℕ) → is_in_line b ≡ true → Cuts (b ∷ bs) (prefix_len is_in_line (b ∷ bs))
line_cuts b bs first = record {
  some = begun is_in_line b bs first;
  within = prefix_len-le-length is_in_line (b ∷ bs);
  beside = inr (λ lt. line_end (get_or (b ∷ bs) (prefix_len is_in_line (b ∷ bs)) 0) (prefix_len_stops is_in_line (b ∷ bs) 0 lt));
}
  where
    line_end : (x : ℕ) → is_in_line x ≡ false → x < 128
    line_end x e = grind (arith, nat_tests)

-- ---- comments

shift_up : (o : Option ℕ) (n : ℕ) → option_map (λ k. 1 + k) o ≡ Some n → (k : ℕ) × (o ≡ Some k) × (n ≡ 1 + k)
shift_up None n e = absurd cc
shift_up (Some k) n e = (k, refl, sym cc)

-- what stands at the end of a comment
pub record Closes (bs : List ℕ) (n : ℕ) : Type 0 where
  pub two : 2 ≤ n
  pub within : n ≤ length bs
  pub slash : get_or bs (n - 1) 0 ≡ 47

closes_next : (b : ℕ) (bs : List ℕ) (k : ℕ) → Closes bs k → Closes (b ∷ bs) (1 + k)
closes_next b bs k closes =
    let two = closes.two in
    let within = closes.within in
    let at : 1 + k - 1 ≡ suc (k - 1) = omega arith in
    record { two = omega arith; within = omega arith; slash = rw at closes.slash }

opens_with : (bs : List ℕ) (x y : ℕ) → starts_with nat_eq bs (x ∷ y ∷ []) ≡ true → (d : ℕ) × (e : ℕ) × (rest : List ℕ) × (bs ≡ d ∷ e ∷ rest) × (d ≡ x) × (e ≡ y)
opens_with [] x y h = absurd cc
opens_with (d ∷ []) x y h = absurd (false≢true (both (eqb x d) false h).1)
opens_with (d ∷ e ∷ rest) x y h =
    let parts = both (eqb x d) (eqb y e && true) h in
    let parts2 = both (eqb y e) true parts.1 in
    (d, e, rest, refl, sym (eqb-true x d parts.0), sym (eqb-true y e parts2.0))

closed_two : (b : ℕ) (bs : List ℕ) (d e : ℕ) (rest : List ℕ) (n : ℕ) → b ∷ bs ≡ d ∷ e ∷ rest → e ≡ 47 → ◌≡◌ {A = Option ℕ} (Some 2) (Some n) → Closes (b ∷ bs) n
closed_two b bs d e rest n parts slash two =
    let is_two : 2 ≡ n = cc in
    subst (Closes (b ∷ bs)) is_two (subst (λ (xs : List ℕ). Closes xs 2) (sym parts) (record { two = omega arith; within = omega arith; slash = slash }))

closes_at : (bs : List ℕ) (n : ℕ) → through_close bs ≡ Some n → Closes bs n
closes_at [] n e = absurd cc
closes_at (b ∷ bs) n e =
    elim (chosen (starts_with nat_eq (b ∷ bs) (codes "*/")) (Some 2) (option_map (λ k. 1 + k) (through_close bs)) (Some n) e) [
      | inl here ↦ (let o = opens_with (b ∷ bs) 42 47 here.0 in closed_two b bs o.0 o.1 o.2 n o.3 o.5 here.1)
      | inr there ↦ (let next = shift_up (through_close bs) n there.1 in subst (Closes (b ∷ bs)) (sym next.2) (closes_next b bs next.0 (closes_at bs next.0 next.1)))
    ]

comment_cuts : (b c : ℕ) (bs : List ℕ) (p : Piece) → comment_of (through_close bs) ≡ Ok p → Cuts (b ∷ c ∷ bs) p.len
comment_cuts b c bs p e = go (through_close bs) refl e
  where
    go : (o : Option ℕ) → through_close bs ≡ o → comment_of o ≡ Ok p → Cuts (b ∷ c ∷ bs) p.len
    go None o h = absurd cc
    go (Some n) o h =
        let closes = closes_at bs n o in
        let two = closes.two in
        let within = closes.within in
        let at : 2 + n - 1 ≡ suc (suc (n - 1)) = omega arith in
        rw (len_of_skipped (2 + n) p h) (record {
          some = omega arith;
          within = omega arith;
          beside = inl (rw at (let slash = closes.slash in omega arith));
        })

-- ---- marks

mark_below : (b : ℕ) → is_mark b ≡ true → b < 128
mark_below b e = one_of_below (codes "(){};,=<>+-*!&") b refl e

foreign_below : (b : ℕ) → is_foreign b ≡ true → b < 128
foreign_below b e = one_of_below (34 ∷ codes "/%[].?:|^~'#") b refl e

-- the second byte of a mark is there, and below 128
pub double_second : (b c : ℕ) → is_double_mark b c ≡ true → (0 < c) × (c < 128)
double_second b c e = grind (arith, nat_tests)

double_cuts : (b : ℕ) (bs : List ℕ) → is_double_mark b (get_or bs 0 0) ≡ true → Cuts (b ∷ bs) 2
double_cuts b [] e = absurd (omega (arith, (double_second b 0 e).0))
double_cuts b (c ∷ bs) e = record { some = omega arith; within = omega arith; beside = inl (double_second b c e).1 }

mark_cuts : (b : ℕ) (bs : List ℕ) (p : Piece) → mark_of (b ∷ bs) ≡ Ok p → Cuts (b ∷ bs) p.len
mark_cuts b bs p e =
    elim (chosen (is_double_mark b (get_or bs 0 0)) _ _ (Ok p) e) [
      | inl h ↦ rw (len_of_token Mark 2 p h.1) (double_cuts b bs h.0)
      | inr h ↦ elim (chosen (is_mark b) _ _ (Ok p) h.1) [
        | inl k ↦ rw (len_of_token Mark 1 p k.1) (one_byte b bs (mark_below b k.0))
        | inr k ↦ elim (chosen (is_foreign b) _ _ (Ok p) k.1) [
          | inl m ↦ rw (len_of_token Foreign 1 p m.1) (one_byte b bs (foreign_below b m.0))
          | inr m ↦ absurd (cc m.1)
        ]
      ]
    ]

-- ---- all pieces

separator_below : (b : ℕ) → is_separator b ≡ true → b < 128
separator_below b e = grind (arith, nat_tests)

pub letter_word : (b : ℕ) → is_letter b ≡ true → is_word_byte b ≡ true
letter_word b e = rw e refl

in_line_of : (b x : ℕ) → b ≡ x → is_in_line x ≡ true → is_in_line b ≡ true
in_line_of b x e h = rw e h

number_cuts : (b : ℕ) (bs : List ℕ) (p : Piece) → is_ascii_digit b ≡ true → number_of (b ∷ bs) ≡ Ok p → Cuts (b ∷ bs) p.len
number_cuts b bs p digit e =
    elim (chosen (is_number_text (take (prefix_len is_ascii_digit (b ∷ bs)) (b ∷ bs)) && not (is_letter (slice_index (b ∷ bs) (prefix_len is_ascii_digit (b ∷ bs))))) _ _ (Ok p) e) [
      | inl h ↦ rw (len_of_token Number _ p h.1) (run_cuts is_ascii_digit (b ∷ bs) digit_below (begun is_ascii_digit b bs digit))
      | inr h ↦ absurd (cc h.1)
    ]

line_skipped : (b x : ℕ) (bs : List ℕ) (p : Piece) → b ≡ x → is_in_line x ≡ true → skipped (prefix_len is_in_line (b ∷ bs)) ≡ Ok p → Cuts (b ∷ bs) p.len
line_skipped b x bs p same stays e = rw (len_of_skipped (prefix_len is_in_line (b ∷ bs)) p e) (line_cuts b bs (in_line_of b x same stays))

comment_begun : (b : ℕ) (bs : List ℕ) (p : Piece) → starts_with nat_eq (b ∷ bs) (codes "/*") ≡ true → comment_of (through_close (drop 2 (b ∷ bs))) ≡ Ok p → Cuts (b ∷ bs) p.len
comment_begun b [] p h e = absurd (false≢true (both (eqb 47 b) false h).1)
comment_begun b (c ∷ bs) p h e = comment_cuts b c bs p e

pub piece_cuts : (fresh : Bool) (b : ℕ) (bs : List ℕ) (p : Piece) → piece_of fresh (b ∷ bs) ≡ Ok p → Cuts (b ∷ bs) p.len
unfolding piece_of
piece_cuts fresh b bs p e =
    elim (chosen (is_separator b) _ _ (Ok p) e) [
      | inl h ↦ rw (len_of_skipped 1 p h.1) (one_byte b bs (separator_below b h.0))
      | inr h ↦ elim (chosen (starts_with nat_eq (b ∷ bs) (codes "//")) _ _ (Ok p) h.1) [
        | inl k ↦ line_skipped b 47 bs p (slash_first b bs k.0) refl k.1
        | inr k ↦ elim (chosen (starts_with nat_eq (b ∷ bs) (codes "/*")) _ _ (Ok p) k.1) [
          | inl m ↦ comment_begun b bs p m.0 m.1
          | inr m ↦ elim (chosen (fresh && eqb b 35 && goes_on_include bs) _ _ (Ok p) m.1) [
            | inl q ↦ line_skipped b 35 bs p (eqb-true b 35 (both fresh (eqb b 35) (both (fresh && eqb b 35) (goes_on_include bs) q.0).0).1) refl q.1
            | inr q ↦ elim (chosen (is_letter b) _ _ (Ok p) q.1) [
              | inl r ↦ rw (len_of_token Word _ p r.1) (run_cuts is_word_byte (b ∷ bs) word_byte_below (begun is_word_byte b bs (letter_word b r.0)))
              | inr r ↦ elim (chosen (is_ascii_digit b) _ _ (Ok p) r.1) [
                | inl s ↦ number_cuts b bs p s.0 s.1
                | inr s ↦ mark_cuts b bs p s.1
              ]
            ]
          ]
        ]
      ]
    ]
  where
    slash_first : (b : ℕ) (bs : List ℕ) → starts_with nat_eq (b ∷ bs) (codes "//") ≡ true → b ≡ 47
    slash_first b [] h = absurd (false≢true (both (eqb 47 b) false h).1)
    slash_first b (c ∷ bs) h = sym (eqb-true 47 b (both (eqb 47 b) (eqb 47 c && true) h).0)

pub cuts_of : (fresh : Bool) (bs : List ℕ) (p : Piece) → 0 < length bs → piece_of fresh bs ≡ Ok p → Cuts bs p.len
cuts_of fresh [] p some e = absurd (omega arith)
cuts_of fresh (b ∷ bs) p some e = piece_cuts fresh b bs p e
