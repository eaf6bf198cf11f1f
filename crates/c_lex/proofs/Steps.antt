-- Reading the tokens of a text from left to right, as a loop does.
use Rattle.std.proofs.Common.{◌≡◌, ℕ, zero, suc, ◌+◌, ◌<◌, ◌≤◌, Bool, true, List, [], ◌∷◌, ◌++◌, length, drop, take, get_or, Result, Ok, Err, refl, sym, ap, ◌∙◌, arith, IsUtf8, append_assoc, length-drop}
use Rattle.std.proofs.iter.FirstChar.{cut}
use Rattle.std.proofs.lemmas.List.{append-nil, nil_from_length}
use Rattle.thr_base.specs.declared.stops.Refusal.{Refusal}
use Rattle.c_lex.specs.declared.piece.Piece.{Piece}
use Rattle.c_lex.specs.Piece.{piece_of}
use Rattle.c_lex.specs.Tokens.{Lexeme, ◌>>=◌, is_fresh_after, lexemes_of, tokens_from, lexed}
use Rattle.c_lex.proofs.Cuts.{boundary, piece_cuts}

-- the tokens before, and those that follow
abbrev pub with_front : List Lexeme → Result (List Lexeme) Refusal → Result (List Lexeme) Refusal
with_front front read = read >>= λ others. Ok (front ++ others)

with_front_twice : (xs ys : List Lexeme) (read : Result (List Lexeme) Refusal) → with_front xs (with_front ys read) ≡ with_front (xs ++ ys) read
with_front_twice xs ys (Ok others) = ap (λ (ts : List Lexeme). Ok ts) (sym (append_assoc xs ys others))
with_front_twice xs ys (Err refusal) = refl

-- The tokens so far and those of what is left are those of the text.
pub record IsReadTo (text : List ℕ) (front : List Lexeme) (from : ℕ) (fresh : Bool) (rest : List ℕ) : Type 0 where
  -- a bound on the pieces of what is left
  pub pieces : ℕ
  pub enough : length rest ≤ pieces
  pub all : with_front front (tokens_from pieces from fresh rest) ≡ lexed text
  pub place : from + length rest ≡ length text
  pub is_utf8 : IsUtf8 rest

pub at_start : (text : List ℕ) → IsUtf8 text → IsReadTo text [] 0 true text
at_start text utf8 = record {
  pieces = length text;
  enough = omega arith;
  all = no_front (lexed text);
  place = omega arith;
  is_utf8 = utf8;
}
  where
    no_front : (read : Result (List Lexeme) Refusal) → with_front [] read ≡ read
    no_front (Ok ts) = refl
    no_front (Err refusal) = refl

pub step : (n from : ℕ) (fresh : Bool) (b : ℕ) (bs : List ℕ) (p : Piece) → piece_of fresh (b ∷ bs) ≡ Ok p
    → tokens_from (suc n) from fresh (b ∷ bs) ≡ with_front (lexemes_of p.kind (take p.len (b ∷ bs)) from) (tokens_from n (from + p.len) (is_fresh_after fresh b) (drop p.len (b ∷ bs)))
unfolding tokens_from
step n from fresh b bs p e = rw e refl

pub refusal_step : (n from : ℕ) (fresh : Bool) (b : ℕ) (bs : List ℕ) (code : ℕ) → piece_of fresh (b ∷ bs) ≡ Err code → tokens_from (suc n) from fresh (b ∷ bs) ≡ Err (record { code = code; place = from })
unfolding tokens_from
refusal_step n from fresh b bs code e = rw e refl

-- a piece further
pub goes_on : (text : List ℕ) (front : List Lexeme) (from : ℕ) (fresh : Bool) (rest : List ℕ) (p : Piece) → 0 < length rest → piece_of fresh rest ≡ Ok p → IsReadTo text front from fresh rest
    → IsReadTo text (front ++ lexemes_of p.kind (take p.len rest) from) (from + p.len) (is_fresh_after fresh (get_or rest 0 0)) (drop p.len rest)
goes_on text front from fresh [] p some e read = absurd (omega arith)
goes_on text front from fresh (b ∷ bs) p some e read = go read.pieces read.enough read.all
  where
    go : (n : ℕ) → length (b ∷ bs) ≤ n → with_front front (tokens_from n from fresh (b ∷ bs)) ≡ lexed text
        → IsReadTo text (front ++ lexemes_of p.kind (take p.len (b ∷ bs)) from) (from + p.len) (is_fresh_after fresh b) (drop p.len (b ∷ bs))
    go zero le all = absurd (omega arith)
    go (suc n) le all =
        let cuts = piece_cuts fresh b bs p e in
        let positive = cuts.some in
        let within = cuts.within in
        let place = read.place in
        record {
          pieces = n;
          enough = omega (arith, length-drop p.len (b ∷ bs));
          all = sym (with_front_twice front (lexemes_of p.kind (take p.len (b ∷ bs)) from) _) ∙ ap (with_front front) (sym (step n from fresh b bs p e)) ∙ all;
          place = omega (arith, length-drop p.len (b ∷ bs));
          is_utf8 = (cut (b ∷ bs) p.len read.is_utf8 (boundary (b ∷ bs) p.len cuts read.is_utf8)).1;
        }

pub refuses : (text : List ℕ) (front : List Lexeme) (from : ℕ) (fresh : Bool) (rest : List ℕ) (code : ℕ) → 0 < length rest → piece_of fresh rest ≡ Err code → IsReadTo text front from fresh rest → lexed text ≡ Err (record { code = code; place = from })
refuses text front from fresh [] code some e read = absurd (omega arith)
refuses text front from fresh (b ∷ bs) code some e read = go read.pieces read.enough read.all
  where
    go : (n : ℕ) → length (b ∷ bs) ≤ n → with_front front (tokens_from n from fresh (b ∷ bs)) ≡ lexed text → lexed text ≡ Err (record { code = code; place = from })
    go zero le all = absurd (omega arith)
    go (suc n) le all = sym all ∙ ap (with_front front) (refusal_step n from fresh b bs code e)

pub nothing_left : (n from : ℕ) (fresh : Bool) → tokens_from n from fresh [] ≡ Ok []
unfolding tokens_from
nothing_left zero from fresh = refl
nothing_left (suc n) from fresh = refl

pub at_end : (text : List ℕ) (front : List Lexeme) (from : ℕ) (fresh : Bool) (rest : List ℕ) → length rest ≡ 0 → IsReadTo text front from fresh rest → lexed text ≡ Ok front
at_end text front from fresh rest none read =
    let empty = nil_from_length rest none in
    sym read.all ∙ ap (λ (xs : List ℕ). with_front front (tokens_from read.pieces from fresh xs)) empty ∙ ap (with_front front) (nothing_left read.pieces from fresh) ∙ ap (λ (ts : List Lexeme). Ok ts) (append-nil front)
