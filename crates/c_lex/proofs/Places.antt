-- Tokens stand in their text, at their places.
use Rattle.std.proofs.Common.{◌≡◌, ℕ, zero, suc, ◌+◌, ◌<◌, ◌≤◌, Bool, List, [], ◌∷◌, ◌++◌, length, drop, take, Option, Some, None, Result, Ok, Err, refl, sym, ap, subst, ◌∙◌, arith, length-drop}
use Rattle.std.proofs.lemmas.List.{length-take-le, drop-drop}
use Rattle.thr_base.specs.declared.stops.Refusal.{Refusal}
use Rattle.c_lex.specs.declared.token.Kind.{Kind}
use Rattle.c_lex.specs.declared.piece.Piece.{Piece}
use Rattle.c_lex.specs.Piece.{piece_of}
use Rattle.c_lex.specs.Tokens.{Lexeme, is_fresh_after, lexemes_of, tokens_from, StandIn}
use Rattle.c_lex.proofs.Cuts.{Cuts, piece_cuts}
use Rattle.c_lex.proofs.Steps.{with_front, step, refusal_step, nothing_left}

stand_earlier : (text : List ℕ) (at later : ℕ) (ts : List Lexeme) → at ≤ later → StandIn text later ts → StandIn text at ts
stand_earlier text at later [] le stand = tt
stand_earlier text at later (t ∷ ts) le stand = (omega (arith, stand.0), stand.1, stand.2, stand.3)

-- the value of reading that did not fail
pub others_of : (front ts : List Lexeme) (read : Result (List Lexeme) Refusal) → with_front front read ≡ Ok ts → (others : List Lexeme) × (read ≡ Ok others) × (ts ≡ front ++ others)
others_of front ts (Ok others) e = (others, refl, sym cc)
others_of front ts (Err refusal) e = absurd cc

-- the token that a piece is stands in front of those behind it
stand_more : (text rest : List ℕ) (from : ℕ) (kind : Option Kind) (len : ℕ) (others : List Lexeme) → drop from text ≡ rest → 0 < len → len ≤ length rest → StandIn text (from + len) others
    → StandIn text from (lexemes_of kind (take len rest) from ++ others)
stand_more text rest from None len others here some within stand = stand_earlier text from (from + len) others (omega arith) stand
stand_more text rest from (Some kind) len others here some within stand =
    let n = length-take-le len rest within in
    (omega arith, omega arith, ap (λ (k : ℕ). take k (drop from text)) n ∙ ap (take len) here, subst (λ (k : ℕ). StandIn text (from + k) others) (sym n) stand)

-- what stands behind a piece
After : ℕ → ℕ → Bool → List ℕ → ℕ → List ℕ → Type 0
After n from fresh text b bs =
    (p : Piece) (others : List Lexeme) → Cuts (b ∷ bs) p.len → drop (from + p.len) text ≡ drop p.len (b ∷ bs) → tokens_from n (from + p.len) (is_fresh_after fresh b) (drop p.len (b ∷ bs)) ≡ Ok others
    → StandIn text (from + p.len) others

pub failed : (refusal : Refusal) (ts : List Lexeme) → ◌≡◌ {A = Result (List Lexeme) Refusal} (Err refusal) (Ok ts) → ⊥
failed refusal ts e = cc

stand_at : (n from : ℕ) (fresh : Bool) (text : List ℕ) (b : ℕ) (bs : List ℕ) (ts : List Lexeme) (r : Result Piece ℕ) → piece_of fresh (b ∷ bs) ≡ r → drop from text ≡ b ∷ bs → tokens_from (suc n) from fresh (b ∷ bs) ≡ Ok ts
    → After n from fresh text b bs → StandIn text from ts
unfolding After
stand_at n from fresh text b bs ts (Ok p) is here e behind =
    let cuts = piece_cuts fresh b bs p is in
    let o = others_of (lexemes_of p.kind (take p.len (b ∷ bs)) from) ts _ (sym (step n from fresh b bs p is) ∙ e) in
    let after : drop (from + p.len) text ≡ drop p.len (b ∷ bs) = sym (drop-drop p.len from text) ∙ ap (drop p.len) here in
    subst (StandIn text from) (sym o.2) (stand_more text (b ∷ bs) from p.kind p.len o.0 here cuts.some cuts.within (behind p o.0 cuts after o.1))
stand_at n from fresh text b bs ts (Err code) is here e behind = absurd (failed _ ts (sym (refusal_step n from fresh b bs code is) ∙ e))

pub none_of : (ts : List Lexeme) → ◌≡◌ {A = Result (List Lexeme) Refusal} (Ok []) (Ok ts) → ts ≡ []
none_of ts e = sym cc

pub stand_from : (n from : ℕ) (fresh : Bool) (text rest : List ℕ) (ts : List Lexeme) → drop from text ≡ rest → length rest ≤ n → tokens_from n from fresh rest ≡ Ok ts → StandIn text from ts
unfolding tokens_from After
stand_from n from fresh text [] ts here le e = subst (StandIn text from) (sym (none_of ts (sym (nothing_left n from fresh) ∙ e))) tt
stand_from zero from fresh text (b ∷ bs) ts here le e = absurd (omega arith)
stand_from (suc n) from fresh text (b ∷ bs) ts here le e =
    stand_at n from fresh text b bs ts (piece_of fresh (b ∷ bs)) refl here e
    (λ p others cuts after is. let some = cuts.some in stand_from n (from + p.len) (is_fresh_after fresh b) text (drop p.len (b ∷ bs)) others after (omega (arith, length-drop p.len (b ∷ bs))) is)
