-- A text is refused at one place only.
use Rattle.std.proofs.Common.{◌≡◌, ℕ, zero, suc, ◌+◌, ◌<◌, ◌≤◌, List, [], ◌∷◌, ◌++◌, length, Result, Ok, Err, refl, sym, ap, subst, ◌∙◌, arith, append_assoc}
use Rattle.std.proofs.Math.Logic.{◌⊎◌, inl, inr}
use Rattle.std.specs.List.{AllByRecursion}
use Rattle.thr_base.specs.declared.stops.Refusal.{Refusal}
use Rattle.thr_base.specs.Refusals.{too_many}
use Rattle.c_lex.specs.Tokens.{Lexeme, lexed}
use Rattle.c_tree.specs.declared.item.Item.{Item}
use Rattle.c_tree.specs.Next.{refusal_at, too_deep_at}
use Rattle.c_tree.specs.GrammarItem.{IsTreeWithin}
use Rattle.c_tree.specs.Refused.{IsAnyTree, BeginsATree, too_many_in, NoTreeGoesOn, IsFirstOf, OpensTooMany, AreBehind, IsFirstBehind, NoneOpensTooMany, IsRefusedWith, IsRefusalOver, IsRefusalOf}
use Rattle.c_tree.proofs.Moving.{AreAlike}
use Rattle.c_tree.proofs.MovingText.{tree_alike}

-- ---- tokens at a place behind others

placed : ℕ → List Lexeme → List Lexeme
placed p [] = []
placed p (t ∷ ts) = record { kind = t.kind; bytes = t.bytes; from = p } ∷ placed p ts

same_alike : (ts : List Lexeme) → AreAlike ts ts
same_alike [] = tt
same_alike (t ∷ ts) = ((refl, refl), same_alike ts)

placed_alike : (p : ℕ) (front more : List Lexeme) → AreAlike (front ++ more) (front ++ placed p more)
unfolding placed
placed_alike p [] [] = tt
placed_alike p [] (t ∷ more) = ((refl, refl), placed_alike p [] more)
placed_alike p (t ∷ front) more = ((refl, refl), placed_alike p front more)

-- a place behind all of these
end_of : List Lexeme → ℕ
end_of [] = 0
end_of (t ∷ ts) = suc (t.from + end_of ts)

all_before : (ts : List Lexeme) (p : ℕ) → end_of ts ≤ p → AllByRecursion (λ t. t.from < p) ts
unfolding end_of
all_before [] p le = tt
all_before (t ∷ ts) p le = (omega (arith, le), all_before ts p (omega (arith, le)))

placed_behind : (front more : List Lexeme) → AreBehind front (placed (end_of front) more)
unfolding placed
placed_behind front [] = tt
placed_behind front (t ∷ more) = (all_before front (end_of front) (omega arith), placed_behind front more)

-- where tokens begin a tree, they begin one whose other tokens stand behind them
begins_behind : (front more : List Lexeme) (items : List Item) → IsAnyTree items (front ++ more) → (others : List Item) × IsAnyTree others (front ++ placed (end_of front) more)
begins_behind front more items is =
    let moved = tree_alike is.0 items (front ++ more) (front ++ placed (end_of front) more) (placed_alike (end_of front) front more) is.1 in
    (moved.0, (is.0, moved.1))

-- ---- two causes at one token

-- what is wrong at the token behind these
abbrev IsWrong : ℕ → List Lexeme → List Lexeme → Refusal → Type 0
IsWrong end front rest d = ((d ≡ refusal_at end rest) × NoTreeGoesOn front rest × NoneOpensTooMany front) ⊎ ((d ≡ too_deep_at end rest) × OpensTooMany front rest)

goes_on : {A : Type 0} (front rest : List Lexeme) → NoTreeGoesOn front rest → OpensTooMany front rest → A
goes_on front [] none deep = absurd deep
goes_on front (t ∷ rest) none deep =
    let tree = deep.0 in
    absurd (none (t ∷ tree.0) tree.1 refl (tree.2.0, subst (IsTreeWithin tree.2.0 tree.1) (append_assoc front (t ∷ []) tree.0) tree.2.1))

one_cause : (end : ℕ) (front rest : List Lexeme) (d e : Refusal) → IsWrong end front rest d → IsWrong end front rest e → d ≡ e
one_cause end front rest d e (inl one) (inl other) = one.0 ∙ sym other.0
one_cause end front rest d e (inl one) (inr other) = goes_on front rest one.1 other.1
one_cause end front rest d e (inr one) (inl other) = goes_on front rest other.1 one.1
one_cause end front rest d e (inr one) (inr other) = one.0 ∙ sym other.0

-- ---- causes at two tokens

-- a token in front of a place stands at no place behind it
not_behind : (front : List Lexeme) (t : Lexeme) (behind : List Lexeme) (p : ℕ) → AllByRecursion (λ u. u.from < p) (front ++ t ∷ behind) → t.from < p
not_behind [] t behind p all = all.0
not_behind (u ∷ front) t behind p all = not_behind front t behind p all.1

first_and_behind : {A : Type 0} (front : List Lexeme) (t : Lexeme) (behind : List Lexeme) (places : List ℕ) → IsFirstOf t.from places → IsFirstBehind (front ++ t ∷ behind) places → A
first_and_behind front t behind [] first all = absurd first
first_and_behind front t behind (p ∷ places) first all = (let lt = not_behind front t behind p all in absurd (omega (arith, lt, first)))

one_place : (p q : ℕ) (places : List ℕ) → IsFirstOf p places → IsFirstOf q places → p ≡ q
one_place p q [] one other = absurd one
one_place p q (r ∷ places) one other = sym one ∙ other

-- the tokens of a tree, split behind a token
regrouped : (front : List Lexeme) (t : Lexeme) (behind more : List Lexeme) (items : List Item) → IsAnyTree items ((front ++ t ∷ behind) ++ more) → IsAnyTree items (front ++ t ∷ (behind ++ more))
regrouped front t behind more items is = (is.0, subst (IsTreeWithin is.0 items) (append_assoc front (t ∷ behind) more) is.1)

deep_alike : (end p q : ℕ) (d e : Refusal) → d ≡ record { code = too_many; place = p } → e ≡ record { code = too_many; place = q } → p ≡ q → d ≡ e
deep_alike end p q d e one other same = one ∙ ap (λ (r : ℕ). record { code = too_many; place = r }) same ∙ sym other

-- what is wrong at a token is what is wrong at a later one
one_of_two : (end : ℕ) (front : List Lexeme) (t : Lexeme) (behind rest tail : List Lexeme) (d e : Refusal) → IsWrong end front (t ∷ rest) d → BeginsATree (front ++ t ∷ behind) → IsWrong end (front ++ t ∷ behind) tail e → d ≡ e
one_of_two end front t behind rest tail d e (inl one) begins other = absurd (one.1 (t ∷ (behind ++ begins.0)) begins.1 refl (regrouped front t behind begins.0 begins.1 begins.2))
one_of_two end front t behind rest tail d e (inr one) begins (inl other) =
    let tree = begins_behind (front ++ t ∷ behind) begins.0 begins.1 begins.2 in
    let more : List Lexeme = placed (end_of (front ++ t ∷ behind)) begins.0 in
    first_and_behind front t behind (too_many_in tree.0) (one.1.1 (behind ++ more) tree.0 (regrouped front t behind more tree.0 tree.1))
    (other.2 more tree.0 (placed_behind (front ++ t ∷ behind) begins.0) tree.1)
one_of_two end front t behind rest [] d e (inr one) begins (inr other) = absurd other.1
one_of_two end front t behind rest (u ∷ tail) d e (inr one) begins (inr other) =
    let tree = other.1.0 in
    let here = regrouped (front ++ t ∷ behind) u [] tree.0 tree.1 tree.2 in
    deep_alike end t.from u.from d e one.0 other.0 (one_place t.from u.from (too_many_in tree.1) (one.1.1 (behind ++ u ∷ tree.0) tree.1 (regrouped front t behind (u ∷ tree.0) tree.1 here)) (other.1.1 tree.0 tree.1 here))

-- ---- one list, split twice

data Splits (front rest other tail : List Lexeme) : Type 0 where
  before : (t : Lexeme) (behind : List Lexeme) → other ≡ front ++ t ∷ behind → rest ≡ t ∷ (behind ++ tail) → Splits front rest other tail
  same : front ≡ other → rest ≡ tail → Splits front rest other tail
  after : (t : Lexeme) (behind : List Lexeme) → front ≡ other ++ t ∷ behind → tail ≡ t ∷ (behind ++ rest) → Splits front rest other tail

splits : (front rest other tail : List Lexeme) → front ++ rest ≡ other ++ tail → Splits front rest other tail
splits [] rest [] tail e = Splits.same refl e
splits [] rest (u ∷ other) tail e = Splits.before u other refl e
splits (t ∷ front) rest [] tail e = Splits.after t front refl (sym e)
splits (t ∷ front) rest (u ∷ other) tail e = by (splits front rest other tail cc)
  where
    first : t ≡ u
    first = cc

    by : Splits front rest other tail → Splits (t ∷ front) rest (u ∷ other) tail
    by (Splits.before v behind is rests) = Splits.before v behind (rw (first, is) refl) rests
    by (Splits.same is rests) = Splits.same (rw (first, is) refl) rests
    by (Splits.after v behind is rests) = Splits.after v behind (rw (first, is) refl) rests

module _ (end : ℕ) (d e : Refusal) where
  one_by : (front rest other tail : List Lexeme) → Splits front rest other tail → BeginsATree front → BeginsATree other → IsWrong end front rest d → IsWrong end other tail e → d ≡ e
  one_by front rest other tail (Splits.before t behind is rests) begins too wrong also =
      one_of_two end front t behind (behind ++ tail) tail d e (subst (λ (l : List Lexeme). IsWrong end front l d) rests wrong) (subst BeginsATree is too) (subst (λ (l : List Lexeme). IsWrong end l tail e) is also)
  one_by front rest other tail (Splits.same is rests) begins too wrong also =
      one_cause end other tail d e (subst (λ (l : List Lexeme). IsWrong end l tail d) is (subst (λ (l : List Lexeme). IsWrong end front l d) rests wrong)) also
  one_by front rest other tail (Splits.after t behind is rests) begins too wrong also =
      sym (one_of_two end other t behind (behind ++ rest) rest e d (subst (λ (l : List Lexeme). IsWrong end other l e) rests also) (subst BeginsATree is begins) (subst (λ (l : List Lexeme). IsWrong end l rest d) is wrong))

  tokens_once : (tokens : List Lexeme) → IsRefusedWith end tokens d → IsRefusedWith end tokens e → d ≡ e
  tokens_once tokens one other = one_by one.0 one.1 other.0 other.1 (splits one.0 one.1 other.0 other.1 (sym one.2 ∙ other.2)) one.3 other.3 one.4 other.4

  over_once : (r : Result (List Lexeme) Refusal) → IsRefusalOver end r d → IsRefusalOver end r e → d ≡ e
  over_once (Err faulty) one other = sym one ∙ other
  over_once (Ok tokens) one other = tokens_once tokens one other

pub one_refusal : (text : List ℕ) (d e : Refusal) → IsRefusalOf text d → IsRefusalOf text e → d ≡ e
one_refusal text d e one other = over_once (length text) d e (lexed text) one other
