-- What a tree says stands in its tokens, in their order.
use Rattle.std.proofs.Common.{◌≡◌, ℕ, ◌+◌, ◌<◌, ◌≤◌, ℤ, List, [], ◌∷◌, ◌++◌, length, refl, sym, ap, subst, ◌∙◌, arith, append_assoc, append-nil, take, drop, length-drop, length-take}
use Rattle.thr_base.specs.Number.{Fits}
use Rattle.c_lex.specs.Tokens.{Lexeme, StandIn}
use Rattle.c_tree.specs.declared.term.Term.{Term}
use Rattle.c_tree.specs.declared.expr.Name.{Name}
use Rattle.c_tree.specs.Grammar.{Is, IsName, Stands, StartsAt}
use Rattle.c_tree.specs.Leaves.{Leaf, AreLeaves, PlacesRise, NumbersFit, token, mark_leaf, name_leaf}

pub record Sits (leaves : List Leaf) (ts rest : List Lexeme) : Type 0 where
  pub front : List Lexeme
  pub splits : ts ≡ front ++ rest
  pub are : AreLeaves leaves front

behind_others : (leaves : List Leaf) (others front : List Lexeme) → AreLeaves leaves front → AreLeaves leaves (others ++ front)
behind_others [] others front are = tt
behind_others (Leaf.Token said place ∷ leaves) others front are = (others ++ are.0, are.1, are.2, ap (λ (l : List Lexeme). others ++ l) are.3 ∙ sym (append_assoc others are.0 (are.1 ∷ are.2)), are.4, are.5, are.6)
behind_others (Leaf.Number value ∷ leaves) others front are = (are.0, behind_others leaves others front are.1)

both_leaves : (leaves more : List Leaf) (front behind : List Lexeme) → AreLeaves leaves front → AreLeaves more behind → AreLeaves (leaves ++ more) (front ++ behind)
both_leaves [] more front behind are also = behind_others more front behind also
both_leaves (Leaf.Token said place ∷ leaves) more front behind are also =
    (are.0, are.1, are.2 ++ behind, ap (λ (l : List Lexeme). l ++ behind) are.3 ∙ append_assoc are.0 (are.1 ∷ are.2) behind, are.4, are.5, both_leaves leaves more are.2 behind are.6 also)
both_leaves (Leaf.Number value ∷ leaves) more front behind are also = (are.0, both_leaves leaves more front behind are.1 also)

pub sits_then : {leaves more : List Leaf} {ts mid rest : List Lexeme} → Sits leaves ts mid → Sits more mid rest → Sits (leaves ++ more) ts rest
sits_then {leaves} {more} {ts} {mid} {rest} one other = record {
  front = one.front ++ other.front;
  splits = one.splits ∙ ap (λ (l : List Lexeme). one.front ++ l) other.splits ∙ sym (append_assoc one.front other.front rest);
  are = both_leaves leaves more one.front other.front one.are other.are;
}

-- what stands in front of the rest stands in all
pub leaves_in_all : {leaves : List Leaf} {ts rest : List Lexeme} → Sits leaves ts rest → AreLeaves leaves ts
leaves_in_all {leaves} {ts} {rest} sits =
    subst (AreLeaves leaves) (sym sits.splits) (subst (λ (l : List Leaf). AreLeaves l (sits.front ++ rest)) (append-nil leaves) (both_leaves leaves [] sits.front rest sits.are tt))

-- behind what says nothing
pub sits_after : {leaves : List Leaf} {ts mid rest : List Lexeme} → Sits [] ts mid → Sits leaves mid rest → Sits leaves ts rest
sits_after {leaves} {ts} {mid} {rest} one other = sits_then one other

-- in front of what says nothing
pub sits_before : {leaves : List Leaf} {ts mid rest : List Lexeme} → Sits leaves ts mid → Sits [] mid rest → Sits leaves ts rest
sits_before {leaves} {ts} {mid} {rest} one other = subst (λ (l : List Leaf). Sits l ts rest) (append-nil leaves) (sits_then one other)

pub sits_same : {ts rest : List Lexeme} → ts ≡ rest → Sits [] ts rest
sits_same {ts} {rest} e = record { front = []; splits = e; are = tt }

pub sits_as : {ts rest : List Lexeme} (leaves other : List Leaf) → other ≡ leaves → Sits leaves ts rest → Sits other ts rest
sits_as {ts} {rest} leaves other e sits = subst (λ (l : List Leaf). Sits l ts rest) (sym e) sits

-- a token
pub sits_token : (k : Term) (from : ℕ) (ts rest : List Lexeme) → Is k from ts rest → Sits (token from ∷ []) ts rest
sits_token k from [] rest is = absurd is
sits_token k from (t ∷ ts) rest is = record { front = t ∷ []; splits = ap (λ (l : List Lexeme). t ∷ l) is.2; are = ([], t, [], refl, is.1, tt, tt) }

-- a word or mark
pub sits_mark : (k other : Term) (from : ℕ) (ts rest : List Lexeme) → k ≡ other → Is k from ts rest → Sits (mark_leaf other from ∷ []) ts rest
sits_mark k other from [] rest same is = absurd is
sits_mark k other from (t ∷ ts) rest same is = record { front = t ∷ []; splits = ap (λ (l : List Lexeme). t ∷ l) is.2; are = ([], t, [], refl, is.1, is.0 ∙ same, tt) }

-- a name
pub sits_name : (x : Name) (ts rest : List Lexeme) → IsName x ts rest → Sits (name_leaf x ∷ []) ts rest
sits_name x [] rest is = absurd is.0
sits_name x (t ∷ ts) rest is = record { front = t ∷ []; splits = ap (λ (l : List Lexeme). t ∷ l) is.0.2; are = ([], t, [], refl, is.0.1, (is.0.0, is.1), tt) }

pub sits_skip : (k : Term) (from : ℕ) (ts rest : List Lexeme) → Is k from ts rest → Sits [] ts rest
sits_skip k from [] rest is = absurd is
sits_skip k from (t ∷ ts) rest is = record { front = t ∷ []; splits = ap (λ (l : List Lexeme). t ∷ l) is.2; are = tt }

pub sits_stands : (k : Term) (ts rest : List Lexeme) → Stands k ts rest → Sits [] ts rest
sits_stands k ts rest is = sits_skip k is.0 ts rest is.1

pub sits_number : {ts rest : List Lexeme} (value : ℤ) → Fits value → Sits [] ts rest → Sits (Leaf.Number value ∷ []) ts rest
sits_number {ts} {rest} value fits sits = record { front = sits.front; splits = sits.splits; are = (fits, tt) }

-- the first token, where another says what it is
pub starts_same : (k : Term) (from other : ℕ) (ts rest : List Lexeme) → Is k other ts rest → StartsAt from ts → other ≡ from
starts_same k from other [] rest is starts = absurd is
starts_same k from other (t ∷ ts) rest is starts = sym is.1 ∙ starts

-- ---- what follows

pub leaves_fit : (leaves : List Leaf) (front : List Lexeme) → AreLeaves leaves front → NumbersFit leaves
leaves_fit [] front are = tt
leaves_fit (Leaf.Token said place ∷ leaves) front are = leaves_fit leaves are.2 are.6
leaves_fit (Leaf.Number value ∷ leaves) front are = (are.0, leaves_fit leaves front are.1)

module _ (text : List ℕ) where
  -- what a token in the middle stands behind, and what behind it
  stands_in : (before : List Lexeme) (t : Lexeme) (after : List Lexeme) (first : ℕ) → StandIn text first (before ++ t ∷ after) → (first ≤ t.from) × (0 < length t.bytes) × (take (length t.bytes) (drop t.from text) ≡ t.bytes) × StandIn text (t.from + length t.bytes) after
  stands_in [] t after first stand = stand
  stands_in (b ∷ before) t after first stand = (let in_it = stands_in before t after (b.from + length b.bytes) stand.3 in (omega (arith, stand.0, in_it.0), in_it.1, in_it.2, in_it.3))

  token_within : (t : Lexeme) → 0 < length t.bytes → take (length t.bytes) (drop t.from text) ≡ t.bytes → t.from < length text
  token_within t some here = (let n = ap length here in omega (arith, length-take (length t.bytes) (drop t.from text), length-drop t.from text, n, some))

  pub leaves_rise : (leaves : List Leaf) (front : List Lexeme) (first behind : ℕ) → first ≤ behind → AreLeaves leaves front → StandIn text behind front → PlacesRise first (length text) leaves
  leaves_rise [] front first behind le are stand = tt
  leaves_rise (Leaf.Token said place ∷ leaves) front first behind le are stand =
      let here = stands_in are.0 are.1 are.2 behind (subst (StandIn text behind) are.3 stand) in
      let inside = token_within are.1 here.1 here.2 in
      (omega (arith, le, here.0, are.4), omega (arith, inside, are.4), leaves_rise leaves are.2 (place + 1) (are.1.from + length are.1.bytes) (omega (arith, here.1, are.4)) are.6 here.3)
  leaves_rise (Leaf.Number value ∷ leaves) front first behind le are stand = leaves_rise leaves front first behind le are.1 stand
