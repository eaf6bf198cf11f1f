-- The tree of a text is that of its tokens, and of nothing else.
use Rattle.std.proofs.Common.{◌≡◌, ℕ, zero, suc, rules, Bool, true, false, List, [], ◌∷◌, ◌++◌, map, length, bytes_eq, cond, Result, Ok, Err, IfOk, refl, sym, ap, subst, ◌∙◌}
use Rattle.thr_base.specs.declared.stops.Refusal.{Refusal}
use Rattle.thr_base.specs.declared.stops.Stop.{Stop}
use Rattle.c_lex.specs.declared.token.Kind.{Kind}
use Rattle.c_lex.specs.declared.token.Kind.TheVariants as kinds
use Rattle.thr_base.specs.Refusals.{Gives}
use Rattle.c_lex.specs.Tokens.{Lexeme, lexed}
use Rattle.c_tree.specs.declared.term.Term.{Term}
use Rattle.c_tree.specs.declared.term.Term.TheVariants as terms
use Rattle.c_tree.specs.Words.{words, refused_words, marks}
use Rattle.c_tree.specs.declared.item.Item.{Item}
use Rattle.c_tree.specs.declared.item.Tree.{Tree}
use Rattle.c_tree.specs.Term.{same_term, lookup, word_term, mark_term, kind_term}
use Rattle.c_tree.specs.inside.Input.{Input, Outcome, Parser, peek, sees, term_at, refusal}
use Rattle.c_tree.specs.inside.Many.{one_or_end, many_from, many}
use Rattle.c_tree.specs.inside.Item as spec
use Rattle.c_tree.specs.Sequence.{AreAll}
use Rattle.c_tree.specs.GrammarItem.{IsItem, IsTreeWithin, IsTree, IsTreeOf}
use Rattle.c_tree.proofs.Steps.{bind_ok, ok_parts, not_err}
use Rattle.c_tree.proofs.ItemSizes.{item_shrinks}
use Rattle.c_tree.proofs.Found.{seen}
use Rattle.c_tree.proofs.FoundParts.{many_found}
use Rattle.c_tree.proofs.FoundItem.{item_found}
use Rattle.c_tree.proofs.Again.{at}
use Rattle.c_tree.proofs.AgainParts.{many_again}
use Rattle.c_tree.proofs.AgainItem.{item_again, item_no_end}
use Rattle.c_tree.proofs.Leads.{impossible}

-- ---- no token is the end of the text

abbrev is_end : Term → Bool
is_end terms.End = true
is_end _ = false

lookup_by : (b : Bool) (x y : Term) → is_end x ≡ false → is_end y ≡ false → is_end (cond b x y) ≡ false
lookup_by true x y one other = one
lookup_by false x y one other = other

-- no entry is the end
abbrev NoEnd : List (List ℕ × Term) → Type 0
NoEnd [] = Unit {0}
NoEnd (e ∷ es) = (is_end e.1 ≡ false) × NoEnd es

lookup_no_end : (es : List (List ℕ × Term)) (text : List ℕ) (otherwise : Term) → NoEnd es → is_end otherwise ≡ false → is_end (lookup es text otherwise) ≡ false
lookup_no_end [] text otherwise none other = other
lookup_no_end (e ∷ es) text otherwise none other = lookup_by (bytes_eq e.0 text) e.1 (lookup es text otherwise) none.0 (lookup_no_end es text otherwise none.1 other)

kind_no_end : (kind : Kind) (text : List ℕ) → is_end (kind_term kind text) ≡ false
unfolding word_term mark_term words refused_words marks
kind_no_end kinds.Word text = lookup_no_end (words ++ map (λ word. (word, terms.Refused)) refused_words) text terms.Name (search rules) refl
kind_no_end kinds.Number text = refl
kind_no_end kinds.Mark text = lookup_no_end marks text terms.Refused (search rules) refl
kind_no_end kinds.Foreign text = refl

at_end : (ts : List Lexeme) → term_at ts ≡ terms.End → ts ≡ []
at_end [] ended = refl
at_end (t ∷ ts) ended = impossible (sym (kind_no_end t.kind t.bytes) ∙ ap is_end ended)

-- ---- items up to the end

module _ {A : Type 0} (last : Term) (item : Parser A) where
  one_or_end_stops : (n : ℕ) (b : Bool) (i : Input) → sees last i ≡ b → (xs : List A) (j : Input) → ((k : Input) (ys : List A) (l : Input) → many_from last item n k ≡ Ok (ys, l) → sees last l ≡ true)
      → one_or_end item (many_from last item n) b i ≡ Ok (xs, j) → sees last j ≡ true
  one_or_end_stops n true i is xs j others e = (let same = ok_parts [] xs i j e in ap (sees last) (sym same.1) ∙ is)
  one_or_end_stops n false i is xs j others e =
      let a = bind_ok (item i) _ xs j e in
      let b = bind_ok (many_from last item n a.1) _ xs j a.3 in
      let same = ok_parts (a.0 ∷ b.0) xs b.1 j b.3 in
      ap (sees last) (sym same.1) ∙ others _ _ _ b.2

  many_from_stops : (n : ℕ) (i : Input) (xs : List A) (j : Input) → many_from last item n i ≡ Ok (xs, j) → sees last j ≡ true
  unfolding many_from
  many_from_stops zero i xs j e = absurd (not_err (refusal i) xs j e)
  many_from_stops (suc n) i xs j e = one_or_end_stops n (sees last i) i refl xs j (many_from_stops n) e

  many_stops : (i : Input) (xs : List A) (j : Input) → many last item i ≡ Ok (xs, j) → sees last j ≡ true
  unfolding many
  many_stops i xs j e = many_from_stops (suc (length i.tokens)) i xs j e

module _ (levels : ℕ) where
  pub tree_found : (i : Input) (t : List Item) (j : Input) → (spec.tree levels) i ≡ Ok (t, j) → IsTreeWithin levels t i.tokens
  unfolding spec.tree peek
  tree_found i t j e =
      let none = at_end j.tokens (seen terms.End j (many_stops terms.End (spec.item levels) i t j e)) in
      let all = many_found terms.End (spec.item levels) (IsItem levels) (item_found levels) _ _ _ e in
      subst (λ (l : List Lexeme). AreAll (IsItem levels) t i.tokens l) none all

  pub tree_again : (end : ℕ) (t : List Item) (ts : List Lexeme) → IsTreeWithin levels t ts → (spec.tree levels) (at ts end) ≡ Ok (t, at [] end)
  unfolding spec.tree sees peek same_term
  tree_again end t ts is = many_again terms.End (spec.item levels) (IsItem levels) (item_again levels) (item_shrinks levels) (item_no_end levels) end t ts [] is refl

-- ---- texts

value_found : {A : Type 0} (r : Outcome A) (x : A) → spec.value_of r ≡ Ok x → (j : Input) × (r ≡ Ok (x, j))
value_found {A} (Ok p) x e = (p.1, (let same : p.0 ≡ x = cc in ap (λ (y : A). Ok (y, p.1)) same))
value_found (Err d) x e = absurd (let differs : ◌≡◌ {A = Result _ Refusal} (Err d) (Ok x) = e in cc)

ended_found : (end : ℕ) (r : Result (List Item) Refusal) (t : Tree) → spec.ended end r ≡ Ok t → (r ≡ Ok t.items) × (t.end ≡ end)
ended_found end (Ok items) t e =
    let same : ◌≡◌ {A = Tree} (record { items = items; end = end }) t = cc in
    (ap (λ (x : Tree). Ok x.items) same, ap (λ (x : Tree). x.end) (sym same))
ended_found end (Err d) t e = absurd (let differs : ◌≡◌ {A = Result Tree Refusal} (Err d) (Ok t) = e in cc)

tree_of_found : (end : ℕ) (r : Result (List Lexeme) Refusal) (t : Tree) → spec.tree_of end r ≡ Ok t → (tokens : List Lexeme) × (r ≡ Ok tokens) × IsTree t.items tokens × (t.end ≡ end)
tree_of_found end (Err d) t e = absurd (let differs : ◌≡◌ {A = Result Tree Refusal} (Err d) (Ok t) = e in cc)
tree_of_found end (Ok tokens) t e =
    let made = ended_found end (spec.value_of (spec.tree spec.max_levels (at tokens end))) t e in
    let read = value_found (spec.tree spec.max_levels (at tokens end)) t.items made.0 in
    (tokens, refl, tree_found spec.max_levels (at tokens end) t.items read.0 read.1, made.1)

pub parsed_found : (text : List ℕ) (t : Tree) → spec.parsed text ≡ Ok t → IsTreeOf text t
parsed_found text t e = tree_of_found (length text) (lexed text) t e

pub parsed_again : (text : List ℕ) (t : Tree) → IsTreeOf text t → spec.parsed text ≡ Ok t
parsed_again text t is =
    ap (spec.tree_of (length text)) is.1 ∙ ap (λ r. spec.ended (length text) (spec.value_of r)) (tree_again spec.max_levels (length text) t.items is.0 is.2)
    ∙ ap (λ (end : ℕ). Ok (record { items = t.items; end = end })) (sym is.3)

-- what reading the tokens of a text gives
pub tree_given : (text : List ℕ) (tokens : List Lexeme) (result : Result Tree Stop) → lexed text ≡ Ok tokens → Gives (λ t. t) result (spec.ended (length text) (spec.value_of (spec.tree spec.max_levels (at tokens (length text))))) → Gives (λ t. t) result (spec.parsed text)
tree_given text tokens result lexes gives = subst (λ (r : Result Tree Refusal). Gives (λ t. t) result r) (sym (ap (spec.tree_of (length text)) lexes)) gives

pub tree_is_of : (text : List ℕ) (result : Result Tree Stop) → Gives (λ t. t) result (spec.parsed text) → IfOk result (λ t. IsTreeOf text t)
tree_is_of text (Ok t) gives = parsed_found text t gives
tree_is_of text (Err stop) gives = tt

-- a text has no two trees
pub one_tree : (text : List ℕ) (t u : Tree) → IsTreeOf text t → IsTreeOf text u → t ≡ u
one_tree text t u is also = same_tree (sym (parsed_again text t is) ∙ parsed_again text u also)
  where
    same_tree : ◌≡◌ {A = Result Tree Refusal} (Ok t) (Ok u) → t ≡ u
    same_tree e = cc
