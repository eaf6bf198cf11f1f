-- Where a text is refused, the tokens in front begin a tree, and no tree goes on with the next, or it opens a level too many.
use Rattle.std.proofs.Common.{◌≡◌, ℕ, ◌+◌, ◌≤◌, ◌<◌, List, [], ◌∷◌, ◌++◌, length, Result, Ok, Err, refl, sym, ap, subst, ◌∙◌, arith, append_assoc}
use Rattle.std.proofs.Math.Logic.{◌⊎◌, inl, inr}
use Rattle.std.specs.List.{AllByRecursion}
use Rattle.thr_base.specs.declared.stops.Refusal.{Refusal}
use Rattle.thr_base.specs.declared.stops.Stop.{Stop}
use Rattle.thr_base.specs.declared.stops.Stop.TheVariants.{Refused, Memory}
use Rattle.c_lex.specs.declared.token.Kind.TheVariants as kinds
use Rattle.thr_base.specs.Refusals.{Gives, too_many}
use Rattle.c_lex.specs.Tokens.{Lexeme, lexed}
use Rattle.c_tree.specs.declared.item.Item.{Item}
use Rattle.c_tree.specs.declared.item.Tree.{Tree}
use Rattle.c_tree.specs.declared.term.Term.{Term}
use Rattle.c_tree.specs.declared.term.Term.TheVariants as terms
use Rattle.c_tree.specs.inside.Input.{Input, Outcome, peek, place, refusal_code, refusal, too_deep}
use Rattle.c_tree.specs.Next.{refusal_at, too_deep_at}
use Rattle.c_tree.specs.GrammarItem.{IsTreeWithin, IsTree, IsTreeOf}
use Rattle.c_tree.specs.inside.Item as spec
use Rattle.c_tree.specs.Refused.{IsAnyTree, BeginsATree, too_many_in, SameNext, NoTreeGoesOn, IsFirstOf, OpensTooMany, AreBehind, IsFirstBehind, NoneOpensTooMany, IsRefusedWith, IsRefusalOver, IsRefusalOf, IsRefusedBy}
use Rattle.c_tree.proofs.Again.{at, same_self}
use Rattle.c_tree.proofs.Trees.{tree_found, tree_again, parsed_found}
use Rattle.c_tree.proofs.Completing.{Says, AtOnce, Stopped}
use Rattle.c_tree.proofs.CompletingLoops.{only}
use Rattle.c_tree.proofs.CompletingItem.{tree_completes}
use Rattle.c_tree.proofs.Deepening as deepening
use Rattle.c_tree.proofs.DeepeningItem.{tree_opens, tree_widens}

one_err : (d f : Refusal) → ◌≡◌ {A = Outcome (List Item)} (Err d) (Err f) → d ≡ f
one_err d f e = cc

one_ok : (p q : List Item × Input) → ◌≡◌ {A = Outcome (List Item)} (Ok p) (Ok q) → p ≡ q
one_ok p q e = cc

both : {A : Type 0} (r : Outcome (List Item)) (p : List Item × Input) (d : Refusal) → r ≡ Ok p → r ≡ Err d → A
both r p d given refused = absurd (let differs : ◌≡◌ {A = Outcome (List Item)} (Ok p) (Err d) = sym given ∙ refused in cc)

-- ---- with more levels

-- a refusal stays so, but for a level too many
refused_more : (n : ℕ) (r s : Outcome (List Item)) (d : Refusal) → deepening.Fits [] (tree_opens n) r s → r ≡ Err d → ((j : Input) → d ≡ too_deep j → ⊥) → s ≡ Err d
refused_more n r (Ok p) d fits e other = by fits.0 fits.2
  where
    by : (more : List ℕ) → deepening.Says more r (Ok p) → ◌≡◌ {A = Outcome (List Item)} (Ok p) (Err d)
    by [] same = both r p d same e
    by (a ∷ more) deep = absurd (other deep.0 (one_err d (too_deep deep.0) (sym e ∙ deep.1)))
refused_more n r (Err c) d (inl same) e other = sym same ∙ e
refused_more n r (Err c) d (inr deep) e other = absurd (other deep.0 (one_err d (too_deep deep.0) (sym e ∙ deep.1)))

still_refused : (n m end : ℕ) → n ≤ m → (ts : List Lexeme) (d : Refusal) → spec.tree n (at ts end) ≡ Err d → ((j : Input) → d ≡ too_deep j → ⊥) → spec.tree m (at ts end) ≡ Err d
still_refused n m end le ts d e other = refused_more n (spec.tree n (at ts end)) (spec.tree m (at ts end)) d ((tree_widens n m le).does (at ts end)) e other

-- and a tree stays one
read_more : (n : ℕ) (r s : Outcome (List Item)) (p : List Item × Input) → deepening.Fits [] (tree_opens n) r s → r ≡ Ok p → s ≡ Ok p
read_more n r (Ok q) p fits e = by fits.0 fits.2
  where
    by : (more : List ℕ) → deepening.Says more r (Ok q) → ◌≡◌ {A = Outcome (List Item)} (Ok q) (Ok p)
    by [] same = sym same ∙ e
    by (a ∷ more) deep = both r p (too_deep deep.0) e deep.1
read_more n r (Err c) p (inl same) e = both r p c e same
read_more n r (Err c) p (inr deep) e = both r p (too_deep deep.0) e deep.1

still_read : (n m end : ℕ) → n ≤ m → (ts : List Lexeme) (t : List Item) → IsTreeWithin n t ts → spec.tree m (at ts end) ≡ Ok (t, at [] end)
still_read n m end le ts t is = read_more n (spec.tree n (at ts end)) (spec.tree m (at ts end)) (t, at [] end) ((tree_widens n m le).does (at ts end)) (tree_again n end t ts is)

-- ---- what a tree of any depth opens

-- Reading within so many levels gives the tree, and it opens none beyond; or it refuses the first that it opens.
data Read (n end : ℕ) (t : List Item) (ts : List Lexeme) : Type 0 where
  whole : spec.tree n (at ts end) ≡ Ok (t, at [] end) → tree_opens n t ≡ [] → Read n end t ts
  part : (j : Input) → spec.tree n (at ts end) ≡ Err (too_deep j) → (more : List ℕ) → tree_opens n t ≡ place j ∷ more → Read n end t ts

read_by : (n end : ℕ) (t : List Item) (ts : List Lexeme) (r s : Outcome (List Item)) → spec.tree n (at ts end) ≡ r → s ≡ Ok (t, at [] end) → deepening.Fits [] (tree_opens n) r s → Read n end t ts
read_by n end t ts r (Err c) is e fits = both (Err c) (t, at [] end) c e refl
read_by n end t ts r (Ok p) is e fits = by fits.0 fits.1 fits.2
  where
    same : p.0 ≡ t
    same = ap (λ (x : List Item × Input). x.0) (one_ok p (t, at [] end) e)

    by : (more : List ℕ) → tree_opens n p.0 ≡ [] ++ more → deepening.Says more r (Ok p) → Read n end t ts
    by [] opens says = Read.whole (is ∙ says ∙ e) (ap (tree_opens n) (sym same) ∙ opens)
    by (a ∷ more) opens says = Read.part says.0 (is ∙ says.1) more (ap (tree_opens n) (sym same) ∙ opens ∙ ap (λ (p : ℕ). p ∷ more) (sym says.2))

tree_read : (n end : ℕ) (t : List Item) (ts : List Lexeme) → IsAnyTree t ts → Read n end t ts
tree_read n end t ts is =
    read_by n end t ts (spec.tree n (at ts end)) (spec.tree (n + is.0) (at ts end)) refl (still_read is.0 (n + is.0) end (omega arith) ts t is.1) ((tree_widens n (n + is.0) (omega arith)).does (at ts end))

-- a tree within the levels of the profile opens none beyond
none_beyond : (t : List Item) (ts : List Lexeme) → IsTree t ts → Read spec.max_levels 0 t ts → too_many_in t ≡ []
none_beyond t ts is (Read.whole given none) = none
none_beyond t ts is (Read.part j refused more opens) = both (spec.tree spec.max_levels (at ts 0)) (t, at [] 0) (too_deep j) (tree_again spec.max_levels 0 t ts is) refused

pub tree_opens_none : (t : List Item) (ts : List Lexeme) → IsTree t ts → too_many_in t ≡ []
tree_opens_none t ts is = none_beyond t ts is (tree_read spec.max_levels 0 t ts (spec.max_levels, is))

-- ---- the codes tell the two apart

expected_not_deep : (k : Term) → refusal_code k ≡ too_many → ⊥
expected_not_deep terms.Refused e = absurd (omega (arith, e))
expected_not_deep _ e = absurd (omega (arith, e))

not_deep : (i j : Input) → refusal i ≡ too_deep j → ⊥
unfolding refusal too_deep
not_deep i j e = expected_not_deep (peek i) (ap (λ (f : Refusal). f.code) e)

deep_place : (i j : Input) → too_deep i ≡ too_deep j → place i ≡ place j
unfolding too_deep
deep_place i j e = ap (λ (f : Refusal). f.place) e

first_is : (p : ℕ) (places more : List ℕ) → places ≡ p ∷ more → IsFirstOf p places
first_is p [] more e = absurd cc
first_is p (q ∷ places) more e = cc

-- ---- tokens in front, and the place of a refusal

refusal_is : (end : ℕ) (ts : List Lexeme) → refusal (at ts end) ≡ refusal_at end ts
unfolding refusal peek place
refusal_is end ts = refl

too_deep_is : (end : ℕ) (ts : List Lexeme) → too_deep (at ts end) ≡ too_deep_at end ts
unfolding too_deep place
too_deep_is end ts = refl

pub same_next : (ts : List Lexeme) → SameNext ts ts
same_next [] = tt
same_next (t ∷ ts) = refl

-- one list is split twice: one of the fronts is a part of the other
data Split (front rest other tail : List Lexeme) : Type 0 where
  within : (t : Lexeme) (behind : List Lexeme) → front ≡ other ++ (t ∷ behind) → tail ≡ t ∷ (behind ++ rest) → Split front rest other tail
  past : (behind : List Lexeme) → rest ≡ behind ++ tail → Split front rest other tail

splits_at : (front rest other tail : List Lexeme) → front ++ rest ≡ other ++ tail → Split front rest other tail
splits_at [] rest other tail e = Split.past other e
splits_at (t ∷ front) rest [] tail e = Split.within t front refl (sym e)
splits_at (t ∷ front) rest (u ∷ other) tail e = by (splits_at front rest other tail cc)
  where
    by : Split front rest other tail → Split (t ∷ front) rest (u ∷ other) tail
    by (Split.within v behind is rests) = Split.within v behind (let same : t ≡ u = cc in rw (same, is) refl) rests
    by (Split.past behind is) = Split.past behind is

all_behind : (P : Lexeme → Type 0) (front tail : List Lexeme) → AllByRecursion P (front ++ tail) → AllByRecursion P tail
all_behind P [] tail all = all
all_behind P (t ∷ front) tail all = all_behind P front tail all.1

module _ (end : ℕ) (front rest : List Lexeme) (d : Refusal) (other : (j : Input) → d ≡ too_deep j → ⊥) (stops : (us : List Lexeme) → SameNext rest us → spec.tree spec.max_levels (at (front ++ us) end) ≡ Err d) (more : List Lexeme) (behind : AreBehind front more) where
  -- a level too many is refused behind the tokens in front
  place_behind : (before tail : List Lexeme) (j : Input) → front ++ more ≡ before ++ tail → place j ≡ place (at tail end) → (tail ≡ [] → ⊥) → ((us : List Lexeme) → SameNext tail us → spec.tree spec.max_levels (at (before ++ us) end) ≡ Err (too_deep j))
      → AllByRecursion (λ t. t.from < place j) front
  unfolding place
  place_behind before [] j splits here some again = absurd (some refl)
  place_behind before (u ∷ tail) j splits here some again = by (splits_at front more before (u ∷ tail) splits)
    where
      by : Split front more before (u ∷ tail) → AllByRecursion (λ t. t.from < place j) front
      by (Split.past middle is) = subst (λ (p : ℕ). AllByRecursion (λ t. t.from < p) front) (sym here) (all_behind (λ u. AllByRecursion (λ t. t.from < u.from) front) middle (u ∷ tail) (subst (λ (l : List Lexeme). AllByRecursion (λ u. AllByRecursion (λ t. t.from < u.from) front) l) is behind)).0
      by (Split.within t middle is rests) =
          let e : spec.tree spec.max_levels (at (before ++ (t ∷ (middle ++ rest))) end) ≡ Err (too_deep j) = again (t ∷ (middle ++ rest)) cc in
          let f : spec.tree spec.max_levels (at (front ++ rest) end) ≡ Err d = stops rest (same_next rest) in
          let g : before ++ (t ∷ (middle ++ rest)) ≡ front ++ rest = sym (ap (λ (l : List Lexeme). l ++ rest) is ∙ append_assoc before (t ∷ middle) rest) in
          absurd (other j (one_err d (too_deep j) (sym f ∙ ap (λ (l : List Lexeme). spec.tree spec.max_levels (at l end)) (sym g) ∙ e)))

-- ---- a refused text

none_in_front : (places : List ℕ) → IsFirstBehind [] places
none_in_front [] = tt
none_in_front (p ∷ places) = tt

first_behind : (front : List Lexeme) (p : ℕ) (more places : List ℕ) → places ≡ p ∷ more → AllByRecursion (λ t. t.from < p) front → IsFirstBehind front places
first_behind front p more places e all = subst (IsFirstBehind front) (sym e) all

no_first : (front : List Lexeme) (places : List ℕ) → places ≡ [] → IsFirstBehind front places
no_first front places e = subst (IsFirstBehind front) (sym e) tt

-- what goes on is not the end
not_the_end : (more : List Lexeme) (t : Lexeme) → SameNext [] (more ++ t ∷ []) → ⊥
not_the_end [] t next = next
not_the_end (u ∷ more) t next = next

some_token : Lexeme
some_token = record { kind = kinds.Foreign; bytes = []; from = 0 }

goes_on : (rest more : List Lexeme) → ((tail : List Lexeme) → SameNext rest (more ++ tail)) → rest ≡ [] → ⊥
goes_on [] more next e = not_the_end more some_token (next (some_token ∷ []))
goes_on (t ∷ rest) more next e = absurd cc

-- how many levels complete what was begun
abbrev more_levels : ℕ
more_levels = spec.max_levels + 2

begins_with : (front : List Lexeme) (t : Lexeme) (rest more : List Lexeme) (tree : List Item) → SameNext (t ∷ rest) more → IsTreeWithin more_levels tree (front ++ more) → BeginsATree (front ++ t ∷ [])
begins_with front t rest [] tree next is = absurd next
begins_with front t rest (u ∷ more) tree next is =
    (more, tree, (more_levels, subst (IsTreeWithin more_levels tree) (ap (λ (x : Lexeme). front ++ x ∷ more) (sym next) ∙ sym (append_assoc front (t ∷ []) more)) is))

-- a token at which a level too many is refused opens it in each tree
opens_here : (end : ℕ) (front : List Lexeme) (t : Lexeme) (rest more : List Lexeme) (tree : List Item) → spec.tree spec.max_levels (at (front ++ t ∷ more) end) ≡ Err (too_deep (at (t ∷ rest) end)) → Read spec.max_levels end tree (front ++ t ∷ more) → IsFirstOf t.from (too_many_in tree)
unfolding place
opens_here end front t rest more tree e (Read.whole given none) = both (spec.tree spec.max_levels (at (front ++ t ∷ more) end)) (tree, at [] end) (too_deep (at (t ∷ rest) end)) given e
opens_here end front t rest more tree e (Read.part j refused others opens) =
    first_is t.from (too_many_in tree) others (opens ∙ ap (λ (p : ℕ). p ∷ others) (deep_place j (at (t ∷ rest) end) (one_err (too_deep j) (too_deep (at (t ∷ rest) end)) (sym refused ∙ e))))

module _ (end : ℕ) where
  module _ (front rest : List Lexeme) (d : Refusal) (stops : (us : List Lexeme) → SameNext rest us → spec.tree spec.max_levels (at (front ++ us) end) ≡ Err d) where
    opens_too_many : (t : Lexeme) (behind : List Lexeme) → rest ≡ t ∷ behind → d ≡ too_deep (at rest end) → (more : List Lexeme) (tree : List Item) → IsAnyTree tree (front ++ t ∷ more) → IsFirstOf t.from (too_many_in tree)
    opens_too_many t behind splits deep more tree is =
        opens_here end front t behind more tree (stops (t ∷ more) (subst (λ (l : List Lexeme). SameNext l (t ∷ more)) (sym splits) refl) ∙ ap (λ (f : Refusal). Err f) (deep ∙ ap (λ (l : List Lexeme). too_deep (at l end)) splits)) (tree_read spec.max_levels end tree (front ++ t ∷ more) is)

    module _ (other : (j : Input) → d ≡ too_deep j → ⊥) where
      no_tree : NoTreeGoesOn front rest
      no_tree us t next is =
          both (spec.tree (spec.max_levels + is.0) (at (front ++ us) end)) (t, at [] end) d
          (still_read is.0 (spec.max_levels + is.0) end (omega arith) (front ++ us) t is.1)
          (still_refused spec.max_levels (spec.max_levels + is.0) end (omega arith) (front ++ us) d (stops us next) other)

      module _ (more : List Lexeme) (behind : AreBehind front more) where
        stopped_behind : (j : Input) → AtOnce (spec.tree spec.max_levels) end (front ++ more) (too_deep j) ⊎ Stopped (spec.tree spec.max_levels) (spec.tree more_levels) (only terms.End) end (front ++ more) (too_deep j) → AllByRecursion (λ t. t.from < place j) front
        stopped_behind j (inl once) = absurd (not_deep (at (front ++ more) end) j (sym once.says))
        stopped_behind j (inr s) = by s.says
          where
            by : Says (too_deep j) end s.rest s.more → AllByRecursion (λ t. t.from < place j) front
            by (inl same) = absurd (not_deep (at s.rest end) j (sym same))
            by (inr deep) = place_behind end front rest d other stops more behind s.front s.rest j s.splits (deep_place j (at s.rest end) deep.0) (goes_on s.rest s.more deep.1) s.again

        read_behind : (tree : List Item) → Read spec.max_levels end tree (front ++ more) → IsFirstBehind front (too_many_in tree)
        read_behind tree (Read.whole given none) = no_first front (too_many_in tree) none
        read_behind tree (Read.part j refused others opens) =
            first_behind front (place j) others (too_many_in tree) opens (stopped_behind j (((tree_completes spec.max_levels more_levels (omega arith)).there end (front ++ more)).stops (too_deep j) refused))

      none_opens : NoneOpensTooMany front
      none_opens more tree behind is = read_behind more behind tree (tree_read spec.max_levels end tree (front ++ more) is)

  module _ (ts : List Lexeme) (d : Refusal) (e : spec.tree spec.max_levels (at ts end) ≡ Err d) where
    -- a tree with more levels, where the tokens in front are completed
    read_on : (front more : List Lexeme) (t : List Item) → spec.tree more_levels (at (front ++ (more ++ [])) end) ≡ Ok (t, at [] end) → IsTreeWithin more_levels t (front ++ (more ++ []))
    read_on front more t read = tree_found more_levels (at (front ++ (more ++ [])) end) t (at [] end) read

    too_deep_with : (front rest more : List Lexeme) (tree : List Item) → ((us : List Lexeme) → SameNext rest us → spec.tree spec.max_levels (at (front ++ us) end) ≡ Err d) → d ≡ too_deep (at rest end) → ((tail : List Lexeme) → SameNext rest (more ++ tail)) → IsTreeWithin more_levels tree (front ++ (more ++ [])) → OpensTooMany front rest
    too_deep_with front [] more tree stops deep next is = absurd (goes_on [] more next refl)
    too_deep_with front (t ∷ rest) more tree stops deep next is = (begins_with front t rest (more ++ []) tree (next []) is, opens_too_many front (t ∷ rest) d stops t rest refl deep)

    refused_by : AtOnce (spec.tree spec.max_levels) end ts d ⊎ Stopped (spec.tree spec.max_levels) (spec.tree more_levels) (only terms.End) end ts d → IsRefusedWith end ts d
    refused_by (inl once) =
        let other : (j : Input) → d ≡ too_deep j → ⊥ = λ j deep. not_deep (at ts end) j (sym once.says ∙ deep) in
        ([], ts, refl, ([], [], (0, refl)), inl (once.says ∙ refusal_is end ts, no_tree [] ts d once.again other, λ more tree behind is. none_in_front (too_many_in tree)))
    refused_by (inr s) = (s.front, s.rest, s.splits, (s.more ++ [], s.value, (more_levels, whole)), said s.says)
      where
        whole : IsTreeWithin more_levels s.value (s.front ++ (s.more ++ []))
        whole = read_on s.front s.more s.value (s.reads [] (same_self terms.End))

        said : Says d end s.rest s.more → ((d ≡ refusal_at end s.rest) × NoTreeGoesOn s.front s.rest × NoneOpensTooMany s.front) ⊎ ((d ≡ too_deep_at end s.rest) × OpensTooMany s.front s.rest)
        said (inl same) =
            let other : (j : Input) → d ≡ too_deep j → ⊥ = λ j deep. not_deep (at s.rest end) j (sym same ∙ deep) in
            inl (same ∙ refusal_is end s.rest, no_tree s.front s.rest d s.again other, none_opens s.front s.rest d s.again other)
        said (inr deep) = inr (deep.0 ∙ too_deep_is end s.rest, too_deep_with s.front s.rest s.more s.value s.again deep.0 deep.1 whole)

    tree_refused : IsRefusedWith end ts d
    tree_refused = refused_by (((tree_completes spec.max_levels more_levels (omega arith)).there end ts).stops d e)

value_refused : (end : ℕ) (r : Outcome (List Item)) (d : Refusal) → spec.ended end (spec.value_of r) ≡ Err d → r ≡ Err d
value_refused end (Ok p) d e = absurd (let differs : ◌≡◌ {A = Result Tree Refusal} (Ok (record { items = p.0; end = end })) (Err d) = e in cc)
value_refused end (Err c) d e = (let same : c ≡ d = cc in ap (λ (z : Refusal). Err z) same)

tokens_refused : (text : List ℕ) (tokens : List Lexeme) (d : Refusal) → lexed text ≡ Ok tokens → spec.parsed text ≡ Err d → IsRefusedWith (length text) tokens d
tokens_refused text tokens d lexes e =
    tree_refused (length text) tokens d (value_refused (length text) (spec.tree spec.max_levels (at tokens (length text))) d (ap (spec.tree_of (length text)) (sym lexes) ∙ e))

-- ---- texts

refusal_over : (text : List ℕ) (d : Refusal) (r : Result (List Lexeme) Refusal) → lexed text ≡ r → IsRefusalOver (length text) r d → IsRefusalOf text d
refusal_over text d r lexes is = subst (λ (s : Result (List Lexeme) Refusal). IsRefusalOver (length text) s d) (sym lexes) is

one_fault : (d f : Refusal) → ◌≡◌ {A = Result Tree Refusal} (Err d) (Err f) → d ≡ f
one_fault d f e = cc

pub text_refused : (text : List ℕ) (d : Refusal) → spec.parsed text ≡ Err d → IsRefusalOf text d
text_refused text d e = by (lexed text) refl
  where
    by : (r : Result (List Lexeme) Refusal) → lexed text ≡ r → IsRefusalOf text d
    by (Ok tokens) lexes = refusal_over text d (Ok tokens) lexes (tokens_refused text tokens d lexes e)
    by (Err faulty) lexes = refusal_over text d (Err faulty) lexes (one_fault faulty d (sym (ap (spec.tree_of (length text)) lexes) ∙ e))

-- a text has a tree or a refusal
pub tree_or_refusal : (text : List ℕ) → ((t : Tree) × IsTreeOf text t) ⊎ ((d : Refusal) × IsRefusalOf text d)
tree_or_refusal text = by (spec.parsed text) refl
  where
    by : (r : Result Tree Refusal) → spec.parsed text ≡ r → ((t : Tree) × IsTreeOf text t) ⊎ ((d : Refusal) × IsRefusalOf text d)
    by (Ok t) e = inl (t, parsed_found text t e)
    by (Err d) e = inr (d, text_refused text d e)

-- and not both
opens_nothing : (place : ℕ) (places : List ℕ) → places ≡ [] → IsFirstOf place places → ⊥
opens_nothing place [] e first = first
opens_nothing place (p ∷ places) e first = absurd cc

refused_no_tree : (end : ℕ) (front rest : List Lexeme) (d : Refusal) (items : List Item) → IsTree items (front ++ rest)
    → ((d ≡ refusal_at end rest) × NoTreeGoesOn front rest × NoneOpensTooMany front) ⊎ ((d ≡ too_deep_at end rest) × OpensTooMany front rest) → ⊥
refused_no_tree end front rest d items is (inl none) = none.1 rest items (same_next rest) (spec.max_levels, is)
refused_no_tree end front [] d items is (inr deep) = deep.1
refused_no_tree end front (t ∷ rest) d items is (inr deep) = opens_nothing t.from (too_many_in items) (tree_opens_none items (front ++ t ∷ rest) is) (deep.1.1 rest items (spec.max_levels, is))

pub tree_not_refused : (text : List ℕ) (t : Tree) (d : Refusal) → IsTreeOf text t → IsRefusalOf text d → ⊥
tree_not_refused text t d is refused =
    let r : IsRefusedWith (length text) is.0 d = subst (λ (s : Result (List Lexeme) Refusal). IsRefusalOver (length text) s d) is.1 refused in
    refused_no_tree (length text) r.0 r.1 d t.items (subst (IsTree t.items) r.2 is.2) r.4

-- ---- in the words of the code

pub lexing_stopped : {X : Type 0} (view : X → List Lexeme) (text : List ℕ) (stop : Stop) → Gives view (Err stop) (lexed text) → IsRefusedBy text (Err stop)
lexing_stopped view text Memory stops = tt
lexing_stopped view text (Refused d) stops = refusal_over text d (Err d) stops refl

pub refusal_given : (text : List ℕ) (result : Result Tree Stop) → Gives (λ t. t) result (spec.parsed text) → IsRefusedBy text result
refusal_given text (Ok t) gives = tt
refusal_given text (Err Memory) gives = tt
refusal_given text (Err (Refused d)) gives = text_refused text d gives
