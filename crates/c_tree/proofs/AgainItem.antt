-- An item that stands in the text is read.
use Rattle.std.proofs.Common.{◌≡◌, ℕ, true, false, List, [], ◌∷◌, Ok, refl, ap, ◌∙◌}
use Rattle.c_lex.specs.Tokens.{Lexeme}
use Rattle.c_tree.specs.declared.term.Term.{Term}
use Rattle.c_tree.specs.declared.term.Term.TheVariants as terms
use Rattle.c_tree.specs.declared.simple.Qual.{Qual}
use Rattle.c_tree.specs.declared.simple.QualKind.{QualKind}
use Rattle.c_tree.specs.declared.simple.QualKind.TheVariants as kinds
use Rattle.c_tree.specs.declared.simple.Itype.{Itype}
use Rattle.c_tree.specs.declared.simple.Itype.TheVariants as itypes
use Rattle.c_tree.specs.declared.item.Proto.{Proto}
use Rattle.c_tree.specs.declared.item.Typed.{Typed}
use Rattle.c_tree.specs.declared.item.Typed.TheVariants as typeds
use Rattle.c_tree.specs.declared.item.Untyped.TheVariants as untypeds
use Rattle.c_tree.specs.declared.item.Body.{Body}
use Rattle.c_tree.specs.declared.item.Body.TheVariants as bodies
use Rattle.c_tree.specs.declared.item.Item.{Item}
use Rattle.c_tree.specs.Term.{same_term}
use Rattle.c_tree.specs.inside.Input.{◌>>=◌, pure, peek, sees, term_at}
use Rattle.c_tree.specs.inside.Simple.{qual_mark}
use Rattle.c_tree.specs.inside.Item as spec
use Rattle.c_tree.specs.Grammar.{Is, Stands}
use Rattle.c_tree.specs.Sequence.{AreAll, InParens}
use Rattle.c_tree.specs.GrammarSimple.{qual_term, IsQual, IsItype}
use Rattle.c_tree.specs.GrammarItem.{IsSkipped, IsTyped, IsUntyped, IsItemBody, IsItem}
use Rattle.c_tree.proofs.Again.{at, is_place, is_behind, is_term, starts_place}
use Rattle.c_tree.proofs.AgainParts.{Always, not_seen}
use Rattle.c_tree.proofs.AgainLocal.{NoQual, quals_again, itype_again, itype_no_qual, handles_again}
use Rattle.c_tree.proofs.AgainGlobals.{globals_again, locks_again}
use Rattle.c_tree.proofs.AgainFunctions.{profile_proto_again, errfn_again, error_proto_again, main_again, thread_again}
use Rattle.c_tree.proofs.Leads.{impossible}

-- ---- behind a type of numbers

module _ (levels : ℕ) where
  typed_by_profile : (k : Term) → spec.is_profile k ≡ true → (spec.typed_by levels) k ≡ (spec.profile_proto >>= (λ p. pure (typeds.Proto p)))
  typed_by_profile terms.Name so = impossible so
  typed_by_profile terms.Main so = impossible so
  typed_by_profile _ so = refl

  typed_again : Always (spec.typed levels) (IsTyped levels)
  unfolding spec.typed peek
  typed_again end (typeds.Globals g) ts rest is = rw (is_term terms.Name g.first.name.from ts is.1.0 is.1.1.0, globals_again end g ts rest is) refl
  typed_again end (typeds.Main m) ts rest is = rw (is_term terms.Main m.from ts is.0 is.1, (main_again levels) end m ts rest is) refl
  typed_again end (typeds.Proto p) ts rest is =
      let word = is.1 in
      rw (is_term word.0 p.from ts is.0 word.2, typed_by_profile word.0 word.1, profile_proto_again end p ts rest is) refl

  profile_no_int : (k : Term) → spec.is_profile k ≡ true → same_term k terms.Int ≡ false
  unfolding same_term
  profile_no_int terms.Int so = impossible so
  profile_no_int _ so = refl

  -- a type does not go on there
  typed_no_int : (t : Typed) (ts rest : List Lexeme) → (IsTyped levels) t ts rest → same_term (term_at ts) terms.Int ≡ false
  unfolding same_term
  typed_no_int (typeds.Globals g) ts rest is = ap (λ (k : Term). same_term k terms.Int) (is_term terms.Name g.first.name.from ts is.1.0 is.1.1.0)
  typed_no_int (typeds.Main m) ts rest is = ap (λ (k : Term). same_term k terms.Int) (is_term terms.Main m.from ts is.0 is.1)
  typed_no_int (typeds.Proto p) ts rest is = ap (λ (k : Term). same_term k terms.Int) (is_term is.1.0 p.from ts is.0 is.1.2) ∙ profile_no_int is.1.0 is.1.1

  -- ---- behind `void`

  untyped_by_profile : (k : Term) → spec.is_profile k ≡ true → (k ≡ terms.ReachError → ⊥) → (spec.untyped_by levels) k ≡ (spec.profile_proto >>= (λ p. pure (untypeds.Proto p)))
  untyped_by_profile terms.Star so other = impossible so
  untyped_by_profile terms.ReachError so other = absurd (other refl)
  untyped_by_profile _ so other = refl

  -- a prototype of another function
  other_proto_again : (end : ℕ) (p : Proto) (ts parens behind rest : List Lexeme) (word : Term) → spec.is_profile word ≡ true → (word ≡ terms.ReachError → ⊥) → Is word p.from ts parens → InParens IsSkipped parens behind → Stands terms.Semicolon behind rest
      → (spec.untyped_by levels) word (at ts end) ≡ Ok (untypeds.Proto p, at rest end)
  other_proto_again end p ts parens behind rest word so other is skipped ends =
      rw (untyped_by_profile word so other, profile_proto_again end p ts rest (parens, (word, so, is), (behind, skipped, ends))) refl

  untyped_proto_again : (end : ℕ) (p : Proto) (ts parens behind rest : List Lexeme) (word : Term) → spec.is_profile word ≡ true → Is word p.from ts parens → InParens IsSkipped parens behind → Stands terms.Semicolon behind rest
      → (spec.untyped_by levels) word (at ts end) ≡ Ok (untypeds.Proto p, at rest end)
  untyped_proto_again end p ts parens behind rest terms.ReachError so is skipped ends = (error_proto_again levels) end p.from ts parens behind rest is skipped ends
  untyped_proto_again end p ts parens behind rest word so is skipped ends = other_proto_again end p ts parens behind rest word so (λ h. cc) is skipped ends

  untyped_again : Always (spec.untyped levels) (IsUntyped levels)
  unfolding spec.untyped peek
  untyped_again end (untypeds.Thread t) ts rest is =
      let star = is.1 in
      rw (is_term terms.Star star.0 ts is.0 star.1, is_behind terms.Star star.0 end ts is.0 star.1, (thread_again levels) end t is.0 rest is.2) refl
  untyped_again end (untypeds.Proto p) ts rest is =
      let word = is.1 in
      rw (is_term word.0 p.from ts is.0 word.2) (untyped_proto_again end p ts is.0 is.2.0 rest word.0 word.1 word.2 is.2.1 is.2.2)
  untyped_again end (untypeds.Errfn e) ts rest is = rw (is_term terms.ReachError e.from ts is.0 is.1) ((errfn_again levels) end e.from ts rest is)

  -- ---- items

  -- a type of numbers begins with one of two words
  body_by_type : (kind : Itype) (ts rest : List Lexeme) → IsItype kind ts rest → (spec.body_by levels) (term_at ts) ≡ (spec.typed_body levels)
  body_by_type (itypes.Int from) ts rest is = rw (is_term terms.Int from ts rest is) refl
  body_by_type (itypes.Long from) ts rest is = rw (is_term terms.Long from ts rest is) refl
  body_by_type (itypes.LongInt from) ts rest is = rw (is_term terms.Long from ts is.0 is.1) refl

  item_body_again : Always (spec.item_body levels) (IsItemBody levels)
  unfolding spec.item_body spec.typed_body spec.void_body peek
  item_body_again end (bodies.Typed kind t) ts rest is =
      rw (body_by_type kind ts is.0 is.1, itype_again end kind ts is.0 is.1 (typed_no_int t is.0 rest is.2), typed_again end t is.0 rest is.2) refl
  item_body_again end (bodies.Void from u) ts rest is =
      rw (is_term terms.Void from ts is.0 is.1, is_place terms.Void from end ts is.0 is.1, is_behind terms.Void from end ts is.0 is.1, untyped_again end u is.0 rest is.2) refl
  item_body_again end (bodies.Locks l) ts rest is = rw (is_term terms.MutexType l.from ts is.0 is.1, locks_again end l ts rest is) refl
  item_body_again end (bodies.Handles h) ts rest is = rw (is_term terms.HandleType h.from ts is.0 is.1, handles_again end h ts rest is) refl

  body_no_qual : (b : Body) (ts rest : List Lexeme) → (IsItemBody levels) b ts rest → NoQual (term_at ts)
  body_no_qual (bodies.Typed kind t) ts rest is place = itype_no_qual kind ts is.0 is.1 place
  body_no_qual (bodies.Void from u) ts rest is place = ap (λ (k : Term). qual_mark k place) (is_term terms.Void from ts is.0 is.1)
  body_no_qual (bodies.Locks l) ts rest is place = ap (λ (k : Term). qual_mark k place) (is_term terms.MutexType l.from ts is.0 is.1)
  body_no_qual (bodies.Handles h) ts rest is place = ap (λ (k : Term). qual_mark k place) (is_term terms.HandleType h.from ts is.0 is.1)

  pub item_again : Always (spec.item levels) (IsItem levels)
  unfolding spec.item
  item_again end i ts rest is =
      let all = is.1 in
      rw (quals_again end i.quals ts all.0 all.1 (body_no_qual i.body all.0 rest all.2), item_body_again end i.body all.0 rest all.2, starts_place i.from end ts is.0) refl

  -- ---- an item begins with a token

  itype_no_end : (kind : Itype) (ts rest : List Lexeme) → IsItype kind ts rest → same_term (term_at ts) terms.End ≡ false
  unfolding same_term
  itype_no_end (itypes.Int from) ts rest is = ap (λ (k : Term). same_term k terms.End) (is_term terms.Int from ts rest is)
  itype_no_end (itypes.Long from) ts rest is = ap (λ (k : Term). same_term k terms.End) (is_term terms.Long from ts rest is)
  itype_no_end (itypes.LongInt from) ts rest is = ap (λ (k : Term). same_term k terms.End) (is_term terms.Long from ts is.0 is.1)

  body_no_end : (b : Body) (ts rest : List Lexeme) → (IsItemBody levels) b ts rest → same_term (term_at ts) terms.End ≡ false
  unfolding same_term
  body_no_end (bodies.Typed kind t) ts rest is = itype_no_end kind ts is.0 is.1
  body_no_end (bodies.Void from u) ts rest is = ap (λ (k : Term). same_term k terms.End) (is_term terms.Void from ts is.0 is.1)
  body_no_end (bodies.Locks l) ts rest is = ap (λ (k : Term). same_term k terms.End) (is_term terms.MutexType l.from ts is.0 is.1)
  body_no_end (bodies.Handles h) ts rest is = ap (λ (k : Term). same_term k terms.End) (is_term terms.HandleType h.from ts is.0 is.1)

  qual_no_end : (kind : QualKind) → same_term (qual_term kind) terms.End ≡ false
  unfolding same_term
  qual_no_end kinds.Static = refl
  qual_no_end kinds.Volatile = refl
  qual_no_end kinds.Extern = refl

  quals_no_end : (qs : List Qual) (b : Body) (ts mid rest : List Lexeme) → AreAll IsQual qs ts mid → (IsItemBody levels) b mid rest → same_term (term_at ts) terms.End ≡ false
  quals_no_end [] b ts mid rest are is = ap (λ (l : List Lexeme). same_term (term_at l) terms.End) are ∙ body_no_end b mid rest is
  quals_no_end (q ∷ qs) b ts mid rest are is = ap (λ (k : Term). same_term k terms.End) (is_term (qual_term q.kind) q.from ts are.0 are.1) ∙ qual_no_end q.kind

  pub item_no_end : (end : ℕ) (i : Item) (ts rest : List Lexeme) → (IsItem levels) i ts rest → sees terms.End (at ts end) ≡ false
  item_no_end end i ts rest is = not_seen terms.End end ts (quals_no_end i.quals i.body ts is.1.0 rest is.1.1 is.1.2)
