-- Declarations that stand in the text are read.
use Rattle.std.proofs.Common.{◌≡◌, ℕ, zero, suc, ◌≤◌, true, false, List, [], ◌∷◌, length, Option, Some, None, Ok, refl, ap, ◌∙◌, arith}
use Rattle.c_lex.specs.Tokens.{Lexeme}
use Rattle.c_tree.specs.declared.term.Term.{Term}
use Rattle.c_tree.specs.declared.term.Term.TheVariants as terms
use Rattle.c_tree.specs.declared.simple.Right.{Right}
use Rattle.c_tree.specs.declared.simple.Qual.{Qual}
use Rattle.c_tree.specs.declared.simple.QualKind.{QualKind}
use Rattle.c_tree.specs.declared.simple.QualKind.TheVariants as kinds
use Rattle.c_tree.specs.declared.simple.Itype.{Itype}
use Rattle.c_tree.specs.declared.simple.Itype.TheVariants as itypes
use Rattle.c_tree.specs.Term.{same_term}
use Rattle.c_tree.specs.inside.Input.{Input, Parser, peek, place, sees, after, expect, term_at}
use Rattle.c_tree.specs.inside.Chain.{mark_at}
use Rattle.c_tree.specs.inside.Expr as expr_spec
use Rattle.c_tree.specs.inside.Simple as spec
use Rattle.c_tree.specs.Grammar.{Is, Stands, IsName}
use Rattle.c_tree.specs.Sequence.{◌then◌, Perhaps, AreAll}
use Rattle.c_tree.specs.GrammarSimple.{qual_term, IsQual, IsItype, IsRight, IsLname, IsLocal, IsHandles}
use Rattle.c_tree.proofs.Shrinks.{name_shrinks}
use Rattle.c_tree.proofs.Sizes.{lname_shrinks}
use Rattle.c_tree.proofs.Again.{at, is_peek, is_place, is_behind, is_term, is_longer, starts_place, expect_again, name_again}
use Rattle.c_tree.proofs.AgainParts.{Always, Closed, closes, stands_term, stands_again, is_eaten, behind_eaten, not_seen, not_behind, not_assign, behind_item, list_again}
use Rattle.c_tree.proofs.AgainSimple.{right_again}

-- ---- types

qual_mark_is : (kind : QualKind) (from : ℕ) → spec.qual_mark (qual_term kind) from ≡ Some (record { from = from; kind = kind })
qual_mark_is kinds.Static from = refl
qual_mark_is kinds.Volatile from = refl
qual_mark_is kinds.Extern from = refl

qual_at : (end : ℕ) (q : Qual) (ts behind : List Lexeme) → IsQual q ts behind → mark_at spec.qual_mark (at ts end) ≡ Some q
qual_at end q ts behind is = rw (is_peek (qual_term q.kind) q.from end ts behind is, is_place (qual_term q.kind) q.from end ts behind is) (qual_mark_is q.kind q.from)

-- the token is no word in front of a type
abbrev pub NoQual : Term → Type 0
NoQual k = (from : ℕ) → spec.qual_mark k from ≡ None

no_qual_at : (end : ℕ) (ts rest : List Lexeme) → ts ≡ rest → NoQual (term_at rest) → mark_at spec.qual_mark (at ts end) ≡ None
unfolding peek
no_qual_at end ts rest same none = ap (λ (l : List Lexeme). spec.qual_mark (term_at l) (place (at ts end))) same ∙ none (place (at ts end))

quals_from_again : (n end : ℕ) (qs : List Qual) (ts rest : List Lexeme) → length ts ≤ n → AreAll IsQual qs ts rest → NoQual (term_at rest) → spec.quals_from n (at ts end) ≡ Ok (qs, at rest end)
unfolding spec.quals_from
quals_from_again zero end [] ts rest le are none = ap (λ (l : List Lexeme). Ok ([], at l end)) are
quals_from_again (suc n) end [] ts rest le are none = rw (no_qual_at end ts rest are none) (ap (λ (l : List Lexeme). Ok ([], at l end)) are)
quals_from_again zero end (q ∷ qs) ts rest le are none = absurd (omega (arith, is_longer (qual_term q.kind) q.from ts are.0 are.1))
quals_from_again (suc n) end (q ∷ qs) ts rest le are none =
    let fewer = is_longer (qual_term q.kind) q.from ts are.0 are.1 in
    let others = quals_from_again n end qs are.0 rest (omega arith) are.2 none in
    rw (qual_at end q ts are.0 are.1, is_behind (qual_term q.kind) q.from end ts are.0 are.1, others) refl

pub quals_again : (end : ℕ) (qs : List Qual) (ts rest : List Lexeme) → AreAll IsQual qs ts rest → NoQual (term_at rest) → spec.quals (at ts end) ≡ Ok (qs, at rest end)
unfolding spec.quals
quals_again end qs ts rest are none = quals_from_again (length ts) end qs ts rest (omega arith) are none

-- a type is read in front of a token that does not go on with it
pub itype_again : (end : ℕ) (kind : Itype) (ts rest : List Lexeme) → IsItype kind ts rest → same_term (term_at rest) terms.Int ≡ false → spec.itype (at ts end) ≡ Ok (kind, at rest end)
unfolding spec.itype
itype_again end (itypes.Int from) ts rest is other = rw (is_peek terms.Int from end ts rest is, is_place terms.Int from end ts rest is, is_behind terms.Int from end ts rest is) refl
itype_again end (itypes.Long from) ts rest is other =
    rw (is_peek terms.Long from end ts rest is, is_place terms.Long from end ts rest is, is_behind terms.Long from end ts rest is, not_seen terms.Int end rest other, not_behind terms.Int end rest other) refl
itype_again end (itypes.LongInt from) ts rest is other =
    rw (is_peek terms.Long from end ts is.0 is.1, is_place terms.Long from end ts is.0 is.1, is_behind terms.Long from end ts is.0 is.1, is_eaten terms.Int end is.0 rest is.2, behind_eaten terms.Int end is.0 rest is.2) refl

pub itype_no_qual : (kind : Itype) (ts rest : List Lexeme) → IsItype kind ts rest → NoQual (term_at ts)
itype_no_qual (itypes.Int from) ts rest is place = ap (λ (k : Term). spec.qual_mark k place) (is_term terms.Int from ts rest is)
itype_no_qual (itypes.Long from) ts rest is place = ap (λ (k : Term). spec.qual_mark k place) (is_term terms.Long from ts rest is)
itype_no_qual (itypes.LongInt from) ts rest is place = ap (λ (k : Term). spec.qual_mark k place) (is_term terms.Long from ts is.0 is.1)

-- a name is no `int`
pub name_no_int : (from : ℕ) (ts rest : List Lexeme) → Is terms.Name from ts rest → same_term (term_at ts) terms.Int ≡ false
unfolding same_term
name_no_int from ts rest is = ap (λ (k : Term). same_term k terms.Int) (is_term terms.Name from ts rest is)

-- ---- declarations

module _ (levels : ℕ) where
  start_again : (end : ℕ) (start : Option Right) (ts rest : List Lexeme) → Perhaps (λ e. Stands terms.Assign then IsRight levels e) start ts rest → closes (term_at rest) ≡ true
      → Rattle.c_tree.specs.inside.Input.and_then (Ok (sees terms.Assign (at ts end), after terms.Assign (at ts end))) (spec.start_if levels) ≡ Ok (start, at rest end)
  start_again end None ts rest is so =
      let other = not_assign (term_at ts) (ap (λ (l : List Lexeme). closes (term_at l)) is ∙ so) in
      rw (not_seen terms.Assign end ts other, not_behind terms.Assign end ts other) (ap (λ (l : List Lexeme). Ok (None, at l end)) is)
  start_again end (Some e) ts rest is so =
      rw (is_eaten terms.Assign end ts is.0 is.1, behind_eaten terms.Assign end ts is.0 is.1, right_again levels end e is.0 rest is.2 so) refl

  pub lname_again : Closed (spec.lname levels) (IsLname levels)
  unfolding spec.lname
  lname_again end l ts rest is so = rw (name_again end l.name ts is.0 is.1, start_again end l.start is.0 rest is.2 so) refl

  pub local_again : Always (spec.local levels) (IsLocal levels)
  unfolding spec.local
  local_again end l ts rest is =
      let all = is.1 in
      let typed = all.2 in
      let first = typed.2 in
      let more = first.2 in
      let ends = stands_term terms.Semicolon more.0 rest more.2 in
      let behind = behind_item (spec.lname levels) (IsLname levels) (lname_again) (lname_shrinks levels) l.more first.0 more.0 more.1 ends in
      rw (
        quals_again end l.quals ts all.0 all.1 (itype_no_qual l.itype all.0 typed.0 typed.1),
        itype_again end l.itype all.0 typed.0 typed.1 (name_no_int l.first.name.from typed.0 first.1.0 first.1.1.0),
        lname_again end l.first typed.0 first.0 first.1 behind,
        list_again (spec.lname levels) (IsLname levels) lname_again (lname_shrinks levels) end l.more first.0 more.0 more.1 ends,
        stands_again terms.Semicolon end more.0 rest more.2,
        starts_place l.from end ts is.0,
      ) refl

name_closed : Closed expr_spec.name IsName
name_closed end x ts rest is so = name_again end x ts rest is

pub handles_again : Always spec.handles IsHandles
unfolding spec.handles
handles_again end h ts rest is =
    let first = is.2 in
    let more = first.2 in
    let ends = stands_term terms.Semicolon more.0 rest more.2 in
    rw (
      expect_again terms.HandleType h.from end ts is.0 is.1,
      name_again end h.first is.0 first.0 first.1,
      list_again expr_spec.name IsName name_closed name_shrinks end h.more first.0 more.0 more.1 ends,
      stands_again terms.Semicolon end more.0 rest more.2,
    ) refl
