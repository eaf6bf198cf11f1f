-- Variables and locks that stand in the text are read.
use Rattle.std.proofs.Common.{◌≡◌, ℕ, ℤ, Bool, true, false, List, Option, Some, None, Ok, refl, ap, ◌∙◌}
use Rattle.c_lex.specs.Tokens.{Lexeme}
use Rattle.c_tree.specs.declared.term.Term.{Term}
use Rattle.c_tree.specs.declared.term.Term.TheVariants as terms
use Rattle.c_tree.specs.declared.item.Start.{Start}
use Rattle.c_tree.specs.Term.{same_term}
use Rattle.c_tree.specs.inside.Input.{sees, after, term_at}
use Rattle.c_tree.specs.inside.Item as spec
use Rattle.c_tree.specs.Grammar.{Stands}
use Rattle.c_tree.specs.Sequence.{◌then◌, Perhaps}
use Rattle.c_tree.specs.GrammarItem.{IsSign, IsNumber, IsStart, IsGname, IsGlobals, IsStarted, IsMname, IsLocks}
use Rattle.c_tree.proofs.ItemSizes.{gname_shrinks, mname_shrinks}
use Rattle.c_tree.proofs.Again.{at, is_term, starts_place, expect_again, name_again, number_again}
use Rattle.c_tree.proofs.AgainParts.{Always, Closed, closes, stands_term, stands_again, is_eaten, behind_eaten, not_seen, not_behind, not_assign, behind_item, list_again}

number_no_minus : (from : ℕ) (ts rest : List Lexeme) → Rattle.c_tree.specs.Grammar.Is terms.Number from ts rest → same_term (term_at ts) terms.Minus ≡ false
unfolding same_term
number_no_minus from ts rest is = ap (λ (k : Term). same_term k terms.Minus) (is_term terms.Number from ts rest is)

-- a sign, or none, in front of a number
no_sign : (value : ℤ) (ts mid rest : List Lexeme) → ts ≡ mid → IsNumber value mid rest → same_term (term_at ts) terms.Minus ≡ false
no_sign value ts mid rest none is = ap (λ (l : List Lexeme). same_term (term_at l) terms.Minus) none ∙ number_no_minus is.0.0 mid rest is.0.1

sign_seen : (end : ℕ) (b : Bool) (value : ℤ) (ts rest : List Lexeme) → (IsSign b then IsNumber value) ts rest → sees terms.Minus (at ts end) ≡ b
sign_seen end true value ts rest is = is_eaten terms.Minus end ts is.0 is.1
sign_seen end false value ts rest is = not_seen terms.Minus end ts (no_sign value ts is.0 rest is.1 is.2)

sign_passed : (end : ℕ) (b : Bool) (value : ℤ) (ts rest : List Lexeme) (is : (IsSign b then IsNumber value) ts rest) → after terms.Minus (at ts end) ≡ at is.0 end
sign_passed end true value ts rest is = behind_eaten terms.Minus end ts is.0 is.1
sign_passed end false value ts rest is = not_behind terms.Minus end ts (no_sign value ts is.0 rest is.1 is.2) ∙ ap (λ (l : List Lexeme). at l end) is.1

start_number_again : Always spec.start_number IsStart
unfolding spec.start_number
start_number_again end s ts rest is =
    let signed = is.1 in
    rw (sign_seen end s.is_negative s.value ts rest signed, sign_passed end s.is_negative s.value ts rest signed, number_again signed.2.0.0 end s.value signed.0 rest signed.2.0.1 signed.2.1, starts_place s.from end ts is.0) refl

start_again : (end : ℕ) (start : Option Start) (ts rest : List Lexeme) → Perhaps (λ s. Stands terms.Assign then IsStart s) start ts rest → closes (term_at rest) ≡ true → spec.start_if (sees terms.Assign (at ts end)) (after terms.Assign (at ts end)) ≡ Ok (start, at rest end)
start_again end None ts rest is so =
    let other = not_assign (term_at ts) (ap (λ (l : List Lexeme). closes (term_at l)) is ∙ so) in
    rw (not_seen terms.Assign end ts other, not_behind terms.Assign end ts other) (ap (λ (l : List Lexeme). Ok (None, at l end)) is)
start_again end (Some s) ts rest is so =
    rw (is_eaten terms.Assign end ts is.0 is.1, behind_eaten terms.Assign end ts is.0 is.1, start_number_again end s is.0 rest is.2) refl

gname_again : Closed spec.gname IsGname
unfolding spec.gname
gname_again end g ts rest is so = rw (name_again end g.name ts is.0 is.1, start_again end g.start is.0 rest is.2 so) refl

pub globals_again : Always spec.globals IsGlobals
unfolding spec.globals
globals_again end g ts rest is =
    let more = is.2 in
    let ends = stands_term terms.Semicolon more.0 rest more.2 in
    let behind = behind_item spec.gname IsGname gname_again gname_shrinks g.more is.0 more.0 more.1 ends in
    rw (gname_again end g.first ts is.0 is.1 behind, list_again spec.gname IsGname gname_again gname_shrinks end g.more is.0 more.0 more.1 ends, stands_again terms.Semicolon end more.0 rest more.2) refl

started_again : (end : ℕ) (started : Bool) (ts rest : List Lexeme) → IsStarted started ts rest → closes (term_at rest) ≡ true → spec.started_if (sees terms.Assign (at ts end)) (after terms.Assign (at ts end)) ≡ Ok (started, at rest end)
started_again end false ts rest is so =
    let other = not_assign (term_at ts) (ap (λ (l : List Lexeme). closes (term_at l)) is ∙ so) in
    rw (not_seen terms.Assign end ts other, not_behind terms.Assign end ts other) (ap (λ (l : List Lexeme). Ok (false, at l end)) is)
started_again end true ts rest is so =
    rw (is_eaten terms.Assign end ts is.0 is.1, behind_eaten terms.Assign end ts is.0 is.1, stands_again terms.MutexStart end is.0 rest is.2) refl

mname_again : Closed spec.mname IsMname
unfolding spec.mname
mname_again end m ts rest is so = rw (name_again end m.name ts is.0 is.1, started_again end m.is_started is.0 rest is.2 so) refl

pub locks_again : Always spec.locks IsLocks
unfolding spec.locks
locks_again end l ts rest is =
    let first = is.2 in
    let more = first.2 in
    let ends = stands_term terms.Semicolon more.0 rest more.2 in
    let behind = behind_item spec.mname IsMname mname_again mname_shrinks l.more first.0 more.0 more.1 ends in
    rw (
      expect_again terms.MutexType l.from end ts is.0 is.1,
      mname_again end l.first is.0 first.0 first.1 behind,
      list_again spec.mname IsMname mname_again mname_shrinks end l.more first.0 more.0 more.1 ends,
      stands_again terms.Semicolon end more.0 rest more.2,
    ) refl
