-- Tokens that complete what was begun.
use Rattle.std.proofs.Common.{◌≡◌, ℕ, Bool, true, false, List, codes, refl}
use Rattle.c_lex.specs.Tokens.{Lexeme}
use Rattle.c_lex.specs.declared.token.Kind.TheVariants as kinds
use Rattle.c_tree.specs.declared.term.Term.{Term}
use Rattle.c_tree.specs.declared.term.Term.TheVariants as terms
use Rattle.c_tree.specs.Words.{words, refused_words, marks}
use Rattle.c_tree.specs.Term.{word_term, mark_term, term_of}

abbrev pub is_there : Term → Bool
is_there terms.End = false
is_there _ = true

-- the token is one of the grammar's kind
pub record IsToken (t : Lexeme) (k : Term) : Type 0 where
  pub is : term_of t ≡ k
  pub some : is_there k ≡ true

abbrev word : List ℕ → Lexeme
word text = record { kind = kinds.Word; bytes = text; from = 0 }

abbrev mark : List ℕ → Lexeme
mark text = record { kind = kinds.Mark; bytes = text; from = 0 }

abbrev pub zero_token : Lexeme
zero_token = record { kind = kinds.Number; bytes = codes "0"; from = 0 }

abbrev pub name_token : Lexeme
name_token = word (codes "x")

abbrev pub int_token : Lexeme
int_token = word (codes "int")

abbrev pub null_token : Lexeme
null_token = word (codes "NULL")

abbrev pub end_token : Lexeme
end_token = word (codes "__VERIFIER_atomic_end")

abbrev pub start_token : Lexeme
start_token = word (codes "PTHREAD_MUTEX_INITIALIZER")

abbrev pub nondet_token : Lexeme
nondet_token = word (codes "__VERIFIER_nondet_int")

abbrev pub mutex_token : Lexeme
mutex_token = word (codes "pthread_mutex_t")

abbrev pub handle_token : Lexeme
handle_token = word (codes "pthread_t")

abbrev pub abort_token : Lexeme
abort_token = word (codes "abort")

abbrev pub open_token : Lexeme
open_token = mark (codes "(")

abbrev pub close_token : Lexeme
close_token = mark (codes ")")

abbrev pub left_token : Lexeme
left_token = mark (codes "{")

abbrev pub right_token : Lexeme
right_token = mark (codes "}")

abbrev pub semicolon : Lexeme
semicolon = mark (codes ";")

abbrev pub comma_token : Lexeme
comma_token = mark (codes ",")

abbrev pub address_token : Lexeme
address_token = mark (codes "&")

abbrev pub increment_token : Lexeme
increment_token = mark (codes "++")

pub is_name : IsToken name_token terms.Name
unfolding word_term words refused_words
is_name = record { is = refl; some = refl }

pub is_int : IsToken int_token terms.Int
unfolding word_term words refused_words
is_int = record { is = refl; some = refl }

pub is_null : IsToken null_token terms.Null
unfolding word_term words refused_words
is_null = record { is = refl; some = refl }

pub is_atomic_end : IsToken end_token terms.AtomicEnd
unfolding word_term words refused_words
is_atomic_end = record { is = refl; some = refl }

pub is_mutex_start : IsToken start_token terms.MutexStart
unfolding word_term words refused_words
is_mutex_start = record { is = refl; some = refl }

pub is_nondet : IsToken nondet_token terms.Nondet
unfolding word_term words refused_words
is_nondet = record { is = refl; some = refl }

pub is_mutex : IsToken mutex_token terms.MutexType
unfolding word_term words refused_words
is_mutex = record { is = refl; some = refl }

pub is_handle : IsToken handle_token terms.HandleType
unfolding word_term words refused_words
is_handle = record { is = refl; some = refl }

pub is_abort : IsToken abort_token terms.Abort
unfolding word_term words refused_words
is_abort = record { is = refl; some = refl }

pub is_open : IsToken open_token terms.LeftParen
unfolding mark_term marks
is_open = record { is = refl; some = refl }

pub is_close : IsToken close_token terms.RightParen
unfolding mark_term marks
is_close = record { is = refl; some = refl }

pub is_left : IsToken left_token terms.LeftBrace
unfolding mark_term marks
is_left = record { is = refl; some = refl }

pub is_right : IsToken right_token terms.RightBrace
unfolding mark_term marks
is_right = record { is = refl; some = refl }

pub is_semicolon : IsToken semicolon terms.Semicolon
unfolding mark_term marks
is_semicolon = record { is = refl; some = refl }

pub is_comma : IsToken comma_token terms.Comma
unfolding mark_term marks
is_comma = record { is = refl; some = refl }

pub is_address : IsToken address_token terms.Address
unfolding mark_term marks
is_address = record { is = refl; some = refl }

pub is_increment : IsToken increment_token terms.Increment
unfolding mark_term marks
is_increment = record { is = refl; some = refl }

pub is_zero : IsToken zero_token terms.Number
is_zero = record { is = refl; some = refl }
