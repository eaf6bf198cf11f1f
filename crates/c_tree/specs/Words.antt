-- The words and marks of the profile, and the words that it refuses.
use Rattle.std.specs.Prelude.{ℕ, List, [], ◌∷◌, codes}
use Rattle.c_tree.specs.declared.term.Term.{Term}
use Rattle.c_tree.specs.declared.term.Term.TheVariants as terms

-- the words that stand for themselves
unfoldable pub words : List (List ℕ × Term)
words =
    (codes "static", terms.Static)
    ∷ (codes "volatile", terms.Volatile)
    ∷ (codes "extern", terms.Extern)
    ∷ (codes "int", terms.Int)
    ∷ (codes "long", terms.Long)
    ∷ (codes "void", terms.Void)
    ∷ (codes "pthread_mutex_t", terms.MutexType)
    ∷ (codes "pthread_t", terms.HandleType)
    ∷ (codes "main", terms.Main)
    ∷ (codes "if", terms.If)
    ∷ (codes "else", terms.Else)
    ∷ (codes "while", terms.While)
    ∷ (codes "for", terms.For)
    ∷ (codes "break", terms.Break)
    ∷ (codes "return", terms.Return)
    ∷ (codes "NULL", terms.Null)
    ∷ (codes "PTHREAD_MUTEX_INITIALIZER", terms.MutexStart)
    ∷ (codes "__VERIFIER_nondet_int", terms.Nondet)
    ∷ (codes "__VERIFIER_assume", terms.Assume)
    ∷ (codes "__VERIFIER_atomic_begin", terms.AtomicBegin)
    ∷ (codes "__VERIFIER_atomic_end", terms.AtomicEnd)
    ∷ (codes "assert", terms.Assert)
    ∷ (codes "reach_error", terms.ReachError)
    ∷ (codes "abort", terms.Abort)
    ∷ (codes "pthread_create", terms.Create)
    ∷ (codes "pthread_join", terms.Join)
    ∷ (codes "pthread_exit", terms.Exit)
    ∷ (codes "pthread_mutex_init", terms.MutexInit)
    ∷ (codes "pthread_mutex_destroy", terms.MutexDestroy)
    ∷ (codes "pthread_mutex_lock", terms.MutexLock)
    ∷ (codes "pthread_mutex_unlock", terms.MutexUnlock)
    ∷ []

-- the words that stand nowhere in the profile
unfoldable pub refused_words : List (List ℕ)
refused_words =
    codes "struct"
    ∷ codes "union"
    ∷ codes "enum"
    ∷ codes "typedef"
    ∷ codes "unsigned"
    ∷ codes "signed"
    ∷ codes "char"
    ∷ codes "short"
    ∷ codes "float"
    ∷ codes "double"
    ∷ codes "_Bool"
    ∷ codes "bool"
    ∷ codes "switch"
    ∷ codes "case"
    ∷ codes "default"
    ∷ codes "goto"
    ∷ codes "do"
    ∷ codes "continue"
    ∷ codes "sizeof"
    ∷ codes "register"
    ∷ codes "auto"
    ∷ codes "inline"
    ∷ codes "_Atomic"
    ∷ codes "pthread_cond_t"
    ∷ codes "pthread_cond_wait"
    ∷ codes "pthread_cond_signal"
    ∷ codes "pthread_cond_broadcast"
    ∷ codes "pthread_barrier_t"
    ∷ codes "sem_t"
    ∷ codes "pthread_mutex_trylock"
    ∷ []

unfoldable pub marks : List (List ℕ × Term)
marks =
    (codes "(", terms.LeftParen)
    ∷ (codes ")", terms.RightParen)
    ∷ (codes "{", terms.LeftBrace)
    ∷ (codes "}", terms.RightBrace)
    ∷ (codes ";", terms.Semicolon)
    ∷ (codes ",", terms.Comma)
    ∷ (codes "=", terms.Assign)
    ∷ (codes "==", terms.Equal)
    ∷ (codes "!=", terms.Unequal)
    ∷ (codes "<", terms.Less)
    ∷ (codes "<=", terms.AtMost)
    ∷ (codes ">", terms.Greater)
    ∷ (codes ">=", terms.AtLeast)
    ∷ (codes "+", terms.Plus)
    ∷ (codes "-", terms.Minus)
    ∷ (codes "*", terms.Star)
    ∷ (codes "&&", terms.And)
    ∷ (codes "||", terms.Or)
    ∷ (codes "!", terms.Not)
    ∷ (codes "&", terms.Address)
    ∷ (codes "++", terms.Increment)
    ∷ (codes "--", terms.Decrement)
    ∷ (codes "+=", terms.AddTo)
    ∷ (codes "-=", terms.SubtractFrom)
    ∷ []
