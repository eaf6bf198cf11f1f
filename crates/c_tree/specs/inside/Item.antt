-- How a whole text is read.
use Rattle.std.specs.Prelude.{ℕ, zero, suc, Bool, true, false, List, [], ◌∷◌, length, if◌then◌else◌, Option, Some, None, Result, Ok, Err}
use Rattle.thr_base.specs.declared.stops.Refusal.{Refusal}
use Rattle.thr_base.specs.Limits.{most_levels}
use Rattle.c_lex.specs.Tokens.{Lexeme, lexed}
use Rattle.c_tree.specs.declared.term.Term.{Term}
use Rattle.c_tree.specs.declared.term.Term.TheVariants as terms
use Rattle.c_tree.specs.declared.stmt.Around.TheVariants as arounds
use Rattle.c_tree.specs.declared.stmt.Block.{Block}
use Rattle.c_tree.specs.declared.item.Start.{Start}
use Rattle.c_tree.specs.declared.item.Gname.{Gname}
use Rattle.c_tree.specs.declared.item.Globals.{Globals}
use Rattle.c_tree.specs.declared.item.Mname.{Mname}
use Rattle.c_tree.specs.declared.item.Locks.{Locks}
use Rattle.c_tree.specs.declared.item.Proto.{Proto}
use Rattle.c_tree.specs.declared.item.Mainfn.{Mainfn}
use Rattle.c_tree.specs.declared.item.Threadfn.{Threadfn}
use Rattle.c_tree.specs.declared.item.Typed.{Typed}
use Rattle.c_tree.specs.declared.item.Typed.TheVariants as typeds
use Rattle.c_tree.specs.declared.item.Untyped.{Untyped}
use Rattle.c_tree.specs.declared.item.Untyped.TheVariants as untypeds
use Rattle.c_tree.specs.declared.item.Body.{Body}
use Rattle.c_tree.specs.declared.item.Body.TheVariants as bodies
use Rattle.c_tree.specs.declared.item.Item.{Item}
use Rattle.c_tree.specs.declared.item.Tree.{Tree}
use Rattle.c_tree.specs.Term.{same_term}
use Rattle.c_tree.specs.inside.Input.{Parser, Outcome, ◌>>=◌, ◌>>◌, pure, refuse, look, here, take_token, eat, expect, peek, sees}
use Rattle.c_tree.specs.inside.Chain.{more_of}
use Rattle.c_tree.specs.inside.Many.{many}
use Rattle.c_tree.specs.inside.Expr.{name, number}
use Rattle.c_tree.specs.inside.Simple.{comma_mark, quals, itype, handles}
use Rattle.c_tree.specs.inside.Stmt.{stmt, block}
pub use Rattle.c_tree.specs.GrammarItem.{is_profile}

-- how many levels may be opened in a function
abbrev pub max_levels : ℕ
max_levels = most_levels

-- the body of a function, whose statements are at the first of so many levels
unfoldable pub body : ℕ → Parser Block
body levels = block levels (stmt levels) arounds.Nothing

-- ---- tokens that are skipped

-- The brackets that are open, as the marks that close them, the innermost first, behind a token; none where it closes
-- another, or the text ends.
abbrev pub closed_by : Term → List Term → Option (List Term)
closed_by k [] = None
closed_by k (top ∷ ends) = if same_term top k then Some ends else None

abbrev pub open_after : Term → List Term → Option (List Term)
open_after terms.End ends = None
open_after terms.LeftParen ends = Some (terms.RightParen ∷ ends)
open_after terms.LeftBrace ends = Some (terms.RightBrace ∷ ends)
open_after terms.RightParen ends = closed_by terms.RightParen ends
open_after terms.RightBrace ends = closed_by terms.RightBrace ends
open_after _ ends = Some ends

-- a token, and then what `others` makes of the brackets that are open
abbrev pub skip_one : (List Term → Parser (Unit {0})) → Option (List Term) → Parser (Unit {0})
skip_one others None = refuse
skip_one others (Some ends) = take_token >> others ends

-- tokens until no bracket is open; the number bounds how many
unfoldable pub skip_from : ℕ → List Term → Parser (Unit {0})
skip_from n [] = pure tt
skip_from zero (top ∷ ends) = refuse
skip_from (suc n) (top ∷ ends) = λ i. skip_one (skip_from n) (open_after (peek i) (top ∷ ends)) i

-- tokens through the mark that closes a bracket, which is open
unfoldable pub skip_through : Term → Parser (Unit {0})
skip_through close = λ i. skip_from (length i.tokens) (close ∷ []) i

-- ---- variables and locks

unfoldable pub start_number : Parser Start
start_number = do
  from ← here
  is_negative ← eat terms.Minus
  value ← number
  pure (record { from = from; is_negative = is_negative; value = value })

abbrev pub start_if : Bool → Parser (Option Start)
start_if true = start_number >>= λ s. pure (Some s)
start_if false = pure None

unfoldable pub gname : Parser Gname
gname = do
  x ← name
  is_set ← eat terms.Assign
  start ← start_if is_set
  pure (record { name = x; start = start })

unfoldable pub globals : Parser Globals
globals = do
  first ← gname
  more ← more_of comma_mark gname
  closed ← expect terms.Semicolon
  pure (record { first = first; more = more })

abbrev pub started_if : Bool → Parser Bool
started_if true = expect terms.MutexStart >>= λ _. pure true
started_if false = pure false

unfoldable pub mname : Parser Mname
mname = do
  x ← name
  is_set ← eat terms.Assign
  is_started ← started_if is_set
  pure (record { name = x; is_started = is_started })

unfoldable pub locks : Parser Locks
locks = do
  from ← expect terms.MutexType
  first ← mname
  more ← more_of comma_mark mname
  closed ← expect terms.Semicolon
  pure (record { from = from; first = first; more = more })

-- ---- functions

-- behind the name of a function of the profile, which is at a place
unfoldable pub proto_end : ℕ → Parser Proto
proto_end from = do
  closed ← expect terms.Semicolon
  pure (record { from = from })

-- `( skipped )`
unfoldable pub skipped_parens : Parser (Unit {0})
skipped_parens = expect terms.LeftParen >> skip_through terms.RightParen

unfoldable pub proto : Parser Proto
proto = do
  from ← take_token
  skipped ← skipped_parens
  proto_end from

-- a word `reach_error` with its parentheses, as a function or a prototype
abbrev pub error_by : ℕ → Bool → Parser Untyped
error_by from true = (expect terms.LeftBrace >> skip_through terms.RightBrace) >>= λ _. pure (untypeds.Errfn (record { from = from }))
error_by from false = proto_end from >>= λ p. pure (untypeds.Proto p)

unfoldable pub error_fn : Parser Untyped
error_fn = do
  from ← take_token
  skipped ← skipped_parens
  is_body ← (λ i. Ok (sees terms.LeftBrace i, i))
  error_by from is_body

-- the name of a parameter, if it has one
abbrev pub name_if : Bool → Parser (Unit {0})
name_if true = name >>= λ _. pure tt
name_if false = pure tt

abbrev pub pointer_if : Bool → Parser (Unit {0})
pointer_if true = (λ i. Ok (sees terms.Name i, i)) >>= name_if
pointer_if false = pure tt

abbrev pub void_if : Bool → Parser (Unit {0})
void_if true = eat terms.Star >>= pointer_if
void_if false = pure tt

-- `( [ void [ * [ name ] ] ] )`
unfoldable pub parameter : Parser (Unit {0})
parameter = do
  opened ← expect terms.LeftParen
  is_void ← eat terms.Void
  said ← void_if is_void
  closed ← expect terms.RightParen
  pure tt

-- ---- items

abbrev pub proto_if : Bool → Parser Proto
proto_if true = proto
proto_if false = refuse

-- a prototype, where the next token is the name of a function of the profile
unfoldable pub profile_proto : Parser Proto
profile_proto = λ i. proto_if (is_profile (peek i)) i

-- ---- with bodies of so many levels

module _ (levels : ℕ) where
  unfoldable pub main_fn : Parser Mainfn
  main_fn = do
    from ← take_token
    opened ← expect terms.LeftParen
    is_void ← eat terms.Void
    closed ← expect terms.RightParen
    b ← body levels
    pure (record { from = from; body = b })

  abbrev pub body_if : Bool → Parser (Option Block)
  body_if true = pure None
  body_if false = body levels >>= λ b. pure (Some b)

  -- behind `void *`
  unfoldable pub thread_fn : Parser Threadfn
  thread_fn = do
    f ← name
    said ← parameter
    is_proto ← eat terms.Semicolon
    b ← body_if is_proto
    pure (record { name = f; body = b })

  -- ---- items

  abbrev pub typed_by : Term → Parser Typed
  typed_by terms.Name = globals >>= λ g. pure (typeds.Globals g)
  typed_by terms.Main = main_fn >>= λ m. pure (typeds.Main m)
  typed_by _ = profile_proto >>= λ p. pure (typeds.Proto p)

  unfoldable pub typed : Parser Typed
  typed = look >>= typed_by

  abbrev pub untyped_by : Term → Parser Untyped
  untyped_by terms.Star = take_token >> (thread_fn >>= λ t. pure (untypeds.Thread t))
  untyped_by terms.ReachError = error_fn
  untyped_by _ = profile_proto >>= λ p. pure (untypeds.Proto p)

  unfoldable pub untyped : Parser Untyped
  untyped = look >>= untyped_by

  unfoldable pub typed_body : Parser Body
  typed_body = do
    kind ← itype
    t ← typed
    pure (bodies.Typed kind t)

  unfoldable pub void_body : Parser Body
  void_body = do
    from ← take_token
    u ← untyped
    pure (bodies.Void from u)

  abbrev pub body_by : Term → Parser Body
  body_by terms.Int = typed_body
  body_by terms.Long = typed_body
  body_by terms.Void = void_body
  body_by terms.MutexType = locks >>= λ l. pure (bodies.Locks l)
  body_by terms.HandleType = handles >>= λ h. pure (bodies.Handles h)
  body_by _ = refuse

  unfoldable pub item_body : Parser Body
  item_body = look >>= body_by

  unfoldable pub item : Parser Item
  item = do
    from ← here
    qs ← quals
    b ← item_body
    pure (record { from = from; quals = qs; body = b })

  -- items up to the end of the text
  unfoldable pub tree : Parser (List Item)
  tree = many terms.End item

-- ---- texts

-- what a parser gives, without the input that it leaves
abbrev pub value_of : {A : Type 0} → Outcome A → Result A Refusal
value_of (Ok p) = Ok p.0
value_of (Err refusal) = Err refusal

-- items as the tree of a text that has so many bytes
abbrev pub ended : ℕ → Result (List Item) Refusal → Result Tree Refusal
ended end (Ok items) = Ok (record { items = items; end = end })
ended end (Err refusal) = Err refusal

-- the tree of tokens of a text that has so many bytes
abbrev pub tree_of : ℕ → Result (List Lexeme) Refusal → Result Tree Refusal
tree_of end (Err refusal) = Err refusal
tree_of end (Ok tokens) = ended end (value_of (tree max_levels (record { tokens = tokens; end = end })))

-- The tree of a text, or the first refusal: that of its first faulty token, and else that of its grammar.
abbrev pub parsed : List ℕ → Result Tree Refusal
parsed text = tree_of (length text) (lexed text)
