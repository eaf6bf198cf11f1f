-- The grammar of whole texts: which tokens a tree stands for, by cases on the tree.
use Rattle.std.specs.Prelude.{◌≡◌, ◌⊎◌, ℕ, ℤ, Bool, true, false, List, [], length, Option, Some, None, Ok}
use Rattle.thr_base.specs.Limits.{most_levels}
use Rattle.c_lex.specs.Tokens.{Lexeme, lexed}
use Rattle.c_tree.specs.declared.term.Term.{Term}
use Rattle.c_tree.specs.declared.term.Term.TheVariants as terms
use Rattle.c_tree.specs.declared.stmt.Around.TheVariants as arounds
use Rattle.c_tree.specs.declared.stmt.Block.{Block}
use Rattle.c_tree.specs.declared.item.Start.{Start}
use Rattle.c_tree.specs.declared.item.Gname.{Gname}
use Rattle.c_tree.specs.declared.item.Globals.{Globals}
use Rattle.c_tree.specs.declared.item.Mname.{Mname}
use Rattle.c_tree.specs.declared.item.Locks.{Locks}
use Rattle.c_tree.specs.declared.item.Proto.{Proto}
use Rattle.c_tree.specs.declared.item.Errfn.{Errfn}
use Rattle.c_tree.specs.declared.item.Mainfn.{Mainfn}
use Rattle.c_tree.specs.declared.item.Threadfn.{Threadfn}
use Rattle.c_tree.specs.declared.item.Typed.{Typed}
use Rattle.c_tree.specs.declared.item.Typed.TheVariants as typeds
use Rattle.c_tree.specs.declared.item.Untyped.{Untyped}
use Rattle.c_tree.specs.declared.item.Untyped.TheVariants as untypeds
use Rattle.c_tree.specs.declared.item.Body.{Body}
use Rattle.c_tree.specs.declared.item.Body.TheVariants as bodies
use Rattle.c_tree.specs.declared.item.Item.{Item}
use Rattle.c_tree.specs.declared.item.Tree.{Tree}
use Rattle.c_tree.specs.Next.{bytes_at}
use Rattle.c_tree.specs.Grammar.{Is, Stands, StartsAt, number_value, IsName}
use Rattle.c_tree.specs.Sequence.{Part, NoToken, ◌then◌, Headed, Perhaps, AreAll, InParens, IsList}
use Rattle.c_tree.specs.GrammarSimple.{IsQual, IsItype, IsHandles}
use Rattle.c_tree.specs.GrammarStmt.{IsBlock, IsStmt}

-- a part of which the tree says nothing, or no token
abbrev pub IfAny : Part → Part
IfAny P ts rest = NoToken ts rest ⊎ P ts rest

-- ---- tokens that are skipped

-- How brackets are nested in a run of tokens: none is left; a token that is no bracket, and more; a pair of
-- parentheses or braces around more, and more behind it.
pub data Nesting : Type 0 where
  nothing : Nesting
  token : Nesting → Nesting
  parens : Nesting → Nesting → Nesting
  braces : Nesting → Nesting → Nesting

-- the token is there, and is no bracket
abbrev pub is_plain : Term → Bool
is_plain terms.End = false
is_plain terms.LeftParen = false
is_plain terms.RightParen = false
is_plain terms.LeftBrace = false
is_plain terms.RightBrace = false
is_plain _ = true

abbrev pub IsPlain : Part
IsPlain ts rest = (k : Term) × (is_plain k ≡ true) × Stands k ts rest

abbrev pub IsNesting : Nesting → Part
IsNesting Nesting.nothing = NoToken
IsNesting (Nesting.token more) = IsPlain then IsNesting more
IsNesting (Nesting.parens inner more) = Stands terms.LeftParen then IsNesting inner then Stands terms.RightParen then IsNesting more
IsNesting (Nesting.braces inner more) = Stands terms.LeftBrace then IsNesting inner then Stands terms.RightBrace then IsNesting more

-- tokens with balanced brackets
abbrev pub IsSkipped : Part
IsSkipped ts rest = (n : Nesting) × IsNesting n ts rest

-- ---- variables and locks

abbrev pub IsSign : Bool → Part
IsSign true = Stands terms.Minus
IsSign false = NoToken

abbrev pub IsNumber : ℤ → Part
IsNumber value ts rest = Stands terms.Number ts rest × (number_value (bytes_at ts) ≡ Some value)

abbrev pub IsStart : Start → Part
IsStart s ts rest = StartsAt s.from ts × (IsSign s.is_negative then IsNumber s.value) ts rest

abbrev pub IsGname : Gname → Part
IsGname g = IsName g.name then Perhaps (λ s. Stands terms.Assign then IsStart s) g.start

abbrev pub IsGlobals : Globals → Part
IsGlobals g = IsList IsGname g.first g.more

abbrev pub IsStarted : Bool → Part
IsStarted true = Stands terms.Assign then Stands terms.MutexStart
IsStarted false = NoToken

abbrev pub IsMname : Mname → Part
IsMname m = IsName m.name then IsStarted m.is_started

abbrev pub IsLocks : Locks → Part
IsLocks l = Headed terms.MutexType l.from (IsList IsMname l.first l.more)

-- ---- functions

-- the word is the name of a function of the profile
abbrev pub is_profile : Term → Bool
is_profile terms.Nondet = true
is_profile terms.Assume = true
is_profile terms.AtomicBegin = true
is_profile terms.AtomicEnd = true
is_profile terms.Assert = true
is_profile terms.ReachError = true
is_profile terms.Abort = true
is_profile terms.Create = true
is_profile terms.Join = true
is_profile terms.Exit = true
is_profile terms.MutexInit = true
is_profile terms.MutexDestroy = true
is_profile terms.MutexLock = true
is_profile terms.MutexUnlock = true
is_profile _ = false

-- the name of a function of the profile
abbrev pub IsProfileName : ℕ → Part
IsProfileName from ts rest = (word : Term) × (is_profile word ≡ true) × Is word from ts rest

abbrev pub IsProto : Proto → Part
IsProto p = IsProfileName p.from then InParens IsSkipped then Stands terms.Semicolon

abbrev pub IsErrfn : Errfn → Part
IsErrfn e = Headed terms.ReachError e.from (InParens IsSkipped then Stands terms.LeftBrace then IsSkipped then Stands terms.RightBrace)

-- `( [ void [ * [ name ] ] ] )`
abbrev pub IsParameter : Part
IsParameter = InParens (IfAny (Stands terms.Void then IfAny (Stands terms.Star then IfAny (Stands terms.Name))))

-- ---- with bodies of so many levels

module _ (levels : ℕ) where
  -- the body of a function, whose statements are at the first level and in no loop
  abbrev pub IsBody : Block → Part
  IsBody = IsBlock levels (IsStmt levels) arounds.Nothing

  abbrev pub IsMainfn : Mainfn → Part
  IsMainfn m = Headed terms.Main m.from (InParens (IfAny (Stands terms.Void)) then IsBody m.body)

  abbrev pub IsThreadBody : Option Block → Part
  IsThreadBody None = Stands terms.Semicolon
  IsThreadBody (Some b) = IsBody b

  abbrev pub IsThreadfn : Threadfn → Part
  IsThreadfn t = IsName t.name then IsParameter then IsThreadBody t.body

  -- ---- items

  abbrev pub IsTyped : Typed → Part
  IsTyped (typeds.Globals g) = IsGlobals g
  IsTyped (typeds.Main m) = IsMainfn m
  IsTyped (typeds.Proto p) = IsProto p

  abbrev pub IsUntyped : Untyped → Part
  IsUntyped (untypeds.Thread t) = Stands terms.Star then IsThreadfn t
  IsUntyped (untypeds.Proto p) = IsProto p
  IsUntyped (untypeds.Errfn e) = IsErrfn e

  abbrev pub IsItemBody : Body → Part
  IsItemBody (bodies.Typed kind t) = IsItype kind then IsTyped t
  IsItemBody (bodies.Void from u) = Headed terms.Void from (IsUntyped u)
  IsItemBody (bodies.Locks l) = IsLocks l
  IsItemBody (bodies.Handles h) = IsHandles h

  abbrev pub IsItem : Item → Part
  IsItem i ts rest = StartsAt i.from ts × (AreAll IsQual i.quals then IsItemBody i.body) ts rest

-- ---- texts

-- The tokens are those of a tree with these items, and of nothing else, within so many levels.
abbrev pub IsTreeWithin : ℕ → List Item → List Lexeme → Type 0
IsTreeWithin levels items ts = AreAll (IsItem levels) items ts []

-- within the levels of the profile
abbrev pub IsTree : List Item → List Lexeme → Type 0
IsTree = IsTreeWithin most_levels

-- The text has tokens, and they are those of a tree, which ends where the text does.
abbrev pub IsTreeOf : List ℕ → Tree → Type 0
IsTreeOf text tree = (tokens : List Lexeme) × (lexed text ≡ Ok tokens) × IsTree tree.items tokens × (tree.end ≡ length text)
