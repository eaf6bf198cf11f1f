-- What a `Tokens` shows, and what it keeps ready.
use Rattle.std.specs.Prelude.{◌≡◌}
use Rattle.c_lex.specs.Tokens.{views}
use Rattle.c_tree.specs.declared.tokens.Tokens.TheInside.{Inside}
use Rattle.c_tree.specs.inside.Input.{Input, term_at}

abbrev pub input_of : Inside → Input
input_of t = record { tokens = views t.left.now; end = t.end }

abbrev pub IsReady : Inside → Type 0
IsReady t = t.term ≡ term_at (views t.left.now)
