-- What contracts know of the real outside: that a file is open, and none of its bytes.
use Rattle.std.specs.Prelude.{Option, Some, None}
use Rattle.thr_base.specs.Outside.{OpenFile, Closed, Untold}

-- a file that may be open, of which no bytes are told
abbrev pub untold : {X : Type 0} → Option X → OpenFile
untold None = Closed
untold (Some file) = Untold
