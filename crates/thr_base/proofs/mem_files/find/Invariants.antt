use Rattle.std.proofs.Common.{◌≡◌, drop}
use Rattle.thr_base.specs.Outside.{file_named}
use Rattle.thr_base.specs.InMemory.{files_of}
use Rattle.thr_base.proofs.mem_files.find.Given as goal

abbrev pub invariant-loop-i : goal.invariant-loop-i
invariant-loop-i l = file_named l.name (files_of l.files) ≡ file_named l.name (files_of (drop l.i l.files))
