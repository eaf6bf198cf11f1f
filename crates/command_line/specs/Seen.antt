-- The request that the code holds, with the texts that it borrows.
use Rattle.std.specs.Prelude.{ℕ, List, Option, option_map}
use Rattle.std.specs.Borrow.{Bor}
use Rattle.command_line.specs.Request as specs
use Rattle.command_line.specs.declared.options.Options.{Options}
use Rattle.command_line.specs.declared.reading.Request.{Request}
use Rattle.command_line.specs.declared.works.Work.{Work}
use Rattle.command_line.specs.declared.works.Work.TheVariants as stored

-- a text that may be there
abbrev pub text_of : Option (Bor (List ℕ)) → Option (List ℕ)
text_of given = option_map (λ (text : Bor (List ℕ)). text.now) given

abbrev pub options_of : Options → specs.Options
options_of options = record { serial = options.serial; journal = options.journal; rule = options.rule; start = text_of options.start; limits = options.limits }

abbrev pub work_of : Work → specs.Work
work_of (stored.Verify program) = specs.Verify program.now
work_of (stored.Tables program predicates) = specs.Tables program.now (text_of predicates)
work_of (stored.Check program annotation) = specs.Check program.now annotation.now
work_of (stored.Replay program schedule) = specs.Replay program.now schedule.now
work_of (stored.Generate n) = specs.Generate n
work_of (stored.Bench n) = specs.Bench n
work_of stored.Help = specs.Help

abbrev pub request_of : Request → specs.Request
request_of request = record { work = work_of request.work; options = options_of request.options }
