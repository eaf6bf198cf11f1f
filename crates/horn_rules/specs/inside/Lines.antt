-- How the code makes a table. No public clause cites this file.
use Rattle.horn_rules.specs.Fact.{Fact}
use Rattle.horn_rules.specs.Stored.{home_of}
use Rattle.horn_rules.specs.declared.lines.Line.{Line}

-- the fact that a line shows
abbrev pub fact_of_line : Line → Fact
fact_of_line line = record { home = home_of line.home; held = line.held.items }
