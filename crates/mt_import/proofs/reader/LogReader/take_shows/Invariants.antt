use Rattle.std.proofs.Common.{take}
use Rattle.std.specs.Prelude.{Ok, ⊤}
use Rattle.mt_import.specs.Reader.{TakesFacts}
use Rattle.mt_import.specs.Readings.{shows_facts}
use Rattle.mt_import.proofs.reader.LogReader.take_shows.Given as goal

abbrev pub invariant-shows : goal.invariant-shows
invariant-shows l = TakesFacts {U = ⊤} l.supplied l.initial.self l.self (shows_facts l.processor l.table (take l.i l.shows)) (Ok tt)
