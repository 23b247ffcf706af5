-- When the parts of a system fit each other (own).
use Rattle.mt_machine.specs.System.{IsSound}
use Rattle.mt_bus.specs.declared.system_parts.SystemParts.{SystemParts}
use Rattle.mt_laws.specs.Parts.{system}
use Rattle.mt_bus.specs.Holders.{AreHeldBy}
use Rattle.mt_bus.specs.Tables.{AreTablesOf}

pub record IsWhole (parts : SystemParts) : Type 0 where
  pub sound : IsSound (system parts.cpus.items parts.ram)
  pub tables : AreTablesOf parts.cpus.items parts.tables.items
  pub held : AreHeldBy parts.cpus.items parts.holders
