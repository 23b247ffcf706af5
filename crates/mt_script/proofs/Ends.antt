-- The end of a dump: its lines show a dump with a file for each processor, or it has an offence.
use Rattle.std.proofs.Common.{◌≡◌, ◌∙◌, Bool, true, false, refl, sym, ap}
use Rattle.std.specs.Prelude.{ℕ, Result, Ok, Err, if◌then◌else◌}
use Rattle.mt_text.specs.declared.place.Place.{Place}
use Rattle.mt_dump.specs.Dumps.{Dump}
use Rattle.mt_dump.specs.ForProcessors.{has_each}
use Rattle.mt_dump.specs.declared.fault.DumpFault.{DumpFault}
use Rattle.mt_script.specs.Numbers.{fault_at}
use Rattle.mt_script.specs.Head.{end_step, offends, shows}
use Rattle.mt_script.specs.declared.fault.ScriptReason.TheVariants.{OutOfRange}
use Rattle.mt_script.specs.declared.fault.Offence.TheVariants as offence

module _ (cpus : ℕ) (place : Place) (dump : Dump) where
  counted : (found : Dump) (each : Bool) → has_each cpus found ≡ each → (if each then shows found else offends (offence.Script (fault_at OutOfRange place))) ≡ shows dump
      → (found ≡ dump) × (has_each cpus dump ≡ true)
  counted found true each is = let same : found ≡ dump = cc is in (same, ap (has_each cpus) (sym same) ∙ each)
  counted found false each is = absurd (cc is)

  -- the lines are read as the dump that is shown, which has a file for each processor
  pub ended : (answer : Result Dump DumpFault) → end_step cpus place answer ≡ shows dump → (answer ≡ Ok dump) × (has_each cpus dump ≡ true)
  ended (Err fault) is = absurd (cc is)
  ended (Ok found) is = let (same, each) = counted found (has_each cpus found) refl is in (ap Ok same, each)

  pub ends_well : has_each cpus dump ≡ true → end_step cpus place (Ok dump) ≡ shows dump
  ends_well each = rw each refl

  pub miscounted : has_each cpus dump ≡ false → end_step cpus place (Ok dump) ≡ offends (offence.Script (fault_at OutOfRange place))
  miscounted each = rw each refl
