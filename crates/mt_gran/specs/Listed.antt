-- Runs in the first places of an array of words (own).
use Rattle.std.specs.Prelude.{ℕ, List, take}
use Rattle.mt_tidy.specs.Packed.{runs_of}
use Rattle.mt_tidy.specs.declared.fits.Tidied.{Tidied}
use Rattle.mt_tidy.specs.declared.packed.PackedRun.{PackedRun}
use Rattle.mt_types.specs.declared.run.Run.{Run}
use Rattle.mt_gran.specs.declared.grains.Grained.{Grained}
use Rattle.mt_gran.specs.declared.grains.Lost.{Lost}

abbrev pub runs_in : ℕ → List PackedRun → List Run
runs_in count places = runs_of (take count places)

-- a rounded file, where the parts that are lost stand in an array
abbrev pub grained_in : Tidied → Lost → List PackedRun → Grained
grained_in tidied lost places = record { tidied = tidied; lost = lost.pages; parts = runs_in lost.parts places }
