-- The texts of `--help` and `--version`, and which text each command writes that reads nothing (own).
--     own_text command      the text of a serial command that reads nothing
use Rattle.std.specs.Prelude.{ℕ, List, [], ◌∷◌, codes, flat_map, Option, Some, None}
use Rattle.mt_output.specs.Lines.{line}
use Rattle.mt_answers.specs.declared.command.SerialCommand.{SerialCommand}
use Rattle.mt_answers.specs.declared.command.SerialCommand.TheVariants.{Dump, Make, Help, Version}
use Rattle.mt_answers.specs.Generator.{make_text}

unfoldable pub help_text : List ℕ
help_text =
    flat_map line (codes "usage: mtrr COMMAND < INPUT"
    ∷ codes ""
    ∷ codes "Checks and explains the memory type registers of x86 processors: MTRRs"
    ∷ codes "and the PAT. INPUT is a dump of registers. For replay it is a script,"
    ∷ codes "and for proc a dump with requests."
    ∷ codes ""
    ∷ codes "  check                            are the registers lawful?"
    ∷ codes "  show                             the canonical text of the dump"
    ∷ codes "  types                            the memory type of every page"
    ∷ codes "  page ADDR INDEX                  the types of one page"
    ∷ codes "  tidy [spare=N] [chunk=HEX]       the fewest pairs for the same types"
    ∷ codes "  gran SIZE [spare=N] [chunk=HEX]  the same for types rounded to granules"
    ∷ codes "  replay                           the transcript of a script"
    ∷ codes "  proc N                           /proc/mtrr requests, on N processors"
    ∷ codes "  make N                           a script for measurements"
    ∷ codes "  big N                            counts and sums of its transcript"
    ∷ codes "  private P N C                    sums of what P processors load and store"
    ∷ codes "  --help                           this text"
    ∷ codes "  --version                        the version"
    ∷ codes ""
    ∷ codes "INDEX is an entry of the PAT, 0 to 7. SIZE is the bytes of a granule."
    ∷ codes "spare=N leaves N pairs free, by default 1. chunk=HEX bounds overlaps: of"
    ∷ codes "two ranges that share a page the larger has at most HEX bytes, by"
    ∷ codes "default 10000000. ADDR, SIZE and HEX are hexadecimal, all other numbers"
    ∷ codes "are decimal. make, big, private, --help and --version read nothing."
    ∷ codes ""
    ∷ codes "Exit status:"
    ∷ codes "  0  done"
    ∷ codes "  1  the registers have a fault"
    ∷ codes "  2  wrong usage"
    ∷ codes "  3  the input is no dump, script or request"
    ∷ codes "  4  reading failed"
    ∷ codes "  5  writing failed"
    ∷ codes "  6  out of memory"
    ∷ codes "  7  the input has more than 16,777,216 bytes"
    ∷ codes "  8  tidy, gran: too few pairs"
    ∷ codes "  9  tidy, gran: the MTRRs are off"
    ∷ [])

unfoldable pub version_text : List ℕ
version_text = line (codes "mtrr 1.0.0")

abbrev pub own_text : SerialCommand → Option (List ℕ)
own_text (Dump command) = None
own_text (Make n) = Some (make_text n)
own_text Help = Some help_text
own_text Version = Some version_text
