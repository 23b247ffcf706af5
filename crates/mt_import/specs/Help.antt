-- The texts of `--help` and `--version` (own).
--     own_text words      the text of these words, where they are one of the two
use Rattle.std.specs.Prelude.{ℕ, List, [], ◌∷◌, codes, flat_map, Option}
use Rattle.mt_output.specs.Lines.{line}
use Rattle.mt_shell.specs.Own.{own_text as text_of_words}

abbrev pub help_lines : List (List ℕ)
help_lines =
    codes "usage: mtrr-import FORMAT [WORD ..] [LOG] > DUMP"
    ∷ codes "       mtrr-import memory [FORMAT [table=N]] [LOG] > MAP"
    ∷ codes ""
    ∷ codes "Makes a dump for mtrr of another program's log. Writes what is missing or"
    ∷ codes "wrong to standard error. With memory it writes the log's memory map:"
    ∷ codes "mtrr-import memory --help."
    ∷ codes ""
    ∷ codes "  FORMAT          auto, chipsec, coreboot, edk2, inteltool, linux, plain, rdmsr,"
    ∷ codes "                  windbg, x86info, xen"
    ∷ codes "  REGISTER=VALUE  supplies a register's value, both hexadecimal"
    ∷ codes "  maxphyaddr=N    supplies the bits of a physical address, 32 to 52"
    ∷ codes "  assume=NAME     assumes what no line and no word says: capabilities, fixed,"
    ∷ codes "                  masks, pairs, pat, width or all; comments name what was assumed"
    ∷ codes "  table=N         reads one of the log's tables alone: first, last or its number"
    ∷ codes "  LOG             names the log; without it, or if it is -, standard input is read"
    ∷ codes "  -h, --help      this text"
    ∷ codes "  --version       the version"
    ∷ codes ""
    ∷ codes "-h, --help and --version read nothing."
    ∷ codes ""
    ∷ codes "Exit status:"
    ∷ codes "  0  done"
    ∷ codes "  1  something is missing"
    ∷ codes "  2  wrong usage"
    ∷ codes "  3  a line of the log has a fault"
    ∷ codes "  4  reading failed"
    ∷ codes "  5  writing failed"
    ∷ codes "  6  out of memory"
    ∷ codes "  7  the input has more than 16,777,216 bytes"
    ∷ []

unfoldable pub help_text : List ℕ
help_text = flat_map line help_lines

unfoldable pub version_text : List ℕ
version_text = line (codes "mtrr-import 1.0.0")

abbrev pub own_text : List (List ℕ) → Option (List ℕ)
own_text words = text_of_words words help_text version_text
