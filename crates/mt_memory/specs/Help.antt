-- The texts of `--help` and `--version` behind `memory` (own).
--     own_text words      the text of these words, if they are one of the two
use Rattle.std.specs.Prelude.{ℕ, drop, List, [], ◌∷◌, codes, flat_map, if◌then◌else◌, Option, None}
use Rattle.mt_output.specs.Lines.{line}
use Rattle.mt_shell.specs.Own.{own_text as text_of_words}
use Rattle.mt_memory.specs.Command.{is_memory}

abbrev pub help_lines : List (List ℕ)
help_lines =
    codes "usage: mtrr-import memory [FORMAT] [table=N] [LOG] > MAP"
    ∷ codes ""
    ∷ codes "Writes the memory map that a log shows, a line for each longest range of one"
    ∷ codes "kind: its first and its last byte, both hexadecimal, and ram, reserved, device,"
    ∷ codes "acpi, nvs or unusable. Writes what is missing or wrong to standard error."
    ∷ codes ""
    ∷ codes "  FORMAT      auto, coreboot, e820 (of Linux or Xen), efi (of Linux or the UEFI"
    ∷ codes "              shell), iomem; without it auto"
    ∷ codes "  table=N     reads one of the log's maps alone: first, last or its number"
    ∷ codes "  LOG         names the log; without it, or if it is -, standard input is read"
    ∷ codes "  -h, --help  this text"
    ∷ codes "  --version   the version"
    ∷ codes ""
    ∷ codes "Exit statuses are those of mtrr-import."
    ∷ []

unfoldable pub help_text : List ℕ
help_text = flat_map line help_lines

unfoldable pub version_text : List ℕ
version_text = line (codes "mtrr-import 1.0.0")

abbrev pub own_text : List (List ℕ) → Option (List ℕ)
own_text words = if is_memory words then text_of_words (drop 1 words) help_text version_text else None
