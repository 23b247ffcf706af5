-- The texts of `--help` and `--version` (own).
--     own_text words      the text of these words, where they are one of the two
use Rattle.std.specs.Prelude.{ℕ, List, [], ◌∷◌, codes, flat_map, Option}
use Rattle.mt_output.specs.Lines.{line}
use Rattle.mt_shell.specs.Own.{own_text as text_of_words}

abbrev pub help_lines : List (List ℕ)
help_lines =
    codes "usage: mtrr-judge [picture|json] [CASE] > OUTPUT"
    ∷ codes ""
    ∷ codes "Judges a procedure that changes memory type registers. Runs the steps of"
    ∷ codes "each processor on the machine of mtrr, and writes what they leave wrong."
    ∷ codes ""
    ∷ codes "  picture     draws the run, as SVG, in place of the verdict"
    ∷ codes "  json        writes the verdict and the run as one JSON object"
    ∷ codes "  CASE        names the case; without it, or if it is -, standard input is read"
    ∷ codes "  -h, --help  this text"
    ∷ codes "  --version   the version"
    ∷ codes ""
    ∷ codes "-h, --help and --version read nothing."
    ∷ codes ""
    ∷ codes "Exit status:"
    ∷ codes "  0  nothing is wrong"
    ∷ codes "  1  something is wrong, a step isn't due, a list ends in the midst of an"
    ∷ codes "     update, lists can't end, or the search stopped"
    ∷ codes "  2  wrong usage"
    ∷ codes "  3  the input is no case"
    ∷ codes "  4  reading failed"
    ∷ codes "  5  writing failed"
    ∷ codes "  6  out of memory"
    ∷ codes "  7  the input has more than 16,777,216 bytes"
    ∷ []

unfoldable pub help_text : List ℕ
help_text = flat_map line help_lines

unfoldable pub version_text : List ℕ
version_text = line (codes "mtrr-judge 1.0.0")

abbrev pub own_text : List (List ℕ) → Option (List ℕ)
own_text words = text_of_words words help_text version_text
