-- What the lines of a text tell that are known once a front of its bytes is (own).
--     known_part taken      the bytes up to the last LF, and those behind it where they are more than a line may have
--     known_text start taken      what the lines of that part tell
use Rattle.std.specs.Prelude.{ℕ, List, [], ◌∷◌, if◌then◌else◌, None}
use Rattle.std.specs.List.{list_any}
use Rattle.mt_text.specs.Text.{is_line_end, is_too_long, lines_of}
use Rattle.mt_stream.specs.Transcript.{Telling}

abbrev pub known_part : List ℕ → List ℕ
known_part [] = []
known_part (byte ∷ bytes) =
    if list_any is_line_end (byte ∷ bytes) then byte ∷ known_part bytes
    else if is_too_long (byte ∷ bytes) then byte ∷ bytes else []

abbrev pub known_text : Telling → List ℕ → List ℕ
known_text start taken = (start None 1 (lines_of (known_part taken))).text
