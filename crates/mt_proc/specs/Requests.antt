-- What one line asks for, in the form of Linux's mtrr document, or its fault (own).
--     request_of number line      the answer for the line of this number
-- A line is `base=HEX size=HEX type=NAME` or `disable=D`. Its tests come in the order of the definitions:
-- the first word, the number of words, how they begin, the numbers from left to right, the type.
use Rattle.std.specs.Prelude.{ℕ, ◌-◌, ◌==◌, nat_lt, nat_eq, codes, Bool, List, length, take, drop, if◌then◌else◌, Option, Some, None, ok_or, Result, Ok, Err}
use Rattle.std.specs.Option.{option_map_or}
use Rattle.std.specs.Cmp.Lexicographic.{pointwise}
use Rattle.mt_text.specs.Text.{is_too_long, past_limit, words_of}
use Rattle.mt_text.specs.Words.{text_of, place_of}
use Rattle.mt_text.specs.Number.{hex_number, decimal_number}
use Rattle.mt_text.specs.declared.fault.NumberFault.{NumberFault}
use Rattle.mt_text.specs.declared.place.Place.{Place}
use Rattle.mt_script.specs.Numbers.{with}
use Rattle.mt_kinds.specs.declared.mem_type.MemType.{MemType}
use Rattle.mt_kinds.specs.declared.mem_type.MemType.TheVariants.{UC, WC, WT, WP, WB}
use Rattle.mt_proc.specs.declared.request.Request.{Request}
use Rattle.mt_proc.specs.declared.request.Request.TheVariants.{Range, Disable}
use Rattle.mt_proc.specs.declared.request.ProcReason.{ProcReason}
use Rattle.mt_proc.specs.declared.request.ProcReason.TheVariants.{BadLine, BadNumber, UnknownType}
use Rattle.mt_proc.specs.declared.request.ProcFault.{ProcFault}

abbrev pub ReadRequest : Type 0
ReadRequest = Result Request ProcFault

abbrev pub fault_at : ProcReason → Place → ProcFault
fault_at reason place = record { reason = reason; place = place }

-- the names of the types
abbrev pub name_of : MemType → List ℕ
name_of UC = codes "uncachable"
name_of WC = codes "write-combining"
name_of WT = codes "write-through"
name_of WP = codes "write-protect"
name_of WB = codes "write-back"

abbrev pub is_name : MemType → List ℕ → Bool
is_name kind word = pointwise nat_eq word (name_of kind)

-- the type of a name, which is written out and in small letters
abbrev pub type_named : List ℕ → Option MemType
type_named word =
    if is_name UC word then Some UC
    else if is_name WC word then Some WC
    else if is_name WT word then Some WT
    else if is_name WP word then Some WP
    else if is_name WB word then Some WB
    else None

-- what stands behind a head, where the word begins with it
abbrev pub behind : List ℕ → List ℕ → Option (List ℕ)
behind head word = if pointwise nat_eq (take (length head) word) head then Some (drop (length head) word) else None

-- a number, or the fault of its word
abbrev pub number_at : Place → Result ℕ NumberFault → Result ℕ ProcFault
number_at place (Ok number) = Ok number
number_at place (Err fault) = Err (fault_at BadNumber place)

-- three words, of which the first one's digits are these
abbrev pub range_of : ℕ → List (ℕ × List ℕ) → List ℕ → ReadRequest
range_of number words base =
    with (ok_or (behind (codes "size=") (text_of words 1)) (fault_at BadLine (place_of number words 1))) (λ size.
    with (ok_or (behind (codes "type=") (text_of words 2)) (fault_at BadLine (place_of number words 2))) (λ name.
    with (number_at (place_of number words 0) (hex_number base)) (λ from.
    with (number_at (place_of number words 1) (hex_number size)) (λ count.
    with (ok_or (type_named name) (fault_at UnknownType (place_of number words 2))) (λ kind.
    Ok (Range from count kind))))))

-- the last word is at fault where there are too few words, and the first one that is too many where there are too many
abbrev pub count_fault : ℕ → List (ℕ × List ℕ) → ℕ → Option ProcFault
count_fault number words wanted =
    if nat_lt (length words) wanted then Some (fault_at BadLine (place_of number words (length words - 1)))
    else if nat_lt wanted (length words) then Some (fault_at BadLine (place_of number words wanted))
    else None

abbrev pub disable_of : ℕ → List (ℕ × List ℕ) → List ℕ → ReadRequest
disable_of number words digits = with (number_at (place_of number words 0) (decimal_number digits 0xffffffffffffffff)) (λ n. Ok (Disable n))

-- a line with words, by what stands in the first one behind either head
abbrev pub by_heads : ℕ → List (ℕ × List ℕ) → Option (List ℕ) → Option (List ℕ) → ReadRequest
by_heads number words (Some base) other = option_map_or (λ fault. Err fault) (count_fault number words 3) (range_of number words base)
by_heads number words None (Some digits) = option_map_or (λ fault. Err fault) (count_fault number words 1) (disable_of number words digits)
by_heads number words None None = Err (fault_at BadLine (place_of number words 0))

abbrev pub request_in : ℕ → List (ℕ × List ℕ) → ReadRequest
request_in number words = by_heads number words (behind (codes "base=") (text_of words 0)) (behind (codes "disable=") (text_of words 0))

-- a line of these words; one without words asks for nothing
abbrev pub asked_by : ℕ → List (ℕ × List ℕ) → Result (Option Request) ProcFault
asked_by number words = if length words == 0 then Ok None else with (request_in number words) (λ request. Ok (Some request))

abbrev pub request_of : ℕ → List ℕ → Result (Option Request) ProcFault
request_of number line =
    if is_too_long line then Err (fault_at BadLine (past_limit number))
    else asked_by number (words_of line)
