-- The lines that tell of the valid pairs (own).
--     range_line file n      the line of pair n with its LF, or nothing where it isn't valid
--     listing file      the lines of all pairs, in order
--     ranges_of file      the blocks and types of the valid pairs, as requests, in order
use Rattle.std.specs.Prelude.{ℕ, ◌+◌, ◌*◌, ◌^◌, ◌==◌, List, [], ◌∷◌, ◌++◌, codes, decimal, if◌then◌else◌, Option, Result, Ok, Some}
use Rattle.mt_kinds.specs.Sizes.{page_bytes}
use Rattle.mt_kinds.specs.declared.mem_type.MemType.{MemType}
use Rattle.mt_ranges.specs.Match.{range_first, range_log}
use Rattle.mt_regs.specs.RegisterFile.{RegisterFile, pair_at}
use Rattle.mt_regs.specs.PageTypes.{pair_type}
use Rattle.mt_dump.specs.Canon.{value_text}
use Rattle.mt_proc.specs.declared.request.Request.{Request}
use Rattle.mt_proc.specs.declared.request.Request.TheVariants.{Range}
use Rattle.mt_proc.specs.declared.request.ProcFault.{ProcFault}
use Rattle.mt_proc.specs.Requests.{name_of, request_of}
use Rattle.mt_ranges.specs.Match.{is_valid}

-- digits without the zeros at their front, of which the last digit stays
abbrev pub significant : List ℕ → List ℕ
significant [] = []
significant (digit ∷ []) = digit ∷ []
significant (digit ∷ next ∷ digits) = if digit == 48 then significant (next ∷ digits) else digit ∷ next ∷ digits

-- in lower-case hexadecimal, without leading zeros
abbrev pub hex_text : ℕ → List ℕ
hex_text value = significant (value_text value)

-- the first address and the bytes of a pair's range, m being the bits of a physical address
abbrev pub base_of : ℕ → ℕ × ℕ → ℕ
base_of m pair = page_bytes * range_first m pair

abbrev pub size_of : ℕ → ℕ × ℕ → ℕ
size_of m pair = page_bytes * 2 ^ range_log m pair

abbrev pub range_text : ℕ → ℕ → MemType → ℕ → List ℕ
range_text base size kind n =
    codes "base=0x" ++ hex_text base ++ codes " size=0x" ++ hex_text size ++ codes " type=" ++ name_of kind ++ codes " # " ++ decimal n

abbrev pub pair_line : ℕ → ℕ → ℕ × ℕ → List ℕ
pair_line m n pair = if is_valid pair then range_text (base_of m pair) (size_of m pair) (pair_type pair) n ++ 10 ∷ [] else []

abbrev pub range_line : RegisterFile → ℕ → List ℕ
range_line f n = pair_line f.width n (pair_at f.pairs n)

-- the lines of pairs, the first of which has this number
abbrev pub lines_from : ℕ → ℕ → List (ℕ × ℕ) → List ℕ
lines_from m n [] = []
lines_from m n (pair ∷ pairs) = pair_line m n pair ++ lines_from m (n + 1) pairs

abbrev pub listing : RegisterFile → List ℕ
listing f = lines_from f.width 0 f.pairs

abbrev pub range_in : ℕ → ℕ × ℕ → Request
range_in m pair = Range (base_of m pair) (size_of m pair) (pair_type pair)

abbrev pub ranges_in : ℕ → List (ℕ × ℕ) → List Request
ranges_in m [] = []
ranges_in m (pair ∷ pairs) = if is_valid pair then range_in m pair ∷ ranges_in m pairs else ranges_in m pairs

abbrev pub ranges_of : RegisterFile → List Request
ranges_of f = ranges_in f.width f.pairs

-- what lines ask for, the first of which has this number
abbrev pub requests_from : ℕ → List (List ℕ) → List (Result (Option Request) ProcFault)
requests_from number [] = []
requests_from number (line ∷ lines) = request_of number line ∷ requests_from (number + 1) lines

-- each of these is asked for
abbrev pub all_asked : List Request → List (Result (Option Request) ProcFault)
all_asked [] = []
all_asked (request ∷ requests) = Ok (Some request) ∷ all_asked requests
