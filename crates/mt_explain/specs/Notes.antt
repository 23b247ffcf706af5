-- What is worth knowing of a file, and no fault (own).
--     notes file      all that hold, in order
use Rattle.std.specs.Prelude.{ℕ, ◌-◌, ◌/◌, ◌^◌, ◌==◌, nat_lt, Bool, not, ◌&&◌, ◌||◌, List, [], ◌∷◌, ◌++◌, map, is_some}
use Rattle.std.specs.List.{filter, list_all, list_any, range_with_len}
use Rattle.mt_kinds.specs.Bits.{is_bit_set}
use Rattle.mt_kinds.specs.declared.mem_type.MemType.TheVariants.{UC}
use Rattle.mt_ranges.specs.Match.{is_run, is_valid, page_field}
use Rattle.mt_regs.specs.declared.page_type.PageType.TheVariants.{Kind}
use Rattle.mt_regs.specs.declared.registers.Register.TheVariants.{PhysMask}
use Rattle.mt_regs.specs.FirstFault.{first_fault}
use Rattle.mt_regs.specs.PageTypes.{page_type, same_page_type}
use Rattle.mt_regs.specs.RegisterFile.{RegisterFile, has_fixed, is_enabled, is_fixed_enabled, pair_at, pair_count}
use Rattle.mt_regs.specs.Registers.{with_value}
use Rattle.mt_explain.specs.declared.note.Note.{Note}
use Rattle.mt_explain.specs.declared.note.Note.TheVariants.{Off, FixedOff, LocalApic, IoApic, IdlePair, OtherWidth}
use Rattle.mt_explain.specs.TypeChanges.{changed_pages}

abbrev pub is_uncached : RegisterFile → ℕ → Bool
is_uncached f page = same_page_type (page_type f page) (Kind UC)

-- a fixed-range register isn't 0
abbrev pub has_fixed_value : RegisterFile → Bool
has_fixed_value f = list_any (λ value. not (value == 0)) f.fixed

unfoldable pub is_accepted : RegisterFile → Bool
is_accepted f = not (is_some (first_fault f))

-- the file with V of a valid pair clear
abbrev pub without : RegisterFile → ℕ → RegisterFile
without f n = with_value f (PhysMask n) ((pair_at f.pairs n).1 - 2 ^ 11)

-- a valid pair of an accepted file changes no page's type
abbrev pub is_spare : RegisterFile → ℕ → Bool
is_spare f n = is_valid (pair_at f.pairs n) && is_accepted f && changed_pages f (without f n) == 0

-- though E is set
abbrev pub is_idle : RegisterFile → ℕ → Bool
is_idle f n = is_enabled f && is_spare f n

-- The mask's highest bit is that of a width of 32 to 52 bits, and each bit from its lowest one on is set.
abbrev pub is_mask_of : ℕ → ℕ → Bool
is_mask_of width mask =
    not (nat_lt width 32)
    && not (nat_lt 52 width)
    && mask / 2 ^ width == 0
    && is_bit_set mask (width - 1)
    && is_run (width - 12) (page_field width mask)

-- the pair's mask is of the width if the pair is valid
abbrev pub may_be_of : ℕ → ℕ × ℕ → Bool
may_be_of width pair = not (is_valid pair) || is_mask_of width pair.1

-- some pair is valid, and all that are have masks of a width that isn't the file's
abbrev pub has_width : RegisterFile → ℕ → Bool
has_width f width = not (width == f.width) && list_any is_valid f.pairs && list_all (may_be_of width) f.pairs

-- the pages of the local APIC and of the I/O APIC are those that have them after power-up
abbrev pub is_note : RegisterFile → Note → Bool
is_note f Off = not (is_enabled f)
is_note f FixedOff = has_fixed f && not (is_fixed_enabled f) && has_fixed_value f
is_note f LocalApic = not (is_uncached f 0xfee00)
is_note f IoApic = not (is_uncached f 0xfec00)
is_note f (IdlePair n) = is_idle f n
is_note f (OtherWidth width) = has_width f width

-- the widths that a file may have
unfoldable pub widths : List ℕ
widths = range_with_len 32 21

abbrev pub candidates : RegisterFile → List Note
candidates f =
    (Off ∷ FixedOff ∷ LocalApic ∷ IoApic ∷ [])
    ++ map IdlePair (range_with_len 0 (pair_count f))
    ++ map OtherWidth widths

abbrev pub notes : RegisterFile → List Note
notes f = filter (is_note f) (candidates f)
