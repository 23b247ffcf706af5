-- The lines that the commands write, except those of mt_output (own). Each ends with LF.
use Rattle.std.specs.Prelude.{ℕ, ◌-◌, ◌*◌, ◌/◌, ◌^◌, ◌<◌, ◌≤◌, ◌==◌, nat_lt, List, ◌++◌, codes, decimal, flat_map, if◌then◌else◌, Option, Some, None}
use Rattle.mt_kinds.specs.Sizes.{page_bytes}
use Rattle.mt_kinds.specs.declared.mem_type.MemType.{MemType}
use Rattle.mt_kinds.specs.declared.pat_type.PatType.{PatType}
use Rattle.mt_kinds.specs.EffectiveType.{effective_type}
use Rattle.mt_kinds.specs.Pat.{pat_entry}
use Rattle.mt_kinds.specs.Types.{name_of_pat_type, name_of_type}
use Rattle.mt_regs.specs.PageTypes.{defined_type, page_type}
use Rattle.mt_regs.specs.RegisterFile.{RegisterFile, page_count}
use Rattle.mt_types.specs.declared.run.Run.{Run}
use Rattle.mt_types.specs.Runs.{run_end}
use Rattle.mt_regs.specs.Agreement.{first_difference}
use Rattle.mt_dump.specs.Canon.{number_text, value_text}
use Rattle.mt_dump.specs.Dumps.{Dump}
use Rattle.mt_output.specs.Lines.{accepted_line, address_text, line}

-- all files are equal, or file k is the first that differs from processor 0's, in this register
abbrev pub agreement_line : Option (ℕ × ℕ) → List ℕ
agreement_line None = line (codes "same")
agreement_line (Some (k, number)) = line (codes "differ " ++ decimal k ++ codes " " ++ number_text number)

-- what is said of a dump whose files are all accepted; one of version 1 has one file
abbrev pub check_text : Dump → List ℕ
check_text dump = if dump.version == 2 then accepted_line ++ agreement_line (first_difference dump.files) else accepted_line

-- the first and the last byte address of a run, and its type
abbrev pub run_line : Run → List ℕ
run_line r = line (address_text (page_bytes * r.first) ++ codes "-" ++ address_text (page_bytes * run_end r - 1) ++ codes " " ++ name_of_type (defined_type r.kind))

-- a run that has a line: it has pages, and they lie below 2 ^ 40
abbrev pub IsLine : Run → Type 0
IsLine r = (0 < r.count) × (run_end r ≤ 2 ^ 40)

abbrev pub types_text : List Run → List ℕ
types_text runs = flat_map run_line runs

-- the first address of a page, its MTRR type, the type of the PAT entry and the effective type
abbrev pub page_line : ℕ → MemType → PatType → List ℕ
page_line page m p =
    line (codes "page " ++ address_text (page_bytes * page) ++ codes " mtrr " ++ name_of_type m ++ codes " pat " ++ name_of_pat_type p ++ codes " effective " ++ name_of_type (effective_type m p))

abbrev pub outside_line : ℕ → List ℕ
outside_line page = line (codes "page " ++ address_text (page_bytes * page) ++ codes " outside")

-- what is said of the page of an address, mapped with an index of a PAT entry
abbrev pub page_text : RegisterFile → ℕ → ℕ → List ℕ
page_text f address index =
    if nat_lt (address / page_bytes) (page_count f)
    then page_line (address / page_bytes) (defined_type (page_type f (address / page_bytes))) (pat_entry f.pat index)
    else outside_line (address / page_bytes)

abbrev pub used_line : ℕ → List ℕ
used_line used = line (codes "# used " ++ decimal used)

-- a run of pages that lose its type
abbrev pub part_line : Run → List ℕ
part_line r = codes "# part " ++ run_line r

abbrev pub parts_text : List Run → List ℕ
parts_text parts = flat_map part_line parts

abbrev pub lost_line : ℕ → List ℕ
lost_line lost = line (codes "# lost " ++ decimal lost)

abbrev pub too_few_line : ℕ → ℕ → List ℕ
too_few_line needs has = line (codes "too few needs " ++ decimal needs ++ codes " has " ++ decimal has)

-- with the value of the default-type register
abbrev pub disabled_line : ℕ → List ℕ
disabled_line value = line (codes "disabled 2ff " ++ value_text value)
