-- A type map as C's plain words (own).
use Rattle.std.specs.Prelude.{◌≡◌, ℕ, ◌≤◌, nat_le, Bool, true, false, List, [], ◌∷◌, length, map, not, ◌&&◌, is_some, if◌then◌else◌}
use Rattle.mt_kinds.specs.Types.{byte_of_type}
use Rattle.mt_plain.specs.declared.plain.PlainRegisters.{PlainRegisters}
use Rattle.mt_plain.specs.declared.plain.PlainRun.{PlainRun}
use Rattle.mt_plain.specs.Plain.{file_in, is_file}
use Rattle.mt_regs.specs.declared.page_type.PageType.{PageType}
use Rattle.mt_regs.specs.declared.page_type.PageType.TheVariants.{Kind, Undefined}
use Rattle.mt_regs.specs.Faults.{register_fault}
use Rattle.mt_regs.specs.RegisterFile.{RegisterFile}
use Rattle.mt_types.specs.declared.run.Run.{Run}
use Rattle.mt_types.specs.Runs.{IsRunsOf}

-- the type's byte, or 255 where no type is defined
abbrev pub kind_number : PageType → ℕ
kind_number (Kind t) = byte_of_type t
kind_number Undefined = 255

abbrev pub plain_run : Run → PlainRun
plain_run r = record { first = r.first; pages = r.count; kind = kind_number r.kind }

-- an array whose first places have these runs, as many as it has places for
abbrev pub overwritten : List PlainRun → List PlainRun → List PlainRun
overwritten [] places = places
overwritten (r ∷ rs) [] = []
overwritten (r ∷ rs) (place ∷ places) = r ∷ overwritten rs places

-- the words are a file's, of which no register is at fault by itself
abbrev pub has_map : PlainRegisters → Bool
has_map r = is_file r && not (is_some (register_fault (file_in r)))

-- why there is no type map: 2 no register file, 1 a register at fault
abbrev pub no_map_status : PlainRegisters → ℕ
no_map_status r = if is_file r then 1 else 2

-- 0 where so many runs have a place in the array, and else 6
abbrev pub map_status : ℕ → ℕ → ℕ
map_status places count = if nat_le count places then 0 else 6

-- the file's type map was written to an array, as far as it goes
pub record IsMapIn (f : RegisterFile) (old new : List PlainRun) (count : ℕ) : Type 0 where
  pub runs : List Run
  pub are_of : IsRunsOf f runs
  pub array : new ≡ overwritten (map plain_run runs) old
  pub count_is : count ≡ length runs
  pub few : count ≤ 153
