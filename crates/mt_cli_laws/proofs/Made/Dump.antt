-- The dump of a text for measurements: the file that it shows is accepted.
use Rattle.std.proofs.Common.{◌≢◌, refl, inl, inr, ℕ, false, List, [], ◌∷◌, ◌++◌, Some}
use Rattle.std.specs.Prelude.{replicate}
use Rattle.std.specs.List.{All}
use Rattle.std.proofs.lemmas.Bool.{cases_Bool}
use Rattle.std.proofs.lemmas.List.Elements.{All-cons, All-nil}
use Rattle.mt_ranges.specs.Match.{matches_pair}
use Rattle.mt_regs.specs.declared.page_type.PageType.TheVariants.{Undefined}
use Rattle.mt_regs.specs.RegisterFile.{RegisterFile}
use Rattle.mt_regs.specs.Faults.{IsAccepted}
use Rattle.mt_regs.specs.PageTypes.{page_type}
use Rattle.mt_dump.specs.Dumps.{Dump, dump_of}
use Rattle.mt_script.specs.Situation.{Situation}
use Rattle.mt_script.specs.declared.command.Stage.TheVariants.{Commands}
use Rattle.mt_replay.specs.Statuses.{ShowsDump}
use Rattle.mt_answers.specs.Generator.{head_text}

-- the registers of all processors
abbrev pub made_file : RegisterFile
made_file = record {
  width = 36;
  capabilities = 0x508;
  pairs = (6, 0xf00000800) ∷ replicate 7 (0, 0);
  fixed = replicate 11 0;
  pat = 0x0007040600070406;
  default_type = 0x800;
}

abbrev pub made_dump : Dump
made_dump = dump_of made_file

-- behind a command outside the sections
abbrev pub ready : Situation
ready = record { stage = Commands; cpus = 16; dump = Some made_dump; windows = (0, 4096) ∷ []; seen = []; moving = false }

-- one valid pair overlaps with no other
defined : (page : ℕ) → page_type made_file page ≢ Undefined
defined page is = elim (cases_Bool (matches_pair 36 (6, 0xf00000800) page)) [
  | inl hit ↦ let e = rw hit at is in cc e
  | inr miss ↦ let e = rw miss at is in cc e
]

file_accepted : IsAccepted made_file
file_accepted = λ page within. defined page

pub made_accepted : All IsAccepted made_dump.files
made_accepted = All-cons IsAccepted made_file [] file_accepted (All-nil IsAccepted)

pub made_shown : (rest : List ℕ) → ShowsDump (head_text ++ rest) made_dump
made_shown rest = refl
