-- What holds of each situation (own).
use Rattle.std.specs.Prelude.{ℕ, ◌≡◌, ◌≤◌, nat_eq, true, false, [], length, IfSome, is_some}
use Rattle.std.specs.List.{IsDistinct}
use Rattle.std.specs.Set.{is_member}
use Rattle.mt_kinds.specs.Sizes.{most_lines}
use Rattle.mt_dump.specs.Dumps.{IsDump}
use Rattle.mt_dump.specs.ForProcessors.{has_each}
use Rattle.mt_script.specs.Situation.{Situation, file_of}
use Rattle.mt_script.specs.Stages.{HasCpus, is_past_dump, is_past_windows, takes_registers}
use Rattle.mt_script.specs.Numbers.{is_writable, lines_together}

pub record IsSituation (now : Situation) : Type 0 where
  pub cpus : HasCpus now.stage now.cpus  -- 1 to 16 processors once they are told
  pub has_dump : is_some now.dump ≡ is_past_dump now.stage  -- a dump exactly after its end
  pub dump : IfSome now.dump IsDump
  pub each : IfSome now.dump (λ dump. has_each now.cpus dump ≡ true)  -- each processor has a file in it
  pub few : length now.windows ≤ 16
  pub together : lines_together now.windows ≤ most_lines
  pub early : is_past_dump now.stage ≡ false → now.windows ≡ []  -- windows come after the dump
  pub distinct : IsDistinct nat_eq now.seen  -- no register is given twice in a section
  pub known : (msr : ℕ) → is_member nat_eq now.seen msr ≡ true → is_writable (file_of now) msr ≡ true  -- each of them is a writable register
  pub idle : takes_registers now.stage ≡ false → now.seen ≡ []  -- and outside the sections none is given
  pub settled : is_past_windows now.stage ≡ false → now.moving ≡ false  -- no processor comes or goes before the last window
