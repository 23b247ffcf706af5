-- Each command that fits leaves what every setup keeps.
use Rattle.std.proofs.Common.{◌≡◌, ◌≢◌, ℕ, ◌≤◌, ◌<◌, ◌+◌, ◌*◌, ◌&&◌, nat_eq, nat_lt, nat_le, Bool, true, false, List, [], ◌∷◌, ◌++◌, length, refl, sym, ap, subst, ◌∙◌, arith, lit≤, inl, inr}
use Rattle.std.specs.Prelude.{Option, None, Some, IfSome, is_some, not, ◌||◌, ◌⊎◌}
use Rattle.std.specs.Option.{option_map}
use Rattle.std.specs.List.{IsDistinct, list_all}
use Rattle.std.specs.Set.{is_member}
use Rattle.std.proofs.lemmas.Bool.{and_parts, leb-true, ltb-true}
use Rattle.mt_regs.specs.RegisterFile.{IsRegisterFile}
use Rattle.mt_dump.specs.Dumps.{Dump, IsDump, first_file}
use Rattle.mt_dump.specs.ForProcessors.{has_each}
use Rattle.mt_script.specs.Situation.{Situation, at_start, file_of, most_processors}
use Rattle.mt_script.specs.Stages.{HasCpus, takes_cpus, takes_dump, takes_commands, takes_registers, takes_windows, takes_end, is_in_dump, is_past_dump, is_past_windows}
use Rattle.mt_script.specs.Numbers.{has_room, lines_together, is_writable, are_apart, address_limit}
use Rattle.mt_script.specs.Kept.{IsSituation}
use Rattle.mt_script.specs.Accept.{Fits, accepted, in_commands, in_motion, in_section_of, finished}
use Rattle.mt_script.specs.declared.command.Stage.{Stage}
use Rattle.mt_script.specs.declared.command.Stage.TheVariants.{NeedCpus, NeedDump, InDump, Rams, Commands, InUpdate, InBegin}
use Rattle.mt_script.specs.declared.command.Command.{Command}
use Rattle.mt_script.specs.declared.command.Command.TheVariants as command
use Rattle.mt_script.specs.declared.command.Section.TheVariants.{Update, Begin, Register, End}
use Rattle.mt_script.specs.declared.command.Ask.{Ask}
use Rattle.mt_script.specs.declared.command.Newcomer.{Newcomer}
use Rattle.mt_dump.proofs.ForProcessors.{first_file_is}
use Rattle.mt_script.proofs.Sections.{one_more_distinct, one_more_known, room_for_one}

-- nothing is set up at the start
pub start_is : IsSituation at_start
unfolding IsDistinct
start_is = record { cpus = refl; has_dump = refl; dump = tt; each = tt; few = lit≤ tt; together = lit≤ tt; early = λ before. refl; distinct = tt; known = λ q member. cc member; idle = λ test. refl; settled = λ before. refl }

no_registers : (P : ℕ → Type 0) (q : ℕ) → is_member nat_eq [] q ≡ true → P q
no_registers P q member = cc member

-- ---- what one test of a stage says of another

abbrev stages : List Stage
stages = NeedCpus ∷ NeedDump ∷ InDump ∷ Rams ∷ Commands ∷ InUpdate ∷ InBegin ∷ []

every : (test : Stage → Bool) → list_all test stages ≡ true → (stage : Stage) → test stage ≡ true
every test all =
    let (cpus, all) = and_parts (test NeedCpus) _ all in
    let (dump, all) = and_parts (test NeedDump) _ all in
    let (in_dump, all) = and_parts (test InDump) _ all in
    let (rams, all) = and_parts (test Rams) _ all in
    let (commands, all) = and_parts (test Commands) _ all in
    let (update, all) = and_parts (test InUpdate) _ all in
    let (begin, all) = and_parts (test InBegin) _ all in
    elim [ NeedCpus ↦ cpus | NeedDump ↦ dump | InDump ↦ in_dump | Rams ↦ rams | Commands ↦ commands | InUpdate ↦ update | InBegin ↦ begin ]

abbrev implies : Bool → Bool → Bool
implies true says = says
implies false says = true

-- where the one is met, so is the other
says : (test other : Stage → Bool) → list_all (λ stage. implies (test stage) (other stage)) stages ≡ true → (stage : Stage) → test stage ≡ true → other stage ≡ true
says test other all stage = by (test stage) (other stage) (every (λ stage. implies (test stage) (other stage)) all stage)
  where
    by : (met says : Bool) → implies met says ≡ true → met ≡ true → says ≡ true
    by true says told is = told
    by false says told is = cc is

-- where the one is met, the other isn't
denies : (test other : Stage → Bool) → list_all (λ stage. implies (test stage) (not (other stage))) stages ≡ true → (stage : Stage) → test stage ≡ true → other stage ≡ false
denies test other all stage is = by (other stage) (says test (λ stage. not (other stage)) all stage is)
  where
    by : (met : Bool) → not met ≡ true → met ≡ false
    by false told = refl
    by true told = cc told

-- the stages in which commands may be given are past the dump, where processors were told
past_of_commands : (stage : Stage) → takes_commands stage ≡ true → is_past_dump stage ≡ true
past_of_commands = says takes_commands is_past_dump refl

past_of_windows : (stage : Stage) → takes_windows stage ≡ true → is_past_dump stage ≡ true
past_of_windows = says takes_windows is_past_dump refl

past_of_registers : (stage : Stage) → takes_registers stage ≡ true → is_past_dump stage ≡ true
past_of_registers = says takes_registers is_past_dump refl

not_past_of_dump : (stage : Stage) → takes_dump stage ≡ true → is_past_dump stage ≡ false
not_past_of_dump = denies takes_dump is_past_dump refl

not_past_of_cpus : (stage : Stage) → takes_cpus stage ≡ true → is_past_dump stage ≡ false
not_past_of_cpus = denies takes_cpus is_past_dump refl

pub not_past_in_dump : (stage : Stage) → is_in_dump stage ≡ true → is_past_dump stage ≡ false
not_past_in_dump = denies is_in_dump is_past_dump refl

idle_commands : (stage : Stage) → takes_commands stage ≡ true → takes_registers stage ≡ false
idle_commands = denies takes_commands takes_registers refl

idle_not_past : (stage : Stage) → is_past_dump stage ≡ false → takes_registers stage ≡ false
idle_not_past stage before = denies (λ stage. not (is_past_dump stage)) takes_registers refl stage (ap not before)

-- windows come after the dump
before_windows : (stage : Stage) → is_past_dump stage ≡ false → is_past_windows stage ≡ false
before_windows stage before = denies (λ stage. not (is_past_dump stage)) is_past_windows refl stage (ap not before)

among_windows : (stage : Stage) → takes_windows stage ≡ true → is_past_windows stage ≡ false
among_windows = denies takes_windows is_past_windows refl

-- what ends outside the dump ends a section
registers_of_end : (stage : Stage) → takes_end stage ≡ true → (is_in_dump stage ≡ true → ⊥) → takes_registers stage ≡ true
registers_of_end stage is not_dump = by (is_in_dump stage) refl (says takes_end (λ stage. is_in_dump stage || takes_registers stage) refl stage is)
  where
    by : (dump : Bool) → is_in_dump stage ≡ dump → (dump || takes_registers stage) ≡ true → takes_registers stage ≡ true
    by true in_it told = absurd (not_dump in_it)
    by false in_it told = told

has_cpus : (stage : Stage) (cpus : ℕ) → takes_cpus stage ≡ false → HasCpus stage cpus → (1 ≤ cpus) × (cpus ≤ 16)
has_cpus NeedCpus cpus told has = cc told
has_cpus NeedDump cpus told has = has
has_cpus InDump cpus told has = has
has_cpus Rams cpus told has = has
has_cpus Commands cpus told has = has
has_cpus InUpdate cpus told has = has
has_cpus InBegin cpus told has = has

cpus_past : (stage : Stage) (cpus : ℕ) → is_past_dump stage ≡ true → HasCpus stage cpus → (1 ≤ cpus) × (cpus ≤ 16)
cpus_past stage cpus past = has_cpus stage cpus (denies is_past_dump takes_cpus refl stage past)

cpus_of_dump : (stage : Stage) (cpus : ℕ) → takes_dump stage ≡ true → HasCpus stage cpus → (1 ≤ cpus) × (cpus ≤ 16)
cpus_of_dump stage cpus takes = has_cpus stage cpus (denies takes_dump takes_cpus refl stage takes)

cpus_in_dump : (stage : Stage) (cpus : ℕ) → is_in_dump stage ≡ true → HasCpus stage cpus → (1 ≤ cpus) × (cpus ≤ 16)
cpus_in_dump stage cpus is = has_cpus stage cpus (denies is_in_dump takes_cpus refl stage is)

-- nothing is said of no dump
of_none : (P : Dump → Type 0) (dump : Option Dump) → is_some dump ≡ false → IfSome dump P
of_none P None none = tt
of_none P (Some dump) none = cc none

-- processor 0's file is one of the dump
first_is : (dump : Option Dump) → IfSome dump IsDump → IfSome (option_map first_file dump) IsRegisterFile
first_is None is = tt
first_is (Some dump) is = first_file_is dump is

length_then : {A : Type 0} (xs : List A) (x : A) → length (xs ++ x ∷ []) ≡ length xs + 1
length_then [] x = refl
length_then (y ∷ xs) x = let e = length_then xs x in omega arith

lines_then : (windows : List (ℕ × ℕ)) (base lines : ℕ) → lines_together (windows ++ (base, lines) ∷ []) ≡ lines_together windows + lines
lines_then [] base lines = omega arith
lines_then (w ∷ windows) base lines = let e = lines_then windows base lines in omega arith

module _ (now : Situation) (is : IsSituation now) where
  -- past the dump
  commands_is : is_past_dump now.stage ≡ true → takes_registers now.stage ≡ false → IsSituation (in_commands now)
  commands_is past idle = record { cpus = cpus_past now.stage now.cpus past is.cpus; has_dump = is.has_dump ∙ past; dump = is.dump; each = is.each; few = is.few; together = is.together; early = λ before. cc before; distinct = is.distinct; known = is.known; idle = λ test. is.idle idle; settled = λ before. cc before }

  -- no register is given where a section begins or ends
  section_is : (stage : Stage) → is_past_dump now.stage ≡ true → HasCpus stage now.cpus → is_past_dump stage ≡ true → is_past_windows stage ≡ true → IsSituation (in_section_of stage now)
  unfolding IsDistinct
  section_is stage past cpus past_too behind = record { cpus = cpus; has_dump = is.has_dump ∙ past ∙ sym past_too; dump = is.dump; each = is.each; few = is.few; together = is.together; early = λ before. let e = sym past_too ∙ before in cc e; distinct = tt; known = no_registers _; idle = λ test. refl; settled = λ before. let e = sym behind ∙ before in cc e }

  cpus_is : (n : ℕ) → is_past_dump now.stage ≡ false → 1 ≤ n → n ≤ 16 → IsSituation (record now { stage = NeedDump; cpus = n })
  cpus_is n before some few = record { cpus = (some, few); has_dump = is.has_dump ∙ before; dump = is.dump; each = of_none (λ dump. has_each n dump ≡ true) now.dump (is.has_dump ∙ before); few = is.few; together = is.together; early = λ still. is.early before; distinct = is.distinct; known = is.known; idle = λ test. is.idle (idle_not_past now.stage before); settled = λ still. is.settled (before_windows now.stage before) }

  dump_is : takes_dump now.stage ≡ true → IsSituation (record now { stage = InDump })
  dump_is takes =
      let before = not_past_of_dump now.stage takes in
      record { cpus = cpus_of_dump now.stage now.cpus takes is.cpus; has_dump = is.has_dump ∙ before; dump = is.dump; each = is.each; few = is.few; together = is.together; early = λ still. is.early before; distinct = is.distinct; known = is.known; idle = λ test. is.idle (idle_not_past now.stage before); settled = λ still. is.settled (before_windows now.stage before) }

  -- the bounds that a window keeps to
  window_bounds : (base lines : ℕ) → has_room now base lines ≡ true → (length now.windows < 16) × (lines_together now.windows + lines ≤ 4096)
  window_bounds base lines room =
      let last = and_parts (nat_le (base + 64 * lines) (address_limit (file_of now)) && list_all (are_apart base lines) now.windows && nat_lt (length now.windows) 16) (nat_le (lines_together now.windows + lines) 4096) room in
      let few = and_parts (nat_le (base + 64 * lines) (address_limit (file_of now)) && list_all (are_apart base lines) now.windows) (nat_lt (length now.windows) 16) last.0 in
      (ltb-true (length now.windows) 16 few.1, leb-true (lines_together now.windows + lines) 4096 last.1)

  pub room_for_window : (base lines : ℕ) → has_room now base lines ≡ true → length now.windows < 16
  room_for_window base lines room = (window_bounds base lines room).0

  window_is : (base lines : ℕ) → takes_windows now.stage ≡ true → has_room now base lines ≡ true → IsSituation (record now { windows = now.windows ++ (base, lines) ∷ [] })
  window_is base lines takes room =
      let bounds = window_bounds base lines room in
      let few = bounds.0 in
      let count = length_then now.windows (base, lines) in
      record { cpus = is.cpus; has_dump = is.has_dump; dump = is.dump; each = is.each; few = omega arith; together = rw (lines_then now.windows base lines) bounds.1; early = λ before. let e = sym (past_of_windows now.stage takes) ∙ before in cc e; distinct = is.distinct; known = is.known; idle = is.idle; settled = is.settled }

  pub room_for_register : (msr : ℕ) → is_writable (file_of now) msr ≡ true → is_member nat_eq now.seen msr ≡ false → length now.seen < 77
  room_for_register msr known new = room_for_one (file_of now) now.seen msr (first_is now.dump is.dump) is.distinct is.known known new

  register_is : (msr : ℕ) → takes_registers now.stage ≡ true → is_writable (file_of now) msr ≡ true → is_member nat_eq now.seen msr ≡ false → IsSituation (record now { seen = now.seen ++ msr ∷ [] })
  register_is msr takes known new = record {
    cpus = is.cpus;
    has_dump = is.has_dump;
    dump = is.dump;
    each = is.each;
    few = is.few;
    together = is.together;
    early = is.early;
    distinct = one_more_distinct (file_of now) now.seen msr (first_is now.dump is.dump) is.distinct is.known known new;
    known = one_more_known (file_of now) now.seen msr (first_is now.dump is.dump) is.distinct is.known known new;
    idle = λ test. let e = sym test ∙ takes in cc e;
    settled = is.settled;
  }

  given : takes_commands now.stage ≡ true → IsSituation (in_commands now)
  given takes = commands_is (past_of_commands now.stage takes) (idle_commands now.stage takes)

  moved : takes_commands now.stage ≡ true → IsSituation (in_motion now)
  moved takes =
      let there = given takes in
      record { cpus = there.cpus; has_dump = there.has_dump; dump = there.dump; each = there.each; few = there.few; together = there.together; early = there.early; distinct = there.distinct; known = there.known; idle = there.idle; settled = λ before. cc before }

  -- while windows may be added no processor has come or gone
  pub all_there : takes_windows now.stage ≡ true → most_processors now ≡ now.cpus
  all_there takes = rw (is.settled (among_windows now.stage takes)) refl

  section : (stage : Stage) → takes_commands now.stage ≡ true → ((1 ≤ now.cpus) × (now.cpus ≤ 16) → HasCpus stage now.cpus) → is_past_dump stage ≡ true → is_past_windows stage ≡ true → IsSituation (in_section_of stage now)
  section stage takes cpus past_too behind =
      let past = past_of_commands now.stage takes in
      section_is stage past (cpus (cpus_past now.stage now.cpus past is.cpus)) past_too behind

  -- each command that fits, but the end of the dump
  pub accepted_is : (c : Command) → Fits now c → (is_in_dump now.stage ≡ true → c ≢ command.Section End) → IsSituation (accepted now c)
  accepted_is command.Blank fits goes_on = is
  accepted_is (command.Cpus n) fits goes_on = cpus_is n (not_past_of_cpus now.stage fits.0) fits.1 fits.2
  accepted_is command.Dump fits goes_on = dump_is fits
  accepted_is command.DumpLine fits goes_on = is
  accepted_is (command.Ram base lines) fits goes_on = window_is base lines fits.0 fits.4
  accepted_is (command.Selfsnoop k) fits goes_on = is
  accepted_is (command.Section Update) fits goes_on = section InUpdate fits (λ cpus. cpus) refl refl
  accepted_is (command.Section Begin) fits goes_on = section InBegin fits (λ cpus. cpus) refl refl
  accepted_is (command.Section (Register msr value)) fits goes_on = register_is msr fits.0 fits.1 fits.2
  accepted_is (command.Section End) fits goes_on =
      let registers = registers_of_end now.stage fits (λ dump. goes_on dump refl) in
      let past = past_of_registers now.stage registers in
      section_is Commands past (cpus_past now.stage now.cpus past is.cpus) refl refl
  accepted_is (command.Ask k a) fits goes_on = given fits.0.0
  accepted_is (command.Newcomer n) fits goes_on = moved fits
  accepted_is command.Retire fits goes_on = moved fits
  accepted_is command.Go fits goes_on = given fits
  accepted_is command.Cancel fits goes_on = given fits
  accepted_is command.Report fits goes_on = given fits
  accepted_is (command.Word address) fits goes_on = given fits.0

  -- the end of the dump
  pub finished_is : (dump : Dump) → is_in_dump now.stage ≡ true → IsDump dump → has_each now.cpus dump ≡ true → IsSituation (finished now dump)
  unfolding IsDistinct
  finished_is dump stage good each = record { cpus = cpus_in_dump now.stage now.cpus stage is.cpus; has_dump = refl; dump = good; each = each; few = is.few; together = is.together; early = λ before. cc before; distinct = tt; known = no_registers _; idle = λ test. refl; settled = λ before. is.settled (before_windows now.stage (not_past_in_dump now.stage stage)) }
