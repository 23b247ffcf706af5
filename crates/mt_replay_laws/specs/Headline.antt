-- The headline of a script (own), phrase by phrase: "Whatever bytes a script has, the tool writes exactly the transcript; in every
-- interleaving of processor steps, once any processor is told that an accepted update is complete, and until the next is called,
-- every processor holds those register values, no cache, buffer or TLB entry is older than the update, and memory holds every store
-- cached before it, save words stored again since. A refused update changes no processor."
--     IsCall step      the step says `called` or `complete E`, or that a processor came up or joined
--     KeepsUpdate goal era value stored m      every processor has the goal, nothing is older than the update, memory has each word
--     CompleteUpdatesAreKept, JoinsAreKept, ReleasedUpdatesAreKept      the machine does so from the line `complete E`, `joined K` or `release` on
use Rattle.std.specs.Prelude.{ℕ, ◌≡◌, ◌<◌, ◌⊎◌, ◌↔◌, ◌+◌, Bool, true, List, [], ◌∷◌, ◌++◌, codes, length, IsSome, ⊤, Option, Some, None, Ok}
use Rattle.std.specs.List.{All, Contains}
use Rattle.std.specs.Option.{option_map_or}
use Rattle.mt_text.specs.Text.{lines_of}
use Rattle.mt_ports.specs.declared.status.Status.{Status}
use Rattle.mt_ports.specs.declared.status.Status.TheVariants.{Done, Refused}
use Rattle.mt_regs.specs.declared.fault.Fault.{Fault}
use Rattle.mt_regs.specs.RegisterFile.{RegisterFile}
use Rattle.mt_regs.specs.Faults.{IsAccepted}
use Rattle.mt_dump.specs.Dumps.{Dump}
use Rattle.mt_machine.specs.Memory.{place, word_at}
use Rattle.mt_machine.specs.System.{now}
use Rattle.mt_machine.specs.Machine.{Machine, common_era}
use Rattle.mt_machine.specs.ComingAndGoing.{with_newcomer}
use Rattle.mt_machine.specs.Update.{IsSettled}
use Rattle.mt_script.specs.Commands.{command_of}
use Rattle.mt_script.specs.Script.{script_offence}
use Rattle.mt_script.specs.declared.command.Command.{Command}
use Rattle.mt_script.specs.declared.command.Command.TheVariants as command
use Rattle.mt_script.specs.declared.command.Section.TheVariants.{Update, Begin, Register, End}
use Rattle.mt_script.specs.declared.command.Newcomer.TheVariants.{Up, Join}
use Rattle.mt_script.specs.declared.fault.Offence.{Offence}
use Rattle.mt_output.specs.Lines.{accepted_line, dump_refused_line, line, refused_line}
use Rattle.mt_replay.specs.Kept.{start_of}
use Rattle.mt_replay_laws.specs.Through.{HoldsThrough}
use Rattle.mt_replay_laws.specs.Coming.{BringsUp}
use Rattle.mt_replay.specs.ReplayState.{ReplayState, first_file, with_register}
use Rattle.mt_output.specs.Ports.{Held, Port}
use Rattle.mt_replay.specs.Running.{Replays, ReplaysAs}
use Rattle.mt_replay_laws.specs.Settling.{emptied_now, stored_by}
use Rattle.mt_replay.specs.Statuses.{ShowsDump}
use Rattle.mt_replay.specs.Texts.{called_line, complete_line, joined_line, under_way_line, up_line}
use Rattle.mt_replay.specs.Transcript.{told_offence, transcript}
use Rattle.mt_stream.specs.Transcript.{Transcript, behind, transcript_with}
use Rattle.mt_replay.specs.Steps.{ScriptStep, wrote, left, Beginning, beginning, course, last_of}

-- ---- "the tool writes exactly the transcript of the manual's machine"

abbrev pub joined : List ScriptStep → List ℕ
joined [] = []
joined (step ∷ steps) = wrote step ++ joined steps

-- the line of the first offence, where there is one
abbrev pub ending : Option Offence → Transcript
ending None = transcript_with [] Done
ending (Some o) = told_offence o

-- the line `accepted`, what the steps write, and the ending
abbrev pub told_by_course : List ℕ → Transcript
told_by_course text = behind accepted_line (behind (joined (course text)) (ending (script_offence text)))

-- the transcript is that text, with its status
abbrev pub TranscriptIsOfTheCourse : Type 0
TranscriptIsOfTheCourse = (text : List ℕ) → IsSome (beginning text) → transcript text ≡ told_by_course text

-- what a replay of a text leaves in the source and the sink is told of that text
abbrev pub ReplaysAreOfTheCourse : Type 0
ReplaysAreOfTheCourse =
    (source : Held) (sink : Port) (status : Status) → IsSome (beginning source.bytes)
    → Replays source sink status → ReplaysAs (told_by_course source.bytes) source sink status

-- where no step begins it is one line, of an offence or of the refused dump
abbrev pub TranscriptIsOneLine : Type 0
TranscriptIsOneLine =
    (text : List ℕ) → beginning text ≡ None
    → ((o : Offence) × (transcript text ≡ told_offence o)) ⊎ ((version : ℕ) × (k : ℕ) × (fault : Fault) × (transcript text ≡ transcript_with (dump_refused_line version k fault) Refused))

-- a step is what the script's line of its number asks for
abbrev pub StepsAreOfTheirLines : Type 0
StepsAreOfTheirLines =
    (text : List ℕ) (front rest : List ScriptStep) (step : ScriptStep) → course text ≡ front ++ step ∷ rest
    → (above : List (List ℕ)) × (line : List ℕ) × (below : List (List ℕ))
    × (lines_of text ≡ above ++ line ∷ below) × (step.number ≡ length above + 1) × (command_of step.before.now step.number line ≡ Ok step.command)

-- Where the dump shows files without a fault, the first step finds processors with those files, to which nothing has happened.
abbrev pub StartsAsTheDumpShows : Type 0
StartsAsTheDumpShows =
    (text : List ℕ) (dump : Dump) → ShowsDump text dump → All IsAccepted dump.files
    → (b : Beginning) × (beginning text ≡ Some b) × (b.state.machine ≡ start_of b.state.now dump)
    × ((step : ScriptStep) (rest : List ScriptStep) → course text ≡ step ∷ rest → step.before ≡ b.state)

-- each step finds what the one before it left
abbrev pub StepsFollow : Type 0
StepsFollow = (text : List ℕ) (front rest : List ScriptStep) (first second : ScriptStep) → course text ≡ front ++ first ∷ second ∷ rest → second.before ≡ left first

-- what holds through a text holds where each step begins and ends
abbrev pub StatesAreOfTheCourse : Type 0
StatesAreOfTheCourse =
    (text : List ℕ) (test : ReplayState → Bool) → HoldsThrough (λ s. test s ≡ true) text
    → (front rest : List ScriptStep) (step : ScriptStep) → course text ≡ front ++ step ∷ rest → (test step.before ≡ true) × (test (left step) ≡ true)

-- ---- "an accepted update"

-- the end of a section calls for an update
abbrev pub IsSectionCall : ScriptStep → Type 0
IsSectionCall step = (wrote step ≡ called_line) ⊎ ((era : ℕ) × (wrote step ≡ complete_line era))

-- so does a processor that comes up, and one that joins
abbrev pub ComesUp : ScriptStep → ℕ → Type 0
ComesUp step k = (step.command ≡ command.Newcomer Up) × (wrote step ≡ up_line k)

abbrev pub Joins : ScriptStep → ℕ → Type 0
Joins step k = (step.command ≡ command.Newcomer Join) × (wrote step ≡ joined_line k)

abbrev pub IsNewcomer : ScriptStep → Type 0
IsNewcomer step = (k : ℕ) × (ComesUp step k ⊎ Joins step k)

-- a step calls for an update
abbrev pub IsCall : ScriptStep → Type 0
IsCall step = IsSectionCall step ⊎ IsNewcomer step

-- an update is accepted exactly where none is under way and its goal has no fault
abbrev pub AcceptedWhereIdleAndWhole : Type 0
AcceptedWhereIdleAndWhole =
    (text : List ℕ) (front rest : List ScriptStep) (step : ScriptStep) → course text ≡ front ++ step ∷ rest → step.command ≡ command.Section End
    → IsCall step ↔ ((step.before.machine.order ≡ None) × IsAccepted step.before.goal)

-- that of a newcomer exactly where none is under way and fewer than sixteen processors stand; its number is the next
abbrev pub NewcomersWhereIdle : Type 0
NewcomersWhereIdle =
    (text : List ℕ) (front rest : List ScriptStep) (step : ScriptStep) → course text ≡ front ++ step ∷ rest → BringsUp step.command
    → IsCall step ↔ ((step.before.machine.order ≡ None) × (length step.before.machine.system.processors < 16))

-- ---- "until the next is called"

-- of no step it holds
abbrev pub NoneOf : (ScriptStep → Type 0) → List ScriptStep → Type 0
NoneOf P [] = ⊤
NoneOf P (step ∷ steps) = (P step → ⊥) × NoneOf P steps

abbrev pub NoneWrote : List ℕ → List ScriptStep → Type 0
NoneWrote text steps = NoneOf (λ step. wrote step ≡ text) steps

-- the era of the processors after an update that this step begins
abbrev pub next_era : ScriptStep → ℕ
next_era step = common_era step.before.machine.system.processors + 1

-- ---- "those register values"

-- a line of a section gives the goal one register
abbrev pub given : RegisterFile → Command → RegisterFile
given goal (command.Section (Register number value)) = with_register goal number value
given goal other = goal

abbrev pub goal_of : RegisterFile → List ScriptStep → RegisterFile
goal_of goal [] = goal
goal_of goal (step ∷ steps) = goal_of (given goal step.command) steps

-- The section that a call ends: the step that begins it, and its lines. The goal is processor 0's registers where it begins,
-- with those that its lines give.
pub record SectionOf (front : List ScriptStep) (call : ScriptStep) : Type 0 where
  pub before : List ScriptStep
  pub opens : ScriptStep
  pub lines : List ScriptStep
  pub stand : front ≡ before ++ opens ∷ lines
  pub begins : (opens.command ≡ command.Section Update) ⊎ (opens.command ≡ command.Section Begin)
  pub no_other_end : NoneOf (λ step. step.command ≡ command.Section End) lines
  pub ends : call.command ≡ command.Section End
  pub goal : call.before.goal ≡ goal_of (first_file opens.before) lines

-- each call but for a newcomer ends a section of this script, which gives its goal
abbrev pub GoalsAreOfTheirSections : Type 0
GoalsAreOfTheirSections =
    (text : List ℕ) (front rest : List ScriptStep) (call : ScriptStep) → course text ≡ front ++ call ∷ rest → IsSectionCall call → SectionOf front call

-- for a newcomer the goal is processor 0's registers
abbrev pub goal_by : Command → ReplayState → RegisterFile
goal_by (command.Newcomer n) s = first_file s
goal_by other s = s.goal

abbrev pub called_goal : ScriptStep → RegisterFile
called_goal step = goal_by step.command step.before

-- ---- "every processor holds those register values, no cache, buffer or TLB entry is older than the update,
-- ---- and memory holds every store cached before it, save words stored again since"

-- each processor's file is the goal, and each line, buffer and TLB entry is of this era; each word in memory has this value, save those stored again
pub record KeepsUpdate (goal : RegisterFile) (era : ℕ) (value : ℕ → ℕ) (stored : List ℕ) (m : Machine) : Type 0 where
  pub settled : IsSettled m.system era goal
  pub held : (address : ℕ) → IsSome (place m.system.memory address) → (Contains stored address → ⊥) → word_at m.system.memory address ≡ value address

-- the words for which a store of these steps was answered `stored`
abbrev pub stored_in : List ScriptStep → List ℕ
stored_in [] = []
stored_in (step ∷ steps) = option_map_or (λ a. a ∷ stored_in steps) (stored_by step.before step.command) (stored_in steps)

-- ---- "once any processor is told that an accepted update is complete": all at once by `complete E`

-- the value of a word is what it had, cached or not, once the buffers were emptied
abbrev pub CompleteUpdatesAreKept : Type 0
CompleteUpdatesAreKept =
    (text : List ℕ) (front since rest : List ScriptStep) (update : ScriptStep) (era : ℕ)
    → course text ≡ front ++ update ∷ (since ++ rest) → wrote update ≡ complete_line era → NoneOf IsCall since
    → (wrote update ≡ complete_line (next_era update))
    × KeepsUpdate update.before.goal (next_era update) (emptied_now update.before.machine) (stored_in since) (last_of (left update) since).machine

-- ---- the same, by `joined K`

-- the newcomer's number is the next, and it stands behind the others
pub record HasNewcomer (step : ScriptStep) : Type 0 where
  pub number : wrote step ≡ joined_line (length step.before.machine.system.processors)
  pub one_more : length (left step).machine.system.processors ≡ length step.before.machine.system.processors + 1

-- all processors hold the registers that the first one had, the newcomer among them
abbrev pub JoinsAreKept : Type 0
JoinsAreKept =
    (text : List ℕ) (front since rest : List ScriptStep) (join : ScriptStep) (k : ℕ)
    → course text ≡ front ++ join ∷ (since ++ rest) → Joins join k → NoneOf IsCall since
    → HasNewcomer join
    × KeepsUpdate (first_file join.before) (next_era join) (emptied_now (with_newcomer join.before.machine)) (stored_in since) (last_of (left join) since).machine

-- ---- the same, one after the other by `release`

abbrev pub pass_line : List ℕ
pass_line = line (codes "pass")

abbrev pub release_line : List ℕ
release_line = line (codes "release")

-- by the end of a section of `begin`, or for a processor that comes up
abbrev pub IsCalled : ScriptStep → Type 0
IsCalled step = (wrote step ≡ called_line) ⊎ ((k : ℕ) × ComesUp step k)

-- The update of which a release tells. In this order stand in the course: its call, its first pass, its first release, and this
-- release, which may be the first itself.
pub record UpdateOf (front : List ScriptStep) (release : ScriptStep) : Type 0 where
  pub before : List ScriptStep
  pub call : ScriptStep
  pub waiting : List ScriptStep
  pub pass : ScriptStep
  pub between : List ScriptStep
  pub first : ScriptStep
  pub again : List ScriptStep  -- from behind the first release to this one
  pub stand : front ++ release ∷ [] ≡ before ++ call ∷ (waiting ++ pass ∷ (between ++ first ∷ again))
  pub calls : IsCalled call
  pub passes : wrote pass ≡ pass_line
  pub releases : wrote first ≡ release_line
  pub no_other_call : NoneOf IsCall (waiting ++ pass ∷ (between ++ first ∷ again))
  pub first_pass : NoneWrote pass_line waiting
  pub first_release : NoneWrote release_line (waiting ++ pass ∷ between)
  pub no_store_waits : All (λ p. p.buffers ≡ []) pass.before.machine.system.processors  -- in a buffer, just before the pass

-- the value of a word is what it had, cached or not, just before the first pass
abbrev pub ReleasedUpdatesAreKept : Type 0
ReleasedUpdatesAreKept =
    (text : List ℕ) (front since rest : List ScriptStep) (release : ScriptStep)
    → course text ≡ front ++ release ∷ (since ++ rest) → wrote release ≡ release_line → NoneOf IsCall since
    → (u : UpdateOf front release)
    × KeepsUpdate (called_goal u.call) (next_era u.call) (now u.pass.before.machine.system) (stored_in (u.again ++ since)) (last_of (left release) since).machine

-- ---- "a refused update changes no processor"

abbrev pub IsRefused : ScriptStep → Type 0
IsRefused step = ((fault : Fault) × (wrote step ≡ refused_line fault)) ⊎ (wrote step ≡ under_way_line)

-- nor memory, nor an update under way; nor does a processor come or go
abbrev pub RefusedUpdatesChangeNothing : Type 0
RefusedUpdatesChangeNothing =
    (text : List ℕ) (front rest : List ScriptStep) (step : ScriptStep) → course text ≡ front ++ step ∷ rest → IsRefused step → (left step).machine ≡ step.before.machine
