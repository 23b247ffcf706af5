-- The flat machine, without caches, beside a script: what it is given of each command, and the transcript with its values.
use Rattle.std.specs.Prelude.{◌≡◌, ℕ, ◌+◌, List, [], ◌∷◌, if◌then◌else◌, Some, Result, Ok, Err}
use Rattle.std.specs.Option.{option_map_or}
use Rattle.mt_text.specs.Text.{end_of}
use Rattle.mt_text.specs.declared.place.Place.{Place}
use Rattle.mt_regs.specs.RegisterFile.{RegisterFile}
use Rattle.mt_machine.specs.declared.op.Op.{Op}
use Rattle.mt_machine.specs.declared.op.Op.TheVariants as op
use Rattle.mt_machine.specs.declared.done.Done.{Done}
use Rattle.mt_machine.specs.declared.done.Done.TheVariants.{Value}
use Rattle.mt_machine.specs.declared.control.Control.{Control}
use Rattle.mt_machine.specs.declared.control.Control.TheVariants as control_of
use Rattle.mt_machine.specs.Access.{access}
use Rattle.mt_machine.specs.Machine.{Accesses, Controls, Machine, Steps, due_at}
use Rattle.mt_machine.specs.ComingAndGoing.{last_number, with_newcomer}
use Rattle.mt_machine.specs.Update.{physical_of}
use Rattle.mt_flat.specs.Flat.{Flat, empty_all, flat_answer, flat_start}
use Rattle.mt_flat.specs.Seen.{flat_after, flat_takes}
use Rattle.mt_script.specs.Commands.{command_of, end_fault}
use Rattle.mt_script.specs.declared.command.Command.{Command}
use Rattle.mt_script.specs.declared.command.Command.TheVariants as command
use Rattle.mt_script.specs.declared.command.Section.TheVariants.{End}
use Rattle.mt_script.specs.declared.command.Ask.TheVariants as ask
use Rattle.mt_script.specs.declared.command.Newcomer.TheVariants.{Join}
use Rattle.mt_script.specs.declared.fault.ScriptFault.{ScriptFault}
use Rattle.mt_script.specs.declared.fault.Offence.TheVariants as offence
use Rattle.mt_replay.specs.Texts.{absent_line, done_line}
use Rattle.mt_replay.specs.ReplayState.{ReplayState, call_fault, each_processor, is_absent, is_update, mapping, may_come, may_go, present_text, state_after}
use Rattle.mt_replay.specs.Heads.{head_of}
use Rattle.mt_replay.specs.Transcript.{told_at_end, told_by, told_last, told_offence, transcript}
use Rattle.mt_stream.specs.Transcript.{Transcript, behind}

-- ---- what the flat machine is given

abbrev pub flat_accessed : Machine → ℕ → Op → Flat → Flat
flat_accessed m k o f = flat_after m (Accesses k o) f

abbrev pub flat_controlled : Machine → ℕ → Control → Flat → Flat
flat_controlled m k c f = flat_after m (Controls k c) f

abbrev pub flat_stepped : Machine → ℕ → Flat → Flat
flat_stepped m k f = option_map_or (λ e. flat_after m (Steps k e) f) (due_at m k) f

-- of a whole update it is given the takes
abbrev pub flat_updated : Machine → RegisterFile → Flat → Flat
flat_updated m goal f = option_map_or (λ fault. f) (call_fault m goal) (flat_takes (each_processor m.system) f)

-- a newcomer has written nothing; the update that admits it takes from all
abbrev pub flat_joined : Machine → Flat → Flat
flat_joined m f = if may_come m then flat_takes (each_processor (with_newcomer m).system) f else f

-- the pending lines of the one that goes are emptied
abbrev pub flat_retired : Machine → Flat → Flat
flat_retired m f = if may_go m then empty_all (last_number m.system) f else f

abbrev pub flat_present : ReplayState → Command → Flat → Flat
flat_present s (command.Ask k (ask.Load address)) f = flat_accessed s.machine k (op.Load address) f
flat_present s (command.Ask k (ask.Store address value)) f = flat_accessed s.machine k (op.Store address value) f
flat_present s (command.Ask k ask.Fence) f = flat_accessed s.machine k op.Fence f
flat_present s (command.Ask k (ask.Map x)) f = flat_controlled s.machine k (control_of.Map (mapping x)) f
flat_present s (command.Ask k (ask.Invlpg address)) f = flat_controlled s.machine k (control_of.Invlpg address) f
flat_present s (command.Ask k ask.Cr3) f = flat_controlled s.machine k control_of.Cr3 f
flat_present s (command.Ask k (ask.Pge on)) f = flat_controlled s.machine k (control_of.Pge on) f
flat_present s (command.Ask k (ask.Cd on)) f = flat_controlled s.machine k (control_of.Cd on) f
flat_present s (command.Ask k ask.Step) f = flat_stepped s.machine k f
flat_present s (command.Newcomer Join) f = flat_joined s.machine f
flat_present s command.Retire f = flat_retired s.machine f
flat_present s (command.Section End) f = if is_update s.now.stage then flat_updated s.machine s.goal f else f
flat_present s other f = f

abbrev pub flat_command : ReplayState → Command → Flat → Flat
flat_command s c f = if is_absent s.machine c then f else flat_present s c f

-- ---- the transcript with the flat machine's values

-- the answer to a load, with the flat machine's value of its word in place of the machine's
abbrev pub flat_done : Machine → Flat → ℕ → ℕ → Done → Done
flat_done m f k address (Value value kind) = Value (option_map_or (λ word. flat_answer f k kind word) (physical_of m.system k address) 0) kind
flat_done m f k address other = other

abbrev pub flat_present_text : ReplayState → Flat → Command → List ℕ
flat_present_text s f (command.Ask k (ask.Load address)) = done_line (flat_done s.machine f k address (access s.machine.system k (op.Load address)).answer)
flat_present_text s f other = present_text s other

abbrev pub flat_text : ReplayState → Flat → Command → List ℕ
flat_text s f c = if is_absent s.machine c then absent_line else flat_present_text s f c

abbrev pub flat_told_command : ReplayState → Flat → (ReplayState → Flat → Transcript) → Result Command ScriptFault → Transcript
flat_told_command s f rest (Err fault) = told_offence (offence.Script fault)
flat_told_command s f rest (Ok c) = behind (flat_text s f c) (rest (state_after s c) (flat_command s c f))

abbrev pub flat_told_in : Place → ℕ → List (List ℕ) → ReplayState → Flat → Transcript
flat_told_in end number [] s f = told_at_end (end_fault s.now.stage end)
flat_told_in end number (line ∷ lines) s f = flat_told_command s f (flat_told_in end (number + 1) lines) (command_of s.now number line)

-- the flat machine is at its start where the machine is
abbrev pub flat_transcript : List ℕ → Transcript
flat_transcript text = told_by (told_last (Some (end_of text))) (λ number lines s. flat_told_in (end_of text) number lines s flat_start) (head_of text)

-- caches are never seen: each value in a transcript is the flat machine's
abbrev pub ScriptsHideCaches : Type 0
ScriptsHideCaches = (text : List ℕ) → flat_transcript text ≡ transcript text
