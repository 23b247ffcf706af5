-- Each value in a transcript is the flat machine's.
use Rattle.std.proofs.Common.{◌≡◌, ◌∙◌, ap, sym, refl, ℕ, ◌+◌, Bool, true, false, if◌then◌else◌, List, [], ◌∷◌, Option, None, Some, Result, Ok, Err, subst}
use Rattle.mt_machine.specs.Start.{start_machine}
use Rattle.mt_laws.specs.Kept.{flags_of}
use Rattle.mt_laws.proofs.Invariant.Starts.{no_flag_is_the_start}
use Rattle.std.specs.Option.{option_map_or}
use Rattle.mt_text.specs.Text.{lines_of, end_of}
use Rattle.mt_text.specs.declared.place.Place.{Place}
use Rattle.mt_regs.specs.declared.fault.Fault.{Fault}
use Rattle.mt_regs.specs.Agreement.{first_refusal}
use Rattle.mt_regs.specs.RegisterFile.{RegisterFile}
use Rattle.mt_dump.specs.Dumps.{Dump}
use Rattle.mt_dump.specs.ForProcessors.{files_for}
use Rattle.mt_machine.specs.declared.op.Op.TheVariants as op
use Rattle.mt_machine.specs.declared.done.Done.{Done}
use Rattle.mt_machine.specs.declared.done.Done.TheVariants.{Value}
use Rattle.mt_machine.specs.Access.{access}
use Rattle.mt_machine.specs.Machine.{Machine}
use Rattle.mt_core.specs.Arises.{Arises}
use Rattle.mt_core.proofs.Stepping.{is_sound}
use Rattle.mt_flat.specs.Flat.{Flat, flat_answer, flat_start}
use Rattle.mt_flat.specs.Seen.{IsFlatOf}
use Rattle.mt_flat.proofs.Seeing.{answers_are_flat, start_is_flat}
use Rattle.mt_script.specs.Situation.{Situation}
use Rattle.mt_script.specs.Commands.{command_of, end_fault}
use Rattle.mt_script.specs.Script.{script_offence}
use Rattle.mt_script.specs.declared.command.Command.{Command}
use Rattle.mt_script.specs.declared.command.Command.TheVariants as command
use Rattle.mt_script.specs.declared.command.Ask.TheVariants as ask
use Rattle.mt_script.specs.declared.fault.ScriptFault.{ScriptFault}
use Rattle.mt_output.specs.Lines.{accepted_line}
use Rattle.mt_replay.specs.Texts.{absent_line, done_line}
use Rattle.mt_replay_laws.specs.Flat.{ScriptsHideCaches, flat_command, flat_done, flat_present_text, flat_text, flat_told_command, flat_told_in}
use Rattle.mt_replay.specs.Heads.{HeadEnd, head_of, has_offence, shows_dump, stays_open}
use Rattle.mt_replay.specs.Kept.{IsReplayState}
use Rattle.mt_replay.specs.ReplayState.{ReplayState, command_text, first_state, is_absent, present_text, state_after}
use Rattle.mt_replay.specs.Statuses.{ShowsDump}
use Rattle.mt_replay.specs.Transcript.{body_lines, told_at_end, told_by, told_command, told_dump}
use Rattle.mt_stream.specs.Transcript.{Transcript, behind}
use Rattle.mt_replay.proofs.FirstRefusal.{all_accepted}
use Rattle.mt_replay.proofs.Heads.{Comes, IsDumped, comes}
use Rattle.mt_replay.proofs.Keeping.First.{first_kept}
use Rattle.mt_replay.proofs.Keeping.States.{command_known, state_kept}
use Rattle.mt_replay_laws.proofs.Hiding.Commands.{command_beside}

-- a start of processors that aren't self-snooping
bare_is_flat : (files : List RegisterFile) → IsFlatOf (start_machine files []).system flat_start
bare_is_flat files = subst (λ (m : Machine). IsFlatOf m.system flat_start) (no_flag_is_the_start files []) (start_is_flat (flags_of (start_machine files []).system) files [])

-- ---- the text of a command

done_same : (m : Machine) (f : Flat) (k address : ℕ) → Arises m → IsFlatOf m.system f → (answer : Done) → (access m.system k (op.Load address)).answer ≡ answer → flat_done m f k address answer ≡ answer
done_same m f k address a r (Value value kind) is =
    let seen = answers_are_flat m f k address value kind (is_sound m a) r is in
    ap (λ v. Value v kind) (ap (λ (o : Option ℕ). option_map_or (λ word. flat_answer f k kind word) o 0) seen.physical ∙ sym seen.answer)
done_same m f k address a r other is = refl

present_same : (s : ReplayState) (f : Flat) (c : Command) → IsReplayState s → IsFlatOf s.machine.system f → flat_present_text s f c ≡ present_text s c
present_same s f (command.Ask k (ask.Load address)) h r = ap done_line (done_same s.machine f k address h.arises r (access s.machine.system k (op.Load address)).answer refl)
present_same s f other h r = refl

text_same : (s : ReplayState) (f : Flat) (c : Command) → IsReplayState s → IsFlatOf s.machine.system f → flat_text s f c ≡ command_text s c
text_same s f c h r = one (is_absent s.machine c)
  where
    one : (b : Bool) → (if b then absent_line else flat_present_text s f c) ≡ (if b then absent_line else present_text s c)
    one true = refl
    one false = present_same s f c h r

-- ---- the lines after the dump

told_same : (end : Place) (number : ℕ) (lines : List (List ℕ)) (s : ReplayState) (f : Flat) → IsReplayState s → IsFlatOf s.machine.system f → flat_told_in end number lines s f ≡ body_lines (Some end) number lines s
told_same end number [] = λ s f h r. refl
told_same end number (line ∷ lines) = one (told_same end (number + 1) lines)
  where
    one : ((s : ReplayState) (f : Flat) → IsReplayState s → IsFlatOf s.machine.system f → flat_told_in end (number + 1) lines s f ≡ body_lines (Some end) (number + 1) lines s)
        → (s : ReplayState) (f : Flat) → IsReplayState s → IsFlatOf s.machine.system f → flat_told_in end number (line ∷ lines) s f ≡ body_lines (Some end) number (line ∷ lines) s
    one later s f h r = by (command_of s.now number line) refl
      where
        by : (answer : Result Command ScriptFault) → command_of s.now number line ≡ answer → flat_told_command s f (flat_told_in end (number + 1) lines) answer ≡ told_command s (body_lines (Some end) (number + 1) lines) answer
        by (Err fault) is = refl
        by (Ok c) is =
            let fits = command_known s.now number line c is in
            ap (λ text. behind text (flat_told_in end (number + 1) lines (state_after s c) (flat_command s c f))) (text_same s f c h r)
            ∙ ap (behind (command_text s c)) (later (state_after s c) (flat_command s c f) (state_kept s c h fits) (command_beside s c f h fits r))

-- ---- whole scripts

module _ (text : List ℕ) where
  abbrev end : Place
  end = end_of text

  abbrev flat_body : ℕ → List (List ℕ) → ReplayState → Transcript
  flat_body number lines s = flat_told_in end number lines s flat_start

  -- the flat machine is at its start where the machine is
  dump_same : (now : Situation) (dump : Dump) (number : ℕ) (lines : List (List ℕ)) → IsDumped end 1 (lines_of text) (script_offence text) (ShowsDump text) now dump number lines
      → (refusal : Option (ℕ × Fault)) → first_refusal dump.files ≡ refusal → told_dump now dump (flat_body number lines) refusal ≡ told_dump now dump (body_lines (Some end) number lines) refusal
  dump_same now dump number lines h (Some refusal) has = refl
  dump_same now dump number lines h None has =
      ap (behind accepted_line)
      (told_same end number lines (first_state now dump) flat_start (first_kept now dump h.is h.in_dump h.good h.each (all_accepted dump.files has)) (bare_is_flat (files_for now.cpus dump)))

  abbrev tells : (ℕ → List (List ℕ) → ReplayState → Transcript) → HeadEnd → Transcript
  tells body e = told_by (λ last. told_at_end (end_fault last.stage end)) body e

  end_same : (e : HeadEnd) → Comes end 1 (lines_of text) (script_offence text) (ShowsDump text) e → tells flat_body e ≡ tells (body_lines (Some end)) e
  end_same (stays_open now before) h = refl
  end_same (has_offence o) h = refl
  end_same (shows_dump now dump number lines) h = dump_same now dump number lines h (first_refusal dump.files) refl

pub scripts_hide_caches : ScriptsHideCaches
scripts_hide_caches text = end_same text (head_of text) (comes text)
