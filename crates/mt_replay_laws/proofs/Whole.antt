-- Each state that a text comes to is kept.
use Rattle.std.proofs.Common.{◌≡◌, refl, ℕ, ◌+◌, List, [], ◌∷◌, Option, None, Some, Result, Ok, Err}
use Rattle.std.specs.Prelude.{IfSome}
use Rattle.std.specs.List.{AllByRecursion}
use Rattle.mt_text.specs.Text.{end_of, lines_of}
use Rattle.mt_regs.specs.declared.fault.Fault.{Fault}
use Rattle.mt_regs.specs.Agreement.{first_refusal}
use Rattle.mt_dump.specs.Dumps.{Dump}
use Rattle.mt_script.specs.Situation.{Situation}
use Rattle.mt_script.specs.Commands.{command_of}
use Rattle.mt_script.specs.Script.{script_offence}
use Rattle.mt_script.specs.declared.command.Command.{Command}
use Rattle.mt_script.specs.declared.fault.ScriptFault.{ScriptFault}
use Rattle.mt_replay.specs.Heads.{HeadEnd, head_of, has_offence, shows_dump, stays_open}
use Rattle.mt_replay.specs.Kept.{IsReplayState}
use Rattle.mt_replay_laws.specs.Through.{HoldsAlong, ScriptsKeep}
use Rattle.mt_replay.specs.Steps.{begins_by, begins_with, left, steps_in, steps_of}
use Rattle.mt_replay.specs.ReplayState.{ReplayState, state_after}
use Rattle.mt_replay.specs.Statuses.{ShowsDump}
use Rattle.mt_replay.proofs.FirstRefusal.{all_accepted}
use Rattle.mt_replay.proofs.Heads.{Comes, IsDumped, comes}
use Rattle.mt_replay.proofs.Keeping.First.{first_kept}
use Rattle.mt_replay.proofs.Keeping.States.{command_known, state_kept}

each_in : (number : ℕ) (lines : List (List ℕ)) (s : ReplayState) → IsReplayState s → HoldsAlong IsReplayState s (steps_in number lines s)
each_in number [] = λ s h. (h, tt)
each_in number (line ∷ lines) = one (each_in (number + 1) lines)
  where
    one : ((s : ReplayState) → IsReplayState s → HoldsAlong IsReplayState s (steps_in (number + 1) lines s)) → (s : ReplayState) → IsReplayState s → HoldsAlong IsReplayState s (steps_in number (line ∷ lines) s)
    one later s h = (h, by (command_of s.now number line) refl)
      where
        by : (answer : Result Command ScriptFault) → command_of s.now number line ≡ answer → AllByRecursion (λ step. IsReplayState (left step)) (steps_of s number (steps_in (number + 1) lines) answer)
        by (Err fault) asked = tt
        by (Ok c) asked = later (state_after s c) (state_kept s c h (command_known s.now number line c asked))

-- ---- whole scripts

module _ (text : List ℕ) where
  abbrev Dumped : Situation → Dump → ℕ → List (List ℕ) → Type 0
  Dumped now dump number lines = IsDumped (end_of text) 1 (lines_of text) (script_offence text) (ShowsDump text) now dump number lines

  of_dump : (now : Situation) (dump : Dump) (number : ℕ) (lines : List (List ℕ)) → Dumped now dump number lines → (refusal : Option (ℕ × Fault)) → first_refusal dump.files ≡ refusal
      → IfSome (begins_with now dump number lines refusal) (λ b. HoldsAlong IsReplayState b.state (steps_in b.number b.lines b.state))
  of_dump now dump number lines h (Some refusal) first = tt
  of_dump now dump number lines h None first = each_in number lines _ (first_kept now dump h.is h.in_dump h.good h.each (all_accepted dump.files first))

  kept_by : (e : HeadEnd) → Comes (end_of text) 1 (lines_of text) (script_offence text) (ShowsDump text) e → IfSome (begins_by e) (λ b. HoldsAlong IsReplayState b.state (steps_in b.number b.lines b.state))
  kept_by (stays_open now before) h = tt
  kept_by (has_offence o) h = tt
  kept_by (shows_dump now dump number lines) h = of_dump now dump number lines h (first_refusal dump.files) refl

pub scripts_keep : ScriptsKeep
scripts_keep text = kept_by text (head_of text) (comes text)
