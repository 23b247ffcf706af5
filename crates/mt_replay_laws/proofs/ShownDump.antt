-- Each state that a text comes to has the dump that the text shows.
use Rattle.std.proofs.Common.{◌≡◌, ◌∙◌, ap, sym, ℕ, ◌+◌, List, [], ◌∷◌, Option, None, Some, Result, Ok, Err}
use Rattle.std.specs.Prelude.{IfSome}
use Rattle.std.specs.List.{AllByRecursion}
use Rattle.mt_text.specs.Text.{end_of, lines_of}
use Rattle.mt_regs.specs.declared.fault.Fault.{Fault}
use Rattle.mt_regs.specs.Agreement.{first_refusal}
use Rattle.mt_dump.specs.Dumps.{Dump}
use Rattle.mt_script.specs.Situation.{Situation}
use Rattle.mt_script.specs.Commands.{command_of}
use Rattle.mt_script.specs.Script.{script_offence}
use Rattle.mt_script.specs.declared.command.Command.{Command}
use Rattle.mt_script.specs.declared.fault.ScriptFault.{ScriptFault}
use Rattle.mt_script.proofs.Heads.{accepted_dump}
use Rattle.mt_replay.specs.Heads.{HeadEnd, head_of, has_offence, shows_dump, stays_open}
use Rattle.mt_replay_laws.specs.Through.{HoldsAlong}
use Rattle.mt_replay.specs.Steps.{begins_by, begins_with, left, steps_in, steps_of}
use Rattle.mt_replay.specs.ReplayState.{ReplayState, state_after}
use Rattle.mt_replay.specs.Statuses.{ShowsDump}
use Rattle.mt_replay_laws.specs.Through.{StatesHaveTheShownDump}
use Rattle.mt_replay.proofs.Heads.{Comes, comes}

module _ (dump : Dump) where
  abbrev Has : ReplayState → Type 0
  Has s = s.now.dump ≡ Some dump

  each_in : (number : ℕ) (lines : List (List ℕ)) (s : ReplayState) → Has s → HoldsAlong Has s (steps_in number lines s)
  each_in number [] = λ s h. (h, tt)
  each_in number (line ∷ lines) = one (each_in (number + 1) lines)
    where
      one : ((s : ReplayState) → Has s → HoldsAlong Has s (steps_in (number + 1) lines s)) → (s : ReplayState) → Has s → HoldsAlong Has s (steps_in number (line ∷ lines) s)
      one later s h = (h, by (command_of s.now number line))
        where
          by : (answer : Result Command ScriptFault) → AllByRecursion (λ step. Has (left step)) (steps_of s number (steps_in (number + 1) lines) answer)
          by (Err fault) = tt
          by (Ok c) = later (state_after s c) (accepted_dump s.now c ∙ h)

  -- ---- whole scripts

  of_dump : (now : Situation) (d : Dump) (number : ℕ) (lines : List (List ℕ)) → d ≡ dump → (refusal : Option (ℕ × Fault))
      → IfSome (begins_with now d number lines refusal) (λ b. HoldsAlong Has b.state (steps_in b.number b.lines b.state))
  of_dump now d number lines same (Some refusal) = tt
  of_dump now d number lines same None = each_in number lines _ (ap (λ (x : Dump). Some x) same)

  has_by : (text : List ℕ) → ShowsDump text dump → (e : HeadEnd) → Comes (end_of text) 1 (lines_of text) (script_offence text) (ShowsDump text) e
      → IfSome (begins_by e) (λ b. HoldsAlong Has b.state (steps_in b.number b.lines b.state))
  has_by text shown (stays_open now before) h = tt
  has_by text shown (has_offence o) h = tt
  has_by text shown (shows_dump now d number lines) h = of_dump now d number lines (sym (h.alone dump shown)) (first_refusal d.files)

pub states_have_the_shown_dump : StatesHaveTheShownDump
states_have_the_shown_dump text dump shown = has_by dump text shown (head_of text) (comes text)
