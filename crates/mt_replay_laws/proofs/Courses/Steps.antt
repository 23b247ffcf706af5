-- The course of a text: its transcript is what the steps write, and each step finds what the one before it left.
use Rattle.std.proofs.Common.{◌≡◌, ◌⊎◌, ◌∙◌, ap, sym, refl, subst, inl, inr, ℕ, ◌+◌, Bool, true, false, List, [], ◌∷◌, ◌++◌, Option, None, Some, Result, Ok, Err}
use Rattle.std.specs.Prelude.{IsSome, if◌then◌else◌}
use Rattle.std.specs.Option.{option_map, option_map_or}
use Rattle.std.proofs.lemmas.List.{append_assoc}
use Rattle.mt_text.specs.Text.{lines_of, end_of}
use Rattle.mt_text.specs.declared.place.Place.{Place}
use Rattle.mt_ports.specs.declared.status.Status.TheVariants.{Refused}
use Rattle.mt_regs.specs.declared.fault.Fault.{Fault}
use Rattle.mt_regs.specs.Agreement.{first_refusal}
use Rattle.mt_dump.specs.Dumps.{Dump}
use Rattle.mt_script.specs.Situation.{Situation}
use Rattle.mt_script.specs.Stages.{is_in_dump, takes_windows}
use Rattle.mt_script.specs.Numbers.{fault_at}
use Rattle.mt_script.specs.declared.fault.ScriptReason.TheVariants.{NoEnd}
use Rattle.mt_script.specs.Commands.{command_of, end_fault}
use Rattle.mt_script.specs.Accept.{Fits, accepted}
use Rattle.mt_script.specs.Head.{goes_on, is_end_command, step_in_dump, step_of_answer}
use Rattle.mt_script.specs.Script.{offence_after, offence_in, script_offence}
use Rattle.mt_script.specs.declared.command.Command.{Command}
use Rattle.mt_script.specs.declared.fault.ScriptFault.{ScriptFault}
use Rattle.mt_script.specs.declared.fault.Offence.{Offence}
use Rattle.mt_script.specs.declared.fault.Offence.TheVariants.{Script}
use Rattle.mt_script.proofs.Keeping.{not_past_in_dump}
use Rattle.mt_output.specs.Lines.{accepted_line, dump_refused_line}
use Rattle.mt_replay_laws.specs.Headline.{ReplaysAreOfTheCourse, StepsFollow, TranscriptIsOfTheCourse, TranscriptIsOneLine, ending, joined}
use Rattle.mt_replay.specs.Steps.{Beginning, ScriptStep, beginning, begins_by, begins_with, course, last_of, left, steps_in, steps_of}
use Rattle.mt_replay.specs.Heads.{HeadEnd, head_of, has_offence, shows_dump, stays_open}
use Rattle.mt_replay.specs.Kept.{IsReplayState, start_like, start_of}
use Rattle.mt_replay.specs.ReplayState.{ReplayState, command_text, state_after}
use Rattle.mt_replay.specs.Running.{ReplaysAs}
use Rattle.mt_replay.specs.Statuses.{ShowsDump}
use Rattle.mt_replay.specs.Transcript.{body_lines, told_at_end, told_by, told_command, told_dump, told_offence, transcript}
use Rattle.mt_stream.specs.Transcript.{Transcript, behind, transcript_with}
use Rattle.mt_replay.proofs.FirstRefusal.{all_accepted}
use Rattle.mt_replay.proofs.Heads.{Comes, IsDumped, comes}
use Rattle.mt_replay.proofs.Keeping.First.{first_kept, first_start}
use Rattle.mt_replay.proofs.Keeping.States.{command_known, state_kept}

-- ---- chains

-- these steps go on from this state, each where the one before it ended
abbrev pub AreInTurn : ReplayState → List ScriptStep → Type 0
AreInTurn s [] = Unit {0}
AreInTurn s (step ∷ steps) = (step.before ≡ s) × Fits step.before.now step.command × AreInTurn (left step) steps

pub steps_go_on : (number : ℕ) (lines : List (List ℕ)) (s : ReplayState) → AreInTurn s (steps_in number lines s)
steps_go_on number [] = λ s. tt
steps_go_on number (line ∷ lines) = one (steps_go_on (number + 1) lines)
  where
    one : ((s : ReplayState) → AreInTurn s (steps_in (number + 1) lines s)) → (s : ReplayState) → AreInTurn s (steps_in number (line ∷ lines) s)
    one later s = by (command_of s.now number line) refl
      where
        by : (answer : Result Command ScriptFault) → command_of s.now number line ≡ answer → AreInTurn s (steps_of s number (steps_in (number + 1) lines) answer)
        by (Err fault) asked = tt
        by (Ok c) asked = (refl, command_known s.now number line c asked, later (state_after s c))

-- the steps behind these
pub behind_front : (front rest : List ScriptStep) (s : ReplayState) → AreInTurn s (front ++ rest) → AreInTurn (last_of s front) rest
behind_front [] rest s h = h
behind_front (step ∷ front) rest s h = behind_front front rest (left step) h.2

pub in_front : (front rest : List ScriptStep) (s : ReplayState) → AreInTurn s (front ++ rest) → AreInTurn s front
in_front [] rest s h = tt
in_front (step ∷ front) rest s h = (h.0, h.1, in_front front rest (left step) h.2)

-- what every state keeps holds behind them
pub kept_behind : (steps : List ScriptStep) (s : ReplayState) → IsReplayState s → AreInTurn s steps → IsReplayState (last_of s steps)
kept_behind [] s h on = h
kept_behind (step ∷ steps) s h on = kept_behind steps (left step) (state_kept step.before step.command (subst IsReplayState (sym on.0) h) on.1) on.2

-- ---- what the steps write

written_behind : (a b : List ℕ) (t : Transcript) → behind a (behind b t) ≡ behind (a ++ b) t
written_behind a b t = λ i. record { text = sym (append_assoc a b t.text) i; status = t.status }

ends_with : (fault : Option ScriptFault) → told_at_end fault ≡ ending (option_map Script fault)
ends_with None = refl
ends_with (Some fault) = refl

told_steps : (end : Place) (number : ℕ) (lines : List (List ℕ)) (s : ReplayState) → IsReplayState s
    → body_lines (Some end) number lines s ≡ behind (joined (steps_in number lines s)) (ending (offence_in end number lines s.now []))
told_steps end number [] = λ s h. ends_with (end_fault s.now.stage end)
told_steps end number (line ∷ lines) = one (told_steps end (number + 1) lines)
  where
    one : ((s : ReplayState) → IsReplayState s → body_lines (Some end) (number + 1) lines s ≡ behind (joined (steps_in (number + 1) lines s)) (ending (offence_in end (number + 1) lines s.now [])))
        → (s : ReplayState) → IsReplayState s
        → body_lines (Some end) number (line ∷ lines) s ≡ behind (joined (steps_in number (line ∷ lines) s)) (ending (offence_in end number (line ∷ lines) s.now []))
    one later s h = by (command_of s.now number line) refl
      where
        on : (c : Command) → IsReplayState (state_after s c) → (dump : Bool) → is_in_dump s.now.stage ≡ dump
            → behind (command_text s c) (body_lines (Some end) (number + 1) lines (state_after s c))
            ≡ behind (command_text s c ++ joined (steps_in (number + 1) lines (state_after s c))) (ending (offence_after s.now (offence_in end (number + 1) lines) (if dump then step_in_dump s.now [] number line (is_end_command c) else goes_on (accepted s.now c) [])))
        on c kept true dump = absurd (let past = sym (not_past_in_dump s.now.stage dump) ∙ h.past in cc past)
        on c kept false dump =
            ap (behind (command_text s c)) (later (state_after s c) kept)
            ∙ written_behind (command_text s c) (joined (steps_in (number + 1) lines (state_after s c))) (ending (offence_in end (number + 1) lines (state_after s c).now []))

        by : (answer : Result Command ScriptFault) → command_of s.now number line ≡ answer
            → told_command s (body_lines (Some end) (number + 1) lines) answer
            ≡ behind (joined (steps_of s number (steps_in (number + 1) lines) answer)) (ending (offence_after s.now (offence_in end (number + 1) lines) (step_of_answer s.now [] number line answer)))
        by (Err fault) asked = refl
        by (Ok c) asked = on c (state_kept s c h (command_known s.now number line c asked)) (is_in_dump s.now.stage) refl

-- ---- where they begin

-- The steps begin here: the lines before it tell `accepted` alone, and the first offence is behind it.
pub record Begins (end : Place) (first : Option Offence) (telling : Transcript) (b : Beginning) : Type 0 where
  pub is : IsReplayState b.state
  pub no_order : b.state.machine.order ≡ None
  pub windows : takes_windows b.state.now.stage ≡ true
  pub plain : (d : Dump) → b.state.now.dump ≡ Some d → start_like b.state d ≡ start_of b.state.now d  -- no processor is self-snooping yet
  pub follows : first ≡ offence_in end b.number b.lines b.state.now []
  pub tells : telling ≡ behind accepted_line (body_lines (Some end) b.number b.lines b.state)

abbrev pub IsOneLine : Transcript → Type 0
IsOneLine t = ((o : Offence) × (t ≡ told_offence o)) ⊎ ((version : ℕ) × (k : ℕ) × (fault : Fault) × (t ≡ transcript_with (dump_refused_line version k fault) Refused))

abbrev pub Leads : Place → Option Offence → Transcript → Option Beginning → Type 0
Leads end first telling None = IsOneLine telling
Leads end first telling (Some b) = Begins end first telling b

module _ (text : List ℕ) where
  abbrev end : Place
  end = end_of text

  abbrev Leading : Transcript → Option Beginning → Type 0
  Leading telling o = Leads end (script_offence text) telling o

  dump_leads : (now : Situation) (dump : Dump) (number : ℕ) (lines : List (List ℕ)) → IsDumped end 1 (lines_of text) (script_offence text) (ShowsDump text) now dump number lines
      → (refusal : Option (ℕ × Fault)) → first_refusal dump.files ≡ refusal → Leading (told_dump now dump (body_lines (Some end) number lines) refusal) (begins_with now dump number lines refusal)
  dump_leads now dump number lines h (Some refusal) has = inr (dump.version, refusal.0, refusal.1, refl)
  dump_leads now dump number lines h None has = record {
    is = first_kept now dump h.is h.in_dump h.good h.each (all_accepted dump.files has);
    no_order = refl;
    windows = refl;
    plain = first_start now dump;
    follows = h.follows;
    tells = refl;
  }

  leads_by : (e : HeadEnd) → Comes end 1 (lines_of text) (script_offence text) (ShowsDump text) e → Leading (told_by (λ last. told_at_end (end_fault last.stage end)) (body_lines (Some end)) e) (begins_by e)
  leads_by (stays_open now before) h = inl (Script (fault_at NoEnd end), ap told_at_end h.0)
  leads_by (has_offence o) h = inl (o, refl)
  leads_by (shows_dump now dump number lines) h = dump_leads now dump number lines h (first_refusal dump.files) refl

pub whole : (text : List ℕ) → Leads (end_of text) (script_offence text) (transcript text) (beginning text)
whole text = leads_by text (head_of text) (comes text)

-- ---- whole texts

abbrev steps_from : Option Beginning → List ScriptStep
steps_from o = option_map_or (λ b. steps_in b.number b.lines b.state) o []

pub transcript_is_of_the_course : TranscriptIsOfTheCourse
transcript_is_of_the_course text some = one (beginning text) (whole text) some
  where
    one : (o : Option Beginning) → Leads (end_of text) (script_offence text) (transcript text) o → IsSome o
        → transcript text ≡ behind accepted_line (behind (joined (steps_from o)) (ending (script_offence text)))
    one None h some = absurd (cc some)
    one (Some b) h some =
        h.tells ∙ ap (behind accepted_line) (told_steps (end_of text) b.number b.lines b.state h.is)
        ∙ ap (λ (o : Option Offence). behind accepted_line (behind (joined (steps_in b.number b.lines b.state)) (ending o))) (sym h.follows)

pub replays_are_of_the_course : ReplaysAreOfTheCourse
replays_are_of_the_course source sink status some h = subst (λ (t : Transcript). ReplaysAs t source sink status) (transcript_is_of_the_course source.bytes some) h

pub transcript_is_one_line : TranscriptIsOneLine
transcript_is_one_line text none = subst (Leads (end_of text) (script_offence text) (transcript text)) none (whole text)

-- The steps of a text go on from a first state, without an update under way.
pub record IsCourse (steps : List ScriptStep) : Type 0 where
  pub first : ReplayState
  pub is : IsReplayState first
  pub no_order : first.machine.order ≡ None
  pub windows : takes_windows first.now.stage ≡ true
  pub goes_on : AreInTurn first steps

pub course_is : (text : List ℕ) (front rest : List ScriptStep) (step : ScriptStep) → course text ≡ front ++ step ∷ rest → IsCourse (front ++ step ∷ rest)
course_is text front rest step same = one (beginning text) (whole text) same
  where
    none : (front : List ScriptStep) → [] ≡ front ++ step ∷ rest → ⊥
    none [] e = cc e
    none (other ∷ front) e = cc e

    one : (o : Option Beginning) → Leads (end_of text) (script_offence text) (transcript text) o → steps_from o ≡ front ++ step ∷ rest → IsCourse (front ++ step ∷ rest)
    one None h e = absurd (none front e)
    one (Some b) h e = record { first = b.state; is = h.is; no_order = h.no_order; windows = h.windows; goes_on = subst (AreInTurn b.state) e (steps_go_on b.number b.lines b.state) }

-- a step stands in its state, which is kept, and the steps behind go on from there
pub record StandsIn (step : ScriptStep) (rest : List ScriptStep) : Type 0 where
  pub is : IsReplayState step.before
  pub fits : Fits step.before.now step.command
  pub goes_on : AreInTurn (left step) rest

pub stands_in : (front rest : List ScriptStep) (step : ScriptStep) → IsCourse (front ++ step ∷ rest) → StandsIn step rest
stands_in front rest step h =
    let on = behind_front front (step ∷ rest) h.first h.goes_on in
    record { is = subst IsReplayState (sym on.0) (kept_behind front h.first h.is (in_front front (step ∷ rest) h.first h.goes_on)); fits = on.1; goes_on = on.2 }

pub steps_follow : StepsFollow
steps_follow text front rest first second same = (stands_in front (second ∷ rest) first (course_is text front (second ∷ rest) first same)).goes_on.0
