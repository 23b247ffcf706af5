-- What holds through a text holds where each step of its course begins and ends.
use Rattle.std.proofs.Common.{◌≡◌, ◌∙◌, ap, sym, refl, subst, inl, inr, ℕ, ◌+◌, Bool, true, false, List, [], ◌∷◌, ◌++◌, Option, None, Some, Result, Ok, Err}
use Rattle.std.specs.Prelude.{◌==◌, IfSome, if◌then◌else◌}
use Rattle.std.specs.List.{AllByRecursion}
use Rattle.std.specs.Option.{option_map_or}
use Rattle.mt_text.specs.Text.{end_of}
use Rattle.mt_regs.specs.declared.fault.Fault.{Fault}
use Rattle.mt_script.specs.Commands.{command_of}
use Rattle.mt_script.specs.Script.{script_offence}
use Rattle.mt_script.specs.declared.fault.Offence.{Offence}
use Rattle.mt_script.specs.declared.fault.Offence.TheVariants as offence
use Rattle.mt_output.specs.Lines.{accepted_line, dump_refused_line, refused_cpu_line, refused_line}
use Rattle.mt_script.specs.Lines.{offence_line}
use Rattle.mt_script.specs.declared.command.Command.{Command}
use Rattle.mt_script.specs.declared.fault.ScriptFault.{ScriptFault}
use Rattle.mt_replay_laws.specs.Headline.{StartsAsTheDumpShows, StatesAreOfTheCourse}
use Rattle.mt_replay.specs.Steps.{Beginning, ScriptStep, beginning, course, left, steps_in, steps_of}
use Rattle.mt_replay.specs.Kept.{start_of}
use Rattle.mt_replay_laws.specs.Through.{HoldsAlong, HoldsThrough}
use Rattle.mt_replay.specs.ReplayState.{ReplayState, state_after}
use Rattle.mt_replay.specs.Statuses.{BeginsWith}
use Rattle.mt_replay.specs.Transcript.{transcript}
use Rattle.mt_stream.specs.Transcript.{Transcript}
use Rattle.mt_replay_laws.proofs.Courses.Steps.{AreInTurn, IsOneLine, Leads, steps_go_on, whole}
use Rattle.mt_replay.proofs.Refusals.Outcomes.{accepted_first}
use Rattle.mt_replay_laws.proofs.ShownDump.{states_have_the_shown_dump}

module _ (P : ReplayState → Type 0) where
  abbrev Around : ScriptStep → Type 0
  Around step = P step.before × P (left step)

  abbrev EachStep : ℕ → List (List ℕ) → Type 0
  EachStep number lines = (s : ReplayState) → HoldsAlong P s (steps_in number lines s) → (front rest : List ScriptStep) (step : ScriptStep) → steps_in number lines s ≡ front ++ step ∷ rest → Around step

  each_step : (number : ℕ) (lines : List (List ℕ)) → EachStep number lines
  each_step number [] s h [] rest step is = absurd (cc is)
  each_step number [] s h (other ∷ front) rest step is = absurd (cc is)
  each_step number (line ∷ lines) s h front rest step is = by (each_step (number + 1) lines) (command_of s.now number line) h.1 is
    where
      by : EachStep (number + 1) lines → (answer : Result Command ScriptFault) → AllByRecursion (λ step. P (left step)) (steps_of s number (steps_in (number + 1) lines) answer)
          → steps_of s number (steps_in (number + 1) lines) answer ≡ front ++ step ∷ rest → Around step
      by later (Err fault) after is = absurd (one front is)
        where
          one : (front : List ScriptStep) → [] ≡ front ++ step ∷ rest → ⊥
          one [] e = cc e
          one (other ∷ front) e = cc e
      by later (Ok c) after is = one front is
        where
          one : (front : List ScriptStep) → record { number = number; command = c; before = s } ∷ steps_in (number + 1) lines (state_after s c) ≡ front ++ step ∷ rest → Around step
          one [] e =
              let here : ScriptStep = record { number = number; command = c; before = s } in
              let same : here ≡ step = cc e in
              subst Around same (h.0, after.0)
          one (other ∷ front) e = let behind : steps_in (number + 1) lines (state_after s c) ≡ front ++ step ∷ rest = cc e in later (state_after s c) after front rest step behind

  around : (front rest : List ScriptStep) (step : ScriptStep) (o : Option Beginning) → IfSome o (λ b. HoldsAlong P b.state (steps_in b.number b.lines b.state))
      → option_map_or (λ b. steps_in b.number b.lines b.state) o [] ≡ front ++ step ∷ rest → Around step
  around front rest step None h is = absurd (one front is)
    where
      one : (front : List ScriptStep) → [] ≡ front ++ step ∷ rest → ⊥
      one [] e = cc e
      one (other ∷ front) e = cc e
  around front rest step (Some b) h is = each_step b.number b.lines b.state h front rest step is

pub around_step : (P : ReplayState → Type 0) (text : List ℕ) → HoldsThrough P text → (front rest : List ScriptStep) (step : ScriptStep) → course text ≡ front ++ step ∷ rest → P step.before × P (left step)
around_step P text h front rest step is = around P front rest step (beginning text) h is

pub states_are_of_the_course : StatesAreOfTheCourse
states_are_of_the_course text test h front rest step is = around (λ s. test s ≡ true) front rest step (beginning text) h is

-- ---- the first state

abbrev has_first : List ℕ → Bool
has_first [] = false
has_first (a ∷ rest) = a == 97

-- the line of an offence doesn't begin as `accepted` does
offence_letter : (o : Offence) (rest : List ℕ) → offence_line o ≡ accepted_line ++ rest → ⊥
offence_letter (offence.Script fault) rest is = let e : false ≡ true = ap has_first is in cc e
offence_letter (offence.Dump fault) rest is = let e : false ≡ true = ap has_first is in cc e

refused_letter : (version k : ℕ) (fault : Fault) (rest : List ℕ) → dump_refused_line version k fault ≡ accepted_line ++ rest → ⊥
refused_letter version k fault rest is = let e : false ≡ true = sym (first_letter (version == 2)) ∙ ap has_first is in cc e
  where
    first_letter : (b : Bool) → has_first (if b then refused_cpu_line k fault else refused_line fault) ≡ false
    first_letter true = refl
    first_letter false = refl

no_line : (text : List ℕ) → BeginsWith (transcript text).text accepted_line → IsOneLine (transcript text) → ⊥
no_line text begins (inl is) = offence_letter is.0 begins.0 (ap (λ (t : Transcript). t.text) (sym is.1) ∙ begins.1)
no_line text begins (inr is) = refused_letter is.0 is.1 is.2 begins.0 (ap (λ (t : Transcript). t.text) (sym is.3) ∙ begins.1)

first_step : (b : Beginning) (step : ScriptStep) (rest : List ScriptStep) → steps_in b.number b.lines b.state ≡ step ∷ rest → step.before ≡ b.state
first_step b step rest is = (subst (AreInTurn b.state) is (steps_go_on b.number b.lines b.state)).0

pub starts_as_the_dump_shows : StartsAsTheDumpShows
starts_as_the_dump_shows text dump shows accepted = one (beginning text) (states_have_the_shown_dump text dump shows) (whole text)
  where
    one : (o : Option Beginning) → IfSome o (λ b. HoldsAlong (λ s. s.now.dump ≡ Some dump) b.state (steps_in b.number b.lines b.state)) → Leads (end_of text) (script_offence text) (transcript text) o
        → (b : Beginning) × (o ≡ Some b) × (b.state.machine ≡ start_of b.state.now dump) × ((step : ScriptStep) (rest : List ScriptStep) → option_map_or (λ b. steps_in b.number b.lines b.state) o [] ≡ step ∷ rest → step.before ≡ b.state)
    one None along h = absurd (no_line text (accepted_first text dump shows accepted) h)
    one (Some b) along h = (b, refl, (h.is.fresh dump along.0 h.windows).1 ∙ h.plain dump along.0, first_step b)
