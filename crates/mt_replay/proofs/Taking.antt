-- What a run makes of one line.
use Rattle.std.proofs.Common.{◌≡◌, ◌∙◌, ap, sym, refl, subst, inr, ℕ, ◌+◌, true, List, [], ◌++◌, Option, None, Some, Result, Ok, Err, append-nil, inl, ◌∷◌, ◌||◌, Bool, false, ⊎_elim}
use Rattle.std.specs.Prelude.{MatchOption, MatchResult, ◌⊎◌}
use Rattle.mt_ports.specs.Puts.{AppendsFront}
use Rattle.mt_ports.specs.declared.status.Failed.{Failed}
use Rattle.mt_stream.specs.declared.ending.Stop.{Stop}
use Rattle.mt_ports.specs.declared.status.Status.TheVariants.{Refused}
use Rattle.mt_output.specs.Writing.{PassesOn}
use Rattle.mt_output.specs.Lines.{accepted_line, dump_refused_line}
use Rattle.mt_output.proofs.Writing.{passes_nothing}
use Rattle.mt_text.specs.declared.place.Place.{Place}
use Rattle.mt_regs.specs.declared.fault.Fault.{Fault}
use Rattle.mt_regs.specs.Agreement.{first_refusal}
use Rattle.mt_dump.specs.Line.{Reading}
use Rattle.mt_dump.specs.Dumps.{Dump}
use Rattle.mt_dump.specs.Reader.{HasRead}
use Rattle.mt_script.specs.Situation.{Situation}
use Rattle.mt_script.specs.declared.head.Head.{Head as HeadReader}
use Rattle.mt_script.specs.Stages.{takes_windows}
use Rattle.mt_script.specs.Accept.{Fits, accepted}
use Rattle.mt_script.specs.Commands.{command_of}
use Rattle.mt_script.specs.Head.{goes_on, head_step, shows}
use Rattle.mt_script.specs.declared.command.Command.{Command}
use Rattle.mt_script.specs.declared.command.Command.TheVariants as command
use Rattle.mt_script.specs.declared.command.Section.TheVariants.{Register}
use Rattle.mt_script.specs.declared.fault.ScriptFault.{ScriptFault}
use Rattle.mt_replay.specs.Kept.{HasEras, IsReplayState}
use Rattle.mt_replay.specs.Parts.{AsksForMemory}
use Rattle.mt_replay.specs.ReplayState.{ReplayState, command_text, first_state, state_after}
use Rattle.mt_replay.specs.Newcomers.{early, is_newcomer, newcomers_from, newcomers_in, newcomers_of_dump}
use Rattle.mt_replay.proofs.Newcomers.{body_brings, early_front, early_then, head_brings, or_true}
use Rattle.mt_replay.specs.Running.{CarriesOut, HasOutput, IsAt, StandsAt, dump_at, from_line, line_at, path_from}
use Rattle.mt_stream.specs.Lines.{Fails, GoesOn, Leads, Takes, leads_behind}
use Rattle.mt_output.specs.Ports.{Port, Waiting, change}
use Rattle.mt_replay.specs.Transcript.{ScriptState, body_lines, head_lines, in_body, in_head, told_command, told_dump}
use Rattle.mt_stream.specs.Transcript.{Transcript, behind, transcript_with}
use Rattle.mt_replay.specs.declared.line.Run.{Run}
use Rattle.mt_replay.specs.declared.line.Run.TheVariants as run
use Rattle.mt_replay.proofs.Eras.{eras_kept}
use Rattle.mt_replay.proofs.Keeping.States.{state_kept}
use Rattle.mt_replay.proofs.Walks.{from_body, head_leads}

abbrev leads_of : Transcript → Bool → List ℕ → Leads
leads_of t comes so_far = record { tells = t; early = early comes so_far t.text }

-- as much is told, and as much may have been written
leads_then : (a b : Transcript) (came own later all : Bool) (so_far text : List ℕ) → a ≡ behind text b → all ≡ (own || later)
    → record { tells = a; early = early (came || all) so_far a.text } ≡ leads_behind text (record { tells = b; early = early ((came || own) || later) (so_far ++ text) b.text })
leads_then a b came own later all so_far text tells is =
    (λ i. leads_of (tells i) (came || all) so_far) ∙ ap (λ (e : List ℕ). record { tells = behind text b; early = e }) (early_then came own later all so_far text b.text is)

-- ---- the dump's end

-- what a shown dump and the lines behind it tell
abbrev pub from_dump : Situation → Dump → ℕ → Option Place → List (List ℕ) → Transcript
from_dump now dump number end lines = told_dump now dump (body_lines end number lines) (first_refusal dump.files)

pub dump_refused : (now : Situation) (dump : Dump) (number : ℕ) (refusal : ℕ × Fault) → first_refusal dump.files ≡ Some refusal → (end : Option Place) (lines : List (List ℕ))
    → from_dump now dump number end lines ≡ transcript_with (dump_refused_line dump.version refusal.0 refusal.1) Refused
dump_refused now dump number refusal is end lines = ap (told_dump now dump (body_lines end number lines)) is

pub dump_accepted : (now : Situation) (dump : Dump) (number : ℕ) → first_refusal dump.files ≡ None → (end : Option Place) (lines : List (List ℕ))
    → from_dump now dump number end lines ≡ behind accepted_line (body_lines end number lines (first_state now dump))
dump_accepted now dump number is end lines = ap (told_dump now dump (body_lines end number lines)) is

pub dump_goes : (now : Situation) (dump : Dump) (number : ℕ) (r : ReplayState) (text : List ℕ) (writer : Waiting) (sink : Port) → first_refusal dump.files ≡ None → r ≡ first_state now dump → text ≡ accepted_line
    → PassesOn writer.old text writer.new sink.old sink.new → GoesOn (StandsAt (run.Body r)) (dump_at now dump number) writer sink
dump_goes now dump number r text writer sink is first line passed = record {
  next = path_from false accepted_line (in_body (first_state now dump));
  at = (in_body (first_state now dump), false, (first, refl), (λ takes. refl), refl);
  text = accepted_line;
  goes = λ end lines.
      leads_then (from_dump now dump number end lines) (body_lines end number lines (first_state now dump)) false false (newcomers_in number lines (first_state now dump)) (newcomers_of_dump now dump (newcomers_in number lines) (first_refusal dump.files)) [] accepted_line
      (dump_accepted now dump number is end lines) (ap (newcomers_of_dump now dump (newcomers_in number lines)) is);
  passed = subst (λ l. PassesOn writer.old l writer.new sink.old sink.new) line passed;
}

pub dump_fails : (now : Situation) (dump : Dump) (number : ℕ) (waiting text : List ℕ) (sink : Port) → first_refusal dump.files ≡ None → text ≡ accepted_line → AppendsFront sink.old sink.new (waiting ++ text)
    → Fails (dump_at now dump number) waiting sink
dump_fails now dump number waiting text sink is line failed = record {
  text = accepted_line;
  front = λ end lines. ((body_lines end number lines (first_state now dump)).text, ap (λ (t : Transcript). t.text) (dump_accepted now dump number is end lines));
  failed = subst (λ l. AppendsFront sink.old sink.new (waiting ++ l)) line failed;
}

-- ---- commands

-- A command after which windows may be added stands where they may be added, and writes nothing.
quiet_command : (s : ReplayState) (c : Command) → Fits s.now c → takes_windows (accepted s.now c).stage ≡ true → (takes_windows s.now.stage ≡ true) × (command_text s c ≡ [])
quiet_command s (command.Ram base lines) fits takes = (takes, refl)
quiet_command s (command.Selfsnoop k) fits takes = (takes, refl)
quiet_command s command.Blank fits takes = (takes, refl)
quiet_command s command.DumpLine fits takes = (takes, refl)
quiet_command s (command.Section (Register msr value)) fits takes = (takes, refl)
quiet_command s other fits takes = absurd (cc takes)

-- one that asks for memory stands where windows may be added, or brings a processor up
asks_where : (s : ReplayState) (c : Command) → Fits s.now c → AsksForMemory s.machine c → (takes_windows s.now.stage ≡ true) ⊎ (is_newcomer c ≡ true)
asks_where s (command.Ram base lines) fits wants = inl fits.0
asks_where s (command.Newcomer n) fits wants = inr refl
asks_where s other fits wants = absurd wants

pub leads : (s : ReplayState) (c : Command) (number : ℕ) (line : List ℕ) → command_of s.now number line ≡ Ok c → (end : Option Place) (lines : List (List ℕ))
    → from_line number line (in_body s) end lines ≡ behind (command_text s c) (body_lines end (number + 1) lines (state_after s c))
leads s c number line asked end lines = from_body s number line end lines ∙ ap (told_command s (body_lines end (number + 1) lines)) asked

module _ (s new : ReplayState) (c : Command) (number : ℕ) (line : List ℕ) (is : IsReplayState s) (fits : Fits s.now c) (asked : command_of s.now number line ≡ Ok c) where
  pub command_takes : (writer : Waiting) (sink : Port) (result : Result (Option Stop) Failed) → CarriesOut (change s new) c writer sink result → ((stop : Stop) → result ≡ Ok (Some stop) → AsksForMemory s.machine c)
      → (came : Bool) (so_far : List ℕ) → HasOutput (run.Body s) came so_far → Takes (StandsAt (run.Body new)) (line_at came so_far number line (in_body s)) writer sink result
  command_takes writer sink (Ok None) does asks came so_far quiet = record {
    next = path_from (came || is_newcomer c) (so_far ++ command_text s c) (in_body (state_after s c));
    at = (
      in_body (state_after s c),
      (came || is_newcomer c),
      (does.1, (state_kept s c is fits).past),
      subst (λ (r : ReplayState). HasOutput (run.Body r) (came || is_newcomer c) (so_far ++ command_text s c)) (sym does.1) later,
      refl,
    );
    text = command_text s c;
    goes = λ end lines.
        leads_then (from_line number line (in_body s) end lines) (body_lines end (number + 1) lines (state_after s c)) came (is_newcomer c) (newcomers_in (number + 1) lines (state_after s c)) (newcomers_from number (line ∷ lines) (in_body s)) so_far (command_text s c)
        (leads s c number line asked end lines) (body_brings s number line lines (Ok c) asked);
    passed = does.0;
  }
    where
      later : HasOutput (run.Body (state_after s c)) (came || is_newcomer c) (so_far ++ command_text s c)
      later takes = let was = quiet_command s c fits takes in ap (λ l. so_far ++ l) was.1 ∙ append-nil so_far ∙ quiet was.0
  command_takes writer sink (Ok (Some stop)) does asks came so_far quiet =
      inr (record {
        refused = does.0;
        early = λ end lines. early_front (came || newcomers_from number (line ∷ lines) (in_body s)) so_far (from_line number line (in_body s) end lines).text (asked_early lines (asks stop refl));
        passed = does.1;
      })
    where
      comes : (lines : List (List ℕ)) → is_newcomer c ≡ true → (came || newcomers_from number (line ∷ lines) (in_body s)) ≡ true
      comes lines on = ap (λ b. came || b) (body_brings s number line lines (Ok c) asked ∙ ap (λ b. b || newcomers_in (number + 1) lines (state_after s c)) on) ∙ or_true came

      none : (lines : List (List ℕ)) → is_newcomer c ≡ true → (came || newcomers_from number (line ∷ lines) (in_body s)) ≡ false → so_far ≡ accepted_line
      none lines on off = absurd (let e : true ≡ false = sym (comes lines on) ∙ off in cc e)

      asked_early : (lines : List (List ℕ)) → AsksForMemory s.machine c → (came || newcomers_from number (line ∷ lines) (in_body s)) ≡ false → so_far ≡ accepted_line
      asked_early lines wants off = ⊎_elim (λ takes. quiet takes) (λ on. none lines on off) (asks_where s c fits wants)
  command_takes writer sink (Err failed) does asks came so_far quiet = record {
    text = command_text s c;
    front = λ end lines. ((body_lines end (number + 1) lines (state_after s c)).text, ap (λ (t : Transcript). t.text) (leads s c number line asked end lines));
    failed = does;
  }

  pub command_eras : (most : ℕ) (writer : Waiting) (sink : Port) (result : Result (Option Stop) Failed) → HasEras most s → CarriesOut (change s new) c writer sink result
      → MatchResult result (λ ended. MatchOption ended (HasEras (most + 1) new) (λ stop. Unit {0})) (λ failed. Unit {0})
  command_eras most writer sink (Ok None) eras does = subst (HasEras (most + 1)) (sym does.1) (eras_kept s c most is fits eras)
  command_eras most writer sink (Ok (Some stop)) eras does = tt
  command_eras most writer sink (Err failed) eras does = tt

pub fault_leads : (s : ReplayState) (number : ℕ) (line : List ℕ) (fault : ScriptFault) → command_of s.now number line ≡ Err fault → (end : Option Place) (lines : List (List ℕ))
    → from_line number line (in_body s) end lines ≡ told_command s (body_lines end (number + 1) lines) (Err fault)
fault_leads s number line fault asked end lines = from_body s number line end lines ∙ ap (told_command s (body_lines end (number + 1) lines)) asked

-- ---- the head

-- the head goes on
pub head_takes : (now next : Situation) (before after : List Reading) (number : ℕ) (line : List ℕ) (came : Bool) (so_far waiting : List ℕ) (h : HeadReader) (a : Option (List ℕ)) → head_step now before number line ≡ goes_on next after
    → IsAt (run.Head h) (in_head next after) → (so_far ≡ []) × (came ≡ false) → GoesOn (StandsAt (run.Head h)) (line_at came so_far number line (in_head now before)) (change waiting waiting) (change a a)
head_takes now next before after number line came so_far waiting h a is at none = record {
  next = path_from (came || false) (so_far ++ []) (in_head next after);
  at = (in_head next after, (came || false), at, (append-nil so_far ∙ none.0, ap (λ b. b || false) none.1), refl);
  text = [];
  goes = λ end lines.
      leads_then (from_line number line (in_head now before) end lines) (head_lines end (number + 1) lines next after) came false (newcomers_from (number + 1) lines (in_head next after)) (newcomers_from number (line ∷ lines) (in_head now before)) so_far []
      (head_leads now before number line (goes_on next after) is end lines) (head_brings now before number line lines (goes_on next after) is);
  passed = passes_nothing waiting a;
}

-- a dump that is shown
pub dump_leads : (now : Situation) (dump : Dump) (before : List Reading) (number : ℕ) (line : List ℕ) (came : Bool) (so_far : List ℕ) → head_step now before number line ≡ shows dump → (so_far ≡ []) × (came ≡ false)
    → (end : Option Place) (lines : List (List ℕ)) → (line_at came so_far number line (in_head now before)).leads end lines ≡ (dump_at now dump (number + 1)).leads end lines
dump_leads now dump before number line came so_far is none end lines =
    λ i. leads_of (head_leads now before number line (shows dump) is end lines i) (none.1 i || head_brings now before number line lines (shows dump) is i) (none.0 i)

-- a run in the head stands at what its reader has read
pub in_the_head : (r : Run) (h : HeadReader) (was : ScriptState) → r ≡ run.Head h → IsAt r was → (before : List Reading) × HasRead h.dump before × (was ≡ in_head h.setup before)
in_the_head r h was is at = by was (subst (λ x. IsAt x was) is at)
  where
    by : (was : ScriptState) → IsAt (run.Head h) was → (before : List Reading) × HasRead h.dump before × (was ≡ in_head h.setup before)
    by (in_head now before) at = (before, at.1, ap (λ n. in_head n before) (sym at.0))
    by (in_body s) at = absurd at
