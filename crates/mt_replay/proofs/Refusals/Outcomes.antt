-- What a text's transcript is, by what its dump shows and its first offence.
use Rattle.std.proofs.Common.{◌≡◌, ◌≢◌, ◌⊎◌, ◌↔◌, ◌∙◌, ap, sym, refl, subst, inl, inr, ℕ, ◌+◌, Bool, true, false, List, [], ◌∷◌, ◌++◌, Option, None, Some, Result, Ok, Err, ◌==◌}
use Rattle.std.specs.List.{All}
use Rattle.std.specs.Prelude.{if◌then◌else◌}
use Rattle.std.proofs.lemmas.List.{append_assoc}
use Rattle.std.specs.Option.{option_map}
use Rattle.mt_text.specs.Text.{lines_of, end_of}
use Rattle.mt_text.specs.declared.place.Place.{Place}
use Rattle.mt_ports.specs.declared.status.Status.{Status}
use Rattle.mt_ports.specs.declared.status.Status.TheVariants.{Done, Refused, BadText}
use Rattle.mt_regs.specs.declared.fault.Fault.{Fault}
use Rattle.mt_regs.specs.Agreement.{IsFirstRefusal, first_refusal}
use Rattle.mt_regs.specs.Faults.{IsAccepted}
use Rattle.mt_dump.specs.Dumps.{Dump}
use Rattle.mt_script.specs.Situation.{Situation}
use Rattle.mt_script.specs.Stages.{is_in_dump}
use Rattle.mt_script.specs.Commands.{command_of, end_fault}
use Rattle.mt_script.specs.Accept.{accepted}
use Rattle.mt_script.specs.Head.{goes_on, is_end_command, step_in_dump, step_of_answer}
use Rattle.mt_script.specs.Script.{offence_after, offence_in, script_offence}
use Rattle.mt_script.specs.declared.command.Command.{Command}
use Rattle.mt_script.specs.declared.fault.ScriptFault.{ScriptFault}
use Rattle.mt_script.specs.declared.fault.ScriptReason.TheVariants.{NoEnd}
use Rattle.mt_script.specs.declared.fault.Offence.{Offence}
use Rattle.mt_script.specs.declared.fault.Offence.TheVariants as offence
use Rattle.mt_script.specs.Numbers.{fault_at}
use Rattle.mt_script.proofs.Keeping.{not_past_in_dump}
use Rattle.mt_output.specs.Lines.{accepted_line, dump_refused_line, refused_cpu_line, refused_line}
use Rattle.mt_script.specs.Lines.{offence_line}
use Rattle.mt_replay.specs.Heads.{HeadEnd, head_of, has_offence, shows_dump, stays_open}
use Rattle.mt_replay.specs.Kept.{IsReplayState}
use Rattle.mt_replay.specs.ReplayState.{ReplayState, command_text, first_state, state_after}
use Rattle.mt_replay.specs.Statuses.{AcceptedFirst, AcceptedUnlessRefused, BadTextEndsWithOffence, BadTextWhereOffence, DoneWhereNoOffence, EndsWith, HasRefusedFile, OffenceAlone, OneDumpShown, OneOfThreeStatuses, RefusedAlone, RefusedWhereFileIsRefused, ShowsDump, ShowsNoDump}
use Rattle.mt_replay.specs.Transcript.{body_lines, told_at_end, told_by, told_command, told_dump, told_offence, transcript}
use Rattle.mt_stream.specs.Transcript.{Transcript, behind, transcript_with}
use Rattle.mt_replay.proofs.FirstRefusal.{all_accepted, none_refused, refusal_found, refused_first}
use Rattle.mt_replay.proofs.Keeping.First.{first_kept}
use Rattle.mt_replay.proofs.Keeping.States.{command_known, state_kept}
use Rattle.mt_replay.proofs.Heads.{Comes, IsDumped, comes}

-- ---- the lines behind the dump

-- the status says whether there is an offence, and its line is the last
abbrev Ends : Transcript → Option Offence → Type 0
Ends t None = t.status ≡ Done
Ends t (Some o) = (t.status ≡ BadText) × EndsWith t.text (offence_line o)

ends_behind : (text : List ℕ) (t : Transcript) (first : Option Offence) → Ends t first → Ends (behind text t) first
ends_behind text t None h = h
ends_behind text t (Some o) h = (h.0, (text ++ h.1.0, ap (λ rest. text ++ rest) h.1.1 ∙ sym (append_assoc text h.1.0 (offence_line o))))

ends_at_end : (fault : Option ScriptFault) → Ends (told_at_end fault) (option_map offence.Script fault)
ends_at_end None = refl
ends_at_end (Some fault) = (refl, ([], refl))

ends_in : (end : Place) (number : ℕ) (lines : List (List ℕ)) (s : ReplayState) → IsReplayState s → Ends (body_lines (Some end) number lines s) (offence_in end number lines s.now [])
ends_in end number [] = λ s h. ends_at_end (end_fault s.now.stage end)
ends_in end number (line ∷ lines) = one (ends_in end (number + 1) lines)
  where
    one : ((s : ReplayState) → IsReplayState s → Ends (body_lines (Some end) (number + 1) lines s) (offence_in end (number + 1) lines s.now [])) → (s : ReplayState) → IsReplayState s
        → Ends (body_lines (Some end) number (line ∷ lines) s) (offence_in end number (line ∷ lines) s.now [])
    one later s h = by (command_of s.now number line) refl
      where
        on : (c : Command) → IsReplayState (state_after s c) → (dump : Bool) → is_in_dump s.now.stage ≡ dump
            → Ends (behind (command_text s c) (body_lines (Some end) (number + 1) lines (state_after s c))) (offence_after s.now (offence_in end (number + 1) lines) (if dump then step_in_dump s.now [] number line (is_end_command c) else goes_on (accepted s.now c) []))
        on c kept true dump = absurd (let past = sym (not_past_in_dump s.now.stage dump) ∙ h.past in cc past)
        on c kept false dump = ends_behind (command_text s c) (body_lines (Some end) (number + 1) lines (state_after s c)) (offence_in end (number + 1) lines (state_after s c).now []) (later (state_after s c) kept)

        by : (answer : Result Command ScriptFault) → command_of s.now number line ≡ answer
            → Ends (told_command s (body_lines (Some end) (number + 1) lines) answer) (offence_after s.now (offence_in end (number + 1) lines) (step_of_answer s.now [] number line answer))
        by (Err fault) asked = (refl, ([], refl))
        by (Ok c) asked = on c (state_kept s c h (command_known s.now number line c asked)) (is_in_dump s.now.stage) refl

-- ---- whole texts

-- No dump is shown.
record ToldAlone (text : List ℕ) : Type 0 where
  none : (dump : Dump) → ShowsDump text dump → ⊥
  offence : Offence
  is_first : script_offence text ≡ Some offence
  is : transcript text ≡ told_offence offence

-- A file of the dump that is shown has a fault.
record ToldRefused (text : List ℕ) : Type 0 where
  dump : Dump
  refusal : ℕ × Fault
  shows : ShowsDump text dump
  alone : (other : Dump) → ShowsDump text other → other ≡ dump
  has : first_refusal dump.files ≡ Some refusal
  is : transcript text ≡ transcript_with (dump_refused_line dump.version refusal.0 refusal.1) Refused

-- None of them has.
record ToldAccepted (text : List ℕ) : Type 0 where
  dump : Dump
  shows : ShowsDump text dump
  alone : (other : Dump) → ShowsDump text other → other ≡ dump
  has : first_refusal dump.files ≡ None
  rest : Transcript
  is : transcript text ≡ behind accepted_line rest
  ends : Ends rest (script_offence text)

data Outcome (text : List ℕ) : Type 0 where
  of_none : ToldAlone text → Outcome text
  of_refused : ToldRefused text → Outcome text
  of_accepted : ToldAccepted text → Outcome text

module _ (text : List ℕ) where
  abbrev tells : HeadEnd → Transcript
  tells e = told_by (λ last. told_at_end (end_fault last.stage (end_of text))) (body_lines (Some (end_of text))) e

  of_dump : (now : Situation) (dump : Dump) (number : ℕ) (lines : List (List ℕ)) → IsDumped (end_of text) 1 (lines_of text) (script_offence text) (ShowsDump text) now dump number lines
      → (refusal : Option (ℕ × Fault)) → first_refusal dump.files ≡ refusal → transcript text ≡ told_dump now dump (body_lines (Some (end_of text)) number lines) refusal → Outcome text
  of_dump now dump number lines h (Some refusal) has is = of_refused (record { dump = dump; refusal = refusal; shows = h.shows; alone = h.alone; has = has; is = is })
  of_dump now dump number lines h None has is =
      of_accepted (record {
        dump = dump;
        shows = h.shows;
        alone = h.alone;
        has = has;
        rest = body_lines (Some (end_of text)) number lines (first_state now dump);
        is = is;
        ends = subst (Ends (body_lines (Some (end_of text)) number lines (first_state now dump))) (sym h.follows)
            (ends_in (end_of text) number lines (first_state now dump) (first_kept now dump h.is h.in_dump h.good h.each (all_accepted dump.files has)));
      })

  by_end : (e : HeadEnd) → transcript text ≡ tells e → Comes (end_of text) 1 (lines_of text) (script_offence text) (ShowsDump text) e → Outcome text
  by_end (stays_open now before) is h =
      of_none (record { none = h.2; offence = offence.Script (fault_at NoEnd (end_of text)); is_first = h.1; is = is ∙ ap told_at_end h.0 })
  by_end (has_offence o) is h = of_none (record { none = h.1; offence = o; is_first = h.0; is = is })
  by_end (shows_dump now dump number lines) is h = of_dump now dump number lines h (first_refusal dump.files) refl is

outcome_of : (text : List ℕ) → Outcome text
outcome_of text = by_end text (head_of text) refl (comes text)

pub one_dump_shown : OneDumpShown
one_dump_shown text dump other shows also = by (outcome_of text)
  where
    by : Outcome text → dump ≡ other
    by (of_none h) = absurd (h.none dump shows)
    by (of_refused h) = h.alone dump shows ∙ sym (h.alone other also)
    by (of_accepted h) = h.alone dump shows ∙ sym (h.alone other also)

-- ---- statuses

status_of : (text : List ℕ) (t : Transcript) → transcript text ≡ t → (transcript text).status ≡ t.status
status_of text t is = ap (λ (x : Transcript). x.status) is

text_of : (text : List ℕ) (t : Transcript) → transcript text ≡ t → (transcript text).text ≡ t.text
text_of text t is = ap (λ (x : Transcript). x.text) is

-- what the status of such an ending is
ending : (status : Status) (first : Option Offence) → (t : Transcript) → status ≡ t.status → Ends t first
    → ((first ≡ None) × (status ≡ Done)) ⊎ (((o : Offence) × (first ≡ Some o) × EndsWith t.text (offence_line o)) × (status ≡ BadText))
ending status None t same h = inl (refl, same ∙ h)
ending status (Some o) t same h = inr ((o, refl, h.1), same ∙ h.0)

-- Either it is refused, or the status says whether there is an offence.
record IsSaid (text : List ℕ) (first : Option Offence) : Type 0 where
  not_refused : (transcript text).status ≢ Refused
  file : HasRefusedFile text → ⊥
  says : ((first ≡ None) × ((transcript text).status ≡ Done)) ⊎ (((o : Offence) × (first ≡ Some o) × EndsWith (transcript text).text (offence_line o)) × ((transcript text).status ≡ BadText))

not_refused_of : (status : Status) (P Q : Type 0) → (P × (status ≡ Done)) ⊎ (Q × (status ≡ BadText)) → status ≢ Refused
not_refused_of status P Q (inl h) refused = let done = h.1 in cc (done, refused)
not_refused_of status P Q (inr h) refused = let bad = h.1 in cc (bad, refused)

refused_has : (dump other : Dump) (k : ℕ) (fault : Fault) → other ≡ dump → IsFirstRefusal other.files k fault → first_refusal dump.files ≡ Some (k, fault)
refused_has dump other k fault same first = refused_first dump.files k fault (subst (λ (d : Dump). IsFirstRefusal d.files k fault) same first)

said_of_outcome : (text : List ℕ) → ToldRefused text ⊎ IsSaid text (script_offence text)
said_of_outcome text = by (outcome_of text)
  where
    by : Outcome text → ToldRefused text ⊎ IsSaid text (script_offence text)
    by (of_refused h) = inl h
    by (of_none h) =
        let says = inr ((h.offence, h.is_first, ([], text_of text (told_offence h.offence) h.is)), status_of text (told_offence h.offence) h.is) in
        inr (record {
          not_refused = not_refused_of (transcript text).status _ _ says;
          file = λ has. h.none has.0 has.3;
          says = says;
        })
    by (of_accepted h) = inr (saying (ending (transcript text).status (script_offence text) (behind accepted_line h.rest) (status_of text (behind accepted_line h.rest) h.is) (ends_behind accepted_line h.rest (script_offence text) h.ends)))
      where
        at_text : (first : Option Offence)
            → ((first ≡ None) × ((transcript text).status ≡ Done)) ⊎ (((o : Offence) × (first ≡ Some o) × EndsWith (behind accepted_line h.rest).text (offence_line o)) × ((transcript text).status ≡ BadText))
            → ((first ≡ None) × ((transcript text).status ≡ Done)) ⊎ (((o : Offence) × (first ≡ Some o) × EndsWith (transcript text).text (offence_line o)) × ((transcript text).status ≡ BadText))
        at_text first (inl x) = inl x
        at_text first (inr x) = inr ((x.0.0, x.0.1, (x.0.2.0, text_of text (behind accepted_line h.rest) h.is ∙ x.0.2.1)), x.1)

        saying : ((script_offence text ≡ None) × ((transcript text).status ≡ Done)) ⊎ (((o : Offence) × (script_offence text ≡ Some o) × EndsWith (behind accepted_line h.rest).text (offence_line o)) × ((transcript text).status ≡ BadText))
            → IsSaid text (script_offence text)
        saying says = record {
          not_refused = not_refused_of (transcript text).status _ _ says;
          file = λ has. let fault = refused_has h.dump has.0 has.1 has.2 (h.alone has.0 has.3) has.4 in let none = h.has in cc (fault, none);
          says = at_text (script_offence text) says;
        }

refused_of : (text : List ℕ) → ToldRefused text → HasRefusedFile text
refused_of text h = (h.dump, h.refusal.0, h.refusal.1, h.shows, refusal_found h.dump.files h.refusal h.has)

pub refused_where_file_is_refused : RefusedWhereFileIsRefused
refused_where_file_is_refused text = by (said_of_outcome text)
  where
    by : ToldRefused text ⊎ IsSaid text (script_offence text) → ((transcript text).status ≡ Refused) ↔ HasRefusedFile text
    by (inl h) = (λ refused. refused_of text h, λ has. status_of text (transcript_with (dump_refused_line h.dump.version h.refusal.0 h.refusal.1) Refused) h.is)
    by (inr h) = (λ refused. absurd (h.not_refused refused), λ has. absurd (h.file has))

pub refused_alone : RefusedAlone
refused_alone text dump k fault shows first = by (said_of_outcome text)
  where
    by : ToldRefused text ⊎ IsSaid text (script_offence text) → transcript text ≡ transcript_with (dump_refused_line dump.version k fault) Refused
    by (inl h) =
        let one : dump ≡ h.dump = h.alone dump shows in
        let both : Some (k, fault) ≡ Some h.refusal = sym (refused_has h.dump dump k fault one first) ∙ h.has in
        let same : h.refusal ≡ (k, fault) = cc both in
        h.is ∙ (λ i. transcript_with (dump_refused_line (sym one i).version (same i).0 (same i).1) Refused)
    by (inr h) = absurd (h.file (dump, k, fault, shows, first))

is_refused : (text : List ℕ) → ToldRefused text → (transcript text).status ≡ Refused
is_refused text h = status_of text (transcript_with (dump_refused_line h.dump.version h.refusal.0 h.refusal.1) Refused) h.is

pub bad_text_where_offence : BadTextWhereOffence
bad_text_where_offence text = by (said_of_outcome text)
  where
    says : (first : Option Offence) → IsSaid text first → ((transcript text).status ≡ BadText) ↔ (((o : Offence) × (first ≡ Some o)) × ((transcript text).status ≢ Refused))
    says first h = elim h.says [
      | inl x ↦ (λ bad. absurd (let done = x.1 in cc (done, bad)), λ has. absurd (let none = x.0 in let some = has.0.1 in cc (none, some)))
      | inr x ↦ (λ bad. ((x.0.0, x.0.1), h.not_refused), λ has. x.1)
    ]

    by : ToldRefused text ⊎ IsSaid text (script_offence text) → ((transcript text).status ≡ BadText) ↔ (((o : Offence) × (script_offence text ≡ Some o)) × ((transcript text).status ≢ Refused))
    by (inl h) = (λ bad. absurd (let refused = is_refused text h in cc (refused, bad)), λ has. absurd (has.1 (is_refused text h)))
    by (inr h) = says (script_offence text) h

pub bad_text_ends : BadTextEndsWithOffence
bad_text_ends text o first not_refused = by (said_of_outcome text)
  where
    by : ToldRefused text ⊎ IsSaid text (script_offence text) → EndsWith (transcript text).text (offence_line o)
    by (inl h) = absurd (not_refused (is_refused text h))
    by (inr h) = elim h.says [
      | inl x ↦ absurd (let none = x.0 in cc (none, first))
      | inr x ↦
          let both : Some x.0.0 ≡ Some o = sym x.0.1 ∙ first in
          let same : x.0.0 ≡ o = cc both in
          subst (λ (v : Offence). EndsWith (transcript text).text (offence_line v)) same x.0.2
    ]

pub done_where_no_offence : DoneWhereNoOffence
done_where_no_offence text = by (said_of_outcome text)
  where
    by : ToldRefused text ⊎ IsSaid text (script_offence text) → ((transcript text).status ≡ Done) ↔ ((script_offence text ≡ None) × ((transcript text).status ≢ Refused))
    by (inl h) = (λ done. absurd (let refused = is_refused text h in cc (refused, done)), λ has. absurd (has.1 (is_refused text h)))
    by (inr h) = elim h.says [
      | inl x ↦ (λ done. (x.0, h.not_refused), λ has. x.1)
      | inr x ↦ (λ done. absurd (let bad = x.1 in cc (done, bad)), λ has. absurd (let none = has.0 in let some = x.0.1 in cc (none, some)))
    ]

pub one_of_three : OneOfThreeStatuses
one_of_three text = by (said_of_outcome text)
  where
    by : ToldRefused text ⊎ IsSaid text (script_offence text) → ((transcript text).status ≡ Done) ⊎ ((transcript text).status ≡ Refused) ⊎ ((transcript text).status ≡ BadText)
    by (inl h) = inr (inl (is_refused text h))
    by (inr h) = elim h.says [
      | inl x ↦ inl x.1
      | inr x ↦ inr (inr x.1)
    ]

-- ---- the first line

pub accepted_unless_refused : AcceptedUnlessRefused
accepted_unless_refused text dump shows = by (first_refusal dump.files) refl
  where
    by : (refusal : Option (ℕ × Fault)) → first_refusal dump.files ≡ refusal → ((transcript text).status ≢ Refused) ↔ All IsAccepted dump.files
    by None has = (
      λ other. all_accepted dump.files has,
      λ accepted refused.
          let refusing = (refused_where_file_is_refused text).0 refused in
          let fault = refused_has dump refusing.0 refusing.1 refusing.2 (one_dump_shown text refusing.0 dump refusing.3 shows) refusing.4 in
          cc (has, fault),
    )
    by (Some refusal) has = (
      λ other. absurd (other ((refused_where_file_is_refused text).1 (dump, refusal.0, refusal.1, shows, refusal_found dump.files refusal has))),
      λ accepted. absurd (let none = none_refused dump.files accepted in cc (has, none)),
    )

pub accepted_first : AcceptedFirst
accepted_first text dump shows accepted = by (outcome_of text)
  where
    by : Outcome text → (rest : List ℕ) × ((transcript text).text ≡ accepted_line ++ rest)
    by (of_none h) = absurd (h.none dump shows)
    by (of_refused h) =
        absurd (let none = none_refused h.dump.files (subst (λ (d : Dump). All IsAccepted d.files) (h.alone dump shows) accepted) in let some = h.has in cc (none, some))
    by (of_accepted h) = (h.rest.text, text_of text (behind accepted_line h.rest) h.is)

pub offence_alone : OffenceAlone
offence_alone text none = by (outcome_of text)
  where
    by : Outcome text → (o : Offence) × (script_offence text ≡ Some o) × (transcript text ≡ told_offence o)
    by (of_none h) = (h.offence, h.is_first, h.is)
    by (of_refused h) = absurd (none h.dump h.shows)
    by (of_accepted h) = absurd (none h.dump h.shows)

-- ---- no dump

-- a text begins as an offence's line does
abbrev pub tells_bad : List ℕ → Bool
tells_bad [] = false
tells_bad (a ∷ rest) = a == 98

refused_letter : (version k : ℕ) (fault : Fault) → tells_bad (dump_refused_line version k fault) ≡ false
refused_letter version k fault = by (version == 2)
  where
    by : (b : Bool) → tells_bad (if b then refused_cpu_line k fault else refused_line fault) ≡ false
    by true = refl
    by false = refl

-- a text that is told an offence at once shows no dump
pub shows_none : (text : List ℕ) → tells_bad (transcript text).text ≡ true → ShowsNoDump text
shows_none text bad = by (outcome_of text)
  where
    by : Outcome text → ShowsNoDump text
    by (of_none h) = h.none
    by (of_refused h) =
        let e : tells_bad (transcript text).text ≡ false = ap (λ (t : Transcript). tells_bad t.text) h.is ∙ refused_letter h.dump.version h.refusal.0 h.refusal.1 in
        absurd (cc (e, bad))
    by (of_accepted h) = absurd (let e : tells_bad (transcript text).text ≡ false = ap (λ (t : Transcript). tells_bad t.text) h.is in cc (e, bad))
