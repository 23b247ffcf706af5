-- What the lines of a script come to up to its dump's end: an offence, or the one dump that they show, and where its lines end.
use Rattle.std.proofs.Common.{◌≡◌, ◌∙◌, ap, sym, refl, subst, arith, ℕ, ◌+◌, length, Bool, true, false, List, [], ◌∷◌, ◌++◌, Option, None, Some, Result, Ok, Err, if◌then◌else◌}
use Rattle.std.specs.Prelude.{◌↔◌, is_some}
use Rattle.std.specs.Option.{option_map, option_map_or}
use Rattle.mt_text.specs.Text.{end_of, lines_of, words_of}
use Rattle.mt_text.specs.declared.place.Place.{Place}
use Rattle.mt_dump.specs.Line.{Reading, said_of}
use Rattle.mt_dump.specs.Dump.{ShownBy, offence_of}
use Rattle.mt_dump.specs.Dumps.{Dump, IsDump}
use Rattle.mt_dump.specs.ForProcessors.{has_each}
use Rattle.mt_dump.specs.Reader.{IsClean, dump_in, onto, read_from}
use Rattle.mt_dump.specs.declared.fault.DumpFault.{DumpFault}
use Rattle.mt_dump.proofs.Complete.{complete}
use Rattle.mt_dump.proofs.Ends.{led_to}
use Rattle.mt_dump.proofs.OneLine.{is_sane}
use Rattle.mt_dump.proofs.Stands.{clean_is_dump, clean_shown, shown_once}
use Rattle.mt_script.specs.Situation.{Situation, at_start}
use Rattle.mt_script.specs.Kept.{IsSituation}
use Rattle.mt_script.specs.Stages.{is_in_dump, is_past_dump, takes_commands}
use Rattle.mt_script.specs.Words.{place_of}
use Rattle.mt_script.specs.Numbers.{fault_at}
use Rattle.mt_script.specs.Commands.{command_of, end_fault}
use Rattle.mt_script.specs.Accept.{Fits, accepted, finished}
use Rattle.mt_script.specs.Head.{HeadStep, end_step, goes_on, head_step, is_end_command, offends, shows, step_in_dump, step_of_answer}
use Rattle.mt_script.specs.Script.{head_line, offence_after, offence_in, script_offence}
use Rattle.mt_script.specs.declared.command.Command.{Command}
use Rattle.mt_script.specs.declared.command.Stage.{Stage}
use Rattle.mt_script.specs.declared.command.Stage.TheVariants.{Rams, Commands}
use Rattle.mt_script.specs.declared.fault.ScriptFault.{ScriptFault}
use Rattle.mt_script.specs.declared.fault.ScriptReason.TheVariants.{NoEnd, OutOfRange}
use Rattle.mt_script.specs.declared.fault.Offence.{Offence}
use Rattle.mt_script.specs.declared.fault.Offence.TheVariants as offence
use Rattle.mt_script.proofs.Heads.{accepted_dump}
use Rattle.mt_script.proofs.Keeping.{accepted_is, start_is}
use Rattle.mt_replay.specs.Heads.{HeadEnd, end_after, head_end, head_of, has_offence, shows_dump, stays_open}
use Rattle.mt_replay.specs.Statuses.{ShowsAfter, ShowsAt, ShowsDump, ShowsIn, shown_by}
use Rattle.mt_replay.proofs.Keeping.States.{command_known}

-- ---- one line

-- What a line leads to, where it and those behind it show these dumps, and those behind it show the later ones.
abbrev LeadsTo : Situation → (Dump → Type 0) → (Dump → Situation → List Reading → Type 0) → HeadStep → Type 0
LeadsTo now Showing Later (goes_on next after) = IsSituation next × IsClean after × (next.dump ≡ now.dump) × ((d : Dump) → Showing d ↔ Later d next after)
LeadsTo now Showing Later (shows dump) = (is_in_dump now.stage ≡ true) × Showing dump × ((d : Dump) → Showing d → d ≡ dump) × IsDump dump × (has_each now.cpus dump ≡ true)
LeadsTo now Showing Later (offends o) = (d : Dump) → Showing d → ⊥

-- the same, where as much is shown
same_shown : (now : Situation) (P Q : Dump → Type 0) (Later : Dump → Situation → List Reading → Type 0) (step : HeadStep) → ((d : Dump) → P d ↔ Q d) → LeadsTo now P Later step → LeadsTo now Q Later step
same_shown now P Q Later (goes_on next after) same h = (h.0, h.1, h.2, λ d. (λ q. (h.3 d).0 ((same d).1 q), λ later. (same d).0 ((h.3 d).1 later)))
same_shown now P Q Later (shows dump) same h = (h.0, (same dump).0 h.1, λ d q. h.2 d ((same d).1 q), h.3, h.4)
same_shown now P Q Later (offends o) same h = λ d q. h d ((same d).1 q)

module _ (number : ℕ) (line : List ℕ) (Later : Dump → Situation → List Reading → Type 0) (now : Situation) (before : List Reading) (is : IsSituation now) (clean : IsClean before) where
  abbrev place : Place
  place = place_of number (words_of line) 0

  abbrev Ended : Dump → Type 0
  Ended d = ShownBy (onto before []) d × (has_each now.cpus d ≡ true)

  -- the dump's end
  counted : is_in_dump now.stage ≡ true → (dump : Dump) → dump_in before ≡ Some dump → (each : Bool) → has_each now.cpus dump ≡ each
      → LeadsTo now Ended Later (if each then shows dump else offends (offence.Script (fault_at OutOfRange place)))
  counted in_dump dump led true each = (in_dump, (clean_shown before dump clean led, each), λ d shown. shown_once (onto before []) d dump shown.0 (clean_shown before dump clean led), clean_is_dump before dump clean led, each)
  counted in_dump dump led false each = λ d shown. let same = shown_once (onto before []) d dump shown.0 (clean_shown before dump clean led) in absurd (cc (shown.1, each, same))

  ended : is_in_dump now.stage ≡ true → (answer : Result Dump DumpFault) → read_from place before [] ≡ answer → LeadsTo now Ended Later (end_step now.cpus place answer)
  ended in_dump (Err fault) bad = λ d shown. let good = complete place before [] d clean tt shown.0 in cc (bad, good)
  ended in_dump (Ok dump) good = counted in_dump dump (led_to place before dump good) (has_each now.cpus dump) refl

  -- another line of the dump
  another : (fault : Option DumpFault) → offence_of before (said_of number line) ≡ fault
      → LeadsTo now (λ d. (offence_of before (said_of number line) ≡ None) × Later d now (said_of number line ∷ before)) Later (option_map_or (λ fault. offends (offence.Dump fault)) fault (goes_on now (said_of number line ∷ before)))
  another (Some fault) bad = λ d shown. let good = shown.0 in cc (bad, good)
  another None good = (is, (is_sane number line, good, clean), refl, λ d. (λ shown. shown.1, λ later. (good, later)))

  in_dump : is_in_dump now.stage ≡ true → (ends : Bool) → LeadsTo now (λ d. ShowsAt d (head_line now before (said_of number line)) (Later d) ends) Later (step_in_dump now before number line ends)
  in_dump dump true = ended dump (read_from place before []) refl
  in_dump dump false = another (offence_of before (said_of number line)) refl

  of_command : (c : Command) → Fits now c → (dump : Bool) → is_in_dump now.stage ≡ dump
      → LeadsTo now (λ d. ShowsAfter d (head_line now before (said_of number line)) (Later d) c dump) Later (if dump then step_in_dump now before number line (is_end_command c) else goes_on (accepted now c) before)
  of_command c fits true dump = in_dump dump (is_end_command c)
  of_command c fits false dump =
      (accepted_is now is c fits (λ in_dump. absurd (let e = sym dump ∙ in_dump in cc e)), clean, accepted_dump now c, λ d. (λ shown. shown, λ shown. shown))

  abbrev Asked : Dump → Type 0
  Asked d = (c : Command) × (command_of now number line ≡ Ok c) × ShowsAfter d (head_line now before (said_of number line)) (Later d) c (is_in_dump now.stage)

  of_answer : (answer : Result Command ScriptFault) → command_of now number line ≡ answer → LeadsTo now Asked Later (step_of_answer now before number line answer)
  of_answer (Err fault) asked = λ d shown. let good = shown.1 in cc (asked, good)
  of_answer (Ok c) asked =
      same_shown now (λ d. ShowsAfter d (head_line now before (said_of number line)) (Later d) c (is_in_dump now.stage)) Asked Later (step_of_answer now before number line (Ok c))
      (λ d. (
        λ shown. (c, asked, shown),
        λ shown.
            let both : Ok c ≡ Ok shown.0 = sym asked ∙ shown.1 in
            let same : shown.0 ≡ c = cc both in
            subst (λ (x : Command). ShowsAfter d (head_line now before (said_of number line)) (Later d) x (is_in_dump now.stage)) same shown.2,
      ))
      (of_command c (command_known now number line c asked) (is_in_dump now.stage) refl)

  line_leads : LeadsTo now Asked Later (head_step now before number line)
  line_leads = of_answer (command_of now number line) refl

-- ---- whole heads

-- These lines show this dump alone, which ends there, and the first offence is behind its end.
pub record IsDumped (end : Place) (number : ℕ) (lines : List (List ℕ)) (first : Option Offence) (Showing : Dump → Type 0) (now : Situation) (dump : Dump) (next : ℕ) (rest : List (List ℕ)) : Type 0 where
  pub shows : Showing dump
  pub alone : (other : Dump) → Showing other → other ≡ dump
  pub good : IsDump dump
  pub each : has_each now.cpus dump ≡ true
  pub is : IsSituation now
  pub in_dump : is_in_dump now.stage ≡ true
  pub follows : first ≡ offence_in end next rest (finished now dump) []
  pub above : List (List ℕ)
  pub behind : lines ≡ above ++ rest
  pub count : next ≡ number + length above

-- Of these lines, the first of which has this number, where the text ends at this place.
abbrev pub Comes : Place → ℕ → List (List ℕ) → Option Offence → (Dump → Type 0) → HeadEnd → Type 0
Comes end number lines first Showing (stays_open now before) = (end_fault now.stage end ≡ Some (fault_at NoEnd end)) × (first ≡ Some (offence.Script (fault_at NoEnd end))) × ((d : Dump) → Showing d → ⊥)
Comes end number lines first Showing (has_offence o) = (first ≡ Some o) × ((d : Dump) → Showing d → ⊥)
Comes end number lines first Showing (shows_dump now dump next rest) = IsDumped end number lines first Showing now dump next rest

-- where as much is shown
same_comes : (end : Place) (number : ℕ) (lines : List (List ℕ)) (first : Option Offence) (P Q : Dump → Type 0) → ((d : Dump) → Q d ↔ P d) → (e : HeadEnd) → Comes end number lines first P e → Comes end number lines first Q e
same_comes end number lines first P Q same (stays_open now before) h = (h.0, h.1, λ d q. h.2 d ((same d).0 q))
same_comes end number lines first P Q same (has_offence o) h = (h.0, λ d q. h.1 d ((same d).0 q))
same_comes end number lines first P Q same (shows_dump now dump next rest) h = record {
  shows = (same dump).1 h.shows;
  alone = λ other q. h.alone other ((same other).0 q);
  good = h.good;
  each = h.each;
  is = h.is;
  in_dump = h.in_dump;
  follows = h.follows;
  above = h.above;
  behind = h.behind;
  count = h.count;
}

-- with one line above
above_line : (end : Place) (number : ℕ) (line : List ℕ) (lines : List (List ℕ)) (first : Option Offence) (P : Dump → Type 0) → (e : HeadEnd)
    → Comes end (number + 1) lines first P e → Comes end number (line ∷ lines) first P e
above_line end number line lines first P (stays_open now before) h = h
above_line end number line lines first P (has_offence o) h = h
above_line end number line lines first P (shows_dump now dump next rest) h =
    let count = h.count in
    record {
      shows = h.shows;
      alone = h.alone;
      good = h.good;
      each = h.each;
      is = h.is;
      in_dump = h.in_dump;
      follows = h.follows;
      above = line ∷ h.above;
      behind = ap (λ (ls : List (List ℕ)). line ∷ ls) h.behind;
      count = omega (arith, count);
    }

-- commands may be given only after the dump
past_dump : (stage : Stage) → takes_commands stage ≡ true → is_past_dump stage ≡ true
past_dump Rams takes = refl
past_dump Commands takes = refl
past_dump other takes = absurd (cc takes)

abbrev AllCome : Place → ℕ → List (List ℕ) → Type 0
AllCome end number lines =
    (now : Situation) (before : List Reading) → IsSituation now → IsClean before → now.dump ≡ None
    → Comes end number lines (offence_in end number lines now before) (λ d. ShowsIn d number lines now before) (head_end number lines now before)

lines_end : (end : Place) (number : ℕ) (now : Situation) (before : List Reading) → IsSituation now → now.dump ≡ None → (takes : Bool) → takes_commands now.stage ≡ takes
    → ((if takes then None else Some (fault_at NoEnd end)) ≡ Some (fault_at NoEnd end)) × (option_map offence.Script (if takes then None else Some (fault_at NoEnd end)) ≡ Some (offence.Script (fault_at NoEnd end))) × ((d : Dump) → ⊥ → ⊥)
lines_end end number now before is fresh true takes =
    let past : is_some now.dump ≡ true = is.has_dump ∙ past_dump now.stage takes in
    absurd (let some : false ≡ true = sym (ap is_some fresh) ∙ past in cc some)
lines_end end number now before is fresh false takes = (refl, refl, λ d none. none)

module _ (end : Place) (number : ℕ) (line : List ℕ) (lines : List (List ℕ)) (later : AllCome end (number + 1) lines) (now : Situation) (before : List Reading) (is : IsSituation now) (fresh : now.dump ≡ None) where
  by_step : (Showing : Dump → Type 0) (step : HeadStep) → LeadsTo now Showing (λ d. ShowsIn d (number + 1) lines) step
      → Comes end number (line ∷ lines) (offence_after now (offence_in end (number + 1) lines) step) Showing (end_after (number + 1) lines now (head_end (number + 1) lines) step)
  by_step Showing (goes_on next after) h =
      let end_of_rest = head_end (number + 1) lines next after in
      let first = offence_in end (number + 1) lines next after in
      let Later : Dump → Type 0 = λ d. ShowsIn d (number + 1) lines next after in
      same_comes end number (line ∷ lines) first Later Showing h.3 end_of_rest (above_line end number line lines first Later end_of_rest (later next after h.0 h.1 (h.2 ∙ fresh)))
  by_step Showing (shows dump) h = record {
    shows = h.1;
    alone = h.2;
    good = h.3;
    each = h.4;
    is = is;
    in_dump = h.0;
    follows = refl;
    above = line ∷ [];
    behind = refl;
    count = refl;
  }
  by_step Showing (offends o) h = (refl, h)

pub all_come : (end : Place) (number : ℕ) (lines : List (List ℕ)) → AllCome end number lines
all_come end number [] now before is clean fresh = lines_end end number now before is fresh (takes_commands now.stage) refl
all_come end number (line ∷ lines) now before is clean fresh =
    by_step end number line lines (all_come end (number + 1) lines) now before is fresh (λ d. ShowsIn d number (line ∷ lines) now before) (head_step now before number line)
    (line_leads number line (λ d. ShowsIn d (number + 1) lines) now before is clean)

module _ (text : List ℕ) where
  abbrev InTurn : Dump → Type 0
  InTurn d = ShowsIn d 1 (lines_of text) at_start []

  come_in_turn : Comes (end_of text) 1 (lines_of text) (script_offence text) InTurn (head_of text)
  come_in_turn = all_come (end_of text) 1 (lines_of text) at_start [] start_is tt refl

  pub in_turn : (dump : Dump) → ShowsDump text dump ↔ InTurn dump
  in_turn dump = by (head_of text) come_in_turn
    where
      by : (e : HeadEnd) → Comes (end_of text) 1 (lines_of text) (script_offence text) InTurn e → (shown_by e ≡ Some dump) ↔ InTurn dump
      by (stays_open now before) h = (λ is. absurd (cc is), λ shown. absurd (h.2 dump shown))
      by (has_offence o) h = (λ is. absurd (cc is), λ shown. absurd (h.1 dump shown))
      by (shows_dump now found next rest) h = (λ is. let same : found ≡ dump = cc is in subst InTurn same h.shows, λ shown. ap Some (sym (h.alone dump shown)))

  pub comes : Comes (end_of text) 1 (lines_of text) (script_offence text) (λ d. ShowsDump text d) (head_of text)
  comes = same_comes (end_of text) 1 (lines_of text) (script_offence text) InTurn (λ d. ShowsDump text d) in_turn (head_of text) come_in_turn
