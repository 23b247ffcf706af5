-- A replay between two lines, as its code keeps it, and what it leaves in the source and the sink (own).
--     Replays source sink status      of a source that held these bytes; ReplaysAs telling .., where this is its transcript
--     AsksAt point number line      a line that asks for memory; OutOfMemory source sink, where it was refused
--     IsReplay source sink status      what is proved of a replay
use Rattle.std.specs.Prelude.{ℕ, ◌≡◌, ◌||◌, ◌++◌, Bool, true, false, List, [], ◌∷◌, ⊤, MatchOption, MatchResult, Option, Result, None, Ok}
use Rattle.mt_text.specs.declared.place.Place.{Place}
use Rattle.mt_ports.specs.declared.status.Status.{Status}
use Rattle.mt_ports.specs.declared.status.Failed.{Failed}
use Rattle.mt_ports.specs.Puts.{AppendsFront}
use Rattle.mt_output.specs.Lines.{accepted_line}
use Rattle.mt_output.specs.Writing.{PassesOn}
use Rattle.mt_script.specs.declared.command.Command.{Command}
use Rattle.mt_dump.specs.Reader.{HasRead}
use Rattle.mt_script.specs.Situation.{Situation, at_start}
use Rattle.mt_script.specs.Stages.{is_past_dump, takes_windows}
use Rattle.mt_script.specs.Commands.{command_of, end_fault}
use Rattle.mt_script.specs.Head.{head_step, shows}
use Rattle.mt_machine.specs.Start.{HasEraRoom}
use Rattle.mt_regs.specs.Agreement.{first_refusal}
use Rattle.mt_dump.specs.Dumps.{Dump}
use Rattle.mt_stream.specs.Handling.{IsRunOfLines}
use Rattle.mt_stream.specs.Lines.{AtLine, Path, Running, at_line, running}
use Rattle.mt_output.specs.Ports.{Change, Held, Port, SinkRun, SourceRun, Waiting}
use Rattle.mt_stream.specs.Results.{AsksBy, RefusesMemory, ResultsAs}
use Rattle.mt_stream.specs.Transcript.{Transcript}
use Rattle.mt_stream.specs.declared.ending.Stop.{Stop}
use Rattle.mt_stream.specs.declared.ending.Stop.TheVariants.{NoMemory}
use Rattle.mt_replay.specs.Kept.{HasEras}
use Rattle.mt_replay.specs.Parts.{AsksForMemory}
use Rattle.mt_replay.specs.ReplayState.{ReplayState, command_text, state_after}
use Rattle.mt_replay.specs.Newcomers.{early, early_text, newcomers_from, newcomers_in, newcomers_of_dump}
use Rattle.mt_replay.specs.Transcript.{ScriptState, body_lines, from_point, in_body, in_head, replay_told, told_at_end, told_dump, told_lines, transcript}
use Rattle.mt_replay.specs.declared.line.Run.{Run}
use Rattle.mt_replay.specs.declared.line.Run.TheVariants as run

-- ---- a whole replay

-- Memory is asked for before anything but the line `accepted` is written, unless a line `up` or `join` is read.
abbrev pub ReplaysAs : Transcript → Held → Port → Status → Type 0
ReplaysAs t source sink status = ResultsAs (record { tells = t; early = early_text source.bytes }) replay_told source sink status

-- what is told is the transcript
abbrev pub Replays : Held → Port → Status → Type 0
Replays source sink status = ReplaysAs (transcript source.bytes) source sink status

-- A line asks for memory where it ends a dump whose files are accepted, or is a command `ram`, or `up` or `join` where a processor may come. No other does.
abbrev pub AsksAt : ScriptState → ℕ → List ℕ → Type 0
AsksAt (in_head now before) number line = (dump : Dump) × (head_step now before number line ≡ shows dump) × (first_refusal dump.files ≡ None)
AsksAt (in_body s) number line = (c : Command) × (command_of s.now number line ≡ Ok c) × AsksForMemory s.machine c

-- Memory was refused at such a line, or before anything was read.
abbrev pub OutOfMemory : Held → Port → Type 0
OutOfMemory source sink = RefusesMemory (from_point (in_head at_start [])) (AsksBy from_point AsksAt) source sink

-- ---- between two lines

-- what stands set up in a run
abbrev pub setup_of : Run → Situation
setup_of (run.Head h) = h.setup
setup_of (run.Body r) = r.now

-- the run stands at this point
abbrev pub IsAt : Run → ScriptState → Type 0
IsAt (run.Head h) (in_head now before) = (h.setup ≡ now) × HasRead h.dump before
IsAt (run.Head h) (in_body s) = ⊥
IsAt (run.Body r) (in_head now before) = ⊥
IsAt (run.Body r) (in_body s) = (r ≡ s) × (is_past_dump s.now.stage ≡ true)

-- what is told where the text ends
abbrev pub end_of_run : Run → Place → Transcript
end_of_run now place = told_at_end (end_fault (setup_of now).stage place)

-- Nothing but the line `accepted` is written where windows may be asked for, and no line `up` or `join` stands in the head of a script.
abbrev pub HasOutput : Run → Bool → List ℕ → Type 0
HasOutput (run.Head h) came text = (text ≡ []) × (came ≡ false)
HasOutput (run.Body r) came text = takes_windows r.now.stage ≡ true → text ≡ accepted_line

-- A command was done: its text went through the writer, and its state stands. For want of memory nothing was done, and
-- after a failed write a front of the text was taken.
abbrev pub CarriesOut : Change ReplayState → Command → Waiting → Port → Result (Option Stop) Failed → Type 0
CarriesOut state c writer sink result =
    MatchResult result
    (λ ended. MatchOption ended
    (PassesOn writer.old (command_text state.old c) writer.new sink.old sink.new × (state.new ≡ state_after state.old c))
    (λ stop. (stop ≡ NoMemory) × PassesOn writer.old [] writer.new sink.old sink.new))
    (λ failed. AppendsFront sink.old sink.new (writer.old ++ command_text state.old c))

-- where lines stand at this point, behind a text, and whether a processor came up before
abbrev pub path_from : Bool → List ℕ → ScriptState → Path
path_from came so_far p end number lines = record {
  tells = told_lines end number lines p;
  early = early (came || newcomers_from number lines p) so_far (told_lines end number lines p).text;
}

abbrev pub StandsAt : Run → List ℕ → Path → Type 0
StandsAt now so_far was = (p : ScriptState) × (came : Bool) × IsAt now p × HasOutput now came so_far × (was ≡ path_from came so_far p)

-- what a line of this number at a point, and those behind it, tell
abbrev pub from_line : ℕ → List ℕ → ScriptState → Option Place → List (List ℕ) → Transcript
from_line number line p end lines = told_lines end number (line ∷ lines) p

-- and what a run that takes it finds behind a text, where a processor may have come up before
abbrev pub line_at : Bool → List ℕ → ℕ → List ℕ → ScriptState → AtLine
line_at came so_far number line p = at_line number line so_far (path_from came so_far p)

-- The same at the end of a dump that is shown, the lines behind which have this number on. Nothing is written before it.
abbrev pub dump_at : Situation → Dump → ℕ → AtLine
dump_at now dump number = record {
  leads = λ end lines. record {
    tells = told_dump now dump (body_lines end number lines) (first_refusal dump.files);
    early =
        early (newcomers_of_dump now dump (newcomers_in number lines) (first_refusal dump.files)) []
        (told_dump now dump (body_lines end number lines) (first_refusal dump.files)).text;
  };
  next_number = number;
  so_far = [];
}

-- no processor has finished more updates than this
abbrev pub HasErasAt : ℕ → Run → Type 0
HasErasAt most (run.Head h) = ⊤
HasErasAt most (run.Body r) = HasEras most r

abbrev pub HasEraRoomAt : Run → Type 0
HasEraRoomAt (run.Head h) = ⊤
HasEraRoomAt (run.Body r) = HasEraRoom r.machine

abbrev pub replay_running : Running
replay_running = running StandsAt end_of_run (λ now. AsksBy from_point AsksAt) HasErasAt

-- ---- what is proved

abbrev pub IsReplay : {S K : Type 0} → SourceRun S → SinkRun K → Status → Type 0
IsReplay source sink status = IsRunOfLines (record { told = replay_told; Results = Replays; Refused = OutOfMemory }) source sink status
