use Rattle.std.proofs.Common.{◌≡◌, ◌∙◌, sym, refl, subst, ◌+◌, ℕ, false, List, [], None, Ok}
use Rattle.mt_stream.specs.declared.ending.Stop.TheVariants.{BadText, NoMemory}
use Rattle.mt_script.specs.Lines.{offence_line}
use Rattle.mt_script.specs.Head.{offends}
use Rattle.mt_script.specs.Situation.{Situation}
use Rattle.mt_replay.specs.Running.{AsksAt, HasOutput, StandsAt, dump_at, line_at}
use Rattle.mt_replay.specs.Transcript.{ScriptState, in_head}
use Rattle.mt_stream.specs.Lines.{Takes}
use Rattle.mt_output.specs.Ports.{change, port}
use Rattle.mt_replay.specs.declared.line.Run.{Run}
use Rattle.mt_replay.specs.declared.line.Run.TheVariants as run
use Rattle.mt_replay.proofs.Taking.{dump_leads, head_takes, in_the_head}
use Rattle.mt_stream.proofs.Taking.{takes_last, takes_same}
use Rattle.mt_replay.proofs.Walks.{head_leads}
use Rattle.mt_replay.specs.Summing.{Lasts, LastsOn}
use Rattle.mt_replay.proofs.Sums.Last.{head_goes_on, head_offends, head_shows, last_told}
use Rattle.mt_replay.proofs.line.take_anywhere.Goals as goal

pub returns-in-Ok-None-clause-bytes : goal.returns-in-Ok-None-clause-bytes
returns-in-Ok-None-clause-bytes g c = λ came so_far was at quiet.
    let (before, read, is) = in_the_head c.args.run.now c.in-Head.head was c.in-Head.is at in
    let none : (so_far ≡ []) × (came ≡ false) = subst (λ (r : Run). HasOutput r came so_far) c.in-Head.is quiet in
    let (after, holds, step) = rw c.in-Ok-None.field-0-is at (c.in-Ok-None.ensures.step before read) in
    let writer = change c.args.writer.now c.args.writer.now in
    let sink = port g.K.Sink.taken c.args.sink.now c.args.sink.now in
    subst (λ (p : ScriptState). Takes (StandsAt (run.Head c.take.new.self)) (line_at came so_far c.args.line.now.number c.args.line.now.bytes.now p) writer sink (Ok None)) (sym is)
    (head_takes c.in-Head.head.setup c.take.new.self.setup before after c.args.line.now.number c.args.line.now.bytes.now came so_far c.args.writer.now c.take.new.self (g.K.Sink.taken c.args.sink.now) step (refl, holds) none)

pub returns-in-Ok-Some-clause-bytes : goal.returns-in-Ok-Some-clause-bytes
returns-in-Ok-Some-clause-bytes g c = λ came so_far was at quiet.
    let (before, read, is) = in_the_head c.args.run.now c.in-Head.head was c.in-Head.is at in
    let none : (so_far ≡ []) × (came ≡ false) = subst (λ (r : Run). HasOutput r came so_far) c.in-Head.is quiet in
    let (holds, step) = rw c.in-Ok-Some.field-0-is at (c.in-Ok-Some.ensures.step before read) in
    let same = c.replace-setup.ensures.value ∙ (rw c.in-Ok-Some.field-0-is at c.in-Ok-Some.ensures.shown).1 in
    let number = c.args.line.now.number in
    let writer = change c.args.writer.now c.begin.new.writer in
    let sink = port g.K.Sink.taken c.args.sink.now c.begin.new.sink in
    let begun = subst (λ (now : Situation). Takes (StandsAt c.begin.new.run) (dump_at now c.in-Ok-Some.dump (number + 1)) writer sink c.begin.result) same (c.begin.ensures.bytes (number + 1)) in
    let here = dump_at c.in-Head.head.setup c.in-Ok-Some.dump (number + 1) in
    let takes = subst (λ (l : List ℕ). Takes (StandsAt c.begin.new.run) (record here { so_far = l }) writer sink c.begin.result) (sym none.0) begun in
    subst (λ (p : ScriptState). Takes (StandsAt c.begin.new.run) (line_at came so_far number c.args.line.now.bytes.now p) writer sink c.begin.result) (sym is)
    (takes_same (StandsAt c.begin.new.run) (record here { so_far = so_far }) (line_at came so_far number c.args.line.now.bytes.now (in_head c.in-Head.head.setup before)).leads writer sink c.begin.result
    (dump_leads c.in-Head.head.setup c.in-Ok-Some.dump before number c.args.line.now.bytes.now came so_far step none) takes)

pub returns-in-Err-clause-bytes : goal.returns-in-Err-clause-bytes
returns-in-Err-clause-bytes g c = λ came so_far was at quiet.
    let (before, read, is) = in_the_head c.args.run.now c.in-Head.head was c.in-Head.is at in
    let step = c.in-Err.ensures.step before read in
    let writer = change c.args.writer.now c.tell_offence.new.writer in
    let sink = port g.K.Sink.taken c.args.sink.now c.tell_offence.new.sink in
    subst (λ (p : ScriptState). Takes (StandsAt (run.Head c.take.new.self)) (line_at came so_far c.args.line.now.number c.args.line.now.bytes.now p) writer sink c.tell_offence.result) (sym is)
    (takes_last (StandsAt (run.Head c.take.new.self)) (line_at came so_far c.args.line.now.number c.args.line.now.bytes.now (in_head c.in-Head.head.setup before)) (offence_line c.in-Err.offence) writer sink BadText c.tell_offence.result
    (head_leads c.in-Head.head.setup before c.args.line.now.number c.args.line.now.bytes.now (offends c.in-Err.offence) step) (λ is. cc is)
    c.tell_offence.ensures.bytes c.tell_offence.ensures.stop)

pub returns-in-Ok-None-clause-last : goal.returns-in-Ok-None-clause-last
returns-in-Ok-None-clause-last g c = λ was at.
    let (before, read, is) = in_the_head c.args.run.now c.in-Head.head was c.in-Head.is at in
    let (after, holds, step) = rw c.in-Ok-None.field-0-is at (c.in-Ok-None.ensures.step before read) in
    subst (λ (p : ScriptState). LastsOn c.args.line.now.number c.args.line.now.bytes.now p (run.Head c.take.new.self)) (sym is)
    (head_goes_on c.in-Head.head.setup before c.args.line.now.number c.args.line.now.bytes.now c.take.new.self.setup after (run.Head c.take.new.self) step (refl, holds))

pub returns-in-Ok-Some-clause-last : goal.returns-in-Ok-Some-clause-last
returns-in-Ok-Some-clause-last g c = λ was at.
    let (before, read, is) = in_the_head c.args.run.now c.in-Head.head was c.in-Head.is at in
    let (holds, step) = rw c.in-Ok-Some.field-0-is at (c.in-Ok-Some.ensures.step before read) in
    let shown = rw c.in-Ok-Some.field-0-is at c.in-Ok-Some.ensures.shown in
    subst (λ (p : ScriptState). Lasts c.args.line.now.number c.args.line.now.bytes.now p c.begin.new.run c.begin.result) (sym is)
    (head_shows c.in-Head.head.setup before c.args.line.now.number c.args.line.now.bytes.now c.in-Ok-Some.dump c.begin.new.run c.begin.result step c.replace-setup.result (c.replace-setup.ensures.value ∙ shown.1) c.begin.ensures.state)

pub returns-in-Err-clause-last : goal.returns-in-Err-clause-last
returns-in-Err-clause-last g c = λ was at.
    let (before, read, is) = in_the_head c.args.run.now c.in-Head.head was c.in-Head.is at in
    let step = c.in-Err.ensures.step before read in
    subst (λ (p : ScriptState). Lasts c.args.line.now.number c.args.line.now.bytes.now p (run.Head c.take.new.self) c.tell_offence.result) (sym is)
    (last_told c.args.line.now.number c.args.line.now.bytes.now (in_head c.in-Head.head.setup before) (run.Head c.take.new.self) BadText c.tell_offence.result c.tell_offence.ensures.stop
    (head_offends c.in-Head.head.setup before c.args.line.now.number c.args.line.now.bytes.now c.in-Err.offence (run.Head c.take.new.self) step refl))

pub returns-in-Ok-None-clause-asks : goal.returns-in-Ok-None-clause-asks
returns-in-Ok-None-clause-asks g c = λ was at wants. absurd (cc wants)

pub returns-in-Ok-Some-clause-asks : goal.returns-in-Ok-Some-clause-asks
returns-in-Ok-Some-clause-asks g c = λ was at wants.
    let (before, read, is) = in_the_head c.args.run.now c.in-Head.head was c.in-Head.is at in
    let (holds, step) = rw c.in-Ok-Some.field-0-is at (c.in-Ok-Some.ensures.step before read) in
    subst (λ (p : ScriptState). AsksAt p c.args.line.now.number c.args.line.now.bytes.now) (sym is) (c.in-Ok-Some.dump, step, c.begin.ensures.asks wants)

pub returns-in-Err-clause-asks : goal.returns-in-Err-clause-asks
returns-in-Err-clause-asks g c = λ was at wants. let e : NoMemory ≡ BadText = c.tell_offence.ensures.answer NoMemory wants in absurd (cc e)
