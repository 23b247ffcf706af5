use Rattle.std.proofs.Common.{List, Some, arith, inl, refl, subst, ℕ}
use Rattle.mt_ports.specs.declared.status.Status.TheVariants.{Done}
use Rattle.mt_output.specs.Ports.{held, port}
use Rattle.mt_output.specs.Written.{Writes}
use Rattle.mt_answers.specs.declared.command.Command.TheVariants.{Serial}
use Rattle.mt_answers.specs.declared.command.DumpCommand.{DumpCommand}
use Rattle.mt_answers.specs.Written.{AnswersInput}
use Rattle.mt_answers.proofs.Endings.{input_ends, keeps_memory, makes_own, never_own, one_dump, own_ends, written_own}
use Rattle.mt_answers.proofs.serial.run_serial.Goals as goal

pub answer_input-requires : goal.answer_input-requires
answer_input-requires g c = record { sound = rw c.in-Dump.is at c.requires }

pub returns-in-Dump : goal.returns-in-Dump
returns-in-Dump g c =
    let answer = c.answer_input.ensures in
    record {
      bytes = λ asked bytes says is.
          subst (λ (d : DumpCommand). AnswersInput d (held bytes (g.S.Source.left c.answer_input.new.source)) (port g.K.Sink.taken c.args.sink.now c.answer_input.new.sink) c.answer_input.result)
          (one_dump c.args.command c.in-Dump.command asked c.in-Dump.is says) (answer.bytes bytes is);
      text = rw c.in-Dump.is tt;
      unread = rw c.in-Dump.is (λ not. absurd (cc not));
      usage = answer.usage;
      statuses = rw c.in-Dump.is (input_ends c.in-Dump.command c.answer_input.result answer.few answer.disabled);
      no_memory = rw c.in-Dump.is answer.no_memory;
      read_fault = answer.read_fault;
      write_fault = answer.write_fault;
      too_long = answer.too_long;
    }

pub returns-in-Make : goal.returns-in-Make
returns-in-Make g c =
    let ends = makes_own _ _ _ c.make.result c.make.ensures.bytes in
    let never = never_own c.make.result ends in
    record {
      bytes = λ asked bytes says is. absurd (cc (c.in-Make.is, says));
      text = rw c.in-Make.is c.make.ensures.bytes;
      unread = λ not. refl;
      usage = never.0;
      statuses = own_ends (Some (Serial c.args.command)) c.make.result ends;
      no_memory = rw c.in-Make.is (λ none. tt);
      read_fault = record { rose = λ is. absurd (never.1 is); stands = λ other. refl };
      write_fault = c.make.ensures.cause;
      too_long = (λ is. absurd (never.2 is), λ much. absurd (omega (arith, much)));
    }

pub returns-in-Help : goal.returns-in-Help
returns-in-Help g c =
    let ends = written_own c.written.result c.written.ensures.status in
    let never = never_own c.written.result ends in
    record {
      bytes = λ asked bytes says is. absurd (cc (c.in-Help.is, says));
      text = rw c.in-Help.is (inl (subst (λ (t : List ℕ). Writes t Done (g.K.Sink.taken c.args.sink.now) (g.K.Sink.taken c.written.new.sink) c.written.result) c.help_text.ensures c.written.ensures.bytes));
      unread = λ not. refl;
      usage = never.0;
      statuses = own_ends (Some (Serial c.args.command)) c.written.result ends;
      no_memory = λ none. absurd (keeps_memory c.written.result c.written.ensures.status none);
      read_fault = record { rose = λ is. absurd (never.1 is); stands = λ other. refl };
      write_fault = c.written.ensures.cause;
      too_long = (λ is. absurd (never.2 is), λ much. absurd (omega (arith, much)));
    }

pub returns-in-Version : goal.returns-in-Version
returns-in-Version g c =
    let ends = written_own c.written-in-Version.result c.written-in-Version.ensures.status in
    let never = never_own c.written-in-Version.result ends in
    record {
      bytes = λ asked bytes says is. absurd (cc (c.in-Version.is, says));
      text = rw c.in-Version.is (inl (subst (λ (t : List ℕ). Writes t Done (g.K.Sink.taken c.args.sink.now) (g.K.Sink.taken c.written-in-Version.new.sink) c.written-in-Version.result) c.version_text.ensures c.written-in-Version.ensures.bytes));
      unread = λ not. refl;
      usage = never.0;
      statuses = own_ends (Some (Serial c.args.command)) c.written-in-Version.result ends;
      no_memory = λ none. absurd (keeps_memory c.written-in-Version.result c.written-in-Version.ensures.status none);
      read_fault = record { rose = λ is. absurd (never.1 is); stands = λ other. refl };
      write_fault = c.written-in-Version.ensures.cause;
      too_long = (λ is. absurd (never.2 is), λ much. absurd (omega (arith, much)));
    }
