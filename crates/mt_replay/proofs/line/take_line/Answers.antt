use Rattle.std.proofs.Common.{◌≡◌, ap, subst, sym}
use Rattle.mt_replay.specs.ReplayState.{ReplayState}
use Rattle.mt_replay.specs.Running.{AsksAt, IsAt}
use Rattle.mt_replay.specs.Transcript.{ScriptState, in_body, in_head}
use Rattle.mt_replay.specs.declared.line.Run.{Run}
use Rattle.mt_replay.specs.declared.line.Run.TheVariants as run
use Rattle.mt_replay.proofs.line.take_line.Goals as goal

-- a run behind the dump's end stands in its state
in_the_body : (r : Run) (s : ReplayState) (was : ScriptState) → r ≡ run.Body s → IsAt r was → was ≡ in_body s
in_the_body r s was is at = by was (subst (λ (x : Run). IsAt x was) is at)
  where
    by : (was : ScriptState) → IsAt (run.Body s) was → was ≡ in_body s
    by (in_head now before) at = absurd at
    by (in_body state) at = ap in_body (sym at.0)

pub returns-in-Body-clause-asks : goal.returns-in-Body-clause-asks
returns-in-Body-clause-asks g c = λ was at wants.
    subst (λ (p : ScriptState). AsksAt p c.args.line.now.number c.args.line.now.bytes.now) (sym (in_the_body c.args.run.now c.in-Body.replayer was c.in-Body.is at)) (c.take_command.ensures.asks wants)
