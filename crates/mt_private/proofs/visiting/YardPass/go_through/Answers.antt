use Rattle.std.proofs.Common.{◌∙◌, ap, sym, [], ◌∷◌}
use Rattle.mt_regs.specs.RegisterFile.{RegisterFile}
use Rattle.mt_machine.specs.System.{System}
use Rattle.mt_machine.specs.Update.{updated}
use Rattle.mt_private.proofs.visiting.YardPass.go_through.Goals as goal

pub returns-then-not-take-clause-left : goal.returns-then-not-take-clause-left
returns-then-not-take-clause-left g c _ = c.take.ensures.left c.if-not-take.true

pub arrive-requires : goal.arrive-requires
arrive-requires g c = record { taken = (c.args.core.now.system, c.take.ensures.taken c.if-not-take.false) }

pub wait_first-requires-clause-arrived : goal.wait_first-requires-clause-arrived
wait_first-requires-clause-arrived g c = let s : System = c.args.core.now.system in (s, c.arrive.ensures.arrived s (c.take.ensures.taken c.if-not-take.false))

pub wait_first-requires-clause-heard : goal.wait_first-requires-clause-heard
wait_first-requires-clause-heard g c = c.tell-heard.ensures ∙ c.arrive.ensures.token ∙ sym c.arrive.ensures.number

pub returns-then-not-wait_first-clause-done : goal.returns-then-not-wait_first-clause-done
returns-then-not-wait_first-clause-done g c = c.wait_first.ensures.done ∙ c.arrive.ensures.done ∙ c.take.ensures.done

pub returns-then-not-wait_first-clause-number : goal.returns-then-not-wait_first-clause-number
returns-then-not-wait_first-clause-number g c = c.wait_first.ensures.number ∙ c.arrive.ensures.number ∙ c.take.ensures.number

pub returns-then-not-wait_first-clause-left : goal.returns-then-not-wait_first-clause-left
returns-then-not-wait_first-clause-left g c _ =
    let s : System = c.args.core.now.system in
    c.wait_first.ensures.left c.if-not-wait_first.true s (c.arrive.ensures.arrived s (c.take.ensures.taken c.if-not-take.false))

pub change-requires : goal.change-requires
change-requires g c =
    let s : System = c.args.core.now.system in
    record { passed = (s, c.wait_first.ensures.passed c.if-not-wait_first.false s (c.arrive.ensures.arrived s (c.take.ensures.taken c.if-not-take.false))) }

pub wait_second-requires : goal.wait_second-requires
wait_second-requires g c =
    let s : System = c.args.core.now.system in
    record { arrived = (s, c.change.ensures.arrived s (c.wait_first.ensures.passed c.if-not-wait_first.false s (c.arrive.ensures.arrived s (c.take.ensures.taken c.if-not-take.false)))) }

pub returns-clause-number : goal.returns-clause-number
returns-clause-number g c = c.wait_second.ensures.number ∙ c.change.ensures.number ∙ c.wait_first.ensures.number ∙ c.arrive.ensures.number ∙ c.take.ensures.number

pub returns-clause-done : goal.returns-clause-done
returns-clause-done g c = c.wait_second.ensures.done ∙ c.change.ensures.done ∙ c.wait_first.ensures.done ∙ c.arrive.ensures.done ∙ c.take.ensures.done

pub returns-clause-released : goal.returns-clause-released
returns-clause-released g c _ = c.wait_second.ensures.released

pub returns-clause-whole : goal.returns-clause-whole
returns-clause-whole g c _ =
    let s : System = c.args.core.now.system in
    let passed = c.wait_first.ensures.passed c.if-not-wait_first.false s (c.arrive.ensures.arrived s (c.take.ensures.taken c.if-not-take.false)) in
    c.wait_second.ensures.whole s (c.change.ensures.arrived s passed) ∙ ap (λ (f : RegisterFile). updated s (0 ∷ []) f) (sym c.requires.goal)
