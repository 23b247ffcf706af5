use Rattle.mt_replay.proofs.texts.append_stepped.Goals as goal

pub returns-in-Waits : goal.returns-in-Waits
returns-in-Waits c = rw c.in-Waits.is (c.append_waits.ensures c.args.f.now)
