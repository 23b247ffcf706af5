use Rattle.std.proofs.Common.{append_assoc}
use Rattle.mt_answers.proofs.generator.append_round.Goals as goal

pub returns : goal.returns
returns c =
    let parts = c.in_ok-x.ensures in
    (rw (c.in_ok-push_str-3.ensures.bytes, c.in_ok-push_str-2.ensures.bytes, c.in_ok-push_str.ensures.bytes, c.round_value.ensures, parts.0) (simp append_assoc), parts.1)
