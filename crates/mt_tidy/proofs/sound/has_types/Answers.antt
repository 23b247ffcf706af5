use Rattle.std.proofs.Common.{◌≡◌, ◌∙◌, ap, arith}
use Rattle.std.specs.Prelude.{not}
use Rattle.mt_regs.specs.Faults.{any_byte, is_supported}
use Rattle.mt_tidy.proofs.sound.has_types.Goals as goal

pub returns : goal.returns
returns c = λ _.
    let all : 8 ≡ c.loop-i.i = omega arith in
    ap (λ n. not (any_byte (λ byte. not (is_supported c.args.has_combining byte)) c.args.value n)) all ∙ ap not c.loop-i.invariant
