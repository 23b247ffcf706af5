use Rattle.std.proofs.Common.{◌≡◌, ◌∙◌, length, ap, arith}
use Rattle.mt_dump.proofs.Canonical.{value_length}
use Rattle.mt_proc.proofs.Lengths.{joined}
use Rattle.mt_proc.proofs.listing.append_hex.Goals as goal

pub append-requires : goal.append-requires
append-requires c =
    let size : length c.value_text.result ≡ 16 = ap length c.value_text.ensures ∙ value_length c.args.value in
    omega (arith, size, c.significant.ensures.short)

pub returns-clause-short : goal.returns-clause-short
returns-clause-short c =
    let size : length c.value_text.result ≡ 16 = ap length c.value_text.ensures ∙ value_length c.args.value in
    omega (arith, size, c.significant.ensures.short, joined c.append.new.line.items c.args.line.now.items c.significant.result.now c.append.ensures)
