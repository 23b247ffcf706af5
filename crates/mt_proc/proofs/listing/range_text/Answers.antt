use Rattle.std.proofs.Common.{◌≤◌, length, length-append, ap, arith, lit<}
use Rattle.std.proofs.lemmas.Fmt.{length-decimal-le}
use Rattle.std.specs.Fmt.{decimal}
use Rattle.mt_proc.proofs.listing.range_text.Goals as goal

pub returns-clause-short : goal.returns-clause-short
returns-clause-short c =
    let a = simp length-append at (ap length c.append.ensures) in
    let b = simp length-append at (ap length c.append-2.ensures) in
    let d = simp length-append at (ap length c.append-3.ensures) in
    let e = simp length-append at (ap length c.append-4.ensures) in
    let f = simp length-append at (ap length c.append-5.ensures) in
    let g = simp length-append at (ap length c.append_decimal.ensures.text) in
    let h = simp length-append at (ap length c.append-6.ensures) in
    let digits : length (decimal c.args.n) ≤ 2 = length-decimal-le 2 c.args.n (lit< tt) (omega arith) (omega arith) in
    omega (arith, digits, ap length c.new-line.ensures, c.append_hex.ensures.short, c.append_hex-2.ensures.short, c.name_of.ensures.short)
