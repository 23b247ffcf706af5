use Rattle.std.proofs.Common.{length, arith, rules}
use Rattle.mt_import.proofs.Types.{product_fits, sum_fits}
use Rattle.mt_import.proofs.linux.+bytes_value.Goals as goal

pub overflow_mul-result : goal.overflow_mul-result
overflow_mul-result t c = product_fits (length c.in-Some.bytes.now) c.in-Some-Some.high (grind (arith, c.requires, c.in-Some.ensures)) c.in-Some-Some.ensures.fits

pub overflow_add-result : goal.overflow_add-result
overflow_add-result t c = sum_fits (length c.in-Some.bytes.now) c.in-Some-Some.byte c.in-Some-Some.high (search rules) (grind (arith, c.requires, c.in-Some.ensures)) c.in-Some-Some.ensures.fits
