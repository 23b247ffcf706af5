use Rattle.std.proofs.Common.{◌<◌, ℕ, ◌≢◌, arith}
use Rattle.mt_cache.proofs.Lists.{first_bit}
use Rattle.mt_cache.proofs.words.first_word.Goals as goal

positive : (n : ℕ) → n ≢ 0 → 0 < n
positive n some = omega (arith, some)

pub returns-else-dirty-eq0 : goal.returns-else-dirty-eq0
returns-else-dirty-eq0 c = first_bit c.args.dirty (positive c.args.dirty c.if-dirty-eq0.false) c.ranges.dirty.fits
