use Rattle.std.proofs.Common.{◌≡◌, length, map}
use Rattle.std.specs.Prelude.{string_bytes}
use Rattle.mt_web.specs.Words.{words_from, words_in}
use Rattle.mt_web.proofs.words.words_in.Given as goal

abbrev pub invariant-bytes : goal.invariant-bytes
invariant-bytes l = words_from (map string_bytes l.words.items) l.word.items l.rest ≡ words_in l.text

abbrev pub decreases-bytes : goal.decreases-bytes
decreases-bytes l = length l.rest
