use Rattle.std.proofs.Common.{arith}
use Rattle.mt_replay_laws.proofs.Listed.{lines_asked}
use Rattle.mt_replay_laws.proofs.proc_laws.listings_ask_for_their_ranges.Goals as goal

pub returns : goal.returns
returns c = λ f number is. lines_asked f.width 0 number f.pairs is.narrow (omega (arith, is.all_pairs, is.few_pairs))
