use Rattle.std.proofs.Common.{◌≡◌, ◌+◌, ℕ, List, drop, length, sym, ap, ◌∙◌}
use Rattle.mt_rendezvous.specs.Station.{first_memory_word, start_of}
use Rattle.mt_rendezvous.proofs.Handed.{ends, words_back, written_over}
use Rattle.mt_rendezvous.proofs.gather.disband.Goals as goal

pub returns : goal.returns
returns c =
    let key = c.args.station.table.shared.key in
    let f = c.close_with-closed.ensures.values.2 in
    let counted = c.args.station.counted in
    let first : c.args.station.count + 2 ≡ first_memory_word (start_of key) = ap (λ (n : ℕ). n + 2) (sym counted) in
    let memory = c.words-all.ensures.memory.counted in
    let back = words_back key f.0 f.1.0 c.args.ram.now c.requires.windows memory in
    let words : drop (first_memory_word (start_of key)) f.0.words ≡ c.put_back.new.words = (λ j. drop (sym first j) (f.2 j)) ∙ sym c.put_back.ensures in
    ends key f.0 f.1.0 _ _ f.1.1 c.requires.root.1 _ c.requires.windows (words ∙ written_over c.put_back.new.words c.args.ram.now.words (ap (λ (l : List ℕ). length l) (sym words) ∙ back))
