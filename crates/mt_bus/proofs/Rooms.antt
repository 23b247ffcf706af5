-- A line that is filled in a processor's cache.
use Rattle.std.proofs.Common.{◌≡◌, ◌∙◌, ap, sym, ℕ, ◌<◌, List, [], ◌∷◌, ◌++◌, length, Option, None, Some, slice_get, slice_set}
use Rattle.std.proofs.lemmas.List.{set-set}
use Rattle.std.specs.Option.{option_map_or}
use Rattle.mt_cache.specs.declared.line.CacheLine.{CacheLine}
use Rattle.mt_cache.specs.Lines.{oldest_of_full, without_line}
use Rattle.mt_cache.specs.Calls.{clean_line_of, with_room}
use Rattle.mt_machine.specs.Memory.{Memory, fresh_line, line_words, write_back}
use Rattle.mt_machine.specs.System.{Processor, System, change}
use Rattle.mt_machine.specs.Bus.{fill_line, with_lines}
use Rattle.mt_laws.proofs.Words.AccessLaws.{change_at}
use Rattle.mt_laws.specs.Parts.{lines_in, system, with_changed}
use Rattle.mt_bus.proofs.Changed.{changed_is, changed_there, processor_of, set_there}

-- the clean line is added, and a full cache hands its oldest back
abbrev pub add : ℕ → List ℕ → Processor → Processor
add n words p = record p { lines = with_room 64 p.lines ++ clean_line_of n words p.era ∷ [] }

abbrev fresh : ℕ → ℕ → System → System
fresh k n room = change (λ p. record p { lines = p.lines ++ fresh_line room.memory n p.era ∷ [] }) k room

abbrev pub written_if : Memory → Option CacheLine → Memory
written_if m o = option_map_or (λ l. write_back m l) o m

module _ (k n : ℕ) (ps : List Processor) (m : Memory) (p : Processor) (at : slice_get ps k ≡ Some p) where
  abbrev filled_from : Option CacheLine → System
  filled_from o = fresh k n (option_map_or (λ l. change (with_lines (without_line l.number)) k (system ps (write_back m l))) o (system ps m))

  abbrev added : Option CacheLine → System
  added o = system (slice_set ps k (record p { lines = option_map_or (λ (l : CacheLine). without_line l.number p.lines) o p.lines ++ clean_line_of n (line_words (written_if m o) n) p.era ∷ [] })) (written_if m o)

  cases : (o : Option CacheLine) → added o ≡ filled_from o
  cases None = sym (change_at (λ q. record q { lines = q.lines ++ fresh_line m n q.era ∷ [] }) k (system ps m) p at)
  cases (Some l) =
      let out : Processor = with_lines (without_line l.number) p in
      let w : Memory = write_back m l in
      sym
      (ap (fresh k n) (change_at (with_lines (without_line l.number)) k (system ps w) p at)
      ∙ change_at (λ q. record q { lines = q.lines ++ fresh_line w n q.era ∷ [] }) k (system (slice_set ps k out) w) out (set_there ps k p out at)
      ∙ ap (λ (xs : List Processor). system xs w) (set-set ps k out (record out { lines = out.lines ++ fresh_line w n p.era ∷ [] })))

  at_place : system (with_changed (add n (line_words (written_if m (oldest_of_full 64 (lines_in k ps))) n)) k ps) (written_if m (oldest_of_full 64 (lines_in k ps))) ≡ fill_line k n (system ps m)
  at_place =
      ap (λ (o : Option Processor). let u : Memory = written_if m (oldest_of_full 64 (option_map_or (λ (x : Processor). x.lines) o [])) in system (with_changed (add n (line_words u n)) k ps) u) at
      ∙ ap (λ xs. system xs (written_if m (oldest_of_full 64 p.lines))) (changed_there (add n (line_words (written_if m (oldest_of_full 64 p.lines)) n)) k ps p at)
      ∙ cases (oldest_of_full 64 p.lines)
      ∙ ap (λ (o : Option Processor). filled_from (oldest_of_full 64 (option_map_or (λ (x : Processor). x.lines) o []))) (sym at)

pub filled : (k n : ℕ) (ps : List Processor) (m w : Memory) (u : System) (words : List ℕ) (ls : List CacheLine) → k < length ps → lines_in k ps ≡ ls
    → w ≡ written_if m (oldest_of_full 64 ls) → words ≡ line_words w n → u ≡ change (add n words) k (system ps w) → u ≡ fill_line k n (system ps m)
filled k n ps m w u words ls among own written read added =
    let p = processor_of ps k among in
    added
    ∙ sym (changed_is (add n words) k ps w)
    ∙ ap (λ ws. system (with_changed (add n ws) k ps) w) read
    ∙ ap (λ x. system (with_changed (add n (line_words x n)) k ps) x) (written ∙ ap (λ x. written_if m (oldest_of_full 64 x)) (sym own))
    ∙ at_place k n ps m p.0 p.1
