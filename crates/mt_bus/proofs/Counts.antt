-- What the bus does leaves the number of processors.
use Rattle.std.proofs.Common.{◌≡◌, ◌∙◌, ap, sym, refl, subst, ℕ, suc, ◌+◌, ◌<◌, List, [], ◌∷◌, ◌++◌, map, length, Option, None, Some, slice_get, slice_set}
use Rattle.std.proofs.lemmas.List.{length-map, length-set}
use Rattle.std.specs.Option.{option_map_or}
use Rattle.mt_cache.specs.declared.line.CacheLine.{CacheLine}
use Rattle.mt_cache.specs.Lines.{change_line, clean_line, oldest_of_full, without_line}
use Rattle.mt_machine.specs.Memory.{fresh_line, write_back}
use Rattle.mt_machine.specs.System.{Processor, System, change, lines_of}
use Rattle.mt_machine.specs.Bus.{bus_read, empty_buffer, fill_line, invalidate_others, make_room, others_from, with_lines}

-- a number of one of them is one afterwards
pub among : (k : ℕ) (s t u : System) → t ≡ u → length u.processors ≡ length s.processors → k < length s.processors → k < length t.processors
among k s t u is same h = subst (λ n. k < n) (sym (ap (λ (x : System). length x.processors) is ∙ same)) h

pub others_count : (i k : ℕ) (f : Processor → Processor) (ps : List Processor) → length (others_from i k f ps) ≡ length ps
others_count i k f [] = refl
others_count i k f (p ∷ ps) = ap suc (others_count (i + 1) k f ps)

pub read_count : (k n : ℕ) (s : System) → length (invalidate_others k n (bus_read n s)).processors ≡ length s.processors
read_count k n s =
    others_count 0 k (with_lines (without_line n)) (map (with_lines (change_line n clean_line)) s.processors)
    ∙ length-map s.processors (with_lines (change_line n clean_line))

pub empty_count : (s : System) (b : CacheLine) → length (empty_buffer s b).processors ≡ length s.processors
empty_count s b =
    length-map (map (with_lines (change_line b.number clean_line)) s.processors) (with_lines (without_line b.number))
    ∙ length-map s.processors (with_lines (change_line b.number clean_line))

change_count : (f : Processor → Processor) (k : ℕ) (s : System) (o : Option Processor)
    → length (option_map_or (λ p. record s { processors = slice_set s.processors k (f p) }) o s).processors ≡ length s.processors
change_count f k s None = refl
change_count f k s (Some p) = length-set s.processors k (f p)

pub fill_count : (k n : ℕ) (s : System) → length (fill_line k n s).processors ≡ length s.processors
fill_count k n s =
    change_count (λ p. record p { lines = p.lines ++ fresh_line (make_room k s).memory n p.era ∷ [] }) k (make_room k s) (slice_get (make_room k s).processors k) ∙ one (oldest_of_full 64 (lines_of s k))
  where
    one : (o : Option CacheLine)
        → length (option_map_or (λ l. change (with_lines (without_line l.number)) k (record s { memory = write_back s.memory l })) o s).processors ≡ length s.processors
    one None = refl
    one (Some l) = change_count (with_lines (without_line l.number)) k (record s { memory = write_back s.memory l }) (slice_get s.processors k)
