-- What the emptying of a buffer leaves alone.
use Rattle.std.proofs.Common.{◌≡◌, ◌∙◌, refl, ℕ, zero, suc, List, [], ◌∷◌, map}
use Rattle.mt_cache.specs.declared.line.CacheLine.{CacheLine}
use Rattle.mt_cache.specs.Lines.{change_line, clean_line, without_line}
use Rattle.mt_machine.specs.System.{Processor, System, buffers_of}
use Rattle.mt_machine.specs.Bus.{empty_buffer, with_lines}
use Rattle.mt_laws.specs.Parts.{buffers_in}

kept_by_map : (f : List CacheLine → List CacheLine) (ps : List Processor) (k : ℕ) → buffers_in k (map (with_lines f) ps) ≡ buffers_in k ps
kept_by_map f [] k = refl
kept_by_map f (p ∷ ps) zero = refl
kept_by_map f (p ∷ ps) (suc k) = kept_by_map f ps k

pub kept_buffers : (s : System) (b : CacheLine) (k : ℕ) → buffers_of (empty_buffer s b) k ≡ buffers_of s k
kept_buffers s b k =
    kept_by_map (without_line b.number) (map (with_lines (change_line b.number clean_line)) s.processors) k
    ∙ kept_by_map (change_line b.number clean_line) s.processors k
