-- A processor without buffers stays as it is.
use Rattle.std.proofs.Common.{◌≡◌, ◌∙◌, ap, sym, ℕ, ◌<◌, List, [], length, Option, Some, slice_get, slice_set}
use Rattle.std.proofs.lemmas.List.{nil_from_length, set-get_or}
use Rattle.std.proofs.lemmas.Option.{get_or_from_slice_get}
use Rattle.std.specs.List.{fold}
use Rattle.std.specs.Option.{option_map_or}
use Rattle.mt_cache.specs.declared.line.CacheLine.{CacheLine}
use Rattle.mt_machine.specs.Memory.{Memory}
use Rattle.mt_machine.specs.System.{Processor, System, buffers_of, change}
use Rattle.mt_machine.specs.Bus.{drain, empty_buffer, with_buffers}
use Rattle.mt_laws.proofs.Words.AccessLaws.{change_at}
use Rattle.mt_laws.specs.Parts.{buffers_in, system}
use Rattle.mt_bus.proofs.Changed.{processor_of}

pub no_buffers : (ps : List Processor) (m : Memory) (k count : ℕ) → k < length ps → count ≡ length (buffers_in k ps) → count ≡ 0 → system ps m ≡ drain k (system ps m)
no_buffers ps m k count within counted none =
    sym
    (ap (λ (bs : List CacheLine). change (with_buffers (λ _. [])) k (fold empty_buffer (system ps m) bs)) empty
    ∙ change_at (with_buffers (λ _. [])) k (system ps m) p at
    ∙ ap (λ (q : Processor). system (slice_set ps k q) m) (ap (λ (bs : List CacheLine). record p { buffers = bs }) (sym own) ∙ sym (get_or_from_slice_get ps k p p at))
    ∙ ap (λ xs. system xs m) (set-get_or ps k p))
  where
    p : Processor
    p = (processor_of ps k within).0

    at : slice_get ps k ≡ Some p
    at = (processor_of ps k within).1

    empty : buffers_in k ps ≡ []
    empty = nil_from_length (buffers_in k ps) (sym counted ∙ none)

    own : p.buffers ≡ []
    own = sym (ap (λ (o : Option Processor). option_map_or (λ (x : Processor). x.buffers) o []) at) ∙ empty
