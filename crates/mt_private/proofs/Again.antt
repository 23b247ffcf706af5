-- A whole update of a processor that left one before: it is as if it had not been there.
use Rattle.std.proofs.Common.{◌≡◌, ◌∙◌, ap, sym, refl, arith, List, [], ◌∷◌, length, ⊎_elim}
use Rattle.std.specs.List.{fold}
use Rattle.mt_regs.specs.RegisterFile.{RegisterFile}
use Rattle.mt_machine.specs.declared.phase.Phase.TheVariants.{Running}
use Rattle.mt_machine.specs.Memory.{Memory}
use Rattle.mt_machine.specs.System.{Processor, System, buffers_of, change}
use Rattle.mt_machine.specs.Bus.{drain, empty_buffer, with_buffers}
use Rattle.mt_machine.specs.Machine.{Machine}
use Rattle.mt_machine.specs.Update.{updated}
use Rattle.mt_laws.specs.Updates.{all_taken}
use Rattle.mt_laws.proofs.Updates.ToBroadcast.{updated_from_broadcast}
use Rattle.mt_private.specs.YardCalls.{IsLeft, in_phase, updated_own}

-- its buffers, once emptied, are empty, whatever its phase
same_taken : (ps : List Processor) (m : Memory) → length (in_phase Running (change (with_buffers (λ _. [])) 0 (record { processors = ps; memory = m }))).processors ≡ 1
    → all_taken (drain 0 (in_phase Running (change (with_buffers (λ _. [])) 0 (record { processors = ps; memory = m })))) ≡ all_taken (change (with_buffers (λ _. [])) 0 (record { processors = ps; memory = m }))
same_taken [] m one = absurd (omega arith)
same_taken (p ∷ []) m one = refl
same_taken (p ∷ q ∷ ps) m one = absurd (omega arith)

pub updated_left_own : (goal : RegisterFile) (first own : System) → length own.processors ≡ 1 → IsLeft first own → updated_own goal own ≡ updated_own goal first
updated_left_own goal first own one left =
    ⊎_elim
    (λ (e : own ≡ first). ap (updated_own goal) e)
    (λ (e : own ≡ in_phase Running (drain 0 first)).
    let u : System = fold empty_buffer first (buffers_of first 0) in
    ap (updated_own goal) e
    ∙ ap (λ (m : Machine). m.system) (sym (updated_from_broadcast (in_phase Running (drain 0 first)) (0 ∷ []) goal).from_taken
    ∙ ap (λ (t : System). updated t [] goal) (same_taken u.processors u.memory (sym (ap (λ (s : System). length s.processors) e) ∙ one))
    ∙ (updated_from_broadcast (drain 0 first) [] goal).from_taken
    ∙ (updated_from_broadcast first (0 ∷ []) goal).from_emptied))
    left
