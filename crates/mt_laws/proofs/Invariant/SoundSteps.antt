-- An access, a control instruction and a drain keep every sound system sound, whatever phases its processors are in.
use Rattle.std.proofs.Common.{◌≡◌, ℕ, zero, suc, ◌<◌, List, [], ◌∷◌, length, Some, None, Option, Bool, true, false, refl, sym, ap, subst, ◌∙◌}
use Rattle.std.specs.Prelude.{slice_get, map}
use Rattle.mt_regs.specs.RegisterFile.{RegisterFile, IsRegisterFile}
use Rattle.mt_regs.specs.Registers.{writable}
use Rattle.mt_tlb.specs.declared.entry.Entry.{Entry}
use Rattle.mt_machine.specs.declared.phase.Phase.{Phase}
use Rattle.mt_machine.specs.Memory.{Window}
use Rattle.mt_machine.specs.System.{Processor, System, IsSound, is_tlb_flushed, is_writing}
use Rattle.mt_machine.specs.Bus.{drain}
use Rattle.mt_machine.specs.Access.{access, is_running, Answered}
use Rattle.mt_machine.specs.Control.{control, RuledAfter}
use Rattle.mt_machine.specs.Machine.{Machine}
use Rattle.mt_laws.specs.Sound.{AccessKeepsSound, ControlKeepsSound, DrainKeepsSound}
use Rattle.mt_laws.proofs.Words.MemoryLaws.{AllAligned}
use Rattle.mt_laws.proofs.Barrier.Acting.{access_busy, control_busy}
use Rattle.mt_laws.proofs.Clearing.Cleared.{none_of, none_passes}
use Rattle.mt_laws.proofs.Translations.Views.{drain_views}
use Rattle.mt_laws.proofs.Clearing.Follows.{Follows, follows_access, follows_control, follows_drain}
use Rattle.mt_laws.proofs.Registers.Accepted.{accepted_follows}
use Rattle.mt_laws.proofs.Words.BusLaws.{stands_drain, drain_word}
use Rattle.mt_laws.proofs.Words.WordLaws.{access_stands, access_word}
use Rattle.mt_laws.proofs.Words.ControlLaws.{control_stands, control_word}
use Rattle.mt_laws.proofs.Translations.Tidy.{AllTidy, tidy_access, tidy_drain}
use Rattle.mt_laws.proofs.Translations.TidySteps.{tidy_control}
use Rattle.mt_laws.proofs.Words.Agreement.{Agrees}
use Rattle.mt_laws.proofs.Words.Sound.{aligned_all}
use Rattle.mt_laws.proofs.Invariant.Parts.{Parts, IsFlushed, flushed_runs, parts_sound, sound_parts, memory_of}

abbrev quiet : System → Machine
quiet s = record { system = s; order = None }

-- ---- what has flushed its TLB holds no entry still

abbrev AllFlushed : System → Type 0
AllFlushed s = (i : ℕ) (p : Processor) → slice_get s.processors i ≡ Some p → IsFlushed p

-- a step of a processor that runs, or one that changes nothing
flushed_follows : (k : ℕ) (s t : System) → Follows k s t → ((p : Processor) → slice_get s.processors k ≡ Some p → is_running p.phase ≡ true) → AllFlushed s → AllFlushed t
flushed_follows k s t follows runs all j q at h =
    let from = follows j q at in
    let p : Processor = from.0 in
    let there : is_tlb_flushed p.phase ≡ true = ap is_tlb_flushed (sym from.2.phase) ∙ h in
    none_of q.entries
    (from.2.entries (λ _. false)
    (λ mine. absurd (let off : is_tlb_flushed p.phase ≡ false = flushed_runs p.phase (runs p (subst (λ (i : ℕ). slice_get s.processors i ≡ Some p) mine from.1)) in cc))
    (none_passes (λ (e : Entry). false) p.entries (all j p from.1 there)))

-- one that answers busy changes nothing
flushed_step : (k : ℕ) (s t : System) → Follows k s t → (((p : Processor) → slice_get s.processors k ≡ Some p → is_running p.phase ≡ false) → t ≡ s) → AllFlushed s → AllFlushed t
flushed_step k s t follows busy all = one (slice_get s.processors k) refl
  where
    still : ((p : Processor) → slice_get s.processors k ≡ Some p → is_running p.phase ≡ false) → AllFlushed t
    still rests = subst AllFlushed (sym (busy rests)) all

    at_phase : (p : Processor) → slice_get s.processors k ≡ Some p → (b : Bool) → is_running p.phase ≡ b → AllFlushed t
    at_phase p at true runs = flushed_follows k s t follows (λ q at_q. let e : Some p ≡ Some q = sym at ∙ at_q in let same : p ≡ q = cc in ap (λ (r : Processor). is_running r.phase) (sym same) ∙ runs) all
    at_phase p at false rests = still (λ q at_q. let e : Some p ≡ Some q = sym at ∙ at_q in let same : p ≡ q = cc in ap (λ (r : Processor). is_running r.phase) (sym same) ∙ rests)

    one : (v : Option Processor) → slice_get s.processors k ≡ v → AllFlushed t
    one None at = still (λ q at_q. absurd (cc))
    one (Some p) at = at_phase p at (is_running p.phase) refl

-- a drain leaves phases and entries
abbrev Held : Type 0
Held = Phase × List Entry

abbrev held : Processor → Held
held p = (p.phase, p.entries)

flushed_drain : (k : ℕ) (s : System) → AllFlushed s → AllFlushed (drain k s)
flushed_drain k s all = one s.processors (drain k s).processors (sym (drain_views Held held (λ f p. refl) (λ f p. refl) k s)) all
  where
    one : (ps qs : List Processor) → map held ps ≡ map held qs → ((i : ℕ) (p : Processor) → slice_get ps i ≡ Some p → IsFlushed p) → (i : ℕ) (p : Processor) → slice_get qs i ≡ Some p → IsFlushed p
    one [] [] same all i p at = absurd (cc)
    one [] (q ∷ qs) same all i p at = absurd (cc)
    one (p ∷ ps) [] same all i r at = absurd (cc)
    one (p ∷ ps) (q ∷ qs) same all zero r at =
        let e : q ≡ r = cc in
        let first : held p ≡ held q = cc in
        subst IsFlushed e (subst (λ (v : Held). is_tlb_flushed v.0 ≡ true → v.1 ≡ []) first (all 0 p refl))
    one (p ∷ ps) (q ∷ qs) same all (suc i) r at = one ps qs (cc) (λ j x at_x. all (suc j) x at_x) i r at

-- the parts after a step that keeps files and phases
after_parts : (ws : List Window) (k : ℕ) (s t : System) → Follows k s t → Agrees ws (quiet t) → AllTidy t.processors → AllFlushed t → Parts ws s → Parts ws t
after_parts ws k s t follows agrees tidy flushed parts = record {
  agrees = agrees;
  tidy = tidy;
  files = λ j q at. let from = follows j q at in subst IsRegisterFile (sym from.2.file) (parts.files j from.0 from.1);
  accepted = accepted_follows k s.processors t.processors follows parts.accepted;
  ranges = λ j q at i h. let from = follows j q at in subst (λ (f : RegisterFile). i < length (writable f)) (sym from.2.file) (parts.ranges j from.0 from.1 i (ap is_writing (sym from.2.phase) ∙ h));
  local = λ j q at. let from = follows j q at in from.2.local (parts.local j from.0 from.1);
  flushed = flushed;
}

kept_sound : (k : ℕ) (s t : System) → IsSound s → Follows k s t → Agrees s.memory.windows (quiet t) → AllTidy t.processors → AllFlushed t → IsSound t
kept_sound k s t h follows agrees tidy flushed =
    parts_sound s.memory.windows t (after_parts s.memory.windows k s t follows agrees tidy flushed (sound_parts s h))
    (memory_of s.memory t.memory agrees.stands.memory.windows agrees.stands.memory.counted h.memory)

aligned_of : (s : System) → IsSound s → AllAligned s.memory.windows
aligned_of s h = aligned_all s.memory.windows h.memory.aligned

pub access_keeps_sound : AccessKeepsSound
access_keeps_sound s k op h =
    let ws : List Window = s.memory.windows in
    let al = aligned_of s h in
    let parts = sound_parts s h in
    kept_sound k s (access s k op).after h (follows_access s k op)
    (record {
      stands = access_stands ws al s k op parts.agrees.stands;
      words = λ a whole. let w = parts.agrees.words a whole in let r = access_word ws al (quiet s) k op true a w.0 whole parts.agrees.stands (λ e. absurd (cc)) w.1 in (r.0, r.2);
    })
    (tidy_access s k op parts.tidy)
    (flushed_step k s (access s k op).after (follows_access s k op) (λ rests. ap (λ (a : Answered). a.after) (access_busy s k rests op)) parts.flushed)

pub control_keeps_sound : ControlKeepsSound
control_keeps_sound s k c h fits =
    let ws : List Window = s.memory.windows in
    let al = aligned_of s h in
    let parts = sound_parts s h in
    kept_sound k s (control s k c).after h (follows_control s k c)
    (record {
      stands = control_stands ws al s k c parts.agrees.stands;
      words = λ a whole. let w = parts.agrees.words a whole in let r = control_word ws al s k c true a w.0 whole parts.agrees.stands w.1 in (r.0, r.2);
    })
    (tidy_control s k c fits parts.tidy)
    (flushed_step k s (control s k c).after (follows_control s k c) (λ rests. ap (λ (a : RuledAfter). a.after) (control_busy s k rests c)) parts.flushed)

pub drain_keeps_sound : DrainKeepsSound
drain_keeps_sound s k h =
    let ws : List Window = s.memory.windows in
    let al = aligned_of s h in
    let parts = sound_parts s h in
    kept_sound k s (drain k s) h (follows_drain k s)
    (record {
      stands = stands_drain ws al k s parts.agrees.stands;
      words = λ a whole. let w = parts.agrees.words a whole in let r = drain_word ws al true a w.0 k s whole parts.agrees.stands w.1 in (r.0, r.2);
    })
    (tidy_drain k s parts.tidy)
    (flushed_drain k s parts.flushed)
