-- All that the laws keep, as one invariant: each event keeps it, and each start has it.
use Rattle.std.proofs.Common.{◌≡◌, ℕ, ◌<◌, List, length, Some, None, Option, true, false, refl, sym, ap, subst, ⊎_elim}
use Rattle.std.specs.Prelude.{slice_get}
use Rattle.mt_regs.specs.RegisterFile.{RegisterFile, IsRegisterFile}
use Rattle.mt_regs.specs.Registers.{writable}
use Rattle.mt_machine.specs.declared.phase.Phase.{Phase}
use Rattle.mt_machine.specs.declared.phase.Phase.TheVariants.{Running, Taken, Arrived, Passed, NoFill, Flushed}
use Rattle.mt_machine.specs.Memory.{Window, IsMemory}
use Rattle.mt_machine.specs.System.{Processor, IsProcessor, IsSound, is_tlb_flushed, is_writing}
use Rattle.mt_machine.specs.Access.{is_running}
use Rattle.mt_machine.specs.Machine.{Machine, Order, MachineEvent, IsEnabled, next, Reached, at_start, after}
use Rattle.mt_machine.specs.Start.{IsQuiet, IsBroadcast, IsStart}
use Rattle.mt_laws.specs.Sound.{StaysSound}
use Rattle.mt_laws.proofs.Barrier.Ranks.{stage_at}
use Rattle.mt_laws.proofs.Barrier.Stages.{stage_of, stages}
use Rattle.mt_laws.proofs.Barrier.Barriers.{Kept}
use Rattle.mt_laws.proofs.Barrier.Claims.{all_get}
use Rattle.mt_laws.proofs.Clearing.Follows.{IsLocal}
use Rattle.mt_laws.proofs.Clearing.Cleared.{entries_gone}
use Rattle.mt_laws.proofs.Clearing.Renewed.{AllClear}
use Rattle.mt_laws.proofs.Clearing.Late.{IsKept, kept_next, start_kept}
use Rattle.mt_machine.proofs.Files.{file_alike}
use Rattle.mt_laws.proofs.Registers.Filed.{AllFiled, filed_next}
use Rattle.mt_laws.proofs.Registers.Settled.{start_filed}
use Rattle.mt_laws.proofs.Words.MemoryLaws.{AllAligned}
use Rattle.mt_laws.proofs.Words.Agreement.{Agrees, agrees_next}
use Rattle.mt_laws.proofs.Words.Sound.{sound_agrees}
use Rattle.mt_laws.proofs.Invariant.Kept.{start_sound, start_aligned}
use Rattle.mt_laws.proofs.Translations.Tidy.{AllTidy}
use Rattle.mt_laws.proofs.Translations.TidySteps.{tidy_next}
use Rattle.mt_laws.proofs.Registers.Accepted.{GoalAccepted, Accepted, accepted_next}
use Rattle.mt_laws.proofs.Invariant.Parts.{Parts, IsFlushed, flushed_runs, part_processor, parts_sound, sound_tidy, memory_of}

pub record Standing (ws : List Window) (m : Machine) : Type 0 where
  pub kept : IsKept m
  pub filed : AllFiled m.order m.system.processors
  pub accepted : Accepted m
  pub tidy : AllTidy m.system.processors
  pub agrees : Agrees ws m

pub standing_next : (ws : List Window) → AllAligned ws → (m : Machine) (e : MachineEvent) → IsEnabled m e → Standing ws m → Standing ws (next m e)
standing_next ws aligned m e enabled s = record {
  kept = kept_next m e enabled s.kept;
  filed = filed_next e m.system m.order enabled s.kept.0 s.filed;
  accepted = accepted_next m e enabled s.kept.0 s.filed s.accepted;
  tidy = tidy_next m e enabled s.tidy;
  agrees = agrees_next ws aligned m e enabled s.agrees;
}

-- ---- each start has it

start_accepted : (m : Machine) → IsStart m → Accepted m
start_accepted m s = record {
  goal = ⊎_elim (λ (q : IsQuiet m). subst GoalAccepted (sym q.no_order) tt) (λ (b : (o : Order) × IsBroadcast m o). subst GoalAccepted (sym b.1.order) b.1.goal_accepted) s;
  each = λ i p at. (all_get IsProcessor m.system.processors (start_sound m s).each i p at).accepted;
}

pub start_standing : (m : Machine) → IsStart m → Standing m.system.memory.windows m
start_standing m s = record {
  kept = start_kept m s;
  filed = start_filed m s;
  accepted = start_accepted m s;
  tidy = sound_tidy m.system (start_sound m s);
  agrees = sound_agrees m (start_sound m s);
}

pub reached_standing : (ws : List Window) → AllAligned ws → {s t : Machine} → Reached s t → Standing ws s → Standing ws t
reached_standing ws aligned at_start g = g
reached_standing ws aligned (after e r enabled) g = standing_next ws aligned _ e enabled (reached_standing ws aligned r g)

-- ---- where it holds, the system is sound

running_writes_not : (ph : Phase) → is_running ph ≡ true → is_writing ph ≡ None
running_writes_not Running h = refl
running_writes_not other h = absurd (cc)

flushed_gone : (ph : Phase) → is_tlb_flushed ph ≡ true → entries_gone ph ≡ true
flushed_gone Running h = absurd (cc)
flushed_gone Taken h = absurd (cc)
flushed_gone Arrived h = absurd (cc)
flushed_gone Passed h = absurd (cc)
flushed_gone NoFill h = absurd (cc)
flushed_gone Flushed h = absurd (cc)
flushed_gone other h = refl

same_writable : (f g : RegisterFile) → f.capabilities ≡ g.capabilities → writable f ≡ writable g
same_writable f g same = ap (λ (c : ℕ). writable (record f { capabilities = c })) same

module _ (ws : List Window) (m : Machine) (st : Standing ws m) where
  file_in : (o : Option Order) → AllFiled o m.system.processors → (i : ℕ) (p : Processor) → slice_get m.system.processors i ≡ Some p → IsRegisterFile p.file
  file_in None all i p at = all i p at
  file_in (Some o) all i p at = file_alike o.goal p.file all.0 (all.1 i p at).alike

  range_in : (o : Option Order) → Kept o (stages m.system) → AllFiled o m.system.processors → (i : ℕ) (p : Processor) → slice_get m.system.processors i ≡ Some p → (j : ℕ) → is_writing p.phase ≡ Some j → j < length (writable p.file)
  range_in None kept all i p at j h = absurd (let off : is_writing p.phase ≡ None = running_writes_not p.phase (kept.running i (stage_of p) (stage_at m.system.processors i p at)) in cc)
  range_in (Some o) kept all i p at j h =
      let fd = all.1 i p at in
      let low : j < length (writable o.goal) = (fd.writing j h).0 in
      subst (λ (n : ℕ). j < n) (ap length (sym (same_writable p.file o.goal fd.alike.capabilities))) low

  local_in : (o : Option Order) → AllClear o m.system.processors → (i : ℕ) (p : Processor) → slice_get m.system.processors i ≡ Some p → IsLocal p
  local_in None all i p at = all i p at
  local_in (Some o) all i p at = (all i p at).local

  flushed_in : (o : Option Order) → Kept o (stages m.system) → AllClear o m.system.processors → (i : ℕ) (p : Processor) → slice_get m.system.processors i ≡ Some p → IsFlushed p
  flushed_in None kept all i p at h = absurd (let off : is_tlb_flushed p.phase ≡ false = flushed_runs p.phase (kept.running i (stage_of p) (stage_at m.system.processors i p at)) in cc)
  flushed_in (Some o) kept all i p at h = (all i p at).no_entries (flushed_gone p.phase h)

  parts_of : Parts ws m.system
  parts_of = record {
    agrees = record { stands = st.agrees.stands; words = st.agrees.words };
    tidy = st.tidy;
    files = file_in m.order st.filed;
    accepted = st.accepted.each;
    ranges = range_in m.order st.kept.0 st.filed;
    local = local_in m.order st.kept.1;
    flushed = flushed_in m.order st.kept.0 st.kept.1;
  }

  pub processor_in : (i : ℕ) (p : Processor) → slice_get m.system.processors i ≡ Some p → IsProcessor p
  processor_in = part_processor ws m.system parts_of

  pub standing_sound : IsMemory m.system.memory → IsSound m.system
  standing_sound memory = parts_sound ws m.system parts_of memory

pub stays_sound : StaysSound
stays_sound s m start r =
    let ws = s.system.memory.windows in
    let first = (start_sound s start).memory in
    let st = reached_standing ws (start_aligned s start) r (start_standing s start) in
    standing_sound ws m st (memory_of s.system.memory m.system.memory st.agrees.stands.memory.windows st.agrees.stands.memory.counted first)
