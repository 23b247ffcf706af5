-- Coherence and the words' values, from each start on.
use Rattle.std.proofs.Common.{◌≡◌, ◌≢◌, List, true, false, refl, sym, ◌∙◌, ⊎_elim, ℕ, ◌%◌, Some, None, Option, ap, subst}
use Rattle.mt_machine.specs.declared.event.Event.{Event}
use Rattle.mt_machine.specs.declared.event.Event.TheVariants.{Take}
use Rattle.mt_machine.specs.Memory.{Window}
use Rattle.mt_machine.specs.System.{IsSound, System, now}
use Rattle.mt_machine.specs.Machine.{Machine, Order, Steps, next, Reached, at_start, after, MachineEvent, Accesses, Controls, Calls, Goes, Cancels, IsEnabled}
use Rattle.mt_machine.specs.Start.{IsQuiet, IsBroadcast, IsStart}
use Rattle.mt_laws.specs.Sound.{StaysCoherent}
use Rattle.mt_laws.specs.Kept.{StepsKeepNow, is_of_update, is_take_step}
use Rattle.mt_laws.proofs.Words.MemoryLaws.{AllAligned}
use Rattle.mt_laws.proofs.Clearing.Renewed.{is_take}
use Rattle.mt_laws.proofs.Words.Agreement.{Agrees, agrees_next, stands_next, step_keeps_word}
use Rattle.mt_laws.proofs.Words.Sound.{aligned_all, sound_agrees, agrees_coherent, now_is}

pub start_sound : (m : Machine) → IsStart m → IsSound m.system
start_sound m s = ⊎_elim (λ (q : IsQuiet m). q.sound) (λ (b : (o : Order) × IsBroadcast m o). b.1.sound) s

pub start_aligned : (m : Machine) → IsStart m → AllAligned m.system.memory.windows
start_aligned m s = aligned_all m.system.memory.windows (start_sound m s).memory.aligned

pub reached_agrees : (ws : List Window) → AllAligned ws → {s t : Machine} → Reached s t → Agrees ws s → Agrees ws t
reached_agrees ws aligned at_start g = g
reached_agrees ws aligned (after e r enabled) g = agrees_next ws aligned _ e enabled (reached_agrees ws aligned r g)

pub agrees : (s m : Machine) → IsStart s → Reached s m → Agrees s.system.memory.windows m
agrees s m start r = reached_agrees s.system.memory.windows (start_aligned s start) r (sound_agrees s (start_sound s start))

pub stays_coherent : StaysCoherent
stays_coherent s m start r = agrees_coherent s.system.memory.windows m (agrees s m start r)

unchanged : (s : System) (o : Option Order) (e : MachineEvent) (a : ℕ) → is_of_update e ≡ true → ((k : ℕ) (w : Event) → e ≡ Steps k w → now (next (record { system = s; order = o }) e).system a ≡ now s a) → now (next (record { system = s; order = o }) e).system a ≡ now s a
unchanged s o (Accesses k op) a is step = absurd (cc)
unchanged s o (Controls k c) a is step = absurd (cc)
unchanged s o (Calls goal) a is step = refl
unchanged s None Goes a is step = refl
unchanged s (Some o) Goes a is step = refl
unchanged s None Cancels a is step = refl
unchanged s (Some o) Cancels a is step = refl
unchanged s o (Steps k w) a is step = step k w refl

not_take : (e : Event) → e ≢ Take → is_take e ≡ false
unfolding is_take
not_take Take h = absurd (h refl)
not_take other h = refl

one_step_keeps : (ws : List Window) → AllAligned ws → (m : Machine) (k : ℕ) (e : Event) (a : ℕ) → Agrees ws m → IsEnabled m (Steps k e) → e ≢ Take → a % 8 ≡ 0 → now (next m (Steps k e)).system a ≡ now m.system a
one_step_keeps ws aligned m k e a g enabled apart whole =
    let w = g.words a whole in
    now_is ws (next m (Steps k e)).system a w.0 (stands_next ws aligned m (Steps k e) enabled g.stands) (step_keeps_word ws aligned m k e enabled (not_take e apart) g.stands true a w.0 whole w.1)
    ∙ sym (now_is ws m.system a w.0 g.stands w.1)

pub keeps_now : (ws : List Window) → AllAligned ws → (m : Machine) (e : MachineEvent) (a : ℕ) → Agrees ws m → IsEnabled m e → is_of_update e ≡ true → is_take_step e ≡ false → a % 8 ≡ 0
    → now (next m e).system a ≡ now m.system a
keeps_now ws aligned m e a g enabled is quiet whole =
    unchanged m.system m.order e a is
    (λ k w same.
    let there : IsEnabled m (Steps k w) = subst (IsEnabled m) same enabled in
    ap (λ (v : MachineEvent). now (next m v).system a) same
    ∙ one_step_keeps ws aligned m k w a g there (λ take. absurd (let on : is_take_step (Steps k w) ≡ true = ap (λ (v : Event). is_take_step (Steps k v)) take in let off : is_take_step (Steps k w) ≡ false = ap is_take_step (sym same) ∙ quiet in cc)) whole)

pub steps_keep_now : StepsKeepNow
steps_keep_now s m e a start r = keeps_now s.system.memory.windows (start_aligned s start) m e a (agrees s m start r)
