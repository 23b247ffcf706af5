-- The words that a whole update leaves.
use Rattle.std.proofs.Common.{◌≡◌, ℕ, List, [], ◌∷◌, Option, Some, None, refl, sym, ap, ◌∙◌}
use Rattle.std.specs.Prelude.{slice_index}
use Rattle.std.specs.Option.{option_map_or}
use Rattle.mt_machine.specs.Memory.{place, word_at}
use Rattle.mt_machine.specs.System.{System, IsSound, now}
use Rattle.mt_machine.specs.Bus.{drain}
use Rattle.mt_machine.specs.Update.{emptied, updated}
use Rattle.mt_laws.specs.Updates.{UpdatedWords}
use Rattle.mt_laws.proofs.Invariant.SoundSteps.{drain_keeps_sound}
use Rattle.mt_laws.proofs.Updates.Addresses.{word_of_words}
use Rattle.mt_laws.proofs.Updates.ToBroadcast.{emptied_windows}
use Rattle.mt_laws.proofs.Words.Places.{place_same}
use Rattle.mt_laws.proofs.Words.Sound.{aligned_all, no_word, now_is, sound_agrees}

emptied_sound : (ks : List ℕ) (s : System) → IsSound s → IsSound (emptied s ks)
emptied_sound [] s sound = sound
emptied_sound (k ∷ ks) s sound = emptied_sound ks (drain k s) (drain_keeps_sound s k sound)

pub updated_words : UpdatedWords
updated_words s goal ks a sound whole = one (place s.memory a) refl
  where
    t : System
    t = emptied s ks

    there : IsSound t
    there = emptied_sound ks s sound

    one : (o : Option ℕ) → place s.memory a ≡ o → word_at (updated s ks goal).system.memory a ≡ now t a
    one (Some i) at = word_of_words s.memory (now t) sound.memory a i whole at
    one None at =
        let agrees = sound_agrees (record { system = t; order = None }) there in
        let x = agrees.words a whole in
        let none : place t.memory a ≡ None = place_same t.memory s.memory a (emptied_windows ks s) ∙ at in
        ap (λ (o : Option ℕ). option_map_or (λ i. slice_index (updated s ks goal).system.memory.words i) o 0) at
        ∙ sym (no_word t.memory.windows (aligned_all t.memory.windows there.memory.aligned) t a x.0 agrees.stands whole none x.1)
        ∙ sym (now_is t.memory.windows t a x.0 agrees.stands x.1)
