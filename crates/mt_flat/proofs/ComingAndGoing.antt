-- Processors that come up and go keep a system and a flat machine alike.
use Rattle.std.proofs.Common.{◌≡◌, ℕ, zero, suc, ◌<◌, List, [], ◌∷◌, ◌++◌, length, take, Some, None, Option, refl, sym, ap, ◌∙◌, arith, eq-eqb}
use Rattle.std.specs.Prelude.{if◌then◌else◌, map, slice_get}
use Rattle.std.specs.Option.{option_map_or, option_or}
use Rattle.std.specs.List.{fold}
use Rattle.mt_machine.specs.Memory.{Window, word_at}
use Rattle.mt_machine.specs.System.{Processor, System, dirty_word, dirty_word_in}
use Rattle.mt_machine.specs.Bus.{drain}
use Rattle.mt_machine.specs.ComingAndGoing.{last_number, newcomer_beside, with_newcomer}
use Rattle.mt_laws.proofs.Invariant.Coming.{reset_stays_quiet}
use Rattle.mt_laws.proofs.Invariant.Going.{drained_number, gone_keeps_words, last_is}
use Rattle.mt_laws.proofs.Words.Sound.{now_is}
use Rattle.mt_flat.specs.Flat.{PendingLine, empty_all, set_words}
use Rattle.mt_flat.specs.Seen.{IsFlatOf, written_of}
use Rattle.mt_flat.specs.ComingAndGoing.{AdmittedIsFlat, GoneKeepsFlat, NewcomersKeepFlat}
use Rattle.mt_flat.proofs.Emptying.{Same, same_drain}
use Rattle.mt_flat.proofs.Seeing.{aligned_in, same_of}
use Rattle.mt_flat.proofs.Updating.{updated_is_flat}

-- ---- a newcomer holds nothing

more_dirty : (ps : List Processor) (p : Processor) (a : ℕ) → dirty_word_in (ps ++ newcomer_beside p ∷ []) a ≡ dirty_word_in ps a
more_dirty [] p a = refl
more_dirty (q ∷ ps) p a = ap (option_or (dirty_word q.lines a)) (more_dirty ps p a)

abbrev shown : Option Processor → List PendingLine
shown o = map written_of (option_map_or (λ p. p.buffers) o [])

more_shown : (ps : List Processor) (p : Processor) (k : ℕ) → shown (slice_get ps k) ≡ shown (slice_get (ps ++ newcomer_beside p ∷ []) k)
more_shown [] p zero = refl
more_shown [] p (suc k) = refl
more_shown (q ∷ ps) p zero = refl
more_shown (q ∷ ps) p (suc k) = more_shown ps p k

pub newcomers_keep_flat : NewcomersKeepFlat
newcomers_keep_flat s f r = one (slice_get s.processors 0)
  where
    one : (o : Option Processor) → IsFlatOf (option_map_or (λ p. record s { processors = s.processors ++ newcomer_beside p ∷ [] }) o s) f
    one None = r
    one (Some p) = record {
      values = λ a whole. ap (λ (o : Option ℕ). option_map_or (λ v. v) o (word_at s.memory a)) (more_dirty s.processors p a) ∙ r.values a whole;
      pending = λ k. r.pending k ∙ more_shown s.processors p k;
    }

pub admitted_is_flat : AdmittedIsFlat
admitted_is_flat m f goal ks quiet enabled once r =
    updated_is_flat (with_newcomer m) f goal ks (reset_stays_quiet m quiet) enabled once (newcomers_keep_flat m.system f r)

-- ---- the last goes once its buffers are emptied

-- so the others' are all that there are
front_shown : (ps : List Processor) (k j : ℕ) → length ps ≡ suc k → shown (slice_get ps k) ≡ [] → shown (slice_get ps j) ≡ shown (slice_get (take k ps) j)
front_shown [] k j long none = absurd (omega (arith, long))
front_shown (p ∷ ps) zero zero long none = none
front_shown (p ∷ []) zero (suc j) long none = refl
front_shown (p ∷ q ∷ ps) zero (suc j) long none = absurd (omega (arith, long))
front_shown (p ∷ ps) (suc k) zero long none = refl
front_shown (p ∷ ps) (suc k) (suc j) long none = front_shown ps k j (omega (arith, long)) none

pub gone_keeps_flat : GoneKeepsFlat
gone_keeps_flat s f some h r =
    let ws : List Window = s.memory.windows in
    let k : ℕ = last_number s in
    let d : Same ws (drain k s) (empty_all k f) = same_drain ws (aligned_in s h) k s f (last_is s.processors k (omega (arith, some))) (same_of s f h r) in
    let none : (empty_all k f).pending k ≡ [] = ap (λ c. if c then [] else (fold set_words f (f.pending k)).pending k) (eq-eqb k k refl) in
    record {
      values = λ a whole. gone_keeps_words s a some h whole ∙ now_is ws (drain k s) a ((empty_all k f).values a) d.stands (d.values a whole);
      pending = λ j. d.pending j ∙ front_shown (drain k s).processors k j (long s some) (sym (d.pending k) ∙ none);
    }
  where
    long : (s : System) → 0 < length s.processors → length (drain (last_number s) s).processors ≡ suc (last_number s)
    long s some = let n = drained_number (last_number s) s in omega (arith, n, some)
