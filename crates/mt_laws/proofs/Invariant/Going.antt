-- The last processor goes: what is sound or quiet stays so, each word keeps its value, and the others stand.
use Rattle.std.proofs.Common.{◌≡◌, ◌⊎◌, ℕ, zero, suc, ◌%◌, ◌-◌, ◌<◌, ◌≤◌, ◌==◌, List, [], ◌∷◌, length, take, Some, None, Option, Bool, true, false, refl, sym, ap, subst, ◌∙◌, arith, inl, inr, ⊎_elim}
use Rattle.std.specs.Prelude.{slice_get, if◌then◌else◌}
use Rattle.std.specs.List.{All, fold, list_all}
use Rattle.std.specs.Option.{option_map_or, option_map}
use Rattle.std.proofs.lemmas.Bool.{eqb-true, eqb-false}
use Rattle.std.proofs.lemmas.List.{length-map, take-map}
use Rattle.mt_cache.specs.declared.line.CacheLine.{CacheLine}
use Rattle.mt_cache.specs.Lines.{find_line}
use Rattle.mt_machine.specs.Memory.{Memory, Window, line_of, word_at, word_count, write_back}
use Rattle.mt_machine.specs.System.{Processor, System, IsSound, lines_of, now}
use Rattle.mt_machine.specs.Bus.{drain}
use Rattle.mt_machine.specs.Access.{is_running}
use Rattle.mt_machine.specs.Machine.{FitsGoal, common_era}
use Rattle.mt_machine.specs.ComingAndGoing.{gone, last_number, taken_away}
use Rattle.mt_laws.specs.ComingAndGoing.{GoneKeepsWords, GoneStaysFresh, GoneStaysQuiet, GoneStaysSound, OthersStand, uncached}
use Rattle.mt_laws.proofs.Barrier.Claims.{all_get, all_of}
use Rattle.mt_laws.proofs.Barrier.Ranks.{and_left, and_right}
use Rattle.mt_laws.proofs.Barrier.Stages.{drain_stages, stage_of}
use Rattle.mt_laws.proofs.Clearing.Follows.{FollowsIn, follows_drain}
use Rattle.mt_laws.proofs.Clearing.Fresh.{stays_fresh}
use Rattle.mt_laws.proofs.Translations.Views.{drain_views}
use Rattle.mt_laws.proofs.Words.Agreement.{Agrees}
use Rattle.mt_laws.proofs.Words.BusLaws.{AllFit, FitsMemory, Word, copies, copies_at, fit_at, fits_placed, stands_drain}
use Rattle.mt_laws.proofs.Words.Copies.{Copy, IsClear, IsOwned, IsShared, Shows, clear_shared, settle, shared_at}
use Rattle.mt_laws.proofs.Words.LineLaws.{fits, look, write_back_length, write_back_other, write_back_same, write_back_windows}
use Rattle.mt_laws.proofs.Words.LineLists.{Apart, copy_in}
use Rattle.mt_laws.proofs.Words.MemoryLaws.{AllAligned}
use Rattle.mt_laws.proofs.Words.Sound.{aligned_all, now_is, sound_stands}
use Rattle.mt_laws.proofs.Invariant.Parts.{Parts, memory_of, parts_sound, sound_parts}
use Rattle.mt_laws.proofs.Invariant.SoundSteps.{drain_keeps_sound}

-- ---- the copies of a word, without those of the last cache

clear_front : (cs : List Copy) (k : ℕ) → IsClear cs → IsClear (take k cs)
clear_front [] zero h = tt
clear_front [] (suc k) h = tt
clear_front (c ∷ cs) zero h = tt
clear_front (None ∷ cs) (suc k) h = clear_front cs k h
clear_front (Some c ∷ cs) (suc k) h = absurd h

pub shared_front : (v : ℕ) (cs : List Copy) (k : ℕ) → IsShared v cs → IsShared v (take k cs)
shared_front v [] zero h = tt
shared_front v [] (suc k) h = tt
shared_front v (c ∷ cs) zero h = tt
shared_front v (None ∷ cs) (suc k) h = shared_front v cs k h
shared_front v (Some (x, true) ∷ cs) (suc k) h = absurd h
shared_front v (Some (x, false) ∷ cs) (suc k) h = (h.0, shared_front v cs k h.1)

-- the owner is the last, or another
owned_front : (v x : ℕ) (cs : List Copy) (k : ℕ) (c : Copy) → IsOwned x cs → slice_get cs k ≡ Some c → length cs ≡ suc k
    → ((settle v c ≡ x) × IsClear (take k cs)) ⊎ IsOwned x (take k cs)
owned_front v x [] k c h at long = absurd h
owned_front v x (None ∷ []) zero c h at long = absurd h
owned_front v x (None ∷ d ∷ cs) zero c h at long = absurd (omega arith)
owned_front v x (None ∷ cs) (suc k) c h at long = owned_front v x cs k c h at (omega arith)
owned_front v x (Some (y, false) ∷ cs) k c h at long = absurd h
owned_front v x (Some (y, true) ∷ cs) zero c h at long = let e : Some (y, true) ≡ c = cc in inl (ap (settle v) (sym e) ∙ h.0, tt)
owned_front v x (Some (y, true) ∷ cs) (suc k) c h at long = inr (h.0, clear_front cs k h.1)

last_goes : (v x : ℕ) (cs : List Copy) (k : ℕ) (c : Copy) → slice_get cs k ≡ Some c → length cs ≡ suc k → Shows v cs x → Shows (settle v c) (take k cs) x
last_goes v x cs k c at long s =
    ⊎_elim
    (λ (h : (v ≡ x) × IsShared v cs). let w = (shared_at v cs k c h.1 at).0 in
    let r : Shows (settle v c) (take k cs) x = inl (w ∙ h.0, subst (λ (y : ℕ). IsShared y (take k cs)) (sym w) (shared_front v cs k h.1)) in r)
    (λ (h : IsOwned x cs). ⊎_elim
    (λ (g : (settle v c ≡ x) × IsClear (take k cs)). let r : Shows (settle v c) (take k cs) x = inl (g.0, clear_shared (settle v c) (take k cs) g.1) in r)
    (λ (g : IsOwned x (take k cs)). let r : Shows (settle v c) (take k cs) x = inr g in r)
    (owned_front v x cs k c h at long))
    s

-- ---- memory once the lines of a cache are written

back_windows : (ls : List CacheLine) (m : Memory) → (fold write_back m ls).windows ≡ m.windows
back_windows [] m = refl
back_windows (l ∷ ls) m = back_windows ls (write_back m l) ∙ write_back_windows m l

back_length : (ls : List CacheLine) (m : Memory) → length (fold write_back m ls).words ≡ length m.words
back_length [] m = refl
back_length (l ∷ ls) m = back_length ls (write_back m l) ∙ write_back_length m l

back_word : (a : ℕ) → a % 8 ≡ 0 → (ls : List CacheLine) (m : Memory) → AllAligned m.windows → length m.words ≡ word_count m.windows → Apart ls → list_all (fits m.windows) ls ≡ true
    → word_at (fold write_back m ls) a ≡ settle (word_at m a) (copy_in a ls)
back_word a whole [] m aligned counted apart fit = refl
back_word a whole (l ∷ ls) m aligned counted apart fit =
    let n : Memory = write_back m l in
    let windows : n.windows ≡ m.windows = write_back_windows m l in
    back_word a whole ls n (subst AllAligned (sym windows) aligned) (write_back_length m l ∙ counted ∙ ap word_count (sym windows)) apart.1
    (subst (λ (v : List Window). list_all (fits v) ls ≡ true) (sym windows) (and_right (fits m.windows l) _ fit))
    ∙ one (l.number == line_of a) refl
  where
    one : (b : Bool) → (l.number == line_of a) ≡ b → settle (word_at (write_back m l) a) (copy_in a ls) ≡ settle (word_at m a) (option_map (look a) (if b then Some l else find_line (line_of a) ls))
    one true is =
        let same : line_of a ≡ l.number = sym (eqb-true l.number (line_of a) is) in
        ap (λ (o : Option CacheLine). settle (word_at (write_back m l) a) (option_map (look a) o)) (ap (λ n. find_line n ls) same ∙ apart.0)
        ∙ write_back_same l a whole same m aligned (fits_placed m.windows l (and_left _ _ fit)) counted
    one false is = ap (λ v. settle v (copy_in a ls)) (write_back_other l a m aligned (λ e. eqb-false l.number (line_of a) is (sym e)))

-- ---- the processors but the last

pub of_front : (ps : List Processor) (k i : ℕ) (p : Processor) → slice_get (take k ps) i ≡ Some p → slice_get ps i ≡ Some p
of_front [] zero i p at = absurd (cc)
of_front [] (suc k) i p at = absurd (cc)
of_front (q ∷ ps) zero i p at = absurd (cc)
of_front (q ∷ ps) (suc k) zero p at = at
of_front (q ∷ ps) (suc k) (suc i) p at = of_front ps k i p at

fit_front : (ws : List Window) (ps : List Processor) (k : ℕ) → AllFit ws ps → AllFit ws (take k ps)
fit_front ws [] zero h = tt
fit_front ws [] (suc k) h = tt
fit_front ws (p ∷ ps) zero h = tt
fit_front ws (p ∷ ps) (suc k) h = (h.0, fit_front ws ps k h.1)

pub last_is : (ps : List Processor) (k : ℕ) → k < length ps → (p : Processor) × (slice_get ps k ≡ Some p)
last_is [] k within = absurd (omega arith)
last_is (p ∷ ps) zero within = (p, refl)
last_is (p ∷ ps) (suc k) within = last_is ps k (omega arith)

module _ (t : System) (k : ℕ) (p : Processor) (h : IsSound t) (at : slice_get t.processors k ≡ Some p) (long : length t.processors ≡ suc k) where
  abbrev ws : List Window
  ws = t.memory.windows

  abbrev left : System
  left = record { processors = take k t.processors; memory = fold write_back t.memory p.lines }

  left_is : left ≡ taken_away k t
  left_is = ap (λ (ls : List CacheLine). record { processors = take k t.processors; memory = fold write_back t.memory ls }) (sym (ap (λ (o : Option Processor). option_map_or (λ r. r.lines) o []) at))

  parts : Parts ws t
  parts = sound_parts t h

  fit : FitsMemory ws p
  fit = fit_at ws t.processors k p parts.agrees.stands.fit at

  word : (a x : ℕ) → a % 8 ≡ 0 → Word true a x t → Word true a x left
  word a x whole w = record {
    shows =
        let back : word_at left.memory a ≡ settle (word_at t.memory a) (copy_in a p.lines) = back_word a whole p.lines t.memory (aligned_all ws h.memory.aligned) h.memory.counted fit.lines_apart fit.lines_fit in
        let front : copies a left.processors ≡ take k (copies a t.processors) = sym (take-map (λ r. copy_in a r.lines) k t.processors) in
        let here : length (copies a t.processors) ≡ suc k = length-map t.processors (λ r. copy_in a r.lines) ∙ long in
        subst (λ (cs : List Copy). Shows (word_at left.memory a) cs x) (sym front)
        (subst (λ (v : ℕ). Shows v (take k (copies a t.processors)) x) (sym back)
        (last_goes (word_at t.memory a) x (copies a t.processors) k (copy_in a p.lines) (copies_at a t.processors k p at) here w.shows));
    writes = λ e. absurd (cc);
  }

  agrees : Agrees ws (record { system = left; order = None })
  agrees = record {
    stands = record {
      memory = record { windows = back_windows p.lines t.memory; counted = back_length p.lines t.memory ∙ h.memory.counted };
      fit = fit_front ws t.processors k parts.agrees.stands.fit;
    };
    words = λ a whole. let w = parts.agrees.words a whole in (w.0, word a w.0 whole w.1);
  }

  left_parts : Parts ws left
  left_parts = record {
    agrees = agrees;
    tidy = λ i q at_q. parts.tidy i q (of_front t.processors k i q at_q);
    files = λ i q at_q. parts.files i q (of_front t.processors k i q at_q);
    accepted = λ i q at_q. parts.accepted i q (of_front t.processors k i q at_q);
    ranges = λ i q at_q. parts.ranges i q (of_front t.processors k i q at_q);
    local = λ i q at_q. parts.local i q (of_front t.processors k i q at_q);
    flushed = λ i q at_q. parts.flushed i q (of_front t.processors k i q at_q);
  }

  left_sound : IsSound (taken_away k t)
  left_sound = subst IsSound left_is (parts_sound ws left left_parts (memory_of t.memory left.memory agrees.stands.memory.windows agrees.stands.memory.counted h.memory))

  left_now : (a : ℕ) → a % 8 ≡ 0 → now (taken_away k t) a ≡ now t a
  left_now a whole =
      let w = parts.agrees.words a whole in
      ap (λ (s : System). now s a) (sym left_is) ∙ now_is ws left a w.0 agrees.stands (word a w.0 whole w.1) ∙ sym (now_is ws t a w.0 parts.agrees.stands w.1)

-- ---- after its buffers are emptied

pub drained_number : (k : ℕ) (s : System) → length (drain k s).processors ≡ length s.processors
drained_number k s = sym (length-map (drain k s).processors stage_of) ∙ ap length (drain_stages k s) ∙ length-map s.processors stage_of

module _ (s : System) (some : 0 < length s.processors) (h : IsSound s) where
  abbrev k : ℕ
  k = last_number s

  sound : IsSound (drain k s)
  sound = drain_keeps_sound s k h

  long : length (drain k s).processors ≡ suc k
  long = let n = drained_number k s in omega arith

  last : (p : Processor) × (slice_get (drain k s).processors k ≡ Some p)
  last = let n = long in last_is (drain k s).processors k (omega arith)

  gone_sound : IsSound (gone s)
  gone_sound = left_sound (drain k s) k last.0 sound last.1 long

  gone_now : (a : ℕ) → a % 8 ≡ 0 → now (gone s) a ≡ now (drain k s) a
  gone_now = left_now (drain k s) k last.0 sound last.1 long

pub gone_stays_sound : GoneStaysSound
gone_stays_sound s some h = gone_sound s some h

pub gone_keeps_words : GoneKeepsWords
gone_keeps_words s address some h whole = gone_now s some h address whole

pub others_stand : OthersStand
others_stand s =
    sym (take-map uncached (last_number s) (drain (last_number s) s).processors)
    ∙ ap (take (last_number s)) (drain_views Processor uncached (λ f p. refl) (λ f p. refl) (last_number s) s)

-- each that stays is one of before, and holds nothing new
pub gone_from : (s : System) → FollowsIn (last_number s) s.processors (gone s).processors
gone_from s i q at = follows_drain (last_number s) s i q (of_front (drain (last_number s) s).processors (last_number s) i q at)

pub gone_stays_fresh : GoneStaysFresh
gone_stays_fresh s fresh = stays_fresh (last_number s) s.processors (gone s).processors (gone_from s) fresh

pub gone_windows : (s : System) → IsSound s → (gone s).memory.windows ≡ s.memory.windows
gone_windows s h =
    let k : ℕ = last_number s in
    back_windows (lines_of (drain k s) k) (drain k s).memory
    ∙ (stands_drain s.memory.windows (aligned_all s.memory.windows h.memory.aligned) k s (sound_stands s h)).memory.windows

pub gone_count : (s : System) → length (gone s).processors ≡ length s.processors - 1
gone_count s = count (drain (last_number s) s).processors (last_number s) (let n = drained_number (last_number s) s in omega (arith, n))
  where
    count : (ps : List Processor) (k : ℕ) → k ≤ length ps → length (take k ps) ≡ k
    count [] zero h = refl
    count [] (suc k) h = absurd (omega (arith, h))
    count (p ∷ ps) zero h = refl
    count (p ∷ ps) (suc k) h = ap suc (count ps k (omega (arith, h)))

-- ---- quiet

-- each that stays is one of before, with its file, phase and era
stayed : (s : System) (i : ℕ) (q : Processor) → slice_get (gone s).processors i ≡ Some q
    → (p : Processor) × (slice_get s.processors i ≡ Some p) × (q.file ≡ p.file) × (q.phase ≡ p.phase) × (q.era ≡ p.era)
stayed s i q at = let from = gone_from s i q at in (from.0, from.1, from.2.file, from.2.phase, from.2.era)

same_eras : (ps : List Processor) (n : ℕ) → All (λ p. p.era ≡ n) ps → All (λ p. p.era ≡ common_era ps) ps
same_eras [] n all i d within = absurd (omega arith)
same_eras (p ∷ ps) n all i d within = all i d within ∙ sym (all 0 d (omega arith))

pub gone_stays_quiet : GoneStaysQuiet
gone_stays_quiet m some h =
    let s : System = m.system in
    let ps : List Processor = m.system.processors in
    let qs : List Processor = (gone m.system).processors in
    record {
      sound = gone_stays_sound s some h.sound;
      running = all_of (λ q. is_running q.phase ≡ true) qs (λ i q at. let f = stayed s i q at in ap is_running f.3 ∙ all_get (λ p. is_running p.phase ≡ true) ps h.running i f.0 f.1);
      one_era = same_eras qs (common_era ps) (all_of (λ q. q.era ≡ common_era ps) qs (λ i q at. let f = stayed s i q at in f.4 ∙ all_get (λ p. p.era ≡ common_era ps) ps h.one_era i f.0 f.1));
      one_kind = all_of (λ q. All (FitsGoal q.file) qs) qs (λ i q at. all_of (FitsGoal q.file) qs (λ j r at_r.
          let f = stayed s i q at in
          let g = stayed s j r at_r in
          let fits = all_get (FitsGoal f.0.file) ps (all_get (λ p. All (FitsGoal p.file) ps) ps h.one_kind i f.0 f.1) j g.0 g.1 in
          record { width = ap (λ x. x.width) f.2 ∙ fits.width ∙ sym (ap (λ x. x.width) g.2); capabilities = ap (λ x. x.capabilities) f.2 ∙ fits.capabilities ∙ sym (ap (λ x. x.capabilities) g.2) }));
      no_order = h.no_order;
    }
