-- What holds behind a path: all is settled still, and what no event stored is in memory.
use Rattle.std.proofs.Common.{◌≡◌, ◌∙◌, ap, sym, refl, subst, inl, ℕ, ◌+◌, ◌%◌, ◌<◌, true, false, List, [], ◌∷◌, get_or, length, Option, None, Some, slice_get}
use Rattle.std.specs.Prelude.{map, not}
use Rattle.std.specs.List.{Contains}
use Rattle.std.specs.Option.{option_map, option_map_or}
use Rattle.std.proofs.lemmas.Option.{slice_get-get_or, slice_get-map}
use Rattle.mt_regs.specs.RegisterFile.{RegisterFile}
use Rattle.mt_machine.specs.declared.event.Event.TheVariants.{Release}
use Rattle.mt_machine.specs.Memory.{word_at}
use Rattle.mt_machine.specs.System.{Processor, now}
use Rattle.mt_machine.specs.Machine.{Calls, IsEnabled, Machine, MachineEvent, Order, Steps, common_era, next}
use Rattle.mt_machine.specs.ComingAndGoing.{without_last}
use Rattle.mt_machine.specs.Start.{IsQuiet}
use Rattle.mt_machine.specs.Update.{IsSettled, is_call, settled_processor, stored_word, updated}
use Rattle.mt_laws.specs.Barriers.{IsAt}
use Rattle.mt_laws.proofs.Barrier.Claims.{all_get}
use Rattle.mt_laws.proofs.Clearing.Late.{IsKept, Late, OnlyNew, all_entries, all_lines, late_next, release_late}
use Rattle.mt_laws.proofs.Registers.Filed.{AllFiled}
use Rattle.mt_laws.proofs.Registers.Settled.{Settling, release_settling, settling_next}
use Rattle.mt_laws.specs.Settled.{IsFirstRelease}
use Rattle.mt_laws.proofs.Updates.Held.{contains_first, contains_more, released_word, settled_word}
use Rattle.mt_laws.proofs.Updates.Quiet.{updated_is_quiet}
use Rattle.mt_laws.proofs.Words.Agreement.{word_next}
use Rattle.mt_laws.proofs.Words.BusLaws.{Word}
use Rattle.mt_laws.proofs.Words.Sound.{aligned_all}
use Rattle.mt_core.specs.Arises.{Arises, by_event, by_going_down, from_start}
use Rattle.mt_core.proofs.Stepping.{stands}
use Rattle.mt_replay_laws.proofs.Paths.Going.{gone_late, gone_settling, gone_word}

-- The last argument has the words that its accesses stored, in their order.
pub data Path : Machine → Machine → List ℕ → Type 0 where
  ends : {m : Machine} → Path m m []
  goes_on : {m n : Machine} {words : List ℕ} → (e : MachineEvent) → IsEnabled m e → not (is_call e) ≡ true → Path (next m e) n words
      → Path m n (option_map_or (λ a. a ∷ words) (stored_word m e) words)
  retires : {m n : Machine} {words : List ℕ} → m.order ≡ None → 1 < length m.system.processors → Path (without_last m) n words → Path m n words

-- ---- settled

-- Some processor has released in the update of this era to this goal, and none was called since.
pub record After (era : ℕ) (goal : RegisterFile) (m : Machine) : Type 0 where
  pub late : Late era m
  pub settling : Settling goal m

pub after_path : {m n : Machine} {words : List ℕ} → (era : ℕ) (goal : RegisterFile) → Arises m → After era goal m → Path m n words → After era goal n
after_path era goal a h ends = h
after_path {m} era goal a h (goes_on e enabled quiet p) =
    let st = (stands a).1 in
    after_path era goal (by_event e a enabled)
    (record {
      late = late_next era e m.system m.order enabled quiet st.kept.0 st.kept.1 h.late;
      settling = settling_next era goal e m.system m.order enabled quiet st.kept.0 st.filed h.late h.settling;
    }) p
after_path {m} era goal a h (retires none more p) =
    after_path era goal (by_going_down a none more) (record { late = gone_late m a none more era h.late; settling = gone_settling m a none more goal h.settling }) p

pub settled_of : (era : ℕ) (goal : RegisterFile) (m : Machine) → After era goal m → IsSettled m.system era goal
settled_of era goal m h =
    λ i d within.
    let p : Processor = get_or m.system.processors i d in
    let at : IsAt m i p = slice_get-get_or m.system.processors i d within in
    let new = h.late.all i p at in
    record {
      file = h.settling.files i p at;
      lines = all_lines era p.lines new.lines;
      buffers = all_lines era p.buffers new.buffers;
      entries = all_entries era p.entries new.entries;
    }

-- ---- where it begins

pub after_release : (m : Machine) (o : Order) (k : ℕ) → Arises m → m.order ≡ Some o → IsEnabled m (Steps k Release) → After (o.from_era + 1) o.goal (next m (Steps k Release))
after_release m o k a is enabled =
    let at : Machine = record { system = m.system; order = Some o } in
    let same : m ≡ at = λ i. record { system = m.system; order = is i } in
    let st = (stands a).1 in
    let kept : IsKept at = subst IsKept same st.kept in
    let filed : AllFiled (Some o) m.system.processors = subst (λ (x : Option Order). AllFiled x m.system.processors) is st.filed in
    let on : IsEnabled at (Steps k Release) = subst (λ (x : Machine). IsEnabled x (Steps k Release)) same enabled in
    subst (λ (x : Machine). After (o.from_era + 1) o.goal (next x (Steps k Release))) (sym same)
    (record { late = release_late m.system o k kept on; settling = release_settling m.system o k kept filed on })

-- a processor of the machine after a whole update
from_settled : (goal : RegisterFile) (ps : List Processor) (i : ℕ) (q : Processor) → slice_get (map (settled_processor goal) ps) i ≡ Some q → (p : Processor) × (slice_get ps i ≡ Some p) × (q ≡ settled_processor goal p)
from_settled goal ps i q at = one (slice_get ps i) refl (sym (slice_get-map (settled_processor goal) ps i) ∙ at)
  where
    one : (x : Option Processor) → slice_get ps i ≡ x → option_map (settled_processor goal) x ≡ Some q → (p : Processor) × (slice_get ps i ≡ Some p) × (q ≡ settled_processor goal p)
    one None there is = absurd (cc is)
    one (Some p) there is = let same : settled_processor goal p ≡ q = cc is in (p, there, sym same)

pub after_update : (m : Machine) (goal : RegisterFile) (ks : List ℕ) → IsQuiet m → After (common_era m.system.processors + 1) goal (updated m.system ks goal)
after_update m goal ks quiet = record {
  late = record {
    all = λ i q at.
        let from = from_settled goal m.system.processors i q at in
        let era = all_get (λ p. p.era ≡ common_era m.system.processors) m.system.processors quiet.one_era i from.0 from.1 in
        subst (OnlyNew (common_era m.system.processors + 1)) (sym from.2) (record { lines = refl; buffers = refl; entries = refl; running = λ r. ap (λ n. n + 1) era });
    order = tt;
  };
  settling = record {
    files = λ i q at. let from = from_settled goal m.system.processors i q at in ap (λ (r : Processor). r.file) from.2;
    order = tt;
  };
}

-- ---- words

-- after a whole update, in which nothing is held, memory has each word
pub word_after_update : (m : Machine) (goal : RegisterFile) (ks : List ℕ) → IsQuiet m → IsEnabled m (Calls goal) → (a : ℕ) → a % 8 ≡ 0
    → Word false a (word_at (updated m.system ks goal).system.memory a) (updated m.system ks goal).system
word_after_update m goal ks quiet enabled a whole =
    let n : Machine = updated m.system ks goal in
    let w = (stands (from_start {m = n} (inl (updated_is_quiet m goal ks quiet enabled)))).1.agrees.words a whole in
    let there : Word false a w.0 n.system =
    settled_word a w.0 n.system (λ j q at. let from = from_settled goal m.system.processors j q at in (ap (λ (r : Processor). r.lines) from.2, ap (λ (r : Processor). r.buffers) from.2)) w.1 in
    subst (λ (x : ℕ). Word false a x n.system) (sym there.shows.0) there

-- after the first release it has each as it was before the first pass
pub word_after_release : (p r : Machine) (o : Order) → Arises p → IsFirstRelease p r o → (a : ℕ) → a % 8 ≡ 0 → Word false a (now p.system a) r.system
word_after_release p r o arises first a whole =
    let st = stands arises in
    released_word p.system.memory.windows (aligned_all p.system.memory.windows st.0.aligned) p r o st.1.agrees st.1.kept first a whole

-- a word that none of its accesses stored stays in memory
pub word_path : {m n : Machine} {words : List ℕ} → (a x : ℕ) → a % 8 ≡ 0 → Arises m → Word false a x m.system → (Contains words a → ⊥) → Path m n words → word_at n.system.memory a ≡ x
word_path a x whole arises w other ends = w.shows.0
word_path {m} a x whole arises w other (goes_on {words = words} e enabled quiet p) =
    let st = stands arises in
    let ws = m.system.memory.windows in
    let r = word_next ws (aligned_all ws st.0.aligned) m e enabled st.1.agrees.stands false a x whole (λ h is. other (contains_first (stored_word m e) words a is)) w in
    word_path a x whole (by_event e arises enabled) (subst (λ (y : ℕ). Word false a y (next m e).system) (r.1 refl) r.2) (λ h. other (contains_more (stored_word m e) words a h)) p
word_path {m} a x whole arises w other (retires none more p) =
    word_path a x whole (by_going_down arises none more) (gone_word m arises none more a x whole w) other p
