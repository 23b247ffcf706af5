-- A window that has room makes a memory again, and a start with one window more.
use Rattle.std.proofs.Common.{◌≡◌, ◌∙◌, ap, sym, refl, subst, arith, inl, inr, ℕ, zero, suc, ◌+◌, ◌*◌, ◌%◌, ◌^◌, ◌≤◌, ◌<◌, ◌&&◌, ◌||◌, nat_le, nat_lt, Bool, true, false, List, [], ◌∷◌, ◌++◌, length, get_or, replicate, Option, Some}
use Rattle.std.specs.Prelude.{map}
use Rattle.std.specs.List.{list_all}
use Rattle.std.proofs.lemmas.Bool.{and_parts, leb-true}
use Rattle.std.proofs.lemmas.List.{length-append, length-replicate, map-append, replicate-append-replicate}
use Rattle.std.proofs.lemmas.List.Elements.{All-push}
use Rattle.std.proofs.lemmas.List.Quantifiers.{all_pairs_push}
use Rattle.mt_ranges.proofs.Powers.{pow_below}
use Rattle.mt_regs.specs.RegisterFile.{RegisterFile, IsRegisterFile}
use Rattle.mt_regs.specs.StartFiles.{AreStartFiles}
use Rattle.mt_machine.specs.Memory.{AreApart, IsMemory, Memory, Window, window_end, word_count}
use Rattle.mt_machine.specs.Machine.{Machine}
use Rattle.mt_machine.specs.Start.{IsQuiet, start_with}
use Rattle.mt_laws.proofs.Invariant.Starts.{flagged_start_is_quiet}
use Rattle.mt_ram.specs.Windows.{window, with_window}
use Rattle.mt_ram.proofs.Windows.{words_pushed}
use Rattle.mt_core.specs.Arises.{grown}
use Rattle.mt_script.specs.Situation.{Situation, file_of}
use Rattle.mt_script.specs.Numbers.{address_limit, are_apart, has_room, lines_together}
use Rattle.mt_replay.specs.Kept.{windows_of}

grown_memory : (m : Memory) (w : Window) → IsMemory m → 0 < w.lines → w.base % 64 ≡ 0 → window_end w ≤ 2 ^ 52 → ((k : ℕ) (d : Window) → k < length m.windows → AreApart (get_or m.windows k d) w) → IsMemory (with_window w m)
grown_memory m w h some aligned bounded apart = record {
  some_lines = All-push (λ v. 0 < v.lines) m.windows w h.some_lines some;
  aligned = All-push (λ v. v.base % 64 ≡ 0) m.windows w h.aligned aligned;
  bounded = All-push (λ v. window_end v ≤ 2 ^ 52) m.windows w h.bounded bounded;
  apart = all_pairs_push AreApart m.windows w h.apart apart;
  counted =
      length-append m.words (replicate (8 * w.lines) 0) ∙ ap (λ n. length m.words + n) (length-replicate (8 * w.lines) 0) ∙ ap (λ n. n + 8 * w.lines) h.counted
      ∙ sym (words_pushed m.windows w);
}

abbrev of_pair : ℕ × ℕ → Window
of_pair v = window v.0 v.1

one_apart : (base lines : ℕ) (v : ℕ × ℕ) → are_apart base lines v ≡ true → AreApart (of_pair v) (window base lines)
one_apart base lines v = one (nat_le (base + 64 * lines) v.0) refl
  where
    one : (b : Bool) → nat_le (base + 64 * lines) v.0 ≡ b → (b || nat_le (v.0 + 64 * v.1) base) ≡ true → AreApart (of_pair v) (window base lines)
    one true is h = inr (leb-true (base + 64 * lines) v.0 is)
    one false is h = inl (leb-true (v.0 + 64 * v.1) base h)

each_apart : (base lines : ℕ) (vs : List (ℕ × ℕ)) → list_all (are_apart base lines) vs ≡ true → (k : ℕ) (d : Window) → k < length (map of_pair vs) → AreApart (get_or (map of_pair vs) k d) (window base lines)
each_apart base lines [] all = λ k d within. absurd (omega arith)
each_apart base lines (v ∷ vs) all =
    let both = and_parts (are_apart base lines v) (list_all (are_apart base lines) vs) all in
    at (one_apart base lines v both.0) (each_apart base lines vs both.1)
  where
    at : AreApart (of_pair v) (window base lines) → ((k : ℕ) (d : Window) → k < length (map of_pair vs) → AreApart (get_or (map of_pair vs) k d) (window base lines))
        → (k : ℕ) (d : Window) → k < length (map of_pair (v ∷ vs)) → AreApart (get_or (map of_pair (v ∷ vs)) k d) (window base lines)
    at here later zero d within = here
    at here later (suc k) d within = later k d (omega arith)

pub file_limit : (file : Option RegisterFile) (f : RegisterFile) → file ≡ Some f → IsRegisterFile f → address_limit file ≤ 2 ^ 52
file_limit file f is good = subst (λ (o : Option RegisterFile). address_limit o ≤ 2 ^ 52) (sym is) (pow_below f.width 52 good.narrow)

-- what has room is a memory again
pub room_memory : (now : Situation) (f : RegisterFile) (m : Memory) (base lines : ℕ) → file_of now ≡ Some f → IsRegisterFile f → IsMemory m → m.windows ≡ windows_of now → 0 < lines → base % 64 ≡ 0 → has_room now base lines ≡ true
    → IsMemory (with_window (window base lines) m)
room_memory now f m base lines file good h windows some aligned room =
    let last = and_parts (nat_le (base + 64 * lines) (address_limit (file_of now)) && list_all (are_apart base lines) now.windows && nat_lt (length now.windows) 16) (nat_le (lines_together now.windows + lines) 4096) room in
    let few = and_parts (nat_le (base + 64 * lines) (address_limit (file_of now)) && list_all (are_apart base lines) now.windows) (nat_lt (length now.windows) 16) last.0 in
    let first = and_parts (nat_le (base + 64 * lines) (address_limit (file_of now))) (list_all (are_apart base lines) now.windows) few.0 in
    let low = leb-true (base + 64 * lines) (address_limit (file_of now)) first.0 in
    let most = file_limit (file_of now) f file good in
    grown_memory m (window base lines) h some aligned (omega arith)
    (subst (λ (ws : List Window). (k : ℕ) (d : Window) → k < length ws → AreApart (get_or ws k d) (window base lines)) (sym windows) (each_apart base lines now.windows first.1))

-- the windows of a memory make a quiet start
pub memory_is_quiet : (flags : List Bool) (files : List RegisterFile) (m : Memory) (ws : List Window) → IsMemory m → m.windows ≡ ws → AreStartFiles files → IsQuiet (start_with flags files ws)
memory_is_quiet flags files m ws h same starts =
    subst (λ (vs : List Window). IsQuiet (start_with flags files vs)) same
    (flagged_start_is_quiet flags files m.windows starts
    (record { some_lines = h.some_lines; aligned = h.aligned; bounded = h.bounded; apart = h.apart; counted = length-replicate (word_count m.windows) 0 }))

pub windows_then : (now : Situation) (base lines : ℕ) → map of_pair (now.windows ++ (base, lines) ∷ []) ≡ windows_of now ++ window base lines ∷ []
windows_then now base lines = map-append of_pair now.windows ((base, lines) ∷ [])

pub grown_start : (flags : List Bool) (files : List RegisterFile) (ws : List Window) (w : Window) → grown w (start_with flags files ws) ≡ start_with flags files (ws ++ w ∷ [])
grown_start flags files ws w =
    let words : replicate (word_count ws) 0 ++ replicate (8 * w.lines) 0 ≡ replicate (word_count (ws ++ w ∷ [])) 0 =
    replicate-append-replicate (word_count ws) (8 * w.lines) 0 ∙ ap (λ n. replicate n 0) (sym (words_pushed ws w)) in
    ap (λ (xs : List ℕ). with_words flags files (ws ++ w ∷ []) xs) words
  where
    with_words : List Bool → List RegisterFile → List Window → List ℕ → Machine
    with_words flags files ws xs = record (start_with flags files ws) { system = record (start_with flags files ws).system { memory = record { windows = ws; words = xs } } }
