-- One window more keeps a system sound: no word changes, and what had a place keeps it.
use Rattle.std.proofs.Common.{◌≡◌, ◌∙◌, ap, sym, refl, subst, arith, ℕ, zero, suc, ◌+◌, ◌-◌, ◌*◌, ◌/◌, ◌%◌, ◌<◌, ◌==◌, ◌&&◌, nat_le, nat_lt, Bool, true, false, if◌then◌else◌, List, [], ◌∷◌, ◌++◌, length, replicate, Option, None, Some, IsSome, IfSome, slice_index}
use Rattle.std.proofs.lemmas.List.{get_or-append_right, get_or_append_left}
use Rattle.std.proofs.lemmas.List.Elements.{All-weaker}
use Rattle.std.specs.List.{All}
use Rattle.std.specs.Option.{option_map_or, option_or}
use Rattle.mt_cache.specs.Lines.{is_dirty}
use Rattle.mt_machine.specs.Memory.{IsMemory, Memory, Window, place, place_in, window_end, word_address, word_at, word_count}
use Rattle.mt_machine.specs.System.{IsSound, System}
use Rattle.mt_ram.specs.Windows.{with_window}
use Rattle.mt_ram.proofs.Windows.{place_within}

placed_more : (ws : List Window) (w : Window) (before a : ℕ) → place_in (ws ++ w ∷ []) before a ≡ option_or (place_in ws before a) (place_in (w ∷ []) (before + word_count ws) a)
placed_more [] w before a = ap (λ n. place_in (w ∷ []) n a) (let e : before ≡ before + 0 = omega arith in e)
placed_more (v ∷ vs) w before a =
    one (nat_le v.base a && nat_lt a (window_end v))
    (placed_more vs w (before + 8 * v.lines) a ∙ ap (λ n. option_or (place_in vs (before + 8 * v.lines) a) (place_in (w ∷ []) n a)) (let e : before + 8 * v.lines + word_count vs ≡ before + (8 * v.lines + word_count vs) = omega arith in e))
  where
    one : (b : Bool) → place_in (vs ++ w ∷ []) (before + 8 * v.lines) a ≡ option_or (place_in vs (before + 8 * v.lines) a) (place_in (w ∷ []) (before + (8 * v.lines + word_count vs)) a)
        → (if b then Some (before + (a - v.base) / 8) else place_in (vs ++ w ∷ []) (before + 8 * v.lines) a)
        ≡ option_or (if b then Some (before + (a - v.base) / 8) else place_in vs (before + 8 * v.lines) a) (place_in (w ∷ []) (before + (8 * v.lines + word_count vs)) a)
    one true later = refl
    one false later = later

zero_at : (z k : ℕ) → slice_index (replicate {A = ℕ} z 0) k ≡ 0
zero_at zero k = refl
zero_at (suc z) zero = refl
zero_at (suc z) (suc k) = zero_at z k

-- of words in a row
same_at : (ws : List Window) (xs : List ℕ) (w : Window) (a : ℕ) → length xs ≡ word_count ws
    → option_map_or (λ i. slice_index (xs ++ replicate (8 * w.lines) 0) i) (place_in (ws ++ w ∷ []) 0 a) 0 ≡ option_map_or (λ i. slice_index xs i) (place_in ws 0 a) 0
same_at ws xs w a counted =
    ap (λ o. option_map_or (λ i. slice_index (xs ++ replicate (8 * w.lines) 0) i) o 0) (placed_more ws w 0 a)
    ∙ one (place_in ws 0 a) (place_within ws 0 a)
  where
    two : (b : Bool) → option_map_or (λ i. slice_index (xs ++ replicate (8 * w.lines) 0) i) (if b then Some (0 + word_count ws + (a - w.base) / 8) else None) 0 ≡ 0
    two true = get_or-append_right xs (replicate (8 * w.lines) 0) (length xs) (0 + word_count ws + (a - w.base) / 8) 0 refl (omega arith) ∙ zero_at (8 * w.lines) (0 + word_count ws + (a - w.base) / 8 - length xs)
    two false = refl

    one : (o : Option ℕ) → IfSome o (λ i. i < 0 + word_count ws)
        → option_map_or (λ i. slice_index (xs ++ replicate (8 * w.lines) 0) i) (option_or o (place_in (w ∷ []) (0 + word_count ws) a)) 0 ≡ option_map_or (λ i. slice_index xs i) o 0
    one None within = two (nat_le w.base a && nat_lt a (window_end w))
    one (Some i) within = get_or_append_left xs (replicate (8 * w.lines) 0) 0 i (omega arith)

same_word : (m : Memory) (w : Window) (a : ℕ) → IsMemory m → word_at (with_window w m) a ≡ word_at m a
same_word m w a h = one (a % 8 == 0)
  where
    one : (b : Bool)
        → option_map_or (λ i. slice_index (m.words ++ replicate (8 * w.lines) 0) i) (if b then place_in (m.windows ++ w ∷ []) 0 a else None) 0
        ≡ option_map_or (λ i. slice_index m.words i) (if b then place_in m.windows 0 a else None) 0
    one true = same_at m.windows m.words w a h.counted
    one false = refl

still_placed : (m : Memory) (w : Window) (a : ℕ) → IsSome (place m a) → IsSome (place (with_window w m) a)
still_placed m w a = one (a % 8 == 0)
  where
    two : (o p : Option ℕ) → IsSome o → IsSome (option_or o p)
    two None p h = absurd (cc)
    two (Some i) p h = h

    one : (b : Bool) → IsSome (if b then place_in m.windows 0 a else None) → IsSome (if b then place_in (m.windows ++ w ∷ []) 0 a else None)
    one true h = subst (λ (o : Option ℕ). IsSome o) (sym (placed_more m.windows w 0 a)) (two (place_in m.windows 0 a) (place_in (w ∷ []) (0 + word_count m.windows) a) h)
    one false h = absurd (cc)

pub sound_grown : (s : System) (w : Window) → IsSound s → IsMemory (with_window w s.memory) → IsSound (record s { memory = with_window w s.memory })
sound_grown s w h good =
    let more : Memory = with_window w s.memory in
    record {
      memory = good;
      coherent = record {
        clean =
            All-weaker (λ p. All (λ l. (word : ℕ) → word < 8 → is_dirty l word ≡ false → slice_index l.words word ≡ word_at s.memory (word_address l.number word)) p.lines)
            (λ p. All (λ l. (word : ℕ) → word < 8 → is_dirty l word ≡ false → slice_index l.words word ≡ word_at more (word_address l.number word)) p.lines)
            (λ p. All-weaker (λ l. (word : ℕ) → word < 8 → is_dirty l word ≡ false → slice_index l.words word ≡ word_at s.memory (word_address l.number word))
            (λ l. (word : ℕ) → word < 8 → is_dirty l word ≡ false → slice_index l.words word ≡ word_at more (word_address l.number word))
            (λ l f word within clean. f word within clean ∙ sym (same_word s.memory w (word_address l.number word) h.memory)) p.lines)
            s.processors h.coherent.clean;
        sole = h.coherent.sole;
      };
      lines_in_memory =
          All-weaker (λ p. All (λ l. IsSome (place s.memory (word_address l.number 0))) p.lines) (λ p. All (λ l. IsSome (place more (word_address l.number 0))) p.lines)
          (λ p. All-weaker (λ l. IsSome (place s.memory (word_address l.number 0))) (λ l. IsSome (place more (word_address l.number 0))) (λ l. still_placed s.memory w (word_address l.number 0)) p.lines)
          s.processors h.lines_in_memory;
      buffers_in_memory =
          All-weaker (λ p. All (λ l. IsSome (place s.memory (word_address l.number 0))) p.buffers) (λ p. All (λ l. IsSome (place more (word_address l.number 0))) p.buffers)
          (λ p. All-weaker (λ l. IsSome (place s.memory (word_address l.number 0))) (λ l. IsSome (place more (word_address l.number 0))) (λ l. still_placed s.memory w (word_address l.number 0)) p.buffers)
          s.processors h.buffers_in_memory;
      each = h.each;
    }
