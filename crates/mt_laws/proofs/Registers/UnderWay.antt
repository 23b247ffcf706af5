-- What an order says of each processor, and where the lines of a sound system lie.
use Rattle.std.proofs.Common.{◌≡◌, ℕ, zero, suc, ◌+◌, ◌-◌, ◌*◌, ◌/◌, ◌%◌, ◌<◌, ◌≤◌, ◌^◌, ◌==◌, List, [], ◌∷◌, get_or, take, Some, None, Option, Bool, true, false, refl, sym, subst, arith}
use Rattle.std.specs.Prelude.{nat_le, nat_lt, ◌&&◌, if◌then◌else◌, is_some}
use Rattle.std.specs.List.{All}
use Rattle.std.proofs.lemmas.Bool.{ltb-true}
use Rattle.std.proofs.lemmas.List.Elements.{All-head, All-tail}
use Rattle.mt_regs.specs.declared.registers.Register.{Register}
use Rattle.mt_regs.specs.RegisterFile.{RegisterFile}
use Rattle.mt_regs.specs.Registers.{value_of, writable}
use Rattle.mt_cache.specs.declared.line.CacheLine.{CacheLine}
use Rattle.mt_machine.specs.Memory.{Memory, Window, window_end, place, place_in, word_address}
use Rattle.mt_machine.specs.System.{Processor, System, IsSound}
use Rattle.mt_machine.specs.Machine.{Machine, Order}
use Rattle.mt_laws.specs.Kept.{IsUnderWay, OrderHolds, OrdersHold}
use Rattle.mt_laws.specs.Sound.{LinesAreLow}
use Rattle.mt_laws.proofs.Barrier.Ranks.{and_right}
use Rattle.mt_machine.proofs.Files.{AgreeAll}
use Rattle.mt_laws.proofs.Registers.Filed.{AllFiled}
use Rattle.mt_laws.proofs.Registers.Accepted.{GoalAccepted}
use Rattle.mt_laws.proofs.Barrier.Claims.{all_get, all_of}
use Rattle.mt_laws.proofs.Invariant.Kept.{start_aligned}
use Rattle.mt_laws.proofs.Invariant.Standing.{Standing, start_standing, reached_standing}

agree_all : (goal f : RegisterFile) (rs : List Register) → AgreeAll goal f rs → All (λ r. value_of f r ≡ value_of goal r) rs
agree_all goal f [] h k d within = absurd (omega arith)
agree_all goal f (r ∷ rs) h zero d within = h.0
agree_all goal f (r ∷ rs) h (suc k) d within = agree_all goal f rs h.1 k d (omega arith)

pub holds : (m : Machine) (o : Order) → m.order ≡ Some o → (ws : List Window) → Standing ws m → OrderHolds m o
holds m o is ws st =
    let filed : AllFiled (Some o) m.system.processors = subst (λ (v : Option Order). AllFiled v m.system.processors) is st.filed in
    record {
      goal_file = filed.0;
      goal_accepted = subst GoalAccepted is st.accepted.goal;
      each = all_of (IsUnderWay o) m.system.processors (λ i p at.
          let f = filed.1 i p at in
          record {
            fits = record { width = sym f.alike.width; capabilities = sym f.alike.capabilities };
            written = λ j h. agree_all o.goal p.file (take j (writable o.goal)) (f.writing j h).1;
          });
    }

pub orders_hold : OrdersHold
orders_hold s m o start r is = holds m o is s.system.memory.windows (reached_standing s.system.memory.windows (start_aligned s start) r (start_standing s start))

-- ---- lines

in_window : (ws : List Window) (before address : ℕ) → All (λ w. window_end w ≤ 2 ^ 52) ws → is_some (place_in ws before address) ≡ true → address < 2 ^ 52
in_window [] before address low h = absurd (cc)
in_window (w ∷ ws) before address low h = one (nat_le w.base address && nat_lt address (window_end w)) refl h (λ g. in_window ws (before + 8 * w.lines) address (All-tail (λ (v : Window). window_end v ≤ 2 ^ 52) w ws low) g)
  where
    one : (b : Bool) → (nat_le w.base address && nat_lt address (window_end w)) ≡ b → is_some (if b then Some (before + (address - w.base) / 8) else place_in ws (before + 8 * w.lines) address) ≡ true → (is_some (place_in ws (before + 8 * w.lines) address) ≡ true → address < 2 ^ 52) → address < 2 ^ 52
    one true is g rest =
        let below = ltb-true address (window_end w) (and_right _ _ is) in
        let top = All-head (λ (v : Window). window_end v ≤ 2 ^ 52) w ws low in
        omega arith
    one false is g rest = rest g

low_line : (m : Memory) (n : ℕ) → All (λ w. window_end w ≤ 2 ^ 52) m.windows → is_some (place m (word_address n 0)) ≡ true → n < 2 ^ 46
low_line m n low h = one (word_address n 0 % 8 == 0) h
  where
    one : (b : Bool) → is_some (if b then place_in m.windows 0 (word_address n 0) else None) ≡ true → n < 2 ^ 46
    one true g = let below = in_window m.windows 0 (word_address n 0) low g in omega arith
    one false g = absurd (cc)

low_lines : (s : System) → IsSound s → (ls : List CacheLine) → All (λ l. is_some (place s.memory (word_address l.number 0)) ≡ true) ls → All (λ l. l.number < 2 ^ 46) ls
low_lines s h ls placed k d within = low_line s.memory (get_or ls k d).number h.memory.bounded (placed k d within)

pub lines_are_low : LinesAreLow
lines_are_low s h =
    all_of (λ p. All (λ l. l.number < 2 ^ 46) p.lines × All (λ l. l.number < 2 ^ 46) p.buffers) s.processors (λ i p at. (
      low_lines s h p.lines (all_get (λ (q : Processor). All (λ (l : CacheLine). is_some (place s.memory (word_address l.number 0)) ≡ true) q.lines) s.processors h.lines_in_memory i p at),
      low_lines s h p.buffers (all_get (λ (q : Processor). All (λ (l : CacheLine). is_some (place s.memory (word_address l.number 0)) ≡ true) q.buffers) s.processors h.buffers_in_memory i p at),
    ))
