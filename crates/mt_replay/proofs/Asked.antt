-- What the conditions of calls want, from what a command fits.
use Rattle.std.proofs.Common.{◌≡◌, refl, arith, ℕ, ◌+◌, ◌*◌, ◌<◌, ◌≤◌, ◌==◌, Bool, true, false, List, [], ◌∷◌, map, length, Option, None, Some, nat_le, nat_lt}
use Rattle.std.specs.Prelude.{◌%◌, ◌&&◌, ◌||◌, if◌then◌else◌, is_some}
use Rattle.std.specs.List.{list_all}
use Rattle.std.specs.Option.{option_map}
use Rattle.std.proofs.lemmas.Bool.{and_parts, eq-eqb, eqb-true, leb-true, ltb-true}
use Rattle.std.proofs.lemmas.List.{length-map}
use Rattle.mt_regs.specs.RegisterFile.{RegisterFile, IsRegisterFile}
use Rattle.mt_regs.specs.Registers.{register_of, value_at, value_of}
use Rattle.mt_regs.specs.declared.registers.Register.{Register}
use Rattle.mt_regs.proofs.ByNumber.{register_of-range}
use Rattle.mt_machine.specs.Memory.{Window, word_count}
use Rattle.mt_ram.specs.Windows.{is_overlap, is_too_much, refusal, shares_byte, window}
use Rattle.mt_script.specs.Situation.{Situation, file_of}
use Rattle.mt_script.specs.Numbers.{address_limit, are_apart, has_room, lines_together}
use Rattle.mt_replay.specs.Kept.{windows_of}

-- ---- registers

-- a register's number has three hexadecimal digits
pub short_number : (file : RegisterFile) (number : ℕ) → IsRegisterFile file → is_some (value_at file number) ≡ true → number < 0x1000
short_number file number is known = by (number == 0xfe) (register_of file number) refl refl known
  where
    by : (b : Bool) (found : Option Register) → (number == 0xfe) ≡ b → register_of file number ≡ found
        → is_some (if b then Some file.capabilities else option_map (value_of file) found) ≡ true → number < 0x1000
    by true found same some h = let e : number ≡ 0xfe = eqb-true number 0xfe same in omega arith
    by false None same some h = absurd (cc h)
    by false (Some r) same some h = let range = register_of-range file number r is some in omega (arith, range.1)

-- ---- windows

apart_not_shared : (base lines : ℕ) (v : ℕ × ℕ) → are_apart base lines v ≡ true → shares_byte (window v.0 v.1) (window base lines) ≡ false
apart_not_shared base lines v apart = by (nat_lt v.0 (base + 64 * lines)) (nat_lt base (v.0 + 64 * v.1)) (nat_le (base + 64 * lines) v.0) (nat_le (v.0 + 64 * v.1) base) refl refl refl refl apart
  where
    by : (a b c d : Bool) → nat_lt v.0 (base + 64 * lines) ≡ a → nat_lt base (v.0 + 64 * v.1) ≡ b → nat_le (base + 64 * lines) v.0 ≡ c → nat_le (v.0 + 64 * v.1) base ≡ d
        → (c || d) ≡ true → (a && b) ≡ false
    by false b c d ea eb ec ed h = refl
    by true false c d ea eb ec ed h = refl
    by true true true d ea eb ec ed h =
        let low = ltb-true v.0 (base + 64 * lines) ea in let high = leb-true (base + 64 * lines) v.0 ec in absurd (omega arith)
    by true true false true ea eb ec ed h =
        let low = ltb-true base (v.0 + 64 * v.1) eb in let high = leb-true (v.0 + 64 * v.1) base ed in absurd (omega arith)
    by true true false false ea eb ec ed h = absurd (cc h)

none_overlaps : (base lines : ℕ) (vs : List (ℕ × ℕ)) → list_all (are_apart base lines) vs ≡ true → is_overlap (map (λ w. window w.0 w.1) vs) (window base lines) ≡ false
none_overlaps base lines [] all = refl
none_overlaps base lines (v ∷ vs) all =
    let both = and_parts (are_apart base lines v) (list_all (are_apart base lines) vs) all in
    rw (apart_not_shared base lines v both.0) (none_overlaps base lines vs both.1)

words_together : (vs : List (ℕ × ℕ)) → word_count (map (λ w. window w.0 w.1) vs) ≡ 8 * lines_together vs
words_together [] = refl
words_together (v ∷ vs) = let later = words_together vs in omega arith

not_too_much : (ws : List Window) (w : Window) → word_count ws + 8 * w.lines ≤ 8 * 4096 → length ws < 16 → is_too_much ws w ≡ false
not_too_much ws w few room = by (nat_lt (8 * 4096) (word_count ws + 8 * w.lines)) (nat_le 16 (length ws)) refl refl
  where
    by : (a b : Bool) → nat_lt (8 * 4096) (word_count ws + 8 * w.lines) ≡ a → nat_le 16 (length ws) ≡ b → (a || b) ≡ false
    by true b ea eb = let much = ltb-true (8 * 4096) (word_count ws + 8 * w.lines) ea in absurd (omega arith)
    by false true ea eb = let many = leb-true 16 (length ws) eb in absurd (omega arith)
    by false false ea eb = refl

refuses_none : (ws : List Window) (w : Window) → w.base % 64 ≡ 0 → is_overlap ws w ≡ false → is_too_much ws w ≡ false → refusal ws w ≡ None
refuses_none ws w aligned apart few = rw (eq-eqb (w.base % 64) 0 aligned, apart, few) refl

-- what has room ends within the physical addresses, and is refused by no memory of these windows
pub record HasPlace (now : Situation) (base lines : ℕ) : Type 0 where
  pub end : base + 64 * lines ≤ address_limit (file_of now)
  pub accepted : refusal (windows_of now) (window base lines) ≡ None

pub has_place : (now : Situation) (base lines : ℕ) → base % 64 ≡ 0 → has_room now base lines ≡ true → HasPlace now base lines
has_place now base lines aligned room =
    let last = and_parts (nat_le (base + 64 * lines) (address_limit (file_of now)) && list_all (are_apart base lines) now.windows && nat_lt (length now.windows) 16) (nat_le (lines_together now.windows + lines) 4096) room in
    let few = and_parts (nat_le (base + 64 * lines) (address_limit (file_of now)) && list_all (are_apart base lines) now.windows) (nat_lt (length now.windows) 16) last.0 in
    let first = and_parts (nat_le (base + 64 * lines) (address_limit (file_of now))) (list_all (are_apart base lines) now.windows) few.0 in
    let together = leb-true (lines_together now.windows + lines) 4096 last.1 in
    let count = ltb-true (length now.windows) 16 few.1 in
    let words = words_together now.windows in
    let size = length-map now.windows (λ (w : ℕ × ℕ). window w.0 w.1) in
    record {
      end = leb-true (base + 64 * lines) (address_limit (file_of now)) first.0;
      accepted =
          refuses_none (windows_of now) (window base lines) aligned (none_overlaps base lines now.windows first.1)
          (not_too_much (windows_of now) (window base lines) (omega arith) (omega arith));
    }
