-- Lines that change nothing.
use Rattle.std.proofs.Common.{◌≡◌, ◌∙◌, ◌≤◌, ℕ, Bool, true, false, nat_lt, List, [], ◌∷◌, ◌++◌, length, Option, Some, None, Ok, refl, sym, ap, arith, length-append}
use Rattle.std.proofs.lemmas.Bool.Decides.{nat_tests}
use Rattle.std.specs.Prelude.{if◌then◌else◌, ◌==◌, ◌&&◌, ◌||◌}
use Rattle.mt_text.specs.Text.{is_too_long, without_return}
use Rattle.mt_memory.specs.declared.format.Format.{Format}
use Rattle.mt_memory.specs.declared.format.Format.TheVariants as format
use Rattle.mt_memory.specs.declared.format.Shown.TheVariants.{Nothing}
use Rattle.mt_memory.specs.Log.{State, headed, taken, taken_in, taken_shown}
use Rattle.mt_memory.specs.Maps.{ReturnsChangeNothing, SpareHeads, SpareLines}
use Rattle.mt_memory.specs.Showing.{breaks_off, chosen, has_title, told_in}

pub spare_lines : SpareLines
spare_lines s format number line known short title shows breaks =
    let first : taken s number line ≡ Ok (taken_in s (Some format) number line) = rw (short, known) refl in
    first ∙ ap (λ shown. Ok (taken_shown (headed s format number line shown) shown number)) shows ∙ ap (λ next. Ok next) same
  where
    begun : (broken none : Bool) → broken ≡ false → (if none && broken then record s.begun { broken = number } else s.begun) ≡ s.begun
    begun broken true is = rw is refl
    begun broken false is = refl

    same : headed s format number line Nothing ≡ s
    same =
        ap (λ begun. record s { format = Some format; begun = begun; between = (has_title format line || false) || s.between }) (begun (breaks_off format line) (s.begun.broken == 0) breaks)
        ∙ ap (λ test. record s { format = Some format; between = (test || false) || s.between }) title ∙ ap (λ f. record s { format = f }) (sym known)

pub spare_heads : SpareHeads
spare_heads s number line short none = rw (short, none) refl

-- ---- a CR

without_last : (line : List ℕ) → without_return (line ++ 13 ∷ []) ≡ line
without_last [] = refl
without_last (x ∷ []) = refl
without_last (x ∷ y ∷ ys) = ap (λ l. x ∷ l) (without_last (y ∷ ys))

module _ (line : List ℕ) (plain : without_return line ≡ line) where
  same_line : without_return (line ++ 13 ∷ []) ≡ without_return line
  same_line = without_last line ∙ sym plain

  same_told : (f : Format) (number : ℕ) → told_in f number (line ++ 13 ∷ []) ≡ told_in f number line
  unfolding told_in
  same_told f number = rw same_line refl

  same_chosen : (known : Option Format) (number : ℕ) → chosen known number (line ++ 13 ∷ []) ≡ chosen known number line
  same_chosen (Some f) number = refl
  same_chosen None number = rw (same_told format.E820 number, same_told format.Efi number, same_told format.Coreboot number, same_told format.Iomem number) refl

  same_taken : (s : State) (found : Option Format) (number : ℕ) → taken_in s found number (line ++ 13 ∷ []) ≡ taken_in s found number line
  same_taken s None number = refl
  same_taken s (Some f) number = rw same_line refl

pub returns_nothing : ReturnsChangeNothing
returns_nothing s number line plain short =
    let size = length-append line (13 ∷ []) in
    let long : is_too_long (line ++ 13 ∷ []) ≡ false = few (length (line ++ 13 ∷ [])) (omega (arith, size, short)) in
    let same : is_too_long line ≡ false = few (length line) (omega (arith, short)) in
    rw (long, same, same_chosen line plain s.format number) (ap (λ next. Ok next) (same_taken line plain s (chosen s.format number line) number))
  where
    few : (count : ℕ) → count ≤ 4096 → nat_lt 4096 count ≡ false
    few count small = grind (arith, nat_tests, small)
