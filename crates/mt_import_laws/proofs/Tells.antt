-- Whether a line tells a format, by its words.
use Rattle.std.proofs.Common.{◌≡◌, ◌∙◌, ◌==◌, ℕ, true, false, List, [], ◌∷◌, drop, take, refl, ap, codes}
use Rattle.std.specs.Prelude.{if◌then◌else◌}
use Rattle.std.specs.List.{list_all}
use Rattle.mt_text.proofs.Plain.{is_plain, plain_ending}
use Rattle.mt_text.specs.Text.{words_of}
use Rattle.mt_text.specs.Words.{text_of}
use Rattle.mt_import.specs.declared.format.Format.TheVariants.{Coreboot, Edk2, Linux, Xen}
use Rattle.mt_import.specs.declared.reading.LineSays.TheVariants.{Nothing}
use Rattle.mt_import.specs.Coreboot.{level_words, said_from}
use Rattle.mt_import.specs.Edk2.{said_by_words as edk2_words}
use Rattle.mt_import.specs.Kernel.{kernel_said}
use Rattle.mt_import.specs.LineWords.{behind_stamp, head_end}
use Rattle.mt_import.specs.Linux.{linux_words_said}
use Rattle.mt_import.specs.Pieces.{is_text}
use Rattle.mt_import.specs.Shown.{is_telling, said_by_line, tells, unmarked}
use Rattle.mt_import.specs.Tables.{each_said}

-- a byte that no byte-order mark begins with
pub no_mark : (byte : ℕ) (rest : List ℕ) → (byte == 239) ≡ false → unmarked (byte ∷ rest) ≡ byte ∷ rest
no_mark byte [] other = refl
no_mark byte (b ∷ []) other = refl
no_mark byte (b ∷ c ∷ rest) other = rw other refl

-- a line of plain bytes whose first byte begins no UTF-16
pub no_utf16 : (number byte : ℕ) (rest : List ℕ) → list_all is_plain (byte ∷ rest) ≡ true → (255 == byte) ≡ false → (254 == byte) ≡ false → each_said number (byte ∷ rest) ≡ Nothing
no_utf16 number byte rest plain no_ff no_fe = rw (plain_ending (byte ∷ rest) plain, no_ff, no_fe) refl

module _ (number : ℕ) (line : List ℕ) (own : unmarked line ≡ line) (words : List (ℕ × List ℕ)) (are : words_of line ≡ words) where
  pub xen_by : tells Xen number line ≡ is_telling (if is_text (codes "(XEN)") (text_of words 0) then kernel_said true number (drop (behind_stamp 1 words) words) else Nothing)
  unfolding tells
  xen_by = ap (λ l. is_telling (said_by_line Xen number l)) own ∙ ap (λ ws. is_telling (if is_text (codes "(XEN)") (text_of ws 0) then kernel_said true number (drop (behind_stamp 1 ws) ws) else Nothing)) are

  pub linux_by : tells Linux number line ≡ is_telling (linux_words_said number (drop (head_end words) words))
  unfolding tells
  linux_by = ap (λ l. is_telling (said_by_line Linux number l)) own ∙ ap (λ ws. is_telling (linux_words_said number (drop (head_end ws) ws))) are

  pub coreboot_by : tells Coreboot number line ≡ is_telling (said_from (level_words words) number words)
  unfolding tells
  coreboot_by = ap (λ l. is_telling (said_by_line Coreboot number l)) own ∙ ap (λ ws. is_telling (said_from (level_words ws) number ws)) are

  pub edk2_by : tells Edk2 number line ≡ is_telling (edk2_words number (take 7 words))
  unfolding tells
  edk2_by = ap (λ l. is_telling (said_by_line Edk2 number l)) own ∙ ap (λ ws. is_telling (edk2_words number (take 7 ws))) are
