-- Words that are no line of a kernel.
use Rattle.std.proofs.Common.{◌≡◌, ◌∙◌, ◌==◌, ◌&&◌, ℕ, Bool, true, false, List, length, refl, ap, inl, inr, codes}
use Rattle.std.specs.Prelude.{◌⊎◌, if◌then◌else◌, is_some}
use Rattle.mt_text.specs.Words.{text_of}
use Rattle.mt_import.specs.declared.reading.LineSays.{LineSays}
use Rattle.mt_import.specs.declared.reading.LineSays.TheVariants.{Nothing}
use Rattle.mt_import.specs.Kernel.{head_said, kernel_said, run_said}
use Rattle.mt_import.specs.LineWords.{behind_facility, behind_log, is_iso}
use Rattle.mt_import.specs.Linux.{is_pat_name, linux_words_said}
use Rattle.mt_import.specs.Pieces.{behind, is_text}

pub if_nothing : (test : Bool) (x y : LineSays) → x ≡ Nothing → y ≡ Nothing → (if test then x else y) ≡ Nothing
if_nothing true x y one two = one
if_nothing false x y one two = two

pub if_off : (test : Bool) (x y : LineSays) → test ≡ false → y ≡ Nothing → (if test then x else y) ≡ Nothing
if_off test x y off two = ap (λ b. if b then x else y) off ∙ two

pub and_left : (a b : Bool) → a ≡ false → (a && b) ≡ false
and_left a b off = ap (λ c. c && b) off

pub and_right : (a b : Bool) → b ≡ false → (a && b) ≡ false
and_right true b off = off
and_right false b off = refl

module _ (number : ℕ) (words : List (ℕ × List ℕ)) where
  pub kernel_none : (alone : Bool) → head_said alone number words ≡ Nothing → is_text (codes "disabled") (text_of words 1) ≡ false
      → ((length words == 2) ≡ false) ⊎ (run_said number words ≡ Nothing) → is_text (codes "base") (text_of words 1) ≡ false → kernel_said alone number words ≡ Nothing
  kernel_none alone head disabled (inl longer) base =
      if_nothing _ _ _ head (if_off _ _ _ (and_right (length words == 2) _ disabled) (if_off _ _ _ longer (if_off _ _ _ (and_left _ _ (and_right (length words == 6) _ base)) refl)))
  kernel_none alone head disabled (inr run) base =
      if_nothing _ _ _ head (if_off _ _ _ (and_right (length words == 2) _ disabled) (if_nothing _ _ _ run (if_off _ _ _ (and_left _ _ (and_right (length words == 6) _ base)) refl)))

  pub linux_none : is_text (codes "x86") (text_of words 0) ≡ false → is_pat_name (text_of words 0) ≡ false → is_text (codes "reg") (text_of words 0) ≡ false
      → is_some (behind (codes "reg") (text_of words 0)) ≡ false → is_text (codes "map:") (text_of words 1) ≡ false → kernel_said false number words ≡ Nothing → linux_words_said number words ≡ Nothing
  linux_none one two three four map kernel =
      if_off _ _ _ one (if_off _ _ _ two (if_off _ _ _ three (if_off _ _ _ four
      (if_off _ _ _ (and_left _ _ (and_left _ _ (and_left _ _ (and_left _ _ (and_left _ _ (and_right (length words == 16) _ map)))))) kernel))))

-- a line that journalctl and syslog didn't write
pub log_front : (words : List (ℕ × List ℕ)) → is_text (codes "kernel:") (text_of words 2) ≡ false → is_text (codes "kernel:") (text_of words 4) ≡ false
    → behind_log words ≡ (if is_iso (text_of words 0) then 1 else behind_facility words)
log_front words third fifth =
    ap (λ test. if test then 3 else if is_text (codes "kernel:") (text_of words 4) then 5 else if is_iso (text_of words 0) then 1 else behind_facility words) third
    ∙ ap (λ test. if test then 5 else if is_iso (text_of words 0) then 1 else behind_facility words) fifth
