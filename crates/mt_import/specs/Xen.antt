-- Lines of Xen's console on MTRRs. Source: Xen 4.17: xen/arch/x86/cpu/mtrr/generic.c, `print_mtrr_state`, behind `(XEN) ` and a time stamp: xen/drivers/char/console.c, `printk_start_of_line`.
--     xen_said number line      what a line says
use Rattle.std.specs.Prelude.{ℕ, codes, true, List, if◌then◌else◌}
use Rattle.mt_text.specs.Text.{words_of}
use Rattle.mt_text.specs.Words.{text_of}
use Rattle.mt_import.specs.declared.reading.LineSays.{LineSays}
use Rattle.mt_import.specs.declared.reading.LineSays.TheVariants.{Nothing}
use Rattle.mt_import.specs.Pieces.{is_text}
use Rattle.mt_import.specs.LineWords.{behind_stamp, words_behind}
use Rattle.mt_import.specs.Kernel.{kernel_said}

-- The line on fixed ranges shows FE whatever E is.
abbrev pub xen_said : ℕ → List ℕ → LineSays
xen_said number line =
    if is_text (codes "(XEN)") (text_of (words_of line) 0) then kernel_said true number (words_behind (behind_stamp 1 (words_of line)) line) else Nothing
