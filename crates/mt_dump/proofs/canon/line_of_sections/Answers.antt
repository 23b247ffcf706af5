use Rattle.std.proofs.Common.{◌≡◌, ◌≢◌, ◌∙◌, ◌+◌, ◌-◌, ◌/◌, ◌%◌, ℕ, zero, suc, List, ◌∷◌, refl, arith, ap, length, slice_get}
use Rattle.mt_regs.specs.Registers.{writable}
use Rattle.mt_dump.specs.Canon.{file_lines, section_line}
use Rattle.mt_dump.proofs.Canonical.{no_section_line, some_section_line}
use Rattle.mt_dump.proofs.canon.line_of_sections.Goals as goal

pub returns-in_default : goal.returns-in_default
returns-in_default c =
    let counted = c.count-count.ensures.count ∙ ap (λ f. length (writable f)) c.first_file.ensures in
    rw (no_section_line c.args.d.now c.args.line c.count-count.result c.is_dump.ensures counted c.in_default.ensures) c.new.ensures

-- the lines behind a section's own
behind : (first : List ℕ) (lines : List (List ℕ)) (place : ℕ) → place ≢ 0 → slice_get (first ∷ lines) place ≡ slice_get lines (place - 1)
behind first lines zero some = absurd (some refl)
behind first lines (suc place) some = let e : place ≡ suc place - 1 = omega arith in ap (slice_get lines) e

pub returns-then-place-eq0 : goal.returns-then-place-eq0
returns-then-place-eq0 c =
    let counted = c.count-count.ensures.count ∙ ap (λ f. length (writable f)) c.first_file.ensures in
    rw (some_section_line c.args.d.now c.args.line c.count-count.result c.in-Some.f.now c.is_dump.ensures counted c.in-Some.ensures, c.if-place-eq0.true) c.section_line.ensures

pub returns-else-place-eq0 : goal.returns-else-place-eq0
returns-else-place-eq0 c =
    let count = c.count-count.result + 3 in
    let counted = c.count-count.ensures.count ∙ ap (λ f. length (writable f)) c.first_file.ensures in
    let found = some_section_line c.args.d.now c.args.line c.count-count.result c.in-Some.f.now c.is_dump.ensures counted c.in-Some.ensures in
    let line = behind (section_line (c.args.line / count)) (file_lines c.in-Some.f.now) (c.args.line % count) c.if-place-eq0.false in
    rw (found ∙ line) c.file_line.ensures
