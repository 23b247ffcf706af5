-- The canonical text, one line after the other.
use Rattle.std.proofs.Common.{◌≡◌, ℕ, zero, suc, ◌+◌, ◌*◌, ◌<◌, List, [], ◌∷◌, ◌++◌, length, take, Some, refl, sym, ap, ◌∙◌, append_assoc, add-one, arith, length-append}
use Rattle.std.specs.Prelude.{MatchOption, slice_get, true, ◌==◌}
use Rattle.mt_regs.specs.RegisterFile.{RegisterFile}
use Rattle.mt_regs.specs.Registers.{writable}
use Rattle.mt_dump.specs.Canon.{canon_lines, ended, file_lines, section_lines}
use Rattle.mt_dump.specs.Dumps.{Dump, IsDump, first_file}
use Rattle.mt_dump.proofs.Canonical.{HaveLines, have_lines}

ended_take : (lines : List (List ℕ)) (i : ℕ) (x : List ℕ) → slice_get lines i ≡ Some x → ended (take (suc i) lines) ≡ ended (take i lines) ++ (x ++ 10 ∷ [])
ended_take [] i x at = absurd (cc at)
ended_take (line ∷ lines) zero x at = let same : line ≡ x = cc at in ap (λ (l : List ℕ). l ++ 10 ∷ []) same
ended_take (line ∷ lines) (suc i) x at =
    ap (λ (l : List ℕ). line ++ 10 ∷ l) (ended_take lines i x at) ∙ sym (append_assoc line (10 ∷ ended (take i lines)) (x ++ 10 ∷ []))

some_line : (lines : List (List ℕ)) (i : ℕ) → i < length lines → (x : List ℕ) × (slice_get lines i ≡ Some x)
some_line [] i within = absurd (omega arith)
some_line (line ∷ lines) zero within = (line, refl)
some_line (line ∷ lines) (suc i) within = some_line lines i (omega arith)

-- one more line stands in the text
pub line_more : (lines : List (List ℕ)) (i count : ℕ) (piece base old new : List ℕ) → i < length lines
    → MatchOption (slice_get lines i) (count ≡ 0) (λ text. (count ≡ length text + 1) × (piece ≡ text ++ 10 ∷ []))
    → old ≡ base ++ ended (take i lines) → new ≡ old ++ piece → new ≡ base ++ ended (take (i + 1) lines)
line_more lines i count piece base old new within told before after =
    let (x, at) = some_line lines i within in
    let wrote : (count ≡ length x + 1) × (piece ≡ x ++ 10 ∷ []) = rw at at told in
    rw (add-one, ended_take lines i x at)
    (after ∙ ap (λ (l : List ℕ). l ++ piece) before ∙ append_assoc base (ended (take i lines)) piece ∙ ap (λ (l : List ℕ). base ++ (ended (take i lines) ++ l)) wrote.1)

-- each section has as many lines as the first
section_count : (number count : ℕ) (files : List RegisterFile) → HaveLines count files → length (section_lines number files) ≡ length files * count
section_count number count [] have = omega arith
section_count number count (file ∷ files) have =
    let later = section_count (number + 1) count files have.1 in
    let here = have.0 in
    let parts = length-append (file_lines file) (section_lines (number + 1) files) in
    omega (arith, later, here, parts)

-- version 2 has a line of its own and those of its sections
pub version_2_count : (dump : Dump) (files count : ℕ) → dump.version ≡ 2 → IsDump dump → files ≡ length dump.files → count ≡ length (writable (first_file dump)) → 1 + files * (count + 2 + 1) ≡ length (canon_lines dump)
version_2_count dump files count two is files_is count_is =
    let test : (dump.version == 2) ≡ true = ap (λ v. v == 2) two in
    let sections = section_count 0 _ dump.files (have_lines (first_file dump) dump.files is.one_capabilities) in
    rw (files_is, count_is, test) (omega (arith, sections))
