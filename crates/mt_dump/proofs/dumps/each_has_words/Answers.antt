use Rattle.std.proofs.Common.{◌≡◌, ◌<◌, ◌+◌, ℕ, suc, zero, List, [], ◌∷◌, length, drop, get_or, arith, subst}
use Rattle.std.specs.List.{AllByRecursion}
use Rattle.mt_regs.specs.RegisterFile.{RegisterFile}
use Rattle.mt_regs.specs.Words.{HasWords}
use Rattle.mt_dump.proofs.dumps.each_has_words.Goals as goal

-- one more at the front of what is left
step : (P : RegisterFile → Type 0) (files : List RegisterFile) (i : ℕ) (file : RegisterFile) → i < length files → file ≡ get_or files i file → P file → AllByRecursion P (drop (suc i) files) → AllByRecursion P (drop i files)
step P [] i file less is has rest = absurd (omega (arith, less))
step P (f ∷ files) zero file less is has rest = (subst P is has, rest)
step P (f ∷ files) (suc i) file less is has rest = step P files i file (omega (arith, less)) is has rest

pub files-preserved : goal.files-preserved
files-preserved c =
    let next : c.files.f-index + 1 ≡ suc c.files.f-index = omega arith in
    record { rest = λ rest. c.files.invariant.rest (step HasWords c.args.files.now c.files.f-index c.f-item.result c.files-test.true c.f-item.is c.has_words.ensures (subst (λ n. AllByRecursion HasWords (drop n c.args.files.now)) next rest)) }
