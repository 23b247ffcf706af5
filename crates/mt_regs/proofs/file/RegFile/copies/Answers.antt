use Rattle.std.proofs.Common.{◌≡◌, ◌∙◌, ap, sym, subst, arith, ℕ, replicate}
use Rattle.mt_regs.specs.StartFiles.{AreStartFiles}
use Rattle.mt_regs.proofs.StartFiles.{copies_start}
use Rattle.mt_regs.proofs.file.RegFile.copies.Goals as goal

pub returns-clause-start : goal.returns-clause-start
returns-clause-start c =
    let all : c.loop.counter ≡ c.args.count = omega arith in
    λ accepted. subst AreStartFiles (sym (c.loop.invariant ∙ ap (λ (n : ℕ). replicate n c.args.self.now) all)) (copies_start c.args.count c.args.self.now c.is_register_file.ensures accepted)
