use Rattle.std.proofs.lemmas.Bool.{eqb-true}
use Rattle.mt_tlb.specs.declared.entry.Entry.{Entry}
use Rattle.mt_lists.proofs.Places.{place_is}
use Rattle.mt_tlb.proofs.tlb.is_at.Goals as goal

pub returns-then-i-entries : goal.returns-then-i-entries
returns-then-i-entries c = λ same. place_is (λ (e : Entry). e.vpage) c.args.vpage c.args.entries.now c.args.i _ c.requires c.if-i-entries.true (eqb-true _ _ same)
