use Rattle.std.proofs.Common.{◌≡◌, ◌++◌, drop, map}
use Rattle.mt_tlb.specs.declared.entry.Entry.{Entry as TlbEntry}
use Rattle.mt_judge.specs.declared.picture.rows.Held.TheVariants.{Entry}
use Rattle.mt_judge.proofs.picture.rows.hold_entries.Given as goal

abbrev pub invariant-loop-entry : goal.invariant-loop-entry
invariant-loop-entry l =
    l.held.items ++ map (λ (e : TlbEntry). Entry e.vpage e.kind) (drop l.entry-index l.entries) ≡ l.fn.held.items ++ map (λ (e : TlbEntry). Entry e.vpage e.kind) l.entries
