use Rattle.std.proofs.Common.{◌∷◌, sym, subst, arith, Ok}
use Rattle.mt_dump.specs.Reader.{HasRead}
use Rattle.mt_dump.specs.Seen.{state_of}
use Rattle.mt_dump.specs.declared.said.Said.TheVariants.{Section}
use Rattle.mt_dump.proofs.Held.{section_too_early, width_bounds, few_files, holds_next_section, holds_first_section}
use Rattle.mt_dump.proofs.reader.DumpReader.take_section.Goals.{then-number-gt0+in-Some, else-number-gt0}
use Rattle.mt_dump.proofs.reader.DumpReader.take_section.Goals as goal

pub returns-in_default : goal.returns-in_default
returns-in_default c = λ before read.
    let held = subst (λ s. HasRead s before) (sym c.self.view_is) read in
    (rw c.fault-in_default.ensures (section_too_early (state_of c.self.inside) before c.args.number c.args.place held c.if-self-ne2.false c.if-number-self.false c.if-number-gt0.true c.in_default.is), c.self.view_is)

pub end_section-requires : goal.end_section-requires
end_section-requires c = width_bounds (state_of c.self.inside) c.self.invariant.0 c.self.invariant.1

pub push-requires : goal.push-requires
push-requires c =
    let few = few_files (state_of c.self.inside) c.self.invariant.0 c.in-Some.file c.self.invariant.1 c.in-Some.is in
    (omega arith, omega (arith, few))

pub invariant_of-self-2 : goal.invariant_of-self-2
invariant_of-self-2 c =
    let read = c.self.invariant in
    elim c.if-number-gt0.branch [
      | then-number-gt0+in-Some w ↦ rw w.self-inside-is (
        Ok (Section c.args.number c.args.place) ∷ read.0,
        holds_next_section (state_of c.self.inside) read.0 c.args.number c.args.place w.in-Some.file w.end_section.result w.end_section.new.file w.push.new.self.items read.1 c.if-self-ne2.false c.if-number-self.false c.requires w.in-Some.is
            w.end_section.ensures.ended w.end_section.ensures.next w.push.ensures.items,
      )
      | else-number-gt0 w ↦ rw w.self-inside-is (
        Ok (Section c.args.number c.args.place) ∷ read.0,
        holds_first_section (state_of c.self.inside) read.0 c.args.number c.args.place read.1 c.if-self-ne2.false c.if-number-self.false (let e = w.if-number-gt0.false in omega (arith, e)),
      )
    ]

pub returns : goal.returns
returns c = λ before read.
    let held = subst (λ s. HasRead s before) (sym c.self.view_is) read in
    elim c.if-number-gt0.branch [
      | then-number-gt0+in-Some w ↦ rw w.self-inside-is (holds_next_section (state_of c.self.inside) before c.args.number c.args.place w.in-Some.file w.end_section.result w.end_section.new.file w.push.new.self.items held c.if-self-ne2.false c.if-number-self.false c.requires w.in-Some.is
          w.end_section.ensures.ended w.end_section.ensures.next w.push.ensures.items)
      | else-number-gt0 w ↦ rw w.self-inside-is (holds_first_section (state_of c.self.inside) before c.args.number c.args.place held c.if-self-ne2.false c.if-number-self.false (let e = w.if-number-gt0.false in omega (arith, e)))
    ]
