use Rattle.std.proofs.Common.{◌∷◌, ◌∙◌, sym, subst, refl, ap, Ok}
use Rattle.mt_dump.specs.Reader.{HasRead}
use Rattle.mt_dump.specs.Seen.{state_of}
use Rattle.mt_dump.specs.declared.said.Said.TheVariants.{Register}
use Rattle.mt_dump.proofs.Held.{holds_first_capabilities, differing_capabilities, repeated_capabilities, holds_capabilities}
use Rattle.mt_dump.proofs.reader.DumpReader.take_capabilities.Goals as goal

pub invariant_of-self : goal.invariant_of-self
invariant_of-self c =
    let read = c.self.invariant in
    let inside = sym (c.is_outside.ensures read.0 (subst (λ s. HasRead s read.0) c.self.view_is read.1)) ∙ c.if-is_outside.false in
    (Ok (Register 0xfe c.args.value c.args.first c.args.second) ∷ read.0, rw c.in-Ok.ensures.file (holds_first_capabilities (state_of c.self.inside) read.0 c.args.value c.args.first c.args.second read.1 inside c.in_default.is c.requires))

pub returns-in_default : goal.returns-in_default
returns-in_default c = λ before read.
    let held = subst (λ s. HasRead s before) (sym c.self.view_is) read in
    let inside = sym (c.is_outside.ensures before read) ∙ c.if-is_outside.false in
    rw c.in-Ok.ensures.file (holds_first_capabilities (state_of c.self.inside) before c.args.value c.args.first c.args.second held inside c.in_default.is c.requires)

pub returns-then-differs : goal.returns-then-differs
returns-then-differs c = λ before read.
    let held = subst (λ s. HasRead s before) (sym c.self.view_is) read in
    let inside = sym (c.is_outside.ensures before read) ∙ c.if-is_outside.false in
    let file = c.in-Some.file in
    let test = rw (ap (λ f. f.capabilities) c.file.view_is) at (sym c.differs.ensures ∙ c.if-differs.true) in
    (rw c.fault-then-differs.ensures (differing_capabilities (state_of c.self.inside) before c.args.value c.args.first c.args.second file held inside c.in-Some.is test), refl)

pub returns-then-self : goal.returns-then-self
returns-then-self c = λ before read.
    let held = subst (λ s. HasRead s before) (sym c.self.view_is) read in
    let inside = sym (c.is_outside.ensures before read) ∙ c.if-is_outside.false in
    let file = c.in-Some.file in
    let test = rw (ap (λ f. f.capabilities) c.file.view_is) at (sym c.differs.ensures ∙ c.if-differs.false) in
    (rw c.fault-then-self.ensures (repeated_capabilities (state_of c.self.inside) before c.args.value c.args.first c.args.second file held inside c.in-Some.is test c.if-self.true), refl)

pub invariant_of-self-2 : goal.invariant_of-self-2
invariant_of-self-2 c =
    let read = c.self.invariant in
    let inside = sym (c.is_outside.ensures read.0 (subst (λ s. HasRead s read.0) c.self.view_is read.1)) ∙ c.if-is_outside.false in
    let file = c.in-Some.file in
    let test = rw (ap (λ f. f.capabilities) c.file.view_is) at (sym c.differs.ensures ∙ c.if-differs.false) in
    (Ok (Register 0xfe c.args.value c.args.first c.args.second) ∷ read.0, holds_capabilities (state_of c.self.inside) read.0 c.args.value c.args.first c.args.second file read.1 inside c.in-Some.is test c.if-self.false c.requires)

pub returns : goal.returns
returns c = λ before read.
    let held = subst (λ s. HasRead s before) (sym c.self.view_is) read in
    let inside = sym (c.is_outside.ensures before read) ∙ c.if-is_outside.false in
    let file = c.in-Some.file in
    let test = rw (ap (λ f. f.capabilities) c.file.view_is) at (sym c.differs.ensures ∙ c.if-differs.false) in
    holds_capabilities (state_of c.self.inside) before c.args.value c.args.first c.args.second file held inside c.in-Some.is test c.if-self.false c.requires
