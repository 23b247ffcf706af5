use Rattle.std.proofs.Common.{◌∙◌, ap, refl, ℕ, ◌≤◌, ◌+◌, List, length, map, slice_range, arith}
use Rattle.mt_machine.specs.Memory as machine
use Rattle.mt_ram.specs.Windows.{window_of, with_line}
use Rattle.mt_ram.proofs.Windows.{line_within}
use Rattle.mt_ram.proofs.Front.{lent_behind, range_behind, rewritten}
use Rattle.mt_ram.proofs.ram.Ram.line_mut.Goals as goal

pub slice_mut-requires-clause-in_bounds : goal.slice_mut-requires-clause-in_bounds
slice_mut-requires-clause-in_bounds c =
    let full = c.self.inside.words.ok.0 in
    let within = line_within _ c.self.inside.words.items _ c.args.i c.self.invariant c.self.view_is c.requires.line c.requires.within in
    omega arith

pub invariant_of-self-lent : goal.invariant_of-self-lent
invariant_of-self-lent c =
    let items = c.self.inside.words.items in
    let within : 18 + c.args.i + 8 ≤ length items = line_within _ items _ c.args.i c.self.invariant c.self.view_is c.requires.line c.requires.within in
    λ w. rewritten _ items _ _ c.self.invariant (lent_behind c.self.inside.words c.args.i w c.self.inside.words.ok.0 (omega arith))

pub returns : goal.returns
returns c =
    let items = c.self.inside.words.items in
    let within : 18 + c.args.i + 8 ≤ length items = line_within _ items _ c.args.i c.self.invariant c.self.view_is c.requires.line c.requires.within in
    let of : List ℕ → machine.Memory = λ (xs : List ℕ). record { windows = map window_of c.self.inside.windows.items; words = xs } in (
      (refl, λ w. ap of (lent_behind c.self.inside.words c.args.i w c.self.inside.words.ok.0 (omega arith)).words ∙ ap (λ m. with_line c.args.i m w) c.self.view_is),
      record {
        writes_back = _;
        value = c.slice_mut.ensures.value ∙ range_behind 18 c.args.i 8 items ∙ ap (λ (m : machine.Memory). slice_range m.words c.args.i (c.args.i + 8)) c.self.view_is;
        whole = let size = c.slice_mut.ensures.len in omega arith;
      },
    )
