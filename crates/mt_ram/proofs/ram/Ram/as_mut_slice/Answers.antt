use Rattle.std.proofs.Common.{◌≡◌, ◌∙◌, ap, refl, ℕ, min, List, length, map, arith}
use Rattle.mt_machine.specs.Memory as machine
use Rattle.mt_ram.specs.Windows.{window_of, with_words}
use Rattle.mt_ram.proofs.Front.{all_behind, all_range}
use Rattle.mt_ram.proofs.ram.Ram.as_mut_slice.Goals as goal

pub returns : goal.returns
returns c =
    let items = c.self.inside.words.items in
    let full = c.self.inside.words.ok.0 in
    let size = c.len-size.ensures ∙ full in
    let start : c.min.result ≡ min 18 (length items) = let m = c.min.ensures in omega arith in
    let of : List ℕ → machine.Memory = λ (xs : List ℕ). record { windows = map window_of c.self.inside.windows.items; words = xs } in
    let value = c.slice_mut.ensures.value ∙ all_range items c.min.result c.len-size.result start size ∙ ap (λ (m : machine.Memory). m.words) c.self.view_is in (
      (refl, λ w. ap of (all_behind c.self.inside.words c.min.result w full c.self.invariant.front start).words ∙ ap (λ (m : machine.Memory). with_words m w) c.self.view_is),
      record { writes_back = _; value = value; whole = ap length value },
    )
