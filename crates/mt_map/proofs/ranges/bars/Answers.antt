use Rattle.std.proofs.Common.{◌≡◌, ◌∙◌, ◌++◌, ◌<◌, List, ℕ, ap, subst, sym, get_or, length, arith}
use Rattle.mt_regs.specs.Alike.{IsWhole}
use Rattle.mt_regs.specs.RegisterFile.{RegisterFile}
use Rattle.mt_regs.proofs.Whole.{whole_masks}
use Rattle.mt_map.specs.declared.bar.Bar.{Bar}
use Rattle.mt_map.specs.Shapes.{bars_of, pair_bars}
use Rattle.mt_map.proofs.Barring.{bars_end, bars_next}
use Rattle.mt_map.proofs.ranges.bars.Goals as goal

pub pairs-init : goal.pairs-init
pairs-init c = record {
  few = omega (arith, c.fixed_bars-bars.ensures.few);
  bars = λ checked. ap (λ (bars : List Bar). bars ++ pair_bars c.args.f.now (length bars) 0 c.args.f.now.pairs) c.fixed_bars-bars.ensures.bars;
}

pub pairs-preserved : goal.pairs-preserved
pairs-preserved c =
    let f = c.args.f.now in
    let n = c.pairs.n in
    let slice = c.as_slice-pairs.result.now in
    let pairs_are : slice ≡ f.pairs = c.as_slice-pairs.ensures.value ∙ ap (λ (g : RegisterFile). g.pairs) c.f.view_is in
    let pair_is : get_or slice n (0, 0) ≡ get_or f.pairs n (0, 0) = ap (λ (ps : List (ℕ × ℕ)). get_or ps n (0, 0)) pairs_are in
    let within : n < length f.pairs = omega (arith, ap length pairs_are) in
    record {
      few = omega (arith, c.add_pair.ensures.room);
      bars = λ checked.
          bars_next f n f.pairs (0, 0) (get_or slice n (0, 0)) c.pairs.bars.items c.add_pair.new.bars.items (bars_of f) within pair_is
          (c.add_pair.ensures.bar (subst (λ (pair : ℕ × ℕ). IsWhole f.width pair) (sym pair_is) (whole_masks f c.is_register_file.ensures.all_pairs checked n within)))
          (c.pairs.invariant.bars checked);
    }

pub returns : goal.returns
returns c = λ checked.
    let f = c.args.f.now in
    let slice = c.as_slice-pairs.result.now in
    let pairs_are : slice ≡ f.pairs = c.as_slice-pairs.ensures.value ∙ ap (λ (g : RegisterFile). g.pairs) c.f.view_is in
    bars_end f c.pairs.n f.pairs c.pairs.bars.items (bars_of f) (omega (arith, ap length pairs_are)) (c.pairs.invariant.bars checked)
