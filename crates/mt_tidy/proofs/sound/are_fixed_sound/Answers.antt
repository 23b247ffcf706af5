use Rattle.std.proofs.Common.{◌≡◌, ◌∙◌, true, ap, arith, subst, sym, below_more}
use Rattle.std.specs.Prelude.{slice_index}
use Rattle.mt_tidy.specs.Sound.{has_types}
use Rattle.mt_tidy.proofs.sound.are_fixed_sound.Goals.{then-value-sound+else-not-has_types, else-value-sound}
use Rattle.mt_tidy.proofs.sound.are_fixed_sound.Goals as goal

pub loop-value-preserved : goal.loop-value-preserved
loop-value-preserved c =
    let at : slice_index c.f.inside.fixed c.loop-value.value-index ≡ slice_index c.args.f.now.fixed c.loop-value.value-index =
    ap (λ g. slice_index g.fixed c.loop-value.value-index) c.f.view_is in
    elim c.if-value-sound.branch [
      | then-value-sound+else-not-has_types w ↦
          let passes = w.has_types.ensures w.if-not-has_types.false in
          record {
            known = ap (has_types c.has_write_combining-has_combining.result) w.sound-is ∙ passes;
            passed = below_more _ _ c.loop-value.invariant.passed (ap (has_types c.has_write_combining-has_combining.result) (sym at) ∙ passes);
          }
      | else-value-sound w ↦ record {
        known = ap (has_types c.has_write_combining-has_combining.result) w.sound-is ∙ c.loop-value.invariant.known;
        passed = below_more _ _ c.loop-value.invariant.passed
            (ap (has_types c.has_write_combining-has_combining.result) (sym at ∙ w.if-value-sound.false) ∙ c.loop-value.invariant.known);
      }
    ]

pub returns : goal.returns
returns c = λ _ place below.
    subst (λ combining. has_types combining (slice_index c.args.f.now.fixed place) ≡ true) c.has_write_combining-has_combining.ensures
    (c.loop-value.invariant.passed place (omega arith))
