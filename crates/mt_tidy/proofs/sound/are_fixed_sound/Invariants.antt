use Rattle.std.proofs.Common.{◌≡◌, ℕ, ◌<◌, true}
use Rattle.std.specs.Prelude.{slice_index}
use Rattle.mt_tidy.specs.Sound.{has_types}
use Rattle.mt_tidy.proofs.sound.are_fixed_sound.Given as goal

abbrev pub invariant-loop-value : goal.invariant-loop-value
invariant-loop-value l = record {
  known : has_types l.has_combining l.sound ≡ true;
  passed : (place : ℕ) → place < l.value-index → has_types l.has_combining (slice_index l.f.fixed place) ≡ true;
}
