-- The size of a band as a picture tells it (own).
--     kilobytes unit      how many kilobytes a unit has
--     IsNear pages size      so many pages of 4 KB are the size, to the nearest tenth of a unit
--     IsShort size      the size has at most four digits before the point and one behind it, which an exact one hasn't
use Rattle.std.specs.Prelude.{ℕ, ◌≡◌, ◌+◌, ◌*◌, ◌<◌, ◌≤◌, false}
use Rattle.mt_map.specs.declared.size.Unit.{Unit}
use Rattle.mt_map.specs.declared.size.Unit.TheVariants.{Kilobyte, Megabyte, Gigabyte, Terabyte}
use Rattle.mt_map.specs.declared.size.Size.{Size}

abbrev pub kilobytes : Unit → ℕ
kilobytes Kilobyte = 1
kilobytes Megabyte = 0x400
kilobytes Gigabyte = 0x100000
kilobytes Terabyte = 0x40000000

-- twice the difference is at most a tenth of a unit
pub record IsNear (pages : ℕ) (s : Size) : Type 0 where
  pub above : 2 * ((10 * s.count + s.tenths) * kilobytes s.unit) ≤ 80 * pages + kilobytes s.unit
  pub below : 80 * pages ≤ 2 * ((10 * s.count + s.tenths) * kilobytes s.unit) + kilobytes s.unit

pub record IsShort (s : Size) : Type 0 where
  pub digits : s.count < 10000
  pub tenths : s.tenths < 10
  pub rounded : s.is_rounded ≡ false → s.tenths ≡ 0
