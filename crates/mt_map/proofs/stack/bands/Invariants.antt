use Rattle.std.proofs.Common.{◌≡◌, ◌≤◌, ◌*◌, ◌^◌, ◌++◌, drop}
use Rattle.std.specs.List.{All}
use Rattle.mt_map.specs.Bands.{IsPlaced, bands, bands_from, bottom, bottom_from}
use Rattle.mt_map.proofs.stack.bands.Given as goal

abbrev pub invariant-cuts : goal.invariant-cuts
invariant-cuts l = record {
  items : l.bands.items ++ bands_from l.f l.others l.page l.top (drop l.cut-index l.cuts) ≡ bands l.f l.others l.cuts;
  bottom : bottom_from l.f l.page l.top (drop l.cut-index l.cuts) ≡ bottom l.f l.cuts;
  placed : All IsPlaced l.bands.items;
  page : l.page ≤ 2 ^ 40;
  top : l.top ≤ 26 * l.page;
}
