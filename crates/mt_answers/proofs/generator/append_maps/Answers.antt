use Rattle.std.proofs.Common.{◌≡◌, ◌-◌, ◌++◌, arith, string_bytes}
use Rattle.mt_answers.specs.Generator.{maps}
use Rattle.mt_answers.proofs.Making.{maps_end, maps_on}
use Rattle.mt_answers.proofs.generator.append_maps.Goals as goal

pub pages-preserved : goal.pages-preserved
pages-preserved c =
    rw c.in_ok-append_map.ensures (maps_on (string_bytes c.pages.text) (string_bytes c.args.text.now ++ maps 64 c.args.cpu 0) c.args.cpu c.pages.page c.pages-test.true c.pages.invariant)

pub returns : goal.returns
returns c =
    let none : 64 - c.pages.page ≡ 0 = omega arith in
    maps_end (string_bytes c.pages.text) (string_bytes c.args.text.now ++ maps 64 c.args.cpu 0) c.args.cpu c.pages.page (rw none at c.pages.invariant)
