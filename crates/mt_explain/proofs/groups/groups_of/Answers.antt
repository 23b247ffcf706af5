use Rattle.std.proofs.Common.{◌≡◌, ◌∙◌, [], ◌∷◌, ◌++◌, ap}
use Rattle.mt_explain.specs.Clashes.{numbers}
use Rattle.mt_explain.proofs.Grouped.{group_of, led, not_led}
use Rattle.mt_explain.proofs.groups.groups_of.Goals as goal
use Rattle.mt_explain.proofs.groups.groups_of.Goals.{else-firsts-k, then-firsts-k+in_ok-push}

pub loop-k-preserved : goal.loop-k-preserved
loop-k-preserved c =
    let firsts = c.as_slice-firsts.result.now in
    let k = c.loop-k.k in
    let before = c.loop-k.groups.items in
    let after = c.if-firsts-k.groups.items in
    elim c.if-firsts-k.branch [
      | then-firsts-k+in_ok-push w ↦
          let group : w.members.result ≡ group_of firsts k k = ap numbers w.members.ensures in
          let added : after ≡ before ++ group_of firsts k k ∷ [] = cc (w.groups-is, w.in_ok-push.ensures.items, group) in
          led firsts k before after c.loop-k.invariant w.if-firsts-k.true added
      | else-firsts-k w ↦
          let same : after ≡ before = cc (w.groups-is) in
          same ∙ not_led firsts k before c.loop-k.invariant w.if-firsts-k.false
    ]
