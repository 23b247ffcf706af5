-- Room for what is still to be laid.
use Rattle.std.proofs.Common.{◌≡◌, ◌∙◌, ℕ, ◌+◌, ◌<◌, List, length, Option, None, Some, sym, ap, subst, ◌-◌, arith}
use Rattle.std.specs.Prelude.{IsTrue}
use Rattle.mt_regs.specs.RegisterFile.{RegisterFile, is_enabled}
use Rattle.mt_tidy.specs.Cost.{cost, plus, rules_of, task_by}
use Rattle.mt_tidy.specs.LeastList.{IsLeastList}
use Rattle.mt_tidy.specs.Ranges.{IsAllowed}
use Rattle.mt_tidy.specs.Wanted.{Gives, IsLeastFor, IsWanted}
use Rattle.mt_tidy.specs.declared.rules.Rules.{Rules}
use Rattle.mt_tidy.proofs.WholeCost.{cost_is_least}
use Rattle.mt_types.specs.declared.run.Run.{Run}
use Rattle.mt_tidy.specs.Room.{HasRoom}
use Rattle.mt_tidy.specs.declared.range.Range.{Range}
use Rattle.mt_tidy.proofs.Sums.{plus_is}
use Rattle.mt_trie.specs.declared.context.Context.TheVariants.{Untouched}

same_number : (n m : ℕ) → Some n ≡ Some m → n ≡ m
same_number n m e = cc

pub not_some : (n : ℕ) → None ≡ Some n → ⊥
not_some n e = cc

pub room_is : (a b : Option ℕ) (out : List Range) → a ≡ b → HasRoom a out → HasRoom b out
room_is a b out same room = record { count = room.count; costs = sym same ∙ room.costs; few = room.few }

-- where one range is laid and so much is left, there is room for the range
pub room_for_one : (rest : Option ℕ) (out : List Range) → HasRoom (plus (Some 1) rest) out → length out < 32
room_for_one rest out room =
    let parts = plus_is (Some 1) rest room.count room.costs in
    omega (arith, room.few, parts.4, same_number 1 parts.0 parts.2)

pub room_behind_one : (rest : Option ℕ) (out new : List Range) → HasRoom (plus (Some 1) rest) out → length new ≡ length out + 1 → HasRoom rest new
room_behind_one rest out new room longer =
    let parts = plus_is (Some 1) rest room.count room.costs in
    record { count = parts.1; costs = parts.3; few = omega (arith, room.few, parts.4, same_number 1 parts.0 parts.2, longer) }

-- room for the first of two parts, and behind what it took for the second
pub room_first : (a b : Option ℕ) (out : List Range) → HasRoom (plus a b) out → HasRoom a out
room_first a b out room =
    let parts = plus_is a b room.count room.costs in
    record { count = parts.0; costs = parts.2; few = omega (arith, room.few, parts.4) }

pub room_second : (a b : Option ℕ) (out new : List Range) (n : ℕ) → HasRoom (plus a b) out → a ≡ Some n → length new ≡ length out + n → HasRoom b new
room_second a b out new n room took longer =
    let parts = plus_is a b room.count room.costs in
    record { count = parts.1; costs = parts.3; few = omega (arith, room.few, parts.4, same_number parts.0 n (sym parts.2 ∙ took), longer) }

-- the number of ranges that a file's pages cost is their least number
pub number_least : (f : RegisterFile) (runs : List Run) (chunk : ℕ) → IsTrue (is_enabled f) → IsWanted f runs → (rules : Rules) (log needs : ℕ)
    → rules ≡ rules_of f chunk → log ≡ f.width - 12 → cost (task_by rules runs) log 0 Untouched ≡ Some needs → IsLeastFor f runs chunk needs
number_least f runs chunk enabled good rules log needs rules_are log_is costs =
    let found = cost_is_least f runs chunk enabled good in
    let same : found.0 ≡ needs = same_number found.0 needs
    (sym found.1 ∙ ap (λ r. cost (task_by r runs) (f.width - 12) 0 Untouched) (sym rules_are) ∙ ap (λ n. cost (task_by rules runs) n 0 Untouched) (sym log_is) ∙ costs) in
    subst (λ n. IsLeastFor f runs chunk n) same found.2

-- the list that is laid is as long as the number
pub as_long : (f : RegisterFile) (runs : List Run) (chunk needs : ℕ) (ranges : List Range) → IsLeastFor f runs chunk needs → IsLeastList f runs chunk ranges → needs ≡ length ranges
as_long f runs chunk needs ranges least list =
    let shortest = least.some in
    let gives : Gives f runs shortest.0 = shortest.1 in
    let allowed : IsAllowed chunk shortest.0 = shortest.2 in
    let long : length shortest.0 ≡ needs = shortest.3 in
    omega (arith, least.none_shorter ranges list.gives list.allowed, list.none_shorter shortest.0 gives allowed, long)
