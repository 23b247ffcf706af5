use Rattle.std.proofs.Common.{◌≡◌, ◌∙◌, ap, sym, subst, arith, ℕ, List, [], ◌∷◌, ◌++◌, length, Some, length-append, ⊎_elim, rules}
use Rattle.std.specs.Prelude.{slice_get}
use Rattle.mt_types.specs.Tables.{TypeTable}
use Rattle.mt_machine.specs.Memory.{Memory}
use Rattle.mt_machine.specs.System.{Processor}
use Rattle.mt_rendezvous.specs.declared.view.Start.{Start}
use Rattle.mt_private.specs.declared.rooms.Room.{Room}
use Rattle.mt_private.specs.declared.visiting.Guest.{Guest}
use Rattle.mt_private.specs.Gathered.{AreFirst}
use Rattle.mt_private.specs.InYard.{IsGatheredIn}
use Rattle.mt_private.proofs.Copies.{IsLast, front_first, last_first}
use Rattle.mt_private.proofs.Lists.{at_end}
use Rattle.mt_private.proofs.gather.+give_all.Goals as goal

-- what was taken from the first ones, and those that are left, by the lists after it
taken : (t : Start) (ps : List Processor) (us : List TypeTable) (rs : List Room) (p : Processor) (u : TypeTable) (r : Room) (cpus : List Processor) (tables : List TypeTable) (rooms : List Room)
    → cpus ≡ ps ++ p ∷ [] → tables ≡ us ++ u ∷ [] → rooms ≡ rs ++ r ∷ [] → AreFirst t cpus tables rooms → AreFirst t ps us rs × IsLast t (length ps) p u r
taken t ps us rs p u r cpus tables rooms a b c h =
    let was : AreFirst t (ps ++ p ∷ []) (us ++ u ∷ []) (rs ++ r ∷ []) = subst (λ (x : List Processor × List TypeTable × List Room). AreFirst t x.0 x.1 x.2) (λ i. (a i, b i, c i)) h in
    (front_first t ps us rs p u r was, last_first t ps us rs p u r was)

pub settle-own-requires-clause-sound : goal.settle-own-requires-clause-sound
settle-own-requires-clause-sound t c = (taken _ _ _ _ _ _ _ _ _ _ c.in-Some.ensures.items c.in-Some-pop.ensures.items c.in-Some-pop-2.ensures.items c.requires.first).1.sound

pub settle-own-requires-clause-tables : goal.settle-own-requires-clause-tables
settle-own-requires-clause-tables t c = (taken _ _ _ _ _ _ _ _ _ _ c.in-Some.ensures.items c.in-Some-pop.ensures.items c.in-Some-pop-2.ensures.items c.requires.first).1.table

pub give_all-requires : goal.give_all-requires
give_all-requires t c =
    let n = ap (λ (l : List Processor). length l) c.in-Some.ensures.items ∙ length-append c.pop.new.self.items (c.in-Some.cpu ∷ []) in
    let room = c.requires.room in (
      search rules,
      (
        c.requires.leads,
        (
          c.requires.offers,
          (
            (taken _ _ _ _ _ _ _ _ _ _ c.in-Some.ensures.items c.in-Some-pop.ensures.items c.in-Some-pop-2.ensures.items c.requires.first).0,
            (
              (omega arith),
              c.requires.empty,
            ),
          ),
        ),
      ),
    )

pub give_away-guest-requires-clause-own : goal.give_away-guest-requires-clause-own
give_away-guest-requires-clause-own t c =
    let cpu : Processor = c.in-Some.cpu in
    let count = c.len-i.ensures ∙ c.pop.new.self.ok.0 in
    let last = (taken _ _ _ _ _ _ _ _ _ _ c.in-Some.ensures.items c.in-Some-pop.ensures.items c.in-Some-pop-2.ensures.items c.requires.first).1 in (
      cpu,
      ap (slice_get c.args.yard.now.table.shared.key.cpus.value.items) count ∙ last.at,
      c.settle-own.ensures ∙ ap (λ (x : Memory). record { processors = cpu ∷ []; memory = x }) last.room,
    )

pub returns-clause-each : goal.returns-clause-each
returns-clause-each t c k g at =
    let n : length c.give_all.new.guests.items ≡ c.len-i.result = c.give_all.ensures.count ∙ sym (c.len-i.ensures ∙ c.pop.new.self.ok.0) in
    ⊎_elim
    (λ (x : (k ≡ length c.give_all.new.guests.items) × (c.give_away-guest.result ≡ g)).
    subst (λ (z : ℕ × Guest). IsGatheredIn c.args.yard.now z.0 z.1)
    (λ j. (sym (x.0 ∙ n) j, x.1 j)) c.give_away-guest.ensures.guest)
    (λ (x : slice_get c.give_all.new.guests.items k ≡ Some g). c.give_all.ensures.each k g x)
    (at_end c.give_all.new.guests.items c.give_away-guest.result k g (subst (λ (l : List Guest). slice_get l k ≡ Some g) c.push_reserved.ensures.items at))
