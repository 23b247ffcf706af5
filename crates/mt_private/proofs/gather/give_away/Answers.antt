use Rattle.std.proofs.Common.{◌≡◌, ◌∙◌, ap, sym, refl, arith, ℕ, ◌+◌, false, [], ◌∷◌, drop, Some}
use Rattle.std.specs.Prelude.{slice_get}
use Rattle.std.specs.Option.{option_map_or}
use Rattle.std.proofs.lemmas.Option.{slice_get_within}
use Rattle.mt_machine.specs.System.{Processor, System}
use Rattle.mt_rendezvous.specs.declared.view.Start.{Start}
use Rattle.mt_rendezvous.specs.Station.{start_of}
use Rattle.mt_private.specs.Own.{own_memory}
use Rattle.mt_private.specs.Pages.{names}
use Rattle.mt_private.specs.Residents.{pages_at}
use Rattle.mt_private.specs.YardCalls.{done_by, stored_by}
use Rattle.mt_private.specs.YardRule.{one_of, residents, rest_of}
use Rattle.mt_private.proofs.Carried.{guest}
use Rattle.mt_private.proofs.Lists.{drop_at}
use Rattle.mt_private.proofs.Residents.Seats.{splits_yard}
use Rattle.mt_rendezvous.specs.declared.view.Added.TheVariants.{Never}
use Rattle.mt_private.proofs.gather.give_away.Goals as goal

-- the first of those from number i on
offered : (t : Start) (i : ℕ) (p : Processor) → slice_get t.cpus i ≡ Some p → residents t i (drop i t.cpus) ≡ guest i p Never (own_memory (pages_at t i) t.ram) [] 0 ∷ residents t (i + 1) (drop (i + 1) t.cpus)
offered t i p at = ap (residents t i) (drop_at t.cpus i p at)

pub split_seat-seat-requires : goal.split_seat-seat-requires
split_seat-seat-requires c =
    let w = c.args.yard.now.wide in
    let o = c.requires.own in
    let t : Start = start_of c.args.yard.now.table.shared.key in
    (c.requires.leads.same, omega arith, splits_yard c.args.yard.now.table.shared.key _ _ _ _ (c.requires.offers ∙ offered t c.args.i o.0 o.1))

pub invariant_of-result-clause-known : goal.invariant_of-result-clause-known
invariant_of-result-clause-known c =
    let s = c.split_seat-seat.ensures in
    let o = c.requires.own in
    let t : Start = start_of c.args.yard.now.table.shared.key in
    sym (ap (λ m. stored_by m.0.held) s.4 ∙ ap stored_by (ap one_of (c.requires.offers ∙ offered t c.args.i o.0 o.1)))

pub invariant_of-result-clause-no_root : goal.invariant_of-result-clause-no_root
invariant_of-result-clause-no_root c = ap (λ m. m.0.root) c.split_seat-seat.ensures.4

pub returns-clause-leads : goal.returns-clause-leads
returns-clause-leads c =
    let s = c.split_seat-seat.ensures in
    let l = c.requires.leads in
    record {
      same = s.0 ∙ l.same;
      root = ap (λ m. m.0.root) s.2 ∙ l.root;
      said = ap (λ m. m.0.go) s.2 ∙ l.said;
      told = ap (λ m. m.0.start) s.2 ∙ l.told;
      bare = refl;
    }

pub returns-clause-offers : goal.returns-clause-offers
returns-clause-offers c =
    let s = c.split_seat-seat.ensures in
    let o = c.requires.own in
    let t : Start = start_of c.args.yard.now.table.shared.key in
    ap (λ m. m.0.held) s.2 ∙ ap rest_of (c.requires.offers ∙ offered t c.args.i o.0 o.1)

pub returns-clause-guest : goal.returns-clause-guest
returns-clause-guest c =
    let s = c.split_seat-seat.ensures in
    let l = c.requires.leads in
    let o = c.requires.own in
    let t : Start = start_of c.args.yard.now.table.shared.key in
    let own : System = c.args.own in
    let is = o.2 ∙ (λ j. record { processors = option_map_or (λ q. q ∷ []) (sym o.1 j) []; memory = own_memory (λ page. option_map_or (names page) (sym o.1 j) false) t.ram }) in
    let holds = ap (λ m. m.0.held) s.4 ∙ ap one_of (c.requires.offers ∙ offered t c.args.i o.0 o.1) in
    record {
      numbered = refl;
      own_is = is;
      lodges = record {
        cpu = o.0;
        same = s.3 ∙ l.same;
        alone = ap (λ (z : System). z.processors) o.2;
        holds = holds ∙ (λ j. guest c.args.i o.0 Never ((sym is j).memory) (sym (ap done_by holds) j) (sym (ap stored_by holds) j) ∷ []);
        told = ap (λ m. m.0.start) s.4 ∙ l.told;
        below = slice_get_within t.cpus c.args.i o.0 o.1;
        bare = ap (λ m. m.1) s.4;
      };
      none_done = ap done_by holds;
      unshown = (ap (λ m. m.0.shown) s.4, ap (λ m. m.0.cancel) s.4);
    }
