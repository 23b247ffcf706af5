use Rattle.std.proofs.Common.{◌≡◌, ◌≢◌, ◌∙◌, ap, sym, refl, subst, arith, ℕ, suc, set, List, [], ◌∷◌, ◌++◌, Option, Some, ⊎_elim}
use Rattle.std.specs.Prelude.{slice_get}
use lib.ListN.{get_elem?}
use Rattle.mt_machine.specs.System.{System}
use Rattle.mt_private.specs.declared.view.Resident.{Resident}
use Rattle.mt_private.specs.declared.view.YardView.{YardView}
use Rattle.mt_private.specs.Residents.{own_of}
use Rattle.mt_private.specs.YardRule.{yard_both}
use Rattle.mt_private.specs.YardCalls.{KeepsOwn}
use Rattle.mt_private.proofs.Carried.{its_guest, own_is}
use Rattle.mt_private.proofs.Lists.{at_put}
use Rattle.mt_private.proofs.Residents.Seats.{joins_yard}
use Rattle.mt_private.proofs.host.Host.take_back.Goals as goal

pub join_seat-requires : goal.join_seat-requires
join_seat-requires c =
    let h = c.requires.hosts in
    let r = c.requires.lodges.1 in
    let w = c.args.yard.now.wide in
    (h.0, r.same, r.bare, omega arith, joins_yard c.args.yard.now.table.shared.key _ _ _ _ (its_guest r) h.1 r.holds)

same_own : (a b : System) → Some a ≡ Some b → a ≡ b
same_own a b e = cc

-- the resident that came back is its first now
kept_too : (v w : YardView) (owns : List (Option System)) (k : ℕ) (own : System) (y : Resident) → w.held ≡ y ∷ [] → y.held.number ≡ k → own_of y ≡ own → KeepsOwn v owns → KeepsOwn (yard_both v w) (set owns k (Some own))
kept_too v w owns k own y is number same old j o at =
    let held : (yard_both v w).held ≡ y ∷ v.held = ap (λ (ys : List Resident). ys ++ v.held) is in
    ⊎_elim
    (λ (e : (j ≡ k) × (Some own ≡ Some o)). (0, y, ap (λ (ys : List Resident). get_elem? ys 0) held, number ∙ sym e.0, same ∙ same_own own o e.1))
    (λ (e : (j ≢ k) × (slice_get owns j ≡ Some (Some o))). let x = old j o e.1 in (suc x.0, x.1, ap (λ (ys : List Resident). get_elem? ys (suc x.0)) held ∙ x.2, x.3, x.4))
    (at_put owns k j (Some own) (Some o) at)

pub returns-clause-keeps : goal.returns-clause-keeps
returns-clause-keeps c old =
    let r = c.requires.lodges.1 in
    subst (λ (v : YardView). KeepsOwn v (set c.args.self.now.owns.items c.args.guest.pass.number (Some c.args.guest.own))) (sym (ap (λ m. m.0) c.join_seat.ensures.2))
    (kept_too c.args.self.now.seat.me.0 c.args.guest.pass.seat.me.0 c.args.self.now.owns.items c.args.guest.pass.number c.args.guest.own (its_guest r) r.holds refl (own_is r) old)
