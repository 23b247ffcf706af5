use Rattle.std.proofs.Common.{◌≡◌, ◌⊎◌, ℕ, zero, suc, List, [], ◌∷◌, ◌++◌, length, refl, sym, ap, ◌∙◌, subst, inl, inr, ⊎_elim}
use mathlib.Core.Option.{some, some-injective, some-ne-none}
use lib.ListN.{get_elem?}
use Rattle.mt_rendezvous.specs.declared.station.Attendee.{Attendee}
use Rattle.mt_rendezvous.specs.InStation.{IsNewIn}
use Rattle.mt_rendezvous.proofs.gather.+give_all.Goals as goal

at_end : (l : List Attendee) (a b : Attendee) (j : ℕ) → get_elem? (l ++ a ∷ []) j ≡ some b → (get_elem? l j ≡ some b) ⊎ ((j ≡ length l) × (a ≡ b))
at_end [] a b zero e = inr (refl, some-injective a b e)
at_end [] a b (suc j) e = absurd (some-ne-none b (sym e))
at_end (x ∷ xs) a b zero e = inl e
at_end (x ∷ xs) a b (suc j) e = ⊎_elim (λ t. inl t) (λ t. inr (ap suc t.0, t.1)) (at_end xs a b j e)

pub returns-clause-each : goal.returns-clause-each
returns-clause-each t c k a e =
    let n : length c.give_all.new.attendees.items ≡ c.len-i.result = c.give_all.ensures.count ∙ sym (c.len-i.ensures ∙ c.pop.new.self.ok.0) in
    ⊎_elim (λ x. c.give_all.ensures.each k a x)
    (λ (x : (k ≡ length c.give_all.new.attendees.items) × (c.give_away-attendee.result ≡ a)).
    subst (λ (z : ℕ × Attendee). IsNewIn c.args.station.now z.0 z.1) (λ j. (sym (x.0 ∙ n) j, x.1 j)) c.give_away-attendee.ensures.attends)
    (at_end c.give_all.new.attendees.items c.give_away-attendee.result a k (subst (λ l. get_elem? l k ≡ some a) c.push_reserved.ensures.items e))
