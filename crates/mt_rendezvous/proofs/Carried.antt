-- A seat after a step of its pass.
use Rattle.std.proofs.Common.{◌≡◌, ◌∙◌, [], ◌∷◌, map, ap, subst}
use Rattle.atomic_table.specs.Seated.{TableId}
use Rattle.mt_machine.specs.System.{Processor}
use Rattle.mt_rendezvous.specs.declared.view.Added.{Added}
use Rattle.mt_rendezvous.specs.declared.view.Held.{Held}
use Rattle.mt_rendezvous.specs.declared.view.Start.{Start}
use Rattle.mt_rendezvous.specs.Station.{held}
use Rattle.mt_rendezvous.specs.Plays.{Of, Sat}
use Rattle.mt_rendezvous.specs.Calls.{Carries, PassOf}

module _ {pass : PassOf Sat} {c : Processor} {added : Added} (r : Carries pass c added) where
  pub carried : (its : TableId) (new : Sat) (d : Processor) (later : Added) (f : Start → Held → Held) → its ≡ pass.its → new.1 ≡ pass.me.1
      → new.0.held ≡ map (f pass.me.0.start) pass.me.0.held → new.0.start ≡ pass.me.0.start → f pass.start (held pass.number c added) ≡ held pass.number d later
      → Carries (record pass { its = its; me = new }) d later
  carried its new d later f same bare moves told becomes = record {
    same = same ∙ r.same;
    holds = moves ∙ (λ i. map (f (r.told i)) (r.holds i)) ∙ ap (λ (h : Held). h ∷ []) becomes;
    told = told ∙ r.told;
    below = r.below;
    bare = bare ∙ r.bare;
  }

  -- what is so of the view's processor
  pub of_it : (P : Start → Held → Type 0) → Of pass.me.0 (P pass.me.0.start) → P pass.start (held pass.number c added)
  of_it P of = subst (λ (u : Start). P u (held pass.number c added)) r.told (of (held pass.number c added) r.holds)
