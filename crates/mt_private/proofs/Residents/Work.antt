-- The steps of a yard that change words of the own pages: takes, events between the barriers, and accesses.
use Rattle.std.proofs.Common.{◌≡◌, ◌≢◌, ◌∙◌, ap, sym, refl, subst, arith, ℕ, ◌+◌, ◌/◌, ◌<◌, ◌≤◌, Bool, true, false, not, ◌&&◌, List, [], ◌∷◌, map, Option, None, Some, inl, ⊎_elim, eq-eqb}
use Rattle.std.specs.Prelude.{if◌then◌else◌, slice_get}
use Rattle.std.specs.List.{list_all}
use Rattle.std.specs.Option.{option_map, option_map_or}
use Rattle.std.proofs.lemmas.Option.{slice_get-map}
use mathlib.Core.Option.{some}
use lib.ListN.{get_elem?}
use Rattle.mt_machine.specs.declared.phase.Phase.{Phase}
use Rattle.mt_machine.specs.declared.phase.Phase.TheVariants.{Running}
use Rattle.mt_machine.specs.declared.event.Event.{Event}
use Rattle.mt_machine.specs.declared.event.Event.TheVariants.{Take, WriteBack}
use Rattle.mt_machine.specs.declared.go.Go.{Go}
use Rattle.mt_machine.specs.declared.go.Go.TheVariants.{Pending, Given, Cancelled}
use Rattle.mt_machine.specs.declared.op.Op.{Op}
use Rattle.mt_machine.specs.System.{IsProcessor, IsSound, Processor, System}
use Rattle.mt_machine.specs.Bus.{drain}
use Rattle.mt_machine.specs.Access.{access}
use Rattle.mt_machine.specs.Machine.{Accesses, Calls, FitsOp, Order, Steps, after, at_start, common_era, due, is_cancelled, own_step, step}
use Rattle.mt_cpu.specs.Steps.{is_local}
use Rattle.mt_core.proofs.Reaching.{reached_on}
use Rattle.mt_laws.proofs.Barrier.Claims.{all_get}
use Rattle.mt_laws.proofs.Invariant.Standing.{stays_sound}
use Rattle.mt_laws.proofs.Words.Sound.{apart_of_pairs}
use Rattle.mt_laws.proofs.Barrier.Stages.{Stage, access_stages, drain_stages, stage_of, stages}
use Rattle.mt_laws.proofs.Words.AccessLaws.{changed_at}
use Rattle.mt_laws.proofs.Words.LineLists.{Apart, found_passes}
use Rattle.mt_laws.proofs.Words.StepLaws.{back_drains, due_drains, is_drain}
use Rattle.mt_rendezvous.specs.declared.view.Held.{Held}
use Rattle.mt_rendezvous.specs.declared.view.Start.{Start}
use Rattle.mt_rendezvous.specs.Station.{added_of, held, order_of, rise, total, weight, in_first, in_second}
use Rattle.mt_rendezvous.proofs.Local.{changing_fits, changing_under_way, fits_changing, local_changing, takes_not, works_in}
use Rattle.mt_rendezvous.proofs.Steps.{shows}
use Rattle.mt_private.specs.declared.view.Resident.{Resident}
use Rattle.mt_private.specs.Own.{Becomes, WritesOn, own_memory}
use Rattle.mt_private.specs.OneByOne.{at_rest}
use Rattle.mt_private.specs.Residents.{FitsResident, FitsYard, ResidentFollows, Yard, accessed_by, held_of, in_system, own_of, pages_at, stepped_by, system_of, with_stored, yard_machine, scene, move_of}
use Rattle.mt_private.proofs.Own.Buses.{in_pages}
use Rattle.mt_private.proofs.Own.Owners.{runs_alone, steps_alone, within_of}
use Rattle.mt_private.proofs.Residents.Events.{accesses, steps}
use Rattle.mt_private.proofs.Residents.Moves.{processor_at}
use Rattle.mt_private.proofs.Residents.Paths.{uncalled_reached}
use Rattle.mt_rendezvous.specs.declared.view.Added.TheVariants.{Never, Once}
use Rattle.mt_private.proofs.Residents.Barriers.{counted, few, few_added, not_taken, number, on_its_way, on_way, own_fits, same_era, under_way}

-- ---- a resident with what its own system became

module _ (y : Resident) (pages : ℕ → Bool) (k : ℕ) (s u o : System) (b : Becomes pages k s u o) where
  own_is : o ≡ record { processors = b.owner.processor ∷ []; memory = own_memory pages u.memory }
  own_is = sym b.own ∙ ap (λ (x : Option Processor). record { processors = option_map_or (λ p. p ∷ []) x []; memory = own_memory pages u.memory }) b.owner.at

  pub own_in : own_of (in_system y o) ≡ o
  own_in = ap (λ (v : System). own_of (in_system y v)) own_is ∙ sym own_is

  pub cpu_in : (in_system y o).held.cpu ≡ b.owner.processor
  cpu_in = ap (λ (v : System). (in_system y v).held.cpu) own_is

  pub held_in : (in_system y o).held ≡ held y.held.number b.owner.processor y.held.added
  held_in = ap (λ (v : System). (in_system y v).held) own_is

-- the processor at a place where phases and eras are the same
stage_there : (s u : System) (k : ℕ) (p : Processor) → stages u ≡ stages s → slice_get s.processors k ≡ Some p → (q : Processor) × (slice_get u.processors k ≡ Some q) × (stage_of q ≡ stage_of p)
stage_there s u k p same at = one (slice_get u.processors k) refl (sym (slice_get-map stage_of u.processors k) ∙ ap (λ (v : List Stage). slice_get v k) same ∙ slice_get-map stage_of s.processors k ∙ ap (option_map stage_of) at)
  where
    one : (x : Option Processor) → slice_get u.processors k ≡ x → option_map stage_of x ≡ Some (stage_of p) → (q : Processor) × (slice_get u.processors k ≡ Some q) × (stage_of q ≡ stage_of p)
    one None is h = absurd (cc)
    one (Some q) is h = (q, is, injected (stage_of q) (stage_of p) h)
      where
        injected : (a b : Stage) → Some a ≡ Some b → a ≡ b
        injected a b h = cc

same_some : (p q : Processor) → Some p ≡ Some q → p ≡ q
same_some p q h = cc

-- ---- words that are written back lie in the own pages

on_pages : (pages : ℕ → Bool) (p : Processor) (o : Order) (ps : List Processor) (e : Event) → Apart p.lines → list_all (in_pages pages) p.lines ≡ true → due o ps p p.phase ≡ Some e → WritesOn pages e
unfolding is_drain
on_pages pages p o ps (WriteBack a v) apart all is =
    let d = back_drains p a v apart (due_drains o ps p p.phase (WriteBack a v) is refl) in
    let low = d.within in
    let at = d.address_is in
    let same : a / 4096 ≡ d.line.number / 64 = omega arith in
    ap pages same ∙ found_passes (in_pages pages) d.line.number p.lines d.line all d.found
on_pages pages p o ps e apart all is = tt

module _ (t : Start) (all : List Resident) (go : Go) (first second : ℕ) (s : System) (r : Yard t (scene all go s) first second) (k : ℕ) (y : Resident) (at : get_elem? all k ≡ some y) where
  -- what an event does alone, by the resident's own system
  alone : (e : Event) → WritesOn (pages_at t k) e → Becomes (pages_at t k) k s (step t.goal e k s) (step t.goal e 0 (own_of y))
  alone e on =
      subst (λ (v : System). Becomes (pages_at t k) k s (step t.goal e k s) (step t.goal e 0 v)) (r.resides.stands.own k y at)
      (steps_alone (pages_at t k) k s r.resides.stands.memory (r.resides.stands.owns k y at) t.goal e on)

  -- a load of the first count that shows no cancel, by a processor that hasn't taken
  pub takes : y.held.added ≡ Never → y.held.cpu.phase ≡ Running → first < 4294967296 → ResidentFollows t (scene all go s) (move_of k (stepped_by t Take y) (Some (Steps k Take))) first second
  takes out runs low =
      let out_again : in_second y.held.added ≡ false = ap in_second out in
      let n = few t all go first second s r in
      let z = few_added t all go first second s r in
      let f = own_fits t all go first second s r k y at in
      let up : rise (in_second y.held.added) y.held.cpu.phase ≡ 0 = (λ i. rise (out_again i) (runs i)) in
      let old = f.era in
      let era : y.held.cpu.era ≡ common_era t.cpus = omega arith in
      let b = alone Take tt in
      let d = stage_there s (drain k s) k y.held.cpu (drain_stages k s) (processor_at t all go s r.resides k y at) in
      let q : b.owner.processor ≡ own_step t.goal Take d.0 = same_some b.owner.processor (own_step t.goal Take d.0) (sym b.owner.at ∙ changed_at (own_step t.goal Take) k (drain k s) d.0 d.1) in
      let same : (in_system y (step t.goal Take 0 (own_of y))).held ≡ held y.held.number (own_step t.goal Take d.0) y.held.added = held_in y (pages_at t k) k s _ _ b ∙ ap (λ (p : Processor). held y.held.number p y.held.added) q in
      let later : d.0.era ≡ common_era t.cpus = ap (λ (x : Stage). x.1) d.2 ∙ era in
      let fits : FitsResident t go (held y.held.number (own_step t.goal Take d.0) y.held.added) =
      on_its_way t go (held y.held.number (own_step t.goal Take d.0) y.held.added) later tt (inl out) in
      ⊎_elim
      (λ (c : (go ≡ Cancelled) × (4294967296 ≤ first)). absurd (let high = c.1 in omega arith))
      (λ (c : (go ≢ Cancelled) × (first < 4294967296)).
      counted t all go first second s r k y at (stepped_by t Take y) (Some (Steps k Take)) first second
      (steps t all go s r.resides k y at Take (stepped_by t Take y) (not_taken t all go first second s r k y at c.0 era)
      (ap (due (order_of t go) s.processors y.held.cpu) runs ∙ due_take c.0 era) tt (own_in y (pages_at t k) k s _ _ b)
      (ap (λ (h : Held). h.number) same ∙ number t all go first second s r k y at) (subst (FitsResident t go) (sym same) fits))
      (ap (λ (h : Held). first + weight (in_first h.added)) (sym same)) (ap (λ (h : Held). second + weight (in_second h.added)) (sym same)))
      (shows go (total added_of (map held_of all)) first r.first_count (omega arith))
    where
      due_take : go ≢ Cancelled → y.held.cpu.era ≡ common_era t.cpus → due (order_of t go) s.processors y.held.cpu Running ≡ Some Take
      due_take apart era =
          ap (λ (b : Bool). if b && not (is_cancelled go) then Some Take else None) (eq-eqb y.held.cpu.era (common_era t.cpus) era) ∙ one go apart
        where
          one : (g : Go) → g ≢ Cancelled → (if not (is_cancelled g) then Some Take else None) ≡ Some Take
          one Pending n = refl
          one Given n = refl
          one Cancelled n = absurd (n refl)

  sound : IsSound s
  sound =
      stays_sound (at_rest (system_of t)) (yard_machine t go s) (inl r.resides.opens.quiet)
      (reached_on (after (Calls t.goal) at_start r.resides.opens.enabled) (uncalled_reached r.resides.reached))

  lines_apart : Apart y.held.cpu.lines
  lines_apart = apart_of_pairs y.held.cpu.lines (all_get IsProcessor s.processors sound.each k y.held.cpu (processor_at t all go s r.resides k y at)).distinct_lines

  -- a store of the own event word that is the event due between the barriers
  pub works : y.held.added ≡ Once → is_local y.held.cpu.phase ≡ true → (e : Event) → ((o : Order) (ps : List Processor) → due o ps y.held.cpu y.held.cpu.phase ≡ Some e) → (n : ℕ)
      → ResidentFollows t (scene all go s) (move_of k (with_stored (stepped_by t e y) n) (Some (Steps k e))) first second
  works on here e is n =
      let apart = lines_apart in
      let o : Order = order_of t go in
      let changing = local_changing y.held.cpu.phase here in
      let u = changing_under_way y.held.cpu.phase changing in
      let f = own_fits t all go first second s r k y at in
      let old = changing_fits go y.held.added y.held.cpu.phase changing (on_way go y.held.added y.held.cpu.phase u f.fits) in
      let w = works_in t.goal y.held.cpu e y.held.cpu.phase refl here is o in
      let not_take = takes_not y.held.cpu e y.held.cpu.phase here is o in
      let owner = r.resides.stands.owns k y at in
      let mine : owner.processor ≡ y.held.cpu = same_some owner.processor y.held.cpu (sym owner.at ∙ processor_at t all go s r.resides k y at) in
      let writes = on_pages (pages_at t k) y.held.cpu o s.processors e apart (subst (λ (p : Processor). list_all (in_pages (pages_at t k)) p.lines ≡ true) mine (within_of (pages_at t k) owner.processor owner.own).cached) (is o s.processors) in
      let b = alone e writes in
      let same : (in_system y (step t.goal e 0 (own_of y))).held ≡ held y.held.number (own_step t.goal e y.held.cpu) y.held.added = stepped_held e not_take in
      let fits : FitsResident t go (held y.held.number (own_step t.goal e y.held.cpu) y.held.added) =
      on_its_way t go (held y.held.number (own_step t.goal e y.held.cpu) y.held.added) (w.1 ∙ same_era t go y.held f u)
      (changing_under_way (own_step t.goal e y.held.cpu).phase w.0) (fits_changing go y.held.added (own_step t.goal e y.held.cpu).phase w.0 old.0 old.1) in
      counted t all go first second s r k y at (with_stored (stepped_by t e y) n) (Some (Steps k e)) first second
      (steps t all go s r.resides k y at e (with_stored (stepped_by t e y) n) (under_way t all go first second s r k y at u) (is o s.processors) writes (own_in y (pages_at t k) k s _ _ b)
      (ap (λ (h : Held). h.number) same ∙ number t all go first second s r k y at) (subst (FitsResident t go) (sym same) fits))
      (ap (λ (h : Held). first + weight (in_first h.added)) (sym same)) (ap (λ (h : Held). second + weight (in_second h.added)) (sym same))
    where
      stepped_held : (e : Event) → e ≢ Take → (in_system y (step t.goal e 0 (own_of y))).held ≡ held y.held.number (own_step t.goal e y.held.cpu) y.held.added
      stepped_held Take other = absurd (other refl)
      stepped_held (WriteBack a v) other = refl
      stepped_held e other = refl

  -- a store of the own event word that is an access
  pub accessed : (op : Op) → y.held.cpu.phase ≡ Running → FitsOp op → (n : ℕ) → ResidentFollows t (scene all go s) (move_of k (with_stored (accessed_by op y) n) (Some (Accesses k op))) first second × ((access s k op).answer ≡ (access (own_of y) 0 op).answer)
  accessed op runs fits_op n =
      let b : Becomes (pages_at t k) k s (access s k op).after (access (own_of y) 0 op).after =
      subst (λ (v : System). Becomes (pages_at t k) k s (access s k op).after (access v 0 op).after) (r.resides.stands.own k y at) (runs_alone (pages_at t k) k s r.resides.stands.memory (r.resides.stands.owns k y at) (op ∷ [])).after in
      let d = stage_there s (access s k op).after k y.held.cpu (access_stages s k op) (processor_at t all go s r.resides k y at) in
      let q : b.owner.processor ≡ d.0 = same_some b.owner.processor d.0 (sym b.owner.at ∙ d.1) in
      let same : (in_system y (access (own_of y) 0 op).after).held ≡ held y.held.number d.0 y.held.added = held_in y (pages_at t k) k s _ _ b ∙ ap (λ (p : Processor). held y.held.number p y.held.added) q in
      let f = own_fits t all go first second s r k y at in
      let fits : FitsResident t go (held y.held.number d.0 y.held.added) = record {
        fits = subst (λ (ph : Phase). FitsYard go y.held.added ph) (sym (ap (λ (x : Stage). x.0) d.2)) f.fits;
        era = ap (λ (x : Stage). x.1) d.2 ∙ f.era ∙ ap (λ (x : Stage). common_era t.cpus + rise (in_second y.held.added) x.0) (sym d.2);
      } in
      let a = accesses t all go s r.resides k y at op (with_stored (accessed_by op y) n) runs fits_op (own_in y (pages_at t k) k s _ _ b) (ap (λ (h : Held). h.number) same ∙ number t all go first second s r k y at) (subst (FitsResident t go) (sym same) fits) in
      (counted t all go first second s r k y at (with_stored (accessed_by op y) n) (Some (Accesses k op)) first second a.0 (ap (λ (h : Held). first + weight (in_first h.added)) (sym same)) (ap (λ (h : Held). second + weight (in_second h.added)) (sym same)), a.1)
