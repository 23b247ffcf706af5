-- A pass after a step: which resident its seat lodges then.
use Rattle.std.proofs.Common.{◌≡◌, ◌⊎◌, ◌∙◌, ap, sym, refl, subst, arith, ℕ, zero, suc, ◌+◌, ◌-◌, ◌<◌, ◌≤◌, ◌==◌, Bool, true, false, List, [], ◌∷◌, ◌++◌, length, Option, Some, inl, inr, ⊎_elim}
use Rattle.std.proofs.lemmas.Bool.{eqb-false, eqb-true}
use mathlib.Core.Option.{Option as Spoken, none, some}
use Rattle.atomic_table.specs.Seated.{TableId}
use Rattle.atomic_table.specs.Table.{Step, step as table_step}
use Rattle.mt_machine.specs.declared.event.Event.{Event}
use Rattle.mt_machine.specs.declared.event.Event.TheVariants.{Take}
use Rattle.mt_machine.specs.declared.phase.Phase.TheVariants.{Running}
use Rattle.mt_machine.specs.declared.go.Go.{Go}
use Rattle.mt_machine.specs.declared.go.Go.TheVariants.{Given, Pending}
use Rattle.mt_machine.specs.declared.op.Op.{Op}
use Rattle.mt_machine.specs.Memory.{Memory}
use Rattle.mt_machine.specs.System.{Processor, System, change}
use Rattle.mt_machine.specs.Access.{access}
use Rattle.mt_machine.specs.Machine.{Calls, FitsGoal, IsEnabled, Machine, Steps, before_own, common_era, due, own_step, step}
use Rattle.mt_machine.specs.Start.{IsQuiet}
use Rattle.mt_core.specs.Rounds.{Rounds}
use Rattle.mt_core.specs.Steps.{under_way}
use Rattle.mt_rendezvous.specs.declared.view.Start.{Start}
use Rattle.mt_rendezvous.specs.Station.{held, order_of, in_first}
use Rattle.mt_private.specs.declared.view.Resident.{Resident}
use Rattle.mt_private.specs.declared.view.YardView.{YardView}
use Rattle.mt_private.specs.OneByOne.{at_rest}
use Rattle.mt_private.specs.Residents.{Opens, accessed_by, in_system, own_of, stepped_by, with_first, with_stored}
use Rattle.mt_private.specs.YardRule.{with_one}
use Rattle.mt_private.specs.YardPlays.{AccessesYard, ArrivesAgainYard, ArrivesYard, IsCallable, OfOne, OfPass, OfSeat, PassesYard, ReleasesYard, TakesYard, TellsYardStep, TurnsUnshown, WorksYard, YardSat, has_added}
use Rattle.mt_private.specs.YardCalls.{Lodges, Visits, done_by, done_in, stored_by, stored_in}
use Rattle.mt_rendezvous.specs.declared.view.Added.TheVariants.{Never, Once}
use Rattle.mt_rendezvous.specs.declared.view.Added.{Added}
use Rattle.mt_rendezvous.specs.Calls.{PassOf}
use Rattle.mt_private.proofs.Alone.{Onward, called_given, change_one, due_take, round_on}

-- the resident that a seat lodges
abbrev pub guest : ℕ → Processor → Added → Memory → List Op → ℕ → Resident
guest number cpu added ram done stored = record { held = held number cpu added; ram = ram; done = done; stored = stored }

-- with another system in its place
pub in_its_system : (y : Resident) (o : System) (q : Processor) → o.processors ≡ q ∷ [] → in_system y o ≡ guest y.held.number q y.held.added o.memory y.done y.stored
in_its_system y o q alone = ap (λ (ps : List Processor). with_first y ps o.memory) alone

-- a step of its system does none
in_done : (y : Resident) (ps : List Processor) (m : Memory) → (with_first y ps m).done ≡ y.done
in_done y [] m = refl
in_done y (p ∷ ps) m = refl

-- and stores nothing
in_stored : (y : Resident) (ps : List Processor) (m : Memory) → (with_first y ps m).stored ≡ y.stored
in_stored y [] m = refl
in_stored y (p ∷ ps) m = refl

-- two that are the same are it with the same word too
pub restored : (a b : Resident) (n : ℕ) → a ≡ b → with_stored a n ≡ with_stored b n
restored a b n e = ap (λ (y : Resident). with_stored y n) e

below : (n b : ℕ) → (n < b) ⊎ (b ≤ n)
below n b = one ((n + 1) - b) refl
  where
    one : (d : ℕ) → (n + 1) - b ≡ d → (n < b) ⊎ (b ≤ n)
    one zero e = inl (omega arith)
    one (suc d) e = inr (omega arith)

module _ {seat : PassOf YardSat} {own : System} {added : Added} (r : Lodges seat own added) where
  abbrev pub its_guest : Resident
  its_guest = guest seat.number r.cpu added own.memory (done_in seat.me) (stored_in seat.me)

  pub own_is : own_of its_guest ≡ own
  own_is = λ i. record { processors = sym r.alone i; memory = own.memory }

  -- what is so of it
  pub of_guest : (P : Start → Resident → Type 0) → OfOne seat.me.0 (P seat.me.0.start) → P seat.start its_guest
  of_guest P of = subst (λ (u : Start). P u its_guest) r.told (of its_guest r.holds)

  -- after a step it is this one
  pub carried : (its' : TableId) (new : YardSat) (w : Resident) (shown : Option ℕ) (cancel : Bool) (own' : System) (q : Processor) (later : Added) → its' ≡ seat.its → new.1 ≡ seat.me.1
      → new.0 ≡ with_one seat.me.0 w shown cancel → own'.processors ≡ q ∷ [] → w ≡ guest seat.number q later own'.memory w.done w.stored → Lodges (record seat { its = its'; me = new }) own' later
  carried its' new w shown cancel own' q later same bare turns alone is = record {
    cpu = q;
    same = same ∙ r.same;
    alone = alone;
    holds = ap (λ (v : YardView). v.held) turns ∙ ap (λ (x : Resident). x ∷ []) is
        ∙ (λ i. guest seat.number q later own'.memory (sym (ap (λ (v : YardView). done_by v.held) turns) i) (sym (ap (λ (v : YardView). stored_by v.held) turns) i) ∷ []);
    told = ap (λ (v : YardView). v.start) turns ∙ r.told;
    below = r.below;
    bare = bare ∙ r.bare;
  }

  -- the accesses that it has done
  pub has_done : (new : YardSat) (w : Resident) (shown : Option ℕ) (cancel : Bool) → new.0 ≡ with_one seat.me.0 w shown cancel → done_in new ≡ w.done
  has_done new w shown cancel turns = ap (λ (v : YardView). done_by v.held) turns

  -- and what it stored last
  pub has_stored : (new : YardSat) (w : Resident) (shown : Option ℕ) (cancel : Bool) → new.0 ≡ with_one seat.me.0 w shown cancel → stored_in new ≡ w.stored
  has_stored new w shown cancel turns = ap (λ (v : YardView). stored_by v.held) turns

  pub stepped_done : (u : Start) (e : Event) → (stepped_by u e its_guest).done ≡ done_in seat.me
  stepped_done u e = in_done its_guest _ _

  pub stepped_stored : (u : Start) (e : Event) → (stepped_by u e its_guest).stored ≡ stored_in seat.me
  stepped_stored u e = in_stored its_guest _ _

  -- no step on a count stores, and none makes the seat another's
  abbrev pub IsKept : YardSat → Type 0
  IsKept new = (stored_in new ≡ stored_in seat.me) × (new.0.root ≡ seat.me.0.root)

  kept : (new : YardSat) (w : Resident) (shown : Option ℕ) (cancel : Bool) → new.0 ≡ with_one seat.me.0 w shown cancel → w.stored ≡ stored_in seat.me → IsKept new
  kept new w shown cancel turns same = (has_stored new w shown cancel turns ∙ same, ap (λ (v : YardView). v.root) turns)

  pub takes_kept : (found : ℕ) (new : YardSat) → TakesYard (table_step 0 0 0 0 none) seat.me found new → IsKept new
  takes_kept found new play =
      ⊎_elim
      (λ (low : found < 4294967296). kept new _ _ _ ((play.1 low).1 its_guest r.holds).0.0 (stepped_stored seat.me.0.start Take))
      (λ (high : 4294967296 ≤ found). kept new _ _ _ (play.2 high its_guest r.holds).0 refl)
      (below found 4294967296)

  pub arrives_kept : (found : ℕ) (new : YardSat) → ArrivesYard (table_step 0 0 1 0 none) seat.me found new → IsKept new
  arrives_kept found new play =
      ⊎_elim
      (λ (low : found < 4294967296). kept new _ _ _ (play.1 low its_guest r.holds).0 refl)
      (λ (high : 4294967296 ≤ found). kept new _ _ _ (play.2 high its_guest r.holds).0 refl)
      (below found 4294967296)

  -- after its addition it has added
  pub arrives_added : (found : ℕ) (new : YardSat) → ArrivesYard (table_step 0 0 1 0 none) seat.me found new → has_added new.0.held ≡ true
  arrives_added found new play =
      ⊎_elim
      (λ (low : found < 4294967296). ap (λ (v : YardView). has_added v.held) (play.1 low its_guest r.holds).0)
      (λ (high : 4294967296 ≤ found). ap (λ (v : YardView). has_added v.held) (play.2 high its_guest r.holds).0)
      (below found 4294967296)

  pub passes_kept : (found : ℕ) (new : YardSat) → PassesYard (table_step 0 0 0 0 none) seat.me found new → IsKept new
  passes_kept found new play =
      ⊎_elim
      (λ (low : found < 4294967296). one low (found == length seat.me.0.start.cpus + 1) refl)
      (λ (high : 4294967296 ≤ found). kept new _ _ _ (play.2 high its_guest r.holds).0 refl)
      (below found 4294967296)
    where
      one : found < 4294967296 → (b : Bool) → (found == length seat.me.0.start.cpus + 1) ≡ b → IsKept new
      one low true e = kept new _ _ _ (play.1 (eqb-true found (length seat.me.0.start.cpus + 1) e) its_guest r.holds).0.0 refl
      one low false e = kept new _ _ _ (play.3 low (eqb-false found (length seat.me.0.start.cpus + 1) e) its_guest r.holds).0 refl

  pub arrives_again_kept : (found : ℕ) (new : YardSat) → ArrivesAgainYard (table_step 0 1 1 0 none) seat.me found new → IsKept new
  arrives_again_kept found new play = kept new _ _ _ (play.1 its_guest r.holds).0 refl

  pub releases_kept : (found : ℕ) (new : YardSat) → ReleasesYard (table_step 0 1 0 0 none) seat.me found new → IsKept new
  releases_kept found new play = one (found == length seat.me.0.start.cpus) refl
    where
      one : (b : Bool) → (found == length seat.me.0.start.cpus) ≡ b → IsKept new
      one true e = kept new _ _ _ (play.1 (eqb-true found (length seat.me.0.start.cpus) e) its_guest r.holds).0 refl
      one false e = kept new _ _ _ (play.2 (eqb-false found (length seat.me.0.start.cpus) e) its_guest r.holds).0 refl

  -- what a step told, by the seat of a pass
  pub told_pass : seat.me.0.root ≡ false → (i n : ℕ) (said : Spoken Op) (st : Step Op) (found : ℕ) (new : YardSat) → OfSeat seat.me.0.root i n said (has_added seat.me.0.held) st seat.me found new → OfPass i n said (in_first added) st seat.me found new
  told_pass pass i n said st found new tells = subst (λ (x : Bool × Bool). OfSeat x.0 i n said x.1 st seat.me found new) (λ j. (pass j, has_added (r.holds j))) tells

  pub works_of : seat.me.0.root ≡ false → (slots i a : ℕ) → i ≡ seat.number + 2 → (new : YardSat) → TellsYardStep (table_step slots i a 0 none) seat.me a new → WorksYard (table_step slots i a 0 none) seat.me a new
  works_of pass slots i a own new tells =
      let at : i ≡ suc (suc seat.number) = omega arith in
      subst (λ (w : ℕ). OfPass w a none (in_first added) (table_step slots i a 0 none) seat.me a new) at (told_pass pass i a none (table_step slots i a 0 none) a new tells)

  pub accesses_of : seat.me.0.root ≡ false → (slots i a b : ℕ) (op : Op) → i ≡ seat.number + 2 → (found : ℕ) (new : YardSat) → TellsYardStep (table_step slots i a b (some op)) seat.me found new → AccessesYard (table_step slots i a b (some op)) seat.me found new
  accesses_of pass slots i a b op own found new tells =
      let at : i ≡ suc (suc seat.number) = omega arith in
      subst (λ (w : ℕ). OfPass w a (some op) (in_first added) (table_step slots i a b (some op)) seat.me found new) at (told_pass pass i a (some op) (table_step slots i a b (some op)) found new tells)

  pub arrives_again_of : seat.me.0.root ≡ false → (slots found : ℕ) (new : YardSat) → TellsYardStep (table_step slots 1 1 0 none) seat.me found new → ArrivesAgainYard (table_step slots 1 1 0 none) seat.me found new
  arrives_again_of pass slots found new tells = told_pass pass 1 1 none (table_step slots 1 1 0 none) found new tells

  pub releases_of : seat.me.0.root ≡ false → (slots found : ℕ) (new : YardSat) → TellsYardStep (table_step slots 1 0 0 none) seat.me found new → ReleasesYard (table_step slots 1 0 0 none) seat.me found new
  releases_of pass slots found new tells = told_pass pass 1 0 none (table_step slots 1 0 0 none) found new tells

  -- a step of the update on its own system
  pub stepped_is : (e : Event) (q : Processor) → (step seat.start.goal e 0 own).processors ≡ q ∷ [] → stepped_by seat.start e its_guest ≡ guest seat.number q added (step seat.start.goal e 0 own).memory (done_in seat.me) (stored_in seat.me)
  stepped_is e q alone = ap (λ (o : System). in_system its_guest (step seat.start.goal e 0 o)) own_is ∙ in_its_system its_guest (step seat.start.goal e 0 own) q alone

  -- and an access
  pub accessed_is : (op : Op) (q : Processor) → (access own 0 op).after.processors ≡ q ∷ [] → accessed_by op its_guest ≡ guest seat.number q added (access own 0 op).after.memory (done_in seat.me ++ op ∷ []) (stored_in seat.me)
  accessed_is op q alone =
      ap (λ (o : System). record (in_system its_guest (access o 0 op).after) { done = done_in seat.me ++ op ∷ [] }) own_is
      ∙ ap (λ (y : Resident). record y { done = done_in seat.me ++ op ∷ [] }) (in_its_system its_guest (access own 0 op).after q alone)

  -- a step that moves nothing but the processor
  pub shifted_is : (e : Event) (later : Added) (q : Processor) → before_own e 0 own ≡ own → (step seat.start.goal e 0 own).processors ≡ q ∷ []
      → guest seat.number (own_step seat.start.goal e r.cpu) later own.memory (done_in seat.me) (stored_in seat.me) ≡ guest seat.number q later (step seat.start.goal e 0 own).memory (done_in seat.me) (stored_in seat.me)
  shifted_is e later q quiet alone =
      let is : step seat.start.goal e 0 own ≡ record { processors = own_step seat.start.goal e r.cpu ∷ []; memory = own.memory } = ap (change (own_step seat.start.goal e) 0) quiet ∙ change_one (own_step seat.start.goal e) own r.cpu r.alone in
      let same : own_step seat.start.goal e r.cpu ≡ q = first (own_step seat.start.goal e r.cpu) q (sym (ap (λ (o : System). o.processors) is) ∙ alone) in
      λ i. guest seat.number (same i) later ((sym is i).memory) (done_in seat.me) (stored_in seat.me)
    where
      first : (a b : Processor) → a ∷ [] ≡ b ∷ [] → a ≡ b
      first a b h = cc

  -- what a load that shows no cancel tells of it
  pub took : (found : ℕ) (new : YardSat)
      → (found < 4294967296 → Opens seat.me.0.start × OfOne seat.me.0 (λ y. TurnsUnshown seat.me new y (stepped_by seat.me.0.start Take y) (Some (Steps y.held.number Take)) × IsCallable seat.me.0.start y))
      → found < 4294967296 → Opens seat.start × (new.0 ≡ with_one seat.me.0 (stepped_by seat.start Take its_guest) seat.me.0.shown seat.me.0.cancel) × FitsGoal seat.start.goal r.cpu × (r.cpu.era ≡ common_era seat.start.cpus)
  took found new tells low =
      let o = tells low in (
        subst Opens r.told o.0,
        of_guest (λ u y. new.0 ≡ with_one seat.me.0 (stepped_by u Take y) seat.me.0.shown seat.me.0.cancel) (λ y same. (o.1 y same).0.0),
        of_guest (λ u y. FitsGoal u.goal y.held.cpu) (λ y same. (o.1 y same).1.0),
        of_guest (λ u y. y.held.cpu.era ≡ common_era u.cpus) (λ y same. (o.1 y same).1.1),
      )

  -- and its own machine after the call and the take
  pub visits_first : (new : Machine) (its' : TableId) (me' : YardSat) (shown : Option ℕ) (cancel : Bool) → IsQuiet (at_rest own) → IsEnabled (at_rest own) (Calls seat.start.goal) → (o : Onward seat.start Pending own r.cpu Take new) → r.cpu.phase ≡ Running
      → r.cpu.era ≡ common_era seat.start.cpus → its' ≡ seat.its → me'.1 ≡ seat.me.1
      → me'.0 ≡ with_one seat.me.0 (stepped_by seat.start Take its_guest) shown cancel → Visits (record seat { its = its'; me = me' }) new added Pending own
  visits_first new its' me' shown cancel quiet enabled o runs era same bare turns =
      let alone : new.system.processors ≡ o.q.cpu ∷ [] = ap (λ (m : Machine). m.system.processors) o.is ∙ o.q.alone in
      let is = stepped_is Take o.q.cpu o.q.alone in
      record {
        lodges = carried its' me' (stepped_by seat.start Take its_guest) shown cancel new.system o.q.cpu added same bare turns alone
            (is ∙ ap (λ (m : Machine). guest seat.number o.q.cpu added m.system.memory (done_in seat.me) (stored_in seat.me)) (sym o.is) ∙ (λ i. guest seat.number o.q.cpu added new.system.memory ((sym is i).done) ((sym is i).stored)));
        order = ap (λ (m : Machine). m.order) o.is;
        era = ap common_era alone ∙ o.era;
        one = ap (λ (ps : List Processor). length ps) r.alone;
        quiet = quiet;
        enabled = enabled;
        rounds = λ n later.
            subst (λ (m : Machine). Rounds m n) (sym (called_given seat.start own r.cpu r.alone era))
            (round_on seat.start own r.cpu o.q.cpu Take n r.alone (due_take seat.start Given r.cpu runs era refl) o.q.alone o.era (subst (λ (m : Machine). Rounds (under_way (order_of seat.start Given) m.system) n) o.is later));
      }

-- what a step on the first count told, by what the pass has added
pub takes_of : {seat : PassOf YardSat} {own : System} (r : Lodges seat own Never) → seat.me.0.root ≡ false → (slots found : ℕ) (new : YardSat)
    → TellsYardStep (table_step slots 0 0 0 none) seat.me found new → TakesYard (table_step slots 0 0 0 none) seat.me found new
takes_of r pass slots found new tells = told_pass r pass 0 0 none (table_step slots 0 0 0 none) found new tells

pub arrives_of : {seat : PassOf YardSat} {own : System} (r : Lodges seat own Never) → seat.me.0.root ≡ false → (slots found : ℕ) (new : YardSat)
    → TellsYardStep (table_step slots 0 1 0 none) seat.me found new → ArrivesYard (table_step slots 0 1 0 none) seat.me found new
arrives_of r pass slots found new tells = told_pass r pass 0 1 none (table_step slots 0 1 0 none) found new tells

pub passes_of : {seat : PassOf YardSat} {own : System} (r : Lodges seat own Once) → seat.me.0.root ≡ false → (slots found : ℕ) (new : YardSat)
    → TellsYardStep (table_step slots 0 0 0 none) seat.me found new → PassesYard (table_step slots 0 0 0 none) seat.me found new
passes_of r pass slots found new tells = told_pass r pass 0 0 none (table_step slots 0 0 0 none) found new tells

-- ---- a pass on its way

module _ {seat : PassOf YardSat} {core : Machine} {added : Added} {go : Go} {first : System} (v : Visits seat core added go first) where
  pub core_is : core ≡ under_way (order_of seat.start go) core.system
  core_is = λ i. record { system = core.system; order = v.order i }

  pub its_era : v.lodges.cpu.era ≡ common_era seat.start.cpus
  its_era = sym (ap common_era v.lodges.alone) ∙ v.era

  -- after an event by which its update goes on
  pub visits_on : (go' : Go) (e : Event) (new : Machine) (its' : TableId) (me' : YardSat) (w : Resident) (shown : Option ℕ) (cancel : Bool) (later : Added) → (o : Onward seat.start go' core.system v.lodges.cpu e new)
      → due (order_of seat.start Given) (v.lodges.cpu ∷ []) v.lodges.cpu v.lodges.cpu.phase ≡ Some e → its' ≡ seat.its → me'.1 ≡ seat.me.1 → me'.0 ≡ with_one seat.me.0 w shown cancel
      → w ≡ guest seat.number o.q.cpu later (step seat.start.goal e 0 core.system).memory w.done w.stored → Visits (record seat { its = its'; me = me' }) new later go' first
  visits_on go' e new its' me' w shown cancel later o due_given same bare turns is =
      let alone : new.system.processors ≡ o.q.cpu ∷ [] = ap (λ (m : Machine). m.system.processors) o.is ∙ o.q.alone in
      record {
        lodges = carried v.lodges its' me' w shown cancel new.system o.q.cpu later same bare turns alone (is ∙ ap (λ (m : Machine). guest seat.number o.q.cpu later m.system.memory w.done w.stored) (sym o.is));
        order = ap (λ (m : Machine). m.order) o.is;
        era = ap common_era alone ∙ o.era;
        one = v.one;
        quiet = v.quiet;
        enabled = v.enabled;
        rounds = λ n ends.
            v.rounds n (round_on seat.start core.system v.lodges.cpu o.q.cpu e n v.lodges.alone due_given o.q.alone o.era (subst (λ (m : Machine). Rounds (under_way (order_of seat.start Given) m.system) n) o.is ends));
      }
