-- The events of a processor between the barriers, and how phases go with the rule.
use Rattle.std.proofs.Common.{◌≡◌, ◌≢◌, ◌+◌, ℕ, Bool, true, false, List, [], length, sym, refl, ap, ◌∙◌, subst, ⊎_elim, arith, Some, None}
use Rattle.mt_machine.proofs.Rows.{back_case, due_row, first_flush_case, is_row}
use Rattle.std.specs.Prelude.{nat_lt, if◌then◌else◌, slice_get}
use Rattle.std.specs.Option.{option_map_or}
use Rattle.std.proofs.lemmas.Bool.{lt-ltb}
use Rattle.mt_regs.specs.RegisterFile.{RegisterFile}
use Rattle.mt_regs.specs.Registers.{writable}
use Rattle.mt_machine.specs.declared.phase.Phase.{Phase}
use Rattle.mt_machine.specs.declared.phase.Phase.TheVariants.{Running, Taken, Arrived, Passed, NoFill, Flushed, TlbFlushed, Writing, Enabled, Flushed2, TlbFlushed2, Normal, Restored, Arrived2}
use Rattle.mt_machine.specs.declared.event.Event.{Event}
use Rattle.mt_machine.specs.declared.event.Event.TheVariants.{Take, WriteBack, Write, Enable}
use Rattle.mt_machine.specs.declared.go.Go.{Go}
use Rattle.mt_machine.specs.declared.go.Go.TheVariants.{Given, Cancelled}
use Rattle.mt_machine.specs.System.{Processor, System}
use Rattle.mt_machine.specs.Update.{is_release}
use Rattle.mt_machine.specs.Machine.{Order, Steps, due, own_step, before_own, is_changing, has_arrived, has_arrived_again, write_back_or_drop, write_or_enable, after_drop, after_flush, flush_tlb, common_era}
use Rattle.mt_machine.specs.Control.{reload_cr3}
use Rattle.mt_cpu.specs.Steps.{is_local}
use Rattle.mt_rendezvous.specs.declared.view.Held.{Held}
use Rattle.mt_rendezvous.specs.declared.view.Start.{Start}
use Rattle.mt_rendezvous.specs.Station.{order_of, code, phase_word, FitsPhase, FitsHeld, Waits, rise, in_first, in_second}
use Rattle.mt_rendezvous.specs.Plays.{written}
use Rattle.mt_rendezvous.specs.declared.view.Added.TheVariants.{Never, Once, Twice}
use Rattle.mt_rendezvous.specs.declared.view.Added.{Added}
use Rattle.mt_rendezvous.proofs.Keeps.{IsUnderWay}

-- ---- phases and the rule

pub changing_under_way : (p : Phase) → is_changing p ≡ true → IsUnderWay p
changing_under_way Running h = absurd (cc)
changing_under_way other h = tt

pub local_changing : (p : Phase) → is_local p ≡ true → is_changing p ≡ true
local_changing Running h = absurd (cc)
local_changing Taken h = absurd (cc)
local_changing Arrived h = absurd (cc)
local_changing Arrived2 h = absurd (cc)
local_changing other h = refl

pub changing_waits_not : (p : Phase) → is_changing p ≡ true → Waits p → ⊥
changing_waits_not Running h w = absurd (cc)
changing_waits_not Taken h w = absurd (cc)
changing_waits_not Arrived h w = absurd (cc)
changing_waits_not other h w = w

pub fits_changing : (go : Go) (added : Added) (p : Phase) → is_changing p ≡ true → added ≡ Once → go ≡ Given → FitsPhase go added p
fits_changing go added Running h a b = absurd (cc)
fits_changing go added Taken h a b = absurd (cc)
fits_changing go added Arrived h a b = absurd (cc)
fits_changing go added Arrived2 h a b = absurd (cc)
fits_changing go added other h a b = (a, b)

pub changing_fits : (go : Go) (added : Added) (p : Phase) → is_changing p ≡ true → FitsPhase go added p → (added ≡ Once) × (go ≡ Given)
changing_fits go added Running h f = absurd (cc)
changing_fits go added Taken h f = absurd (cc)
changing_fits go added Arrived h f = absurd (cc)
changing_fits go added Arrived2 h f = absurd (cc)
changing_fits go added other h f = f

pub word_is_code : (again : Bool) (p : Phase) → is_changing p ≡ true → phase_word again p ≡ code p
word_is_code again Running h = absurd (cc)
word_is_code again Arrived2 h = absurd (cc)
word_is_code again other h = refl

no_rise : (again : Bool) (p : Phase) → IsUnderWay p → rise again p ≡ 0
no_rise again Running u = absurd u
no_rise again other u = refl

pub same_era : (t : Start) (go : Go) (h : Held) → FitsHeld t go h → IsUnderWay h.cpu.phase → h.cpu.era ≡ common_era t.cpus
same_era t go h f u = let e = f.era in let z = no_rise (in_second h.added) h.cpu.phase u in omega arith

-- a processor that is on its way after an event that leaves its era
pub fits_on : (t : Start) (go : Go) (h : Held) → h.cpu.era ≡ common_era t.cpus → IsUnderWay h.cpu.phase → FitsPhase go h.added h.cpu.phase → (Waits h.cpu.phase → slice_get t.cpus h.number ≡ Some (record h.cpu { phase = Taken })) → FitsHeld t go h
fits_on t go h era u f first = record { first = first; fits = f; era = let z = no_rise (in_second h.added) h.cpu.phase u in omega arith }

-- ---- the barriers' counts

pub arrived_in : (t : Start) (p : Processor) (added : Added) (ph : Phase) → FitsPhase Given added ph → in_first added ≡ true → p.era ≡ common_era t.cpus + rise (in_second added) ph → has_arrived (order_of t Given) (record p { phase = ph }) ≡ true
arrived_in t p added Taken f a era = absurd (⊎_elim
    (λ (x : added ≡ Never). let e : false ≡ true = ap in_first (sym x) ∙ a in cc)
    (λ (x : (added ≡ Once) × (Given ≡ Cancelled)). let e = x.1 in cc)
    f)
arrived_in t p added Running f a era = ⊎_elim
    (λ (x : (added ≡ Once) × (Given ≡ Cancelled)). let e = x.1 in absurd (cc))
    (λ (x : (added ≡ Twice) × (Given ≡ Given)). let up : rise (in_second added) Running ≡ 1 = ap (λ b. rise (in_second b) Running) x.0 in lt-ltb (common_era t.cpus) p.era (omega arith))
    f
arrived_in t p added other f a era = refl

pub arrived_of : (t : Start) (go : Go) (h : Held) → go ≡ Given → FitsHeld t go h → in_first h.added ≡ true → has_arrived (order_of t go) h.cpu ≡ true
arrived_of t go h is f a =
    subst (λ (g : Go). has_arrived (order_of t g) h.cpu ≡ true) (sym is)
    (arrived_in t h.cpu h.added h.cpu.phase (subst (λ (g : Go). FitsPhase g h.added h.cpu.phase) is f.fits) a f.era)

pub again_in : (t : Start) (go : Go) (p : Processor) (added : Added) (ph : Phase) → FitsPhase go added ph → in_second added ≡ true → p.era ≡ common_era t.cpus + rise (in_second added) ph → has_arrived_again (order_of t go) (record p { phase = ph }) ≡ true
again_in t go p added Arrived2 f a era = refl
again_in t go p added Running f a era = let up : rise (in_second added) Running ≡ 1 = ap (λ b. rise b Running) a in lt-ltb (common_era t.cpus) p.era (omega arith)
again_in t go p added Taken f a era = absurd (⊎_elim
    (λ (x : added ≡ Never). let e : false ≡ true = ap in_second (sym x) ∙ a in cc)
    (λ (x : (added ≡ Once) × (go ≡ Cancelled)). let e : false ≡ true = ap in_second (sym x.0) ∙ a in cc)
    f)
again_in t go p added Arrived f a era = absurd (let e : false ≡ true = ap in_second (sym f) ∙ a in cc)
again_in t go p added other f a era = absurd (let e : false ≡ true = ap in_second (sym f.0) ∙ a in cc)

pub again_of_held : (t : Start) (go : Go) (h : Held) → FitsHeld t go h → in_second h.added ≡ true → has_arrived_again (order_of t go) h.cpu ≡ true
again_of_held t go h f a = again_in t go h.cpu h.added h.cpu.phase f.fits a f.era

-- ---- local events

abbrev pub IsWork : RegisterFile → Event → Processor → Type 0
IsWork goal e p = (is_changing (own_step goal e p).phase ≡ true) × ((own_step goal e p).era ≡ p.era) × (is_release (Steps 0 e) ≡ false)

drop_changes : (p : Phase) → is_changing (after_drop p) ≡ true
drop_changes Enabled = refl
drop_changes other = refl

flush_changes : (p : Phase) → is_changing (after_flush p) ≡ true
flush_changes Flushed2 = refl
flush_changes other = refl

flush_era : (ph : Phase) (p : Processor) → (flush_tlb ph p).era ≡ p.era
flush_era Flushed2 p = refl
flush_era other p = one p.page_global
  where
    one : (b : Bool) → (if b then record p { remembered_global = true; page_global = false; entries = [] } else record (reload_cr3 p) { remembered_global = false }).era ≡ p.era
    one true = refl
    one false = refl

back_works : (goal : RegisterFile) (p : Processor) → is_changing p.phase ≡ true → IsWork goal (write_back_or_drop p) p
back_works goal p on = back_case (λ (x : Event). IsWork goal x p) p (λ a v. (on, refl, refl)) (drop_changes p.phase, refl, refl)

last_works : (goal : RegisterFile) (p : Processor) (i : ℕ) → IsWork goal (write_or_enable p i) p
last_works goal p i = one (nat_lt (i + 1) (length (writable p.file)))
  where
    one : (b : Bool) → IsWork goal (if b then Write i else Enable) p
    one true = (refl, refl, refl)
    one false = (refl, refl, refl)

injected : (a b : Event) → Some a ≡ Some b → a ≡ b
injected a b e = cc

-- an event between the barriers leads to a phase between them, leaves the era, and is no release
pub works_in : (goal : RegisterFile) (p : Processor) (e : Event) (ph : Phase) → ph ≡ p.phase → is_local ph ≡ true → ((o : Order) (ps : List Processor) → due o ps p ph ≡ Some e) → Order → IsWork goal e p
works_in goal p e Running same here is o = absurd (cc)
works_in goal p e Taken same here is o = absurd (cc)
works_in goal p e Arrived same here is o = absurd (cc)
works_in goal p e Arrived2 same here is o = absurd (cc)
works_in goal p e Restored same here is o = absurd (cc)
works_in goal p e Passed same here is o = subst (λ (x : Event). IsWork goal x p) (injected _ _ (is o [])) (refl, refl, refl)
works_in goal p e NoFill same here is o =
    first_flush_case p e (is o []) (λ on v. subst (λ (x : Event). IsWork goal x p) v (flush_changes p.phase, flush_era p.phase p, refl))
    (λ off g. subst (λ (x : Event). IsWork goal x p) (injected _ _ g) (back_works goal p (sym (ap is_changing same))))
works_in goal p e Flushed same here is o = subst (λ (x : Event). IsWork goal x p) (injected _ _ (is o [])) (flush_changes p.phase, flush_era p.phase p, refl)
works_in goal p e TlbFlushed same here is o = subst (λ (x : Event). IsWork goal x p) (injected _ _ (is o [])) (refl, refl, refl)
works_in goal p e (Writing i) same here is o = subst (λ (x : Event). IsWork goal x p) (injected _ _ (is o [])) (last_works goal p i)
works_in goal p e Enabled same here is o = subst (λ (x : Event). IsWork goal x p) (injected _ _ (is o [])) (back_works goal p (sym (ap is_changing same)))
works_in goal p e Flushed2 same here is o = subst (λ (x : Event). IsWork goal x p) (injected _ _ (is o [])) (flush_changes p.phase, flush_era p.phase p, refl)
works_in goal p e TlbFlushed2 same here is o = subst (λ (x : Event). IsWork goal x p) (injected _ _ (is o [])) (refl, refl, refl)
works_in goal p e Normal same here is o = subst (λ (x : Event). IsWork goal x p) (injected _ _ (is o [])) (refl, refl, refl)

-- such an event looks at nothing but the processor
pub due_alone : (o u : Order) (ps qs : List Processor) (p : Processor) (e : Event) (ph : Phase) → is_local ph ≡ true → due o ps p ph ≡ Some (option_map_or (λ x. x) (due u qs p ph) e)
due_alone o u ps qs p e Running h = absurd (cc)
due_alone o u ps qs p e Taken h = absurd (cc)
due_alone o u ps qs p e Arrived h = absurd (cc)
due_alone o u ps qs p e Arrived2 h = absurd (cc)
due_alone o u ps qs p e Restored h = absurd (cc)
due_alone o u ps qs p e other h = refl

-- such an event is not Take
pub takes_not : (p : Processor) (e : Event) (ph : Phase) → is_local ph ≡ true → ((o : Order) (ps : List Processor) → due o ps p ph ≡ Some e) → Order → e ≢ Take
takes_not p e ph here is o take = absurd (runs ph here (ap (λ (x : Event). is_row x ph) (sym take) ∙ due_row o [] p ph e (is o [])))
  where
    runs : (ph : Phase) → is_local ph ≡ true → is_row Take ph ≡ true → ⊥
    runs Running h on = absurd (cc)
    runs other h on = absurd (cc)

-- an event that writes no word of memory, and one that does
pub written_not : (e : Event) (k : ℕ) (s : System) → e ≢ Take → written e ≡ None → before_own e k s ≡ s
written_not Take k s other h = absurd (other refl)
written_not (WriteBack a v) k s other h = absurd (cc)
written_not e k s other h = refl

paired : (p q : ℕ × ℕ) → Some p ≡ Some q → p ≡ q
paired p q e = cc

pub written_is : (e : Event) (a v : ℕ) → written e ≡ Some (a, v) → e ≡ WriteBack a v
written_is (WriteBack x y) a v h = ap (λ (z : ℕ × ℕ). WriteBack z.0 z.1) (paired (x, y) (a, v) h)
written_is e a v h = absurd (cc)
