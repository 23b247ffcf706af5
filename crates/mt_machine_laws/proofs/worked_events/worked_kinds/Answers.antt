use Rattle.std.proofs.Common.{◌≡◌, Option, None, true, refl, ap}
use Rattle.std.specs.Option.{option_map}
use Rattle.mt_machine.specs.declared.event.Event.TheVariants.{Leave, Take}
use Rattle.mt_machine.specs.Machine.{Accesses, Calls, Cancels, Controls, Goes, IsEnabled, Machine, MachineEvent, Order, Steps, due_at, go_of}
use Rattle.mt_machine.specs.Update.{Led, is_led, led_on, led_start}
use Rattle.mt_machine_laws.proofs.worked_events.worked_kinds.Goals as goal

pub returns-clause-led_by_go : goal.returns-clause-led_by_go
returns-clause-led_by_go c = led_on (Steps 0 Take) (led_on Goes led_start refl refl) refl refl

pub returns-clause-led_by_cancel : goal.returns-clause-led_by_cancel
returns-clause-led_by_cancel c = led_on (Steps 0 Leave) (led_on Cancels (led_on (Steps 0 Take) led_start refl refl) refl refl) refl refl

-- what leads on needs an order
needs : (e : MachineEvent) (m : Machine) → m.order ≡ None → IsEnabled m e → is_led e ≡ true → ⊥
needs (Accesses k op) m none enabled led = absurd (cc)
needs (Controls k c) m none enabled led = absurd (cc)
needs (Calls goal) m none enabled led = absurd (cc)
needs Goes m none enabled led = absurd (let h : go_of m ≡ None = ap (λ (v : Option Order). option_map (λ o. o.go) v) none in cc)
needs Cancels m none enabled led = absurd (let h : go_of m ≡ None = ap (λ (v : Option Order). option_map (λ o. o.go) v) none in cc)
needs (Steps k w) m none enabled led = absurd (let h : due_at m k ≡ None = ap (λ (v : Option Order). due_at (record { system = m.system; order = v }) k) none in cc)

stays : {s t : Machine} → Led s t → s.order ≡ None → t.order ≡ None
stays led_start none = none
stays (led_on {t = t} e before enabled led) none = absurd (needs e t (stays before none) enabled led)

pub returns-clause-call_is_not_led : goal.returns-clause-call_is_not_led
returns-clause-call_is_not_led c = λ h. absurd (let none = stays h refl in cc)
