-- Where a control instruction is refused.
use Rattle.std.proofs.Common.{◌≡◌, refl, subst, sym, ℕ, Bool, true, false, if◌then◌else◌, Option, Some, slice_get}
use Rattle.std.specs.Option.{option_map_or}
use Rattle.mt_tlb.specs.declared.mapping.Mapping.{Mapping}
use Rattle.mt_tlb.specs.Entries.{is_full_for, set_mapping}
use Rattle.mt_machine.specs.declared.control.Control.{Control}
use Rattle.mt_machine.specs.declared.control.Control.TheVariants.{Map, Invlpg, Cr3, Pge, Cd}
use Rattle.mt_machine.specs.declared.ruled.Ruled.TheVariants.{Okay, Full, Busy}
use Rattle.mt_machine.specs.System.{Processor, System, change}
use Rattle.mt_machine.specs.Control.{control, control_at}
use Rattle.mt_machine.specs.Access.{is_running}
use Rattle.mt_laws.specs.Parts.{ruled}
use Rattle.mt_bus.specs.Refusals.{RulesInOrder}

okay : (s t : System) (k : ℕ) (p : Processor) (c : Control) → is_running p.phase ≡ true → ((m : Mapping) → c ≡ Map m → is_full_for m p.mappings ≡ true → ⊥) → RulesInOrder s k p c (ruled Okay t)
okay s t k p c runs fits = record {
  busy = (λ h. absurd (cc), λ off. absurd (cc));
  full = (λ h. absurd (cc), λ h. absurd (fits h.1.0 h.1.1 h.1.2));
  busy_keeps = λ h. absurd (cc);
  full_keeps = λ h. absurd (cc);
}

map_case : (s : System) (k : ℕ) (p : Processor) (m : Mapping) → is_running p.phase ≡ true → (b : Bool) → is_full_for m p.mappings ≡ b
    → RulesInOrder s k p (Map m) (if b then ruled Full s else ruled Okay (change (λ q. record q { mappings = set_mapping m q.mappings }) k s))
map_case s k p m runs true full = record {
  busy = (λ h. absurd (cc), λ off. absurd (cc));
  full = (λ h. (runs, (m, refl, full)), λ h. refl);
  busy_keeps = λ h. absurd (cc);
  full_keeps = λ h. refl;
}
map_case s k p m runs false room =
    okay s (change (λ q. record q { mappings = set_mapping m q.mappings }) k s) k p (Map m) runs
    (λ x is full. let same : x ≡ m = cc in let now = subst (λ (y : Mapping). is_full_for y p.mappings ≡ true) same full in absurd (cc))

running_case : (s : System) (k : ℕ) (p : Processor) (c : Control) → is_running p.phase ≡ true → RulesInOrder s k p c (control_at s k p c)
running_case s k p (Map m) runs = map_case s k p m runs (is_full_for m p.mappings) refl
running_case s k p (Invlpg a) runs = okay s _ k p (Invlpg a) runs (λ m is full. cc)
running_case s k p Cr3 runs = okay s _ k p Cr3 runs (λ m is full. cc)
running_case s k p (Pge on) runs = okay s _ k p (Pge on) runs (λ m is full. cc)
running_case s k p (Cd on) runs = okay s _ k p (Cd on) runs (λ m is full. cc)

pub rules : (s : System) (k : ℕ) (p : Processor) (c : Control) → slice_get s.processors k ≡ Some p → RulesInOrder s k p c (control s k c)
rules s k p c at =
    subst (λ (o : Option Processor). RulesInOrder s k p c (option_map_or (λ q. if is_running q.phase then control_at s k q c else ruled Busy s) o (ruled Busy s))) (sym at)
    (one (is_running p.phase) refl)
  where
    one : (b : Bool) → is_running p.phase ≡ b → RulesInOrder s k p c (if b then control_at s k p c else ruled Busy s)
    one true is = running_case s k p c is
    one false is = record {
      busy = (λ h. is, λ off. refl);
      full = (λ h. absurd (cc), λ h. let on = h.0 in absurd (cc));
      busy_keeps = λ h. refl;
      full_keeps = λ h. refl;
    }
