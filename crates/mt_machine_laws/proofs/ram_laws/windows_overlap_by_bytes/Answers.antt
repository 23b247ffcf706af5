use Rattle.std.proofs.Common.{◌≡◌, ◌⊎◌, arith, ℕ, ◌<◌, ◌≤◌, ◌&&◌, nat_lt, Bool, true, false, inl, inr, refl}
use Rattle.std.proofs.lemmas.Bool.{cases_lt, lt-ltb, ltb-true}
use Rattle.mt_machine.specs.Memory as machine
use Rattle.mt_ram.specs.Windows.{HasByte}
use Rattle.mt_machine_laws.proofs.ram_laws.windows_overlap_by_bytes.Goals as goal

and_parts : (a b : Bool) → (a && b) ≡ true → (a ≡ true) × (b ≡ true)
and_parts true b h = (refl, h)
and_parts false b h = absurd (cc)

and_made : (a b : Bool) → a ≡ true → b ≡ true → (a && b) ≡ true
and_made true b h g = g
and_made false b h g = h

common : (v w : machine.Window) → 0 < v.lines → 0 < w.lines → v.base < machine.window_end w → w.base < machine.window_end v → (w.base < v.base) ⊎ (v.base ≤ w.base)
    → (a : ℕ) × HasByte v a × HasByte w a
common v w some more first second (inr low) = (w.base, (low, second), (omega arith, omega arith))
common v w some more first second (inl low) = (v.base, (omega arith, omega arith), (omega arith, first))

pub returns : goal.returns
returns c v w some more = (
  λ h. let p = and_parts (nat_lt v.base (machine.window_end w)) (nat_lt w.base (machine.window_end v)) h in
      common v w some more (ltb-true _ _ p.0) (ltb-true _ _ p.1) (cases_lt w.base v.base),
  λ h. and_made (nat_lt v.base (machine.window_end w)) (nat_lt w.base (machine.window_end v))
      (let low = h.1.0 in let high = h.2.1 in lt-ltb _ _ (omega arith)) (let low = h.2.0 in let high = h.1.1 in lt-ltb _ _ (omega arith)),
)
