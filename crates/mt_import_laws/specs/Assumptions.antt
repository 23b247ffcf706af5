-- The values that assumptions give (own).
--     IsNamedValue slots number value      it is one of the values that are named for this register of a processor
use Rattle.std.specs.Prelude.{ℕ, ◌≡◌, ◌⊎◌, ◌+◌, ◌-◌, ◌^◌, true}
use Rattle.mt_import.specs.declared.shape.Slot.{Slot}
use Rattle.mt_import.specs.Values.{is_fixed_number, is_pair_number, linux_pat, pair_count, power_up_pat, size_in, xen_pat}

pub data IsNamedValue (slots : ℕ → Slot) (number value : ℕ) : Type 0 where
  -- the PAT of power-up, of Xen or of Linux
  of_pat : number ≡ 0x277 → ((value ≡ power_up_pat) ⊎ (value ≡ xen_pat)) ⊎ (value ≡ linux_pat) → IsNamedValue slots number value
  -- VCNT, FIX and WC
  of_capabilities : number ≡ 0xfe → value ≡ pair_count slots + 0x500 → IsNamedValue slots number value
  -- V, and ones from a shown size up to a width
  of_size : (width : ℕ) → is_pair_number number ≡ true → value ≡ 2 ^ width - size_in (slots number) + 0x800 → IsNamedValue slots number value
  of_no_pair : is_pair_number number ≡ true → value ≡ 0 → IsNamedValue slots number value
  -- WB, UC or WP in each range
  of_fixed : is_fixed_number number ≡ true → ((value ≡ 0x0606060606060606) ⊎ (value ≡ 0)) ⊎ (value ≡ 0x0505050505050505) → IsNamedValue slots number value
  -- E with or without FE, and UC or WB
  of_default : number ≡ 0x2ff → ((value ≡ 0x800) ⊎ (value ≡ 0xc00)) ⊎ ((value ≡ 0x806) ⊎ (value ≡ 0xc06)) → IsNamedValue slots number value
