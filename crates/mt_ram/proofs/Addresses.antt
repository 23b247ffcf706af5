-- The address of a word by its place.
use Rattle.std.proofs.Common.{◌≡◌, ◌∙◌, ap, arith, ℕ, zero, suc, ◌+◌, ◌-◌, ◌*◌, ◌<◌, ◌≤◌, List, ◌++◌, drop, get_or, length, map, slice_index_or}
use Rattle.std.specs.Prelude.{slice_index}
use Rattle.std.proofs.lemmas.List.{drop_more}
use Rattle.mt_machine.specs.Update.{addresses, addresses_from}
use Rattle.mt_ram.specs.declared.window.Window.{Window}
use Rattle.mt_ram.specs.Windows.{window_of}

get_from : (base n i : ℕ) (xs : List ℕ) → i < n → get_or (addresses_from base n ++ xs) i 0 ≡ base + 8 * i
get_from base zero i xs within = absurd (omega arith)
get_from base (suc n) zero xs within = omega arith
get_from base (suc n) (suc i) xs within = let r = get_from (base + 8) n i xs (omega arith) in omega arith

get_past : (base n i : ℕ) (xs : List ℕ) → n ≤ i → get_or (addresses_from base n ++ xs) i 0 ≡ get_or xs (i - n) 0
get_past base zero i xs past = ap (λ (k : ℕ). get_or xs k 0) (let e : i ≡ i - 0 = omega arith in e)
get_past base (suc n) zero xs past = absurd (omega arith)
get_past base (suc n) (suc i) xs past = get_past (base + 8) n i xs (omega arith) ∙ ap (λ (k : ℕ). get_or xs k 0) (let e : i - n ≡ suc i - suc n = omega arith in e)

module _ (ws : List Window) (k : ℕ) (d : Window) (here : k < length ws) where
  opened : addresses (map window_of (drop k ws)) ≡ addresses_from (slice_index_or ws k d).base (8 * (slice_index_or ws k d).lines) ++ addresses (map window_of (drop (k + 1) ws))
  opened = ap (λ (vs : List Window). addresses (map window_of vs)) (drop_more ws k d here)

  -- it lies in the window there
  pub address_here : (i : ℕ) → i < 8 * (slice_index_or ws k d).lines → slice_index (addresses (map window_of (drop k ws))) i ≡ (slice_index_or ws k d).base + 8 * i
  address_here i within = ap (λ (xs : List ℕ). get_or xs i 0) opened ∙ get_from (slice_index_or ws k d).base (8 * (slice_index_or ws k d).lines) i _ within

  -- or in one behind it
  pub address_later : (i : ℕ) → 8 * (slice_index_or ws k d).lines ≤ i → slice_index (addresses (map window_of (drop k ws))) i ≡ slice_index (addresses (map window_of (drop (k + 1) ws))) (i - 8 * (slice_index_or ws k d).lines)
  address_later i past = ap (λ (xs : List ℕ). get_or xs i 0) opened ∙ get_past (slice_index_or ws k d).base (8 * (slice_index_or ws k d).lines) i _ past
