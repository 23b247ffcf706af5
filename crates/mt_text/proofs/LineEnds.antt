-- Where the first line of bytes ends.
use Rattle.std.proofs.Common.{◌≡◌, ℕ, zero, suc, ◌<◌, nat_lt, true, false, List, [], ◌∷◌, length, slice_index, Option, Some, None, refl, sym, ap, arith, add-one, add_comm, inl, inr}
use Rattle.std.specs.List.{position, position_or_len}
use Rattle.std.proofs.lemmas.Bool.{cases_Bool}
use Rattle.std.proofs.lemmas.Bool.Decides.{nat_tests}
use Rattle.memchr.specs.Find.{IsFirstByte, is_byte}
use Rattle.mt_text.specs.Text.{is_line_end}

first_at : (xs : List ℕ) (k : ℕ) → k < length xs → ((i : ℕ) → i < k → is_line_end (slice_index xs i) ≡ true → ⊥) → is_line_end (slice_index xs k) ≡ true → position_or_len is_line_end xs ≡ k
first_at [] k within none hit = absurd (omega arith)
first_at (x ∷ xs) zero within none hit = rw hit refl
first_at (x ∷ xs) (suc k) within none hit = elim (cases_Bool (is_line_end x)) [
  | inl is ↦ absurd (none 0 (omega arith) is)
  | inr miss ↦
      let later = first_at xs k (omega arith) (λ i below. none (suc i) (omega arith)) hit in
      rw (miss, add_comm 1 (position_or_len is_line_end xs), add-one) (ap suc later)
]

nowhere : (xs : List ℕ) → ((i : ℕ) → i < length xs → is_line_end (slice_index xs i) ≡ true → ⊥) → position_or_len is_line_end xs ≡ length xs
nowhere [] none = refl
nowhere (x ∷ xs) none = elim (cases_Bool (is_line_end x)) [
  | inl is ↦ absurd (none 0 (omega arith) is)
  | inr miss ↦
      let later = nowhere xs (λ i below. none (suc i) (omega arith)) in
      rw (miss, add_comm 1 (position_or_len is_line_end xs), add-one) (ap suc later)
]

pub first_byte : (xs : List ℕ) (r : Option ℕ) → IsFirstByte (is_byte 10) xs r → r ≡ position is_line_end xs
first_byte xs None none =
    let whole = nowhere xs (λ i below. none i (omega arith) below) in
    let past : nat_lt (position_or_len is_line_end xs) (length xs) ≡ false = grind (arith, nat_tests, whole) in
    rw past refl
first_byte xs (Some k) first =
    let place = first_at xs k first.0.high (λ i below. first.0.before i (omega arith) below) first.1 in
    let within : nat_lt (position_or_len is_line_end xs) (length xs) ≡ true = grind (arith, nat_tests, place, first.0.high) in
    rw within (ap Some (sym place))
