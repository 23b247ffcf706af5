-- A step that is booked leaves the books of the machine after its event.
use Rattle.std.proofs.Common.{◌≡◌, ◌∙◌, ap, refl, sym, arith, ℕ, zero, suc, ◌+◌, ◌-◌, Bool, true, false, List, [], ◌∷◌, length, set, Some}
use Rattle.std.specs.Prelude.{cond, slice_get, map, nat_lt}
use Rattle.std.specs.List.{count_by}
use Rattle.std.proofs.lemmas.List.{length-set, map-set}
use Rattle.mt_machine.specs.declared.event.Event.{Event}
use Rattle.mt_machine.specs.declared.event.Event.TheVariants.{Take, Arrive, Leave, Pass, SetNoFill, WriteBack, DropLines, FlushTlb, Disable, Write, Enable, SetNormal, RestorePge, ArriveAgain, Release}
use Rattle.mt_machine.specs.declared.phase.Phase.{Phase}
use Rattle.mt_machine.specs.declared.phase.Phase.TheVariants.{Running, Taken, Arrived, Passed, NoFill, Flushed, TlbFlushed, Writing, Enabled, Flushed2, TlbFlushed2, Normal, Restored, Arrived2}
use Rattle.mt_machine.specs.Machine.{Order}
use Rattle.mt_machine.proofs.Rows.{is_row}
use Rattle.mt_laws.proofs.Steps.StepCounts.{count_more}
use Rattle.mt_plain.specs.Did.{counted, finished_after, moved}
use Rattle.mt_plain.specs.Due.{phase_after, phase_number, phase_place}
use Rattle.mt_plain_laws.specs.Rendezvous.{byte_of, go_number}
use Rattle.mt_plain_laws.proofs.Seen.{Seen, again, arrived, era_after, seen_after, told, told_of, update_of}

-- ---- how many pass a test where one element is replaced

abbrev one : Bool → ℕ
one b = cond b 1 0

count_set : (q : Seen → Bool) (xs : List Seen) (k : ℕ) (x y : Seen) → slice_get xs k ≡ Some x → count_by q (set xs k y) + one (q x) ≡ count_by q xs + one (q y)
count_set q [] k x y at = absurd (cc)
count_set q (z ∷ xs) zero x y at =
    let same : z ≡ x = cc in
    let here : one (q z) ≡ one (q x) = ap (λ (v : Seen). one (q v)) same in
    omega (arith, here, count_more q z xs, count_more q y xs)
count_set q (z ∷ xs) (suc k) x y at =
    let rest = count_set q xs k x y at in
    omega (arith, rest, count_more q z xs, count_more q z (set xs k y))

module _ (xs : List Seen) (k : ℕ) (x y : Seen) (at : slice_get xs k ≡ Some x) (q : Seen → Bool) where
  as_many : (b : Bool) → q x ≡ b → q y ≡ b → count_by q xs ≡ count_by q (set xs k y)
  as_many b before after =
      let sum = count_set q xs k x y at in
      let same : one (q x) ≡ one (q y) = ap (λ (v : Bool). one v) (before ∙ sym after) in
      omega (arith, sum, same)

  one_more : q x ≡ false → q y ≡ true → count_by q xs + 1 ≡ count_by q (set xs k y)
  one_more before after =
      let sum = count_set q xs k x y at in
      let was : one (q x) ≡ 0 = ap (λ (v : Bool). one v) before in
      let is : one (q y) ≡ 1 = ap (λ (v : Bool). one v) after in
      omega (arith, sum, was, is)

  one_fewer : q x ≡ true → q y ≡ false → count_by q xs - 1 ≡ count_by q (set xs k y)
  one_fewer before after =
      let sum = count_set q xs k x y at in
      let was : one (q x) ≡ 1 = ap (λ (v : Bool). one v) before in
      let is : one (q y) ≡ 0 = ap (λ (v : Bool). one v) after in
      omega (arith, sum, was, is)

-- ---- one processor that is behind the update's end

abbrev standing : Phase → ℕ → ℕ → Bool → Seen
standing ph era registers snoops = record { phase = ph; era = era; registers = registers; self_snoop = snoops }

module _ (o : Order) (xs : List Seen) (k era registers : ℕ) (snoops : Bool) (behind : nat_lt o.from_era era ≡ false) (later : nat_lt o.from_era (era + 1) ≡ true) where
  abbrev Here : Phase → Type 0
  Here ph = slice_get xs k ≡ Some (standing ph era registers snoops)

  abbrev after : Event → Phase → List Seen
  after e ph = set xs k (seen_after e (standing ph era registers snoops))

  put : (ys : List Seen) → length ys ≡ length xs → (a b : ℕ) → a ≡ count_by (arrived o) ys → b ≡ count_by (again o) ys
      → record { word = go_number o.go; processors = length xs; arrived = a; arrived_again = b } ≡ update_of o ys
  put ys long a b first second = λ i. record { word = go_number o.go; processors = sym long i; arrived = first i; arrived_again = second i }

  abbrev Counts : Event → Phase → Type 0
  Counts e ph = counted (update_of o xs) ph e ≡ update_of o (after e ph)

  -- the processor counts as before at both barriers
  still : (e : Event) (ph to : Phase) → Here ph → (b : Bool) → arrived o (standing ph era registers snoops) ≡ b → arrived o (standing to era registers snoops) ≡ b
      → again o (standing ph era registers snoops) ≡ false → again o (standing to era registers snoops) ≡ false
      → update_of o xs ≡ update_of o (set xs k (standing to era registers snoops))
  still e ph to at b before now first second =
      let x = standing ph era registers snoops in
      let y = standing to era registers snoops in
      put (set xs k y) (length-set xs k y) _ _ (as_many xs k x y at (arrived o) b before now) (as_many xs k x y at (again o) false first second)

  counts : (e : Event) (ph : Phase) → is_row e ph ≡ true → Here ph → Counts e ph
  counts Take Running row at = still Take Running Taken at false behind behind behind behind
  counts Take other row at = absurd (cc)
  counts Arrive Taken row at =
      let x = standing Taken era registers snoops in
      let y = standing Arrived era registers snoops in
      put (set xs k y) (length-set xs k y) _ _ (one_more xs k x y at (arrived o) behind refl) (as_many xs k x y at (again o) false behind behind)
  counts Arrive other row at = absurd (cc)
  counts Leave Taken row at = still Leave Taken Running at false behind behind behind behind
  counts Leave Arrived row at =
      let x = standing Arrived era registers snoops in
      let y = standing Running era registers snoops in
      put (set xs k y) (length-set xs k y) _ _ (one_fewer xs k x y at (arrived o) refl behind) (as_many xs k x y at (again o) false behind behind)
  counts Leave other row at = absurd (cc)
  counts Pass Arrived row at = still Pass Arrived Passed at true refl refl behind behind
  counts Pass other row at = absurd (cc)
  counts SetNoFill Passed row at = still SetNoFill Passed NoFill at true refl refl behind behind
  counts SetNoFill other row at = absurd (cc)
  counts (WriteBack a v) NoFill row at = still (WriteBack a v) NoFill NoFill at true refl refl behind behind
  counts (WriteBack a v) Enabled row at = still (WriteBack a v) Enabled Enabled at true refl refl behind behind
  counts (WriteBack a v) other row at = absurd (cc)
  counts DropLines NoFill row at = still DropLines NoFill Flushed at true refl refl behind behind
  counts DropLines Enabled row at = still DropLines Enabled Flushed2 at true refl refl behind behind
  counts DropLines other row at = absurd (cc)
  counts FlushTlb NoFill row at = still FlushTlb NoFill TlbFlushed at true refl refl behind behind
  counts FlushTlb Flushed row at = still FlushTlb Flushed TlbFlushed at true refl refl behind behind
  counts FlushTlb Flushed2 row at = still FlushTlb Flushed2 TlbFlushed2 at true refl refl behind behind
  counts FlushTlb other row at = absurd (cc)
  counts Disable TlbFlushed row at = still Disable TlbFlushed (Writing 0) at true refl refl behind behind
  counts Disable other row at = absurd (cc)
  counts (Write n) (Writing j) row at = still (Write n) (Writing j) (Writing (n + 1)) at true refl refl behind behind
  counts (Write n) other row at = absurd (cc)
  counts Enable (Writing j) row at = still Enable (Writing j) Enabled at true refl refl behind behind
  counts Enable other row at = absurd (cc)
  counts SetNormal TlbFlushed2 row at = still SetNormal TlbFlushed2 Normal at true refl refl behind behind
  counts SetNormal other row at = absurd (cc)
  counts RestorePge Normal row at = still RestorePge Normal Restored at true refl refl behind behind
  counts RestorePge other row at = absurd (cc)
  counts ArriveAgain Restored row at =
      let x = standing Restored era registers snoops in
      let y = standing Arrived2 era registers snoops in
      put (set xs k y) (length-set xs k y) _ _ (as_many xs k x y at (arrived o) true refl refl) (one_more xs k x y at (again o) behind refl)
  counts ArriveAgain other row at = absurd (cc)
  counts Release Arrived2 row at =
      let x = standing Arrived2 era registers snoops in
      let y = standing Running (era + 1) registers snoops in
      put (set xs k y) (length-set xs k y) _ _ (as_many xs k x y at (arrived o) true refl later) (as_many xs k x y at (again o) true refl later)
  counts Release other row at = absurd (cc)

  through : (e : Event) → finished_after e (byte_of (nat_lt o.from_era era)) ≡ byte_of (nat_lt o.from_era (era_after e era))
  through Release = ap byte_of (sym later)
  through other = refl

  -- the books after the event, made of the books before it
  pub booked_is : (e : Event) (ph : Phase) → is_row e ph ≡ true → Here ph
      → record { update = counted (update_of o xs) ph e; processors = set (map (told o) xs) k (moved (told o (standing ph era registers snoops)) ph e) } ≡ told_of o (after e ph)
  booked_is e ph row at =
      let y = seen_after e (standing ph era registers snoops) in
      let one : moved (told o (standing ph era registers snoops)) ph e ≡ told o y = λ i. record {
        phase = phase_number (phase_after e ph);
        place = phase_place (phase_after e ph);
        registers = registers;
        self_snoop = byte_of snoops;
        finished = through e i;
      } in
      let all : set (map (told o) xs) k (moved (told o (standing ph era registers snoops)) ph e) ≡ map (told o) (set xs k y) =
      ap (set (map (told o) xs) k) one ∙ sym (map-set (told o) xs k y) in
      let update = counts e ph row at in
      λ i. record { update = update i; processors = all i }
