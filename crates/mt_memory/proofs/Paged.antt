-- The pages of ranges have the kinds that they are of.
use Rattle.std.proofs.Common.{◌≡◌, ◌∙◌, ◌≤◌, ◌<◌, ◌+◌, ◌-◌, ◌*◌, ◌/◌, ◌%◌, ◌==◌, ◌&&◌, ◌||◌, ℕ, Bool, true, false, nat_le, nat_lt, List, [], ◌∷◌, ◌++◌, Option, Some, None, refl, sym, ap, subst, arith, inl, inr, append_assoc}
use Rattle.std.specs.Prelude.{if◌then◌else◌, ⊤, ◌⊎◌}
use Rattle.std.proofs.lemmas.Bool.{and_parts, cases_lt}
use Rattle.std.proofs.lemmas.Bool.Decides.{nat_tests}
use Rattle.std.proofs.lemmas.List.{append-nil}
use Rattle.mt_memory.specs.declared.format.MapFault.{MapFault}
use Rattle.mt_memory.specs.declared.format.Shown.{Shown}
use Rattle.mt_memory.specs.declared.format.Shown.TheVariants.{Nothing, Range, Fault}
use Rattle.mt_memory_kinds.specs.declared.kind.MemoryKind.{MemoryKind}
use Rattle.mt_memory_kinds.specs.declared.kind.MemoryKind.TheVariants.{Ram, Reserved, Device, Acpi, Nvs, Unusable}
use Rattle.mt_memory_kinds.specs.declared.kind.MemoryRange.{MemoryRange}
use Rattle.mt_memory.specs.Laying.{goes_on, joined, ranges_of}
use Rattle.mt_memory.specs.Log.{Settled, nothing_settled, settled_from, settled_with}
use Rattle.mt_memory.specs.Maps.{AreLongest, kind_shown}
use Rattle.mt_memory_kinds.specs.Ranges.{AreAscending, has, is_kind, kind_at, kind_number}
use Rattle.mt_memory.specs.Pages.{ArePagesOf, IsFirst, IsPageOf, PagesAreOfKinds, Touches, claim_of, claims_of, counted, counted_as, kinds_from, pages_between, ranges_if, settled_kinds, shown_pages, touched, weakest_first, whole}
use Rattle.mt_memory.proofs.Joined.{joined_is_same, joined_longest, joined_order, same_kind}
use Rattle.mt_memory.proofs.Laid.{is_over, is_under, is_within}
use Rattle.mt_memory.proofs.Settles.{IsOrdered, IsSettled, kind_append, settles_more, settles_nothing}

-- ---- tests

at_most : (a b : ℕ) → nat_le a b ≡ true → a ≤ b
at_most a b test = grind (arith, nat_tests, test)

below : (a b : ℕ) → nat_lt a b ≡ true → a < b
below a b test = grind (arith, nat_tests, test)

within : (range : MemoryRange) (page : ℕ) → has range page ≡ true → (range.first ≤ page) × (page ≤ range.last)
within range page hit = let both = and_parts (nat_le range.first page) (nat_le page range.last) hit in (at_most range.first page both.0, at_most page range.last both.1)

some_same : {A : Type 0} (a b : A) → Some a ≡ Some b → a ≡ b
some_same a b same = cc same

none_is_some : {A : Type 0} {a : A} → None ≡ Some a → ⊥
none_is_some same = cc same

-- ---- claims of pages

abbrev in_claim : Shown → ℕ → Bool
in_claim Nothing page = false
in_claim (Range claim) page = has claim.range page
in_claim (Fault fault) page = false

-- the claim is of the kind, if it is one
abbrev IsOfKind : MemoryKind → Shown → Type 0
IsOfKind kind Nothing = ⊤
IsOfKind kind (Range claim) = claim.range.kind ≡ kind
IsOfKind kind (Fault fault) = ⊤

between_is : (first end : ℕ) (kind : MemoryKind) → IsOrdered (shown_pages (pages_between first end kind)) × IsOfKind kind (shown_pages (pages_between first end kind))
between_is first end kind = by (nat_lt first end) refl
  where
    by : (some : Bool) → nat_lt first end ≡ some
        → IsOrdered (shown_pages (if some then Some (record { first = first; last = end - 1; kind = kind }) else None)) × IsOfKind kind (shown_pages (if some then Some (record { first = first; last = end - 1; kind = kind }) else None))
    by true is = let less = below first end is in (omega (arith, less), refl)
    by false is = (tt, tt)

between_in : (first end : ℕ) (kind : MemoryKind) (page : ℕ) → in_claim (shown_pages (pages_between first end kind)) page ≡ true → (first ≤ page) × (page < end)
between_in first end kind page = by (nat_lt first end) refl
  where
    by : (some : Bool) → nat_lt first end ≡ some → in_claim (shown_pages (if some then Some (record { first = first; last = end - 1; kind = kind }) else None)) page ≡ true → (first ≤ page) × (page < end)
    by true is hit =
        let less = below first end is in
        let parts = within (record { first = first; last = end - 1; kind = kind }) page hit in
        (parts.0, omega (arith, less, parts.1))
    by false is hit = cc hit

between_has : (first end : ℕ) (kind : MemoryKind) (page : ℕ) → first ≤ page → page < end → in_claim (shown_pages (pages_between first end kind)) page ≡ true
between_has first end kind page low high = by (nat_lt first end) refl
  where
    by : (some : Bool) → nat_lt first end ≡ some → in_claim (shown_pages (if some then Some (record { first = first; last = end - 1; kind = kind }) else None)) page ≡ true
    by true is = is_within (record { first = first; last = end - 1; kind = kind }) page low (omega (arith, high))
    by false is = let some : nat_lt first end ≡ true = grind (arith, nat_tests, low, high) in cc (some, is)

counted_is : (kind : MemoryKind) (range : MemoryRange) → IsOrdered (shown_pages (counted_as kind range)) × IsOfKind range.kind (shown_pages (counted_as kind range))
counted_is Ram range = between_is _ _ range.kind
counted_is Reserved range = between_is _ _ range.kind
counted_is Device range = between_is _ _ range.kind
counted_is Acpi range = between_is _ _ range.kind
counted_is Nvs range = between_is _ _ range.kind
counted_is Unusable range = between_is _ _ range.kind

claim_is : (kind : MemoryKind) (range : MemoryRange) → IsOrdered (claim_of kind range) × IsOfKind kind (claim_of kind range)
claim_is kind range = by (is_kind range.kind kind) refl
  where
    by : (same : Bool) → is_kind range.kind kind ≡ same
        → IsOrdered (if same then shown_pages (counted range) else Nothing) × IsOfKind kind (if same then shown_pages (counted range) else Nothing)
    by true is = let parts = counted_is range.kind range in (parts.0, subst (λ k. IsOfKind k (shown_pages (counted range))) (same_kind range.kind kind is) parts.1)
    by false is = (tt, tt)

-- ---- what they settle to

abbrev AreOrdered : List Shown → Type 0
AreOrdered [] = ⊤
AreOrdered (shown ∷ more) = IsOrdered shown × AreOrdered more

claims_ordered : (kind : MemoryKind) (ranges : List MemoryRange) → AreOrdered (claims_of kind ranges)
claims_ordered kind [] = tt
claims_ordered kind (range ∷ ranges) = ((claim_is kind range).0, claims_ordered kind ranges)

settles_all : (more : List Shown) (s : Settled) (shown : List Shown) → AreOrdered more → IsSettled s shown → IsSettled (settled_from s more) (shown ++ more)
settles_all [] s shown ordered good = subst (IsSettled s) (sym (append-nil shown)) good
settles_all (x ∷ more) s shown ordered good =
    subst (IsSettled (settled_from (settled_with s x) more)) (append_assoc shown (x ∷ []) more)
    (settles_all more (settled_with s x) (shown ++ x ∷ []) ordered.1 (settles_more s shown good x ordered.0))

abbrev all_claims : List MemoryKind → List MemoryRange → List Shown
all_claims [] ranges = []
all_claims (kind ∷ kinds) ranges = claims_of kind ranges ++ all_claims kinds ranges

settles_kinds : (kinds : List MemoryKind) (ranges : List MemoryRange) (s : Settled) (shown : List Shown) → IsSettled s shown → IsSettled (kinds_from s kinds ranges) (shown ++ all_claims kinds ranges)
settles_kinds [] ranges s shown good = subst (IsSettled s) (sym (append-nil shown)) good
settles_kinds (kind ∷ kinds) ranges s shown good =
    let next = settles_all (claims_of kind ranges) s shown (claims_ordered kind ranges) good in
    subst (IsSettled (kinds_from (settled_from s (claims_of kind ranges)) kinds ranges)) (append_assoc shown (claims_of kind ranges) (all_claims kinds ranges))
    (settles_kinds kinds ranges (settled_from s (claims_of kind ranges)) (shown ++ claims_of kind ranges) next)

-- ---- the kind that counts

abbrev any_pages : MemoryKind → List MemoryRange → ℕ → Bool
any_pages kind [] page = false
any_pages kind (range ∷ ranges) page = in_claim (claim_of kind range) page || any_pages kind ranges page

shown_kind : (kind : MemoryKind) (ranges : List MemoryRange) (known : Option MemoryKind) (page : ℕ) → kind_shown known (claims_of kind ranges) page ≡ (if any_pages kind ranges page then Some kind else known)
shown_kind kind [] known page = refl
shown_kind kind (range ∷ ranges) known page = by (claim_of kind range) (claim_is kind range).1 (λ known. shown_kind kind ranges known page)
  where
    settle : (hit any : Bool) (same : MemoryKind) → same ≡ kind → (if any then Some kind else (if hit then Some same else known)) ≡ (if hit || any then Some kind else known)
    settle true true same is = refl
    settle true false same is = ap Some is
    settle false true same is = refl
    settle false false same is = refl

    by : (shown : Shown) → IsOfKind kind shown → ((known : Option MemoryKind) → kind_shown known (claims_of kind ranges) page ≡ (if any_pages kind ranges page then Some kind else known))
        → kind_shown known (shown ∷ claims_of kind ranges) page ≡ (if in_claim shown page || any_pages kind ranges page then Some kind else known)
    by Nothing is rest = rest known
    by (Fault fault) is rest = rest known
    by (Range claim) is rest =
        rest (if has claim.range page then Some claim.range.kind else known) ∙ settle (has claim.range page) (any_pages kind ranges page) claim.range.kind is

abbrev pick_kind : Option MemoryKind → (MemoryKind → Bool) → List MemoryKind → Option MemoryKind
pick_kind known any [] = known
pick_kind known any (kind ∷ kinds) = pick_kind (if any kind then Some kind else known) any kinds

picks : (kinds : List MemoryKind) (ranges : List MemoryRange) (known : Option MemoryKind) (page : ℕ) → kind_shown known (all_claims kinds ranges) page ≡ pick_kind known (λ kind. any_pages kind ranges page) kinds
picks [] ranges known page = refl
picks (kind ∷ kinds) ranges known page =
    kind_append known (claims_of kind ranges) (all_claims kinds ranges) page ∙ ap (λ k. kind_shown k (all_claims kinds ranges) page) (shown_kind kind ranges known page)
    ∙ picks kinds ranges (if any_pages kind ranges page then Some kind else known) page

module _ (any : MemoryKind → Bool) where
  -- what counts is known or some kind that there is
  counts_some : (kinds : List MemoryKind) (known : Option MemoryKind) (kind : MemoryKind) → pick_kind known any kinds ≡ Some kind → (known ≡ Some kind) ⊎ (any kind ≡ true)
  counts_some [] known kind is = inl is
  counts_some (x ∷ kinds) known kind is = by (any x) refl (counts_some kinds (if any x then Some x else known) kind is)
    where
      by : (hit : Bool) → any x ≡ hit → ((if hit then Some x else known) ≡ Some kind) ⊎ (any kind ≡ true) → (known ≡ Some kind) ⊎ (any kind ≡ true)
      by true hit (inl same) = inr (subst (λ k. any k ≡ true) (some_same x kind same) hit)
      by false hit (inl same) = inl same
      by hit is (inr some) = inr some

  abbrev AreSorted : ℕ → List MemoryKind → Type 0
  AreSorted low [] = ⊤
  AreSorted low (kind ∷ kinds) = (low ≤ kind_number kind) × AreSorted (kind_number kind) kinds

  -- a kind counts that isn't before this one
  record Counts (known : Option MemoryKind) (kinds : List MemoryKind) (least : MemoryKind) : Type 0 where
    kind : MemoryKind
    counts : pick_kind known any kinds ≡ Some kind
    later : kind_number least ≤ kind_number kind

  stays : (kinds : List MemoryKind) (kind : MemoryKind) (low : ℕ) → kind_number kind ≤ low → AreSorted low kinds → Counts (Some kind) kinds kind
  stays [] kind low less sorted = record { kind = kind; counts = refl; later = omega arith }
  stays (x ∷ kinds) kind low less sorted =
      by (any x) refl (stays kinds x (kind_number x) (omega arith) sorted.1) (stays kinds kind (kind_number x) (omega (arith, less, sorted.0)) sorted.1)
    where
      by : (hit : Bool) → any x ≡ hit → Counts (Some x) kinds x → Counts (Some kind) kinds kind → Counts (Some kind) (x ∷ kinds) kind
      by true is next same = record {
        kind = next.kind;
        counts = ap (λ h. pick_kind (if h then Some x else Some kind) any kinds) is ∙ next.counts;
        later = omega (arith, next.later, less, sorted.0);
      }
      by false is next same = record {
        kind = same.kind;
        counts = ap (λ h. pick_kind (if h then Some x else Some kind) any kinds) is ∙ same.counts;
        later = same.later;
      }

  abbrev IsIn : MemoryKind → List MemoryKind → Type 0
  IsIn kind [] = ⊥
  IsIn kind (x ∷ kinds) = (kind ≡ x) ⊎ IsIn kind kinds

  counts_for : (kinds : List MemoryKind) (known : Option MemoryKind) (kind : MemoryKind) (low : ℕ) → IsIn kind kinds → AreSorted low kinds → any kind ≡ true → Counts known kinds kind
  counts_for [] known kind low here sorted hit = absurd here
  counts_for (x ∷ kinds) known kind low here sorted hit = elim here [
    | inl same ↦
        let next = stays kinds x (kind_number x) (omega arith) sorted.1 in
        let is : any x ≡ true = subst (λ k. any k ≡ true) same hit in
        record {
          kind = next.kind;
          counts = ap (λ h. pick_kind (if h then Some x else known) any kinds) is ∙ next.counts;
          later = subst (λ k. kind_number k ≤ kind_number next.kind) (sym same) next.later;
        }
    | inr later ↦
        let next = counts_for kinds (if any x then Some x else known) kind (kind_number x) later sorted.1 hit in
        record { kind = next.kind; counts = next.counts; later = next.later }
  ]

  every : (kind : MemoryKind) → IsIn kind weakest_first
  every Ram = inl refl
  every Device = inr (inl refl)
  every Acpi = inr (inr (inl refl))
  every Nvs = inr (inr (inr (inl refl)))
  every Reserved = inr (inr (inr (inr (inl refl))))
  every Unusable = inr (inr (inr (inr (inr (inl refl)))))

  counts_all : (kind : MemoryKind) → any kind ≡ true → Counts None weakest_first kind
  counts_all kind hit = counts_for weakest_first None kind 0 (every kind) (omega arith, (omega arith, (omega arith, (omega arith, (omega arith, (omega arith, tt)))))) hit

-- ---- bytes and pages

-- a byte of ranges in order isn't below them
above_low : (ranges : List MemoryRange) (low byte : ℕ) (kind : MemoryKind) → AreAscending low ranges → kind_at ranges byte ≡ Some kind → low ≤ byte
above_low [] low byte kind are is = absurd (none_is_some is)
above_low (range ∷ ranges) low byte kind are is = by (has range byte) refl is (λ e. above_low ranges (range.last + 1) byte kind are.2 e)
  where
    by : (hit : Bool) → has range byte ≡ hit → (if hit then Some range.kind else kind_at ranges byte) ≡ Some kind → (kind_at ranges byte ≡ Some kind → range.last + 1 ≤ byte) → low ≤ byte
    by true hit e go = let parts = within range byte hit in omega (arith, parts.0, are.0)
    by false hit e go = let over = go e in omega (arith, over, are.0, are.1)

behind : (range : MemoryRange) (ranges : List MemoryRange) (byte : ℕ) (kind : MemoryKind) → AreAscending (range.last + 1) ranges → kind_at ranges byte ≡ Some kind → kind_at (range ∷ ranges) byte ≡ Some kind
behind range ranges byte kind are is = let over = above_low ranges (range.last + 1) byte kind are is in rw (is_over range byte (omega (arith, over))) is

here : (range : MemoryRange) (ranges : List MemoryRange) (byte : ℕ) → range.first ≤ byte → byte ≤ range.last → kind_at (range ∷ ranges) byte ≡ Some range.kind
here range ranges byte low high = rw (is_within range byte low high) refl

either : (a b : Bool) → (a || b) ≡ true → (a ≡ true) ⊎ (b ≡ true)
either true b is = inl refl
either false b is = inr is

or_left : (a b : Bool) → a ≡ true → (a || b) ≡ true
or_left a b is = rw is refl

or_right : (a b : Bool) → b ≡ true → (a || b) ≡ true
or_right true b is = refl
or_right false b is = is

-- the claim of a range has the page: the range is of the kind, and its pages have it
claim_in : (kind : MemoryKind) (range : MemoryRange) (page : ℕ) → in_claim (claim_of kind range) page ≡ true → (range.kind ≡ kind) × (in_claim (shown_pages (counted range)) page ≡ true)
claim_in kind range page = by (is_kind range.kind kind) refl
  where
    by : (same : Bool) → is_kind range.kind kind ≡ same → in_claim (if same then shown_pages (counted range) else Nothing) page ≡ true → (range.kind ≡ kind) × (in_claim (shown_pages (counted range)) page ≡ true)
    by true is hit = (same_kind range.kind kind is, hit)
    by false is hit = cc hit

claim_has : (range : MemoryRange) (page : ℕ) → in_claim (shown_pages (counted range)) page ≡ true → in_claim (claim_of range.kind range) page ≡ true
claim_has range page hit = let same : is_kind range.kind range.kind ≡ true = itself (kind_number range.kind) in rw same hit
  where
    itself : (n : ℕ) → (n == n) ≡ true
    itself n = grind (arith, nat_tests)

abbrev IsNotRam : MemoryKind → Type 0
IsNotRam Ram = ⊥
IsNotRam Reserved = ⊤
IsNotRam Device = ⊤
IsNotRam Acpi = ⊤
IsNotRam Nvs = ⊤
IsNotRam Unusable = ⊤

touches : (kind : MemoryKind) (range : MemoryRange) → IsNotRam kind → range.kind ≡ kind → counted range ≡ touched range
touches Ram range other is = absurd other
touches Reserved range other is = ap (λ k. counted_as k range) is
touches Device range other is = ap (λ k. counted_as k range) is
touches Acpi range other is = ap (λ k. counted_as k range) is
touches Nvs range other is = ap (λ k. counted_as k range) is
touches Unusable range other is = ap (λ k. counted_as k range) is

fills : (range : MemoryRange) → range.kind ≡ Ram → counted range ≡ whole range
fills range is = ap (λ k. counted_as k range) is

-- some byte of a touched page
touched_byte : (first last page : ℕ) → first ≤ last → first / 4096 ≤ page → page < last / 4096 + 1 → (byte : ℕ) × (first ≤ byte) × (byte ≤ last) × (byte / 4096 ≡ page)
touched_byte first last page order low high = elim (cases_lt first (page * 4096)) [
  | inl under ↦ (page * 4096, omega (arith, under), omega (arith, high), omega arith)
  | inr on ↦ (first, omega arith, order, omega (arith, on, low))
]

any_touches : (ranges : List MemoryRange) (low : ℕ) (kind : MemoryKind) (page : ℕ) → AreAscending low ranges → IsNotRam kind → any_pages kind ranges page ≡ true → Touches ranges page kind
any_touches [] low kind page are other hit = cc hit
any_touches (range ∷ ranges) low kind page are other hit = elim (either (in_claim (claim_of kind range) page) (any_pages kind ranges page) hit) [
  | inl first ↦
      let parts = claim_in kind range page first in
      let bounds = between_in (range.first / 4096) (range.last / 4096 + 1) range.kind page (subst (λ c. in_claim (shown_pages c) page ≡ true) (touches kind range other parts.0) parts.1) in
      let found = touched_byte range.first range.last page are.1 bounds.0 bounds.1 in
      (found.0, found.3, here range ranges found.0 found.1 found.2 ∙ ap Some parts.0)
  | inr later ↦
      let found = any_touches ranges (range.last + 1) kind page are.2 other later in
      (found.0, found.1, behind range ranges found.0 kind are.2 found.2)
]

touches_any : (ranges : List MemoryRange) (kind : MemoryKind) (page byte : ℕ) → IsNotRam kind → byte / 4096 ≡ page → kind_at ranges byte ≡ Some kind → any_pages kind ranges page ≡ true
touches_any [] kind page byte other at is = absurd (none_is_some is)
touches_any (range ∷ ranges) kind page byte other at is = by (has range byte) refl is (λ e. touches_any ranges kind page byte other at e)
  where
    by : (hit : Bool) → has range byte ≡ hit → (if hit then Some range.kind else kind_at ranges byte) ≡ Some kind → (kind_at ranges byte ≡ Some kind → any_pages kind ranges page ≡ true)
        → (in_claim (claim_of kind range) page || any_pages kind ranges page) ≡ true
    by true hit e go =
        let parts = within range byte hit in
        let same = some_same range.kind kind e in
        let pages = between_has (range.first / 4096) (range.last / 4096 + 1) range.kind page (omega (arith, at, parts.0)) (omega (arith, at, parts.1)) in
        let counts : in_claim (shown_pages (counted range)) page ≡ true = subst (λ c. in_claim (shown_pages c) page ≡ true) (sym (touches kind range other same)) pages in
        or_left (in_claim (claim_of kind range) page) (any_pages kind ranges page) (subst (λ k. in_claim (claim_of k range) page ≡ true) same (claim_has range page counts))
    by false hit e go = or_right (in_claim (claim_of kind range) page) (any_pages kind ranges page) (go e)

-- ---- pages of RAM

abbrev whole_first : ℕ → ℕ
whole_first first = first / 4096 + (if first % 4096 == 0 then 0 else 1)

abbrev whole_end : ℕ → ℕ
whole_end last = last / 4096 + (if last % 4096 == 4095 then 1 else 0)

whole_parts : (first last page : ℕ) → whole_first first ≤ page → page < whole_end last → (first ≤ page * 4096) × (page * 4096 + 4095 ≤ last)
whole_parts first last page low high = (by (first % 4096 == 0) refl low, on (last % 4096 == 4095) refl high)
  where
    by : (test : Bool) → (first % 4096 == 0) ≡ test → first / 4096 + (if test then 0 else 1) ≤ page → first ≤ page * 4096
    by true is le = let rest : first % 4096 ≡ 0 = grind (arith, nat_tests, is) in omega (arith, rest, le)
    by false is le = omega (arith, le)

    on : (test : Bool) → (last % 4096 == 4095) ≡ test → page < last / 4096 + (if test then 1 else 0) → page * 4096 + 4095 ≤ last
    on true is less = let rest : last % 4096 ≡ 4095 = grind (arith, nat_tests, is) in omega (arith, rest, less)
    on false is less = omega (arith, less)

parts_whole : (first last page : ℕ) → first ≤ page * 4096 → page * 4096 + 4095 ≤ last → (whole_first first ≤ page) × (page < whole_end last)
parts_whole first last page low high = (by (first % 4096 == 0) refl, on (last % 4096 == 4095) refl)
  where
    by : (test : Bool) → (first % 4096 == 0) ≡ test → first / 4096 + (if test then 0 else 1) ≤ page
    by true is = omega (arith, low)
    by false is = let rest : first % 4096 ≡ 0 → ⊥ = (λ e. let hit : (first % 4096 == 0) ≡ true = grind (arith, nat_tests, e) in cc (hit, is)) in omega (arith, rest, low)

    on : (test : Bool) → (last % 4096 == 4095) ≡ test → page < last / 4096 + (if test then 1 else 0)
    on true is = omega (arith, high)
    on false is = let rest : last % 4096 ≡ 4095 → ⊥ = (λ e. let hit : (last % 4096 == 4095) ≡ true = grind (arith, nat_tests, e) in cc (hit, is)) in omega (arith, rest, high)

abbrev IsAllRam : List MemoryRange → ℕ → Type 0
IsAllRam ranges page = (byte : ℕ) → byte / 4096 ≡ page → kind_at ranges byte ≡ Some Ram

any_ram : (ranges : List MemoryRange) (low page : ℕ) → AreAscending low ranges → any_pages Ram ranges page ≡ true → IsAllRam ranges page
any_ram [] low page are hit = λ byte at. cc hit
any_ram (range ∷ ranges) low page are hit = elim (either (in_claim (claim_of Ram range) page) (any_pages Ram ranges page) hit) [
  | inl first ↦ λ byte at.
      let parts = claim_in Ram range page first in
      let bounds = between_in (whole_first range.first) (whole_end range.last) range.kind page (subst (λ c. in_claim (shown_pages c) page ≡ true) (fills range parts.0) parts.1) in
      let all = whole_parts range.first range.last page bounds.0 bounds.1 in
      here range ranges byte (omega (arith, all.0, at)) (omega (arith, all.1, at)) ∙ ap Some parts.0
  | inr later ↦ λ byte at. behind range ranges byte Ram are.2 (any_ram ranges (range.last + 1) page are.2 later byte at)
]

-- one of longest ranges has all of what is RAM without a gap
none_between : (ranges : List MemoryRange) (low byte : ℕ) (kind : MemoryKind) → AreAscending low ranges → byte < low → kind_at ranges byte ≡ Some kind → ⊥
none_between ranges low byte kind are under is = let over = above_low ranges low byte kind are is in omega (arith, over, under)

goes : (range next : MemoryRange) → next.first ≡ range.last + 1 → next.kind ≡ range.kind → goes_on range next ≡ true
goes range next touch kind = rw (kind, touch) (both (kind_number range.kind) range.last)
  where
    both : (n last : ℕ) → (n == n && nat_lt last (last + 1) && last + 1 - last == 1) ≡ true
    both n last = grind (arith, nat_tests)

touching : (range : MemoryRange) (ranges : List MemoryRange) → AreAscending (range.last + 1) ranges → AreLongest (range ∷ ranges) → kind_at ranges (range.last + 1) ≡ Some range.kind → ⊥
touching range [] are longest is = none_is_some is
touching range (next ∷ ranges) are longest is = by (has next (range.last + 1)) refl is
  where
    by : (hit : Bool) → has next (range.last + 1) ≡ hit → (if hit then Some next.kind else kind_at ranges (range.last + 1)) ≡ Some range.kind → ⊥
    by true hit e =
        let parts = within next (range.last + 1) hit in
        let one = goes range next (omega (arith, parts.0, are.0)) (some_same next.kind range.kind e) in
        cc (one, longest.0)
    by false hit e = none_between ranges (next.last + 1) (range.last + 1) range.kind are.2 (omega (arith, are.0, are.1)) e

longest_rest : (range : MemoryRange) (ranges : List MemoryRange) → AreLongest (range ∷ ranges) → AreLongest ranges
longest_rest range [] longest = tt
longest_rest range (next ∷ ranges) longest = longest.1

module _ (range : MemoryRange) (ranges : List MemoryRange) (page : ℕ) (are : AreAscending (range.last + 1) ranges) (order : range.first ≤ range.last) (longest : AreLongest (range ∷ ranges))
    (all : IsAllRam (range ∷ ranges) page) where
  rest_ram : range.last < page * 4096 → IsAllRam ranges page
  rest_ram under = λ byte at. rw (is_over range byte (omega (arith, under, at))) at (all byte at)

  has_page : page * 4096 ≤ range.last → in_claim (claim_of Ram range) page ≡ true
  has_page on = elim (cases_lt (page * 4096) range.first) [
    | inl over ↦
        let rest : kind_at ranges (page * 4096) ≡ Some Ram = rw (is_under range (page * 4096) over) at (all (page * 4096) (omega arith)) in
        absurd (none_between ranges (range.last + 1) (page * 4096) Ram are (omega (arith, over, order)) rest)
    | inr starts ↦
        let ram : range.kind ≡ Ram = some_same range.kind Ram (sym (here range ranges (page * 4096) starts on) ∙ all (page * 4096) (omega arith)) in
        elim (cases_lt range.last (page * 4096 + 4095)) [
          | inl short ↦
              let rest : kind_at ranges (range.last + 1) ≡ Some Ram = rw (is_over range (range.last + 1) (omega arith)) at (all (range.last + 1) (omega (arith, short, on))) in
              absurd (touching range ranges are longest (rest ∙ ap Some (sym ram)))
          | inr full ↦
              let bounds = parts_whole range.first range.last page starts full in
              let pages = between_has (whole_first range.first) (whole_end range.last) range.kind page bounds.0 bounds.1 in
              let counts : in_claim (shown_pages (counted range)) page ≡ true = subst (λ c. in_claim (shown_pages c) page ≡ true) (sym (fills range ram)) pages in
              subst (λ k. in_claim (claim_of k range) page ≡ true) ram (claim_has range page counts)
        ]
  ]

all_ram : (ranges : List MemoryRange) (low page : ℕ) → AreAscending low ranges → AreLongest ranges → IsAllRam ranges page → any_pages Ram ranges page ≡ true
all_ram [] low page are longest all = absurd (none_is_some (all (page * 4096) (omega arith)))
all_ram (range ∷ ranges) low page are longest all = elim (cases_lt range.last (page * 4096)) [
  | inl under ↦
      or_right (in_claim (claim_of Ram range) page) (any_pages Ram ranges page)
      (all_ram ranges (range.last + 1) page are.2 (longest_rest range ranges longest) (rest_ram range ranges page are.2 are.1 longest all under))
  | inr on ↦ or_left (in_claim (claim_of Ram range) page) (any_pages Ram ranges page) (has_page range ranges page are.2 are.1 longest all on)
]

-- ---- the kind of a page

ram_or_not : (kind : MemoryKind) → (kind ≡ Ram) ⊎ IsNotRam kind
ram_or_not Ram = inl refl
ram_or_not Reserved = inr tt
ram_or_not Device = inr tt
ram_or_not Acpi = inr tt
ram_or_not Nvs = inr tt
ram_or_not Unusable = inr tt

module _ (ranges : List MemoryRange) (page : ℕ) where
  is_first : (kind : MemoryKind) → IsNotRam kind → IsFirst ranges page kind → IsPageOf ranges page kind
  is_first Ram other is = absurd other
  is_first Reserved other is = is
  is_first Device other is = is
  is_first Acpi other is = is
  is_first Nvs other is = is
  is_first Unusable other is = is

  first_is : (kind : MemoryKind) → IsNotRam kind → IsPageOf ranges page kind → IsFirst ranges page kind
  first_is Ram other is = absurd other
  first_is Reserved other is = is
  first_is Device other is = is
  first_is Acpi other is = is
  first_is Nvs other is = is
  first_is Unusable other is = is

  ram_number : (kind : MemoryKind) → kind ≡ Ram → kind_number kind ≡ 0
  ram_number kind is = ap kind_number is

  above_ram : (kind : MemoryKind) → IsNotRam kind → 1 ≤ kind_number kind
  above_ram Ram other = absurd other
  above_ram Reserved other = omega arith
  above_ram Device other = omega arith
  above_ram Acpi other = omega arith
  above_ram Nvs other = omega arith
  above_ram Unusable other = omega arith

  equal_number : (n m : ℕ) → n ≡ m → (n == m) ≡ true
  equal_number n m is = grind (arith, nat_tests, is)

  module _ (low : ℕ) (are : AreAscending low ranges) (longest : AreLongest ranges) where
    abbrev best : Option MemoryKind
    best = pick_kind None (λ kind. any_pages kind ranges page) weakest_first

    some_any : (kind : MemoryKind) → best ≡ Some kind → any_pages kind ranges page ≡ true
    some_any kind is = elim (counts_some (λ k. any_pages k ranges page) weakest_first None kind is) [
      | inl none ↦ absurd (none_is_some none)
      | inr some ↦ some
    ]

    best_is : (kind : MemoryKind) → best ≡ Some kind → IsPageOf ranges page kind
    best_is kind is = elim (ram_or_not kind) [
      | inl ram ↦ subst (λ k. IsPageOf ranges page k) (sym ram) (any_ram ranges low page are (subst (λ k. any_pages k ranges page ≡ true) ram (some_any kind is)))
      | inr other ↦ is_first kind other (
        any_touches ranges low kind page are other (some_any kind is),
        λ next found. elim (ram_or_not next) [
          | inl ram ↦ let none = ram_number next ram in omega (arith, none)
          | inr real ↦
              let counts = counts_all (λ k. any_pages k ranges page) next (touches_any ranges next page found.0 real found.1 found.2) in
              subst (λ k. kind_number next ≤ kind_number k) (some_same counts.kind kind (sym counts.counts ∙ is)) counts.later
        ],
      )
    ]

    is_best : (kind : MemoryKind) → IsPageOf ranges page kind → best ≡ Some kind
    is_best kind is = elim (ram_or_not kind) [
      | inl ram ↦
          let all : IsAllRam ranges page = subst (λ k. IsPageOf ranges page k) ram is in
          let counts = counts_all (λ k. any_pages k ranges page) Ram (all_ram ranges low page are longest all) in
          counts.counts ∙ ap Some (elim (ram_or_not counts.kind) [
            | inl same ↦ same ∙ sym ram
            | inr other ↦
                let found = any_touches ranges low counts.kind page are other (some_any counts.kind counts.counts) in
                some_same counts.kind Ram (sym found.2 ∙ all found.0 found.1) ∙ sym ram
          ])
      | inr other ↦
          let first = first_is kind other is in
          let found = first.0 in
          let counts = counts_all (λ k. any_pages k ranges page) kind (touches_any ranges kind page found.0 other found.1 found.2) in
          let over = above_ram kind other in
          counts.counts ∙ ap Some (elim (ram_or_not counts.kind) [
            | inl ram ↦ let none = ram_number counts.kind ram in absurd (omega (arith, none, over, counts.later))
            | inr real ↦
                let less = first.1 counts.kind (any_touches ranges low counts.kind page are real (some_any counts.kind counts.counts)) in
                same_kind counts.kind kind (equal_number (kind_number counts.kind) (kind_number kind) (omega (arith, less, counts.later)))
          ])
    ]

-- the bytes of joined ranges have their kinds
page_same : (ranges others : List MemoryRange) (page : ℕ) (kind : MemoryKind) → ((byte : ℕ) → kind_at ranges byte ≡ kind_at others byte) → IsPageOf ranges page kind → IsPageOf others page kind
page_same ranges others page kind same is = elim (ram_or_not kind) [
  | inl ram ↦
      let all : (byte : ℕ) → byte / 4096 ≡ page → kind_at ranges byte ≡ Some Ram = subst (λ k. IsPageOf ranges page k) ram is in
      subst (λ k. IsPageOf others page k) (sym ram) (λ byte at. sym (same byte) ∙ all byte at)
  | inr other ↦
      let first = first_is ranges page kind other is in
      is_first others page kind other ((first.0.0, first.0.1, sym (same first.0.0) ∙ first.0.2), λ next found. first.1 next (found.0, found.1, same found.0 ∙ found.2))
]

pub pages_ascend : (ranges : List MemoryRange) → AreAscending 0 (joined (ranges_of (settled_kinds weakest_first ranges).pieces))
pages_ascend ranges = let good = settles_kinds weakest_first ranges nothing_settled [] settles_nothing in joined_order (ranges_of (settled_kinds weakest_first ranges).pieces) good.ascending

pub pages_are_of_kinds : PagesAreOfKinds
pages_are_of_kinds ranges pages are is = by settled.fault refl is
  where
    settled : Settled
    settled = settled_kinds weakest_first (joined ranges)

    good : IsSettled settled (all_claims weakest_first (joined ranges))
    good = settles_kinds weakest_first (joined ranges) nothing_settled [] settles_nothing

    order : AreAscending 0 (joined ranges)
    order = joined_order ranges are

    is_at : settled.fault ≡ None → (page : ℕ) → kind_at (joined (ranges_of settled.pieces)) page ≡ best (joined ranges) page 0 order (joined_longest ranges)
    is_at clean page = joined_is_same (ranges_of settled.pieces) page good.ascending ∙ (good.clean clean).kinds page ∙ picks weakest_first (joined ranges) None page

    by : (fault : Option MapFault) → settled.fault ≡ fault → ranges_if fault settled ≡ Some pages → ArePagesOf ranges pages
    by (Some fault) clean e = absurd (none_is_some e)
    by None clean e = subst (ArePagesOf ranges) (some_same (joined (ranges_of settled.pieces)) pages e) (record {
      ascending = joined_order (ranges_of settled.pieces) good.ascending;
      longest = joined_longest (ranges_of settled.pieces);
      kinds = λ page kind. (
        (λ here. page_same (joined ranges) ranges page kind (λ byte. joined_is_same ranges byte are)
            (best_is (joined ranges) page 0 order (joined_longest ranges) kind (sym (is_at clean page) ∙ here))),
        (λ of. is_at clean page ∙ is_best (joined ranges) page 0 order (joined_longest ranges) kind (page_same ranges (joined ranges) page kind (λ byte. sym (joined_is_same ranges byte are)) of)),
      );
    })
