-- The map of a log is the one that is wanted of those that its lines show.
use Rattle.std.proofs.Common.{◌≡◌, ◌∙◌, ◌≤◌, ◌<◌, ◌+◌, ◌-◌, ◌==◌, ◌&&◌, ◌||◌, ◌^◌, ℕ, Bool, true, false, nat_le, nat_lt, List, [], ◌∷◌, ◌++◌, length, map, Option, Some, None, Ok, Err, refl, sym, ap, subst, arith, inl, inr, length-append, append_assoc}
use Rattle.std.specs.Prelude.{if◌then◌else◌}
use Rattle.std.specs.List.{AllByRecursion, filter_map}
use Rattle.std.proofs.lemmas.Bool.{cases_Bool, cases_lt}
use Rattle.std.proofs.lemmas.Bool.Decides.{nat_tests}
use Rattle.std.proofs.lemmas.List.{append-nil}
use Rattle.mt_ports.specs.Causes.{one_more}
use Rattle.mt_text.specs.Text.{end_of, is_too_long, lines_of, past_limit}
use Rattle.mt_text.specs.declared.place.Place.{Place}
use Rattle.mt_memory.specs.declared.format.Claim.{Claim}
use Rattle.mt_memory.specs.declared.format.Format.{Format}
use Rattle.mt_memory.specs.declared.format.Format.TheVariants as formats
use Rattle.mt_memory.specs.declared.format.MapFault.{MapFault}
use Rattle.mt_memory.specs.declared.format.MapFault.TheVariants.{LongLine, SeveralMaps}
use Rattle.mt_memory.specs.declared.format.MapsBegun.{MapsBegun}
use Rattle.mt_memory.specs.declared.format.MemoryMap.{MemoryMap}
use Rattle.mt_memory.specs.declared.format.Shown.{Shown}
use Rattle.mt_memory.specs.declared.format.Shown.TheVariants.{Nothing, Range, Fault}
use Rattle.mt_memory.specs.declared.format.WhichMap.{WhichMap}
use Rattle.mt_memory.specs.declared.format.WhichMap.TheVariants as which_map
use Rattle.mt_memory_kinds.specs.declared.kind.MemoryRange.{MemoryRange}
use Rattle.mt_memory.specs.Laying.{joined, laid, overlapped, part_of, ranges_of}
use Rattle.mt_memory.specs.Log.{Settled, State, begun_at, begun_behind, finished, finished_by, headed, is_last, is_sole, log_from, map_of_pieces, nothing_settled, number_of, opened, settled_from, settled_with, starts, taken_in, taken_shown, with_shown}
use Rattle.mt_memory.specs.Maps.{Cut, MapsAreGiven, MapsAreShown, added, breaks_in, cut_at, cut_line, cut_lines, cut_shown, first_broken, last_of, log_format, map_at, maps_in, nothing_cut, picked}
use Rattle.mt_memory_kinds.specs.Ranges.{AreAscending, kind_at}
use Rattle.mt_memory.specs.Showing.{begins_map, breaks_off, chosen, format_told, has_title, is_shown, shown_in, told_in}
use Rattle.mt_memory.specs.Steps.{and_then}
use Rattle.mt_memory.proofs.Joined.{joined_is_same, joined_longest, joined_order}
use Rattle.mt_memory.proofs.Laid.{less, not_less}
use Rattle.mt_memory.proofs.Settles.{Holds, IsOrdered, holds_more, holds_nothing, shown_order}

-- ---- maps by their numbers

same_number : (number size : ℕ) → (number == 1) ≡ false → (number - 1 == size + 1) ≡ (number == size + 1 + 1)
same_number number size more = elim (cases_Bool (number == size + 1 + 1)) [
  | inl hit ↦ let e : (number - 1 == size + 1) ≡ true = grind (arith, nat_tests, hit) in e ∙ sym hit
  | inr miss ↦ let e : (number - 1 == size + 1) ≡ false = grind (arith, nat_tests, miss, more) in e ∙ sym miss
]

other_number : (number size : ℕ) → (number == 1) ≡ true → (number == size + 1 + 1) ≡ false
other_number number size one = grind (arith, nat_tests, one)

size_more : {A : Type 0} (x : A) (xs : List A) → length (x ∷ xs) ≡ length xs + 1
size_more x xs = omega arith

map_at_snoc : (number : ℕ) (maps : List (List Shown)) (map : List Shown) → map_at number (maps ++ map ∷ []) ≡ (if number == length maps + 1 then map else map_at number maps)
map_at_snoc number [] map = refl
map_at_snoc number (x ∷ maps) map = rw (size_more x maps) (elim (cases_Bool (number == 1)) [
  | inl one ↦ rw (one, other_number number (length maps) one) refl
  | inr more ↦ rw (more, map_at_snoc (number - 1) maps map, same_number number (length maps) more) refl
])

map_at_beyond : (number : ℕ) (maps : List (List Shown)) → length maps < number → map_at number maps ≡ []
map_at_beyond number [] far = refl
map_at_beyond number (x ∷ maps) far =
    let size = size_more x maps in
    let more : (number == 1) ≡ false = not_one number (omega (arith, far, size)) in
    rw more (map_at_beyond (number - 1) maps (omega (arith, far, size)))
  where
    not_one : (n : ℕ) → 1 < n → (n == 1) ≡ false
    not_one n over = grind (arith, nat_tests, over)

last_snoc : (maps : List (List Shown)) (map : List Shown) → last_of (maps ++ map ∷ []) ≡ map
last_snoc [] map = refl
last_snoc (x ∷ []) map = refl
last_snoc (x ∷ y ∷ maps) map = last_snoc (y ∷ maps) map

-- ---- the map that is picked

none_some : {A : Type 0} {x : A} {found : Option A} → found ≡ None → found ≡ Some x → ⊥
none_some none some = cc (none, some)

if_true : {A : Type 0} (b : Bool) (x y : A) → b ≡ true → (if b then x else y) ≡ x
if_true b x y is = rw is refl

if_false : {A : Type 0} (b : Bool) (x y : A) → b ≡ false → (if b then x else y) ≡ y
if_false b x y is = rw is refl

-- the map behind so many is the one that is wanted
abbrev is_here : WhichMap → ℕ → Bool
is_here which size = is_last which || number_of which == size + 1

abbrev pick : WhichMap → List (List Shown) → List Shown
pick which maps = if is_last which then last_of maps else map_at (number_of which) maps

picked_is : (which : WhichMap) (maps : List (List Shown)) → pick which maps ≡ picked which maps
picked_is which_map.Sole maps = refl
picked_is which_map.Last maps = refl
picked_is (which_map.Number number) maps = refl

pick_snoc : (which : WhichMap) (maps : List (List Shown)) (map : List Shown) → pick which (maps ++ map ∷ []) ≡ (if is_here which (length maps) then map else pick which maps)
pick_snoc which maps map = by (is_last which)
  where
    by : (last : Bool) → (if last then last_of (maps ++ map ∷ []) else map_at (number_of which) (maps ++ map ∷ []))
        ≡ (if (last || number_of which == length maps + 1) then map else (if last then last_of maps else map_at (number_of which) maps))
    by true = last_snoc maps map
    by false = map_at_snoc (number_of which) maps map

snoc_size : {A : Type 0} (xs : List A) (x : A) → length (xs ++ x ∷ []) ≡ length xs + 1
snoc_size xs x = let size = length-append xs (x ∷ []) in omega (arith, size)

added_snoc : (done : List (List Shown)) (now : List Shown) (next : Shown) → added done (now ++ next ∷ []) ≡ done ++ (now ++ next ∷ []) ∷ []
added_snoc done [] next = refl
added_snoc done (x ∷ xs) next = refl

-- ---- a reader and the maps that lines show

abbrev is_none : List Shown → Bool
is_none [] = true
is_none (shown ∷ more) = false

none_snoc : (now : List Shown) (next : Shown) → is_none (now ++ next ∷ []) ≡ false
none_snoc [] next = refl
none_snoc (x ∷ xs) next = refl

count_few : (count size : ℕ) → (count ≤ 1 → size ≤ count) → one_more count ≤ 1 → size + 1 ≤ one_more count
count_few count size few more = elim (cases_Bool (nat_lt count (2 ^ 64 - 1))) [
  | inl below ↦ let e : one_more count ≡ count + 1 = rw below refl in let le = few (omega (arith, e, more)) in omega (arith, e, more, le)
  | inr full ↦ let e : one_more count ≡ count = rw full refl in absurd (high count full (omega (arith, e, more)))
]
  where
    high : (n : ℕ) → nat_lt n (2 ^ 64 - 1) ≡ false → n ≤ 1 → ⊥
    high n full less = grind (arith, nat_tests, full, less)

count_most : (count size : ℕ) → count ≤ size → one_more count ≤ size + 1
count_most count size most = elim (cases_Bool (nat_lt count (2 ^ 64 - 1))) [
  | inl below ↦ let e : one_more count ≡ count + 1 = rw below refl in omega (arith, e, most)
  | inr full ↦ let e : one_more count ≡ count = rw full refl in omega (arith, e, most)
]

ahead_behind : (number size count ahead : ℕ) → ahead ≡ number - (size - 1) → (count ≤ 1 → size ≤ count) → count ≤ size → (if nat_lt 0 count then ahead - 1 else ahead) ≡ number - size
ahead_behind number size count ahead is few most = elim (cases_lt 0 count) [
  | inl some ↦ rw (less 0 count some) (omega (arith, is, most, some))
  | inr none ↦ let empty = few (omega (arith, none)) in rw (not_less 0 count none) (omega (arith, is, empty, none))
]

module _ (which : WhichMap) where
  -- a reader behind lines that show these maps before the last place where one begins, and this since
  record Reads (done : List (List Shown)) (now : List Shown) (s : State) : Type 0 where
    which_is : s.which ≡ which
    between : s.between ≡ is_none now
    ahead : s.ahead ≡ number_of which - (length (added done now) - 1)
    wanted : Holds s.wanted (pick which (added done now))
    few : s.begun.count ≤ 1 → length (added done now) ≤ s.begun.count
    most : s.begun.count ≤ length (added done now)

  -- the same with a map under way, of which lines show this
  record GoesOn (done : List (List Shown)) (now : List Shown) (s : State) : Type 0 where
    which_is : s.which ≡ which
    between : s.between ≡ false
    ahead : s.ahead ≡ number_of which - length done
    here : is_here which (length done) ≡ true → Holds s.wanted now
    away : is_here which (length done) ≡ false → Holds s.wanted (pick which done)
    few : s.begun.count ≤ 1 → length done + 1 ≤ s.begun.count
    most : s.begun.count ≤ length done + 1

  opens : (done : List (List Shown)) (s : State) (line : ℕ) → Reads done [] s → GoesOn done [] (opened s line)
  opens done s line good = record {
    which_is = good.which_is;
    between = refl;
    ahead = ahead_behind (number_of which) (length done) s.begun.count s.ahead good.ahead good.few good.most;
    here = λ here. elim (cases_Bool (is_last which)) [
      | inl is ↦ rw (good.which_is, is) holds_nothing
      | inr is ↦
          let at : (number_of which == length done + 1) ≡ true = rw is at here in
          rw (good.which_is, is) (rw (is, map_at_beyond (number_of which) done (beyond (number_of which) (length done) at)) at good.wanted)
    ];
    away = λ away. elim (cases_Bool (is_last which)) [
      | inl is ↦ let e : true ≡ false = rw is at away in cc e
      | inr is ↦ rw (good.which_is, is) (rw is at good.wanted)
    ];
    few = count_few s.begun.count (length done) good.few;
    most = count_most s.begun.count (length done) good.most;
  }
    where
      beyond : (number size : ℕ) → (number == size + 1) ≡ true → size < number
      beyond number size here = grind (arith, nat_tests, here)

  goes_on : (done : List (List Shown)) (x : Shown) (xs : List Shown) (s : State) → Reads done (x ∷ xs) s → GoesOn done (x ∷ xs) s
  goes_on done x xs s good = record {
    which_is = good.which_is;
    between = good.between;
    ahead = omega (arith, good.ahead, snoc_size done (x ∷ xs));
    here = λ here. subst (Holds s.wanted) (pick_snoc which done (x ∷ xs) ∙ if_true (is_here which (length done)) (x ∷ xs) (pick which done) here) good.wanted;
    away = λ away. subst (Holds s.wanted) (pick_snoc which done (x ∷ xs) ∙ if_false (is_here which (length done)) (x ∷ xs) (pick which done) away) good.wanted;
    few = λ less. let le = good.few less in omega (arith, le, snoc_size done (x ∷ xs));
    most = omega (arith, good.most, snoc_size done (x ∷ xs));
  }

  begun_goes_on : (done : List (List Shown)) (now : List Shown) (s : State) (line : ℕ) → Reads done now s → GoesOn done now (begun_at s line)
  begun_goes_on done [] s line good = subst (GoesOn done []) (sym (if_true s.between (opened s line) s good.between)) (opens done s line good)
  begun_goes_on done (x ∷ xs) s line good = subst (GoesOn done (x ∷ xs)) (sym (if_false s.between (opened s line) s good.between)) (goes_on done x xs s good)

  -- what a line shows of the map under way
  module _ (done : List (List Shown)) (now : List Shown) (s : State) (next : Shown) (order : IsOrdered next) (good : GoesOn done now s) where
    same_test : (is_last s.which || s.ahead == 1) ≡ is_here which (length done)
    same_test = ap (λ w. is_last w || s.ahead == 1) good.which_is ∙ ap (λ n. is_last which || n == 1) good.ahead ∙ ap (λ b. is_last which || b) (one_left (number_of which) (length done))
      where
        one_left : (number size : ℕ) → (number - size == 1) ≡ (number == size + 1)
        one_left number size = elim (cases_Bool (number == size + 1)) [
          | inl hit ↦ let e : (number - size == 1) ≡ true = grind (arith, nat_tests, hit) in e ∙ sym hit
          | inr miss ↦ let e : (number - size == 1) ≡ false = grind (arith, nat_tests, miss) in e ∙ sym miss
        ]

    size : length (added done (now ++ next ∷ [])) ≡ length done + 1
    size = ap length (added_snoc done now next) ∙ snoc_size done (now ++ next ∷ [])

    -- a reader in which just what the wanted map's lines come to has changed
    behind : (settled : Settled) → Holds settled (pick which (added done (now ++ next ∷ []))) → Reads done (now ++ next ∷ []) (record s { wanted = settled })
    behind settled holds = record {
      which_is = good.which_is;
      between = good.between ∙ sym (none_snoc now next);
      ahead = omega (arith, good.ahead, size);
      wanted = holds;
      few = λ less. let le = good.few less in omega (arith, le, size);
      most = omega (arith, good.most, size);
    }

    picks : pick which (added done (now ++ next ∷ [])) ≡ (if is_here which (length done) then now ++ next ∷ [] else pick which done)
    picks = ap (pick which) (added_snoc done now next) ∙ pick_snoc which done (now ++ next ∷ [])

    shown_reads : Reads done (now ++ next ∷ []) (with_shown s next)
    shown_reads = elim (cases_Bool (is_here which (length done))) [
      | inl here ↦
          let holds = holds_more s.wanted now next order (good.here here) in
          let at = picks ∙ if_true (is_here which (length done)) (now ++ next ∷ []) (pick which done) here in
          subst (Reads done (now ++ next ∷ [])) (sym (if_true (is_last s.which || s.ahead == 1) (record s { wanted = settled_with s.wanted next }) s (same_test ∙ here)))
          (behind (settled_with s.wanted next) (subst (Holds (settled_with s.wanted next)) (sym at) holds))
      | inr away ↦
          let at = picks ∙ if_false (is_here which (length done)) (now ++ next ∷ []) (pick which done) away in
          subst (Reads done (now ++ next ∷ [])) (sym (if_false (is_last s.which || s.ahead == 1) (record s { wanted = settled_with s.wanted next }) s (same_test ∙ away)))
          (behind s.wanted (subst (Holds s.wanted) (sym at) (good.away away)))
    ]

  -- ---- lines

  record ReadsCut (cut : Cut) (s : State) : Type 0 where
    reads : Reads cut.done cut.now s
    low : s.low ≡ cut.low

  headed_count : (begun : MapsBegun) (format : Format) (number : ℕ) (line : List ℕ) → (begun_behind begun format number line).count ≡ begun.count
  headed_count begun format number line = by (begun.broken == 0 && breaks_off format line)
    where
      by : (test : Bool) → (if test then record begun { broken = number } else begun).count ≡ begun.count
      by true = refl
      by false = refl

  headed_reads : (cut : Cut) (s : State) (format : Format) (number : ℕ) (line : List ℕ) (shown : Shown) → ReadsCut cut s
      → Reads (cut_at (begins_map format cut.low line shown) cut).done (cut_at (begins_map format cut.low line shown) cut).now (headed s format number line shown)
  headed_reads cut s format number line shown good = by (begins_map format cut.low line shown) (ap (λ low. begins_map format low line shown) good.low)
    where
      reads : Reads cut.done cut.now s
      reads = good.reads

      count : (begun_behind s.begun format number line).count ≡ s.begun.count
      count = headed_count s.begun format number line

      few : (begun_behind s.begun format number line).count ≤ 1 → length (added cut.done cut.now) ≤ (begun_behind s.begun format number line).count
      few less = subst (λ n. length (added cut.done cut.now) ≤ n) (sym count) (reads.few (subst (λ n. n ≤ 1) count less))

      most : (begun_behind s.begun format number line).count ≤ length (added cut.done cut.now)
      most = subst (λ n. n ≤ length (added cut.done cut.now)) (sym count) reads.most

      by : (begins : Bool) → begins_map format s.low line shown ≡ begins → Reads (cut_at begins cut).done (cut_at begins cut).now (headed s format number line shown)
      by true is = record {
        which_is = reads.which_is;
        between = rw is refl;
        ahead = reads.ahead;
        wanted = reads.wanted;
        few = few;
        most = most;
      }
      by false is = record {
        which_is = reads.which_is;
        between = rw is reads.between;
        ahead = reads.ahead;
        wanted = reads.wanted;
        few = few;
        most = most;
      }

-- what a shown range leaves as it is
record Keeps (old new : State) : Type 0 where
  format : new.format ≡ old.format
  low : new.low ≡ old.low
  broken : new.begun.broken ≡ old.begun.broken

begun_keeps : (s : State) (line : ℕ) → Keeps s (begun_at s line)
begun_keeps s line = by s.between
  where
    by : (between : Bool) → Keeps s (if between then opened s line else s)
    by true = record { format = refl; low = refl; broken = refl }
    by false = record { format = refl; low = refl; broken = refl }

entry_keeps : (s : State) (line : ℕ) (shown : Shown) → Keeps s (with_shown (begun_at s line) shown)
entry_keeps s line shown = by (is_last (begun_at s line).which || (begun_at s line).ahead == 1) (begun_keeps s line)
  where
    by : (wanted : Bool) → Keeps s (begun_at s line) → Keeps s (if wanted then record (begun_at s line) { wanted = settled_with (begun_at s line).wanted shown } else begun_at s line)
    by true keeps = record { format = keeps.format; low = keeps.low; broken = keeps.broken }
    by false keeps = keeps

shown_keeps : (s : State) (shown : Shown) (line : ℕ) → Keeps s (taken_shown s shown line)
shown_keeps s Nothing line = record { format = refl; low = refl; broken = refl }
shown_keeps s (Range claim) line = entry_keeps s line (Range claim)
shown_keeps s (Fault fault) line = entry_keeps s line (Fault fault)

cut_low : (begins : Bool) (cut : Cut) → (cut_at begins cut).low ≡ cut.low
cut_low true cut = refl
cut_low false cut = refl

line_reads : (which : WhichMap) (format : Format) (cut : Cut) (s : State) (number : ℕ) (line : List ℕ) → ReadsCut which cut s → ReadsCut which (cut_line format cut number line) (taken_in s (Some format) number line)
line_reads which format cut s number line good = by (shown_in format number line) (shown_order format number line)
  where
    by : (shown : Shown) → IsOrdered shown → ReadsCut which (cut_shown format cut line shown) (taken_shown (headed s format number line shown) shown number)
    by Nothing order = record { reads = headed_reads which cut s format number line Nothing good; low = good.low ∙ sym (cut_low (begins_map format cut.low line Nothing) cut) }
    by (Range claim) order =
        let at = cut_at (begins_map format cut.low line (Range claim)) cut in
        let s = headed s format number line (Range claim) in
        record {
          reads =
              shown_reads which at.done at.now (begun_at s number) (Range claim) order
              (begun_goes_on which at.done at.now s number (headed_reads which cut _ format number line (Range claim) good));
          low = (entry_keeps s number (Range claim)).low;
        }
    by (Fault fault) order =
        let at = cut_at (begins_map format cut.low line (Fault fault)) cut in
        let s = headed s format number line (Fault fault) in
        record {
          reads =
              shown_reads which at.done at.now (begun_at s number) (Fault fault) order
              (begun_goes_on which at.done at.now s number (headed_reads which cut _ format number line (Fault fault) good));
          low = (entry_keeps s number (Fault fault)).low ∙ good.low ∙ sym (cut_low (begins_map format cut.low line (Fault fault)) cut);
        }

-- ---- formats

none_told : (a b c d : Bool) → (if a then Some formats.E820 else if b then Some formats.Efi else if c then Some formats.Coreboot else if d then Some formats.Iomem else None) ≡ None
    → (a ≡ false) × (b ≡ false) × (c ≡ false) × (d ≡ false)
none_told true b c d is = absurd (none_some is refl)
none_told false true c d is = absurd (none_some is refl)
none_told false false true d is = absurd (none_some is refl)
none_told false false false true is = absurd (none_some is refl)
none_told false false false false is = (refl, refl, refl, refl)

untold : (f : Format) (number : ℕ) (line : List ℕ) → format_told number line ≡ None → told_in f number line ≡ false
untold f number line none = among f (none_told (told_in formats.E820 number line) (told_in formats.Efi number line) (told_in formats.Coreboot number line) (told_in formats.Iomem number line) none)
  where
    among : (f : Format) → (told_in formats.E820 number line ≡ false) × (told_in formats.Efi number line ≡ false) × (told_in formats.Coreboot number line ≡ false) × (told_in formats.Iomem number line ≡ false)
        → told_in f number line ≡ false
    among formats.E820 all = all.0
    among formats.Efi all = all.1
    among formats.Coreboot all = all.2
    among formats.Iomem all = all.3

neither : (a b : Bool) → (a || b) ≡ false → (a ≡ false) × (b ≡ false)
neither false false is = (refl, refl)
neither true b is = cc is
neither false true is = cc is

not_shown : (shown : Shown) → is_shown shown ≡ false → shown ≡ Nothing
not_shown Nothing is = refl
not_shown (Range claim) is = cc is
not_shown (Fault fault) is = cc is

-- a line that tells no format is cut in none
untold_cut : (f : Format) (cut : Cut) (number : ℕ) (line : List ℕ) → format_told number line ≡ None → cut_line f cut number line ≡ cut
unfolding told_in
untold_cut f cut number line none =
    let parts = neither (has_title f line) (is_shown (shown_in f number line)) (untold f number line none) in
    ap (cut_shown f cut line) (not_shown (shown_in f number line) parts.1) ∙ (rw parts.0 refl)

known_stays : (f : Format) (number : ℕ) (lines : List (List ℕ)) → log_format (Some f) number lines ≡ Some f
known_stays f number [] = refl
known_stays f number (line ∷ lines) = known_stays f (number + 1) lines

-- a line that tells no format was read without one
untold_none : (known : Option Format) (number : ℕ) (line : List ℕ) → chosen known number line ≡ None → (known ≡ None) × (format_told number line ≡ None)
untold_none None number line is = (refl, is)
untold_none (Some f) number line is = absurd (none_some is refl)

-- ---- a reader behind lines

abbrev AreShort : List (List ℕ) → Type 0
AreShort lines = AllByRecursion (λ line. is_too_long line ≡ false) lines

abbrev after : State → ℕ → List (List ℕ) → State
after s number [] = s
after s number (line ∷ lines) = after (taken_in s (chosen s.format number line) number line) (number + 1) lines

module _ (end : Place) where
  ends_short : (lines : List (List ℕ)) (number : ℕ) (s : State) (found : MemoryMap) → log_from s number lines end ≡ Ok found → AreShort lines
  ends_short [] number s found is = tt
  ends_short (line ∷ lines) number s found is = by (is_too_long line) refl is (λ e. ends_short lines (number + 1) (taken_in s (chosen s.format number line) number line) found e)
    where
      by : (long : Bool) → is_too_long line ≡ long
          → and_then (if long then Err (LongLine (past_limit number)) else Ok (taken_in s (chosen s.format number line) number line)) (λ n. log_from n (number + 1) lines end) ≡ Ok found
          → (log_from (taken_in s (chosen s.format number line) number line) (number + 1) lines end ≡ Ok found → AreShort lines) → (is_too_long line ≡ false) × AreShort lines
      by true long e go = cc e
      by false short e go = (short, go e)

  ends_at : (lines : List (List ℕ)) (number : ℕ) (s : State) → AreShort lines → log_from s number lines end ≡ finished (after s number lines)
  ends_at [] number s short = refl
  ends_at (line ∷ lines) number s short =
      let next = taken_in s (chosen s.format number line) number line in
      let first : log_from s number (line ∷ lines) end ≡ log_from next (number + 1) lines end = rw short.0 refl in
      first ∙ ends_at lines (number + 1) next short.1

next_format : (s : State) (number : ℕ) (line : List ℕ) → (taken_in s (chosen s.format number line) number line).format ≡ chosen s.format number line
next_format s number line = by (chosen s.format number line) refl
  where
    by : (known : Option Format) → chosen s.format number line ≡ known → (taken_in s known number line).format ≡ known
    by None chose = (untold_none s.format number line chose).0
    by (Some f) chose = (shown_keeps (headed s f number line (shown_in f number line)) (shown_in f number line) number).format

after_format : (lines : List (List ℕ)) (number : ℕ) (s : State) → (after s number lines).format ≡ log_format s.format number lines
after_format [] number s = refl
after_format (line ∷ lines) number s =
    after_format lines (number + 1) (taken_in s (chosen s.format number line) number line) ∙ ap (λ known. log_format known (number + 1) lines) (next_format s number line)

after_reads : (which : WhichMap) (f : Format) (lines : List (List ℕ)) (number : ℕ) (cut : Cut) (s : State) → log_format s.format number lines ≡ Some f → ReadsCut which cut s
    → ReadsCut which (cut_lines f cut number lines) (after s number lines)
after_reads which f [] number cut s told good = good
after_reads which f (line ∷ lines) number cut s told good =
    after_reads which f lines (number + 1) (cut_line f cut number line) (taken_in s (chosen s.format number line) number line)
    (ap (λ known. log_format known (number + 1) lines) (next_format s number line) ∙ told) (by (chosen s.format number line) refl told)
  where
    by : (known : Option Format) → chosen s.format number line ≡ known → log_format known (number + 1) lines ≡ Some f → ReadsCut which (cut_line f cut number line) (taken_in s known number line)
    by None chose told = subst (λ c. ReadsCut which c s) (sym (untold_cut f cut number line (untold_none s.format number line chose).1)) good
    by (Some g) chose told =
        let stays = known_stays g (number + 1) lines in
        let same : g ≡ f = cc (stays, told) in
        subst (λ h. ReadsCut which (cut_line f cut number line) (taken_in s (Some h) number line)) (sym same) (line_reads which f cut s number line good)

after_broken : (lines : List (List ℕ)) (number : ℕ) (s : State) → 1 ≤ number → (after s number lines).begun.broken ≡ (if s.begun.broken == 0 then first_broken s.format number lines else s.begun.broken)
after_broken [] number s some = kept s.begun.broken
  where
    kept : (n : ℕ) → n ≡ (if n == 0 then 0 else n)
    kept n = elim (cases_Bool (n == 0)) [
      | inl zero ↦ rw zero (eq n zero)
      | inr more ↦ rw more refl
    ]
      where
        eq : (n : ℕ) → (n == 0) ≡ true → n ≡ 0
        eq n is = grind (arith, nat_tests, is)
after_broken (line ∷ lines) number s some =
    let next = taken_in s (chosen s.format number line) number line in
    let rest = after_broken lines (number + 1) next (omega arith) in
    rest ∙ ap (λ known. if next.begun.broken == 0 then first_broken known (number + 1) lines else next.begun.broken) (next_format s number line)
    ∙ ap (λ n. if n == 0 then first_broken (chosen s.format number line) (number + 1) lines else n) (told (chosen s.format number line) refl)
    ∙ by (s.begun.broken == 0) refl (breaks_in (chosen s.format number line) line)
  where
    told : (known : Option Format) → chosen s.format number line ≡ known → (taken_in s known number line).begun.broken ≡ (if s.begun.broken == 0 && breaks_in known line then number else s.begun.broken)
    told None chose = none (s.begun.broken == 0)
      where
        none : (b : Bool) → s.begun.broken ≡ (if b && false then number else s.begun.broken)
        none true = refl
        none false = refl
    told (Some f) chose = (shown_keeps (headed s f number line (shown_in f number line)) (shown_in f number line) number).broken ∙ on (s.begun.broken == 0 && breaks_off f line)
      where
        on : (b : Bool) → (if b then record s.begun { broken = number } else s.begun).broken ≡ (if b then number else s.begun.broken)
        on true = refl
        on false = refl

    later : ℕ
    later = first_broken (chosen s.format number line) (number + 1) lines

    not_zero : (n : ℕ) → 1 ≤ n → (n == 0) ≡ false
    not_zero n some = grind (arith, nat_tests, some)

    by : (zero : Bool) → (s.begun.broken == 0) ≡ zero → (breaks : Bool)
        → (if (if zero && breaks then number else s.begun.broken) == 0 then later else (if zero && breaks then number else s.begun.broken)) ≡ (if zero then (if breaks then number else later) else s.begun.broken)
    by true is true = rw (not_zero number some) refl
    by true is false = rw is refl
    by false is breaks = rw is refl

-- ---- the end

-- what a reader finished with
record Finishes (s : State) (found : MemoryMap) : Type 0 where
  clean : s.wanted.fault ≡ None
  sole : (is_sole s.which && nat_lt 1 s.begun.count) ≡ false
  is_format : s.format ≡ Some found.format
  ranges : found.ranges.items ≡ joined (ranges_of s.wanted.pieces)
  overlap : found.overlap ≡ s.wanted.overlap
  broken : found.broken ≡ s.begun.broken

abbrev map_in : State → Format → MemoryMap
map_in s f = record { format = f; ranges = record { items = joined (ranges_of s.wanted.pieces) }; overlap = s.wanted.overlap; broken = s.begun.broken }

finishes : (s : State) (found : MemoryMap) → finished s ≡ Ok found → Finishes s found
finishes s found is = by s.wanted.fault refl is
  where
    last : (format : Option Format) → s.format ≡ format → (none : Bool) → (length s.wanted.pieces == 0) ≡ none → s.wanted.fault ≡ None → (is_sole s.which && nat_lt 1 s.begun.count) ≡ false
        → map_of_pieces format s.wanted s.begun ≡ Ok found → Finishes s found
    last None known none size clean sole e = cc e
    last (Some f) known true size clean sole e = let wrong = rw size at e in cc wrong
    last (Some f) known false size clean sole e =
        let same : map_in s f ≡ found = let here = rw size at e in cc here in
        record {
          clean = clean;
          sole = sole;
          is_format = known ∙ ap (λ (m : MemoryMap). Some m.format) same;
          ranges = ap (λ (m : MemoryMap). m.ranges.items) (sym same);
          overlap = ap (λ (m : MemoryMap). m.overlap) (sym same);
          broken = ap (λ (m : MemoryMap). m.broken) (sym same);
        }

    more : (several : Bool) → (is_sole s.which && nat_lt 1 s.begun.count) ≡ several → s.wanted.fault ≡ None
        → (if several then Err (SeveralMaps s.begun) else map_of_pieces s.format s.wanted s.begun) ≡ Ok found → Finishes s found
    more true sole clean e = cc e
    more false sole clean e = last s.format refl (length s.wanted.pieces == 0) refl clean sole e

    by : (fault : Option MapFault) → s.wanted.fault ≡ fault → finished_by fault s ≡ Ok found → Finishes s found
    by (Some fault) clean e = cc e
    by None clean e = more (is_sole s.which && nat_lt 1 s.begun.count) refl clean e

starting : (named : Option Format) (which : WhichMap) → ReadsCut which nothing_cut (starts named which)
starting named which = record {
  reads = record {
    which_is = refl;
    between = refl;
    ahead = omega arith;
    wanted = subst (Holds nothing_settled) (nothing_picked (is_last which)) holds_nothing;
    few = λ less. omega arith;
    most = omega arith;
  };
  low = refl;
}
  where
    nothing_picked : (last : Bool) → [] ≡ (if last then last_of [] else map_at (number_of which) [])
    nothing_picked true = refl
    nothing_picked false = refl

-- a reader behind all lines of a log, of which this is the format
module _ (named : Option Format) (which : WhichMap) (lines : List (List ℕ)) (format : Format) (told : log_format named 1 lines ≡ Some format) where
  abbrev last : State
  last = after (starts named which) 1 lines

  last_reads : ReadsCut which (cut_lines format nothing_cut 1 lines) last
  last_reads = after_reads which format lines 1 nothing_cut (starts named which) told (starting named which)

  abbrev maps : List (List Shown)
  maps = maps_in (cut_lines format nothing_cut 1 lines)

  last_holds : Holds last.wanted (picked which maps)
  last_holds = subst (Holds last.wanted) (picked_is which maps) last_reads.reads.wanted

pub maps_are_shown : MapsAreShown
maps_are_shown named which text found is =
    let lines = lines_of text in
    let s = after (starts named which) 1 lines in
    let short = ends_short (end_of text) lines 1 (starts named which) found is in
    let ends = finishes s found (sym (ends_at (end_of text) lines 1 (starts named which) short) ∙ is) in
    let told = sym (after_format lines 1 (starts named which)) ∙ ends.is_format in
    let reads = (last_reads named which lines found.format told).reads in
    let settled = (last_holds named which lines found.format told).settled in
    let clean = settled.clean ends.clean in
    record {
      short = short;
      format = told;
      sole = λ same.
          one_map s.begun.count (length (maps_in (cut_lines found.format nothing_cut 1 lines))) reads.few (one_begun s (reads.which_is ∙ same) ends.sole);
      settled = record {
        no_fault = clean.no_fault;
        ascending = rw ends.ranges (joined_order (ranges_of s.wanted.pieces) settled.ascending);
        longest = rw ends.ranges (joined_longest (ranges_of s.wanted.pieces));
        kinds = λ byte. ap (λ ranges. kind_at ranges byte) ends.ranges ∙ joined_is_same (ranges_of s.wanted.pieces) byte settled.ascending ∙ clean.kinds byte;
        overlap = rw ends.overlap clean.overlap;
      };
      broken = ends.broken ∙ after_broken lines 1 (starts named which) (omega arith);
    }
  where
    one_begun : (s : State) → s.which ≡ which_map.Sole → (is_sole s.which && nat_lt 1 s.begun.count) ≡ false → s.begun.count ≤ 1
    one_begun s sole test = let e : nat_lt 1 s.begun.count ≡ false = rw sole at test in grind (arith, nat_tests, e)

    one_map : (count size : ℕ) → (count ≤ 1 → size ≤ count) → count ≤ 1 → size ≤ 1
    one_map count size bound less = let le = bound less in omega (arith, le, less)

-- ---- ranges in ascending order

-- pieces that lie below a range stay as they are
laid_above : (claim : Claim) (pieces : List Claim) (low : ℕ) → AreAscending low (ranges_of (pieces ++ claim ∷ [])) → (laid claim pieces ≡ pieces ++ claim ∷ []) × (overlapped claim pieces ≡ None)
laid_above claim pieces low are = (
  ap (λ xs. xs ++ claim ∷ filter_map (part_of true claim.range) pieces) (all_below pieces low are) ∙ ap (λ xs. pieces ++ claim ∷ xs) (none_above pieces low are),
  apart pieces low are,
)
  where
    -- a piece ends below the range
    under : (piece : Claim) (pieces : List Claim) → AreAscending (piece.range.last + 1) (ranges_of (pieces ++ claim ∷ [])) → piece.range.last < claim.range.first
    under piece [] are = omega (arith, are.0)
    under piece (next ∷ pieces) are = let less = under next pieces are.2 in omega (arith, less, are.0, are.1)

    all_below : (pieces : List Claim) (low : ℕ) → AreAscending low (ranges_of (pieces ++ claim ∷ [])) → filter_map (part_of false claim.range) pieces ≡ pieces
    all_below [] low are = refl
    all_below (piece ∷ pieces) low are =
        let end = under piece pieces are.2 in
        rw (less piece.range.first claim.range.first (omega (arith, end, are.1)), less piece.range.last claim.range.first end, all_below pieces (piece.range.last + 1) are.2) refl

    ends : (pieces : List Claim) (low : ℕ) → AreAscending low (ranges_of (pieces ++ claim ∷ [])) → claim.range.first ≤ claim.range.last
    ends [] low are = are.1
    ends (piece ∷ pieces) low are = ends pieces (piece.range.last + 1) are.2

    none_above : (pieces : List Claim) (low : ℕ) → AreAscending low (ranges_of (pieces ++ claim ∷ [])) → filter_map (part_of true claim.range) pieces ≡ []
    none_above [] low are = refl
    none_above (piece ∷ pieces) low are =
        let end = under piece pieces are.2 in
        let order = ends pieces (piece.range.last + 1) are.2 in
        rw (not_less claim.range.last piece.range.last (omega (arith, end, order)), none_above pieces (piece.range.last + 1) are.2) refl

    apart : (pieces : List Claim) (low : ℕ) → AreAscending low (ranges_of (pieces ++ claim ∷ [])) → overlapped claim pieces ≡ None
    apart [] low are = refl
    apart (piece ∷ pieces) low are =
        let test = misses claim.range piece.range (under piece pieces are.2) in
        rw (test, apart pieces (piece.range.last + 1) are.2) refl
      where
        misses : (range other : MemoryRange) → other.last < range.first → (nat_le other.first range.last && nat_le range.first other.last) ≡ false
        misses range other end = grind (arith, nat_tests, end)

-- the first ranges of a list in order are in order
first_ascend : (xs : List Claim) (x : Claim) (ys : List Claim) (low : ℕ) → AreAscending low (ranges_of (xs ++ x ∷ ys)) → AreAscending low (ranges_of (xs ++ x ∷ []))
first_ascend [] x ys low are = (are.0, are.1, tt)
first_ascend (y ∷ xs) x ys low are = (are.0, are.1, first_ascend xs x ys (y.range.last + 1) are.2)

abbrev clean_with : List Claim → Settled
clean_with pieces = record { pieces = pieces; overlap = None; fault = None }

settles_in_order : (claims pieces : List Claim) → AreAscending 0 (ranges_of (pieces ++ claims)) → length pieces + length claims ≤ 512
    → settled_from (clean_with pieces) (map Range claims) ≡ clean_with (pieces ++ claims)
settles_in_order [] pieces are few = ap clean_with (sym (append-nil pieces))
settles_in_order (claim ∷ claims) pieces are few =
    let above = laid_above claim pieces 0 (first_ascend pieces claim claims 0 are) in
    let size = snoc_size pieces claim in
    let room : nat_lt 512 (length (laid claim pieces)) ≡ false = not_less 512 (length (laid claim pieces)) (rw above.0 (omega (arith, size, few))) in
    let next : settled_with (clean_with pieces) (Range claim) ≡ clean_with (pieces ++ claim ∷ []) = rw (room, above.0, above.1) refl in
    let same : pieces ++ claim ∷ claims ≡ (pieces ++ claim ∷ []) ++ claims = sym (append_assoc pieces (claim ∷ []) claims) in
    ap (λ s. settled_from s (map Range claims)) next
    ∙ settles_in_order claims (pieces ++ claim ∷ []) (subst (λ cs. AreAscending 0 (ranges_of cs)) same are) (omega (arith, size, few)) ∙ ap clean_with (sym same)

finished_clean : (s : State) (format : Format) (claims : List Claim) → s.wanted ≡ clean_with claims → (is_sole s.which && nat_lt 1 s.begun.count) ≡ false → s.format ≡ Some format → (length claims == 0) ≡ false
    → finished s ≡ Ok (record { format = format; ranges = record { items = joined (ranges_of claims) }; overlap = None; broken = s.begun.broken })
finished_clean s format claims wanted sole known some = rw (wanted, sole, known, some) refl

pub maps_are_given : MapsAreGiven
maps_are_given named which text format claims given =
    let lines = lines_of text in
    let s = after (starts named which) 1 lines in
    let reads = (last_reads named which lines format given.is_format).reads in
    let holds = last_holds named which lines format given.is_format in
    let wanted = holds.equal ∙ ap (settled_from nothing_settled) given.shown ∙ settles_in_order claims [] given.ascending (omega (arith, given.few)) in
    let known = after_format lines 1 (starts named which) ∙ given.is_format in
    let sole = one (is_sole s.which) s.begun.count (λ is. let few = given.sole (sym reads.which_is ∙ is_one s.which is) in omega (arith, few, reads.most)) in
    ends_at (end_of text) lines 1 (starts named which) given.short ∙ finished_clean s format claims wanted sole known (some (length claims) given.some)
    ∙ ap (λ n. Ok (record { format = format; ranges = record { items = joined (ranges_of claims) }; overlap = None; broken = n })) (after_broken lines 1 (starts named which) (omega arith))
  where
    some : (n : ℕ) → 1 ≤ n → (n == 0) ≡ false
    some n more = grind (arith, nat_tests, more)

    is_one : (w : WhichMap) → is_sole w ≡ true → w ≡ which_map.Sole
    is_one which_map.Sole is = refl
    is_one which_map.Last is = cc is
    is_one (which_map.Number number) is = cc is

    one : (sole : Bool) (count : ℕ) → (sole ≡ true → count ≤ 1) → (sole && nat_lt 1 count) ≡ false
    one true count few = not_less 1 count (few refl)
    one false count few = refl
