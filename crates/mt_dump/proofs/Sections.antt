-- Lines with their sections, the last line first and in order.
use Rattle.std.proofs.Common.{◌≡◌, ◌≢◌, ◌≤◌, ◌+◌, ℕ, suc, zero, Bool, true, false, not, ◌==◌, ◌&&◌, nat_lt, List, [], ◌∷◌, ◌++◌, length, Some, None, refl, sym, ◌∙◌, ap, arith, inl, inr, append_assoc}
use Rattle.std.specs.Prelude.{Ok, Err, slice_index_or, ◌⊎◌, ◌||◌, if◌then◌else◌, ⊤}
use Rattle.std.proofs.lemmas.Bool.{cases_Bool, eqb-true, eqb-false}
use Rattle.std.proofs.lemmas.Bool.Decides.{nat_tests}
use Rattle.mt_text.specs.declared.place.Place.{Place}
use Rattle.mt_dump.specs.Line.{Reading}
use Rattle.mt_dump.specs.Dump.{given, widths, versions, section_numbers, section_count, version_of, is_given, is_writable, value_given, is_spoken, is_later, is_outside, first_section, first_width, up_to_section, behind_first, behind_sections, sections_in, sections_of, count_from, offence_of}
use Rattle.mt_dump.specs.Reader.{IsClean, done_in, done_next, onto}
use Rattle.mt_dump.specs.declared.fault.DumpFault.{DumpFault}
use Rattle.mt_dump.specs.declared.said.Said.TheVariants.{Nothing, Version, Section, Width, Register}
use Rattle.mt_dump.proofs.Readings.{given-onto, widths-onto, versions-onto}

-- ---- what the tests of a line leave

section_tests : (other_version other_number late told : Bool) (x y : DumpFault) → (if not other_version || not other_number then Some x else if late && not told then Some y else None) ≡ None
    → (other_version ≡ true) × (other_number ≡ true) × ((late ≡ false) ⊎ (told ≡ true))
section_tests true true true true x y none = (refl, refl, inr refl)
section_tests true true true false x y none = cc none
section_tests true true false told x y none = (refl, refl, inl refl)
section_tests true false late told x y none = cc none
section_tests false number late told x y none = cc none

pub section_passed : (before : List Reading) (number : ℕ) (place : Place) → offence_of before (Ok (Section number place)) ≡ None
    → (version_of before ≡ 2) × (number ≡ section_count before) × ((number ≡ 0) ⊎ (is_given 0xfe (first_section before) ≡ true))
section_passed before number place none =
    let passed = section_tests (version_of before == 2) (number == section_count before) (nat_lt 0 number) (is_given 0xfe (first_section before)) _ _ none in
    (eqb-true _ _ passed.0, eqb-true _ _ passed.1, by passed.2)
  where
    by : ((nat_lt 0 number ≡ false) ⊎ (is_given 0xfe (first_section before) ≡ true)) → (number ≡ 0) ⊎ (is_given 0xfe (first_section before) ≡ true)
    by (inl none) = inl (grind (arith, nat_tests, none))
    by (inr told) = inr told

width_tests : (outside later same again : Bool) (x y z : DumpFault) → (if outside then Some x else if later && not same then Some y else if again then Some z else None) ≡ None
    → (outside ≡ false) × ((later ≡ false) ⊎ (same ≡ true)) × (again ≡ false)
width_tests true later same again x y z none = cc none
width_tests false true true true x y z none = cc none
width_tests false true true false x y z none = (refl, inr refl, refl)
width_tests false true false again x y z none = cc none
width_tests false false same true x y z none = cc none
width_tests false false same false x y z none = (refl, inl refl, refl)

pub width_passed : (before : List Reading) (width : ℕ) (first second : Place) → offence_of before (Ok (Width width first second)) ≡ None
    → (is_outside before ≡ false) × ((is_later before ≡ false) ⊎ (width ≡ first_width before)) × (nat_lt 0 (length (widths (up_to_section before))) ≡ false)
width_passed before width first second none =
    let passed = width_tests (is_outside before) (is_later before) (width == first_width before) (nat_lt 0 (length (widths (up_to_section before)))) _ _ _ none in
    (passed.0, by passed.1, passed.2)
  where
    by : ((is_later before ≡ false) ⊎ ((width == first_width before) ≡ true)) → (is_later before ≡ false) ⊎ (width ≡ first_width before)
    by (inl early) = inl early
    by (inr same) = inr (eqb-true _ _ same)

register_tests : (outside later cap same told writable again : Bool) (x y z u v : DumpFault)
    → (if outside then Some x else if later && cap && not same then Some y else if not cap && not told then Some z else if not cap && not writable then Some u else if again then Some v else None) ≡ None
    → (outside ≡ false) × ((cap ≡ false) ⊎ ((later ≡ false) ⊎ (same ≡ true))) × ((cap ≡ true) ⊎ ((told ≡ true) × (writable ≡ true))) × (again ≡ false)
register_tests true later cap same told writable again x y z u v none = cc none
register_tests false true true true told writable true x y z u v none = cc none
register_tests false true true true told writable false x y z u v none = (refl, inr (inr refl), inl refl, refl)
register_tests false true true false told writable again x y z u v none = cc none
register_tests false false true same told writable true x y z u v none = cc none
register_tests false false true same told writable false x y z u v none = (refl, inr (inl refl), inl refl, refl)
register_tests false true false same true true true x y z u v none = cc none
register_tests false true false same true true false x y z u v none = (refl, inl refl, inr (refl, refl), refl)
register_tests false true false same true false again x y z u v none = cc none
register_tests false true false same false writable again x y z u v none = cc none
register_tests false false false same true true true x y z u v none = cc none
register_tests false false false same true true false x y z u v none = (refl, inl refl, inr (refl, refl), refl)
register_tests false false false same true false again x y z u v none = cc none
register_tests false false false same false writable again x y z u v none = cc none

pub register_passed : (before : List Reading) (number value : ℕ) (first second : Place) → offence_of before (Ok (Register number value first second)) ≡ None
    → (is_outside before ≡ false) × (((number == 0xfe) ≡ false) ⊎ ((is_later before ≡ false) ⊎ (value ≡ value_given 0xfe (given (first_section before)))))
    × (((number == 0xfe) ≡ true) ⊎ ((is_given 0xfe (first_section before) ≡ true) × (is_writable number (first_section before) ≡ true))) × (is_given number (up_to_section before) ≡ false)
register_passed before number value first second none =
    let passed = register_tests (is_outside before) (is_later before) (number == 0xfe) (value == value_given 0xfe (given (first_section before))) (is_given 0xfe (first_section before)) (is_writable number (first_section before))
    (is_given number (up_to_section before)) _ _ _ _ _ none in
    (passed.0, by passed.1, passed.2, passed.3)
  where
    by : (((number == 0xfe) ≡ false) ⊎ ((is_later before ≡ false) ⊎ ((value == value_given 0xfe (given (first_section before))) ≡ true))) → ((number == 0xfe) ≡ false) ⊎ ((is_later before ≡ false) ⊎ (value ≡ value_given 0xfe (given (first_section before))))
    by (inl other) = inl other
    by (inr (inl early)) = inr (inl early)
    by (inr (inr same)) = inr (inr (eqb-true _ _ same))

pub version_passed : (before : List Reading) (version : ℕ) (place : Place) → offence_of before (Ok (Version version place)) ≡ None → is_spoken before ≡ false
version_passed before version place none = by (is_spoken before) _ none
  where
    by : (spoken : Bool) (x : DumpFault) → (if spoken then Some x else None) ≡ None → spoken ≡ false
    by true x none = cc none
    by false x none = refl

-- ---- the version

-- lines without words say nothing
pub record SaysNothing (says : List Reading) : Type 0 where
  pub gives : given says ≡ []
  pub has_widths : widths says ≡ []
  pub has_versions : versions says ≡ []
  pub has_sections : section_numbers says ≡ []

pub unspoken : (says : List Reading) → is_spoken says ≡ false → SaysNothing says
unspoken [] none = record { gives = refl; has_widths = refl; has_versions = refl; has_sections = refl }
unspoken (Ok Nothing ∷ says) none = let later = unspoken says none in record { gives = later.gives; has_widths = later.has_widths; has_versions = later.has_versions; has_sections = later.has_sections }
unspoken (Ok (Version version place) ∷ says) none = cc none
unspoken (Ok (Section number place) ∷ says) none = cc none
unspoken (Ok (Width width first second) ∷ says) none = cc none
unspoken (Ok (Register number value first second) ∷ says) none = cc none
unspoken (Err fault ∷ says) none = cc none

-- clean lines tell one version at most
pub clean_versions : (before : List Reading) → IsClean before → (versions before ≡ []) ⊎ ((version : ℕ) × (versions before ≡ version ∷ []) × (1 ≤ version) × (version ≤ 2))
clean_versions [] clean = inl refl
clean_versions (Ok Nothing ∷ before) clean = clean_versions before clean.2
clean_versions (Ok (Version version place) ∷ before) clean =
    let none = (unspoken before (version_passed before version place clean.1)).has_versions in
    inr (version, ap (λ vs. version ∷ vs) none, clean.0.0, clean.0.1)
clean_versions (Ok (Section number place) ∷ before) clean = clean_versions before clean.2
clean_versions (Ok (Width width first second) ∷ before) clean = clean_versions before clean.2
clean_versions (Ok (Register number value first second) ∷ before) clean = clean_versions before clean.2
clean_versions (Err fault ∷ before) clean = cc clean.1

pub known_version : (before : List Reading) → IsClean before → (version_of before ≡ 1) ⊎ (version_of before ≡ 2)
known_version before clean = elim (clean_versions before clean) [
  | inl none ↦ inl (ap (λ (versions : List ℕ). slice_index_or versions 0 1) none)
  | inr some ↦ by some.0 (cases_Bool (some.0 == 1)) some.1 some.2 some.3
]
  where
    by : (v : ℕ) → (((v == 1) ≡ true) ⊎ ((v == 1) ≡ false)) → versions before ≡ v ∷ [] → 1 ≤ v → v ≤ 2 → (version_of before ≡ 1) ⊎ (version_of before ≡ 2)
    by v (inl one) is least most = inl (ap (λ (versions : List ℕ). slice_index_or versions 0 1) is ∙ eqb-true _ _ one)
    by v (inr other) is least most =
        let apart : v ≢ 1 = eqb-false _ _ other in
        let two : v ≡ 2 = omega (arith, apart, least, most) in
        inr (ap (λ (versions : List ℕ). slice_index_or versions 0 1) is ∙ two)

pub same_version : (before : List Reading) → IsClean before → version_of (onto before []) ≡ version_of before
same_version before clean = elim (clean_versions before clean) [
  | inl none ↦ rw (versions-onto before [], none) refl
  | inr some ↦ rw (versions-onto before [], some.1) refl
]

-- the `version` line is the first that has words
pub behind_unspoken : (before rest : List Reading) → is_spoken before ≡ false → behind_first (onto before rest) ≡ behind_first rest
behind_unspoken [] rest none = refl
behind_unspoken (Ok Nothing ∷ before) rest none = behind_unspoken before (Ok Nothing ∷ rest) none
behind_unspoken (Ok (Version version place) ∷ before) rest none = cc none
behind_unspoken (Ok (Section number place) ∷ before) rest none = cc none
behind_unspoken (Ok (Width width first second) ∷ before) rest none = cc none
behind_unspoken (Ok (Register number value first second) ∷ before) rest none = cc none
behind_unspoken (Err fault ∷ before) rest none = cc none

pub behind_spoken : (before rest : List Reading) → IsClean before → is_spoken before ≡ true → versions (behind_first (onto before rest)) ≡ versions rest
behind_spoken [] rest clean some = cc some
behind_spoken (Ok Nothing ∷ before) rest clean some = behind_spoken before (Ok Nothing ∷ rest) clean.2 some
behind_spoken (Ok (Version version place) ∷ before) rest clean some = ap versions (behind_unspoken before (Ok (Version version place) ∷ rest) (version_passed before version place clean.1))
behind_spoken (Ok (Section number place) ∷ before) rest clean some = elim (cases_Bool (is_spoken before)) [
  | inl spoken ↦ behind_spoken before (Ok (Section number place) ∷ rest) clean.2 spoken
  | inr none ↦ ap versions (behind_unspoken before (Ok (Section number place) ∷ rest) none)
]
behind_spoken (Ok (Width width first second) ∷ before) rest clean some = elim (cases_Bool (is_spoken before)) [
  | inl spoken ↦ behind_spoken before (Ok (Width width first second) ∷ rest) clean.2 spoken
  | inr none ↦ ap versions (behind_unspoken before (Ok (Width width first second) ∷ rest) none)
]
behind_spoken (Ok (Register number value first second) ∷ before) rest clean some = elim (cases_Bool (is_spoken before)) [
  | inl spoken ↦ behind_spoken before (Ok (Register number value first second) ∷ rest) clean.2 spoken
  | inr none ↦ ap versions (behind_unspoken before (Ok (Register number value first second) ∷ rest) none)
]
behind_spoken (Err fault ∷ before) rest clean some = cc clean.1

pub clean_first : (before : List Reading) → IsClean before → versions (behind_first (onto before [])) ≡ []
clean_first before clean = elim (cases_Bool (is_spoken before)) [
  | inl spoken ↦ behind_spoken before [] clean spoken
  | inr none ↦ ap versions (behind_unspoken before [] none)
]

-- ---- the numbers of the sections

outside_test : (before : List Reading) → version_of before ≡ 2 → section_numbers before ≡ [] → is_outside before ≡ true
outside_test before two none = rw (two, none) refl

-- before the first section of version 2 nothing is given
pub nothing_outside : (before : List Reading) → IsClean before → version_of before ≡ 2 → section_numbers before ≡ [] → (given before ≡ []) × (widths before ≡ [])
nothing_outside [] clean two none = (refl, refl)
nothing_outside (Ok Nothing ∷ before) clean two none = nothing_outside before clean.2 two none
nothing_outside (Ok (Version version place) ∷ before) clean two none = let nothing = unspoken before (version_passed before version place clean.1) in (nothing.gives, nothing.has_widths)
nothing_outside (Ok (Section number place) ∷ before) clean two none = cc none
nothing_outside (Ok (Width width first second) ∷ before) clean two none =
    let e : true ≡ false = sym (outside_test before two none) ∙ (width_passed before width first second clean.1).0 in cc e
nothing_outside (Ok (Register number value first second) ∷ before) clean two none =
    let e : true ≡ false = sym (outside_test before two none) ∙ (register_passed before number value first second clean.1).0 in cc e
nothing_outside (Err fault ∷ before) clean two none = cc clean.1

-- there are sections in version 2 alone
pub sections_are_told : (before : List Reading) → IsClean before → (section_numbers before ≡ []) ⊎ (version_of before ≡ 2)
sections_are_told [] clean = inl refl
sections_are_told (Ok Nothing ∷ before) clean = sections_are_told before clean.2
sections_are_told (Ok (Version version place) ∷ before) clean = inl (unspoken before (version_passed before version place clean.1)).has_sections
sections_are_told (Ok (Section number place) ∷ before) clean = inr (section_passed before number place clean.1).0
sections_are_told (Ok (Width width first second) ∷ before) clean = sections_are_told before clean.2
sections_are_told (Ok (Register number value first second) ∷ before) clean = sections_are_told before clean.2
sections_are_told (Err fault ∷ before) clean = cc clean.1

-- each number is the count of those behind it
abbrev pub Descends : List ℕ → Type 0
Descends [] = ⊤
Descends (n ∷ ns) = (n ≡ length ns) × Descends ns

pub clean_numbers : (before : List Reading) → IsClean before → Descends (section_numbers before)
clean_numbers [] clean = tt
clean_numbers (Ok Nothing ∷ before) clean = clean_numbers before clean.2
clean_numbers (Ok (Version version place) ∷ before) clean = clean_numbers before clean.2
clean_numbers (Ok (Section number place) ∷ before) clean = ((section_passed before number place clean.1).1, clean_numbers before clean.2)
clean_numbers (Ok (Width width first second) ∷ before) clean = clean_numbers before clean.2
clean_numbers (Ok (Register number value first second) ∷ before) clean = clean_numbers before clean.2
clean_numbers (Err fault ∷ before) clean = cc clean.1

-- so many numbers from one on
abbrev pub numbers_from : ℕ → ℕ → List ℕ
numbers_from number zero = []
numbers_from number (suc count) = number ∷ numbers_from (number + 1) count

pub counted : {X : Type 0} (number : ℕ) (xs : List X) → count_from number xs ≡ numbers_from number (length xs)
counted number [] = refl
counted number (x ∷ xs) = ap (λ ns. number ∷ ns) (counted (number + 1) xs)

pub descends_onto : (ns : List ℕ) (count : ℕ) → Descends ns → onto ns (numbers_from (length ns) count) ≡ numbers_from 0 (length ns + count)
descends_onto [] count down = let sum : count ≡ 0 + count = omega arith in ap (numbers_from 0) sum
descends_onto (n ∷ ns) count down =
    let next : length ns + 1 ≡ suc (length ns) = omega arith in
    let sum : length ns + suc count ≡ suc (length ns) + count = omega arith in
    let e : n ∷ numbers_from (suc (length ns)) count ≡ numbers_from (length ns) (suc count) = rw (down.0, ← next) refl in
    ap (onto ns) e ∙ descends_onto ns (suc count) down.1 ∙ ap (numbers_from 0) sum

pub numbers_up : {X : Type 0} (ns : List ℕ) (xs : List X) → Descends ns → length xs ≡ length ns → onto ns [] ≡ count_from 0 xs
numbers_up ns xs down size =
    let sum : length ns + 0 ≡ length xs = omega (arith, size) in
    descends_onto ns 0 down ∙ ap (numbers_from 0) sum ∙ sym (counted 0 xs)

-- ---- the first section and the present one

pub first_early : (before : List Reading) → is_later before ≡ false → first_section before ≡ before
first_early [] early = refl
first_early (line ∷ before) early = rw early refl

pub first_late : (line : Reading) (before : List Reading) → is_later (line ∷ before) ≡ true → first_section (line ∷ before) ≡ first_section before
first_late line before late = rw late refl

one_at_most : (ns : List ℕ) (n : ℕ) → nat_lt 1 (length (n ∷ ns)) ≡ false → ns ≡ []
one_at_most [] n early = refl
one_at_most (m ∷ ns) n early = absurd (two (length ns) early)
  where
    two : (k : ℕ) → nat_lt 1 (suc (suc k)) ≡ false → ⊥
    two k early = grind (arith, nat_tests, early)

-- up to section 0 the present section has all that is given
pub early_present : (before : List Reading) → IsClean before → is_later before ≡ false → (given (up_to_section before) ≡ given before) × (widths (up_to_section before) ≡ widths before)
early_present [] clean early = (refl, refl)
early_present (Ok Nothing ∷ before) clean early = early_present before clean.2 early
early_present (Ok (Version version place) ∷ before) clean early = early_present before clean.2 early
early_present (Ok (Section number place) ∷ before) clean early =
    let nothing = nothing_outside before clean.2 (section_passed before number place clean.1).0 (one_at_most (section_numbers before) number early) in
    (sym nothing.0, sym nothing.1)
early_present (Ok (Width width first second) ∷ before) clean early = let later = early_present before clean.2 early in (later.0, ap (λ ws. width ∷ ws) later.1)
early_present (Ok (Register number value first second) ∷ before) clean early =
    let later = early_present before clean.2 early in (ap (λ gs. let g : ℕ × ℕ = (number, value) in g ∷ gs) later.0, later.1)
early_present (Err fault ∷ before) clean early = cc clean.1

-- a line that gives nothing, and is no `cpu` line or the first one
pub same_given : (line : Reading) (before : List Reading) → given (line ∷ before) ≡ given before → ((is_later (line ∷ before) ≡ is_later before) ⊎ (is_later before ≡ false)) → given (first_section (line ∷ before)) ≡ given (first_section before)
same_given line before none counts = elim (cases_Bool (is_later (line ∷ before))) [
  | inl late ↦ ap given (first_late line before late)
  | inr early ↦ by early counts
]
  where
    by : is_later (line ∷ before) ≡ false → ((is_later (line ∷ before) ≡ is_later before) ⊎ (is_later before ≡ false)) → given (first_section (line ∷ before)) ≡ given (first_section before)
    by early (inl same) = ap given (first_early (line ∷ before) early) ∙ none ∙ ap given (sym (first_early before (sym same ∙ early)))
    by early (inr first) = ap given (first_early (line ∷ before) early) ∙ none ∙ ap given (sym (first_early before first))

pub same_widths : (line : Reading) (before : List Reading) → widths (line ∷ before) ≡ widths before → ((is_later (line ∷ before) ≡ is_later before) ⊎ (is_later before ≡ false)) → widths (first_section (line ∷ before)) ≡ widths (first_section before)
same_widths line before none counts = elim (cases_Bool (is_later (line ∷ before))) [
  | inl late ↦ ap widths (first_late line before late)
  | inr early ↦ by early counts
]
  where
    by : is_later (line ∷ before) ≡ false → ((is_later (line ∷ before) ≡ is_later before) ⊎ (is_later before ≡ false)) → widths (first_section (line ∷ before)) ≡ widths (first_section before)
    by early (inl same) = ap widths (first_early (line ∷ before) early) ∙ none ∙ ap widths (sym (first_early before (sym same ∙ early)))
    by early (inr first) = ap widths (first_early (line ∷ before) early) ∙ none ∙ ap widths (sym (first_early before first))

-- a `cpu` line either stands behind a later section's, or behind none
pub section_counts : (before : List Reading) (number : ℕ) (place : Place) → (is_later (Ok (Section number place) ∷ before) ≡ is_later before) ⊎ (is_later before ≡ false)
section_counts before number place = by (section_numbers before)
  where
    two : (k : ℕ) → nat_lt 1 (suc (suc k)) ≡ true
    two k = grind (arith, nat_tests)

    by : (ns : List ℕ) → (nat_lt 1 (length (number ∷ ns)) ≡ nat_lt 1 (length ns)) ⊎ (nat_lt 1 (length ns) ≡ false)
    by [] = inr refl
    by (n ∷ []) = inr refl
    by (n ∷ m ∷ ns) = inl (two (suc (length ns)) ∙ sym (two (length ns)))

-- ---- the sections of lines in their order

pub up_to_all : (says : List Reading) → section_numbers says ≡ [] → up_to_section says ≡ says
up_to_all [] none = refl
up_to_all (Ok Nothing ∷ says) none = ap (λ ls. Ok Nothing ∷ ls) (up_to_all says none)
up_to_all (Ok (Version version place) ∷ says) none = ap (λ ls. Ok (Version version place) ∷ ls) (up_to_all says none)
up_to_all (Ok (Section number place) ∷ says) none = cc none
up_to_all (Ok (Width width first second) ∷ says) none = ap (λ ls. Ok (Width width first second) ∷ ls) (up_to_all says none)
up_to_all (Ok (Register number value first second) ∷ says) none = ap (λ ls. Ok (Register number value first second) ∷ ls) (up_to_all says none)
up_to_all (Err fault ∷ says) none = ap (λ ls. Err fault ∷ ls) (up_to_all says none)

pub up_to-onto : (before rest : List Reading) → section_numbers before ≡ [] → up_to_section (onto before rest) ≡ onto before (up_to_section rest)
up_to-onto [] rest none = refl
up_to-onto (Ok Nothing ∷ before) rest none = up_to-onto before (Ok Nothing ∷ rest) none
up_to-onto (Ok (Version version place) ∷ before) rest none = up_to-onto before (Ok (Version version place) ∷ rest) none
up_to-onto (Ok (Section number place) ∷ before) rest none = cc none
up_to-onto (Ok (Width width first second) ∷ before) rest none = up_to-onto before (Ok (Width width first second) ∷ rest) none
up_to-onto (Ok (Register number value first second) ∷ before) rest none = up_to-onto before (Ok (Register number value first second) ∷ rest) none
up_to-onto (Err fault ∷ before) rest none = up_to-onto before (Err fault ∷ rest) none

-- what stands before the first section of clean lines gives nothing
pub nothing_inside : (before rest : List Reading) → IsClean before → section_numbers before ≢ [] → (given (up_to_section (onto before rest)) ≡ []) × (widths (up_to_section (onto before rest)) ≡ [])
nothing_inside [] rest clean some = absurd (some refl)
nothing_inside (Ok Nothing ∷ before) rest clean some = nothing_inside before (Ok Nothing ∷ rest) clean.2 some
nothing_inside (Ok (Version version place) ∷ before) rest clean some = nothing_inside before (Ok (Version version place) ∷ rest) clean.2 some
nothing_inside (Ok (Section number place) ∷ before) rest clean some = by (section_numbers before) refl (nothing_inside before (Ok (Section number place) ∷ rest) clean.2)
  where
    by : (ns : List ℕ) → section_numbers before ≡ ns
        → (section_numbers before ≢ [] → (given (up_to_section (onto before (Ok (Section number place) ∷ rest))) ≡ []) × (widths (up_to_section (onto before (Ok (Section number place) ∷ rest))) ≡ []))
        → (given (up_to_section (onto before (Ok (Section number place) ∷ rest))) ≡ []) × (widths (up_to_section (onto before (Ok (Section number place) ∷ rest))) ≡ [])
    by [] is later =
        let nothing = nothing_outside before clean.2 (section_passed before number place clean.1).0 is in
        let up = up_to-onto before (Ok (Section number place) ∷ rest) is in
        (ap given up ∙ given-onto before [] ∙ ap (λ gs. onto gs []) nothing.0, ap widths up ∙ widths-onto before [] ∙ ap (λ ws. onto ws []) nothing.1)
    by (n ∷ ns) is later = later (λ none. let e : n ∷ ns ≡ [] = sym is ∙ none in cc e)
nothing_inside (Ok (Width width first second) ∷ before) rest clean some = nothing_inside before (Ok (Width width first second) ∷ rest) clean.2 some
nothing_inside (Ok (Register number value first second) ∷ before) rest clean some = nothing_inside before (Ok (Register number value first second) ∷ rest) clean.2 some
nothing_inside (Err fault ∷ before) rest clean some = nothing_inside before (Err fault ∷ rest) clean.2 some

abbrev pub joined : List ℕ → List (List Reading) → List Reading → List (List Reading) → List (List Reading)
joined [] done section more = more
joined (n ∷ ns) done section more = done ++ section ∷ more

pub sections-onto : (before rest : List Reading) → behind_sections (onto before rest) ≡ joined (section_numbers before) (done_in before) (onto (up_to_section before) (up_to_section rest)) (behind_sections rest)
sections-onto [] rest = refl
sections-onto (Ok Nothing ∷ before) rest = sections-onto before (Ok Nothing ∷ rest)
sections-onto (Ok (Version version place) ∷ before) rest = sections-onto before (Ok (Version version place) ∷ rest)
sections-onto (Ok (Section number place) ∷ before) rest =
    sections-onto before (Ok (Section number place) ∷ rest) ∙ by (section_numbers before) (done_in before) (onto (up_to_section before) []) (up_to_section rest) (behind_sections rest)
  where
    by : (ns : List ℕ) (done : List (List Reading)) (section next : List Reading) (more : List (List Reading)) → joined ns done section (next ∷ more) ≡ done_next ns done section ++ next ∷ more
    by [] done section next more = refl
    by (n ∷ ns) done section next more = sym (append_assoc done (section ∷ []) (next ∷ more))
sections-onto (Ok (Width width first second) ∷ before) rest = sections-onto before (Ok (Width width first second) ∷ rest)
sections-onto (Ok (Register number value first second) ∷ before) rest = sections-onto before (Ok (Register number value first second) ∷ rest)
sections-onto (Err fault ∷ before) rest = sections-onto before (Err fault ∷ rest)

pub no_sections_done : (before : List Reading) → section_numbers before ≡ [] → done_in before ≡ []
no_sections_done [] none = refl
no_sections_done (Ok Nothing ∷ before) none = no_sections_done before none
no_sections_done (Ok (Version version place) ∷ before) none = no_sections_done before none
no_sections_done (Ok (Section number place) ∷ before) none = cc none
no_sections_done (Ok (Width width first second) ∷ before) none = no_sections_done before none
no_sections_done (Ok (Register number value first second) ∷ before) none = no_sections_done before none
no_sections_done (Err fault ∷ before) none = no_sections_done before none

some_sections : (says : List Reading) (done : List (List Reading)) (section : List Reading) (more : List (List Reading)) → sections_in says (done ++ section ∷ more) ≡ done ++ section ∷ more
some_sections says [] section more = refl
some_sections says (d ∷ done) section more = refl

-- the sections of lines, where more lines stand behind some
pub sections_split : (before rest : List Reading) → section_numbers before ≢ [] → sections_of (onto before rest) ≡ done_in before ++ onto (up_to_section before) (up_to_section rest) ∷ behind_sections rest
sections_split before rest some = by (section_numbers before) some (sections-onto before rest)
  where
    by : (ns : List ℕ) → ns ≢ [] → behind_sections (onto before rest) ≡ joined ns (done_in before) (onto (up_to_section before) (up_to_section rest)) (behind_sections rest)
        → sections_of (onto before rest) ≡ done_in before ++ onto (up_to_section before) (up_to_section rest) ∷ behind_sections rest
    by [] some is = absurd (some refl)
    by (n ∷ ns) some is = ap (sections_in (onto before rest)) is ∙ some_sections (onto before rest) (done_in before) (onto (up_to_section before) (up_to_section rest)) (behind_sections rest)

pub sections_whole : (before : List Reading) → sections_of (onto before []) ≡ done_in before ++ onto (up_to_section before) [] ∷ []
sections_whole before = by (section_numbers before) refl (sections-onto before [])
  where
    by : (ns : List ℕ) → section_numbers before ≡ ns → behind_sections (onto before []) ≡ joined ns (done_in before) (onto (up_to_section before) []) [] → sections_of (onto before []) ≡ done_in before ++ onto (up_to_section before) [] ∷ []
    by [] none is =
        let all : up_to_section before ≡ before = up_to_all before none in
        ap (sections_in (onto before [])) is ∙ sym (ap (λ ds. ds ++ onto (up_to_section before) [] ∷ []) (no_sections_done before none) ∙ ap (λ ls. onto ls [] ∷ []) all)
    by (n ∷ ns) some is = ap (sections_in (onto before [])) is ∙ some_sections (onto before []) (done_in before) (onto (up_to_section before) []) []
