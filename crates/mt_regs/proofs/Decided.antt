-- Each file has a first fault or is accepted: a walk over all its pages, one after the other.
use Rattle.std.proofs.Common.{◌≡◌, ◌≢◌, ℕ, zero, suc, ◌<◌, ◌≤◌, true, false, length, Option, Some, None, refl, ◌∙◌, ap, inl, inr, arith}
use Rattle.std.specs.Prelude.{◌⊎◌}
use Rattle.std.proofs.lemmas.Bool.{cases_Bool, cases_lt}
use Rattle.mt_regs.specs.declared.fault.Fault.{Fault}
use Rattle.mt_regs.specs.declared.fault.Reason.TheVariants.{UndefinedOverlap}
use Rattle.mt_regs.specs.declared.page_type.PageType.{PageType}
use Rattle.mt_regs.specs.declared.page_type.PageType.TheVariants.{Kind, Undefined}
use Rattle.mt_regs.specs.RegisterFile.{RegisterFile, page_count}
use Rattle.mt_regs.specs.PageTypes.{page_type}
use Rattle.mt_regs.specs.Alike.{IsAlike}
use Rattle.mt_regs.specs.Faults.{IsFirstFault, IsOverlap, register_fault}
use Rattle.mt_regs.proofs.Walk.{IsWalked, matches_at, overlap_absent, overlap_found, walked_defined, walked_start, walked_undefined}

-- the first of some pairs that matches a page, or their number
record IsFirstMatch (f : RegisterFile) (page count first : ℕ) : Type 0 where
  pub within : first ≤ count
  pub before : (n : ℕ) → n < first → matches_at f n page ≡ false
  pub found : first < count → matches_at f first page ≡ true

first_match : (f : RegisterFile) (page count : ℕ) → (first : ℕ) × IsFirstMatch f page count first
first_match f page zero = (0, record { within = omega arith; before = λ n below. absurd (omega arith); found = λ below. absurd (omega arith) })
first_match f page (suc count) = let (first, is) = first_match f page count in elim (cases_lt first count) [
  | inl found ↦ (first, record { within = omega (arith, is.within); before = is.before; found = λ below. is.found found })
  | inr past ↦ elim (cases_Bool (matches_at f count page)) [
    | inl matches ↦ (count, record { within = omega arith; before = λ n below. is.before n (omega arith); found = λ below. matches })
    | inr differs ↦ (
      suc count,
      record {
        within = omega arith;
        before = λ n below. elim (cases_lt n count) [
          | inl low ↦ is.before n (omega arith)
          | inr top ↦ let e : n ≡ count = omega arith in ap (λ k. matches_at f k page) e ∙ differs
        ];
        found = λ below. absurd (omega arith);
      },
    )
  ]
]

is_undefined_or_not : (kind : PageType) → (kind ≡ Undefined) ⊎ (kind ≢ Undefined)
is_undefined_or_not Undefined = inl refl
is_undefined_or_not (Kind t) = inr (λ e. cc e)

alone : (f : RegisterFile) (page : ℕ) → IsAlike f page (suc page)
alone f page = record {
  pairs = λ n other from to. let e : other ≡ page = omega arith in ap (λ k. matches_at f n k) e;
  kind = λ other from to. let e : other ≡ page = omega arith in ap (page_type f) e;
}

walk : (f : RegisterFile) (page : ℕ) → page ≤ page_count f → (least : ℕ) × IsWalked f page least
walk f zero bound = (length f.pairs, walked_start f)
walk f (suc page) bound =
    let (least, walked) = walk f page (omega arith) in
    let (first, is) = first_match f page (length f.pairs) in
    elim (is_undefined_or_not (page_type f page)) [
      | inl undefined ↦ (_, walked_undefined f page least (suc page) first walked (omega arith) bound (alone f page) undefined is.within is.before is.found)
      | inr defined ↦ (least, walked_defined f page least (suc page) walked (omega arith) bound (alone f page) defined)
    ]

an_overlap_or_none : (f : RegisterFile) → (answer : Option ℕ) × IsOverlap f answer
an_overlap_or_none f =
    let (least, walked) = walk f (page_count f) (omega arith) in
    elim (cases_lt least (length f.pairs)) [
      | inl found ↦ (Some _, overlap_found f (page_count f) least _ walked (omega arith) found refl)
      | inr past ↦ (None, overlap_absent f (page_count f) least walked (omega arith) past)
    ]

pub a_first_fault_or_none_lem : (f : RegisterFile) → (answer : Option Fault) × IsFirstFault f answer
a_first_fault_or_none_lem f = by_register (register_fault f) refl
  where
    by_overlap : (o : Option ℕ) → IsOverlap f o → register_fault f ≡ None → (answer : Option Fault) × IsFirstFault f answer
    by_overlap None is good = (None, rw good is)
    by_overlap (Some msr) is good = (Some (record { msr = msr; reason = UndefinedOverlap }), rw good (refl, is))

    by_register : (o : Option Fault) → register_fault f ≡ o → (answer : Option Fault) × IsFirstFault f answer
    by_register None good = by_overlap (an_overlap_or_none f).0 (an_overlap_or_none f).1 good
    by_register (Some fault) bad = (Some fault, rw bad refl)
