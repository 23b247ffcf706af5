-- Where the pages of a run lie in whole granules.
use Rattle.std.proofs.Common.{◌≡◌, ℕ, suc, ◌+◌, ◌-◌, ◌*◌, ◌/◌, ◌%◌, ◌^◌, ◌<◌, ◌≤◌, true, false, refl, sym, ◌∙◌, ◌⊎◌, inl, inr, arith}
use Rattle.std.specs.Prelude.{max, min, if◌then◌else◌}
use Rattle.std.proofs.Math.Nat.{div-lt_iff_lt-mul, le-div_iff_mul-le, div-eq_of_lt-le, div-add-mod}
use Rattle.std.proofs.lemmas.Nat.{pow_pos}
use Rattle.std.proofs.lemmas.Bool.{and_from, both_ways, cases_Bool, cases_lt, lt-ltb, le-ltb}
use Rattle.mt_regs.specs.RegisterFile.{RegisterFile, is_fixed_enabled, page_count}
use Rattle.mt_types.specs.declared.run.Run.{Run}
use Rattle.mt_types.specs.Runs.{run_end}
use Rattle.mt_tidy.specs.Wanted.{is_free}
use Rattle.mt_gran.specs.Granules.{is_whole, pages_of}
use Rattle.mt_gran.specs.Marks.{IsCut, IsWholeRun}
use Rattle.mt_gran.proofs.Whole.{not_whole, whole_from}

abbrev pub first_not_free : RegisterFile → ℕ
first_not_free f = if is_fixed_enabled f then 256 else 0

pub free_below : (f : RegisterFile) (page : ℕ) → page < first_not_free f → is_free f page ≡ true
free_below f page below = split (cases_Bool (is_fixed_enabled f))
  where
    split : (is_fixed_enabled f ≡ true) ⊎ (is_fixed_enabled f ≡ false) → is_free f page ≡ true
    split (inl e) = let low : page < 256 = rw e at below in and_from _ _ e (lt-ltb page 256 low)
    split (inr e) = let low : page < 0 = rw e at below in absurd (omega (arith, low))

pub not_free_from : (f : RegisterFile) (page : ℕ) → first_not_free f ≤ page → is_free f page ≡ false
not_free_from f page above = split (cases_Bool (is_fixed_enabled f))
  where
    split : (is_fixed_enabled f ≡ true) ⊎ (is_fixed_enabled f ≡ false) → is_free f page ≡ false
    split (inl e) =
        let high : 256 ≤ page = rw e at above in
        rw e (le-ltb page 256 high)
    split (inr e) = rw e refl

pub from_not_free : (f : RegisterFile) (page : ℕ) → is_free f page ≡ false → first_not_free f ≤ page
from_not_free f page nonfree = elim (cases_lt page (first_not_free f)) [
  | inl below ↦ absurd (both_ways (is_free f page) nonfree (free_below f page below))
  | inr above ↦ above
]

same_granule : (x p size : ℕ) → 0 < size → x - x % size ≤ p → p < x - x % size + size → p / size ≡ x / size
same_granule x p size some low high =
    let e = div-add-mod x size in
    div-eq_of_lt-le {k = x / size} size {m = p} (omega (arith, e, low)) (omega (arith, e, high))

stays_above : (u p q size : ℕ) → 0 < size → q / size ≡ p / size → u * size ≤ p → u * size ≤ q
stays_above u p q size some same low =
    let at_p : u ≤ p / size = (le-div_iff_mul-le {k = size} {x = u} {y = p} some).1 low in
    let at_q : u ≤ q / size = omega (arith, at_p, same) in
    (le-div_iff_mul-le {k = size} {x = u} {y = q} some).0 at_q

stays_below : (u p q size : ℕ) → 0 < size → q / size ≡ p / size → p < u * size → q < u * size
stays_below u p q size some same high =
    let at_p : p / size < u = (div-lt_iff_lt-mul {k = size} {x = p} {y = u} some).1 high in
    let at_q : q / size < u = omega (arith, at_p, same) in
    (div-lt_iff_lt-mul {k = size} {x = q} {y = u} some).0 at_q

-- where the whole granules begin, if there is one
pub record IsFrom (start g first free_end from : ℕ) : Type 0 where
  pub low : first ≤ start → from ≡ free_end
  pub aligned : start < first → first % 2 ^ g ≡ 0 → from ≡ first
  pub within : start < first → 0 < first % 2 ^ g → from ≡ first - first % 2 ^ g + 2 ^ g

-- and where they end
pub record IsTo (pages g end to : ℕ) : Type 0 where
  pub last : end ≡ pages → to ≡ end
  pub inner : end < pages → to ≡ end - end % 2 ^ g

module _ (f : RegisterFile) (g : ℕ) (r : Run) (run : IsWholeRun f r) (free_end from to : ℕ) (is_end : free_end ≡ min (max r.first (first_not_free f)) (run_end r))
    (is_from : IsFrom (first_not_free f) g r.first free_end from) (is_to : IsTo (page_count f) g (run_end r) to) where
  whole_page : (page : ℕ) → from ≤ page → page < to → is_whole (pages_of f) g (page / 2 ^ g) ≡ true
  whole_page page above below =
      whole_from (pages_of f) g (page / 2 ^ g) run.type (λ q q_below at nonfree. run.pages q (low q nonfree at, high q q_below at) ∙ run.kind)
    where
      low : (q : ℕ) → is_free f q ≡ false → q / 2 ^ g ≡ page / 2 ^ g → r.first ≤ q
      low q nonfree at = elim (cases_lt (first_not_free f) r.first) [
        | inr free ↦ let h = from_not_free f q nonfree in omega (arith, free, h)
        | inl inner ↦ elim (cases_lt 0 (r.first % 2 ^ g)) [
          | inr even ↦
              let e = div-add-mod r.first (2 ^ g) in
              let is = is_from.aligned inner (omega (arith, even)) in
              let h = stays_above (r.first / 2 ^ g) page q (2 ^ g) (pow_pos g) at (omega (arith, e, even, is, above)) in
              omega (arith, e, even, h)
          | inl odd ↦
              let e = div-add-mod r.first (2 ^ g) in
              let is = is_from.within inner odd in
              let h = stays_above (r.first / 2 ^ g + 1) page q (2 ^ g) (pow_pos g) at (omega (arith, e, is, above)) in
              omega (arith, e, h, pow_pos g)
        ]
      ]

      high : (q : ℕ) → q < page_count f → q / 2 ^ g ≡ page / 2 ^ g → q < run_end r
      high q q_below at = elim (cases_lt (run_end r) (page_count f)) [
        | inr last ↦ omega (arith, run.within, last, q_below)
        | inl inner ↦
            let e = div-add-mod (run_end r) (2 ^ g) in
            let is = is_to.inner inner in
            let h = stays_below (run_end r / 2 ^ g) page q (2 ^ g) (pow_pos g) at (omega (arith, e, is, below)) in
            omega (arith, e, h)
      ]

  head_page : (page : ℕ) → free_end ≤ page → page < from → page < run_end r → is_whole (pages_of f) g (page / 2 ^ g) ≡ false
  head_page page above below inside = elim (cases_lt (first_not_free f) r.first) [
    | inr free ↦ absurd (omega (arith, is_from.low free, above, below))
    | inl inner ↦ elim (cases_lt 0 (r.first % 2 ^ g)) [
      | inr even ↦
          let is = is_from.aligned inner (omega (arith, even)) in
          absurd (omega (arith, is, is_end, above, below, inner, run.some))
      | inl odd ↦
          let is = is_from.within inner odd in
          let first : r.first ≤ page = omega (arith, is_end, above, inner, inside) in
          let before : ℕ = r.first - 1 in
          let one : suc before ≡ r.first = omega (arith, inner) in
          let here : page / 2 ^ g ≡ r.first / 2 ^ g = same_granule r.first page (2 ^ g) (pow_pos g) (omega (arith, first)) (omega (arith, is, below)) in
          let there : before / 2 ^ g ≡ r.first / 2 ^ g = same_granule r.first before (2 ^ g) (pow_pos g) (omega (arith, odd)) (omega (arith, pow_pos g, odd, one)) in
          not_whole (pages_of f) g (page / 2 ^ g) page before (omega (arith, inside, run.within)) (omega (arith, one, run.within)) refl (there ∙ sym here)
          (not_free_from f page (omega (arith, first, inner))) (not_free_from f before (omega (arith, inner, one)))
          (λ e. run.before before one (sym e ∙ run.pages page (first, inside)))
    ]
  ]

  tail_page : (page : ℕ) → free_end ≤ page → to ≤ page → page < run_end r → is_whole (pages_of f) g (page / 2 ^ g) ≡ false
  tail_page page above past inside = elim (cases_lt (run_end r) (page_count f)) [
    | inr last ↦
        let is = is_to.last (omega (arith, run.within, last)) in
        absurd (omega (arith, is, past, inside))
    | inl inner ↦
        let is = is_to.inner inner in
        let start : first_not_free f ≤ page = omega (arith, is_end, above, inside) in
        let first : r.first ≤ page = omega (arith, is_end, above, inside) in
        let here : page / 2 ^ g ≡ run_end r / 2 ^ g = same_granule (run_end r) page (2 ^ g) (pow_pos g) (omega (arith, is, past)) (omega (arith, inside, modulo (run_end r) (2 ^ g) (pow_pos g))) in
        not_whole (pages_of f) g (page / 2 ^ g) page (run_end r) (omega (arith, inside, inner)) inner refl (sym here)
        (not_free_from f page start) (not_free_from f (run_end r) (omega (arith, start, inside)))
        (λ e. run.behind inner (sym e ∙ run.pages page (first, inside)))
  ]
    where
      modulo : (x size : ℕ) → 0 < size → x < x - x % size + size
      modulo x size some = let e = div-add-mod x size in omega (arith, e)

  nonfree_page : (page : ℕ) → free_end ≤ page → page < run_end r → is_free f page ≡ false
  nonfree_page page above inside = not_free_from f page (omega (arith, is_end, above, inside))

  to_end : to ≤ run_end r
  to_end = elim (cases_lt (run_end r) (page_count f)) [
    | inr last ↦ let is = is_to.last (omega (arith, run.within, last)) in omega (arith, is)
    | inl inner ↦ let is = is_to.inner inner in omega (arith, is)
  ]

  from_end : free_end ≤ from
  from_end = elim (cases_lt (first_not_free f) r.first) [
    | inr free ↦ omega (arith, is_from.low free)
    | inl inner ↦ elim (cases_lt 0 (r.first % 2 ^ g)) [
      | inr even ↦ omega (arith, is_from.aligned inner (omega (arith, even)), is_end, inner)
      | inl odd ↦
          let is = is_from.within inner odd in
          let e = div-add-mod r.first (2 ^ g) in
          omega (arith, is, e, is_end, inner, pow_pos g)
    ]
  ]

  cut_some : from < to → (end : ℕ) → end ≡ run_end r → IsCut (pages_of f) g r (record { free_end = free_end; whole_from = from; whole_to = to; end = end })
  cut_some order end same = record {
    begins = omega (arith, is_end);
    head_ends = from_end;
    tail_begins = omega (arith, order);
    ends = omega (arith, to_end, same);
    end_is = same;
    free = λ page low high. free_below f page (omega (arith, is_end, low, high));
    not_free = nonfree_page;
    whole = whole_page;
    head = λ page low high. head_page page low high (omega (arith, high, order, to_end));
    tail = λ page low high. tail_page page (omega (arith, low, order, from_end)) low high;
  }

  cut_none : to ≤ from → (end : ℕ) → end ≡ run_end r → IsCut (pages_of f) g r (record { free_end = free_end; whole_from = end; whole_to = end; end = end })
  cut_none order end same = record {
    begins = omega (arith, is_end);
    head_ends = omega (arith, is_end, same);
    tail_begins = omega arith;
    ends = omega arith;
    end_is = same;
    free = λ page low high. free_below f page (omega (arith, is_end, low, high));
    not_free = nonfree_page;
    whole = λ page low high. absurd (omega (arith, low, high));
    head = λ page low high. elim (cases_lt page from) [
      | inl before ↦ head_page page low before (omega (arith, high, same))
      | inr past ↦ tail_page page low (omega (arith, past, order)) (omega (arith, high, same))
    ];
    tail = λ page low high. absurd (omega (arith, low, high, same));
  }

pub some_whole : (f : RegisterFile) (g : ℕ) (r : Run) → IsWholeRun f r → (free_end from to : ℕ) → free_end ≡ min (max r.first (first_not_free f)) (run_end r)
    → IsFrom (first_not_free f) g r.first free_end from → IsTo (page_count f) g (run_end r) to → from < to → (end : ℕ) → end ≡ run_end r
    → IsCut (pages_of f) g r (record { free_end = free_end; whole_from = from; whole_to = to; end = end })
some_whole = cut_some

pub none_whole : (f : RegisterFile) (g : ℕ) (r : Run) → IsWholeRun f r → (free_end from to : ℕ) → free_end ≡ min (max r.first (first_not_free f)) (run_end r)
    → IsFrom (first_not_free f) g r.first free_end from → IsTo (page_count f) g (run_end r) to → to ≤ from → (end : ℕ) → end ≡ run_end r
    → IsCut (pages_of f) g r (record { free_end = free_end; whole_from = end; whole_to = end; end = end })
none_whole = cut_none
