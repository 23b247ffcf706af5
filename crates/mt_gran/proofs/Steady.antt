-- A file of rounded types is rounded to its own types.
use Rattle.std.proofs.Common.{◌≡◌, ℕ, ◌/◌, ◌^◌, ◌<◌, false, List, [], ◌∷◌, refl, sym, ap, ◌∙◌, inl, inr, arith}
use Rattle.std.proofs.lemmas.Bool.{and_parts, both_ways, cases_Bool}
use Rattle.mt_kinds.specs.declared.mem_type.MemType.{MemType}
use Rattle.mt_kinds.specs.declared.mem_type.MemType.TheVariants.{UC, WB}
use Rattle.mt_types.specs.declared.run.Run.{Run}
use Rattle.mt_trie.specs.Contexts.{is_kind}
use Rattle.mt_gran.specs.Granules.{TypedPages, is_whole, lost_pages, loses, rounded_kind}
use Rattle.mt_gran.specs.Parts.{ArePartsOf}
use Rattle.mt_gran.proofs.Whole.{not_true, whole_from, whole_has}
use Rattle.mt_gran.proofs.CutMarks.{broken_gets, free_keeps, whole_keeps}
use Rattle.mt_gran.proofs.Counts.{count_none}

-- as many pages, the same ones free, and the rounded types
pub record HasRounded (m n : TypedPages) (g : ℕ) : Type 0 where
  pub count : n.count ≡ m.count
  pub free : (page : ℕ) → n.free page ≡ m.free page
  pub kinds : (page : ℕ) → page < m.count → n.kind page ≡ rounded_kind m g page

pub stays : (m n : TypedPages) (g : ℕ) → HasRounded m n g → (page : ℕ) → page < m.count → rounded_kind n g page ≡ n.kind page
stays m n g has page below = elim (cases_Bool (n.free page)) [
  | inl free ↦ free_keeps n g page free
  | inr nonfree ↦ whole_keeps n g page nonfree (elim (cases_Bool (is_whole m g (page / 2 ^ g))) [
    | inl whole ↦
        let one = whole_has m g (page / 2 ^ g) whole in
        whole_from n g (page / 2 ^ g) one.0 (λ q q_below at q_nonfree.
        let inside : q < m.count = omega (arith, q_below, has.count) in
        let apart = sym (has.free q) ∙ q_nonfree in
        has.kinds q inside ∙ whole_keeps m g q apart (ap (is_whole m g) at ∙ whole) ∙ one.1 q inside at apart)
    | inr broken ↦
        whole_from n g (page / 2 ^ g) UC (λ q q_below at q_nonfree.
        has.kinds q (omega (arith, q_below, has.count)) ∙ broken_gets m g q (sym (has.free q) ∙ q_nonfree) (ap (is_whole m g) at ∙ broken))
  ])
]

-- where each page is rounded to its own type, none loses it
pub keeps_all : (n : TypedPages) (g : ℕ) (t : MemType) (page : ℕ) → rounded_kind n g page ≡ n.kind page → loses n g t page ≡ false
keeps_all n g t page is = elim (cases_Bool (loses n g t page)) [
  | inr none ↦ none
  | inl loss ↦
      let outer = and_parts _ _ loss in
      let inner = and_parts _ _ outer.0 in
      absurd (both_ways (is_kind (n.kind page) UC) (not_true (is_kind (n.kind page) UC) inner.1) (ap (λ k. is_kind k UC) (sym is) ∙ outer.1))
]

pub no_parts : (n : TypedPages) (g : ℕ) (parts : List Run) → ((page : ℕ) → page < n.count → rounded_kind n g page ≡ n.kind page) → ArePartsOf n g parts → parts ≡ []
no_parts n g [] same are = refl
no_parts n g (r ∷ rs) same are =
    let part = are.each.0 in
    absurd (both_ways (loses n g part.type r.first) (keeps_all n g part.type r.first (same r.first (omega (arith, part.within, part.some))))
    (part.pages r.first (omega arith, omega (arith, part.some))))

pub none_lost : (n : TypedPages) (g : ℕ) → ((page : ℕ) → page < n.count → rounded_kind n g page ≡ n.kind page) → lost_pages n g ≡ 0
none_lost n g same = count_none (loses n g WB) 0 n.count n.count (omega arith) (λ page low high. keeps_all n g WB page (same page high))
