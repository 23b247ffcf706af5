use Rattle.std.proofs.Common.{◌≡◌, ◌^◌, ◌∙◌, sym, refl, ap, arith, set, subst}
use Rattle.std.proofs.lemmas.Nat.{pow_pos}
use Rattle.mt_tidy.specs.AllCosts.{AreCosts}
use Rattle.mt_tidy.specs.Cost.{task_by}
use Rattle.mt_trie.specs.declared.wish.Wish.TheVariants.{Any, Only}
use Rattle.mt_tidy.proofs.Coming.{AreHalfBlocks, come_to_both, come_to_mixed, come_to_none, few_divided}
use Rattle.mt_tidy.proofs.Sizes.{free_words, halves_covered, halves_hold, halves_size, only_words}
use Rattle.mt_tidy.proofs.Wishes.{mixed_divides}
use Rattle.mt_types.specs.Runs.{pages_end}
use Rattle.mt_tidy.proofs.whole_costs.+finding.Goals as goal

pub find_halves-first_half-half-requires : goal.find_halves-first_half-half-requires
find_halves-first_half-half-requires t c = mixed_divides (task_by c.args.search.now.rules c.args.search.now.wanted) c.args.b.now.log c.args.b.now.first c.requires.mixed

pub find_halves-find_costs-requires : goal.find_halves-find_costs-requires
find_halves-find_costs-requires t c =
    let pages = halves_covered c.args.b.now.first c.first_half-half.result.log c.args.b.now.log (pages_end 0 c.args.search.now.wanted) c.first_half-half.ensures.log c.requires.covered in
    let size = halves_size c.first_half-half.result.log c.args.b.now.log c.first_half-half.ensures.log in (
      omega (arith, c.first_half-half.ensures.log, c.decreases),
      (
        c.requires.map,
        (
          c.requires.defined,
          (
            omega (arith, pages, c.first_half-half.ensures.first),
            omega (arith, size, pow_pos c.first_half-half.result.log, c.requires.count),
          ),
        ),
      ),
    )

pub find_halves-find_costs-requires-2 : goal.find_halves-find_costs-requires-2
find_halves-find_costs-requires-2 t c =
    let pages = halves_covered c.args.b.now.first c.first_half-half.result.log c.args.b.now.log (pages_end 0 c.args.search.now.wanted) c.first_half-half.ensures.log c.requires.covered in
    let whole = halves_size c.first_half-half.result.log c.args.b.now.log c.first_half-half.ensures.log in
    let size : 2 ^ c.next_block-half.result.log ≡ 2 ^ c.first_half-half.result.log = ap (λ n. 2 ^ n) c.next_block-half.ensures.log in (
      omega (arith, c.first_half-half.ensures.log, c.next_block-half.ensures.log, c.decreases),
      (
        c.requires.map,
        (
          c.requires.defined,
          (
            omega (arith, pages, size, c.first_half-half.ensures.first, c.next_block-half.ensures.first),
            omega (
              arith,
              size,
              whole,
              few_divided (task_by c.args.search.now.rules c.args.search.now.wanted) c.first_half-half.result.log c.first_half-half.result.first,
              c.save.ensures.count,
              c.find_costs.ensures.come.count,
              c.requires.count,
            ),
          ),
        ),
      ),
    )

pub find_halves-returns-clause-halves : goal.find_halves-returns-clause-halves
find_halves-returns-clause-halves t c =
    halves_hold _ c.args.b.now.log c.args.b.now.first _ _ _ _ c.find_costs.new.table c.save.new.self c.find_costs-2.new.table c.requires.mixed
    c.first_half-half.ensures.log c.first_half-half.ensures.first c.next_block-half.ensures.log c.next_block-half.ensures.first
    c.find_costs.ensures.found c.save.ensures.saved c.find_costs-2.ensures.saved c.find_costs-2.ensures.found

pub find_halves-returns-clause-come : goal.find_halves-returns-clause-come
find_halves-returns-clause-come t c =
    let are : AreHalfBlocks c.args.b.now.log c.args.b.now.first c.first_half-half.result.log c.first_half-half.result.first c.next_block-half.result.log c.next_block-half.result.first =
    record { is_half = c.first_half-half.ensures.log; is_first = c.first_half-half.ensures.first; is_log = c.next_block-half.ensures.log; is_second = c.next_block-half.ensures.first } in
    come_to_both _ c.args.table.now c.find_costs.new.table c.save.new.self c.find_costs-2.new.table _ _ _ _ _ _ are c.find_costs.ensures.come c.save.ensures.choices c.save.ensures.count c.find_costs-2.ensures.come

pub find_halves-returns-clause-saved : goal.find_halves-returns-clause-saved
find_halves-returns-clause-saved t c = λ i d above.
    c.find_costs-2.ensures.saved i d (omega (arith, above, c.first_half-half.ensures.log, c.next_block-half.ensures.log))
    ∙ c.save.ensures.others i d (omega (arith, above, c.first_half-half.ensures.log))
    ∙ c.find_costs.ensures.saved i d (omega (arith, above, c.first_half-half.ensures.log))

pub find_costs-returns-in-Any-clause-found : goal.find_costs-returns-in-Any-clause-found
find_costs-returns-in-Any-clause-found t c = free_words _ c.args.b.now.log c.args.b.now.first _ (c.wish_of.ensures ∙ c.in-Any.is) refl

pub find_costs-returns-in-Any-clause-come : goal.find_costs-returns-in-Any-clause-come
find_costs-returns-in-Any-clause-come t c = come_to_none _ c.args.b.now.log c.args.b.now.first Any c.args.table.now _ (c.wish_of.ensures ∙ c.in-Any.is) refl refl refl

pub find_costs-returns-in-Only-clause-found : goal.find_costs-returns-in-Only-clause-found
find_costs-returns-in-Only-clause-found t c = only_words _ c.args.b.now.log c.args.b.now.first c.in-Only.t _ (c.wish_of.ensures ∙ c.in-Only.is) c.only_costs-table.ensures

pub find_costs-returns-in-Only-clause-come : goal.find_costs-returns-in-Only-clause-come
find_costs-returns-in-Only-clause-come t c =
    come_to_none _ c.args.b.now.log c.args.b.now.first (Only c.in-Only.t) c.args.table.now _ (c.wish_of.ensures ∙ c.in-Only.is) refl refl refl

pub find_costs-returns-in-Mixed-clause-found : goal.find_costs-returns-in-Mixed-clause-found
find_costs-returns-in-Mixed-clause-found t c =
    subst (AreCosts (task_by c.args.search.now.rules c.args.search.now.wanted) c.args.b.now.log c.args.b.now.first) (sym c.keep.ensures.found)
    (c.find_divided-choice.ensures.found c.args.search.now.wanted c.find_halves.ensures.halves)

pub find_costs-returns-in-Mixed-clause-come : goal.find_costs-returns-in-Mixed-clause-come
find_costs-returns-in-Mixed-clause-come t c =
    come_to_mixed (task_by c.args.search.now.rules c.args.search.now.wanted) c.args.b.now.log c.args.b.now.first c.args.table.now _ c.find_halves.new.table c.keep.new.self
    c.find_divided-choice.result (c.wish_of.ensures ∙ c.in-Mixed.is) refl refl c.find_halves.ensures.come
    (c.keep.ensures.choices ∙ ap (λ cs. set cs c.args.table.now.count c.find_divided-choice.result) c.find_divided-choice.ensures.choices)
    (c.keep.ensures.count ∙ c.find_divided-choice.ensures.count) (c.find_divided-choice.ensures.choice c.args.search.now.wanted c.find_halves.ensures.halves)
