use Rattle.std.proofs.Common.{◌≡◌, ◌+◌, ◌^◌, refl, sym, ap, ◌∙◌, arith, length-append, length}
use Rattle.std.proofs.lemmas.Nat.{pow_pos}
use Rattle.mt_trie.specs.declared.wish.Wish.TheVariants.{Any, Only}
use Rattle.mt_tidy.specs.Choosing.{divided_count}
use Rattle.mt_tidy.specs.Cost.{task_by}
use Rattle.mt_types.specs.Runs.{pages_end}
use Rattle.mt_tidy.proofs.Coming.{AreHalfBlocks, choices_same, few_divided, in_halves, none_divided, rest_is}
use Rattle.mt_tidy.proofs.Laying.{laid_any, laid_divided, laid_only}
use Rattle.mt_tidy.proofs.Rooms.{room_first, room_is, room_second}
use Rattle.mt_tidy.proofs.Sizes.{cost_only, halves_covered, halves_size}
use Rattle.mt_tidy.proofs.Wishes.{mixed_divides}
use Rattle.mt_tidy.proofs.WholeCost.{usable_defined, usable_supported}
use Rattle.mt_tidy.proofs.laid.+lay_in.Goals as goal

pub wish_of-requires-clause-defined : goal.wish_of-requires-clause-defined
wish_of-requires-clause-defined t c = usable_defined c.args.search.now.rules c.args.search.now.wanted c.requires.usable

pub begin_over-y-requires-clause-defined : goal.begin_over-y-requires-clause-defined
begin_over-y-requires-clause-defined t c = usable_defined c.args.search.now.rules c.args.search.now.wanted c.requires.usable

pub returns-in-Any-clause-laid : goal.returns-in-Any-clause-laid
returns-in-Any-clause-laid t c =
    laid_any (task_by c.args.search.now.rules c.args.search.now.wanted) c.args.b.now.log c.args.b.now.first c.args.x c.args.out.now.items (c.wish_of.ensures ∙ c.in-Any.is)

pub put_whole-requires : goal.put_whole-requires
put_whole-requires t c =
    room_is _ _ c.args.out.now.items
    (cost_only (task_by c.args.search.now.rules c.args.search.now.wanted) c.args.b.now.log c.args.b.now.first c.in-Only.t (c.wish_of.ensures ∙ c.in-Only.is) c.args.x)
    c.requires.room

pub returns-in-Only-clause-laid : goal.returns-in-Only-clause-laid
returns-in-Only-clause-laid t c =
    laid_only (task_by c.args.search.now.rules c.args.search.now.wanted) (usable_supported c.args.search.now.rules c.args.search.now.wanted c.requires.usable) c.args.b.now.log c.args.b.now.first
    c.args.b.now.aligned c.args.x _ _ c.in-Only.t (c.requires.room.count, c.requires.room.costs) (c.wish_of.ensures ∙ c.in-Only.is) c.put_whole.ensures

pub first_half-half-requires : goal.first_half-half-requires
first_half-half-requires t c = mixed_divides (task_by c.args.search.now.rules c.args.search.now.wanted) c.args.b.now.log c.args.b.now.first (c.wish_of.ensures ∙ c.in-Mixed.is)

pub lay_in-requires : goal.lay_in-requires
lay_in-requires t c =
    let k = task_by c.args.search.now.rules c.args.search.now.wanted in
    let mixed = c.wish_of.ensures ∙ c.in-Mixed.is in
    let are : AreHalfBlocks c.args.b.now.log c.args.b.now.first c.first_half-half.result.log c.first_half-half.result.first c.first_half-half.result.log
    (c.first_half-half.result.first + 2 ^ c.first_half-half.result.log) =
    record { is_half = c.first_half-half.ensures.log; is_first = c.first_half-half.ensures.first; is_log = refl; is_second = refl } in
    let pages = halves_covered c.args.b.now.first c.first_half-half.result.log c.args.b.now.log (pages_end 0 c.args.search.now.wanted) c.first_half-half.ensures.log c.requires.covered in
    let size = halves_size c.first_half-half.result.log c.args.b.now.log c.first_half-half.ensures.log in
    let both = in_halves k c.args.table.now.count c.args.table.now.choices _ _ _ _ _ _ are mixed c.requires.choices in (
      omega (arith, c.first_half-half.ensures.log, c.decreases),
      (
        c.requires.map,
        (
          c.requires.usable,
          (
            omega (arith, pages, c.first_half-half.ensures.first),
            (
              omega (arith, size, pow_pos c.first_half-half.result.log, c.begin_over-y.ensures.count, c.requires.count),
              (
                choices_same k _ _ _ _ c.args.table.now.choices c.begin_over-y.new.table.choices both.lower (sym c.begin_over-y.ensures.count) c.begin_over-y.ensures.choices,
                room_first _ _ _ (room_is _ _ _ (rest_is k c.begin_over-y.result _ _ _ _ _ _ are) c.begin_over-y.ensures.room),
              ),
            ),
          ),
        ),
      ),
    )

pub lay_in-requires-in-Mixed : goal.lay_in-requires-in-Mixed
lay_in-requires-in-Mixed t c =
    let k = task_by c.args.search.now.rules c.args.search.now.wanted in
    let mixed = c.wish_of.ensures ∙ c.in-Mixed.is in
    let are : AreHalfBlocks c.args.b.now.log c.args.b.now.first c.first_half-half.result.log c.first_half-half.result.first c.next_block-half.result.log c.next_block-half.result.first =
    record { is_half = c.first_half-half.ensures.log; is_first = c.first_half-half.ensures.first; is_log = c.next_block-half.ensures.log; is_second = c.next_block-half.ensures.first } in
    let pages = halves_covered c.args.b.now.first c.first_half-half.result.log c.args.b.now.log (pages_end 0 c.args.search.now.wanted) c.first_half-half.ensures.log c.requires.covered in
    let size : 2 ^ c.next_block-half.result.log ≡ 2 ^ c.first_half-half.result.log = ap (λ n. 2 ^ n) c.next_block-half.ensures.log in
    let whole = halves_size c.first_half-half.result.log c.args.b.now.log c.first_half-half.ensures.log in
    let both = in_halves k c.args.table.now.count c.args.table.now.choices _ _ _ _ _ _ are mixed c.requires.choices in
    let place : c.args.table.now.count + 1 + divided_count k c.first_half-half.result.log c.first_half-half.result.first ≡ c.lay_in.new.table.count =
    omega (arith, c.lay_in.ensures.count, c.begin_over-y.ensures.count) in (
      omega (arith, c.first_half-half.ensures.log, c.next_block-half.ensures.log, c.decreases),
      (
        c.requires.map,
        (
          c.requires.usable,
          (
            omega (arith, pages, size, c.first_half-half.ensures.first, c.next_block-half.ensures.first),
            (
              omega (arith, size, whole, few_divided k c.first_half-half.result.log c.first_half-half.result.first, place, c.requires.count),
              (
                choices_same k _ _ _ _ c.args.table.now.choices c.lay_in.new.table.choices both.upper place (λ i. c.lay_in.ensures.choices i ∙ c.begin_over-y.ensures.choices i),
                room_second _ _ _ _ _ (room_is _ _ _ (rest_is k c.begin_over-y.result _ _ _ _ _ _ are) c.begin_over-y.ensures.room) c.lay_in.ensures.laid.count
                    (ap length c.lay_in.ensures.laid.after ∙ length-append _ c.lay_in.ensures.laid.added),
              ),
            ),
          ),
        ),
      ),
    )

pub returns-in-Any-clause-count : goal.returns-in-Any-clause-count
returns-in-Any-clause-count t c = omega (arith, none_divided _ c.args.b.now.log c.args.b.now.first Any (c.wish_of.ensures ∙ c.in-Any.is) refl)

pub returns-in-Only-clause-count : goal.returns-in-Only-clause-count
returns-in-Only-clause-count t c = omega (arith, none_divided _ c.args.b.now.log c.args.b.now.first (Only c.in-Only.t) (c.wish_of.ensures ∙ c.in-Only.is) refl)

pub returns-in-Mixed-clause-laid : goal.returns-in-Mixed-clause-laid
returns-in-Mixed-clause-laid t c =
    let k = task_by c.args.search.now.rules c.args.search.now.wanted in
    let are : AreHalfBlocks c.args.b.now.log c.args.b.now.first c.first_half-half.result.log c.first_half-half.result.first c.next_block-half.result.log c.next_block-half.result.first =
    record { is_half = c.first_half-half.ensures.log; is_first = c.first_half-half.ensures.first; is_log = c.next_block-half.ensures.log; is_second = c.next_block-half.ensures.first } in
    laid_divided k (usable_supported c.args.search.now.rules c.args.search.now.wanted c.requires.usable) _ _ _ _ _ _ are c.args.b.now.aligned (c.wish_of.ensures ∙ c.in-Mixed.is)
    c.args.x c.begin_over-y.result _ _ _ _ c.begin_over-y.ensures.begun c.lay_in.ensures.laid c.lay_in-in-Mixed.ensures.laid

pub returns-in-Mixed-clause-choices : goal.returns-in-Mixed-clause-choices
returns-in-Mixed-clause-choices t c = λ i. c.lay_in-in-Mixed.ensures.choices i ∙ c.lay_in.ensures.choices i ∙ c.begin_over-y.ensures.choices i

pub returns-in-Mixed-clause-count : goal.returns-in-Mixed-clause-count
returns-in-Mixed-clause-count t c =
    let k = task_by c.args.search.now.rules c.args.search.now.wanted in
    let are : AreHalfBlocks c.args.b.now.log c.args.b.now.first c.first_half-half.result.log c.first_half-half.result.first c.next_block-half.result.log c.next_block-half.result.first =
    record { is_half = c.first_half-half.ensures.log; is_first = c.first_half-half.ensures.first; is_log = c.next_block-half.ensures.log; is_second = c.next_block-half.ensures.first } in
    let both = in_halves k c.args.table.now.count c.args.table.now.choices _ _ _ _ _ _ are (c.wish_of.ensures ∙ c.in-Mixed.is) c.requires.choices in
    omega (arith, both.count, c.lay_in-in-Mixed.ensures.count, c.lay_in.ensures.count, c.begin_over-y.ensures.count)
