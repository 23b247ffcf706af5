use Rattle.std.proofs.Common.{ℕ, length, arith, length-append, length-drop, length-take}
use Rattle.mt_web.proofs.Pieces.{piece_and_rest, whole_fits, whole_left}
use Rattle.mt_web.proofs.ports.ByteSourceSource.take.Goals as goal

pub returns-clause-bytes : goal.returns-clause-bytes
returns-clause-bytes c =
    let bytes = c.args.self.now.bytes.now in (
      piece_and_rest bytes _ _ _ _ c.copy_from_slice.ensures.after (whole_fits bytes c.args.self.now.place (length c.args.into.now) _ c.min-count.ensures),
      λ none room. whole_left bytes c.args.self.now.place (length c.args.into.now) _ c.min-count.ensures
          (omega (arith, room, c.copy_from_slice.ensures.len, length-take {A = ℕ}, length-append {A = ℕ}, length-drop {A = ℕ})) none,
    )
