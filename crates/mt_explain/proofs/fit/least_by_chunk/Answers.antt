use Rattle.std.proofs.Common.{◌≡◌, ◌^◌, ◌+◌, ℕ, slice_index, slice_set, sym, subst, inl, inr, arith}
use Rattle.std.proofs.Math.ListN.{length-set}
use Rattle.std.proofs.lemmas.Bool.{cases_lt}
use Rattle.std.proofs.lemmas.List.{get_or-set_other, get_or-set_same}
use Rattle.mt_explain.specs.Fit.{IsNeeded}
use Rattle.mt_explain.proofs.fit.least_by_chunk.Goals as goal

pub loop-n-preserved : goal.loop-n-preserved
loop-n-preserved c =
    let f = c.args.f.now in
    let n = c.loop-n.n in
    let before = c.loop-n.least in
    let value = c.in_ok-least.field-0 in
    let inv = c.loop-n.invariant in
    let AtChunk : ℕ → Type 0 = λ chunk. IsNeeded f chunk value in
    let here = subst AtChunk c.chunk_bytes.ensures c.in_ok-least.ensures.ok in
    record {
      room = simp length-set inv.room;
      found = λ k below. elim (cases_lt k n) [
        | inl earlier ↦
            let P : ℕ → Type 0 = λ v. IsNeeded f (2 ^ (12 + k)) v in
            subst P (sym (get_or-set_other before n k value 0 (λ same. absurd (omega (arith, earlier, same))))) (inv.found k earlier)
        | inr later ↦
            let same : n ≡ k = omega (arith, below, later) in
            let P : ℕ → Type 0 = λ v. IsNeeded f (2 ^ (12 + n)) v in
            let Q : ℕ → Type 0 = λ j. IsNeeded f (2 ^ (12 + j)) (slice_index (slice_set before n value) j) in
            subst Q same (subst P (sym (get_or-set_same before n value 0 (omega (arith, inv.room, c.loop-n-test.true, c.loop-n.auto.n-end)))) here)
      ];
    }
