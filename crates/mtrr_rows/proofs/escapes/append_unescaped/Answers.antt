use Rattle.std.proofs.Common.{◌++◌, ◌∷◌, [], slice_index_or, take, sym, ap, ◌∙◌}
use Rattle.std.proofs.lemmas.List.{append_assoc, take_more}
use Rattle.mtrr_rows.proofs.escapes.append_unescaped.Goals as goal

-- a byte that is no backslash is added behind those before it
pub loop-byte-preserved : goal.loop-byte-preserved
loop-byte-preserved c = λ all.
    let old = c.args.bytes.now.items in
    let text = c.args.text.now in
    let i = c.loop-byte.byte-index in
    let byte = slice_index_or text i 0 in
    let (none, added) = c.loop-byte.invariant all in
    let (still, one_more) = c.in_ok-escape.ensures.plain none (all i 0 c.loop-byte-test.true) in
    (still, one_more ∙ ap (λ l. l ++ byte ∷ []) added ∙ append_assoc old (take i text) (byte ∷ []) ∙ ap (λ l. old ++ l) (sym (take_more text i 0 c.loop-byte-test.true)))
