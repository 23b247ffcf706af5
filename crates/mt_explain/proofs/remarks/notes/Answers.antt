use Rattle.std.proofs.Common.{◌++◌, ◌∷◌, [], map}
use Rattle.std.specs.List.{range_with_len}
use Rattle.mt_regs.specs.RegisterFile.{pair_count}
use Rattle.mt_explain.specs.declared.note.Note.TheVariants.{Off, FixedOff, LocalApic, IoApic, IdlePair, OtherWidth}
use Rattle.mt_explain.specs.Notes.{is_note, widths}
use Rattle.mt_explain.proofs.Noted.{with_more}
use Rattle.mt_explain.proofs.remarks.notes.Goals as goal

pub returns : goal.returns
returns c =
    let p = is_note c.args.f.now in
    let off = with_more p [] (Off ∷ []) c.new-list.result.items _ c.new-list.ensures.items c.in_ok-add.ensures in
    let fixed = with_more p (Off ∷ []) (FixedOff ∷ []) _ _ off c.in_ok-add-2.ensures in
    let local = with_more p (Off ∷ FixedOff ∷ []) (LocalApic ∷ []) _ _ fixed c.in_ok-add-3.ensures in
    let apics = with_more p (Off ∷ FixedOff ∷ LocalApic ∷ []) (IoApic ∷ []) _ _ local c.in_ok-add-4.ensures in
    let four = Off ∷ FixedOff ∷ LocalApic ∷ IoApic ∷ [] in
    let pairs = map IdlePair (range_with_len 0 (pair_count c.args.f.now)) in
    let idle = with_more p four pairs _ _ apics c.in_ok-add_pairs.ensures in
    with_more p (four ++ pairs) (map OtherWidth widths) _ _ idle c.in_ok-add_widths.ensures
