-- The word that is written back next has a place.
use Rattle.std.proofs.Common.{◌≡◌, arith}
use Rattle.mt_machine.specs.Memory.{word_address}
use Rattle.mt_laws.specs.Sound.{WriteBacksHavePlaces}
use Rattle.mt_laws.proofs.Words.BusLaws.{fit_at, fits_placed}
use Rattle.mt_laws.proofs.Words.LineLaws.{fits, word_placed}
use Rattle.mt_laws.proofs.Words.LineLists.{found_passes}
use Rattle.mt_laws.proofs.Words.Sound.{aligned_all, sound_stands}
use Rattle.mt_laws.proofs.Words.StepLaws.{back_drains}

pub write_backs_have_places : WriteBacksHavePlaces
write_backs_have_places s k p address value sound at is =
    let ws = s.memory.windows in
    let fit = fit_at ws s.processors k p (sound_stands s sound).fit at in
    let first = back_drains p address value fit.lines_apart is in
    let l = first.line in
    let here : word_address l.number first.word ≡ address = first.address_is in
    let low = first.within in
    let placed = fits_placed ws l (found_passes (fits ws) l.number p.lines l fit.lines_fit first.found) in
    let r = word_placed s.memory l.number address (aligned_all ws sound.memory.aligned) placed (omega arith) (omega arith) in
    (r.0, r.1, (let c = sound.memory.counted in let b = r.2 in omega arith))
