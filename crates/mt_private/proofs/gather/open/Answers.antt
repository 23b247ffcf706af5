use Rattle.std.proofs.Common.{◌≡◌, ◌∙◌, ap, refl, sym, subst, arith, ℕ, zero, suc, ◌+◌, List, length, get_or, replicate, take}
use Rattle.std.proofs.lemmas.List.{length-replicate, take-replicate}
use Rattle.mt_rendezvous.specs.declared.view.Key.{Key}
use Rattle.mt_rendezvous.specs.Station.{start_of}
use Rattle.mt_rendezvous.specs.Calls.{gathered}
use Rattle.mt_private.specs.Residents.{Opens}
use Rattle.mt_private.proofs.Residents.Opened.{opened}
use Rattle.mt_private.proofs.gather.open.Goals as goal

-- each of these words is 0, and so is what is past them
zeros : (n i : ℕ) → ◌≡◌ {A = ℕ} (get_or (replicate n 0) i 0) 0
zeros zero i = refl
zeros (suc n) zero = refl
zeros (suc n) (suc i) = zeros n i

pub of_words-requires : goal.of_words-requires
of_words-requires c =
    let key : Key = record { cpus = c.of.result; ram = c.of-2.result; goal = c.of-3.result } in
    let same : start_of key ≡ gathered c.args.cpus.now.items c.args.ram.now c.args.goal.now = (λ i. record { cpus = (c.of.ensures i).items; ram = c.of-2.ensures i; goal = c.of-3.ensures i }) in
    let n = c.len-count.result in
    let at = c.len-count.ensures in
    let size = c.args.cpus.now.ok.0 in
    let few = c.requires.opens.few in
    let count : n ≡ length key.cpus.value.items = at ∙ size ∙ ap (λ x. length x.items) (sym c.of.ensures) in
    let words : take (n + 2) (replicate 18 0) ≡ replicate (n + 2) 0 = take-replicate (n + 2) 18 0 (omega arith) in
    opened key (take (n + 2) (replicate 18 0)) (subst Opens (sym same) c.requires.opens)
    (ap (λ (l : List ℕ). length l) words ∙ length-replicate (n + 2) 0 ∙ ap (λ (m : ℕ). m + 2) count)
    (λ i. ap (λ (l : List ℕ). get_or l i 0) words ∙ zeros (n + 2) i)
