use Rattle.std.proofs.Common.{◌≡◌, ◌∙◌, ◌+◌, ◌++◌, ℕ, List, [], Option, Some, None, MatchOption, Bor, ap, length, replicate, sym, subst, arith}
use Rattle.std.proofs.lemmas.List.{append-nil, take-replicate}
use Rattle.std.specs.Option.{unwrap_or}
use Rattle.mt_rendezvous.specs.declared.view.Key.{Key}
use Rattle.mt_rendezvous.specs.Station.{Begins, start_of}
use Rattle.mt_rendezvous.specs.Calls.{gathered, opening_words}
use Rattle.mt_rendezvous.proofs.RootSteps.{begins, opens_of}
use Rattle.mt_rendezvous.proofs.crew.memory.open.Goals as goal

-- zeros alone serve memory without words
lent_or : (n : ℕ) (ws : List ℕ) (o : Option (Bor (List ℕ))) (d : Bor (List ℕ)) → MatchOption o (ws ≡ []) (λ s. s.now ≡ replicate n 0 ++ ws) → d.now ≡ replicate n 0
    → (unwrap_or o d).now ≡ replicate n 0 ++ ws
lent_or n ws None d none zeros = zeros ∙ sym (append-nil (replicate n 0)) ∙ ap (λ l. replicate n 0 ++ l) (sym none)
lent_or n ws (Some s) d some zeros = some

pub of_words-requires : goal.of_words-requires
of_words-requires c =
    let key : Key = record { cpus = c.of.result; ram = c.of-2.result; goal = c.of-3.result } in
    let same : start_of key ≡ gathered c.args.cpus.now.items c.args.ram.now c.args.goal.now = (λ i. record { cpus = (c.of.ensures i).items; ram = c.of-2.ensures i; goal = c.of-3.ensures i }) in
    let n = c.len-count.result in
    let count : n ≡ length key.cpus.value.items = c.len-count.ensures ∙ c.args.cpus.now.ok.0 ∙ ap (λ x. length x.items) (sym c.of.ensures) in
    let some = c.requires.some in
    let few = c.requires.few in
    let m = c.len-count.ensures in
    let words : c.unwrap_or-words.result.now ≡ opening_words n key.ram.value.words =
    ap (λ (b : Bor (List ℕ)). b.now) c.unwrap_or-words.ensures
    ∙ lent_or (n + 2) c.args.ram.now.words c.behind_zeros.result _ c.behind_zeros.ensures (take-replicate (n + 2) 18 0 (omega arith))
    ∙ ap (λ m. opening_words n m.words) (sym c.of-2.ensures) in
    begins key c.unwrap_or-words.result.now (subst Begins (sym same) c.requires.begins) (omega arith) (omega arith) (opens_of key n c.unwrap_or-words.result.now count words)
