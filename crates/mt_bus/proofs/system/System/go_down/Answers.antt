use Rattle.std.proofs.Common.{◌≡◌, ◌∙◌, ℕ, ◌-◌, List, ap, length, rules, subst, sym, take}
use Rattle.mt_types.specs.Tables.{TypeTable}
use Rattle.mt_machine.specs.System.{IsSound, System}
use Rattle.mt_machine.specs.Bus.{drain}
use Rattle.mt_machine.specs.ComingAndGoing.{gone, last_number, taken_away}
use Rattle.mt_bus.specs.Tables.{AreTablesOf}
use Rattle.mt_bus.proofs.Newcomers.{go_keeps}
use Rattle.mt_bus.proofs.system.System.go_down.Goals as goal

pub invariant_of-self : goal.invariant_of-self
invariant_of-self c =
    let s : System = c.self.inside.bus in
    let k : ℕ = length c.cpus.result.now - 1 in
    let number : k ≡ last_number s = ap (λ ps. length ps - 1) (c.cpus.ensures ∙ ap (λ (x : System). x.processors) (sym c.self.view_is)) in
    let is : c.take_away.new.self ≡ gone s = c.take_away.ensures ∙ ap (λ n. taken_away n (drain n s)) number in
    subst (λ (v : System × List TypeTable). IsSound v.0 × AreTablesOf v.0.processors v.1) (λ i. (sym is i, sym c.truncate.ensures.items i))
    (subst (λ (n : ℕ). IsSound (gone s) × AreTablesOf (gone s).processors (take n c.self.inside.tables.items)) (sym number)
    (go_keeps s c.self.inside.tables.items (search rules) c.self.invariant.0 c.self.invariant.1))
