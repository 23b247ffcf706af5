use Rattle.std.proofs.Common.{◌≡◌, ◌∙◌, ap, sym, subst, arith, ◌+◌, ◌-◌, ℕ, List, [], None, replicate}
use Rattle.std.specs.List.{fold, range_with_len}
use Rattle.mt_machine.specs.Memory.{Window}
use Rattle.mt_machine.specs.Machine.{Machine}
use Rattle.mt_machine.specs.Start.{start_machine}
use Rattle.mt_core.proofs.Progress.{range_more}
use Rattle.mt_ram.specs.Windows.{refusal}
use Rattle.mt_cli.specs.Measured.{IsSetUp, file_of, measured_machine, own_window, with_own}
use Rattle.mt_cli.proofs.Owning.{EachNamesOwn, none_shared, one_more_page, one_more_window, own_set_up, start_names_none, start_set_up, window_has_room}
use Rattle.mt_cli.proofs.measured.measured_core.Goals as goal

pub loop-k-init : goal.loop-k-init
loop-k-init c =
    let cpus = c.args.cpus in
    record {
      machine =
          ap (λ (m : Machine). fold with_own m (range_with_len 0 (cpus - 0))) c.in-Ok.ensures
          ∙ (let all : cpus - 0 ≡ cpus = omega arith in ap (λ (n : ℕ). fold with_own (start_machine (replicate cpus (file_of 6)) []) (range_with_len 0 n)) all);
      set_up = subst (IsSetUp cpus) (sym c.in-Ok.ensures) (start_set_up cpus);
      windows = ap (λ (m : Machine). m.system.memory.windows) c.in-Ok.ensures;
      own = subst (λ (m : Machine). EachNamesOwn m.system) (sym c.in-Ok.ensures) (start_names_none cpus);
    }

pub add_own-requires-clause-room : goal.add_own-requires-clause-room
add_own-requires-clause-room c =
    subst (λ (ws : List Window). refusal ws (own_window c.loop-k.k) ≡ None) (sym c.loop-k.invariant.windows)
    (window_has_room c.loop-k.k (omega (arith, c.loop-k-test.true, c.requires.few)))

pub loop-k-preserved : goal.loop-k-preserved
loop-k-preserved c =
    let cpus = c.args.cpus in
    let k = c.loop-k.k in
    record {
      machine =
          ap (λ (m : Machine). fold with_own m (range_with_len (k + 1) (cpus - (k + 1)))) c.in-Ok-add_own.ensures.added
          ∙ sym (ap (fold with_own c.loop-k.core) (range_more k cpus c.loop-k-test.true)) ∙ c.loop-k.invariant.machine;
      set_up = subst (IsSetUp cpus) (sym c.in-Ok-add_own.ensures.added) (own_set_up cpus c.loop-k.core k c.loop-k.invariant.set_up);
      windows = ap (λ (m : Machine). m.system.memory.windows) c.in-Ok-add_own.ensures.added ∙ one_more_window c.loop-k.core k c.loop-k.invariant.windows;
      own = subst (λ (m : Machine). EachNamesOwn m.system) (sym c.in-Ok-add_own.ensures.added) (one_more_page c.loop-k.core k c.loop-k.invariant.own);
    }

pub returns-clause-machine : goal.returns-clause-machine
returns-clause-machine c =
    let none : c.args.cpus - c.loop-k.k ≡ 0 = omega arith in
    subst (λ (n : ℕ). fold with_own c.loop-k.core (range_with_len c.loop-k.k n) ≡ measured_machine c.args.cpus) none c.loop-k.invariant.machine

pub returns-clause-private : goal.returns-clause-private
returns-clause-private c = none_shared c.loop-k.core.system c.loop-k.invariant.own
