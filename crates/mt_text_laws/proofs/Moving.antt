-- Which lines make processors come and go.
use Rattle.std.proofs.Common.{◌≡◌, true, refl, sym, subst, inl, inr}
use Rattle.std.specs.Prelude.{◌↔◌, ◌⊎◌}
use Rattle.mt_script.specs.Situation.{Situation}
use Rattle.mt_script.specs.Accept.{accepted}
use Rattle.mt_script.specs.declared.command.Command.{Command}
use Rattle.mt_script.specs.declared.command.Command.TheVariants as command
use Rattle.mt_script.specs.declared.command.Section.TheVariants.{End}
use Rattle.mt_script.specs.declared.command.Newcomer.{Newcomer}

abbrev Moves : Situation → Command → Type 0
Moves now c = (now.moving ≡ true) ⊎ (((n : Newcomer) × (c ≡ command.Newcomer n)) ⊎ (c ≡ command.Retire))

moved_by : (now : Situation) (c : Command) → (accepted now c).moving ≡ true → Moves now c
moved_by now (command.Newcomer n) is = inr (inl (n, refl))
moved_by now command.Retire is = inr (inr refl)
moved_by now (command.Section End) is = inl is
moved_by now other is = inl is

still_moving : (now : Situation) (c : Command) → now.moving ≡ true → (accepted now c).moving ≡ true
still_moving now (command.Newcomer n) was = refl
still_moving now command.Retire was = refl
still_moving now (command.Section End) was = was
still_moving now other was = was

moving_then : (now : Situation) (c : Command) → Moves now c → (accepted now c).moving ≡ true
moving_then now c (inl was) = still_moving now c was
moving_then now c (inr (inl (n, comes))) = subst (λ (c : Command). (accepted now c).moving ≡ true) (sym comes) refl
moving_then now c (inr (inr retires)) = subst (λ (c : Command). (accepted now c).moving ≡ true) (sym retires) refl

pub moves_exactly : (now : Situation) (c : Command) → ((accepted now c).moving ≡ true) ↔ Moves now c
moves_exactly now c = (moved_by now c, moving_then now c)
