-- A broadcast state is one from which a station can be gathered.
use Rattle.std.proofs.Common.{◌≡◌, ◌<◌, ℕ, List, [], ◌∷◌, sym, refl, ◌∙◌, arith}
use Rattle.std.specs.List.{All}
use Rattle.mt_machine.specs.System.{Processor}
use Rattle.mt_machine.specs.Machine.{common_era}
use Rattle.mt_rendezvous.specs.Laws.{BroadcastBegins}

eras : (ps : List Processor) (n : ℕ) → All (λ p. p.era ≡ n) ps → All (λ p. p.era ≡ common_era ps) ps
eras [] n all k d within = absurd (omega arith)
eras (p ∷ ps) n all k d within = all k d within ∙ sym (all 0 p (omega arith))

room : (ps : List Processor) (n top : ℕ) → All (λ p. p.era ≡ n) ps → n < top → common_era ps < top
room [] n top all low = omega arith
room (p ∷ ps) n top all low = let e = all 0 p (omega arith) in omega arith

pub broadcast_begins : BroadcastBegins
broadcast_begins m o b low = record {
  broadcasts = record {
    sound = b.sound;
    order = refl;
    pending = refl;
    taken = b.taken;
    no_buffers = b.no_buffers;
    one_era = eras m.system.processors o.from_era b.one_era;
    goal_file = b.goal_file;
    goal_accepted = b.goal_accepted;
    fits = b.fits;
  };
  room = room m.system.processors o.from_era 18446744073709551615 b.one_era low;
}
