-- Each step of a station is one event of its machine, or none.
use Rattle.std.proofs.Common.{◌≡◌, ◌≢◌, ◌≤◌, ℕ, ◌+◌, ◌<◌, [], length, set, sym, refl, ◌∙◌, subst, inl, inr, arith}
use mathlib.Core.Option.{none}
use Rattle.std.specs.Prelude.{Option, Some, None, slice_index}
use Rattle.atomic_table.specs.Table.{keeps, stepped, step}
use Rattle.mt_machine.specs.declared.event.Event.TheVariants.{Arrive, Leave, Pass, Release, SetNoFill}
use Rattle.mt_machine.specs.declared.go.Go.TheVariants.{Given}
use Rattle.mt_machine.specs.Machine.{MachineEvent, Steps}
use Rattle.mt_rendezvous.specs.declared.view.View.{View}
use Rattle.mt_rendezvous.specs.declared.view.Key.{Key}
use Rattle.mt_rendezvous.specs.Station.{Meets, held, order_of}
use Rattle.mt_rendezvous.specs.Plays.{GoesTo, Sat, arrive, arrive_again, does, late, own_event, work, written}
use Rattle.mt_rendezvous.specs.Laws.{ArriveAgainFollows, ArriveFollows, CancelFollows, StationFollows, GoFollows, JoinFollows, PassFollows, ReleaseFollows, SplitFollows, Station, WorkFollows, loaded, raised}
use Rattle.mt_rendezvous.proofs.Local.{due_alone}
use Rattle.mt_rendezvous.proofs.Steps.{Arrival, IsDue, Passing, Releasing, Storing, arrival, arriving_again, moved, moved_shown, passing, phase_stored, releasing, shown_only, unmoved, word_stored}
use Rattle.mt_rendezvous.specs.declared.view.Added.TheVariants.{Never, Once, Twice}
use Rattle.mt_rendezvous.proofs.RootSteps.{cancelling, giving, joining, splitting}

-- the view is the one that the play told
told : (key : Key) (s : Station) (m : Meets key s) (id i n : ℕ) (e : Option MachineEvent) (v : View) (new : Sat) → new.0 ≡ v
    → StationFollows key s (record { words = set s.words i n; homes = s.homes; views = set s.views id v }) m e → StationFollows key s (stepped s i n id new.1 new.0 keeps) m e
told key s m id i n e v new same f = subst (λ (u : View). StationFollows key s (record { words = set s.words i n; homes = s.homes; views = set s.views id u }) m e) (sym same) f

pub split_follows : SplitFollows
split_follows key s m id v h hs at is = splitting key s m id v h hs at is

pub join_follows : JoinFollows
join_follows key s m id other v w h at root apart there is = joining key s m id other v w h at root apart there is

pub go_follows : GoFollows
go_follows key s m id me new a says = told key s m id 0 _ _ _ new says.1 (giving key s m id me.0 a.at a.root a.unsaid).follows

pub cancel_follows : CancelFollows
cancel_follows key s m id me new a says = told key s m id 0 _ _ _ new says.1 (cancelling key s m id me.0 a.at a.root a.unsaid).follows

pub arrive_follows : ArriveFollows
arrive_follows key s m id k c me new p taken says = by_case (arrival key s m id me.0 (held k c Never) p.at p.holds refl taken)
  where
    by_case : Arrival key s m id me.0 (held k c Never)
        → (slice_index s.words 0 < 4294967296 → StationFollows key s (raised s id new 0 1) m (Some (Steps k Arrive))) × (4294967296 ≤ slice_index s.words 0 → StationFollows key s (raised s id new 0 1) m None)
    by_case (inl x) = (
      (λ (below : slice_index s.words 0 < 4294967296). absurd (let above = x.0 in omega arith)),
      (λ above. told key s m id 0 _ _ _ new ((says.4 above).0 ∙ sym (moved me.0 late (held k c Never) p.holds)) x.1.follows),
    )
    by_case (inr x) = (
      (λ below. told key s m id 0 _ _ _ new ((says.3 below).0 ∙ sym (moved me.0 (arrive me.0.start) (held k c Never) p.holds)) x.1.follows),
      (λ (above : 4294967296 ≤ slice_index s.words 0). absurd (let below = x.0 in omega arith)),
    )

pub pass_follows : PassFollows
pass_follows key s m id k c me new p waits says = by_case (passing key s m id me.0 (held k c Once) p.at p.holds refl waits)
  where
    by_case : Passing key s m id me.0 (held k c Once)
        → (slice_index s.words 0 ≡ length me.0.start.cpus + 1 → StationFollows key s (loaded s id new 0) m (Some (Steps k Pass)))
        × (4294967296 ≤ slice_index s.words 0 → StationFollows key s (loaded s id new 0) m (Some (Steps k Leave)))
        × (slice_index s.words 0 < 4294967296 → slice_index s.words 0 ≢ length me.0.start.cpus + 1 → StationFollows key s (loaded s id new 0) m None)
    by_case (inl x) = (
      (λ full. absurd (x.3 full)),
      (λ above. told key s m id 0 _ _ _ new ((says.2 above).0 ∙ sym (moved me.0 (does me.0.start Leave) (held k c Once) p.holds)) x.1.follows),
      (λ (below : slice_index s.words 0 < 4294967296) _. absurd (let above = x.0 in omega arith)),
    )
    by_case (inr (inl x)) = (
      (λ full. told key s m id 0 _ _ _ new ((says.1 full).0 ∙ sym (moved me.0 (does me.0.start Pass) (held k c Once) p.holds)) x.1.follows),
      (λ above. absurd (x.4 above)),
      (λ _ n. absurd (n x.0)),
    )
    by_case (inr (inr x)) = (
      (λ full. absurd (x.1 full)),
      (λ (above : 4294967296 ≤ slice_index s.words 0). absurd (let below = x.0 in omega arith)),
      (λ below n. told key s m id 0 _ _ _ new ((says.3 below n).0 ∙ sym (unmoved me.0 (held k c Once) p.holds)) x.2.follows),
    )

pub work_follows : WorkFollows
work_follows key s m id k c me new p i n local to says = told key s m id i n _ _ new (says.1 ∙ sym (moved me.0 (work me.0.start) (held k c Once) p.holds)) (by_case (written (own_event me.0.start c)) refl to).0.follows
  where
    is_due : IsDue key me (held k c Once) (own_event me.0.start c)
    is_due = record { is = p.holds; here = local; due_is = λ o ps. due_alone o (order_of me.0.start Given) ps [] c SetNoFill c.phase local }

    by_case : (w : Option (ℕ × ℕ)) → written (own_event me.0.start c) ≡ w → GoesTo me.0.start (held k c Once) w (step 0 i n 0 none) → Storing key s m id i n me.0 (held k c Once) (own_event me.0.start c)
    by_case None is to = subst (λ (j : ℕ). Storing key s m id j n me.0 (held k c Once) (own_event me.0.start c)) (sym to.0)
        (phase_stored key id n me (held k c Once) (own_event me.0.start c) is_due is to.1 s m p.at)
    by_case (Some back) is to = subst (λ (j : ℕ). Storing key s m id i j me.0 (held k c Once) (own_event me.0.start c)) (sym to.0)
        (word_stored key id i to.1 back.0 back.1 me (held k c Once) (own_event me.0.start c) is_due is to.2 to.3 s m p.at)

pub arrive_again_follows : ArriveAgainFollows
arrive_again_follows key s m id k c me new p restored says =
    told key s m id 1 _ _ _ new (says.1 ∙ sym (moved me.0 (arrive_again me.0.start) (held k c Once) p.holds)) (arriving_again key s m id me.0 (held k c Once) p.at p.holds refl restored).follows

pub release_follows : ReleaseFollows
release_follows key s m id k c me new p waits says = by_case (releasing key s m id me.0 (held k c Twice) p.at p.holds refl waits)
  where
    by_case : Releasing key s m id me.0 (held k c Twice)
        → (slice_index s.words 1 ≡ length me.0.start.cpus → StationFollows key s (loaded s id new 1) m (Some (Steps k Release)))
        × (slice_index s.words 1 ≢ length me.0.start.cpus → StationFollows key s (loaded s id new 1) m None)
    by_case (inl x) = (
      (λ full. told key s m id 1 _ _ _ new ((says.2 full).0 ∙ sym (moved_shown me.0 (does me.0.start Release) (held k c Twice) (slice_index s.words 1) p.holds)) x.1.follows),
      (λ n. absurd (n x.0)),
    )
    by_case (inr x) = (
      (λ full. absurd (x.0 full)),
      (λ n. told key s m id 1 _ _ _ new ((says.3 n).0 ∙ sym (shown_only me.0 (held k c Twice) (slice_index s.words 1) p.holds)) x.1.follows),
    )
