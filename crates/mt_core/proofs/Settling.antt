-- What the laws say from a start on holds from each state that arises.
use Rattle.std.proofs.Common.{◌≡◌, ◌∙◌, ap, sym, subst, refl, ℕ, ◌+◌, List, [], get_or, Some}
use Rattle.std.proofs.lemmas.Option.{slice_get-get_or}
use Rattle.mt_machine.specs.declared.event.Event.{Event}
use Rattle.mt_machine.specs.declared.event.Event.TheVariants.{Release}
use Rattle.mt_machine.specs.Memory.{Window}
use Rattle.mt_machine.specs.System.{System}
use Rattle.mt_machine.specs.Machine.{Machine, Order, Steps, due_at, next, run, step}
use Rattle.mt_machine.specs.Update.{IsSettled}
use Rattle.mt_laws.specs.Barriers.{IsAt}
use Rattle.mt_laws.proofs.Barrier.Acting.{no_buffers}
use Rattle.mt_laws.proofs.Clearing.Late.{nothing_older_in}
use Rattle.mt_laws.proofs.Registers.Quiet.{quiet_of}
use Rattle.mt_laws.proofs.Registers.Settled.{files_in}
use Rattle.mt_laws.proofs.Updates.Held.{held_of}
use Rattle.mt_laws.proofs.Words.Sound.{aligned_all}
use Rattle.mt_core.specs.Arises.{Arises}
use Rattle.mt_core.specs.Headline.{HeldFromFirstRelease, IsQuietWithoutOrder, NoBuffersWhereOnePasses, SettledFromRelease}
use Rattle.mt_core.specs.Steps.{under_way}
use Rattle.mt_core.specs.declared.stepped.Stepped.TheVariants.{Did}
use Rattle.mt_core.proofs.Stepping.{is_sound, stands, shapes}

pub settled_from_release : SettledFromRelease
settled_from_release m o k since a is enabled more quiet =
    λ i d within.
    let last : Machine = run (next m (Steps k Release)) since in
    let p = get_or last.system.processors i d in
    let at : IsAt last i p = slice_get-get_or last.system.processors i d within in
    let st = (stands a).1 in
    let held = nothing_older_in m o k since m.order refl is st.kept enabled more quiet i p at in
    record {
      file = files_in m o k since m.order is st.kept st.filed enabled more quiet i p at;
      lines = held.lines;
      buffers = held.buffers;
      entries = held.entries;
    }

-- the step that released
did_settle : (s : System) (o : Order) (k : ℕ) (e : Event) → Arises (under_way o s) → due_at (under_way o s) k ≡ Some e → Did e ≡ Did Release → IsSettled (step o.goal e k s) (o.from_era + 1) o.goal
did_settle s o k e a due is =
    let release : e ≡ Release = cc in
    let enabled : due_at (under_way o s) k ≡ Some Release = due ∙ ap Some release in
    subst (λ (v : Event). IsSettled (step o.goal v k s) (o.from_era + 1) o.goal) (sym release)
    (settled_from_release (under_way o s) o k [] a refl enabled tt refl)

pub settled_by : (m : Machine) (s t : System) (o : Order) (k : ℕ) (e : Event) → Arises (under_way o s) → m.order ≡ Some o → due_at (under_way o s) k ≡ Some e → t ≡ step o.goal e k s
    → (x : Order) → Did e ≡ Did Release → m.order ≡ Some x → IsSettled t (x.from_era + 1) x.goal
settled_by m s t o k e a was due stepped x is at =
    let same : Some o ≡ Some x = sym was ∙ at in
    let order : o ≡ x = cc in
    subst (λ (y : Order). IsSettled t (y.from_era + 1) y.goal) order
    (subst (λ (u : System). IsSettled u (o.from_era + 1) o.goal) (sym stepped) (did_settle s o k e a due is))

pub held_from_first_release : HeldFromFirstRelease
held_from_first_release p r o since a first enabled =
    let ws : List Window = p.system.memory.windows in
    let st = stands a in
    held_of ws (aligned_all ws st.0.aligned) p r o since st.1.agrees st.1.kept first enabled

pub no_buffers_where_one_passes : NoBuffersWhereOnePasses
no_buffers_where_one_passes p k a enabled = no_buffers p k (stands a).1.kept enabled

-- ---- quiet

pub is_quiet_without_order : IsQuietWithoutOrder
is_quiet_without_order m a none =
    let shape = shapes a in
    quiet_of shape.0 m (is_sound m a) (stands a).1.kept.0 shape.1 none
