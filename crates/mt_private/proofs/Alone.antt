-- A machine of one processor that takes part in the update of a yard.
use Rattle.std.proofs.Common.{◌≡◌, ◌∙◌, ap, sym, refl, subst, arith, ℕ, zero, suc, ◌+◌, Bool, true, false, not, ◌&&◌, ◌||◌, List, [], ◌∷◌, length, map, Option, None, Some, eq-eqb, ⊎_elim}
use Rattle.std.specs.Prelude.{if◌then◌else◌, nat_lt, slice_get, slice_set}
use Rattle.std.specs.List.{All, fold, list_any}
use Rattle.std.specs.Option.{option_map_or}
use Rattle.std.proofs.lemmas.Bool.{le-ltb, lt-ltb}
use Rattle.mt_regs.specs.RegisterFile.{RegisterFile}
use Rattle.mt_machine.specs.declared.phase.Phase.{Phase}
use Rattle.mt_machine.specs.declared.phase.Phase.TheVariants.{Arrived, Arrived2, Running}
use Rattle.mt_machine.specs.declared.event.Event.{Event}
use Rattle.mt_machine.specs.declared.event.Event.TheVariants.{Pass, Release, Take}
use Rattle.mt_machine.specs.declared.go.Go.{Go}
use Rattle.mt_machine.specs.declared.go.Go.TheVariants.{Cancelled, Given, Pending}
use Rattle.mt_machine.specs.declared.op.Op.{Op}
use Rattle.mt_machine.specs.Bus.{drain}
use Rattle.mt_machine.specs.System.{Processor, System, change}
use Rattle.mt_machine.specs.Access.{access}
use Rattle.mt_machine.specs.Machine.{Calls, Cancels, Goes, Machine, Steps, common_era, due, has_passed, has_released, is_arrived, is_arrived_again, is_cancelled, is_waiting_to_pass, next, own_step, remaining_order, step, stepped}
use Rattle.mt_core.specs.Rounds.{Rounds, again, ascending, ended, with_go_given}
use Rattle.mt_core.specs.Steps.{step_after, under_way}
use Rattle.mt_laws.proofs.Barrier.Barriers.{step_stages}
use Rattle.mt_laws.proofs.Barrier.Stages.{Stage, access_stages, drain_stages, stage_of}
use Rattle.mt_rendezvous.specs.declared.view.Start.{Start}
use Rattle.mt_rendezvous.specs.Station.{order_of}
use Rattle.mt_rendezvous.proofs.Steps.{due_pass, due_release}
use Rattle.mt_private.specs.OneByOne.{at_rest}
use Rattle.mt_private.specs.YardCalls.{AreIn, IsDrained, IsLeft, in_phase}

-- ---- one processor

-- a list with one stage has one processor
pub record IsOne (ps : List Processor) (x : Stage) : Type 0 where
  pub cpu : Processor
  pub alone : ps ≡ cpu ∷ []
  pub stage : stage_of cpu ≡ x

pub one_of : (ps : List Processor) (x : Stage) → map stage_of ps ≡ x ∷ [] → IsOne ps x
one_of [] x same = absurd (cc)
one_of (p ∷ []) x same = record { cpu = p; alone = refl; stage = first (stage_of p) x same }
  where
    first : (a b : Stage) → a ∷ [] ≡ b ∷ [] → a ≡ b
    first a b e = cc
one_of (p ∷ q ∷ ps) x same = absurd (let e : suc (suc (length (map stage_of ps))) ≡ 1 = ap (λ (l : List Stage). length l) same in omega arith)

-- its stage after a step, and after an access
pub one_step : (goal : RegisterFile) (e : Event) (s : System) (p : Processor) → s.processors ≡ p ∷ [] → IsOne (step goal e 0 s).processors (stage_of (own_step goal e p))
one_step goal e s p alone =
    one_of (step goal e 0 s).processors (stage_of (own_step goal e p))
    (step_stages goal e 0 s p (ap (λ (ps : List Processor). slice_get ps 0) alone) ∙ ap (λ (ps : List Processor). slice_set (map stage_of ps) 0 (stage_of (own_step goal e p))) alone)

pub one_access : (op : Op) (s : System) (p : Processor) → s.processors ≡ p ∷ [] → IsOne (access s 0 op).after.processors (stage_of p)
one_access op s p alone = one_of (access s 0 op).after.processors (stage_of p) (access_stages s 0 op ∙ ap (map stage_of) alone)

pub its_phase : (ph : Phase) (s : System) (p : Processor) → s.processors ≡ p ∷ [] → AreIn ph s → p.phase ≡ ph
its_phase ph s p alone here = first p.phase ph (sym (ap (map (λ (q : Processor). q.phase)) alone) ∙ here)
  where
    first : (a b : Phase) → a ∷ [] ≡ b ∷ [] → a ≡ b
    first a b e = cc

pub in_its_phase : (ph : Phase) (s : System) (p : Processor) → s.processors ≡ p ∷ [] → p.phase ≡ ph → AreIn ph s
in_its_phase ph s p alone is = ap (map (λ (q : Processor). q.phase)) alone ∙ ap (λ (x : Phase). x ∷ []) is

pub one_all : (P : Processor → Type 0) (ps : List Processor) (p : Processor) → ps ≡ p ∷ [] → P p → All P ps
one_all P ps p alone is = subst (All P) (sym alone) one
  where
    one : All P (p ∷ [])
    one zero d within = is
    one (suc k) d within = absurd (omega arith)

-- ---- its machine

module _ (t : Start) where
  -- the order stands while its era is the yard's
  pub order_stays : (go : Go) (s : System) (p : Processor) → s.processors ≡ p ∷ [] → p.era ≡ common_era t.cpus → is_cancelled go ≡ false → stepped (order_of t go) s ≡ under_way (order_of t go) s
  order_stays go s p alone era on =
      let low : nat_lt (common_era t.cpus) p.era ≡ false = le-ltb (common_era t.cpus) p.era (omega arith) in
      ap (λ (ps : List Processor). stepped_with ps) alone
      ∙ (λ i. record { system = s; order = if (low i && true) || (on i && not (list_any (λ q. is_waiting_to_pass q.phase) (p ∷ []))) then None else Some (order_of t go) })
    where
      stepped_with : List Processor → Machine
      stepped_with ps = record { system = s; order = (stepped (order_of t go) (record { processors = ps; memory = s.memory })).order }

  -- its next event, done
  pub does_due : (go : Go) (s : System) (p : Processor) (e : Event) → s.processors ≡ p ∷ [] → due (order_of t go) (p ∷ []) p p.phase ≡ Some e → step_after (under_way (order_of t go) s) 0 ≡ stepped (order_of t go) (step t.goal e 0 s)
  does_due go s p e alone is =
      ap (λ (x : Option Event). option_map_or (λ v. next (under_way (order_of t go) s) (Steps 0 v)) x (under_way (order_of t go) s))
      (ap (λ (ps : List Processor). option_map_or (λ q. due (order_of t go) ps q q.phase) (slice_get ps 0) None) alone ∙ is)

  -- a step is a round of it
  pub round_first : (s : System) (p : Processor) (n : Machine) → s.processors ≡ p ∷ [] → Rounds (step_after (under_way (order_of t Given) s) 0) n → Rounds (under_way (order_of t Given) s) n
  round_first s p n alone later =
      again refl (subst (λ (ks : List ℕ). Rounds (fold step_after (under_way (order_of t Given) s) ks) n) (ap (λ (ps : List Processor). ascending (length ps)) (sym alone)) later)

  -- so is one after which its update goes on
  pub round_on : (s : System) (p q : Processor) (e : Event) (n : Machine) → s.processors ≡ p ∷ [] → due (order_of t Given) (p ∷ []) p p.phase ≡ Some e
      → (step t.goal e 0 s).processors ≡ q ∷ [] → q.era ≡ common_era t.cpus → Rounds (under_way (order_of t Given) (step t.goal e 0 s)) n → Rounds (under_way (order_of t Given) s) n
  round_on s p q e n alone is later era rounds =
      round_first s p n alone
      (subst (λ (m : Machine). Rounds m n) (sym (does_due Given s p e alone is ∙ order_stays Given (step t.goal e 0 s) q later era refl)) rounds)

  -- ---- an event by which its update goes on

  pub record Onward (go : Go) (s : System) (p : Processor) (e : Event) (new : Machine) : Type 0 where
    pub q : IsOne (step t.goal e 0 s).processors (stage_of (own_step t.goal e p))
    pub era : q.cpu.era ≡ common_era t.cpus
    pub is : new ≡ under_way (order_of t go) (step t.goal e 0 s)

  pub onward : (go : Go) (s : System) (p : Processor) (e : Event) (core new : Machine) → core ≡ under_way (order_of t go) s → new ≡ step_after core 0 → s.processors ≡ p ∷ [] → p.era ≡ common_era t.cpus
      → due (order_of t go) (p ∷ []) p p.phase ≡ Some e → (own_step t.goal e p).era ≡ p.era → is_cancelled go ≡ false → Onward go s p e new
  onward go s p e core new same moves alone era is keeps on =
      let q = one_step t.goal e s p alone in
      let later : q.cpu.era ≡ common_era t.cpus = ap (λ (x : Stage). x.1) q.stage ∙ keeps ∙ era in
      record {
        q = q;
        era = later;
        is = moves ∙ ap (λ (m : Machine). step_after m 0) same ∙ does_due go s p e alone is ∙ order_stays go (step t.goal e 0 s) q.cpu q.alone later on;
      }

  -- the call
  pub called : (core : Machine) (goal : RegisterFile) (p : Processor) → core.order ≡ None → core.system.processors ≡ p ∷ [] → p.era ≡ common_era t.cpus → goal ≡ t.goal → next core (Calls goal) ≡ under_way (order_of t Pending) core.system
  called core goal p none alone era same =
      let from : common_era core.system.processors ≡ common_era t.cpus = ap common_era alone ∙ era in
      λ i. record { system = core.system; order = Some (record { goal = same i; from_era = from i; go = Pending }) }

  -- with the go given after it
  pub called_given : (s : System) (p : Processor) → s.processors ≡ p ∷ [] → p.era ≡ common_era t.cpus → with_go_given (next (at_rest s) (Calls t.goal)) ≡ under_way (order_of t Given) s
  called_given s p alone era = ap with_go_given (called (at_rest s) t.goal p refl alone era refl) ∙ order_stays Given s p alone era refl

  -- what the coordinator says
  pub given : (core : Machine) (s : System) (p : Processor) → core ≡ under_way (order_of t Pending) s → s.processors ≡ p ∷ [] → p.era ≡ common_era t.cpus → next core Goes ≡ under_way (order_of t Given) s
  given core s p same alone era = ap (λ (m : Machine). next m Goes) same ∙ order_stays Given s p alone era refl

  pub cancelled : (core : Machine) (s : System) (p : Processor) → core ≡ under_way (order_of t Pending) s → s.processors ≡ p ∷ [] → p.era ≡ common_era t.cpus → is_waiting_to_pass p.phase ≡ true → next core Cancels ≡ under_way (order_of t Cancelled) s
  cancelled core s p same alone era waits =
      let low : nat_lt (common_era t.cpus) p.era ≡ false = le-ltb (common_era t.cpus) p.era (omega arith) in
      ap (λ (m : Machine). next m Cancels) same
      ∙ ap (λ (ps : List Processor). (record { system = s; order = remaining_order (order_of t Cancelled) ps })) alone
      ∙ (λ i. record { system = s; order = if (low i && true) || (true && not (waits i || false)) then None else Some (order_of t Cancelled) })

  -- ---- which event is due

  pub due_take : (go : Go) (p : Processor) → p.phase ≡ Running → p.era ≡ common_era t.cpus → is_cancelled go ≡ false → due (order_of t go) (p ∷ []) p p.phase ≡ Some Take
  due_take go p runs era on =
      ap (due (order_of t go) (p ∷ []) p) runs
      ∙ (λ i. if (eq-eqb p.era (common_era t.cpus) era i) && not (on i) then Some Take else None)

  pub passes_alone : (p : Processor) → p.phase ≡ Arrived → due (order_of t Given) (p ∷ []) p p.phase ≡ Some Pass
  passes_alone p arrived =
      due_pass t Given (p ∷ []) p arrived refl
      (ap (λ (b : Bool). (b || has_passed (order_of t Given) p) && true) (ap is_arrived arrived))

  pub released_alone : (p : Processor) → p.phase ≡ Arrived2 → due (order_of t Given) (p ∷ []) p p.phase ≡ Some Release
  released_alone p waits =
      due_release t Given (p ∷ []) p waits
      (ap (λ (b : Bool). (b || has_released (order_of t Given) p) && true) (ap is_arrived_again waits))

  -- ---- the end

  -- the release ends its update, and that is where the rounds end
  pub last_round : (core new : Machine) (s : System) (p : Processor) → core ≡ under_way (order_of t Given) s → new ≡ step_after core 0 → s.processors ≡ p ∷ [] → p.phase ≡ Arrived2 → p.era ≡ common_era t.cpus → Rounds (under_way (order_of t Given) s) new
  last_round core new s p same moves alone waits era =
      let is : new ≡ step_after (under_way (order_of t Given) s) 0 = moves ∙ ap (λ (m : Machine). step_after m 0) same in
      let q = one_step t.goal Release s p alone in
      let later : q.cpu.era ≡ p.era + 1 = ap (λ (x : Stage). x.1) q.stage in
      let high : nat_lt (common_era t.cpus) q.cpu.era ≡ true = lt-ltb (common_era t.cpus) q.cpu.era (omega arith) in
      let over : (stepped (order_of t Given) (step t.goal Release 0 s)).order ≡ None =
      ap (remaining_order (order_of t Given)) q.alone ∙ (λ i. if (high i && true) || false then None else Some (order_of t Given)) in
      round_first s p new alone
      (subst (λ (m : Machine). Rounds m new) is (ended (ap (λ (m : Machine). m.order) (is ∙ does_due Given s p Release alone (released_alone p waits)) ∙ over)))

-- ---- events that move the phase alone

pub change_one : (f : Processor → Processor) (s : System) (p : Processor) → s.processors ≡ p ∷ [] → change f 0 s ≡ record { processors = f p ∷ []; memory = s.memory }
change_one f s p alone =
    ap (λ (ps : List Processor). option_map_or (λ q. record { processors = slice_set ps 0 (f q); memory = s.memory }) (slice_get ps 0) (record { processors = ps; memory = s.memory })) alone

pub in_phase_one : (ph : Phase) (s : System) (p : Processor) → s.processors ≡ p ∷ [] → change (λ (q : Processor). record q { phase = ph }) 0 s ≡ in_phase ph s
in_phase_one ph s p alone =
    change_one (λ (q : Processor). record q { phase = ph }) s p alone
    ∙ ap (λ (ps : List Processor). record { processors = map (λ (q : Processor). record q { phase = ph }) ps; memory = s.memory }) (sym alone)

pub in_phase_twice : (ph before : Phase) (s : System) → in_phase ph (in_phase before s) ≡ in_phase ph s
in_phase_twice ph before s = λ i. record { processors = twice s.processors i; memory = s.memory }
  where
    twice : (ps : List Processor) → map (λ (q : Processor). record q { phase = ph }) (map (λ (q : Processor). record q { phase = before }) ps) ≡ map (λ (q : Processor). record q { phase = ph }) ps
    twice [] = refl
    twice (p ∷ ps) = λ i. record p { phase = ph } ∷ twice ps i

pub one_drained : (s : System) (p : Processor) → s.processors ≡ p ∷ [] → IsOne (drain 0 s).processors (stage_of p)
one_drained s p alone = one_of (drain 0 s).processors (stage_of p) (drain_stages 0 s ∙ ap (map stage_of) alone)

-- a step that moves the phase of one that has taken
pub taken_on : (ph : Phase) (first own : System) (p : Processor) → own.processors ≡ p ∷ [] → IsDrained first own → change (λ (q : Processor). record q { phase = ph }) 0 own ≡ in_phase ph (drain 0 first)
taken_on ph first own p alone has = in_phase_one ph own p alone ∙ ap (in_phase ph) has.1 ∙ in_phase_twice ph has.0 (drain 0 first)

-- ---- a system whose one processor runs

pub record IsRunner (s : System) : Type 0 where
  pub cpu : Processor
  pub alone : s.processors ≡ cpu ∷ []
  pub runs : cpu.phase ≡ Running

pub runner_of : (s : System) → AreIn Running s → IsRunner s
runner_of s here = one s.processors refl here
  where
    first : (a b : Phase) → a ∷ [] ≡ b ∷ [] → a ≡ b
    first a b e = cc

    one : (ps : List Processor) → s.processors ≡ ps → map (λ (p : Processor). p.phase) ps ≡ Running ∷ [] → IsRunner s
    one [] is h = absurd (cc)
    one (p ∷ []) is h = record { cpu = p; alone = is; runs = first p.phase Running h }
    one (p ∷ q ∷ ps) is h = absurd (let e : suc (suc (length (map (λ (r : Processor). r.phase) ps))) ≡ 1 = ap (λ (l : List Phase). length l) h in omega arith)

-- a processor that left an update runs
running_one : (ps : List Processor) → length (map (λ (p : Processor). record p { phase = Running }) ps) ≡ 1 → map (λ (p : Processor). p.phase) (map (λ (p : Processor). record p { phase = Running }) ps) ≡ Running ∷ []
running_one [] one = absurd (omega arith)
running_one (p ∷ []) one = refl
running_one (p ∷ q ∷ ps) one = absurd (omega arith)

pub left_runs : (first own : System) → length own.processors ≡ 1 → AreIn Running first → IsLeft first own → AreIn Running own
left_runs first own one runs left =
    ⊎_elim
    (λ (e : own ≡ first). subst (AreIn Running) (sym e) runs)
    (λ (e : own ≡ in_phase Running (drain 0 first)).
    subst (AreIn Running) (sym e) (running_one (drain 0 first).processors (sym (ap (λ (s : System). length s.processors) e) ∙ one)))
    left
