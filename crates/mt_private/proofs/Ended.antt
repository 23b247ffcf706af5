-- What the threads of a yard leave.
use Rattle.std.proofs.Common.{◌≡◌, ◌∙◌, ap, sym, refl, subst, arith, ℕ, suc, ◌+◌, ◌-◌, ◌^◌, ◌<◌, ◌≤◌, Bool, true, false, not, ◌&&◌, ◌||◌, List, [], ◌∷◌, length, map, Option, None, Some, inl, ⊎_elim}
use Rattle.std.specs.Prelude.{if◌then◌else◌, slice_get}
use Rattle.std.specs.List.{All, list_all, list_any}
use Rattle.std.specs.Option.{option_map, option_map_or}
use Rattle.std.proofs.lemmas.Bool.{lt-ltb}
use Rattle.std.proofs.lemmas.List.{length-map}
use Rattle.std.proofs.lemmas.Option.{slice_get-map, slice_get_within}
use mathlib.Core.Option.{some}
use lib.ListN.{get_elem?}
use Rattle.mt_regs.specs.RegisterFile.{RegisterFile}
use Rattle.mt_machine.specs.declared.done.Done.{Done}
use Rattle.mt_machine.specs.declared.go.Go.{Go}
use Rattle.mt_machine.specs.declared.go.Go.TheVariants.{Cancelled as Stopped, Given}
use Rattle.mt_machine.specs.declared.op.Op.{Op}
use Rattle.mt_machine.specs.declared.phase.Phase.{Phase}
use Rattle.mt_machine.specs.declared.phase.Phase.TheVariants.{Arrived, Arrived2, Running, Taken}
use Rattle.mt_machine.specs.Memory.{IsMemory}
use Rattle.mt_machine.specs.System.{Processor, System}
use Rattle.mt_machine.specs.Machine.{Calls, FitsGoal, IsEnabled, Machine, Reached, after, at_start, common_era, has_released, is_cancelled, is_over, is_waiting_to_pass}
use Rattle.mt_machine.specs.Start.{HasEraRoom, IsQuiet}
use Rattle.mt_machine.specs.Update.{settled_processor, updated}
use Rattle.mt_core.specs.Rounds.{ascending}
use Rattle.mt_core.proofs.Reaching.{reached_on}
use Rattle.mt_laws.proofs.Barrier.Claims.{all_get, all_of}
use Rattle.mt_laws.proofs.Registers.Quiet.{AllOf, Shape, next_shapes, reached_is_quiet, shape}
use Rattle.mt_rendezvous.specs.declared.view.Added.{Added}
use Rattle.mt_rendezvous.specs.declared.view.Added.TheVariants.{Never, Once, Twice}
use Rattle.mt_rendezvous.specs.declared.view.Start.{Start}
use Rattle.mt_rendezvous.specs.Calls.{PassOf, SeatOf}
use Rattle.mt_rendezvous.specs.Station.{cpu_of, in_second, order_of, rise}
use Rattle.mt_rendezvous.specs.Update.{decided}
use Rattle.mt_private.specs.declared.job.Job.{Job}
use Rattle.mt_private.specs.declared.job.JobAnswers.{JobAnswers}
use Rattle.mt_private.specs.declared.job.Part.TheVariants.{After, Before}
use Rattle.mt_private.specs.declared.view.Resident.{Resident}
use Rattle.mt_private.specs.declared.visiting.Visited.{Visited}
use Rattle.mt_private.specs.declared.visiting.Visited.TheVariants.{Cancelled, Complete}
use Rattle.mt_private.specs.Jobs.{AreOpen, FitsJob, IsOpen, answers_in, ops_in}
use Rattle.mt_private.specs.Left.{AreOwnsOf, YardEnds}
use Rattle.mt_private.specs.OneByOne.{AreOneByOne, OneByOne, at_rest, jobs_one_by_one, ran, ran_each}
use Rattle.mt_private.specs.Own.{own_memory, own_system}
use Rattle.mt_private.specs.Residents.{FitsYard, held_of, pages_at, pages_left, system_of, yard_machine}
use Rattle.mt_private.specs.Visitors.{CameBack, CanGoOn, Returned, own_at, pass_to, stay_at}
use Rattle.mt_private.specs.YardCalls.{Lodges, Stay, VisitEnds, updated_own}
use Rattle.mt_private.specs.YardPlays.{YardSat}
use Rattle.mt_private.proofs.Carried.{its_guest}
use Rattle.mt_private.proofs.Left.{one_by_own}
use Rattle.mt_private.proofs.Lists.{got}
use Rattle.mt_private.proofs.Own.Jobs.{after_update, job_count, job_first, job_last, job_left, job_own, job_owners, owners, whole_count, whole_left, whole_own, whole_owners}
use Rattle.mt_private.proofs.Own.Turns.{AreOwners}
use Rattle.mt_private.proofs.Own.Updated.{updated_alone, updated_left, updated_owners}
use Rattle.mt_private.proofs.Again.{updated_left_own}
use Rattle.mt_private.proofs.Residents.Moves.{left_apart, processor_at}
use Rattle.mt_private.proofs.Residents.Paths.{uncalled_reached}

-- ---- no event changes a width or capabilities

reached_shapes : (v : Shape) {m n : Machine} → Reached m n → AllOf v m.system.processors → AllOf v n.system.processors
reached_shapes v at_start all = all
reached_shapes v (after {t = t} e r enabled) all = next_shapes v e t.system t.order (reached_shapes v r all)

fits_shape : (f : RegisterFile) (q : Processor) → FitsGoal f q → shape q.file ≡ shape f
fits_shape f q h = λ i. (sym h.width i, sym h.capabilities i)

-- ---- how a visit ended

as_complete : (v : Visited) (pass : PassOf YardSat) (stay : Stay) → VisitEnds v pass stay → (pass.me.0.cancel ≡ true → ⊥) → VisitEnds Complete pass stay
as_complete Complete pass stay w no_cancel = w
as_complete Cancelled pass stay w no_cancel = absurd (no_cancel w.1)

pub as_cancelled : (v : Visited) (pass : PassOf YardSat) (stay : Stay) → VisitEnds v pass stay → (Lodges pass stay.last Twice → ⊥) → (v ≡ Cancelled) × VisitEnds Cancelled pass stay
as_cancelled Complete pass stay w not_whole = absurd (not_whole w.0)
as_cancelled Cancelled pass stay w not_whole = (refl, w)

-- where the host cancelled none has added to the second count
none_released : (ph : Phase) → FitsYard Stopped Twice ph → ⊥
none_released Running w =
    ⊎_elim (λ (a : Twice ≡ Never). cc)
    (λ b. ⊎_elim (λ x. let e : Twice ≡ Once = x.0 in cc) (λ y. let e : Stopped ≡ Given = y.1 in cc) b) w
none_released Taken w = ⊎_elim (λ (a : Twice ≡ Never). cc) (λ x. let e : Twice ≡ Once = x.0 in cc) w
none_released Arrived w = let e : Twice ≡ Once = w in cc
none_released Arrived2 w = let e : Stopped ≡ Given = w.1 in cc
none_released other w = let e : Twice ≡ Once = w.0 in cc

-- ---- tests of all processors

all_test : (test : Processor → Bool) (ps : List Processor) → ((k : ℕ) (p : Processor) → slice_get ps k ≡ Some p → test p ≡ true) → list_all test ps ≡ true
all_test test [] each = refl
all_test test (p ∷ ps) each = ap (λ (b : Bool). b && list_all test ps) (each 0 p refl) ∙ all_test test ps (λ k. each (suc k))

no_test : (test : Processor → Bool) (ps : List Processor) → ((k : ℕ) (p : Processor) → slice_get ps k ≡ Some p → test p ≡ false) → list_any test ps ≡ false
no_test test [] each = refl
no_test test (p ∷ ps) each = ap (λ (b : Bool). b || list_any test ps) (each 0 p refl) ∙ no_test test ps (λ k. each (suc k))

or_right : (a b : Bool) → b ≡ true → (a || b) ≡ true
or_right true b h = refl
or_right false b h = h

-- ---- lists

same_at : {X : Type 0} (xs ys : List X) → length xs ≡ length ys → ((k : ℕ) → k < length xs → (x : X) × (slice_get xs k ≡ Some x) × (slice_get ys k ≡ Some x)) → xs ≡ ys
same_at [] [] size each = refl
same_at [] (y ∷ ys) size each = absurd (omega arith)
same_at (x ∷ xs) [] size each = absurd (omega arith)
same_at (x ∷ xs) (y ∷ ys) size each =
    let a = each 0 (omega arith) in
    let head : x ≡ y = (let p : Some x ≡ Some y = a.1 ∙ sym a.2 in cc) in
    let tail = same_at xs ys (omega arith) (λ k low. each (suc k) (omega arith)) in
    λ i. head i ∷ tail i

answers_length : (k : ℕ) (jobs : List (List Op)) (s : System) → length (ran_each k jobs s).answers ≡ length jobs
answers_length k [] s = refl
answers_length k (ops ∷ jobs) s = ap suc (answers_length (k + 1) jobs (ran k ops s).after)

-- the answers before the update, however the visit ended
told_before : (v : Visited) (pass : PassOf YardSat) (stay : Stay) → VisitEnds v pass stay → stay.told.before.items ≡ (ran 0 stay.job.before.items stay.first).answers
told_before Complete pass stay w = w.3
told_before Cancelled pass stay w = w.3

module _ (host : SeatOf YardSat) (jobs : List Job) (owns : List (Option System)) (told : List JobAnswers) (r : Returned host jobs owns told) (size : length jobs ≡ length host.start.cpus) (long : length told ≡ length jobs)
    (s : System) (leaves : YardEnds host.start host.me.0 s) (owned : AreOwnsOf host.start owns s) where
  abbrev t : Start
  t = host.start

  abbrev me : YardSat
  me = host.me

  job_of : (k : ℕ) → k < length t.cpus → (j : Job) × (slice_get jobs k ≡ Some j)
  job_of k low = got jobs k (omega arith)

  told_of : (k : ℕ) → k < length t.cpus → (x : JobAnswers) × (slice_get told k ≡ Some x)
  told_of k low = got told k (omega arith)

  came : (k : ℕ) (low : k < length t.cpus) → CameBack host (job_of k low).0 k owns (told_of k low).0
  came k low = r.each k (job_of k low).0 (told_of k low).0 (job_of k low).1 (told_of k low).1

  its_own : (k : ℕ) (low : k < length t.cpus) → own_system (pages_at t k) k s ≡ (came k low).own
  its_own k low = owned k (came k low).own (came k low).kept

  many : length s.processors ≡ length t.cpus
  many = ap (λ (ps : List Processor). length ps) leaves.yard.resides.stands.processors ∙ length-map (map held_of leaves.all) cpu_of ∙ length-map leaves.all held_of ∙ leaves.yard.resides.size

  -- the seat of the guest that came back, and its stay
  abbrev pass_at : (k : ℕ) → k < length t.cpus → PassOf YardSat
  pass_at k low = pass_to host k (came k low).its (came k low).me

  abbrev its_stay : (k : ℕ) → k < length t.cpus → Stay
  its_stay k low = stay_at t k (job_of k low).0 (came k low).own (told_of k low).0

  -- the resident that came back
  resident_of : (k : ℕ) (low : k < length t.cpus) (added : Added) → (l : Lodges (pass_at k low) (came k low).own added) → (y : Resident) × (get_elem? leaves.all k ≡ some y) × (y.held.added ≡ added)
  resident_of k low added l =
      let y : Resident = its_guest l in
      let a = (came k low).among y l.holds in
      (y, leaves.same a.0 y a.1, refl)

  -- each runs
  runs : (k : ℕ) (p : Processor) → slice_get s.processors k ≡ Some p → p.phase ≡ Running
  runs k p at =
      let low = slice_get_within s.processors k p at in
      let n = many in
      let within : k < length t.cpus = omega arith in
      let alone : p ∷ [] ≡ (came k within).own.processors = sym (ap (λ (x : Option Processor). option_map_or (λ q. q ∷ []) x []) at) ∙ ap (λ (o : System). o.processors) (its_own k within) in
      first p.phase Running (ap (map (λ (q : Processor). q.phase)) alone ∙ (came k within).runs)
    where
      first : (a b : Phase) → a ∷ [] ≡ b ∷ [] → a ≡ b
      first a b e = cc

  -- its era, and the machine once all run
  era_of : (k : ℕ) (low : k < length t.cpus) (added : Added) → Lodges (pass_at k low) (came k low).own added → (p : Processor) → slice_get s.processors k ≡ Some p → p.era ≡ common_era t.cpus + rise (in_second added) Running
  era_of k low added l p at =
      let y = resident_of k low added l in
      let there = processor_at t leaves.all me.0.go s leaves.yard.resides k y.0 y.1 in
      let same : y.0.held.cpu ≡ p = one y.0.held.cpu p (sym there ∙ at) in
      let era = (leaves.yard.resides.fits k y.0 y.1).0.era in
      sym (ap (λ (q : Processor). q.era) same) ∙ era ∙ (λ i. common_era t.cpus + rise (in_second (y.2 i)) ((ap (λ (q : Processor). q.phase) same ∙ runs k p at) i))
    where
      one : (a b : Processor) → Some a ≡ Some b → a ≡ b
      one a b e = cc

  at_rest_where : is_over (order_of t me.0.go) s.processors ≡ true → IsQuiet (at_rest s)
  at_rest_where over =
      let machine : yard_machine t me.0.go s ≡ at_rest s = ap (λ (b : Bool). record { system = s; order = if b then None else Some (order_of t me.0.go) }) over in
      let opens = leaves.yard.resides.opens in
      subst IsQuiet machine
      (reached_is_quiet (at_rest (system_of t)) (yard_machine t me.0.go s) (inl opens.quiet) (reached_on (after (Calls t.goal) at_start opens.enabled) (uncalled_reached leaves.yard.resides.reached)) (ap (λ (m : Machine). m.order) machine))

  -- ---- jobs one by one

  abbrev befores : List (List Op)
  befores = map (ops_in Before) jobs

  abbrev afters : List (List Op)
  afters = map (ops_in After) jobs

  before_size : length befores ≡ length t.cpus
  before_size = length-map jobs (ops_in Before) ∙ size

  after_size : length afters ≡ length t.cpus
  after_size = length-map jobs (ops_in After) ∙ size

  at_before : (k : ℕ) (low : k < length t.cpus) → slice_get befores k ≡ Some (job_of k low).0.before.items
  at_before k low = slice_get-map (ops_in Before) jobs k ∙ ap (option_map (ops_in Before)) (job_of k low).1

  at_after : (k : ℕ) (low : k < length t.cpus) → slice_get afters k ≡ Some (job_of k low).0.after.items
  at_after k low = slice_get-map (ops_in After) jobs k ∙ ap (option_map (ops_in After)) (job_of k low).1

  first_owners : AreOwners (pages_at t) (length t.cpus) (system_of t)
  first_owners = owners t leaves.yard.resides.opens.quiet.sound.memory leaves.yard.resides.opens.unshared

  abbrev one_by : OneByOne
  one_by = jobs_one_by_one (system_of t) t.goal jobs

  pub answers_before : map (answers_in Before) told ≡ one_by.before
  answers_before =
      same_at (map (answers_in Before) told) one_by.before
      (length-map told (answers_in Before) ∙ long ∙ sym (length-map jobs (ops_in Before)) ∙ sym (answers_length 0 befores (system_of t)))
      (λ k within.
      let n = length-map told (answers_in Before) in
      let low : k < length t.cpus = omega arith in
      let c = came k low in (
        answers_in Before (told_of k low).0,
        slice_get-map (answers_in Before) told k ∙ ap (option_map (answers_in Before)) (told_of k low).1,
        job_first (pages_at t) (length t.cpus) t.goal befores afters before_size after_size (system_of t) refl first_owners k (job_of k low).0.before.items (at_before k low)
            ∙ ap (λ (ds : List Done). Some ds) (sym (told_before c.visited (pass_at k low) (its_stay k low) c.ends)),
      ))

  module _ (given : me.0.go ≡ Given) where
    whole : (k : ℕ) (low : k < length t.cpus) → VisitEnds Complete (pass_at k low) (its_stay k low)
    whole k low =
        let c = came k low in
        as_complete c.visited (pass_at k low) (its_stay k low) c.ends (λ e. let x : Given ≡ Stopped = sym given ∙ leaves.shown (c.shown e) in cc)

    released : (k : ℕ) (p : Processor) → slice_get s.processors k ≡ Some p → has_released (order_of t me.0.go) p ≡ true
    released k p at =
        let within = slice_get_within s.processors k p at in
        let n = many in
        let low : k < length t.cpus = omega arith in
        let e : p.era ≡ common_era t.cpus + 1 = era_of k low Twice (whole k low).0 p at in
        lt-ltb (common_era t.cpus) p.era (omega arith)

    pub quiet_given : IsQuiet (at_rest s)
    quiet_given = at_rest_where (ap (λ (b : Bool). b || (is_cancelled me.0.go && not (list_any (λ p. is_waiting_to_pass p.phase) s.processors))) (all_test (has_released (order_of t me.0.go)) s.processors released))

    left_own : (k : ℕ) → k < length t.cpus → own_system (pages_at t k) k s ≡ own_system (pages_at t k) k one_by.left.system
    left_own k low =
        its_own k low ∙ (whole k low).2
        ∙ sym (job_own (pages_at t) (length t.cpus) t.goal befores afters before_size after_size (system_of t) refl first_owners k (job_of k low).0.before.items (job_of k low).0.after.items (at_before k low) (at_after k low))

    pub left_given : s ≡ one_by.left.system
    left_given =
        one_by_own t s one_by.left.system leaves.yard.resides.stands.memory
        (job_owners (pages_at t) (length t.cpus) t.goal befores afters before_size after_size (system_of t) refl first_owners).memory many
        (job_count (pages_at t) (length t.cpus) t.goal befores afters before_size after_size (system_of t) refl first_owners) left_own
        (leaves.yard.resides.stands.left
        ∙ sym (job_left (pages_at t) (length t.cpus) t.goal befores afters before_size after_size (system_of t) refl first_owners (pages_left t) (left_apart t leaves.yard.resides.opens.unshared)))

    pub answers_after : map (answers_in After) told ≡ one_by.after
    answers_after =
        same_at (map (answers_in After) told) one_by.after
        (length-map told (answers_in After) ∙ long ∙ sym (length-map jobs (ops_in After)) ∙ sym (answers_length 0 afters _))
        (λ k within.
        let n = length-map told (answers_in After) in
        let low : k < length t.cpus = omega arith in (
          answers_in After (told_of k low).0,
          slice_get-map (answers_in After) told k ∙ ap (option_map (answers_in After)) (told_of k low).1,
          job_last (pages_at t) (length t.cpus) t.goal befores afters before_size after_size (system_of t) refl first_owners k (job_of k low).0.before.items (job_of k low).0.after.items (at_before k low) (at_after k low)
              ∙ ap (λ (ds : List Done). Some ds) (sym (whole k low).4),
        ))

    pub all_given : AreOneByOne one_by (at_rest s) told
    all_given = record { left = ap at_rest left_given; before = answers_before; after = answers_after }

  module _ (stopped : me.0.go ≡ Stopped) where
    not_whole : (k : ℕ) (low : k < length t.cpus) → Lodges (pass_at k low) (came k low).own Twice → ⊥
    not_whole k low l =
        let y = resident_of k low Twice l in
        let f = (leaves.yard.resides.fits k y.0 y.1).0.fits in
        none_released y.0.held.cpu.phase (subst (λ (x : Go × Added). FitsYard x.0 x.1 y.0.held.cpu.phase) (λ i. (stopped i, y.2 i)) f)

    gone : (k : ℕ) (low : k < length t.cpus) → ((came k low).visited ≡ Cancelled) × VisitEnds Cancelled (pass_at k low) (its_stay k low)
    gone k low = let c = came k low in as_cancelled c.visited (pass_at k low) (its_stay k low) c.ends (not_whole k low)

    pub quiet_stopped : IsQuiet (at_rest s)
    quiet_stopped =
        let none : list_any (λ p. is_waiting_to_pass p.phase) s.processors ≡ false = no_test (λ p. is_waiting_to_pass p.phase) s.processors (λ k p at. ap is_waiting_to_pass (runs k p at)) in
        at_rest_where (or_right (list_all (has_released (order_of t me.0.go)) s.processors) _ (λ i. is_cancelled (stopped i) && not (none i)))

    pub open_after : AreOpen After jobs told
    open_after k job x at_job at_x =
        let within = slice_get_within jobs k job at_job in
        let low : k < length t.cpus = omega arith in
        let c = came k low in
        let a : (job_of k low).0 ≡ job = one_job (job_of k low).0 job (sym (job_of k low).1 ∙ at_job) in
        let b : (told_of k low).0 ≡ x = one_told (told_of k low).0 x (sym (told_of k low).1 ∙ at_x) in
        subst (λ (z : Job × JobAnswers). IsOpen After z.0 z.1) (λ i. (a i, b i)) (c.has_room (gone k low).0)
      where
        one_job : (a b : Job) → Some a ≡ Some b → a ≡ b
        one_job a b e = cc

        one_told : (a b : JobAnswers) → Some a ≡ Some b → a ≡ b
        one_told a b e = cc

    -- the goal may be called then
    pub fits_stopped : All (FitsGoal t.goal) s.processors
    fits_stopped =
        all_of (FitsGoal t.goal) s.processors
        (λ k p at.
        let same = reached_shapes (shape t.goal) (uncalled_reached leaves.yard.resides.reached) (λ i q at_i. fits_shape t.goal q (all_get (FitsGoal t.goal) t.cpus leaves.yard.resides.opens.enabled.3 i q at_i)) k p at in
        record { width = sym (ap (λ (x : Shape). x.0) same); capabilities = sym (ap (λ (x : Shape). x.1) same) })

    pub callable_stopped : IsEnabled (at_rest s) (Calls t.goal)
    callable_stopped = let e = leaves.yard.resides.opens.enabled in (refl, e.1, e.2, fits_stopped)

    pub room_stopped : HasEraRoom (at_rest s)
    room_stopped =
        all_of (λ p. p.era < 2 ^ 64 - 1) s.processors
        (λ k p at.
        let within = slice_get_within s.processors k p at in
        let n = many in
        let low : k < length t.cpus = omega arith in
        let g = (gone k low).1.0 in
        let e : p.era ≡ common_era t.cpus + 0 = era_of k low g.0 g.1 p at ∙ ap (λ b. common_era t.cpus + rise b Running) g.2 in
        let r = leaves.yard.resides.opens.room in
        omega arith)

    pub some_stopped : 0 < length s.processors
    some_stopped = let n = many in let some = leaves.yard.resides.opens.some in omega arith

    -- the whole update then
    its_owners : AreOwners (pages_at t) (length t.cpus) s
    its_owners = record {
      memory = leaves.yard.resides.stands.memory;
      owner = λ k low. let g = (gone k low).1.0 in let y = resident_of k low g.0 g.1 in leaves.yard.resides.stands.owns k y.0 y.1;
      apart = first_owners.apart;
    }

    abbrev done : System
    done = (updated s (ascending (length s.processors)) t.goal).system

    done_is : done ≡ (updated s (ascending (length t.cpus)) t.goal).system
    done_is = ap (λ (n : ℕ). (updated s (ascending n) t.goal).system) many

    done_own : (k : ℕ) → k < length t.cpus → own_system (pages_at t k) k done ≡ own_system (pages_at t k) k (after_update (system_of t) t.goal befores)
    done_own k low =
        ap (own_system (pages_at t k) k) done_is
        ∙ updated_alone (pages_at t) (length t.cpus) t.goal s its_owners k low
        ∙ ap (updated_own t.goal) (its_own k low)
        ∙ updated_left_own t.goal (ran 0 (job_of k low).0.before.items (own_at t k)).after (came k low).own (let l = (gone k low).1.0.1 in ap (λ (ps : List Processor). length ps) l.alone) (gone k low).1.2
        ∙ sym (whole_own (pages_at t) (length t.cpus) t.goal befores afters before_size after_size (system_of t) refl first_owners k (job_of k low).0.before.items (at_before k low))

    pub done_whole : done ≡ after_update (system_of t) t.goal befores
    done_whole =
        let w = whole_owners (pages_at t) (length t.cpus) t.goal befores afters before_size after_size (system_of t) refl first_owners in
        one_by_own t done (after_update (system_of t) t.goal befores)
        (subst (λ (u : System). IsMemory u.memory) (sym done_is) (updated_owners (pages_at t) (length t.cpus) t.goal s its_owners).memory) w.memory
        (length-map s.processors (settled_processor t.goal) ∙ many)
        (whole_count (pages_at t) (length t.cpus) t.goal befores afters before_size after_size (system_of t) refl first_owners) done_own
        (ap (λ (u : System). own_memory (pages_left t) u.memory) done_is
        ∙ updated_left (pages_at t) (length t.cpus) t.goal s its_owners (pages_left t) (left_apart t leaves.yard.resides.opens.unshared) many
        ∙ leaves.yard.resides.stands.left
        ∙ sym (whole_left (pages_at t) (length t.cpus) t.goal befores afters before_size after_size (system_of t) refl first_owners (pages_left t) (left_apart t leaves.yard.resides.opens.unshared)))

    pub left_stopped : record { system = (ran_each 0 afters done).after; order = None } ≡ one_by.left
    left_stopped = ap (λ (u : System). at_rest (ran_each 0 afters u).after) done_whole

    pub answers_stopped : (ran_each 0 afters done).answers ≡ one_by.after
    answers_stopped = ap (λ (u : System). (ran_each 0 afters u).answers) done_whole

    pub can_go_on : All FitsJob jobs → CanGoOn (at_rest s) t.goal jobs told
    can_go_on fits = record {
      quiet = quiet_stopped;
      callable = callable_stopped;
      some = some_stopped;
      room = room_stopped;
      few = (let few = leaves.yard.resides.opens.few in omega arith);
      processors = size ∙ sym many;
      one_each = long;
      addresses = fits;
      has_places = open_after;
    }

    pub all_stopped : (m : Machine) (later : List JobAnswers) → m ≡ at_rest (ran_each 0 afters done).after → map (answers_in After) later ≡ (ran_each 0 afters done).answers → map (answers_in Before) later ≡ map (answers_in Before) told
        → AreOneByOne one_by m later
    all_stopped m later left told_after told_before = record { left = left ∙ left_stopped; before = told_before ∙ answers_before; after = told_after ∙ answers_stopped }

  -- ---- either way

  pub quiet_ended : (given : Bool) → me.0.go ≡ decided given → IsQuiet (at_rest s)
  quiet_ended true is = quiet_given is
  quiet_ended false is = quiet_stopped is

  pub few_ended : length s.processors ≤ 16
  few_ended = let n = many in let few = leaves.yard.resides.opens.few in omega arith

  pub many_ended : length s.processors ≡ length t.cpus
  many_ended = many
