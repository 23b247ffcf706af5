-- Each step that the play lets a seat make is one event, or none.
use Rattle.std.proofs.Common.{◌≡◌, ◌≢◌, ◌⊎◌, ◌∙◌, ap, sym, refl, subst, arith, ℕ, zero, suc, ◌+◌, ◌%◌, ◌^◌, ◌<◌, ◌≤◌, ◌==◌, Bool, true, false, [], ◌∷◌, length, Option, None, Some, ⊎_elim}
use Rattle.std.specs.Prelude.{if◌then◌else◌, slice_index, slice_set}
use Rattle.std.proofs.lemmas.Bool.{eqb-false, eqb-true}
use mathlib.Core.Option.{Option as Spoken, none, some}
use lib.ListN.{get_elem?}
use Rattle.atomic_table.specs.Table.{Step}
use Rattle.mt_machine.specs.declared.event.Event.{Event}
use Rattle.mt_machine.specs.declared.event.Event.TheVariants.{Take, Arrive, Leave, Pass, ArriveAgain, Release, SetNoFill}
use Rattle.mt_machine.specs.declared.phase.Phase.{Phase}
use Rattle.mt_machine.specs.declared.phase.Phase.TheVariants.{Running, Taken, Arrived, Restored, Arrived2}
use Rattle.mt_machine.specs.declared.go.Go.{Go}
use Rattle.mt_machine.specs.declared.go.Go.TheVariants.{Cancelled, Given}
use Rattle.mt_machine.specs.declared.op.Op.{Op}
use Rattle.mt_machine.specs.System.{Processor}
use Rattle.mt_machine.specs.Machine.{Accesses, Cancels, Goes, MachineEvent, Steps}
use Rattle.mt_machine.proofs.Rows.{due_row, is_row}
use Rattle.mt_cpu.specs.Steps.{is_local}
use Rattle.mt_rendezvous.specs.declared.view.Key.{Key}
use Rattle.mt_rendezvous.specs.declared.view.Start.{Start}
use Rattle.mt_rendezvous.specs.Station.{order_of, start_of, in_first}
use Rattle.mt_rendezvous.specs.Plays.{own_event}
use Rattle.mt_rendezvous.proofs.Local.{changing_fits, due_alone, local_changing}
use Rattle.mt_private.specs.declared.view.Resident.{Resident}
use Rattle.mt_private.specs.declared.view.YardView.{YardView}
use Rattle.mt_private.specs.Residents.{FitsYard}
use Rattle.mt_private.specs.YardRule.{MeetsYard}
use Rattle.mt_private.specs.YardLaws.{ComesOf, EachStepFollows, IsOneEvent, OfStep, YardState}
use Rattle.mt_private.specs.YardPlays.{AccessesYard, ArrivesAgainYard, ArrivesYard, CancelsYard, GivesYard, OfSeat, PassesYard, ReleasesYard, TakesYard, WorksYard, YardSat, has_added, word_after}
use Rattle.mt_private.proofs.Residents.Barriers.{own_fits}
use Rattle.mt_private.proofs.Residents.Plays.{add, add_again, add_late, first_low, go_out, miss, no_take, pass, release, second_low, sees, take, use_memory, wait, wait_again, work}
use Rattle.mt_private.proofs.Residents.Roots.{cancelling, giving, said}
use Rattle.mt_rendezvous.specs.declared.view.Added.TheVariants.{Never, Once, Twice}
use Rattle.mt_rendezvous.specs.declared.view.Added.{Added}
use Rattle.mt_private.proofs.Residents.Seats.{there}

-- ---- what a phase and the rule say of the two additions

never_in : (added : Added) → in_first added ≡ false → added ≡ Never
never_in Never out = refl
never_in Once out = absurd (let e : true ≡ false = out in cc)
never_in Twice out = absurd (let e : true ≡ false = out in cc)

fits_waiting : (go : Go) (added : Added) (p : Phase) → FitsYard go added p → (p ≡ Taken) ⊎ (p ≡ Arrived) → in_first added ≡ true → added ≡ Once
fits_waiting go added p f waits on =
    ⊎_elim
    (λ (x : p ≡ Taken). ⊎_elim
    (λ (y : added ≡ Never). absurd (let e : false ≡ true = ap in_first (sym y) ∙ on in cc))
    (λ (y : (added ≡ Once) × (go ≡ Cancelled)). y.0)
    (subst (FitsYard go added) x f))
    (λ (x : p ≡ Arrived). subst (FitsYard go added) x f)
    waits

fits_local : (go : Go) (added : Added) (p : Phase) → is_local p ≡ true → FitsYard go added p → added ≡ Once
fits_local go added Running here f = absurd (cc)
fits_local go added p here f = (changing_fits go added p (local_changing p here) f).0

-- ---- the event that is due between the barriers comes of a store

local_event : (st : Step Op) (e : Event) (p : Phase) → is_local p ≡ true → is_row e p ≡ true → 2 ≤ st.word → st.said ≡ none → OfStep st e
local_event st Take p here row high quiet = absurd (no p here row)
  where
    no : (p : Phase) → is_local p ≡ true → is_row Take p ≡ true → ⊥
    no Running h on = absurd (cc)
    no other h on = absurd (cc)
local_event st Arrive p here row high quiet = absurd (no p here row)
  where
    no : (p : Phase) → is_local p ≡ true → is_row Arrive p ≡ true → ⊥
    no Taken h on = absurd (cc)
    no other h on = absurd (cc)
local_event st Pass p here row high quiet = absurd (no p here row)
  where
    no : (p : Phase) → is_local p ≡ true → is_row Pass p ≡ true → ⊥
    no Arrived h on = absurd (cc)
    no other h on = absurd (cc)
local_event st Leave p here row high quiet = absurd (no p here row)
  where
    no : (p : Phase) → is_local p ≡ true → is_row Leave p ≡ true → ⊥
    no Taken h on = absurd (cc)
    no Arrived h on = absurd (cc)
    no other h on = absurd (cc)
local_event st ArriveAgain p here row high quiet = absurd (no p here row)
  where
    no : (p : Phase) → is_local p ≡ true → is_row ArriveAgain p ≡ true → ⊥
    no Restored h on = absurd (cc)
    no other h on = absurd (cc)
local_event st Release p here row high quiet = absurd (no p here row)
  where
    no : (p : Phase) → is_local p ≡ true → is_row Release p ≡ true → ⊥
    no Arrived2 h on = absurd (cc)
    no other h on = absurd (cc)
local_event st other p here row high quiet = (high, quiet)

own_row : (t : Start) (p : Processor) → is_local p.phase ≡ true → is_row (own_event t p) p.phase ≡ true
own_row t p here = due_row (order_of t Given) [] p p.phase (own_event t p) (due_alone (order_of t Given) (order_of t Given) [] [] p SetNoFill p.phase here ∙ refl)

-- ---- one step

module _ (key : Key) (s : YardState) (m : MeetsYard key s) (id : ℕ) (st : Step Op) (me new : YardSat) (at : get_elem? s.views id ≡ some me.0) where
  -- word i becomes a, and the view this, which is that event
  abbrev Made : ℕ → ℕ → YardView → Option MachineEvent → Type 0
  Made i a v e = IsOneEvent key s (record { words = slice_set s.words i a; homes = s.homes; views = slice_set s.views id v }) m e

  -- so it is what the step makes
  abbrev Done : ℕ → Spoken Op → Option MachineEvent → Type 0
  Done i spoken e = Made i (word_after i spoken st (slice_index s.words i)) new.0 e

  done : (i a : ℕ) (spoken : Spoken Op) (v : YardView) (e : Option MachineEvent) → Made i a v e → a ≡ word_after i spoken st (slice_index s.words i) → new.0 ≡ v → Done i spoken e
  done i a spoken v e made word turns = subst (λ (x : ℕ × YardView). Made i x.0 x.1 e) (λ j. (word j, sym turns j)) made

  abbrev first : ℕ
  first = slice_index s.words 0

  abbrev second : ℕ
  second = slice_index s.words 1

  module _ (y : Resident) (is : me.0.held ≡ y ∷ []) where
    fits : FitsYard m.go y.held.added y.held.cpu.phase
    fits = (own_fits (start_of key) m.all m.go first second m.system m.yard y.held.number y (there key s m id me.0 y at is)).fits

    fits_in : (p : Phase) → y.held.cpu.phase ≡ p → FitsYard m.go y.held.added p
    fits_in p here = subst (FitsYard m.go y.held.added) here fits

    added_is : (b : Bool) → has_added me.0.held ≡ b → in_first y.held.added ≡ b
    added_is b on = sym (ap has_added is) ∙ on

    first_loaded : st.first ≡ 0 → first ≡ (first + st.first) % 2 ^ 64
    first_loaded zero_is = let low = first_low key s m id me.0 at y is in omega arith

    second_loaded : st.first ≡ 0 → second ≡ (second + st.first) % 2 ^ 64
    second_loaded zero_is = let low = second_low key s m id me.0 at y is in omega arith

    first_raised : st.first ≡ 1 → first + 1 ≡ (first + st.first) % 2 ^ 64
    first_raised one_is = let low = first_low key s m id me.0 at y is in omega arith

    second_raised : st.first ≡ 1 → second + 1 ≡ (second + st.first) % 2 ^ 64
    second_raised one_is = let low = second_low key s m id me.0 at y is in omega arith

  -- what the law says of it, by its word and what it announces
  abbrev One : ℕ → Spoken Op → Type 0
  One i spoken = (e : Option MachineEvent) × Done i spoken e × ComesOf st e

  -- the host's
  gives : me.0.root ≡ true → (spoken : Spoken Op) → st.word ≡ 0 → st.first ≡ 1 → GivesYard st me first new → One 0 spoken
  gives root spoken word adds play = (
    Some Goes,
    done 0 ((first + 1) % 18446744073709551616) spoken _ (Some Goes) (said key s m id me.0 at root play.3 ((first + 1) % 18446744073709551616) Given Goes (giving key s m id me.0 at root play.3)).0
        (ap (λ (n : ℕ). (first + n) % 2 ^ 64) (sym adds)) play.1,
    (word, adds),
  )

  cancels : me.0.root ≡ true → (spoken : Spoken Op) → st.word ≡ 0 → CancelsYard st me first new → One 0 spoken
  cancels root spoken word play = (
    Some Cancels,
    done 0 ((first + 4294967296) % 18446744073709551616) spoken _ (Some Cancels)
        (said key s m id me.0 at root play.3 ((first + 4294967296) % 18446744073709551616) Cancelled Cancels (cancelling key s m id me.0 at root play.3)).0
        (ap (λ (n : ℕ). (first + n) % 2 ^ 64) (sym play.4)) play.1,
    (word, play.4),
  )

  -- a pass's on the first count
  takes : has_added me.0.held ≡ false → (spoken : Spoken Op) → st.word ≡ 0 → st.first ≡ 0 → TakesYard st me first new → One 0 spoken
  takes on spoken word adds play =
      let y = play.3.0 in
      let is = play.3.1 in
      let runs = play.3.2 in
      let out = never_in y.held.added (added_is y is false on) in
      ⊎_elim
      (λ (c : (m.go ≡ Cancelled) × (4294967296 ≤ first)).
      (None, done 0 first spoken _ None (no_take key id me y is s m at out runs c.0).0 (first_loaded y is adds) (play.2 c.1 y is).0, tt))
      (λ (c : (m.go ≢ Cancelled) × (first < 4294967296)).
      (Some (Steps y.held.number Take), done 0 first spoken _ _ (take key id me y is s m at out runs c.0 c.1).0 (first_loaded y is adds) ((play.1 c.1).1 y is).0.0, (word, adds)))
      (sees key s m id me.0 at y is)

  arrives : has_added me.0.held ≡ false → (spoken : Spoken Op) → st.word ≡ 0 → st.first ≡ 1 → ArrivesYard st me first new → One 0 spoken
  arrives on spoken word adds play =
      let y = play.3.0 in
      let is = play.3.1 in
      let taken = play.3.2 in
      let out = never_in y.held.added (added_is y is false on) in
      ⊎_elim
      (λ (c : (m.go ≡ Cancelled) × (4294967296 ≤ first)).
      (None, done 0 (first + 1) spoken _ None (add_late key id me y is s m at out taken c.1).0 (first_raised y is adds) (play.2 c.1 y is).0, tt))
      (λ (c : (m.go ≢ Cancelled) × (first < 4294967296)).
      (Some (Steps y.held.number Arrive), done 0 (first + 1) spoken _ _ (add key id me y is s m at out taken c.1).0 (first_raised y is adds) (play.1 c.1 y is).0, (word, adds)))
      (sees key s m id me.0 at y is)

  passes : has_added me.0.held ≡ true → (spoken : Spoken Op) → st.word ≡ 0 → st.first ≡ 0 → PassesYard st me first new → One 0 spoken
  passes on spoken word adds play =
      let y = play.4.0 in
      let is = play.4.1 in
      let waits = play.4.2 in
      ⊎_elim
      (λ (c : (m.go ≡ Cancelled) × (4294967296 ≤ first)).
      let come = fits_waiting m.go y.held.added y.held.cpu.phase (fits y is) waits (added_is y is true on) in
      (Some (Steps y.held.number Leave), done 0 first spoken _ _ (go_out key id me y is s m at come waits c.0 c.1).0 (first_loaded y is adds) (play.2 c.1 y is).0, (word, adds)))
      (λ (c : (m.go ≢ Cancelled) × (first < 4294967296)). one (first == length me.0.start.cpus + 1) refl c.0 c.1)
      (sees key s m id me.0 at play.4.0 play.4.1)
    where
      one : (b : Bool) → (first == length me.0.start.cpus + 1) ≡ b → m.go ≢ Cancelled → first < 4294967296 → One 0 spoken
      one true e apart low =
          let y = play.4.0 in
          let is = play.4.1 in
          let full = eqb-true first (length me.0.start.cpus + 1) e in
          let come = fits_waiting m.go y.held.added y.held.cpu.phase (fits y is) play.4.2 (added_is y is true on) in
          (Some (Steps y.held.number Pass), done 0 first spoken _ _ (pass key id me y is s m at come play.4.2 apart full).0 (first_loaded y is adds) (play.1 full y is).0.0, (word, adds))
      one false e apart low =
          let y = play.4.0 in
          let is = play.4.1 in
          (None, done 0 first spoken _ None (wait key id me y is s m at).0 (first_loaded y is adds) (play.3 low (eqb-false first (length me.0.start.cpus + 1) e) y is).0, tt)

  -- on the second count
  comes_again : (spoken : Spoken Op) → st.word ≡ 1 → st.first ≡ 1 → ArrivesAgainYard st me second new → One 1 spoken
  comes_again spoken word adds play =
      let y = play.2.0 in
      let is = play.2.1 in
      let come = (fits_in y is Restored play.2.2).0 in
      (Some (Steps y.held.number ArriveAgain), done 1 (second + 1) spoken _ _ (add_again key id me y is s m at come play.2.2).0 (second_raised y is adds) (play.1 y is).0, (word, adds))

  releases : (spoken : Spoken Op) → st.word ≡ 1 → st.first ≡ 0 → ReleasesYard st me second new → One 1 spoken
  releases spoken word adds play = one (second == length me.0.start.cpus) refl
    where
      one : (b : Bool) → (second == length me.0.start.cpus) ≡ b → One 1 spoken
      one true e =
          let y = play.3.0 in
          let is = play.3.1 in
          let twice = (fits_in y is Arrived2 play.3.2).0 in
          let full = eqb-true second (length me.0.start.cpus) e in
          (Some (Steps y.held.number Release), done 1 second spoken _ _ (release key id me y is s m at twice play.3.2 full).0 (second_loaded y is adds) (play.1 full y is).0, (word, adds))
      one false e =
          let y = play.3.0 in
          let is = play.3.1 in
          (None, done 1 second spoken _ None (wait_again key id me y is s m at).0 (second_loaded y is adds) (play.2 (eqb-false second (length me.0.start.cpus) e) y is).0, tt)

  -- on the own event word
  works : (i : ℕ) → st.word ≡ suc (suc i) → st.said ≡ none → WorksYard st me (slice_index s.words (suc (suc i))) new → One (suc (suc i)) none
  works i word quiet play =
      let y = play.3.0 in
      let is = play.3.1 in
      let local = play.3.2 in
      let come = fits_local m.go y.held.added y.held.cpu.phase local (fits y is) in
      let own : suc (suc i) ≡ y.held.number + 2 = sym word ∙ play.2 y is in
      let high : 2 ≤ st.word = omega arith in (
        Some (Steps y.held.number (own_event me.0.start y.held.cpu)),
        done (suc (suc i)) st.first none _ _ (work key id me y is s m at (suc (suc i)) st.first own come local).0 refl (play.1 y is).0,
        local_event st (own_event me.0.start y.held.cpu) y.held.cpu.phase local (own_row me.0.start y.held.cpu local) high quiet,
      )

  accesses : (i : ℕ) (op : Op) → st.word ≡ suc (suc i) → st.said ≡ some op → AccessesYard st me (slice_index s.words (suc (suc i))) new → One (suc (suc i)) (some op)
  accesses i op word spoken play = one (slice_index s.words (suc (suc i)) == st.first) refl
    where
      left : (b : Bool) → (slice_index s.words (suc (suc i)) == st.first) ≡ b
          → (if b then st.second else slice_index s.words (suc (suc i))) ≡ (if slice_index s.words (suc (suc i)) == st.first then st.second else slice_index s.words (suc (suc i)))
      left b e = ap (λ (x : Bool). if x then st.second else slice_index s.words (suc (suc i))) (sym e)

      one : (b : Bool) → (slice_index s.words (suc (suc i)) == st.first) ≡ b → One (suc (suc i)) (some op)
      one true e =
          let y = play.5.0 in
          let is = play.5.1 in
          let own : suc (suc i) ≡ y.held.number + 2 = sym word ∙ play.4 y is in
          let high : 2 ≤ st.word = omega arith in
          let found = eqb-true (slice_index s.words (suc (suc i))) st.first e in (
            Some (Accesses y.held.number op),
            done (suc (suc i)) st.second (some op) _ _ (use_memory key id me y is s m at op (suc (suc i)) st.second own play.5.2 (play.6 op spoken)).0 (left true e) (play.1 found op spoken y is).0,
            (high, spoken),
          )
      one false e =
          let y = play.5.0 in
          let is = play.5.1 in
          let own : suc (suc i) ≡ y.held.number + 2 = sym word ∙ play.4 y is in
          let other = eqb-false (slice_index s.words (suc (suc i))) st.first e in
          (None, done (suc (suc i)) (slice_index s.words (suc (suc i))) (some op) _ None (miss key id me y is s m at (suc (suc i)) (slice_index s.words (suc (suc i))) own (play.3 y is)).0 (left false e) (play.2 other y is).0, tt)

  by_kind : (root : Bool) (i n : ℕ) (spoken : Spoken Op) (added : Bool) → me.0.root ≡ root → st.word ≡ i → st.first ≡ n → st.said ≡ spoken → has_added me.0.held ≡ added
      → OfSeat root i n spoken added st me (slice_index s.words i) new → One i spoken
  by_kind true zero zero spoken added r w a b o tells = absurd tells
  by_kind true zero (suc zero) spoken added r w a b o tells = gives r spoken w a tells
  by_kind true zero (suc (suc n)) spoken added r w a b o tells = cancels r spoken w tells
  by_kind true (suc i) n spoken added r w a b o tells = absurd tells
  by_kind false zero zero spoken false r w a b o tells = takes o spoken w a tells
  by_kind false zero zero spoken true r w a b o tells = passes o spoken w a tells
  by_kind false zero (suc zero) spoken false r w a b o tells = arrives o spoken w a tells
  by_kind false zero (suc zero) spoken true r w a b o tells = absurd tells
  by_kind false zero (suc (suc n)) spoken added r w a b o tells = absurd tells
  by_kind false (suc zero) zero spoken added r w a b o tells = releases spoken w a tells
  by_kind false (suc zero) (suc zero) spoken added r w a b o tells = comes_again spoken w a tells
  by_kind false (suc zero) (suc (suc n)) spoken added r w a b o tells = absurd tells
  by_kind false (suc (suc i)) n none added r w a b o tells = works i w b tells
  by_kind false (suc (suc i)) n (some op) added r w a b o tells = accesses i op w b tells

pub each_step_follows : EachStepFollows
each_step_follows key s m id st me new at tells =
    let one = by_kind key s m id st me new at me.0.root st.word st.first st.said (has_added me.0.held) refl refl refl refl refl tells in
    record { event = one.0; follows = one.1; comes = one.2 }
