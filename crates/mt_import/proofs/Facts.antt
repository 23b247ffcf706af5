-- Facts behind facts.
use Rattle.std.proofs.Common.{◌≡◌, ◌+◌, ℕ, zero, suc, Bool, List, [], ◌∷◌, ◌++◌, take, drop, Option, Some, None, refl, sym, ap, ◌∙◌, add-one, append_assoc}
use Rattle.std.specs.Prelude.{slice_get, Result, Ok, Err, is_some, if◌then◌else◌}
use Rattle.std.specs.Option.{option_or}
use Rattle.std.proofs.lemmas.List.{append-nil, take-append-drop}
use Rattle.mt_import.specs.declared.fault.ImportFault.{ImportFault}
use Rattle.mt_import.specs.declared.format.Format.{Format}
use Rattle.mt_import.specs.declared.shape.Shown.{Shown}
use Rattle.mt_import.specs.declared.shape.Tally.{Tally}
use Rattle.mt_import.specs.Readings.{Fact, is_line, shown_facts, shows_facts}
use Rattle.mt_import.specs.Supplied.{Supplied}
use Rattle.mt_import.specs.Outcome.{Seen, fact_fault, facts_fault, seen_after, seen_with, warned_till}
use Rattle.mt_import.specs.Reader.{HasTakenFacts, IsShort, KeepsFact, State, TakesFacts}

pub seen_append : (seen : Seen) (facts others : List Fact) → seen_after seen (facts ++ others) ≡ seen_after (seen_after seen facts) others
seen_append seen [] others = refl
seen_append seen (fact ∷ facts) others = seen_append (seen_with seen fact) facts others

or_assoc : (a b c : Option ImportFault) → option_or a (option_or b c) ≡ option_or (option_or a b) c
or_assoc None b c = refl
or_assoc (Some fault) b c = refl

pub fault_append : (supplied : Supplied) (seen : Seen) (facts others : List Fact) → facts_fault supplied seen (facts ++ others) ≡ option_or (facts_fault supplied seen facts) (facts_fault supplied (seen_after seen facts) others)
fault_append supplied seen [] others = refl
fault_append supplied seen (fact ∷ facts) others =
    ap (option_or (fact_fault supplied seen fact)) (fault_append supplied (seen_with seen fact) facts others)
    ∙ or_assoc (fact_fault supplied seen fact) (facts_fault supplied (seen_with seen fact) facts) (facts_fault supplied (seen_after (seen_with seen fact) facts) others)

-- what facts before a fault warn of
module _ (supplied : Supplied) (others : List Fact) where
  pub till_stops : (seen : Seen) (facts : List Fact) (fault : ImportFault) → facts_fault supplied seen facts ≡ Some fault → warned_till supplied seen (facts ++ others) ≡ warned_till supplied seen facts
  till_stops seen [] fault found = cc found
  till_stops seen (fact ∷ facts) fault found = by (fact_fault supplied seen fact) (till_stops (seen_with seen fact) facts fault) found
    where
      by : (own : Option ImportFault) → (facts_fault supplied (seen_with seen fact) facts ≡ Some fault → warned_till supplied (seen_with seen fact) (facts ++ others) ≡ warned_till supplied (seen_with seen fact) facts)
          → option_or own (facts_fault supplied (seen_with seen fact) facts) ≡ Some fault
          → (if is_some own then seen.tally.warned else warned_till supplied (seen_with seen fact) (facts ++ others)) ≡ (if is_some own then seen.tally.warned else warned_till supplied (seen_with seen fact) facts)
      by (Some own) later is = refl
      by None later is = later is

  pub till_goes : (seen : Seen) (facts : List Fact) → facts_fault supplied seen facts ≡ None → warned_till supplied seen (facts ++ others) ≡ warned_till supplied (seen_after seen facts) others
  till_goes seen [] none = refl
  till_goes seen (fact ∷ facts) none = by (fact_fault supplied seen fact) (till_goes (seen_with seen fact) facts) none
    where
      by : (own : Option ImportFault) → (facts_fault supplied (seen_with seen fact) facts ≡ None → warned_till supplied (seen_with seen fact) (facts ++ others) ≡ warned_till supplied (seen_after (seen_with seen fact) facts) others)
          → option_or own (facts_fault supplied (seen_with seen fact) facts) ≡ None
          → (if is_some own then seen.tally.warned else warned_till supplied (seen_with seen fact) (facts ++ others)) ≡ warned_till supplied (seen_after (seen_with seen fact) facts) others
      by (Some own) later is = cc is
      by None later is = later is

-- ---- the registers that a line shows

shows_append : (processor table : ℕ) (xs ys : List (Option Shown)) → shows_facts processor table (xs ++ ys) ≡ shows_facts processor table xs ++ shows_facts processor table ys
shows_append processor table [] ys = refl
shows_append processor table (x ∷ xs) ys = ap (λ facts. shown_facts processor table x ++ facts) (shows_append processor table xs ys) ∙ sym (append_assoc (shown_facts processor table x) (shows_facts processor table xs) (shows_facts processor table ys))

shows_more : (processor table i : ℕ) (xs : List (Option Shown)) (x : Option Shown) → slice_get xs i ≡ Some x → shows_facts processor table (take (i + 1) xs) ≡ shows_facts processor table (take i xs) ++ shown_facts processor table x
shows_more processor table i xs x at = rw add-one (by i xs at)
  where
    by : (i : ℕ) (xs : List (Option Shown)) → slice_get xs i ≡ Some x → shows_facts processor table (take (suc i) xs) ≡ shows_facts processor table (take i xs) ++ shown_facts processor table x
    by i [] at = cc at
    by zero (y ∷ ys) at = let same : y ≡ x = cc at in rw same (append-nil (shown_facts processor table x))
    by (suc i) (y ∷ ys) at = ap (λ facts. shown_facts processor table y ++ facts) (by i ys at) ∙ sym (append_assoc (shown_facts processor table y) (shows_facts processor table (take i ys)) (shown_facts processor table x))

-- ---- calls that take facts

-- A call that takes facts behind others that the reader took.
takes_both : {U V : Type 0} {supplied : Supplied} {old middle new : State} {facts others : List Fact} {value : V} {result : Result U ImportFault}
    → TakesFacts supplied old middle facts (Ok value) → TakesFacts supplied middle new others result → TakesFacts supplied old new (facts ++ others) result
takes_both {supplied = supplied} {facts = facts} {others = others} {result = Ok taken} first next = record {
  taken = λ seen held. let before = first.taken seen held in rw (seen_append seen facts others, fault_append supplied seen facts others, before.1) (next.taken _ before.0);
  short = tt;
}
takes_both {supplied = supplied} {facts = facts} {others = others} {result = Err fault} first next = record {
  taken = λ seen held.
      let before = first.taken seen held in
      let behind = next.taken _ before.0 in
      (rw (fault_append supplied seen facts others, before.1) behind.0, behind.1 ∙ sym (till_goes supplied others seen facts before.1));
  short = next.short;
}

-- Behind a fault the rest doesn't matter.
stops : {U : Type 0} {supplied : Supplied} {old new : State} {facts : List Fact} {fault : ImportFault} (others : List Fact) → TakesFacts {U = U} supplied old new facts (Err fault) → TakesFacts {U = U} supplied old new (facts ++ others) (Err fault)
stops {supplied = supplied} {facts = facts} {fault = fault} others stopped = record {
  taken = λ seen held.
      let here = stopped.taken seen held in
      (rw (fault_append supplied seen facts others, here.0) refl, here.1 ∙ sym (till_stops supplied others seen facts fault here.0));
  short = stopped.short;
}

-- A fact with a fault changes nothing.
pub stops_here : {U : Type 0} {supplied : Supplied} {state : State} {fact : Fact} {fault : ImportFault} → ((seen : Seen) → HasTakenFacts state seen → fact_fault supplied seen fact ≡ Some fault)
    → IsShort fault → TakesFacts {U = U} supplied state state (fact ∷ []) (Err fault)
stops_here {supplied = supplied} {fact = fact} found short = record {
  taken = λ seen held. let here = found seen held in (rw here refl, ap (λ (t : Tally). t.warned) held.tally_is ∙ rw here refl);
  short = short;
}

module _ (processor table : ℕ) (shows : List (Option Shown)) where
  abbrev first : ℕ → List Fact
  first n = shows_facts processor table (take n shows)

  -- One more of what a line shows.
  pub takes_next : {U V : Type 0} {supplied : Supplied} {old middle new : State} {value : V} {result : Result U ImportFault} {shown : Option Shown} (i : ℕ) → slice_get shows i ≡ Some shown
      → TakesFacts supplied old middle (first i) (Ok value) → TakesFacts supplied middle new (shown_facts processor table shown) result → TakesFacts supplied old new (first (i + 1)) result
  takes_next {shown = shown} i at before next = rw (shows_more processor table i shows shown at) (takes_both before next)

  pub stops_at : {U : Type 0} {supplied : Supplied} {old new : State} {fault : ImportFault} (i : ℕ) → TakesFacts {U = U} supplied old new (first i) (Err fault)
      → TakesFacts {U = U} supplied old new (shows_facts processor table shows) (Err fault)
  stops_at i stopped =
      let rest = shows_facts processor table (drop i shows) in
      let all : shows_facts processor table shows ≡ first i ++ rest = ap (shows_facts processor table) (sym (take-append-drop i shows)) ∙ shows_append processor table (take i shows) (drop i shows) in
      rw all (stops rest stopped)

-- A line that was counted, with what it says.
pub counts_line : {U : Type 0} {supplied : Supplied} {old middle new : State} {number : ℕ} {format : Option Format} {matched : Bool} {facts : List Fact} {result : Result U ImportFault}
    → KeepsFact old middle (is_line number format matched) → TakesFacts supplied middle new facts result → TakesFacts supplied old new (is_line number format matched ∷ facts) result
counts_line counted said = record { taken = λ seen held. said.taken _ (counted.taken seen held); short = said.short }

-- A later call that keeps what the reader has taken.
pub takes_same : {U : Type 0} {supplied : Supplied} {old middle new : State} {facts : List Fact} {value : U} → TakesFacts supplied old middle facts (Ok value)
    → ((seen : Seen) → HasTakenFacts middle seen → HasTakenFacts new seen) → TakesFacts supplied old new facts (Ok value)
takes_same taken same = record { taken = λ seen held. let before = taken.taken seen held in (same _ before.0, before.1); short = tt }
