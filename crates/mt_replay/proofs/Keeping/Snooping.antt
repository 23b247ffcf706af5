-- A processor that becomes self-snooping where nothing has happened yet.
use Rattle.std.proofs.Common.{◌≡◌, ◌∙◌, ap, sym, refl, ℕ, zero, suc, Bool, List, [], ◌∷◌, Some, slice_get, arith, length, ⊎_elim, None}
use Rattle.std.specs.Prelude.{map}
use Rattle.mt_regs.specs.RegisterFile.{RegisterFile}
use Rattle.mt_machine.specs.Memory.{Window}
use Rattle.mt_machine.specs.System.{Processor, System, snooping, start_processor, with_self_snoop}
use Rattle.mt_machine.specs.Machine.{Machine}
use Rattle.mt_machine.specs.Start.{flagged_processors, start_with}
use Rattle.mt_laws.specs.Kept.{flags_of, is_self_snooping}
use Rattle.mt_laws.proofs.Barrier.Stages.{change_stages}
use Rattle.mt_laws.proofs.Barrier.Still.{change_memory}
use Rattle.mt_laws.proofs.Invariant.Snooping.{from}
use Rattle.mt_bus.proofs.Tables.{same_length}
use Rattle.mt_core.specs.Arises.{snooped}
use Rattle.mt_core.specs.Headline.{HasRisenByOne}

pub snooped_risen : (k : ℕ) (s : System) → HasRisenByOne s (with_self_snoop k s)
snooped_risen k s = record {
  same_number = same_length s (with_self_snoop k s) (change_stages snooping (λ p. refl) k s);
  eras = λ j p q at_p at_q.
      let f = from k s j q at_q in
      let same : f.0 ≡ p = let e : Some (f.0) ≡ Some p = sym f.1 ∙ at_p in cc in
      let era : f.0.era ≡ q.era = ⊎_elim (λ (e : f.0 ≡ q). ap (λ (x : Processor). x.era) e) (λ (e : snooping f.0 ≡ q). ap (λ (x : Processor). x.era) e) f.2 in
      let own : f.0.era ≡ p.era = ap (λ (x : Processor). x.era) same in
      omega arith;
}

-- a processor at its start, but for the flag
abbrev Fresh : RegisterFile → Processor → Type 0
Fresh f p = p ≡ record (start_processor f) { self_snoop = p.self_snoop }

fresh_at : (files : List RegisterFile) (flags : List Bool) (i : ℕ) (f : RegisterFile) (p : Processor) → slice_get files i ≡ Some f → slice_get (flagged_processors files flags) i ≡ Some p → Fresh f p
fresh_at [] flags i f p file at = absurd (cc file)
fresh_at (g ∷ gs) [] zero f p file at =
    let same : g ≡ f = cc file in
    let e : start_processor g ≡ p = cc at in
    sym e ∙ ap (λ (x : RegisterFile). start_processor x) same ∙ ap (λ (x : Processor). record (start_processor f) { self_snoop = x.self_snoop }) e
fresh_at (g ∷ gs) (b ∷ bs) zero f p file at =
    let same : g ≡ f = cc file in
    let e : record (start_processor g) { self_snoop = b } ≡ p = cc at in
    sym e ∙ ap (λ (x : RegisterFile). record (start_processor x) { self_snoop = b }) same ∙ ap (λ (x : Processor). record (start_processor f) { self_snoop = x.self_snoop }) e
fresh_at (g ∷ gs) [] (suc i) f p file at = fresh_at gs [] i f p file at
fresh_at (g ∷ gs) (b ∷ bs) (suc i) f p file at = fresh_at gs bs i f p file at

count_flagged : (files : List RegisterFile) (flags : List Bool) → length (flagged_processors files flags) ≡ length files
count_flagged [] flags = refl
count_flagged (f ∷ fs) [] = ap suc (count_flagged fs [])
count_flagged (f ∷ fs) (b ∷ bs) = ap suc (count_flagged fs bs)

-- processors at their start are told by their files and their flags
by_flags : (files : List RegisterFile) (ps : List Processor) → length ps ≡ length files → ((i : ℕ) (f : RegisterFile) (p : Processor) → slice_get files i ≡ Some f → slice_get ps i ≡ Some p → Fresh f p)
    → ps ≡ flagged_processors files (map is_self_snooping ps)
by_flags [] [] count h = refl
by_flags [] (p ∷ ps) count h = absurd (omega (arith, count))
by_flags (f ∷ fs) [] count h = absurd (omega (arith, count))
by_flags (f ∷ fs) (p ∷ ps) count h = λ i. h 0 f p refl refl i ∷ by_flags fs ps (omega (arith, count)) (λ j g q file at. h (suc j) g q file at) i

still_start : (k : ℕ) (flags : List Bool) (files : List RegisterFile) (ws : List Window) → snooped k (start_with flags files ws) ≡ start_with (flags_of (snooped k (start_with flags files ws)).system) files ws
still_start k flags files ws =
    let s : System = (start_with flags files ws).system in
    let each : (i : ℕ) (f : RegisterFile) (q : Processor) → slice_get files i ≡ Some f → slice_get (with_self_snoop k s).processors i ≡ Some q → Fresh f q =
    λ i f q file at.
    let own = from k s i q at in
    let was : Fresh f own.0 = fresh_at files flags i f own.0 file own.1 in
    ⊎_elim
    (λ (e : own.0 ≡ q). sym e ∙ was ∙ ap (λ (x : Processor). record (start_processor f) { self_snoop = x.self_snoop }) e)
    (λ (e : snooping own.0 ≡ q). sym e ∙ ap snooping was ∙ ap (λ (x : Processor). record (start_processor f) { self_snoop = x.self_snoop }) e)
    own.2 in
    let count : length (with_self_snoop k s).processors ≡ length files = same_length s (with_self_snoop k s) (change_stages snooping (λ p. refl) k s) ∙ count_flagged files flags in
    let processors = by_flags files (with_self_snoop k s).processors count each in
    let memory = change_memory snooping k s in
    λ i. record { system = record { processors = processors i; memory = memory i }; order = None }

pub snooped_start : (k : ℕ) (m : Machine) (files : List RegisterFile) (ws : List Window) → m ≡ start_with (flags_of m.system) files ws → snooped k m ≡ start_with (flags_of (snooped k m).system) files ws
snooped_start k m files ws is =
    ap (snooped k) is ∙ still_start k (flags_of m.system) files ws
    ∙ ap (λ (x : Machine). start_with (flags_of (snooped k x).system) files ws) (sym is)
