-- A system at its start is sound, and quiet.
use Rattle.std.proofs.Common.{◌≡◌, ◌≢◌, ℕ, ◌<◌, List, [], ◌∷◌, length, get_or, Bool, true, false, None, refl, sym, ap, subst, arith}
use Rattle.std.specs.Prelude.{slice_index, map, IsNone, IsSome}
use Rattle.std.specs.List.{All}
use Rattle.std.proofs.lemmas.List.Elements.{All-cons, All-head, All-tail}
use Rattle.mt_regs.specs.RegisterFile.{RegisterFile, IsRegisterFile}
use Rattle.mt_regs.specs.Faults.{IsAccepted}
use Rattle.mt_regs.specs.StartFiles.{AreStartFiles}
use Rattle.mt_cache.specs.declared.line.CacheLine.{CacheLine}
use Rattle.mt_cache.specs.Lines.{find_line, is_dirty}
use Rattle.mt_machine.specs.Memory.{IsMemory, Window, word_at, word_address, place}
use Rattle.mt_machine.specs.System.{Processor, IsCoherent, IsProcessor, IsSound, start_processor}
use Rattle.mt_machine.specs.Access.{is_running}
use Rattle.mt_machine.specs.Machine.{FitsGoal, Machine, common_era}
use Rattle.mt_machine.specs.Start.{IsQuiet, flagged_processors, start_machine, start_with, zero_memory}
use Rattle.mt_laws.specs.Starts.{FlaggedStartIsQuiet, NoFlagIsTheStart, StartIsQuiet}
use Rattle.mt_laws.specs.Kept.{flags_of, is_self_snooping}
use Rattle.mt_laws.proofs.Barrier.Claims.{all_get}

pub nothing : {X : Type 0} (P : X → Type 0) → All P []
nothing P k d within = absurd (omega arith)

start_is_processor : (f : RegisterFile) (b : Bool) → IsRegisterFile f → IsAccepted f → IsProcessor (record (start_processor f) { self_snoop = b })
start_is_processor f b good accepted = record {
  register_file = good;
  accepted = λ _. accepted;
  in_range = λ i h. absurd (cc);
  indexes = nothing _;
  mapped_pages = nothing _;
  few_mappings = omega arith;
  distinct_mappings = λ i j d low within. absurd (omega arith);
  local_entries = λ _. nothing _;
  mapped = nothing _;
  entry_pages = nothing _;
  flushed = λ h. absurd (cc);
  few_entries = omega arith;
  distinct_entries = λ i j d low within. absurd (omega arith);
  few_lines = omega arith;
  distinct_lines = λ i j d low within. absurd (omega arith);
  whole_lines = nothing _;
  few_buffers = omega arith;
  distinct_buffers = λ i j d low within. absurd (omega arith);
  whole_buffers = nothing _;
}

-- with either flag
abbrev flagged : RegisterFile → Bool → Processor
flagged f b = record (start_processor f) { self_snoop = b }

-- what holds of the processor of each file holds of all
pub each_start : (P : Processor → Type 0) (files : List RegisterFile) (flags : List Bool) → All (λ f. (b : Bool) → P (flagged f b)) files → All P (flagged_processors files flags)
each_start P [] flags h = nothing P
each_start P (f ∷ fs) [] h =
    All-cons P (start_processor f) (flagged_processors fs []) (All-head (λ g. (b : Bool) → P (flagged g b)) f fs h false)
    (each_start P fs [] (All-tail (λ g. (b : Bool) → P (flagged g b)) f fs h))
each_start P (f ∷ fs) (b ∷ bs) h =
    All-cons P (flagged f b) (flagged_processors fs bs) (All-head (λ g. (d : Bool) → P (flagged g d)) f fs h b)
    (each_start P fs bs (All-tail (λ g. (d : Bool) → P (flagged g d)) f fs h))

module _ (flags : List Bool) (files : List RegisterFile) (ws : List Window) where
  abbrev start : Machine
  start = start_with flags files ws

  each : (P : Processor → Type 0) → ((f : RegisterFile) (b : Bool) → P (flagged f b)) → All P start.system.processors
  each P h = each_start P files flags (λ k d within. h (get_or files k d))

  abbrev Clean : Processor → Type 0
  Clean p = All (λ (l : CacheLine). (word : ℕ) → word < 8 → is_dirty l word ≡ false → slice_index l.words word ≡ word_at start.system.memory (word_address l.number word)) p.lines

  abbrev Placed : (Processor → List CacheLine) → Processor → Type 0
  Placed held p = All (λ (l : CacheLine). IsSome (place start.system.memory (word_address l.number 0))) (held p)

  start_coherent : IsCoherent start.system
  start_coherent = record {
    clean = each Clean (λ f b k d within. absurd (omega arith));
    sole = λ i j p q apart at_p at_q. subst (λ (ls : List CacheLine). All (λ l. l.dirty ≢ 0 → IsNone (find_line l.number q.lines)) ls) (sym (all_get (λ r. r.lines ≡ []) start.system.processors (each (λ r. r.lines ≡ []) (λ f b. refl)) i p at_p)) (nothing _);
  }

  start_sound : IsMemory (zero_memory ws) → AreStartFiles files → IsSound start.system
  start_sound memory starts = record {
    memory = memory;
    coherent = start_coherent;
    lines_in_memory = each (Placed (λ p. p.lines)) (λ f b k d within. absurd (omega arith));
    buffers_in_memory = each (Placed (λ p. p.buffers)) (λ f b k d within. absurd (omega arith));
    each = each_start IsProcessor files flags (λ k d within b. start_is_processor (get_or files k d) b (starts.each k d within) (starts.accepted k d within));
  }

  fits : AreStartFiles files → (k : ℕ) (d : RegisterFile) → k < length files → (b : Bool) → All (FitsGoal (get_or files k d)) start.system.processors
  fits starts k d within b =
      each_start (FitsGoal (get_or files k d)) files flags
      (λ i g inside e. let same = starts.one_kind k d within i g inside in record { width = same.width; capabilities = same.capabilities })

common : (files : List RegisterFile) (flags : List Bool) → common_era (flagged_processors files flags) ≡ 0
common [] flags = refl
common (f ∷ fs) [] = refl
common (f ∷ fs) (b ∷ bs) = refl

pub no_windows : IsMemory (zero_memory [])
no_windows = record {
  some_lines = nothing _;
  aligned = nothing _;
  bounded = nothing _;
  apart = λ i j d low within. absurd (omega arith);
  counted = refl;
}

pub flagged_start_is_quiet : FlaggedStartIsQuiet
flagged_start_is_quiet flags files ws starts memory = record {
  sound = start_sound flags files ws memory starts;
  running = each flags files ws (λ p. is_running p.phase ≡ true) (λ f b. refl);
  one_era = each flags files ws (λ p. p.era ≡ common_era (flagged_processors files flags)) (λ f b. sym (common files flags));
  one_kind = each_start (λ p. All (λ q. FitsGoal p.file q) (start_with flags files ws).system.processors) files flags (fits flags files ws starts);
  no_order = refl;
}

pub no_flag_is_the_start : NoFlagIsTheStart
no_flag_is_the_start files ws = ap (λ (ps : List Processor). record { system = record { processors = ps; memory = zero_memory ws }; order = None }) (plain files)
  where
    plain : (fs : List RegisterFile) → flagged_processors fs (map is_self_snooping (map start_processor fs)) ≡ map start_processor fs
    plain [] = refl
    plain (f ∷ fs) = ap (λ ps. start_processor f ∷ ps) (plain fs)

pub start_is_quiet : StartIsQuiet
start_is_quiet files ws starts memory = subst IsQuiet (no_flag_is_the_start files ws) (flagged_start_is_quiet (flags_of (start_machine files ws).system) files ws starts memory)
