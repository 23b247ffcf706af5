-- The processors that begin with a dump's files.
use Rattle.std.proofs.Common.{◌≡◌, sym, arith, ℕ, ◌≤◌, ◌==◌, replicate, Bool, true, false, List, if◌then◌else◌}
use Rattle.std.specs.Prelude.{map}
use Rattle.std.specs.List.{All}
use Rattle.std.proofs.lemmas.List.Elements.{All-from_recursion, All-map, All-replicate}
use Rattle.mt_regs.specs.RegisterFile.{RegisterFile}
use Rattle.mt_dump.specs.Dumps.{Dump, IsDump, first_file}
use Rattle.mt_dump.specs.ForProcessors.{files_for}
use Rattle.mt_dump.proofs.ForProcessors.{first_holds}
use Rattle.mt_machine.specs.System.{Processor, start_processor}
use Rattle.mt_machine.specs.Machine.{FitsGoal}

-- what holds of each of a dump's files holds of each processor's
holds_for : (P : RegisterFile → Type 0) (cpus : ℕ) (dump : Dump) → IsDump dump → All P dump.files → All P (files_for cpus dump)
holds_for P cpus dump is all = by (dump.version == 2)
  where
    by : (sections : Bool) → All P (if sections then dump.files else replicate cpus (first_file dump))
    by true = all
    by false = All-replicate P cpus (first_file dump) (first_holds P dump.files is.some all)

-- each has processor 0's width and capability value
pub all_fit : (cpus : ℕ) (dump : Dump) → IsDump dump → All (FitsGoal (first_file dump)) (map start_processor (files_for cpus dump))
all_fit cpus dump is =
    let widths = All-from_recursion (λ (f : RegisterFile). f.width ≡ (first_file dump).width) dump.files is.one_width in
    let capabilities = All-from_recursion (λ (f : RegisterFile). f.capabilities ≡ (first_file dump).capabilities) dump.files is.one_capabilities in
    All-map (FitsGoal (first_file dump)) start_processor (files_for cpus dump)
    (holds_for (λ f. FitsGoal (first_file dump) (start_processor f)) cpus dump is (λ k d within. record { width = sym (widths k d within); capabilities = sym (capabilities k d within) }))

-- none has finished an update
pub none_finished : (most : ℕ) (files : List RegisterFile) → All (λ p. p.era ≤ most) (map start_processor files)
none_finished most files = All-map (λ (p : Processor). p.era ≤ most) start_processor files (λ k d within. omega arith)
