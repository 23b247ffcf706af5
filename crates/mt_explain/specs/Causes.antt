-- Which registers give memory a type that doesn't fit (own).
--     AreCauses file ranges causes      the longest runs of pages that don't fit in one way and whose types the same registers give
use Rattle.std.specs.Prelude.{ℕ, List, Option}
use Rattle.std.specs.Option.{option_map}
use Rattle.mt_regs.specs.RegisterFile.{RegisterFile, page_count}
use Rattle.mt_explain.specs.declared.cause.Cause.{Cause}
use Rattle.mt_explain.specs.declared.decider.Decider.{Decider}
use Rattle.mt_memory_kinds.specs.declared.kind.MemoryRange.{MemoryRange}
use Rattle.mt_explain.specs.declared.memory.Misfit.{Misfit}
use Rattle.mt_explain.specs.declared.span.Span.{Span}
use Rattle.mt_explain.specs.Deciders.{decider_of}
use Rattle.mt_explain.specs.Memory.{misfit_at}
use Rattle.mt_explain.specs.Spans.{AreSpans}

abbrev pub cause_of : Decider → Misfit → Cause
cause_of decider misfit = record { misfit = misfit; decider = decider }

abbrev pub cause_at : RegisterFile → List MemoryRange → ℕ → Option Cause
cause_at f ranges page = option_map (cause_of (decider_of f page)) (misfit_at f ranges page)

abbrev pub AreCauses : RegisterFile → List MemoryRange → List (Span Cause) → Type 0
AreCauses f ranges causes = AreSpans (cause_at f ranges) 0 (page_count f) causes
