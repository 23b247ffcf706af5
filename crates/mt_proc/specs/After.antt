-- What requests make of a file that processors have, and what is written of them (own).
--     asked now request      what stands after one request; answer_text now request, what is written of it
--     end_text now      what is written at the end
use Rattle.std.specs.Prelude.{ℕ, ◌+◌, List, [], ◌∷◌, ◌++◌, codes, decimal, Option, None, Some}
use Rattle.std.specs.Option.{option_map_or}
use Rattle.mt_regs.specs.declared.fault.Fault.{Fault}
use Rattle.mt_regs.specs.FirstFault.{first_fault}
use Rattle.mt_regs.specs.RegisterFile.{RegisterFile}
use Rattle.mt_output.specs.Lines.{line, refused_line}
use Rattle.mt_proc.specs.declared.applying.Applied.{Applied}
use Rattle.mt_proc.specs.declared.applying.Applied.TheVariants.{BadRange, Goal, NoneFree, NotUsed}
use Rattle.mt_proc.specs.declared.request.Request.{Request}
use Rattle.mt_proc.specs.declared.request.Request.TheVariants.{Disable, Range}
use Rattle.mt_proc.specs.Applied.{applied}
use Rattle.mt_proc.specs.Listing.{listing}

-- processor 0's file, which all processors have once a request was carried out, and how many were
pub record Served : Type 0 where
  pub file : RegisterFile
  pub count : ℕ

-- a goal with a fault changes nothing
abbrev pub with_goal : Served → RegisterFile → Option Fault → Served
with_goal now goal (Some fault) = now
with_goal now goal None = record { file = goal; count = now.count + 1 }

abbrev pub with_change : Served → Applied → Served
with_change now (Goal goal n) = with_goal now goal (first_fault goal)
with_change now other = now

abbrev pub asked : Served → Request → Served
asked now request = with_change now (applied now.file request)

abbrev pub after_all : Served → List Request → Served
after_all now [] = now
after_all now (request ∷ requests) = after_all (asked now request) requests

abbrev pub at_first : RegisterFile → Served
at_first file = record { file = file; count = 0 }

-- ---- texts

abbrev pub done_text : Request → ℕ → List ℕ
done_text (Range base size kind) n = line (codes "set " ++ decimal n)
done_text (Disable pair) n = line (codes "cleared " ++ decimal n)

abbrev pub change_text : Request → Applied → List ℕ
change_text request (Goal goal n) = option_map_or refused_line (first_fault goal) (done_text request n)
change_text request BadRange = line (codes "bad range")
change_text request NoneFree = line (codes "full")
change_text request NotUsed = line (codes "not used")

abbrev pub answer_text : Served → Request → List ℕ
answer_text now request = change_text request (applied now.file request)

abbrev pub answers : Served → List Request → List ℕ
answers now [] = []
answers now (request ∷ requests) = answer_text now request ++ answers (asked now request) requests

abbrev pub era_line : ℕ → List ℕ
era_line count = line (codes "era " ++ decimal count)

abbrev pub end_text : Served → List ℕ
end_text now = listing now.file ++ era_line now.count
