-- The longest runs of pages that have no defined type and that the same pairs match (own).
--     AreClashes file clashes      all of them, in ascending order
use Rattle.std.specs.Prelude.{◌≡◌, ◌↔◌, ℕ, List, [], Option, None, Some, if◌then◌else◌}
use Rattle.arrayvec.specs.ArrayVec.{ArrayVec}
use Rattle.mt_regs.specs.RegisterFile.{RegisterFile, page_count}
use Rattle.mt_regs.specs.PageTypes.{page_type}
use Rattle.mt_regs.specs.Faults.{IsAccepted}
use Rattle.mt_regs.specs.FirstFault.{is_undefined}
use Rattle.mt_explain.specs.declared.span.Span.{Span}
use Rattle.mt_explain.specs.FieldFaults.{field_faults}
use Rattle.mt_explain.specs.Pairs.{matching_pairs}
use Rattle.mt_explain.specs.Spans.{AreSpans}

abbrev pub numbers : List ℕ → ArrayVec ℕ
numbers ns = record { items = ns }

-- the pairs that match a page, if it has no defined type
abbrev pub clash_mark : RegisterFile → ℕ → Option (ArrayVec ℕ)
clash_mark f page = if is_undefined (page_type f page) then Some (numbers (matching_pairs f page)) else None

abbrev pub AreClashes : RegisterFile → List (Span (ArrayVec ℕ)) → Type 0
AreClashes f clashes = AreSpans (clash_mark f) 0 (page_count f) clashes

-- A file has neither a field at fault nor a page of no defined type if and only if it is accepted.
abbrev pub NothingIsFound : Type 0
NothingIsFound = (f : RegisterFile) (clashes : List (Span (ArrayVec ℕ))) → AreClashes f clashes → ((field_faults f ≡ []) × (clashes ≡ [])) ↔ IsAccepted f
