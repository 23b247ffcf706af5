use Rattle.std.proofs.Common.{◌≡◌, ◌++◌, take}
use Rattle.std.specs.List.{All}
use Rattle.mtrr_rows.specs.Plain.{IsPlain}
use Rattle.mtrr_rows.specs.declared.escapes.Escape.TheVariants.{No}
use Rattle.mtrr_rows.proofs.escapes.append_unescaped.Given as goal

-- a text without a backslash has been added as far as it was read
abbrev pub invariant-loop-byte : goal.invariant-loop-byte
invariant-loop-byte l = All IsPlain l.fn.text → (l.escape ≡ No) × (l.bytes.items ≡ l.fn.bytes.items ++ take l.byte-index l.fn.text)
