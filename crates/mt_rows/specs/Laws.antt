-- The laws of rows (own).
use Rattle.std.specs.Prelude.{ℕ, [], ◌≡◌, true, List, None, Some}
use Rattle.mt_rows.specs.declared.row.Fields.{Fields}
use Rattle.mt_rows.specs.Scan.{Item, Part, scan, scanned}
use Rattle.mt_rows.specs.Printed.{fit, is_cut, is_parted, may_follow, printed, shown}
use Rattle.mt_rows.specs.Apart.{apart_from}

-- What a row prints of texts that fit, it reads with the numbers of these texts.
abbrev pub PrintedIsRead : Type 0
PrintedIsRead = (size : ℕ) (items : List Item) (texts : List (List ℕ)) (tail : List ℕ) (fields : Fields) → is_parted items ≡ true → fit items texts ≡ true → may_follow items tail ≡ true
    → scan size items (printed items texts tail) fields ≡ Some (shown size items texts tail fields)

-- A line that is cut within its last text isn't read.
abbrev pub CutIsNotRead : Type 0
CutIsNotRead = (size : ℕ) (items : List Item) (texts : List (List ℕ)) (fields : Fields) → is_parted items ≡ true → is_cut items texts ≡ true
    → scan size items (printed items texts []) fields ≡ None

-- A line that a row reads isn't read by a row that is apart from it.
abbrev pub OneRow : Type 0
OneRow = (parts others : List Part) (line : List ℕ) (fields : Fields) → apart_from parts others ≡ true → scanned parts line ≡ Some fields → scanned others line ≡ None
