-- Where rows read a line, and what a table holds (own).
--     stands parts line      how many bytes stand in front of the first word from which a row reads a line, and the numbers behind them
--     next_word text      the next word, and what stands behind it
--     first_named names text      the kind that the first of these names that reads a text has
--     has_heading headings line      one of these rows reads the line from some word on
use Rattle.std.specs.Prelude.{ℕ, ◌+◌, ◌&&◌, ◌||◌, not, Bool, true, false, List, [], ◌∷◌, if◌then◌else◌, Option, Some, None, is_some}
use Rattle.std.specs.Borrow.{Bor}
use Rattle.mt_rows.specs.declared.row.Fields.{Fields}
use Rattle.mt_rows.specs.declared.row.Run.{Run}
use Rattle.mt_rows.specs.Scan.{Held, Part, parts_at, parts_in, scanned}
use Rattle.mt_text.specs.Text.{is_blank}
use Rattle.mt_memory_kinds.specs.declared.kind.MemoryKind.{MemoryKind}
use Rattle.mt_memory.specs.declared.table.Ends.{Ends}
use Rattle.mt_memory.specs.declared.table.Front.{Front}
use Rattle.mt_memory.specs.declared.table.Named.{Named}

-- ---- tables

abbrev pub Form : Type 0
Form = List Part × Front × List Part × Ends × Named

abbrev pub Name : Type 0
Name = List Part × MemoryKind

-- The lines of a format: forms of ranges, names of kinds, what stands in the lines that begin a map, and whether the source lists ranges in
-- ascending order.
pub record Table : Type 0 where
  pub forms : List Form
  pub names : List Name
  pub headings : List (List Part)
  pub ascends : Bool

-- parts behind references, and those of a constant
abbrev pub Lent : Type 0
Lent = Bor (List (Bor (List ℕ) × Run))

abbrev pub Kept : Type 0
Kept = Held (List (Held (List ℕ) × Run))

-- a form, and the same of a constant
abbrev pub LentForm : Type 0
LentForm = Lent × Front × Lent × Ends × Named

abbrev pub KeptForm : Type 0
KeptForm = Kept × Front × Kept × Ends × Named

abbrev pub form_at : LentForm → Form
form_at form = (parts_at form.0.now, form.1, parts_at form.2.now, form.3, form.4)

abbrev pub forms_at : List LentForm → List Form
forms_at [] = []
forms_at (form ∷ forms) = form_at form ∷ forms_at forms

abbrev pub names_at : List (Lent × MemoryKind) → List Name
names_at [] = []
names_at (name ∷ names) = (parts_at name.0.now, name.1) ∷ names_at names

abbrev pub headings_at : List Lent → List (List Part)
headings_at [] = []
headings_at (heading ∷ headings) = parts_at heading.now ∷ headings_at headings

abbrev pub table_at : Bor (List LentForm) × Bor (List (Lent × MemoryKind)) × Bor (List Lent) × Bool → Table
table_at table = record { forms = forms_at table.0.now; names = names_at table.1.now; headings = headings_at table.2.now; ascends = table.3 }

abbrev pub forms_in : List KeptForm → List Form
forms_in [] = []
forms_in (form ∷ forms) = (parts_in form.0.now, form.1, parts_in form.2.now, form.3, form.4) ∷ forms_in forms

abbrev pub names_in : List (Kept × MemoryKind) → List Name
names_in [] = []
names_in (name ∷ names) = (parts_in name.0.now, name.1) ∷ names_in names

abbrev pub headings_in : List Kept → List (List Part)
headings_in [] = []
headings_in (heading ∷ headings) = parts_in heading.now ∷ headings_in headings

abbrev pub table_in : Held (List KeptForm) × Held (List (Kept × MemoryKind)) × Held (List Kept) × Bool → Table
table_in table = record { forms = forms_in table.0.now; names = names_in table.1.now; headings = headings_in table.2.now; ascends = table.3 }

-- ---- rows in a line

-- the numbers of what is left of a line, if a word begins with its first byte and a row reads it
abbrev pub fields_at : List Part → Bool → ℕ → List ℕ → Option Fields
fields_at parts starts byte rest = if starts && not (is_blank byte) then scanned parts rest else None

abbrev pub found_or : ℕ → Option Fields → Option (ℕ × Fields) → Option (ℕ × Fields)
found_or at (Some fields) next = Some (at, fields)
found_or at None next = next

-- the same of a line behind so many bytes, with whether a word may begin there
abbrev pub stands_at : List Part → ℕ → Bool → List ℕ → Option (ℕ × Fields)
stands_at parts at starts [] = None
stands_at parts at starts (x ∷ xs) = found_or at (fields_at parts starts x (x ∷ xs)) (stands_at parts (at + 1) (is_blank x) xs)

abbrev pub stands : List Part → List ℕ → Option (ℕ × Fields)
stands parts line = stands_at parts 0 true line

-- ---- names

abbrev pub first_named : List Name → List ℕ → Option MemoryKind
first_named [] text = None
first_named (name ∷ names) text = if is_some (scanned name.0 text) then Some name.1 else first_named names text

-- the first word from here on, behind a blank or if one has been passed
abbrev pub word_behind : Bool → List ℕ → List ℕ
word_behind left [] = []
word_behind left (x ∷ xs) = if left && not (is_blank x) then x ∷ xs else word_behind (left || is_blank x) xs

abbrev pub next_word : List ℕ → List ℕ
next_word text = word_behind false text

-- ---- headings

abbrev pub has_heading : List (List Part) → List ℕ → Bool
has_heading [] line = false
has_heading (heading ∷ headings) line = is_some (stands heading line) || has_heading headings line
