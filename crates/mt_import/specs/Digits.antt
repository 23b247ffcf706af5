-- What the tables of rows have besides what their laws say (own).
--     HaveDigits rows      each row has the digits that its meaning wants
use Rattle.std.specs.Prelude.{◌≡◌, List, [], ◌∷◌}
use Rattle.std.specs.List.{AllByRecursion}
use Rattle.mt_rows.specs.declared.row.Kind.TheVariants.{Blank, Mark, Ex, Hexadecimal, Decimal, Between, Number, Figure}
use Rattle.mt_rows.specs.Scan.{Item, items}
use Rattle.mt_rows.specs.Scan.Item.{byte, last, run}
use Rattle.mt_import.specs.declared.tables.Says.{Says}
use Rattle.mt_import.specs.declared.tables.Says.TheVariants.{Register, Halves, Turn, TurnToFirst, TurnToUnread, UnreadPrompt, Bare, BareHalves, OfProcessor, ValueFirst, Lists, ListsProcessor, ListsUnread, Width, Bad}
use Rattle.mt_import.specs.Tables.{Row}

-- the runs of digits that a row has
abbrev pub digit_runs : List Item → List Item
digit_runs [] = []
digit_runs (byte b ∷ items) = digit_runs items
digit_runs (last ∷ items) = digit_runs items
digit_runs (run Blank least most ∷ items) = digit_runs items
digit_runs (run Mark least most ∷ items) = digit_runs items
digit_runs (run Ex least most ∷ items) = digit_runs items
digit_runs (run Hexadecimal least most ∷ items) = run Hexadecimal least most ∷ digit_runs items
digit_runs (run Decimal least most ∷ items) = run Decimal least most ∷ digit_runs items
digit_runs (run Between least most ∷ items) = digit_runs items
digit_runs (run Number least most ∷ items) = run Number least most ∷ digit_runs items
digit_runs (run Figure least most ∷ items) = digit_runs items

-- Those that it has by its meaning. A value has a fixed number of digits, so that a cut one isn't read. Only a list's has as many as
-- it has, and a number in another form may have any.
abbrev pub wanted_runs : Says → List Item → List Item
wanted_runs Register runs = run Hexadecimal 1 16 ∷ run Hexadecimal 16 16 ∷ []
wanted_runs Halves runs = run Hexadecimal 1 16 ∷ run Hexadecimal 8 8 ∷ run Hexadecimal 8 8 ∷ []
wanted_runs (Turn first) runs = run Decimal 1 20 ∷ []
wanted_runs TurnToFirst runs = []
wanted_runs TurnToUnread runs = []
wanted_runs UnreadPrompt runs = []
wanted_runs Bare runs = run Hexadecimal 1 16 ∷ run Hexadecimal 16 16 ∷ []
wanted_runs BareHalves runs = run Hexadecimal 1 16 ∷ run Hexadecimal 8 8 ∷ run Hexadecimal 8 8 ∷ []
wanted_runs OfProcessor runs = run Decimal 1 20 ∷ run Hexadecimal 1 16 ∷ run Hexadecimal 16 16 ∷ []
wanted_runs ValueFirst runs = run Hexadecimal 16 16 ∷ run Hexadecimal 1 16 ∷ run Hexadecimal 1 16 ∷ []
wanted_runs Lists runs = run Number 1 18 ∷ run Number 1 18 ∷ []
wanted_runs ListsProcessor runs = run Decimal 1 20 ∷ run Number 1 18 ∷ run Number 1 18 ∷ []
wanted_runs ListsUnread runs = run Number 1 18 ∷ run Number 1 18 ∷ run Number 1 18 ∷ []
wanted_runs Width runs = run Decimal 1 20 ∷ []
wanted_runs (Bad why) runs = runs

abbrev pub HaveDigits : List Row → Type 0
HaveDigits rows = AllByRecursion (λ (row : Row). digit_runs (items row.0) ≡ wanted_runs row.1 (digit_runs (items row.0))) rows
