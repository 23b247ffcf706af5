-- What a row prints of the texts of its runs (own).
--     printed items texts tail      the line, with what follows behind the row
--     fit items texts      each text may stand in its run
--     shown size items texts tail fields      the numbers of these texts
--     is_parted items      each run ends where its text does
use Rattle.std.specs.Prelude.{ℕ, ◌-◌, ◌&&◌, ◌||◌, nat_le, nat_lt, not, Bool, true, false, List, [], ◌∷◌, ◌++◌, length, Result, Ok, Err}
use Rattle.std.specs.List.{list_all}
use Rattle.mt_text.specs.Number.{decimal_number, hex_number}
use Rattle.mt_text.specs.declared.fault.NumberFault.{NumberFault}
use Rattle.mt_rows.specs.declared.row.Kind.{Kind}
use Rattle.mt_rows.specs.declared.row.Kind.TheVariants.{Blank, Mark, Ex, Hexadecimal, Decimal, Between, Number, Figure}
use Rattle.mt_rows.specs.declared.row.Fields.{Fields}
use Rattle.mt_rows.specs.Scan.{Item, has, is_empty, is_end, is_marked, is_within, push}
use Rattle.mt_rows.specs.Scan.Item.{byte, last, run}

abbrev pub printed : List Item → List (List ℕ) → List ℕ → List ℕ
printed [] texts tail = tail
printed (byte b ∷ items) texts tail = b ∷ printed items texts tail
printed (last ∷ items) texts tail = printed items texts tail
printed (run kind least most ∷ items) [] tail = tail
printed (run kind least most ∷ items) (text ∷ texts) tail = text ++ printed items texts tail

abbrev pub is_number : Result ℕ NumberFault → Bool
is_number (Ok number) = true
is_number (Err fault) = false

-- a run of this kind has a number, if it is of digits
abbrev pub is_known : Kind → List ℕ → Bool
is_known Blank text = true
is_known Mark text = true
is_known Ex text = true
is_known Hexadecimal text = is_number (hex_number text)
is_known Decimal text = is_number (decimal_number text 0xffffffffffffffff)
is_known Between text = true
is_known Number text = not (is_marked text) && is_number (hex_number text)
is_known Figure text = true

-- each text is of its run's kind, and so long
abbrev pub fit : List Item → List (List ℕ) → Bool
fit [] texts = true
fit (byte b ∷ items) texts = fit items texts
fit (last ∷ items) texts = fit items texts
fit (run kind least most ∷ items) [] = false
fit (run kind least most ∷ items) (text ∷ texts) = list_all (has kind) text && is_within least most (length text) && is_known kind text && fit items texts

abbrev pub noted_number : Result ℕ NumberFault → ℕ → Fields → Fields
noted_number (Ok number) column fields = push fields number column
noted_number (Err fault) column fields = fields

-- the numbers behind a text
abbrev pub noted : Kind → ℕ → List ℕ → Fields → Fields
noted Blank column text fields = fields
noted Mark column text fields = fields
noted Ex column text fields = fields
noted Hexadecimal column text fields = noted_number (hex_number text) column fields
noted Decimal column text fields = noted_number (decimal_number text 0xffffffffffffffff) column fields
noted Between column text fields = fields
noted Number column text fields = noted_number (hex_number text) column fields
noted Figure column text fields = fields

abbrev pub shown : ℕ → List Item → List (List ℕ) → List ℕ → Fields → Fields
shown size [] texts tail fields = fields
shown size (byte b ∷ items) texts tail fields = shown size items texts tail fields
shown size (last ∷ items) texts tail fields = shown size items texts tail fields
shown size (run kind least most ∷ items) [] tail fields = fields
shown size (run kind least most ∷ items) (text ∷ texts) tail fields =
    shown size items texts tail (noted kind (size - length (text ++ printed items texts tail)) text fields)

-- how the bytes of two kinds lie
pub data Relation : Type 0 where
  alike : Relation
  apart : Relation
  inside : Relation
  around : Relation
  crossing : Relation

abbrev pub relation : Kind → Kind → Relation
relation Blank Blank = alike
relation Blank Between = inside
relation Blank kind = apart
relation Between Between = alike
relation Between Blank = around
relation Between Mark = crossing
relation Between kind = apart
relation Mark Between = crossing
relation kind Blank = apart
relation kind Between = apart
relation Mark Mark = alike
relation Mark kind = around
relation kind Mark = inside
relation Figure Figure = alike
relation Figure kind = around
relation kind Figure = inside
relation Number Number = alike
relation Number kind = around
relation kind Number = inside
relation Ex Ex = alike
relation Ex kind = apart
relation kind Ex = apart
relation Hexadecimal Hexadecimal = alike
relation Hexadecimal Decimal = around
relation Decimal Hexadecimal = inside
relation Decimal Decimal = alike

abbrev pub is_apart : Relation → Bool
is_apart alike = false
is_apart apart = true
is_apart inside = false
is_apart around = false
is_apart crossing = false

-- no byte is of both kinds
abbrev pub are_apart : Kind → Kind → Bool
are_apart kind other = is_apart (relation kind other)

-- no run of this kind goes on into what these items read
abbrev pub stops : Kind → List Item → Bool
stops kind [] = are_apart kind Blank
stops kind (byte b ∷ items) = not (has kind b)
stops kind (last ∷ items) = true
stops kind (run next least most ∷ items) = are_apart kind next && (nat_le 1 least || stops kind items)

abbrev pub is_parted : List Item → Bool
is_parted [] = true
is_parted (byte b ∷ items) = is_parted items
is_parted (last ∷ items) = is_parted items
is_parted (run kind least most ∷ items) = stops kind items && is_parted items

-- this may stand behind the row
abbrev pub may_follow : List Item → List ℕ → Bool
may_follow [] tail = is_end tail
may_follow (byte b ∷ items) tail = may_follow items tail
may_follow (run kind least most ∷ items) tail = may_follow items tail
may_follow (last ∷ []) tail = is_empty tail
may_follow (last ∷ item ∷ items) tail = false

-- each text fits, but the last one is cut: it is shorter than its run
abbrev pub is_cut : List Item → List (List ℕ) → Bool
is_cut [] texts = false
is_cut (byte b ∷ items) texts = is_cut items texts
is_cut (last ∷ items) texts = false
is_cut (run kind least most ∷ items) [] = false
is_cut (run kind least most ∷ []) (text ∷ texts) = list_all (has kind) text && nat_lt (length text) least
is_cut (run kind least most ∷ item ∷ items) (text ∷ texts) =
    list_all (has kind) text && is_within least most (length text) && is_known kind text && is_cut (item ∷ items) texts
