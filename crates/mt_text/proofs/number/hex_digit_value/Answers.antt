use Rattle.std.proofs.Common.{◌≡◌, ◌∙◌, ℕ, ◌<◌, nat_lt, map, get_or, Option, Some, None, refl, sym, ap, arith}
use Rattle.std.specs.Prelude.{if◌then◌else◌}
use Rattle.std.proofs.lemmas.Bool.{le-ltb, lt-ltb}
use Rattle.std.proofs.lemmas.List.{get_or-map}
use Rattle.std.proofs.lemmas.List.FromFn.{get_or-map-range_with_len}
use Rattle.std.specs.List.{range_with_len}
use Rattle.hex.specs.Hex.{hex_digit_value}
use Rattle.mt_text.specs.declared.number.TheConstants.{HEX_VALUES}
use Rattle.mt_text.proofs.number.hex_digit_value.Goals as goal

-- what the table says of a byte whose value it has
abbrev said : ℕ → Option ℕ
said value = if nat_lt value 16 then Some value else None

table_is : map said HEX_VALUES ≡ map hex_digit_value (range_with_len 0 256)
table_is = refl

read : (byte : ℕ) → byte < 256 → said (get_or HEX_VALUES byte 0) ≡ hex_digit_value byte
read byte small =
    sym (get_or-map said HEX_VALUES byte 0 None small) ∙ ap (λ t. get_or t byte None) table_is
    ∙ get_or-map-range_with_len hex_digit_value 0 256 byte byte None small (omega arith)

pub returns-then-value-lt16-clause-value : goal.returns-then-value-lt16-clause-value
returns-then-value-lt16-clause-value c = let is = read c.args.byte (omega arith) in let e = lt-ltb _ 16 c.if-value-lt16.true in rw e at is

pub returns-else-value-lt16-clause-value : goal.returns-else-value-lt16-clause-value
returns-else-value-lt16-clause-value c = let is = read c.args.byte (omega arith) in let e = le-ltb _ 16 c.if-value-lt16.false in rw e at is
