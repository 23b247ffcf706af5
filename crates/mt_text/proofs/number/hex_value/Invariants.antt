use Rattle.std.proofs.Common.{◌≡◌, ◌+◌, ◌*◌, ◌<◌, ◌^◌, drop}
use Rattle.std.specs.Prelude.{fold, unwrap_or}
use Rattle.std.specs.List.{list_all}
use Rattle.hex.specs.Hex.{hex_digit_value, is_hex_digit}
use Rattle.mt_text.specs.Number.{hex_value}
use Rattle.mt_text.proofs.number.hex_value.Given as goal

abbrev pub invariant-digits : goal.invariant-digits
invariant-digits l = record {
  small : l.value < 16 ^ l.digit-index;
  all : list_all is_hex_digit (drop l.digit-index l.digits) ≡ list_all is_hex_digit l.digits;
  leads : fold (λ value digit. value * 16 + unwrap_or (hex_digit_value digit) 0) l.value (drop l.digit-index l.digits) ≡ hex_value l.digits;
}
