use Rattle.std.proofs.Common.{◌≡◌, true, take}
use Rattle.std.specs.List.{list_all}
use Rattle.std.specs.Char.{is_digit}
use Rattle.std.specs.Str.Parse.{digits_value}
use Rattle.device_text.proofs.digits.number.Given as goal

-- the value of the digits so far
abbrev pub invariant-loop-byte : goal.invariant-loop-byte
invariant-loop-byte l =
    record {
      digits : list_all (λ c. is_digit c l.base) (take l.byte-index l.text) ≡ true;
      value : l.value ≡ digits_value l.base (take l.byte-index l.text);
    }
