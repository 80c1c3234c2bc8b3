-- Digests as texts.
use Rattle.std.specs.Prelude.{ℕ, ◌==◌, if◌then◌else◌, List, length}
use Rattle.std.specs.declared.option.Option.{Option}
use Rattle.std.specs.declared.option.Option.TheVariants.{None}
use Rattle.std.specs.Result.{result_ok}
use Rattle.hex.specs.Hex.{decode_of}

-- The octets of a digest that is written as 64 hexadecimal digits, in either case.
abbrev pub digest_of_text : List ℕ → Option (List ℕ)
digest_of_text text = if length text == 64 then result_ok (decode_of text) else None
