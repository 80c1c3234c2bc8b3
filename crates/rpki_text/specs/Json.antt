-- JSON texts that are one string, and why a text was not read.
use Rattle.std.specs.Prelude.{◌≡◌, ℕ, List, option_and_then}
use Rattle.std.specs.declared.option.Option.{Option}
use Rattle.serde_json.specs.Errors.{IsMemory}
use Rattle.serde_json.specs.Read.{read}
use Rattle.serde_json.specs.Find.{as_str}
use Rattle.serde_json.specs.declared.error.Error.{Error}
use Rattle.rpki_text.specs.declared.json.JsonError.{JsonError}
use Rattle.rpki_text.specs.declared.json.JsonError.TheVariants as variant

-- What the string says that a JSON text is.
abbrev pub string_of_json : List ℕ → Option (List ℕ)
string_of_json text = option_and_then as_str (read text)

-- how the reader's error is told: want of memory as that, and any other as a malformed text
pub record IsCauseOf (error : Error) (told : JsonError) : Type 0 where
  pub memory : IsMemory error → told ≡ variant.OutOfMemory
  pub malformed : (IsMemory error → ⊥) → told ≡ variant.Malformed
