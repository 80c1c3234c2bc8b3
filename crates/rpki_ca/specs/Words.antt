-- What single words of a command line say.
use Rattle.std.specs.Prelude.{◌≡◌, ◌≤◌, ℕ, ℤ, pos, negsuc, Option, Some, List, slice_get}
use Rattle.std.specs.Result.{result_ok}
use Rattle.std.specs.Fmt.{decimal}
use Rattle.hex.specs.Hex.{decode_of}
use Rattle.rpki_common.specs.Chaining.{◌>>=◌}
use Rattle.rpki_der.specs.declared.mode.Mode.TheVariants.{Der}
use Rattle.rpki_der.specs.Whole.{whole_of}
use Rattle.rpki_base.specs.PublicKey.{KeyFields, public_key}

-- the word is the moment's seconds since 1970 in decimal digits without a leading zero, up to the
-- end of the year 9999
abbrev pub SpellsMoment : List ℕ → ℤ → Type 0
SpellsMoment word (pos seconds) = (word ≡ decimal seconds) × (seconds ≤ 253402300799)
SpellsMoment word (negsuc n) = ⊥

-- the word at the index is the moment's
pub record IsMomentAt (words : List (List ℕ)) (index : ℕ) (when : ℤ) : Type 0 where
  pub word : List ℕ
  pub stands : slice_get words index ≡ Some word
  pub moment : SpellsMoment word when

-- the word is the number in decimal digits without a leading zero, and the number is at most this
abbrev pub IsNumber : List ℕ → ℕ → ℕ → Type 0
IsNumber word most number = (word ≡ decimal number) × (number ≤ most)

-- the word at the index is the number's
pub record IsNumberAt (words : List (List ℕ)) (index most number : ℕ) : Type 0 where
  pub word : List ℕ
  pub stands : slice_get words index ≡ Some word
  pub number_is : IsNumber word most number

-- the one key that the octets are which the word spells, two digits each
abbrev pub key_of_word : List ℕ → Option KeyFields
key_of_word word = result_ok (decode_of word) >>= whole_of public_key Der

-- the key that the word at the index spells
abbrev pub key_at : List (List ℕ) → ℕ → Option KeyFields
key_at words index = slice_get words index >>= key_of_word
