-- How long times are at most, as they are written.
use Rattle.std.proofs.Common.{◌≡◌, ℕ, ◌+◌, ◌≤◌, Bool, true, false, ℤ, List, [], ◌∷◌, ◌++◌, length, refl, arith, length-append}
use Rattle.std.specs.Prelude.{if◌then◌else◌}
use Rattle.rpki_der.specs.Tags.{utc_time_tag, generalized_time_tag}
use Rattle.rpki_der.specs.Value.{spelling}
use Rattle.rpki_der.specs.Writing.{der_length, with_bit_6, primitive_value, der_primitive, der_constructed}
use Rattle.rpki_base.specs.Civil.{civil_at}
use Rattle.rpki_base.specs.TimeText.{utc_text, generalized_text, is_utc_year, time_value, der_time}
use Rattle.rpki_base.specs.Validity.{ValidityFields}
use Rattle.rpki_base.specs.WritingLaws.{length-der_length}

-- ---- one value

pub primitive_size : (tag content : List ℕ) → length (der_primitive tag content) ≤ length tag + 5 + length content
primitive_size tag content = omega (arith, length-append tag (der_length (length content) ++ content), length-append (der_length (length content)) content, length-der_length (length content))

bit_6_size : (tag : List ℕ) → length (with_bit_6 tag) ≡ length tag
bit_6_size [] = refl
bit_6_size (a ∷ more) = refl

pub constructed_size : (tag content : List ℕ) → length (der_constructed tag content) ≤ length tag + 5 + length content
constructed_size tag content = omega (arith, bit_6_size tag, length-append (with_bit_6 tag) (der_length (length content) ++ content), length-append (der_length (length content)) content, length-der_length (length content))

-- contents are within the value
pub content_within : (tag content : List ℕ) → length content ≤ length (der_constructed tag content)
content_within tag content = omega (arith, length-append (with_bit_6 tag) (der_length (length content) ++ content), length-append (der_length (length content)) content)

-- ---- times

text_size : (seconds : ℤ) (b : Bool) → length (spelling (if b then primitive_value utc_time_tag (utc_text (civil_at seconds)) else primitive_value generalized_time_tag (generalized_text (civil_at seconds)))) ≤ 32
text_size seconds true = let n : length (utc_text (civil_at seconds)) ≡ 13 = refl in omega (arith, n, primitive_size utc_time_tag (utc_text (civil_at seconds)))
text_size seconds false = let n : length (generalized_text (civil_at seconds)) ≡ 15 = refl in omega (arith, n, primitive_size generalized_time_tag (generalized_text (civil_at seconds)))

pub time_size : (seconds : ℤ) → length (der_time seconds) ≤ 32
unfolding der_time time_value
time_size seconds = text_size seconds (is_utc_year (civil_at seconds).year)

pub times_size : (v : ValidityFields) → length (der_time v.not_before ++ der_time v.not_after) ≤ 64
times_size v = omega (arith, length-append (der_time v.not_before) (der_time v.not_after), time_size v.not_before, time_size v.not_after)
