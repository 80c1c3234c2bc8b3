-- What a text of octets spells as a key identifier are octets.
use Rattle.std.proofs.Common.{◌≡◌, ℕ, List, [], ◌++◌, length, Option, Some, None, replicate, refl, sym, ap, subst, ◌∙◌}
use Rattle.std.specs.Option.{option_or}
use Rattle.base64.specs.Engines.{url_safe, url_safe_no_pad}
use Rattle.base64.specs.GeneralPurpose.{encode_of, decode_of, decoded_of, engine_symbols, IsBytes}
use Rattle.base64.specs.Rfc4648.{encode_symbols, padding_len}
use Rattle.base64.proofs.EngineFacts.{decode_of_strict, decode_of-encode_of}
use Rattle.rpki_common.proofs.Truths.{same_some}
use Rattle.rpki_text.specs.KeyIdentifier.{twenty, key_identifier_of_text}
use Rattle.rpki_text.proofs.Base64Laws.{decode_of-told}
use Rattle.rpki_text.proofs.KeyIdentifierLaws.{twenty-told}
use Rattle.rpki_xml.specs.Lettered.{AreOctets}
use Rattle.rpki_xmltext.proofs.Symbols.{alike, front_octets, octet_byte, same_ok}

plain_bytes : (text k : List ℕ) → AreOctets text → twenty (decoded_of url_safe_no_pad text) ≡ Some k → IsBytes k
plain_bytes text k h e =
    let ok = decode_of-told url_safe_no_pad text k (twenty-told (decoded_of url_safe_no_pad text) k e).0 in
    let spelled : text ≡ encode_of url_safe_no_pad k = decode_of_strict url_safe_no_pad text k (refl, refl) (octet_byte text h) ok in
    let front = front_octets (engine_symbols url_safe_no_pad) refl k [] (subst AreOctets spelled h) in
    let other = alike (engine_symbols url_safe_no_pad) refl k front in
    let again = decode_of-encode_of url_safe_no_pad other.octets refl other.bytes in
    let texts : encode_of url_safe_no_pad other.octets ≡ encode_of url_safe_no_pad k = ap (λ (s : List ℕ). s ++ []) other.symbols in
    subst IsBytes (same_ok other.octets k (sym again ∙ ap (decode_of url_safe_no_pad) (texts ∙ sym spelled) ∙ ok)) other.bytes

padded_bytes : (text k : List ℕ) → AreOctets text → twenty (decoded_of url_safe text) ≡ Some k → IsBytes k
padded_bytes text k h e =
    let ok = decode_of-told url_safe text k (twenty-told (decoded_of url_safe text) k e).0 in
    let spelled : text ≡ encode_of url_safe k = decode_of_strict url_safe text k (refl, refl) (octet_byte text h) ok in
    let front = front_octets (engine_symbols url_safe) refl k (replicate (padding_len (length k)) 61) (subst AreOctets spelled h) in
    let other = alike (engine_symbols url_safe) refl k front in
    let again = decode_of-encode_of url_safe other.octets refl other.bytes in
    let texts : encode_of url_safe other.octets ≡ encode_of url_safe k =
    ap (λ (s : List ℕ). s ++ replicate (padding_len (length other.octets)) 61) other.symbols ∙ ap (λ (n : ℕ). encode_symbols (engine_symbols url_safe) k ++ replicate (padding_len n) 61) other.amount in
    subst IsBytes (same_ok other.octets k (sym again ∙ ap (decode_of url_safe) (texts ∙ sym spelled) ∙ ok)) other.bytes

pub record IsKey (k : List ℕ) : Type 0 where
  pub octets : IsBytes k
  pub count : length k ≡ 20

either_key : (text k : List ℕ) → AreOctets text → (a : Option (List ℕ)) → twenty (decoded_of url_safe_no_pad text) ≡ a → option_or a (twenty (decoded_of url_safe text)) ≡ Some k → IsKey k
either_key text k h (Some j) e is =
    let same : j ≡ k = same_some j k is in
    let found = e ∙ ap (λ (x : List ℕ). Some x) same in
    record { octets = plain_bytes text k h found; count = (twenty-told (decoded_of url_safe_no_pad text) k found).1 }
either_key text k h None e is = record { octets = padded_bytes text k h is; count = (twenty-told (decoded_of url_safe text) k is).1 }

pub key_read : (text k : List ℕ) → AreOctets text → key_identifier_of_text text ≡ Some k → IsKey k
key_read text k h is = either_key text k h (twenty (decoded_of url_safe_no_pad text)) refl is
