-- What a text of octets spells in base64 are octets.
use Rattle.std.proofs.Common.{◌≡◌, ℕ, Bool, true, false, List, [], ◌∷◌, ◌++◌, length, Some, replicate, filter, cond, refl, sym, ap, subst, ◌∙◌}
use Rattle.std.specs.List.{list_all}
use Rattle.std.proofs.lemmas.List.Folds.{list_all-append}
use Rattle.base64.specs.Engines.{standard}
use Rattle.base64.specs.GeneralPurpose.{encode_of, decode_of, engine_symbols, IsBytes}
use Rattle.base64.specs.Rfc4648.{encode_symbols, padding_len}
use Rattle.base64.proofs.EngineFacts.{decode_of_strict, decode_of-encode_of}
use Rattle.rpki_common.proofs.Truths.{both}
use Rattle.rpki_text.specs.Base64.{is_not_space, base64_content}
use Rattle.rpki_text.proofs.Base64Laws.{decode_of-told}
use Rattle.rpki_xml.specs.Lettered.{AreOctets}
use Rattle.rpki_xml.specs.Lexing.{is_octet}
use Rattle.rpki_xmltext.proofs.Symbols.{alike, octet_byte, same_ok}

abbrev table : List ℕ
table = engine_symbols standard

same_text : (a b : List ℕ) → encode_symbols table a ≡ encode_symbols table b → length a ≡ length b → encode_of standard a ≡ encode_of standard b
same_text a b e f = ap (λ (s : List ℕ). s ++ replicate (padding_len (length a)) 61) e ∙ ap (λ (n : ℕ). encode_symbols table b ++ replicate (padding_len n) 61) f

filtered : (test : ℕ → Bool) (text : List ℕ) → AreOctets text → AreOctets (filter test text)
filtered test [] h = refl
filtered test (c ∷ text) h =
    let p = both (is_octet c) (list_all is_octet text) h in
    go (test c) p.0 (filtered test text p.1)
  where
    go : (x : Bool) → is_octet c ≡ true → AreOctets (filter test text) → AreOctets (cond x (c ∷ filter test text) (filter test text))
    go true f g = rw (f, g) refl
    go false f g = g

-- a text of octets, without its white space, is the one text of the octets that it spells
pub content_spelled : (text content : List ℕ) → AreOctets text → base64_content text ≡ Some content → filter is_not_space text ≡ encode_of standard content
content_spelled text content h e =
    let s : List ℕ = filter is_not_space text in
    decode_of_strict standard s content (refl, refl) (octet_byte s (filtered is_not_space text h)) (decode_of-told standard s content e)

pub content_bytes : (text content : List ℕ) → AreOctets text → base64_content text ≡ Some content → IsBytes content
content_bytes text content h e =
    let s : List ℕ = filter is_not_space text in
    let octets : AreOctets s = filtered is_not_space text h in
    let ok = decode_of-told standard s content e in
    let spelled : s ≡ encode_of standard content = content_spelled text content h e in
    let front = both (list_all is_octet (encode_symbols table content)) (list_all is_octet (replicate (padding_len (length content)) 61)) (sym (list_all-append is_octet (encode_symbols table content) (replicate (padding_len (length content)) 61)) ∙ subst AreOctets spelled octets) in
    let other = alike table refl content front.0 in
    let again = decode_of-encode_of standard other.octets refl other.bytes in
    let same = same_ok other.octets content (sym again ∙ ap (decode_of standard) (same_text other.octets content other.symbols other.amount ∙ sym spelled) ∙ ok) in
    subst IsBytes same other.bytes
