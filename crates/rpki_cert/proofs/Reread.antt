-- Certificates and requests that were read in DER are written as octets, which are read as them.
use Rattle.std.proofs.Common.{◌≡◌, ℕ, zero, suc, ◌<◌, ◌%◌, ◌/◌, Bool, true, false, Option, Some, None, Result, Ok, List, [], ◌∷◌, ◌++◌, length, refl, sym, ap, subst, arith}
use Rattle.std.specs.Prelude.{nat_lt, if◌then◌else◌}
use Rattle.std.specs.List.{list_all}
use Rattle.std.specs.Result.{IsErrAnd}
use Rattle.std.proofs.lemmas.Bool.{ltb-true}
use Rattle.std.proofs.lemmas.List.{append-nil}
use Rattle.base64.specs.GeneralPurpose.{IsBytes}
use Rattle.base64.proofs.EngineFacts.{front_bytes}
use Rattle.rpki_common.specs.Chaining.{◌>>=◌}
use Rattle.rpki_common.proofs.Bounds.{bound, chosen}
use Rattle.rpki_common.proofs.Truths.{none_some, same_some, both}
use Rattle.rpki_der.specs.declared.error.DecodeError.{DecodeError}
use Rattle.rpki_der.specs.declared.mode.Mode.{Mode}
use Rattle.rpki_der.specs.declared.mode.Mode.TheVariants.{Der}
use Rattle.rpki_der.specs.Bits.{BitFields, bits, bit_string}
use Rattle.rpki_der.specs.Grammar.{primitive, within, first, so}
use Rattle.rpki_der.specs.Held.{with_octets}
use Rattle.rpki_der.specs.Identifier.{has_tag}
use Rattle.rpki_der.specs.Position.{Position}
use Rattle.rpki_der.specs.Reader.{value_at, decoded}
use Rattle.rpki_der.specs.Tags.{sequence, bit_string_tag}
use Rattle.rpki_der.specs.Takes.{BeginsAs}
use Rattle.rpki_der.specs.Ticks.{CountedOne, CountedRefuses, CountedBegins, DecodesCounted}
use Rattle.rpki_der.specs.Value.{Value, Primitive, Constructed, Values, lengths_of, end_mark, spelling, spellings}
use Rattle.rpki_der.specs.Whole.{whole_of}
use Rattle.rpki_der.specs.Writing.{octets_of_number, der_length, with_bit_6, der_primitive, der_constructed}
use Rattle.rpki_der.proofs.Counting.{takes_err}
use Rattle.rpki_der.proofs.Decoding.{decoded_ok, value_at-sound}
use Rattle.rpki_der.proofs.Firsts.{first_is, done_is}
use Rattle.rpki_base.specs.AlgorithmLaws.{x509_named, x509_again, x509_value}
use Rattle.rpki_base.specs.AlgorithmIdentifier.{spelled_identifier}
use Rattle.rpki_base.specs.Bits.{spelled_bits}
use Rattle.rpki_base.specs.ObjectIdentifiers.{sha256_with_rsa}
use Rattle.rpki_base.specs.RpkiSignatureAlgorithm.{RpkiAlgorithm, x509_algorithm, spelled_x509}
use Rattle.rpki_base.specs.Signature.{SignatureParts}
use Rattle.rpki_base.specs.SignedData.{SignedParts, Signed, algorithm_in, signature_in, signed_as, signed_fields, signed_value, spelled_parts, spelled_data}
use Rattle.rpki_cert.specs.Cert.{CertFields, certificate}
use Rattle.rpki_cert.specs.Csr.{RequestFields, request_info, certification_request}
use Rattle.rpki_cert.specs.CsrAttributes.{ca_attributes}
use Rattle.rpki_text.proofs.Bytes.{both_bytes, byte_first, no_bytes}
use Rattle.rpki_idcert.proofs.Rewriting.{written_again}
use Rattle.rpki_cert.proofs.Captured.{decodes_counted, decodes_uncounted}
use Rattle.rpki_cert.proofs.Shorter.{back_bytes, request_spelled}
use Rattle.rpki_cert.proofs.Slices.{slice_is, certificate_again}
use Rattle.rpki_cert.specs.Making.{CaRequest}
use Rattle.rpki_cert.specs.ReadInDer.{IsCertificate, IsReadInDer, IsRequest}

-- ---- octets

all_bytes : (l : List ℕ) → list_all (λ c. nat_lt c 256) l ≡ true → IsBytes l
all_bytes [] h = no_bytes
all_bytes (x ∷ l) h =
    let p = both (nat_lt x 256) (list_all (λ c. nat_lt c 256) l) h in
    byte_first x l (ltb-true x 256 p.0) (all_bytes l p.1)

number_bytes : (k n : ℕ) → IsBytes (octets_of_number k n)
number_bytes zero n = no_bytes
number_bytes (suc k) n = both_bytes (octets_of_number k (n / 256)) (n % 256 ∷ []) (number_bytes k (n / 256)) (byte_first (n % 256) [] (omega arith) no_bytes)

either_bytes : (b : Bool) (x y : List ℕ) → (b ≡ true → IsBytes x) → IsBytes y → IsBytes (if b then x else y)
either_bytes true x y f g = f refl
either_bytes false x y f g = g

small : (n : ℕ) → nat_lt n 128 ≡ true → n < 256
small n e = let h = ltb-true n 128 e in omega (arith, h)

length_bytes : (n : ℕ) → IsBytes (der_length n)
length_bytes n =
    either_bytes (nat_lt n 128) (n ∷ []) _ (λ t. byte_first n [] (small n t) no_bytes)
    (either_bytes (nat_lt n 256) (129 ∷ octets_of_number 1 n) _ (λ t. byte_first 129 (octets_of_number 1 n) (omega arith) (number_bytes 1 n))
    (either_bytes (nat_lt n 65536) (130 ∷ octets_of_number 2 n) _ (λ t. byte_first 130 (octets_of_number 2 n) (omega arith) (number_bytes 2 n))
    (either_bytes (nat_lt n 16777216) (131 ∷ octets_of_number 3 n) _ (λ t. byte_first 131 (octets_of_number 3 n) (omega arith) (number_bytes 3 n))
    (byte_first 132 (octets_of_number 4 n) (omega arith) (number_bytes 4 n)))))

primitive_bytes : (tag content : List ℕ) → IsBytes tag → IsBytes content → IsBytes (der_primitive tag content)
primitive_bytes tag content t c = both_bytes tag (der_length (length content) ++ content) t (both_bytes (der_length (length content)) content (length_bytes (length content)) c)

sequence_bytes : (content : List ℕ) → IsBytes content → IsBytes (der_constructed sequence content)
sequence_bytes content c =
    both_bytes (with_bit_6 sequence) (der_length (length content) ++ content) (all_bytes (with_bit_6 sequence) refl) (both_bytes (der_length (length content)) content (length_bytes (length content)) c)

-- ---- what is signed, and its signature

algorithm_bytes : (null : Bool) (a : RpkiAlgorithm) → a.null ≡ null → IsBytes (spelled_x509 a)
algorithm_bytes true a e = rw e (all_bytes (spelled_identifier sha256_with_rsa true) refl)
algorithm_bytes false a e = rw e (all_bytes (spelled_identifier sha256_with_rsa false) refl)

content_bytes : (tag : List ℕ) (v : Value) (c : List ℕ) → IsBytes (spelling v) → primitive tag v ≡ Some c → IsBytes c
content_bytes tag (Primitive i l x) c h e = subst IsBytes (same_some x c (go (has_tag tag i) e)) (back_bytes l x (back_bytes i (l ++ x) h))
  where
    go : (b : Bool) → (if b then Some x else None) ≡ Some c → Some x ≡ Some c
    go true f = f
    go false f = absurd (none_some c f)
content_bytes tag (Constructed i f vs) c h e = absurd (none_some c e)

chosen_bits : (b : Bool) (x y : BitFields) → (if b then Some x else None) ≡ Some y → x ≡ y
chosen_bits true x y e = same_some x y e
chosen_bits false x y e = absurd (none_some y e)

bits_bytes : (c : List ℕ) (b : BitFields) → IsBytes c → bits c ≡ Some b → IsBytes b.octets
bits_bytes [] b h e = absurd (none_some b e)
bits_bytes (a ∷ []) b h e = subst (λ (k : BitFields). IsBytes k.octets) (chosen_bits _ _ b e) no_bytes
bits_bytes (a ∷ c ∷ more) b h e = subst (λ (k : BitFields). IsBytes k.octets) (chosen_bits _ _ b e) (λ i. h (suc i))

string_bytes : (v : Value) (b : BitFields) → IsBytes (spelling v) → bit_string v ≡ Some b → IsBytes b.octets
unfolding bit_string so
string_bytes v b h e =
    let c = bound (primitive bit_string_tag v) bits b e in
    bits_bytes c.x b (content_bytes bit_string_tag v c.x h c.found) c.then'

signature_bytes : (vs : Values) (s : SignatureParts RpkiAlgorithm) → IsBytes (spellings vs) → signature_in (whole_of x509_algorithm) Der vs ≡ Some s → IsBytes s.value
unfolding signature_in so ◌>>=◌
signature_bytes vs s h e =
    let a = bound (first (algorithm_in (whole_of x509_algorithm) Der) vs) _ s e in
    let b = bound (first bit_string a.x.1) _ s a.then' in
    let is = done_is _ s b.x.1 b.then' in
    let o = first_is (algorithm_in (whole_of x509_algorithm) Der) vs a.x a.found in
    let more : IsBytes (spellings a.x.1) = back_bytes (spelling o.value) (spellings a.x.1) (subst (λ us. IsBytes (spellings us)) o.parts h) in
    let k = first_is bit_string a.x.1 b.x b.found in
    let own : IsBytes (spelling k.value) = front_bytes (spelling k.value) (spellings b.x.1) (subst (λ us. IsBytes (spellings us)) k.parts more) in
    subst (λ (q : SignatureParts RpkiAlgorithm). IsBytes q.value) is (string_bytes k.value b.x.0 own k.reads)

held_slice : {T : Type 0} (grammar : Value → Option T) (v : Value) (p : List ℕ × T) → with_octets grammar v ≡ Some p → spelling v ≡ p.0
unfolding with_octets
held_slice {T} grammar v p e =
    let b = bound (grammar v) _ p e in
    ap (λ (q : List ℕ × T). q.0) (same_some _ p b.then')

record AreBytes (d : SignedParts RpkiAlgorithm) : Type 0 where
  slice' : IsBytes d.slice
  value' : IsBytes d.signature.value

parts_bytes : {T : Type 0} (tbs : Mode → Value → Option T) (vs : Values) (c : Signed RpkiAlgorithm T) → IsBytes (spellings vs)
    → (first (with_octets (tbs Der)) vs >>= λ held. signature_in (whole_of x509_algorithm) Der held.1 >>= λ s. Some (signed_fields held.0 s)) ≡ Some c → AreBytes c.signed
parts_bytes {T} tbs vs c h e =
    let a = bound (first (with_octets (tbs Der)) vs) _ c e in
    let s = bound (signature_in (whole_of x509_algorithm) Der a.x.1) _ c a.then' in
    let o = first_is (with_octets (tbs Der)) vs a.x a.found in
    let all = subst (λ us. IsBytes (spellings us)) o.parts h in
    let own : IsBytes (spelling o.value) = front_bytes (spelling o.value) (spellings a.x.1) all in
    let more : IsBytes (spellings a.x.1) = back_bytes (spelling o.value) (spellings a.x.1) all in
    subst (λ (q : Signed RpkiAlgorithm T). AreBytes q.signed) (same_some _ c s.then')
    (record { slice' = subst IsBytes (held_slice (tbs Der) o.value a.x.0 o.reads) own; value' = signature_bytes a.x.1 s.x more s.found })

signed_bytes : {T : Type 0} (tbs : Mode → Value → Option T) (v : Value) (c : Signed RpkiAlgorithm T) → IsBytes (spelling v) → signed_value tbs (whole_of x509_algorithm) Der v ≡ Some c → AreBytes c.signed
unfolding signed_value signed_as within
signed_bytes tbs (Primitive i l d) c h e = absurd (none_some c e)
signed_bytes tbs (Constructed i f vs) c h e =
    let inner = front_bytes (spellings vs) (end_mark f) (back_bytes (lengths_of f) (spellings vs ++ end_mark f) (back_bytes i (lengths_of f ++ (spellings vs ++ end_mark f)) h)) in
    parts_bytes tbs vs c inner (chosen (has_tag sequence i) _ c e)

data_bytes : (d : SignedParts RpkiAlgorithm) → AreBytes d → IsBytes (spelled_data spelled_x509 d)
data_bytes d h =
    sequence_bytes (spelled_parts spelled_x509 d) (both_bytes d.slice (spelled_x509 d.signature.algorithm ++ spelled_bits d.signature.value) h.slice'
    (both_bytes (spelled_x509 d.signature.algorithm) (spelled_bits d.signature.value) (algorithm_bytes d.signature.algorithm.null d.signature.algorithm refl)
    (primitive_bytes bit_string_tag (0 ∷ d.signature.value) (all_bytes bit_string_tag refl) (byte_first 0 d.signature.value (omega arith) h.value'))))

-- ---- what begins octets

abbrev pub as_request : List ℕ → Option CaRequest
as_request octets = decoded (certification_request ca_attributes (whole_of x509_algorithm) Der) Der octets

pub begins : {X : Type 0} (grammar : Value → Option X) (octets : List ℕ) (x : X) → decoded grammar Der octets ≡ Some x → BeginsAs grammar Der octets x
unfolding decoded
begins grammar octets x e =
    let b = bound (value_at Der octets) (λ v. grammar v.0) x e in
    record { value = b.x.0; rest = b.x.1; begins = value_at-sound Der octets b.x.0 b.x.1 b.found; reads = b.then' }

pub certificate_read : (o : List ℕ) (c : CertFields) → IsBytes o → BeginsAs (certificate Der) Der o c → IsCertificate c
certificate_read o c h b =
    let own : IsBytes (spelling b.value) = front_bytes (spelling b.value) b.rest (subst IsBytes b.begins.parts h) in
    record {
      octets = subst IsBytes (sym (slice_is Der b.value c b.reads)) own;
      read = subst (λ (l : List ℕ). decoded (certificate Der) Der l ≡ Some c) (append-nil c.slice) (decoded_ok (certificate Der) Der (c.slice ++ []) c (certificate_again o [] c b));
    }

pub request_read : (r : CaRequest) → IsReadInDer ca_attributes (whole_of x509_algorithm) r → IsRequest r
unfolding certification_request
request_read r d =
    let b = d.begins in
    let own : IsBytes (spelling b.value) = front_bytes (spelling b.value) b.rest (subst IsBytes b.begins.parts d.bytes) in
    let w = written_again (request_info ca_attributes) (whole_of x509_algorithm) spelled_x509 Der b.value r [] b.begins.lawful b.reads (request_spelled d.octets r d.bytes b)
    (λ q a f. x509_again Der a (x509_named Der q a f)) (λ a. x509_value Der a []) in
    record {
      octets = data_bytes r.signed (signed_bytes (request_info ca_attributes) b.value r own b.reads);
      read = subst (λ (l : List ℕ). as_request l ≡ Some r) (append-nil (spelled_data spelled_x509 r.signed))
          (decoded_ok (certification_request ca_attributes (whole_of x509_algorithm) Der) Der (spelled_data spelled_x509 r.signed ++ []) r (record { value = w.0; rest = []; begins = w.1; reads = w.2 }));
    }

pub certificate_decoded : (o : List ℕ) (c : CertFields) → IsBytes o → decoded (certificate Der) Der o ≡ Some c → IsCertificate c
certificate_decoded o c h e = certificate_read o c h (begins (certificate Der) o c e)

pub request_decoded : (o : List ℕ) (r : CaRequest) → IsBytes o → as_request o ≡ Some r → IsRequest r
request_decoded o r h e = request_read r (record { octets = o; bytes = h; begins = begins (certification_request ca_attributes (whole_of x509_algorithm) Der) o r e })

-- ---- what a cursor in DER took

pub decodes_ok : {X : Type 0} (c : ℕ) (grammar : Mode → Value → Option X) (mode : Mode) (octets : List ℕ) (p q : Position) (b a : ℕ) (x : X) → p ≡ record { mode = mode; here = octets; levels = [] } → CountedOne c (grammar p.mode) p q b a x
    → CountedBegins c (grammar mode) mode octets b a x
decodes_ok {X} c grammar mode octets p q b a x e t = decodes_counted c grammar mode octets p q (λ (y : X). y) b a (Ok x) e t

pub decodes_err : {X Y : Type 0} (c : ℕ) (grammar : Mode → Value → Option X) (mode : Mode) (octets : List ℕ) (p : Position) (view : Y → X) (b a : ℕ) (e : DecodeError) (r : Result Y DecodeError) → p ≡ record { mode = mode; here = octets; levels = [] } → IsErrAnd r (λ k. k ≡ e) → CountedRefuses c (grammar p.mode) p b a e
    → DecodesCounted c (grammar mode) view mode octets b a r
decodes_err c grammar mode octets p view b a e r is h t = decodes_counted c grammar mode octets p p view b a r is (takes_err c (grammar p.mode) view p p b a e r h t)

pub certificate_taken : (octets : List ℕ) (p q : Position) (b a : ℕ) (c : CertFields) → p ≡ record { mode = Der; here = octets; levels = [] } → IsBytes octets → CountedOne 2 (certificate p.mode) p q b a c → IsCertificate c
certificate_taken octets p q b a c e h t =
    certificate_read octets c h (decodes_uncounted 2 (certificate Der) Der octets (λ (x : CertFields). x) b a (Ok c) (decodes_counted 2 certificate Der octets p q (λ (x : CertFields). x) b a (Ok c) e t))

pub request_taken : {A T : Type 0} (attributes : Mode → Value → Option T) (reads : Mode → List ℕ → Option A) (octets : List ℕ) (p q : Position) (b a : ℕ) (r : Signed A (RequestFields T)) → p ≡ record { mode = Der; here = octets; levels = [] } → IsBytes octets
    → CountedOne 2 (certification_request attributes reads p.mode) p q b a r → IsReadInDer attributes reads r
request_taken {A} {T} attributes reads octets p q b a r e h t = record {
  octets = octets;
  bytes = h;
  begins = decodes_uncounted 2 (certification_request attributes reads Der) Der octets (λ (x : Signed A (RequestFields T)). x) b a (Ok r) (decodes_counted 2 (certification_request attributes reads) Der octets p q (λ (x : Signed A (RequestFields T)). x) b a (Ok r) e t);
}
