-- A request that was signed for the signer's key.
use Rattle.std.proofs.lemmas.Bool.Decides.{nat_tests}
use Rattle.rpki_common.proofs.Truths.{some_none}
use Rattle.rpki_text.specs.Uri.{Kind, rsync, https, fault_of}
use Rattle.rpki_text.specs.declared.uri.Error.{Error}
use Rattle.rpki_text.specs.declared.uri.Error.TheVariants as uri
use Rattle.rpki_signer.specs.declared.errors.MakeError.{MakeError}
use Rattle.rpki_signer.specs.declared.errors.MakeError.TheVariants as make
use Rattle.std.proofs.Common.{Bool, true, false, ◌≡◌, inl, inr, ℕ, ◌<◌, Option, None, Some, Result, Ok, Err, List, [], ◌++◌, length, refl, sym, ap, subst, ◌∙◌, arith, length-append}
use Rattle.std.specs.Prelude.{IfOk, nat_lt, if◌then◌else◌}
use Rattle.rpki_der.specs.declared.mode.Mode.TheVariants.{Der}
use Rattle.rpki_der.specs.Tags.{sequence, context}
use Rattle.rpki_der.specs.Takes.{BeginsAs}
use Rattle.rpki_der.specs.Value.{Value}
use Rattle.rpki_der.specs.Whole.{whole_of}
use Rattle.rpki_der.specs.Writing.{der_constructed}
use Rattle.rpki_base.specs.declared.algorithm.SigningAlgorithm.TheVariants.{RsaSha256}
use Rattle.rpki_base.specs.declared.rpki_algorithm.RsaIdentifier.TheVariants.{RsaEncryption}
use Rattle.rpki_base.specs.Bits.{spelled_bits}
use Rattle.rpki_base.specs.PublicKey.{KeyFields, spelled_key, spelled_parts, CanSpellKey as KeyCanBeSpelled}
use Rattle.rpki_base.specs.RpkiSignatureAlgorithm.{RpkiAlgorithm, x509_algorithm, spelled_x509}
use Rattle.rpki_base.specs.Scheme.{Relation}
use Rattle.rpki_base.specs.Signature.{SignatureParts}
use Rattle.rpki_base.specs.SignedData.{SignedParts, signed_octets, spelled_data, CanSpellSigned}
use Rattle.rpki_signer.specs.Limits.{MakeFails, IsShortKey, IsShortSignature, RefusesKey, RefusesSignature, default_algorithm}
use Rattle.rpki_signer.specs.Signer.{SignerState, HoldsKey, AreDistinct, Stays}
use Rattle.rpki_signer.proofs.Keyrings.{one_key}
use Rattle.rpki_signer.proofs.States.{stays_then, stays_keeps, fails_before, key_refused, signature_refused}
use Rattle.rpki_idcert.specs.Making.{name_of_key}
use Rattle.rpki_idcert.proofs.Pieces.{Piece, begins_as}
use Rattle.rpki_idcert.proofs.ReadAgain.{signed_piece}
use Rattle.rpki_idcert.proofs.Sizes.{content_within}
use Rattle.rpki_cert.specs.declared.construct.CsrError.{CsrError}
use Rattle.rpki_cert.specs.declared.construct.CsrError.TheVariants as csr
use Rattle.rpki_cert.specs.Csr.{request_info, certification_request}
use Rattle.rpki_cert.specs.CsrAttributes.{ca_attributes}
use Rattle.rpki_cert.specs.Making.{Places, IsLawfulIfThere, AreLawful, spelled_version, spelled_attribute, spelled_info, UnsignedRequest, signed_request_of, IsRequestMade, ConstructFails, IsFirstRequestRefusal, IsKeyFound, slashed, csr_error_of, csr_error_of_uri}
use Rattle.rpki_cert.proofs.Asking.{IsUri, IsUriIfThere, AreUris, info_piece}

abbrev parts : KeyFields → Places → List ℕ
parts key p = spelled_version ++ (name_of_key key ++ (spelled_key key ++ der_constructed (context 0) (spelled_attribute p)))

-- what is signed is no longer than all
parts_within : (u : UnsignedRequest) (signature : SignatureParts RpkiAlgorithm) → CanSpellSigned spelled_x509 (signed_request_of u signature).signed → length (parts u.key u.places) < 4294967296
unfolding spelled_info
parts_within u signature h = omega (arith, h, content_within sequence (parts u.key u.places), length-append (der_constructed sequence (parts u.key u.places)) (spelled_x509 signature.algorithm ++ spelled_bits signature.value))

key_within : (key : KeyFields) (p : Places) → length (parts key p) < 4294967296 → KeyCanBeSpelled key
key_within key p h =
    omega (
      arith,
      h,
      length-append spelled_version (name_of_key key ++ (spelled_key key ++ der_constructed (context 0) (spelled_attribute p))),
      length-append (name_of_key key) (spelled_key key ++ der_constructed (context 0) (spelled_attribute p)),
      length-append (spelled_key key) (der_constructed (context 0) (spelled_attribute p)),
      content_within sequence (spelled_parts key),
    )

begins_with : {X : Type 0} (grammar : Value → Option X) (octets : List ℕ) (x : X) → Piece Der grammar octets x → (rest : List ℕ) → BeginsAs grammar Der (octets ++ rest) x
begins_with grammar octets x p rest = record { value = p.value; rest = rest; begins = begins_as Der grammar octets x p rest; reads = p.reads }

-- a lawful URI is no longer than it may be
short_fault : (long : Bool) (rest : Option Error) → (if long then Some uri.TooLong else rest) ≡ None → long ≡ false
short_fault true rest e = absurd (some_none _ e)
short_fault false rest e = refl

pub is_uri_short : (kind : Kind) (text : List ℕ) → fault_of kind text ≡ None → IsUri kind text
is_uri_short kind text e =
    let s : nat_lt 65535 (length text) ≡ false = short_fault (nat_lt 65535 (length text)) _ e in
    (e, grind (arith, nat_tests))

if_there : (uri : Option (List ℕ)) → IsLawfulIfThere uri → IsUriIfThere https uri
if_there None l = tt
if_there (Some uri) l = is_uri_short https uri l

are_uris : (places : Places) → AreLawful places → AreUris places
are_uris places l = record { repository = is_uri_short rsync places.ca_repository l.ca_repository; manifest = is_uri_short rsync places.rpki_manifest l.rpki_manifest; notify = if_there places.rpki_notify l.rpki_notify }

request_piece : (u : UnsignedRequest) (signature : SignatureParts RpkiAlgorithm) → AreUris u.places → signature.algorithm.identifier ≡ RsaEncryption → CanSpellSigned spelled_x509 (signed_request_of u signature).signed
    → Piece Der (certification_request ca_attributes (whole_of x509_algorithm) Der) (spelled_data spelled_x509 (signed_request_of u signature).signed) (signed_request_of u signature)
unfolding certification_request
request_piece u signature p a h =
    let l = parts_within u signature h in
    signed_piece (request_info ca_attributes) Der (signed_request_of u signature) (info_piece u.key u.places p (key_within u.key u.places l) l) a h

request_again : (u : UnsignedRequest) (signature : SignatureParts RpkiAlgorithm) (octets : List ℕ) → AreLawful u.places → octets ≡ spelled_data spelled_x509 (signed_request_of u signature).signed → CanSpellSigned spelled_x509 (signed_request_of u signature).signed → signature.algorithm.identifier ≡ RsaEncryption
    → (rest : List ℕ) → BeginsAs (certification_request ca_attributes (whole_of x509_algorithm) Der) Der (octets ++ rest) (signed_request_of u signature)
request_again u signature octets l e h a rest = subst (λ o. BeginsAs (certification_request ca_attributes (whole_of x509_algorithm) Der) Der (o ++ rest) (signed_request_of u signature)) (sym e) (begins_with _ _ _ (request_piece u signature (are_uris u.places l) a h) rest)

pub again_so : {E : Type 0} (u : UnsignedRequest) (key : KeyFields) (places : Places) (signature : SignatureParts RpkiAlgorithm) (info start out : List ℕ) (signed : SignedParts RpkiAlgorithm) (r : Result (List ℕ) E) → ◌≡◌ {A = UnsignedRequest} (record { key = key; places = places }) u → AreLawful places → info ≡ spelled_info key places
    → signed ≡ record { slice = info; signature = signature } → start ≡ [] → out ≡ start ++ spelled_data spelled_x509 signed → CanSpellSigned spelled_x509 signed → IfOk r (λ o. o ≡ out)
    → IfOk r (λ octets. signature.algorithm.identifier ≡ RsaEncryption → (rest : List ℕ) → BeginsAs (certification_request ca_attributes (whole_of x509_algorithm) Der) Der (octets ++ rest) (signed_request_of u signature))
again_so u key places signature info start out signed (Err x) v l e f g h m n = tt
again_so u key places signature info start out signed (Ok o) v l e f g h m n =
    let same : signed ≡ (signed_request_of u signature).signed = f ∙ ap (λ i. signed_octets i signature) e ∙ ap (λ (x : UnsignedRequest). (signed_request_of x signature).signed) v in
    request_again u signature o (subst (λ (x : UnsignedRequest). AreLawful x.places) v l) (n ∙ h ∙ ap (λ s. s ++ spelled_data spelled_x509 signed) g ∙ ap (λ (d : SignedParts RpkiAlgorithm). spelled_data spelled_x509 d) same)
    (subst (λ (d : SignedParts RpkiAlgorithm). CanSpellSigned spelled_x509 d) same m)

request_made : {I : Type 0} (scheme : Relation) (id : I) (u : UnsignedRequest) (a b c : SignerState I) (signature : SignatureParts RpkiAlgorithm) (octets : List ℕ) → AreDistinct b.keyring → IsShortKey id a b u.key → IsShortSignature scheme RsaSha256 id (spelled_info u.key u.places) b c signature.value
    → signature.algorithm ≡ default_algorithm → octets ≡ spelled_data spelled_x509 (signed_request_of u signature).signed
    → (signature.algorithm.identifier ≡ RsaEncryption → (rest : List ℕ) → BeginsAs (certification_request ca_attributes (whole_of x509_algorithm) Der) Der (octets ++ rest) (signed_request_of u signature)) → IsRequestMade scheme id u.places a c octets
request_made scheme id u a b c signature octets d k s n e again =
    let holds : HoldsKey b.keyring id u.key = subst (λ r. HoldsKey r id u.key) (sym k.is.stays.keyring) k.is.holds in
    record {
      key = u.key;
      holds = k.is.holds;
      short = k.short;
      request = signed_request_of u signature;
      tbs = refl;
      slice = refl;
      algorithm = n;
      signed = subst (λ (x : KeyFields). scheme RsaSha256 x (spelled_info u.key u.places) signature.value) (one_key b.keyring id s.is.key u.key d s.is.holds holds) s.is.signed;
      short_signature = s.short;
      octets_are = e;
      read = again (ap (λ (x : RpkiAlgorithm). x.identifier) n);
      stays = stays_then a b c k.is.stays s.is.stays;
      no_fault = s.is.no_fault ∙ k.is.no_fault;
    }

-- with the key and the places that were handed in
pub made_with : {I : Type 0} (scheme : Relation) (id : I) (key : KeyFields) (places : Places) (u : UnsignedRequest) (a b c : SignerState I) (message : List ℕ) (signature : SignatureParts RpkiAlgorithm) (octets : List ℕ) → u ≡ record { key = key; places = places } → AreDistinct b.keyring → IsShortKey id a b key
    → message ≡ spelled_info u.key u.places → IsShortSignature scheme RsaSha256 id message b c signature.value → signature.algorithm ≡ default_algorithm → octets ≡ spelled_data spelled_x509 (signed_request_of u signature).signed
    → (signature.algorithm.identifier ≡ RsaEncryption → (rest : List ℕ) → BeginsAs (certification_request ca_attributes (whole_of x509_algorithm) Der) Der (octets ++ rest) (signed_request_of u signature)) → IsRequestMade scheme id places a c octets
made_with scheme id key places u a b c message signature octets f d k m s n e again =
    request_made scheme id (record { key = key; places = places }) a b c signature octets d k (subst (λ o. IsShortSignature scheme RsaSha256 id o b c signature.value) (m ∙ ap (λ (x : UnsignedRequest). spelled_info x.key x.places) f) s) n
    (e ∙ ap (λ (x : UnsignedRequest). spelled_data spelled_x509 (signed_request_of x signature).signed) f)
    (subst (λ (x : UnsignedRequest). signature.algorithm.identifier ≡ RsaEncryption → (rest : List ℕ) → BeginsAs (certification_request ca_attributes (whole_of x509_algorithm) Der) Der (octets ++ rest) (signed_request_of x signature)) f again)

-- ---- results

fails_as : {I E : Type 0} (id : I) (repository : List ℕ) (a b : SignerState I) (m : MakeError E) (e : CsrError E) → e ≡ csr_error_of m → Stays a b × MakeFails RsaSha256 id a b m → Stays a b × ConstructFails id repository a b e
fails_as id repository a b make.TooLong e is s = rw is s
fails_as id repository a b (make.Signing x) e is s = rw is s
fails_as id repository a b make.OutOfMemory e is s = rw is s

pub key_fails : {I E : Type 0} (id : I) (repository : List ℕ) (a b : SignerState I) (m : MakeError E) (e : CsrError E) → e ≡ csr_error_of m → RefusesKey id a b m → Stays a b × ConstructFails id repository a b e
key_fails id repository a b m e is s = fails_as id repository a b m e is (key_refused id a b m s)

pub signature_fails : {I E : Type 0} (scheme : Relation) (id : I) (repository : List ℕ) (a b c : SignerState I) (key : KeyFields) (m : MakeError E) (e : CsrError E) → IsShortKey id a b key → e ≡ csr_error_of m → RefusesSignature scheme id b c m → Stays a c × ConstructFails id repository a c e
signature_fails scheme id repository a b c key m e k is s =
    let f = signature_refused scheme id b c m s in
    fails_as id repository a c m e is (stays_then a b c k.is.stays f.0, fails_before RsaSha256 id a b c m (stays_keeps a b k.is.stays) f.1)

found : {I : Type 0} (id : I) (a b : SignerState I) (key : KeyFields) → IsShortKey id a b key → IsKeyFound id a
found id a b key k = record { key = key; holds = k.is.holds; short = k.short }

pub uri_refused : {I E : Type 0} (id : I) (repository : List ℕ) (a b : SignerState I) (key : KeyFields) (x : Error) (e : CsrError E) → IsShortKey id a b key → e ≡ csr_error_of_uri x → ((x ≡ uri.OutOfMemory → ⊥) → fault_of rsync (slashed repository) ≡ Some x) → Stays a b × ConstructFails id repository a b e
uri_refused id repository a b key uri.TooLong e k is f = rw is (k.is.stays, ((λ q. cc), f (λ q. cc), found id a b key k))
uri_refused id repository a b key uri.BadCharacter e k is f = rw is (k.is.stays, ((λ q. cc), f (λ q. cc), found id a b key k))
uri_refused id repository a b key uri.BadScheme e k is f = rw is (k.is.stays, ((λ q. cc), f (λ q. cc), found id a b key k))
uri_refused id repository a b key uri.BadUri e k is f = rw is (k.is.stays, ((λ q. cc), f (λ q. cc), found id a b key k))
uri_refused id repository a b key uri.DotSegments e k is f = rw is (k.is.stays, ((λ q. cc), f (λ q. cc), found id a b key k))
uri_refused id repository a b key uri.OutOfMemory e k is f = rw is (k.is.stays, tt)

-- memory ran out behind the signature
pub spent : {I E : Type 0} (scheme : Relation) (id : I) (repository message value : List ℕ) (a b c : SignerState I) (key : KeyFields) (e : CsrError E) → IsShortKey id a b key → IsShortSignature scheme RsaSha256 id message b c value → e ≡ csr.OutOfMemory → Stays a c × ConstructFails id repository a c e
spent scheme id repository message value a b c key e k s is = rw is (stays_then a b c k.is.stays s.is.stays, tt)

-- ---- which refusal was the first

pub first_spent : {I E : Type 0} (scheme : Relation) (id : I) (repository message value : List ℕ) (a b c : SignerState I) (key : KeyFields) (e : CsrError E) → IsShortKey id a b key → IsShortSignature scheme RsaSha256 id message b c value → e ≡ csr.OutOfMemory → IsFirstRequestRefusal scheme id repository a c e
first_spent scheme id repository message value a b c key e k s is = rw is (s.is.no_fault ∙ k.is.no_fault)

pub first_key : {I E : Type 0} (scheme : Relation) (id : I) (repository : List ℕ) (a b : SignerState I) (m : MakeError E) (e : CsrError E) → e ≡ csr_error_of m → RefusesKey id a b m → IsFirstRequestRefusal scheme id repository a b e
first_key scheme id repository a b make.TooLong e is s = rw is (inl s)
first_key scheme id repository a b (make.Signing x) e is s = rw is (inl s)
first_key scheme id repository a b make.OutOfMemory e is s = rw is s.no_fault

pub first_uri : {I E : Type 0} (scheme : Relation) (id : I) (repository : List ℕ) (a b : SignerState I) (key : KeyFields) (x : Error) (e : CsrError E) → IsShortKey id a b key → e ≡ csr_error_of_uri x → IsFirstRequestRefusal scheme id repository a b e
first_uri scheme id repository a b key uri.TooLong e k is = rw is (found id a b key k)
first_uri scheme id repository a b key uri.BadCharacter e k is = rw is (found id a b key k)
first_uri scheme id repository a b key uri.BadScheme e k is = rw is (found id a b key k)
first_uri scheme id repository a b key uri.BadUri e k is = rw is (found id a b key k)
first_uri scheme id repository a b key uri.DotSegments e k is = rw is (found id a b key k)
first_uri scheme id repository a b key uri.OutOfMemory e k is = rw is k.is.no_fault

pub first_signature : {I E : Type 0} (scheme : Relation) (id : I) (repository : List ℕ) (a b c : SignerState I) (key : KeyFields) (m : MakeError E) (e : CsrError E) → fault_of rsync (slashed repository) ≡ None → IsShortKey id a b key → e ≡ csr_error_of m → RefusesSignature scheme id b c m
    → IsFirstRequestRefusal scheme id repository a c e
first_signature scheme id repository a b c key make.TooLong e n k is s = rw is (inr (n, record { between = b; key = key; given = k; refuses = s }))
first_signature scheme id repository a b c key (make.Signing x) e n k is s = rw is (inr (n, record { between = b; key = key; given = k; refuses = s }))
first_signature scheme id repository a b c key make.OutOfMemory e n k is s = rw is (s.no_fault ∙ k.is.no_fault)
