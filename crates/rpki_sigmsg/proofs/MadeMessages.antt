-- Messages that are made hold what is written of them, and are believed in their window.
use Rattle.std.proofs.Common.{◌≡◌, ℕ, ◌+◌, ◌*◌, ◌≤◌, ◌<◌, ℤ, ◌≤ℤ◌, Bool, true, false, Option, Some, Result, Ok, Err, List, [], ◌∷◌, ◌++◌, length, refl, sym, ap, subst, ◌∙◌, arith, length-append}
use Rattle.std.specs.Prelude.{if◌then◌else◌, nat_lt, ◌==◌, T, int_le, unsigned_abs, bytes_eq, not, unwrap_or}
use Rattle.std.proofs.lemmas.Int.{ints}
use Rattle.std.proofs.lemmas.List.Elements.{All-from_recursion}
use Rattle.sha1.specs.Sha1.{sha1}
use Rattle.sha2.specs.Sha256.{sha256}
use Rattle.sha2.proofs.Facts256.{length-sha256}
use Rattle.rpki_common.specs.Chaining.{◌>>=◌}
use Rattle.rpki_common.specs.Items.{the_one, at_most_one}
use Rattle.rpki_common.proofs.Truths.{are_true, equal_octets}
use Rattle.rpki_der.specs.declared.mode.Mode.{Mode}
use Rattle.rpki_der.specs.declared.mode.Mode.TheVariants.{Der}
use Rattle.rpki_der.specs.Entry.{entry, set_of}
use Rattle.rpki_der.specs.Grammar.{within, first, optional, every, done, so, wrapped}
use Rattle.rpki_der.specs.Held.{held}
use Rattle.rpki_der.specs.InDer.{in_der}
use Rattle.rpki_der.specs.Integer.{integer_is}
use Rattle.rpki_der.specs.OctetString.{octet_string}
use Rattle.rpki_der.specs.Oid.{oid, oid_is}
use Rattle.rpki_der.specs.Tags.{sequence, set, context, oid_tag, integer_tag, octet_string_tag}
use Rattle.rpki_der.specs.Value.{Value, Values, End, ◌▸◌}
use Rattle.rpki_der.specs.Writing.{der_primitive, der_constructed, primitive_value, constructed_value, Spells}
use Rattle.rpki_der.proofs.Written.{spells_none, spells_followed, spells_primitive, spells_constructed}
use Rattle.rpki_base.specs.Civil.{IsMoment}
use Rattle.rpki_base.specs.Extension.{ExtensionFields, extension}
use Rattle.rpki_base.specs.KeyIdentifier.{key_identifier_under}
use Rattle.rpki_base.specs.Name.{name}
use Rattle.rpki_base.specs.ObjectIdentifiers as names
use Rattle.rpki_base.specs.PublicKey.{KeyFields}
use Rattle.rpki_base.specs.RpkiSignatureAlgorithm.{RpkiAlgorithm, algorithm, spelled_x509}
use Rattle.rpki_base.specs.Scheme.{Relation}
use Rattle.rpki_base.specs.Serial.{serial, serial_of, significant, unsigned_content, serial_content, der_serial}
use Rattle.rpki_base.specs.Time.{time}
use Rattle.rpki_base.specs.TimeText.{der_time}
use Rattle.rpki_base.specs.WritingLaws.{is_sequence, is_oid}
use Rattle.rpki_base.specs.Checks.{first_failure}
use Rattle.rpki_base.proofs.Checking.{passes}
use Rattle.rpki_signer.specs.Limits.{default_algorithm}
use Rattle.rpki_idcert.specs.Making.{name_of_key}
use Rattle.rpki_idcert.specs.Spelling.{spelled_authority_key, spelled_tbs, CanSpellCertificate, AreReadable}
use Rattle.rpki_idcert.proofs.Pieces.{Piece, of_whole, constructed, wrapping, inside_is}
use Rattle.rpki_idcert.proofs.ReadAgain.{is_integer, is_context_0, Pieces, and_pieces, one_piece, an_extension, named_authority, serial_piece, algorithm_piece, time_piece, name_is_read, sha1_twenty, tbs_piece, made_readable}
use Rattle.rpki_idcert.proofs.Sizes.{primitive_size, constructed_size, content_within, time_size}
use Rattle.rpki_sigmsg.specs.Attributes.{AttributeFields, type_in, digest_in, time_in, attributes}
use Rattle.rpki_sigmsg.specs.CrlExtensions.{issuer_key, authority_in, number_in, known_extensions, extension_list}
use Rattle.rpki_sigmsg.specs.Making.{window, HasWindow, spelled_attribute, made_attributes, made_covered, made_crl}
use Rattle.rpki_sigmsg.specs.ObjectIdentifiers.{content_type, message_digest, signing_time, xml_content}
use Rattle.rpki_sigmsg.specs.RevokedCertificates.{revoked_certificates, none_revoked}
use Rattle.rpki_sigmsg.specs.Spelling as spec
use Rattle.rpki_sigmsg.specs.TbsCrl.{TbsCrlFields, tbs_crl}
use Rattle.std.specs.Prelude.{◌&&◌, MatchResult, IfOk}
use Rattle.rpki_der.specs.Takes.{BeginsAs}
use Rattle.rpki_base.specs.declared.algorithm.SigningAlgorithm.TheVariants.{RsaSha256}
use Rattle.rpki_base.specs.declared.rpki_algorithm.RsaIdentifier.TheVariants.{RsaEncryption}
use Rattle.rpki_base.specs.Bits.{spelled_bits}
use Rattle.rpki_base.specs.PublicKey.{names_issuer}
use Rattle.rpki_base.specs.SignedData.{CanSpellSigned as DataCanBeSpelled}
use Rattle.rpki_signer.specs.Serials.{without_first_bit}
use Rattle.rpki_signer.specs.Signer.{SignerState, HoldsKey}
use Rattle.rpki_idcert.specs.Checks.{has_own_identifier, is_true, is_within}
use Rattle.rpki_idcert.specs.Spelling.{spelled_fields}
use Rattle.rpki_idcert.specs.TbsIdCert.{TbsFields, tbs_certificate}
use Rattle.rpki_sigmsg.specs.Checks.{checks, IsBelieved}
use Rattle.rpki_sigmsg.specs.Crl.{CrlFields}
use Rattle.rpki_sigmsg.specs.CrlChecks.{same_algorithm}
use Rattle.rpki_sigmsg.specs.Making.{IsCrlMade, assembled, IsMessageMade, IsMessageCreated}
use Rattle.rpki_sigmsg.specs.Message.{MessageFields, signed_message}
use Rattle.rpki_sigmsg.specs.RevokedCertificates.{is_listed}
use Rattle.rpki_sigmsg.proofs.Again.{begins_again}
use Rattle.rpki_sigmsg.proofs.Rewriting.{a_string, is_set, signer_name, IsCrlHeld, IsHeld, all_fit, data_fits, first_fits}

-- ---- attributes

-- an attribute of one value
attribute_piece : (mode : Mode) (id content : List ℕ) (v : Value) → ((more : Values) → first oid (primitive_value oid_tag id ▸ more) ≡ Some (id, more)) → length id < 100 → length content < 1000 → Spells mode content (v ▸ End) → Piece mode entry (spelled_attribute id content) (id, constructed_value set (v ▸ End) ▸ End)
unfolding entry spelled_attribute
attribute_piece mode id content v n h k s =
    constructed mode sequence _ (first oid) (primitive_value oid_tag id ▸ constructed_value set (v ▸ End) ▸ End) _ is_sequence (omega (arith, h, k, length-append (der_primitive oid_tag id) (der_constructed set content), primitive_size oid_tag id, constructed_size set content))
    (spells_followed mode _ _ _ _ (spells_primitive mode oid_tag id is_oid (omega (arith, h))) (spells_constructed mode set content (v ▸ End) is_set (omega (arith, k)) s)) (n (constructed_value set (v ▸ End) ▸ End))

named_type : (more : Values) → first oid (primitive_value oid_tag content_type ▸ more) ≡ Some (content_type, more)
unfolding first oid so ◌>>=◌
named_type more = refl

named_time : (more : Values) → first oid (primitive_value oid_tag signing_time ▸ more) ≡ Some (signing_time, more)
unfolding first oid so ◌>>=◌
named_time more = refl

named_digest : (more : Values) → first oid (primitive_value oid_tag message_digest ▸ more) ≡ Some (message_digest, more)
unfolding first oid so ◌>>=◌
named_digest more = refl

set_reads : {X : Type 0} (leaf : Value → Option X) (v : Value) (x : X) → leaf v ≡ Some x → set_of leaf (constructed_value set (v ▸ End) ▸ End) ≡ Some x
unfolding set_of wrapped within first done ◌>>=◌
set_reads leaf v x e = rw e refl

type_read : (v : Value) → oid_is xml_content v ≡ Some tt → type_in (content_type, constructed_value set (v ▸ End) ▸ End) ≡ Some tt
unfolding type_in
type_read v e = set_reads (oid_is xml_content) v tt e

digest_read : (mode : Mode) (v : Value) (d : List ℕ) → octet_string mode v ≡ Some d → digest_in mode (message_digest, constructed_value set (v ▸ End) ▸ End) ≡ Some d
unfolding digest_in
digest_read mode v d e = set_reads (octet_string mode) v d e

time_read : (v : Value) (s : ℤ) → time v ≡ Some s → time_in (signing_time, constructed_value set (v ▸ End) ▸ End) ≡ Some s
unfolding time_in
time_read v s e = set_reads time v s e

abbrev listed : Value → Value → Value → List (List ℕ × Values)
listed t s d = (content_type, constructed_value set (t ▸ End) ▸ End) ∷ (signing_time, constructed_value set (s ▸ End) ▸ End) ∷ (message_digest, constructed_value set (d ▸ End) ▸ End) ∷ []

attributes_read : (mode : Mode) (t s d : Value) (digest : List ℕ) (now : ℤ) → oid_is xml_content t ≡ Some tt → time s ≡ Some now → octet_string mode d ≡ Some digest → attributes mode (listed t s d) ≡ Some (record { digest = digest; signing_time = Some now })
unfolding attributes the_one at_most_one ◌>>=◌
attributes_read mode t s d digest now e f g = rw (type_read t e, digest_read mode d digest g, time_read s now f) refl

pub record AttributesPiece (mode : Mode) (octets digest : List ℕ) (now : ℤ) : Type 0 where
  pub values : Values
  pub spells : Spells mode octets values
  pub said : (every entry values >>= attributes mode) ≡ Some (record { digest = digest; signing_time = Some now })

all_said : (mode : Mode) (vs : Values) (all : List (List ℕ × Values)) (s : AttributeFields) → every entry vs ≡ Some all → attributes mode all ≡ Some s → (every entry vs >>= attributes mode) ≡ Some s
unfolding ◌>>=◌
all_said mode vs all s e f = rw e f

xml_value : (mode : Mode) → Piece mode (oid_is xml_content) (der_primitive oid_tag xml_content) tt
unfolding oid_is oid so ◌>>=◌
xml_value mode = record { value = primitive_value oid_tag xml_content; spells = spells_primitive mode oid_tag xml_content is_oid (omega arith); reads = refl }

pub made_attributes_piece : (mode : Mode) (digest : List ℕ) (now : ℤ) → length digest ≡ 32 → IsMoment now → AttributesPiece mode (made_attributes digest now) digest now
made_attributes_piece mode digest now l m =
    let t = xml_value mode in
    let s = time_piece mode now m in
    let d = a_string mode digest (omega (arith, l)) in
    let a = attribute_piece mode content_type (der_primitive oid_tag xml_content) t.value named_type (omega arith) (omega arith) t.spells in
    let b = attribute_piece mode signing_time (der_time now) s.value named_time (omega arith) (omega (arith, time_size now)) s.spells in
    let c = attribute_piece mode message_digest (der_primitive octet_string_tag digest) d.value named_digest (omega arith) (omega (arith, l, primitive_size octet_string_tag digest)) d.spells in
    let all = and_pieces mode entry _ _ _ _ a (and_pieces mode entry _ _ _ _ b (one_piece mode entry _ _ c)) in
    record { values = all.values; spells = all.spells; said = all_said mode all.values (listed t.value s.value d.value) _ all.reads (attributes_read mode t.value s.value d.value digest now t.reads s.reads d.reads) }

-- ---- the CRL

crl_version : (mode : Mode) → Piece mode (integer_is 1) (der_primitive integer_tag (1 ∷ [])) tt
unfolding integer_is so ◌>>=◌
crl_version mode = record { value = primitive_value integer_tag (1 ∷ []); spells = spells_primitive mode integer_tag (1 ∷ []) is_integer (omega arith); reads = refl }

none_read : (more : Values) → optional sequence revoked_certificates (constructed_value sequence End ▸ more) ≡ Some (Some none_revoked, more)
unfolding optional revoked_certificates within held every ◌>>=◌
none_read more = refl

none_spells : Spells Der (spec.spelled_revoked none_revoked) (constructed_value sequence End ▸ End)
none_spells = spells_constructed Der sequence [] End is_sequence (omega arith) (spells_none Der)

issuer_read : (id : List ℕ) → length id ≡ 20 → in_der (issuer_key Der) (der_constructed sequence (der_primitive (context 0) id)) ≡ Some id
unfolding issuer_key
issuer_read id l = inside_is _ (der_constructed sequence (der_primitive (context 0) id)) id (wrapping Der sequence (der_primitive (context 0) id) (key_identifier_under (context 0) Der) id is_sequence (omega (arith, l, primitive_size (context 0) id)) (signer_name Der id l))

number_read : (n : List ℕ) → length n ≡ 20 → in_der serial (der_serial n) ≡ Some n
number_read n l = inside_is serial (der_serial n) n (serial_piece Der n l)

named_number : (more : Values) → first oid (primitive_value oid_tag names.crl_number ▸ more) ≡ Some (names.crl_number, more)
unfolding first oid so ◌>>=◌
named_number more = refl

abbrev said_of : List ℕ → List ℕ → List ExtensionFields
said_of id n = record { identifier = names.authority_key_identifier; critical = false; value = der_constructed sequence (der_primitive (context 0) id) } ∷ record { identifier = names.crl_number; critical = false; value = der_serial n } ∷ []

crl_known : (id n : List ℕ) → length id ≡ 20 → length n ≡ 20 → known_extensions (said_of id n) ≡ Some (Some id, Some n)
unfolding known_extensions at_most_one authority_in number_in ◌>>=◌
crl_known id n l m = rw (issuer_read id l, number_read n m) refl

zero_or : (b : Bool) (x y : List ℕ) (k : ℕ) → length x ≤ k → length y ≤ k → length (if b then x else y) ≤ k
zero_or true x y k p q = p
zero_or false x y k p q = q

significant_size : (n : List ℕ) → length (significant n) ≤ length n
unfolding significant
significant_size [] = omega arith
significant_size (a ∷ more) = zero_or (a == 0) (significant more) (a ∷ more) (length (a ∷ more)) (omega (arith, significant_size more)) (omega arith)

unsigned_size : (n : List ℕ) → length (unsigned_content n) ≤ length n + 1
unsigned_size [] = omega arith
unsigned_size (a ∷ more) = zero_or (nat_lt a 128) (a ∷ more) (0 ∷ a ∷ more) (length (a ∷ more) + 1) (omega arith) (omega arith)

content_size : (n : List ℕ) → length (serial_content n) ≤ length n + 1
content_size n = omega (arith, unsigned_size (significant n), significant_size n)

serial_size : (n : List ℕ) → length n ≡ 20 → length (der_serial n) ≤ 40
serial_size n l = omega (arith, l, primitive_size integer_tag (serial_content n), content_size n)

crl_extensions_pieces : (id n : List ℕ) → length id ≡ 20 → length n ≡ 20 → Pieces Der (extension Der) (spelled_authority_key (Some id) ++ spec.spelled_crl_number (Some n)) (said_of id n)
crl_extensions_pieces id n l m =
    and_pieces Der (extension Der) _ _ _ _ (an_extension Der names.authority_key_identifier false (der_constructed sequence (der_primitive (context 0) id)) (record { named = named_authority; short = omega (arith, l, primitive_size (context 0) id, constructed_size sequence (der_primitive (context 0) id)) }))
    (one_piece Der (extension Der) _ _ (an_extension Der names.crl_number false (der_serial n) (record { named = named_number; short = omega (arith, serial_size n m) })))

abbrev list_fields : Values → Option (Option (List ℕ) × Option (List ℕ))
list_fields vs = every (extension Der) vs >>= known_extensions

list_read : (vs : Values) (all : List ExtensionFields) (known : Option (List ℕ) × Option (List ℕ)) → every (extension Der) vs ≡ Some all → known_extensions all ≡ Some known → list_fields vs ≡ Some known
unfolding ◌>>=◌
list_read vs all known e f = rw e f

crl_extensions_piece : (id n : List ℕ) → length id ≡ 20 → length n ≡ 20 → length (spelled_authority_key (Some id) ++ spec.spelled_crl_number (Some n)) < 4294967296
    → Piece Der (extension_list Der) (der_constructed sequence (spelled_authority_key (Some id) ++ spec.spelled_crl_number (Some n))) (Some id, Some n)
unfolding extension_list
crl_extensions_piece id n l m h =
    let p = crl_extensions_pieces id n l m in
    constructed Der sequence _ list_fields p.values _ is_sequence h p.spells (list_read p.values _ _ p.reads (crl_known id n l m))

abbrev crl_in : Values → Option TbsCrlFields
crl_in vs = do
  version ← first (integer_is 1) vs
  algorithm ← first (algorithm Der) version.1
  issuer ← first name algorithm.1
  this_update ← first time issuer.1
  next_update ← first time this_update.1
  revoked ← optional sequence revoked_certificates next_update.1
  known ← first (wrapped (context 0) (extension_list Der)) revoked.1
  done (record {
    algorithm = algorithm.0;
    issuer = issuer.0;
    this_update = this_update.0;
    next_update = next_update.0;
    revoked = unwrap_or revoked.0 none_revoked;
    authority_key_id = known.0.0;
    crl_number = known.0.1;
  }) known.1

crl_reads : (t : TbsCrlFields) (v1 v2 v3 v4 v5 v7 : Value) → t.revoked ≡ none_revoked → integer_is 1 v1 ≡ Some tt → algorithm Der v2 ≡ Some t.algorithm → name v3 ≡ Some t.issuer → time v4 ≡ Some t.this_update → time v5 ≡ Some t.next_update
    → wrapped (context 0) (extension_list Der) v7 ≡ Some (t.authority_key_id, t.crl_number) → crl_in (v1 ▸ v2 ▸ v3 ▸ v4 ▸ v5 ▸ constructed_value sequence End ▸ v7 ▸ End) ≡ Some t
unfolding first done ◌>>=◌
crl_reads t v1 v2 v3 v4 v5 v7 r e1 e2 e3 e4 e5 e7 = rw (e1, e2, e3, e4, e5, none_read (v7 ▸ End), e7, r) refl

crl_fields_fit : (t : TbsCrlFields) → spec.CrlCanBeSpelled t → length (der_constructed sequence (spec.spelled_crl_extensions t)) < 4294967296
crl_fields_fit t h =
    let e = der_constructed (context 0) (der_constructed sequence (spec.spelled_crl_extensions t)) in
    let p1 = der_primitive integer_tag (1 ∷ []) in
    let p2 = spelled_x509 t.algorithm in
    let p4 = der_time t.this_update in
    let p5 = der_time t.next_update in
    let p6 = spec.spelled_revoked t.revoked in
    omega (arith, h, length-append p1 (p2 ++ (t.issuer ++ (p4 ++ (p5 ++ (p6 ++ e))))), length-append p2 (t.issuer ++ (p4 ++ (p5 ++ (p6 ++ e)))), length-append t.issuer (p4 ++ (p5 ++ (p6 ++ e))), length-append p4 (p5 ++ (p6 ++ e)), length-append p5 (p6 ++ e), length-append p6 e, content_within (context 0) (der_constructed sequence (spec.spelled_crl_extensions t)))

pub made_crl_piece : (issuing : KeyFields) (now : ℤ) → IsMoment (window now).not_before → IsMoment (window now).not_after → spec.CrlCanBeSpelled (made_crl issuing now) → Piece Der (tbs_crl Der) (spec.spelled_tbs_crl (made_crl issuing now)) (made_crl issuing now)
unfolding spec.spelled_tbs_crl tbs_crl
made_crl_piece issuing now p q h =
    let t = made_crl issuing now in
    let fit = crl_fields_fit t h in
    let p1 = crl_version Der in
    let p2 = algorithm_piece Der default_algorithm refl in
    let p3 = of_whole Der name (name_of_key issuing) (name_of_key issuing) (name_is_read Der issuing) in
    let p4 = time_piece Der (window now).not_before p in
    let p5 = time_piece Der (window now).not_after q in
    let p7 = wrapping Der (context 0) (der_constructed sequence (spec.spelled_crl_extensions t)) (extension_list Der) _ is_context_0 fit (crl_extensions_piece (sha1 issuing.bits) (serial_of (unsigned_abs now * 1000)) (sha1_twenty issuing.bits) refl (omega (arith, fit, content_within sequence (spec.spelled_crl_extensions t)))) in
    constructed Der sequence (spec.spelled_crl_fields t) crl_in (p1.value ▸ p2.value ▸ p3.value ▸ p4.value ▸ p5.value ▸ constructed_value sequence End ▸ p7.value ▸ End) t is_sequence h
    (spells_followed Der _ _ _ _ p1.spells (spells_followed Der _ _ _ _ p2.spells (spells_followed Der _ _ _ _ p3.spells (spells_followed Der _ _ _ _ p4.spells (spells_followed Der _ _ _ _ p5.spells (spells_followed Der _ _ _ _ none_spells p7.spells))))))
    (crl_reads t p1.value p2.value p3.value p4.value p5.value p7.value refl p1.reads p2.reads p3.reads p4.reads p5.reads p7.reads)

-- ---- the message

-- the slice of a CRL is within the octets of all
crl_fits : (t : TbsCrlFields) (slice : List ℕ) → slice ≡ spec.spelled_tbs_crl t → length slice < 4294967296 → spec.CrlCanBeSpelled t
unfolding spec.spelled_tbs_crl
crl_fits t slice e h = omega (arith, h, ap (λ (o : List ℕ). length o) e, content_within sequence (spec.spelled_crl_fields t))

tbs_fits : (t : TbsFields) (slice : List ℕ) → slice ≡ spelled_tbs t → length slice < 4294967296 → CanSpellCertificate t
unfolding spelled_tbs
tbs_fits t slice e h = omega (arith, h, ap (λ (o : List ℕ). length o) e, content_within sequence (spelled_fields t))

slice_fits : (slice : List ℕ) (a : RpkiAlgorithm) (value : List ℕ) → length (slice ++ (spelled_x509 a ++ spelled_bits value)) < 4294967296 → length slice < 4294967296
slice_fits slice a value h = omega (arith, h, length-append slice (spelled_x509 a ++ spelled_bits value))

identifier_of : (a : RpkiAlgorithm) → a ≡ default_algorithm → a.identifier ≡ RsaEncryption
identifier_of a e = ap (λ (x : RpkiAlgorithm). x.identifier) e

crl_held : (scheme : Relation) (issuing : KeyFields) (now : ℤ) (c : CrlFields) → IsMoment (window now).not_before → IsMoment (window now).not_after → IsCrlMade scheme issuing now c → DataCanBeSpelled spelled_x509 c.signed → IsCrlHeld c
crl_held scheme issuing now c p q m h =
    let slice : c.signed.slice ≡ spec.spelled_tbs_crl (made_crl issuing now) = m.slice ∙ ap spec.spelled_tbs_crl m.fields in
    let fits = crl_fits (made_crl issuing now) c.signed.slice slice (slice_fits c.signed.slice c.signed.signature.algorithm c.signed.signature.value h) in
    record {
      tbs = subst (λ (t : TbsCrlFields). Piece Der (tbs_crl Der) c.signed.slice t) (sym m.fields) (subst (λ o. Piece Der (tbs_crl Der) o (made_crl issuing now)) (sym slice) (made_crl_piece issuing now p q fits));
      named = identifier_of c.signed.signature.algorithm m.algorithm;
    }

-- the moments of a window
pub record AreMoments (now : ℤ) : Type 0 where
  pub now' : IsMoment now
  pub first : IsMoment (window now).not_before
  pub last : IsMoment (window now).not_after

pub window_moments : (now : ℤ) → HasWindow now → AreMoments now
window_moments now w = record {
  now' = omega (arith, ints, w.first, w.last);
  first = omega (arith, ints, w.first, w.last);
  last = omega (arith, ints, w.first, w.last);
}

assembled_held : (mode : Mode) (scheme : Relation) (content : List ℕ) (now : ℤ) (issuing key : KeyFields) (serial' : List ℕ) (m : MessageFields) (d : IsMessageMade scheme content now issuing key serial' m) → AreMoments now → length serial' ≡ 20
    → spec.CanSpellMessage (assembled (record { content = content; moment = now }) d.signature d.certificate d.crl) → IsHeld mode (assembled (record { content = content; moment = now }) d.signature d.certificate d.crl)
unfolding made_covered
assembled_held mode scheme content now issuing key serial' m d t l k =
    let f = all_fit (assembled (record { content = content; moment = now }) d.signature d.certificate d.crl) k in
    let a = made_attributes_piece mode (sha256 content) now (length-sha256 content) t.now' in
    let data'' = data_fits d.certificate.signed.slice d.certificate.signed.signature.algorithm d.certificate.signed.signature.value f.certificate in
    let slice : d.certificate.signed.slice ≡ spelled_tbs d.certificate.tbs = d.issued.slice in
    let fits = tbs_fits d.certificate.tbs d.certificate.signed.slice slice (slice_fits d.certificate.signed.slice d.certificate.signed.signature.algorithm d.certificate.signed.signature.value data'') in
    let readable : AreReadable mode d.certificate.tbs = subst (λ (x : TbsFields). AreReadable mode x) (sym d.fields) (made_readable mode false issuing key serial' (window now) l t.first t.last) in
    let subject : length d.certificate.tbs.subject_key_id ≡ 20 = ap (λ (x : TbsFields). length x.subject_key_id) d.fields ∙ sha1_twenty key.bits in
    record {
      octets = made_attributes (sha256 content) now;
      values = a.values;
      spells = a.spells;
      said = a.said;
      covers = refl;
      signer = subject;
      certificate = subst (λ o. Piece mode (tbs_certificate mode) o d.certificate.tbs) (sym slice) (tbs_piece mode d.certificate.tbs readable fits);
      named = identifier_of d.certificate.signed.signature.algorithm d.issued.algorithm;
      crls = (crl_held scheme issuing now d.crl t.first t.last d.crl_made (first_fits d.crl [] f.crls), tt);
      few = (omega arith, omega arith);
    }

pub made_held : (mode : Mode) (scheme : Relation) (content : List ℕ) (now : ℤ) (issuing key : KeyFields) (serial' : List ℕ) (m : MessageFields) → IsMessageMade scheme content now issuing key serial' m → AreMoments now → length serial' ≡ 20 → spec.CanSpellMessage m → IsHeld mode m
made_held mode scheme content now issuing key serial' m d t l k =
    subst (λ (x : MessageFields). IsHeld mode x) (sym d.is) (assembled_held mode scheme content now issuing key serial' m d t l (subst (λ (x : MessageFields). spec.CanSpellMessage x) d.is k))

-- ---- it is believed in its window

true_is : (b : Bool) → T b → b ≡ true
true_is true t = refl
true_is false t = absurd t

at_most : (a b : ℤ) → a ≤ℤ b → int_le a b ≡ true
at_most a b l = true_is (int_le a b) l.le

same_is : same_algorithm default_algorithm default_algorithm ≡ true
same_is = refl

all_checks : (scheme : Relation) (content : List ℕ) (now : ℤ) (issuing key : KeyFields) (serial' : List ℕ) (m : MessageFields) (d : IsMessageMade scheme content now issuing key serial' m) (when : ℤ) → (window now).not_before ≤ℤ when → when ≤ℤ (window now).not_after
    → first_failure 1 (checks (assembled (record { content = content; moment = now }) d.signature d.certificate d.crl) issuing when true true true) ≡ Ok tt
all_checks scheme content now issuing key serial' m d when p q =
    let e = d.fields in
    let c = d.crl_made.fields in
    let named : bytes_eq d.certificate.tbs.subject_key_id d.certificate.tbs.subject_key_id ≡ true = equal_octets d.certificate.tbs.subject_key_id in
    let own : has_own_identifier d.certificate.tbs ≡ true = subst (λ (t : TbsFields). has_own_identifier t ≡ true) (sym e) (equal_octets (sha1 key.bits)) in
    let within : is_within d.certificate.tbs.validity when ≡ true = subst (λ (t : TbsFields). is_within t.validity when ≡ true) (sym e) (are_true _ _ (at_most _ _ p) (at_most _ _ q)) in
    let issuer : names_issuer d.certificate.tbs.authority_key_id issuing ≡ true = subst (λ (t : TbsFields). names_issuer t.authority_key_id issuing ≡ true) (sym e) (equal_octets (sha1 issuing.bits)) in
    let no_ca : not (is_true d.certificate.tbs.basic_ca) ≡ true = ap (λ (t : TbsFields). not (is_true t.basic_ca)) e in
    let algorithms : (same_algorithm d.crl.tbs.algorithm d.crl.signed.signature.algorithm && true) ≡ true = are_true _ _ (subst (λ (t : TbsCrlFields). same_algorithm t.algorithm d.crl.signed.signature.algorithm ≡ true) (sym c) (subst (λ (a : RpkiAlgorithm). same_algorithm default_algorithm a ≡ true) (sym d.crl_made.algorithm) same_is)) refl in
    let this : (int_le d.crl.tbs.this_update when && true) ≡ true = are_true _ _ (subst (λ (t : TbsCrlFields). int_le t.this_update when ≡ true) (sym c) (at_most _ _ p)) refl in
    let next : (int_le when d.crl.tbs.next_update && true) ≡ true = are_true _ _ (subst (λ (t : TbsCrlFields). int_le when t.next_update ≡ true) (sym c) (at_most _ _ q)) refl in
    let listed' : (names_issuer d.crl.tbs.authority_key_id issuing && true) ≡ true = are_true _ _ (subst (λ (t : TbsCrlFields). names_issuer t.authority_key_id issuing ≡ true) (sym c) (equal_octets (sha1 issuing.bits))) refl in
    let revoked' : (not (is_listed d.certificate.tbs.serial d.crl.tbs.revoked.entries) && true) ≡ true = subst (λ (t : TbsCrlFields). (not (is_listed d.certificate.tbs.serial t.revoked.entries) && true) ≡ true) (sym c) refl in
    passes 1 (checks (assembled (record { content = content; moment = now }) d.signature d.certificate d.crl) issuing when true true true) (All-from_recursion (λ b. b ≡ true) (checks (assembled (record { content = content; moment = now }) d.signature d.certificate d.crl) issuing when true true true)
    (named, (equal_octets (sha256 content), (refl, (own, (within, (issuer, (no_ca, (refl, (algorithms, (refl, (this, (next, (listed', (revoked', tt)))))))))))))))

assembled_believed : (scheme : Relation) (content : List ℕ) (now : ℤ) (issuing key : KeyFields) (serial' : List ℕ) (m : MessageFields) (d : IsMessageMade scheme content now issuing key serial' m) (when : ℤ) → (window now).not_before ≤ℤ when → when ≤ℤ (window now).not_after
    → IsBelieved scheme (assembled (record { content = content; moment = now }) d.signature d.certificate d.crl) issuing when
assembled_believed scheme content now issuing key serial' m d when p q = record {
  signatures = record {
    attributes = subst (λ (t : TbsFields). scheme RsaSha256 t.key (made_covered content now) d.signature.value) (sym d.fields) d.signed;
    certificate = d.issued.signed;
    crls = (d.crl_made.signed, tt);
  };
  passes = all_checks scheme content now issuing key serial' m d when p q;
}

pub made_believed : (scheme : Relation) (content : List ℕ) (now : ℤ) (issuing key : KeyFields) (serial' : List ℕ) (m : MessageFields) → IsMessageMade scheme content now issuing key serial' m → (when : ℤ) → (window now).not_before ≤ℤ when → when ≤ℤ (window now).not_after → IsBelieved scheme m issuing when
made_believed scheme content now issuing key serial' m d when p q = subst (λ (x : MessageFields). IsBelieved scheme x issuing when) (sym d.is) (assembled_believed scheme content now issuing key serial' m d when p q)

-- ---- results

first_bit : (octets : List ℕ) → length octets ≡ 20 → length (without_first_bit octets) ≡ 20
first_bit [] e = e
first_bit (a ∷ more) e = e

-- what is created is believed under the issuing key at each second of its window
pub created_believed : {I : Type 0} (scheme : Relation) (content : List ℕ) (now : ℤ) (id : I) (a b : SignerState I) (m : MessageFields) → IsMessageCreated scheme content now id a b m
    → (key : KeyFields) → HoldsKey a.keyring id key → (when : ℤ) → (window now).not_before ≤ℤ when → when ≤ℤ (window now).not_after → IsBelieved scheme m key when
created_believed scheme content now id a b m c key h when p q = subst (λ (k : KeyFields). IsBelieved scheme m k when) (sym (c.only key h)) (made_believed scheme content now c.issuing c.key (without_first_bit b.random) m c.made when p q)

-- and what is written of it is read again
pub created_again : {I : Type 0} (scheme : Relation) (content : List ℕ) (now : ℤ) (id : I) (a b : SignerState I) (m : MessageFields) → IsMessageCreated scheme content now id a b m
    → (mode : Mode) (rest : List ℕ) → spec.CanSpellMessage m → BeginsAs (signed_message mode) mode (spec.rewritten m ++ rest) m
created_again scheme content now id a b m c mode rest k = begins_again mode m rest (made_held mode scheme content now c.issuing c.key (without_first_bit b.random) m c.made (window_moments now c.window_is) (first_bit b.random c.twenty) k) k

pub believed_within : {I E : Type 0} (scheme : Relation) (content : List ℕ) (w now : ℤ) (id : I) (a b : SignerState I) (r : Result MessageFields E) (f : E → Type 0) → w ≡ now → MatchResult r (IsMessageCreated scheme content w id a b) f
    → IfOk r (λ m. (key : KeyFields) → HoldsKey a.keyring id key → (when : ℤ) → (window now).not_before ≤ℤ when → when ≤ℤ (window now).not_after → IsBelieved scheme m key when)
believed_within scheme content w now id a b (Ok m) f e c = subst (λ (n : ℤ). (key : KeyFields) → HoldsKey a.keyring id key → (when : ℤ) → (window n).not_before ≤ℤ when → when ≤ℤ (window n).not_after → IsBelieved scheme m key when) e (created_believed scheme content w id a b m c)
believed_within scheme content w now id a b (Err x) f e c = tt

pub again_result : {I E : Type 0} (scheme : Relation) (content : List ℕ) (now : ℤ) (id : I) (a b : SignerState I) (r : Result MessageFields E) (f : E → Type 0) → MatchResult r (IsMessageCreated scheme content now id a b) f
    → IfOk r (λ m. (mode : Mode) (rest : List ℕ) → spec.CanSpellMessage m → BeginsAs (signed_message mode) mode (spec.rewritten m ++ rest) m)
again_result scheme content now id a b (Ok m) f c = created_again scheme content now id a b m c
again_result scheme content now id a b (Err e) f c = tt
