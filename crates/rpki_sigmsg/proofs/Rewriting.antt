-- A message that is written in DER is read again as that message.
use Rattle.std.proofs.Common.{◌≡◌, ℕ, ◌≤◌, ◌<◌, Option, None, Some, List, [], ◌∷◌, ◌++◌, length, refl, sym, ap, subst, ◌∙◌, arith, length-append}
use Rattle.std.specs.List.{AllByRecursion}
use Rattle.std.proofs.lemmas.Bool.{eq-eqb}
use Rattle.std.proofs.lemmas.List.{append-nil}
use Rattle.rpki_common.specs.Chaining.{◌>>=◌}
use Rattle.rpki_der.specs.declared.mode.Mode.{Mode}
use Rattle.rpki_der.specs.declared.mode.Mode.TheVariants.{Ber, Der}
use Rattle.rpki_der.specs.Entry.{entry}
use Rattle.rpki_der.specs.Grammar.{so, within, first, optional, every, done, wrapped}
use Rattle.rpki_der.specs.Held.{held, with_octets}
use Rattle.rpki_der.specs.Identifier.{IsTag}
use Rattle.rpki_der.specs.InDer.{in_der}
use Rattle.rpki_der.specs.Integer.{integer_is}
use Rattle.rpki_der.specs.Null.{null}
use Rattle.rpki_der.specs.OctetString.{joined_pieces, octets_under, octet_string}
use Rattle.rpki_der.specs.Oid.{oid, oid_is}
use Rattle.rpki_der.specs.Tags.{sequence, set, context, oid_tag, integer_tag, null_tag, octet_string_tag}
use Rattle.rpki_der.specs.Value.{Value, Values, End, ◌▸◌, spelling, spellings, IsValue}
use Rattle.rpki_der.specs.Whole.{whole_of}
use Rattle.rpki_der.specs.Writing.{der_length, der_primitive, der_constructed, primitive_value, Spells}
use Rattle.rpki_der.proofs.Strict.{loose_value}
use Rattle.rpki_der.proofs.Written.{spells_one, spells_followed, spells_primitive}
use Rattle.rpki_base.specs.declared.rpki_algorithm.RsaIdentifier.TheVariants.{RsaEncryption}
use Rattle.rpki_base.specs.AlgorithmLaws.{cms_again, cms_value}
use Rattle.rpki_base.specs.Bits.{spelled_bits}
use Rattle.rpki_base.specs.KeyIdentifier.{key_identifier_under}
use Rattle.rpki_base.specs.RpkiSignatureAlgorithm.{RpkiAlgorithm, cms_algorithm, spelled_x509, spelled_cms}
use Rattle.rpki_base.specs.SignedData.{spelled_data, CanSpellSigned as DataCanBeSpelled}
use Rattle.rpki_base.specs.WritingLaws.{is_sequence, is_oid}
use Rattle.rpki_idcert.specs.IdCert.{CertificateFields, identity_certificate}
use Rattle.rpki_idcert.specs.TbsIdCert.{tbs_certificate}
use Rattle.rpki_idcert.proofs.Pieces.{Piece, parts_of_one, constructed, wrapping, with_its_octets, as_octets, inside_is}
use Rattle.rpki_idcert.proofs.ReadAgain.{is_integer, is_octets, is_context_0, signed_piece, certificate_piece}
use Rattle.rpki_idcert.proofs.Sizes.{content_within}
use Rattle.rpki_sigmsg.specs.Algorithm.{digest_algorithm, signature_algorithm}
use Rattle.rpki_sigmsg.specs.Attributes.{AttributeFields, attributes, signed_attributes, covered}
use Rattle.rpki_sigmsg.specs.Crl.{CrlFields, revocation_list}
use Rattle.rpki_sigmsg.specs.Message.{MessageFields, ViewFields, AreOneOrTwo, encapsulated_content, crl_in_der, CrlSet, crl_set_of, if_any, crl_set, view_of, signed_parts, viewed_message, signed_message}
use Rattle.rpki_sigmsg.specs.ObjectIdentifiers.{signed_data_type, xml_content, sha256_name}
use Rattle.rpki_sigmsg.specs.Signer.{SignerFields, signer_info}
use Rattle.rpki_sigmsg.specs.Spelling as spec
use Rattle.rpki_sigmsg.specs.TbsCrl.{tbs_crl}

-- ---- what is held

-- what is signed of a CRL is read as its fields in DER, and its algorithm is the one that can be written
pub record IsCrlHeld (c : CrlFields) : Type 0 where
  pub tbs : Piece Der (tbs_crl Der) c.signed.slice c.tbs
  pub named : c.signed.signature.algorithm.identifier ≡ RsaEncryption

-- what is signed of a message is read as its fields, by the rules of the mode
pub record IsHeld (mode : Mode) (m : MessageFields) : Type 0 where
  pub octets : List ℕ
  pub values : Values
  pub spells : Spells mode octets values
  pub said : (every entry values >>= attributes mode) ≡ Some (record { digest = m.digest; signing_time = m.signing_time })
  pub covers : m.covered ≡ covered octets
  pub signer : length m.signer ≡ 20
  pub certificate : Piece mode (tbs_certificate mode) m.certificate.signed.slice m.certificate.tbs
  pub named : m.certificate.signed.signature.algorithm.identifier ≡ RsaEncryption
  pub crls : AllByRecursion IsCrlHeld m.crls
  pub few : AreOneOrTwo m.crls

-- ---- tags

pub is_set : IsTag set
is_set = ((λ e. omega (arith, e), λ e. omega (arith, e), λ e. omega (arith, e)), refl)

is_context_1 : IsTag (context 1)
is_context_1 = ((λ e. omega (arith, e), λ e. omega (arith, e), λ e. omega (arith, e)), refl)

-- ---- sizes

primitive_within : (tag content : List ℕ) → length content ≤ length (der_primitive tag content)
primitive_within tag content = omega (arith, length-append tag (der_length (length content) ++ content), length-append (der_length (length content)) content)

pub data_fits : (slice : List ℕ) (a : RpkiAlgorithm) (value : List ℕ) → length (der_constructed sequence (slice ++ (spelled_x509 a ++ spelled_bits value))) < 4294967296 → length (slice ++ (spelled_x509 a ++ spelled_bits value)) < 4294967296
data_fits slice a value h = omega (arith, h, content_within sequence (slice ++ (spelled_x509 a ++ spelled_bits value)))

pub first_fits : (c : CrlFields) (more : List CrlFields) → length (spec.spelled_crls (c ∷ more)) < 4294967296 → DataCanBeSpelled spelled_x509 c.signed
first_fits c more h = data_fits c.signed.slice c.signed.signature.algorithm c.signed.signature.value (omega (arith, h, length-append (spelled_data spelled_x509 c.signed) (spec.spelled_crls more)))

second_fits : (c d : CrlFields) → length (spec.spelled_crls (c ∷ d ∷ [])) < 4294967296 → DataCanBeSpelled spelled_x509 d.signed
second_fits c d h = first_fits d [] (omega (arith, h, length-append (spelled_data spelled_x509 c.signed) (spec.spelled_crls (d ∷ []))))

-- ---- small parts

three : (mode : Mode) → Piece mode (integer_is 3) (der_primitive integer_tag (3 ∷ [])) tt
unfolding integer_is so ◌>>=◌
three mode = record { value = primitive_value integer_tag (3 ∷ []); spells = spells_primitive mode integer_tag (3 ∷ []) is_integer (omega arith); reads = refl }

signed_type : (mode : Mode) → Piece mode (oid_is signed_data_type) (der_primitive oid_tag signed_data_type) tt
unfolding oid_is oid so ◌>>=◌
signed_type mode = record { value = primitive_value oid_tag signed_data_type; spells = spells_primitive mode oid_tag signed_data_type is_oid (omega arith); reads = refl }

xml_type : (mode : Mode) → Piece mode (oid_is xml_content) (der_primitive oid_tag xml_content) tt
unfolding oid_is oid so ◌>>=◌
xml_type mode = record { value = primitive_value oid_tag xml_content; spells = spells_primitive mode oid_tag xml_content is_oid (omega arith); reads = refl }

string_read : (mode : Mode) (octets : List ℕ) → octet_string mode (primitive_value octet_string_tag octets) ≡ Some octets
unfolding octets_under joined_pieces
string_read Ber octets = refl
string_read Der octets = refl

pub a_string : (mode : Mode) (octets : List ℕ) → length octets < 4294967296 → Piece mode (octet_string mode) (der_primitive octet_string_tag octets) octets
a_string mode octets h = record { value = primitive_value octet_string_tag octets; spells = spells_primitive mode octet_string_tag octets is_octets h; reads = string_read mode octets }

name_read : (mode : Mode) (id : List ℕ) → length id ≡ 20 → key_identifier_under (context 0) mode (primitive_value (context 0) id) ≡ Some id
unfolding key_identifier_under octets_under joined_pieces so ◌>>=◌
name_read Ber id l = rw (eq-eqb (length id) 20 l) refl
name_read Der id l = rw (eq-eqb (length id) 20 l) refl

pub signer_name : (mode : Mode) (id : List ℕ) → length id ≡ 20 → Piece mode (key_identifier_under (context 0) mode) (der_primitive (context 0) id) id
signer_name mode id l = record { value = primitive_value (context 0) id; spells = spells_primitive mode (context 0) id is_context_0 (omega (arith, l)); reads = name_read mode id l }

abbrev digest_fields : Values → Option (Unit {0})
digest_fields vs = do
  name ← first (oid_is sha256_name) vs
  parameters ← optional null_tag null name.1
  done tt parameters.1

digest_read : digest_fields (primitive_value oid_tag sha256_name ▸ End) ≡ Some tt
unfolding first optional oid_is oid so done ◌>>=◌
digest_read = refl

digest_piece : (mode : Mode) → Piece mode digest_algorithm spec.spelled_digest_algorithm tt
unfolding digest_algorithm spec.spelled_digest_algorithm
digest_piece mode = constructed mode sequence (der_primitive oid_tag sha256_name) digest_fields (primitive_value oid_tag sha256_name ▸ End) tt is_sequence (omega arith) (spells_primitive mode oid_tag sha256_name is_oid (omega arith)) digest_read

digest_size : length spec.spelled_digest_algorithm ≡ 13
unfolding spec.spelled_digest_algorithm
digest_size = refl

algorithm_piece : (mode : Mode) (a : RpkiAlgorithm) → Piece mode (signature_algorithm mode) (spelled_cms a) a
algorithm_piece mode a = let v = cms_value mode a [] in as_octets mode (spelled_cms a) (whole_of cms_algorithm mode) a v.0 v.1 (cms_again mode a)

-- ---- the content

abbrev content_fields : Mode → Values → Option (List ℕ × List ℕ)
content_fields mode vs = do
  type ← first (oid_is xml_content) vs
  content ← first (wrapped (context 0) (with_octets (octet_string mode))) type.1
  done content.0 content.1

content_reads : (mode : Mode) (v w : Value) (x : List ℕ × List ℕ) → oid_is xml_content v ≡ Some tt → wrapped (context 0) (with_octets (octet_string mode)) w ≡ Some x → content_fields mode (v ▸ w ▸ End) ≡ Some x
unfolding first done ◌>>=◌
content_reads mode v w x e f = rw (e, f) refl

content_piece : (mode : Mode) (content : List ℕ) → length (der_primitive oid_tag xml_content ++ der_constructed (context 0) (der_primitive octet_string_tag content)) < 4294967296 → Piece mode (encapsulated_content mode) (spec.spelled_content content) (der_primitive octet_string_tag content, content)
unfolding encapsulated_content spec.spelled_content
content_piece mode content h =
    let inner : length (der_primitive octet_string_tag content) < 4294967296 = omega (arith, h, length-append (der_primitive oid_tag xml_content) (der_constructed (context 0) (der_primitive octet_string_tag content)), content_within (context 0) (der_primitive octet_string_tag content)) in
    let t = xml_type mode in
    let s = a_string mode content (omega (arith, inner, primitive_within octet_string_tag content)) in
    let w = wrapping mode (context 0) (der_primitive octet_string_tag content) (with_octets (octet_string mode)) _ is_context_0 inner (with_its_octets mode (octet_string mode) _ content s) in
    constructed mode sequence _ (content_fields mode) (t.value ▸ w.value ▸ End) _ is_sequence h (spells_followed mode _ _ _ _ t.spells w.spells) (content_reads mode t.value w.value _ t.reads w.reads)

-- ---- a CRL

in_mode : (mode : Mode) (v : Value) → IsValue Der v → IsValue mode v
in_mode Ber v l = loose_value v l
in_mode Der v l = l

crl_read : (octets : List ℕ) (c : CrlFields) (v : Value) → octets ≡ spelling v → in_der (revocation_list Der) octets ≡ Some c → crl_in_der v ≡ Some c
unfolding so ◌>>=◌
crl_read octets c v p e = ap (in_der (revocation_list Der)) (sym p) ∙ e

crl_piece : (mode : Mode) (c : CrlFields) → IsCrlHeld c → DataCanBeSpelled spelled_x509 c.signed → Piece mode crl_in_der (spelled_data spelled_x509 c.signed) c
unfolding revocation_list
crl_piece mode c h s =
    let p = signed_piece tbs_crl Der c h.tbs h.named s in
    let is = parts_of_one Der (spelled_data spelled_x509 c.signed) p.value p.spells in
    record {
      value = p.value;
      spells = subst (λ o. Spells mode o (p.value ▸ End)) (sym is) (spells_one mode p.value (in_mode mode p.value p.spells.lawful.0));
      reads = crl_read (spelled_data spelled_x509 c.signed) c p.value is (inside_is (revocation_list Der) (spelled_data spelled_x509 c.signed) c p);
    }

held_crl : (mode : Mode) (c : CrlFields) → IsCrlHeld c → DataCanBeSpelled spelled_x509 c.signed → Piece mode (with_octets crl_in_der) (spelled_data spelled_x509 c.signed) (spelled_data spelled_x509 c.signed, c)
held_crl mode c h s = with_its_octets mode crl_in_der (spelled_data spelled_x509 c.signed) c (crl_piece mode c h s)

abbrev crl_fields : Values → Option CrlSet
crl_fields vs = do
  one ← first (with_octets crl_in_der) vs
  other ← if_any (with_octets crl_in_der) one.1
  done (crl_set_of one.0 other.0) other.1

one_reads : (v : Value) (x : List ℕ × CrlFields) → with_octets crl_in_der v ≡ Some x → crl_fields (v ▸ End) ≡ Some (crl_set_of x None)
unfolding first if_any done ◌>>=◌
one_reads v x e = rw e refl

two_read : (v w : Value) (x y : List ℕ × CrlFields) → with_octets crl_in_der v ≡ Some x → with_octets crl_in_der w ≡ Some y → crl_fields (v ▸ w ▸ End) ≡ Some (crl_set_of x (Some y))
unfolding first if_any done ◌>>=◌
two_read v w x y e f = rw (e, f) refl

-- a set whose lists are these
pub record SetPiece (mode : Mode) (crls : List CrlFields) : Type 0 where
  pub crl_set' : CrlSet
  pub lists : crl_set'.lists ≡ crls
  pub piece : Piece mode crl_set (der_constructed (context 1) (spec.spelled_crls crls)) crl_set'

crls_piece : (mode : Mode) (crls : List CrlFields) → AllByRecursion IsCrlHeld crls → AreOneOrTwo crls → length (spec.spelled_crls crls) < 4294967296 → SetPiece mode crls
unfolding crl_set
crls_piece mode [] a f h = absurd (omega (arith, f.0))
crls_piece mode (c ∷ []) a f h =
    let p = held_crl mode c a.0 (first_fits c [] h) in
    let octets : spec.spelled_crls (c ∷ []) ≡ spelled_data spelled_x509 c.signed = append-nil (spelled_data spelled_x509 c.signed) in
    record {
      crl_set' = crl_set_of (spelled_data spelled_x509 c.signed, c) None;
      lists = refl;
      piece = constructed mode (context 1) (spec.spelled_crls (c ∷ [])) crl_fields (p.value ▸ End) _ is_context_1 h (subst (λ o. Spells mode o (p.value ▸ End)) (sym octets) p.spells) (one_reads p.value _ p.reads);
    }
crls_piece mode (c ∷ d ∷ []) a f h =
    let p = held_crl mode c a.0 (first_fits c (d ∷ []) h) in
    let q = held_crl mode d a.1.0 (second_fits c d h) in
    let octets : spec.spelled_crls (c ∷ d ∷ []) ≡ spelled_data spelled_x509 c.signed ++ spelled_data spelled_x509 d.signed = ap (λ o. spelled_data spelled_x509 c.signed ++ o) (append-nil (spelled_data spelled_x509 d.signed)) in
    record {
      crl_set' = crl_set_of (spelled_data spelled_x509 c.signed, c) (Some (spelled_data spelled_x509 d.signed, d));
      lists = refl;
      piece = constructed mode (context 1) (spec.spelled_crls (c ∷ d ∷ [])) crl_fields (p.value ▸ q.value ▸ End) _ is_context_1 h (subst (λ o. Spells mode o (p.value ▸ q.value ▸ End)) (sym octets) (spells_followed mode _ _ _ _ p.spells q.spells)) (two_read p.value q.value _ _ p.reads q.reads);
    }
crls_piece mode (c ∷ d ∷ e ∷ more) a f h = absurd (omega (arith, f.1))

-- ---- the attributes

held_reads : (mode : Mode) (octets : List ℕ) (vs : Values) (s : AttributeFields) → octets ≡ spellings vs → (every entry vs >>= attributes mode) ≡ Some s → held (λ ws. every entry ws >>= attributes mode) vs ≡ Some (octets, s)
unfolding held ◌>>=◌
held_reads mode octets vs s p e = rw (e, p) refl

attributes_piece : (mode : Mode) (octets : List ℕ) (vs : Values) (s : AttributeFields) → Spells mode octets vs → (every entry vs >>= attributes mode) ≡ Some s → length octets < 4294967296 → Piece mode (signed_attributes mode) (der_constructed (context 0) octets) (octets, s)
unfolding signed_attributes
attributes_piece mode octets vs s p e h = constructed mode (context 0) octets (held (λ ws. every entry ws >>= attributes mode)) vs (octets, s) is_context_0 h p (held_reads mode octets vs s p.parts e)

under : (octets : List ℕ) → spec.under_context (covered octets) ≡ der_constructed (context 0) octets
under octets = refl

-- ---- the signer

abbrev signer_in : Mode → Values → Option SignerFields
signer_in mode vs = do
  version ← first (integer_is 3) vs
  identifier ← first (key_identifier_under (context 0) mode) version.1
  digest ← first digest_algorithm identifier.1
  attributes ← first (signed_attributes mode) digest.1
  algorithm ← first (signature_algorithm mode) attributes.1
  signature ← first (with_octets (octet_string mode)) algorithm.1
  done (record {
    identifier = identifier.0;
    attributes = attributes.0.0;
    said = attributes.0.1;
    signature_value = signature.0.0;
    signature = record { algorithm = algorithm.0; value = signature.0.1 };
  }) signature.1

signer_reads : (mode : Mode) (v1 v2 v3 v4 v5 v6 : Value) (id : List ℕ) (a : List ℕ × AttributeFields) (g : RpkiAlgorithm) (s : List ℕ × List ℕ) → integer_is 3 v1 ≡ Some tt → key_identifier_under (context 0) mode v2 ≡ Some id → digest_algorithm v3 ≡ Some tt → signed_attributes mode v4 ≡ Some a → signature_algorithm mode v5 ≡ Some g
    → with_octets (octet_string mode) v6 ≡ Some s → signer_in mode (v1 ▸ v2 ▸ v3 ▸ v4 ▸ v5 ▸ v6 ▸ End) ≡ Some (record { identifier = id; attributes = a.0; said = a.1; signature_value = s.0; signature = record { algorithm = g; value = s.1 } })
unfolding first done ◌>>=◌
signer_reads mode v1 v2 v3 v4 v5 v6 id a g s e1 e2 e3 e4 e5 e6 = rw (e1, e2, e3, e4, e5, e6) refl

-- ---- what fits

pub record Fits (m : MessageFields) : Type 0 where
  pub data' : length (der_constructed sequence (spec.signed_data_fields m)) < 4294967296
  pub fields : length (spec.signed_data_fields m) < 4294967296
  pub content : length (spec.spelled_content m.content) < 4294967296
  pub certificate : length (spelled_data spelled_x509 m.certificate.signed) < 4294967296
  pub crls : length (spec.spelled_crls m.crls) < 4294967296
  pub signer : length (spec.spelled_signer m) < 4294967296
  pub signer_fields : length (spec.signer_fields m) < 4294967296
  pub attributes : length (spec.under_context m.covered) < 4294967296
  pub signature : length m.signature.value < 4294967296

pub all_fit : (m : MessageFields) → spec.CanSpellMessage m → Fits m
unfolding spec.message_parts spec.signed_data_fields spec.spelled_signer
all_fit m h =
    let a0 = der_primitive oid_tag signed_data_type in
    let f = spec.signed_data_fields m in
    let data'' : length (der_constructed sequence f) < 4294967296 = omega (arith, h, length-append a0 (der_constructed (context 0) (der_constructed sequence f)), content_within (context 0) (der_constructed sequence f)) in
    let ff : length f < 4294967296 = omega (arith, data'', content_within sequence f) in
    let p1 = der_primitive integer_tag (3 ∷ []) in
    let p2 = der_constructed set spec.spelled_digest_algorithm in
    let p3 = spec.spelled_content m.content in
    let c4 = spelled_data spelled_x509 m.certificate.signed in
    let p4 = der_constructed (context 0) c4 in
    let c5 = spec.spelled_crls m.crls in
    let p5 = der_constructed (context 1) c5 in
    let c6 = spec.spelled_signer m in
    let p6 = der_constructed set c6 in
    let r5 : length (p5 ++ p6) < 4294967296 = omega (arith, ff, length-append p1 (p2 ++ (p3 ++ (p4 ++ (p5 ++ p6)))), length-append p2 (p3 ++ (p4 ++ (p5 ++ p6))), length-append p3 (p4 ++ (p5 ++ p6)), length-append p4 (p5 ++ p6)) in
    let l3 : length p3 < 4294967296 = omega (arith, ff, length-append p1 (p2 ++ (p3 ++ (p4 ++ (p5 ++ p6)))), length-append p2 (p3 ++ (p4 ++ (p5 ++ p6))), length-append p3 (p4 ++ (p5 ++ p6))) in
    let l4 : length c4 < 4294967296 = omega (arith, ff, length-append p1 (p2 ++ (p3 ++ (p4 ++ (p5 ++ p6)))), length-append p2 (p3 ++ (p4 ++ (p5 ++ p6))), length-append p3 (p4 ++ (p5 ++ p6)), length-append p4 (p5 ++ p6), content_within (context 0) c4) in
    let l5 : length c5 < 4294967296 = omega (arith, r5, length-append p5 p6, content_within (context 1) c5) in
    let l6 : length c6 < 4294967296 = omega (arith, r5, length-append p5 p6, content_within set c6) in
    let sf = spec.signer_fields m in
    let ls : length sf < 4294967296 = omega (arith, l6, content_within sequence sf) in
    let q1 = der_primitive integer_tag (3 ∷ []) in
    let q2 = der_primitive (context 0) m.signer in
    let q3 = spec.spelled_digest_algorithm in
    let q4 = spec.under_context m.covered in
    let q5 = spelled_cms m.signature.algorithm in
    let q6 = der_primitive octet_string_tag m.signature.value in
    let t4 : length (q4 ++ (q5 ++ q6)) < 4294967296 = omega (arith, ls, length-append q1 (q2 ++ (q3 ++ (q4 ++ (q5 ++ q6)))), length-append q2 (q3 ++ (q4 ++ (q5 ++ q6))), length-append q3 (q4 ++ (q5 ++ q6))) in
    record {
      data' = data'';
      fields = ff;
      content = l3;
      certificate = l4;
      crls = l5;
      signer = l6;
      signer_fields = ls;
      attributes = omega (arith, t4, length-append q4 (q5 ++ q6));
      signature = omega (arith, t4, length-append q4 (q5 ++ q6), length-append q5 q6, primitive_within octet_string_tag m.signature.value);
    }

-- ---- the signer

-- the signer whose view is of this message
pub record SignerPiece (mode : Mode) (m : MessageFields) (octets : List ℕ) : Type 0 where
  pub fields : SignerFields
  pub identifier : fields.identifier ≡ m.signer
  pub said : fields.said ≡ record { digest = m.digest; signing_time = m.signing_time }
  pub attributes : fields.attributes ≡ octets
  pub signature : fields.signature ≡ m.signature
  pub piece : Piece mode (signer_info mode) (spec.spelled_signer m) fields

signer_piece : (mode : Mode) (m : MessageFields) (h : IsHeld mode m) → Fits m → SignerPiece mode m h.octets
unfolding signer_info spec.spelled_signer
signer_piece mode m h f =
    let is : spec.under_context m.covered ≡ der_constructed (context 0) h.octets = ap spec.under_context h.covers in
    let short : length h.octets < 4294967296 = omega (arith, f.attributes, ap (λ (o : List ℕ). length o) is, content_within (context 0) h.octets) in
    let p1 = three mode in
    let p2 = signer_name mode m.signer h.signer in
    let p3 = digest_piece mode in
    let s : AttributeFields = record { digest = m.digest; signing_time = m.signing_time } in
    let p4 = subst (λ o. Piece mode (signed_attributes mode) o (h.octets, s)) (sym is) (attributes_piece mode h.octets h.values s h.spells h.said short) in
    let p5 = algorithm_piece mode m.signature.algorithm in
    let p6 = with_its_octets mode (octet_string mode) _ m.signature.value (a_string mode m.signature.value f.signature) in
    record {
      fields = record { identifier = m.signer; attributes = h.octets; said = s; signature_value = der_primitive octet_string_tag m.signature.value; signature = m.signature };
      identifier = refl;
      said = refl;
      attributes = refl;
      signature = refl;
      piece = constructed mode sequence (spec.signer_fields m) (signer_in mode) (p1.value ▸ p2.value ▸ p3.value ▸ p4.value ▸ p5.value ▸ p6.value ▸ End) _ is_sequence f.signer_fields
          (spells_followed mode _ _ _ _ p1.spells (spells_followed mode _ _ _ _ p2.spells (spells_followed mode _ _ _ _ p3.spells (spells_followed mode _ _ _ _ p4.spells (spells_followed mode _ _ _ _ p5.spells p6.spells)))))
          (signer_reads mode p1.value p2.value p3.value p4.value p5.value p6.value m.signer (h.octets, s) m.signature.algorithm (der_primitive octet_string_tag m.signature.value, m.signature.value) p1.reads p2.reads p3.reads p4.reads p5.reads p6.reads);
    }

-- ---- the message

abbrev parts_in : Mode → Values → Option ViewFields
parts_in mode vs = do
  version ← first (integer_is 3) vs
  algorithms ← first (wrapped set digest_algorithm) version.1
  content ← first (encapsulated_content mode) algorithms.1
  certificate ← first (wrapped (context 0) (with_octets (identity_certificate mode))) content.1
  crls ← first crl_set certificate.1
  signer ← first (wrapped set (signer_info mode)) crls.1
  done (view_of content.0 certificate.0 crls.0 signer.0) signer.1

parts_read : (mode : Mode) (v1 v2 v3 v4 v5 v6 : Value) (c : List ℕ × List ℕ) (k : List ℕ × CertificateFields) (l : CrlSet) (s : SignerFields) → integer_is 3 v1 ≡ Some tt → wrapped set digest_algorithm v2 ≡ Some tt → encapsulated_content mode v3 ≡ Some c → wrapped (context 0) (with_octets (identity_certificate mode)) v4 ≡ Some k
    → crl_set v5 ≡ Some l → wrapped set (signer_info mode) v6 ≡ Some s → parts_in mode (v1 ▸ v2 ▸ v3 ▸ v4 ▸ v5 ▸ v6 ▸ End) ≡ Some (view_of c k l s)
unfolding first done ◌>>=◌
parts_read mode v1 v2 v3 v4 v5 v6 c k l s e1 e2 e3 e4 e5 e6 = rw (e1, e2, e3, e4, e5, e6) refl

abbrev whole_in : Mode → Values → Option ViewFields
whole_in mode vs = do
  type ← first (oid_is signed_data_type) vs
  parts ← first (wrapped (context 0) (signed_parts mode)) type.1
  done parts.0 parts.1

whole_read : (mode : Mode) (v w : Value) (x : ViewFields) → oid_is signed_data_type v ≡ Some tt → wrapped (context 0) (signed_parts mode) w ≡ Some x → whole_in mode (v ▸ w ▸ End) ≡ Some x
unfolding first done ◌>>=◌
whole_read mode v w x e f = rw (e, f) refl

-- a view of this message
pub record ViewPiece (mode : Mode) (m : MessageFields) : Type 0 where
  pub view : ViewFields
  pub is : view.message ≡ m
  pub piece : Piece mode (viewed_message mode) (spec.rewritten m) view

same_message : (m : MessageFields) (crls : List CrlFields) (s : SignerFields) (octets : List ℕ) → crls ≡ m.crls → s.identifier ≡ m.signer → s.said ≡ record { digest = m.digest; signing_time = m.signing_time } → s.attributes ≡ octets → s.signature ≡ m.signature → m.covered ≡ covered octets
    → ◌≡◌ {A = MessageFields} (record { content = m.content; signer = s.identifier; digest = s.said.digest; signing_time = s.said.signing_time; covered = covered s.attributes; signature = s.signature; certificate = m.certificate; crls = crls }) m
same_message m crls s octets e f g a k c = rw (e, f, g, k, ap covered a, sym c) refl

view_piece : (mode : Mode) (m : MessageFields) → IsHeld mode m → spec.CanSpellMessage m → ViewPiece mode m
unfolding spec.rewritten spec.message_parts spec.signed_data_fields spec.spelled_content viewed_message signed_parts
view_piece mode m h k =
    let f = all_fit m k in
    let p1 = three mode in
    let p2 = wrapping mode set spec.spelled_digest_algorithm digest_algorithm tt is_set (omega (arith, digest_size)) (digest_piece mode) in
    let p3 = content_piece mode m.content (omega (arith, f.content, content_within sequence (der_primitive oid_tag xml_content ++ der_constructed (context 0) (der_primitive octet_string_tag m.content)))) in
    let data'' : DataCanBeSpelled spelled_x509 m.certificate.signed = data_fits m.certificate.signed.slice m.certificate.signed.signature.algorithm m.certificate.signed.signature.value f.certificate in
    let p4 = wrapping mode (context 0) (spelled_data spelled_x509 m.certificate.signed) (with_octets (identity_certificate mode)) _ is_context_0 f.certificate (with_its_octets mode (identity_certificate mode) _ m.certificate (certificate_piece mode m.certificate h.certificate h.named data'')) in
    let s5 = crls_piece mode m.crls h.crls h.few f.crls in
    let s6 = signer_piece mode m h f in
    let p6 = wrapping mode set (spec.spelled_signer m) (signer_info mode) s6.fields is_set f.signer s6.piece in
    let view' = view_of (der_primitive octet_string_tag m.content, m.content) (spelled_data spelled_x509 m.certificate.signed, m.certificate) s5.crl_set' s6.fields in
    let parts : Piece mode (within sequence (parts_in mode)) (der_constructed sequence (spec.signed_data_fields m)) view' =
    constructed mode sequence (spec.signed_data_fields m) (parts_in mode) (p1.value ▸ p2.value ▸ p3.value ▸ p4.value ▸ s5.piece.value ▸ p6.value ▸ End) view' is_sequence f.fields
    (spells_followed mode _ _ _ _ p1.spells (spells_followed mode _ _ _ _ p2.spells (spells_followed mode _ _ _ _ p3.spells (spells_followed mode _ _ _ _ p4.spells (spells_followed mode _ _ _ _ s5.piece.spells p6.spells)))))
    (parts_read mode p1.value p2.value p3.value p4.value s5.piece.value p6.value _ _ s5.crl_set' s6.fields p1.reads p2.reads p3.reads p4.reads s5.piece.reads p6.reads) in
    let t = signed_type mode in
    let w = wrapping mode (context 0) (der_constructed sequence (spec.signed_data_fields m)) (signed_parts mode) view' is_context_0 f.data' parts in
    record {
      view = view';
      is = same_message m s5.crl_set'.lists s6.fields h.octets s5.lists s6.identifier s6.said s6.attributes s6.signature h.covers;
      piece = constructed mode sequence (spec.message_parts m) (whole_in mode) (t.value ▸ w.value ▸ End) view' is_sequence k (spells_followed mode _ _ _ _ t.spells w.spells) (whole_read mode t.value w.value view' t.reads w.reads);
    }

message_read : (mode : Mode) (v : Value) (w : ViewFields) (m : MessageFields) → viewed_message mode v ≡ Some w → w.message ≡ m → signed_message mode v ≡ Some m
unfolding signed_message so ◌>>=◌
message_read mode v w m e f = rw e (ap (λ (x : MessageFields). Some x) f)

pub held_again : (mode : Mode) (m : MessageFields) → IsHeld mode m → spec.CanSpellMessage m → Piece mode (signed_message mode) (spec.rewritten m) m
held_again mode m h k =
    let p = view_piece mode m h k in
    record { value = p.piece.value; spells = p.piece.spells; reads = message_read mode p.piece.value p.view m p.piece.reads p.is }
