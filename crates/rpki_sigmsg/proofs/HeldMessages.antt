-- A message that was read holds what is written of it.
use Rattle.std.proofs.Common.{◌≡◌, ℕ, Bool, true, false, Option, None, Some, List, length, refl, ap, subst, ◌∙◌, arith}
use Rattle.std.specs.Prelude.{◌==◌, if◌then◌else◌}
use Rattle.std.specs.List.{AllByRecursion}
use Rattle.std.proofs.lemmas.Bool.{eqb-true}
use Rattle.rpki_common.specs.Chaining.{◌>>=◌}
use Rattle.rpki_common.proofs.Bounds.{bound, chosen}
use Rattle.rpki_common.proofs.Truths.{none_some, same_some}
use Rattle.rpki_der.specs.declared.mode.Mode.{Mode}
use Rattle.rpki_der.specs.declared.mode.Mode.TheVariants.{Der}
use Rattle.rpki_der.specs.Entry.{entry}
use Rattle.rpki_der.specs.Grammar.{so, within, first, every, wrapped}
use Rattle.rpki_der.specs.Held.{held, with_octets}
use Rattle.rpki_der.specs.Identifier.{has_tag}
use Rattle.rpki_der.specs.OctetString.{octets_under}
use Rattle.rpki_der.specs.Reader.{value_at, decoded}
use Rattle.rpki_der.specs.Tags.{sequence, set, context}
use Rattle.rpki_der.specs.Value.{Value, Primitive, Constructed, Values, spelling, spellings, IsValue, AreValues}
use Rattle.rpki_der.specs.Whole.{alone, whole_of}
use Rattle.rpki_der.specs.Writing.{Spells}
use Rattle.rpki_der.proofs.Decoding.{value_at-sound}
use Rattle.rpki_der.proofs.Firsts.{done_is}
use Rattle.rpki_der.proofs.Flats.{alone_only}
use Rattle.rpki_base.specs.declared.rpki_algorithm.RsaIdentifier.TheVariants.{RsaEncryption}
use Rattle.rpki_base.specs.AlgorithmLaws.{x509_named}
use Rattle.rpki_base.specs.KeyIdentifier.{twenty, key_identifier_under}
use Rattle.rpki_base.specs.RpkiSignatureAlgorithm.{RpkiAlgorithm, x509_algorithm}
use Rattle.rpki_base.specs.Signature.{SignatureParts}
use Rattle.rpki_base.specs.SignedData.{Signed, algorithm_in, signature_in, signed_as, signed_value}
use Rattle.rpki_base.proofs.Determined.{determined}
use Rattle.rpki_idcert.specs.IdCert.{CertificateFields, identity_certificate}
use Rattle.rpki_idcert.specs.TbsIdCert.{tbs_certificate}
use Rattle.rpki_idcert.proofs.Pieces.{Piece, of_whole}
use Rattle.rpki_sigmsg.specs.Attributes.{AttributeFields, attributes, signed_attributes}
use Rattle.rpki_sigmsg.specs.Crl.{CrlFields, revocation_list}
use Rattle.rpki_sigmsg.specs.Message.{MessageFields, ViewFields, AreOneOrTwo, crl_in_der, CrlSet, crl_set_of, if_any, crl_set, view_of, signed_parts, viewed_message, message_of_view, signed_message}
use Rattle.rpki_sigmsg.specs.Signer.{SignerFields, signer_info}
use Rattle.rpki_sigmsg.specs.TbsCrl.{tbs_crl}
use Rattle.rpki_sigmsg.proofs.Fields.{field, lawful_field, first_lawful, there_is}
use Rattle.rpki_sigmsg.proofs.Rewriting.{IsCrlHeld, IsHeld}

-- ---- what a grammar reads of a lawful value has a property

abbrev pub Gives : {X : Type 0} → Mode → (Value → Option X) → (X → Type 0) → Type 0
Gives {X = X} mode grammar P = (v : Value) (x : X) → IsValue mode v → grammar v ≡ Some x → P x

abbrev GivesFields : {X : Type 0} → Mode → (Values → Option X) → (X → Type 0) → Type 0
GivesFields {X = X} mode fields P = (vs : Values) (x : X) → AreValues mode vs → fields vs ≡ Some x → P x

gives_within : {X : Type 0} (mode : Mode) (tag : List ℕ) (fields : Values → Option X) (P : X → Type 0) → GivesFields mode fields P → Gives mode (within tag fields) P
unfolding within
gives_within mode tag fields P g (Primitive i l c) x p e = absurd (none_some x e)
gives_within mode tag fields P g (Constructed i f vs) x p e = g vs x p.3 (chosen (has_tag tag i) (fields vs) x e)

gives_wrapped : {X : Type 0} (mode : Mode) (tag : List ℕ) (grammar : Value → Option X) (P : X → Type 0) → Gives mode grammar P → Gives mode (wrapped tag grammar) P
unfolding wrapped
gives_wrapped mode tag grammar P g = gives_within mode tag _ P (λ vs x l e.
    let b = lawful_field mode grammar vs _ x l e in
    subst P (done_is b.x.0 x b.x.1 b.then') (g b.is.value b.x.0 b.lawful b.is.reads))

second_of : {X : Type 0} (grammar : Value → Option X) (v : Value) (p : List ℕ × X) → with_octets grammar v ≡ Some p → grammar v ≡ Some p.1
unfolding with_octets
second_of {X = X} grammar v p e =
    let b = bound (grammar v) _ p e in
    b.found ∙ ap Some (ap (λ (q : List ℕ × X). q.1) (same_some _ _ b.then'))

gives_with_octets : {X : Type 0} (mode : Mode) (grammar : Value → Option X) (P : X → Type 0) → Gives mode grammar P → Gives mode (with_octets grammar) (λ y. P y.1)
gives_with_octets mode grammar P g v p l e = g v p.1 l (second_of grammar v p e)

-- ---- signed values

-- what is signed is read as the fields, and the algorithm is one that can be written
pub record IsSignedHeld {T : Type 0} (tbs : Mode → Value → Option T) (mode : Mode) (d : Signed RpkiAlgorithm T) : Type 0 where
  pub fields : Piece mode (tbs mode) d.signed.slice d.tbs
  pub named : d.signed.signature.algorithm.identifier ≡ RsaEncryption

piece_of : {T : Type 0} (grammar : Value → Option T) (mode : Mode) (octets : List ℕ) (x : T) → whole_of grammar mode octets ≡ Some x → Piece mode grammar octets x
unfolding whole_of
piece_of grammar mode octets x e =
    let b = bound (alone mode octets) grammar x e in
    of_whole mode grammar octets x (record { value = b.x; begins = alone_only mode octets b.x b.found; reads = b.then' })

named_in : (mode : Mode) (v : Value) (a : RpkiAlgorithm) → algorithm_in (whole_of x509_algorithm) mode v ≡ Some a → a.identifier ≡ RsaEncryption
unfolding so ◌>>=◌
named_in mode v a e = x509_named mode (spelling v) a e

signature_named : (mode : Mode) (vs : Values) (s : SignatureParts RpkiAlgorithm) → signature_in (whole_of x509_algorithm) mode vs ≡ Some s → s.algorithm.identifier ≡ RsaEncryption
unfolding signature_in
signature_named mode vs s e =
    let a = field _ vs _ s e in
    let b = bound _ _ s a.then' in
    let is = done_is (record { algorithm = a.x.0; value = b.x.0.octets }) s b.x.1 b.then' in
    subst (λ (x : SignatureParts RpkiAlgorithm). x.algorithm.identifier ≡ RsaEncryption) is (named_in mode a.is.value a.x.0 a.is.reads)

signed_named : {T : Type 0} (tbs : Mode → Value → Option T) (mode : Mode) (v : Value) (d : Signed RpkiAlgorithm T) → signed_value tbs (whole_of x509_algorithm) mode v ≡ Some d → d.signed.signature.algorithm.identifier ≡ RsaEncryption
unfolding signed_value signed_as within
signed_named tbs mode (Primitive i l c) d e = absurd (none_some d e)
signed_named {T = T} tbs mode (Constructed i f vs) d e =
    let a = bound (first (with_octets (tbs mode)) vs) _ d (chosen (has_tag sequence i) _ d e) in
    let b = bound _ _ d a.then' in
    let is = same_some _ d b.then' in
    subst (λ (x : Signed RpkiAlgorithm T). x.signed.signature.algorithm.identifier ≡ RsaEncryption) is (signature_named mode a.x.1 b.x b.found)

pub signed_held : {T : Type 0} (tbs : Mode → Value → Option T) (mode : Mode) → Gives mode (signed_value tbs (whole_of x509_algorithm) mode) (IsSignedHeld tbs mode)
signed_held tbs mode v d l e = record {
  fields = piece_of (tbs mode) mode d.signed.slice d.tbs (determined tbs (whole_of x509_algorithm) mode v d l e);
  named = signed_named tbs mode v d e;
}

certificate_held : (mode : Mode) → Gives mode (identity_certificate mode) (IsSignedHeld tbs_certificate mode)
unfolding identity_certificate
certificate_held mode = signed_held tbs_certificate mode

-- ---- CRLs

list_held : Gives Der (revocation_list Der) (IsSignedHeld tbs_crl Der)
unfolding revocation_list
list_held = signed_held tbs_crl Der

crl_held : (mode : Mode) → Gives mode crl_in_der IsCrlHeld
unfolding so decoded ◌>>=◌
crl_held mode v c l e =
    let b = bound (value_at Der (spelling v)) _ c e in
    let begins = value_at-sound Der (spelling v) b.x.0 b.x.1 b.found in
    let h = list_held b.x.0 c begins.lawful b.then' in
    record { tbs = h.fields; named = h.named }

abbrev AreHeld : CrlSet → Type 0
AreHeld s = AllByRecursion IsCrlHeld s.lists × AreOneOrTwo s.lists

other_held : (mode : Mode) (vs : Values) (y : List ℕ × CrlFields) (rest : Values) → AreValues mode vs → if_any (with_octets crl_in_der) vs ≡ Some (Some y, rest) → IsCrlHeld y.1
other_held mode vs y rest l e =
    let f = there_is (with_octets crl_in_der) vs y rest e in
    gives_with_octets mode crl_in_der IsCrlHeld (crl_held mode) f.value y (first_lawful mode (with_octets crl_in_der) vs (y, rest) f l).0 f.reads

set_held : (one : List ℕ × CrlFields) (other : Option (List ℕ × CrlFields)) → IsCrlHeld one.1 → ((y : List ℕ × CrlFields) → other ≡ Some y → IsCrlHeld y.1) → AreHeld (crl_set_of one other)
set_held one None h g = ((h, tt), (omega arith, omega arith))
set_held one (Some y) h g = ((h, (g y refl, tt)), (omega arith, omega arith))

crls_held : (mode : Mode) → Gives mode crl_set AreHeld
unfolding crl_set
crls_held mode = gives_within mode (context 1) _ AreHeld (λ vs s l e.
    let a = lawful_field mode _ vs _ s l e in
    let b = bound _ _ s a.then' in
    let is = done_is (crl_set_of a.x.0 b.x.0) s b.x.1 b.then' in
    let one = gives_with_octets mode crl_in_der IsCrlHeld (crl_held mode) a.is.value a.x.0 a.lawful a.is.reads in
    subst AreHeld is (set_held a.x.0 b.x.0 one (λ y g. other_held mode a.x.1 y b.x.1 a.rest (b.found ∙ ap (λ (o : Option (List ℕ × CrlFields)). Some (o, b.x.1)) g))))

-- ---- the signer

pub record AreSaid (mode : Mode) (x : List ℕ × AttributeFields) : Type 0 where
  pub values : Values
  pub spells : Spells mode x.0 values
  pub said : (every entry values >>= attributes mode) ≡ Some x.1

attributes_held : (mode : Mode) → Gives mode (signed_attributes mode) (AreSaid mode)
unfolding signed_attributes held
attributes_held mode = gives_within mode (context 0) _ (AreSaid mode) (λ vs x l e.
    let b = bound (every entry vs >>= attributes mode) _ x e in
    let is : (spellings vs, b.x) ≡ x = same_some _ _ b.then' in
    subst (AreSaid mode) is (record { values = vs; spells = record { lawful = l; parts = refl }; said = b.found }))

twenty_by : (b : Bool) (octets x : List ℕ) → (b ≡ true → length octets ≡ 20) → (if b then Some octets else None) ≡ Some x → length x ≡ 20
twenty_by true octets x f e = subst (λ (o : List ℕ). length o ≡ 20) (same_some octets x e) (f refl)
twenty_by false octets x f e = absurd (none_some x e)

name_held : (mode : Mode) (v : Value) (x : List ℕ) → key_identifier_under (context 0) mode v ≡ Some x → length x ≡ 20
unfolding key_identifier_under so
name_held mode v x e =
    let b = bound (octets_under (context 0) mode v) twenty x e in
    twenty_by (length b.x == 20) b.x x (eqb-true (length b.x) 20) b.then'

pub record IsSignerHeld (mode : Mode) (s : SignerFields) : Type 0 where
  pub identifier : length s.identifier ≡ 20
  pub attributes : AreSaid mode (s.attributes, s.said)

signer_held : (mode : Mode) → Gives mode (signer_info mode) (IsSignerHeld mode)
unfolding signer_info
signer_held mode = gives_within mode sequence _ (IsSignerHeld mode) (λ vs s l e.
    let a = lawful_field mode _ vs _ s l e in
    let b = lawful_field mode _ a.x.1 _ s a.rest a.then' in
    let c = lawful_field mode _ b.x.1 _ s b.rest b.then' in
    let d = lawful_field mode _ c.x.1 _ s c.rest c.then' in
    let k = bound _ _ s d.then' in
    let m = bound _ _ s k.then' in
    let is = done_is _ s m.x.1 m.then' in
    subst (IsSignerHeld mode) is (record { identifier = name_held mode b.is.value b.x.0 b.is.reads; attributes = attributes_held mode d.is.value d.x.0 d.lawful d.is.reads }))

-- ---- the message

abbrev IsMessageHeld : Mode → ViewFields → Type 0
IsMessageHeld mode w = IsHeld mode w.message

view_held : (mode : Mode) (content : List ℕ × List ℕ) (certificate : List ℕ × CertificateFields) (crls : CrlSet) (signer : SignerFields) → IsSignedHeld tbs_certificate mode certificate.1 → AreHeld crls → IsSignerHeld mode signer → IsMessageHeld mode (view_of content certificate crls signer)
view_held mode content certificate crls signer c l s = record {
  octets = signer.attributes;
  values = s.attributes.values;
  spells = s.attributes.spells;
  said = s.attributes.said;
  covers = refl;
  signer = s.identifier;
  certificate = c.fields;
  named = c.named;
  crls = l.0;
  few = l.1;
}

parts_held : (mode : Mode) → Gives mode (signed_parts mode) (IsMessageHeld mode)
unfolding signed_parts
parts_held mode = gives_within mode sequence _ (IsMessageHeld mode) (λ vs w l e.
    let a = lawful_field mode _ vs _ w l e in
    let b = lawful_field mode _ a.x.1 _ w a.rest a.then' in
    let c = lawful_field mode _ b.x.1 _ w b.rest b.then' in
    let d = lawful_field mode _ c.x.1 _ w c.rest c.then' in
    let k = lawful_field mode _ d.x.1 _ w d.rest d.then' in
    let m = lawful_field mode _ k.x.1 _ w k.rest k.then' in
    let is = done_is (view_of c.x.0 d.x.0 k.x.0 m.x.0) w m.x.1 m.then' in
    let certificate = gives_wrapped mode (context 0) (with_octets (identity_certificate mode)) (λ y. IsSignedHeld tbs_certificate mode y.1) (gives_with_octets mode (identity_certificate mode) (IsSignedHeld tbs_certificate mode) (certificate_held mode)) d.is.value d.x.0 d.lawful d.is.reads in
    let crls = crls_held mode k.is.value k.x.0 k.lawful k.is.reads in
    let signer = gives_wrapped mode set (signer_info mode) (IsSignerHeld mode) (signer_held mode) m.is.value m.x.0 m.lawful m.is.reads in
    subst (IsMessageHeld mode) is (view_held mode c.x.0 d.x.0 k.x.0 m.x.0 certificate crls signer))

view_message_held : (mode : Mode) → Gives mode (viewed_message mode) (IsMessageHeld mode)
unfolding viewed_message
view_message_held mode = gives_within mode sequence _ (IsMessageHeld mode) (λ vs w l e.
    let a = lawful_field mode _ vs _ w l e in
    let b = lawful_field mode _ a.x.1 _ w a.rest a.then' in
    let is = done_is b.x.0 w b.x.1 b.then' in
    subst (IsMessageHeld mode) is (gives_wrapped mode (context 0) (signed_parts mode) (IsMessageHeld mode) (parts_held mode) b.is.value b.x.0 b.lawful b.is.reads))

pub message_held : (mode : Mode) (v : Value) (m : MessageFields) → IsValue mode v → signed_message mode v ≡ Some m → IsHeld mode m
unfolding signed_message so
message_held mode v m l e =
    let b = bound (viewed_message mode v) message_of_view m e in
    subst (IsHeld mode) (same_some b.x.message m b.then') (view_message_held mode v b.x l b.found)
