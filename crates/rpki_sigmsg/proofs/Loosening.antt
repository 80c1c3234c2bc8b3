-- What is read in DER is read in BER as the same.
use Rattle.std.proofs.Common.{◌≡◌, ℕ, Bool, true, false, Option, None, Some, List, [], ◌∷◌, refl}
use Rattle.std.specs.Prelude.{◌==◌, if◌then◌else◌}
use Rattle.std.proofs.lemmas.Option.{none-some}
use Rattle.rpki_common.specs.Chaining.{◌>>=◌}
use Rattle.rpki_common.specs.Items.{the_one}
use Rattle.rpki_der.specs.declared.mode.Mode.TheVariants.{Ber, Der}
use Rattle.rpki_der.specs.Identifier.{has_tag}
use Rattle.rpki_der.specs.Tags.{boolean_tag, octet_string_tag, sequence, set, context}
use Rattle.rpki_der.specs.Value.{Value, Primitive, Constructed, Values, End, ◌▸◌}
use Rattle.rpki_der.specs.Grammar.{identifier_of, any, primitive, so, within, first, optional, every, wrapped}
use Rattle.rpki_der.specs.Held.{held, with_octets}
use Rattle.rpki_der.specs.Boolean.{truth, boolean}
use Rattle.rpki_der.specs.OctetString.{joined_pieces, octets_under, octet_string}
use Rattle.rpki_der.specs.Oid.{oid}
use Rattle.rpki_der.specs.Entry.{entry, set_of}
use Rattle.rpki_der.specs.Takes.{BeginsAs}
use Rattle.rpki_der.specs.Whole.{alone, whole_of}
use Rattle.rpki_der.proofs.Flats.{alone_begins, alone_only}
use Rattle.rpki_der.proofs.Strict.{loose_begins}
use Rattle.rpki_base.specs.KeyIdentifier.{twenty, key_identifier_under}
use Rattle.rpki_base.specs.Extension.{extension}
use Rattle.rpki_base.specs.SignedData.{algorithm_in, signature_in, signed_as, signed_value}
use Rattle.rpki_base.specs.RpkiSignatureAlgorithm.{RpkiAlgorithm, x509_algorithm, cms_algorithm}
use Rattle.rpki_idcert.specs.Extensions.{known_extensions, extension_list}
use Rattle.rpki_idcert.specs.TbsIdCert.{tbs_certificate}
use Rattle.rpki_idcert.specs.IdCert.{identity_certificate}
use Rattle.rpki_sigmsg.specs.Attributes.{digest_in, attributes, signed_attributes}
use Rattle.rpki_sigmsg.specs.Signer.{signer_info}
use Rattle.rpki_sigmsg.specs.Message.{MessageFields, ViewFields, encapsulated_content, signed_parts, viewed_message, message_of_view, signed_message}

-- ---- partial values

-- what the first is, the second is too
abbrev pub Keeps : {X : Type 0} → Option X → Option X → Type 0
Keeps {X} o p = (x : X) → o ≡ Some x → p ≡ Some x

keeps_same : {X : Type 0} (o : Option X) → Keeps o o
keeps_same o x e = e

keeps_both : {X Y : Type 0} (o p : Option X) (f g : X → Option Y) → Keeps o p → ((x : X) → Keeps (f x) (g x)) → Keeps (o >>= f) (p >>= g)
unfolding ◌>>=◌
keeps_both None p f g h k y e = absurd (none-some y e)
keeps_both (Some x) p f g h k y e = rw (h x refl) (k x y e)

keeps_before : {X Y : Type 0} (o p : Option X) (f : X → Option Y) → Keeps o p → Keeps (o >>= f) (p >>= f)
keeps_before o p f h = keeps_both o p f f h (λ x. keeps_same (f x))

keeps_behind : {X Y : Type 0} (o : Option X) (f g : X → Option Y) → ((x : X) → Keeps (f x) (g x)) → Keeps (o >>= f) (o >>= g)
keeps_behind o f g k = keeps_both o o f g (keeps_same o) k

keeps_where : {X : Type 0} (b : Bool) (o p r : Option X) → Keeps o p → Keeps (if b then o else r) (if b then p else r)
keeps_where true o p r h = h
keeps_where false o p r h = keeps_same r

keeps_the_one : {A X : Type 0} (f g : A → Option X) (items : List A) → ((a : A) → Keeps (f a) (g a)) → Keeps (the_one f items) (the_one g items)
unfolding the_one
keeps_the_one f g [] h = keeps_same None
keeps_the_one f g (a ∷ []) h = h a
keeps_the_one f g (a ∷ b ∷ more) h = keeps_same None

-- ---- grammars

-- what the first reads of a value, the second reads of it too
abbrev pub Loosens : {X : Type 0} → (Value → Option X) → (Value → Option X) → Type 0
Loosens f g = (v : Value) → Keeps (f v) (g v)

loosens_within : {X : Type 0} (tag : List ℕ) (f g : Values → Option X) → ((vs : Values) → Keeps (f vs) (g vs)) → Loosens (within tag f) (within tag g)
unfolding within
loosens_within tag f g h (Primitive i l c) = keeps_same None
loosens_within tag f g h (Constructed i form vs) = keeps_where (has_tag tag i) (f vs) (g vs) None (h vs)

keeps_first : {X : Type 0} (f g : Value → Option X) (vs : Values) → Loosens f g → Keeps (first f vs) (first g vs)
unfolding first
keeps_first f g End h = keeps_same None
keeps_first f g (v ▸ vs) h = keeps_before (f v) (g v) _ (h v)

keeps_optional : {X : Type 0} (tag : List ℕ) (f g : Value → Option X) (vs : Values) → Loosens f g → Keeps (optional tag f vs) (optional tag g vs)
unfolding optional
keeps_optional tag f g End h = keeps_same (Some (None, End))
keeps_optional tag f g (v ▸ vs) h = keeps_where (has_tag tag (identifier_of v)) _ _ _ (keeps_before (f v) (g v) _ (h v))

keeps_every : {X : Type 0} (f g : Value → Option X) (vs : Values) → Loosens f g → Keeps (every f vs) (every g vs)
unfolding every
keeps_every f g End h = keeps_same (Some [])
keeps_every f g (v ▸ vs) h = keeps_both (f v) (g v) _ _ (h v) (λ x. keeps_before (every f vs) (every g vs) _ (keeps_every f g vs h))

loosens_wrapped : {X : Type 0} (tag : List ℕ) (f g : Value → Option X) → Loosens f g → Loosens (wrapped tag f) (wrapped tag g)
unfolding wrapped
loosens_wrapped tag f g h = loosens_within tag _ _ (λ vs. keeps_before (first f vs) (first g vs) _ (keeps_first f g vs h))

loosens_with_octets : {X : Type 0} (f g : Value → Option X) → Loosens f g → Loosens (with_octets f) (with_octets g)
unfolding with_octets
loosens_with_octets f g h v = keeps_before (f v) (g v) _ (h v)

begins_loose : {X : Type 0} (f g : Value → Option X) → Loosens f g → (octets : List ℕ) (x : X) → BeginsAs f Der octets x → BeginsAs g Ber octets x
begins_loose f g h octets x b = record { value = b.value; rest = b.rest; begins = loose_begins octets b.value b.rest b.begins; reads = h b.value x b.reads }

-- ---- leaves

truth_by : (b c : Bool) → Keeps (if b then Some false else if c then Some true else None) (if b then Some false else Some true)
truth_by true c x e = e
truth_by false true x e = e
truth_by false false x e = absurd (none-some x e)

loose_truth : (octets : List ℕ) → Keeps (truth Der octets) (truth Ber octets)
loose_truth [] = keeps_same None
loose_truth (a ∷ []) = truth_by (a == 0) (a == 255)
loose_truth (a ∷ b ∷ more) = keeps_same None

loose_boolean : Loosens (boolean Der) (boolean Ber)
unfolding boolean so
loose_boolean v = keeps_behind (primitive boolean_tag v) _ _ loose_truth

loose_octets : (tag : List ℕ) → Loosens (octets_under tag Der) (octets_under tag Ber)
unfolding octets_under joined_pieces
loose_octets tag (Primitive i l c) x e = e
loose_octets tag (Constructed i form vs) x e = absurd (none-some x e)

loose_string : Loosens (octet_string Der) (octet_string Ber)
loose_string = loose_octets octet_string_tag

loose_key_identifier : (tag : List ℕ) → Loosens (key_identifier_under tag Der) (key_identifier_under tag Ber)
unfolding key_identifier_under so
loose_key_identifier tag v = keeps_before (octets_under tag Der v) (octets_under tag Ber v) twenty (loose_octets tag v)

-- ---- octets that are one value

loose_alone : (octets : List ℕ) → Keeps (alone Der octets) (alone Ber octets)
loose_alone octets v e = alone_begins Ber octets v (loose_begins octets v [] (alone_only Der octets v e))

loose_algorithm : (meaning : Value → Option RpkiAlgorithm) → Loosens (algorithm_in (whole_of meaning) Der) (algorithm_in (whole_of meaning) Ber)
unfolding so whole_of
loose_algorithm meaning v = keeps_behind (any v) _ _ (λ octets. keeps_before (alone Der octets) (alone Ber octets) meaning (loose_alone octets))

-- ---- certificates

loose_extension : Loosens (extension Der) (extension Ber)
unfolding extension
loose_extension = loosens_within sequence _ _ λ vs.
    keeps_behind (first oid vs) _ _ λ a.
    keeps_both _ _ _ _ (keeps_optional boolean_tag _ _ a.1 loose_boolean) λ b.
    keeps_before _ _ _ (keeps_first _ _ b.1 loose_string)

loose_extensions : Loosens (extension_list Der) (extension_list Ber)
unfolding extension_list
loose_extensions = loosens_within sequence _ _ λ vs. keeps_before _ _ known_extensions (keeps_every _ _ vs loose_extension)

loose_tbs : Loosens (tbs_certificate Der) (tbs_certificate Ber)
unfolding tbs_certificate
loose_tbs = loosens_within sequence _ _ λ vs.
    keeps_behind _ _ _ λ version.
    keeps_behind _ _ _ λ serial.
    keeps_both _ _ _ _ (keeps_first _ _ serial.1 (loose_algorithm x509_algorithm)) λ a.
    keeps_behind _ _ _ λ issuer.
    keeps_behind _ _ _ λ validity.
    keeps_behind _ _ _ λ subject.
    keeps_behind _ _ _ λ key.
    keeps_before _ _ _ (keeps_first _ _ key.1 (loosens_wrapped (context 3) _ _ loose_extensions))

loose_certificate : Loosens (identity_certificate Der) (identity_certificate Ber)
unfolding identity_certificate signed_value signed_as signature_in
loose_certificate = loosens_within sequence _ _ λ vs.
    keeps_both _ _ _ _ (keeps_first _ _ vs (loosens_with_octets _ _ loose_tbs)) λ tbs.
    keeps_before _ _ _ (keeps_before _ _ _ (keeps_first _ _ tbs.1 (loose_algorithm x509_algorithm)))

-- ---- the signer

loose_digest : (a : List ℕ × Values) → Keeps (digest_in Der a) (digest_in Ber a)
unfolding digest_in set_of
loose_digest a = keeps_before _ _ _ (keeps_first _ _ a.1 (loosens_wrapped set _ _ loose_string))

loose_attributes : (all : List (List ℕ × Values)) → Keeps (attributes Der all) (attributes Ber all)
unfolding attributes
loose_attributes all =
    keeps_behind _ _ _ λ type.
    keeps_before _ _ _ (keeps_the_one (digest_in Der) (digest_in Ber) _ loose_digest)

loose_signed_attributes : Loosens (signed_attributes Der) (signed_attributes Ber)
unfolding signed_attributes held
loose_signed_attributes = loosens_within (context 0) _ _ λ vs. keeps_before _ _ _ (keeps_behind (every entry vs) _ _ loose_attributes)

loose_signer : Loosens (signer_info Der) (signer_info Ber)
unfolding signer_info
loose_signer = loosens_within sequence _ _ λ vs.
    keeps_behind _ _ _ λ version.
    keeps_both _ _ _ _ (keeps_first _ _ version.1 (loose_key_identifier (context 0))) λ identifier.
    keeps_behind _ _ _ λ digest.
    keeps_both _ _ _ _ (keeps_first _ _ digest.1 loose_signed_attributes) λ attributes.
    keeps_both _ _ _ _ (keeps_first _ _ attributes.1 (loose_algorithm cms_algorithm)) λ a.
    keeps_before _ _ _ (keeps_first _ _ a.1 (loosens_with_octets _ _ loose_string))

-- ---- the message

loose_content : Loosens (encapsulated_content Der) (encapsulated_content Ber)
unfolding encapsulated_content
loose_content = loosens_within sequence _ _ λ vs.
    keeps_behind _ _ _ λ type.
    keeps_before _ _ _ (keeps_first _ _ type.1 (loosens_wrapped (context 0) _ _ (loosens_with_octets _ _ loose_string)))

loose_parts : Loosens (signed_parts Der) (signed_parts Ber)
unfolding signed_parts
loose_parts = loosens_within sequence _ _ λ vs.
    keeps_behind _ _ _ λ version.
    keeps_behind _ _ _ λ algorithms.
    keeps_both _ _ _ _ (keeps_first _ _ algorithms.1 loose_content) λ content.
    keeps_both _ _ _ _ (keeps_first _ _ content.1 (loosens_wrapped (context 0) _ _ (loosens_with_octets _ _ loose_certificate))) λ certificate.
    keeps_behind _ _ _ λ crl.
    keeps_before _ _ _ (keeps_first _ _ crl.1 (loosens_wrapped set _ _ loose_signer))

loose_view : Loosens (viewed_message Der) (viewed_message Ber)
unfolding viewed_message
loose_view = loosens_within sequence _ _ λ vs.
    keeps_behind _ _ _ λ type.
    keeps_before _ _ _ (keeps_first _ _ type.1 (loosens_wrapped (context 0) _ _ loose_parts))

loose_message : Loosens (signed_message Der) (signed_message Ber)
unfolding signed_message so
loose_message v = keeps_before (viewed_message Der v) (viewed_message Ber v) message_of_view (loose_view v)

-- ---- octets that begin with one

pub message_begins : (octets : List ℕ) (m : MessageFields) → BeginsAs (signed_message Der) Der octets m → BeginsAs (signed_message Ber) Ber octets m
message_begins = begins_loose (signed_message Der) (signed_message Ber) loose_message

pub view_begins : (octets : List ℕ) (w : ViewFields) → BeginsAs (viewed_message Der) Der octets w → BeginsAs (viewed_message Ber) Ber octets w
view_begins = begins_loose (viewed_message Der) (viewed_message Ber) loose_view
