-- Messages that are created: they are what they have to be, and each refusal has its cause.
use Rattle.std.proofs.Common.{◌≡◌, ◌≢◌, inl, inr, ℕ, ◌≤◌, ℤ, Bool, true, false, Some, List, length, refl, sym, ap, subst, ◌∙◌}
use Rattle.std.specs.Prelude.{Decides}
use Rattle.rpki_base.specs.declared.algorithm.SigningAlgorithm.TheVariants.{RsaSha256}
use Rattle.rpki_base.specs.PublicKey.{KeyFields}
use Rattle.rpki_base.specs.RpkiSignatureAlgorithm.{RpkiAlgorithm}
use Rattle.rpki_base.specs.Scheme.{Relation}
use Rattle.rpki_base.specs.Signature.{SignatureParts}
use Rattle.rpki_signer.specs.declared.errors.MakeError.{MakeError}
use Rattle.rpki_signer.specs.declared.errors.MakeError.TheVariants as make
use Rattle.rpki_signer.specs.Limits.{default_algorithm, IsShortKey, IsShortOneOff, Keeps, MakeFails, RefusesKey, RefusesOneOff, RefusesSignature}
use Rattle.rpki_signer.specs.Serials.{without_first_bit}
use Rattle.rpki_signer.specs.Signer.{SignerState, HoldsKey, AreDistinct}
use Rattle.rpki_signer.proofs.Keyrings.{one_key}
use Rattle.rpki_signer.proofs.States.{rose_then, stays_keeps, keeps_then, fails_before, key_refused, one_off_refused, signature_refused, spared_same}
use Rattle.rpki_idcert.specs.IdCert.{CertificateFields}
use Rattle.rpki_idcert.specs.Making.{made_fields, IsMadeFor, IsIssued, IsEndEntityMade, StopsAtEndEntity}
use Rattle.rpki_idcert.proofs.Issuing.{end_entity_fails}
use Rattle.rpki_sigmsg.specs.declared.create_error.CreateError.TheVariants as create
use Rattle.rpki_sigmsg.specs.Crl.{CrlFields}
use Rattle.rpki_sigmsg.specs.Errors.{create_error_of}
use Rattle.rpki_sigmsg.specs.Making.{window, HasWindow, ContentFields, made_covered, IsCrlMade, IsCrlSigned, IsCertified, assembled, IsMessageCreated, IsReused, CreateFails}
use Rattle.rpki_sigmsg.specs.Message.{MessageFields}
use Rattle.rpki_sigmsg.specs.FirstRefusals.{HasKeys, HasOneKey, StopsAtKeys, StopsCertifying, StopsCreating, IsFirstRefusal}

-- what is signed of a content
pub made_message : (c : ContentFields) (content : List ℕ) (moment now : ℤ) (octets : List ℕ) → c ≡ record { content = content; moment = moment } → moment ≡ now → octets ≡ made_covered c.content c.moment → octets ≡ made_covered content now
made_message c content moment now octets e m o = o ∙ (ap (λ (f : ContentFields). made_covered f.content f.moment) e ∙ ap (λ t. made_covered content t) m)

-- ---- CRL and certificate

crl_made : {I : Type 0} (scheme : Relation) (issuing : KeyFields) (now : ℤ) (id : I) (a b : SignerState I) (c : CrlFields) → AreDistinct a.keyring → HoldsKey a.keyring id issuing → IsCrlSigned scheme issuing now id a b c → IsCrlMade scheme issuing now c
crl_made scheme issuing now id a b c d h s = record {
  fields = s.fields;
  slice = s.slice;
  algorithm = s.algorithm;
  signed = subst (λ (k : KeyFields). scheme RsaSha256 k c.signed.slice c.signed.signature.value) (one_key a.keyring id s.signed.is.key issuing d s.signed.is.holds h) (subst (λ o. scheme RsaSha256 s.signed.is.key o c.signed.signature.value) (sym s.slice) s.signed.is.signed);
}

pub certified : {I : Type 0} (scheme : Relation) (issuing key : KeyFields) (now : ℤ) (id : I) (a b c : SignerState I) (crl : CrlFields) (cert : CertificateFields) → AreDistinct a.keyring → AreDistinct b.keyring → HoldsKey a.keyring id issuing
    → IsCrlSigned scheme issuing now id a b crl → IsEndEntityMade scheme key id (window now) b c cert → IsCertified scheme issuing key now a c crl cert
certified scheme issuing key now id a b c crl cert d e h s m =
    let k : HoldsKey b.keyring id issuing = subst (λ r. HoldsKey r id issuing) (sym s.signed.is.stays.keyring) h in
    let same : m.issuing ≡ issuing = one_key b.keyring id m.issuing issuing e m.holds k in
    record {
      crl_made = crl_made scheme issuing now id a b crl d h s;
      twenty = m.twenty;
      fields = subst (λ (i : KeyFields). IsMadeFor i key (without_first_bit c.random) (window now) cert.tbs) same m.fields;
      issued = subst (λ (i : KeyFields). IsIssued scheme i cert) same m.issued;
      keeps = keeps_then a b c (stays_keeps a b s.signed.is.stays) m.keeps;
      no_fault = m.no_fault ∙ s.signed.is.no_fault;
      drawn = m.drawn ∙ s.signed.is.stays.drawn;
      short = s.signed.short;
    }

pub uncertified : {I E : Type 0} (scheme : Relation) (issuing : KeyFields) (now : ℤ) (id : I) (a b c : SignerState I) (crl : CrlFields) (e : MakeError E) → IsCrlSigned scheme issuing now id a b crl → Keeps b c × (c.drawn ≡ b.drawn) × MakeFails RsaSha256 id b c e → StopsAtEndEntity scheme id b c e
    → Keeps a c × (c.drawn ≡ a.drawn) × StopsCertifying scheme issuing now id a c e
uncertified scheme issuing now id a b c crl e s f t =
    let k = stays_keeps a b s.signed.is.stays in
    (keeps_then a b c k f.0, f.1 ∙ s.signed.is.stays.drawn, inr (record { between = b; crl = crl; crl_signed = s; stops = t }))

pub without_crl : {I E : Type 0} (scheme : Relation) (issuing : KeyFields) (now : ℤ) (id : I) (a b : SignerState I) (e : MakeError E) → RefusesSignature scheme id a b e → Keeps a b × (b.drawn ≡ a.drawn) × StopsCertifying scheme issuing now id a b e
without_crl scheme issuing now id a b e f =
    let s = signature_refused scheme id a b e f in
    (stays_keeps a b s.0, s.0.drawn, inl f)

certifying_fails : {I E : Type 0} (scheme : Relation) (issuing : KeyFields) (now : ℤ) (id : I) (a b : SignerState I) (e : MakeError E) → StopsCertifying scheme issuing now id a b e → MakeFails RsaSha256 id a b e
certifying_fails scheme issuing now id a b e (inl f) = (signature_refused scheme id a b e f).1
certifying_fails scheme issuing now id a b e (inr s) = fails_before RsaSha256 id a s.between b e (stays_keeps a s.between s.crl_signed.signed.is.stays) (end_entity_fails scheme id s.between b e s.stops)

-- ---- keys

once_keeps : {I : Type 0} (scheme : Relation) (message : List ℕ) (a b : SignerState I) (octets : List ℕ) (key : KeyFields) → IsShortOneOff scheme RsaSha256 message a b octets key → Keeps a b
once_keeps scheme message a b octets key o = record { later = o.is.later; keyring = o.is.keyring }

pub without_signature : {I E : Type 0} (scheme : Relation) (message : List ℕ) (id : I) (a b : SignerState I) (e : MakeError E) → RefusesOneOff scheme message a b e → Keeps a b × StopsAtKeys scheme message id a b e
without_signature scheme message id a b e f = ((one_off_refused scheme message id a b e f).0, inl f)

pub without_key : {I E : Type 0} (scheme : Relation) (message : List ℕ) (id : I) (a b c : SignerState I) (octets : List ℕ) (key : KeyFields) (e : MakeError E) → IsShortOneOff scheme RsaSha256 message a b octets key → RefusesKey id b c e → Keeps a c × StopsAtKeys scheme message id a c e
without_key scheme message id a b c octets key e o f =
    (keeps_then a b c (once_keeps scheme message a b octets key o) (stays_keeps b c (key_refused id b c e f).0), inr (record { between = b; octets = octets; key = key; once = o; refuses = f }))

pub has_keys : {I : Type 0} (scheme : Relation) (message : List ℕ) (id : I) (a b c : SignerState I) (octets : List ℕ) (key issuing : KeyFields) → IsShortOneOff scheme RsaSha256 message a b octets key → IsShortKey id b c issuing → HasKeys scheme message id a c octets key issuing
has_keys scheme message id a b c octets key issuing o k = record { between = b; once = o; then_key = k }

keys_fail : {I E : Type 0} (scheme : Relation) (message : List ℕ) (id : I) (a b : SignerState I) (e : MakeError E) → StopsAtKeys scheme message id a b e → MakeFails RsaSha256 id a b e
keys_fail scheme message id a b e (inl f) = (one_off_refused scheme message id a b e f).1
keys_fail scheme message id a b e (inr s) = fails_before RsaSha256 id a s.between b e (once_keeps scheme message a s.between s.octets s.key s.once) (key_refused id s.between b e s.refuses).1

pub keys_keep : {I : Type 0} (scheme : Relation) (message : List ℕ) (id : I) (a b : SignerState I) (octets : List ℕ) (key issuing : KeyFields) → HasKeys scheme message id a b octets key issuing → Keeps a b
keys_keep scheme message id a b octets key issuing k = keeps_then a k.between b (once_keeps scheme message a k.between octets key k.once) (stays_keeps k.between b k.then_key.is.stays)

pub holds_before : {I : Type 0} (scheme : Relation) (message : List ℕ) (id : I) (a b : SignerState I) (octets : List ℕ) (key issuing : KeyFields) → HasKeys scheme message id a b octets key issuing → HoldsKey a.keyring id issuing
holds_before scheme message id a b octets key issuing k = subst (λ r. HoldsKey r id issuing) k.once.is.keyring k.then_key.is.holds

-- no two keys had one identifier before, so the issuing key is the only one under its own
pub distinct_before : {I : Type 0} (scheme : Relation) (message : List ℕ) (id : I) (a b : SignerState I) (octets : List ℕ) (key issuing : KeyFields) → HasKeys scheme message id a b octets key issuing → AreDistinct b.keyring → AreDistinct a.keyring
distinct_before scheme message id a b octets key issuing k d = subst AreDistinct (keys_keep scheme message id a b octets key issuing k).keyring d

only_key : {I : Type 0} (scheme : Relation) (message : List ℕ) (id : I) (a b : SignerState I) (octets : List ℕ) (key issuing : KeyFields) → HasKeys scheme message id a b octets key issuing → AreDistinct b.keyring → (other : KeyFields) → HoldsKey a.keyring id other → other ≡ issuing
only_key scheme message id a b octets key issuing k d other h =
    one_key a.keyring id other issuing (distinct_before scheme message id a b octets key issuing k d) h (holds_before scheme message id a b octets key issuing k)

pub holds_then : {I : Type 0} (scheme : Relation) (message : List ℕ) (id : I) (a b : SignerState I) (octets : List ℕ) (key issuing : KeyFields) → HasKeys scheme message id a b octets key issuing → HoldsKey b.keyring id issuing
holds_then scheme message id a b octets key issuing k = subst (λ r. HoldsKey r id issuing) (sym k.then_key.is.stays.keyring) k.then_key.is.holds

-- ---- refusals

pub create_fails : {I E : Type 0} (content : List ℕ) (now : ℤ) (id : I) (a b : SignerState I) (e : MakeError E) → HasWindow now → length content ≤ 2147483648 → MakeFails RsaSha256 id a b e → CreateFails content now id a b (create_error_of e)
create_fails content now id a b make.TooLong w h f = (w, inr (h, f))
create_fails content now id a b (make.Signing e) w h f = (w, f.0, f.1)
create_fails content now id a b make.OutOfMemory w h f = tt

pub no_keys : {I E : Type 0} (scheme : Relation) (message content : List ℕ) (now : ℤ) (id : I) (a b : SignerState I) (e : MakeError E) → HasWindow now → length content ≤ 2147483648 → Keeps a b × StopsAtKeys scheme message id a b e → CreateFails content now id a b (create_error_of e)
no_keys scheme message content now id a b e w h f = create_fails content now id a b e w h (keys_fail scheme message id a b e f.1)

pub reused : {I : Type 0} (scheme : Relation) (message : List ℕ) (id : I) (a b : SignerState I) (octets : List ℕ) (key issuing : KeyFields) → key ≡ issuing → HasKeys scheme message id a b octets key issuing → AreDistinct b.keyring → IsReused id a b
reused scheme message id a b octets key issuing e k d =
    let h = holds_before scheme message id a b octets key issuing k in
    record {
      issuing = issuing;
      holds = h;
      only = only_key scheme message id a b octets key issuing k d;
      drawn = k.then_key.is.stays.drawn ∙ (k.once.is.drawn ∙ ap (λ (x : KeyFields). Some x) e);
      told = rose_then a.reused k.between.reused b.reused (k.once.is.fresh id (subst (λ (x : KeyFields). HoldsKey a.keyring id x) (sym e) h)) k.then_key.is.stays.later.reused;
    }

pub uncreated : {I E : Type 0} (scheme : Relation) (message content : List ℕ) (now : ℤ) (id : I) (a b c : SignerState I) (octets : List ℕ) (key issuing : KeyFields) (e : MakeError E) → HasWindow now → length content ≤ 2147483648 → HasKeys scheme message id a b octets key issuing
    → Keeps b c × (c.drawn ≡ b.drawn) × StopsCertifying scheme issuing now id b c e → CreateFails content now id a c (create_error_of e)
uncreated scheme message content now id a b c octets key issuing e w h k f = create_fails content now id a c e w h (fails_before RsaSha256 id a b c e (keys_keep scheme message id a b octets key issuing k) (certifying_fails scheme issuing now id b c e f.2))

-- ---- which refusal was the first

first_refusal : {I E : Type 0} (scheme : Relation) (content : List ℕ) (now : ℤ) (id : I) (a b : SignerState I) (e : MakeError E) → StopsCreating scheme content now id a b e → IsFirstRefusal scheme content now id a b (create_error_of e)
first_refusal scheme content now id a b make.TooLong s = inr s
first_refusal scheme content now id a b (make.Signing e) s = s
first_refusal scheme content now id a b make.OutOfMemory s = inl s

pub first_keys : {I E : Type 0} (scheme : Relation) (message content : List ℕ) (now : ℤ) (id : I) (a b : SignerState I) (e : MakeError E) → message ≡ made_covered content now → Keeps a b × StopsAtKeys scheme message id a b e → IsFirstRefusal scheme content now id a b (create_error_of e)
first_keys scheme message content now id a b e m f = first_refusal scheme content now id a b e (inl (subst (λ t. StopsAtKeys scheme t id a b e) m f.1))

pub first_same : {I : Type 0} (scheme : Relation) (message content : List ℕ) (now : ℤ) (id : I) (a b : SignerState I) (octets : List ℕ) (key issuing : KeyFields) → message ≡ made_covered content now → key ≡ issuing → HasKeys scheme message id a b octets key issuing → HasOneKey scheme (made_covered content now) id a b
first_same scheme message content now id a b octets key issuing m e k = record {
  octets = octets;
  issuing = issuing;
  keys = subst (λ (x : KeyFields). HasKeys scheme (made_covered content now) id a b octets x issuing) e (subst (λ t. HasKeys scheme t id a b octets key issuing) m k);
}

pub first_behind : {I E : Type 0} (scheme : Relation) (message content : List ℕ) (now : ℤ) (id : I) (a b c : SignerState I) (octets : List ℕ) (key issuing : KeyFields) (e : MakeError E) → message ≡ made_covered content now → key ≢ issuing → HasKeys scheme message id a b octets key issuing
    → Keeps b c × (c.drawn ≡ b.drawn) × StopsCertifying scheme issuing now id b c e → IsFirstRefusal scheme content now id a c (create_error_of e)
first_behind scheme message content now id a b c octets key issuing e m n k f =
    first_refusal scheme content now id a c e (inr (record { between = b; octets = octets; key = key; issuing = issuing; keys = subst (λ t. HasKeys scheme t id a b octets key issuing) m k; other = n; stops = f.2 }))

-- memory ran out before the signer was asked, or behind its last call
pub first_memory : {I E : Type 0} (scheme : Relation) (content : List ℕ) (now : ℤ) (id : I) (a : SignerState I) → IsFirstRefusal {E = E} scheme content now id a a create.OutOfMemory
first_memory scheme content now id a = inl (inl (inl (spared_same a)))

pub last_memory : {I E : Type 0} (scheme : Relation) (message content : List ℕ) (now : ℤ) (id : I) (a b c : SignerState I) (octets : List ℕ) (key issuing : KeyFields) (crl : CrlFields) (cert : CertificateFields) → message ≡ made_covered content now → key ≢ issuing → HasKeys scheme message id a b octets key issuing
    → IsCertified scheme issuing key now b c crl cert → IsFirstRefusal {E = E} scheme content now id a c create.OutOfMemory
last_memory scheme message content now id a b c octets key issuing crl cert m n k t =
    inr (record { between = b; octets = octets; key = key; issuing = issuing; keys = subst (λ t. HasKeys scheme t id a b octets key issuing) m k; other = n; crl = crl; certificate = cert; certified = t })

-- ---- no fault

pub created_kept : {I : Type 0} (scheme : Relation) (message : List ℕ) (now : ℤ) (id : I) (a b c : SignerState I) (octets : List ℕ) (key issuing : KeyFields) (crl : CrlFields) (cert : CertificateFields) → HasKeys scheme message id a b octets key issuing → IsCertified scheme issuing key now b c crl cert → c.faults ≡ a.faults
created_kept scheme message now id a b c octets key issuing crl cert k t = t.no_fault ∙ (k.then_key.is.no_fault ∙ k.once.is.no_fault)

-- ---- the message

own_is_false : (own : Bool) (key issuing : KeyFields) → Decides own (key ≡ issuing) → key ≢ issuing → own ≡ false
own_is_false true key issuing d n = absurd (n (d.0 refl))
own_is_false false key issuing d n = refl

pub created : {I : Type 0} (scheme : Relation) (content : List ℕ) (now : ℤ) (id : I) (a b c : SignerState I) (signature : SignatureParts RpkiAlgorithm) (key issuing : KeyFields) (crl : CrlFields) (cert : CertificateFields) (m : MessageFields) → HasWindow now → signature.algorithm ≡ default_algorithm
    → HasKeys scheme (made_covered content now) id a b signature.value key issuing → key ≢ issuing → AreDistinct b.keyring → IsCertified scheme issuing key now b c crl cert → m ≡ assembled (record { content = content; moment = now }) signature cert crl → IsMessageCreated scheme content now id a c m
created scheme content now id a b c signature key issuing crl cert m w g k n d t e = record {
  window_is = w;
  issuing = issuing;
  holds = holds_before scheme (made_covered content now) id a b signature.value key issuing k;
  only = only_key scheme (made_covered content now) id a b signature.value key issuing k d;
  key = key;
  drawn = t.drawn ∙ (k.then_key.is.stays.drawn ∙ k.once.is.drawn);
  other = n;
  twenty = t.twenty;
  made = record {
    signature = signature;
    certificate = cert;
    crl = crl;
    is = e;
    algorithm = g;
    signed = k.once.is.signed;
    fields = t.fields.is ∙ ap (λ own. made_fields own issuing key (without_first_bit c.random) (window now)) (own_is_false t.fields.own key issuing t.fields.decides n);
    issued = t.issued;
    crl_made = t.crl_made;
  };
  short_key = k.once.short_key;
  short_issuing = k.then_key.short;
  short_signature = k.once.short;
  short_crl = t.short;
}
