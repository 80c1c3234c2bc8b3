-- Certificates that are made: they are what they have to be, and are believed.
use Rattle.std.proofs.Common.{◌≡◌, inl, inr, ℕ, ℤ, Bool, true, false, Result, Ok, Err, List, [], ◌∷◌, length, refl, sym, ap, subst, ◌∙◌}
use Rattle.std.specs.Prelude.{◌≤ℤ◌, ◌||◌, Decides, int_le, is_some, not, IfErr, IfOk, IsErrOf, MatchResult}
use Rattle.std.specs.Prelude.{T}
use Rattle.std.proofs.lemmas.Bool.Decides.{not_from_Decides}
use Rattle.std.proofs.lemmas.List.Elements.{All-from_recursion}
use Rattle.rpki_common.proofs.Truths.{are_true, equal_octets}
use Rattle.rpki_base.proofs.Checking.{passes}
use Rattle.sha1.specs.Sha1.{sha1}
use Rattle.rpki_base.specs.declared.algorithm.SigningAlgorithm.TheVariants.{RsaSha256}
use Rattle.rpki_base.specs.Checks.{first_failure}
use Rattle.rpki_base.specs.PublicKey.{KeyFields}
use Rattle.rpki_base.specs.Scheme.{Relation}
use Rattle.rpki_base.specs.Serial.{serial_of}
use Rattle.rpki_base.specs.Validity.{ValidityFields}
use Rattle.rpki_signer.specs.declared.errors.CallError.{CallError}
use Rattle.rpki_signer.specs.declared.errors.CallError.TheVariants as call
use Rattle.rpki_signer.specs.declared.errors.MakeError.{MakeError}
use Rattle.rpki_signer.specs.Errors.{make_error_of, signing_error_of}
use Rattle.rpki_signer.specs.Limits.{IsShortKey, Keeps, MakeFails, RefusesSignature, StopsInTurn}
use Rattle.rpki_signer.specs.Serials.{IsSerialDrawn, without_first_bit}
use Rattle.rpki_signer.specs.Signer.{SignerState, HoldsKey, AreDistinct, Stays, CallFails}
use Rattle.rpki_signer.proofs.Keyrings.{one_key}
use Rattle.rpki_signer.proofs.States.{stays_then, stays_keeps, keeps_then, fails_before, call_fails, signature_refused, in_turn_fails}
use Rattle.rpki_idcert.specs.Checks.{has_own_identifier, is_true, is_within, ta_checks, names_itself, IsTaBelieved}
use Rattle.rpki_idcert.specs.IdCert.{CertificateFields}
use Rattle.rpki_idcert.specs.Making.{made_fields, IsMadeFor, IsIssued, IsSignedAs, IsIssuedTo, IsAnchorMade, IsEndEntityMade, StopsAtEndEntity}
use Rattle.rpki_der.specs.declared.mode.Mode.{Mode}
use Rattle.rpki_base.specs.Civil.{IsMoment}
use Rattle.rpki_idcert.specs.Making.{IsReadAgain}
use Rattle.rpki_idcert.proofs.ReadAgain.{made_again}
use Rattle.rpki_idcert.specs.Spelling.{spelled_tbs}
use Rattle.rpki_idcert.specs.TbsIdCert.{TbsFields}

-- what was signed under the identifier's key is issued under that key
issued_by : {I : Type 0} (scheme : Relation) (t : TbsFields) (id : I) (key : KeyFields) (a b : SignerState I) (c : CertificateFields) → AreDistinct a.keyring → HoldsKey a.keyring id key → IsSignedAs scheme t id a b c → IsIssued scheme key c
issued_by scheme t id key a b c d h s = record {
  slice = s.slice ∙ ap spelled_tbs (sym s.tbs);
  algorithm = s.algorithm;
  signed = subst (λ (k : KeyFields). scheme RsaSha256 k c.signed.slice c.signed.signature.value) (one_key a.keyring id s.signed.is.key key d s.signed.is.holds h) (subst (λ o. scheme RsaSha256 s.signed.is.key o c.signed.signature.value) (sym s.slice) s.signed.is.signed);
  short = s.signed.short;
}

own_is_true : (own : Bool) (key : KeyFields) → Decides own (key ≡ key) → own ≡ true
own_is_true true key d = refl
own_is_true false key d = absurd (not_from_Decides false d refl refl)

pub anchor_made : {I : Type 0} (scheme : Relation) (id : I) (validity : ValidityFields) (a b c : SignerState I) (key : KeyFields) (t : TbsFields) (cert : CertificateFields) → AreDistinct b.keyring → IsShortKey id a b key
    → IsMadeFor key key (serial_of 1) validity t → IsSignedAs scheme t id b c cert → IsAnchorMade scheme id validity a c cert
anchor_made scheme id validity a b c key t cert d k m s =
    let holds : HoldsKey b.keyring id key = subst (λ r. HoldsKey r id key) (sym k.is.stays.keyring) k.is.holds in
    let stays = stays_then a b c k.is.stays s.signed.is.stays in
    record {
      key = key;
      holds = k.is.holds;
      short = k.short;
      fields = s.tbs ∙ (m.is ∙ ap (λ own. made_fields own key key (serial_of 1) validity) (own_is_true m.own key m.decides));
      issued = issued_by scheme t id key b c cert d holds s;
      keeps = stays_keeps a c stays;
      no_fault = s.signed.is.no_fault ∙ k.is.no_fault;
      drawn = stays.drawn;
    }

pub issued_to : {I : Type 0} (scheme : Relation) (key : KeyFields) (serial : List ℕ) (id : I) (validity : ValidityFields) (b c e : SignerState I) (issuing : KeyFields) (t : TbsFields) (cert : CertificateFields) → AreDistinct c.keyring
    → IsShortKey id b c issuing → IsMadeFor issuing key serial validity t → IsSignedAs scheme t id c e cert → IsIssuedTo scheme key serial id validity b e cert
issued_to scheme key serial id validity b c e issuing t cert d k m s =
    let holds : HoldsKey c.keyring id issuing = subst (λ r. HoldsKey r id issuing) (sym k.is.stays.keyring) k.is.holds in
    record {
      issuing = issuing;
      holds = k.is.holds;
      short = k.short;
      fields = subst (λ f. IsMadeFor issuing key serial validity f) (sym s.tbs) m;
      issued = issued_by scheme t id issuing c e cert d holds s;
      stays = stays_then b c e k.is.stays s.signed.is.stays;
      no_fault = s.signed.is.no_fault ∙ k.is.no_fault;
    }

pub end_entity_made : {I : Type 0} (scheme : Relation) (key : KeyFields) (id : I) (validity : ValidityFields) (a b e : SignerState I) (serial : List ℕ) (cert : CertificateFields)
    → IsSerialDrawn a b serial → IsIssuedTo scheme key serial id validity b e cert → IsEndEntityMade scheme key id validity a e cert
end_entity_made scheme key id validity a b e serial cert n m =
    let first : Keeps a b = record { later = n.drawn.later; keyring = n.drawn.keyring } in
    let drawn' : serial ≡ without_first_bit e.random = n.is ∙ ap without_first_bit (sym (m.stays.random ∙ n.drawn.random)) in
    record {
      issuing = m.issuing;
      holds = subst (λ r. HoldsKey r id m.issuing) n.drawn.keyring m.holds;
      short = m.short;
      twenty = subst (λ o. length o ≡ 20) (sym (m.stays.random ∙ n.drawn.random)) n.twenty;
      fields = subst (λ o. IsMadeFor m.issuing key o validity cert.tbs) drawn' m.fields;
      issued = m.issued;
      keeps = keeps_then a b e first (stays_keeps b e m.stays);
      no_fault = m.no_fault ∙ n.drawn.no_fault;
      drawn = m.stays.drawn ∙ n.drawn.drawn;
    }

-- ---- results

pub anchor_result : {I E : Type 0} (scheme : Relation) (id : I) (validity : ValidityFields) (a b c : SignerState I) (key : KeyFields) (t : TbsFields) (r : Result CertificateFields (MakeError E)) → AreDistinct b.keyring → IsShortKey id a b key
    → IsMadeFor key key (serial_of 1) validity t → MatchResult r (IsSignedAs scheme t id b c) (RefusesSignature scheme id b c) → MatchResult r (IsAnchorMade scheme id validity a c) (λ e. Stays a c × MakeFails RsaSha256 id a c e)
anchor_result scheme id validity a b c key t (Ok cert) d k m s = anchor_made scheme id validity a b c key t cert d k m s
anchor_result scheme id validity a b c key t (Err e) d k m s =
    let f = signature_refused scheme id b c e s in
    (stays_then a b c k.is.stays f.0, fails_before RsaSha256 id a b c e (stays_keeps a b k.is.stays) f.1)

-- the first call drew a serial number
drew : {I : Type 0} (a b : SignerState I) (serial : List ℕ) → IsSerialDrawn a b serial → Keeps a b
drew a b serial n = record { later = n.drawn.later; keyring = n.drawn.keyring }

pub refused_behind : {I E : Type 0} (id : I) (a b c : SignerState I) (serial : List ℕ) (e : MakeError E) → IsSerialDrawn a b serial → Stays b c × MakeFails RsaSha256 id b c e → Keeps a c × (c.drawn ≡ a.drawn) × MakeFails RsaSha256 id a c e
refused_behind id a b c serial e n f = (keeps_then a b c (drew a b serial n) (stays_keeps b c f.0), f.0.drawn ∙ n.drawn.drawn, fails_before RsaSha256 id a b c e (drew a b serial n) f.1)

pub issued_result : {I E : Type 0} (scheme : Relation) (key : KeyFields) (serial : List ℕ) (id : I) (validity : ValidityFields) (b c e : SignerState I) (issuing : KeyFields) (t : TbsFields) (r : Result CertificateFields (MakeError E)) → AreDistinct c.keyring
    → IsShortKey id b c issuing → IsMadeFor issuing key serial validity t → MatchResult r (IsSignedAs scheme t id c e) (RefusesSignature scheme id c e)
    → MatchResult r (IsIssuedTo scheme key serial id validity b e) (λ x. Stays b e × MakeFails RsaSha256 id b e x)
issued_result scheme key serial id validity b c e issuing t (Ok cert) d k m s = issued_to scheme key serial id validity b c e issuing t cert d k m s
issued_result scheme key serial id validity b c e issuing t (Err x) d k m s =
    let f = signature_refused scheme id c e x s in
    (stays_then b c e k.is.stays f.0, fails_before RsaSha256 id b c e x (stays_keeps b c k.is.stays) f.1)

pub end_entity_result : {I E : Type 0} (scheme : Relation) (key : KeyFields) (id : I) (validity : ValidityFields) (a b e : SignerState I) (serial : List ℕ) (r : Result CertificateFields (MakeError E))
    → IsSerialDrawn a b serial → MatchResult r (IsIssuedTo scheme key serial id validity b e) (λ x. Stays b e × MakeFails RsaSha256 id b e x)
    → MatchResult r (IsEndEntityMade scheme key id validity a e) (λ x. Keeps a e × (e.drawn ≡ a.drawn) × MakeFails RsaSha256 id a e x)
end_entity_result scheme key id validity a b e serial (Ok cert) n m = end_entity_made scheme key id validity a b e serial cert n m
end_entity_result scheme key id validity a b e serial (Err x) n m = refused_behind id a b e serial x n m

-- ---- which refusal was the first

pub draw_refused : {T I E : Type 0} (scheme : Relation) (id : I) (a b : SignerState I) (e : CallError E) → Stays a b × CallFails a b e → (IsErrOf {T = T} (Err e) call.OutOfMemory → ⊥) → StopsAtEndEntity scheme id a b (make_error_of (signing_error_of e))
draw_refused scheme id a b (call.Signer e) f other = inl (record { stays = f.0; fault = e; is = refl; told = f.1 })
draw_refused scheme id a b call.OutOfMemory f other = absurd (other refl)

pub behind_draw : {I E : Type 0} (scheme : Relation) (id : I) (a b c : SignerState I) (serial : List ℕ) (r : Result CertificateFields (MakeError E)) → IsSerialDrawn a b serial → IfErr r (StopsInTurn scheme id b c) → IfErr r (StopsAtEndEntity scheme id a c)
behind_draw scheme id a b c serial (Ok x) n s = tt
behind_draw scheme id a b c serial (Err e) n s = inr (record { between = b; serial = serial; drawn = n; stops = s })

pub end_entity_fails : {I E : Type 0} (scheme : Relation) (id : I) (a b : SignerState I) (e : MakeError E) → StopsAtEndEntity scheme id a b e → MakeFails RsaSha256 id a b e
end_entity_fails {E = E} scheme id a b e (inl r) = subst (λ (x : MakeError E). MakeFails RsaSha256 id a b x) (sym r.is) (call_fails RsaSha256 id a b (call.Signer r.fault) r.told)
end_entity_fails scheme id a b e (inr s) = fails_before RsaSha256 id a s.between b e (drew a s.between s.serial s.drawn) (in_turn_fails scheme id s.between b e s.stops)

-- ---- a trust anchor is believed at each second of its validity

true_is : (b : Bool) → T b → b ≡ true
true_is true t = refl
true_is false t = absurd t

within : (v : ValidityFields) (when : ℤ) → v.not_before ≤ℤ when → when ≤ℤ v.not_after → is_within v when ≡ true
within v when p q = are_true (int_le v.not_before when) (int_le when v.not_after) (true_is (int_le v.not_before when) p.le) (true_is (int_le when v.not_after) q.le)

pub anchor_passes : (c : CertificateFields) (key : KeyFields) (serial : List ℕ) (validity : ValidityFields) (when : ℤ) → c.tbs ≡ made_fields true key key serial validity → validity.not_before ≤ℤ when → when ≤ℤ validity.not_after → first_failure 1 (ta_checks c when true) ≡ Ok tt
anchor_passes c key serial validity when e p q =
    let own : has_own_identifier c.tbs ≡ true = subst (λ (t : TbsFields). has_own_identifier t ≡ true) (sym e) (equal_octets (sha1 key.bits)) in
    let there : is_some c.tbs.basic_ca ≡ true = ap (λ (t : TbsFields). is_some t.basic_ca) e in
    let ca : is_true c.tbs.basic_ca ≡ true = ap (λ (t : TbsFields). is_true t.basic_ca) e in
    let w : is_within c.tbs.validity when ≡ true = subst (λ (t : TbsFields). is_within t.validity when ≡ true) (sym e) (within validity when p q) in
    let last : (not (names_itself c.tbs) || true) ≡ true = ap (λ (t : TbsFields). not (names_itself t) || true) e in
    passes 1 (ta_checks c when true) (All-from_recursion (λ b. b ≡ true) (ta_checks c when true) (own, (there, (ca, (w, (last, tt))))))

pub never_itself : (c : CertificateFields) (key : KeyFields) (serial : List ℕ) (validity : ValidityFields) → c.tbs ≡ made_fields true key key serial validity → names_itself c.tbs ≡ true → ⊥
never_itself c key serial validity e n = let no : names_itself c.tbs ≡ false = ap (λ (t : TbsFields). names_itself t) e in cc

anchor_believed : {I : Type 0} (scheme : Relation) (id : I) (validity : ValidityFields) (a b : SignerState I) (c : CertificateFields) → IsAnchorMade scheme id validity a b c → (when : ℤ) → validity.not_before ≤ℤ when → when ≤ℤ validity.not_after → IsTaBelieved scheme c when
anchor_believed scheme id validity a b c m when p q = record {
  signed = λ n. absurd (never_itself c m.key (serial_of 1) validity m.fields n);
  passes = anchor_passes c m.key (serial_of 1) validity when m.fields p q;
}

pub anchors_believed : {I E : Type 0} (scheme : Relation) (id : I) (validity : ValidityFields) (a b : SignerState I) (r : Result CertificateFields (MakeError E)) (f : MakeError E → Type 0) → MatchResult r (IsAnchorMade scheme id validity a b) f
    → IfOk r (λ c. (when : ℤ) → validity.not_before ≤ℤ when → when ≤ℤ validity.not_after → IsTaBelieved scheme c when)
anchors_believed scheme id validity a b (Ok c) f m = anchor_believed scheme id validity a b c m
anchors_believed scheme id validity a b (Err e) f m = tt

-- ---- a trust anchor is read again

first_bit_length : (octets : List ℕ) → length octets ≡ 20 → length (without_first_bit octets) ≡ 20
first_bit_length [] e = e
first_bit_length (a ∷ more) e = e

pub anchors_again : {I E : Type 0} (scheme : Relation) (id : I) (validity : ValidityFields) (a b : SignerState I) (r : Result CertificateFields (MakeError E)) (f : MakeError E → Type 0) → IsMoment validity.not_before × IsMoment validity.not_after → MatchResult r (IsAnchorMade scheme id validity a b) f
    → IfOk r (λ c. (mode : Mode) → IsReadAgain mode c)
anchors_again scheme id validity a b (Ok c) f p m = λ mode. made_again mode m.key m.key (serial_of 1) validity c refl p.0 p.1 true m.fields m.issued.slice m.issued.algorithm
anchors_again scheme id validity a b (Err e) f p m = tt

pub end_entities_again : {I E : Type 0} (scheme : Relation) (key : KeyFields) (serial : List ℕ) (id : I) (validity : ValidityFields) (a b e : SignerState I) (r : Result CertificateFields (MakeError E)) (f : MakeError E → Type 0) → IsMoment validity.not_before × IsMoment validity.not_after → IsSerialDrawn a b serial → MatchResult r (IsIssuedTo scheme key serial id validity b e) f
    → IfOk r (λ c. (mode : Mode) → IsReadAgain mode c)
end_entities_again scheme key serial id validity a b e (Ok c) f p n m =
    let twenty : length serial ≡ 20 = subst (λ o. length o ≡ 20) (sym n.is) (first_bit_length n.octets n.twenty) in
    λ mode. made_again mode m.issuing key serial validity c twenty p.0 p.1 m.fields.own m.fields.is m.issued.slice m.issued.algorithm
end_entities_again scheme key serial id validity a b e (Err x) f p n m = tt
