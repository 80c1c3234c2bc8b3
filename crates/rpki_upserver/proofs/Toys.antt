-- What a toy issuer has done by the calls of its signer.
use Rattle.std.proofs.Common.{◌≡◌, ◌≤◌, ◌<◌, ◌+◌, ◌-◌, ◌^◌, ◌∙◌, min, nat_lt, Bool, true, false, ℕ, ℤ, IfErr, IfOk, inl, inr, List, [], ◌∷◌, length, set, get_or, bit_and, Result, Ok, Err, sym, ap, subst, refl, arith}
use Rattle.std.proofs.lemmas.Bool.Decides.{nat_tests}
use Rattle.std.proofs.lemmas.Nat.{and_mask}
use Rattle.rpki_common.specs.Causes.{Rose}
use Rattle.rpki_der.specs.declared.mode.Mode.TheVariants.{Der}
use Rattle.rpki_base.specs.declared.algorithm.SigningAlgorithm.TheVariants.{RsaSha256}
use Rattle.rpki_base.specs.declared.errors.ToyFault.{ToyFault}
use Rattle.rpki_base.specs.Civil.{IsMoment}
use Rattle.rpki_base.specs.PublicKey.{KeyFields}
use Rattle.rpki_base.specs.Validity.{ValidityFields}
use Rattle.rpki_cert.specs.Cert.{CertFields}
use Rattle.rpki_idcert.specs.IdCert.{CertificateFields}
use Rattle.rpki_idcert.specs.Making.{IsEndEntityMade, IsIssuedTo, IsMadeFor, IsReadAgain, IsSignedAs}
use Rattle.rpki_idcert.specs.Spelling.{spelled_tbs}
use Rattle.rpki_idcert.specs.TbsIdCert.{TbsFields}
use Rattle.rpki_idcert.proofs.Issuing.{end_entities_again, end_entity_made, issued_to}
use Rattle.rpki_signer.specs.Limits.{default_algorithm}
use Rattle.rpki_signer.specs.Serials.{IsSerialDrawn, without_first_bit}
use Rattle.rpki_signer.specs.Signer.{AreDistinct, IsKeyOf, IsSignature}
use Rattle.rpki_signer.specs.Toy.{ToyChecks}
use Rattle.rpki_signer.specs.ToySigner.{ToyState, after_drawing, cannot_draw, random_octets, state_of}
use Rattle.rpki_updown.specs.Entitlements.{CaRequest}
use Rattle.rpki_upserver.specs.declared.issuer.IssuerError.{IssuerError}
use Rattle.rpki_upserver.specs.declared.issuer.IssuerError.TheVariants as errors
use Rattle.rpki_upserver.specs.Issuer.{IssuerFails, IssuerState}
use Rattle.rpki_upserver.specs.ToyIssuer.{CountedCall, CountedFault, DidNothing, DrewNone, DrewSerial, GaveKey, GivesNoKey, IsReady, IsSignedFor, IsToyCertificate, MakesNone, SignedFields, SignsNone, StopsAtKey, StopsAtSignature, ToyIssuerState, WantsAtKey, WantsAtSignature, after_fault, issuer_state}

-- ---- what changes

-- a fault behind what its signer did
pub fault_so : (before between after : ToyIssuerState) (signer : ToyState) → between ≡ record before { signer = signer } → after ≡ after_fault between → CountedFault before after
fault_so before between after signer b f =
    let is : after ≡ record (after_fault before) { signer = signer } = f ∙ ap after_fault b in
    record { is = is ∙ ap (λ (s : ToyState). record (after_fault before) { signer = s }) (sym (ap (λ (i : ToyIssuerState). i.signer) is)) }

-- its signer alone did something
pub idle_by : (before after : ToyIssuerState) (signer : ToyState) → after ≡ record before { signer = signer } → DidNothing before after
idle_by before after signer is = record { is = is ∙ ap (λ (s : ToyState). record before { signer = s }) (sym (ap (λ (i : ToyIssuerState). i.signer) is)) }

pub idle_then : (a b c : ToyIssuerState) → DidNothing a b → DidNothing b c → DidNothing a c
idle_then a b c d e = record { is = e.is ∙ ap (λ (i : ToyIssuerState). record i { signer = c.signer }) d.is }

idle_so : (before after : ToyIssuerState) → DidNothing before after → issuer_state after ≡ issuer_state before
idle_so before after d = ap (λ (i : ToyIssuerState). i.issuer) d.is

pub ready_idle : (before after : ToyIssuerState) (serial : List ℕ) (issuing : KeyFields) → IsReady before after serial issuing → DidNothing before after
ready_idle before after serial issuing r = idle_then before r.between after r.draws.rest r.gives.rest

pub signed_idle : (key : KeyFields) (not_after : ℤ) (before after : ToyIssuerState) (made : CertificateFields) → IsSignedFor key not_after before after made → DidNothing before after
signed_idle key not_after before after made s = idle_then before s.between after (ready_idle before s.between s.serial s.issuing s.ready) s.signs.rest

-- its count of faults is no less behind what did nothing
pub later_so : (a b c : ToyIssuerState) → DidNothing a b → b.issuer.faults ≤ c.issuer.faults → a.issuer.faults ≤ c.issuer.faults
later_so a b c d le = subst (λ (i : IssuerState). i.faults ≤ c.issuer.faults) (idle_so a b d) le

-- ---- what was counted

pub key_counted : (before after : ToyIssuerState) (given : KeyFields) → GaveKey before after given → CountedCall before after
key_counted before after given g = record { due = g.asked.0; counted_is = g.asked.2; rest = g.rest }

pub signature_counted : (fields : TbsFields) (before after : ToyIssuerState) (made : CertificateFields) → SignedFields fields before after made → CountedCall before after
signature_counted fields before after made s = record { due = s.asked.1.listed; counted_is = s.asked.1.is; rest = s.rest }

-- what was signed is spent where memory runs out later
pub spent : (key : KeyFields) (not_after : ℤ) (before after : ToyIssuerState) (made : CertificateFields) → IsSignedFor key not_after before after made → MakesNone before after errors.OutOfMemory
spent key not_after before after made s = inr (record { between = s.between; serial = s.serial; issuing = s.issuing; ready = s.ready; call = signature_counted s.fields s.between after made s.signs })

-- ---- a serial number

-- the first bit is cleared
cleared : (octets : List ℕ) → length octets ≡ 20 → set octets 0 (bit_and (get_or octets 0 0) 127) ≡ without_first_bit octets
cleared [] e = absurd (omega (arith, e))
cleared (a ∷ more) e = ap (λ (n : ℕ). n ∷ more) (and_mask a 7)

pub drew_so : (before after : ToyIssuerState) (was now : ToyState) (octets serial : List ℕ) → was ≡ before.signer → after ≡ record before { signer = now } → length octets ≡ 20 → cannot_draw was ≡ false → octets ≡ random_octets was.seed was.next 20
    → now ≡ record (after_drawing was) { random = octets } → serial ≡ set octets 0 (bit_and (get_or octets 0 0) 127) → DrewSerial before after serial
drew_so before after was now octets serial w a twenty due o n s = record {
  due = subst (λ (x : ToyState). cannot_draw x ≡ false) w due;
  octets = octets;
  octets_are = subst (λ (x : ToyState). octets ≡ random_octets x.seed x.next 20) w o;
  serial_is = s ∙ cleared octets twenty;
  drawn_is = ap (λ (i : ToyIssuerState). i.signer) a ∙ n ∙ ap (λ (x : ToyState). record (after_drawing x) { random = octets }) w;
  rest = idle_by before after now a;
}

-- ---- which call was the last

pub stops_at_draw : (before after : ToyIssuerState) (e : IssuerError) → (e ≡ errors.Failed) × DrewNone before after → MakesNone before after e
stops_at_draw before after e d = subst (λ (x : IssuerError). MakesNone before after x) (sym d.0) (inl d.1)

pub stops_at_key : (before between after : ToyIssuerState) (serial : List ℕ) (e : IssuerError) → DrewSerial before between serial → GivesNoKey between after e → MakesNone before after e
stops_at_key before between after serial errors.Failed d g = inr (inl (record { between = between; serial = serial; draws = d; stops = g }))
stops_at_key before between after serial errors.OutOfMemory d g = inl (record { between = between; serial = serial; draws = d; call = g })

pub wants_behind_key : (before between after : ToyIssuerState) (serial : List ℕ) (issuing : KeyFields) → DrewSerial before between serial → GaveKey between after issuing → MakesNone before after errors.OutOfMemory
wants_behind_key before between after serial issuing d g = stops_at_key before between after serial errors.OutOfMemory d (key_counted between after issuing g)

pub stops_at_signature : (before between given after : ToyIssuerState) (serial : List ℕ) (issuing : KeyFields) (e : IssuerError) → DrewSerial before between serial → GaveKey between given issuing → SignsNone given after e → MakesNone before after e
stops_at_signature before between given after serial issuing errors.Failed d g s =
    inr (inr (record { between = given; serial = serial; issuing = issuing; ready = record { between = between; draws = d; gives = g }; stops = s }))
stops_at_signature before between given after serial issuing errors.OutOfMemory d g s =
    inr (record { between = given; serial = serial; issuing = issuing; ready = record { between = between; draws = d; gives = g }; call = s })

-- ---- as each issuer promises it

faulted_so : (before between after : ToyIssuerState) → DidNothing before between → CountedFault between after → before.issuer.faults ≤ after.issuer.faults → IssuerFails (issuer_state before) (issuer_state after) errors.Failed
faulted_so before between after idle f later =
    let same : after.issuer ≡ (after_fault before).issuer = ap (λ (i : ToyIssuerState). i.issuer) f.is ∙ ap (λ (i : ToyIssuerState). (after_fault i).issuer) idle.is in (
      record { made = ap (λ (i : IssuerState). i.made) same; gone = ap (λ (i : IssuerState). i.gone) same; faults = later },
      subst (λ (n : ℕ). Rose before.issuer.faults n) (sym (ap (λ (i : IssuerState). i.faults) same)) (omega arith),
    )

self_idle : (i : ToyIssuerState) → DidNothing i i
self_idle i = record { is = refl }

counted_so : (before between after : ToyIssuerState) → DidNothing before between → CountedCall between after → issuer_state after ≡ issuer_state before
counted_so before between after idle c = idle_so before after (idle_then before between after idle c.rest)

pub made_none_so : (before after : ToyIssuerState) (e : IssuerError) → MakesNone before after e → before.issuer.faults ≤ after.issuer.faults → IssuerFails (issuer_state before) (issuer_state after) e
made_none_so before after errors.Failed (inl m) later = faulted_so before before after (self_idle before) m.failed later
made_none_so before after errors.Failed (inr (inl m)) later = faulted_so before m.between after m.draws.rest m.stops.failed later
made_none_so before after errors.Failed (inr (inr m)) later = faulted_so before m.between after (ready_idle before m.between m.serial m.issuing m.ready) m.stops.failed later
made_none_so before after errors.OutOfMemory (inl m) later = counted_so before m.between after m.draws.rest m.call
made_none_so before after errors.OutOfMemory (inr m) later = counted_so before m.between after (ready_idle before m.between m.serial m.issuing m.ready) m.call

pub no_key_so : (before after : ToyIssuerState) (e : IssuerError) → GivesNoKey before after e → before.issuer.faults ≤ after.issuer.faults → IssuerFails (issuer_state before) (issuer_state after) e
no_key_so before after errors.Failed m later = faulted_so before before after (self_idle before) m.failed later
no_key_so before after errors.OutOfMemory m later = counted_so before before after (self_idle before) m

-- ---- a certificate

short_told : (octets : List ℕ) → (2 ^ 16 < length octets → min (0 + 1) (2 ^ 64 - 1) ≤ 0) → length octets ≤ 2 ^ 16
short_told octets told = one (nat_lt 65536 (length octets)) refl
  where
    one : (b : Bool) → nat_lt 65536 (length octets) ≡ b → length octets ≤ 65536
    one true e =
        let more : 65536 < length octets = grind (arith, nat_tests) in
        let rose = told more in
        absurd (omega (arith, rose))
    one false e = grind (arith, nat_tests)

module _ (key : KeyFields) (id : ℕ) (validity : ValidityFields) (a b c d : ToyState) (serial : List ℕ) (issuing : KeyFields) (fields : TbsFields) (made : CertificateFields) (value : List ℕ)
    (drawn : IsSerialDrawn (state_of a) (state_of b) serial)
    (given : IsKeyOf id (state_of b) (state_of c) issuing)
    (distinct : AreDistinct (state_of c).keyring)
    (fields_are : IsMadeFor issuing key serial validity fields)
    (signature : IsSignature ToyChecks RsaSha256 id (spelled_tbs fields) (state_of c) (state_of d) value)
    (is : made ≡ record { signed = record { slice = spelled_tbs fields; signature = record { algorithm = default_algorithm; value = value } }; tbs = fields })
  where
    signed_as : IsSignedAs ToyChecks fields id (state_of c) (state_of d) made
    signed_as = subst (λ (m : CertificateFields). IsSignedAs ToyChecks fields id (state_of c) (state_of d) m) (sym is) (record {
      tbs = refl;
      slice = refl;
      algorithm = refl;
      signed = record { is = signature; short = short_told value signature.told };
    })

    to_key : IsIssuedTo ToyChecks key serial id validity (state_of b) (state_of d) made
    to_key = issued_to ToyChecks key serial id validity (state_of b) (state_of c) (state_of d) issuing fields made distinct (record { is = given; short = short_told issuing.bits given.told }) fields_are signed_as

    pub end_entity : IsEndEntityMade ToyChecks key id validity (state_of a) (state_of d) made
    end_entity = end_entity_made ToyChecks key id validity (state_of a) (state_of b) (state_of d) serial made drawn to_key

    pub read_again : IsMoment validity.not_before × IsMoment validity.not_after → IsReadAgain Der made
    read_again moments = end_entities_again {E = ToyFault} ToyChecks key serial id validity (state_of a) (state_of b) (state_of d) (Ok made) (λ e. Unit {0}) moments drawn to_key Der

-- ---- behind the third call

module _ (key : KeyFields) (not_after : ℤ) (before between given after : ToyIssuerState) (serial : List ℕ) (issuing : KeyFields) (fields : TbsFields)
    (draws : DrewSerial before between serial)
    (gives : GaveKey between given issuing)
    (fields_are : IsMadeFor issuing key serial (record { not_before = before.from; not_after = not_after }) fields)
  where
    pub signed_so : (r : Result CertificateFields IssuerError) → IfOk r (SignedFields fields given after) → IfOk r (IsSignedFor key not_after before after)
    signed_so (Ok made) s = record {
      between = given;
      serial = serial;
      issuing = issuing;
      ready = record { between = between; draws = draws; gives = gives };
      fields = fields;
      fields_are = fields_are;
      signs = s;
    }
    signed_so (Err e) s = tt

    pub unsigned_so : (r : Result CertificateFields IssuerError) → IfErr r (SignsNone given after) → IfErr r (MakesNone before after)
    unsigned_so (Ok made) s = tt
    unsigned_so (Err e) s = stops_at_signature before between given after serial issuing e draws gives s

    module _ (drawn : IsSerialDrawn (state_of before.signer) (state_of between.signer) serial)
        (key_is : IsKeyOf between.key (state_of between.signer) (state_of given.signer) issuing)
        (distinct : AreDistinct (state_of given.signer).keyring)
      where
        own_key : between.key ≡ before.key
        own_key = ap (λ (i : ToyIssuerState). i.key) draws.rest.is

        given_key : given.key ≡ before.key
        given_key = ap (λ (i : ToyIssuerState). i.key) gives.rest.is ∙ own_key

        key_of_own : IsKeyOf before.key (state_of between.signer) (state_of given.signer) issuing
        key_of_own = subst (λ (id : ℕ). IsKeyOf id (state_of between.signer) (state_of given.signer) issuing) own_key key_is

        signature_of : (made : CertificateFields) (s : SignedFields fields given after made) → IsSignature ToyChecks RsaSha256 given.key (spelled_tbs fields) (state_of given.signer) (state_of after.signer) made.signed.signature.value
            → IsSignature ToyChecks RsaSha256 before.key (spelled_tbs fields) (state_of given.signer) (state_of after.signer) s.value
        signature_of made s signature =
            subst (λ (value : List ℕ). IsSignature ToyChecks RsaSha256 before.key (spelled_tbs fields) (state_of given.signer) (state_of after.signer) value) (ap (λ (m : CertificateFields). m.signed.signature.value) s.is)
            (subst (λ (id : ℕ). IsSignature ToyChecks RsaSha256 id (spelled_tbs fields) (state_of given.signer) (state_of after.signer) made.signed.signature.value) given_key signature)

        pub made_so : (r : Result CertificateFields IssuerError) → IfOk r (SignedFields fields given after)
            → IfOk r (λ made. IsSignature ToyChecks RsaSha256 given.key (spelled_tbs fields) (state_of given.signer) (state_of after.signer) made.signed.signature.value)
            → IfOk r (IsEndEntityMade ToyChecks key before.key (record { not_before = before.from; not_after = not_after }) (state_of before.signer) (state_of after.signer))
        made_so (Ok made) s signature =
            end_entity key before.key (record { not_before = before.from; not_after = not_after }) before.signer between.signer given.signer after.signer serial issuing fields made s.value
            drawn key_of_own distinct fields_are (signature_of made s signature) s.is
        made_so (Err e) s signature = tt

        pub again_so : IsMoment before.from × IsMoment not_after → (r : Result CertificateFields IssuerError) → IfOk r (SignedFields fields given after)
            → IfOk r (λ made. IsSignature ToyChecks RsaSha256 given.key (spelled_tbs fields) (state_of given.signer) (state_of after.signer) made.signed.signature.value) → IfOk r (IsReadAgain Der)
        again_so moments (Ok made) s signature =
            read_again key before.key (record { not_before = before.from; not_after = not_after }) before.signer between.signer given.signer after.signer serial issuing fields made s.value
            drawn key_of_own distinct fields_are (signature_of made s signature) s.is moments
        again_so moments (Err e) s signature = tt
