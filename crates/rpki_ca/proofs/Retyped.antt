-- The first refusal of a signer stays the first where the type of the signer's own errors is another.
use Rattle.std.proofs.Common.{◌≡◌, inl, inr, ℕ, ℤ, List, refl, ap}
use Rattle.rpki_base.specs.PublicKey.{KeyFields}
use Rattle.rpki_base.specs.Scheme.{Relation}
use Rattle.rpki_signer.specs.declared.errors.MakeError.{MakeError}
use Rattle.rpki_signer.specs.declared.errors.MakeError.TheVariants as make
use Rattle.rpki_signer.specs.declared.errors.SigningError.{SigningError}
use Rattle.rpki_signer.specs.declared.errors.SigningError.TheVariants as signing
use Rattle.rpki_signer.specs.Limits.{IsCallRefused, RefusesKey, RefusesOneOff, RefusesSignature, StopsBehindKey, StopsInTurn}
use Rattle.rpki_signer.specs.Signer.{SignerState}
use Rattle.rpki_idcert.specs.Making.{RefusesDraw, StopsAtEndEntity}
use Rattle.rpki_sigmsg.specs.FirstRefusals.{StopsAtKeys, StopsCertifying, StopsCreating}

abbrev retyped_signing : {A B : Type 0} → (A → B) → SigningError A → SigningError B
retyped_signing g signing.KeyNotFound = signing.KeyNotFound
retyped_signing g signing.IncompatibleKey = signing.IncompatibleKey
retyped_signing g (signing.Signer x) = signing.Signer (g x)
retyped_signing g signing.OutOfMemory = signing.OutOfMemory

abbrev retyped : {A B : Type 0} → (A → B) → MakeError A → MakeError B
retyped g make.TooLong = make.TooLong
retyped g (make.Signing s) = make.Signing (retyped_signing g s)
retyped g make.OutOfMemory = make.OutOfMemory

refused : {I A B : Type 0} (g : A → B) (id : I) (a b : SignerState I) (e : SigningError A) → IsCallRefused id a b e → IsCallRefused id a b (retyped_signing g e)
refused {B = B} g id a b signing.KeyNotFound r = record { stays = r.stays; uncounted = r.uncounted; known = unlike; fails = r.fails; spares = r.spares }
  where
    unlike : ◌≡◌ {A = SigningError B} signing.KeyNotFound signing.OutOfMemory → ⊥
    unlike k = cc
refused {B = B} g id a b signing.IncompatibleKey r = record { stays = r.stays; uncounted = r.uncounted; known = unlike; fails = r.fails; spares = r.spares }
  where
    unlike : ◌≡◌ {A = SigningError B} signing.IncompatibleKey signing.OutOfMemory → ⊥
    unlike k = cc
refused {B = B} g id a b (signing.Signer x) r = record { stays = r.stays; uncounted = r.uncounted; known = unlike; fails = r.fails; spares = r.spares }
  where
    unlike : ◌≡◌ {A = SigningError B} (signing.Signer (g x)) signing.OutOfMemory → ⊥
    unlike k = cc
refused g id a b signing.OutOfMemory r = absurd (r.known refl)

once : {I A B : Type 0} (g : A → B) (scheme : Relation) (message : List ℕ) (a b : SignerState I) (e : MakeError A) → RefusesOneOff scheme message a b e → RefusesOneOff scheme message a b (retyped g e)
once g scheme message a b make.TooLong r = r
once g scheme message a b (make.Signing signing.KeyNotFound) r = r
once g scheme message a b (make.Signing signing.IncompatibleKey) r = r
once g scheme message a b (make.Signing (signing.Signer x)) r = r
once g scheme message a b (make.Signing signing.OutOfMemory) r = r
once g scheme message a b make.OutOfMemory r = r

-- what is incompatible was so
was_unfit : {A B : Type 0} (g : A → B) (e : SigningError A) → retyped_signing g e ≡ signing.IncompatibleKey → e ≡ signing.IncompatibleKey
was_unfit g signing.KeyNotFound k = cc
was_unfit g signing.IncompatibleKey k = refl
was_unfit g (signing.Signer x) k = cc
was_unfit g signing.OutOfMemory k = cc

refuses_key : {I A B : Type 0} (g : A → B) (id : I) (a b : SignerState I) (e : MakeError A) → RefusesKey id a b e → RefusesKey id a b (retyped g e)
refuses_key g id a b make.TooLong r = r
refuses_key g id a b (make.Signing e) r = (refused g id a b e r.0, λ k. r.1 (was_unfit g e k))
refuses_key g id a b make.OutOfMemory r = r

refuses_signature : {I A B : Type 0} (g : A → B) (scheme : Relation) (id : I) (a b : SignerState I) (e : MakeError A) → RefusesSignature scheme id a b e → RefusesSignature scheme id a b (retyped g e)
refuses_signature g scheme id a b make.TooLong r = r
refuses_signature g scheme id a b (make.Signing e) r = refused g id a b e r
refuses_signature g scheme id a b make.OutOfMemory r = r

behind_key : {I A B : Type 0} (g : A → B) (scheme : Relation) (id : I) (a b : SignerState I) (e : MakeError A) → StopsBehindKey scheme id a b e → StopsBehindKey scheme id a b (retyped g e)
behind_key g scheme id a b e s = record { between = s.between; key = s.key; given = s.given; refuses = refuses_signature g scheme id s.between b e s.refuses }

in_turn : {I A B : Type 0} (g : A → B) (scheme : Relation) (id : I) (a b : SignerState I) (e : MakeError A) → StopsInTurn scheme id a b e → StopsInTurn scheme id a b (retyped g e)
in_turn g scheme id a b e (inl r) = inl (refuses_key g id a b e r)
in_turn g scheme id a b e (inr s) = inr (behind_key g scheme id a b e s)

draw : {I A B : Type 0} (g : A → B) (a b : SignerState I) (e : MakeError A) → RefusesDraw a b e → RefusesDraw a b (retyped g e)
draw g a b e r = record { stays = r.stays; fault = g r.fault; is = ap (retyped g) r.is; told = r.told }

at_end_entity : {I A B : Type 0} (g : A → B) (scheme : Relation) (id : I) (a b : SignerState I) (e : MakeError A) → StopsAtEndEntity scheme id a b e → StopsAtEndEntity scheme id a b (retyped g e)
at_end_entity g scheme id a b e (inl r) = inl (draw g a b e r)
at_end_entity g scheme id a b e (inr s) = inr (record { between = s.between; serial = s.serial; drawn = s.drawn; stops = in_turn g scheme id s.between b e s.stops })

at_keys : {I A B : Type 0} (g : A → B) (scheme : Relation) (message : List ℕ) (id : I) (a b : SignerState I) (e : MakeError A) → StopsAtKeys scheme message id a b e → StopsAtKeys scheme message id a b (retyped g e)
at_keys g scheme message id a b e (inl f) = inl (once g scheme message a b e f)
at_keys g scheme message id a b e (inr s) = inr (record { between = s.between; octets = s.octets; key = s.key; once = s.once; refuses = refuses_key g id s.between b e s.refuses })

certifying : {I A B : Type 0} (g : A → B) (scheme : Relation) (issuing : KeyFields) (now : ℤ) (id : I) (a b : SignerState I) (e : MakeError A) → StopsCertifying scheme issuing now id a b e → StopsCertifying scheme issuing now id a b (retyped g e)
certifying g scheme issuing now id a b e (inl r) = inl (refuses_signature g scheme id a b e r)
certifying g scheme issuing now id a b e (inr s) = inr (record { between = s.between; crl = s.crl; crl_signed = s.crl_signed; stops = at_end_entity g scheme id s.between b e s.stops })

pub creating : {I A B : Type 0} (g : A → B) (scheme : Relation) (content : List ℕ) (now : ℤ) (id : I) (a b : SignerState I) (e : MakeError A) → StopsCreating scheme content now id a b e → StopsCreating scheme content now id a b (retyped g e)
creating g scheme content now id a b e (inl s) = inl (at_keys g scheme _ id a b e s)
creating g scheme content now id a b e (inr s) = inr (record {
  between = s.between;
  octets = s.octets;
  key = s.key;
  issuing = s.issuing;
  keys = s.keys;
  other = s.other;
  stops = certifying g scheme s.issuing now id s.between b e s.stops;
})
