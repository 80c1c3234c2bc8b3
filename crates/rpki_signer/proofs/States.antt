-- Several calls of a signer in turn.
use Rattle.std.proofs.Common.{◌≡◌, ◌≢◌, ◌⊎◌, inl, inr, ℕ, ◌≤◌, ◌<◌, List, length, Result, Ok, Err, refl, sym, subst, ◌∙◌, arith}
use Rattle.std.specs.Prelude.{IfErr, IsErr, IsErrAnd, MatchResult}
use Rattle.rpki_common.specs.Causes.{Rose}
use Rattle.rpki_base.specs.declared.algorithm.SigningAlgorithm.{SigningAlgorithm}
use Rattle.rpki_signer.specs.declared.errors.CallError.{CallError}
use Rattle.rpki_signer.specs.declared.errors.CallError.TheVariants as call
use Rattle.rpki_signer.specs.declared.errors.MakeError.{MakeError}
use Rattle.rpki_signer.specs.declared.errors.MakeError.TheVariants as make
use Rattle.rpki_signer.specs.declared.errors.SigningError.{SigningError}
use Rattle.rpki_signer.specs.declared.errors.SigningError.TheVariants as signing
use Rattle.rpki_signer.specs.Errors.{signing_error_of, make_error_of}
use Rattle.rpki_base.specs.declared.algorithm.SigningAlgorithm.TheVariants.{RsaSha256}
use Rattle.rpki_base.specs.PublicKey.{KeyFields}
use Rattle.rpki_base.specs.Scheme.{Relation}
use Rattle.rpki_signer.specs.Limits.{IsShortKey, IsSpared, Keeps, MakeFails, RefusesKey, RefusesSignature, RefusesOneOff, StopsInTurn}
use Rattle.rpki_signer.specs.Signer.{SignerState, LacksKey, IsLater, Stays, IsUnfit, IsOneOff, CallFails, SigningFails}

-- ---- counts

pub rose_then : (a b c : ℕ) → Rose a b → b ≤ c → Rose a c
rose_then a b c r h = omega (arith, r, h)

pub then_rose : (a b c : ℕ) → a ≤ b → Rose b c → Rose a c
then_rose a b c h r = omega (arith, r, h)

pub later_same : {I : Type 0} (s : SignerState I) → IsLater s s
later_same s = record { faults = omega arith; overlong = omega arith; reused = omega arith }

pub later_then : {I : Type 0} (a b c : SignerState I) → IsLater a b → IsLater b c → IsLater a c
later_then a b c p q = record { faults = omega (arith, p.faults, q.faults); overlong = omega (arith, p.overlong, q.overlong); reused = omega (arith, p.reused, q.reused) }

-- ---- what stays

pub stays_same : {I : Type 0} (s : SignerState I) → Stays s s
stays_same s = record { later = later_same s; keyring = refl; drawn = refl; random = refl }

pub stays_then : {I : Type 0} (a b c : SignerState I) → Stays a b → Stays b c → Stays a c
stays_then a b c p q = record { later = later_then a b c p.later q.later; keyring = q.keyring ∙ p.keyring; drawn = q.drawn ∙ p.drawn; random = q.random ∙ p.random }

pub stays_keeps : {I : Type 0} (a b : SignerState I) → Stays a b → Keeps a b
stays_keeps a b p = record { later = p.later; keyring = p.keyring }

pub keeps_same : {I : Type 0} (s : SignerState I) → Keeps s s
keeps_same s = record { later = later_same s; keyring = refl }

pub keeps_then : {I : Type 0} (a b c : SignerState I) → Keeps a b → Keeps b c → Keeps a c
keeps_then a b c p q = record { later = later_then a b c p.later q.later; keyring = q.keyring ∙ p.keyring }

-- ---- why a later call failed

unfit_before : {I : Type 0} (kind : SigningAlgorithm) (a b : SignerState I) (id : I) → Keeps a b → IsUnfit kind b.keyring id → IsUnfit kind a.keyring id
unfit_before kind a b id k u = subst (λ r. IsUnfit kind r id) k.keyring u

pub signing_before : {I E : Type 0} (kind : SigningAlgorithm) (id : I) (a b c : SignerState I) (e : SigningError E) → Keeps a b → SigningFails kind id b c e → SigningFails kind id a c e
signing_before kind id a b c signing.KeyNotFound k f = subst (λ r. LacksKey r id) k.keyring f
signing_before kind id a b c signing.IncompatibleKey k f = unfit_before kind a b id k f
signing_before kind id a b c (signing.Signer e) k f = then_rose a.faults b.faults c.faults k.later.faults f
signing_before kind id a b c signing.OutOfMemory k f = tt

pub fails_before : {I E : Type 0} (kind : SigningAlgorithm) (id : I) (a b c : SignerState I) (e : MakeError E) → Keeps a b → MakeFails kind id b c e → MakeFails kind id a c e
fails_before kind id a b c make.TooLong k f = then_rose a.overlong b.overlong c.overlong k.later.overlong f
fails_before kind id a b c (make.Signing e) k f = (f.0, signing_before kind id a b c e k f.1)
fails_before kind id a b c make.OutOfMemory k f = tt

not_memory : {E : Type 0} (e : E) → ◌≢◌ {A = SigningError E} (signing.Signer e) signing.OutOfMemory
not_memory {E = E} e p = tell p
  where
    tell : ◌≡◌ {A = SigningError E} (signing.Signer e) signing.OutOfMemory → ⊥
    tell q = cc

-- a call that asks for no key is a reason too
pub call_fails : {I E : Type 0} (kind : SigningAlgorithm) (id : I) (a b : SignerState I) (e : CallError E) → CallFails a b e → MakeFails kind id a b (make_error_of (signing_error_of e))
call_fails kind id a b (call.Signer e) f = (not_memory e, f)
call_fails kind id a b call.OutOfMemory f = tt

-- ---- which refusal was the first

-- an error that is handed on
pub handed_on : {Y E : Type 0} (r : Result Y E) (x : E) (ok : Y → Type 0) (Q : E → Type 0) → IsErr r × IsErrAnd r (λ e. e ≡ x) → Q x → MatchResult r ok Q
handed_on (Ok y) x ok Q p q = absurd p.1
handed_on (Err e) x ok Q p q = subst Q (sym p.1) q

-- ---- what a refusal means

pub key_refused : {I E : Type 0} (id : I) (a b : SignerState I) (e : MakeError E) → RefusesKey id a b e → Stays a b × MakeFails RsaSha256 id a b e
key_refused id a b make.TooLong r = (r.is.stays, r.is.told r.long)
key_refused id a b (make.Signing e) r = (r.0.stays, (r.0.known, r.0.fails))
key_refused id a b make.OutOfMemory r = (r.stays, tt)

pub signature_refused : {I E : Type 0} (scheme : Relation) (id : I) (a b : SignerState I) (e : MakeError E) → RefusesSignature scheme id a b e → Stays a b × MakeFails RsaSha256 id a b e
signature_refused scheme id a b make.TooLong r = (r.is.stays, r.is.told r.long)
signature_refused scheme id a b (make.Signing e) r = (r.stays, (r.known, r.fails))
signature_refused scheme id a b make.OutOfMemory r = (r.stays, tt)

once_told : {I : Type 0} (scheme : Relation) (message : List ℕ) (a b : SignerState I) (octets : List ℕ) (key : KeyFields) → IsOneOff scheme RsaSha256 message a b octets key → (65536 < length octets) ⊎ (65536 < length key.bits) → Rose a.overlong b.overlong
once_told scheme message a b octets key o (inl h) = o.told h
once_told scheme message a b octets key o (inr h) = o.key_told h

pub one_off_refused : {I E : Type 0} (scheme : Relation) (message : List ℕ) (id : I) (a b : SignerState I) (e : MakeError E) → RefusesOneOff scheme message a b e → Keeps a b × MakeFails RsaSha256 id a b e
one_off_refused scheme message id a b make.TooLong r = (record { later = r.is.later; keyring = r.is.keyring }, once_told scheme message a b r.octets r.key r.is r.long)
one_off_refused scheme message id a b (make.Signing signing.KeyNotFound) r = absurd r
one_off_refused scheme message id a b (make.Signing signing.IncompatibleKey) r = absurd r
one_off_refused scheme message id a b (make.Signing (signing.Signer e)) r = (stays_keeps a b r.stays, (not_memory e, r.told))
one_off_refused scheme message id a b (make.Signing signing.OutOfMemory) r = absurd r
one_off_refused scheme message id a b make.OutOfMemory r = (stays_keeps a b r.stays, tt)

-- ---- in turn

-- behind the key
pub stops_behind_key : {I E : Type 0} (scheme : Relation) (id : I) (a b c : SignerState I) (key : KeyFields) (e : MakeError E) → IsShortKey id a b key → RefusesSignature scheme id b c e → StopsInTurn scheme id a c e
stops_behind_key scheme id a b c key e k f = inr (record { between = b; key = key; given = k; refuses = f })

-- memory ran out beside the signer
pub spared_same : {I : Type 0} (s : SignerState I) → IsSpared s s
spared_same s = record { stays = stays_same s; uncounted = refl; no_fault = refl }

pub stops_for_memory : {I E : Type 0} (scheme : Relation) (id : I) (a b : SignerState I) (key : KeyFields) → IsShortKey id a b key → StopsInTurn {E = E} scheme id a b make.OutOfMemory
stops_for_memory scheme id a b key k = stops_behind_key scheme id a b b key make.OutOfMemory k (spared_same b)

pub stops_so : {Y I E : Type 0} (scheme : Relation) (id : I) (a b c : SignerState I) (key : KeyFields) (ok : Y → Type 0) (r : Result Y (MakeError E)) → IsShortKey id a b key → MatchResult r ok (RefusesSignature scheme id b c) → IfErr r (StopsInTurn scheme id a c)
stops_so scheme id a b c key ok (Ok y) k m = tt
stops_so scheme id a b c key ok (Err e) k m = stops_behind_key scheme id a b c key e k m

pub in_turn_fails : {I E : Type 0} (scheme : Relation) (id : I) (a b : SignerState I) (e : MakeError E) → StopsInTurn scheme id a b e → MakeFails RsaSha256 id a b e
in_turn_fails scheme id a b e (inl r) = (key_refused id a b e r).1
in_turn_fails scheme id a b e (inr s) = fails_before RsaSha256 id a s.between b e (stays_keeps a s.between s.given.is.stays) (signature_refused scheme id s.between b e s.refuses).1
