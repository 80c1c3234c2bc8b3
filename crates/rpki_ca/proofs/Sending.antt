-- Messages that a program signs as its answers, and why one isn't signed.
use Rattle.std.proofs.Common.{◌≡◌, ◌≢◌, ◌<◌, ◌^◌, ◌≤ℤ◌, ◌⊎◌, inl, inr, ℕ, ℤ, Some, Result, Ok, Err, List, ◌++◌, length, refl, sym, ap, subst, ◌∙◌}
use Rattle.std.specs.Prelude.{IsErrOf}
use Rattle.rpki_base.specs.PublicKey.{KeyFields}
use Rattle.rpki_base.specs.Scheme.{Relation}
use Rattle.rpki_der.specs.declared.mode.Mode.{Mode}
use Rattle.rpki_der.specs.Takes.{BeginsAs}
use Rattle.rpki_signer.specs.Limits.{Keeps}
use Rattle.rpki_signer.specs.Signer.{HeldKey, HoldsKey, SignerState}
use Rattle.rpki_signer.specs.declared.errors.SigningError.TheVariants as signing
use Rattle.rpki_signer.proofs.States.{then_rose}
use Rattle.rpki_sigmsg.specs.declared.create_error.CreateError.{CreateError}
use Rattle.rpki_sigmsg.specs.declared.create_error.CreateError.TheVariants as create
use Rattle.rpki_sigmsg.specs.Checks.{IsBelieved}
use Rattle.rpki_sigmsg.specs.FirstRefusals.{IsFirstRefusal}
use Rattle.rpki_sigmsg.specs.Making.{window, HasWindow, IsMessageCreated, CreateFails}
use Rattle.rpki_sigmsg.specs.Message.{MessageFields, signed_message}
use Rattle.rpki_sigmsg.specs.Spelling.{rewritten, CanSpellMessage}
use Rattle.rpki_ca.specs.declared.receiving.Received.{Received}
use Rattle.rpki_ca.specs.declared.refusals.Refusal.{Refusal}
use Rattle.rpki_ca.specs.declared.refusals.Refusal.TheVariants as refusals
use Rattle.rpki_ca.specs.Acceptance.{ReadsAs, IsWritable, protocol_of, accepted_text, normal_form}
use Rattle.rpki_ca.specs.Creation.{CanSign, refusal_of_create}
use Rattle.rpki_ca.specs.Seen.{SignerSeen, seen_signer}
use Rattle.rpki_ca.specs.Sending.{IsSentAs, FailsToSign, IsSigningCause}
use Rattle.rpki_ca.proofs.Creating.{TellsText, fits_ok, read_again, receivable}

-- ---- one message

pub signed_as : {I T E : Type 0} (scheme : Relation) (message : Received) (when : ℤ) (signer : SignerSeen I) (r : Result T (CreateError E)) (x : T) (signed : MessageFields) → r ≡ Ok x → IsWritable message
    → IsMessageCreated scheme (accepted_text message) when signer.id signer.before signer.after signed
    → ((key : KeyFields) → HoldsKey signer.before.keyring signer.id key → (moment : ℤ) → (window when).not_before ≤ℤ moment → moment ≤ℤ (window when).not_after → IsBelieved scheme signed key moment)
    → ((mode : Mode) (rest : List ℕ) → CanSpellMessage signed → BeginsAs (signed_message mode) mode (rewritten signed ++ rest) signed)
    → TellsText message when r → IsSentAs scheme when signer message signed
signed_as scheme message when signer r x signed is writable created believed again tells =
    let content : signed.content ≡ accepted_text message = ap (λ (s : MessageFields). s.content) created.made.is in
    record {
      fits = fits_ok message when r x is tells created.window_is;
      created = created;
      receivable = λ spelled. receivable scheme message when signer signed (rewritten signed) refl spelled again believed (subst (λ (o : List ℕ). ReadsAs (protocol_of message) o (normal_form message)) (sym content) (read_again message writable));
    }

module _ {T E : Type 0} where
  abbrev err_as : CreateError E → Result T (CreateError E)
  err_as e = Err e

  -- the error that is told is the one that is answered
  told : (e wanted : CreateError E) → e ≢ create.OutOfMemory → (err_as e ≡ Err wanted) ⊎ (err_as e ≡ Err create.OutOfMemory) → e ≡ wanted
  told e wanted other (inl is) = cc
  told e wanted other (inr is) = let memory : e ≡ create.OutOfMemory = cc in absurd (other memory)

  pub fails_to_sign : {I : Type 0} (scheme : Relation) (message : Received) (when : ℤ) (signer : SignerSeen I) (e : CreateError E) → CreateFails (accepted_text message) when signer.id signer.before signer.after e
      → ((HasWindow when → ⊥) → IsErrOf (err_as e) create.Moment ⊎ IsErrOf (err_as e) create.OutOfMemory) → TellsText message when (err_as e) → IsFirstRefusal scheme (accepted_text message) when signer.id signer.before signer.after e → e ≢ create.OutOfMemory → FailsToSign scheme when signer message e
  fails_to_sign scheme message when signer e cause moment long first other = record {
    cause = cause;
    moment = λ none. told e create.Moment other (moment none);
    too_long = λ w l. told e create.TooLong other (long w l);
    first_refusal = first;
  }

-- as a program tells it
pub not_memory : {E : Type 0} (e : CreateError E) → refusal_of_create e ≢ refusals.OutOfMemory → e ≢ create.OutOfMemory
not_memory e other is = other (ap refusal_of_create is)

pub signing_cause : {I E : Type 0} (scheme : Relation) (when : ℤ) (signer : SignerSeen I) (message : Received) (e : CreateError E) → FailsToSign scheme when signer message e → refusal_of_create e ≢ refusals.OutOfMemory → IsSigningCause when signer message (refusal_of_create e)
signing_cause scheme when signer message create.Moment f other = f.cause
signing_cause scheme when signer message create.TooLong f other = elim f.cause.1 [ inl long ↦ inr long | inr short ↦ inl short.1 ]
signing_cause scheme when signer message create.KeyReused f other = f.cause.1
signing_cause scheme when signer message (create.Signing signing.KeyNotFound) f other = f.cause.2
signing_cause scheme when signer message (create.Signing signing.IncompatibleKey) f other = f.cause.2
signing_cause scheme when signer message (create.Signing (signing.Signer s)) f other = f.cause.2
signing_cause scheme when signer message (create.Signing signing.OutOfMemory) f other = absurd (other refl)
signing_cause scheme when signer message create.OutOfMemory f other = absurd (other refl)

-- ---- the messages of a run

-- where the signer can sign in the whole run, and the text isn't too long, a message isn't signed for want of memory alone
module _ {I : Type 0} (when : ℤ) (id : I) (first between after : SignerState I) (message : Received) (can : CanSign (seen_signer id first after)) (w : HasWindow when) (keeps : Keeps first between) (short : 2 ^ 31 < length (accepted_text message) → ⊥) where
  pub no_cause : (r : Refusal) → IsSigningCause when (seen_signer id between after) message r → ⊥
  no_cause refusals.TooLong f =
      elim f [
        | inl rose ↦ can.short_answers (then_rose first.overlong between.overlong after.overlong keeps.later.overlong rose)
        | inr long ↦ short long
      ]
  no_cause refusals.KeyReused f =
      let same = f.only can.issuing (subst (λ (k : List (HeldKey I)). HoldsKey k id can.issuing) (sym keeps.keyring) can.holds) in
      can.other (then_rose first.reused between.reused after.reused keeps.later.reused f.told) (f.drawn ∙ ap (λ (k : KeyFields). Some k) (sym same))
  no_cause refusals.KeyNotFound f = f can.issuing (subst (λ (k : List (HeldKey I)). HoldsKey k id can.issuing) (sym keeps.keyring) can.holds)
  no_cause refusals.IncompatibleKey f = f.only can.issuing (subst (λ (k : List (HeldKey I)). HoldsKey k id can.issuing) (sym keeps.keyring) can.holds) can.format
  no_cause refusals.Signer f = can.no_fault (then_rose first.faults between.faults after.faults keeps.later.faults f)
  no_cause refusals.OutOfMemory f = f
  no_cause refusals.Moment f = f w
  no_cause refusals.Usage f = f
  no_cause refusals.Hex f = f
  no_cause refusals.CmsDecode f = f
  no_cause refusals.XmlError f = f
  no_cause refusals.CertSyntax f = f
  no_cause refusals.InvalidCsrSyntax f = f
  no_cause refusals.InvalidTaCertEncoding f = f
  no_cause refusals.InvalidTaCert f = f
  no_cause (refusals.Validation n) f = f
  no_cause refusals.ReadFault f = f

-- so it is what stops the run
pub memory_or : (r : Refusal) → (r ≡ refusals.OutOfMemory) ⊎ (r ≢ refusals.OutOfMemory)
memory_or refusals.OutOfMemory = inl refl
memory_or refusals.TooLong = inr (λ e. cc)
memory_or refusals.KeyReused = inr (λ e. cc)
memory_or refusals.KeyNotFound = inr (λ e. cc)
memory_or refusals.IncompatibleKey = inr (λ e. cc)
memory_or refusals.Signer = inr (λ e. cc)
memory_or refusals.Moment = inr (λ e. cc)
memory_or refusals.Usage = inr (λ e. cc)
memory_or refusals.Hex = inr (λ e. cc)
memory_or refusals.CmsDecode = inr (λ e. cc)
memory_or refusals.XmlError = inr (λ e. cc)
memory_or refusals.CertSyntax = inr (λ e. cc)
memory_or refusals.InvalidCsrSyntax = inr (λ e. cc)
memory_or refusals.InvalidTaCertEncoding = inr (λ e. cc)
memory_or refusals.InvalidTaCert = inr (λ e. cc)
memory_or (refusals.Validation n) = inr (λ e. cc)
memory_or refusals.ReadFault = inr (λ e. cc)

pub memory_unless : (r : Refusal) → (r ≢ refusals.OutOfMemory → ⊥) → r ≡ refusals.OutOfMemory
memory_unless r never = elim (memory_or r) [ inl memory ↦ memory | inr other ↦ absurd (never other) ]
