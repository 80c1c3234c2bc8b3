-- Answers to lines that are signed messages.
use Rattle.std.proofs.Common.{◌≡◌, ◌≢◌, ◌<◌, ◌≤ℤ◌, ◌⊎◌, ◌∙◌, ◌++◌, ◌∷◌, [], ℕ, ℤ, Result, Ok, Err, IfOk, IfErr, List, Some, ap, arith, get_or, length, refl, subst, sym, take}
use Rattle.std.specs.Prelude.{IsErrOf, MatchResult, slice_get}
use Rattle.std.proofs.lemmas.Option.{slice_get-get_or}
use Rattle.rpki_base.specs.PublicKey.{KeyFields}
use Rattle.rpki_base.specs.Scheme.{Relation}
use Rattle.rpki_der.specs.declared.mode.Mode.{Mode}
use Rattle.rpki_der.specs.Takes.{BeginsAs}
use Rattle.rpki_signer.specs.Limits.{Keeps}
use Rattle.rpki_signer.specs.Signer.{HoldsKey, SignerState}
use Rattle.rpki_signer.proofs.States.{keeps_same, keeps_then}
use Rattle.rpki_sigmsg.specs.declared.create_error.CreateError.{CreateError}
use Rattle.rpki_sigmsg.specs.declared.create_error.CreateError.TheVariants as create
use Rattle.rpki_sigmsg.specs.Checks.{IsBelieved}
use Rattle.rpki_sigmsg.specs.FirstRefusals.{IsFirstRefusal}
use Rattle.rpki_sigmsg.specs.Making.{window, HasWindow, IsMessageCreated, CreateFails}
use Rattle.rpki_sigmsg.specs.Message.{MessageFields, signed_message}
use Rattle.rpki_sigmsg.specs.Spelling.{rewritten, CanSpellMessage}
use Rattle.rpki_ca.specs.declared.receiving.Received.{Received}
use Rattle.rpki_ca.specs.Acceptance.{IsWritable, accepted_text}
use Rattle.rpki_ca.specs.Seen.{SignerSeen}
use Rattle.rpki_ca.specs.Sending.{FailsToSign, IsSentAs}
use Rattle.rpki_ca.specs.Steps.{AreSteps}
use Rattle.rpki_ca.proofs.Creating.{TellsText}
use Rattle.rpki_ca.proofs.Sending.{fails_to_sign, signed_as}
use Rattle.rpki_ca.proofs.Stepping.{counted}

-- ---- a message is signed, or it isn't

-- by what `create` of either protocol says of its answer, which holds a signed message
module _ {I E C : Type 0} (scheme : Relation) (when : ℤ) (signer : SignerSeen I) (message : Received) (signed_of : C → MessageFields) where
  abbrev pub IsCreatedOrFails : Result C (CreateError E) → Type 0
  IsCreatedOrFails r =
      MatchResult r (λ c. IsMessageCreated scheme (accepted_text message) when signer.id signer.before signer.after (signed_of c)) (CreateFails (accepted_text message) when signer.id signer.before signer.after)

  pub signed_so : (r : Result C (CreateError E)) → IsWritable message → IsCreatedOrFails r
      → IfOk r (λ c. (key : KeyFields) → HoldsKey signer.before.keyring signer.id key → (moment : ℤ) → (window when).not_before ≤ℤ moment → moment ≤ℤ (window when).not_after → IsBelieved scheme (signed_of c) key moment)
      → IfOk r (λ c. (mode : Mode) (rest : List ℕ) → CanSpellMessage (signed_of c) → BeginsAs (signed_message mode) mode (rewritten (signed_of c) ++ rest) (signed_of c))
      → TellsText message when r → IfOk r (λ c. IsSentAs scheme when signer message (signed_of c))
  signed_so (Ok c) writable created believed again tells = signed_as scheme message when signer (Ok c) c (signed_of c) refl writable created believed again tells
  signed_so (Err e) writable created believed again tells = tt

  pub fails_so : (r : Result C (CreateError E)) → IsCreatedOrFails r → ((HasWindow when → ⊥) → IsErrOf r create.Moment ⊎ IsErrOf r create.OutOfMemory) → TellsText message when r → IfErr r (IsFirstRefusal scheme (accepted_text message) when signer.id signer.before signer.after)
      → IfErr r (λ e. e ≢ create.OutOfMemory → FailsToSign scheme when signer message e)
  fails_so (Ok c) cause moment tells first = tt
  fails_so (Err e) cause moment tells first = fails_to_sign scheme message when signer e cause moment tells first

-- ---- lines, one behind the other

-- where each step keeps the signer's keys and its counts, all of them do
pub steps_keep : {S L I : Type 0} (step : S → L → List ℕ → S → Type 0) (signer_of : S → SignerState I) → ((state : S) (line : L) (text : List ℕ) (next : S) → step state line text next → Keeps (signer_of state) (signer_of next))
    → (state : S) (lines : List L) (texts : List (List ℕ)) (last : S) → AreSteps step state lines texts last → Keeps (signer_of state) (signer_of last)
steps_keep {S = S} step signer_of keeps state [] [] last are = subst (λ (s : S). Keeps (signer_of state) (signer_of s)) (sym are) (keeps_same (signer_of state))
steps_keep step signer_of keeps state [] (text ∷ texts) last are = absurd are
steps_keep step signer_of keeps state (line ∷ lines) [] last are = absurd are
steps_keep step signer_of keeps state (line ∷ lines) (text ∷ texts) last are =
    keeps_then (signer_of state) (signer_of are.0) (signer_of last) (keeps state line text are.0 are.1) (steps_keep step signer_of keeps are.0 lines texts last are.2)

-- the line behind those that are answered
pub next_stands : {L : Type 0} (lines : List L) (i : ℕ) (line : L) → i < length lines → line ≡ get_or lines i line → slice_get lines i ≡ Some line
next_stands {L = L} lines i line lt at = slice_get-get_or lines i line lt ∙ ap (λ (l : L). Some l) (sym at)

module _ {S L : Type 0} (step : S → L → List ℕ → S → Type 0) (state : S) (lines : List L) where
  pub stopped_at : (i : ℕ) (texts : List (List ℕ)) (last : S) (line : L) → i < length lines → line ≡ get_or lines i line → AreSteps step state (take i lines) texts last
      → AreSteps step state (take (length texts) lines) texts last × (slice_get lines (length texts) ≡ Some line)
  stopped_at i texts last line lt at are =
      let count : length texts ≡ i = counted step state lines i texts last (omega (arith, lt)) are in
      subst (λ (n : ℕ). AreSteps step state (take n lines) texts last × (slice_get lines n ≡ Some line)) (sym count) (are, next_stands lines i line lt at)
