-- Messages that are created, and why none is.
use Rattle.std.proofs.Common.{◌≡◌, ◌≢◌, ◌≤◌, ◌<◌, ◌^◌, ◌≤ℤ◌, ◌⊎◌, inl, inr, ℕ, ℤ, Option, Some, Result, Ok, Err, List, [], ◌∷◌, ◌++◌, length, refl, sym, ap, subst, ◌∙◌, arith}
use Rattle.std.specs.Prelude.{IsErrOf}
use Rattle.std.specs.Io.KnownBytes.{Appends}
use Rattle.std.proofs.lemmas.Bool.Decides.{leb_tells}
use Rattle.std.proofs.lemmas.List.{append-nil}
use Rattle.hex.specs.Hex.{encode_lower}
use Rattle.rpki_base.specs.declared.algorithm.SigningAlgorithm.{SigningAlgorithm}
use Rattle.rpki_base.specs.declared.algorithm.SigningAlgorithm.TheVariants.{RsaSha256}
use Rattle.rpki_base.specs.Algorithm.{format_of}
use Rattle.rpki_base.specs.PublicKey.{KeyFields}
use Rattle.rpki_base.specs.Scheme.{Relation}
use Rattle.rpki_der.specs.declared.mode.Mode.{Mode}
use Rattle.rpki_der.specs.declared.mode.Mode.TheVariants.{Ber}
use Rattle.rpki_der.specs.Takes.{BeginsAs}
use Rattle.rpki_signer.specs.declared.errors.SigningError.TheVariants as signing
use Rattle.rpki_signer.specs.declared.errors.SigningError.{SigningError}
use Rattle.rpki_signer.specs.Signer.{HoldsKey, SigningFails}
use Rattle.rpki_sigmsg.specs.declared.create_error.CreateError.{CreateError}
use Rattle.rpki_sigmsg.specs.declared.create_error.CreateError.TheVariants as create
use Rattle.rpki_sigmsg.specs.Checks.{IsBelieved}
use Rattle.rpki_sigmsg.specs.FirstRefusals.{IsFirstRefusal, StopsCreating}
use Rattle.rpki_signer.specs.declared.errors.MakeError.TheVariants as make
use Rattle.rpki_sigmsg.specs.Making.{window, HasWindow, IsMessageCreated, CreateFails}
use Rattle.rpki_sigmsg.specs.Message.{MessageFields, signed_message}
use Rattle.rpki_sigmsg.specs.Spelling.{rewritten, CanSpellMessage}
use Rattle.rpki_publication.proofs.Plain.{text_again}
use Rattle.rpki_provisioning.proofs.Plain as plain
use Rattle.rpki_ca.specs.declared.command.Command.{Command}
use Rattle.rpki_ca.specs.declared.command.Command.TheVariants.{Create}
use Rattle.rpki_ca.specs.declared.receiving.Kind.{Kind}
use Rattle.rpki_ca.specs.declared.receiving.Kind.TheVariants as kinds
use Rattle.rpki_ca.specs.declared.receiving.Received.{Received}
use Rattle.rpki_ca.specs.declared.receiving.Received.TheVariants as received
use Rattle.rpki_ca.specs.declared.refusals.Refusal.{Refusal}
use Rattle.rpki_ca.specs.declared.refusals.Refusal.TheVariants as refusals
use Rattle.rpki_ca.specs.Acceptance.{ReadsAs, IsWritable, protocol_of, accepted_text, normal_form}
use Rattle.rpki_ca.specs.Creation.{RefusesInput, IsCreateRefusal, IsReceivable, AreCreated, IsFirstToRefuse, IsSigningAnswer, IsSignersAnswer, IsCreateAnswer, Creates, CanCreate, CanSign, refusal_of_create}
use Rattle.rpki_ca.specs.Answer.{AnswersSigned, IsFromSigner, IsGiven}
use Rattle.rpki_ca.specs.Command.{IsCreate}
use Rattle.rpki_ca.specs.Seen.{Seen, SignerSeen}
use Rattle.rpki_ca.proofs.Commands.{is_create, one_command}
use Rattle.rpki_ca.proofs.Laws.{CreateView, create_view, one_reading}
use Rattle.rpki_ca.proofs.Reasons.{Reason, reason, no_reason}
use Rattle.rpki_ca.proofs.Retyped.{creating}

-- ---- what is made of a message

-- believed, read again, and its content read as the message: received
pub receivable : {I : Type 0} (scheme : Relation) (message : Received) (when : ℤ) (signer : SignerSeen I) (signed : MessageFields) (octets : List ℕ) → octets ≡ rewritten signed → CanSpellMessage signed
    → ((mode : Mode) (rest : List ℕ) → CanSpellMessage signed → BeginsAs (signed_message mode) mode (rewritten signed ++ rest) signed)
    → ((key : KeyFields) → HoldsKey signer.before.keyring signer.id key → (moment : ℤ) → (window when).not_before ≤ℤ moment → moment ≤ℤ (window when).not_after → IsBelieved scheme signed key moment)
    → ReadsAs (protocol_of message) signed.content (normal_form message) → IsReceivable scheme (protocol_of message) octets message when signer
receivable scheme message when signer signed octets are spelled again believed reads = λ key holds keys among moment first last. record {
  signed = signed;
  begins = subst (λ (o : List ℕ). BeginsAs (signed_message Ber) Ber o signed) (append-nil (rewritten signed) ∙ sym are) (again Ber [] spelled);
  believed = record { key = key; among = among; believed = believed key holds moment first last };
  reads = reads;
}

-- a message's text is read as its normal form
pub read_again : (message : Received) → IsWritable message → ReadsAs (protocol_of message) (accepted_text message) (normal_form message)
read_again (received.Publication m) writable = text_again m writable
read_again (received.Provisioning m) writable = plain.text_again m writable

-- what was created of it
pub message_created : {I : Type 0} (scheme : Relation) (m : Received) (when : ℤ) (signer : SignerSeen I) (signed : MessageFields) (text octets : List ℕ) → text ≡ accepted_text m
    → IsMessageCreated scheme text when signer.id signer.before signer.after signed → octets ≡ rewritten signed → CanSpellMessage signed
    → ((mode : Mode) (rest : List ℕ) → CanSpellMessage signed → BeginsAs (signed_message mode) mode (rewritten signed ++ rest) signed)
    → ((key : KeyFields) → HoldsKey signer.before.keyring signer.id key → (moment : ℤ) → (window when).not_before ≤ℤ moment → moment ≤ℤ (window when).not_after → IsBelieved scheme signed key moment)
    → IsWritable m → AreCreated scheme (protocol_of m) m when signer octets
message_created scheme m when signer signed text octets is created are spelled again believed writable =
    let content : signed.content ≡ accepted_text m = ap (λ (s : MessageFields). s.content) created.made.is ∙ is in
    record {
      signed = signed;
      created = subst (λ (t : List ℕ). IsMessageCreated scheme t when signer.id signer.before signer.after signed) is created;
      are = are;
      receivable = receivable scheme m when signer signed octets are spelled again believed (subst (λ o. ReadsAs (protocol_of m) o (normal_form m)) (sym content) (read_again m writable));
    }

-- ---- each refusal by its cause

-- input that is no message
pub input_refused : {I : Type 0} (scheme : Relation) (kind : Kind) (input : List ℕ) (when : ℤ) (signer : SignerSeen I) (e : Refusal) → RefusesInput kind input e → IsCreateAnswer scheme kind input when signer (Err e)
input_refused scheme kind input when signer e r = inl (by_reason (reason kind input e r))
  where
    by_reason : Reason kind input e → IsCreateRefusal kind input when (Err e)
    by_reason (inl p) = subst (λ (x : Refusal). IsCreateRefusal kind input when (Err x)) (sym p.0) p.1
    by_reason (inr (inl p)) = subst (λ (x : Refusal). IsCreateRefusal kind input when (Err x)) (sym p.0) p.1
    by_reason (inr (inr p)) = subst (λ (x : Refusal). IsCreateRefusal kind input when (Err x)) (sym p.0) p.1

-- a message is of its own protocol
pub of_protocol : (kind : Kind) (input : List ℕ) (m : Received) → ReadsAs kind input m → kind ≡ protocol_of m
of_protocol kinds.Publication input (received.Publication m) r = refl
of_protocol kinds.Publication input (received.Provisioning m) r = absurd r
of_protocol kinds.Provisioning input (received.Provisioning m) r = refl
of_protocol kinds.Provisioning input (received.Publication m) r = absurd r

-- what is there is no error
pub not_error : {T E : Type 0} (r : Result T E) (x : T) (e : E) → r ≡ Ok x → IsErrOf r e → ⊥
not_error {T = T} {E = E} r x e is err = unlike (sym is ∙ err)
  where
    ok : Result T E
    ok = Ok x

    unlike : ok ≡ Err e → ⊥
    unlike k = cc

-- a text that is too long is told so, or memory ran out
abbrev pub TellsText : {T E : Type 0} → Received → ℤ → Result T (CreateError E) → Type 0
TellsText message when r = HasWindow when → 2 ^ 31 < length (accepted_text message) → IsErrOf r create.TooLong ⊎ IsErrOf r create.OutOfMemory

-- a text fits where neither TooLong nor want of memory is told
fits : {T E : Type 0} (message : Received) (when : ℤ) (r : Result T (CreateError E)) → TellsText message when r → HasWindow when → (IsErrOf r create.TooLong → ⊥) → (IsErrOf r create.OutOfMemory → ⊥) → length (accepted_text message) ≤ 2 ^ 31
fits message when r tells w long memory =
    elim (leb_tells (length (accepted_text message)) (2 ^ 31)) [
      | inl within ↦ within.1
      | inr longer ↦
          elim (tells w longer.1) [
            | inl t ↦ absurd (long t)
            | inr m ↦ absurd (memory m)
          ]
    ]

pub fits_ok : {T E : Type 0} (message : Received) (when : ℤ) (r : Result T (CreateError E)) (x : T) → r ≡ Ok x → TellsText message when r → HasWindow when → length (accepted_text message) ≤ 2 ^ 31
fits_ok message when r x is tells w = fits message when r tells w (not_error r x create.TooLong is) (not_error r x create.OutOfMemory is)

-- a refusal of the signer, each by its cause
pub signer_refused : {I E : Type 0} (scheme : Relation) (kind : Kind) (message : Received) (when : ℤ) (signer : SignerSeen I) (s : SigningError E) → SigningFails RsaSha256 signer.id signer.before signer.after s
    → refusal_of_create (create.Signing s) ≢ refusals.OutOfMemory → IsSigningAnswer scheme kind message when signer (Err (refusal_of_create (create.Signing s)))
signer_refused scheme kind message when signer signing.KeyNotFound f other = f
signer_refused scheme kind message when signer signing.IncompatibleKey f other = f
signer_refused scheme kind message when signer (signing.Signer x) f other = f
signer_refused scheme kind message when signer signing.OutOfMemory f other = absurd (other refl)

-- the first refusal, told without the signer's own error
first_of : {I E : Type 0} (scheme : Relation) (text : List ℕ) (when : ℤ) (signer : SignerSeen I) (s : SigningError E) → StopsCreating scheme text when signer.id signer.before signer.after (make.Signing s)
    → IsFirstToRefuse scheme text when signer (refusal_of_create (create.Signing s))
first_of scheme text when signer signing.KeyNotFound f = creating (λ x. tt) scheme text when signer.id signer.before signer.after _ f
first_of scheme text when signer signing.IncompatibleKey f = creating (λ x. tt) scheme text when signer.id signer.before signer.after _ f
first_of scheme text when signer (signing.Signer x) f = creating (λ y. tt) scheme text when signer.id signer.before signer.after _ f
first_of scheme text when signer signing.OutOfMemory f = tt

first_too_long : {I E : Type 0} (scheme : Relation) (text : List ℕ) (when : ℤ) (signer : SignerSeen I) → length text ≤ 2 ^ 31 → IsFirstRefusal {E = E} scheme text when signer.id signer.before signer.after create.TooLong
    → IsFirstToRefuse scheme text when signer refusals.TooLong
first_too_long scheme text when signer short (inl long) = absurd (never (length text) long short)
  where
    never : (n : ℕ) → 2 ^ 31 < n → n ≤ 2 ^ 31 → ⊥
    never n a b = omega (arith, a, b)
first_too_long scheme text when signer short (inr f) = creating (λ x. tt) scheme text when signer.id signer.before signer.after _ f

-- of a text that fits, each by its own
pub first_told : {I E : Type 0} (scheme : Relation) (text : List ℕ) (when : ℤ) (signer : SignerSeen I) (e : CreateError E) → length text ≤ 2 ^ 31 → IsFirstRefusal scheme text when signer.id signer.before signer.after e
    → IsFirstToRefuse scheme text when signer (refusal_of_create e)
first_told scheme text when signer create.Moment short f = tt
first_told scheme text when signer create.TooLong short f = first_too_long scheme text when signer short f
first_told scheme text when signer create.KeyReused short f = f
first_told scheme text when signer (create.Signing error) short f = first_of scheme text when signer error f
first_told scheme text when signer create.OutOfMemory short f = tt

abbrev err_as : {T E : Type 0} → CreateError E → Result T (CreateError E)
err_as e = Err e

pub refused : {T I E : Type 0} (scheme : Relation) (kind : Kind) (input : List ℕ) (message : Received) (when : ℤ) (signer : SignerSeen I) (e : CreateError E) → ReadsAs kind input message → TellsText message when (err_as {T = T} e)
    → CreateFails (accepted_text message) when signer.id signer.before signer.after e → IsFirstRefusal scheme (accepted_text message) when signer.id signer.before signer.after e → refusal_of_create e ≢ refusals.OutOfMemory → IsCreateAnswer scheme kind input when signer (Err (refusal_of_create e))
refused scheme kind input message when signer create.Moment r t f first other = inl (record { message = message; reads = r; none = f })
refused scheme kind input message when signer create.TooLong r t (w, inl long) first other = inl (record { message = message; reads = r; window_is = w; long = long })
refused scheme kind input message when signer create.TooLong r t (w, inr short) first other =
    inr (record { message = message; reads = r; window_is = w; fits = short.0; signed = short.1; first = first_too_long scheme (accepted_text message) when signer short.0 first })
refused {T = T} {I = I} {E = E} scheme kind input message when signer create.KeyReused r t f first other =
    inr (record { message = message; reads = r; window_is = f.0; fits = fits message when (err_as {T = T} create.KeyReused) t f.0 (λ k. long k) (λ k. memory k); signed = f.1; first = first })
  where
    long : err_as {T = T} {E = E} create.KeyReused ≡ Err create.TooLong → ⊥
    long k = cc

    memory : err_as {T = T} {E = E} create.KeyReused ≡ Err create.OutOfMemory → ⊥
    memory k = cc
refused {T = T} {I = I} {E = E} scheme kind input message when signer (create.Signing error) r t f first other =
    inr (record {
      message = message;
      reads = r;
      window_is = f.0;
      fits = fits message when (err_as {T = T} (create.Signing error)) t f.0 (λ k. long k) (λ k. memory k);
      signed = signer_refused scheme kind message when signer error f.2 other;
      first = first_of scheme (accepted_text message) when signer error first;
    })
  where
    long : err_as {T = T} {E = E} (create.Signing error) ≡ Err create.TooLong → ⊥
    long k = cc

    memory : err_as {T = T} {E = E} (create.Signing error) ≡ Err create.OutOfMemory → ⊥
    memory k = cc
refused scheme kind input message when signer create.OutOfMemory r t f first other = absurd (other refl)

-- ---- the line

pub line_created : {I : Type 0} (scheme : Relation) (kind : Kind) (input : List ℕ) (message : Received) (when : ℤ) (signer : SignerSeen I) (octets : List ℕ) → ReadsAs kind input message → length (accepted_text message) ≤ 2 ^ 31
    → AreCreated scheme (protocol_of message) message when signer octets → IsCreateAnswer scheme kind input when signer (Ok (encode_lower octets))
line_created scheme kind input message when signer octets r l c =
    let here = subst (λ (k : Kind). AreCreated scheme k message when signer octets) (sym (of_protocol kind input message r)) c in
    inr (record { message = message; reads = r; window_is = c.created.window_is; fits = l; signed = record { octets = octets; created = here; written = refl }; first = tt })

-- ---- status 0

-- a key for one use that isn't the issuing key
pub drawn_other : {X : Type 0} (drawn : Option X) (key issuing : X) → drawn ≡ Some key → key ≢ issuing → drawn ≢ Some issuing
drawn_other {X = X} drawn key issuing is other same = other (one (sym is ∙ same))
  where
    some : X → Option X
    some x = Some x

    one : some key ≡ some issuing → key ≡ issuing
    one k = cc

pub creates : {I : Type 0} (scheme : Relation) → ((kind : SigningAlgorithm) (key : KeyFields) (message signature : List ℕ) → scheme kind key message signature → key.format ≡ format_of kind)
    → (kind : Kind) (when : ℤ) (input text : List ℕ) (signer : SignerSeen I) (sink : Seen) → IsSignersAnswer scheme kind input when signer (Ok text) → Appends sink.before sink.after (text ++ 10 ∷ []) → Creates scheme kind when input signer sink
creates scheme fit kind when input text signer sink s w =
    let made = s.signed.created.created in
    record {
      message = s.message;
      reads = s.reads;
      issuing = made.issuing;
      holds = made.holds;
      format = fit RsaSha256 made.issuing _ _ made.made.issued.signed;
      other = drawn_other signer.after.drawn made.key made.issuing made.drawn made.other;
      octets = s.signed.octets;
      receivable = s.signed.created.receivable;
      written = subst (λ (t : List ℕ). Appends sink.before sink.after (t ++ 10 ∷ [])) s.signed.written w;
    }

-- ---- nothing else, where it can be created

no_pure : {I : Type 0} (kind : Kind) (when : ℤ) (input : List ℕ) (signer : SignerSeen I) (a : Result (List ℕ) Refusal) → CanCreate kind when input signer → CreateView kind input when a → ⊥
no_pure kind when input signer a can (inl p) = no_reason kind input can.message p.0 can.reads (reason kind input p.0 p.2)
no_pure kind when input signer a can (inr (inl p)) = p.1.none can.window_is
no_pure kind when input signer a can (inr (inr p)) =
    never (length (accepted_text can.message)) (subst (λ (m : Received). 2 ^ 31 < length (accepted_text m)) (one_reading kind input p.1.message can.message p.1.reads can.reads) p.1.long) can.fits
  where
    never : (n : ℕ) → 2 ^ 31 < n → n ≤ 2 ^ 31 → ⊥
    never n l m = omega (arith, l, m)

pub no_signed : {I : Type 0} (scheme : Relation) (kind : Kind) (when : ℤ) (signer : SignerSeen I) (message : Received) (r : Refusal) → CanSign signer → IsSigningAnswer scheme kind message when signer (Err r) → ⊥
no_signed scheme kind when signer message refusals.TooLong can s = can.short_answers s
no_signed scheme kind when signer message refusals.KeyReused can s =
    can.other s.told (s.drawn ∙ ap (λ (k : KeyFields). Some k) (sym (s.only can.issuing can.holds)))
no_signed scheme kind when signer message refusals.KeyNotFound can s = s can.issuing can.holds
no_signed scheme kind when signer message refusals.IncompatibleKey can s =
    s.only can.issuing can.holds can.format
no_signed scheme kind when signer message refusals.Signer can s = can.no_fault s
no_signed scheme kind when signer message refusals.Usage can s = s
no_signed scheme kind when signer message refusals.Hex can s = s
no_signed scheme kind when signer message refusals.CmsDecode can s = s
no_signed scheme kind when signer message refusals.XmlError can s = s
no_signed scheme kind when signer message refusals.CertSyntax can s = s
no_signed scheme kind when signer message refusals.InvalidCsrSyntax can s = s
no_signed scheme kind when signer message refusals.InvalidTaCertEncoding can s = s
no_signed scheme kind when signer message refusals.InvalidTaCert can s = s
no_signed scheme kind when signer message (refusals.Validation n) can s = s
no_signed scheme kind when signer message refusals.Moment can s = s
no_signed scheme kind when signer message refusals.ReadFault can s = s
no_signed scheme kind when signer message refusals.OutOfMemory can s = s

-- what the signer's answer to the command is
signed_by : {I : Type 0} (scheme : Relation) (c : Command) (kind : Kind) (when : ℤ) (input : List ℕ) (signer : SignerSeen I) (a : Result (List ℕ) Refusal) → c ≡ Create kind when → AnswersSigned scheme c input signer a → IsSignersAnswer scheme kind input when signer a
signed_by scheme c kind when input signer a e = rw e (λ h. h)

pub from_signer : {I : Type 0} (scheme : Relation) (words : List (List ℕ)) (kind : Kind) (when : ℤ) (input : List ℕ) (signer : SignerSeen I) (a : Result (List ℕ) Refusal) → IsCreate words kind when → IsFromSigner scheme words signer input a → IsSignersAnswer scheme kind input when signer a
from_signer scheme words kind when input signer a is f = signed_by scheme f.command kind when input signer a (one_command words f.command (Create kind when) f.is (is_create words kind when is)) f.answers

pub not_refused : {I : Type 0} (scheme : Relation) (words : List (List ℕ)) (kind : Kind) (when : ℤ) (input : List ℕ) (signer : SignerSeen I) (r : Refusal) → IsCreate words kind when → CanCreate kind when input signer → IsGiven scheme words signer input (Err r) → ⊥
not_refused scheme words kind when input signer r is can (inl a) = no_pure kind when input signer (Err r) can (create_view kind input when (Err r) (a.answers (Create kind when) (is_create words kind when is) (λ reads. can.short)))
not_refused scheme words kind when input signer r is can (inr a) = let s = from_signer scheme words kind when input signer (Err r) is a in no_signed scheme kind when signer s.message r can.signs s.signed

-- a text that is given comes from the signer
pub text_from_signer : {I : Type 0} (scheme : Relation) (words : List (List ℕ)) (kind : Kind) (when : ℤ) (input text : List ℕ) (signer : SignerSeen I) → IsCreate words kind when → IsGiven scheme words signer input (Ok text) → IsSignersAnswer scheme kind input when signer (Ok text)
text_from_signer scheme words kind when input text signer is (inl a) =
    elim (leb_tells (length input) (2 ^ 26)) [
      | inl within ↦ absurd (a.answers (Create kind when) (is_create words kind when is) (λ reads. within.1))
      | inr longer ↦ absurd (unlike (a.long (Create kind when) (is_create words kind when is) tt longer.1))
    ]
  where
    ok : Result (List ℕ) Refusal
    ok = Ok text

    unlike : ok ≡ Err refusals.TooLong → ⊥
    unlike k = cc
text_from_signer scheme words kind when input text signer is (inr a) = from_signer scheme words kind when input signer (Ok text) is a
