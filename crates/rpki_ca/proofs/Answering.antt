-- One command, and one answer to it.
use Rattle.std.proofs.Common.{◌≡◌, ◌≢◌, ◌<◌, ◌≤◌, ◌^◌, ◌⊎◌, ℕ, inl, inr, Option, Some, None, Result, Ok, Err, List, [], length, refl, sym, ap, subst, ◌∙◌, arith}
use Rattle.std.specs.Prelude.{IfSome, IfOk, IfErr, IsErrOf, MatchResult}
use Rattle.rpki_ca.specs.declared.command.Command.{Command}
use Rattle.rpki_ca.specs.declared.command.Command.TheVariants.{Content, Receive, Create, Setup, Make}
use Rattle.rpki_ca.specs.declared.refusals.Refusal.{Refusal}
use Rattle.rpki_ca.specs.declared.refusals.Refusal.TheVariants as refusals
use Rattle.rpki_ca.specs.Command.{IsCommand, IsNoCommand, IsMake, ReadsInput}
use Rattle.rpki_ca.specs.Summary.{IsMakeAnswer}
use Rattle.rpki_base.specs.Scheme.{Relation}
use Rattle.rpki_ca.specs.Refusal.{status_of}
use Rattle.rpki_text.specs.Source.{OfInput}
use Rattle.rpki_ca.specs.Seen.{Seen, SignerSeen, IsSteady}
use Rattle.rpki_ca.specs.Answer.{octets_in, AnswersSpelled, AnswersSigned, Performs, IsAnswer, IsGiven, IsShown, IsAdmitted, IsLineOf, IsUnread, ReadsAll}
use Rattle.rpki_ca.proofs.Commands.{one_command, is_make}

-- ---- the answer

pub answers : (scheme : Relation) (words : List (List ℕ)) (input : List ℕ) (c : Command) (a : Result (List ℕ) Refusal) → IsCommand words c → (ReadsInput c → length input ≤ 2 ^ 26) → AnswersSpelled scheme c (octets_in c input) a → IsAnswer scheme words input a
answers scheme words input c a is l said =
    record {
      usage = λ n. absurd (n c is);
      long = λ d also reads m. absurd (never (length input) m (l (subst ReadsInput (one_command words d c also is) reads)));
      answers = λ d also m. subst (λ (x : Command). AnswersSpelled scheme x (octets_in x input) a) (one_command words c d is also) said;
    }
  where
    never : (n : ℕ) → 2 ^ 26 < n → n ≤ 2 ^ 26 → ⊥
    never n a b = omega (arith, a, b)

given : {I : Type 0} (scheme : Relation) (words : List (List ℕ)) (signer : SignerSeen I) (input : List ℕ) (c : Command) (a : Result (List ℕ) Refusal) → IsCommand words c → (ReadsInput c → length input ≤ 2 ^ 26) → Performs scheme c input signer a → IsGiven scheme words signer input a
given scheme words signer input c a is l (inl said) = inl (answers scheme words input c a is l said)
given scheme words signer input c a is l (inr said) = inr (record { command = c; is = is; within = l; answers = said })

-- ---- the answer to input that was read

pub if_some : {X : Type 0} (o : Option X) (P Q : X → Type 0) → ((x : X) → P x → Q x) → IfSome o P → IfSome o Q
if_some None P Q f p = tt
if_some (Some x) P Q f p = f x p

pub always_some : {X : Type 0} (o : Option X) (P : X → Type 0) → ((x : X) → P x) → IfSome o P
always_some None P f = tt
always_some (Some x) P f = f x

pub if_ok_is : {X Y : Type 0} (r : Result X Y) (x : X) (P : X → Type 0) → r ≡ Ok x → P x → IfOk r P
if_ok_is r x P e p = rw e p

pub if_err : {X Y : Type 0} (r : Result X Y) (P Q : Y → Type 0) → ((e : Y) → P e → Q e) → IfErr r P → IfErr r Q
if_err (Ok x) P Q f p = tt
if_err (Err e) P Q f p = f e p

pub each_input : (o : Option (List ℕ)) (P Q : List ℕ → Type 0) → ((x : List ℕ) → P x → Q x) → OfInput o P → OfInput o Q
each_input None P Q f p = (p.0, f p.0 p.1)
each_input (Some x) P Q f p = f x p

pub any_input : (o : Option (List ℕ)) (P : List ℕ → Type 0) → ((x : List ℕ) → P x) → OfInput o P
any_input None P f = ([], f [])
any_input (Some x) P f = f x

-- what is said of the input is said of the one that is told
pub told_input : (o : Option (List ℕ)) (P Q : List ℕ → Type 0) → ((x : List ℕ) → P x → Q x) → OfInput o P → IfSome o Q
told_input None P Q f p = tt
told_input (Some x) P Q f p = f x p

-- what is performed with the input is performed with what was read of it
of_input : {I : Type 0} (scheme : Relation) (c : Command) (octets input : List ℕ) (signer : SignerSeen I) (a : Result (List ℕ) Refusal) → (ReadsInput c → octets ≡ input) → Performs scheme c octets signer a → Performs scheme c input signer a
of_input scheme Content octets input signer a same said = subst (λ (o : List ℕ). Performs scheme Content o signer a) (same tt) said
of_input scheme (Receive kind when keys) octets input signer a same said = subst (λ (o : List ℕ). Performs scheme (Receive kind when keys) o signer a) (same tt) said
of_input scheme (Create kind when) octets input signer a same said = subst (λ (o : List ℕ). Performs scheme (Create kind when) o signer a) (same tt) said
of_input scheme (Setup kind when) octets input signer a same said = subst (λ (o : List ℕ). Performs scheme (Setup kind when) o signer a) (same tt) said
of_input scheme (Make count seed) octets input signer a same said = said

-- what was read, where the command reads
abbrev pub IsRead : Command → List ℕ → Option (List ℕ) → Type 0
IsRead c octets told = (ReadsInput c → length octets ≤ 2 ^ 26) × IfSome told (λ input. ReadsInput c → (octets ≡ input) × (length input ≤ 2 ^ 26))

given_to_input : {I : Type 0} (scheme : Relation) (words : List (List ℕ)) (signer : SignerSeen I) (octets : List ℕ) (told : Option (List ℕ)) (c : Command) (a : Result (List ℕ) Refusal) → IsCommand words c → IsRead c octets told → Performs scheme c octets signer a
    → OfInput told (λ input. IsGiven scheme words signer input a)
given_to_input scheme words signer octets None c a is read said = (octets, given scheme words signer octets c a is read.0 said)
given_to_input scheme words signer octets (Some input) c a is read said =
    given scheme words signer input c a is (λ reads. (read.1 reads).1) (of_input scheme c octets input signer a (λ reads. (read.1 reads).0) said)

pub shown : {I : Type 0} (scheme : Relation) (words : List (List ℕ)) (source : Seen) (signer : SignerSeen I) (octets : List ℕ) (c : Command) (a : Result (List ℕ) Refusal) → IsCommand words c
    → IsRead c octets source.before → IsSteady source → Performs scheme c octets signer a → IsShown scheme words source signer a
shown scheme words source signer octets c a is read steady said = record { shown = given_to_input scheme words signer octets source.before c a is read said; steady = steady }

-- words of no command
usage_answer : (scheme : Relation) (words : List (List ℕ)) (input : List ℕ) → IsNoCommand words → IsAnswer scheme words input (Err refusals.Usage)
usage_answer scheme words input none = record { usage = λ n. refl; long = λ c is reads l. absurd (none c is); answers = λ c is l. absurd (none c is) }

pub usage_shown : {I : Type 0} (scheme : Relation) (words : List (List ℕ)) (source : Seen) (signer : SignerSeen I) → IsNoCommand words → IsSteady source → IsShown scheme words source signer (Err refusals.Usage)
usage_shown scheme words source signer none steady = record { shown = any_input source.before _ (λ input. inl (usage_answer scheme words input none)); steady = steady }

-- ---- what no command answers

abbrev err_of : Refusal → Result (List ℕ) Refusal
err_of e = Err e

no_usage : (scheme : Relation) (c : Command) (o : Option (List ℕ)) → AnswersSpelled scheme c o (Err refusals.Usage) → ⊥
no_usage scheme c None said = never said
  where
    never : err_of refusals.Usage ≡ err_of refusals.Hex → ⊥
    never k = cc
no_usage scheme Content (Some octets) said = said
no_usage scheme (Receive kind when keys) (Some octets) said = said
no_usage scheme (Create kind when) (Some octets) said = said
no_usage scheme (Setup kind when) (Some octets) said = said.refused
no_usage scheme (Make count seed) (Some octets) said = said

no_usage_signed : {I : Type 0} (scheme : Relation) (c : Command) (input : List ℕ) (signer : SignerSeen I) → AnswersSigned scheme c input signer (Err refusals.Usage) → ⊥
no_usage_signed scheme Content input signer said = said
no_usage_signed scheme (Receive kind when keys) input signer said = said
no_usage_signed scheme (Create kind when) input signer said = said.signed
no_usage_signed scheme (Setup kind when) input signer said = said
no_usage_signed scheme (Make count seed) input signer said = said.0

no_fault : (scheme : Relation) (c : Command) (o : Option (List ℕ)) → AnswersSpelled scheme c o (Err refusals.ReadFault) → ⊥
no_fault scheme c None said = never said
  where
    never : err_of refusals.ReadFault ≡ err_of refusals.Hex → ⊥
    never k = cc
no_fault scheme Content (Some octets) said = said
no_fault scheme (Receive kind when keys) (Some octets) said = said
no_fault scheme (Create kind when) (Some octets) said = said
no_fault scheme (Setup kind when) (Some octets) said = said.refused
no_fault scheme (Make count seed) (Some octets) said = said

no_fault_signed : {I : Type 0} (scheme : Relation) (c : Command) (input : List ℕ) (signer : SignerSeen I) → AnswersSigned scheme c input signer (Err refusals.ReadFault) → ⊥
no_fault_signed scheme Content input signer said = said
no_fault_signed scheme (Receive kind when keys) input signer said = said
no_fault_signed scheme (Create kind when) input signer said = said.signed
no_fault_signed scheme (Setup kind when) input signer said = said
no_fault_signed scheme (Make count seed) input signer said = said.0

performs_no_usage : {I : Type 0} (scheme : Relation) (c : Command) (input : List ℕ) (signer : SignerSeen I) → Performs scheme c input signer (Err refusals.Usage) → ⊥
performs_no_usage scheme c input signer (inl said) = no_usage scheme c (octets_in c input) said
performs_no_usage scheme c input signer (inr said) = no_usage_signed scheme c input signer said

performs_no_fault : {I : Type 0} (scheme : Relation) (c : Command) (input : List ℕ) (signer : SignerSeen I) → Performs scheme c input signer (Err refusals.ReadFault) → ⊥
performs_no_fault scheme c input signer (inl said) = no_fault scheme c (octets_in c input) said
performs_no_fault scheme c input signer (inr said) = no_fault_signed scheme c input signer said

-- ---- what is admitted

abbrev Shown : {I : Type 0} → Relation → List (List ℕ) → Seen → SignerSeen I → Refusal → Type 0
Shown scheme words source signer e = IsShown scheme words source signer (Err e)

-- a refusal is one of the two that input doesn't show, or another
abbrev pub Sort : Refusal → Type 0
Sort e = (e ≡ refusals.ReadFault) ⊎ ((e ≡ refusals.OutOfMemory) ⊎ ((e ≢ refusals.ReadFault) × (e ≢ refusals.OutOfMemory)))

other_than : (e : Refusal) → status_of e ≢ 10 → status_of e ≢ 12 → Sort e
other_than e f m = inr (inr (λ k. f (ap status_of k), λ k. m (ap status_of k)))

pub sort_of : (e : Refusal) → Sort e
sort_of refusals.ReadFault = inl refl
sort_of refusals.OutOfMemory = inr (inl refl)
sort_of refusals.Usage = other_than refusals.Usage (λ k. a k) (λ k. b k)
  where
    a : status_of refusals.Usage ≡ 10 → ⊥
    a k = cc

    b : status_of refusals.Usage ≡ 12 → ⊥
    b k = cc
sort_of refusals.Hex = other_than refusals.Hex (λ k. a k) (λ k. b k)
  where
    a : status_of refusals.Hex ≡ 10 → ⊥
    a k = cc

    b : status_of refusals.Hex ≡ 12 → ⊥
    b k = cc
sort_of refusals.CmsDecode = other_than refusals.CmsDecode (λ k. a k) (λ k. b k)
  where
    a : status_of refusals.CmsDecode ≡ 10 → ⊥
    a k = cc

    b : status_of refusals.CmsDecode ≡ 12 → ⊥
    b k = cc
sort_of refusals.XmlError = other_than refusals.XmlError (λ k. a k) (λ k. b k)
  where
    a : status_of refusals.XmlError ≡ 10 → ⊥
    a k = cc

    b : status_of refusals.XmlError ≡ 12 → ⊥
    b k = cc
sort_of refusals.CertSyntax = other_than refusals.CertSyntax (λ k. a k) (λ k. b k)
  where
    a : status_of refusals.CertSyntax ≡ 10 → ⊥
    a k = cc

    b : status_of refusals.CertSyntax ≡ 12 → ⊥
    b k = cc
sort_of refusals.InvalidCsrSyntax = other_than refusals.InvalidCsrSyntax (λ k. a k) (λ k. b k)
  where
    a : status_of refusals.InvalidCsrSyntax ≡ 10 → ⊥
    a k = cc

    b : status_of refusals.InvalidCsrSyntax ≡ 12 → ⊥
    b k = cc
sort_of (refusals.Validation n) = other_than (refusals.Validation n) (λ k. a k) (λ k. b k)
  where
    a : status_of (refusals.Validation n) ≡ 10 → ⊥
    a k = cc

    b : status_of (refusals.Validation n) ≡ 12 → ⊥
    b k = cc
sort_of refusals.TooLong = other_than refusals.TooLong (λ k. a k) (λ k. b k)
  where
    a : status_of refusals.TooLong ≡ 10 → ⊥
    a k = cc

    b : status_of refusals.TooLong ≡ 12 → ⊥
    b k = cc
sort_of refusals.InvalidTaCertEncoding = other_than refusals.InvalidTaCertEncoding (λ k. a k) (λ k. b k)
  where
    a : status_of refusals.InvalidTaCertEncoding ≡ 10 → ⊥
    a k = cc

    b : status_of refusals.InvalidTaCertEncoding ≡ 12 → ⊥
    b k = cc
sort_of refusals.InvalidTaCert = other_than refusals.InvalidTaCert (λ k. a k) (λ k. b k)
  where
    a : status_of refusals.InvalidTaCert ≡ 10 → ⊥
    a k = cc

    b : status_of refusals.InvalidTaCert ≡ 12 → ⊥
    b k = cc
sort_of refusals.KeyNotFound = other_than refusals.KeyNotFound (λ k. a k) (λ k. b k)
  where
    a : status_of refusals.KeyNotFound ≡ 10 → ⊥
    a k = cc

    b : status_of refusals.KeyNotFound ≡ 12 → ⊥
    b k = cc
sort_of refusals.IncompatibleKey = other_than refusals.IncompatibleKey (λ k. a k) (λ k. b k)
  where
    a : status_of refusals.IncompatibleKey ≡ 10 → ⊥
    a k = cc

    b : status_of refusals.IncompatibleKey ≡ 12 → ⊥
    b k = cc
sort_of refusals.KeyReused = other_than refusals.KeyReused (λ k. a k) (λ k. b k)
  where
    a : status_of refusals.KeyReused ≡ 10 → ⊥
    a k = cc

    b : status_of refusals.KeyReused ≡ 12 → ⊥
    b k = cc
sort_of refusals.Signer = other_than refusals.Signer (λ k. a k) (λ k. b k)
  where
    a : status_of refusals.Signer ≡ 10 → ⊥
    a k = cc

    b : status_of refusals.Signer ≡ 12 → ⊥
    b k = cc
sort_of refusals.Moment = other_than refusals.Moment (λ k. a k) (λ k. b k)
  where
    a : status_of refusals.Moment ≡ 10 → ⊥
    a k = cc

    b : status_of refusals.Moment ≡ 12 → ⊥
    b k = cc

-- what is shown is admitted, but for these two
by_shown : {I : Type 0} (scheme : Relation) (words : List (List ℕ)) (source : Seen) (signer : SignerSeen I) (e : Refusal) → e ≢ refusals.ReadFault → e ≢ refusals.OutOfMemory → Shown scheme words source signer e → IsAdmitted scheme words source signer (Err e)
by_shown scheme words source signer refusals.ReadFault f m s = absurd (f refl)
by_shown scheme words source signer refusals.OutOfMemory f m s = absurd (m refl)
by_shown scheme words source signer refusals.Usage f m s = s
by_shown scheme words source signer refusals.Hex f m s = s
by_shown scheme words source signer refusals.CmsDecode f m s = s
by_shown scheme words source signer refusals.XmlError f m s = s
by_shown scheme words source signer refusals.CertSyntax f m s = s
by_shown scheme words source signer refusals.InvalidCsrSyntax f m s = s
by_shown scheme words source signer refusals.InvalidTaCertEncoding f m s = s
by_shown scheme words source signer refusals.InvalidTaCert f m s = s
by_shown scheme words source signer (refusals.Validation n) f m s = s
by_shown scheme words source signer refusals.TooLong f m s = s
by_shown scheme words source signer refusals.KeyNotFound f m s = s
by_shown scheme words source signer refusals.IncompatibleKey f m s = s
by_shown scheme words source signer refusals.KeyReused f m s = s
by_shown scheme words source signer refusals.Signer f m s = s
by_shown scheme words source signer refusals.Moment f m s = s

-- what is admitted is shown, but for ReadFault and OutOfMemory
pub to_shown : {I : Type 0} (scheme : Relation) (words : List (List ℕ)) (source : Seen) (signer : SignerSeen I) (e : Refusal) → e ≢ refusals.ReadFault → e ≢ refusals.OutOfMemory → IsAdmitted scheme words source signer (Err e) → Shown scheme words source signer e
to_shown scheme words source signer refusals.ReadFault f m s = absurd (f refl)
to_shown scheme words source signer refusals.OutOfMemory f m s = absurd (m refl)
to_shown scheme words source signer refusals.Usage f m s = s
to_shown scheme words source signer refusals.Hex f m s = s
to_shown scheme words source signer refusals.CmsDecode f m s = s
to_shown scheme words source signer refusals.XmlError f m s = s
to_shown scheme words source signer refusals.CertSyntax f m s = s
to_shown scheme words source signer refusals.InvalidCsrSyntax f m s = s
to_shown scheme words source signer refusals.InvalidTaCertEncoding f m s = s
to_shown scheme words source signer refusals.InvalidTaCert f m s = s
to_shown scheme words source signer (refusals.Validation n) f m s = s
to_shown scheme words source signer refusals.TooLong f m s = s
to_shown scheme words source signer refusals.KeyNotFound f m s = s
to_shown scheme words source signer refusals.IncompatibleKey f m s = s
to_shown scheme words source signer refusals.KeyReused f m s = s
to_shown scheme words source signer refusals.Signer f m s = s
to_shown scheme words source signer refusals.Moment f m s = s

pub admitted : {I : Type 0} (scheme : Relation) (words : List (List ℕ)) (source : Seen) (signer : SignerSeen I) (octets : List ℕ) (c : Command) (e : Refusal) → IsCommand words c
    → IsRead c octets source.before → IsSteady source → (e ≢ refusals.OutOfMemory → Performs scheme c octets signer (Err e))
    → IsAdmitted scheme words source signer (Err e)
admitted scheme words source signer octets c e is within steady said =
    elim (sort_of e) [
      | inl fault ↦ absurd (performs_no_fault scheme c octets signer (subst (λ (x : Refusal). Performs scheme c octets signer (Err x)) fault (said (λ k. unlike (sym fault ∙ k)))))
      | inr (inl memory) ↦ subst (λ (x : Refusal). IsAdmitted scheme words source signer (Err x)) (sym memory) steady
      | inr (inr other) ↦ by_shown scheme words source signer e other.0 other.1 (shown scheme words source signer octets c (Err e) is within steady (said other.1))
    ]
  where
    unlike : refusals.ReadFault ≡ refusals.OutOfMemory → ⊥
    unlike k = cc

-- input that isn't read
too_long : (scheme : Relation) (words : List (List ℕ)) (input : List ℕ) (c : Command) → IsCommand words c → ReadsInput c → 2 ^ 26 < length input → IsAnswer scheme words input (Err refusals.TooLong)
too_long scheme words input c is reads longer =
    record {
      usage = λ n. absurd (n c is);
      long = λ d also r m. refl;
      answers = λ d also m. absurd (never (length input) longer (m (subst ReadsInput (one_command words c d is also) reads)));
    }
  where
    never : (n : ℕ) → 2 ^ 26 < n → n ≤ 2 ^ 26 → ⊥
    never n a b = omega (arith, a, b)

pub unread_admitted : {I : Type 0} (scheme : Relation) (words : List (List ℕ)) (source : Seen) (signer : SignerSeen I) (c : Command) (e : Refusal) → IsCommand words c → ReadsInput c → IsUnread source e → IsAdmitted scheme words source signer (Err e)
unread_admitted scheme words source signer c refusals.TooLong is reads u =
    record { shown = each_input source.before _ _ (λ input longer. inl (too_long scheme words input c is reads longer)) u.0; steady = u.1 }
unread_admitted scheme words source signer c refusals.ReadFault is reads u = u
unread_admitted scheme words source signer c refusals.OutOfMemory is reads u = u
unread_admitted scheme words source signer c refusals.Usage is reads u = absurd u
unread_admitted scheme words source signer c refusals.Hex is reads u = absurd u
unread_admitted scheme words source signer c refusals.CmsDecode is reads u = absurd u
unread_admitted scheme words source signer c refusals.XmlError is reads u = absurd u
unread_admitted scheme words source signer c refusals.CertSyntax is reads u = absurd u
unread_admitted scheme words source signer c refusals.InvalidCsrSyntax is reads u = absurd u
unread_admitted scheme words source signer c refusals.InvalidTaCertEncoding is reads u = absurd u
unread_admitted scheme words source signer c refusals.InvalidTaCert is reads u = absurd u
unread_admitted scheme words source signer c (refusals.Validation n) is reads u = absurd u
unread_admitted scheme words source signer c refusals.KeyNotFound is reads u = absurd u
unread_admitted scheme words source signer c refusals.IncompatibleKey is reads u = absurd u
unread_admitted scheme words source signer c refusals.KeyReused is reads u = absurd u
unread_admitted scheme words source signer c refusals.Signer is reads u = absurd u
unread_admitted scheme words source signer c refusals.Moment is reads u = absurd u

pub usage_of_none : {X I : Type 0} (scheme : Relation) (words : List (List ℕ)) (c : Command) (input : List ℕ) (signer : SignerSeen I) (r : Result X Refusal) → IfErr r (λ e. e ≢ refusals.OutOfMemory → Performs scheme c input signer (Err e)) → IsErrOf r refusals.Usage → IsNoCommand words
usage_of_none {X = X} scheme words c input signer r said is = absurd (performs_no_usage scheme c input signer (subst (λ (x : Result X Refusal). IfErr x (λ e. e ≢ refusals.OutOfMemory → Performs scheme c input signer (Err e))) is said other))
  where
    other : refusals.Usage ≡ refusals.OutOfMemory → ⊥
    other k = cc

-- ---- the end of the input, and `make`

pub at_end : {L : Type 0} {End : Type 0} (r : Result L Refusal) → End → MatchResult r (λ _. End) (λ e. ReadsAll (status_of e) → End)
at_end (Ok line) end = end
at_end (Err e) end = λ reads. end

-- what is performed of `make` is its answer
by_make : {I : Type 0} (scheme : Relation) (count seed : ℕ) (c : Command) (octets : List ℕ) (signer : SignerSeen I) (a : Result (List ℕ) Refusal) → c ≡ Make count seed → Performs scheme c octets signer a → IsMakeAnswer scheme count seed signer a
by_make scheme count seed c octets signer a is said = told (subst (λ (x : Command). Performs scheme x octets signer a) is said)
  where
    told : Performs scheme (Make count seed) octets signer a → IsMakeAnswer scheme count seed signer a
    told (inl pure) = absurd pure
    told (inr signed) = signed

pub made_by_words : {L I : Type 0} (scheme : Relation) (words : List (List ℕ)) (count seed : ℕ) (c : Command) (octets : List ℕ) (signer : SignerSeen I) (items : L → List ℕ) (r : Result L Refusal) → IsCommand words c → IsMake words count seed
    → IfOk r (λ line. IsLineOf (Performs scheme c octets signer) (items line)) → IfErr r (λ e. e ≢ refusals.OutOfMemory → Performs scheme c octets signer (Err e))
    → MatchResult r (λ line. IsLineOf (IsMakeAnswer scheme count seed signer) (items line)) (λ e. e ≢ refusals.OutOfMemory → IsMakeAnswer scheme count seed signer (Err e))
made_by_words scheme words count seed c octets signer items (Ok line) is make told refused =
    (told.0, by_make scheme count seed c octets signer (Ok told.0) (one_command words c (Make count seed) is (is_make words count seed make)) told.1, told.2)
made_by_words scheme words count seed c octets signer items (Err e) is make told refused = λ other.
    by_make scheme count seed c octets signer (Err e) (one_command words c (Make count seed) is (is_make words count seed make)) (refused other)
