-- What the publication server's program does with words and input.
use Rattle.std.specs.Prelude.{◌≡◌, ◌⊎◌, ℕ, ℤ, true, None, Some, Err, List, [], length, slice_get}
use Rattle.rpki_base.specs.PublicKey.{KeyFields}
use Rattle.rpki_base.specs.Scheme.{Relation}
use Rattle.rpki_text.specs.Uri.{rsync, fault_of, names_directory, path_of}
use Rattle.rpki_sigmsg.specs.Making.{HasWindow}
use Rattle.rpki_ca.specs.Answer.{Ends}
use Rattle.rpki_ca.specs.Lines.{EndsLines, EndsRead, EndsUnread, lines_of}
use Rattle.rpki_ca.specs.Seen.{Seen, SignerSeen}
use Rattle.rpki_ca.specs.Sent.{AreNotSent, AreSent, EndsMoment}
use Rattle.rpki_ca.specs.Words.{IsMomentAt, key_at}
use Rattle.rpki_ca.specs.declared.refusals.Refusal.TheVariants.{Hex, OutOfMemory}
use Rattle.rpki_pubserver.specs.Server.{ServerFields}
use Rattle.rpki_pubserver.specs.Serving.{AreAllReplied, AreFirstReplied, StopsReplying}

-- ---- words

-- a URI under which objects may lie: the path in it is empty or ends with a slash
pub record IsBase (base : List ℕ) : Type 0 where
  pub lawful : fault_of rsync base ≡ None
  pub directory : names_directory (path_of rsync base) ≡ true

-- three words: a moment, such a URI, and the publisher's key
pub record AreServerWords (words : List (List ℕ)) (when : ℤ) (base : List ℕ) (publisher : KeyFields)
    : Type 0 where
  pub three : length words ≡ 3
  pub moment : IsMomentAt words 0 when
  pub stands : slice_get words 1 ≡ Some base
  pub base_is : IsBase base
  pub key : key_at words 2 ≡ Some publisher

-- the words are not a moment, a base URI and a publisher's key
abbrev pub AreNoServerWords : List (List ℕ) → Type 0
AreNoServerWords words =
    (when : ℤ) (base : List ℕ) (publisher : KeyFields) → AreServerWords words when base publisher
    → ⊥

-- the server at first
abbrev pub new_server : List ℕ → KeyFields → ServerFields
new_server base publisher = record { base = base; publisher = publisher; store = [] }

-- ---- lines

-- the signer did nothing
abbrev pub IsIdle : {Id : Type 0} → SignerSeen Id → Type 0
IsIdle signer = signer.after ≡ signer.before

-- How it ends where each line is that of octets, and the moment has a window: they are answered one
-- behind the other.
pub record EndsServerAnswered {Id : Type 0} (scheme : Relation) (when : ℤ) (signer : SignerSeen Id)
    (server : ServerFields) (lines : List (List ℕ)) (status : ℕ) (sink : Seen) : Type 0 where
  pub messages : List (List ℕ)
  pub are : AreSent lines messages
  pub window_is : HasWindow when
  pub ends : EndsLines (AreAllReplied scheme when signer server messages)
      (AreFirstReplied scheme when signer server messages)
      (StopsReplying scheme when signer server messages) status sink

-- how it ends: with the answers to all lines; or the moment has no window; or some line is that of
-- no octets; or memory ran out
abbrev pub EndsServerServed : {Id : Type 0} → Relation → ℤ → SignerSeen Id → ServerFields
    → List (List ℕ) → ℕ → Seen → Type 0
EndsServerServed scheme when signer server lines status sink =
    EndsServerAnswered scheme when signer server lines status sink
    ⊎ ((EndsMoment when lines status sink × IsIdle signer)
    ⊎ ((AreNotSent lines × Ends (Err Hex) status sink × IsIdle signer)
    ⊎ (Ends (Err OutOfMemory) status sink × IsIdle signer)))

-- How it ends on a source: the input isn't read, and the signer did nothing; or it is, and its
-- lines are answered.
abbrev pub EndsServerRun : {Id : Type 0} → Relation → ℤ → SignerSeen Id → ServerFields → ℕ → Seen
    → Seen → Type 0
EndsServerRun scheme when signer server status source sink =
    (EndsUnread status source sink × IsIdle signer)
    ⊎ EndsRead (λ input. EndsServerServed scheme when signer server (lines_of input) status sink)
    source
