-- What the parent's program does with words and input.
use Rattle.std.specs.Prelude.{◌≡◌, ◌⊎◌, ◌∷◌, [], ℕ, ℤ, pos, Some, Err, List, codes, length}
use Rattle.rpki_base.specs.PublicKey.{KeyFields}
use Rattle.rpki_base.specs.Scheme.{Relation}
use Rattle.rpki_sets.specs.AsNumbers.{as_blocks}
use Rattle.rpki_sets.specs.Ipv4Addresses.{ipv4_blocks}
use Rattle.rpki_sets.specs.Ipv6Addresses.{ipv6_blocks}
use Rattle.rpki_sets.specs.Resources.{Resources}
use Rattle.rpki_sigmsg.specs.Making.{HasWindow}
use Rattle.rpki_updown.specs.Entitlements.{SigningFields}
use Rattle.rpki_ca.specs.Answer.{Ends}
use Rattle.rpki_ca.specs.Lines.{EndsLines, EndsRead, EndsUnread, lines_of}
use Rattle.rpki_ca.specs.Seen.{Seen, SignerSeen}
use Rattle.rpki_ca.specs.Sent.{AreNotSent, AreSent, EndsMoment}
use Rattle.rpki_ca.specs.Words.{IsMomentAt, key_at}
use Rattle.rpki_ca.specs.declared.refusals.Refusal.TheVariants.{Hex, OutOfMemory}
use Rattle.rpki_upserver.specs.Answering.{with_issuer}
use Rattle.rpki_upserver.specs.Issuer.{IssuerState}
use Rattle.rpki_upserver.specs.Serving.{AreAllAnswered, AreFirstAnswered, StopsAnswering}
use Rattle.rpki_upserver.specs.Table.{ClassState, ParentState, new_class, new_parent}

-- ---- words

-- two words: a moment, and the child's key
pub record AreParentWords (words : List (List ℕ)) (when : ℤ) (key : KeyFields) : Type 0 where
  pub two : length words ≡ 2
  pub moment : IsMomentAt words 0 when
  pub key_is : key_at words 1 ≡ Some key

-- the words are not a moment and a child's key
abbrev pub AreNoParentWords : List (List ℕ) → Type 0
AreNoParentWords words = (when : ℤ) (key : KeyFields) → AreParentWords words when key → ⊥

-- ---- the parent at first

-- the child's resources, as texts say them
pub record IsFirstSet (set : Resources) : Type 0 where
  pub asn : as_blocks (codes "1-10") ≡ Some set.asn
  pub ipv4 : ipv4_blocks (codes "10.0.0.0/8") ≡ Some set.ipv4
  pub ipv6 : ipv6_blocks (codes "2001:db8::/32") ≡ Some set.ipv6

-- the class `0`, in which nothing was issued
pub record IsFirstClass (signing : SigningFields) (c : ClassState) : Type 0 where
  pub set : Resources
  pub set_is : IsFirstSet set
  pub is : c ≡ new_class (codes "0") set (pos 2524607999) (codes "rsync://localhost/repo/") signing

-- The parent calls itself `Bob` and the child `Carol`, and has this one class.
pub record IsFirstParent (key : KeyFields) (signing : SigningFields) (p : ParentState) : Type 0
  where
    pub c : ClassState
    pub class_is : IsFirstClass signing c
    pub is : p ≡ new_parent (codes "Bob") (codes "Carol") key (c ∷ [])

-- ---- lines

-- What a run has: moment, child's key, certificate of the issuing key, and the issuer and the
-- signer of replies as it began and as it ended.
pub record Run (Id : Type 0) : Type 0 where
  pub when : ℤ
  pub key : KeyFields
  pub signing : SigningFields
  pub issuer_before : IssuerState
  pub issuer_after : IssuerState
  pub signer : SignerSeen Id

-- the run with this moment, child's key, issuing key's certificate, issuer before and after, and
-- signer
abbrev pub run_of : {Id : Type 0} → ℤ → KeyFields → SigningFields → IssuerState → IssuerState
    → SignerSeen Id → Run Id
run_of when key signing issuer_before issuer_after signer = record {
  when = when;
  key = key;
  signing = signing;
  issuer_before = issuer_before;
  issuer_after = issuer_after;
  signer = signer;
}

-- issuer and signer did nothing
pub record IsIdle {Id : Type 0} (run : Run Id) : Type 0 where
  pub issuer : run.issuer_after ≡ run.issuer_before
  pub signer : run.signer.after ≡ run.signer.before

-- How it ends from a parent: all messages are answered one behind the other, or it stops.
abbrev pub EndsFrom : {Id : Type 0} → Relation → Run Id → ParentState → List (List ℕ) → ℕ → Seen
    → Type 0
EndsFrom scheme run parent messages status sink = EndsLines
    (AreAllAnswered scheme run.when run.signer (with_issuer parent run.issuer_before)
    run.issuer_after messages)
    (AreFirstAnswered scheme run.when run.signer (with_issuer parent run.issuer_before)
    run.issuer_after messages)
    (StopsAnswering scheme run.when run.signer (with_issuer parent run.issuer_before)
    run.issuer_after messages) status sink

-- How it ends where each line is that of octets, and the moment has a window: they are answered
-- from the parent at first.
pub record EndsParentAnswered {Id : Type 0} (scheme : Relation) (run : Run Id)
    (lines : List (List ℕ)) (status : ℕ) (sink : Seen) : Type 0 where
  pub messages : List (List ℕ)
  pub are : AreSent lines messages
  pub window_is : HasWindow run.when
  pub parent : ParentState
  pub first : IsFirstParent run.key run.signing parent
  pub ends : EndsFrom scheme run parent messages status sink

-- how it ends: with the answers from a first parent; or the moment has no window; or some line is
-- that of no octets; or memory ran out
abbrev pub EndsParentServed : {Id : Type 0} → Relation → Run Id → List (List ℕ) → ℕ → Seen → Type 0
EndsParentServed scheme run lines status sink =
    EndsParentAnswered scheme run lines status sink
    ⊎ ((EndsMoment run.when lines status sink × IsIdle run)
    ⊎ ((AreNotSent lines × Ends (Err Hex) status sink × IsIdle run)
    ⊎ (Ends (Err OutOfMemory) status sink × IsIdle run)))

-- How it ends on a source: the input isn't read, and issuer and signer did nothing; or it is, and
-- its lines are answered.
abbrev pub EndsParentRun : {Id : Type 0} → Relation → Run Id → ℕ → Seen → Seen → Type 0
EndsParentRun scheme run status source sink =
    (EndsUnread status source sink × IsIdle run)
    ⊎ EndsRead (λ input. EndsParentServed scheme run (lines_of input) status sink) source
