-- What a call was seen to do to its source, its sink and its signer.
use Rattle.std.specs.Prelude.{◌≡◌, ℕ, Option, None, Some, List}
use Rattle.rpki_common.specs.Causes.{Rose}
use Rattle.rpki_signer.specs.Signer.{SignerState}

-- The octets still to come or those written, where it tells them, and its count of faults, as the
-- call began and as it ended.
pub record Seen : Type 0 where
  pub before : Option (List ℕ)
  pub after : Option (List ℕ)
  pub faults_before : ℕ
  pub faults_after : ℕ

-- what a call was seen to do to a source or a sink, which it found as the old one and left as the
-- new one
abbrev pub seen : {X : Type 0} → (X → Option (List ℕ)) → (X → ℕ) → X → X → Seen
seen octets faults old new = record {
  before = octets old;
  after = octets new;
  faults_before = faults old;
  faults_after = faults new;
}

-- the count of faults rose in the call, or it stands at the last value that it can have, 2^64 - 1
abbrev pub HasFailed : Seen → Type 0
HasFailed s = Rose s.faults_before s.faults_after

-- the count of faults is as it was before the call
abbrev pub IsSteady : Seen → Type 0
IsSteady s = s.faults_after ≡ s.faults_before

-- ---- the signer

-- The identifier of the issuing key, and what the signer held and had done, as the call began and
-- as it ended.
pub record SignerSeen (Id : Type 0) : Type 0 where
  pub id : Id
  pub before : SignerState Id
  pub after : SignerState Id

-- what a call was seen to do to a signer, with the identifier of the issuing key
abbrev pub seen_signer : {Id : Type 0} → Id → SignerState Id → SignerState Id → SignerSeen Id
seen_signer id before after = record { id = id; before = before; after = after }
