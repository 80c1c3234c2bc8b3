-- A signer whose signatures have one length, which may be too long: its keys and what it draws are
-- those of a toy signer.
use Rattle.std.specs.Prelude.{◌≡◌, ◌^◌, ℕ, true, false, nat_lt, replicate, if◌then◌else◌, Result, Ok, Err, List, []}
use Rattle.rpki_common.specs.Limits.{most_key}
use Rattle.rpki_base.specs.declared.algorithm.SigningAlgorithm.{SigningAlgorithm}
use Rattle.rpki_base.specs.declared.errors.ToyFault.{ToyFault}
use Rattle.rpki_base.specs.Algorithm.{format_of}
use Rattle.rpki_base.specs.PublicKey.{KeyFields}
use Rattle.rpki_text.specs.Counts.{count_after}
use Rattle.rpki_signer.specs.declared.toy_signer.ToyKey.{ToyKey}
use Rattle.rpki_signer.specs.declared.errors.CallError.{CallError}
use Rattle.rpki_signer.specs.declared.errors.CallError.TheVariants as call
use Rattle.rpki_signer.specs.declared.errors.SigningError.{SigningError}
use Rattle.rpki_signer.specs.Signer.{SignerState}
use Rattle.rpki_signer.specs.ToySigner.{ToyState, toy_signer, state_of, key_of, one_off_key, cannot_sign_once, after_fault, after_choosing, after_signing_once, IsToyFound, RefusesToyKey}

-- what a signer whose signatures have one length holds and has done
pub record LongState : Type 0 where
  -- the signer that has the keys and draws
  pub toy : ToyState
  -- how many octets each signature has
  pub octets : ℕ
  -- how many signatures of more than 2^16 octets it gave
  pub overlong : ℕ

-- a signer of this seed before its first call; no call is listed as one that fails
abbrev pub long_signer : ℕ → ℕ → LongState
long_signer seed octets = record { toy = toy_signer seed []; octets = octets; overlong = 0 }

-- ---- as a signer

-- a toy signer with this count
abbrev pub long_state : LongState → SignerState ℕ
long_state s = record (state_of s.toy) { overlong = s.overlong }

-- ---- its signatures

-- a signature of so many octets, all of them 0
abbrev pub long_signature : ℕ → List ℕ
long_signature octets = replicate octets 0

-- the count after a signature of so many octets
abbrev pub overlong_after : ℕ → ℕ → ℕ
overlong_after octets count = if nat_lt (most_key) octets then count_after count else count

-- the toy signer is this one, and a signature was given
abbrev pub after_giving : ToyState → LongState → LongState
after_giving toy s = record s { toy = toy; overlong = overlong_after s.octets s.overlong }

-- the toy signer is this one, and nothing else changed
abbrev pub with_toy : ToyState → LongState → LongState
with_toy toy s = record s { toy = toy }

-- `sign`: the zeros, where the toy signer has a key with that number and the kind's format
abbrev pub IsLongSigned : SigningAlgorithm → ℕ → LongState → LongState
    → Result (List ℕ) (SigningError ToyFault) → Type 0
IsLongSigned kind number before after (Ok octets) = (key : ToyKey)
    × IsToyFound number (format_of kind) before.toy after.toy key
    × (octets ≡ long_signature before.octets)
    × (after ≡ after_giving after.toy before)
IsLongSigned kind number before after (Err error) =
    RefusesToyKey number (format_of kind) before.toy after.toy error
    × (after ≡ with_toy after.toy before)

-- `sign_one_off`: the zeros, and the toy signer's key for this one use
abbrev pub IsLongSignedOnce : SigningAlgorithm → LongState → LongState
    → Result (List ℕ × KeyFields) (CallError ToyFault) → Type 0
IsLongSignedOnce kind before after (Ok (octets, key)) =
    (cannot_sign_once (format_of kind) before.toy ≡ false)
    × (key ≡ key_of before.toy.seed
    (one_off_key (format_of kind) before.toy.reuse before.toy.next))
    × (octets ≡ long_signature before.octets)
    × (after ≡ after_giving (after_signing_once (format_of kind) before.toy) before)
IsLongSignedOnce kind before after (Err (call.Signer fault)) =
    (cannot_sign_once (format_of kind) before.toy ≡ true)
    × (after ≡ with_toy (after_fault before.toy) before)
IsLongSignedOnce kind before after (Err call.OutOfMemory) =
    (cannot_sign_once (format_of kind) before.toy ≡ false)
    × (after ≡ with_toy (after_choosing (format_of kind) before.toy) before)
