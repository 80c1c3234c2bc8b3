-- A signer of the toy scheme, as clauses see it: all that it makes follows from a seed and from
-- numbers that it draws in turn.
use Rattle.std.specs.Prelude.{◌≡◌, ◌≢◌, ◌<◌, ◌+◌, ◌-◌, ◌^◌, ◌==◌, ◌||◌, ℕ, zero, suc, Bool, true, false, if◌then◌else◌, Option, None, Some, Result, Ok, Err, List, [], ◌∷◌, ◌++◌, length, take, map}
use Rattle.std.specs.List.{list_any, AllByRecursion}
use Rattle.std.specs.Int.{to_be_bytes, w64}
use Rattle.std.specs.Option.{option_map}
use Rattle.sha2.specs.Sha256.{sha256}
use Rattle.rpki_base.specs.declared.algorithm.PublicKeyFormat.{PublicKeyFormat}
use Rattle.rpki_base.specs.declared.algorithm.PublicKeyFormat.TheVariants.{Rsa, EcdsaP256}
use Rattle.rpki_base.specs.declared.algorithm.SigningAlgorithm.{SigningAlgorithm}
use Rattle.rpki_base.specs.Algorithm.{format_of}
use Rattle.rpki_base.specs.PublicKey.{KeyFields}
use Rattle.rpki_base.specs.Signature.{SignatureParts}
use Rattle.rpki_text.specs.Counts.{count_after}
use Rattle.rpki_signer.specs.declared.toy_signer.ToyKey.{ToyKey}
use Rattle.rpki_base.specs.declared.errors.ToyFault.{ToyFault}
use Rattle.rpki_signer.specs.declared.errors.CallError.{CallError}
use Rattle.rpki_signer.specs.declared.errors.CallError.TheVariants as call
use Rattle.rpki_signer.specs.declared.errors.KeyError.{KeyError}
use Rattle.rpki_signer.specs.declared.errors.KeyError.TheVariants as keys
use Rattle.rpki_signer.specs.declared.errors.SigningError.{SigningError}
use Rattle.rpki_signer.specs.declared.errors.SigningError.TheVariants as signing
use Rattle.rpki_signer.specs.Signer.{HeldKey, SignerState, AreDistinct}
use Rattle.rpki_signer.specs.Toy.{toy_key, toy_signature}

-- what a toy signer holds and has done
pub record ToyState : Type 0 where
  pub seed : ℕ
  -- the number that is drawn next
  pub next : ℕ
  -- how many calls there were, the numbers of those that fail, counted from 0, and how many failed
  pub calls : ℕ
  pub failing : List ℕ
  pub faults : ℕ
  -- the keys that it holds
  pub keys : List ToyKey
  -- the number of the key that RSA signatures for one use are made with, if one was set, and how
  -- often it was used
  pub reuse : Option ℕ
  pub reused : ℕ
  -- the key that was given last for one use
  pub drawn : Option ToyKey
  -- the octets that were drawn last
  pub random : List ℕ

-- a signer of this seed before its first call
abbrev pub toy_signer : ℕ → List ℕ → ToyState
toy_signer seed failing = record {
  seed = seed;
  next = 0;
  calls = 0;
  failing = failing;
  faults = 0;
  keys = [];
  reuse = None;
  reused = 0;
  drawn = None;
  random = [];
}

-- ---- as a signer

-- the key with a number, in its format
abbrev pub key_of : ℕ → ToyKey → KeyFields
key_of seed key = record { format = key.format; bits = (toy_key seed key.number).bits }

-- a key as the signer holds it: its number is the identifier
abbrev pub held_key : ℕ → ToyKey → HeldKey ℕ
held_key seed key = record { id = key.number; key = key_of seed key }

-- the keys as the keyring of a signer, in their order
abbrev pub keyring_of : ℕ → List ToyKey → List (HeldKey ℕ)
keyring_of seed keys = map (held_key seed) keys

-- a toy signer as a signer: its identifiers are numbers, and it gives nothing that is too long
abbrev pub state_of : ToyState → SignerState ℕ
state_of s = record {
  keyring = keyring_of s.seed s.keys;
  faults = s.faults;
  overlong = 0;
  reused = s.reused;
  drawn = option_map (key_of s.seed) s.drawn;
  random = s.random;
}

-- no two of its keys have one number, and all numbers were drawn before
pub record IsSoundToy (seed next : ℕ) (keys : List ToyKey) : Type 0 where
  pub distinct : AreDistinct (keyring_of seed keys)
  pub below : AllByRecursion (λ k. k.number < next) keys

-- a toy signer's counts and its next number are numbers of 64 bits
pub record AreCounts (s : ToyState) : Type 0 where
  pub next : s.next < 2 ^ 64
  pub faults : s.faults < 2 ^ 64
  pub reused : s.reused < 2 ^ 64

-- ---- its calls

-- the call that comes is one of those that fail
abbrev pub is_listed : ToyState → Bool
is_listed s = list_any (λ n. n == s.calls) s.failing

-- a call that draws a number fails besides where the numbers are at their end
abbrev pub cannot_draw : ToyState → Bool
cannot_draw s = is_listed s || (s.next == 2 ^ 64 - 1)

-- a call was made: the count of calls rises, up to 2^64 - 1
abbrev pub counted : ToyState → ToyState
counted s = record s { calls = count_after s.calls }

-- a call failed: the counts of calls and of faults rise, each up to 2^64 - 1
abbrev pub after_fault : ToyState → ToyState
after_fault s = record s { calls = count_after s.calls; faults = count_after s.faults }

-- a call drew a number: the call is counted, and the next number is one more
abbrev pub after_drawing : ToyState → ToyState
after_drawing s = record s { calls = count_after s.calls; next = s.next + 1 }

-- a call created a key of this format: the call is counted, and the key gets the next number and
-- goes last
abbrev pub after_creating : PublicKeyFormat → ToyState → ToyState
after_creating format s = record s {
  calls = count_after s.calls;
  next = s.next + 1;
  keys = s.keys ++ record { number = s.next; format = format } ∷ [];
}

-- the key with this number, if it holds one
abbrev pub key_numbered : List ToyKey → ℕ → Option ToyKey
key_numbered [] number = None
key_numbered (k ∷ more) number = if k.number == number then Some k else key_numbered more number

-- the key with this number is gone
pub record IsTakenOut (number : ℕ) (before after : List ToyKey) : Type 0 where
  pub format : PublicKeyFormat
  pub front : List ToyKey
  pub back : List ToyKey
  pub was : before ≡ front ++ record { number = number; format = format } ∷ back
  pub is : after ≡ front ++ back

-- the key that a signature for one use is made with: the one that was set, for RSA signatures, and
-- else one with the next number
abbrev pub one_off_key : PublicKeyFormat → Option ℕ → ℕ → ToyKey
one_off_key Rsa (Some number) next = record { number = number; format = Rsa }
one_off_key Rsa None next = record { number = next; format = Rsa }
one_off_key EcdsaP256 o next = record { number = next; format = EcdsaP256 }

-- whether it is the one that was set
abbrev pub is_set : PublicKeyFormat → Option ℕ → Bool
is_set Rsa (Some number) = true
is_set Rsa None = false
is_set EcdsaP256 o = false

-- a call that signs once fails as one that draws, unless it draws nothing
abbrev pub cannot_sign_once : PublicKeyFormat → ToyState → Bool
cannot_sign_once format s = if is_set format s.reuse then is_listed s else cannot_draw s

-- the key was chosen
abbrev pub after_choosing : PublicKeyFormat → ToyState → ToyState
after_choosing format s = if is_set format s.reuse
    then record s { calls = count_after s.calls; reused = count_after s.reused }
    else after_drawing s

-- the key was chosen and given
abbrev pub after_signing_once : PublicKeyFormat → ToyState → ToyState
after_signing_once format s =
    record (after_choosing format s) { drawn = Some (one_off_key format s.reuse s.next) }

-- ---- what it draws

-- the SHA-256 of seed, number and the number of the block, eight octets each, the most significant
-- first
abbrev pub random_block : ℕ → ℕ → ℕ → List ℕ
random_block seed number block =
    sha256 ((to_be_bytes w64 seed ++ to_be_bytes w64 number) ++ to_be_bytes w64 block)

-- this many blocks from this one on, joined
abbrev pub random_blocks : ℕ → ℕ → ℕ → ℕ → List ℕ
random_blocks seed number block zero = []
random_blocks seed number block (suc more) =
    random_block seed number block ++ random_blocks seed number (block + 1) more

-- this many octets of the blocks from this one on, of which as many are enough
abbrev pub octets_from : ℕ → ℕ → ℕ → ℕ → List ℕ
octets_from seed number block count = take count (random_blocks seed number block count)

-- this many octets of the blocks of a number, from its first block on
abbrev pub random_octets : ℕ → ℕ → ℕ → List ℕ
random_octets seed number count = octets_from seed number 0 count

-- what the last drawing gave, by its number and how many octets it gave
abbrev pub octets_drawn : ℕ → Option (ℕ × ℕ) → List ℕ
octets_drawn seed None = []
octets_drawn seed (Some (number, count)) = random_octets seed number count

-- ---- its answers

-- from now on the key with this number is used once more for each RSA signature for one use
abbrev pub after_setting : ℕ → ToyState → ToyState
after_setting number s = record s { reuse = Some number }

-- `create_key`: the next number
abbrev pub IsToyCreated : PublicKeyFormat → ToyState → ToyState → Result ℕ (CallError ToyFault)
    → Type 0
IsToyCreated format before after (Ok id) =
    (cannot_draw before ≡ false) × (id ≡ before.next) × (after ≡ after_creating format before)
IsToyCreated format before after (Err (call.Signer fault)) =
    (cannot_draw before ≡ true) × (after ≡ after_fault before)
IsToyCreated format before after (Err call.OutOfMemory) =
    (cannot_draw before ≡ false) × (after ≡ after_drawing before)

-- `get_key_info`: the key with that number
abbrev pub IsToyKey : ℕ → ToyState → ToyState → Result KeyFields (KeyError ToyFault) → Type 0
IsToyKey number before after (Ok key) = (is_listed before ≡ false)
    × (option_map (key_of before.seed) (key_numbered before.keys number) ≡ Some key)
    × (after ≡ counted before)
IsToyKey number before after (Err keys.KeyNotFound) = (is_listed before ≡ false)
    × (key_numbered before.keys number ≡ None) × (after ≡ counted before)
IsToyKey number before after (Err (keys.Signer fault)) =
    (is_listed before ≡ true) × (after ≡ after_fault before)
IsToyKey number before after (Err keys.OutOfMemory) =
    (is_listed before ≡ false) × (after ≡ counted before)

-- `destroy_key`: it is gone
pub record IsToyGone (number : ℕ) (before after : ToyState) : Type 0 where
  pub listed : is_listed before ≡ false
  pub out : IsTakenOut number before.keys after.keys
  pub is : after ≡ record (counted before) { keys = after.keys }

-- `destroy_key`: the key is gone; KeyNotFound where none has the number; Signer where the call is
-- listed as one that fails; OutOfMemory doesn't come
abbrev pub IsToyDestroyed : ℕ → ToyState → ToyState → Result (Unit {0}) (KeyError ToyFault)
    → Type 0
IsToyDestroyed number before after (Ok u) = IsToyGone number before after
IsToyDestroyed number before after (Err keys.KeyNotFound) = (is_listed before ≡ false)
    × (key_numbered before.keys number ≡ None) × (after ≡ counted before)
IsToyDestroyed number before after (Err (keys.Signer fault)) =
    (is_listed before ≡ true) × (after ≡ after_fault before)
IsToyDestroyed number before after (Err keys.OutOfMemory) = ⊥

-- the key with this number, which has this format, was looked up
pub record IsToyFound (number : ℕ) (format : PublicKeyFormat) (before after : ToyState)
    (key : ToyKey) : Type 0 where
  pub listed : is_listed before ≡ false
  pub found : key_numbered before.keys number ≡ Some key
  pub fits : key.format ≡ format
  pub is : after ≡ counted before

-- the key has another format than the one that is asked for
pub record IsToyUnfit (number : ℕ) (format : PublicKeyFormat) (before after : ToyState) : Type 0
  where
    pub key : ToyKey
    pub listed : is_listed before ≡ false
    pub found : key_numbered before.keys number ≡ Some key
    pub unfit : key.format ≢ format
    pub is : after ≡ counted before

-- why a signature under the key with this number isn't given: the call is listed as one that fails,
-- there is no such key, it has another format, or memory ran out once it was found
abbrev pub RefusesToyKey : ℕ → PublicKeyFormat → ToyState → ToyState → SigningError ToyFault
    → Type 0
RefusesToyKey number format before after signing.KeyNotFound = (is_listed before ≡ false)
    × (key_numbered before.keys number ≡ None) × (after ≡ counted before)
RefusesToyKey number format before after signing.IncompatibleKey =
    IsToyUnfit number format before after
RefusesToyKey number format before after (signing.Signer fault) =
    (is_listed before ≡ true) × (after ≡ after_fault before)
RefusesToyKey number format before after signing.OutOfMemory = (key : ToyKey)
    × IsToyFound number format before after key

-- `sign`: the toy signature under the key with that number, which has the format of the kind
abbrev pub IsToySigned : SigningAlgorithm → ℕ → List ℕ → ToyState → ToyState
    → Result (List ℕ) (SigningError ToyFault) → Type 0
IsToySigned kind number message before after (Ok octets) = (key : ToyKey)
    × IsToyFound number (format_of kind) before after key
    × (octets ≡ toy_signature (key_of before.seed key) message)
IsToySigned kind number message before after (Err error) =
    RefusesToyKey number (format_of kind) before after error

-- the key for one use, before it is given
abbrev pub IsToyChosen : PublicKeyFormat → ToyState → ToyState
    → Result (ToyKey × KeyFields) (CallError ToyFault) → Type 0
IsToyChosen format before after (Ok (chosen, key)) = (cannot_sign_once format before ≡ false)
    × (chosen ≡ one_off_key format before.reuse before.next)
    × (key ≡ key_of before.seed chosen)
    × (after ≡ after_choosing format before)
IsToyChosen format before after (Err (call.Signer fault)) =
    (cannot_sign_once format before ≡ true) × (after ≡ after_fault before)
IsToyChosen format before after (Err call.OutOfMemory) =
    (cannot_sign_once format before ≡ false) × (after ≡ after_choosing format before)

-- `sign_one_off`: the toy signature under the key for this one use
abbrev pub IsToySignedOnce : SigningAlgorithm → List ℕ → ToyState → ToyState
    → Result (List ℕ × KeyFields) (CallError ToyFault) → Type 0
IsToySignedOnce kind message before after (Ok (octets, key)) =
    (cannot_sign_once (format_of kind) before ≡ false)
    × (key ≡ key_of before.seed (one_off_key (format_of kind) before.reuse before.next))
    × (octets ≡ toy_signature key message)
    × (after ≡ after_signing_once (format_of kind) before)
IsToySignedOnce kind message before after (Err (call.Signer fault)) =
    (cannot_sign_once (format_of kind) before ≡ true) × (after ≡ after_fault before)
IsToySignedOnce kind message before after (Err call.OutOfMemory) =
    (cannot_sign_once (format_of kind) before ≡ false)
    × (after ≡ after_choosing (format_of kind) before)

-- `rand`: the octets of the next number
abbrev pub IsToyRandom : ToyState → ToyState → List ℕ → List ℕ
    → Result (Unit {0}) (CallError ToyFault) → Type 0
IsToyRandom before after was octets (Ok u) = (cannot_draw before ≡ false)
    × (octets ≡ random_octets before.seed before.next (length was))
    × (after ≡ record (after_drawing before) { random = octets })
IsToyRandom before after was octets (Err (call.Signer fault)) =
    (cannot_draw before ≡ true) × (after ≡ after_fault before) × (octets ≡ was)
IsToyRandom before after was octets (Err call.OutOfMemory) = ⊥

-- ---- the octets of what is answered

-- of an answer with a signature, its octets
abbrev pub octets_of_parts : {A E : Type 0} → Result (SignatureParts A) E → Result (List ℕ) E
octets_of_parts (Ok signature) = Ok signature.value
octets_of_parts (Err error) = Err error

-- of an answer with a signature under a key for one use, its octets and that key
abbrev pub once_of : {A K E : Type 0} → Result (SignatureParts A × K) E → Result (List ℕ × K) E
once_of (Ok (signature, key)) = Ok (signature.value, key)
once_of (Err error) = Err error
