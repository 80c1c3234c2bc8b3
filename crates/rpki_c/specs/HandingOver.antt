-- How a call hands its answer over: the buffer and the outcome afterwards.
use Rattle.std.specs.Prelude.{◌≡◌, ◌≢◌, ◌≤◌, ◌<◌, ◌⊎◌, ℕ, ℤ, pos, Option, None, Some, Result, Ok, Err, List, ◌++◌, codes, drop, length, replicate, take, ◌-◌}
use Rattle.rpki_ca.specs.Acceptance.{accepted_text}
use Rattle.rpki_ca.specs.declared.refusals.Refusal.TheVariants as refusals
use Rattle.rpki_external.specs.KeysRefusal.{keys_name_of, keys_status_of}
use Rattle.rpki_external.specs.Running.{Written}
use Rattle.rpki_external.specs.declared.keys_refusal.KeysRefusal.{KeysRefusal}
use Rattle.rpki_external.specs.declared.keys_refusal.KeysRefusal.TheVariants as keys
use Rattle.rpki_external.specs.declared.receiving.Receipt.{Receipt}
use Rattle.rpki_c.specs.declared.outcome.CallRefusal.{CallRefusal}
use Rattle.rpki_c.specs.declared.outcome.CallRefusal.TheVariants as calls
use Rattle.rpki_c.specs.declared.outcome.Outcome.{Outcome}

-- the octets of a result, or why there is none
abbrev pub Decided : Type 0
Decided = Result (List ℕ) CallRefusal

-- the refusal for want of memory
abbrev pub out_of_memory : KeysRefusal
out_of_memory = keys.General refusals.OutOfMemory

-- ---- the buffer

-- a text over the front of other octets, the rest of which stays
abbrev pub over : List ℕ → List ℕ → List ℕ
over text octets = text ++ drop (length text) octets

-- ---- outcomes

-- a name, and zeros behind it up to 64 octets
abbrev pub padded : List ℕ → List ℕ
padded name = over name (replicate 64 0)

-- a line without its last octet
abbrev pub without_end : List ℕ → List ℕ
without_end line = take (length line - 1) line

-- a status and its name, and nothing else
abbrev pub bare : ℕ → List ℕ → Outcome
bare status name = record {
  status = pos status;
  check = pos 0;
  written = 0;
  place = 0;
  has_signing_time = pos 0;
  signing_time = pos 0;
  last_time = pos 0;
  name = padded name;
}

-- there is a result of so many octets
abbrev pub done : ℕ → Outcome
done count = record (bare 0 (codes "Ok")) { written = count }

-- with a moment, if there is one
abbrev pub signed_at : Option ℤ → Outcome → Outcome
signed_at None o = o
signed_at (Some seconds) o = record o { has_signing_time = pos 1; signing_time = seconds }

-- there is a receipt, whose text has so many octets
abbrev pub received : ℕ → Receipt → Outcome
received count r = signed_at r.signing_time (record (done count) { place = r.place })

-- there is a result of so many octets, for which there is no room
abbrev pub lacking : ℕ → Outcome
lacking count = record (bare 16 (codes "NoRoom")) { written = count }

-- with the number of a check
abbrev pub with_check : ℕ → Outcome → Outcome
with_check n o = record o { check = pos n }

-- with the last time that was handed in, and that of the message, which isn't later
abbrev pub with_times : ℤ → ℤ → Outcome → Outcome
with_times last seen o = signed_at (Some seen) (record o { last_time = last })

-- a refusal: its status and name; of Validation the check, and of Replayed both times
abbrev pub refused : KeysRefusal → Outcome
refused (keys.General (refusals.Validation n)) =
    with_check n (bare 6 (keys_name_of (keys.General (refusals.Validation n))))
refused (keys.Replayed last seen) =
    with_times last seen (bare 15 (keys_name_of (keys.Replayed last seen)))
refused refusal = bare (keys_status_of refusal) (keys_name_of refusal)

-- a refusal of a call: as the programs have it; or that nothing is known of an object
abbrev pub refused_call : CallRefusal → Outcome
refused_call (calls.General refusal) = refused refusal
refused_call calls.UnknownObject = bare 17 (codes "UnknownObject")

-- ---- handing over

-- the text stands at the front of the buffer, whose rest is as it was, and this is told
pub record IsGiven (text : List ℕ) (told : Outcome) (old new : List ℕ) (outcome : Outcome) : Type 0
  where
    pub fits : length text ≤ length old
    pub octets : new ≡ over text old
    pub tells : outcome ≡ told

-- the text is longer than the buffer, which is as it was, and its length is told
pub record LacksRoom (text old new : List ℕ) (outcome : Outcome) : Type 0 where
  pub longer : length old < length text
  pub octets : new ≡ old
  pub tells : outcome ≡ lacking (length text)

-- the buffer is as it was, and the refusal is told
pub record IsRefused (refusal : KeysRefusal) (old new : List ℕ) (outcome : Outcome) : Type 0 where
  pub octets : new ≡ old
  pub tells : outcome ≡ refused refusal

-- the same of the refusal of a call
pub record IsCallRefused (refusal : CallRefusal) (old new : List ℕ) (outcome : Outcome) : Type 0
  where
    pub octets : new ≡ old
    pub tells : outcome ≡ refused_call refusal

-- an answer is handed over
abbrev pub IsHandedOver : Written → List ℕ → List ℕ → Outcome → Type 0
IsHandedOver (Ok text) old new outcome =
    IsGiven text (done (length text)) old new outcome ⊎ LacksRoom text old new outcome
IsHandedOver (Err refusal) old new outcome = IsRefused refusal old new outcome

-- a receipt is handed over: the text of its message; or why there is none
abbrev pub IsReceiptHandedOver : Result Receipt KeysRefusal → List ℕ → List ℕ → Outcome → Type 0
IsReceiptHandedOver (Ok r) old new outcome =
    let text = accepted_text r.message in
    IsGiven text (received (length text) r) old new outcome ⊎ LacksRoom text old new outcome
IsReceiptHandedOver (Err refusal) old new outcome = IsRefused refusal old new outcome

-- an answer is handed over, or why there is none
abbrev pub IsDecisionHandedOver : Decided → List ℕ → List ℕ → Outcome → Type 0
IsDecisionHandedOver (Ok text) old new outcome =
    IsGiven text (done (length text)) old new outcome ⊎ LacksRoom text old new outcome
IsDecisionHandedOver (Err refusal) old new outcome = IsCallRefused refusal old new outcome

-- an answer of which this is so is handed over; of want of memory nothing is said
pub record HandsOver (is : Written → Type 0) (old new : List ℕ) (outcome : Outcome) : Type 0 where
  pub answer : Written
  pub is_so : answer ≢ Err out_of_memory → is answer
  pub handed : IsHandedOver answer old new outcome

-- the same of a receipt
pub record HandsReceiptOver (is : Result Receipt KeysRefusal → Type 0) (old new : List ℕ)
    (outcome : Outcome) : Type 0 where
  pub answer : Result Receipt KeysRefusal
  pub is_so : answer ≢ Err out_of_memory → is answer
  pub handed : IsReceiptHandedOver answer old new outcome

-- the same where the refusal can be that nothing is known of an object
pub record HandsDecisionOver (is : Decided → Type 0) (old new : List ℕ) (outcome : Outcome) : Type 0
  where
    pub answer : Decided
    pub is_so : answer ≢ Err (calls.General out_of_memory) → is answer
    pub handed : IsDecisionHandedOver answer old new outcome
