-- What `make` makes of two numbers, and what it says of it.
use Rattle.std.specs.Prelude.{◌≡◌, ◌≢◌, ◌⊎◌, ◌++◌, ◌∷◌, [], ◌%◌, ◌==◌, ℕ, ℤ, pos, Bool, true, false, if◌then◌else◌, List, length, map, count_by, codes, Some, Result, Ok, Err}
use Rattle.std.specs.Fmt.{decimal}
use Rattle.std.specs.Int.{to_be_bytes, w64}
use Rattle.std.specs.List.{range_with_len}
use Rattle.std.specs.Io.KnownBytes.{Appends}
use Rattle.hex.specs.Hex.{encode_lower}
use Rattle.sha2.specs.Sha256.{sha256}
use Rattle.rpki_base.specs.declared.algorithm.SigningAlgorithm.TheVariants.{RsaSha256}
use Rattle.rpki_base.specs.Algorithm.{format_of}
use Rattle.rpki_base.specs.PublicKey.{KeyFields}
use Rattle.rpki_base.specs.Scheme.{Relation}
use Rattle.rpki_common.specs.Causes.{Rose}
use Rattle.rpki_signer.specs.Signer.{SignerState, HoldsKey, Stays}
use Rattle.rpki_sigmsg.specs.Making.{IsMessageCreated}
use Rattle.rpki_sigmsg.specs.Message.{MessageFields}
use Rattle.rpki_publication.specs.declared.message.Message.TheVariants as messages
use Rattle.rpki_publication.specs.declared.query.Query.TheVariants as queries
use Rattle.rpki_publication.specs.Publish.{PublishFields, UpdateFields, WithdrawFields}
use Rattle.rpki_publication.specs.declared.publish_delta_element.PublishDeltaElement.{PublishDeltaElement}
use Rattle.rpki_publication.specs.declared.publish_delta_element.PublishDeltaElement.TheVariants as change
use Rattle.rpki_ca.specs.declared.make_line.Action.{Action}
use Rattle.rpki_ca.specs.declared.make_line.Action.TheVariants as actions
use Rattle.rpki_ca.specs.declared.receiving.Kind.TheVariants as kinds
use Rattle.rpki_ca.specs.declared.receiving.Received.{Received}
use Rattle.rpki_ca.specs.declared.receiving.Received.TheVariants as received
use Rattle.rpki_ca.specs.declared.refusals.Refusal.{Refusal}
use Rattle.rpki_ca.specs.declared.refusals.Refusal.TheVariants as refusals
use Rattle.rpki_ca.specs.Acceptance.{accepted_text}
use Rattle.rpki_ca.specs.Creation.{IsReceivable, IsSigningAnswer, IsFirstToRefuse}
use Rattle.rpki_ca.specs.Seen.{Seen, SignerSeen}

-- ---- the message

-- the moment at which it is made, and at which it is received
abbrev pub made_at : ℤ
made_at = pos 1700000000

-- the octets of the object at a place: the seed and the place, each as eight octets, the most
-- significant first
abbrev pub object_at : ℕ → ℕ → List ℕ
object_at seed place = to_be_bytes w64 seed ++ to_be_bytes w64 place

-- where the object at a place is published
abbrev pub uri_at : ℕ → List ℕ
uri_at place = codes "rsync://localhost/ca/f" ++ decimal place ++ codes ".txt"

-- the digest of the object at a place, as a tag
abbrev pub change_tag_at : ℕ → ℕ → List ℕ
change_tag_at seed place = encode_lower (sha256 (object_at seed place))

-- the object is published
abbrev pub publish_at : ℕ → ℕ → PublishFields
publish_at seed place = record {
  tag = Some (change_tag_at seed place);
  uri = uri_at place;
  content = object_at seed place;
}

-- the object at a place is published in the place of one whose octets were these and a 0
abbrev pub update_at : ℕ → ℕ → UpdateFields
update_at seed place = record {
  tag = Some (change_tag_at seed place);
  uri = uri_at place;
  content = object_at seed place;
  hash = sha256 (object_at seed place ++ 0 ∷ []);
}

-- the object at a place is withdrawn
abbrev pub withdraw_at : ℕ → ℕ → WithdrawFields
withdraw_at seed place = record {
  tag = Some (change_tag_at seed place);
  uri = uri_at place;
  hash = sha256 (object_at seed place);
}

-- the change at a place: these three in turn
abbrev pub change_at : ℕ → ℕ → PublishDeltaElement
change_at seed place =
    if place % 3 == 0 then change.Publish (publish_at seed place)
    else if place % 3 == 1 then change.Update (update_at seed place)
    else change.Withdraw (withdraw_at seed place)

-- the changes at the places from 0 on, as many as `count` says
abbrev pub changes : ℕ → ℕ → List PublishDeltaElement
changes seed count = map (change_at seed) (range_with_len 0 count)

-- the query with these
abbrev pub made_message : ℕ → ℕ → Received
made_message seed count =
    received.Publication (messages.Query (queries.Delta (changes seed count)))

-- the changes of a query; none of another message
abbrev pub changes_in : Received → List PublishDeltaElement
changes_in (received.Publication (messages.Query (queries.Delta elements))) = elements
changes_in (received.Publication (messages.Query queries.List)) = []
changes_in (received.Publication (messages.Reply reply)) = []
changes_in (received.Provisioning m) = []

-- ---- the summary

-- whether the change does this
abbrev pub does : Action → PublishDeltaElement → Bool
does actions.Publish (change.Publish p) = true
does actions.Update (change.Update u) = true
does actions.Withdraw (change.Withdraw w) = true
does action other = false

-- how many changes there are, and how many publish, update and withdraw
abbrev pub numbers : List PublishDeltaElement → List ℕ
numbers elements =
    codes "elements " ++ decimal (length elements)
    ++ codes " publish " ++ decimal (count_by (does actions.Publish) elements)
    ++ codes " update " ++ decimal (count_by (does actions.Update) elements)
    ++ codes " withdraw " ++ decimal (count_by (does actions.Withdraw) elements)

-- how many changes there are, and the digest of the signed message's octets
abbrev pub summary : List PublishDeltaElement → List ℕ → List ℕ
summary elements octets =
    numbers elements ++ codes " envelope " ++ encode_lower (sha256 octets)

-- ---- the command

-- The signer holds an issuing key that fits, which it did not give for one use, and the text is the
-- summary of the message and of octets of which it is received, under every list of keys that holds
-- the issuing key, at each second from 300 before the moment to 300 after it.
pub record IsSummed {Id : Type 0} (scheme : Relation) (count seed : ℕ) (signer : SignerSeen Id)
    (text : List ℕ) : Type 0 where
  pub issuing : KeyFields
  pub holds : HoldsKey signer.before.keyring signer.id issuing
  pub format : issuing.format ≡ format_of RsaSha256
  pub other : signer.after.drawn ≢ Some issuing
  pub octets : List ℕ
  pub receivable : IsReceivable scheme kinds.Publication octets (made_message seed count) made_at
      signer
  pub written : text ≡ summary (changes seed count) octets

-- behind the signed message that was created with this text, the signer failed to give the issuing
-- key once more, under which the message is to be received
pub record FailsToGiveKey {Id : Type 0} (scheme : Relation) (text : List ℕ) (when : ℤ)
    (signer : SignerSeen Id) (refusal : Refusal) : Type 0 where
  pub between : SignerState Id
  pub signed : MessageFields
  pub created : IsMessageCreated scheme text when signer.id signer.before between signed
  pub stays : Stays between signer.after
  pub is : refusal ≡ refusals.Signer
  pub told : Rose between.faults signer.after.faults

-- the signer's first refusal: where the message is created, or behind that
abbrev pub IsFirstOfMake : {Id : Type 0} → Relation → List ℕ → SignerSeen Id → Refusal → Type 0
IsFirstOfMake scheme text signer refusal =
    IsFirstToRefuse scheme text made_at signer refusal
    ⊎ FailsToGiveKey scheme text made_at signer refusal

-- `make`: the summary, or why the signer gave nothing
abbrev pub IsMakeAnswer : {Id : Type 0} → Relation → ℕ → ℕ → SignerSeen Id
    → Result (List ℕ) Refusal → Type 0
IsMakeAnswer scheme count seed signer (Ok text) = IsSummed scheme count seed signer text
IsMakeAnswer scheme count seed signer (Err refusal) =
    IsSigningAnswer scheme kinds.Publication (made_message seed count) made_at signer (Err refusal)
    × IsFirstOfMake scheme (accepted_text (made_message seed count)) signer refusal

-- ---- at the end of a call

-- the summary of the message with so many elements was written
pub record Makes {Id : Type 0} (scheme : Relation) (count seed : ℕ) (signer : SignerSeen Id)
    (sink : Seen) : Type 0 where
  pub text : List ℕ
  pub summed : IsSummed scheme count seed signer text
  pub written : Appends sink.before sink.after (text ++ 10 ∷ [])
