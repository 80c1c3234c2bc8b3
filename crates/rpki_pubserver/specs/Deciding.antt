-- What is decided of a query by what is known of objects, without the store (RFC 8181, 2.2 to 2.5).
use Rattle.std.specs.Prelude.{◌≡◌, ℕ, Bool, true, false, IsSome, Option, None, Some, Ok, List, [], ◌∷◌, ⊤}
use Rattle.std.specs.List.{AllByRecursion}
use Rattle.std.specs.Map.{lookup}
use Rattle.std.specs.Str.{bytes_eq}
use Rattle.rpki_publication.specs.ListElement.{ListElementFields}
use Rattle.rpki_publication.specs.declared.message.Message.{Message}
use Rattle.rpki_publication.specs.declared.message.Message.TheVariants as messages
use Rattle.rpki_publication.specs.declared.publish_delta_element.PublishDeltaElement.{PublishDeltaElement}
use Rattle.rpki_publication.specs.declared.query.Query.TheVariants as queries
use Rattle.rpki_ca.specs.declared.receiving.Received.TheVariants as received
use Rattle.rpki_pubserver.specs.declared.deciding.Decision.{Decision}
use Rattle.rpki_pubserver.specs.Changes.{all_made, uri_of}
use Rattle.rpki_pubserver.specs.Replies.{Reply, reply_to}
use Rattle.rpki_pubserver.specs.Store.{Store, digest_at, listed_store}

-- pairs of the text of a URI and the SHA-256 of the object there, or that there is none
abbrev pub Knowledge : Type 0
Knowledge = List (List ℕ × Option (List ℕ))

-- the objects of which it is known that they are there
abbrev pub known_objects : Knowledge → List ListElementFields
known_objects [] = []
known_objects ((uri, None) ∷ more) = known_objects more
known_objects ((uri, Some digest) ∷ more) =
    record { uri = uri; hash = digest } ∷ known_objects more

-- the changes that a message asks for
abbrev pub changes_of : Message → List PublishDeltaElement
changes_of (messages.Query (queries.Delta elements)) = elements
changes_of other = []

-- ---- what is known is so

-- the first that is known of a URI is what is so of the store
abbrev pub AgreesAt : Store → Knowledge → List ℕ → Type 0
AgreesAt store known uri = lookup (bytes_eq uri) known ≡ Some (digest_at store uri)

-- so it is at the URI of each change
abbrev pub AgreesOn : Store → Knowledge → List PublishDeltaElement → Type 0
AgreesOn store known elements = AllByRecursion (λ e. AgreesAt store known (uri_of e)) elements

-- What is known is so of the store: for changes at each URI that they name, and for the list of all
-- objects just these objects are known.
abbrev pub Agrees : Store → Knowledge → Message → Type 0
Agrees store known (messages.Query queries.List) = known_objects known ≡ listed_store store
Agrees store known (messages.Query (queries.Delta elements)) = AgreesOn store known elements
Agrees store known (messages.Reply reply) = ⊤

-- something is known of a URI
abbrev pub IsKnown : Knowledge → List ℕ → Type 0
IsKnown known uri = IsSome (lookup (bytes_eq uri) known)

-- something is known of each URI that changes name
abbrev pub AreKnown : Knowledge → List PublishDeltaElement → Type 0
AreKnown known elements = AllByRecursion (λ e. IsKnown known (uri_of e)) elements

-- ---- the decision

-- the store behind changes, which are made or not
abbrev pub store_behind : Store → List PublishDeltaElement → Bool → Store
store_behind store elements true = all_made store elements
store_behind store elements false = store

-- The decision is this reply, and the store where the changes are made, if they are to be made, is
-- the one behind it.
pub record IsDecision (reply : Reply) (store : Store) (elements : List PublishDeltaElement)
    (decision : Decision) : Type 0 where
  pub reply_is : decision.reply ≡ reply.message
  pub behind : reply.next ≡ store_behind store elements decision.made

-- it is that of the server with this base and store
abbrev pub IsDecided : List ℕ → Store → Message → Decision → Type 0
IsDecided base store message decision =
    IsDecision (reply_to base store (Ok (received.Publication message))) store (changes_of message)
    decision
