-- The commands.
use Rattle.std.specs.Prelude.{◌≡◌, ◌≤◌, ℕ, ℤ, bytes_eq, if◌then◌else◌, Option, None, Some, List, [], ◌∷◌, length, map, codes, slice_get, ⊤}
use Rattle.rpki_common.specs.Chaining.{◌>>=◌}
use Rattle.rpki_common.specs.Limits.{most_elements, most_keys}
use Rattle.rpki_base.specs.PublicKey.{KeyFields}
use Rattle.rpki_ca.specs.declared.receiving.Kind.{Kind}
use Rattle.rpki_ca.specs.declared.receiving.Kind.TheVariants.{Publication, Provisioning}
use Rattle.rpki_ca.specs.declared.command.Verb.{Verb}
use Rattle.rpki_ca.specs.declared.command.Verb.TheVariants as verbs
use Rattle.rpki_ca.specs.declared.command.Command.{Command}
use Rattle.rpki_ca.specs.declared.command.Command.TheVariants.{Content, Receive, Create, Setup, Make}
use Rattle.rpki_ca.specs.declared.setup_message.SetupKind.{SetupKind}
use Rattle.rpki_ca.specs.declared.setup_message.SetupKind.TheVariants as setup
use Rattle.rpki_ca.specs.Words.{SpellsMoment, IsNumber, key_of_word}

-- the word for a kind
abbrev pub kind_word : Kind → List ℕ
kind_word Publication = codes "publication"
kind_word Provisioning = codes "provisioning"

-- the kind that a word is for, if it is for one
abbrev pub kind_of : List ℕ → Option Kind
kind_of word =
    if bytes_eq word (kind_word Publication) then Some Publication
    else if bytes_eq word (kind_word Provisioning) then Some Provisioning
    else None

-- the kind for which the word at the index is
abbrev pub kind_at : List (List ℕ) → ℕ → Option Kind
kind_at words index = slice_get words index >>= kind_of

-- the word for a kind of setup message
abbrev pub setup_kind_word : SetupKind → List ℕ
setup_kind_word setup.ChildRequest = codes "child_request"
setup_kind_word setup.ParentResponse = codes "parent_response"
setup_kind_word setup.PublisherRequest = codes "publisher_request"
setup_kind_word setup.RepositoryResponse = codes "repository_response"

-- the kind of setup message that a word is for, if it is for one
abbrev pub setup_kind_of : List ℕ → Option SetupKind
setup_kind_of word =
    if bytes_eq word (setup_kind_word setup.ChildRequest) then Some setup.ChildRequest
    else if bytes_eq word (setup_kind_word setup.ParentResponse) then Some setup.ParentResponse
    else if bytes_eq word (setup_kind_word setup.PublisherRequest) then Some setup.PublisherRequest
    else if bytes_eq word (setup_kind_word setup.RepositoryResponse)
    then Some setup.RepositoryResponse
    else None

-- the kind of setup message for which the word at the index is
abbrev pub setup_kind_at : List (List ℕ) → ℕ → Option SetupKind
setup_kind_at words index = slice_get words index >>= setup_kind_of

-- each word spells the key at its place
abbrev pub AreKeys : List (List ℕ) → List KeyFields → Type 0
AreKeys words keys = map key_of_word words ≡ map Some keys

-- `receive`, the kind, a moment and one to eight keys
pub record IsReceive (words : List (List ℕ)) (kind : Kind) (when : ℤ) (keys : List KeyFields)
    : Type 0 where
  pub moment_word : List ℕ
  pub key_words : List (List ℕ)
  pub are : words ≡ codes "receive" ∷ kind_word kind ∷ moment_word ∷ key_words
  pub some : 1 ≤ length key_words
  pub few : length key_words ≤ most_keys
  pub moment : SpellsMoment moment_word when
  pub spell : AreKeys key_words keys

-- a verb, the word for what it is about, and a moment
pub record IsDated (verb about : List ℕ) (words : List (List ℕ)) (when : ℤ) : Type 0 where
  pub moment_word : List ℕ
  pub are : words ≡ verb ∷ about ∷ moment_word ∷ []
  pub moment : SpellsMoment moment_word when

-- `create`, the kind and a moment
abbrev pub IsCreate : List (List ℕ) → Kind → ℤ → Type 0
IsCreate words kind when = IsDated (codes "create") (kind_word kind) words when

-- `setup`, which message, and a moment
abbrev pub IsSetup : List (List ℕ) → SetupKind → ℤ → Type 0
IsSetup words kind when = IsDated (codes "setup") (setup_kind_word kind) words when

-- `make`, how many elements, and a seed
pub record IsMake (words : List (List ℕ)) (count seed : ℕ) : Type 0 where
  pub count_word : List ℕ
  pub seed_word : List ℕ
  pub are : words ≡ codes "make" ∷ count_word ∷ seed_word ∷ []
  pub counts : IsNumber count_word most_elements count
  pub seeds : IsNumber seed_word 4294967295 seed

-- ---- all of them

-- The first word says what is to be done. Each has one word, and a word says one of them or none.
abbrev pub verb_word : Verb → List ℕ
verb_word verbs.Content = codes "content"
verb_word verbs.Receive = codes "receive"
verb_word verbs.Create = codes "create"
verb_word verbs.Setup = codes "setup"
verb_word verbs.Make = codes "make"

-- the verb that a word says, if it says one
abbrev pub verb_of : List ℕ → Option Verb
verb_of word =
    if bytes_eq word (verb_word verbs.Content) then Some verbs.Content
    else if bytes_eq word (verb_word verbs.Receive) then Some verbs.Receive
    else if bytes_eq word (verb_word verbs.Create) then Some verbs.Create
    else if bytes_eq word (verb_word verbs.Setup) then Some verbs.Setup
    else if bytes_eq word (verb_word verbs.Make) then Some verbs.Make
    else None

-- what the first word says, if it is one of these
abbrev pub verb_in : List (List ℕ) → Option Verb
verb_in words = slice_get words 0 >>= verb_of

-- the words ask to receive, by this command
pub record AskToReceive (words : List (List ℕ)) (command : Command) : Type 0 where
  pub kind : Kind
  pub when : ℤ
  pub keys : List KeyFields
  pub receive : IsReceive words kind when keys
  pub is : command ≡ Receive kind when keys

-- the words ask to create, by this command
pub record AskToCreate (words : List (List ℕ)) (command : Command) : Type 0 where
  pub kind : Kind
  pub when : ℤ
  pub create : IsCreate words kind when
  pub is : command ≡ Create kind when

-- the words ask to look at a setup message, by this command
pub record AskToSetUp (words : List (List ℕ)) (command : Command) : Type 0 where
  pub kind : SetupKind
  pub when : ℤ
  pub setup_words : IsSetup words kind when
  pub is : command ≡ Setup kind when

-- the words ask to make a message, by this command
pub record AskToMake (words : List (List ℕ)) (command : Command) : Type 0 where
  pub count : ℕ
  pub seed : ℕ
  pub make : IsMake words count seed
  pub is : command ≡ Make count seed

-- the words ask for what the verb says, by this command
abbrev pub Ask : Verb → List (List ℕ) → Command → Type 0
Ask verbs.Content words command =
    (words ≡ verb_word verbs.Content ∷ []) × (command ≡ Content)
Ask verbs.Receive words command = AskToReceive words command
Ask verbs.Create words command = AskToCreate words command
Ask verbs.Setup words command = AskToSetUp words command
Ask verbs.Make words command = AskToMake words command

-- the words are those of the command
pub record IsCommand (words : List (List ℕ)) (command : Command) : Type 0 where
  pub verb : Verb
  pub ask : Ask verb words command

-- the words are those of no command
abbrev pub IsNoCommand : List (List ℕ) → Type 0
IsNoCommand words = (c : Command) → IsCommand words c → ⊥

-- a command has one to eight keys, if it has any, and makes at most 10000 elements
abbrev pub IsLimited : Command → Type 0
IsLimited Content = ⊤
IsLimited (Receive kind when keys) = (1 ≤ length keys) × (length keys ≤ most_keys)
IsLimited (Create kind when) = ⊤
IsLimited (Setup kind when) = ⊤
IsLimited (Make count seed) = count ≤ most_elements

-- the words don't ask to create
abbrev pub AreNoCreate : List (List ℕ) → Type 0
AreNoCreate words = (kind : Kind) (when : ℤ) → IsCreate words kind when → ⊥

-- the words don't ask to make a message
abbrev pub AreNoMake : List (List ℕ) → Type 0
AreNoMake words = (count seed : ℕ) → IsMake words count seed → ⊥

-- the command reads input
abbrev pub ReadsInput : Command → Type 0
ReadsInput Content = ⊤
ReadsInput (Receive kind when keys) = ⊤
ReadsInput (Create kind when) = ⊤
ReadsInput (Setup kind when) = ⊤
ReadsInput (Make count seed) = ⊥

-- the command asks for a signer
abbrev pub AsksSigner : Command → Type 0
AsksSigner Content = ⊥
AsksSigner (Receive kind when keys) = ⊥
AsksSigner (Create kind when) = ⊤
AsksSigner (Setup kind when) = ⊥
AsksSigner (Make count seed) = ⊤

-- the words don't ask for what the verb says
abbrev pub AskInVain : Verb → List (List ℕ) → Type 0
AskInVain verb words = (c : Command) → Ask verb words c → ⊥
