-- The messages of lines.
use Rattle.std.proofs.Common.{◌≡◌, ◌<◌, ℕ, nat_eq, Option, None, Some, List, [], ◌∷◌, ◌++◌, length, map, refl, sym, ap, ◌∙◌, arith, append_assoc, append-nil}
use Rattle.std.specs.Result.{result_ok}
use Rattle.std.proofs.lemmas.List.{map-append}
use Rattle.std.proofs.lemmas.List.Splits.{length-slice_split}
use Rattle.hex.specs.Hex.{decode_of}
use Rattle.rpki_base.specs.PublicKey.{KeyFields}
use Rattle.rpki_ca.specs.Lines.{words_of}
use Rattle.rpki_ca.specs.Words.{key_of_word}
use Rattle.rpki_replay.specs.Messages.{Sent, sent_by, sent_in, sent_in_words, AreSent}

some_words : (line : List ℕ) → 0 < length (words_of line)
some_words line = omega (arith, length-slice_split (λ octet. nat_eq octet 32) line)

pub one_word : (line : List ℕ) → words_of line ≡ line ∷ [] → sent_in line ≡ None
one_word line e = ap sent_in_words e

third_word : (first second : List ℕ) (words : List (List ℕ)) → 0 < length words → sent_in_words (first ∷ second ∷ words) ≡ None
third_word first second [] some = absurd (omega arith)
third_word first second (third ∷ words) some = refl

pub three_words : (line first second third behind : List ℕ) → words_of line ≡ first ∷ words_of second → words_of second ≡ third ∷ words_of behind → sent_in line ≡ None
three_words line first second third behind e f =
    ap sent_in_words (e ∙ ap (λ (l : List (List ℕ)). first ∷ l) f) ∙ third_word first third (words_of behind) (some_words behind)

no_octets : (o : Option KeyFields) → sent_by o None ≡ None
no_octets None = refl
no_octets (Some k) = refl

pub not_spelled : (line key octets : List ℕ) → words_of line ≡ key ∷ octets ∷ [] → result_ok (decode_of octets) ≡ None → sent_in line ≡ None
not_spelled line key octets e none = ap sent_in_words e ∙ ap (λ (o : Option (List ℕ)). sent_by (key_of_word key) o) none ∙ no_octets (key_of_word key)

pub no_peer : (line key octets : List ℕ) → words_of line ≡ key ∷ octets ∷ [] → None ≡ key_of_word key → sent_in line ≡ None
no_peer line key octets e none = ap sent_in_words e ∙ ap (λ (o : Option KeyFields). sent_by o (result_ok (decode_of octets))) (sym none)

pub is_sent : (line key octets held : List ℕ) (peer : KeyFields) → words_of line ≡ key ∷ octets ∷ [] → result_ok (decode_of octets) ≡ Some held → Some peer ≡ key_of_word key
    → sent_in line ≡ Some (record { peer = peer; octets = held })
is_sent line key octets held peer e spelled some =
    ap sent_in_words e ∙ ap (λ (o : Option (List ℕ)). sent_by (key_of_word key) o) spelled ∙ ap (λ (o : Option KeyFields). sent_by o (Some held)) (sym some)

-- ---- all lines

pub one_more_sent : (messages new : List Sent) (before rest all : List (List ℕ)) (line : List ℕ) (sent : Sent) → map Some messages ++ map sent_in before ≡ map sent_in all → before ≡ line ∷ rest → sent_in line ≡ Some sent
    → new ≡ messages ++ sent ∷ [] → map Some new ++ map sent_in rest ≡ map sent_in all
one_more_sent messages new before rest all line sent h first is e =
    ap (λ (l : List Sent). map Some l ++ map sent_in rest) e
    ∙ ap (λ (l : List (Option Sent)). l ++ map sent_in rest) (map-append Some messages (sent ∷ []))
    ∙ append_assoc (map Some messages) (Some sent ∷ []) (map sent_in rest)
    ∙ ap (λ (o : Option Sent). map Some messages ++ o ∷ map sent_in rest) (sym is)
    ∙ ap (λ (l : List (List ℕ)). map Some messages ++ map sent_in l) (sym first)
    ∙ h

none_among : (done : List Sent) (rest : List (Option Sent)) (messages : List Sent) → map Some done ++ None ∷ rest ≡ map Some messages → ⊥
none_among [] rest [] e = cc
none_among [] rest (m ∷ messages) e = cc
none_among (d ∷ done) rest [] e = cc
none_among (d ∷ done) rest (m ∷ messages) e = let t : map Some done ++ None ∷ rest ≡ map Some messages = cc in none_among done rest messages t

pub not_sent : (done : List Sent) (before rest all : List (List ℕ)) (line : List ℕ) → map Some done ++ map sent_in before ≡ map sent_in all → before ≡ line ∷ rest → sent_in line ≡ None → (messages : List Sent) → AreSent all messages → ⊥
not_sent done before rest all line h first none messages are =
    none_among done (map sent_in rest) messages
    (ap (λ (o : Option Sent). map Some done ++ o ∷ map sent_in rest) (sym none) ∙ ap (λ (l : List (List ℕ)). map Some done ++ map sent_in l) (sym first) ∙ h ∙ are)

pub all_sent : (done : List Sent) (left all : List (List ℕ)) → map Some done ++ map sent_in left ≡ map sent_in all → left ≡ [] → AreSent all done
all_sent done left all h none =
    sym h ∙ ap (λ (l : List (List ℕ)). map Some done ++ map sent_in l) none ∙ append-nil (map Some done)
