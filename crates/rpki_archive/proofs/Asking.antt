-- What a line asks for.
use Rattle.std.proofs.Common.{◌≡◌, ◌⊎◌, ◌<◌, ◌≤◌, ℕ, ℤ, nat_eq, false, ◌^◌, Option, None, Some, List, [], ◌∷◌, codes, inl, inr, length, map, refl, sym, ap, subst, ◌∙◌, arith}
use Rattle.std.specs.Str.{IsUtf8}
use Rattle.std.proofs.lemmas.List.Splits.{length-slice_split}
use Rattle.rpki_base.specs.PublicKey.{KeyFields}
use Rattle.rpki_ca.specs.declared.command.Command.{Command}
use Rattle.rpki_ca.specs.declared.receiving.Kind.{Kind}
use Rattle.rpki_ca.specs.Command.{AreKeys, IsCommand, IsNoCommand, IsReceive, kind_word}
use Rattle.rpki_ca.specs.Lines.{words_of}
use Rattle.rpki_ca.specs.Words.{key_of_word}
use Rattle.rpki_ca.proofs.Asked.{asks_to_receive}
use Rattle.std.specs.Result.{result_ok}
use Rattle.hex.specs.Hex.{decode_of}
use Rattle.rpki_ca.specs.Hexadecimal.{hexadecimal}
use Rattle.rpki_archive.specs.Entries.{Asks, AsksInVain}
use Rattle.rpki_archive.specs.Lines.{IsLine}
use Rattle.rpki_archive.specs.Verdict.{Entry, command_words}
use Rattle.std.specs.List.{AllByRecursion}
use Rattle.rpki_archive.proofs.Cut.{IsApart, no_feed, pieces_all, pieces_short}
use Rattle.rpki_archive.proofs.Ascii.{kind_is_text, moment_is_text, key_is_text}

-- ---- four words

some_words : (line : List ℕ) → 0 < length (words_of line)
some_words line = omega (arith, length-slice_split (λ octet. nat_eq octet 32) line)

pub other_count : (line : List ℕ) (words : List (List ℕ)) → words_of line ≡ words → (length words ≡ 4 → ⊥) → Entry line → ⊥
other_count line words e other entry = other (ap (λ (l : List (List ℕ)). length l) (sym e ∙ entry.words))

pub one_word : (line : List ℕ) → words_of line ≡ line ∷ [] → Entry line → ⊥
one_word line e = other_count line (line ∷ []) e (λ n. omega arith)

pub two_words : (line a rest : List ℕ) → words_of line ≡ a ∷ words_of rest → words_of rest ≡ rest ∷ [] → Entry line → ⊥
two_words line a rest e f = other_count line (a ∷ rest ∷ []) (e ∙ ap (λ (l : List (List ℕ)). a ∷ l) f) (λ n. omega arith)

pub three_words : (line a b first rest : List ℕ) → words_of line ≡ a ∷ words_of first → words_of first ≡ b ∷ words_of rest → words_of rest ≡ rest ∷ [] → Entry line → ⊥
three_words line a b first rest e f g =
    other_count line (a ∷ b ∷ rest ∷ []) (e ∙ ap (λ (l : List (List ℕ)). a ∷ l) f ∙ ap (λ (l : List (List ℕ)). a ∷ b ∷ l) g) (λ n. omega arith)

pub five_words : (line a b c d first second third fourth : List ℕ) → words_of line ≡ a ∷ words_of first → words_of first ≡ b ∷ words_of second → words_of second ≡ c ∷ words_of third → words_of third ≡ d ∷ words_of fourth → Entry line → ⊥
five_words line a b c d first second third fourth e f g h =
    other_count line (a ∷ b ∷ c ∷ d ∷ words_of fourth)
    (e ∙ ap (λ (l : List (List ℕ)). a ∷ l) f ∙ ap (λ (l : List (List ℕ)). a ∷ b ∷ l) g ∙ ap (λ (l : List (List ℕ)). a ∷ b ∷ c ∷ l) h)
    (λ n. let some = some_words fourth in omega (arith, some))

pub four_words : (line a b c d first second third : List ℕ) → words_of line ≡ a ∷ words_of first → words_of first ≡ b ∷ words_of second → words_of second ≡ c ∷ words_of d → words_of d ≡ d ∷ [] → words_of line ≡ a ∷ b ∷ c ∷ d ∷ []
four_words line a b c d first second third e f g h = e ∙ ap (λ (l : List (List ℕ)). a ∷ l) f ∙ ap (λ (l : List (List ℕ)). a ∷ b ∷ l) g ∙ ap (λ (l : List (List ℕ)). a ∷ b ∷ c ∷ l) h

-- a line has these words alone
pub record SameEntry {line : List ℕ} (one other : Entry line) : Type 0 where
  pub kind : one.kind ≡ other.kind
  pub moment : one.moment ≡ other.moment
  pub key : one.key ≡ other.key
  pub envelope : one.envelope ≡ other.envelope

pub same_entry : (line : List ℕ) (one other : Entry line) → SameEntry one other
same_entry line one other =
    let e : one.kind ∷ one.moment ∷ one.key ∷ one.envelope ∷ [] ≡ other.kind ∷ other.moment ∷ other.key ∷ other.envelope ∷ [] = sym one.words ∙ other.words in
    record { kind = cc; moment = cc; key = cc; envelope = cc }

pub same_command : (line : List ℕ) (one other : Entry line) → command_words one ≡ command_words other
same_command line one other = let s = same_entry line one other in λ i. codes "receive" ∷ s.kind i ∷ s.moment i ∷ s.key i ∷ []

-- ---- the command

parts : (kind moment key a b : List ℕ) (keys : List (List ℕ)) → codes "receive" ∷ kind ∷ moment ∷ key ∷ [] ≡ codes "receive" ∷ a ∷ b ∷ keys → (kind ≡ a) × (moment ≡ b) × (key ∷ [] ≡ keys)
parts kind moment key a b keys e = (let p : kind ≡ a = cc in p, let q : moment ≡ b = cc in q, let r : key ∷ [] ≡ keys = cc in r)

one_key : (key : List ℕ) (keys : List KeyFields) → AreKeys (key ∷ []) keys → (length keys ≡ 1) × IsUtf8 key
one_key key [] e = absurd (no (key_of_word key) e)
  where
    no : (o : Option KeyFields) → o ∷ [] ≡ [] → ⊥
    no o e = cc
one_key key (k ∷ []) e = (refl, key_is_text key k (head (key_of_word key) (Some k) e))
  where
    head : (a b : Option KeyFields) → a ∷ [] ≡ b ∷ [] → a ≡ b
    head a b e = cc
one_key key (k ∷ l ∷ keys) e = absurd (no (key_of_word key) (Some k) (Some l) (map Some keys) e)
  where
    no : (a b c : Option KeyFields) (more : List (Option KeyFields)) → a ∷ [] ≡ b ∷ c ∷ more → ⊥
    no a b c more e = cc

-- words of the command are text, and name one key
pub record AreText (kind moment key : List ℕ) (keys : List KeyFields) : Type 0 where
  pub kind_text : IsUtf8 kind
  pub moment_text : IsUtf8 moment
  pub key_text : IsUtf8 key
  pub one : length keys ≡ 1

pub receive_text : (kind moment key : List ℕ) (k : Kind) (when : ℤ) (keys : List KeyFields) → IsReceive (codes "receive" ∷ kind ∷ moment ∷ key ∷ []) k when keys → AreText kind moment key keys
receive_text kind moment key k when keys is =
    let p = parts kind moment key (kind_word k) is.moment_word is.key_words is.are in
    let one = one_key key keys (subst (λ (ws : List (List ℕ)). AreKeys ws keys) (sym p.2) is.spell) in
    record {
      kind_text = subst IsUtf8 (sym p.0) (kind_is_text k);
      moment_text = subst IsUtf8 (sym p.1) (moment_is_text is.moment_word when is.moment);
      key_text = one.1;
      one = one.0;
    }

pub not_text : (kind moment key : List ℕ) → ¬ (IsUtf8 kind) ⊎ (¬ (IsUtf8 moment) ⊎ ¬ (IsUtf8 key)) → IsNoCommand (codes "receive" ∷ kind ∷ moment ∷ key ∷ [])
not_text kind moment key none c is =
    let ask = asks_to_receive (kind ∷ moment ∷ key ∷ []) c is in
    let text = receive_text kind moment key ask.kind ask.when ask.keys ask.receive in
    elim none [ inl a ↦ a text.kind_text | inr (inl b) ↦ b text.moment_text | inr (inr d) ↦ d text.key_text ]

-- ---- what a line asks

-- an entry of the line has these words
pub no_command : (line kind moment key envelope : List ℕ) → words_of line ≡ kind ∷ moment ∷ key ∷ envelope ∷ [] → IsNoCommand (codes "receive" ∷ kind ∷ moment ∷ key ∷ []) → (e : Entry line) → IsNoCommand (command_words e)
no_command line kind moment key envelope e none other =
    let here : Entry line = record { kind = kind; moment = moment; key = key; envelope = envelope; words = e } in
    subst IsNoCommand (same_command line here other) none

-- a word of the line has no line feed, and is no longer than the line
envelope_apart : (line : List ℕ) (entry : Entry line) → IsLine line → IsApart entry.envelope
envelope_apart line entry is =
    let words = subst (AllByRecursion IsApart) entry.words (pieces_all (λ octet. nat_eq octet 10 ≡ false) (λ octet. nat_eq octet 32) line is.one) in words.1.1.1.0

pub envelope_short : (line : List ℕ) (entry : Entry line) → IsLine line → length entry.envelope ≤ 2 ^ 26
envelope_short line entry is =
    let words = subst (AllByRecursion (λ piece. length piece ≤ length line)) entry.words (pieces_short (λ octet. nat_eq octet 32) line) in
    let short = words.1.1.1.0 in let all = is.short in omega (arith, short, all)

-- an envelope spells what an input of the same octets spells
spelled_so : (line : List ℕ) (entry : Entry line) (o : Option (List ℕ)) → IsLine line → result_ok (decode_of entry.envelope) ≡ o → hexadecimal entry.envelope ≡ o
spelled_so line entry o is e = ap (λ (word : List ℕ). result_ok (decode_of word)) (no_feed entry.envelope (envelope_apart line entry is)) ∙ e

pub asks : (line kind moment key envelope octets : List ℕ) (words : List (List ℕ)) (c : Command) → words_of line ≡ kind ∷ moment ∷ key ∷ envelope ∷ [] → words ≡ codes "receive" ∷ kind ∷ moment ∷ key ∷ [] → IsCommand words c
    → IsLine line → result_ok (decode_of envelope) ≡ Some octets → Asks line c octets
asks line kind moment key envelope octets words c e are is line_is spelled =
    let ask = asks_to_receive (kind ∷ moment ∷ key ∷ []) c (subst (λ (w : List (List ℕ)). IsCommand w c) are is) in
    let text = receive_text kind moment key ask.kind ask.when ask.keys ask.receive in
    let entry : Entry line = record { kind = kind; moment = moment; key = key; envelope = envelope; words = e } in
    record {
      kind = ask.kind;
      when = ask.when;
      keys = ask.keys;
      is = ask.is;
      receipt = record { entry = entry; receive = ask.receive; one = text.one };
      spelled = spelled_so line entry (Some octets) line_is spelled;
    }

pub asks_in_vain : (line kind moment key envelope : List ℕ) (words : List (List ℕ)) (c : Command) → words_of line ≡ kind ∷ moment ∷ key ∷ envelope ∷ [] → words ≡ codes "receive" ∷ kind ∷ moment ∷ key ∷ [] → IsCommand words c
    → IsLine line → result_ok (decode_of envelope) ≡ None → AsksInVain line
asks_in_vain line kind moment key envelope words c e are is line_is none =
    let ask = asks_to_receive (kind ∷ moment ∷ key ∷ []) c (subst (λ (w : List (List ℕ)). IsCommand w c) are is) in
    let text = receive_text kind moment key ask.kind ask.when ask.keys ask.receive in
    let entry : Entry line = record { kind = kind; moment = moment; key = key; envelope = envelope; words = e } in
    record {
      kind = ask.kind;
      when = ask.when;
      keys = ask.keys;
      receipt = record { entry = entry; receive = ask.receive; one = text.one };
      none = spelled_so line entry None line_is none;
    }
