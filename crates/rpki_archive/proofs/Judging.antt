-- What is answered to a line, and what is said of it.
use Rattle.std.proofs.Common.{◌≡◌, ◌≢◌, ◌≤◌, ℕ, ℤ, Option, None, Some, Result, Ok, Err, IsErrAnd, IfErr, List, [], ◌∷◌, codes, get_or, length, refl, sym, ap, subst, ◌∙◌, arith}
use Rattle.rpki_base.specs.PublicKey.{KeyFields}
use Rattle.rpki_base.specs.Scheme.{Relation}
use Rattle.rpki_der.specs.Takes.{RefusesOctets}
use Rattle.rpki_der.specs.declared.error.DecodeError.TheVariants.{Malformed}
use Rattle.rpki_der.specs.declared.mode.Mode.TheVariants.{Ber}
use Rattle.rpki_sigmsg.specs.Beginning.{BeginsSigned}
use Rattle.rpki_sigmsg.specs.Message.{MessageFields, signed_message}
use Rattle.rpki_ca.specs.Acceptance.{HoldsNoSigned}
use Rattle.rpki_ca.specs.Answer.{AnswersSpelled, IsReceiveAnswer}
use Rattle.rpki_ca.specs.Command.{IsCommand, IsReceive}
use Rattle.rpki_ca.specs.Hexadecimal.{hexadecimal}
use Rattle.rpki_ca.specs.Refusal.{name_of}
use Rattle.rpki_ca.specs.declared.command.Command.{Command}
use Rattle.rpki_ca.specs.declared.command.Command.TheVariants.{Receive}
use Rattle.rpki_ca.specs.declared.receiving.Kind.{Kind}
use Rattle.rpki_ca.specs.declared.refusals.Refusal.{Refusal}
use Rattle.rpki_ca.specs.declared.refusals.Refusal.TheVariants.{Usage, Hex, OutOfMemory}
use Rattle.rpki_ca.proofs.Answering.{answers}
use Rattle.rpki_ca.proofs.Commands.{is_command, one_command}
use Rattle.rpki_archive.specs.Entries.{Asks, RefusesEntry}
use Rattle.rpki_archive.specs.Explanation.{AreDigits, IsExplanation, IsSaidOf, IsSaidOfSpelled}
use Rattle.rpki_archive.specs.Lines.{IsLine}
use Rattle.rpki_archive.specs.Verdict.{Entry, IsLineAnswer, command_words}
use Rattle.rpki_archive.proofs.Asking.{envelope_short, same_command, same_entry}
use Rattle.rpki_common.proofs.Truths.{none_some}

-- an error that is handed on
pub if_err_same : {T E : Type 0} (r : Result T E) (e : E) (P : E → Type 0) → IsErrAnd r (λ given. given ≡ e) → P e → IfErr r P
if_err_same (Ok x) e P is p = tt
if_err_same (Err given) e P is p = subst P (sym is) p

pub no_signed : (octets : List ℕ) → RefusesOctets (signed_message Ber) Ber octets Malformed → HoldsNoSigned octets
unfolding RefusesOctets
no_signed octets refused = λ signed s. none_some signed (sym (refused s.value s.rest s.begins) ∙ s.reads)

-- ---- verdicts

-- the command of each entry is the one that the line asks for
entry_command : (line : List ℕ) (one other : Entry line) (kind : Kind) (when : ℤ) (keys : List KeyFields) → IsReceive (command_words one) kind when keys → IsCommand (command_words other) (Receive kind when keys)
entry_command line one other kind when keys is = subst (λ (w : List (List ℕ)). IsCommand w (Receive kind when keys)) (same_command line one other) (is_command (command_words one) kind when keys is)

-- the envelope of each entry of a line spells one thing
entry_spells : (line : List ℕ) (one other : Entry line) (o : Option (List ℕ)) → hexadecimal one.envelope ≡ o → hexadecimal other.envelope ≡ o
entry_spells line one other o e = ap hexadecimal (sym (same_entry line one other).envelope) ∙ e

pub answered : (scheme : Relation) (line octets : List ℕ) (c : Command) (kind : Kind) (when : ℤ) (keys : List KeyFields) (a : Result (List ℕ) Refusal) → IsLine line → Asks line c octets → c ≡ Receive kind when keys
    → IsReceiveAnswer scheme kind octets keys when a → IsLineAnswer scheme line a
answered scheme line octets c kind when keys a line_is ask is said = record {
  entry = λ e.
      let command : IsCommand (command_words e) c = subst (λ (d : Command). IsCommand (command_words e) d) (sym ask.is) (entry_command line ask.receipt.entry e ask.kind ask.when ask.keys ask.receipt.receive) in
      let spelled : hexadecimal e.envelope ≡ Some octets = entry_spells line ask.receipt.entry e (Some octets) ask.spelled in
      answers scheme (command_words e) e.envelope (Receive kind when keys) a (subst (λ (d : Command). IsCommand (command_words e) d) is command) (λ reads. envelope_short line e line_is)
      (subst (λ (o : Option (List ℕ)). AnswersSpelled scheme (Receive kind when keys) o a) (sym spelled) said);
  other = λ none. absurd (none ask.receipt.entry);
}

pub refused : (scheme : Relation) (line : List ℕ) (e : Refusal) → IsLine line → RefusesEntry line e → e ≢ OutOfMemory → IsLineAnswer scheme line (Err e)
refused scheme line Usage line_is r other = record {
  entry = λ e. record { usage = λ n. refl; long = λ c is l. absurd (r e c is); answers = λ c is l. absurd (r e c is) };
  other = λ n. refl;
}
refused scheme line Hex line_is r other = record {
  entry = λ e.
      let spelled : hexadecimal e.envelope ≡ None = entry_spells line r.receipt.entry e None r.none in
      answers scheme (command_words e) e.envelope (Receive r.kind r.when r.keys) (Err Hex) (entry_command line r.receipt.entry e r.kind r.when r.keys r.receipt.receive) (λ reads. envelope_short line e line_is)
      (subst (λ (o : Option (List ℕ)). AnswersSpelled scheme (Receive r.kind r.when r.keys) o (Err Hex)) (sym spelled) refl);
  other = λ none. absurd (none r.receipt.entry);
}
refused scheme line OutOfMemory line_is r other = absurd (other refl)
refused scheme line e line_is r other = absurd r

pub same_receipt : (scheme : Relation) (kind : Kind) (octets others : List ℕ) (keys held : List KeyFields) (when : ℤ) (a : Result (List ℕ) Refusal) → octets ≡ others → keys ≡ held → IsReceiveAnswer scheme kind octets keys when a
    → IsReceiveAnswer scheme kind others held when a
same_receipt scheme kind octets others keys held when a e f said =
    subst (λ (o : List ℕ). IsReceiveAnswer scheme kind o held when a) e (subst (λ (k : List KeyFields). IsReceiveAnswer scheme kind octets k when a) f said)

-- ---- explanations

pub explained_refusal : (scheme : Relation) (line : List ℕ) (e : Refusal) → RefusesEntry line e → e ≢ OutOfMemory → IsExplanation scheme line (name_of e)
explained_refusal scheme line Usage r other = record {
  entry = λ e. record { usage = λ n. refl; checks = λ kind when key is. absurd (r e (Receive kind when (key ∷ [])) (is_command (command_words e) kind when (key ∷ []) is)) };
  other = λ n. refl;
}
explained_refusal scheme line Hex r other = record {
  entry = λ e. record {
    usage = λ none. absurd (none (Receive r.kind r.when r.keys) (entry_command line r.receipt.entry e r.kind r.when r.keys r.receipt.receive));
    checks = λ kind when key is. subst (λ (o : Option (List ℕ)). IsSaidOfSpelled scheme o key when (codes "Hex")) (sym (entry_spells line r.receipt.entry e None r.none)) refl;
  };
  other = λ none. absurd (none r.receipt.entry);
}
explained_refusal scheme line OutOfMemory r other = absurd (other refl)
explained_refusal scheme line e r other = absurd r

pub explained : (scheme : Relation) (line octets text : List ℕ) (c : Command) → Asks line c octets
    → ((kind : Kind) (when : ℤ) (key : KeyFields) → c ≡ Receive kind when (key ∷ []) → IsSaidOf scheme octets key when text) → IsExplanation scheme line text
explained scheme line octets text c ask said = record {
  entry = λ e.
      let command : IsCommand (command_words e) c = subst (λ (d : Command). IsCommand (command_words e) d) (sym ask.is) (entry_command line ask.receipt.entry e ask.kind ask.when ask.keys ask.receipt.receive) in
      record {
        usage = λ none. absurd (none c command);
        checks = λ kind when key is.
            let same : c ≡ Receive kind when (key ∷ []) = one_command (command_words e) c (Receive kind when (key ∷ [])) command (is_command (command_words e) kind when (key ∷ []) is) in
            subst (λ (o : Option (List ℕ)). IsSaidOfSpelled scheme o key when text) (sym (entry_spells line ask.receipt.entry e (Some octets) ask.spelled)) (said kind when key same);
      };
  other = λ none. absurd (none ask.receipt.entry);
}

pub explained_none : (scheme : Relation) (line octets : List ℕ) (c : Command) → Asks line c octets → RefusesOctets (signed_message Ber) Ber octets Malformed → IsExplanation scheme line (codes "CmsDecode")
explained_none scheme line octets c ask refuses =
    let none = no_signed octets refuses in
    explained scheme line octets (codes "CmsDecode") c ask (λ kind when key is. record { none = λ n. refl; some = λ signed begins. absurd (none signed begins) })

receive_parts : (k l : Kind) (v w : ℤ) (a b : List KeyFields) → Receive k v a ≡ Receive l w b → (v ≡ w) × (a ≡ b)
receive_parts k l v w a b e = (let p : v ≡ w = cc in p, let q : a ≡ b = cc in q)

first_key : (a b : KeyFields) (more : List KeyFields) → a ∷ more ≡ b ∷ [] → a ≡ b
first_key a b more e = cc

pub explained_checks : (scheme : Relation) (line octets text : List ℕ) (c : Command) (kind : Kind) (when : ℤ) (key : KeyFields) (more : List KeyFields) (signed : MessageFields) → Asks line c octets → c ≡ Receive kind when (key ∷ more)
    → BeginsSigned octets signed → ((held : KeyFields) (moment : ℤ) → held ≡ key → moment ≡ when → AreDigits scheme octets held moment text) → IsExplanation scheme line text
explained_checks scheme line octets text c kind when key more signed ask is begins digits =
    explained scheme line octets text c ask (λ k w held same.
    let parts = receive_parts kind k when w (key ∷ more) (held ∷ []) (sym is ∙ same) in
    record {
      none = λ none. absurd (none signed begins);
      some = λ _ _. digits held w (sym (first_key key held more parts.1)) (sym parts.0);
    })

-- the key is the first of them
pub explained_first : (scheme : Relation) (line octets text : List ℕ) (c : Command) (kind : Kind) (when : ℤ) (keys : List KeyFields) (key other : KeyFields) (signed : MessageFields) → Asks line c octets → c ≡ Receive kind when keys → 1 ≤ length keys
    → key ≡ get_or keys 0 other → BeginsSigned octets signed → AreDigits scheme octets key when text → IsExplanation scheme line text
explained_first scheme line octets text c kind when [] key other signed ask is some e begins digits = absurd (omega (arith, some))
explained_first scheme line octets text c kind when (first ∷ more) key other signed ask is some e begins digits =
    explained_checks scheme line octets text c kind when first more signed ask is begins (λ held moment h w. subst (λ (k : KeyFields). AreDigits scheme octets k moment text) (e ∙ sym h) (subst (λ (t : ℤ). AreDigits scheme octets key t text) (sym w) digits))

pub same_keys : (keys held : List KeyFields) → held ≡ keys → 1 ≤ length held → 1 ≤ length keys
same_keys keys held e some = subst (λ (k : List KeyFields). 1 ≤ length k) e some
