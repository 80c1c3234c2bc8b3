-- Replies to lines, one behind the other.
use Rattle.std.proofs.Common.{◌≡◌, ◌≢◌, ◌<◌, ◌≤◌, ℕ, ℤ, List, [], length, get_or, take, refl, ap, sym, subst}
use Rattle.hex.specs.Hex.{encode_lower}
use Rattle.rpki_base.specs.Scheme.{Relation}
use Rattle.rpki_signer.specs.Limits.{Keeps}
use Rattle.rpki_signer.specs.Signer.{SignerState}
use Rattle.rpki_sigmsg.specs.declared.create_error.CreateError.{CreateError}
use Rattle.rpki_sigmsg.specs.declared.create_error.CreateError.TheVariants as create
use Rattle.rpki_sigmsg.specs.Spelling.{rewritten, CanSpellMessage}
use Rattle.rpki_publication.specs.Cms.{CmsFields}
use Rattle.rpki_publication.specs.Message.{text_of}
use Rattle.rpki_ca.specs.declared.receiving.Kind.TheVariants as kinds
use Rattle.rpki_ca.specs.declared.receiving.Received.TheVariants as received
use Rattle.rpki_ca.specs.declared.refusals.Refusal.{Refusal}
use Rattle.rpki_ca.specs.declared.refusals.Refusal.TheVariants as refusals
use Rattle.rpki_ca.specs.Creation.{IsReceivable, refusal_of_create}
use Rattle.rpki_ca.specs.Seen.{SignerSeen, seen_signer}
use Rattle.rpki_ca.specs.Steps.{AreSteps}
use Rattle.rpki_ca.proofs.Creating.{first_told}
use Rattle.rpki_ca.proofs.Sending.{not_memory, signing_cause}
use Rattle.rpki_ca.proofs.Serving.{stopped_at}
use Rattle.rpki_ca.proofs.Stepping.{all_steps, first_steps}
use Rattle.rpki_pubserver.specs.Server.{FailsReply, IsQueryAnswered, ServerFields}
use Rattle.rpki_pubserver.specs.Serving.{AreAllReplied, AreFirstReplied, FailsLine, IsReplied, ServerAndSigner, StopsReplying, with_signer}

-- what is signed is written in hexadecimal
pub replied_so : {I : Type 0} (scheme : Relation) (when : ℤ) (signer : SignerSeen I) (server : ServerFields) (octets : List ℕ) (c : CmsFields) (next : ServerFields) (signed : List ℕ) → IsQueryAnswered scheme server octets when signer c next
    → signed ≡ rewritten c.signed → CanSpellMessage c.signed → Keeps signer.before signer.after → IsReplied scheme when signer.id (with_signer server signer.before) octets (encode_lower signed) (with_signer next signer.after)
replied_so scheme when signer server octets c next signed answered are spelled keeps = record {
  reply = answered.reply;
  is = answered.is;
  fits = answered.signed.signed.fits;
  created = record {
    octets = signed;
    created = record {
      signed = c.signed;
      created = answered.signed.signed.created;
      are = are;
      receivable = subst (λ (o : List ℕ). IsReceivable scheme kinds.Publication o (received.Publication answered.reply.message) when signer) (sym are) (answered.signed.signed.receivable spelled);
    };
    written = refl;
  };
  keeps = keeps;
  behind = answered.behind;
}

-- a reply isn't signed
pub cant_reply : {I E : Type 0} (scheme : Relation) (when : ℤ) (signer : SignerSeen I) (server : ServerFields) (octets : List ℕ) (e : CreateError E) → (e ≢ create.OutOfMemory → FailsReply scheme server octets when signer e)
    → refusal_of_create e ≢ refusals.OutOfMemory → FailsLine scheme when signer server octets (refusal_of_create e)
cant_reply scheme when signer server octets e h other =
    let f = h (not_memory e other) in
    record {
      reply = f.reply;
      is = f.is;
      cause = signing_cause scheme when signer (received.Publication f.reply.message) e f.fails other;
      too_long = λ window long. ap refusal_of_create (f.fails.too_long window long);
      first = λ short. first_told scheme (text_of f.reply.message) when signer e short f.fails.first_refusal;
    }

-- ---- the lines of a run

module _ {I : Type 0} (scheme : Relation) (when : ℤ) (id : I) (start : SignerState I) (server : ServerFields) (messages : List (List ℕ)) (i : ℕ) (texts : List (List ℕ)) (last : ServerAndSigner I) where
  abbrev AreSoFar : Type 0
  AreSoFar = AreSteps (IsReplied scheme when id) (with_signer server start) (take i messages) texts last

  pub all_replied : length messages ≤ i → AreSoFar → AreAllReplied scheme when (seen_signer id start last.signer) server messages texts []
  all_replied le are = record {
    steps = record { last = last; answered = all_steps (IsReplied scheme when id) (with_signer server start) messages i texts last le are; written = refl };
    signer_is = refl;
  }

  pub first_replied : i ≤ length messages → AreSoFar → AreFirstReplied scheme when (seen_signer id start last.signer) server messages texts
  first_replied le are = record {
    steps = record { last = last; answered = first_steps (IsReplied scheme when id) (with_signer server start) messages i texts last le are };
    signer_is = refl;
  }

  -- the next line isn't answered
  pub stops_replying : (octets : List ℕ) (after : SignerState I) (r : Refusal) → i < length messages → octets ≡ get_or messages i octets → AreSoFar → Keeps last.signer after
      → (r ≢ refusals.OutOfMemory → FailsLine scheme when (seen_signer id last.signer after) last.server octets r) → StopsReplying scheme when (seen_signer id start after) server messages texts r
  stops_replying octets after r lt at are keeps fails =
      let behind = stopped_at (IsReplied scheme when id) (with_signer server start) messages i texts last octets lt at are in
      record {
        steps = record { last = last; answered = behind.0 };
        keeps = keeps;
        fails = λ other. record { octets = octets; stands = behind.1; fails = fails other };
      }
