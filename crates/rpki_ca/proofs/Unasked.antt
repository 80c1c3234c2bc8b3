-- Where words and input show the answer, no signer is asked.
use Rattle.std.proofs.Common.{◌≡◌, ◌⊎◌, inl, inr, ℕ, ◌<◌, ℤ, Option, None, Some, Result, List, length, sym, subst}
use Rattle.std.specs.Prelude.{◌^◌, IfSome}
use Rattle.rpki_base.specs.Scheme.{Relation}
use Rattle.rpki_sigmsg.specs.Making.{HasWindow}
use Rattle.rpki_ca.specs.declared.command.Command.{Command}
use Rattle.rpki_ca.specs.declared.command.Command.TheVariants.{Content, Receive, Create, Setup, Make}
use Rattle.rpki_ca.specs.declared.receiving.Kind.{Kind}
use Rattle.rpki_ca.specs.declared.receiving.Received.{Received}
use Rattle.rpki_ca.specs.declared.refusals.Refusal.{Refusal}
use Rattle.rpki_ca.specs.Acceptance.{ReadsAs, accepted_text}
use Rattle.rpki_ca.specs.Answer.{AnswersSpelled, IsAnswer, octets_in}
use Rattle.rpki_ca.specs.Command.{IsCommand, ReadsInput}
use Rattle.rpki_ca.specs.Creation.{IsCreateRefusal}
use Rattle.rpki_ca.proofs.Answering.{IsRead}
use Rattle.rpki_ca.proofs.Laws.{CreateView, create_view, one_reading}
use Rattle.rpki_ca.proofs.Reasons.{reason, no_reason}

-- where `create` refuses its input, the moment has no window or the text is too long
pub create_unasked : {P : Type 0} (kind : Kind) (input : List ℕ) (when : ℤ) (m : Received) (a : Result (List ℕ) Refusal) → ReadsAs kind input m → ((HasWindow when → ⊥) ⊎ (2 ^ 31 < length (accepted_text m)) → P) → IsCreateRefusal kind input when a → P
create_unasked {P = P} kind input when m a r unasked refused = by_view (create_view kind input when a refused)
  where
    by_view : CreateView kind input when a → P
    by_view (inl p) = absurd (no_reason kind input m p.0 r (reason kind input p.0 p.2))
    by_view (inr (inl p)) = unasked (inl p.1.none)
    by_view (inr (inr p)) = unasked (inr (subst (λ (x : Received). 2 ^ 31 < length (accepted_text x)) (one_reading kind input p.1.message m p.1.reads r) p.1.long))

-- what was read is the input, where the command reads it
spelled_so : (scheme : Relation) (c : Command) (octets input : List ℕ) (a : Result (List ℕ) Refusal) → (ReadsInput c → octets ≡ input) → AnswersSpelled scheme c (octets_in c input) a → AnswersSpelled scheme c (octets_in c octets) a
spelled_so scheme Content octets input a same said = subst (λ o. AnswersSpelled scheme Content (octets_in Content o) a) (sym (same tt)) said
spelled_so scheme (Receive kind when keys) octets input a same said = subst (λ o. AnswersSpelled scheme (Receive kind when keys) (octets_in (Receive kind when keys) o) a) (sym (same tt)) said
spelled_so scheme (Create kind when) octets input a same said = subst (λ o. AnswersSpelled scheme (Create kind when) (octets_in (Create kind when) o) a) (sym (same tt)) said
spelled_so scheme (Setup kind when) octets input a same said = subst (λ o. AnswersSpelled scheme (Setup kind when) (octets_in (Setup kind when) o) a) (sym (same tt)) said
spelled_so scheme (Make count seed) octets input a same said = absurd said

pub unasked_here : {P : Type 0} (scheme : Relation) (words : List (List ℕ)) (octets : List ℕ) (told : Option (List ℕ)) (c : Command) (a : Result (List ℕ) Refusal) → IsCommand words c → IsRead c octets told → (AnswersSpelled scheme c (octets_in c octets) a → P)
    → IfSome told (λ input. IsAnswer scheme words input a → P)
unasked_here scheme words octets None c a is read unasked = tt
unasked_here scheme words octets (Some input) c a is read unasked =
    λ answer. unasked (spelled_so scheme c octets input a (λ reads. (read.1 reads).0) (answer.answers c is (λ reads. (read.1 reads).1)))
