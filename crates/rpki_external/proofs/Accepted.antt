-- What is finished is accepted.
use Rattle.std.proofs.Common.{◌≡◌, inl, inr, ℕ, ℤ, Result, Ok, Err, List, [], ◌++◌, refl, sym, subst}
use Rattle.rpki_base.specs.PublicKey.{KeyFields}
use Rattle.rpki_base.specs.Scheme.{Relation}
use Rattle.rpki_der.specs.declared.mode.Mode.TheVariants.{Ber}
use Rattle.rpki_sigmsg.specs.Checks.{IsAmong}
use Rattle.rpki_sigmsg.specs.Spelling.{CanSpellMessage, rewritten}
use Rattle.rpki_publication.proofs.Writable as publication
use Rattle.rpki_provisioning.proofs.Writables as provisioning
use Rattle.rpki_ca.specs.Acceptance.{IsWritable, ReadsAs, accepted_text, normal_form}
use Rattle.rpki_ca.specs.Seen.{Seen}
use Rattle.rpki_ca.specs.declared.receiving.Kind.{Kind}
use Rattle.rpki_ca.specs.declared.receiving.Kind.TheVariants as kinds
use Rattle.rpki_ca.specs.declared.receiving.Received.{Received}
use Rattle.rpki_ca.specs.declared.receiving.Received.TheVariants as received
use Rattle.rpki_ca.specs.declared.refusals.Refusal.TheVariants as refusals
use Rattle.rpki_ca.proofs.Creating.{of_protocol, read_again}
use Rattle.rpki_ca.proofs.Ended.{no_eleven, no_refusal}
use Rattle.rpki_external.specs.KeysRefusal.{keys_status_of}
use Rattle.rpki_external.specs.Making.{AreShort, AreSignatures, CanPrepare, IsAcceptedSo, IsInWindow, finished}
use Rattle.rpki_external.specs.Running.{EndsKeysTask, EndsOn, EndsRefusedSo, Finishes, IsFinishAnswer, IsTaskAnswer, Written}
use Rattle.rpki_external.specs.declared.keys_refusal.KeysRefusal.{KeysRefusal}
use Rattle.rpki_external.specs.declared.keys_refusal.KeysRefusal.TheVariants as keys_refusals
use Rattle.rpki_external.specs.declared.preparing.Plan.{Plan}
use Rattle.rpki_external.specs.declared.preparing.Signatures.{Signatures}
use Rattle.rpki_external.specs.declared.task.Finished.TheVariants as finished_task
use Rattle.rpki_external.specs.declared.task.Task.TheVariants.{Finish}
use Rattle.rpki_external.proofs.Finishing.{finished_again, finished_believed}

-- what was read is writable
read_writable : (kind : Kind) (input : List ℕ) (m : Received) → ReadsAs kind input m → IsWritable m
read_writable kinds.Publication input (received.Publication m) r = publication.message_writable input m r
read_writable kinds.Publication input (received.Provisioning m) r = absurd r
read_writable kinds.Provisioning input (received.Provisioning m) r = provisioning.message_writable input m r
read_writable kinds.Provisioning input (received.Publication m) r = absurd r

-- a refusal doesn't end with 0
pub never : (refusal : KeysRefusal) (sink : Seen) → EndsRefusedSo refusal 0 sink → ⊥
never refusal sink (inr e) = no_eleven e.0
never (keys_refusals.General refusal) sink (inl e) = no_refusal refusal sink (inl e)
never keys_refusals.OtherQuestions sink (inl e) = let no : 0 ≡ 14 = e.0 in cc
never keys_refusals.Signature sink (inl e) = let no : 0 ≡ 6 = e.0 in cc
never keys_refusals.NoTime sink (inl e) = let no : 0 ≡ 15 = e.0 in cc
never (keys_refusals.Replayed before seen) sink (inl e) = let no : 0 ≡ 15 = e.0 in cc

module _ (scheme : Relation) (kind : Kind) (p : Plan) (s : Signatures) (input : List ℕ) where
  reads_form : (m : Received) → ReadsAs kind input m → ReadsAs kind (accepted_text m) (normal_form m)
  reads_form m r = subst (λ (k : Kind). ReadsAs k (accepted_text m) (normal_form m)) (sym (of_protocol kind input m r)) (read_again m (read_writable kind input m r))

  pub accepted_so : (m : Received) → ReadsAs kind input m → CanPrepare (accepted_text m) p → AreShort s → CanSpellMessage (finished (accepted_text m) p s)
      → IsAcceptedSo scheme kind m p s (rewritten (finished (accepted_text m) p s))
  accepted_so m reads can short spelled = record {
    are = refl;
    accepted = λ signed list among when within rest. record {
      signed = finished (accepted_text m) p s;
      begins = finished_again (accepted_text m) p s can short Ber rest spelled;
      believed = record {
        key = p.issuing_key;
        among = among;
        believed = finished_believed scheme (accepted_text m) p s when can short signed within;
      };
      reads = reads_form m reads;
    };
  }

  pub finishes : (sink : Seen) → EndsKeysTask (Finish (finished_task.Message kind p s)) input 0 sink → Finishes scheme kind p s input sink
  finishes sink (inr memory) = absurd (no_refusal refusals.OutOfMemory sink memory)
  finishes sink (inl ended) = by_answer ended.answer ended.is ended.ends
    where
      by_answer : (a : Written) → IsTaskAnswer (Finish (finished_task.Message kind p s)) input a → EndsOn a 0 sink → Finishes scheme kind p s input sink
      by_answer (Ok output) is (inl e) = record {
        message = is.message;
        reads = is.reads;
        octets = rewritten (finished (accepted_text is.message) p s);
        is = accepted_so is.message is.reads is.answered.0 is.answered.1 is.answered.2;
        written = rw is.answered.3 at e.1;
      }
      by_answer (Ok output) is (inr e) = absurd (no_eleven e.0)
      by_answer (Err refusal) is ends = absurd (never refusal sink ends)
