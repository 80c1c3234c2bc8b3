-- Words name one moment and one key; and a run that ends on what they name.
use Rattle.std.proofs.Common.{◌≡◌, ◌∙◌, ℕ, ℤ, List, sym, subst}
use Rattle.rpki_common.proofs.Truths.{same_some}
use Rattle.rpki_base.specs.PublicKey.{KeyFields}
use Rattle.rpki_base.specs.Scheme.{Relation}
use Rattle.rpki_updown.specs.Entitlements.{SigningFields}
use Rattle.rpki_ca.specs.Seen.{Seen, SignerSeen}
use Rattle.rpki_ca.proofs.Commands.{one_moment_at}
use Rattle.rpki_upserver.specs.Issuer.{IssuerState}
use Rattle.rpki_upserver.specs.Running.{AreParentWords, EndsParentRun, run_of}

-- how it ends by the words, by whatever they are said to name
abbrev EndsBy : {I : Type 0} → Relation → SigningFields → IssuerState → IssuerState → SignerSeen I → ℕ → Seen → Seen → ℤ → KeyFields → Type 0
EndsBy scheme signing one other signer status source sink when key = EndsParentRun scheme (run_of when key signing one other signer) status source sink

pub ends_by : {I : Type 0} (scheme : Relation) (signing : SigningFields) (one two : IssuerState) (signer : SignerSeen I) (status : ℕ) (source sink : Seen) (words : List (List ℕ)) (when other : ℤ) (key other_key : KeyFields)
    → AreParentWords words when key → AreParentWords words other other_key → EndsBy scheme signing one two signer status source sink when key → EndsBy scheme signing one two signer status source sink other other_key
ends_by scheme signing one two signer status source sink words when other key other_key a b ends =
    let moment : when ≡ other = one_moment_at words 0 when other a.moment b.moment in
    let keys : key ≡ other_key = same_some key other_key (sym a.key_is ∙ b.key_is) in
    subst (λ (w : ℤ). EndsBy scheme signing one two signer status source sink w other_key) moment
    (subst (λ (k : KeyFields). EndsBy scheme signing one two signer status source sink when k) keys ends)
