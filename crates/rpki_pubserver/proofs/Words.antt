-- Words name one moment, one base and one key; and a run that ends on what they name.
use Rattle.std.proofs.Common.{◌≡◌, ◌∙◌, ℕ, ℤ, List, sym, subst}
use Rattle.rpki_common.proofs.Truths.{same_some}
use Rattle.rpki_base.specs.PublicKey.{KeyFields}
use Rattle.rpki_base.specs.Scheme.{Relation}
use Rattle.rpki_ca.specs.Seen.{Seen, SignerSeen}
use Rattle.rpki_ca.proofs.Commands.{one_moment_at}
use Rattle.rpki_pubserver.specs.Running.{AreServerWords, EndsServerRun, new_server}

-- how it ends by the words, by whatever they are said to name
abbrev EndsBy : {I : Type 0} → Relation → SignerSeen I → ℕ → Seen → Seen → ℤ → List ℕ → KeyFields → Type 0
EndsBy scheme signer status source sink when base publisher = EndsServerRun scheme when signer (new_server base publisher) status source sink

pub ends_by : {I : Type 0} (scheme : Relation) (signer : SignerSeen I) (status : ℕ) (source sink : Seen) (words : List (List ℕ)) (when other : ℤ) (base other_base : List ℕ) (key other_key : KeyFields)
    → AreServerWords words when base key → AreServerWords words other other_base other_key → EndsBy scheme signer status source sink when base key → EndsBy scheme signer status source sink other other_base other_key
ends_by scheme signer status source sink words when other base other_base key other_key a b ends =
    let moment : when ≡ other = one_moment_at words 0 when other a.moment b.moment in
    let text : base ≡ other_base = same_some base other_base (sym a.stands ∙ b.stands) in
    let keys : key ≡ other_key = same_some key other_key (sym a.key ∙ b.key) in
    subst (λ (w : ℤ). EndsBy scheme signer status source sink w other_base other_key) moment
    (subst (λ (l : List ℕ). EndsBy scheme signer status source sink when l other_key) text
    (subst (λ (k : KeyFields). EndsBy scheme signer status source sink when base k) keys ends))
