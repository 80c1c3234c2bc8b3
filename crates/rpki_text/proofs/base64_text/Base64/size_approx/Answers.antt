use Rattle.std.proofs.Common.{ℕ, ◌/◌, ◌*◌, List, length, ap, ◌∙◌}
use Rattle.rpki_text.proofs.Base64Laws.{held_is, length-encode, size_low, size_high}
use Rattle.rpki_text.proofs.base64_text.Base64.size_approx.Goals as goal

pub returns-clause-value : goal.returns-clause-value
returns-clause-value c =
    ap (λ (l : List ℕ). length l / 4 * 3) (c.as_str.ensures ∙ held_is c.self.inside.text c.args.self.now c.self.invariant c.self.view_is)

pub returns-clause-at_least : goal.returns-clause-at_least
returns-clause-at_least c =
    size_low (length c.args.self.now) (length c.as_str.result.now)
    (ap (λ (l : List ℕ). length l) (c.as_str.ensures ∙ held_is c.self.inside.text c.args.self.now c.self.invariant c.self.view_is) ∙ length-encode c.args.self.now)

pub returns-clause-at_most : goal.returns-clause-at_most
returns-clause-at_most c =
    size_high (length c.args.self.now) (length c.as_str.result.now)
    (ap (λ (l : List ℕ). length l) (c.as_str.ensures ∙ held_is c.self.inside.text c.args.self.now c.self.invariant c.self.view_is) ∙ length-encode c.args.self.now)
