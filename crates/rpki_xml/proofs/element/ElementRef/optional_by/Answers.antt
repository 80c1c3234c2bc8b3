use Rattle.std.proofs.Common.{◌≡◌, List, ℕ, Option, Some, None, refl, sym, ap, ◌∙◌}
use Rattle.std.proofs.lemmas.Result.{err_from_is_err_and}
use Rattle.std.specs.Option.{option_copied}
use Rattle.rpki_common.specs.Chaining.{◌>>=◌}
use Rattle.rpki_xml.specs.Element.{Head}
use Rattle.rpki_xml.specs.Tables.{optional, optional_by}
use Rattle.rpki_xml.proofs.element.ElementRef.optional_by.Goals as goal

fails : {X : Type 0} (reading : List ℕ → Option X) (local : List ℕ) (h : Head) → optional local h ≡ None → optional_by reading local h ≡ None
unfolding optional_by ◌>>=◌
fails reading local h e = rw e refl

absent : {X : Type 0} (reading : List ℕ → Option X) (local : List ℕ) (h : Head) → optional local h ≡ Some None → optional_by reading local h ≡ Some None
unfolding optional_by ◌>>=◌
absent reading local h e = rw e refl

unlawful : {X : Type 0} (reading : List ℕ → Option X) (local : List ℕ) (h : Head) (text : List ℕ) → optional local h ≡ Some (Some text) → None ≡ reading text → optional_by reading local h ≡ None
unfolding optional_by ◌>>=◌
unlawful reading local h text e read = rw (e, sym read) refl

lawful : {X : Type 0} (reading : List ℕ → Option X) (local : List ℕ) (h : Head) (text : List ℕ) (x : X) → optional local h ≡ Some (Some text) → Some x ≡ reading text → optional_by reading local h ≡ Some (Some x)
unfolding optional_by ◌>>=◌
lawful reading local h text x e read = rw (e, sym read) refl

pub returns-in_err-value : goal.returns-in_err-value
returns-in_err-value g c = λ reading says.
    let p = err_from_is_err_and c.from_residual.result c.from_residual.ensures.1 in
    rw p.1 (fails reading c.args.local.now c.args.self.now.head c.in_err-value.ensures)

pub returns-in_default : goal.returns-in_default
returns-in_default g c = λ reading says.
    absent reading c.args.local.now c.args.self.now.head (c.in_ok-value.ensures ∙ ap (λ o. Some (option_copied o)) c.in_default.is)

pub returns-in-None : goal.returns-in-None
returns-in-None g c = λ reading says.
    unlawful reading c.args.local.now c.args.self.now.head c.in-Some.value.now (c.in_ok-value.ensures ∙ ap (λ o. Some (option_copied o)) c.in-Some.is)
    (says c.in-Some.value.now None (c.in-Some.value, c.in-None.ensures, refl))

pub returns-in-Some-rule : goal.returns-in-Some-rule
returns-in-Some-rule g c = λ reading says.
    lawful reading c.args.local.now c.args.self.now.head c.in-Some.value.now c.in-Some-rule.read (c.in_ok-value.ensures ∙ ap (λ o. Some (option_copied o)) c.in-Some.is)
    (says c.in-Some.value.now (Some c.in-Some-rule.read) (c.in-Some.value, c.in-Some-rule.ensures, refl))
