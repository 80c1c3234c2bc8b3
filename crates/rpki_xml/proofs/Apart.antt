-- Text, namespace and attributes of an element that are taken apart, and put together with another text.
use Rattle.std.proofs.Common.{◌≡◌, ℕ, List, ◌++◌, Option, Some, None, Result, refl, sym, ap, subst, ◌∙◌}
use Rattle.rpki_common.specs.Chaining.{◌>>=◌}
use Rattle.rpki_common.proofs.Truths.{same_some}
use Rattle.rpki_xml.specs.declared.element.Rest.{Rest}
use Rattle.rpki_xml.specs.declared.error.XmlError.{XmlError}
use Rattle.rpki_xml.specs.declared.error.XmlError.TheVariants as errors
use Rattle.rpki_xml.specs.Answers.{Fails, Gives}
use Rattle.rpki_xml.specs.Stack.{open_text, settled_parts, with_part, with_more_text}
use Rattle.rpki_xml.specs.Views.{Parts, parts_in}

pub run_put : (source text run : List ℕ) (p q : Parts) (r : Result Rest XmlError) → Some (p.text ++ run) ≡ Some text → p ≡ q → Gives (Some (with_part text p)) (parts_in source) r → Gives (Some (with_more_text run q)) (parts_in source) r
run_put source text run p q r joined is gives =
    let same : with_part text p ≡ with_more_text run q = ap (λ (t : List ℕ). with_part t p) (sym (same_some (p.text ++ run) text joined)) ∙ ap (with_more_text run) is in
    subst (λ (x : Parts). Gives (Some x) (parts_in source) r) same gives

settled_some : (below : ℕ) (p : Parts) (text : List ℕ) → open_text below p.text ≡ Some text → settled_parts below p ≡ Some (with_part text p)
unfolding settled_parts ◌>>=◌
settled_some below p text e = rw e refl

settled_none : (below : ℕ) (p : Parts) → open_text below p.text ≡ None → settled_parts below p ≡ None
unfolding settled_parts ◌>>=◌
settled_none below p e = rw e refl

pub settled_put : (source : List ℕ) (below : ℕ) (text : List ℕ) (p q : Parts) (r : Result Rest XmlError) → open_text below p.text ≡ Some text → p ≡ q → Gives (Some (with_part text p)) (parts_in source) r → Gives (settled_parts below q) (parts_in source) r
settled_put source below text p q r e is gives =
    let same : Some (with_part text p) ≡ settled_parts below q = sym (settled_some below p text e) ∙ ap (settled_parts below) is in
    subst (λ (x : Option Parts). Gives x (parts_in source) r) same gives

pub settled_fails : (e : XmlError) (below : ℕ) (p q : Parts) → p ≡ q → Fails e (open_text below p.text) → Fails e (settled_parts below q)
settled_fails errors.OutOfMemory below p q is fails = tt
settled_fails errors.Malformed below p q is fails = ap (settled_parts below) (sym is) ∙ settled_none below p fails
