use Rattle.std.proofs.Common.{[], ◌∷◌, ◌++◌, refl, ap, ◌∙◌}
use Rattle.rpki_der.specs.declared.tree.Entry.{Entry}
use Rattle.rpki_der.proofs.Growing.{over_ok, into_ok}
use Rattle.rpki_der.proofs.index.descend.Goals as goal

pub returns-in_ok-push-in-Some-Primitive-clause-ok :
    goal.returns-in_ok-push-in-Some-Primitive-clause-ok
returns-in_ok-push-in-Some-Primitive-clause-ok c =
    let part = rw c.in-Some-Primitive.field-0-is at c.in-Some-Primitive.ensures.found in
    let noted = c.in_ok-push-in-Some-Primitive.ensures.items ∙ ap (λ (e : Entry). c.args.entries.now.items ++ e ∷ []) c.primitive_entry.ensures in
    over_ok _ _ _ _ _ _ c.args.levels.now.items _ _ _ _ _ part.1 refl refl refl noted

pub returns-in_ok-push-in-Some-Constructed-2-clause-ok :
    goal.returns-in_ok-push-in-Some-Constructed-2-clause-ok
returns-in_ok-push-in-Some-Constructed-2-clause-ok c =
    let part = rw c.in-Some-Constructed.field-0-is at c.in-Some-Constructed.ensures.found in
    let noted = c.in_ok-push-in-Some-Constructed.ensures.items ∙ ap (λ (e : Entry). c.args.entries.now.items ++ e ∷ []) c.opening_entry.ensures in
    into_ok _ _ _ _ _ _ (record { extent = c.in-Some-Constructed.open; entry = c.len-entry.result; before = c.args.here }) _ _ _ _ _ _ part (c.len-entry.ensures ∙ c.args.entries.now.ok.0) refl refl refl refl refl noted c.in_ok-push-in-Some-Constructed-2.ensures.items
