use Rattle.std.proofs.Common.{◌≡◌, ◌<◌, ℕ, IfSome, Option, ap, length, refl, subst}
use Rattle.rpki_updown.specs.RequestResourceLimit.{IsContained, limited_set}
use Rattle.rpki_provisioning.specs.Writable.{IsWritableClass}
use Rattle.rpki_upserver.specs.Table.{entitled, with_issued}
use Rattle.rpki_upserver.specs.Response.{published}
use Rattle.rpki_upserver.proofs.Deciding.{IsSought, changed_so, left_so, not_there, there, within}
use Rattle.rpki_upserver.proofs.Issuing.{first_refuses, got_from, issued, limit_alike, more_than_held, no_class, not_issued, standing}
use Rattle.rpki_upserver.proofs.Tables.{all_at, parent_set}
use Rattle.rpki_upserver.proofs.parent.Parent.issue.Goals as goal

pub returns-in_default-clause-ok : goal.returns-in_default-clause-ok
returns-in_default-clause-ok g c =
    no_class g.P.Scheme.checks c.args.self.now c.args.self.now c.args.request.now (g.N.Issuer.state c.args.issuer.now)
    (not_there _ c.args.self.now c.args.request.now.class_name c.class_name.result.now c.deref.result.now c.place_named.result (record { view = c.self.view_is; named = c.class_name.ensures; lent = c.deref.ensures.value; found = c.place_named.ensures.place }) c.in_default.is)

pub returns-in-Some-refusal-clause-ok : goal.returns-in-Some-refusal-clause-ok
returns-in-Some-refusal-clause-ok g c =
    let s : IsSought _ c.args.self.now c.args.request.now.class_name c.class_name.result.now c.deref.result.now c.place_named.result = record { view = c.self.view_is; named = c.class_name.ensures; lent = c.deref.ensures.value; found = c.place_named.ensures.place } in
    let lt : c.in-Some.place < length c.deref.result.now = subst (λ (o : Option ℕ). IfSome o (λ place. place < length c.deref.result.now)) c.in-Some.is c.place_named.ensures.within in
    let at = standing c.self.inside.classes.items c.in-Some.place (subst (λ l. c.in-Some.place < length l) c.deref.ensures.value lt) in
    first_refuses g.P.Scheme.checks _ c.args.self.now c.args.request.now at.0 c.self.view_is
    (there _ c.args.self.now c.args.request.now.class_name c.class_name.result.now c.deref.result.now c.place_named.result c.in-Some.place at.0 s c.in-Some.is at.1)
    c.refusal.result (c.refusal.ensures at.0 (got_from _ c.args.self.now c.in-Some.place at.0 c.self.view_is (subst (λ l. c.in-Some.place < length l) c.deref.ensures.value lt) at.1))
    (g.N.Issuer.state c.args.issuer.now) c.in-Some-refusal.reason c.in-Some-refusal.is

pub returns-in_default-2-clause-ok : goal.returns-in_default-2-clause-ok
returns-in_default-2-clause-ok g c =
    let s : IsSought _ c.args.self.now c.args.request.now.class_name c.class_name.result.now c.deref.result.now c.place_named.result = record { view = c.self.view_is; named = c.class_name.ensures; lent = c.deref.ensures.value; found = c.place_named.ensures.place } in
    let class' = c.index_mut-class.result.now in
    more_than_held g.P.Scheme.checks _ c.args.self.now c.args.request.now class' c.self.view_is
    (there _ c.args.self.now c.args.request.now.class_name c.class_name.result.now c.deref.result.now c.place_named.result c.in-Some.place class' s c.in-Some.is c.index_mut-class.ensures.value)
    c.refusal.result (c.refusal.ensures class' (got_from _ c.args.self.now c.in-Some.place class' c.self.view_is (within _ c.args.self.now c.args.request.now.class_name c.class_name.result.now c.deref.result.now c.place_named.result c.in-Some.place class' s c.in-Some.is c.index_mut-class.ensures.value) c.index_mut-class.ensures.value))
    c.in_default-refusal.is (g.N.Issuer.state c.args.issuer.now) _
    (left_so _ c.args.self.now c.args.request.now.class_name c.class_name.result.now c.deref.result.now c.place_named.result c.in-Some.place class' s c.in-Some.is c.index_mut-class.ensures.value class' refl)
    (limit_alike (λ l r. IsContained l r → ⊥) c.limit.result.now c.args.request.now.limit c.resource_set.result.now class'.resource_set c.limit.ensures c.resource_set.ensures ((rw c.in_default-2.is at c.in_ok-set.ensures.none) refl))

pub invariant_of-self-in-Ok : goal.invariant_of-self-in-Ok
invariant_of-self-in-Ok g c =
    let s : IsSought _ c.args.self.now c.args.request.now.class_name c.class_name.result.now c.deref.result.now c.place_named.result = record { view = c.self.view_is; named = c.class_name.ensures; lent = c.deref.ensures.value; found = c.place_named.ensures.place } in
    let class' = c.index_mut-class.result.now in
    parent_set c.self.inside.me c.self.inside.child c.self.inside.classes.items c.in-Some.place class' c.issue.new.self
    (within _ c.args.self.now c.args.request.now.class_name c.class_name.result.now c.deref.result.now c.place_named.result c.in-Some.place class' s c.in-Some.is c.index_mut-class.ensures.value) c.index_mut-class.ensures.value
    (ap (λ x. x.class_name) c.in-Ok.ensures.ok.kept) c.issue.ensures.writable c.self.invariant

pub returns-in-Ok-clause-ok : goal.returns-in-Ok-clause-ok
returns-in-Ok-clause-ok g c =
    let s : IsSought _ c.args.self.now c.args.request.now.class_name c.class_name.result.now c.deref.result.now c.place_named.result = record { view = c.self.view_is; named = c.class_name.ensures; lent = c.deref.ensures.value; found = c.place_named.ensures.place } in
    let class' = c.index_mut-class.result.now in
    let lt = within _ c.args.self.now c.args.request.now.class_name c.class_name.result.now c.deref.result.now c.place_named.result c.in-Some.place class' s c.in-Some.is c.index_mut-class.ensures.value in
    let i = c.in-Ok.ensures.ok in
    issued g.P.Scheme.checks _ c.args.self.now c.args.request.now class' c.self.view_is
    (there _ c.args.self.now c.args.request.now.class_name c.class_name.result.now c.deref.result.now c.place_named.result c.in-Some.place class' s c.in-Some.is c.index_mut-class.ensures.value)
    c.refusal.result (c.refusal.ensures class' (got_from _ c.args.self.now c.in-Some.place class' c.self.view_is lt c.index_mut-class.ensures.value))
    c.in_default-refusal.is (g.N.Issuer.state c.args.issuer.now) (g.N.Issuer.state c.issue.new.issuer) c.in-Some.place c.in-Ok.at c.issue.new.self c.in-Some-2.set lt
    (limit_alike IsContained c.limit.result.now c.args.request.now.limit c.resource_set.result.now class'.resource_set c.limit.ensures c.resource_set.ensures (rw c.in-Some-2.is at c.in_ok-set.ensures.contained))
    (limit_alike (λ l r. c.in-Some-2.set ≡ limited_set l r) c.limit.result.now c.args.request.now.limit c.resource_set.result.now class'.resource_set c.limit.ensures c.resource_set.ensures (rw c.in-Some-2.is at c.in_ok-set.ensures.some))
    i
    (changed_so _ c.args.self.now c.args.request.now.class_name c.class_name.result.now c.deref.result.now c.place_named.result c.in-Some.place class' s c.in-Some.is c.index_mut-class.ensures.value c.issue.new.self (with_issued (published class' c.args.request.now i.cert)) c.self.invariant.0.distinct i.kept)
    (c.issue.ensures.writable (all_at (λ x. IsWritableClass (entitled x)) c.self.inside.classes.items c.in-Some.place class' class' lt c.index_mut-class.ensures.value c.self.invariant.1))

pub returns-in-Err-Failed-clause-ok : goal.returns-in-Err-Failed-clause-ok
returns-in-Err-Failed-clause-ok g c =
    let s : IsSought _ c.args.self.now c.args.request.now.class_name c.class_name.result.now c.deref.result.now c.place_named.result = record { view = c.self.view_is; named = c.class_name.ensures; lent = c.deref.ensures.value; found = c.place_named.ensures.place } in
    let class' = c.index_mut-class.result.now in
    not_issued g.P.Scheme.checks _ c.args.self.now c.args.request.now class' c.self.view_is
    (there _ c.args.self.now c.args.request.now.class_name c.class_name.result.now c.deref.result.now c.place_named.result c.in-Some.place class' s c.in-Some.is c.index_mut-class.ensures.value)
    c.refusal.result (c.refusal.ensures class' (got_from _ c.args.self.now c.in-Some.place class' c.self.view_is (within _ c.args.self.now c.args.request.now.class_name c.class_name.result.now c.deref.result.now c.place_named.result c.in-Some.place class' s c.in-Some.is c.index_mut-class.ensures.value) c.index_mut-class.ensures.value))
    c.in_default-refusal.is (g.N.Issuer.state c.args.issuer.now) (g.N.Issuer.state c.issue.new.issuer) _
    (left_so _ c.args.self.now c.args.request.now.class_name c.class_name.result.now c.deref.result.now c.place_named.result c.in-Some.place class' s c.in-Some.is c.index_mut-class.ensures.value c.issue.new.self c.in-Err-Failed.ensures.err_class)
    (limit_alike IsContained c.limit.result.now c.args.request.now.limit c.resource_set.result.now class'.resource_set c.limit.ensures c.resource_set.ensures (rw c.in-Some-2.is at c.in_ok-set.ensures.contained))
    (rw c.in-Err-Failed.field-0-is at c.in-Err-Failed.ensures.err)
