use Rattle.std.proofs.Common.{ap, refl}
use Rattle.std.specs.Prelude.{is_some}
use Rattle.rpki_upserver.specs.Table.{with_revoked}
use Rattle.rpki_upserver.proofs.Deciding.{IsSought, changed_so, left_so, no_class_to_revoke, no_key_to_revoke, not_revoked, not_there, revoked, there, within}
use Rattle.rpki_upserver.proofs.Tables.{parent_set}
use Rattle.rpki_upserver.proofs.parent.Parent.revoke.Goals as goal

pub returns-in_default-clause-ok : goal.returns-in_default-clause-ok
returns-in_default-clause-ok g c =
    no_class_to_revoke g.P.Scheme.checks c.args.self.now c.args.self.now c.args.request.now (g.N.Issuer.state c.args.issuer.now)
    (not_there _ c.args.self.now c.args.request.now.class_name c.class_name.result.now c.deref.result.now c.place_named.result (record { view = c.self.view_is; named = c.class_name.ensures; lent = c.deref.ensures.value; found = c.place_named.ensures.place }) c.in_default.is)

pub returns-in_default-place_of-clause-ok : goal.returns-in_default-place_of-clause-ok
returns-in_default-place_of-clause-ok g c =
    let s : IsSought _ c.args.self.now c.args.request.now.class_name c.class_name.result.now c.deref.result.now c.place_named.result = record { view = c.self.view_is; named = c.class_name.ensures; lent = c.deref.ensures.value; found = c.place_named.ensures.place } in
    let class' = c.index_mut-class.result.now in
    no_key_to_revoke g.P.Scheme.checks _ c.args.self.now c.args.request.now class' c.self.view_is
    (there _ c.args.self.now c.args.request.now.class_name c.class_name.result.now c.deref.result.now c.place_named.result c.in-Some.place class' s c.in-Some.is c.index_mut-class.ensures.value)
    (g.N.Issuer.state c.args.issuer.now) _ c.key.result c.place_of.result
    (left_so _ c.args.self.now c.args.request.now.class_name c.class_name.result.now c.deref.result.now c.place_named.result c.in-Some.place class' s c.in-Some.is c.index_mut-class.ensures.value class' refl)
    c.key.ensures c.place_of.ensures.issued.1 c.in_default-place_of.is

pub invariant_of-self-in-Ok : goal.invariant_of-self-in-Ok
invariant_of-self-in-Ok g c =
    let s : IsSought _ c.args.self.now c.args.request.now.class_name c.class_name.result.now c.deref.result.now c.place_named.result = record { view = c.self.view_is; named = c.class_name.ensures; lent = c.deref.ensures.value; found = c.place_named.ensures.place } in
    let class' = c.index_mut-class.result.now in
    parent_set c.self.inside.me c.self.inside.child c.self.inside.classes.items c.in-Some.place class' c.revoke.new.self
    (within _ c.args.self.now c.args.request.now.class_name c.class_name.result.now c.deref.result.now c.place_named.result c.in-Some.place class' s c.in-Some.is c.index_mut-class.ensures.value) c.index_mut-class.ensures.value
    (ap (λ x. x.class_name) c.in-Ok.ensures.ok.1) c.revoke.ensures.writable c.self.invariant

pub returns-in-Ok-clause-ok : goal.returns-in-Ok-clause-ok
returns-in-Ok-clause-ok g c =
    let s : IsSought _ c.args.self.now c.args.request.now.class_name c.class_name.result.now c.deref.result.now c.place_named.result = record { view = c.self.view_is; named = c.class_name.ensures; lent = c.deref.ensures.value; found = c.place_named.ensures.place } in
    let class' = c.index_mut-class.result.now in
    revoked g.P.Scheme.checks _ c.args.self.now c.args.request.now class' c.self.view_is
    (there _ c.args.self.now c.args.request.now.class_name c.class_name.result.now c.deref.result.now c.place_named.result c.in-Some.place class' s c.in-Some.is c.index_mut-class.ensures.value)
    (g.N.Issuer.state c.args.issuer.now) (g.N.Issuer.state c.revoke.new.issuer) _ c.key.result c.key-2.result c.in_ok-revoked.revoked c.key.ensures (c.place_of.ensures.issued.0 (ap is_some c.in-Some-place_of.is)) c.key-2.ensures c.in-Ok.ensures.ok.0
    (changed_so _ c.args.self.now c.args.request.now.class_name c.class_name.result.now c.deref.result.now c.place_named.result c.in-Some.place class' s c.in-Some.is c.index_mut-class.ensures.value c.revoke.new.self (with_revoked c.key-2.result) c.self.invariant.0.distinct c.in-Ok.ensures.ok.1)
    c.in_ok-revoked.ensures c.requires

pub returns-in-Err-Failed-clause-ok : goal.returns-in-Err-Failed-clause-ok
returns-in-Err-Failed-clause-ok g c =
    let s : IsSought _ c.args.self.now c.args.request.now.class_name c.class_name.result.now c.deref.result.now c.place_named.result = record { view = c.self.view_is; named = c.class_name.ensures; lent = c.deref.ensures.value; found = c.place_named.ensures.place } in
    let class' = c.index_mut-class.result.now in
    not_revoked g.P.Scheme.checks _ c.args.self.now c.args.request.now class' c.self.view_is
    (there _ c.args.self.now c.args.request.now.class_name c.class_name.result.now c.deref.result.now c.place_named.result c.in-Some.place class' s c.in-Some.is c.index_mut-class.ensures.value)
    (g.N.Issuer.state c.args.issuer.now) (g.N.Issuer.state c.revoke.new.issuer) _ c.key.result
    (left_so _ c.args.self.now c.args.request.now.class_name c.class_name.result.now c.deref.result.now c.place_named.result c.in-Some.place class' s c.in-Some.is c.index_mut-class.ensures.value c.revoke.new.self c.in-Err-Failed.ensures.err_class)
    c.key.ensures (c.place_of.ensures.issued.0 (ap is_some c.in-Some-place_of.is)) (rw c.in-Err-Failed.field-0-is at c.in-Err-Failed.ensures.err)
