use Rattle.std.proofs.Common.{refl}
use Rattle.std.specs.Fmt.{digits}
use Rattle.rpki_der.specs.Arcs.{oid_text}
use Rattle.rpki_cert.proofs.object_identifiers.request_identifiers_have_texts.Goals as goal

pub returns-clause-request : goal.returns-clause-request
unfolding oid_text digits
returns-clause-request c = refl

pub returns-clause-usage : goal.returns-clause-usage
unfolding oid_text digits
returns-clause-usage c = refl

pub returns-clause-purposes : goal.returns-clause-purposes
unfolding oid_text digits
returns-clause-purposes c = refl

pub returns-clause-access : goal.returns-clause-access
unfolding oid_text digits
returns-clause-access c = refl

pub returns-clause-router : goal.returns-clause-router
unfolding oid_text digits
returns-clause-router c = refl

pub returns-clause-repository : goal.returns-clause-repository
unfolding oid_text digits
returns-clause-repository c = refl

pub returns-clause-manifest : goal.returns-clause-manifest
unfolding oid_text digits
returns-clause-manifest c = refl

pub returns-clause-notify : goal.returns-clause-notify
unfolding oid_text digits
returns-clause-notify c = refl
