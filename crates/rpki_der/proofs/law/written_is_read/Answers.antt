use Rattle.rpki_der.proofs.Written.{begins_primitive, begins_constructed, shows_primitive, shows_constructed}
use Rattle.rpki_der.proofs.law.written_is_read.Goals as goal

pub returns-clause-primitive : goal.returns-clause-primitive
returns-clause-primitive c = begins_primitive

pub returns-clause-constructed : goal.returns-clause-constructed
returns-clause-constructed c = begins_constructed

pub returns-clause-primitive_shows : goal.returns-clause-primitive_shows
returns-clause-primitive_shows c = shows_primitive

pub returns-clause-constructed_shows : goal.returns-clause-constructed_shows
returns-clause-constructed_shows c = shows_constructed
