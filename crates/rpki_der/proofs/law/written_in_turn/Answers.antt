use Rattle.rpki_der.proofs.Written.{spells_none, spells_followed, spells_primitive, spells_constructed, spells_one}
use Rattle.rpki_der.proofs.law.written_in_turn.Goals as goal

pub returns-clause-nothing : goal.returns-clause-nothing
returns-clause-nothing c = spells_none

pub returns-clause-followed : goal.returns-clause-followed
returns-clause-followed c = spells_followed

pub returns-clause-primitive : goal.returns-clause-primitive
returns-clause-primitive c = spells_primitive

pub returns-clause-constructed : goal.returns-clause-constructed
returns-clause-constructed c = spells_constructed

pub returns-clause-raw : goal.returns-clause-raw
returns-clause-raw c = λ mode octets rest v b. spells_one mode v b.lawful
