use Rattle.rpki_publication.proofs.Equal.{lists_same}
use Rattle.rpki_publication.proofs.law.equal_lists_are_the_same.Goals as goal

pub returns-clause-delta : goal.returns-clause-delta
returns-clause-delta c = lists_same _ c.equal_values_are_the_same.ensures.change

pub returns-clause-list : goal.returns-clause-list
returns-clause-list c = lists_same _ c.equal_values_are_the_same.ensures.object

pub returns-clause-errors : goal.returns-clause-errors
returns-clause-errors c = lists_same _ c.equal_reports_are_the_same.ensures
