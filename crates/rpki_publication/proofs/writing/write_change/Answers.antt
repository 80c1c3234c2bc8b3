use Rattle.std.proofs.Common.{rules}
use Rattle.rpki_publication.specs.Change.{change_element}
use Rattle.rpki_publication.proofs.writing.write_change.Goals as goal

pub returns-in-Publish : goal.returns-in-Publish
unfolding change_element
returns-in-Publish g c = search rules

pub returns-in-Update : goal.returns-in-Update
unfolding change_element
returns-in-Update g c = search rules

pub returns-in-Withdraw : goal.returns-in-Withdraw
unfolding change_element
returns-in-Withdraw g c = search rules
