use Rattle.std.proofs.Common.{rules}
use Rattle.rpki_publication.specs.Change.{query_pdu_element}
use Rattle.rpki_publication.proofs.writing.write_query_pdu.Goals as goal

pub returns-in-List : goal.returns-in-List
unfolding query_pdu_element
returns-in-List g c = λ plain ok. rw c.in-List.is (c.write_str.ensures.writes plain ok)

pub returns-in-PublishDeltaElement : goal.returns-in-PublishDeltaElement
unfolding query_pdu_element
returns-in-PublishDeltaElement g c = search rules
