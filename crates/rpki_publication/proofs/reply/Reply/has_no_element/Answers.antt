use Rattle.std.proofs.Common.{◌∙◌}
use Rattle.rpki_publication.specs.ListReply.{list_element}
use Rattle.rpki_publication.specs.ReportError.{report_error_element}
use Rattle.rpki_xmltext.proofs.Elements.{none_is}
use Rattle.rpki_publication.proofs.reply.Reply.has_no_element.Goals as goal

pub returns-in-List : goal.returns-in-List
returns-in-List c = rw c.in-List.is (rw c.elements.ensures at c.is_empty.ensures ∙ none_is list_element c.in-List.list)

pub returns-in-ErrorReply : goal.returns-in-ErrorReply
returns-in-ErrorReply c = rw c.in-ErrorReply.is (rw c.errors.ensures at c.is_empty-in-ErrorReply.ensures ∙ none_is report_error_element c.in-ErrorReply.errors)
