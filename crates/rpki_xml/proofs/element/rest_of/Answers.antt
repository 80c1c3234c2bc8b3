use Rattle.rpki_xml.proofs.element.rest_of.Goals as goal

pub returns-in-None : goal.returns-in-None
returns-in-None c = λ source. rw c.in-None.is (c.rest_without_namespace.ensures source)
