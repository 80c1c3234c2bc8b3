use Rattle.rpki_xml.proofs.AttributeSpellings.{attribute_stands, attribute_read}
use Rattle.rpki_xml.proofs.ReadAttributes.{attribute_both}
use Rattle.rpki_xml.proofs.law.spelled_attributes_are_read.Goals as goal

pub returns-clause-stands : goal.returns-clause-stands
returns-clause-stands c = attribute_stands

pub returns-clause-read : goal.returns-clause-read
returns-clause-read c = attribute_read

pub returns-clause-both_ways : goal.returns-clause-both_ways
returns-clause-both_ways c = attribute_both
