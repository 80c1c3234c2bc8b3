use Rattle.std.proofs.Common.{rules}
use Rattle.std.proofs.lemmas.Grind.{put_three}
use Rattle.rpki_publication.proofs.Texts.{failed_text}
use Rattle.rpki_publication.proofs.writing.write_failed.Goals as goal

pub returns-in_ok-write_query_pdu-in-Some : goal.returns-in_ok-write_query_pdu-in-Some
returns-in_ok-write_query_pdu-in-Some g c = λ plain ok.
    let one = c.write_str.ensures.writes plain (search rules) in
    let two = c.write_query_pdu.ensures one.plain (search rules) in
    rw c.in-Some.is (put_three _ _ _ _ _ _ _ _ _ one two (c.write_str-in-Some.ensures.writes two.plain ok) (failed_text c.in-Some.pdu.now))
