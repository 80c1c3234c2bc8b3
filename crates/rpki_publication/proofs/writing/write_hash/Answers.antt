use Rattle.std.proofs.Common.{rules}
use Rattle.std.proofs.lemmas.Grind.{put_three}
use Rattle.rpki_publication.proofs.Digits.{hash_spelled}
use Rattle.rpki_publication.proofs.writing.write_hash.Goals as goal

pub returns : goal.returns
returns g c = λ plain ok.
    let one = c.write_str.ensures.writes plain (search rules) in
    let two = c.fmt.ensures.writes one.plain (search rules) in
    put_three _ _ _ _ _ _ _ _ _ one two (c.write_str-2.ensures.writes two.plain ok) (hash_spelled c.args.hash.now)
