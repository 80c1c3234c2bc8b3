use Rattle.rpki_xmltext.proofs.Characters.{bare_spelled}
use Rattle.rpki_xmltext.proofs.printing.is_bare.Goals as goal

pub returns : goal.returns
returns c =
    bare_spelled c.args.value.now _ _ _ _ _ c.contains-quote.ensures.value c.contains-apostrophe.ensures.value c.contains-ampersand.ensures.value c.contains-less.ensures.value c.contains-greater.ensures.value
