use Rattle.std.proofs.Common.{◌≡◌, ℕ, List, ◌++◌}
use Rattle.std.specs.Fmt.{HasWritten, IsPlainFormatter}
use Rattle.std.specs.Str.Iter.{chars_rest}
use Rattle.rpki_xml.specs.Spelling.{spelled_text}
use Rattle.rpki_xmltext.proofs.printing.write_text.Given as goal

abbrev pub invariant-loop-c : goal.invariant-loop-c
invariant-loop-c g l =
    IsPlainFormatter l.initial.f
    → (front : List ℕ) × HasWritten g.W.Write.write_str_gives l.initial.f (spelled_text front) l.f × (front ++ chars_rest l.c-iterator ≡ l.fn.text)
