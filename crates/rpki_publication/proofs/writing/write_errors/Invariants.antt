use Rattle.std.proofs.Common.{◌≡◌, ℕ, List, ◌++◌, length}
use Rattle.std.specs.Fmt.{HasWritten, IsPlainFormatter}
use Rattle.rpki_xml.specs.Element.{elements_of}
use Rattle.rpki_xml.specs.Spelling.{spelled_all}
use Rattle.rpki_publication.specs.ReportError.{report_error_element}
use Rattle.rpki_publication.proofs.writing.write_errors.Given as goal

abbrev pub invariant-items : goal.invariant-items
invariant-items g l =
    IsPlainFormatter l.initial.f
    → (front : List ℕ) × HasWritten g.W.Write.write_str_gives l.initial.f front l.f × (front ++ spelled_all (elements_of report_error_element l.left) ≡ spelled_all (elements_of report_error_element l.fn.errors))

abbrev pub decreases-items : goal.decreases-items
decreases-items g l = length l.left
