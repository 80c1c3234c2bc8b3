use Rattle.std.proofs.Common.{◌≡◌}
use Rattle.rpki_xml.specs.Tables.{each_of}
use Rattle.rpki_xml.proofs.Each.{with_front}
use Rattle.rpki_publication.specs.ReportError.{report_error_in}
use Rattle.rpki_publication.proofs.reading.errors_in.Given as goal

abbrev pub invariant-elements : goal.invariant-elements
invariant-elements l = with_front l.errors.items (each_of report_error_in l.children) ≡ each_of report_error_in l.fn.root.children
