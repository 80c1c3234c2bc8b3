use Rattle.std.proofs.Common.{◌∙◌}
use Rattle.rpki_text.proofs.Pieces.{write_more}
use Rattle.rpki_text.proofs.writing.write_all.Goals as goal

pub writing-preserved : goal.writing-preserved
writing-preserved g c =
    let inv = c.writing.invariant in record {
      kept = c.in_ok-count.ensures.kept ∙ inv.kept;
      appended = write_more _ _ _ _ inv.appended.0 c.writing.rest.now c.in_ok-count.count
          inv.appended.1 inv.appended.2 c.in_ok-count.ensures.next c.in_ok-count.ensures.bound;
    }
