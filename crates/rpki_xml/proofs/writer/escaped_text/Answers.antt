use Rattle.std.proofs.Common.{◌≡◌, ◌++◌, List, ℕ, subst, sym, ap₂, ◌∙◌}
use Rattle.std.specs.Prelude.{IsOk}
use Rattle.std.specs.Str.{IsUtf8}
use Rattle.rpki_xml.specs.Spelling.{spelled_text}
use Rattle.rpki_xml.proofs.Escapes.{text_is_text}
use Rattle.rpki_xml.proofs.writer.escaped_text.Goals as goal

pub unreachable-requires : goal.unreachable-requires
unreachable-requires c =
    let made : c.put_text.new.out.items ≡ spelled_text c.args.text.now =
    c.in_ok-put_text.ensures ∙ ap₂ (λ (a b : List ℕ). a ++ spelled_text b) c.new-out.ensures.items c.as_bytes.ensures.value in
    let read = subst IsOk c.in-Err.is (c.from_utf8.ensures.succeeds (subst IsUtf8 (sym made) (text_is_text c.args.text.now c.utf8.text))) in
    cc
