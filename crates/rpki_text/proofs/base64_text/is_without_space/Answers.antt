use Rattle.rpki_text.proofs.Base64Laws.{without_any}
use Rattle.rpki_text.proofs.base64_text.is_without_space.Goals as goal

pub returns : goal.returns
returns c = without_any c.args.text.now _ _ _ _ c.contains-tab.ensures.value c.contains-line_feed.ensures.value c.contains-carriage_return.ensures.value c.contains-space.ensures.value
