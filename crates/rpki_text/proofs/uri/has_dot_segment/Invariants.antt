use Rattle.std.proofs.Common.{◌≡◌, ◌+◌, [], length}
use Rattle.std.specs.List.{list_any, slice_split}
use Rattle.std.specs.Option.{option_map_or}
use Rattle.rpki_text.specs.Uri.{is_slash, is_dot_segment, has_dot_segment}
use Rattle.rpki_text.proofs.uri.has_dot_segment.Given as goal

abbrev pub invariant-segments : goal.invariant-segments
invariant-segments l = list_any is_dot_segment (option_map_or (λ text. slice_split is_slash text.now) l.path []) ≡ has_dot_segment (slice_split is_slash l.rest)

abbrev pub decreases-segments : goal.decreases-segments
decreases-segments l = option_map_or (λ text. length text.now + 1) l.path 0
