-- Answers that a request was not performed, as elements (RFC 6492, 3.6); but `xml:lang` of a
-- description is neither asked for nor written.
use Rattle.std.specs.Prelude.{ℕ, ◌^◌, List, [], Option, None, Some, codes}
use Rattle.std.specs.Fmt.{decimal}
use Rattle.std.specs.Str.Parse.{without_leading_plus}
use Rattle.rpki_common.specs.Chaining.{◌>>=◌}
use Rattle.rpki_xmltext.specs.Parts.{leaf}
use Rattle.rpki_sets.specs.Texts.{decimal_below}
use Rattle.rpki_updown.specs.NotPerformedResponse.{NotPerformedFields}
use Rattle.rpki_xml.specs.Element.{Element, Elements, none, first, alone, is_none}
use Rattle.rpki_xml.specs.Tables.{require, is_named, at_most_one_child}

-- ---- what is written

-- the `status` that is written: the number in decimal
abbrev pub status_element : ℕ → Element
status_element status = leaf (codes "status") [] (decimal status)

-- the `description` that is written, if there is one
abbrev pub description_elements : Option (List ℕ) → Elements
description_elements None = none
description_elements (Some text) = alone (leaf (codes "description") [] text)

-- the `status`, and the `description` behind it, if there is one
abbrev pub not_performed_elements : NotPerformedFields → Elements
not_performed_elements r =
    first (status_element r.status).head none (description_elements r.description)

-- ---- what is read

-- decimal digits, at most one `+` in front of them, below 2^64
abbrev pub status_of_text : List ℕ → Option ℕ
status_of_text text = decimal_below (2 ^ 64) (without_leading_plus text)

-- a `status` without children; its attributes are not looked at
unfoldable pub status_in : Element → Option ℕ
status_in e = do
  _ ← require (is_named (codes "status") e.head)
  _ ← require (is_none e.children)
  status_of_text e.head.text

-- a `description` without children; its attributes are not looked at
unfoldable pub description_in : Element → Option (List ℕ)
description_in e = do
  _ ← require (is_named (codes "description") e.head)
  _ ← require (is_none e.children)
  Some e.head.text

-- the text of a `description`, if there is one, which has to be lawful then
abbrev pub description_where_there : Option Element → Option (Option (List ℕ))
description_where_there None = Some None
description_where_there (Some e) = description_in e >>= λ text. Some (Some text)

-- one `status`, and at most one `description` behind it
unfoldable pub not_performed_in : Elements → Option NotPerformedFields
not_performed_in none = None
not_performed_in (first head children rest) = do
  status ← status_in (record { head = head; children = children })
  found ← at_most_one_child rest
  description ← description_where_there found
  Some (record { status = status; description = description })
