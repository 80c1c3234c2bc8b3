-- What stands behind the attributes of an element that has a text and no child.
use Rattle.std.specs.Prelude.{◌&&◌, ℕ, List, ◌++◌}
use Rattle.rpki_xml.specs.Element.{none, is_nil, is_none}
use Rattle.rpki_xml.specs.Spelling.{spelled_all, spelled_inside, spelled_text}

-- `/>` where the text is empty, else `>`, the text and the end
abbrev pub text_inside : List ℕ → List ℕ → List ℕ
text_inside name text =
    spelled_inside (is_nil text && is_none none) name (spelled_text text ++ spelled_all none)
