-- The start that a root is written with. A means for the writer.
use Rattle.std.specs.Prelude.{ℕ, List, ◌∷◌, ◌++◌, Some, codes}
use Rattle.rpki_xml.specs.Spelling.{spelled_attribute, spelled_namespace}
use Rattle.rpki_publication.specs.Message.{NAMESPACE}

-- `<msg`, the namespace, the version and the type
abbrev pub start_text : List ℕ → List ℕ
start_text type =
    60 ∷ (codes "msg"
    ++ (spelled_namespace (Some NAMESPACE)
    ++ (spelled_attribute (codes "version") (codes "4") ++ spelled_attribute (codes "type") type)))
