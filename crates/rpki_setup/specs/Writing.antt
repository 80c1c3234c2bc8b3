-- The parts that a root is written in. Means for the writers: the law of a root ties them to what
-- it is spelled as.
use Rattle.std.specs.Prelude.{ℕ, List, ◌∷◌, ◌++◌, Some, codes}
use Rattle.rpki_xml.specs.Spelling.{spelled, spelled_attribute, spelled_namespace, spelled_end}
use Rattle.rpki_setup.specs.Root.{setup_namespace, certificate_element}

-- `<`, the name, the namespace and the version
abbrev pub start_text : List ℕ → List ℕ
start_text name =
    60 ∷ (name
    ++ (spelled_namespace (Some setup_namespace)
    ++ spelled_attribute (codes "version") (codes "1")))

-- `>`, the element with the certificate, and the end
abbrev pub inside_text : List ℕ → List ℕ → List ℕ → List ℕ
inside_text name child octets =
    62 ∷ (spelled (certificate_element child octets) ++ spelled_end name)
