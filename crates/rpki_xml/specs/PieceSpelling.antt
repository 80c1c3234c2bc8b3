-- The lawful spellings of the pieces of a document, and of a document, in the words of XML 1.0. No
-- reader's steps stand here: laws say that what is read is exactly what is so spelled. There is no
-- other markup, so no CDATA section (section 2.7), no document type declaration (section 2.8) and
-- no reference (section 4.1) but the five entities. Name says which names there are, and Content
-- what white space is.
use Rattle.std.specs.Prelude.{◌≡◌, ◌⊎◌, ℕ, List, [], ◌∷◌, ◌++◌, Bool, true, false, nat_eq, codes}
use Rattle.std.specs.List.{list_all}
use Rattle.rpki_xml.specs.AttributeSpelling.{IsValueSpelling, IsAttributeSpelling, concatenated}
use Rattle.rpki_xml.specs.Content.{Tag, Piece, run, passed_over, leaf, start, end, IsElement, is_white}
use Rattle.rpki_xml.specs.Element.{Attribute, Element, is_nil}
use Rattle.rpki_xml.specs.Lexing.{is_octet}
use Rattle.rpki_xml.specs.Name.{is_name, is_name_octet}

-- ---- the parts of tags

-- b begins with a spelling of the attribute, and rest is what follows it
pub record BeginsWithAttribute (b : List ℕ) (a : Attribute) (rest : List ℕ) : Type 0 where
  pub octets : List ℕ
  pub is : b ≡ octets ++ rest
  pub spelled : IsAttributeSpelling octets a

-- spellings of attributes, one for each, in their order: each begins with white space
abbrev pub AreAttributeSpellings : List (List ℕ) → List Attribute → Type 0
AreAttributeSpellings [] [] = Unit {0}
AreAttributeSpellings [] (a ∷ more) = ⊥
AreAttributeSpellings (s ∷ spellings) [] = ⊥
AreAttributeSpellings (s ∷ spellings) (a ∷ more) =
    IsAttributeSpelling s a × AreAttributeSpellings spellings more

-- ---- pieces

-- a tag that begins with a name (section 3.1): `<`, the name, its attributes, white space or none,
-- and `close`, which is `>` for a start tag and `/>` for an empty-element tag
pub record IsTagSpelling (close octets : List ℕ) (tag : Tag) : Type 0 where
  pub attributes : List (List ℕ)
  pub white : List ℕ
  pub is : octets
      ≡ codes "<" ++ (tag.name ++ (concatenated attributes ++ (white ++ close)))
  pub lawful : is_name tag.name ≡ true
  pub name_octets : list_all is_name_octet tag.name ≡ true
  pub spelled : AreAttributeSpellings attributes tag.attributes
  pub all_white : list_all is_white white ≡ true

-- an end tag (section 3.1): `</`, the name, white space or none, and `>`
pub record IsEndSpelling (octets name : List ℕ) : Type 0 where
  pub white : List ℕ
  pub is : octets ≡ codes "</" ++ (name ++ (white ++ codes ">"))
  pub lawful : is_name name ≡ true
  pub name_octets : list_all is_name_octet name ≡ true
  pub all_white : list_all is_white white ≡ true

-- an opening mark, any octets, and a closing mark. Wherever the closing mark stands behind the
-- opening one, it stands last: so it stands nowhere earlier
pub record IsBetween (opening closing octets : List ℕ) : Type 0 where
  pub inside : List ℕ
  pub is : octets ≡ opening ++ (inside ++ closing)
  pub last : (front back : List ℕ) → inside ++ closing ≡ front ++ (closing ++ back) → back ≡ []

-- a comment (section 2.5): neither `<!-->` nor `<!--->` is one, since the two marks share no octet.
-- Other than in XML, `--` may stand inside
abbrev pub IsComment : List ℕ → Type 0
IsComment octets = IsBetween (codes "<!--") (codes "-->") octets

-- a processing instruction (section 2.6), and the XML declaration (section 2.8), which is spelled
-- as one. Other than in XML, anything may stand inside, with a target or none
abbrev pub IsInstruction : List ℕ → Type 0
IsInstruction octets = IsBetween (codes "<?") (codes "?>") octets

-- a text run (section 2.4): one character or more, each as itself or as an entity, and as itself
-- neither `&` nor `<` (60): they are spelled as the characters of a value whose quote is `<`. Other
-- than in XML, `]]>` may stand in it
pub record IsRunSpelling (octets text : List ℕ) : Type 0 where
  pub characters : List (List ℕ)
  pub is : octets ≡ concatenated characters
  pub spelled : IsValueSpelling 60 characters text
  pub some : is_nil text ≡ false

-- the octets spell the piece
abbrev pub IsPieceSpelling : List ℕ → Piece → Type 0
IsPieceSpelling octets (run text) = IsRunSpelling octets text
IsPieceSpelling octets passed_over = IsComment octets ⊎ IsInstruction octets
IsPieceSpelling octets (leaf tag) = IsTagSpelling (codes "/>") octets tag
IsPieceSpelling octets (start tag) = IsTagSpelling (codes ">") octets tag
IsPieceSpelling octets (end name) = IsEndSpelling octets name

-- ---- pieces one after the other

-- nothing follows, or a `<` (60)
abbrev pub is_markup_or_end : List ℕ → Bool
is_markup_or_end [] = true
is_markup_or_end (c ∷ rest) = nat_eq c 60

-- what may follow a piece: a run goes on up to the next `<` or to the end, and behind any other
-- piece anything may follow
abbrev pub MayFollow : Piece → List ℕ → Type 0
MayFollow (run text) rest = is_markup_or_end rest ≡ true
MayFollow passed_over rest = Unit {0}
MayFollow (leaf tag) rest = Unit {0}
MayFollow (start tag) rest = Unit {0}
MayFollow (end name) rest = Unit {0}

-- b begins with a spelling of the piece, and rest is what follows it, and may follow it
pub record BeginsWithPiece (b : List ℕ) (p : Piece) (rest : List ℕ) : Type 0 where
  pub octets : List ℕ
  pub is : b ≡ octets ++ rest
  pub spelled : IsPieceSpelling octets p
  pub follows : MayFollow p rest

-- spellings of pieces, one for each, in their order, where what comes behind each may follow it: so
-- no run stands behind a run
abbrev pub ArePieceSpellings : List (List ℕ) → List Piece → Type 0
ArePieceSpellings [] [] = Unit {0}
ArePieceSpellings [] (p ∷ more) = ⊥
ArePieceSpellings (s ∷ spellings) [] = ⊥
ArePieceSpellings (s ∷ spellings) (p ∷ more) =
    IsPieceSpelling s p
    × (MayFollow p (concatenated spellings) × ArePieceSpellings spellings more)

-- b consists of octets that a document may have, and is spellings of pieces one after the other,
-- and the pieces make the element x
pub record IsDocumentSpelling (b : List ℕ) (x : Element) : Type 0 where
  pub octets : list_all is_octet b ≡ true
  pub spellings : List (List ℕ)
  pub list : List Piece
  pub is : b ≡ concatenated spellings
  pub spelled : ArePieceSpellings spellings list
  pub element : IsElement list x
