-- Which octets each piece of a document is: the piece at the front of octets, and what follows it.
-- PieceSpelling says it without a reader's steps, and `law` that it is the same.
use Rattle.std.specs.Prelude.{◌≡◌, ℕ, zero, suc, List, [], ◌∷◌, Bool, true, false, ◌&&◌, ◌||◌, not, Option, Some, None, nat_eq, nat_le, if◌then◌else◌, codes, length}
use Rattle.std.specs.List.{list_all}
use Rattle.rpki_xml.specs.Element.{Attribute, Element}
use Rattle.rpki_common.specs.Chaining.{◌>>=◌}
use Rattle.rpki_xml.specs.Name.{is_name_octet, is_name}
use Rattle.rpki_xml.specs.Content.{Tag, Piece, run, passed_over, leaf, start, end, IsElement, is_white, behind}

-- the longest front of octets that pass, and what follows it
abbrev pub front_of : (ℕ → Bool) → List ℕ → List ℕ
front_of passes [] = []
front_of passes (c ∷ b) = if passes c then c ∷ front_of passes b else []

-- what follows the longest front of octets that pass
abbrev pub back_of : (ℕ → Bool) → List ℕ → List ℕ
back_of passes [] = []
back_of passes (c ∷ b) = if passes c then back_of passes b else c ∷ b

-- the first one, or where there is none the other
abbrev pub or_else : {X : Type 0} → Option X → Option X → Option X
or_else (Some x) other = Some x
or_else None other = other

-- ---- characters

-- an entity of this name stands for this character
abbrev pub entity_at : List ℕ → ℕ → List ℕ → Option (ℕ × List ℕ)
entity_at name c b = do
  rest ← behind name b
  Some (c, rest)

-- behind a `&`: one of the five entities
unfoldable pub any_entity_at : List ℕ → Option (ℕ × List ℕ)
any_entity_at b =
    or_else (entity_at (codes "amp;") 38 b)
    (or_else (entity_at (codes "lt;") 60 b)
    (or_else (entity_at (codes "gt;") 62 b)
    (or_else (entity_at (codes "quot;") 34 b)
    (entity_at (codes "apos;") 39 b))))

-- a character of a text or a value: no `<`, and a `&` only as the beginning of an entity
unfoldable pub character_at : List ℕ → Option (ℕ × List ℕ)
character_at [] = None
character_at (c ∷ b) =
    if nat_eq c 38 then any_entity_at b else if nat_eq c 60 then None else Some (c, b)

-- ---- names

-- the longest run of name octets, where it is a name
unfoldable pub name_at : List ℕ → Option (List ℕ × List ℕ)
name_at b =
    if is_name (front_of is_name_octet b)
    then Some (front_of is_name_octet b, back_of is_name_octet b)
    else None

-- ---- pieces

-- white space may stand here
abbrev pub past_white : List ℕ → List ℕ
past_white b = back_of is_white b

-- behind `</`: the name, and `>`
unfoldable pub end_at : List ℕ → Option (Piece × List ℕ)
end_at b = do
  name ← name_at b
  rest ← behind (codes ">") (past_white name.1)
  Some (end name.0, rest)

-- reading these one after the other, at most n times, up to where it stops
abbrev pub repeated : {X : Type 0} → (List ℕ → Bool) → (List ℕ → Option (X × List ℕ)) → ℕ
    → List ℕ → Option (List X × List ℕ)
repeated stops at zero b = None
repeated stops at (suc n) b =
    if stops b
    then Some ([], b)
    else (do
      x ← at b
      more ← repeated stops at n x.1
      Some (x.0 ∷ more.0, more.1))

-- reading these one after the other, up to where it stops: each takes an octet at least, so that
-- many are enough. What this gives is told by the relation RunsTo of Runs
unfoldable pub until : {X : Type 0} → (List ℕ → Bool) → (List ℕ → Option (X × List ℕ)) → List ℕ
    → Option (List X × List ℕ)
until stops at b = repeated stops at (suc (length b)) b

-- whether characters end here: at this octet, or where nothing is left if they may end there
abbrev pub ends_at : Bool → ℕ → List ℕ → Bool
ends_at at_end stop [] = at_end
ends_at at_end stop (c ∷ b) = nat_eq c stop

-- a value in this quote, behind the first one
unfoldable pub value_in : ℕ → List ℕ → Option (List ℕ × List ℕ)
value_in quote b = do
  value ← until (ends_at false quote) character_at b
  rest ← behind (quote ∷ []) value.1
  Some (value.0, rest)

-- a value in `"` or `'`
unfoldable pub quoted_at : List ℕ → Option (List ℕ × List ℕ)
quoted_at [] = None
quoted_at (c ∷ b) = if nat_eq c 34 || nat_eq c 39 then value_in c b else None

-- white space, a name, `=` and a value, with white space round the `=`
unfoldable pub attribute_at : List ℕ → Option (Attribute × List ℕ)
attribute_at b = do
  name ← name_at (past_white b)
  rest ← behind (codes "=") (past_white name.1)
  value ← quoted_at (past_white rest)
  Some (record { name = name.0; value = value.0 }, value.1)

-- whether white space stands first
abbrev pub begins_white : List ℕ → Bool
begins_white [] = false
begins_white (c ∷ b) = is_white c

-- whether `/` or `>` stands first
abbrev pub begins_close : List ℕ → Bool
begins_close [] = false
begins_close (c ∷ b) = nat_eq c 47 || nat_eq c 62

-- no attribute follows: no white space, or the end of the start behind it
abbrev pub no_attribute : List ℕ → Bool
no_attribute b = not (begins_white b) || begins_close (past_white b)

-- the end of a start, and which piece it makes
abbrev pub closed_at : Tag → List ℕ → Option (Piece × List ℕ)
closed_at tag b =
    or_else (behind (codes "/>") b >>= λ rest. Some (leaf tag, rest))
    (behind (codes ">") b >>= λ rest. Some (start tag, rest))

-- behind `<`: a name, attributes, and the end of the start
unfoldable pub tag_at : List ℕ → Option (Piece × List ℕ)
tag_at b = do
  name ← name_at b
  attributes ← until no_attribute attribute_at name.1
  closed_at (record { name = name.0; attributes = attributes.0 }) (past_white attributes.1)

-- what follows the first `close` in the octets
abbrev pub past_next : List ℕ → List ℕ → Option (List ℕ)
past_next close [] = None
past_next close (c ∷ b) = or_else (behind close (c ∷ b)) (past_next close b)

-- a comment or an instruction, from behind its beginning on
unfoldable pub passed_at : List ℕ → List ℕ → Option (Piece × List ℕ)
passed_at close b = do
  rest ← past_next close b
  Some (passed_over, rest)

-- what is read behind a front where that front is there, or otherwise the other
abbrev pub behind_front : {X : Type 0} → Option (List ℕ) → (List ℕ → Option X) → Option X → Option X
behind_front (Some rest) at other = at rest
behind_front None at other = other

-- a text run, up to the next `<` or the end
unfoldable pub run_at : List ℕ → Option (Piece × List ℕ)
run_at b = do
  text ← until (ends_at true 60) character_at b
  Some (run text.0, text.1)

-- behind `<`: by what follows. `<!` begins a comment and nothing else
unfoldable pub markup_at : List ℕ → Option (Piece × List ℕ)
markup_at b =
    behind_front (behind (codes "/") b) end_at
    (behind_front (behind (codes "!--") b) (passed_at (codes "-->"))
    (behind_front (behind (codes "?") b) (passed_at (codes "?>"))
    (tag_at b)))

-- the piece at the front, and what follows it
unfoldable pub piece_at : List ℕ → Option (Piece × List ℕ)
piece_at [] = None
piece_at (c ∷ b) = if nat_eq c 60 then markup_at b else run_at (c ∷ b)

-- reading these one after the other leads from b to rest
abbrev pub Repeats : {X : Type 0} → (List ℕ → Option (X × List ℕ)) → List ℕ → List X → List ℕ
    → Type 0
Repeats at b [] rest = b ≡ rest
Repeats at b (x ∷ xs) rest = (next : List ℕ) × (at b ≡ Some (x, next)) × Repeats at next xs rest

-- an octet that a document may have
abbrev pub is_octet : ℕ → Bool
is_octet c = nat_eq c 9 || nat_eq c 10 || nat_eq c 13 || (nat_le 32 c && nat_le c 126)

-- b is a document, and x is its element
pub record IsDocument (b : List ℕ) (x : Element) : Type 0 where
  pub octets : list_all is_octet b ≡ true
  pub list : List Piece
  pub pieces : Repeats piece_at b list []
  pub element : IsElement list x
