-- A key of a resource class (RFC 6492, 3.5.1 and 3.5.2).
use Rattle.std.specs.Prelude.{ℕ, List, ◌++◌, codes}
use Rattle.hex.specs.Hex.{encode_upper}

-- the name of a class and the identifier of a key in it
pub record KeyElementFields : Type 0 where
  pub class_name : List ℕ
  -- the octets of the key's identifier
  pub key : List ℕ

-- what is printed: the name, and the identifier in hexadecimal digits in upper case, each in
-- quotation marks
abbrev pub key_element_text : KeyElementFields → List ℕ
key_element_text e =
    codes "class name '" ++ (e.class_name ++ (codes "' key '" ++ (encode_upper e.key ++ codes "'")))
