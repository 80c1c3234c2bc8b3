-- How long things may be, how many, and how far from a moment: each limit under one name.
use Rattle.std.specs.Prelude.{◌^◌, ℕ}

-- the most octets of an input that a program reads
abbrev pub most_input : ℕ
most_input = 2 ^ 26

-- the most octets of a text, and so of the content of a signed message
abbrev pub most_content : ℕ
most_content = 2 ^ 31

-- the most octets of a key, and of a signature, that a signer gives
abbrev pub most_key : ℕ
most_key = 2 ^ 16

-- the most keys under which a program receives a message
abbrev pub most_keys : ℕ
most_keys = 8

-- the most elements of a message that `make` makes
abbrev pub most_elements : ℕ
most_elements = 10000

-- the seconds before and after a moment in which what is made at it is valid
abbrev pub window_seconds : ℕ
window_seconds = 300
