-- Serial numbers that are drawn (RFC 5280, 4.1.2.2: not negative, in at most twenty octets).
use Rattle.std.specs.Prelude.{◌≡◌, ℕ, ◌%◌, List, [], ◌∷◌, length}
use Rattle.rpki_signer.specs.Signer.{SignerState, IsDrawn}

-- the first bit is cleared
abbrev pub without_first_bit : List ℕ → List ℕ
without_first_bit [] = []
without_first_bit (a ∷ more) = (a % 128) ∷ more

-- twenty octets were drawn, and are the serial number when their first bit is cleared
pub record IsSerialDrawn {Id : Type 0} (before after : SignerState Id) (serial : List ℕ) : Type 0
  where
    pub octets : List ℕ
    pub drawn : IsDrawn before after octets
    pub twenty : length octets ≡ 20
    pub is : serial ≡ without_first_bit octets
