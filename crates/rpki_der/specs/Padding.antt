-- A tag gives its octets back.
use Rattle.std.specs.Prelude.{◌≡◌, ℕ, ◌≤◌, ◌-◌, List, ◌++◌, take, drop, length, replicate, refl}
use Rattle.std.proofs.Common.{arith}
use Rattle.std.proofs.lemmas.List.{take-append-drop, length-take-le}
use Rattle.rpki_der.specs.declared.tag.Tag.TheInside.{Inside}

-- four octets that are zero behind the first len ones come back where those len octets are padded
-- to four
pub padded_again : (octets : List ℕ) (len : ℕ) → len ≤ 4 → length octets ≡ 4
    → drop len octets ≡ replicate (4 - len) 0
    → ◌≡◌ {A = Inside} (record {
      octets = take len octets
          ++ replicate (4 - length (take len octets)) 0;
      len = length (take len octets);
    })
    (record { octets = octets; len = len })
padded_again octets len le four e =
    let long : length (take len octets) ≡ len = length-take-le len octets (omega arith) in
    rw (long, ← e, take-append-drop len octets) refl
