-- Prefixes: the addresses that agree in their first bits.
use Rattle.std.specs.Prelude.{ℕ, ◌+◌, ◌-◌, ◌*◌, ◌/◌, ◌^◌, if◌then◌else◌, Option, None, Some, count_ones}
use Rattle.rpki_sets.specs.declared.run.Run.{Run}
use Rattle.rpki_sets.specs.Comparing.{is_same}

-- the addresses of so many bits that agree with this one in the first `len`
abbrev pub prefix : ℕ → ℕ → ℕ → Run
prefix width address len =
    let size = 2 ^ (width - len) in
    record { first = address / size * size; last = address / size * size + (size - 1) }

-- The length of the prefix that is just this run, where one is. A prefix with k free bits has 2 ^ k
-- addresses, and the difference of its ends has k bits set.
unfoldable pub prefix_length : ℕ → Run → Option ℕ
prefix_length width run =
    let len = width - count_ones (run.last - run.first) in
    if is_same (prefix width run.first len) run then Some len else None
