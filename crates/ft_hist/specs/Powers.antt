-- What a modifier makes of a number (kernel: histogram.rst, `.log2` and `.buckets`).
use Rattle.std.specs.Prelude.{◌≡◌, ℕ, zero, suc, ◌+◌, ◌*◌, ◌/◌, ◌^◌, nat_le, if◌then◌else◌}

-- the first of so many numbers, from n on, whose power of 2 is not below the value; if there is none, the number after them
abbrev pub first_power : ℕ → ℕ → ℕ → ℕ
first_power value zero n = n
first_power value (suc left) n = if nat_le value (2 ^ n) then n else first_power value left (n + 1)

-- the least n for which the value, which has at most 64 bits, is at most 2 ^ n; of the value 0 it is 0 (kernel: histogram.rst, `.log2`; of 0 it is our own choice)
unfoldable pub log2_of : ℕ → ℕ
log2_of value = first_power value 64 0

-- the greatest multiple of the bucket's size that is not above the value (kernel: histogram.rst, `.buckets`)
abbrev pub bucket_of : ℕ → ℕ → ℕ
bucket_of size value = value / size * size

-- the number is so many times the size, however many
abbrev pub IsMultiple : ℕ → ℕ → Type 0
IsMultiple size number = (n : ℕ) × (number ≡ n * size)
