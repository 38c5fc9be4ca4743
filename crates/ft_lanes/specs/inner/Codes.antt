-- How a proof tells slots apart: by what they hold.
use Rattle.std.specs.Prelude.{ℕ, refl}
use Rattle.std.specs.Ordering.{nat_cmp}
use Rattle.std.specs.Coded.{Coded, code_by, coded×, coded_ℕ}
use Rattle.std.specs.FinMap as map
use Rattle.std.specs.FinMap.{FinMap}
use Rattle.ft_lanes.specs.inner.Slots.{SlotsOf}

-- a lane's slots, stored as their places and the next number
abbrev pub slots_code : Coded SlotsOf
slots_code = code_by
    (FinMap nat_cmp ℕ × ℕ) (coded× (map.code coded_ℕ coded_ℕ) coded_ℕ)
    (λ slots. (slots.places, slots.next)) (λ p. record { places = p.0; next = p.1 }) (λ _. refl)
