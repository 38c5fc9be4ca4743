-- How a proof tells bases apart: by what they hold.
use Rattle.std.specs.Prelude.{ℕ, refl}
use Rattle.std.specs.Coded.{Coded, code_by, coded×, coded_ℕ}
use Rattle.ft_hist.specs.Codes.{triggers_code}
use Rattle.ft_lanes.specs.Codes.{lanes_code}
use Rattle.ft_lanes.specs.Held.{Lanes}
use Rattle.ft_base.specs.Base.{Triggers, Base}

-- a base, stored as its lanes, its triggers and its next id
abbrev pub base_code : Coded Base
base_code = code_by
    (Lanes × (Triggers × ℕ)) (coded× lanes_code (coded× triggers_code coded_ℕ))
    (λ base. (base.lanes, (base.triggers, base.next_id))) (λ p. record { lanes = p.0; triggers = p.1.0; next_id = p.1.1 }) (λ _. refl)
