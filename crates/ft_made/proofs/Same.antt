-- What is made at a spot depends on what its reading finds: readings that find the same make the same.
use Rattle.std.proofs.Common.{◌≡◌, refl, ap, Some, None, Option}
use Rattle.std.specs.Prelude.{option_map, option_and_then}
use Rattle.std.specs.FinMap as map
use Rattle.ft_fields.specs.Traced.{Traced}
use Rattle.ft_fields.specs.declared.pos.Pos.{Pos}
use Rattle.ft_hist.specs.Hist.{Hist}
use Rattle.ft_hist.specs.Made.{made_event, made_of}
use Rattle.ft_hits.specs.declared.spot.Spot.{Spot}
use Rattle.ft_hist.specs.Triggers.{Triggers}
use Rattle.ft_replay.specs.Merged.{Events}
use Rattle.ft_replay.specs.Found.{saving_found}
use Rattle.ft_made.specs.MadeEvents.{made_by, made_at}
use Rattle.ft_made.specs.Laws.{FoundMakeAll, MakeNone}
use Rattle.ft_made.proofs.Views.{nothing, same_then}

-- what is made at a spot if its reading finds this
abbrev pub makes : Triggers → Events → Spot → Option Pos → Option Traced
makes triggers events spot saved = made_by triggers events (λ id pos. saved) spot

module _ (triggers : Triggers) (events : Events) (spot : Spot) where
  -- savings of which the spot's trigger makes the same, whatever the event, make the same there
  pub makes_same : (found later : Option Pos)
      → ((event : Traced) (hist : Hist) → map.get triggers spot.maker ≡ Some hist → option_and_then (made_of hist spot.pos event) found ≡ option_and_then (made_of hist spot.pos event) later)
      → makes triggers events spot found ≡ makes triggers events spot later
  makes_same found later same = same_then _ _ (map.get events spot.pos) (λ event held. same_then _ _ (map.get triggers spot.maker) (same event))

  -- a reading that finds nothing makes nothing
  pub makes_none : makes triggers events spot None ≡ None
  makes_none = nothing _ (map.get events spot.pos) (λ event held. nothing _ (map.get triggers spot.maker) (λ hist attached. refl))

  -- nothing is made if no trigger makes events
  pub none_makes : MakeNone triggers → (found : Option Pos) → makes triggers events spot found ≡ None
  none_makes none found = nothing _ (map.get events spot.pos) (λ event held. nothing _ (map.get triggers spot.maker)
      (λ hist attached. nothing _ found (λ saved is. ap (option_map (made_event spot.pos event saved)) (none spot.maker hist attached))))

-- what the attached triggers' readings find makes what is made
pub made_found : FoundMakeAll
unfolding made_at
made_found triggers events found is spot = makes_same triggers events spot (found spot.maker spot.pos) (saving_found triggers events spot.maker spot.pos)
    (λ event hist attached. ap (option_and_then (made_of hist spot.pos event)) (is spot.maker hist attached spot.pos))
