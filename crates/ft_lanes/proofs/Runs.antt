-- A walk that is seen as the list of what it has left gives it in order.
use Rattle.std.proofs.Common.{ap, length}
use Rattle.std.specs.Map.Iter.{TakesFirst, ShowsInOrder}
use Rattle.std.proofs.iter.runs.Sources.{from_front}

pub shows_in_order : {A X : Type 0} (shows : A → X) → ShowsInOrder shows
shows_in_order shows = from_front (TakesFirst shows) shows (λ s. s) (λ s t h. ap length h.0) (λ s x t h. h)
