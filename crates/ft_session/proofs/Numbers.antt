-- The number that an accepted edit of one trigger gives is the trigger's id.
use Rattle.std.proofs.Common.{◌≡◌, ℕ, List, rules}
use Rattle.std.specs.Prelude.{Option, Some, None, Result, Ok, Err}
use Rattle.std.specs.Option.{option_map_or}
use Rattle.ft_base.specs.Base.{Base}
use Rattle.ft_base.specs.declared.refused.Refused.{Refused}
use Rattle.ft_answers.specs.After.{after_refilter, after_remove}
use Rattle.ft_desk_core.specs.Edits.{after_refilter_text, ◌>>=◌}

-- what is done with something that is there, if it is accepted
found : {H T : Type 0} (o : Option H) (f : H → Result T Refused) (refused : Refused) (done : T) → option_map_or f o (Err refused) ≡ Ok done → (h : H) × (f h ≡ Ok done)
found None f refused done e = search (e, rules)
found (Some h) f refused done e = (h, e)

-- what is done if nothing stands in the way
free : {H T : Type 0} (o : Option H) (f : H → Refused) (given done : T) → option_map_or (λ h. Err (f h)) o (Ok given) ≡ Ok done → given ≡ done
free None f given done e = search (e, rules)
free (Some h) f given done e = search (e, rules)

-- what follows a step that was not refused
went_on : {A T : Type 0} (r : Result A Refused) (f : A → Result T Refused) (done : T) → (r >>= f) ≡ Ok done → (x : A) × (f x ≡ Ok done)
went_on (Ok x) f done e = (x, e)
went_on (Err refused) f done e = search (e, rules)

-- a filter given
pub refilter-id : (base : Base) (id : ℕ) (text : Option (List ℕ)) (new : Base) (number : ℕ) → after_refilter_text base id text ≡ Ok (new, number) → number ≡ id
unfolding after_refilter_text after_refilter
refilter-id base id text new number e = search (e, found, went_on, rules)

-- a trigger removed
pub remove-id : (base : Base) (id : ℕ) (new : Base) (number : ℕ) → after_remove base id ≡ Ok (new, number) → number ≡ id
unfolding after_remove
remove-id base id new number e = search (e, found, free, rules)
