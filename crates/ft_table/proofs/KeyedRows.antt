-- The key of a row in a table fits the trigger.
use Rattle.std.proofs.Common.{◌≡◌, ℕ, zero, suc, ◌<◌, Bool, true, false, cond, List, [], ◌∷◌, length, get_or, take, map as list_map, refl, sym, ap, subst, ◌∙◌, Some, None, Option, arith}
use Rattle.std.specs.Prelude.{◌||◌, ℤ, is_some, IsSome, if◌then◌else◌, unwrap_or}
use Rattle.std.specs.List.{list_any}
use Rattle.std.specs.FinMap as map
use Rattle.std.proofs.lemmas.Bool.{false≢true}
use Rattle.ft_hist.specs.Fitting.{KeyFits}
use Rattle.ft_hist.specs.Hist.{Hist}
use Rattle.ft_fields.specs.declared.key.Part.{Part}
use Rattle.ft_fields.specs.Parts.{same_key}
use Rattle.ft_table.specs.Counted.{Counted}
use Rattle.ft_hits.specs.declared.mark.Mark.{Mark}
use Rattle.ft_table.specs.Rows.{counted_row, row_at, AllFit}
use Rattle.ft_table.specs.Tabled.{Tabled, first_hits, is_first, order_of, is_in}
use Rattle.ft_table.proofs.Counts.{listed}
use Rattle.ft_table.proofs.Firsts.{get-first_hits}
use Rattle.ft_hits.proofs.Flat.{same_is}

-- a first hit is a hit
hit_of_first : (first : Bool) (o : Option (List ℤ)) → is_some (cond first o None) ≡ true → IsSome o
hit_of_first true o some = some
hit_of_first false o some = absurd (false≢true some)

-- what holds of the keys of marks holds of a key among them
among_marks : (P : List Part → Type 0) (key : List Part) (ms : List Mark) (s : ℕ) → ((j : ℕ) (d : Mark) → j < length ms → P (get_or ms j d).key)
    → list_any (same_key key) (list_map (λ m. m.key) (take s ms)) ≡ true → P key
among_marks P key [] zero each is = absurd (false≢true is)
among_marks P key [] (suc s) each is = absurd (false≢true is)
among_marks P key (m ∷ ms) zero each is = absurd (false≢true is)
among_marks P key (m ∷ ms) (suc s) each is = by (same_key key m.key) refl (λ rest. among_marks P key ms s (λ j d lt. each (suc j) d (omega arith)) rest) is where
  by : (b : Bool) → same_key key m.key ≡ b → (list_any (same_key key) (list_map (λ q. q.key) (take s ms)) ≡ true → P key) → (b || list_any (same_key key) (list_map (λ q. q.key) (take s ms))) ≡ true → P key
  by true same among _ = subst P (sym (same_is key m.key same)) (each zero m (omega arith))
  by false other among rest = among rest

-- if the keys of all hits fit, a key in the table does
in_fits : (table : Tabled) (hist : Hist) (key : List Part) → AllFit table hist → is_in table key ≡ true → KeyFits hist.keys key
in_fits table hist key fit =
    among_marks (KeyFits hist.keys) key (order_of table.hits) table.size (λ j d lt.
    fit (get_or (order_of table.hits) j d)
    (hit_of_first (is_first table.hits (get_or (order_of table.hits) j d)) (map.get table.hits (get_or (order_of table.hits) j d))
    (ap is_some (sym (get-first_hits table.hits (get_or (order_of table.hits) j d))) ∙ listed (first_hits table.hits) j d lt)))

-- and so does the key of its row
pub row_fits : (table : Tabled) (hist : Hist) (key : List Part) (row : Counted) → AllFit table hist → row_at table key ≡ Some row → KeyFits hist.keys row.key
row_fits table hist key row fit is = by (is_in table key) refl is where
  by : (b : Bool) → is_in table key ≡ b → (if b then Some (counted_row table.hits key) else None) ≡ Some row → KeyFits hist.keys row.key
  by true inside same = subst (λ (r : Counted). KeyFits hist.keys r.key) (ap (λ (o : Option Counted). unwrap_or o row) same) (in_fits table hist key fit inside)
  by false outside none = absurd (false≢true (ap is_some none))
