-- Tables whose keys fit, as hits come and go.
use Rattle.std.proofs.Common.{◌≡◌, Bool, true, false, cond, List, refl, sym, subst, Some, None, IsSome}
use Rattle.std.proofs.lemmas.Bool.{false≢true}
use Rattle.std.specs.Prelude.{ℤ}
use Rattle.std.specs.Ordering.{eq_by_cmp}
use Rattle.std.specs.FinMap as map
use Rattle.std.specs.FinMap.{get-empty, get-insert, get-remove}
use Rattle.ft_hist.specs.Fitting.{KeyFits}
use Rattle.ft_hist.specs.Hist.{Hist}
use Rattle.ft_hits.specs.declared.mark.Mark.{Mark}
use Rattle.ft_hits.specs.Marks.{mark_cmp, mark_cmp_total, mark_same}
use Rattle.ft_table.specs.Rows.{AllFit}
use Rattle.ft_table.specs.Tabled.{Tabled}
use Rattle.ft_table.specs.Fits.{NoneFits, OneMoreFits, OneLessFits}
use Rattle.ft_hits.proofs.Flat.{is_equal}

pub none_fits : NoneFits
none_fits size hist m some = absurd (false≢true (subst IsSome (get-empty mark_cmp m) some))

module _ (table : Tabled) (hist : Hist) (m : Mark) (all : AllFit table hist) where
  fits_among : (v : List ℤ) (q : Mark) (b : Bool) → KeyFits hist.keys m.key → eq_by_cmp mark_cmp q m ≡ b → IsSome (cond b (Some v) (map.get table.hits q)) → KeyFits hist.keys q.key
  fits_among v q true fits tie some = subst (λ (x : Mark). KeyFits hist.keys x.key) (sym (mark_same q m (is_equal _ tie))) fits
  fits_among v q false fits tie some = all q some

  fits_beside : (q : Mark) (b : Bool) → IsSome (cond b None (map.get table.hits q)) → KeyFits hist.keys q.key
  fits_beside q true some = absurd (false≢true some)
  fits_beside q false some = all q some

pub one_more_fits : OneMoreFits
one_more_fits table hist m v all fits q some = fits_among table hist m all v q (eq_by_cmp mark_cmp q m) fits refl (subst IsSome (get-insert mark_cmp_total table.hits m v q) some)

pub one_less_fits : OneLessFits
one_less_fits table hist m all q some = fits_beside table hist m all q (eq_by_cmp mark_cmp q m) (subst IsSome (get-remove mark_cmp_total table.hits m q) some)
