-- The shelf stands in the finite map, and what it becomes is written back there.
use Rattle.std.proofs.Common.{◌≡◌, Option, Some, None, sym, ap, refl, ◌∙◌, OnSome, MutBor, nat_cmp}
use Rattle.std.specs.Cmp.{nat_cmp_total}
use Rattle.std.specs.BTreeMap.{get_by}
use Rattle.std.specs.FinMap as map
use Rattle.std.specs.Option.{option_copied_mut}
use Rattle.std.proofs.lemmas.Map.Lookups.{exact_unsigned}
use Rattle.ft_maps.specs.Seen.{seen, get-seen, seen-found}
use Rattle.ft_shelves.specs.Shelves.{Shelved, Shelves}
use Rattle.ft_kept.proofs.tables.Tables.shelf_mut.Goals as goal

pub returns : goal.returns
returns c =
    let tree = c.self.inside.shelves in
    let id = c.args.id in (
      (
        refl,
        λ w. elim c.get_mut.result as (λ (r : Option (MutBor Shelved)). option_copied_mut r ≡ get_by (nat_cmp id) tree → OnSome r (seen nat_cmp (c.get_mut.follows.lender w) ≡ map.insert c.args.self.now id w)) [
          | None ↦ λ _. tt
          | Some s ↦ λ is. seen-found nat_cmp_total exact_unsigned tree (c.get_mut.follows.lender w) id s.now w is (c.get_mut.follows.holds w) ∙ ap (λ (m : Shelves). map.insert m id w) c.self.view_is
        ] c.get_mut.ensures.value,
        ap (seen nat_cmp) c.get_mut.follows.holds-at-none ∙ c.self.view_is,
      ),
      record { writes_back = tt; value = c.get_mut.ensures.value ∙ sym (get-seen nat_cmp_total tree id) ∙ ap (λ (m : Shelves). map.get m id) c.self.view_is },
    )
