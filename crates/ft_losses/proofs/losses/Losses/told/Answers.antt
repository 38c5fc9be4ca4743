use Rattle.std.proofs.Common.{◌≡◌, ap, ◌∙◌, map as list_map, length, Bool, false, List}
use Rattle.std.proofs.Math.ListN.{get_or-map}
use Rattle.std.proofs.lemmas.Result.{IfOk-weaker}
use Rattle.std.specs.Option.{is_some}
use Rattle.std.specs.Prelude.{ℕ, Option, Vec, slice_index_or, vec_len}
use Rattle.std.specs.declared.alloc.Global.{Global}
use Rattle.ft_losses.specs.declared.lanes.Lane.{Lane}
use Rattle.ft_losses.specs.inner.Lanes.{no_lane}
use Rattle.ft_losses.proofs.losses.Losses.told.Goals as goal

-- whether it is known how many events of a CPU were overwritten
abbrev is_known : Lane → Bool
is_known lane = is_some lane.overwritten

pub returns-clause-len : goal.returns-clause-len
returns-clause-len c =
    IfOk-weaker c.told_of.result (λ (told : Vec Bool Global). vec_len told ≡ length c.deref.result.now) (λ (told : Vec Bool Global). vec_len told ≡ 8192)
    (λ told is. is ∙ c.deref.ensures.len ∙ c.args.self.now.all_cpus) c.told_of.ensures.len

pub returns-clause-each : goal.returns-clause-each
returns-clause-each c =
    let lanes : List Lane = c.args.self.now.lanes.items in
    IfOk-weaker c.told_of.result (λ (told : Vec Bool Global). told.items ≡ list_map is_known c.deref.result.now) _
    (λ told is notes keeps cpu fits.
    ap (λ (known : List Bool). slice_index_or known cpu false) is ∙ ap (λ (ls : List Lane). slice_index_or (list_map is_known ls) cpu false) c.deref.ensures.value
    ∙ get_or-map is_known lanes cpu no_lane ∙ ap (λ (o : Option ℕ). is_some o) (keeps.overwritten cpu fits)) c.told_of.ensures.each
