use Rattle.std.proofs.Common.{ap, subst, ◌∙◌, ◌++◌, append-nil, List}
use Rattle.ft_dispatch.specs.Holding.{TakesOn}
use Rattle.ft_dispatch.specs.Joining.{others}
use Rattle.ft_dispatch.specs.declared.dispatch.Dispatch.{Dispatch}
use Rattle.ft_stream.proofs.TellingOn.{by_cleared}
use Rattle.ft_stream.proofs.apart.Part.take.Goals as goal

pub returns-in_ok-take_all-in-Ok-clause-takes : goal.returns-in_ok-take_all-in-Ok-clause-takes
returns-in_ok-take_all-in-Ok-clause-takes c = λ choice text told read holds.
    let takes = subst (λ (ds : List Dispatch). TakesOn ds c.args.self.now.firsts c.clear.new.self.items c.take_all.new.self c.take_all.new.out.items) c.deref.ensures.value c.in_ok-take_all-in-Ok.ensures in
    let held = takes told (others told) holds (ap (λ (ds : List Dispatch). others told ++ ds) c.clear.ensures.items ∙ append-nil (others told)) in
    record {
      dispatches = _;
      has_read = c.in-Ok.ensures.reads choice text told (by_cleared choice _ text told _ c.clear-2.ensures.items read);
      well = c.in-Ok.ensures.well;
      held = held.0;
      gave = held.1;
    }

pub returns-in-Err-clause-fails : goal.returns-in-Err-clause-fails
returns-in-Err-clause-fails c = λ choice text told read. c.in-Err.ensures.fails choice text told (by_cleared choice _ text told _ c.clear-2.ensures.items read)
