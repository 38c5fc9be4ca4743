use Rattle.ft_table.proofs.order.Front.moved.Goals as goal

pub returns : goal.returns
returns c size old i j moved is = c.last_moved.ensures size c.args.self.now.count old i j moved is
