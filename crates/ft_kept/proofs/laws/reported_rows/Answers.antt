use Rattle.ft_kept.proofs.Rows.{reported_once, others_stay, two_reported, reader_reported}
use Rattle.ft_kept.proofs.laws.reported_rows.Goals as goal

pub returns : goal.returns
returns c =
    let rivals = c.some_rivals.ensures in
    record { once = reported_once rivals.apart rivals.others; others = others_stay rivals.rows; two = two_reported rivals.few; reader = reader_reported rivals.few }
