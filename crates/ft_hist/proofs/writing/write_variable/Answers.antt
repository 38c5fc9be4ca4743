use Rattle.ft_text.proofs.Fronts.{front_before, front_of_more, front_refused}
use Rattle.ft_hist.proofs.writing.write_variable.Goals as goal

pub returns-in_ok-write_name-in-Some-Saves-clause-err : goal.returns-in_ok-write_name-in-Some-Saves-clause-err
returns-in_ok-write_name-in-Some-Saves-clause-err c =
    front_refused c.extend_from_slice.result _ _ _ _ (front_of_more _ _ _ c.in_ok-write_name-in-Some-Saves.ensures.ok) c.extend_from_slice.ensures.items

pub returns-in_ok-extend_from_slice-in-Some-Reads-clause-err : goal.returns-in_ok-extend_from_slice-in-Some-Reads-clause-err
returns-in_ok-extend_from_slice-in-Some-Reads-clause-err c =
    front_refused c.extend_from_slice-in-Some-Reads-2.result _ _ _ _ (front_before _ _ _ _ c.in_ok-write_name-in-Some-Reads.ensures.ok (front_of_more _ _ _ c.in_ok-extend_from_slice-in-Some-Reads.ensures.items)) c.extend_from_slice-in-Some-Reads-2.ensures.items
