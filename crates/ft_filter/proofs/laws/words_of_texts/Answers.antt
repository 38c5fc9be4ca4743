use Rattle.ft_filter.proofs.WordCuts.{gaps, names, operators, quoted_texts}
use Rattle.ft_filter.proofs.laws.words_of_texts.Goals as goal

pub returns-clause-gap : goal.returns-clause-gap
returns-clause-gap c = gaps

pub returns-clause-name : goal.returns-clause-name
returns-clause-name c = names

pub returns-clause-operator : goal.returns-clause-operator
returns-clause-operator c = operators

pub returns-clause-quoted : goal.returns-clause-quoted
returns-clause-quoted c = quoted_texts
