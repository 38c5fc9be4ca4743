use Rattle.ft_filter.proofs.NumberForms.{number_forms, number_tokens}
use Rattle.ft_filter.proofs.laws.numbers_of_words.Goals as goal

pub returns-clause-word : goal.returns-clause-word
returns-clause-word c = number_forms

pub returns-clause-token : goal.returns-clause-token
returns-clause-token c = number_tokens
