use Rattle.std.proofs.Common.{◌≡◌, drop}
use Rattle.ft_fields.specs.Fields.{field_text}
use Rattle.ft_text.specs.Items.{is_word}
use Rattle.ft_trigger.specs.TriggerIs.{index_where}
use Rattle.ft_trigger.proofs.resolving.key_named.Given as goal

-- the first of those that are left is the first of all
abbrev pub invariant-loop-key : goal.invariant-loop-key
invariant-loop-key l = record {
  same : index_where (λ key. is_word l.word (field_text key.field)) l.number (drop l.key-index l.keys) ≡ index_where (λ key. is_word l.word (field_text key.field)) 0 l.keys;
  count : l.number ≡ l.key-index;
}
