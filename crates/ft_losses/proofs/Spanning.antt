-- The stretches of holes tell of the holes.
use Rattle.std.specs.Prelude.{◌≡◌, ℕ, ◌==◌, ◌&&◌, ◌||◌, Bool, true, false, List, Some, None, if◌then◌else◌}
use Rattle.std.specs.List.{list_any, flat_map}
use Rattle.std.specs.Option.{option_eq}
use Rattle.std.proofs.Common.{refl}
use Rattle.std.proofs.Math.Bool.{or-false}
use Rattle.ft_fields.specs.declared.pos.Pos.{Pos}
use Rattle.ft_losses.specs.Doubt.{spans, is_of, any_spans, any_spans_on, doubt}
use Rattle.ft_losses.specs.declared.doubt.Doubt.TheVariants as doubts
use Rattle.ft_losses.specs.declared.hole.Hole.{Hole}
use Rattle.ft_losses.specs.inner.Stretches.{stretches_of}
use Rattle.ft_losses.proofs.Anywhere.{any-flat_map, any-less}
use Rattle.ft_losses.proofs.Asking.{meets}

-- one hole, which stands for those on its CPU and on any
both-any : (own one : Bool) → ((own && one) || (one || false)) ≡ one
both-any true true = refl
both-any true false = refl
both-any false true = refl
both-any false false = refl

-- those on any CPU
pub holes-any : (holes : List Hole) (began ended : ℕ) → list_any (meets None began ended) (flat_map stretches_of holes) ≡ any_spans holes began ended
holes-any holes began ended =
    any-flat_map (meets None began ended) (spans began ended) stretches_of holes (λ hole. both-any (option_eq ◌==◌ hole.cpu None) (spans began ended hole))

-- those on one
pub holes-on : (cpu : ℕ) (holes : List Hole) (began ended : ℕ) → list_any (meets (Some cpu) began ended) (flat_map stretches_of holes) ≡ any_spans_on cpu holes began ended
holes-on cpu holes began ended =
    any-flat_map (meets (Some cpu) began ended) (λ (hole : Hole). is_of cpu hole && spans began ended hole) stretches_of holes (λ hole. or-false (is_of cpu hole && spans began ended hole))

-- no hole is in a wait's time: the wait is sure
pub doubt-sure : (holes : List Hole) (began ended : Pos) → any_spans holes began.stamp ended.stamp ≡ false → doubt holes began ended ≡ doubts.Sure
doubt-sure holes began ended none =
    sure (any_spans_on began.cpu holes began.stamp ended.stamp) (any_spans_on ended.cpu holes began.stamp ended.stamp) (any_spans holes began.stamp ended.stamp) (on began.cpu) (on ended.cpu) none
  where
    on : (cpu : ℕ) → any_spans_on cpu holes began.stamp ended.stamp ≡ false
    on cpu = any-less (λ (hole : Hole). is_of cpu hole) (spans began.stamp ended.stamp) holes none

    sure : (first last any : Bool) → first ≡ false → last ≡ false → any ≡ false → (if first || last then doubts.Doubtful else (if any then doubts.Likely else doubts.Sure)) ≡ doubts.Sure
    sure false false false p q r = refl
    sure true last any p q r = absurd (cc)
    sure false true any p q r = absurd (cc)
    sure false false true p q r = absurd (cc)
