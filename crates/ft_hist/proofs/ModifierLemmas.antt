-- What modifiers make of values suits their kinds, and kinds that pass the test are equal.
use Rattle.std.specs.Prelude.{◌≡◌, ℕ, ◌/◌, ℤ, true, ◌==◌, List, Some}
use Rattle.std.specs.Int.{w64, cast_unsigned}
use Rattle.std.specs.Option.{is_some}
use Rattle.std.proofs.Common.{refl, ap, subst, arith}
use Rattle.std.proofs.lemmas.Bool.Decides.{nat_tests}
use Rattle.std.proofs.lemmas.Option.{same_Some}
use Rattle.ft_fields.specs.declared.field.Value.TheVariants as values
use Rattle.ft_hist.specs.declared.modifier.Mode.{Mode}
use Rattle.ft_hist.specs.declared.modifier.Mode.TheVariants as modes
use Rattle.ft_hist.specs.Modifiers.{mode_suits, number_part, text_part, value_part, Kind, Numbers, Powers, Multiples, Texts, number_kind, same_kind, IsOfKind}
use Rattle.ft_hist.proofs.PowerLemmas.{log2_of_few}
use Rattle.ft_fields.specs.declared.key.Part.{Part}

-- ---- what they make

-- what a modifier makes of a number is of its kind
pub number_fits : (mode : Mode) (z : ℤ) → IsOfKind (number_kind mode) (number_part mode z)
number_fits modes.Plain z = tt
number_fits modes.Hex z = tt
number_fits modes.Log2 z = log2_of_few (cast_unsigned w64 z)
number_fits (modes.Buckets size) z = (cast_unsigned w64 z / size, refl)

-- what a modifier makes of a text is a text
pub text_fits : (mode : Mode) (text : List ℕ) (part : Part) → text_part mode text ≡ Some part → IsOfKind Texts part
text_fits modes.Plain text part e = subst (IsOfKind Texts) (same_Some _ _ e) tt
text_fits modes.Hex text part e = absurd cc
text_fits modes.Log2 text part e = absurd cc
text_fits (modes.Buckets size) text part e = absurd cc

-- a modifier that suits a field of texts makes a part of a text
pub text_made : (mode : Mode) (text : List ℕ) → mode_suits true mode ≡ true → is_some (value_part mode (values.Text text)) ≡ true
text_made modes.Plain text h = refl
text_made modes.Hex text h = absurd cc
text_made modes.Log2 text h = absurd cc
text_made (modes.Buckets size) text h = absurd cc

-- ---- kinds

-- numbers whose test passes are equal
nat_same : (a b : ℕ) → (a == b) ≡ true → a ≡ b
nat_same a b e = grind (arith, nat_tests)

-- a number passes the test against itself
nat_itself : (a : ℕ) → (a == a) ≡ true
nat_itself a = grind (arith, nat_tests)

-- kinds whose test passes are equal
pub kind_same : (a b : Kind) → same_kind a b ≡ true → a ≡ b
kind_same Numbers Numbers e = refl
kind_same Numbers Powers e = cc
kind_same Numbers (Multiples n) e = cc
kind_same Numbers Texts e = cc
kind_same Powers Numbers e = cc
kind_same Powers Powers e = refl
kind_same Powers (Multiples n) e = cc
kind_same Powers Texts e = cc
kind_same (Multiples m) Numbers e = cc
kind_same (Multiples m) Powers e = cc
kind_same (Multiples m) (Multiples n) e = ap Multiples (nat_same m n e)
kind_same (Multiples m) Texts e = cc
kind_same Texts Numbers e = cc
kind_same Texts Powers e = cc
kind_same Texts (Multiples n) e = cc
kind_same Texts Texts e = refl

-- a kind passes the test against itself
pub kind_itself : (a : Kind) → same_kind a a ≡ true
kind_itself Numbers = refl
kind_itself Powers = refl
kind_itself (Multiples n) = nat_itself n
kind_itself Texts = refl
