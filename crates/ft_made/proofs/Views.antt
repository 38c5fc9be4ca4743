-- What is read off a fold, one item more of a list, and what comes of an option.
use Rattle.std.proofs.Common.{◌≡◌, cond, List, [], ◌∷◌, refl, ap, ◌∙◌, Some, None, Option}
use Rattle.std.specs.Prelude.{◌&&◌, fold, is_some, option_and_then}
use Rattle.std.specs.List.{cons_option}
use Rattle.std.specs.Option.{option_map_or}

-- a view of a fold, if the view of each step is a step of the view
pub seen_fold : {S T X : Type 0} (p : S → T) (f : S → X → S) (g : T → X → T) → ((s : S) (x : X) → p (f s x) ≡ g (p s) x) → (s : S) (xs : List X) → p (fold f s xs) ≡ fold g (p s) xs
seen_fold p f g same s [] = refl
seen_fold p f g same s (x ∷ xs) = seen_fold p f g same (f s x) xs ∙ ap (λ t. fold g t xs) (same s x)

-- one more at the front, if there is one
pub fold_option : {S X : Type 0} (g : S → X → S) (s : S) (o : Option X) (xs : List X) → fold g (option_map_or (g s) o s) xs ≡ fold g s (cons_option o xs)
fold_option g s None xs = refl
fold_option g s (Some x) xs = refl

-- what makes nothing of all that there is makes nothing
pub nothing : {A B : Type 0} (f : A → Option B) (o : Option A) → ((a : A) → o ≡ Some a → f a ≡ None) → option_and_then f o ≡ None
nothing f None h = refl
nothing f (Some a) h = h a refl

-- what makes the same of all that there is makes the same
pub same_then : {A B : Type 0} (f g : A → Option B) (o : Option A) → ((a : A) → o ≡ Some a → f a ≡ g a) → option_and_then f o ≡ option_and_then g o
same_then f g None h = refl
same_then f g (Some a) h = h a refl

-- nothing comes of an option that has nothing
pub only_some : {A B : Type 0} (f : A → Option B) (o : Option A) → cond (is_some o) (option_and_then f o) None ≡ option_and_then f o
only_some f None = refl
only_some f (Some a) = refl

-- nor of two if either is missing
pub only_both : {A B C : Type 0} (f : A → B → Option C) (o : Option A) (p : Option B)
    → cond (is_some o && is_some p) (option_and_then (λ a. option_and_then (f a) p) o) None ≡ option_and_then (λ a. option_and_then (f a) p) o
only_both f None p = refl
only_both f (Some a) p = only_some (f a) p
