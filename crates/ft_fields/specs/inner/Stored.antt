-- How a key holds its parts.
use Rattle.std.specs.Prelude.{◌≡◌, pos, List, [], ◌∷◌, refl}
use Rattle.ft_fields.specs.declared.key.Part.{Part}
use Rattle.ft_fields.specs.declared.key.Part.TheVariants.{Num}
use Rattle.ft_fields.specs.declared.key.Rest.{Rest}
use Rattle.ft_fields.specs.declared.key.Rest.TheVariants.{End, More}
use Rattle.ft_fields.specs.declared.key.Last.{Last}
use Rattle.ft_fields.specs.declared.key.Last.TheVariants.{Done, Third}

-- the parts after the second (our own choice)
abbrev pub last_parts : Last → List Part
last_parts Done = []
last_parts (Third part) = part ∷ []

-- the parts after the first
abbrev pub rest_parts : Rest → List Part
rest_parts End = []
rest_parts (More part last) = part ∷ last_parts last

-- the first part
abbrev pub first_of : List Part → Part
first_of [] = Num (pos 0)
first_of (part ∷ parts) = part

-- what stands after the second part (our own choice)
abbrev pub last_of : List Part → Last
last_of [] = Done
last_of (part ∷ parts) = Third part

-- what stands after the first part
abbrev pub rest_of : List Part → Rest
rest_of [] = End
rest_of (first ∷ []) = End
rest_of (first ∷ second ∷ parts) = More second (last_of parts)

-- what stands after the first part is what its parts say
pub rest_back : (first : Part) (rest : Rest) → rest_of (first ∷ rest_parts rest) ≡ rest
rest_back first End = refl
rest_back first (More part Done) = refl
rest_back first (More part (Third third)) = refl
