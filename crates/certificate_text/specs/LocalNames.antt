-- The names of local cells as certificates have them: `@3.0.1` is that of new node 3 under the births 0 and 1. This project's own.
use Rattle.std.specs.Prelude.{ℕ, Bool, ◌==◌, if◌then◌else◌, List, [], ◌∷◌, ◌++◌, codes, decimal, flat_map, Option, Some, None}
use Rattle.std.specs.List.{slice_split}
use Rattle.names_and_numbers.specs.Numbers.{natural_of_text}
use Rattle.token_system.specs.declared.name.CellName.{CellName}
use Rattle.token_system.specs.declared.name.CellName.TheVariants.{Local}

-- the name of a local cell: its new node, and each birth behind a dot, outermost first
abbrev pub local_text : ℕ → List ℕ → List ℕ
local_text node births = codes "@" ++ (decimal node ++ flat_map (λ birth. codes "." ++ decimal birth) births)

-- .
abbrev pub is_dot : ℕ → Bool
is_dot b = b == 46

-- a number before others, where all are there
abbrev pub number_before : Option ℕ → Option (List ℕ) → Option (List ℕ)
number_before (Some n) (Some ns) = Some (n ∷ ns)
number_before (Some n) None = None
number_before None ns = None

-- the numbers that the texts write, if each writes one
abbrev pub naturals_of : List (List ℕ) → Option (List ℕ)
naturals_of [] = Some []
naturals_of (text ∷ texts) = number_before (natural_of_text text) (naturals_of texts)

-- the local name with these numbers, of which the first is the node's
abbrev pub numbered_name : Option (List ℕ) → Option CellName
numbered_name (Some (node ∷ births)) = Some (Local node births)
numbered_name _ = None

-- the name that the bytes are, if they are `@` and then numbers with a dot between each two
abbrev pub local_name_of : List ℕ → Option CellName
local_name_of [] = None
local_name_of (b ∷ rest) = if b == 64 then numbered_name (naturals_of (slice_split is_dot rest)) else None
