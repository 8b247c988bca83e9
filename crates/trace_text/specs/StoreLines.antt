-- The line of a store: what is told of the declared cells, in order of declaration, with one space between each two texts. This project's own.
use Rattle.std.specs.Prelude.{ℕ, suc, Bool, true, false, if◌then◌else◌, ℤ, List, [], ◌∷◌, ◌++◌, codes, take, int_lt, slice_get, Option, None}
use Rattle.std.specs.Fmt.{signed_decimal}
use Rattle.std.specs.List.{join_with_byte}
use Rattle.std.specs.Ordering.{int_eq}
use Rattle.token_system.specs.declared.cell.Cell.{Cell}
use Rattle.token_system.specs.declared.cell.Token.TheVariants.{On, Off, AtLeast, AtMost, Clash}
use Rattle.token_system.specs.declared.cell.Value.{Value}
use Rattle.token_system.specs.declared.cell.Value.TheVariants as values
use Rattle.token_system.specs.declared.name.CellName.{CellName}
use Rattle.token_system.specs.declared.name.CellName.TheVariants.{Declared, Local}
use Rattle.token_system.specs.Texts.{text_of}
use Rattle.token_system.specs.Values.{bottom_of, value_eq}
use Rattle.token_system.specs.Stores.{StoreMap, value_at}
use Rattle.agent_core.specs.declared.node.CellDecl.{CellDecl}
use Rattle.agent_core.specs.Programs.{CoreProgram}

-- the text, where the test holds
abbrev pub text_if : Bool → List ℕ → List (List ℕ)
text_if true text = text ∷ []
text_if false text = []

-- the text of both bounds of a number at once: `x=3`
abbrev pub exact_text : List ℕ → ℤ → List ℕ
exact_text name k = name ++ codes "=" ++ signed_decimal k

-- the texts of a number with these bounds, of the domain from least to most: `x=3` where they are equal, and otherwise each bound that is tighter than the domain's
abbrev pub bound_texts : List ℕ → ℤ → ℤ → ℤ → ℤ → List (List ℕ)
bound_texts name least most lo hi =
    if int_eq lo hi then exact_text name lo ∷ []
    else text_if (int_lt least lo) (text_of name (AtLeast lo)) ++ text_if (int_lt hi most) (text_of name (AtMost hi))

-- the texts of a named cell that has this value, of which something is told
abbrev pub told_texts : List ℕ → Cell → Value → List (List ℕ)
told_texts name c (values.Signal true off) = text_of name On ∷ []
told_texts name c (values.Signal false off) = text_of name Off ∷ []
told_texts name c (values.Number lo hi) = bound_texts name c.lo c.hi lo hi
told_texts name c values.Clash = text_of name Clash ∷ []

-- the texts of a named cell that has this value: none for its bottom
abbrev pub value_texts : List ℕ → Cell → Value → List (List ℕ)
value_texts name c v = if value_eq v (bottom_of c) then [] else told_texts name c v

-- the texts of these cells, of which the first has number n
abbrev pub cell_texts : ℕ → List CellDecl → StoreMap → List (List ℕ)
cell_texts n [] v = []
cell_texts n (d ∷ later) v = value_texts d.name d.cell (value_at v (Declared n) d.cell) ++ cell_texts (suc n) later v

-- the cell that a name has among these, if it has one
abbrev pub cell_of_name : List CellDecl → CellName → Option CellDecl
cell_of_name cells (Declared n) = slice_get cells n
cell_of_name cells (Local node births) = None

abbrev pub store_line : CoreProgram → StoreMap → List ℕ
store_line p v = join_with_byte 32 (cell_texts 0 (take p.declared p.cells) v)
