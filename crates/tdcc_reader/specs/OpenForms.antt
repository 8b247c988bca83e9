-- The flat forms of a program in the making, in preorder, and where the unit at hand of each open agent and of each open do
-- and time begins. This project's own.
use Rattle.std.specs.Prelude.{ℕ, ◌+◌, ◌-◌, min, List, [], ◌∷◌, length, insert}
use Rattle.tdcc_reader.specs.declared.flat_form.FlatFormKind.TheVariants.{Par}
use Rattle.tdcc_reader.specs.FlatForms.{Entry, entry}

pub record OpenForms : Type 0 where
  pub flat_forms : List Entry
  pub starts : List ℕ

abbrev pub open_forms : List Entry → List ℕ → OpenForms
open_forms fs ss = record { flat_forms = fs; starts = ss }

-- the unit at hand is the body of this form
abbrev pub wrapped : Entry → List ℕ → OpenForms → OpenForms
wrapped e [] g = g
wrapped e (k ∷ ks) g = open_forms (insert g.flat_forms (min k (length g.flat_forms)) e) ks

-- the unit at hand is the left part of a par, and the next one begins
abbrev pub paired : List ℕ → OpenForms → OpenForms
paired [] g = g
paired (k ∷ ks) g =
    let at = min k (length g.flat_forms) in
    open_forms (insert g.flat_forms at (entry (Par ((length g.flat_forms + 1) - at)) [])) ((length g.flat_forms + 1) ∷ ks)
