-- A local cell that the program can have at an instant, from what is read of its name, and the node and births in that name.
use Rattle.std.proofs.Common.{◌≡◌, ℕ, suc, ◌+◌, ◌<◌, ◌≤◌, ◌^◌, true, List, [], ◌∷◌, length, get_or, Option, Some, None, inl, inr, refl, sym, ◌∙◌, arith}
use Rattle.std.specs.Prelude.{◌⊎◌, IsTrue, nat_le, ◌&&◌, slice_get}
use Rattle.std.proofs.lemmas.Bool.Decides.{nat_tests}
use Rattle.std.proofs.lemmas.Option.{slice_get_cases}
use Rattle.token_system.specs.declared.name.CellName.{CellName}
use Rattle.token_system.specs.declared.name.CellName.TheVariants.{Local}
use Rattle.agent_core.specs.declared.node.CellDecl.{CellDecl}
use Rattle.agent_core.specs.declared.node.Node.{Node}
use Rattle.agent_core.specs.declared.node.Node.TheVariants as nodes
use Rattle.agent_core.specs.Names.{Names, depth_of}
use Rattle.agent_core.specs.Programs.{CoreProgram}
use Rattle.agent_core.specs.Strata.{Each}
use Rattle.agent_core.specs.WellFormed.{IsWellFormed}
use Rattle.agent_core.proofs.Bools.{first_of_both, second_of_both}
use Rattle.certificate_text.specs.LocalCells.{are_births, IsLocalCell}
use Rattle.certificate_text.specs.OutLines.{cell_made}

-- a node that makes a cell is a new node
made_by_new : (p : CoreProgram) (m : ℕ) (d : CellDecl) (o : Option Node) → slice_get p.nodes m ≡ o → cell_made p.cells o ≡ Some d
    → (cell body : ℕ) × (slice_get p.nodes m ≡ Some (nodes.New cell body)) × (slice_get p.cells cell ≡ Some d)
made_by_new p m d (Some (nodes.New cell body)) at made = (cell, body, at, made)
made_by_new p m d None at made = absurd (cc)
made_by_new p m d (Some nodes.Skip) at made = absurd (cc)
made_by_new p m d (Some (nodes.Tell ask)) at made = absurd (cc)
made_by_new p m d (Some (nodes.Then ask body)) at made = absurd (cc)
made_by_new p m d (Some (nodes.Else ask body)) at made = absurd (cc)
made_by_new p m d (Some (nodes.Par left right)) at made = absurd (cc)
made_by_new p m d (Some (nodes.Hence body)) at made = absurd (cc)
made_by_new p m d (Some (nodes.Next body)) at made = absurd (cc)

pub local_cell_read : (p : CoreProgram) (t : ℕ) (name : CellName) (m : ℕ) (births : List ℕ) (d : CellDecl) → name ≡ Local m births → cell_made p.cells (slice_get p.nodes m) ≡ Some d
    → length births ≡ depth_of p.nodes m + 1 → IsTrue (are_births 0 t births) → IsLocalCell p t name d.cell
local_cell_read p t name m births d is made long born =
    let new = made_by_new p m d (slice_get p.nodes m) refl made in
    record { node = m; births = births; local = is; decl = d; named = (new.0, new.1, new.2, new.3, (let more : length births ≡ suc (depth_of p.nodes m) = omega arith in more)); kind = refl; born = born }

-- the numbers in the name of such a cell have nine digits at most
within : {X : Type 0} (xs : List X) (i : ℕ) (x : X) → slice_get xs i ≡ Some x → i < length xs
within {X = X} xs i x at = go (slice_get_cases xs i).1
  where
    go : ((y : X) × (i < length xs) × (slice_get xs i ≡ Some y) × (get_or xs i y ≡ y)) ⊎ ((length xs ≤ i) × (slice_get xs i ≡ None)) → i < length xs
    go (inl h) = h.1
    go (inr h) = let none : Some x ≡ None = sym at ∙ h.1 in absurd (cc)

pub node_small : (p : CoreProgram) (m : ℕ) (births : List ℕ) (d : CellDecl) → IsWellFormed p → Names p (Local m births) d → m < 10 ^ 9
node_small p m births d program (cell, body, at, found, long) =
    let lt = within p.nodes m (nodes.New cell body) at in
    let few : length p.nodes ≤ 4096 = program.limits.few_nodes in
    omega arith

at_most : (b t : ℕ) → nat_le b t ≡ true → b ≤ t
at_most b t h = grind (arith, nat_tests)

pub births_small : (least t : ℕ) (births : List ℕ) → t < 10 ^ 9 → IsTrue (are_births least t births) → Each (λ b. b < 10 ^ 9) births
births_small least t [] soon h = tt
births_small least t (b ∷ births) soon h =
    let rest = second_of_both (nat_le least b) (nat_le b t && are_births b t births) h in
    let le = at_most b t (first_of_both (nat_le b t) (are_births b t births) rest) in
    ((let lt : b < 10 ^ 9 = omega arith in lt), births_small b t births soon (second_of_both (nat_le b t) (are_births b t births) rest))
