use Rattle.std.proofs.Common.{◌≡◌, ℕ, ◌++◌, List, ap, ◌∙◌, refl}
use Rattle.std.specs.Prelude.{IsTrue, codes, pos}
use Rattle.std.specs.Fmt.{decimal}
use Rattle.std.proofs.Math.Bool.{Bool-set}
use Rattle.token_system.specs.declared.cell.Kind.TheVariants.{Signal}
use Rattle.token_system.specs.Domain.{is_cell}
use Rattle.agent_core.specs.declared.node.CellDecl.{CellDecl}
use Rattle.expansion_laws.specs.Numbering.{hidden}
use Rattle.derived_forms.proofs.cells.hidden.Goals as goal

abbrev signal : List ℕ → IsTrue (is_cell Signal (pos 0) (pos 0)) → CellDecl
signal name lawful = record { name = name; cell = record { kind = Signal; lo = pos 0; hi = pos 0; lawful = lawful } }

-- there is one proof that a cell is lawful
hidden_named : (number : ℕ) (name : List ℕ) (lawful : IsTrue (is_cell Signal (pos 0) (pos 0))) → name ≡ codes "$" ++ decimal number → signal name lawful ≡ hidden number
hidden_named number name lawful e =
    ap (λ (n : List ℕ). signal n lawful) e ∙ ap (signal (codes "$" ++ decimal number)) (Bool-set _ _ lawful refl)

pub returns : goal.returns
returns c = hidden_named c.args.number c.make.result _
    (c.make.ensures
    ∙ c.in_ok-extend_from_slice.ensures.items
    ∙ ap (λ (l : List ℕ). l ++ c.as_bytes.result.now) (c.in_ok-name.ensures.items_if_clones_equal (λ x y e. e))
    ∙ ap (λ (l : List ℕ). codes "$" ++ l) (c.as_bytes.ensures.value ∙ c.format.ensures.text))
