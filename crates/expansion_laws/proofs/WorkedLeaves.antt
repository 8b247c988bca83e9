-- What stands in the lists of the programs that are worked out by hand.
use Rattle.std.proofs.Common.{◌≡◌, ℕ, Bool, true, false, List, [], ◌∷◌, ◌++◌, take, refl, sym, ap, ◌∙◌, arith}
use Rattle.std.specs.Prelude.{if◌then◌else◌}
use Rattle.std.specs.FinMap.{get-empty, get-insert}
use Rattle.std.proofs.lemmas.Fmt.{decimal_digit}
use Rattle.token_system.specs.declared.cell.Value.{Value}
use Rattle.token_system.specs.Names.{name_cmp, name_total}
use Rattle.agent_core.specs.declared.node.CellDecl.{CellDecl}
use Rattle.agent_core.specs.declared.node.Closure.{Closure}
use Rattle.agent_core.specs.Closures.{closure, sorted, roots}
use Rattle.agent_core.specs.Rests.{entails}
use Rattle.agent_core.specs.Worked.{a_decl, a_on, nothing, only_a}
use Rattle.expansion_laws.specs.Table.{signal_on}
use Rattle.expansion_laws.specs.SymbolicAgents.{binders}
use Rattle.expansion_laws.specs.Numbering.{hidden, cells_from}
use Rattle.expansion_laws.specs.WorkedForms.{b_decl, dollar_decl, watching_surface, watching_core, watching_symbolic, time_surface, time_core, time_symbolic}

-- the hidden signals by their numbers
two : hidden 2 ≡ dollar_decl 50
two = ap (λ (digits : List ℕ). record (dollar_decl 50) { name = 36 ∷ digits }) (decimal_digit 2 (omega arith))

three : hidden 3 ≡ dollar_decl 51
three = ap (λ (digits : List ℕ). record (dollar_decl 51) { name = 36 ∷ digits }) (decimal_digit 3 (omega arith))

four : hidden 4 ≡ dollar_decl 52
four = ap (λ (digits : List ℕ). record (dollar_decl 52) { name = 36 ∷ digits }) (decimal_digit 4 (omega arith))

pub watching_cells : watching_core.cells ≡ take 2 watching_surface.cells ++ cells_from watching_surface.cells 2 (binders watching_symbolic)
watching_cells = ap (λ (second : CellDecl). a_decl ∷ b_decl ∷ second ∷ []) (sym two)

pub time_cells : time_core.cells ≡ take 2 time_surface.cells ++ cells_from time_surface.cells 2 (binders time_symbolic)
time_cells =
    ap (λ (c : CellDecl). a_decl ∷ b_decl ∷ c ∷ dollar_decl 51 ∷ dollar_decl 52 ∷ []) (sym two)
    ∙ ap (λ (c : CellDecl). a_decl ∷ b_decl ∷ hidden 2 ∷ c ∷ dollar_decl 52 ∷ []) (sym three)
    ∙ ap (λ (c : CellDecl). a_decl ∷ b_decl ∷ hidden 2 ∷ hidden 3 ∷ c ∷ []) (sym four)

-- what the store of which nothing was told entails, and the one in which `a` is on
nothing_a : entails watching_core (0 ∷ []) nothing a_on ≡ false
nothing_a = simp (get-empty {X = Value} name_cmp) (refl {a = false})

nothing_hidden : entails watching_core (0 ∷ []) nothing (signal_on 2) ≡ false
nothing_hidden = simp (get-empty {X = Value} name_cmp) (refl {a = false})

a_there : entails time_core (0 ∷ []) only_a a_on ≡ true
a_there = simp (get-insert {X = Value} name_total) (refl {a = true})

a_hidden : entails time_core (0 ∷ []) only_a (signal_on 2) ≡ false
a_hidden = simp (get-insert {X = Value} name_total, get-empty {X = Value} name_cmp) (refl {a = false})

-- what instant 0 starts at instant 1, by what its store entails
abbrev watching_next : Bool → Bool → List Closure
watching_next asked denied =
    ((if asked then [] ++ closure 7 (0 ∷ []) ∷ [] else []) ++ closure 9 (0 ∷ []) ∷ []) ++ ((if denied then [] else []) ++ closure 18 (0 ∷ []) ∷ [])

abbrev time_next : Bool → Bool → List Closure
time_next asked denied =
    (if asked then (if denied then [] else closure 6 (0 ∷ []) ∷ []) ++ closure 22 (0 ∷ []) ∷ [] else []) ++ closure 24 (0 ∷ []) ∷ []

-- the roots of instant 1 where nothing was told before, and where `a` was
pub watching_roots : roots watching_core (nothing ∷ []) ≡ closure 9 (0 ∷ []) ∷ closure 18 (0 ∷ []) ∷ []
watching_roots =
    ap (λ (e : Bool). sorted (watching_next e (entails watching_core (0 ∷ []) nothing (signal_on 2)))) nothing_a
    ∙ ap (λ (e : Bool). sorted (watching_next false e)) nothing_hidden

pub time_roots : roots time_core (only_a ∷ []) ≡ closure 6 (0 ∷ []) ∷ closure 22 (0 ∷ []) ∷ closure 24 (0 ∷ []) ∷ []
time_roots =
    ap (λ (e : Bool). sorted (time_next e (entails time_core (0 ∷ []) only_a (signal_on 2)))) a_there
    ∙ ap (λ (e : Bool). sorted (time_next true e)) a_hidden
