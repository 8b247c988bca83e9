use Rattle.std.proofs.Common.{◌≡◌, ℕ, List, [], ◌∷◌, Bool, true, false, Option, Some, bytes_eq, refl, ap, ◌∙◌}
use Rattle.std.specs.Prelude.{map, unwrap_or, if◌then◌else◌}
use Rattle.tdcc_reader.specs.Meanings.{meaning_of}
use Rattle.tdcc_reader.specs.BuildPass.{scoped_view}
use Rattle.tdcc_reader.specs.Surfaces.{cell_in_scope}
use Rattle.tdcc_reader.proofs.build.cell_of.Goals as goal

chosen : (b : Bool) (n : ℕ) (rest : Option ℕ) (cell : ℕ) → unwrap_or rest 0 ≡ cell → unwrap_or (if b then Some n else rest) 0 ≡ (if b then n else cell)
chosen true n rest cell e = refl
chosen false n rest cell e = e

means_cell : (s : List (List ℕ × ℕ)) (x : List ℕ) → unwrap_or (meaning_of s x) 0 ≡ cell_in_scope (map scoped_view s) x
means_cell [] x = refl
means_cell (p ∷ ps) x = chosen (bytes_eq p.0 x) p.1 (meaning_of ps x) (cell_in_scope (map scoped_view ps) x) (means_cell ps x)

pub returns : goal.returns
returns c = c.unwrap_or.ensures ∙ ap (λ o. unwrap_or o 0) c.meaning.ensures ∙ means_cell c.args.scope.now c.args.name.now
