use Rattle.std.proofs.Common.{◌≡◌, ℕ, List, [], ◌∷◌, Some, cond, bytes_eq, refl, ap, ◌∙◌}
use Rattle.std.specs.Prelude.{map}
use Rattle.token_system.specs.declared.cell.Kind.{Kind}
use Rattle.tdcc_reader.specs.Meanings.{meaning_of}
use Rattle.tdcc_reader.specs.NamingPass.{known_view}
use Rattle.tdcc_reader.specs.Scope.{kind_in_scope}
use Rattle.tdcc_reader.proofs.naming.kind_of.Goals as goal

means_kind : (s : List (List ℕ × Kind)) (x : List ℕ) → meaning_of s x ≡ kind_in_scope (map known_view s) x
means_kind [] x = refl
means_kind (k ∷ ks) x = ap (cond (bytes_eq k.0 x) (Some k.1)) (means_kind ks x)

pub returns : goal.returns
returns c = c.meaning.ensures ∙ means_kind c.args.scope.now c.args.name.now
