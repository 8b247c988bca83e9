use Rattle.std.proofs.Common.{◌≡◌, ◌<◌, ℕ, List, length, get_or, ap, sym, ◌∙◌, subst}
use Rattle.std.specs.Prelude.{All}
use Rattle.token_system.specs.declared.cell.Token.{Token}
use Rattle.tdcc_reader.specs.declared.flat_form.FlatForm.{FlatForm}
use Rattle.agent_core.specs.Agents.{Constraint}
use Rattle.tdcc_reader.specs.FlatForms.{HasConstraint, IsWholeFlatForm}
use Rattle.tdcc_reader.proofs.flat_form.forms.Goals as goal

pair : (x y : ℕ × Token) → y.0 ≡ x.0 → y.1 ≡ x.1 → y ≡ x
pair x y e f = let g : (y.0, y.1) ≡ (x.0, y.1) = ap (λ k. (k, y.1)) e in let h : (x.0, y.1) ≡ (x.0, x.1) = ap (λ t. (x.0, t)) f in g ∙ h

whole : (ds : List FlatForm) (i : ℕ) (d : FlatForm) (ask : Constraint) → All IsWholeFlatForm ds → d ≡ get_or ds i d → i < length ds → ask ≡ d.ask.items → HasConstraint d.kind ask
whole ds i d ask all is h e = subst (HasConstraint d.kind) (sym e) (subst IsWholeFlatForm (sym is) (all i d h))

pub form_at-requires : goal.form_at-requires
form_at-requires c = whole c.args.flat_forms.now c.loop-at.at c.index-flat_forms-at.result _ c.requires c.index-flat_forms-at.is c.loop-at-test.true (c.in_ok-ask.ensures.items_if_clones_equal (λ x y e. pair x y e.0 e.1) ∙ c.as_slice.ensures.value)
