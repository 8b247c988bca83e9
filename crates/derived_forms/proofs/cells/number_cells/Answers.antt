use Rattle.std.proofs.Common.{◌≡◌, ℕ, ◌+◌, List, [], ◌∷◌, ◌++◌, ap, sym, ◌∙◌, take, add-one}
use Rattle.std.proofs.lemmas.List.{append_assoc}
use Rattle.std.specs.Slice.Iter.{iter_rest}
use Rattle.derived_forms.proofs.cells.number_cells.Goals as goal

-- the next one to be taken is put behind those that were
taken_over : {X : Type 0} (made more rest later whole : List X) (x y : X) (n m : ℕ) → more ≡ made ++ y ∷ [] → y ≡ x → rest ≡ x ∷ later → m + 1 ≡ n → made ++ take n rest ≡ whole → more ++ take m later ≡ whole
taken_over {X} made more rest later whole x y n m pushed copied next count all =
    ap (λ (l : List X). l ++ take m later) pushed
    ∙ append_assoc made (y ∷ []) (take m later)
    ∙ ap (λ (z : X). made ++ (z ∷ take m later)) copied
    ∙ ap (λ (k : ℕ). made ++ take k (x ∷ later)) (sym (add-one m) ∙ count)
    ∙ ap (λ (l : List X). made ++ take n l) (sym next)
    ∙ all

pub loop-decl-preserved : goal.loop-decl-preserved
loop-decl-preserved c =
    taken_over c.loop-decl.made.items c.push.new.self.items (iter_rest c.loop-decl.decl-iterator.iter) (iter_rest c.next.new.self.iter) _ c.in-Some.decl.now c.in_ok-cell_copy.field-0 c.loop-decl.decl-iterator.n c.next.new.self.n
    c.in_ok-push.ensures.items c.in_ok-cell_copy.ensures c.in-Some.ensures.steps.0 c.in-Some.ensures.steps.1 c.loop-decl.invariant
