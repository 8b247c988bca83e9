use Rattle.std.proofs.Common.{◌≡◌, List, ℕ, [], ◌∷◌, ◌++◌, ap, ◌∙◌, append_assoc}
use Rattle.std.specs.Prelude.{codes, decimal, slice_get}
use Rattle.tdcc_tool.specs.Messages as messages
use Rattle.tdcc_tool.proofs.messages.strata_line.Goals as goal

pub returns : goal.returns
returns c =
    let guard : List ℕ = messages.cell_name (slice_get c.args.program.now.cells c.args.guard) in
    let told : List ℕ = messages.cell_name (slice_get c.args.program.now.cells c.args.told) in
    let first : List ℕ = codes "tdcc: program: not stratified, " in
    let place : List ℕ = codes " at node " ++ decimal c.args.node ++ 10 ∷ [] in
    let begun : c.in_ok-line.line.items ≡ first = c.in_ok-line.ensures.items_if_clones_equal (λ x y h. h) in
    let one : c.extend_from_slice.new.self.items ≡ first ++ guard = c.in_ok-extend_from_slice.ensures.items ∙ ap (λ (xs : List ℕ). xs ++ c.name_of.result.now) begun ∙ ap (λ (xs : List ℕ). first ++ xs) c.name_of.ensures in
    let two : c.extend_from_slice-2.new.self.items ≡ (first ++ guard) ++ codes " guards " = c.in_ok-extend_from_slice-2.ensures.items ∙ ap (λ (xs : List ℕ). xs ++ codes " guards ") one in
    let three : c.extend_from_slice-3.new.self.items ≡ ((first ++ guard) ++ codes " guards ") ++ told =
    c.in_ok-extend_from_slice-3.ensures.items ∙ ap (λ (xs : List ℕ). xs ++ c.name_of-2.result.now) two ∙ ap (λ (xs : List ℕ). ((first ++ guard) ++ codes " guards ") ++ xs) c.name_of-2.ensures in
    let placed : c.as_bytes.result.now ≡ place = c.as_bytes.ensures.value ∙ c.in_ok-place.ensures.ok in
    let four : c.extend_from_slice-4.new.self.items ≡ (((first ++ guard) ++ codes " guards ") ++ told) ++ place =
    c.in_ok-extend_from_slice-4.ensures.items ∙ ap (λ (xs : List ℕ). xs ++ c.as_bytes.result.now) three ∙ ap (λ (xs : List ℕ). (((first ++ guard) ++ codes " guards ") ++ told) ++ xs) placed in
    let joined = append_assoc ((first ++ guard) ++ codes " guards ") told place ∙ append_assoc (first ++ guard) (codes " guards ") (told ++ place) ∙ append_assoc first guard (codes " guards " ++ (told ++ place)) in
    simp append_assoc (four ∙ joined)
