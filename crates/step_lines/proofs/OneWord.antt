-- Where each cell has a name of its own, a text names one word at most.
use Rattle.std.proofs.Common.{◌≡◌, ℕ, ◌+◌, List, ◌++◌, length, get_or, ap, sym, ◌∙◌, arith, length-append}
use Rattle.std.specs.Prelude.{codes, Some, slice_get}
use Rattle.std.proofs.lemmas.List.{append-nil, append_cancel_right, get_or-append-add}
use Rattle.agent_core.specs.Programs.{CoreProgram}
use Rattle.instant_net.specs.declared.parts.NetCell.{NetCell}
use Rattle.step_lines.specs.WordNames.{name_text, HasEnding, signal, lower, upper, NamesWord}
use Rattle.step_lines.specs.Laws.{HaveOwnNames}

-- a text does not have both endings of a number's words
lower_not_upper : (m n : List ℕ) → m ++ codes ".lo" ≡ n ++ codes ".hi" → ⊥
lower_not_upper m n e =
    let long : length m ≡ length n = omega (arith, length-append m (codes ".lo"), length-append n (codes ".hi"), ap length e) in
    let at_m : get_or (m ++ codes ".lo") (length m + 1) 0 ≡ 108 = get_or-append-add m (codes ".lo") 1 0 in
    let at_n : get_or (n ++ codes ".hi") (length n + 1) 0 ≡ 104 = get_or-append-add n (codes ".hi") 1 0 in
    let same : get_or (m ++ codes ".lo") (length m + 1) 0 ≡ get_or (n ++ codes ".hi") (length n + 1) 0 = ap (λ (t : List ℕ). get_or t (length m + 1) 0) e ∙ ap (λ (k : ℕ). get_or (n ++ codes ".hi") (k + 1) 0) long in
    let w : 108 ≡ 104 = sym at_m ∙ same ∙ at_n in
    absurd (omega (arith, w))

module _ (p : CoreProgram) (cells : List NetCell) (own : HaveOwnNames p cells) where
  -- two cells with one name are one
  one_cell : (j k : ℕ) (c d : NetCell) → slice_get cells j ≡ Some c → slice_get cells k ≡ Some d → name_text p c.name ≡ name_text p d.name → c ≡ d
  one_cell j k c d at_j at_k same =
      let w : Some c ≡ Some d = sym at_j ∙ ap (slice_get cells) (own.distinct j k c d at_j at_k same) ∙ at_k in cc

  module _ (j k : ℕ) (c d : NetCell) (at_j : slice_get cells j ≡ Some c) (at_k : slice_get cells k ≡ Some d) where
    -- two cells whose names have one ending behind them, in one text
    one_ended : (e f g : List ℕ) → e ≡ g → f ≡ g → name_text p c.name ++ e ≡ name_text p d.name ++ f → c ≡ d
    one_ended e f g is_e is_f same =
        one_cell j k c d at_j at_k
        (append_cancel_right (name_text p c.name) (name_text p d.name) g (ap (λ (x : List ℕ). name_text p c.name ++ x) (sym is_e) ∙ same ∙ ap (λ (x : List ℕ). name_text p d.name ++ x) is_f))

    -- and their words behind one text
    one_word_of : (e f : List ℕ) (v w : ℕ) → name_text p c.name ++ e ≡ name_text p d.name ++ f → HasEnding c e v → HasEnding d f w → v ≡ w
    one_word_of e f v w same (signal kc ec vc) (signal kd ed wd) = let x = one_ended e f (codes "") ec ed same in vc ∙ ap (λ (y : NetCell). y.word) x ∙ sym wd
    one_word_of e f v w same (lower kc ec vc) (lower kd ed wd) = let x = one_ended e f (codes ".lo") ec ed same in vc ∙ ap (λ (y : NetCell). y.word) x ∙ sym wd
    one_word_of e f v w same (upper kc ec vc) (upper kd ed wd) = let x = one_ended e f (codes ".hi") ec ed same in vc ∙ ap (λ (y : NetCell). y.word + 1) x ∙ sym wd
    one_word_of e f v w same (signal kc ec vc) (lower kd ed wd) =
        absurd (own.not_lower j c (name_text p d.name) at_j (sym (append-nil (name_text p c.name)) ∙ ap (λ (x : List ℕ). name_text p c.name ++ x) (sym ec) ∙ same ∙ ap (λ (x : List ℕ). name_text p d.name ++ x) ed))
    one_word_of e f v w same (signal kc ec vc) (upper kd ed wd) =
        absurd (own.not_upper j c (name_text p d.name) at_j (sym (append-nil (name_text p c.name)) ∙ ap (λ (x : List ℕ). name_text p c.name ++ x) (sym ec) ∙ same ∙ ap (λ (x : List ℕ). name_text p d.name ++ x) ed))
    one_word_of e f v w same (lower kc ec vc) (signal kd ed wd) =
        absurd (own.not_lower k d (name_text p c.name) at_k (sym (append-nil (name_text p d.name)) ∙ ap (λ (x : List ℕ). name_text p d.name ++ x) (sym ed) ∙ sym same ∙ ap (λ (x : List ℕ). name_text p c.name ++ x) ec))
    one_word_of e f v w same (upper kc ec vc) (signal kd ed wd) =
        absurd (own.not_upper k d (name_text p c.name) at_k (sym (append-nil (name_text p d.name)) ∙ ap (λ (x : List ℕ). name_text p d.name ++ x) (sym ed) ∙ sym same ∙ ap (λ (x : List ℕ). name_text p c.name ++ x) ec))
    one_word_of e f v w same (lower kc ec vc) (upper kd ed wd) =
        absurd (lower_not_upper (name_text p c.name) (name_text p d.name) (ap (λ (x : List ℕ). name_text p c.name ++ x) (sym ec) ∙ same ∙ ap (λ (x : List ℕ). name_text p d.name ++ x) ed))
    one_word_of e f v w same (upper kc ec vc) (lower kd ed wd) =
        absurd (lower_not_upper (name_text p d.name) (name_text p c.name) (ap (λ (x : List ℕ). name_text p d.name ++ x) (sym ed) ∙ sym same ∙ ap (λ (x : List ℕ). name_text p c.name ++ x) ec))

  pub one_word : (text : List ℕ) (v w : ℕ) → NamesWord p cells text v → NamesWord p cells text w → v ≡ w
  one_word text v w (j, c, at_j, (e, text_c, end_c)) (k, d, at_k, (f, text_d, end_d)) = one_word_of j k c d at_j at_k e f v w (sym text_c ∙ text_d) end_c end_d
