-- Settings of which no two are of one kind.
use Rattle.std.proofs.Common.{◌≡◌, ◌≢◌, ℕ, ◌<◌, List, [], ◌∷◌, ◌++◌, ◌-◌, length, get_or, map, arith, sym, ◌∙◌, refl, ap, subst, append-nil}
use Rattle.std.specs.List.{Contains, remove}
use Rattle.std.proofs.lemmas.List.{get_or_push, get_or_append_left, get_or-map, length-append, length-map}
use Rattle.std.proofs.lemmas.List.Edits.{remove-append_left, remove-append_right}
use Rattle.std.proofs.lemmas.List.Elements.{Contains-get_or}
use Rattle.std.proofs.lemmas.List.Quantifiers.{all_pairs_push, all_pairs_remove}
use Rattle.command_words.specs.declared.settings.Setting.{Setting}
use Rattle.command_words.specs.Settings.{AreOnce, flag_of}

-- one more whose kind is not there yet
pub once_more : (ss : List Setting) (s : Setting) → AreOnce ss → ((a : Setting) → Contains ss a → flag_of a ≢ flag_of s) → AreOnce (ss ++ s ∷ [])
once_more ss s once new = all_pairs_push (λ (a b : Setting). flag_of a ≢ flag_of b) ss s once (λ k d h. new (get_or ss k d) (Contains-get_or ss k d h))

-- one whose kind is there already would be the second
pub not_twice : (ss : List Setting) (s a : Setting) → Contains ss a → flag_of a ≡ flag_of s → AreOnce (ss ++ s ∷ []) → ⊥
not_twice ss s a (k, within, at) same once =
    let first : get_or (ss ++ s ∷ []) k a ≡ a = get_or_append_left ss (s ∷ []) a k within ∙ at in
    let last : get_or (ss ++ s ∷ []) (length ss) a ≡ s = get_or_push ss s a (length ss) refl in
    once k (length ss) a within (simp length-append (omega arith)) (ap flag_of first ∙ same ∙ sym (ap flag_of last))

-- the last one taken out
remove_push : (ss : List Setting) (s : Setting) → remove (ss ++ s ∷ []) (length ss) ≡ ss
remove_push ss s =
    let none : length ss - length ss ≡ 0 = omega arith in
    remove-append_right ss (s ∷ []) (length ss) (length ss) refl (omega arith) ∙ ap (λ k. ss ++ remove (s ∷ []) k) none ∙ append-nil ss

-- only the kinds count
pub once_flags : (ss ts : List Setting) → map flag_of ss ≡ map flag_of ts → AreOnce ss → AreOnce ts
once_flags ss ts same once i j d lt within e =
    let long : length ss ≡ length ts = sym (length-map ss flag_of) ∙ ap length same ∙ length-map ts flag_of in
    let flag : (k : ℕ) → k < length ts → flag_of (get_or ss k d) ≡ flag_of (get_or ts k d) =
    λ k h. sym (get_or-map flag_of ss k d [] (omega arith)) ∙ ap (λ fs. get_or fs k []) same ∙ get_or-map flag_of ts k d [] h in
    once i j d lt (omega arith) (flag i (omega arith) ∙ e ∙ sym (flag j within))

-- those at the front too
pub once_front : (ss ts : List Setting) → AreOnce (ss ++ ts) → AreOnce ss
once_front ss ts once i j d lt within e =
    once i j d lt (simp length-append (omega arith)) (ap flag_of (get_or_append_left ss ts d i (omega arith)) ∙ e ∙ ap flag_of (sym (get_or_append_left ss ts d j within)))

-- one may be left out
pub once_without : (ss ts : List Setting) (s : Setting) → AreOnce ((ss ++ s ∷ []) ++ ts) → AreOnce (ss ++ ts)
once_without ss ts s once =
    let long : length ss < length (ss ++ s ∷ []) = simp length-append (omega arith) in
    let within : length ss < length ((ss ++ s ∷ []) ++ ts) = simp length-append (omega arith) in
    let left : remove ((ss ++ s ∷ []) ++ ts) (length ss) ≡ ss ++ ts =
    remove-append_left (ss ++ s ∷ []) ts (length ss) long ∙ ap (λ front. front ++ ts) (remove_push ss s) in
    subst AreOnce left (all_pairs_remove (λ (a b : Setting). flag_of a ≢ flag_of b) ((ss ++ s ∷ []) ++ ts) (length ss) within once)
