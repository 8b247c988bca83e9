-- An index of names, when a name enters the scope and when one skips it.
use Rattle.std.proofs.Common.{◌≡◌, ℕ, List, [], ◌∷◌, ◌++◌, reverse, Option, Some, IsSome, Bool, true, false, cond, bytes_eq, Bor, refl, ap, ◌∙◌}
use Rattle.std.specs.Prelude.{map, if◌then◌else◌}
use Rattle.std.specs.BTreeMap.{BTreeMap}
use Rattle.std.specs.Map.{update}
use Rattle.std.proofs.lemmas.List.{reverse-append}
use Rattle.std.proofs.lemmas.Slice.Eq.{bytes_eq-Decides}
use Rattle.tdcc_reader.specs.declared.scope.Named.{Named}
use Rattle.tdcc_reader.specs.Meanings.{IsIndexed, Hides, indexed, meaning_of, named_view}

-- the newest name stands first
newest_first : {T : Type 0} (ns : List (Named T)) (n : Named T) → reverse (ns ++ n ∷ []) ≡ n ∷ reverse ns
newest_first ns n = reverse-append ns (n ∷ [])

-- a name has the meaning that was put in front
named : (x : List ℕ) → bytes_eq x x ≡ true
named x = (bytes_eq-Decides x x).1 refl

-- what is said once the newest meaning is replaced by the hidden one
uncovered : {T : Type 0} (b : Bool) (hidden old now rest : Option T) (meaning : T) → now ≡ cond b hidden old → old ≡ (if b then Some meaning else rest) → (b ≡ true → hidden ≡ rest) → now ≡ rest
uncovered true hidden old now rest meaning e f h = e ∙ h refl
uncovered false hidden old now rest meaning e f h = e ∙ f

module _ {T : Type 0} where
  -- the same, with the names in the order in which they are meant
  along : (ns rs : List (Named T)) (m : BTreeMap (Bor (List ℕ)) T) → reverse ns ≡ rs → ((x : List ℕ) → indexed m x ≡ meaning_of (map named_view rs) x) → Hides rs → IsIndexed ns m
  along ns rs m e says hides = record { says = λ x. rw e (says x); hides = rw e hides }

  -- a name enters
  pub entered : (ns more : List (Named T)) (m m' : BTreeMap (Bor (List ℕ)) T) (n : Named T) → IsIndexed ns m → more ≡ ns ++ n ∷ [] → n.hidden ≡ meaning_of (map named_view (reverse ns)) n.name.now
      → ((x : List ℕ) → indexed m' x ≡ update bytes_eq (indexed m) n.name.now (Some n.meaning) x) → IsIndexed more m'
  entered ns more m m' n is e hidden says =
      along more (n ∷ reverse ns) m' (ap reverse e ∙ newest_first ns n)
      (λ x. says x ∙ ap (cond (bytes_eq n.name.now x) (Some n.meaning)) (is.says x))
      (hidden, is.hides)

  -- what the names mean, where one of them is the last to have entered
  before : (ns less : List (Named T)) (m : BTreeMap (Bor (List ℕ)) T) (n : Named T) → IsIndexed ns m → ns ≡ less ++ n ∷ []
      → (((x : List ℕ) → indexed m x ≡ meaning_of (map named_view (n ∷ reverse less)) x) × Hides (n ∷ reverse less))
  before ns less m n is e =
      let r : reverse ns ≡ n ∷ reverse less = ap reverse e ∙ newest_first less n in
      ((λ x. rw r at (is.says x)), rw r at is.hides)

  -- it has a meaning
  pub is_named : (ns less : List (Named T)) (m : BTreeMap (Bor (List ℕ)) T) (n : Named T) → IsIndexed ns m → ns ≡ less ++ n ∷ [] → IsSome (indexed m n.name.now)
  is_named ns less m n is e =
      let meant = (before ns less m n is e).0 n.name.now in
      rw (meant, named n.name.now)

  -- it skips
  pub left : (ns less : List (Named T)) (m m' : BTreeMap (Bor (List ℕ)) T) (n : Named T) → IsIndexed ns m → ns ≡ less ++ n ∷ []
      → ((x : List ℕ) → indexed m' x ≡ update bytes_eq (indexed m) n.name.now n.hidden x) → IsIndexed less m'
  left ns less m m' n is e says =
      let b = before ns less m n is e in
      record {
        says = λ x. uncovered (bytes_eq n.name.now x) n.hidden (indexed m x) (indexed m' x) (meaning_of (map named_view (reverse less)) x) n.meaning (says x) (b.0 x)
            (λ t. b.1.0 ∙ ap (meaning_of (map named_view (reverse less))) ((bytes_eq-Decides n.name.now x).0 t));
        hides = b.1.1;
      }
