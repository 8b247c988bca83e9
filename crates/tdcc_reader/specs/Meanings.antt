-- Names with their meanings, the newest first, and the index in which they are looked up. This project's own.
use Rattle.std.specs.Prelude.{◌≡◌, ℕ, List, [], ◌∷◌, map, reverse, bytes_eq, if◌then◌else◌, Option, Some, None}
use Rattle.std.specs.Borrow.{Bor}
use Rattle.std.specs.BTreeMap.{BTreeMap, get_by}
use Rattle.std.specs.Cmp.Lexicographic.{slice_cmp}
use Rattle.std.specs.Ordering.{nat_cmp}
use Rattle.tdcc_reader.specs.declared.scope.Named.{Named}

module _ {T : Type 0} where
  -- what a name means, if it is in scope: the newest one stands first
  abbrev pub meaning_of : List (List ℕ × T) → List ℕ → Option T
  meaning_of [] x = None
  meaning_of (m ∷ ms) x = if bytes_eq m.0 x then Some m.1 else meaning_of ms x

  -- what the code has of them; the newest one is its last
  abbrev pub named_view : Named T → List ℕ × T
  named_view n = (n.name.now, n.meaning)

  -- what an index says of a name
  abbrev pub indexed : BTreeMap (Bor (List ℕ)) T → List ℕ → Option T
  indexed newest x = get_by (λ k. slice_cmp nat_cmp x k.now) newest

  -- each one, of which the newest stands first, has what its name means among those behind it
  abbrev pub Hides : List (Named T) → Type 0
  Hides [] = Unit {0}
  Hides (n ∷ ns) = (n.hidden ≡ meaning_of (map named_view ns) n.name.now) × Hides ns

  -- the index says what the names mean, and each of them has what it hides
  pub record IsIndexed (ns : List (Named T)) (newest : BTreeMap (Bor (List ℕ)) T) : Type 0 where
    pub says : (x : List ℕ) → indexed newest x ≡ meaning_of (map named_view (reverse ns)) x
    pub hides : Hides (reverse ns)
