-- Flat forms in the order in which they come, each with its place among those that were inserted before it, and how they get into
-- preorder: from the last one to the first, where one that belongs in front of others waits until these have gone.
-- Each list has the newest flat form first. This project's own.
use Rattle.std.specs.Prelude.{◌≡◌, ℕ, ◌≤◌, nat_le, List, [], ◌∷◌, ◌++◌, length, map, reverse, insert, Bool, false}
use Rattle.std.specs.List.{AllByRecursion}
use Rattle.tdcc_reader.specs.declared.insertions.Insertion.{Insertion}
use Rattle.tdcc_reader.specs.declared.flat_form.FlatForm.{FlatForm}
use Rattle.tdcc_reader.specs.FlatForms.{Entry, flat_form_view}

-- a flat form that was inserted, and its place
pub record Inserted : Type 0 where
  pub place : ℕ
  pub entry : Entry

abbrev pub inserted : ℕ → Entry → Inserted
inserted k e = record { place = k; entry = e }

-- what the code has of it
abbrev pub inserted_view : Insertion → Inserted
inserted_view c = inserted c.place (flat_form_view c.flat_form)

abbrev pub inserted_views : List Insertion → List Inserted
inserted_views cs = map inserted_view (reverse cs)

-- each in its place
abbrev pub placed_in_order : List Inserted → List Entry
placed_in_order [] = []
placed_in_order (c ∷ cs) = insert (placed_in_order cs) c.place c.entry

-- what inserted behind the first k of them has its place behind these
abbrev pub AreInsertedBehind : ℕ → List Inserted → Type 0
AreInsertedBehind k [] = Unit {0}
AreInsertedBehind k (c ∷ cs) = (k ≤ length cs → k ≤ c.place) × AreInsertedBehind k cs

-- each has its place among those that were inserted before it, and what inserted behind this place stays behind it
abbrev pub AreNested : List Inserted → Type 0
AreNested [] = Unit {0}
AreNested (c ∷ cs) = (c.place ≤ length cs) × AreInsertedBehind c.place cs × AreNested cs

-- places, of which none is less than those behind it; what inserted behind one of them stays behind it
abbrev pub AreOpen : List ℕ → List Inserted → Type 0
AreOpen [] cs = Unit {0}
AreOpen (k ∷ ks) cs = (k ≤ length cs) × AreInsertedBehind k cs × AllByRecursion (λ j. j ≤ k) ks × AreOpen ks cs

-- flat forms that wait go into a list, each in its place
abbrev pub put_in : List Entry → List Inserted → List Entry
put_in fs [] = fs
put_in fs (c ∷ cs) = put_in (insert fs c.place c.entry) cs

-- the first of those that wait belongs behind so many flat forms
abbrev pub goes_in : ℕ → List Inserted → Bool
goes_in n [] = false
goes_in n (c ∷ cs) = nat_le n c.place

-- in preorder: what is left, with those that wait, and behind it the others
abbrev pub preorder_of : List Insertion → List Insertion → List FlatForm → List Entry
preorder_of left waiting back = put_in (placed_in_order (inserted_views left)) (inserted_views waiting) ++ map flat_form_view (reverse back)

-- these are on their way to that preorder
pub record PlacesInOrder (fs : List Entry) (left waiting : List Insertion) (back : List FlatForm) : Type 0 where
  pub nested : AreNested (inserted_views left)
  pub open_at : AreOpen (map (λ c. c.place) (inserted_views waiting)) (inserted_views left)
  pub same : preorder_of left waiting back ≡ fs
