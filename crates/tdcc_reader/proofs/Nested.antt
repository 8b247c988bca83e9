-- Flat forms that inserted, when one more comes, and when the last one goes to its place.
use Rattle.std.proofs.Common.{◌≡◌, ℕ, ◌≤◌, List, [], ◌∷◌, ◌++◌, length, reverse, refl, ap, sym, ◌∙◌, arith}
use Rattle.std.specs.Prelude.{map, insert}
use Rattle.std.specs.List.{AllByRecursion}
use Rattle.std.proofs.lemmas.List.{reverse-append}
use Rattle.std.proofs.lemmas.List.Edits.{insert_end, insert-append_left, length-insert}
use Rattle.tdcc_reader.specs.FlatForms.{Entry}
use Rattle.tdcc_reader.specs.Insertions.{Inserted, inserted, placed_in_order, AreInsertedBehind, AreNested, AreOpen, put_in}

-- the last of a list is the first of the reversed one
pub last_first : {X Y : Type 0} (f : X → Y) (xs : List X) (x : X) → map f (reverse (xs ++ x ∷ [])) ≡ f x ∷ map f (reverse xs)
last_first f xs x = ap (map f) (reverse-append xs (x ∷ []))

-- each has a place in preorder
pub length-arranged : (cs : List Inserted) → AreNested cs → length (placed_in_order cs) ≡ length cs
length-arranged [] n = refl
length-arranged (c ∷ cs) n =
    let e = length-arranged cs n.2 in
    let within : c.place ≤ length (placed_in_order cs) = (let h = n.0 in omega arith) in
    let l = length-insert (placed_in_order cs) c.place c.entry within in
    omega arith

-- one that has its place at the end
pub arranged_last : (cs : List Inserted) (k : ℕ) (e : Entry) → AreNested cs → k ≡ length cs → insert (placed_in_order cs) k e ≡ placed_in_order cs ++ e ∷ []
arranged_last cs k e n h = ap (λ j. insert (placed_in_order cs) j e) (h ∙ sym (length-arranged cs n)) ∙ insert_end (placed_in_order cs) e

-- nothing inserted behind all of them
all_behind : (k : ℕ) (cs : List Inserted) → length cs ≤ k → AreInsertedBehind k cs
all_behind k [] h = tt
all_behind k (c ∷ cs) h = ((λ within. absurd (omega arith)), all_behind k cs (omega arith))

-- a place is one among them
pub open_below : (ks : List ℕ) (cs : List Inserted) → AreOpen ks cs → AllByRecursion (λ j. j ≤ length cs) ks
open_below [] cs o = tt
open_below (k ∷ ks) cs o = (o.0, open_below ks cs o.3)

-- bounds that are given for a number hold for a greater one
pub below_more : (ks : List ℕ) (n m : ℕ) → n ≤ m → AllByRecursion (λ j. j ≤ n) ks → AllByRecursion (λ j. j ≤ m) ks
below_more [] n m h b = tt
below_more (k ∷ ks) n m h b = ((let l = b.0 in omega arith), below_more ks n m h b.1)

-- one more comes, with its place behind these
pub open_more : (ks : List ℕ) (c : Inserted) (cs : List Inserted) → AllByRecursion (λ j. j ≤ c.place) ks → AreOpen ks cs → AreOpen ks (c ∷ cs)
open_more [] c cs b o = tt
open_more (k ∷ ks) c cs b o = ((let l = o.0 in omega arith), ((λ within. b.0), o.1), o.2, open_more ks c cs b.1 o.3)

-- the last one goes
pub open_less : (ks : List ℕ) (c : Inserted) (cs : List Inserted) → AllByRecursion (λ j. j ≤ length cs) ks → AreOpen ks (c ∷ cs) → AreOpen ks cs
open_less [] c cs b o = tt
open_less (k ∷ ks) c cs b o = (b.0, o.1.1, o.2, open_less ks c cs b.1 o.3)

-- and it had its place behind these
pub open_behind : (ks : List ℕ) (c : Inserted) (cs : List Inserted) → AllByRecursion (λ j. j ≤ length cs) ks → AreOpen ks (c ∷ cs) → AllByRecursion (λ j. j ≤ c.place) ks
open_behind [] c cs b o = tt
open_behind (k ∷ ks) c cs b o = (o.1.0 b.0, open_behind ks c cs b.1 o.3)

-- a place behind all of them
pub opened : (ks : List ℕ) (cs : List Inserted) → AreOpen ks cs → AreOpen (length cs ∷ ks) cs
opened ks cs o = (omega arith, all_behind (length cs) cs (omega arith), open_below ks cs o, o)

-- those that wait go in before the last one
pub put_in_before : (fs : List Entry) (e : Entry) (ws : List Inserted) → AllByRecursion (λ j. j ≤ length fs) (map (λ c. c.place) ws) → put_in (fs ++ e ∷ []) ws ≡ put_in fs ws ++ e ∷ []
put_in_before fs e [] b = refl
put_in_before fs e (w ∷ ws) b =
    ap (λ l. put_in l ws) (insert-append_left fs (e ∷ []) w.place w.entry b.0)
    ∙ put_in_before (insert fs w.place w.entry) e ws (let l = length-insert fs w.place w.entry b.0 in below_more (map (λ c. c.place) ws) (length fs) (length (insert fs w.place w.entry)) (omega arith) b.1)
