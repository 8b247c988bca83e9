-- The same for the flat forms of the code, where the newest one is the last.
use Rattle.std.proofs.Common.{◌≡◌, ℕ, ◌+◌, ◌-◌, ◌≤◌, min, List, [], ◌∷◌, ◌++◌, length, reverse, true, false, ap, sym, ◌∙◌, subst, arith, append_assoc}
use Rattle.std.specs.Prelude.{map, insert}
use Rattle.std.specs.List.{AllByRecursion}
use Rattle.std.proofs.lemmas.Bool.{leb-true, leb-false}
use Rattle.std.proofs.lemmas.List.{length-map, length-reverse, reverse-append}
use Rattle.tdcc_reader.specs.declared.insertions.Insertion.{Insertion}
use Rattle.tdcc_reader.specs.declared.flat_form.FlatForm.{FlatForm}
use Rattle.tdcc_reader.specs.declared.flat_form.FlatFormKind.TheVariants.{Par}
use Rattle.tdcc_reader.specs.FlatForms.{Entry, entry, flat_form_view}
use Rattle.tdcc_reader.specs.OpenForms.{open_forms, paired}
use Rattle.tdcc_reader.specs.Insertions.{Inserted, inserted_view, inserted_views, placed_in_order, AreNested, AreOpen, PlacesInOrder, put_in, goes_in}
use Rattle.tdcc_reader.proofs.Nested.{last_first, length-arranged, arranged_last, open_more, open_less, open_behind, opened, put_in_before, below_more}

pub length-came_views : (cs : List Insertion) → length (inserted_views cs) ≡ length cs
length-came_views cs = length-map (reverse cs) inserted_view ∙ length-reverse cs

newest : (cs : List Insertion) (c : Insertion) (more : List Insertion) → more ≡ cs ++ c ∷ [] → inserted_views more ≡ inserted_view c ∷ inserted_views cs
newest cs c more e = ap inserted_views e ∙ last_first inserted_view cs c

-- flat forms that are nested, and places open among them
abbrev Keeps : List Insertion → List ℕ → Type 0
Keeps cs ks = AreNested (inserted_views cs) × AreOpen ks (inserted_views cs)

-- one comes in front of the unit at hand
pub wrap_keeps : (cs more : List Insertion) (c : Insertion) (ks : List ℕ) → Keeps cs (c.place ∷ ks) → more ≡ cs ++ c ∷ [] → Keeps more ks
wrap_keeps cs more c ks (n, o) e =
    let v = newest cs c more e in
    let P : List Inserted → Type 0 = λ l. AreNested l × AreOpen ks l in
    subst P (sym v) ((o.0, o.1, n), open_more ks (inserted_view c) (inserted_views cs) o.2 o.3)

pub wrap_arranged : (cs more : List Insertion) (c : Insertion) → more ≡ cs ++ c ∷ [] → placed_in_order (inserted_views more) ≡ insert (placed_in_order (inserted_views cs)) c.place (flat_form_view c.flat_form)
wrap_arranged cs more c e = ap placed_in_order (newest cs c more e)

-- one comes behind the others
pub put_keeps : (cs more : List Insertion) (c : Insertion) (ks : List ℕ) → Keeps cs ks → c.place ≡ length cs → more ≡ cs ++ c ∷ [] → Keeps more ks
put_keeps cs more c ks (n, o) p e =
    let place : length (inserted_views cs) ≡ c.place = length-came_views cs ∙ sym p in
    let P : ℕ → Type 0 = λ k. AreOpen (k ∷ ks) (inserted_views cs) in
    wrap_keeps cs more c ks (n, subst P place (opened ks (inserted_views cs) o)) e

pub put_arranged : (cs more : List Insertion) (c : Insertion) → AreNested (inserted_views cs) → c.place ≡ length cs → more ≡ cs ++ c ∷ [] → placed_in_order (inserted_views more) ≡ placed_in_order (inserted_views cs) ++ flat_form_view c.flat_form ∷ []
put_arranged cs more c n p e = wrap_arranged cs more c e ∙ arranged_last (inserted_views cs) c.place (flat_form_view c.flat_form) n (p ∙ sym (length-came_views cs))

-- the unit at hand begins
pub begin_keeps : (cs : List Insertion) (ss more : List ℕ) (k : ℕ) → Keeps cs (reverse ss) → k ≡ length cs → more ≡ ss ++ k ∷ [] → Keeps cs (reverse more)
begin_keeps cs ss more k (n, o) p e =
    let r : reverse more ≡ length (inserted_views cs) ∷ reverse ss = ap reverse e ∙ reverse-append ss (k ∷ []) ∙ ap (λ j. j ∷ reverse ss) (p ∙ sym (length-came_views cs)) in
    let P : List ℕ → Type 0 = λ l. AreOpen l (inserted_views cs) in
    (n, subst P (sym r) (opened (reverse ss) (inserted_views cs) o))

pub many_arranged : (cs : List Insertion) → AreNested (inserted_views cs) → length (placed_in_order (inserted_views cs)) ≡ length cs
many_arranged cs n = length-arranged (inserted_views cs) n ∙ length-came_views cs

-- the unit at hand was the one that began last
pub last_open : (cs : List Insertion) (ss less : List ℕ) (k : ℕ) → Keeps cs (reverse ss) → ss ≡ less ++ k ∷ [] → Keeps cs (k ∷ reverse less)
last_open cs ss less k (n, o) e =
    let P : List ℕ → Type 0 = λ l. AreOpen l (inserted_views cs) in
    (n, subst P (ap reverse e ∙ reverse-append less (k ∷ [])) o)

-- the places of flat forms that wait
abbrev places : List Inserted → List ℕ
places ws = map (λ c. c.place) ws

behind : (fs : List Entry) (ds more : List FlatForm) (d : FlatForm) → more ≡ ds ++ d ∷ [] → (fs ++ flat_form_view d ∷ []) ++ map flat_form_view (reverse ds) ≡ fs ++ map flat_form_view (reverse more)
behind fs ds more d e = append_assoc fs (flat_form_view d ∷ []) (map flat_form_view (reverse ds)) ∙ ap (λ l. fs ++ l) (sym (ap (λ l. map flat_form_view (reverse l)) e ∙ last_first flat_form_view ds d))

-- one that waits goes to the back
pub front_goes : (fs : List Entry) (left waiting fewer : List Insertion) (back more : List FlatForm) (w : Insertion) → PlacesInOrder fs left waiting back
    → goes_in (length left) (inserted_views waiting) ≡ true → waiting ≡ fewer ++ w ∷ [] → more ≡ back ++ w.flat_form ∷ [] → PlacesInOrder fs left fewer more
front_goes fs left waiting fewer back more w a t e b =
    let v = newest fewer w waiting e in
    let h : length left ≤ w.place = leb-true (length left) w.place (sym (ap (goes_in (length left)) v) ∙ t) in
    let P : List Inserted → Type 0 = λ l. AreOpen (places l) (inserted_views left) in
    let o = subst P v a.open_at in
    let place : w.place ≡ length (inserted_views left) = (let l = length-came_views left in let u = o.0 in omega arith) in
    let long = length-arranged (inserted_views left) a.nested in
    record {
      nested = a.nested;
      open_at = o.3;
      same =
          sym (behind (put_in (placed_in_order (inserted_views left)) (inserted_views fewer)) back more w.flat_form b)
          ∙ ap (λ l. l ++ map flat_form_view (reverse back))
          (sym (put_in_before (placed_in_order (inserted_views left)) (flat_form_view w.flat_form) (inserted_views fewer) (subst (λ n. AllByRecursion (λ j. j ≤ n) (places (inserted_views fewer))) (place ∙ sym long) o.2))
          ∙ ap (λ l. put_in l (inserted_views fewer)) (sym (arranged_last (inserted_views left) w.place (flat_form_view w.flat_form) a.nested place)))
          ∙ ap (λ l. put_in (placed_in_order (inserted_views left)) l ++ map flat_form_view (reverse back)) (sym v)
          ∙ a.same;
    }

-- none that waits goes in behind the last one
apart : (ws : List Inserted) (c : Inserted) (cs : List Inserted) → AreOpen (places ws) (c ∷ cs) → goes_in (length (c ∷ cs)) ws ≡ false → AllByRecursion (λ j. j ≤ length cs) (places ws)
apart [] c cs o f = tt
apart (w ∷ ws) c cs o f =
    let less : w.place ≤ length cs = (let l = leb-false (length (c ∷ cs)) w.place f in omega arith) in
    (less, below_more (places ws) w.place (length cs) less o.2)

-- the last one waits
pub last_waits : (fs : List Entry) (left fewer waiting more : List Insertion) (back : List FlatForm) (c : Insertion) → PlacesInOrder fs left waiting back
    → goes_in (length left) (inserted_views waiting) ≡ false → left ≡ fewer ++ c ∷ [] → more ≡ waiting ++ c ∷ [] → PlacesInOrder fs fewer more back
last_waits fs left fewer waiting more back c a f e b =
    let v = newest fewer c left e in
    let u = newest waiting c more b in
    let n = subst AreNested v a.nested in
    let P : List Inserted → Type 0 = λ l. AreOpen (places (inserted_views waiting)) l in
    let o = subst P v a.open_at in
    let g : goes_in (length (inserted_view c ∷ inserted_views fewer)) (inserted_views waiting) ≡ false = ap (λ k. goes_in k (inserted_views waiting)) (ap length (sym v) ∙ length-came_views left) ∙ f in
    let below = apart (inserted_views waiting) (inserted_view c) (inserted_views fewer) o g in
    let Q : List Inserted → Type 0 = λ l. AreOpen (places l) (inserted_views fewer) in
    record {
      nested = n.2;
      open_at = subst Q (sym u) (n.0, n.1, open_behind (places (inserted_views waiting)) (inserted_view c) (inserted_views fewer) below o, open_less (places (inserted_views waiting)) (inserted_view c) (inserted_views fewer) below o);
      same =
          ap (λ l. put_in (placed_in_order (inserted_views fewer)) l ++ map flat_form_view (reverse back)) u
          ∙ ap (λ l. put_in (placed_in_order l) (inserted_views waiting) ++ map flat_form_view (reverse back)) (sym v)
          ∙ a.same;
    }

-- the last one goes to the back
pub last_goes : (fs : List Entry) (left fewer waiting : List Insertion) (back more : List FlatForm) (c : Insertion) → PlacesInOrder fs left waiting back
    → goes_in (length left) (inserted_views waiting) ≡ false → left ≡ fewer ++ c ∷ [] → length fewer ≤ c.place → more ≡ back ++ c.flat_form ∷ [] → PlacesInOrder fs fewer waiting more
last_goes fs left fewer waiting back more c a f e h b =
    let v = newest fewer c left e in
    let n = subst AreNested v a.nested in
    let P : List Inserted → Type 0 = λ l. AreOpen (places (inserted_views waiting)) l in
    let o = subst P v a.open_at in
    let g : goes_in (length (inserted_view c ∷ inserted_views fewer)) (inserted_views waiting) ≡ false = ap (λ k. goes_in k (inserted_views waiting)) (ap length (sym v) ∙ length-came_views left) ∙ f in
    let below = apart (inserted_views waiting) (inserted_view c) (inserted_views fewer) o g in
    let place : c.place ≡ length (inserted_views fewer) = (let l = length-came_views fewer in let u = n.0 in omega arith) in
    let long = length-arranged (inserted_views fewer) n.2 in
    record {
      nested = n.2;
      open_at = open_less (places (inserted_views waiting)) (inserted_view c) (inserted_views fewer) below o;
      same =
          sym (behind (put_in (placed_in_order (inserted_views fewer)) (inserted_views waiting)) back more c.flat_form b)
          ∙ ap (λ l. l ++ map flat_form_view (reverse back))
          (sym (put_in_before (placed_in_order (inserted_views fewer)) (flat_form_view c.flat_form) (inserted_views waiting) (subst (λ n. AllByRecursion (λ j. j ≤ n) (places (inserted_views waiting))) (sym long) below))
          ∙ ap (λ l. put_in l (inserted_views waiting)) (sym (arranged_last (inserted_views fewer) c.place (flat_form_view c.flat_form) n.2 place)))
          ∙ ap (λ l. put_in (placed_in_order l) (inserted_views waiting) ++ map flat_form_view (reverse back)) (sym v)
          ∙ a.same;
    }

-- the unit at hand is the left part of a par
pub next_arranged : (cs more : List Insertion) (ss less starts : List ℕ) (c : Insertion) (n m : ℕ) → Keeps cs (reverse ss) → ss ≡ less ++ c.place ∷ [] → n ≡ length cs
    → flat_form_view c.flat_form ≡ entry (Par ((n + 1) - c.place)) [] → more ≡ cs ++ c ∷ [] → m ≡ n + 1 → starts ≡ less ++ m ∷ []
    → open_forms (placed_in_order (inserted_views more)) (reverse starts) ≡ paired (reverse ss) (open_forms (placed_in_order (inserted_views cs)) (reverse ss))
next_arranged cs more ss less starts c n m keeps es en ed ec em et =
    let long : length (placed_in_order (inserted_views cs)) ≡ n = many_arranged cs keeps.0 ∙ sym en in
    let within : min c.place (length (placed_in_order (inserted_views cs))) ≡ c.place = (let o = (last_open cs ss less c.place keeps es).1.0 in let l = length-came_views cs in omega arith) in
    ap (λ fs. open_forms fs (reverse starts)) (wrap_arranged cs more c ec ∙ ap (insert (placed_in_order (inserted_views cs)) c.place) ed)
    ∙ ap (open_forms (insert (placed_in_order (inserted_views cs)) c.place (entry (Par ((n + 1) - c.place)) []))) (ap reverse et ∙ reverse-append less (m ∷ []) ∙ ap (λ k. k ∷ reverse less) em)
    ∙ sym (ap (λ k. open_forms (insert (placed_in_order (inserted_views cs)) (min c.place k) (entry (Par ((k + 1) - min c.place k)) [])) ((k + 1) ∷ reverse less)) long
    ∙ ap (λ at. open_forms (insert (placed_in_order (inserted_views cs)) at (entry (Par ((n + 1) - at)) [])) ((n + 1) ∷ reverse less)) (ap (min c.place) (sym long) ∙ within))
    ∙ sym (ap (λ ks. paired ks (open_forms (placed_in_order (inserted_views cs)) (reverse ss))) (ap reverse es ∙ reverse-append less (c.place ∷ [])))
