-- The tree of a program, and how it is kept as a list of forms: numbered in preorder, a par's left part before its right
-- one. The forms are those of timed default concurrent constraint programming (Saraswat, Jagadeesan and Gupta
-- 1994/1996).
use Rattle.std.specs.Prelude.{ℕ, suc, ◌+◌, List, [], ◌∷◌, ◌++◌}
use Rattle.agent_core.specs.Agents.{Constraint}
use Rattle.tdcc_reader.specs.declared.surface.Form.{Form}
use Rattle.tdcc_reader.specs.declared.surface.Form.TheVariants as form

pub data Tree : Type 0 where
  Skip : Tree
  Tell : (ask : Constraint) → Tree
  Then : (ask : Constraint) → (body : Tree) → Tree
  Else : (ask : Constraint) → (body : Tree) → Tree
  Par : (left right : Tree) → Tree
  New : (cell : ℕ) → (body : Tree) → Tree
  Hence : (body : Tree) → Tree
  Next : (body : Tree) → Tree
  Always : (body : Tree) → Tree
  When : (ask : Constraint) → (body : Tree) → Tree
  Watch : (body : Tree) → (stop : Constraint) → Tree
  Time : (body : Tree) → (clock : Constraint) → Tree

-- how many forms a tree has
abbrev pub form_count : Tree → ℕ
form_count Skip = 1
form_count (Tell ask) = 1
form_count (Then ask a) = suc (form_count a)
form_count (Else ask a) = suc (form_count a)
form_count (Par a b) = suc (form_count a + form_count b)
form_count (New cell a) = suc (form_count a)
form_count (Hence a) = suc (form_count a)
form_count (Next a) = suc (form_count a)
form_count (Always a) = suc (form_count a)
form_count (When ask a) = suc (form_count a)
form_count (Watch a stop) = suc (form_count a)
form_count (Time a clock) = suc (form_count a)

-- the forms of a tree whose root has number n
abbrev pub form_listing : ℕ → Tree → List Form
form_listing n Skip = form.Skip ∷ []
form_listing n (Tell c) = form.Tell c ∷ []
form_listing n (Then c a) = form.Then c (suc n) ∷ form_listing (suc n) a
form_listing n (Else c a) = form.Else c (suc n) ∷ form_listing (suc n) a
form_listing n (Par l r) = form.Par (suc n) (suc n + form_count l) ∷ (form_listing (suc n) l ++ form_listing (suc n + form_count l) r)
form_listing n (New cell a) = form.New cell (suc n) ∷ form_listing (suc n) a
form_listing n (Hence a) = form.Hence (suc n) ∷ form_listing (suc n) a
form_listing n (Next a) = form.Next (suc n) ∷ form_listing (suc n) a
form_listing n (Always a) = form.Always (suc n) ∷ form_listing (suc n) a
form_listing n (When c a) = form.When c (suc n) ∷ form_listing (suc n) a
form_listing n (Watch a c) = form.Watch (suc n) c ∷ form_listing (suc n) a
form_listing n (Time a c) = form.Time (suc n) c ∷ form_listing (suc n) a
