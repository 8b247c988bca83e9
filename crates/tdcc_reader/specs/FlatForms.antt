-- Forms while they are read: with the place of a par's right part counted from the par's own.
use Rattle.std.specs.Prelude.{ℕ, ◌+◌, ◌≤◌, min, List, [], ◌∷◌, ◌++◌, length}
use Rattle.tdcc_reader.specs.Limits.{most_constraint_tokens}
use Rattle.tdcc_reader.specs.declared.surface.Form.{Form}
use Rattle.tdcc_reader.specs.declared.surface.Form.TheVariants as form
use Rattle.tdcc_reader.specs.declared.flat_form.FlatForm as code
use Rattle.tdcc_reader.specs.declared.flat_form.FlatFormKind.{FlatFormKind}
use Rattle.tdcc_reader.specs.declared.flat_form.FlatFormKind.TheVariants as kind
use Rattle.tdcc_reader.specs.Trees.{Tree, Skip, Tell, Then, Else, Par, New, Hence, Next, Always, When, Watch, Time}
use Rattle.agent_core.specs.Agents.{Constraint}

-- a form with its constraint
pub record Entry : Type 0 where
  pub kind : FlatFormKind
  pub ask : Constraint

abbrev pub entry : FlatFormKind → Constraint → Entry
entry k a = record { kind = k; ask = a }

-- what the code has of it
abbrev pub flat_form_view : code.FlatForm → Entry
flat_form_view d = entry d.kind d.ask.items

-- a tree as flat forms
abbrev pub flat_forms : Tree → List Entry
flat_forms Skip = entry kind.Skip [] ∷ []
flat_forms (Tell c) = entry kind.Tell c ∷ []
flat_forms (Then c a) = entry kind.Then c ∷ flat_forms a
flat_forms (Else c a) = entry kind.Else c ∷ flat_forms a
flat_forms (Par l r) = entry (kind.Par (1 + length (flat_forms l))) [] ∷ (flat_forms l ++ flat_forms r)
flat_forms (New cell a) = entry (kind.New cell) [] ∷ flat_forms a
flat_forms (Hence a) = entry kind.Hence [] ∷ flat_forms a
flat_forms (Next a) = entry kind.Next [] ∷ flat_forms a
flat_forms (Always a) = entry kind.Always [] ∷ flat_forms a
flat_forms (When c a) = entry kind.When c ∷ flat_forms a
flat_forms (Watch a c) = entry kind.Watch c ∷ flat_forms a
flat_forms (Time a c) = entry kind.Time c ∷ flat_forms a

-- a number of a form, so many forms behind another one
abbrev pub link : ℕ → ℕ → ℕ
link at behind = min (at + behind) 4294967295

-- the form of a flat form that stands at this place
abbrev pub form_at : ℕ → FlatFormKind → Constraint → Form
form_at at kind.Skip c = form.Skip
form_at at kind.Tell c = form.Tell c
form_at at kind.Then c = form.Then c (link at 1)
form_at at kind.Else c = form.Else c (link at 1)
form_at at (kind.Par right) c = form.Par (link at 1) (link at right)
form_at at (kind.New cell) c = form.New cell (link at 1)
form_at at kind.Hence c = form.Hence (link at 1)
form_at at kind.Next c = form.Next (link at 1)
form_at at kind.Always c = form.Always (link at 1)
form_at at kind.When c = form.When c (link at 1)
form_at at kind.Watch c = form.Watch (link at 1) c
form_at at kind.Time c = form.Time (link at 1) c

-- the forms of flat forms that stand from this place on
abbrev pub forms_at : ℕ → List Entry → List Form
forms_at at [] = []
forms_at at (e ∷ es) = form_at at e.kind e.ask ∷ forms_at (at + 1) es

-- an ask of a form has 1 to 16 tokens
abbrev pub IsConstraintList : Constraint → Type 0
IsConstraintList c = (1 ≤ length c) × (length c ≤ most_constraint_tokens)

-- the flat form has such an ask, where its form has one
abbrev pub HasConstraint : FlatFormKind → Constraint → Type 0
HasConstraint kind.Tell c = IsConstraintList c
HasConstraint kind.Then c = IsConstraintList c
HasConstraint kind.Else c = IsConstraintList c
HasConstraint kind.When c = IsConstraintList c
HasConstraint kind.Watch c = IsConstraintList c
HasConstraint kind.Time c = IsConstraintList c
HasConstraint _ c = Unit {0}

-- the same of an entry
abbrev pub IsWholeEntry : Entry → Type 0
IsWholeEntry e = HasConstraint e.kind e.ask

-- the same of a flat form of the code
abbrev pub IsWholeFlatForm : code.FlatForm → Type 0
IsWholeFlatForm d = HasConstraint d.kind d.ask.items
