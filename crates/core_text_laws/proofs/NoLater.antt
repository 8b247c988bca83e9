-- No program has a word of a form that is not built yet.
use Rattle.std.proofs.Common.{◌≡◌, ℕ, suc, ◌+◌, Bool, cond, List, [], ◌∷◌, length, Some, None, refl, ap, ◌∙◌, le-ltb, arith}
use Rattle.std.specs.Prelude.{nat_lt, position}
use Rattle.std.specs.List.{position_or_len}
use Rattle.program_grammar.specs.Terms as t
use Rattle.program_grammar.specs.Terms.{Term, class_of, classes}
use Rattle.program_grammar.specs.Phrases as g
use Rattle.program_grammar.specs.Spelling.{token, constraint, unit, agent, names, items, program}
use Rattle.tdcc_reader.specs.Stages.{is_later}

-- none of the terms has such a word
abbrev IsClean : List Term → Type 0
IsClean ts = position_or_len is_later (classes ts) ≡ length (classes ts)

step : {m n : ℕ} → m ≡ n → 1 + m ≡ suc n
step {m} {n} e = omega (arith, e)

clean_token : (x : g.TokenPhrase) (rest : List Term) → IsClean rest → IsClean (token x rest)
clean_token (g.On x) rest h = step h
clean_token (g.Off x) rest h = step (step h)
clean_token (g.Clash x) rest h = step (step h)
clean_token (g.AtLeast x n) rest h = step (step (step h))
clean_token (g.AtMost x n) rest h = step (step (step h))
clean_token (g.Exactly x n) rest h = step (step (step h))

clean_constraint : (c : g.ConstraintPhrase) (rest : List Term) → IsClean rest → IsClean (constraint c rest)
clean_constraint (g.One x) rest h = clean_token x rest h
clean_constraint (g.Both x c) rest h = clean_token x (t.Ampersand ∷ constraint c rest) (step (clean_constraint c rest h))

mutual
  clean_unit : (u : g.UnitPhrase) (rest : List Term) → IsClean rest → IsClean (unit u rest)
  clean_unit g.Skip rest h = step h
  clean_unit (g.Tell c) rest h = clean_constraint c rest h
  clean_unit (g.Braces a) rest h = step (clean_agent a (t.CloseBrace ∷ rest) (step h))
  clean_unit (g.IfThen c u) rest h = step (clean_constraint c (t.Then ∷ unit u rest) (step (clean_unit u rest h)))
  clean_unit (g.IfElse c u) rest h = step (clean_constraint c (t.Else ∷ unit u rest) (step (clean_unit u rest h)))
  clean_unit (g.LocalSignal x u) rest h = step (step (step (step (clean_unit u rest h))))
  clean_unit (g.LocalInt x l k u) rest h = step (step (step (step (step (step (step (step (clean_unit u rest h))))))))
  clean_unit (g.Hence u) rest h = step (clean_unit u rest h)
  clean_unit (g.Next u) rest h = step (clean_unit u rest h)
  clean_unit (g.Always u) rest h = step (clean_unit u rest h)
  clean_unit (g.When c u) rest h = step (clean_constraint c (t.Do ∷ unit u rest) (step (clean_unit u rest h)))
  clean_unit (g.Watching a c) rest h = step (clean_agent a (t.Watching ∷ constraint c rest) (step (clean_constraint c rest h)))
  clean_unit (g.TimeOn a c) rest h = step (clean_agent a (t.On ∷ constraint c rest) (step (clean_constraint c rest h)))

  clean_agent : (a : g.AgentPhrase) (rest : List Term) → IsClean rest → IsClean (agent a rest)
  clean_agent (g.Only u) rest h = clean_unit u rest h
  clean_agent (g.Par u a) rest h = clean_unit u (t.Bars ∷ agent a rest) (step (clean_agent a rest h))

clean_names : (ns : g.NamesPhrase) (rest : List Term) → IsClean rest → IsClean (names ns rest)
clean_names (g.LastName x) rest h = step h
clean_names (g.MoreName x ns) rest h = step (step (clean_names ns rest h))

clean_items : (is : g.ItemsPhrase) (rest : List Term) → IsClean rest → IsClean (items is rest)
clean_items (g.LastItem x l k) rest h = step (step (step (step (step h))))
clean_items (g.MoreItem x l k is) rest h = step (step (step (step (step (step (clean_items is rest h))))))

clean_program : (p : g.ProgramPhrase) (rest : List Term) → IsClean rest → IsClean (program p rest)
clean_program (g.Runs a) rest h = clean_agent a rest h
clean_program (g.Signals ns p) rest h = step (clean_names ns (t.Semicolon ∷ program p rest) (step (clean_program p rest h)))
clean_program (g.Ints is p) rest h = step (clean_items is (t.Semicolon ∷ program p rest) (step (clean_program p rest h)))

-- The terms of a program have none.
pub none_later : (p : g.ProgramPhrase) (ts : List Term) → ts ≡ program p [] → position is_later (classes ts) ≡ None
none_later p ts e =
    ap (λ (xs : List Term). position is_later (classes xs)) e
    ∙ ap (λ (n : ℕ). cond (nat_lt n (length (classes (program p [])))) (Some n) None) (clean_program p [] refl)
    ∙ ap (λ (b : Bool). cond b (Some (length (classes (program p [])))) None) (le-ltb (length (classes (program p []))) (length (classes (program p []))) (omega arith))
