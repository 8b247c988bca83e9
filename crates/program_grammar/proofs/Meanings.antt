-- The terms that are a symbol of the grammar, by its alternatives, are those of a phrase.
use Rattle.std.proofs.Common.{◌≡◌, ℕ, List, [], ◌∷◌, ◌++◌, refl, ap}
use Rattle.std.specs.Prelude.{ℤ}
use Rattle.program_grammar.specs.Terms.{Term, Name, Number, In, Range}
use Rattle.program_grammar.specs.Phrases.{AtLeast, AtMost, Exactly, One, Both, Tell, Braces, IfThen, IfElse, LocalSignal, LocalInt, Only, Par, LastName, MoreName, LastItem, MoreItem, Runs, Signals, Ints}
use Rattle.program_grammar.specs.Phrases as phrases
use Rattle.program_grammar.specs.Spelling.{token, constraint, unit, agent, names, items, program}
use Rattle.program_grammar.specs.Alternatives.{Symbol, AName, ANumber, The, AToken, AConstraint, AUnit, AnAgent, SomeNames, AnItem, SomeItems, AProgram, MatchesSymbol, Alternative, asserts, denies, clashes, at_least, at_most, exactly, one, both, nothing, tell, braces, if_then, if_else, new_signal, new_int, hence, next, always, when_do, do_watching, time_on, only, par, last_name, more_names, item, last_item, more_items, runs, signals, ints, Is, AreAll, none, some, by}
use Rattle.program_grammar.specs.Alternatives.Is.{itself as is_itself}
use Rattle.program_grammar.specs.declared.words.Language.{Language}
use Rattle.std.proofs.Common.{append_assoc}

-- the terms, with whatever follows, are those of this phrase
abbrev Stands : {A : Type 0} → List Term → (A → List Term → List Term) → Type 0
Stands {A} ts f = (a : A) × ((k : List Term) → ts ++ k ≡ f a k)

abbrev pub Means : Symbol → List Term → Type 0
Means AName ts = Stands {A = List ℕ} ts (λ x k. Name x ∷ k)
Means ANumber ts = Stands {A = ℤ} ts (λ n k. Number n ∷ k)
Means (The t) ts = (k : List Term) → ts ++ k ≡ t ∷ k
Means AToken ts = Stands ts token
Means AConstraint ts = Stands ts constraint
Means AUnit ts = Stands ts unit
Means AnAgent ts = Stands ts agent
Means SomeNames ts = Stands ts names
Means AnItem ts = (x : List ℕ) × (l : ℤ) × (h : ℤ) × ((k : List Term) → ts ++ k ≡ Name x ∷ In ∷ Number l ∷ Range ∷ Number h ∷ k)
Means SomeItems ts = Stands ts items
Means AProgram ts = Stands ts program

abbrev MeansAll : List Symbol → List Term → Type 0
MeansAll [] ts = (k : List Term) → ts ++ k ≡ k
MeansAll (s ∷ ss) ts = (us : List Term) × (vs : List Term) × Means s us × MeansAll ss vs × ((k : List Term) → ts ++ k ≡ us ++ (vs ++ k))

fits_means : (s : Symbol) (t : Term) → MatchesSymbol s t → Means s (t ∷ [])
fits_means AName t (x, e) = (x, λ k. ap (λ v. v ∷ k) e)
fits_means ANumber t (x, e) = (x, λ k. ap (λ v. v ∷ k) e)
fits_means (The v) t e = λ k. ap (λ v. v ∷ k) e
fits_means AToken t e = absurd e
fits_means AConstraint t e = absurd e
fits_means AUnit t e = absurd e
fits_means AnAgent t e = absurd e
fits_means SomeNames t e = absurd e
fits_means AnItem t e = absurd e
fits_means SomeItems t e = absurd e
fits_means AProgram t e = absurd e

alternative_means : {l : Language} {s : Symbol} {parts : List Symbol} (ts : List Term) → Alternative l s parts → MeansAll parts ts → Means s ts
alternative_means ts asserts (u0, v0, (x, m0), n, e0) = (phrases.On x, λ k. cc (e0 k, m0 (v0 ++ k), n k))
alternative_means ts denies (u0, v0, m0, (u1, v1, (x, m1), n, e1), e0) = (phrases.Off x, λ k. cc (e0 k, m0 (v0 ++ k), e1 k, m1 (v1 ++ k), n k))
alternative_means ts clashes (u0, v0, m0, (u1, v1, (x, m1), n, e1), e0) = (phrases.Clash x, λ k. cc (e0 k, m0 (v0 ++ k), e1 k, m1 (v1 ++ k), n k))
alternative_means ts at_least (u0, v0, (x, m0), (u1, v1, m1, (u2, v2, (y, m2), n, e2), e1), e0) = (AtLeast x y, λ k. cc (e0 k, m0 (v0 ++ k), e1 k, m1 (v1 ++ k), e2 k, m2 (v2 ++ k), n k))
alternative_means ts at_most (u0, v0, (x, m0), (u1, v1, m1, (u2, v2, (y, m2), n, e2), e1), e0) = (AtMost x y, λ k. cc (e0 k, m0 (v0 ++ k), e1 k, m1 (v1 ++ k), e2 k, m2 (v2 ++ k), n k))
alternative_means ts exactly (u0, v0, (x, m0), (u1, v1, m1, (u2, v2, (y, m2), n, e2), e1), e0) = (Exactly x y, λ k. cc (e0 k, m0 (v0 ++ k), e1 k, m1 (v1 ++ k), e2 k, m2 (v2 ++ k), n k))
alternative_means ts one (u0, v0, (t, m0), n, e0) = (One t, λ k. cc (e0 k, m0 (v0 ++ k), n k))
alternative_means ts both (u0, v0, (t, m0), (u1, v1, m1, (u2, v2, (c, m2), n, e2), e1), e0) = (Both t c, λ k. cc (e0 k, m0 (v0 ++ k), e1 k, m1 (v1 ++ k), e2 k, m2 (v2 ++ k), n k))
alternative_means ts nothing (u0, v0, m0, n, e0) = (phrases.Skip, λ k. cc (e0 k, m0 (v0 ++ k), n k))
alternative_means ts tell (u0, v0, (c, m0), n, e0) = (Tell c, λ k. cc (e0 k, m0 (v0 ++ k), n k))
alternative_means ts braces (u0, v0, m0, (u1, v1, (a, m1), (u2, v2, m2, n, e2), e1), e0) = (Braces a, λ k. cc (e0 k, m0 (v0 ++ k), e1 k, m1 (v1 ++ k), e2 k, m2 (v2 ++ k), n k))
alternative_means ts if_then (u0, v0, m0, (u1, v1, (c, m1), (u2, v2, m2, (u3, v3, (b, m3), n, e3), e2), e1), e0) = (IfThen c b, λ k. cc (e0 k, m0 (v0 ++ k), e1 k, m1 (v1 ++ k), e2 k, m2 (v2 ++ k), e3 k, m3 (v3 ++ k), n k))
alternative_means ts if_else (u0, v0, m0, (u1, v1, (c, m1), (u2, v2, m2, (u3, v3, (b, m3), n, e3), e2), e1), e0) = (IfElse c b, λ k. cc (e0 k, m0 (v0 ++ k), e1 k, m1 (v1 ++ k), e2 k, m2 (v2 ++ k), e3 k, m3 (v3 ++ k), n k))
alternative_means ts new_signal (u0, v0, m0, (u1, v1, m1, (u2, v2, (x, m2), (u3, v3, m3, (u4, v4, (b, m4), n, e4), e3), e2), e1), e0) = (LocalSignal x b, λ k. cc (e0 k, m0 (v0 ++ k), e1 k, m1 (v1 ++ k), e2 k, m2 (v2 ++ k), e3 k, m3 (v3 ++ k), e4 k, m4 (v4 ++ k), n k))
alternative_means ts new_int (u0, v0, m0, (u1, v1, m1, (u2, v2, (x, y, z, m2), (u3, v3, m3, (u4, v4, (b, m4), n, e4), e3), e2), e1), e0) = (LocalInt x y z b, λ k. cc (e0 k, m0 (v0 ++ k), e1 k, m1 (v1 ++ k), e2 k, m2 (v2 ++ k), e3 k, m3 (v3 ++ k), e4 k, m4 (v4 ++ k), n k))
alternative_means ts hence (u0, v0, m0, (u1, v1, (b, m1), n, e1), e0) = (phrases.Hence b, λ k. cc (e0 k, m0 (v0 ++ k), e1 k, m1 (v1 ++ k), n k))
alternative_means ts next (u0, v0, m0, (u1, v1, (b, m1), n, e1), e0) = (phrases.Next b, λ k. cc (e0 k, m0 (v0 ++ k), e1 k, m1 (v1 ++ k), n k))
alternative_means ts always (u0, v0, m0, (u1, v1, (b, m1), n, e1), e0) = (phrases.Always b, λ k. cc (e0 k, m0 (v0 ++ k), e1 k, m1 (v1 ++ k), n k))
alternative_means ts when_do (u0, v0, m0, (u1, v1, (c, m1), (u2, v2, m2, (u3, v3, (b, m3), n, e3), e2), e1), e0) = (phrases.When c b, λ k. cc (e0 k, m0 (v0 ++ k), e1 k, m1 (v1 ++ k), e2 k, m2 (v2 ++ k), e3 k, m3 (v3 ++ k), n k))
alternative_means ts do_watching (u0, v0, m0, (u1, v1, (a, m1), (u2, v2, m2, (u3, v3, (c, m3), n, e3), e2), e1), e0) = (phrases.Watching a c, λ k. cc (e0 k, m0 (v0 ++ k), e1 k, m1 (v1 ++ k), e2 k, m2 (v2 ++ k), e3 k, m3 (v3 ++ k), n k))
alternative_means ts time_on (u0, v0, m0, (u1, v1, (a, m1), (u2, v2, m2, (u3, v3, (c, m3), n, e3), e2), e1), e0) = (phrases.TimeOn a c, λ k. cc (e0 k, m0 (v0 ++ k), e1 k, m1 (v1 ++ k), e2 k, m2 (v2 ++ k), e3 k, m3 (v3 ++ k), n k))
alternative_means ts only (u0, v0, (b, m0), n, e0) = (Only b, λ k. cc (e0 k, m0 (v0 ++ k), n k))
alternative_means ts par (u0, v0, (b, m0), (u1, v1, m1, (u2, v2, (a, m2), n, e2), e1), e0) = (Par b a, λ k. cc (e0 k, m0 (v0 ++ k), e1 k, m1 (v1 ++ k), e2 k, m2 (v2 ++ k), n k))
alternative_means ts last_name (u0, v0, (x, m0), n, e0) = (LastName x, λ k. cc (e0 k, m0 (v0 ++ k), n k))
alternative_means ts more_names (u0, v0, (x, m0), (u1, v1, m1, (u2, v2, (ns, m2), n, e2), e1), e0) = (MoreName x ns, λ k. cc (e0 k, m0 (v0 ++ k), e1 k, m1 (v1 ++ k), e2 k, m2 (v2 ++ k), n k))
alternative_means ts item (u0, v0, (x, m0), (u1, v1, m1, (u2, v2, (y, m2), (u3, v3, m3, (u4, v4, (z, m4), n, e4), e3), e2), e1), e0) = (x, y, z, λ k. cc (e0 k, m0 (v0 ++ k), e1 k, m1 (v1 ++ k), e2 k, m2 (v2 ++ k), e3 k, m3 (v3 ++ k), e4 k, m4 (v4 ++ k), n k))
alternative_means ts last_item (u0, v0, (x, y, z, m0), n, e0) = (LastItem x y z, λ k. cc (e0 k, m0 (v0 ++ k), n k))
alternative_means ts more_items (u0, v0, (x, y, z, m0), (u1, v1, m1, (u2, v2, (is, m2), n, e2), e1), e0) = (MoreItem x y z is, λ k. cc (e0 k, m0 (v0 ++ k), e1 k, m1 (v1 ++ k), e2 k, m2 (v2 ++ k), n k))
alternative_means ts runs (u0, v0, (a, m0), n, e0) = (Runs a, λ k. cc (e0 k, m0 (v0 ++ k), n k))
alternative_means ts signals (u0, v0, m0, (u1, v1, (ns, m1), (u2, v2, m2, (u3, v3, (p, m3), n, e3), e2), e1), e0) = (Signals ns p, λ k. cc (e0 k, m0 (v0 ++ k), e1 k, m1 (v1 ++ k), e2 k, m2 (v2 ++ k), e3 k, m3 (v3 ++ k), n k))
alternative_means ts ints (u0, v0, m0, (u1, v1, (is, m1), (u2, v2, m2, (u3, v3, (p, m3), n, e3), e2), e1), e0) = (Ints is p, λ k. cc (e0 k, m0 (v0 ++ k), e1 k, m1 (v1 ++ k), e2 k, m2 (v2 ++ k), e3 k, m3 (v3 ++ k), n k))

mutual
  pub means : {l : Language} {s : Symbol} {ts : List Term} → Is l s ts → Means s ts
  means (is_itself {l} {s} {t} f) = fits_means s t f
  means (by {l} {s} {parts} {ts} a all) = alternative_means ts a (means_all all)

  means_all : {l : Language} {ss : List Symbol} {ts : List Term} → AreAll l ss ts → MeansAll ss ts
  means_all none = λ k. refl
  means_all (some {l} {s} {ss} {us} {vs} i all) = (us, vs, means i, means_all all, λ k. append_assoc us vs k)
