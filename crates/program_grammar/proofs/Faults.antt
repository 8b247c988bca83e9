-- What the machine says of the words, said of the terms.
use Rattle.std.proofs.Common.{◌≡◌, ℕ, suc, ◌<◌, ◌≤◌, List, [], ◌++◌, take, drop, length, Option, Some, None, true, false, refl, ap, sym, ◌∙◌, subst, arith, append_assoc, inl, inr}
use Rattle.std.specs.Prelude.{◌⊎◌, ◌&&◌, option_and_then}
use Rattle.std.specs.List.{list_all}
use Rattle.std.proofs.lemmas.List.{length-map, take-map, map-append, take-append-drop, take-append-le, length-take-le, append-nil}
use Rattle.std.proofs.lemmas.List.Folds.{list_all-append}
use Rattle.std.proofs.Math.Seq.{take-length}
use Rattle.std.proofs.lemmas.Bool.{cases_lt}
use Rattle.program_grammar.specs.declared.words.Language.{Language}
use Rattle.program_grammar.specs.declared.words.Word.{Word}
use Rattle.program_grammar.specs.declared.stack_symbols.StackSymbol.{StackSymbol}
use Rattle.program_grammar.specs.Terms.{Term, class_of, classes}
use Rattle.program_grammar.specs.Phrases.{ProgramPhrase}
use Rattle.program_grammar.specs.Spelling.{program}
use Rattle.program_grammar.specs.Programs.{Spells, IsProgram, BeginsProgram, IsFault}
use Rattle.program_grammar.specs.Machine.{permits, run, run_in, ended, start, Ends, StopsAt}
use Rattle.program_grammar.proofs.Runs.{run-append, run_in_run, run_in-permitted}
use Rattle.program_grammar.proofs.Soundness.{none_some, and_left, completion, run_completed, run_ended}
use Rattle.program_grammar.proofs.Traces.{program_run}
use Rattle.program_grammar.proofs.CoreWords.{allowed_permitted, permitted_allowed, completion_permitted}

-- the words of two lists are the language's where those of each are
permitted_both : (l : Language) (ts more : List Term) → list_all (permits l) (classes ts) ≡ true → list_all (permits l) (classes more) ≡ true → list_all (permits l) (classes (ts ++ more)) ≡ true
permitted_both l ts more h k = ap (list_all (permits l)) (map-append class_of ts more) ∙ list_all-append (permits l) (classes ts) (classes more) ∙ ap (λ b. b && list_all (permits l) (classes more)) h ∙ k

permitted_front : (l : Language) (ts more : List Term) → list_all (permits l) (classes (ts ++ more)) ≡ true → list_all (permits l) (classes ts) ≡ true
permitted_front l ts more h = and_left (list_all (permits l) (classes ts)) (list_all (permits l) (classes more)) (sym (list_all-append (permits l) (classes ts) (classes more)) ∙ ap (list_all (permits l)) (sym (map-append class_of ts more)) ∙ h)

spells : (l : Language) (p : ProgramPhrase) (ts : List Term) → list_all (permits l) (classes ts) ≡ true → ts ≡ program p [] → Spells l p ts
spells l p ts h e = record { allowed = permitted_allowed l p (ap (λ q. list_all (permits l) (classes q)) (sym e) ∙ h); spelled = e }

spelled_permitted : (l : Language) (p : ProgramPhrase) (ts : List Term) → Spells l p ts → list_all (permits l) (classes ts) ≡ true
spelled_permitted l p ts s = ap (λ q. list_all (permits l) (classes q)) s.spelled ∙ allowed_permitted l p s.allowed

-- What the machine goes through begins a program.
goes_begins : (l : Language) (ts : List Term) (qs : List StackSymbol) → run_in l start (classes ts) ≡ Some qs → BeginsProgram l ts
goes_begins l ts qs e =
    let (h, goes) = run_in_run l (classes ts) start qs e in
    let (p, spelled) = run_completed ts qs goes in
    (completion qs, (p, spells l p (ts ++ completion qs) (permitted_both l ts (completion qs) h (completion_permitted l (classes ts) qs h goes)) spelled))

-- Where it may end is a program.
pub ends_program : (l : Language) (ts : List Term) → Ends l (classes ts) → IsProgram l ts
ends_program l ts (qs, e, h) =
    let (permitted, goes) = run_in_run l (classes ts) start qs e in
    let (p, spelled) = run_ended ts qs goes h in (p, spells l p ts permitted spelled)

-- It goes through a program, and may end there.
program_ends : (l : Language) (ts : List Term) → IsProgram l ts → Ends l (classes ts)
program_ends l ts (p, s) =
    let (qs, goes, h) = program_run p in
    (qs, run_in-permitted l (classes ts) start (spelled_permitted l p ts s) ∙ ap (λ q. run start (classes q)) s.spelled ∙ goes, h)

front_goes : (o : Option (List StackSymbol)) (ws : List Word) (rs : List StackSymbol) → option_and_then (λ qs. run qs ws) o ≡ Some rs → (qs : List StackSymbol) × (o ≡ Some qs)
front_goes None ws rs e = absurd (none_some e)
front_goes (Some qs) ws rs e = (qs, refl)

-- It goes through what begins a program.
begins_goes : (l : Language) (ts : List Term) → BeginsProgram l ts → (qs : List StackSymbol) × (run_in l start (classes ts) ≡ Some qs)
begins_goes l ts (more, is) =
    let (rs, e, h) = program_ends l (ts ++ more) is in
    let (permitted, goes) = run_in_run l (classes (ts ++ more)) start rs e in
    let (qs, front) = front_goes (run start (classes ts)) (classes more) rs (sym (run-append (classes ts) (classes more) start) ∙ ap (run start) (sym (map-append class_of ts more)) ∙ goes) in
    (qs, run_in-permitted l (classes ts) start (permitted_front l ts more permitted) ∙ front)

-- what begins what begins a program begins one
shorter : (l : Language) (xs ys : List Term) → BeginsProgram l (xs ++ ys) → BeginsProgram l xs
shorter l xs ys (more, is) = (ys ++ more, subst (IsProgram l) (append_assoc xs ys more) is)

shorter_take : (l : Language) (m n : ℕ) (ts : List Term) → m ≤ n → n ≤ length ts → BeginsProgram l (take n ts) → BeginsProgram l (take m ts)
shorter_take l m n ts h k b =
    let parts : take n ts ≡ take m (take n ts) ++ drop m (take n ts) = sym (take-append-drop m (take n ts)) in
    let short : m ≤ length (take n ts) = omega (arith, length-take-le n ts k) in
    let same : take m ts ≡ take m (take n ts) = ap (take m) (sym (take-append-drop n ts)) ∙ take-append-le m (take n ts) (drop n ts) short in
    subst (BeginsProgram l) (sym same) (shorter l (take m (take n ts)) (drop m (take n ts)) (subst (BeginsProgram l) parts b))

whole_begins : (l : Language) (ts : List Term) → IsProgram l ts → BeginsProgram l ts
whole_begins l ts is = ([], subst (IsProgram l) (sym (append-nil ts)) is)

both_some : (o : Option (List StackSymbol)) (qs : List StackSymbol) → o ≡ None → o ≡ Some qs → ⊥
both_some o qs a b = cc

both_ended : (o : Option (List StackSymbol)) (qs rs : List StackSymbol) → o ≡ Some qs → o ≡ Some rs → ended rs ≡ true → ended qs ≡ false → ⊥
both_ended o qs rs a b f g = let s : Some qs ≡ Some rs = sym a ∙ b in cc

-- Where it stops is the place of the fault.
pub stops_fault : (l : Language) (ts : List Term) (n : ℕ) → StopsAt l (classes ts) n → IsFault l ts n
stops_fault l ts n s = record {
  within = within;
  begins = goes_begins l (take n ts) s.to_come goes;
  longest = λ m h b. longest m h b (cases_lt n m);
  wrong = λ is. wrong is (cases_lt n (length ts));
}
  where
    same : length (classes ts) ≡ length ts
    same = length-map ts class_of

    within : n ≤ length ts
    within = omega (arith, same, s.within)

    goes : run_in l start (classes (take n ts)) ≡ Some s.to_come
    goes = ap (run_in l start) (sym (take-map class_of n ts)) ∙ s.goes

    no_more : n < length ts → BeginsProgram l (take (suc n) ts) → ⊥
    no_more h b =
        let (qs, e) = begins_goes l (take (suc n) ts) b in
        both_some (run_in l start (classes (take (suc n) ts))) qs (ap (run_in l start) (sym (take-map class_of (suc n) ts)) ∙ s.stuck (omega (arith, same, h))) e

    longest : (m : ℕ) → m ≤ length ts → BeginsProgram l (take m ts) → (n < m) ⊎ (m ≤ n) → m ≤ n
    longest m h b (inr k) = k
    longest m h b (inl k) = absurd (no_more (omega arith) (shorter_take l (suc n) m ts (omega arith) h b))

    wrong : IsProgram l ts → (n < length ts) ⊎ (length ts ≤ n) → ⊥
    wrong is (inl k) = no_more k (shorter_take l (suc n) (length ts) ts (omega arith) (omega arith) (subst (BeginsProgram l) (sym (take-length ts)) (whole_begins l ts is)))
    wrong is (inr k) =
        let at : n ≡ length ts = omega (arith, within, k) in
        let (rs, e, f) = program_ends l ts is in
        let all : take n ts ≡ ts = ap (λ i. take i ts) at ∙ take-length ts in
        both_ended (run_in l start (classes ts)) s.to_come rs (ap (λ q. run_in l start (classes q)) (sym all) ∙ goes) e f (s.open_end (at ∙ sym same))
