-- Each list of terms is a program, or has the place of a fault.
use Rattle.std.proofs.Common.{◌≡◌, ℕ, suc, zero, ◌+◌, ◌<◌, ◌≤◌, List, take, length, get_or, Option, Some, None, Bool, true, false, refl, ap, sym, ◌∙◌, arith, add-one, inl, inr}
use Rattle.std.specs.Prelude.{◌⊎◌}
use Rattle.std.proofs.Math.Seq.{take-length}
use Rattle.std.proofs.lemmas.Bool.{cases_lt}
use Rattle.program_grammar.specs.declared.words.Language.{Language}
use Rattle.program_grammar.specs.declared.words.Word.{Word}
use Rattle.program_grammar.specs.declared.words.Word.TheVariants as word
use Rattle.program_grammar.specs.declared.stack_symbols.StackSymbol.{StackSymbol}
use Rattle.program_grammar.specs.Terms.{Term, classes}
use Rattle.program_grammar.specs.Programs.{IsProgram, IsFault}
use Rattle.program_grammar.specs.Machine.{feed_in, run_in, ended, start, Ends, StopsAt}
use Rattle.program_grammar.proofs.Runs.{run_more}
use Rattle.program_grammar.proofs.Faults.{ends_program, stops_fault}

-- the machine goes through the words and may end there, or stops at a place
abbrev MachineVerdict : Language → List Word → Type 0
MachineVerdict l ws = Ends l ws ⊎ ((place : ℕ) × StopsAt l ws place)

-- where it went through all words it may end there or not
at_end : (l : Language) (ws : List Word) (place : ℕ) (qs : List StackSymbol) → place ≡ length ws → run_in l start (take place ws) ≡ Some qs → MachineVerdict l ws
at_end l ws place qs end goes = go (ended qs) refl
  where
    all : run_in l start ws ≡ Some qs
    all = ap (run_in l start) (sym (ap (λ n. take n ws) end ∙ take-length ws)) ∙ goes

    go : (b : Bool) → ended qs ≡ b → MachineVerdict l ws
    go true e = inl (qs, all, e)
    go false e = inr (place, record { within = omega arith; to_come = qs; goes = goes; open_end = λ h. e; stuck = λ h. absurd (omega arith) })

-- Where it went through so many words, with at most so many left, it goes on to the end or stops.
goes_on : (l : Language) (ws : List Word) (left place : ℕ) (qs : List StackSymbol) → place ≤ length ws → length ws ≤ place + left → run_in l start (take place ws) ≡ Some qs → MachineVerdict l ws
goes_on l ws zero place qs within rest goes = at_end l ws place qs (omega arith) goes
goes_on l ws (suc left) place qs within rest goes =
    go (λ next rs within' rest' goes'. goes_on l ws left next rs within' rest' goes') (cases_lt place (length ws)) (feed_in l qs (get_or ws place word.Name)) refl
  where
    go : ((next : ℕ) (rs : List StackSymbol) → next ≤ length ws → length ws ≤ next + left → run_in l start (take next ws) ≡ Some rs → MachineVerdict l ws)
        → (place < length ws) ⊎ (length ws ≤ place) → (o : Option (List StackSymbol)) → feed_in l qs (get_or ws place word.Name) ≡ o → MachineVerdict l ws
    go later (inl h) (Some rs) e = later (place + 1) rs (omega arith) (omega arith) (run_more l ws place word.Name start qs h goes ∙ e)
    go later (inl h) None e = inr (
      place,
      record {
        within = within;
        to_come = qs;
        goes = goes;
        open_end = λ same. absurd (omega arith);
        stuck = λ less. ap (λ n. run_in l start (take n ws)) (sym (add-one place)) ∙ run_more l ws place word.Name start qs h goes ∙ e;
      },
    )
    go later (inr h) o e = at_end l ws place qs (omega arith) goes

-- Each list of terms is a program, or has the place of a fault.
pub verdict : (l : Language) (ts : List Term) → IsProgram l ts ⊎ ((place : ℕ) × IsFault l ts place)
verdict l ts = go (goes_on l (classes ts) (length (classes ts)) 0 start (omega arith) (omega arith) (nothing_read l (classes ts)))
  where
    nothing_read : (l : Language) (ws : List Word) → run_in l start (take 0 ws) ≡ Some start
    nothing_read l ws = refl

    go : MachineVerdict l (classes ts) → IsProgram l ts ⊎ ((place : ℕ) × IsFault l ts place)
    go (inl ends) = inl (ends_program l ts ends)
    go (inr (place, stops)) = inr (place, stops_fault l ts place stops)

-- The place of a fault is one.
pub one_fault : (l : Language) (ts : List Term) (m n : ℕ) → IsFault l ts m → IsFault l ts n → m ≡ n
one_fault l ts m n a b =
    let most = a.longest n b.within b.begins in
    let least = b.longest m a.within a.begins in omega arith

-- A program has none.
pub no_fault : (l : Language) (ts : List Term) (n : ℕ) → IsProgram l ts → IsFault l ts n → ⊥
no_fault l ts n p f = f.wrong p
