-- The bytes of a line, taken one by one.
use Rattle.std.proofs.Common.{◌≡◌, ◌≢◌, ℕ, List, [], ◌∷◌, ◌++◌, length, sym, ap, ◌∙◌, subst, append_assoc}
use Rattle.std.specs.Prelude.{Option, Result, Ok, Err, IsErrAnd}
use Rattle.std.specs.Io.KnownBytes.{Consumes, Keeps, IsAtEnd}
use Rattle.std.proofs.lemmas.List.{append-nil}
use Rattle.std.proofs.lemmas.List.Elements.{All-append, All-cons, All-nil}
use Rattle.tdcc_base.specs.Lines.{HasNoFeed}
use Rattle.tdcc_base.specs.Unread.{AppendsLine}
use Rattle.tdcc_base.specs.declared.read_ahead.LineBreak.{LineBreak}
use Rattle.tdcc_base.specs.declared.stops.ReadStop.{ReadStop}
use Rattle.tdcc_base.specs.declared.read_ahead.LineBreak.TheVariants as breaks
use Rattle.tdcc_base.specs.declared.stops.ReadStop.TheVariants as stops
use Rattle.tdcc_base.proofs.Known.{Consumes-then, Consumes-kept, Consumes-nothing}

-- bytes of the line at hand were taken, and stand behind the bytes before
pub record TakesFront (old new : Option (List ℕ)) (before after : List ℕ) : Type 0 where
  pub line : List ℕ
  pub appended : after ≡ before ++ line
  pub no_feed : HasNoFeed line
  pub taken : Consumes old new line

pub TakesFront-start : (old : Option (List ℕ)) (before : List ℕ) → TakesFront old old before before
TakesFront-start old before = record { line = []; appended = sym (append-nil before); no_feed = All-nil (λ b. b ≢ 10); taken = Consumes-nothing old }

pub TakesFront-byte : (old mid new : Option (List ℕ)) (before after next : List ℕ) (b : ℕ) → TakesFront old mid before after → Consumes mid new (b ∷ []) → b ≢ 10 → next ≡ after ++ b ∷ [] → TakesFront old new before next
TakesFront-byte old mid new before after next b t c nb e = record {
  line = t.line ++ b ∷ [];
  appended = e ∙ ap (λ xs. xs ++ b ∷ []) t.appended ∙ append_assoc before t.line (b ∷ []);
  no_feed = All-append (λ b. b ≢ 10) t.line (b ∷ []) t.no_feed (All-cons (λ b. b ≢ 10) b [] nb (All-nil (λ b. b ≢ 10)));
  taken = Consumes-then old mid new t.line (b ∷ []) t.taken c;
}

-- THE WAYS IN WHICH A LINE ENDS

module _ (old mid new : Option (List ℕ)) (before after : List ℕ) (limit : ℕ) (t : TakesFront old mid before after) where
  pub at_feed : (b : ℕ) → b ≡ 10 → Consumes mid new (b ∷ []) → AppendsLine old new before after limit (Ok breaks.Feed)
  at_feed b e c = record {
    line = t.line;
    appended = t.appended;
    no_feed = t.no_feed;
    taken = subst (λ (x : ℕ). Consumes old new (t.line ++ x ∷ [])) e (Consumes-then old mid new t.line (b ∷ []) t.taken c);
  }

  pub at_end : IsAtEnd new × Keeps mid new → AppendsLine old new before after limit (Ok breaks.End)
  at_end e = record { line = t.line; appended = t.appended; no_feed = t.no_feed; taken = (Consumes-kept old mid new t.line t.taken e.1, e.0) }

  pub at_fault : Keeps mid new → AppendsLine old new before after limit (Err stops.Read)
  at_fault k = record { line = t.line; appended = t.appended; no_feed = t.no_feed; taken = Consumes-kept old mid new t.line t.taken k }

  pub at_limit : (b : ℕ) → b ≢ 10 → Consumes mid new (b ∷ []) → length after ≡ limit → AppendsLine old new before after limit (Err stops.TooLong)
  at_limit b nb c full = record { line = t.line; appended = t.appended; no_feed = t.no_feed; taken = (b, nb, Consumes-then old mid new t.line (b ∷ []) t.taken c, full) }

-- the same, of equal bytes and an equal answer
pub retell : (old new : Option (List ℕ)) (before before' after : List ℕ) (limit : ℕ) (r r' : Result LineBreak ReadStop) → before ≡ before' → r ≡ r' → AppendsLine old new before after limit r → AppendsLine old new before' after limit r'
retell old new before before' after limit r r' e f a = subst (AppendsLine old new before' after limit) f (subst (λ (xs : List ℕ). AppendsLine old new xs after limit r) e a)

-- an error that is known
pub err_is : {T : Type 0} (r : Result T ReadStop) (stop : ReadStop) → IsErrAnd r (λ e. e ≡ stop) → r ≡ Err stop
err_is (Ok value) stop h = absurd h
err_is (Err e) stop h = ap Err h
