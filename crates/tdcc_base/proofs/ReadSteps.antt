-- Reads after other reads.
use Rattle.std.proofs.Common.{◌≡◌, ◌≢◌, ℕ, ◌+◌, ◌-◌, ◌<◌, ◌≤◌, Bool, true, false, List, [], ◌∷◌, ◌++◌, length, take, drop, refl, sym, ap, ◌∙◌, subst, append_assoc, arith, length-append}
use Rattle.std.specs.Prelude.{Option, Some, Result, Ok, Err}
use Rattle.std.proofs.lemmas.List.{append-nil, length-take-le}
use Rattle.std.proofs.lemmas.List.Elements.{All-append, All-cons, All-head, All-nil, All-tail}
use Rattle.tdcc_base.specs.declared.outside.Failed.{Failed}
use Rattle.tdcc_base.specs.declared.read_ahead.ReadAhead.{ReadAhead}
use Rattle.tdcc_base.specs.Limits.{read_size}
use Rattle.tdcc_base.specs.Lines.{HasNoFeed, IsOpenLine}
use Rattle.tdcc_base.specs.Reads.{ReadRule, GivesPiece, GivesPieces, bytes_given, WasNeeded, LastRead, ReadsOf, IsNothing, HandsOut}
use Rattle.tdcc_base.specs.Unread.{pending, AppendsLine}
use Rattle.tdcc_base.specs.declared.read_ahead.LineBreak.TheVariants as breaks
use Rattle.tdcc_base.specs.declared.stops.ReadStop.TheVariants as stops
use Rattle.tdcc_base.proofs.LineSteps.{TakesFront, at_feed, at_limit}

-- the bytes of later pieces stand behind those of earlier ones
bytes_given-append : (later earlier : List (List ℕ)) → bytes_given (later ++ earlier) ≡ bytes_given earlier ++ bytes_given later
bytes_given-append [] earlier = sym (append-nil (bytes_given earlier))
bytes_given-append (piece ∷ later) earlier = ap (λ xs. xs ++ piece) (bytes_given-append later earlier) ∙ append_assoc (bytes_given earlier) (bytes_given later) piece

given-append : {S : Type 0} (gives : ReadRule S) (old mid new : S) (later earlier : List (List ℕ)) → GivesPieces gives old earlier mid → GivesPieces gives mid later new → GivesPieces gives old (later ++ earlier) new
given-append {S = S} gives old mid new [] earlier p q = subst (λ (s : S). GivesPieces gives old earlier s) (sym q) p
given-append gives old mid new (piece ∷ later) earlier p q = (q.0, given-append gives old mid q.0 later earlier p q.1, q.2)

-- where nothing was held and a read gave n bytes, these are the piece
pub read_piece : {S : Type 0} (gives : ReadRule S) (old new : S) (chunk : List ℕ) (n : ℕ) → length chunk ≡ read_size → 0 < n → n ≤ length chunk → gives old chunk (Ok n) new → GivesPiece gives old (take n chunk) new
read_piece gives old new chunk n size some within gave =
    let count : length (take n chunk) ≡ n = length-take-le n chunk within in
    record {
      lent = chunk;
      size = size;
      front = ap (λ (k : ℕ). take k chunk) (sym count);
      some = omega (arith, count, some);
      gave = subst (λ (k : ℕ). gives old chunk (Ok k) new) (sym count) gave;
    }

-- where the end of what is held is reached, nothing is held
pub nothing_held : (ahead : ReadAhead) → ahead.to ≤ ahead.from → pending ahead ≡ []
nothing_held ahead past = let none : ahead.to - ahead.from ≡ 0 = omega (arith, past) in ap (λ (k : ℕ). take k (drop ahead.from ahead.chunk.items)) none

-- no read was made where nothing changed
pub last_none : {S : Type 0} (gives : ReadRule S) (Needed : Type 0) (ended : Bool) (s : S) → LastRead gives Needed ended ended false s s
last_none gives Needed true s = refl
last_none gives Needed false s = refl

-- where the source did not end and did not fail, each read gave bytes
pub last_same : {S : Type 0} (gives : ReadRule S) (Needed : Type 0) (was now : Bool) (old new : S) → now ≡ was → LastRead gives Needed was now false old new → new ≡ old
last_same gives Needed true now old new e r = r
last_same gives Needed false true old new e r = absurd (cc)
last_same gives Needed false false old new e r = r

-- ONE READ, WHERE NOTHING IS HELD

pub fill_none : {S : Type 0} (gives : ReadRule S) (ahead : ReadAhead) (s : S) → ReadsOf gives IsNothing (λ bytes left. left ≡ bytes) ahead ahead false s s
fill_none gives ahead s = record {
  pieces = [];
  last = s;
  given = refl;
  needed = tt;
  ending = last_none gives (IsNothing (pending ahead ++ [])) ahead.ended s;
  takes = sym (append-nil (pending ahead));
}

module _ {S : Type 0} (gives : ReadRule S) (before after : ReadAhead) (old new : S) (chunk : List ℕ) (size : length chunk ≡ read_size) (going : before.ended ≡ false) (none : pending before ≡ []) where
  short : IsNothing (pending before ++ [])
  short = append-nil (pending before) ∙ none

  pub fill_end : after.ended ≡ true → pending after ≡ [] → gives old chunk (Ok 0) new → ReadsOf gives IsNothing (λ bytes left. left ≡ bytes) before after false old new
  fill_end ended left gave = record {
    pieces = [];
    last = old;
    given = refl;
    needed = tt;
    ending = subst (λ (b : Bool). LastRead gives (IsNothing (pending before ++ [])) b after.ended false old new) (sym going)
        (subst (λ (b : Bool). LastRead gives (IsNothing (pending before ++ [])) false b false old new) (sym ended) (record { lent = chunk; size = size; gave = gave }, short));
    takes = left ∙ sym short;
  }

  pub fill_fault : (e : Failed) → after.ended ≡ false → pending after ≡ [] → gives old chunk (Err e) new → ReadsOf gives IsNothing (λ bytes left. left ≡ bytes) before after true old new
  fill_fault e still left gave = record {
    pieces = [];
    last = old;
    given = refl;
    needed = tt;
    ending = subst (λ (b : Bool). LastRead gives (IsNothing (pending before ++ [])) b after.ended true old new) (sym going)
        (subst (λ (b : Bool). LastRead gives (IsNothing (pending before ++ [])) false b true old new) (sym still) ((e, record { lent = chunk; size = size; gave = gave }), short));
    takes = left ∙ sym short;
  }

  pub fill_piece : (n : ℕ) → 0 < n → n ≤ length chunk → after.ended ≡ false → pending after ≡ take n chunk → gives old chunk (Ok n) new → ReadsOf gives IsNothing (λ bytes left. left ≡ bytes) before after false old new
  fill_piece n some within still left gave = record {
    pieces = pending after ∷ [];
    last = new;
    given = (old, refl, subst (λ (p : List ℕ). GivesPiece gives old p new) (sym left) (read_piece gives old new chunk n size some within gave));
    needed = short;
    ending = subst (λ (b : Bool). LastRead gives (IsNothing (pending before ++ pending after)) b after.ended false new new) (sym going)
        (subst (λ (b : Bool). LastRead gives (IsNothing (pending before ++ pending after)) false b false new new) (sym still) refl);
    takes = sym (ap (λ xs. xs ++ pending after) none);
  }

pub last_for : {S : Type 0} (gives : ReadRule S) (N M : Type 0) (was now fails : Bool) (old new : S) → (N → M) → LastRead gives N was now fails old new → LastRead gives M was now fails old new
last_for gives N M true now fails old new f r = r
last_for gives N M false true fails old new f r = (r.0, f r.1)
last_for gives N M false false true old new f r = (r.0, f r.1)
last_for gives N M false false false old new f r = r

-- the same reads, of which more is known of what was taken
pub retake : {S : Type 0} (gives : ReadRule S) (FallsShort : List ℕ → Type 0) (T U : List ℕ → List ℕ → Type 0) (before after : ReadAhead) (fails known : Bool) (old new : S)
    → fails ≡ known → ((bytes left : List ℕ) → T bytes left → U bytes left) → ReadsOf gives FallsShort T before after fails old new → ReadsOf gives FallsShort U before after known old new
retake gives FallsShort T U before after fails known old new e f r = record {
  pieces = r.pieces;
  last = r.last;
  given = r.given;
  needed = r.needed;
  ending = subst (λ (b : Bool). LastRead gives (FallsShort (pending before ++ bytes_given r.pieces)) before.ended after.ended b r.last new) e r.ending;
  takes = f (pending before ++ bytes_given r.pieces) (pending after) r.takes;
}

-- where what was held was enough, no read was made
pub no_read : {S : Type 0} (gives : ReadRule S) (FallsShort : List ℕ → Type 0) (T : List ℕ → List ℕ → Type 0) (before after : ReadAhead) (fails : Bool) (old new : S)
    → ((bytes : List ℕ) → FallsShort (pending before ++ bytes) → ⊥) → ReadsOf gives FallsShort T before after fails old new → new ≡ old
no_read {S = S} gives FallsShort T before after fails old new enough r = go r.pieces r.given r.needed (ends before.ended after.ended fails r.ending)
  where
    ends : (was now fault : Bool) → LastRead gives (FallsShort (pending before ++ bytes_given r.pieces)) was now fault r.last new → new ≡ r.last
    ends true now fault e = e
    ends false true fault e = absurd (enough (bytes_given r.pieces) e.1)
    ends false false true e = absurd (enough (bytes_given r.pieces) e.1)
    ends false false false e = e

    go : (pieces : List (List ℕ)) → GivesPieces gives old pieces r.last → WasNeeded FallsShort (pending before) pieces → new ≡ r.last → new ≡ old
    go [] given needed e = e ∙ given
    go (piece ∷ pieces) given needed e = absurd (enough (bytes_given pieces) needed)

-- bytes before others have no line feed where all have none
pub front_no_feed : (front rest : List ℕ) → HasNoFeed (front ++ rest) → HasNoFeed front
front_no_feed [] rest f = All-nil (λ b. b ≢ 10)
front_no_feed (b ∷ front) rest f =
    All-cons (λ b. b ≢ 10) b front (All-head (λ b. b ≢ 10) b (front ++ rest) f) (front_no_feed front rest (All-tail (λ b. b ≢ 10) b (front ++ rest) f))

-- WHAT WAS READ SO FAR

-- of what was held before and what reads gave, the front was taken, and the rest is held
pub record HasRead {S : Type 0} (gives : ReadRule S) (FallsShort : List ℕ → Type 0) (held front rest : List ℕ) (old now : S) : Type 0 where
  pub pieces : List (List ℕ)
  pub given : GivesPieces gives old pieces now
  pub needed : WasNeeded FallsShort held pieces
  pub split : held ++ bytes_given pieces ≡ front ++ rest

pub HasRead-start : {S : Type 0} (gives : ReadRule S) (FallsShort : List ℕ → Type 0) (held : List ℕ) (s : S) → HasRead gives FallsShort held [] held s s
HasRead-start gives FallsShort held s = record { pieces = []; given = refl; needed = tt; split = append-nil held }

module _ {S : Type 0} (gives : ReadRule S) (In Out : List ℕ → Type 0) (before mid_ahead : ReadAhead) (front : List ℕ) (old mid : S)
    (h : HasRead gives Out (pending before) front (pending mid_ahead) old mid) (short : (bytes : List ℕ) → In bytes → Out (front ++ bytes)) where
  all_bytes : (later : List (List ℕ)) → pending before ++ bytes_given (later ++ h.pieces) ≡ front ++ (pending mid_ahead ++ bytes_given later)
  all_bytes later =
      ap (λ xs. pending before ++ xs) (bytes_given-append later h.pieces)
      ∙ sym (append_assoc (pending before) (bytes_given h.pieces) (bytes_given later))
      ∙ ap (λ xs. xs ++ bytes_given later) h.split
      ∙ append_assoc front (pending mid_ahead) (bytes_given later)

  needed_then : (later : List (List ℕ)) → WasNeeded In (pending mid_ahead) later → WasNeeded Out (pending before) (later ++ h.pieces)
  needed_then [] n = h.needed
  needed_then (piece ∷ later) n = subst Out (sym (all_bytes later)) (short (pending mid_ahead ++ bytes_given later) n)

  -- more of it was taken
  pub reads_on : (after : ReadAhead) (new : S) (T : List ℕ → List ℕ → Type 0) (more : List ℕ) → after.ended ≡ mid_ahead.ended → ReadsOf gives In T mid_ahead after false mid new
      → ((bytes left : List ℕ) → T bytes left → bytes ≡ more ++ left) → HasRead gives Out (pending before) (front ++ more) (pending after) old new
  reads_on after new T more same r f =
      let here : new ≡ r.last = last_same gives (In (pending mid_ahead ++ bytes_given r.pieces)) mid_ahead.ended after.ended r.last new same r.ending in
      record {
        pieces = r.pieces ++ h.pieces;
        given = subst (λ (s : S). GivesPieces gives old (r.pieces ++ h.pieces) s) (sym here) (given-append gives old mid r.last r.pieces h.pieces h.given r.given);
        needed = needed_then r.pieces r.needed;
        split = all_bytes r.pieces ∙ ap (λ xs. front ++ xs) (f (pending mid_ahead ++ bytes_given r.pieces) (pending after) r.takes) ∙ sym (append_assoc front more (pending after));
      }

  -- the last of it was taken
  pub reads_end : (after : ReadAhead) (fails : Bool) (new : S) (T U : List ℕ → List ℕ → Type 0) → mid_ahead.ended ≡ before.ended
      → ((bytes left : List ℕ) → T bytes left → U (front ++ bytes) left) → ReadsOf gives In T mid_ahead after fails mid new → ReadsOf gives Out U before after fails old new
  reads_end after fails new T U same f r =
      let whole = all_bytes r.pieces in
      let bytes : List ℕ = pending mid_ahead ++ bytes_given r.pieces in
      let last = last_for gives (In bytes) (Out (pending before ++ bytes_given (r.pieces ++ h.pieces))) mid_ahead.ended after.ended fails r.last new (λ (n : In bytes). subst Out (sym whole) (short bytes n)) r.ending in
      record {
        pieces = r.pieces ++ h.pieces;
        last = r.last;
        given = given-append gives old mid r.last r.pieces h.pieces h.given r.given;
        needed = needed_then r.pieces r.needed;
        ending = subst (λ (b : Bool). LastRead gives (Out (pending before ++ bytes_given (r.pieces ++ h.pieces))) b after.ended fails r.last new) same last;
        takes = subst (λ (xs : List ℕ). U xs (pending after)) (sym whole) (f bytes (pending after) r.takes);
      }

-- A LINE SO FAR

-- bytes of a line that were handed out, of what was held and read, where there is room for so many
pub record LineSoFar {S : Type 0} (gives : ReadRule S) (room : ℕ) (before now : ReadAhead) (into_before into_now : List ℕ) (old new : S) : Type 0 where
  pub line : List ℕ
  pub appended : into_now ≡ into_before ++ line
  pub part : IsOpenLine room line
  pub reads : HasRead gives (IsOpenLine room) (pending before) line (pending now) old new
  pub ended : now.ended ≡ before.ended

pub LineSoFar-start : {S : Type 0} (gives : ReadRule S) (room : ℕ) (ahead : ReadAhead) (into : List ℕ) (s : S) → LineSoFar gives room ahead ahead into into s s
LineSoFar-start gives room ahead into s = record {
  line = [];
  appended = sym (append-nil into);
  part = record { no_feed = All-nil (λ b. b ≢ 10); fits = omega arith };
  reads = HasRead-start gives (IsOpenLine room) (pending ahead) s;
  ended = refl;
}

module _ {S : Type 0} (gives : ReadRule S) (room : ℕ) (before mid_ahead : ReadAhead) (into_before into_mid : List ℕ) (old mid : S) (l : LineSoFar gives room before mid_ahead into_before into_mid old mid) where
  no_more : (bytes : List ℕ) → IsNothing bytes → IsOpenLine room (l.line ++ bytes)
  no_more bytes none = subst (IsOpenLine room) (sym (ap (λ xs. l.line ++ xs) none ∙ append-nil l.line)) l.part

  pub line_byte : (after : ReadAhead) (into_now : List ℕ) (new : S) (r : Result (Option ℕ) Failed) (b : ℕ) → r ≡ Ok (Some b) → after.ended ≡ mid_ahead.ended → ReadsOf gives IsNothing (HandsOut r) mid_ahead after false mid new
      → b ≢ 10 → length into_mid < length into_before + room → into_now ≡ into_mid ++ b ∷ [] → LineSoFar gives room before after into_before into_now old new
  line_byte after into_now new r b is same reads nb some e = record {
    line = l.line ++ b ∷ [];
    appended = e ∙ ap (λ xs. xs ++ b ∷ []) l.appended ∙ append_assoc into_before l.line (b ∷ []);
    part = record {
      no_feed = All-append (λ b. b ≢ 10) l.line (b ∷ []) l.part.no_feed (All-cons (λ b. b ≢ 10) b [] nb (All-nil (λ b. b ≢ 10)));
      fits = omega (arith, some, ap length l.appended, length-append into_before l.line, length-append l.line (b ∷ []));
    };
    reads = reads_on gives IsNothing (IsOpenLine room) before mid_ahead l.line old mid l.reads no_more after new (HandsOut r) (b ∷ []) same reads
        (λ bytes left h. subst (λ (x : Result (Option ℕ) Failed). HandsOut x bytes left) is h);
    ended = same ∙ l.ended;
  }

  pub line_ends : (after : ReadAhead) (fails : Bool) (new : S) (r : Result (Option ℕ) Failed) (U : List ℕ → List ℕ → Type 0) → ((bytes left : List ℕ) → HandsOut r bytes left → U (l.line ++ bytes) left)
      → ReadsOf gives IsNothing (HandsOut r) mid_ahead after fails mid new → ReadsOf gives (IsOpenLine room) U before after fails old new
  line_ends after fails new r U f reads = reads_end gives IsNothing (IsOpenLine room) before mid_ahead l.line old mid l.reads no_more after fails new (HandsOut r) U l.ended f reads

  front_of : (bytes : List ℕ) → TakesFront (Some (l.line ++ bytes)) (Some bytes) into_before into_mid
  front_of bytes = record { line = l.line; appended = l.appended; no_feed = l.part.no_feed; taken = refl }

  pub feed_ends : (after : ReadAhead) (new : S) (r : Result (Option ℕ) Failed) (b limit : ℕ) → r ≡ Ok (Some b) → b ≡ 10 → ReadsOf gives IsNothing (HandsOut r) mid_ahead after false mid new
      → ReadsOf gives (IsOpenLine room) (λ bytes left. AppendsLine (Some bytes) (Some left) into_before into_mid limit (Ok breaks.Feed)) before after false old new
  feed_ends after new r b limit is e reads =
      line_ends after false new r (λ bytes left. AppendsLine (Some bytes) (Some left) into_before into_mid limit (Ok breaks.Feed))
      (λ bytes left h. at_feed (Some (l.line ++ bytes)) (Some bytes) (Some left) into_before into_mid limit (front_of bytes) b e (subst (λ (x : Result (Option ℕ) Failed). HandsOut x bytes left) is h)) reads

  pub limit_ends : (after : ReadAhead) (new : S) (r : Result (Option ℕ) Failed) (b limit : ℕ) → r ≡ Ok (Some b) → b ≢ 10 → length into_mid ≡ limit → ReadsOf gives IsNothing (HandsOut r) mid_ahead after false mid new
      → ReadsOf gives (IsOpenLine room) (λ bytes left. AppendsLine (Some bytes) (Some left) into_before into_mid limit (Err stops.TooLong)) before after false old new
  limit_ends after new r b limit is nb full reads =
      line_ends after false new r (λ bytes left. AppendsLine (Some bytes) (Some left) into_before into_mid limit (Err stops.TooLong))
      (λ bytes left h. at_limit (Some (l.line ++ bytes)) (Some bytes) (Some left) into_before into_mid limit (front_of bytes) b nb (subst (λ (x : Result (Option ℕ) Failed). HandsOut x bytes left) is h) full) reads

  pub fault_ends : (after : ReadAhead) (new : S) (e : Failed) (limit : ℕ) → ReadsOf gives IsNothing (HandsOut (Err e)) mid_ahead after true mid new
      → ReadsOf gives (IsOpenLine room) (λ bytes left. AppendsLine (Some bytes) (Some left) into_before into_mid limit (Err stops.Read)) before after true old new
  fault_ends after new e limit reads =
      line_ends after true new (Err e) (λ bytes left. AppendsLine (Some bytes) (Some left) into_before into_mid limit (Err stops.Read))
      (λ bytes left kept. record { line = l.line; appended = l.appended; no_feed = l.part.no_feed; taken = ap (λ xs. l.line ++ xs) (sym kept) }) reads
