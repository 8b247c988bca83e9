-- The phrases of the grammar. The forms skip, tell, if-then, if-else, parallel composition, new, next, hence, always,
-- when, do-watching and time-on are those of default timed concurrent constraint programming (Saraswat, Jagadeesan
-- and Gupta 1994/1996); the tokens over signals and bounded integers are this project's own.
use Rattle.std.specs.Prelude.{ℕ, ℤ, List}

-- x, !x, #x, x>=n, x<=n, x=n
pub data TokenPhrase : Type 0 where
  On : (name : List ℕ) → TokenPhrase
  Off : (name : List ℕ) → TokenPhrase
  Clash : (name : List ℕ) → TokenPhrase
  AtLeast : (name : List ℕ) → (number : ℤ) → TokenPhrase
  AtMost : (name : List ℕ) → (number : ℤ) → TokenPhrase
  Exactly : (name : List ℕ) → (number : ℤ) → TokenPhrase

-- tokens joined by &
pub data ConstraintPhrase : Type 0 where
  One : (token : TokenPhrase) → ConstraintPhrase
  Both : (token : TokenPhrase) → (more : ConstraintPhrase) → ConstraintPhrase

mutual
  -- skip; c; {a}; if c then u; if c else u; new signal x in u; new int x in l..h in u; hence u; next u; always u;
  -- when c do u; do a watching c; time a on c
  pub data UnitPhrase : Type 0 where
    Skip : UnitPhrase
    Tell : (constraint : ConstraintPhrase) → UnitPhrase
    Braces : (agent : AgentPhrase) → UnitPhrase
    IfThen : (ask : ConstraintPhrase) → (body : UnitPhrase) → UnitPhrase
    IfElse : (ask : ConstraintPhrase) → (body : UnitPhrase) → UnitPhrase
    LocalSignal : (name : List ℕ) → (body : UnitPhrase) → UnitPhrase
    LocalInt : (name : List ℕ) → (low high : ℤ) → (body : UnitPhrase) → UnitPhrase
    Hence : (body : UnitPhrase) → UnitPhrase
    Next : (body : UnitPhrase) → UnitPhrase
    Always : (body : UnitPhrase) → UnitPhrase
    When : (ask : ConstraintPhrase) → (body : UnitPhrase) → UnitPhrase
    Watching : (body : AgentPhrase) → (stop : ConstraintPhrase) → UnitPhrase
    TimeOn : (body : AgentPhrase) → (clock : ConstraintPhrase) → UnitPhrase

  -- units joined by ||, which groups to the right
  pub data AgentPhrase : Type 0 where
    Only : (unit : UnitPhrase) → AgentPhrase
    Par : (left : UnitPhrase) → (right : AgentPhrase) → AgentPhrase

-- the names of a declaration of signals
pub data NamesPhrase : Type 0 where
  LastName : (name : List ℕ) → NamesPhrase
  MoreName : (name : List ℕ) → (more : NamesPhrase) → NamesPhrase

-- the names of a declaration of integers, each with its least and its greatest value
pub data ItemsPhrase : Type 0 where
  LastItem : (name : List ℕ) → (low high : ℤ) → ItemsPhrase
  MoreItem : (name : List ℕ) → (low high : ℤ) → (more : ItemsPhrase) → ItemsPhrase

-- declarations, and then an agent
pub data ProgramPhrase : Type 0 where
  Runs : (agent : AgentPhrase) → ProgramPhrase
  Signals : (names : NamesPhrase) → (more : ProgramPhrase) → ProgramPhrase
  Ints : (items : ItemsPhrase) → (more : ProgramPhrase) → ProgramPhrase
