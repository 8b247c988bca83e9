-- Words and the commands that they call.
use Rattle.std.proofs.Common.{◌≡◌, ℕ, ◌⊎◌, List, [], ◌∷◌, codes, length, get_or, arith, sym, ◌∙◌, refl, ap, subst, inl, inr}
use Rattle.std.specs.Str.Parse.{digits_value}
use Rattle.command_words.specs.declared.command.Command.{Command}
use Rattle.command_words.specs.declared.command.Command.TheVariants.{Run, Report, Check, Core, Generate}
use Rattle.command_words.specs.declared.settings.Limits.{Limits}
use Rattle.command_words.specs.Settings.{GiveLimits}
use Rattle.command_words.specs.Words.{IsCommand, IsNoCommand, IsWithLimits, IsWithLines}
use Rattle.command_words.proofs.SaidLimits.{one_limits}

-- the word of a command
abbrev pub word_of : Command → List ℕ
word_of (Run _) = codes "run"
word_of (Report _) = codes "report"
word_of Check = codes "check"
word_of Core = codes "core"
word_of (Generate _) = codes "gen"

-- it stands first
pub first_word : (command : Command) (words : List (List ℕ)) → IsCommand command words → (more : List (List ℕ)) × (words ≡ word_of command ∷ more)
first_word (Run _) words x = (x.more, x.first)
first_word (Report _) words x = (x.more, x.first)
first_word Check words x = ([], x)
first_word Core words x = ([], x)
first_word (Generate _) words x = (x.number ∷ x.more, x.first)

-- words that are alike are as long, and begin alike
alike : (a b : List ℕ) → a ≡ b → (length a ≡ length b) × (get_or a 0 0 ≡ get_or b 0 0)
alike a b e = (ap length e, ap (λ w. get_or w 0 0) e)

-- behind a word, the limits are one
one_with_limits : (word : List ℕ) (words : List (List ℕ)) (a b : Limits) → IsWithLimits word words a → IsWithLimits word words b → a ≡ b
one_with_limits word words a b x y =
    let same : y.more ≡ x.more = cc in
    one_limits x.more a b x.given (subst (λ (ws : List (List ℕ)). GiveLimits ws b) same y.given)

-- behind `gen`, the number of lines is one
one_with_lines : (words : List (List ℕ)) (m n : ℕ) → IsWithLines words m → IsWithLines words n → m ≡ n
one_with_lines words m n x y =
    let same : x.number ≡ y.number = cc in
    x.writes.value ∙ ap (digits_value 10) same ∙ sym y.writes.value

-- words are those of one command
pub one_command : (words : List (List ℕ)) (a b : Command) → IsCommand a words → IsCommand b words → a ≡ b
one_command words (Run a) (Run b) x y = ap Run (one_with_limits (codes "run") words a b x y)
one_command words (Report a) (Report b) x y = ap Report (one_with_limits (codes "report") words a b x y)
one_command words Check Check x y = refl
one_command words Core Core x y = refl
one_command words (Generate m) (Generate n) x y = ap Generate (one_with_lines words m n x y)
one_command words a b x y =
    let p = first_word a words x in
    let q = first_word b words y in
    let same = alike (word_of a) (word_of b) (cc) in
    absurd (omega arith)

-- a command that takes settings, with words behind it that say no limits
pub refused : (words more : List (List ℕ)) (word : List ℕ) → (word ≡ codes "run") ⊎ (word ≡ codes "report") → words ≡ word ∷ more → ((limits : Limits) → GiveLimits more limits → ⊥) → IsNoCommand words
refused words more word which first none (Run limits) x = none limits (let same : x.more ≡ more = cc in subst (λ (ws : List (List ℕ)). GiveLimits ws limits) same x.given)
refused words more word which first none (Report limits) x = none limits (let same : x.more ≡ more = cc in subst (λ (ws : List (List ℕ)). GiveLimits ws limits) same x.given)
refused words more word (inl e) first none command x =
    let p = first_word command words x in
    let same = alike (word_of command) (codes "run") (cc) in
    omega arith
refused words more word (inr e) first none command x =
    let p = first_word command words x in
    let same = alike (word_of command) (codes "report") (cc) in
    omega arith
