-- A marked name of a local cell is the text of its token, and what is no such text.
use Rattle.std.proofs.Common.{◌≡◌, ℕ, List, ◌∷◌, Some, None, sym, ◌∙◌}
use Rattle.std.specs.Prelude.{Result, Ok, Err, Option, IfOk, IfSome, take, drop}
use Rattle.token_system.specs.declared.cell.Token.{Token}
use Rattle.token_system.specs.declared.name.CellName.{CellName}
use Rattle.token_system.specs.Texts.{IsTail}
use Rattle.certificate_text.specs.declared.local_token.LocalToken.{LocalToken}
use Rattle.certificate_text.specs.LocalNames.{local_name_of}
use Rattle.certificate_text.specs.LocalTokens.{name_end, IsLocalTokenText, off, clash, plain}

pub token_read : {E : Type 0} (bytes text : List ℕ) (token : Token) (r : Result (Option LocalToken) E)
    → ((name : CellName) (first : Token) (second : Option Token) → local_name_of text ≡ Some name → first ≡ token → second ≡ None → IsLocalTokenText bytes name first second)
    → IfOk r (λ read. IfSome read (λ t. (local_name_of text ≡ Some t.name) × (t.first ≡ token) × (t.second ≡ None)))
    → IfOk r (λ read. IfSome read (λ t. IsLocalTokenText bytes t.name t.first t.second))
token_read bytes text token (Ok (Some t)) build h = build t.name t.first t.second h.0 h.1 h.2
token_read bytes text token (Ok None) build h = tt
token_read bytes text token (Err e) build h = tt

-- where no mark stands first, only a name and what follows it are such a text
pub unmarked : (bytes text : List ℕ) (mark : ℕ) → bytes ≡ mark ∷ text → (mark ≡ 33 → ⊥) → (mark ≡ 35 → ⊥)
    → ((name : CellName) (first : Token) (second : Option Token) → local_name_of (take (name_end bytes) bytes) ≡ Some name → IsTail (drop (name_end bytes) bytes) first second → ⊥)
    → (name : CellName) (first : Token) (second : Option Token) → IsLocalTokenText bytes name first second → ⊥
unmarked bytes text mark parts no_off no_clash no_plain name first second (off t e n f s) = no_off (let same : mark ∷ text ≡ 33 ∷ t = sym parts ∙ e in cc)
unmarked bytes text mark parts no_off no_clash no_plain name first second (clash t e n f s) = no_clash (let same : mark ∷ text ≡ 35 ∷ t = sym parts ∙ e in cc)
unmarked bytes text mark parts no_off no_clash no_plain name first second (plain n tail) = no_plain name first second n tail
