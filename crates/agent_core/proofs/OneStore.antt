-- Stores of a program, each of which is below the other, are one store.
use Rattle.std.proofs.Common.{◌≡◌, Some, None, refl, sym, ap, ◌∙◌, subst}
use Rattle.std.specs.Prelude.{Option, unwrap_or}
use Rattle.std.specs.FinMap.{get, same_map}
use Rattle.token_system.specs.declared.cell.Value.{Value}
use Rattle.token_system.specs.declared.name.CellName.{CellName}
use Rattle.token_system.specs.declared.name.CellName.TheVariants.{Declared, Local}
use Rattle.token_system.specs.Values.{IsProper, bottom_of, WithinDomain}
use Rattle.token_system.specs.Names.{name_total, name_cmp-IsAntisymmetric}
use Rattle.token_system.specs.Stores.{StoreMap, value_at}
use Rattle.token_system.proofs.Alike.{same_tokens}
use Rattle.token_system.proofs.Adding.{bottom_within}
use Rattle.agent_core.specs.declared.node.CellDecl.{CellDecl}
use Rattle.agent_core.specs.Programs.{CoreProgram}
use Rattle.agent_core.specs.Names.{Names}
use Rattle.agent_core.specs.Stores.{IsStore, Below}

-- a name has one cell
pub Names-one : (p : CoreProgram) (n : CellName) (d e : CellDecl) → Names p n d → Names p n e → d ≡ e
Names-one p (Declared n) d e a b = let x = a.1 in let y = b.1 in cc
Names-one p (Local m births) d e (cell, body, a, b, c) (cell', body', a', b', c') =
    let same : cell ≡ cell' = cc in cc

-- the value of a name is one of its cell
pub value_at-fits : (p : CoreProgram) (s : StoreMap) (n : CellName) (d : CellDecl) → IsStore p s → Names p n d
    → WithinDomain d.cell.lo d.cell.hi d.cell.kind (value_at s n d.cell) × IsProper (value_at s n d.cell)
value_at-fits p s n d is named = go (get s n) refl
  where
    go : (o : Option Value) → get s n ≡ o → WithinDomain d.cell.lo d.cell.hi d.cell.kind (unwrap_or o (bottom_of d.cell)) × IsProper (unwrap_or o (bottom_of d.cell))
    go None e = bottom_within d.cell.kind d.cell.lo d.cell.hi d.cell.lawful
    go (Some v) e =
        let h = is n v e in
        let same : h.0 ≡ d = Names-one p n h.0 d h.1 named in
        subst (λ (c : CellDecl). WithinDomain c.cell.lo c.cell.hi c.cell.kind v × IsProper v) same (h.2.value.domain, h.2.value.proper)

-- the stores have one value at a name
value_at-one : (p : CoreProgram) (u v : StoreMap) (n : CellName) (d : CellDecl) → IsStore p u → IsStore p v → Below p u v → Below p v u → Names p n d → value_at u n d.cell ≡ value_at v n d.cell
value_at-one p u v n d iu iv uv vu named =
    let a = value_at-fits p u n d iu named in
    let b = value_at-fits p v n d iv named in
    same_tokens d.cell.kind d.cell.lo d.cell.hi (value_at u n d.cell) (value_at v n d.cell) d.cell.lawful a.0 a.1 b.0 b.1 (λ t f h. uv n d t named f h) (λ t f h. vu n d t named f h)

get-one : (p : CoreProgram) (u v : StoreMap) (n : CellName) → IsStore p u → IsStore p v → Below p u v → Below p v u → (a b : Option Value) → get u n ≡ a → get v n ≡ b → a ≡ b
get-one p u v n iu iv uv vu None None ea eb = refl
get-one p u v n iu iv uv vu (Some x) None ea eb =
    let h = iu n x ea in
    let e = value_at-one p u v n h.0 iu iv uv vu h.1 in
    absurd (h.2.not_bottom (ap (λ o. unwrap_or o (bottom_of h.0.cell)) (sym ea) ∙ e ∙ ap (λ o. unwrap_or o (bottom_of h.0.cell)) eb))
get-one p u v n iu iv uv vu None (Some y) ea eb =
    let h = iv n y eb in
    let e = value_at-one p u v n h.0 iu iv uv vu h.1 in
    absurd (h.2.not_bottom (ap (λ o. unwrap_or o (bottom_of h.0.cell)) (sym eb) ∙ sym e ∙ ap (λ o. unwrap_or o (bottom_of h.0.cell)) ea))
get-one p u v n iu iv uv vu (Some x) (Some y) ea eb =
    let h = iu n x ea in
    let e = value_at-one p u v n h.0 iu iv uv vu h.1 in
    ap Some (ap (λ o. unwrap_or o (bottom_of h.0.cell)) (sym ea) ∙ e ∙ ap (λ o. unwrap_or o (bottom_of h.0.cell)) eb)

pub Below-antisym : (p : CoreProgram) (u v : StoreMap) → IsStore p u → IsStore p v → Below p u v → Below p v u → u ≡ v
Below-antisym p u v iu iv uv vu = same_map name_total name_cmp-IsAntisymmetric u v (λ n. get-one p u v n iu iv uv vu (get u n) (get v n) refl refl)
