-- Telling tokens to words is telling them to the store that the words are.
use Rattle.std.proofs.Common.{◌≡◌, ◌≢◌, ◌⊎◌, inl, inr, ℕ, ◌+◌, ◌<◌, ◌≤◌, List, [], ◌∷◌, ◌++◌, length, get_or, Bool, true, false, cond, Option, Some, None, IfSome, refl, sym, ap, ◌∙◌, subst, arith, All}
use Rattle.std.specs.Prelude.{slice_get, slice_index, slice_index_or, IsTrue, if◌then◌else◌}
use Rattle.std.specs.FinMap.{get, insert, same_map}
use Rattle.token_system.specs.Domain.{is_cell}
use Rattle.std.proofs.lemmas.List.Elements.{All-head, All-tail}
use Rattle.token_system.specs.declared.cell.Kind.{Kind}
use Rattle.token_system.specs.declared.cell.Kind.TheVariants.{Signal, Number}
use Rattle.token_system.specs.declared.cell.Token.{Token}
use Rattle.token_system.specs.declared.cell.Token.TheVariants as token
use Rattle.token_system.specs.declared.cell.Value.{Value}
use Rattle.token_system.specs.declared.name.CellName.{CellName}
use Rattle.token_system.specs.Names.{name_total, name_cmp-IsAntisymmetric}
use Rattle.token_system.specs.Tokens.{Fits, fits_kind}
use Rattle.token_system.specs.Values.{bottom_of, value_eq, value_with, IsValueOf}
use Rattle.token_system.specs.Stores.{StoreMap, value_at, stored, after_tell, IsKeptFor}
use Rattle.token_system.proofs.Alike.{true_false}
use Rattle.token_system.proofs.Telling.{value_at-told, get-told_other}
use Rattle.instant_net.specs.declared.parts.Atom.{Atom}
use Rattle.instant_net.specs.declared.parts.NetCell.{NetCell}
use Rattle.instant_net.specs.declared.words.How.{How}
use Rattle.instant_net.specs.declared.words.How.TheVariants.{Or, Max, Min}
use Rattle.instant_net.specs.declared.words.Told.{Told}
use Rattle.instant_net.specs.NamedLeaves.{tell_named}
use Rattle.instant_net.specs.Nets.{named_atoms, named_at, AtomFits}
use Rattle.instant_net.specs.Opened.{AreInOrder}
use Rattle.instant_net.specs.WordParts.{pair_of, pair_at, word_of, bits_of, part_at}
use Rattle.instant_net.specs.Words.{hows, kind_hows, own_hows, own_unknown, signals, shifted, kind_value, told_to, told_by_kind, told_as, told_of, atom_told, tell_word, tell_atoms, tell_part, value_in, store_in, AreLaidOut, AreWords, Lies, FitsPart}
use Rattle.instant_net.proofs.PartTells.{signal_test, other_test, part_same, part_other}
use Rattle.instant_net.proofs.WordPlaces.{width, as_many, cell_apart, here, is_first, is_other, number_word, signal_there, number_there, first_there, signal_how, number_how, number_empty, same_at, value_by_parts}
use Rattle.instant_net.proofs.WordOrders.{told-AreWords}
use Rattle.instant_net.proofs.WordValues.{told_nth, told_how, told_bits, value_told, value_within, greatest_small}
use Rattle.instant_net.proofs.StoreLookups.{same_or_not, kept, kept-IsKeptFor, get-stored_same, get-cell, value_at-cell, same_elsewhere}

-- THE TOLD PART

-- it is one of the cell's
told_nth_within : (k : Kind) (t : Token) → IsTrue (fits_kind k t) → told_nth k t < length (kind_hows k)
told_nth_within Signal token.On f = omega arith
told_nth_within Signal token.Off f = omega arith
told_nth_within Signal token.Clash f = omega arith
told_nth_within Signal (token.AtLeast n) f = absurd (true_false (sym f))
told_nth_within Signal (token.AtMost n) f = absurd (true_false (sym f))
told_nth_within Number token.On f = absurd (true_false (sym f))
told_nth_within Number token.Off f = absurd (true_false (sym f))
told_nth_within Number token.Clash f = omega arith
told_nth_within Number (token.AtLeast n) f = omega arith
told_nth_within Number (token.AtMost n) f = omega arith

-- a signal is told two bits, which are set
signal_fits : (k : Kind) (t : Token) → k ≡ Signal → (told_how k t ≡ Or) × (told_bits k t < 4)
signal_fits Signal token.On e = (refl, omega arith)
signal_fits Signal token.Off e = (refl, omega arith)
signal_fits Signal token.Clash e = (refl, omega arith)
signal_fits Signal (token.AtLeast n) e = (refl, omega arith)
signal_fits Signal (token.AtMost n) e = (refl, omega arith)
signal_fits Number t e = absurd (cc)

-- and it is told in its own way
number_how_told : (t : Token) (after : List How) → IsTrue (fits_kind Number t) → get_or (own_hows Number ++ after) (told_nth Number t) Or ≡ told_how Number t
number_how_told token.On after f = absurd (true_false (sym f))
number_how_told token.Off after f = absurd (true_false (sym f))
number_how_told token.Clash after f = refl
number_how_told (token.AtLeast n) after f = refl
number_how_told (token.AtMost n) after f = refl

signal_told_as : (s first word : ℕ) (t : Token) → IsTrue (fits_kind Signal t) → first < s → word ≡ word_of s first
    → told_by_kind Signal first word t ≡ told_to (word_of s (first + told_nth Signal t)) (told_how Signal t) (bits_of s (first + told_nth Signal t) (told_bits Signal t))
signal_told_as s first word t f h w = by t f ∙ ap (λ q. told_to (word_of s q) (told_how Signal t) (bits_of s q (told_bits Signal t))) (let e : first ≡ first + told_nth Signal t = none t in e)
  where
    none : (t : Token) → first ≡ first + told_nth Signal t
    none token.On = omega arith
    none token.Off = omega arith
    none token.Clash = omega arith
    none (token.AtLeast n) = omega arith
    none (token.AtMost n) = omega arith

    at : (b : ℕ) → told_to word Or (pair_at first b) ≡ told_to (word_of s first) Or (bits_of s first b)
    at b = ap (λ x. told_to x Or (pair_at first b)) w ∙ ap (told_to (word_of s first) Or) (sym (ap (λ z. if z then pair_at first b else b) (signal_test s first h)))

    by : (t : Token) → IsTrue (fits_kind Signal t) → told_by_kind Signal first word t ≡ told_to (word_of s first) (told_how Signal t) (bits_of s first (told_bits Signal t))
    by token.On f = at 1
    by token.Off f = at 2
    by token.Clash f = at 3
    by (token.AtLeast n) f = absurd (true_false (sym f))
    by (token.AtMost n) f = absurd (true_false (sym f))

number_told_as : (s first word : ℕ) (t : Token) → IsTrue (fits_kind Number t) → s ≤ first → ((i : ℕ) → word_of s (first + i) ≡ word + i)
    → told_by_kind Number first word t ≡ told_to (word_of s (first + told_nth Number t)) (told_how Number t) (bits_of s (first + told_nth Number t) (told_bits Number t))
number_told_as s first word t f h w = by t f ∙ sym (ap (λ x. told_to x (told_how Number t) (bits_of s (first + told_nth Number t) (told_bits Number t))) (w (told_nth Number t)) ∙ ap (told_to (word + told_nth Number t) (told_how Number t)) whole)
  where
    whole : bits_of s (first + told_nth Number t) (told_bits Number t) ≡ told_bits Number t
    whole = ap (λ z. if z then pair_at (first + told_nth Number t) (told_bits Number t) else told_bits Number t) (other_test s (first + told_nth Number t) (omega arith))

    by : (t : Token) → IsTrue (fits_kind Number t) → told_by_kind Number first word t ≡ told_to (word + told_nth Number t) (told_how Number t) (told_bits Number t)
    by token.On f = absurd (true_false (sym f))
    by token.Off f = absurd (true_false (sym f))
    by token.Clash f = ap (λ x. told_to x Max 4294967296) (omega arith)
    by (token.AtLeast n) f = ap (λ x. told_to x Max (shifted n)) (omega arith)
    by (token.AtMost n) f = refl

-- WORDS OF CELLS

module _ (cells : List NetCell) (laid : AreLaidOut cells) (words : List ℕ) (are : AreWords cells words) where
  long : length words ≡ length (hows cells)
  long = are.long ∙ as_many cells

  module _ (i : ℕ) (c : NetCell) (e : slice_get cells i ≡ Some c) where
    abbrev content : ℕ → ℕ
    content = part_at (signals cells) words

    value_is : value_in words c ≡ kind_value c.cell.kind content c.first
    value_is = value_by_parts cells laid words i c e

    -- each part of a cell has a word
    part_there : (n : ℕ) → n < width c → word_of (signals cells) (c.first + n) < length words
    part_there n h = go c.cell.kind refl h
      where
        go : (k : Kind) → c.cell.kind ≡ k → n < length (kind_hows k) → word_of (signals cells) (c.first + n) < length words
        go Signal f l =
            let w = signal_there cells laid i c e f in
            let same : word_of (signals cells) (c.first + n) ≡ c.word = ap (word_of (signals cells)) (let t : c.first + n ≡ c.first = omega arith in t) ∙ sym (here cells laid i c e).word in
            let all = long in
            omega arith
        go Number f l =
            let w = number_there cells laid i c e f in
            let same = number_word cells laid i c e f n in
            let all = long in
            omega arith

    pub word_there : c.word < length words
    word_there = let w = first_there cells laid i c e in let all = long in omega arith

    pub second_there : c.cell.kind ≡ Number → c.word + 1 < length words
    second_there f = let w = number_there cells laid i c e f in let all = long in omega arith

    -- the bounds of a number lie within its domain
    pub bounds_within : c.cell.kind ≡ Number → (shifted c.cell.lo ≤ slice_index words c.word) × (slice_index words (c.word + 1) ≤ shifted c.cell.hi)
    bounds_within f =
        let second = second_there f in
        let low : Lies Max (shifted c.cell.lo) (slice_index words (c.word + 0)) = lies 0 (omega arith) in
        let high : Lies Min (shifted c.cell.hi) (slice_index words (c.word + 1)) = lies 1 second in
        let same : slice_index words (c.word + 0) ≡ slice_index words c.word = ap (slice_index words) (omega arith) in
        (omega arith, omega arith)
      where
        lies : (n : ℕ) → c.word + n < length words → Lies (get_or (own_hows Number ++ (here cells laid i c e).hows_after) n Or) (get_or (own_unknown Number c.cell.lo c.cell.hi ++ (here cells laid i c e).after) n 0) (slice_index words (c.word + n))
        lies n h =
            subst (λ (x : How). Lies x (get_or (own_unknown Number c.cell.lo c.cell.hi ++ (here cells laid i c e).after) n 0) (slice_index words (c.word + n))) (number_how cells laid i c e f n)
            (subst (λ (x : ℕ). Lies (slice_index_or (hows cells) (c.word + n) Or) x (slice_index words (c.word + n))) (number_empty cells laid i c e f n) (are.above (c.word + n) h))

    -- the content of a number's parts is that of its words
    number_content : c.cell.kind ≡ Number → (n : ℕ) → content (c.first + n) ≡ slice_index words (c.word + n)
    number_content f n =
        let o = is_other cells laid i c e f in
        ap (λ z. if z then pair_of (c.first + n) (slice_index words (word_of (signals cells) (c.first + n))) else slice_index words (word_of (signals cells) (c.first + n))) (other_test (signals cells) (c.first + n) (omega arith))
        ∙ ap (slice_index words) (number_word cells laid i c e f n)

    pub value_of_cell : IsValueOf c.cell (value_in words c)
    value_of_cell =
        let v = value_within c.cell.kind c.cell.lo c.cell.hi c.cell.lawful content c.first (λ f.
        let b = bounds_within f in
        let low = number_content f 0 in
        let high = number_content f 1 in
        let first : content (c.first + 0) ≡ content c.first = ap content (omega arith) in
        let word : slice_index words (c.word + 0) ≡ slice_index words c.word = ap (slice_index words) (omega arith) in
        (omega arith, omega arith)) in
        subst (IsValueOf c.cell) (sym value_is) (record { domain = v.0; proper = v.1 })

    pub high_small : c.cell.kind ≡ Number → slice_index words (c.word + 1) < 4294967296
    high_small f =
        let b = bounds_within f in
        let s = greatest_small c.cell.lo c.cell.hi (subst (λ (x : Kind). IsTrue (is_cell x c.cell.lo c.cell.hi)) f c.cell.lawful) in
        omega arith

    signal_small : c.cell.kind ≡ Signal → content c.first < 4
    signal_small f =
        let word : ℕ = slice_index words (word_of (signals cells) c.first) in
        let is : content c.first ≡ pair_of c.first word = ap (λ z. if z then pair_of c.first word else word) (signal_test (signals cells) c.first (is_first cells laid i c e f)) in
        omega arith

    -- the words after a token of this cell is told
    module _ (t : Token) (f : Fits c.cell t) where
      abbrev after : List ℕ
      after = tell_word words (told_as c t)

      abbrev nth : ℕ
      nth = told_nth c.cell.kind t

      abbrev how : How
      how = told_how c.cell.kind t

      abbrev bits : ℕ
      bits = told_bits c.cell.kind t

      pub nth_within : nth < width c
      nth_within = told_nth_within c.cell.kind t f

      pub told_as_part : told_as c t ≡ told_to (word_of (signals cells) (c.first + nth)) how (bits_of (signals cells) (c.first + nth) bits)
      told_as_part = go c.cell.kind refl f
        where
          go : (k : Kind) → c.cell.kind ≡ k → IsTrue (fits_kind k t)
              → told_by_kind c.cell.kind c.first c.word t ≡ told_to (word_of (signals cells) (c.first + told_nth c.cell.kind t)) (told_how c.cell.kind t) (bits_of (signals cells) (c.first + told_nth c.cell.kind t) (told_bits c.cell.kind t))
          go Signal h f = subst (λ (k : Kind). told_by_kind k c.first c.word t ≡ told_to (word_of (signals cells) (c.first + told_nth k t)) (told_how k t) (bits_of (signals cells) (c.first + told_nth k t) (told_bits k t))) (sym h)
              (signal_told_as (signals cells) c.first c.word t f (is_first cells laid i c e h) (here cells laid i c e).word)
          go Number h f = subst (λ (k : Kind). told_by_kind k c.first c.word t ≡ told_to (word_of (signals cells) (c.first + told_nth k t)) (told_how k t) (bits_of (signals cells) (c.first + told_nth k t) (told_bits k t))) (sym h)
              (number_told_as (signals cells) c.first c.word t f (is_other cells laid i c e h) (number_word cells laid i c e h))

      after_is : after ≡ tell_part (signals cells) how words (c.first + nth) bits
      after_is = ap (tell_word words) told_as_part

      fits_part : FitsPart (signals cells) (c.first + nth) how bits
      fits_part h = go c.cell.kind refl
        where
          go : (k : Kind) → c.cell.kind ≡ k → (told_how c.cell.kind t ≡ Or) × (told_bits c.cell.kind t < 4)
          go Signal s = signal_fits c.cell.kind t s
          go Number s = absurd (let o = is_other cells laid i c e s in omega arith)

      -- every other part is as before
      pub other_part : (r : ℕ) → r ≢ c.first + nth → part_at (signals cells) after r ≡ content r
      other_part r n = ap (λ ws. part_at (signals cells) ws r) after_is ∙ part_other (signals cells) (c.first + nth) how bits words fits_part (part_there nth nth_within) r n

      pub value_here : value_in after c ≡ value_with (value_in words c) t
      value_here =
          value_by_parts cells laid after i c e
          ∙ value_told c.cell.kind c.first t content (part_at (signals cells) after) f signal_small
          (λ h. let s = high_small h in let same = number_content h 1 in omega arith)
          (ap (λ ws. part_at (signals cells) ws (c.first + nth)) after_is ∙ part_same (signals cells) (c.first + nth) how bits words fits_part (part_there nth nth_within))
          (λ n h d. other_part (c.first + n) (λ same. d (omega arith)))
          ∙ sym (ap (λ v. value_with v t) value_is)

      pub value_elsewhere : (j : ℕ) (d : NetCell) → slice_get cells j ≡ Some d → i ≢ j → value_in after d ≡ value_in words d
      value_elsewhere j d g n =
          value_by_parts cells laid after j d g
          ∙ same_at d.cell.kind (part_at (signals cells) after) content d.first d.first (λ m h. other_part (d.first + m) (λ same. cell_apart cells laid i j c d e g n nth m nth_within h (sym same)))
          ∙ sym (value_by_parts cells laid words j d g)

      -- the told word is there, and it is told in its own way
      pub told_there : (told_as c t).word < length words
      told_there = subst (λ (x : Told). x.word < length words) (sym told_as_part) (part_there nth nth_within)

      pub how_there : slice_index_or (hows cells) (told_as c t).word Or ≡ (told_as c t).how
      how_there = ap (λ (x : Told). slice_index_or (hows cells) x.word Or) told_as_part ∙ go c.cell.kind refl f ∙ ap (λ (x : Told). x.how) (sym told_as_part)
        where
          go : (k : Kind) → c.cell.kind ≡ k → IsTrue (fits_kind k t) → slice_index_or (hows cells) (word_of (signals cells) (c.first + nth)) Or ≡ how
          go Signal h f =
              let l : nth < 1 = subst (λ (k : Kind). nth < length (kind_hows k)) h nth_within in
              ap (λ n. slice_index_or (hows cells) n Or) (ap (word_of (signals cells)) (let x : c.first + nth ≡ c.first = omega arith in x) ∙ sym (here cells laid i c e).word)
              ∙ signal_how cells laid i c e h ∙ sym (signal_fits c.cell.kind t h).0
          go Number h f =
              ap (λ n. slice_index_or (hows cells) n Or) (number_word cells laid i c e h nth) ∙ number_how cells laid i c e h nth
              ∙ ap (λ (k : Kind). get_or (own_hows Number ++ (here cells laid i c e).hows_after) (told_nth k t) Or) h
              ∙ number_how_told t (here cells laid i c e).hows_after f ∙ sym (ap (λ (k : Kind). told_how k t) h)

      pub after-AreWords : AreWords cells after
      after-AreWords = told-AreWords cells words are (told_as c t).word (told_as c t).bits (told_as c t).how told_there how_there

      module _ (order : AreInOrder cells) where
        abbrev before : StoreMap
        before = store_in cells words

        -- what the store keeps for the cell after the token is after_tell
        kept_here : get (after_tell before c.name c.cell t) c.name ≡ kept c.cell (value_with (value_in words c) t)
        kept_here =
            let value = value_at-cell cells words order i c e in
            let stays = value_at-told before c.name c.cell t f (subst (λ (o : Option Value). IfSome o (IsKeptFor c.cell)) (sym (get-cell cells words order i c e)) (kept-IsKeptFor c.cell (value_in words c) value_of_cell)) in
            ap (λ v. get (stored before c.name c.cell (value_with v t)) c.name) value
            ∙ get-stored_same before c.name c.cell (value_with (value_in words c) t)
            ∙ go (value_eq (value_with (value_in words c) t) (bottom_of c.cell)) refl (subst (λ (v : Value). value_at (stored before c.name c.cell (value_with v t)) c.name c.cell ≡ value_with v t) value stays)
          where
            go : (b : Bool) → value_eq (value_with (value_in words c) t) (bottom_of c.cell) ≡ b → value_at (cond b before (insert before c.name (value_with (value_in words c) t))) c.name c.cell ≡ value_with (value_in words c) t
                → cond b (get before c.name) (Some (value_with (value_in words c) t)) ≡ cond b None (Some (value_with (value_in words c) t))
            go false q s = refl
            go true q s =
                let same : value_in words c ≡ value_with (value_in words c) t = sym (value_at-cell cells words order i c e) ∙ s in
                get-cell cells words order i c e ∙ ap (kept c.cell) same ∙ ap (λ b. cond b None (Some (value_with (value_in words c) t))) q

        told_store : store_in cells after ≡ after_tell before c.name c.cell t
        told_store = same_map name_total name_cmp-IsAntisymmetric (store_in cells after) (after_tell before c.name c.cell t) (λ q. go q (same_or_not q c.name))
          where
            elsewhere : (j : ℕ) (d : NetCell) → slice_get cells j ≡ Some d → d.name ≢ c.name → value_in after d ≡ value_in words d
            elsewhere j d g n = value_elsewhere j d g (λ same. let one : Some d ≡ Some c = sym g ∙ ap (slice_get cells) (sym same) ∙ e in let cell : d ≡ c = cc in n (ap (λ (x : NetCell). x.name) cell))

            go : (q : CellName) → (q ≡ c.name) ⊎ (q ≢ c.name) → get (store_in cells after) q ≡ get (after_tell before c.name c.cell t) q
            go q (inl same) = subst (λ (m : CellName). get (store_in cells after) m ≡ get (after_tell before c.name c.cell t) m) (sym same)
                (get-cell cells after order i c e ∙ ap (kept c.cell) value_here ∙ sym kept_here)
            go q (inr other) = same_elsewhere cells words after c.name elsewhere q other ∙ sym (get-told_other before c.name q c.cell t other)

-- ATOMS

-- a token of an atom is after_tell to its cell's words
module _ (cells : List NetCell) (laid : AreLaidOut cells) (order : AreInOrder cells) where
  pub told_in_range : (words : List ℕ) → AreWords cells words → (a : Atom) → AtomFits cells a → (told_of cells a).word < length words
  told_in_range words are a f = subst (λ (o : Option NetCell). (atom_told o a.token).word < length words) (sym f.1) (told_there cells laid words are a.cell f.0 f.1 a.token f.2)

  pub atom-AreWords : (words : List ℕ) → AreWords cells words → (a : Atom) → AtomFits cells a → AreWords cells (tell_word words (told_of cells a))
  atom-AreWords words are a f = subst (λ (o : Option NetCell). AreWords cells (tell_word words (atom_told o a.token))) (sym f.1) (after-AreWords cells laid words are a.cell f.0 f.1 a.token f.2)

  -- telling atoms in turn is telling their tokens to the store
  pub all_told : (atoms : List Atom) → All (AtomFits cells) atoms → (words : List ℕ) → AreWords cells words
      → AreWords cells (tell_atoms cells atoms words) × (store_in cells (tell_atoms cells atoms words) ≡ tell_named (named_atoms cells atoms) (store_in cells words))
  all_told [] fit words are = (are, refl)
  all_told (a ∷ atoms) fit words are =
      let f = All-head (AtomFits cells) a atoms fit in
      let next = atom-AreWords words are a f in
      let rest = all_told atoms (All-tail (AtomFits cells) a atoms fit) (tell_word words (told_of cells a)) next in
      let one : store_in cells (tell_word words (told_of cells a)) ≡ after_tell (store_in cells words) f.0.name f.0.cell a.token =
      ap (λ o. store_in cells (tell_word words (atom_told o a.token))) f.1 ∙ told_store cells laid words are a.cell f.0 f.1 a.token f.2 order in (
        rest.0,
        rest.1
            ∙ ap (tell_named (named_atoms cells atoms)) one
            ∙ sym (ap (λ o. tell_named (named_at o a ++ named_atoms cells atoms) (store_in cells words)) f.1),
      )
