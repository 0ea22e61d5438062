-- A word shown: its length, and how the code finds and writes it a character at a time.
use lib.ListN.{length, take, drop, length-append, length-drop}
use borrow.Author.Tests.{eq-eqb, ne_eqb, eqb-true, eqb-false}
use lib.Dec.{eqb}
use types.Run.{OneOf, hit, miss}
use denote.Enum.Declared.{tag_of}
use Rattle.std.specs.Prelude.{Some, None}
use Rattle.text.specs.contracts.utf8.Decoded.{the_type}
use Rattle.words.specs.Ordinary.{ordinary_first}
use Rattle.words.proofs.Runs.{ordinary_told}
use mathlib.Core.Bool.{Bool, true, false, cond}
use Prim.Native.Nat.{◌<◌, ℕ, suc, ◌+◌, ◌-◌, ◌*◌, ◌≤◌}
use Rattle.quote.specs.Shown.{quoting, special, plain, escaped_code, escaped, shown_codes, shown}
use mathlib.Core.Path.{◌≡◌, refl, sym, ap, ◌∙◌}
use mathlib.Core.List.{List, [], ◌∷◌, ◌++◌, append-nil}
use native.Mathlib.Omega.{arith}
use lib.Seq.{drop-drop}
use Rattle.buffer.proofs.Choices.{then_is, else_is, true_is_not_false}
use Rattle.text.specs.Unicode.{encode, encode_all}
use Rattle.text.specs.Decoding.{decode_first, codes_in, well_formed_length, well_formed}
use Rattle.text.specs.declared.utf8.Decoded.{Decoded}
use Rattle.text.specs.declared.utf8.Decoded.TheVariants.{Character, IllFormed, End}
use Rattle.text.proofs.Pieces.{character_some, character_fits, character_bytes, encode_some}
use Rattle.text.proofs.Prefix.{codes_step, codes_stop, codes_end, codes_whole, prefix_step, prefix_none, encode_append}
use Rattle.quote.specs.Inner.{quiet_of, quiet_first, plain_word, specials, escaped_bytes}

-- what is still to come of a well-formed word begins with a character
pub formed_on : (w : List ℕ) (at : ℕ) (d : Decoded) → at + well_formed_length (drop at w) ≡ length w → decode_first (drop at w) ≡ d → OneOf (1 ∷ 2 ∷ []) (tag_of the_type d) → at < length w → ⊥
formed_on w at d f e k l = let z = prefix_none (drop at w) (codes_stop (drop at w) d e k) in omega arith

-- a character more, seen from the place after it
pub codes_at : (w : List ℕ) (at code n : ℕ) → decode_first (drop at w) ≡ Character code n → codes_in (drop at w) ≡ code ∷ codes_in (drop (at + n) w)
codes_at w at code n d = codes_step (drop at w) code n d ∙ ap (λ (l : List ℕ). code ∷ codes_in l) (drop-drop n at w)

escaped_bytes_lem : (code : ℕ) (t : Bool) → encode_all (cond t (0x5C ∷ code ∷ []) (code ∷ [])) ≡ escaped_bytes t (encode code)
unfolding encode_all encode
escaped_bytes_lem code true = ap (λ (l : List ℕ). 0x5C ∷ l) (append-nil (encode code))
escaped_bytes_lem code false = append-nil (encode code)

-- the room that a character asks
pub mark_room : (t : Bool) (x : List ℕ) (at room : ℕ) → t ≡ true → at + length (escaped_bytes t x) ≤ room → at + 1 + length x ≤ room
mark_room true x at room e h = omega arith
mark_room false x at room e h = absurd (true_is_not_false (sym e))

pub bare_room : (t : Bool) (x : List ℕ) (at room : ℕ) → t ≡ false → at + length (escaped_bytes t x) ≤ room → at + length x ≤ room
bare_room true x at room e h = absurd (true_is_not_false e)
bare_room false x at room e h = h

module _ (w : List ℕ) (at code n : ℕ) (d : decode_first (drop at w) ≡ Character code n) where
  -- how many characters need `\` before them
  pub specials_more : special code ≡ true → specials (codes_in (drop at w)) ≡ suc (specials (codes_in (drop (at + n) w)))
  unfolding specials
  specials_more e = ap specials (codes_at w at code n d) ∙ then_is _ _ _ e

  pub specials_same : special code ≡ false → specials (codes_in (drop at w)) ≡ specials (codes_in (drop (at + n) w))
  unfolding specials
  specials_same e = ap specials (codes_at w at code n d) ∙ else_is _ _ _ e

  -- the bytes of a character, with what they need before them
  pub bytes_at : take (at + n - at) (drop at w) ≡ encode code
  bytes_at =
      let k : at + n - at ≡ n = omega arith in
      ap (λ (m : ℕ). take m (drop at w)) k ∙ character_bytes (drop at w) code n d

  pub escaped_turn : encode_all (escaped (codes_in (drop at w))) ≡ escaped_bytes (special code) (take (at + n - at) (drop at w)) ++ encode_all (escaped (codes_in (drop (at + n) w)))
  unfolding escaped
  escaped_turn =
      ap (λ (l : List ℕ). encode_all (escaped l)) (codes_at w at code n d)
      ∙ encode_append (escaped_code code) (escaped (codes_in (drop (at + n) w)))
      ∙ ap (λ (l : List ℕ). l ++ encode_all (escaped (codes_in (drop (at + n) w)))) (escaped_bytes_lem code (special code) ∙ ap (escaped_bytes (special code)) (sym bytes_at))

-- a character that calls for no quotes
record Quiet (s : List ℕ) (n : ℕ) : Type 0 where
  code : ℕ
  decodes : decode_first s ≡ Character code n
  quiet : quoting code ≡ false

some_not_none : (n : ℕ) → Some n ≡ None → ⊥
some_not_none n e = let z : ◌≡◌ {A = ℕ} 0 1 = cc in omega arith

quiet_told : (s : List ℕ) (n : ℕ) → Some n ≡ quiet_first s → Quiet s n
unfolding quiet_first
quiet_told s n e = by (decode_first s) refl e
  where
    told : (code m : ℕ) (t : Bool) → decode_first s ≡ Character code m → quoting code ≡ t → Some n ≡ cond t None (Some m) → Quiet s n
    told code m true p q r = absurd (some_not_none n r)
    told code m false p q r = let same : m ≡ n = cc in record { code = code; decodes = p ∙ ap (λ (k : ℕ). Character code k) same; quiet = q }

    by : (d : Decoded) → decode_first s ≡ d → Some n ≡ quiet_of d → Quiet s n
    by (Character code m) p q = told code m (quoting code) p refl q
    by IllFormed p q = absurd (some_not_none n q)
    by End p q = absurd (some_not_none n q)

pub quiet_is : (s : List ℕ) (code n : ℕ) (t : Bool) → decode_first s ≡ Character code n → quoting code ≡ t → quiet_first s ≡ cond t None (Some n)
unfolding quiet_first
quiet_is s code n t d e = ap quiet_of d ∙ ap (λ (x : Bool). cond x None (Some n)) e

pub quiet_stop : (s : List ℕ) (d : Decoded) → decode_first s ≡ d → OneOf (1 ∷ 2 ∷ []) (tag_of the_type d) → quiet_first s ≡ None
unfolding quiet_first
quiet_stop s (Character code n) e k = absurd (miss (1 ∷ 2 ∷ []) 0 tt k)
quiet_stop s IllFormed e k = ap quiet_of e
quiet_stop s End e k = ap quiet_of e

pub quiet_ordinary : (s : List ℕ) (at n : ℕ) → Some n ≡ ordinary_first (drop at s) → Some n ≡ quiet_first (drop at s)
unfolding quoting special
quiet_ordinary s at n e =
    let o = ordinary_told s at n e in
    sym (quiet_is (drop at s) o.code n false o.decodes (else_is _ _ _ (else_is _ _ _ o.no_quote ∙ o.no_escape) ∙ o.solid))

-- a well-formed word that is plain
pub formed_plain : (w : List ℕ) → well_formed_length w ≡ length w → plain_word w ≡ plain (codes_in w)
unfolding plain_word well_formed
formed_plain w h = then_is _ _ _ (eq-eqb _ _ h)

pub plain_formed : (w : List ℕ) → plain_word w ≡ true → well_formed_length w ≡ length w
unfolding plain_word well_formed
plain_formed w e = by (well_formed w) refl e
  where
    by : (t : Bool) → well_formed w ≡ t → cond t (plain (codes_in w)) false ≡ true → well_formed_length w ≡ length w
    by true p q = eqb-true _ _ p
    by false p q = absurd (true_is_not_false (sym q))

-- it is decided by the characters still to come
both_more : (n a b c d : ℕ) → c ≡ n + a → d ≡ n + b → eqb c d ≡ eqb a b
both_more n a b c d p q = by (eqb a b) refl
  where
    by : (t : Bool) → eqb a b ≡ t → eqb c d ≡ t
    by true e = let k = eqb-true a b e in eq-eqb c d (omega arith)
    by false e = let k = eqb-false a b e in ne_eqb c d (λ z. k (omega arith))

pub quiet_fits : (w : List ℕ) (at n : ℕ) → Some n ≡ quiet_first (drop at w) → at + n ≤ length w
quiet_fits w at n e = let q = quiet_told (drop at w) n e in character_fits w at q.code n q.decodes

pub quiet_some : (s : List ℕ) (n : ℕ) → Some n ≡ quiet_first s → 0 < n
quiet_some s n e = let q = quiet_told s n e in character_some s q.code n q.decodes

pub plain_turn : (w : List ℕ) (at n : ℕ) → Some n ≡ quiet_first (drop at w) → plain_word (drop (at + n) w) ≡ plain_word (drop at w)
unfolding plain_word plain well_formed
plain_turn w at n e =
    let q = quiet_told (drop at w) n e in
    let fits = character_fits w at q.code n q.decodes in
    let here = length-drop at w in
    let there = length-drop (at + n) w in
    let whole = both_more n (well_formed_length (drop (at + n) w)) (length (drop (at + n) w)) (well_formed_length (drop at w)) (length (drop at w))
    (prefix_step (drop at w) q.code n q.decodes ∙ ap (λ (l : List ℕ). n + well_formed_length l) (drop-drop n at w)) (omega arith) in
    let rest : plain (codes_in (drop at w)) ≡ plain (codes_in (drop (at + n) w)) = ap plain (codes_at w at q.code n q.decodes) ∙ else_is _ _ _ q.quiet in
    sym (ap (λ (t : Bool). cond t (plain (codes_in (drop at w))) false) whole ∙ ap (λ (x : Bool). cond (well_formed (drop (at + n) w)) x false) rest)

no_more : (t x : Bool) → x ≡ false → cond t x false ≡ false
no_more true x e = e
no_more false x e = refl

plain_broken : (s : List ℕ) → 0 < length s → codes_in s ≡ [] → plain_word s ≡ false
unfolding plain_word well_formed
plain_broken s h e = let z = prefix_none s e in else_is _ _ _ (ne_eqb (well_formed_length s) (length s) (λ q. omega arith))

plain_quoting : (s : List ℕ) (code n : ℕ) → decode_first s ≡ Character code n → quoting code ≡ true → plain_word s ≡ false
unfolding plain_word plain well_formed
plain_quoting s code n d e = no_more (well_formed s) (plain (codes_in s)) (ap plain (codes_step s code n d) ∙ then_is _ _ _ e)

stopped : (s : List ℕ) → 0 < length s → None ≡ quiet_first s → plain_word s ≡ false
unfolding quiet_first
stopped s h e = by (decode_first s) refl (sym e)
  where
    told : (code m : ℕ) (t : Bool) → decode_first s ≡ Character code m → quoting code ≡ t → cond t None (Some m) ≡ None → plain_word s ≡ false
    told code m true p q r = plain_quoting s code m p q
    told code m false p q r = absurd (some_not_none m r)

    by : (d : Decoded) → decode_first s ≡ d → quiet_of d ≡ None → plain_word s ≡ false
    by (Character code m) p q = told code m (quoting code) p refl q
    by IllFormed p q = plain_broken s h (codes_stop s IllFormed p (hit (1 ∷ 2 ∷ []) 1 tt))
    by End p q = plain_broken s h (codes_stop s End p (hit (1 ∷ 2 ∷ []) 2 tt))

pub plain_stop : (w : List ℕ) (at : ℕ) → at < length w → None ≡ quiet_first (drop at w) → plain_word (drop at w) ≡ false
plain_stop w at h e = stopped (drop at w) (rw (length-drop at w) (omega arith)) e

plain_nothing : (s : List ℕ) → codes_in s ≡ [] → length s ≡ 0 → plain_word s ≡ true
unfolding plain_word plain well_formed
plain_nothing s e h = let z = prefix_none s e in then_is _ _ _ (eq-eqb (well_formed_length s) (length s) (omega arith)) ∙ ap plain e

pub plain_end : (w : List ℕ) (at : ℕ) → length w ≤ at → plain_word (drop at w) ≡ true
plain_end w at h = let l = length-drop at w in plain_nothing (drop at w) (codes_end w at h) (omega arith)

pub specials_none : (codes : List ℕ) → codes ≡ [] → specials codes ≡ 0
unfolding specials
specials_none codes e = rw e

pub escaped_none : (codes : List ℕ) → codes ≡ [] → encode_all (escaped codes) ≡ []
unfolding escaped encode_all
escaped_none codes e = rw e

-- the length of what is shown
code_length : (code : ℕ) (t : Bool) → special code ≡ t → length (encode_all (escaped_code code)) ≡ length (encode code) + cond t 1 0
unfolding encode_all encode
code_length code t e = ap (λ (x : Bool). length (encode_all (cond x (0x5C ∷ code ∷ []) (code ∷ [])))) e ∙ by t
  where
    by : (t : Bool) → length (encode_all (cond t (0x5C ∷ code ∷ []) (code ∷ []))) ≡ length (encode code) + cond t 1 0
    by true = let k = length-append (encode code) [] in omega arith
    by false = let k = length-append (encode code) [] in omega arith

specials_step : (code : ℕ) (codes : List ℕ) (t : Bool) → special code ≡ t → specials (code ∷ codes) ≡ cond t 1 0 + specials codes
unfolding specials
specials_step code codes true e = let k : specials (code ∷ codes) ≡ suc (specials codes) = then_is _ _ _ e in omega arith
specials_step code codes false e = let k : specials (code ∷ codes) ≡ specials codes = else_is _ _ _ e in omega arith

escaped_length : (codes : List ℕ) → length (encode_all (escaped codes)) ≡ length (encode_all codes) + specials codes
unfolding escaped encode_all specials
escaped_length [] = refl
escaped_length (code ∷ codes) =
    let h = escaped_length codes in
    let a = ap length (encode_append (escaped_code code) (escaped codes)) ∙ length-append (encode_all (escaped_code code)) (encode_all (escaped codes)) in
    let b = code_length code (special code) refl in
    let c = specials_step code codes (special code) refl in
    let d = length-append (encode code) (encode_all codes) in
    omega arith

few : (t : Bool) → cond t 1 0 ≤ 1
few true = omega arith
few false = omega arith

specials_few : (codes : List ℕ) → specials codes ≤ length (encode_all codes)
unfolding encode_all specials
specials_few [] = omega arith
specials_few (code ∷ codes) =
    let h = specials_few codes in
    let c = specials_step code codes (special code) refl in
    let d = length-append (encode code) (encode_all codes) in
    let s = encode_some code in
    let f = few (special code) in
    omega arith

pub shown_plain : (w : List ℕ) → plain_word w ≡ true → shown w ≡ w
unfolding shown shown_codes
shown_plain w e = let h = plain_formed w e in ap encode_all (then_is _ _ _ (sym (formed_plain w h) ∙ e)) ∙ codes_whole w h

-- and one that is not
module _ (w : List ℕ) (h : well_formed_length w ≡ length w) (e : plain_word w ≡ false) where
  pub shown_quoted : shown w ≡ 0x22 ∷ (encode_all (escaped (codes_in w)) ++ (0x22 ∷ []))
  unfolding shown shown_codes encode_all encode
  shown_quoted =
      ap encode_all (else_is _ _ _ (sym (formed_plain w h) ∙ e)) ∙ ap (λ (l : List ℕ). 0x22 ∷ l) (encode_append (escaped (codes_in w)) (0x22 ∷ []))

  pub quoted_length : length (shown w) ≡ length w + specials (codes_in w) + 2
  quoted_length =
      let a = ap length shown_quoted in
      let b = length-append (encode_all (escaped (codes_in w))) (0x22 ∷ []) in
      let c = escaped_length (codes_in w) in
      let d = ap length (codes_whole w h) in
      omega arith

  -- the room that it asks
  pub quoted_room : (at room : ℕ) → at + length (shown w) ≤ room → at + 1 + length (encode_all (escaped (codes_in w))) + 1 ≤ room
  quoted_room at room k =
      let a = ap length shown_quoted in
      let b = length-append (encode_all (escaped (codes_in w))) (0x22 ∷ []) in
      omega arith

pub shown_most : (w : List ℕ) → well_formed_length w ≡ length w → length (shown w) ≤ 2 * length w + 2
shown_most w h = by (plain_word w) refl
  where
    by : (t : Bool) → plain_word w ≡ t → length (shown w) ≤ 2 * length w + 2
    by true e = let a = ap length (shown_plain w e) in omega arith
    by false e =
        let a = quoted_length w h e in
        let f = specials_few (codes_in w) in
        let d = ap length (codes_whole w h) in
        omega arith
