-- The way back: splitting the line of words that quoting accepts gives those words, and writes the very frames that were given.
use Rattle.quote.specs.Shown.{quoting, special, plain, escaped_code, escaped, shown_codes, shown}
use Rattle.words.specs.Answer.{Tokenized, written}
use Rattle.words.proofs.Answers.{all_words}
use Rattle.text.proofs.Prefix.{whole_is, codes_are, codes_scalars, codes_whole, encode_append, is_whole}
use Rattle.buffer.specs.Write.{over}
use Prim.Native.Nat.{ℕ, zero, suc, ◌+◌, ◌<◌, ◌≤◌}
use mathlib.Core.Path.{◌≡◌, refl, sym, ap, ◌∙◌}
use mathlib.Core.Bool.{Bool, true, false, cond, not}
use mathlib.Core.List.{List, [], ◌∷◌, ◌++◌, map, append_assoc, append-nil}
use native.Mathlib.Omega.{arith}
use lib.Dec.{eqb}
use lib.ListN.{length, take, drop, length-drop}
use lib.Seq.{get_or-drop}
use Rattle.buffer.proofs.Choices.{else_is, true_is_not_false}
use Rattle.text.specs.Unicode.{low, Scalars, none, more, encode, encode_all, WellFormed}
use Rattle.text.specs.Decoding.{codes_in}
use Rattle.text.specs.Space.{white_space, among, is_white_space}
use Rattle.text.specs.Apart.{unless_empty}
use Rattle.buffer.specs.Numbers.{Bytes}
use Rattle.frame.specs.Framed.{frame_of}
use Rattle.frame.proofs.Frames.{frame_back, frame_within}
use Rattle.words.specs.declared.role.Role.{Role}
use Rattle.words.specs.declared.role.Role.TheVariants.{Take, Escape, Toggle, Gap}
use Rattle.words.specs.Tokens.{role_of, on_role, tokens_from, tokens, words_of, word_frames}
use Rattle.words.proofs.GoodWords.{Each, nothing, also, Good}
use Rattle.quote.specs.Given.{Listed, done, broken, word, listed_from, listed, good_word, Judged, bad, fine, word_before, judge_words}
use Rattle.quote.specs.Joined.{gap_before, joined_from, joined}
use Rattle.quote.specs.Answer.{quote_line}
use Rattle.quote.specs.Inner.{item_first}
use Rattle.quote.specs.declared.given.Item.{Item}
use Rattle.std.specs.Prelude.{Option, Some, None, Ok}
use Rattle.quote.proofs.Listing.{good_some, good_formed, item_told, judge_first, judge_bad}

tokens_step : (w : List ℕ) (quotes after : Bool) (code : ℕ) (codes : List ℕ) (t : Role) → role_of quotes after code ≡ t
    → tokens_from w quotes after (code ∷ codes)
    ≡ on_role t (λ _. tokens_from (w ++ (code ∷ [])) quotes false codes) (λ _. tokens_from w quotes true codes) (λ _. tokens_from w (not quotes) false codes)
    (λ _. unless_empty w (tokens_from [] quotes false codes))
unfolding tokens_from
tokens_step w quotes after code codes t e =
    ap
    (λ (x : Role).
    on_role x (λ _. tokens_from (w ++ (code ∷ [])) quotes false codes) (λ _. tokens_from w quotes true codes) (λ _. tokens_from w (not quotes) false codes)
    (λ _. unless_empty w (tokens_from [] quotes false codes)))
    e

-- what each character of a line does
not_special : (code : ℕ) → special code ≡ false → (eqb code 0x22 ≡ false) × (eqb code 0x5C ≡ false)
unfolding special
not_special code e = by (eqb code 0x22) refl e
  where
    by : (t : Bool) → eqb code 0x22 ≡ t → cond t true (eqb code 0x5C) ≡ false → (eqb code 0x22 ≡ false) × (eqb code 0x5C ≡ false)
    by true p q = absurd (true_is_not_false q)
    by false p q = (p, q)

turn_inside : (code : ℕ) → special code ≡ false → role_of true false code ≡ Take
unfolding role_of
turn_inside code e = let s = not_special code e in else_is _ _ _ s.1 ∙ else_is _ _ _ s.0

turn_outside : (code : ℕ) → special code ≡ false → is_white_space code ≡ false → role_of false false code ≡ Take
unfolding role_of
turn_outside code e f = let s = not_special code e in else_is _ _ _ s.1 ∙ else_is _ _ _ s.0 ∙ else_is _ _ _ f

turn_after : (code : ℕ) → role_of true true code ≡ Take
unfolding role_of
turn_after code = refl

turn_backslash : role_of true false 0x5C ≡ Escape
unfolding role_of
turn_backslash = refl

turn_quote : (quotes : Bool) → role_of quotes false 0x22 ≡ Toggle
unfolding role_of
turn_quote quotes = refl

turn_space : role_of false false 0x20 ≡ Gap
unfolding role_of is_white_space among white_space
turn_space = refl

-- a plain word is taken as it stands
plain_tells : (code : ℕ) (codes : List ℕ) → plain (code ∷ codes) ≡ true → (special code ≡ false) × (is_white_space code ≡ false) × (plain codes ≡ true)
unfolding plain quoting
plain_tells code codes e = by (special code) (is_white_space code) refl refl e
  where
    by : (s t : Bool) → special code ≡ s → is_white_space code ≡ t → cond (cond s true t) false (plain codes) ≡ true
        → (special code ≡ false) × (is_white_space code ≡ false) × (plain codes ≡ true)
    by true t p q r = absurd (true_is_not_false (sym r))
    by false true p q r = absurd (true_is_not_false (sym r))
    by false false p q r = (p, q, r)

plain_back : (w codes rest : List ℕ) → plain codes ≡ true → tokens_from w false false (codes ++ rest) ≡ tokens_from (w ++ codes) false false rest
plain_back w [] rest e = ap (λ (l : List ℕ). tokens_from l false false rest) (sym (append-nil w))
plain_back w (code ∷ codes) rest e =
    let t = plain_tells code codes e in
    tokens_step w false false code (codes ++ rest) Take (turn_outside code t.0 t.1)
    ∙ plain_back (w ++ (code ∷ [])) codes rest t.2
    ∙ ap (λ (l : List ℕ). tokens_from l false false rest) (append_assoc w (code ∷ []) codes)

-- inside quotes a word is taken without the `\` that were put before `"` and `\`
code_back : (w : List ℕ) (code : ℕ) (rest : List ℕ) (t : Bool) → special code ≡ t
    → tokens_from w true false (cond t (0x5C ∷ code ∷ []) (code ∷ []) ++ rest) ≡ tokens_from (w ++ (code ∷ [])) true false rest
code_back w code rest true e =
    tokens_step w true false 0x5C (code ∷ rest) Escape turn_backslash ∙ tokens_step w true true code rest Take (turn_after code)
code_back w code rest false e = tokens_step w true false code rest Take (turn_inside code e)

escaped_back : (w codes rest : List ℕ) → tokens_from w true false (escaped codes ++ rest) ≡ tokens_from (w ++ codes) true false rest
unfolding escaped
escaped_back w [] rest = ap (λ (l : List ℕ). tokens_from l true false rest) (sym (append-nil w))
escaped_back w (code ∷ codes) rest =
    ap (tokens_from w true false) (append_assoc (escaped_code code) (escaped codes) rest)
    ∙ code_back w code (escaped codes ++ rest) (special code) refl
    ∙ escaped_back (w ++ (code ∷ [])) codes rest
    ∙ ap (λ (l : List ℕ). tokens_from l true false rest) (append_assoc w (code ∷ []) codes)

-- a word that is shown is taken
quoted_back : (codes rest : List ℕ) → tokens_from [] false false (0x22 ∷ ((escaped codes ++ (0x22 ∷ [])) ++ rest)) ≡ tokens_from codes false false rest
quoted_back codes rest =
    tokens_step [] false false 0x22 ((escaped codes ++ (0x22 ∷ [])) ++ rest) Toggle (turn_quote false)
    ∙ ap (tokens_from [] true false) (append_assoc (escaped codes) (0x22 ∷ []) rest)
    ∙ escaped_back [] codes (0x22 ∷ rest)
    ∙ tokens_step codes true false 0x22 rest Toggle (turn_quote true)

shown_back : (codes rest : List ℕ) → tokens_from [] false false (shown_codes codes ++ rest) ≡ tokens_from codes false false rest
unfolding shown_codes
shown_back codes rest = by (plain codes) refl
  where
    by : (t : Bool) → plain codes ≡ t → tokens_from [] false false (cond t codes (0x22 ∷ (escaped codes ++ (0x22 ∷ []))) ++ rest) ≡ tokens_from codes false false rest
    by true e = plain_back [] codes rest e
    by false e = quoted_back codes rest

-- words one after the other, by their characters
ended_some : (w : List ℕ) (words : List (List ℕ)) → 0 < length w → unless_empty w words ≡ w ∷ words
ended_some [] words h = absurd (omega arith)
ended_some (c ∷ w) words h = refl

after_back : (n : ℕ) (w : List ℕ) (words : List (List ℕ)) → Each (λ v. 0 < length v) words
    → tokens_from w false false (joined_from (suc n) (map shown_codes words)) ≡ unless_empty w words
unfolding joined_from gap_before tokens_from
after_back n w [] nothing = refl
after_back n w (v ∷ words) (also h hs) =
    let rest : List ℕ = joined_from (suc (suc n)) (map shown_codes words) in
    tokens_step w false false 0x20 (shown_codes v ++ rest) Gap turn_space
    ∙ ap (unless_empty w) (shown_back v rest ∙ after_back (suc n) v words hs ∙ ended_some v words h)

joined_back : (words : List (List ℕ)) → Each (λ v. 0 < length v) words → tokens_from [] false false (joined (map shown_codes words)) ≡ words
unfolding joined joined_from gap_before tokens_from
joined_back [] nothing = refl
joined_back (v ∷ words) (also h hs) = shown_back v (joined_from 1 (map shown_codes words)) ∙ after_back 0 v words hs ∙ ended_some v words h

-- the characters of a line
gap_encoded : (n : ℕ) → encode_all (gap_before n) ≡ gap_before n
unfolding gap_before encode_all encode
gap_encoded zero = refl
gap_encoded (suc n) = refl

nothing_encoded : [] ≡ encode_all []
unfolding encode_all
nothing_encoded = refl

joined_encoded : (n : ℕ) (texts : List (List ℕ)) → joined_from n (map encode_all texts) ≡ encode_all (joined_from n texts)
unfolding joined_from
joined_encoded n [] = nothing_encoded
joined_encoded n (t ∷ texts) =
    ap (λ (l : List ℕ). gap_before n ++ (encode_all t ++ l)) (joined_encoded (suc n) texts)
    ∙ ap (λ (l : List ℕ). gap_before n ++ l) (sym (encode_append t (joined_from (suc n) texts)))
    ∙ ap (λ (l : List ℕ). l ++ encode_all (t ++ joined_from (suc n) texts)) (sym (gap_encoded n))
    ∙ sym (encode_append (gap_before n) (t ++ joined_from (suc n) texts))

line_codes : List (List ℕ) → List ℕ
line_codes words = joined (map shown_codes (map codes_in words))

all_shown_lem : (words : List (List ℕ)) → map shown words ≡ map encode_all (map shown_codes (map codes_in words))
unfolding shown
all_shown_lem [] = refl
all_shown_lem (w ∷ words) = ap (λ (l : List (List ℕ)). encode_all (shown_codes (codes_in w)) ∷ l) (all_shown_lem words)

line_encoded : (words : List (List ℕ)) → quote_line words ≡ encode_all (line_codes words)
unfolding quote_line joined line_codes
line_encoded words = ap (joined_from 0) (all_shown_lem words) ∙ joined_encoded 0 (map shown_codes (map codes_in words))

-- which are scalar values
both_scalars : (codes others : List ℕ) → Scalars codes → Scalars others → Scalars (codes ++ others)
both_scalars [] others none k = k
both_scalars (c ∷ codes) others (more h hs) k = more h (both_scalars codes others hs k)

escaped_scalars : (codes : List ℕ) → Scalars codes → Scalars (escaped codes)
unfolding escaped
escaped_scalars [] none = none
escaped_scalars (c ∷ codes) (more h hs) = both_scalars (escaped_code c) (escaped codes) (by (special c)) (escaped_scalars codes hs)
  where
    by : (t : Bool) → Scalars (cond t (0x5C ∷ c ∷ []) (c ∷ []))
    by true = more (low {n = 0x5C} (omega arith)) (more h none)
    by false = more h none

shown_scalars : (codes : List ℕ) → Scalars codes → Scalars (shown_codes codes)
unfolding shown_codes
shown_scalars codes h = by (plain codes)
  where
    by : (t : Bool) → Scalars (cond t codes (0x22 ∷ (escaped codes ++ (0x22 ∷ []))))
    by true = h
    by false =
        more (low {n = 0x22} (omega arith)) (both_scalars (escaped codes) (0x22 ∷ []) (escaped_scalars codes h) (more (low {n = 0x22} (omega arith)) none))

gap_scalars : (n : ℕ) → Scalars (gap_before n)
unfolding gap_before
gap_scalars zero = none
gap_scalars (suc n) = more (low {n = 0x20} (omega arith)) none

joined_scalars : (n : ℕ) (words : List (List ℕ)) → Scalars (joined_from n (map shown_codes (map codes_in words)))
unfolding joined_from
joined_scalars n [] = none
joined_scalars n (w ∷ words) =
    both_scalars (gap_before n) (shown_codes (codes_in w) ++ joined_from (suc n) (map shown_codes (map codes_in words))) (gap_scalars n)
    (both_scalars (shown_codes (codes_in w)) (joined_from (suc n) (map shown_codes (map codes_in words))) (shown_scalars (codes_in w) (codes_scalars w)) (joined_scalars (suc n) words))

-- the line is well-formed
pub line_formed : (words : List (List ℕ)) → WellFormed (quote_line words)
unfolding line_codes joined
line_formed words = record { codes = line_codes words; scalars = joined_scalars 0 words; encoded = line_encoded words }

line_codes_lem : (words : List (List ℕ)) → codes_in (quote_line words) ≡ line_codes words
unfolding line_codes joined
line_codes_lem words = ap codes_in (line_encoded words) ∙ codes_are (line_codes words) (joined_scalars 0 words)

-- good words come back
good_codes : (w : List ℕ) → Good w → encode_all (codes_in w) ≡ w
good_codes w g = codes_whole w (whole_is w g.formed)

some_codes : (w codes : List ℕ) → 0 < length w → encode_all codes ≡ w → 0 < length codes
unfolding encode_all
some_codes w [] h e = absurd (let l = ap length e in omega arith)
some_codes w (c ∷ codes) h e = omega arith

all_some : (words : List (List ℕ)) → Each Good words → Each (λ v. 0 < length v) (map codes_in words)
all_some [] nothing = nothing
all_some (w ∷ words) (also g gs) = also {word = codes_in w} (some_codes w (codes_in w) g.some (good_codes w g)) (all_some words gs)

all_whole : (words : List (List ℕ)) → Each Good words → map encode_all (map codes_in words) ≡ words
all_whole [] nothing = refl
all_whole (w ∷ words) (also g gs) =
    ap (λ (l : List ℕ). l ∷ map encode_all (map codes_in words)) (good_codes w g) ∙ ap (λ (l : List (List ℕ)). w ∷ l) (all_whole words gs)

pub words_back : (words : List (List ℕ)) → Each Good words → words_of (quote_line words) ≡ words
unfolding words_of tokens line_codes
words_back words g =
    ap (λ (l : List ℕ). map encode_all (tokens_from [] false false l)) (line_codes_lem words)
    ∙ ap (map encode_all) (joined_back (map codes_in words) (all_some words g))
    ∙ all_whole words g

-- words that are judged fine are good
fine_is : (x y : List (List ℕ)) → fine x ≡ fine y → x ≡ y
fine_is x y e = cc

not_fine : (n : ℕ) (x : List (List ℕ)) → bad n ≡ fine x → ⊥
not_fine n x e = let z : ◌≡◌ {A = ℕ} 0 1 = cc in omega arith

good_word_lem : (w : List ℕ) → good_word w ≡ true → Good w
good_word_lem w e = record { some = good_some w e; formed = is_whole w (good_formed w e) }

pub fine_good : (l : Listed) (ws : List (List ℕ)) → judge_words l ≡ fine ws → Each Good ws
unfolding judge_words
fine_good done ws e = rw (sym (fine_is [] ws e)) nothing
fine_good broken ws e = absurd (not_fine 0 ws e)
fine_good (word w l) ws e = by (good_word w) refl (judge_words l) (λ vs q. fine_good l vs q) e
  where
    by : (t : Bool) → good_word w ≡ t → (j : Judged) → ((vs : List (List ℕ)) → j ≡ fine vs → Each Good vs) → cond t (word_before w j) (bad 0) ≡ fine ws → Each Good ws
    by true g (fine vs) h q = rw (sym (fine_is (w ∷ vs) ws q)) (also (good_word_lem w g) (h vs refl))
    by true g (bad k) h q = absurd (not_fine (suc k) ws q)
    by false g j h q = absurd (not_fine 0 ws q)

-- THE WAY BACK: splitting the line of words that quoting accepts gives those words
pub given_back : (words : List ℕ) (ws : List (List ℕ)) → judge_words (listed words) ≡ fine ws → words_of (quote_line ws) ≡ ws
given_back words ws e = words_back ws (fine_good (listed words) ws e)

-- and as frames they are the very bytes that were given
bytes_after : (s : List ℕ) (n : ℕ) → Bytes s → Bytes (drop n s)
unfolding Bytes
bytes_after s n h i = rw (get_or-drop) (h (n + i))

nothing_fine : (ws : List (List ℕ)) → judge_words (listed []) ≡ fine ws → [] ≡ ws
unfolding listed_from listed judge_words
nothing_fine ws e = fine_is [] ws e

nothing_framed : word_frames [] ≡ []
unfolding word_frames
nothing_framed = refl

step_back : (s w rest : List ℕ) (ws : List (List ℕ)) → s ≡ frame_of 0x14 w ++ rest → (j : Judged) → ((vs : List (List ℕ)) → j ≡ fine vs → word_frames vs ≡ rest)
    → word_before w j ≡ fine ws → word_frames ws ≡ s
unfolding word_frames
step_back s w rest ws q (fine vs) h e = rw (sym (fine_is (w ∷ vs) ws e)) (ap (λ (l : List ℕ). frame_of 0x14 w ++ l) (h vs refl) ∙ sym q)
step_back s w rest ws q (bad k) h e = absurd (not_fine (suc k) ws e)

frames_within : (k : ℕ) (s : List ℕ) (ws : List (List ℕ)) → length s < k → Bytes s → judge_words (listed s) ≡ fine ws → word_frames ws ≡ s
frames_within zero s ws h b e = absurd (omega arith)
frames_within (suc k) [] ws h b e = rw (sym (nothing_fine ws e)) nothing_framed
frames_within (suc k) (a ∷ s) ws h b e = by (item_first (a ∷ s)) refl (λ t vs l c r. frames_within k t vs l c r)
  where
    by : (i : Option Item) → item_first (a ∷ s) ≡ i → ((t : List ℕ) (vs : List (List ℕ)) → length t < k → Bytes t → judge_words (listed t) ≡ fine vs → word_frames vs ≡ t)
        → word_frames ws ≡ a ∷ s
    by None q again = absurd (not_fine 0 ws (sym (judge_bad (a ∷ s) (omega arith) q) ∙ e))
    by (Some i) q again =
        let n : ℕ = i.length in
        let t = (item_told (a ∷ s) i q).word in
        let fits = frame_within (a ∷ s) 0x14 n t.head in
        let size = length-drop (3 + n) (a ∷ s) in
        let rest : List ℕ = drop (3 + n) (a ∷ s) in
        step_back (a ∷ s) (take n (drop 3 (a ∷ s))) rest ws (frame_back (a ∷ s) 0x14 n b t.head) (judge_words (listed rest))
        (λ vs r. again rest vs (omega arith) (bytes_after (a ∷ s) (3 + n) b) r) (sym (judge_first (a ∷ s) n t) ∙ e)

pub frames_back : (words : List ℕ) (ws : List (List ℕ)) → Bytes words → judge_words (listed words) ≡ fine ws → word_frames ws ≡ words
frames_back words ws b e = frames_within (suc (length words)) words ws (omega arith) b e

pub written_back : (words : List ℕ) (ws : List (List ℕ)) → Bytes words → judge_words (listed words) ≡ fine ws → written (quote_line ws) ≡ words
unfolding written
written_back words ws b e = ap word_frames (given_back words ws e) ∙ frames_back words ws b e

-- The two calls together: where `quote` writes a line, `tokenize` of that line writes the frames that `quote` was given.
pub call_back : (words out : List ℕ) (ws : List (List ℕ)) → Bytes words → judge_words (listed words) ≡ fine ws → length (quote_line ws) ≤ 1024 → length words ≤ length out
    → Tokenized (quote_line ws) out (Ok (length words)) (over words out)
call_back words out ws b e h k =
    let line : List ℕ = quote_line ws in
    let back : written line ≡ words = written_back words ws b e in
    all_words line out (length words) h (whole_is line (line_formed ws), ap length (sym back)) (over words out) k (ap (λ (l : List ℕ). over l out) (sym back))
