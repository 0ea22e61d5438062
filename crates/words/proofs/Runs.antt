-- What a step reads: a single character, or a run of characters that are all taken.
use Rattle.std.specs.Prelude.{Some, None}
use Prim.Native.Nat.{ℕ, ◌+◌, ◌-◌, ◌≤◌, ◌<◌}
use mathlib.Core.Path.{◌≡◌, refl, sym, ap, ◌∙◌}
use mathlib.Core.Bool.{Bool, true, false, cond, not}
use mathlib.Core.List.{List, [], ◌∷◌, ◌++◌, append-nil, append_assoc}
use native.Mathlib.Omega.{arith}
use lib.Dec.{leb, eqb}
use borrow.Author.Tests.{leb-false, ne_eqb, not-true}
use Rattle.text.proofs.TableRows.{decode_ascii}
use Rattle.text.proofs.Spaces.{all_below, below_passes}
use Rattle.text.proofs.Letters.{Letter, letter_told, none_is_not_some}
use Rattle.text.proofs.Encoding.{below_or_not}
use mathlib.Core.Logic.{⊎_elim}
use Rattle.buffer.proofs.Lists.{drop_step, drop_end}
use Rattle.text.specs.Space.{white_space, among, is_white_space}
use lib.ListN.{get_or, length, take, drop}
use lib.Seq.{drop-drop, take-add, append_snoc}
use Rattle.buffer.proofs.Choices.{then_is, else_is, true_is_not_false}
use Rattle.text.specs.Unicode.{encode, encode_all}
use Rattle.text.specs.Decoding.{decode_first, codes_in, letter_first}
use Rattle.text.specs.declared.utf8.Decoded.TheVariants.{Character}
use Rattle.text.proofs.Pieces.{character_bytes, character_some, character_fits}
use Rattle.text.proofs.Prefix.{codes_step, prefix_turn, encode_append}
use Rattle.words.specs.declared.role.Role.{Role}
use Rattle.words.specs.declared.role.Role.TheVariants.{Take, Escape, Toggle, Gap}
use Rattle.words.specs.declared.counting.Scan.{Scan}
use Rattle.words.specs.Tokens.{backslash, quote, role_of, tokens_from}
use Rattle.words.specs.Inner.{done_by, is_take, run_first, Reading, Run, WholeRun}
use Rattle.words.specs.Ordinary.{ordinary, ordinary_first}

codes_on : (line : List ℕ) (at code n : ℕ) → decode_first (drop at line) ≡ Character code n → codes_in (drop at line) ≡ code ∷ codes_in (drop (at + n) line)
codes_on line at code n d = codes_step (drop at line) code n d ∙ ap (λ (l : List ℕ). code ∷ codes_in l) (drop-drop n at line)

one_bytes : (code : ℕ) → encode_all (code ∷ []) ≡ encode code
unfolding encode_all
one_bytes code = append-nil (encode code)

-- what one character does
done_by_lem : (word rest : List ℕ) (quotes escaped : Bool) (code : ℕ) (t : Role) → role_of quotes escaped code ≡ t
    → tokens_from word quotes escaped (code ∷ rest) ≡ done_by t quotes word (code ∷ []) rest
unfolding tokens_from
done_by_lem word rest quotes escaped code Take e = rw e
done_by_lem word rest quotes escaped code Escape e = rw e
done_by_lem word rest quotes escaped code Toggle e = rw e
done_by_lem word rest quotes escaped code Gap e = rw e

pub reading_character : (line : List ℕ) (s : Scan) (code n : ℕ) (t : Role) → decode_first (drop s.at line) ≡ Character code n
    → role_of s.quotes s.escaped code ≡ t → Reading line s t n
reading_character line s code n t d e =
    record {
      run = code ∷ [];
      some = character_some (drop s.at line) code n d;
      fits = character_fits line s.at code n d;
      prefix = prefix_turn line s.at code n _ d refl;
      codes = codes_on line s.at code n d;
      bytes = character_bytes (drop s.at line) code n d ∙ sym (one_bytes code);
      does = λ word rest. done_by_lem word rest s.quotes s.escaped code t e;
    }

-- a run from a place to itself
pub run_start : (line : List ℕ) (start : ℕ) (quotes : Bool) → start ≤ length line → Run line start quotes start
unfolding run_first encode_all
run_start line start quotes h =
    let z : start - start ≡ 0 = omega arith in
    record {
      run = [];
      onward = omega arith;
      fits = h;
      prefix = refl;
      codes = refl;
      bytes = ap (λ (n : ℕ). take n (drop start line)) z;
      taken = refl;
    }

-- one run after another
runs_join : (quotes : Bool) (run more : List ℕ) → run_first quotes run ≡ run → run_first quotes more ≡ more → run_first quotes (run ++ more) ≡ run ++ more
unfolding run_first
runs_join quotes [] more h k = k
runs_join quotes (c ∷ run) more h k = by (is_take (role_of quotes false c)) h (runs_join quotes run more)
  where
    by : (t : Bool) → cond t (c ∷ run_first quotes run) [] ≡ c ∷ run → (run_first quotes run ≡ run → run_first quotes more ≡ more → run_first quotes (run ++ more) ≡ run ++ more)
        → cond t (c ∷ run_first quotes (run ++ more)) [] ≡ c ∷ (run ++ more)
    by true q ih = let l : run_first quotes run ≡ run = cc in ap (λ (x : List ℕ). c ∷ x) (ih l k)
    by false q ih = cc

pub run_on : (line : List ℕ) (start : ℕ) (quotes : Bool) (at end : ℕ) → Run line start quotes at → Run line at quotes end → Run line start quotes end
run_on line start quotes at end h k =
    let o = h.onward in
    let p = k.onward in
    let f = k.fits in
    let there : start + (at - start) ≡ at = omega arith in
    let size : end - start ≡ (at - start) + (end - at) = omega arith in
    record {
      run = h.run ++ k.run;
      onward = omega arith;
      fits = f;
      prefix = k.prefix ∙ h.prefix;
      codes = h.codes ∙ ap (λ (l : List ℕ). h.run ++ l) k.codes ∙ sym (append_assoc h.run k.run (codes_in (drop end line)));
      bytes =
          ap (λ (m : ℕ). take m (drop start line)) size
          ∙ take-add (at - start) (end - at) (drop start line)
          ∙ ap (λ (l : List ℕ). l ++ take (end - at) (drop (at - start) (drop start line))) h.bytes
          ∙ ap (λ (l : List ℕ). encode_all h.run ++ take (end - at) l) (drop-drop (at - start) start line ∙ ap (λ (m : ℕ). drop m line) there)
          ∙ ap (λ (l : List ℕ). encode_all h.run ++ l) k.bytes
          ∙ sym (encode_append h.run k.run);
      taken = runs_join quotes h.run k.run h.taken k.taken;
    }

-- one character is a run if it is taken
pub run_one : (line : List ℕ) (quotes : Bool) (at code n : ℕ) → decode_first (drop at line) ≡ Character code n → role_of quotes false code ≡ Take → Run line at quotes (at + n)
unfolding run_first
run_one line quotes at code n d e =
    let size : at + n - at ≡ n = omega arith in
    record {
      run = code ∷ [];
      onward = omega arith;
      fits = character_fits line at code n d;
      prefix = prefix_turn line at code n _ d refl;
      codes = codes_on line at code n d;
      bytes = ap (λ (m : ℕ). take m (drop at line)) size ∙ character_bytes (drop at line) code n d ∙ sym (one_bytes code);
      taken = then_is _ _ _ (ap is_take e);
    }

-- where a run ends: no character, one that is not taken, or the end of the line
pub run_stop : (quotes : Bool) (codes : List ℕ) → codes ≡ [] → run_first quotes codes ≡ []
unfolding run_first
run_stop quotes codes e = rw e

pub run_other : (line : List ℕ) (quotes : Bool) (at code n : ℕ) (t : Role) → decode_first (drop at line) ≡ Character code n → role_of quotes false code ≡ t
    → (t ≡ Take → ⊥) → run_first quotes (codes_in (drop at line)) ≡ []
unfolding run_first
run_other line quotes at code n Take d e k = absurd (k refl)
run_other line quotes at code n Escape d e k = rw (codes_on line at code n d, e)
run_other line quotes at code n Toggle d e k = rw (codes_on line at code n d, e)
run_other line quotes at code n Gap d e k = rw (codes_on line at code n d, e)

-- a run is taken whole
take_after : (quotes escaped : Bool) (code : ℕ) → is_take (role_of quotes false code) ≡ true → role_of quotes escaped code ≡ Take
unfolding role_of
take_after quotes true code h = refl
take_after quotes false code h = by (role_of quotes false code) h
  where
    by : (t : Role) → is_take t ≡ true → t ≡ Take
    by Take e = refl
    by Escape e = cc
    by Toggle e = cc
    by Gap e = cc

-- the first of a run is taken, and the others are a run
first_taken : (quotes : Bool) (c : ℕ) (run : List ℕ) → run_first quotes (c ∷ run) ≡ c ∷ run → (is_take (role_of quotes false c) ≡ true) × (run_first quotes run ≡ run)
unfolding run_first
first_taken quotes c run h = by (is_take (role_of quotes false c)) h
  where
    by : (t : Bool) → cond t (c ∷ run_first quotes run) [] ≡ c ∷ run → (t ≡ true) × (run_first quotes run ≡ run)
    by true q = (refl, cc)
    by false q = absurd (let z : ◌≡◌ {A = ℕ} 0 1 = cc in omega arith)

run_done : (word run rest : List ℕ) (quotes escaped : Bool) (c : ℕ) → run_first quotes (c ∷ run) ≡ c ∷ run
    → tokens_from word quotes escaped ((c ∷ run) ++ rest) ≡ tokens_from (word ++ (c ∷ run)) quotes false rest
run_done word [] rest quotes escaped c h = done_by_lem word rest quotes escaped c Take (take_after quotes escaped c (first_taken quotes c [] h).0)
run_done word (d ∷ run) rest quotes escaped c h =
    let k = first_taken quotes c (d ∷ run) h in
    done_by_lem word ((d ∷ run) ++ rest) quotes escaped c Take (take_after quotes escaped c k.0)
    ∙ run_done (word ++ (c ∷ [])) run rest quotes false d k.1
    ∙ ap (λ (l : List ℕ). tokens_from l quotes false rest) (append_snoc word c (d ∷ run))

run_does : (run : List ℕ) (quotes : Bool) → run_first quotes run ≡ run → (word rest : List ℕ)
    → tokens_from word quotes false (run ++ rest) ≡ tokens_from (word ++ run) quotes false rest
run_does [] quotes h word rest = ap (λ (l : List ℕ). tokens_from l quotes false rest) (sym (append-nil word))
run_does (c ∷ run) quotes h word rest = run_done word run rest quotes false c h

-- a character that is taken, and the run after it
pub reading_on : (line : List ℕ) (s : Scan) (n end : ℕ) → Reading line s Take n → WholeRun line (s.at + n) s.quotes end → Reading line s Take (end - s.at)
reading_on line s n end h w =
    let r = w.reached in
    let f = r.fits in
    let o = r.onward in
    let k = h.some in
    let there : s.at + (end - s.at) ≡ end = omega arith in
    let size : end - s.at ≡ n + (end - (s.at + n)) = omega arith in
    let beyond : List ℕ = codes_in (drop end line) in
    record {
      run = h.run ++ r.run;
      some = omega arith;
      fits = omega arith;
      prefix = rw there (r.prefix ∙ h.prefix);
      codes =
          rw there
          (h.codes ∙ ap (λ (l : List ℕ). h.run ++ l) r.codes ∙ sym (append_assoc h.run r.run beyond));
      bytes =
          ap (λ (m : ℕ). take m (drop s.at line)) size
          ∙ take-add n (end - (s.at + n)) (drop s.at line)
          ∙ ap (λ (l : List ℕ). l ++ take (end - (s.at + n)) (drop n (drop s.at line))) h.bytes
          ∙ ap (λ (l : List ℕ). encode_all h.run ++ take (end - (s.at + n)) l) (drop-drop n s.at line)
          ∙ ap (λ (l : List ℕ). encode_all h.run ++ l) r.bytes
          ∙ sym (encode_append h.run r.run);
      does = λ word rest.
          ap (tokens_from word s.quotes s.escaped) (append_assoc h.run r.run rest)
          ∙ h.does word (r.run ++ rest)
          ∙ run_does r.run s.quotes r.taken (word ++ h.run) rest
          ∙ ap (λ (l : List ℕ). tokens_from l s.quotes false rest) (append_assoc word h.run r.run);
    }

-- an ordinary byte is an ASCII character
small : (b : ℕ) → ordinary b ≡ true → b < 0x80
unfolding ordinary
small b h = by (leb b 0x20) (leb 0x7F b) refl h
  where
    by : (t u : Bool) → leb 0x7F b ≡ u → cond t false (cond u false (cond (eqb b quote) false (not (eqb b backslash)))) ≡ true → b < 0x80
    by true u e q = absurd (true_is_not_false (sym q))
    by false true e q = absurd (true_is_not_false (sym q))
    by false false e q = let k = leb-false 0x7F b e in omega arith

implied : (a b : Bool) → cond a b true ≡ true → a ≡ true → b ≡ true
implied true b e h = e
implied false b e h = cc

-- an ordinary character: neither `\` nor `"` nor white space
pub record Ordinary (s : List ℕ) (n : ℕ) : Type 0 where
  pub code : ℕ
  pub decodes : decode_first s ≡ Character code n
  pub no_escape : eqb code backslash ≡ false
  pub no_quote : eqb code quote ≡ false
  pub solid : is_white_space code ≡ false

-- what no ordinary byte is
never : (f : ℕ → Bool) (b : ℕ) → all_below (λ n. cond (ordinary n) (not (f n)) true) 0x80 ≡ true → ordinary b ≡ true → f b ≡ false
never f b h k = not-true (f b) (implied (ordinary b) (not (f b)) (below_passes (λ n. cond (ordinary n) (not (f n)) true) 0x80 b h (small b k)) k)

ordinary_byte : (s : List ℕ) (at : ℕ) → at < length s → ordinary (get_or s at 0) ≡ true → Ordinary (drop at s) 1
unfolding ordinary is_white_space white_space among
ordinary_byte s at h k =
    record {
      code = get_or s at 0;
      decodes = decode_ascii s at h (small (get_or s at 0) k);
      no_escape = never (λ n. eqb n backslash) (get_or s at 0) refl k;
      no_quote = never (λ n. eqb n quote) (get_or s at 0) refl k;
      solid = never is_white_space (get_or s at 0) refl k;
    }

ordinary_letter : (s : List ℕ) (n : ℕ) → Letter s n → Ordinary s n
ordinary_letter s n l =
    let p = l.past in
    record {
      code = l.code;
      decodes = l.decodes;
      no_escape = ne_eqb l.code backslash (λ e. omega arith);
      no_quote = ne_eqb l.code quote (λ e. omega arith);
      solid = l.solid;
    }

-- the ordinary character at a place
pub ordinary_end : (s : List ℕ) (at : ℕ) → length s ≤ at → ordinary_first (drop at s) ≡ None
unfolding ordinary_first
ordinary_end s at h = rw (drop_end s at h)

pub ordinary_is : (s : List ℕ) (at : ℕ) (t : Bool) → at < length s → ordinary (get_or s at 0) ≡ t → ordinary_first (drop at s) ≡ cond t (Some 1) (letter_first (drop at s))
unfolding ordinary_first
ordinary_is s at t h e = rw (drop_step s at 0 h, e)

pub ordinary_told : (s : List ℕ) (at n : ℕ) → Some n ≡ ordinary_first (drop at s) → Ordinary (drop at s) n
ordinary_told s at n e = ⊎_elim (λ (h : at < length s). by h (ordinary (get_or s at 0)) refl) (λ (h : length s ≤ at). absurd (none_is_not_some n (sym (e ∙ ordinary_end s at h)))) (below_or_not at (length s))
  where
    by : at < length s → (t : Bool) → ordinary (get_or s at 0) ≡ t → Ordinary (drop at s) n
    by h true k = let one : Some n ≡ Some 1 = e ∙ ordinary_is s at true h k in let same : n ≡ 1 = cc in rw same (ordinary_byte s at h k)
    by h false k = ordinary_letter (drop at s) n (letter_told (drop at s) n (sym (e ∙ ordinary_is s at false h k)))

-- it is taken, inside quotes or not
takes : (quotes : Bool) (s : List ℕ) (n : ℕ) (o : Ordinary s n) → role_of quotes false o.code ≡ Take
unfolding role_of
takes true s n o = else_is _ _ _ o.no_escape ∙ else_is _ _ _ o.no_quote
takes false s n o = else_is _ _ _ o.no_escape ∙ else_is _ _ _ o.no_quote ∙ else_is _ _ _ o.solid

pub run_ordinary : (line : List ℕ) (start : ℕ) (quotes : Bool) (at n : ℕ) → Run line start quotes at → Ordinary (drop at line) n → Run line start quotes (at + n)
run_ordinary line start quotes at n r o =
    run_on line start quotes at (at + n) r (run_one line quotes at o.code n o.decodes (takes quotes (drop at line) n o))

pub ordinary_fits : (line : List ℕ) (at n : ℕ) → Some n ≡ ordinary_first (drop at line) → at + n ≤ length line
ordinary_fits line at n e = let o = ordinary_told line at n e in character_fits line at o.code n o.decodes

pub ordinary_some : (line : List ℕ) (at n : ℕ) → Some n ≡ ordinary_first (drop at line) → 0 < n
ordinary_some line at n e = let o = ordinary_told line at n e in character_some (drop at line) o.code n o.decodes
