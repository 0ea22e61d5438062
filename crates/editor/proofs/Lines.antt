-- Laws of the line: what a good editor holds, and a byte put in or taken out step by step.
use Prim.Native.Nat.{ℕ, ◌+◌, ◌-◌, ◌<◌, ◌≤◌}
use mathlib.Core.Path.{◌≡◌, refl, sym, ap, ◌∙◌}
use mathlib.Core.Bool.{Bool, true, false, cond}
use mathlib.Core.List.{List, [], ◌∷◌, ◌++◌, map, append_assoc}
use native.Mathlib.Omega.{arith}
use native.Mathlib.Numerals.{add-one}
use lib.Dec.{leb, eqb}
use lib.ListN.{length, take, drop, set, get_or, replicate, length-append, length-take, length-drop, take-append-drop, length-map}
use lib.Seq.{take_all, take-suc, take-append_seam, take-append-le, drop-append-le, take_at, drop-append-add, length-take-le, set_at}
use Rattle.std.specs.List.{copy_within}
use borrow.Author.Tests.{leb-true, le-leb, lt-leb}
use Rattle.buffer.proofs.Choices.{then_is, else_is}
use Rattle.buffer.proofs.Lists.{drop_step}
use Rattle.buffer.proofs.Ordering.{same_is, same_after}
use Rattle.buffer.specs.Compare.{same_bytes}
use Rattle.buffer.specs.Greatest.{greatest}
use Rattle.text.specs.Decoding.{well_formed}
use Rattle.buffer.specs.Lend.{zeros}
use Rattle.buffer.proofs.Zeros.{length_zeros}
use Rattle.buffer.proofs.Zeros.{drop_zeros}
use Rattle.buffer.proofs.Zeros.{zero_bytes}
use Rattle.history.proofs.States.{holds}
use Rattle.keys.specs.declared.standing.Profile.{Profile}
use Rattle.keys.specs.declared.standing.Mode.{Mode}
use Rattle.editor.specs.declared.line.Editor.{Editor}
use Rattle.editor.specs.Line.{limit, padded, holding, line_of, good_line, inserted, erased, content}

pub below_limit : (n : ℕ) → n < limit → n < 255
unfolding limit
below_limit n h = h

pub within_limit : (n : ℕ) → n ≤ limit → n ≤ 255
unfolding limit
within_limit n h = h

padded_is : (l : List ℕ) → padded l ≡ l ++ zeros (255 - length l)
unfolding padded limit
padded_is l = refl

pub length_padded : (l : List ℕ) → length l ≤ 255 → length (padded l) ≡ 255
length_padded l h =
    ap length (padded_is l) ∙ (let a = length-append l (zeros (255 - length l)) in let z = length_zeros (255 - length l) in omega arith)

-- the array of a line, as the checker tells its length
pub whole_line : (l : List ℕ) → length (map (λ (x : ℕ). x) l) ≡ 255 → length l ≡ 255
whole_line l h = sym (length-map l (λ (x : ℕ). x)) ∙ h

-- what an editor holds that holds a line
pub line_held : (l : List ℕ) (cursor : ℕ) (mode : Mode) (profile : Profile) → line_of (holding l cursor mode profile) ≡ l
unfolding line_of holding padded
line_held l cursor mode profile = take-append_seam l (zeros (limit - length l))

-- the rules of a line, one by one
pub record GoodLine (e : Editor) : Type 0 where
  pub short : e.length ≤ 255
  pub within : e.cursor ≤ e.length
  pub laid : padded (line_of e) ≡ e.line

pub good_line_lem : (e : Editor) → good_line e ≡ true → GoodLine e
unfolding good_line limit
good_line_lem e h =
    let a = holds (leb e.length 255) _ h in
    let b = holds (leb e.cursor e.length) _ a.1 in
    record { short = leb-true _ _ a.0; within = leb-true _ _ b.0; laid = same_is _ _ b.1 }

length_line : (e : Editor) → length (line_of e) ≤ e.length
unfolding line_of
length_line e = let l = length-take e.length e.line in omega arith

line_length : (e : Editor) → e.length ≤ length e.line → length (line_of e) ≡ e.length
unfolding line_of
line_length e h = length-take-le e.length e.line h

pub length_of_lem : (e : Editor) → GoodLine e → (length e.line ≡ 255) × (length (line_of e) ≡ e.length)
length_of_lem e g =
    let s = g.short in
    let m = length_line e in
    let all : length e.line ≡ 255 = ap length (sym g.laid) ∙ length_padded (line_of e) (omega arith) in
    (all, line_length e (omega arith))

-- an editor is what holds its line
abbrev pub editor : List ℕ → ℕ → ℕ → Mode → Profile → Editor
editor l n cursor mode profile = record { line = l; length = n; cursor = cursor; mode = mode; profile = profile }

pub same_editor : (l l' : List ℕ) (n n' cursor : ℕ) (mode : Mode) (profile : Profile) → l ≡ l' → n ≡ n' → editor l n cursor mode profile ≡ editor l' n' cursor mode profile
same_editor l l' n n' cursor mode profile p q = ap (λ (x : List ℕ). editor x n cursor mode profile) p ∙ ap (λ (m : ℕ). editor l' m cursor mode profile) q

pub held_line : (e : Editor) → GoodLine e → holding (line_of e) e.cursor e.mode e.profile ≡ e
unfolding holding
held_line e g = same_editor _ _ _ _ e.cursor e.mode e.profile g.laid (length_of_lem e g).1

pub line_split : (e : Editor) → line_of e ++ drop e.length e.line ≡ e.line
unfolding line_of
line_split e = take-append-drop e.length e.line

-- the tests of a line, in their order
pub too_long : (e : Editor) → 255 < e.length → good_line e ≡ false
unfolding good_line limit
too_long e h = else_is _ _ _ (lt-leb _ _ h)

pub past_end : (e : Editor) → e.length ≤ 255 → e.length < e.cursor → good_line e ≡ false
unfolding good_line limit
past_end e h k = then_is _ _ _ (le-leb _ _ h) ∙ else_is _ _ _ (lt-leb _ _ k)

-- zeros after the line are all that is left to test
pub zeros_after : (e : Editor) (n : ℕ) → length e.line ≡ 255 → e.length ≤ 255 → e.cursor ≤ e.length → n ≡ greatest (take (255 - e.length) (drop e.length e.line))
    → eqb n 0 ≡ good_line e
unfolding good_line limit
zeros_after e n l h k g =
    ap (λ (m : ℕ). eqb m 0) (g ∙ ap greatest (take_all (255 - e.length) (drop e.length e.line) (let d = length-drop e.length e.line in omega arith)))
    ∙ sym (zero_bytes (drop e.length e.line))
    ∙ rest
    ∙ sym (then_is _ _ _ (le-leb _ _ h) ∙ then_is _ _ _ (le-leb _ _ k))
  where
    size : length (line_of e) ≡ e.length
    size = line_length e (omega arith)

    gap : length (drop e.length e.line) ≡ 255 - length (line_of e)
    gap = let d = length-drop e.length e.line in let s = size in omega arith

    rest : same_bytes (zeros (length (drop e.length e.line))) (drop e.length e.line) ≡ same_bytes (padded (line_of e)) e.line
    rest =
        ap (λ (m : ℕ). same_bytes (zeros m) (drop e.length e.line)) gap
        ∙ sym (same_after (line_of e) (zeros (255 - length (line_of e))) (drop e.length e.line))
        ∙ ap (λ (x : List ℕ). same_bytes x (line_of e ++ drop e.length e.line)) (sym (padded_is (line_of e)))
        ∙ ap (same_bytes (padded (line_of e))) (line_split e)

-- no line has room for any, and a text written over it is one
pub blank_room : (e : Editor) (n : ℕ) (mode : Mode) (profile : Profile) → e ≡ holding [] 0 mode profile → n ≤ limit → n ≤ length e.line
unfolding holding limit
blank_room e n mode profile q h =
    let size : length e.line ≡ 255 = ap (λ (x : Editor). length x.line) q ∙ length_padded [] (omega arith) in
    omega arith

pub text_held : (e : Editor) (text part : List ℕ) (mode : Mode) (profile : Profile) → length text ≤ 255 → e ≡ holding [] 0 mode profile → part ≡ text
    → editor (part ++ drop (length text) e.line) (length text) (length text) mode profile ≡ holding text (length text) mode profile
unfolding holding padded limit
text_held e text part mode profile h q w =
    ap (λ (x : List ℕ). editor x (length text) (length text) mode profile)
    (ap (λ (x : List ℕ). x ++ drop (length text) e.line) w
    ∙ ap (λ (x : Editor). text ++ drop (length text) x.line) q
    ∙ ap (λ (x : List ℕ). text ++ x) (drop_zeros (length text) 255))

pub length_inserted : (l : List ℕ) (cursor byte : ℕ) → cursor ≤ length l → length (inserted l cursor byte) ≡ length l + 1
unfolding inserted
length_inserted l cursor byte h =
    let a = length-append (take cursor l) (byte ∷ drop cursor l) in
    let b = length-take-le cursor l h in
    let d = length-drop cursor l in
    omega arith

-- the line of a good editor, with its zeros
pub full_line : (e : Editor) → GoodLine e → e.line ≡ line_of e ++ zeros (255 - e.length)
full_line e g = sym g.laid ∙ padded_is (line_of e) ∙ ap (λ (n : ℕ). line_of e ++ zeros (255 - n)) (length_of_lem e g).1

-- the bytes from a place on, where they are moved from
tail_read : (l : List ℕ) (k cursor : ℕ) → cursor ≤ length l → take (length l - cursor) (drop cursor (l ++ zeros k)) ≡ drop cursor l
tail_read l k cursor h =
    ap (take (length l - cursor)) (drop-append-le cursor l (zeros k) h) ∙ take_at (drop cursor l) (zeros k) (length l - cursor) (length-drop cursor l)

-- a byte put in: what stood there and after it has moved on
insert_whole : (l : List ℕ) (k cursor byte : ℕ) → cursor ≤ length l → 0 < k
    → set (copy_within (l ++ zeros k) cursor (length l) (cursor + 1)) cursor byte ≡ inserted l cursor byte ++ zeros (k - 1)
unfolding inserted
insert_whole l k cursor byte h some =
    let full : List ℕ = l ++ zeros k in
    let n : ℕ = length l - cursor in
    let z = length_zeros k in
    let all = length-append l (zeros k) in
    let front : length (take cursor l) ≡ cursor = length-take-le cursor l h in
    let head : take (cursor + 1) full ≡ take cursor l ++ (get_or full cursor 0 ∷ []) =
    ap (λ (i : ℕ). take i full) (add-one cursor)
    ∙ take-suc full cursor 0 (omega arith)
    ∙ ap (λ (x : List ℕ). x ++ (get_or full cursor 0 ∷ [])) (take-append-le cursor l (zeros k) h)
    in
    let end : cursor + 1 + n ≡ length l + 1 = omega arith in
    let rest : drop (cursor + 1 + n) full ≡ zeros (k - 1) = ap (λ (i : ℕ). drop i full) end ∙ drop-append-add l (zeros k) 1 ∙ drop_zeros 1 k in
    let tail : List ℕ = drop cursor l ++ zeros (k - 1) in
    ap (λ (x : List ℕ). set ((take (cursor + 1) full ++ x) ++ drop (cursor + 1 + n) full) cursor byte) (tail_read l k cursor h)
    ∙ ap (λ (x : List ℕ). set ((take (cursor + 1) full ++ drop cursor l) ++ x) cursor byte) rest
    ∙ ap (λ (x : List ℕ). set ((x ++ drop cursor l) ++ zeros (k - 1)) cursor byte) head
    ∙ ap (λ (x : List ℕ). set x cursor byte)
    (append_assoc (take cursor l ++ (get_or full cursor 0 ∷ [])) (drop cursor l) (zeros (k - 1)) ∙ append_assoc (take cursor l) (get_or full cursor 0 ∷ []) tail)
    ∙ set_at (take cursor l) (get_or full cursor 0) tail byte cursor front
    ∙ sym (append_assoc (take cursor l) (byte ∷ drop cursor l) (zeros (k - 1)))

pub insert_held : (e : Editor) (byte : ℕ) (now : List ℕ) → GoodLine e → e.length < 255 → now ≡ copy_within e.line e.cursor e.length (e.cursor + 1)
    → editor (set now e.cursor byte) (e.length + 1) (e.cursor + 1) e.mode e.profile ≡ holding (inserted (line_of e) e.cursor byte) (e.cursor + 1) e.mode e.profile
unfolding holding
insert_held e byte now g room q =
    let l : List ℕ = line_of e in
    let n = (length_of_lem e g).1 in
    let w = g.within in
    let c : e.cursor ≤ length l = omega arith in
    let size : length (inserted l e.cursor byte) ≡ length l + 1 = length_inserted l e.cursor byte c in
    let gap : 255 - e.length - 1 ≡ 255 - length (inserted l e.cursor byte) = omega arith in
    let long : e.length + 1 ≡ length (inserted l e.cursor byte) = omega arith in
    let whole : e.length ≡ length l = omega arith in
    same_editor (set now e.cursor byte) (padded (inserted l e.cursor byte)) _ _ (e.cursor + 1) e.mode e.profile
    (ap (λ (x : List ℕ). set x e.cursor byte)
    (q
    ∙ ap (λ (x : List ℕ). copy_within x e.cursor e.length (e.cursor + 1)) (full_line e g)
    ∙ ap (λ (i : ℕ). copy_within (l ++ zeros (255 - e.length)) e.cursor i (e.cursor + 1)) whole)
    ∙ insert_whole l (255 - e.length) e.cursor byte c (omega arith)
    ∙ ap (λ (j : ℕ). inserted l e.cursor byte ++ zeros j) gap
    ∙ sym (padded_is (inserted l e.cursor byte)))
    long

pub length_erased : (l : List ℕ) (cursor : ℕ) → 0 < cursor → cursor ≤ length l → length (erased l cursor) ≡ length l - 1
unfolding erased
length_erased l cursor h m =
    let a = length-append (take (cursor - 1) l) (drop cursor l) in
    let b = length-take-le (cursor - 1) l (omega arith) in
    let d = length-drop cursor l in
    omega arith

zero_more : (k : ℕ) → 0 ∷ zeros k ≡ zeros (k + 1)
unfolding zeros
zero_more k = ap (λ (n : ℕ). replicate n 0) (sym (add-one k))

-- a byte taken out: what stood after it has moved back, and the last byte is given up
erase_whole : (l : List ℕ) (k cursor : ℕ) → 0 < cursor → cursor ≤ length l
    → set (copy_within (l ++ zeros k) cursor (length l) (cursor - 1)) (length l - 1) 0 ≡ erased l cursor ++ zeros (k + 1)
unfolding erased
erase_whole l k cursor h m =
    let full : List ℕ = l ++ zeros k in
    let n : ℕ = length l - cursor in
    let last : ℕ = length l - 1 in
    let all = length-append l (zeros k) in
    let x : List ℕ = take (cursor - 1) l ++ drop cursor l in
    let size : length x ≡ last = length_erased l cursor h m in
    let end : cursor - 1 + n ≡ last = omega arith in
    let next : last + 1 ≡ length l + 0 = omega arith in
    let rest : drop (last + 1) full ≡ zeros k = ap (λ (i : ℕ). drop i full) next ∙ drop-append-add l (zeros k) 0 in
    ap (λ (y : List ℕ). set ((y ++ take n (drop cursor full)) ++ drop (cursor - 1 + n) full) last 0) (take-append-le (cursor - 1) l (zeros k) (omega arith))
    ∙ ap (λ (y : List ℕ). set ((take (cursor - 1) l ++ y) ++ drop (cursor - 1 + n) full) last 0) (tail_read l k cursor m)
    ∙ ap (λ (y : List ℕ). set (x ++ y) last 0) (ap (λ (i : ℕ). drop i full) end ∙ drop_step full last 0 (omega arith))
    ∙ set_at x (get_or full last 0) (drop (last + 1) full) 0 last size
    ∙ ap (λ (y : List ℕ). x ++ (0 ∷ y)) rest
    ∙ ap (λ (y : List ℕ). x ++ y) (zero_more k)

pub erase_held : (e : Editor) (now : List ℕ) → GoodLine e → 0 < e.cursor → now ≡ copy_within e.line e.cursor e.length (e.cursor - 1)
    → editor (set now (e.length - 1) 0) (e.length - 1) (e.cursor - 1) e.mode e.profile ≡ holding (erased (line_of e) e.cursor) (e.cursor - 1) e.mode e.profile
unfolding holding
erase_held e now g h q =
    let l : List ℕ = line_of e in
    let n = (length_of_lem e g).1 in
    let w = g.within in
    let sh = g.short in
    let c : e.cursor ≤ length l = omega arith in
    let size : length (erased l e.cursor) ≡ length l - 1 = length_erased l e.cursor h c in
    let gap : 255 - e.length + 1 ≡ 255 - length (erased l e.cursor) = omega arith in
    let long : e.length - 1 ≡ length (erased l e.cursor) = omega arith in
    let whole : e.length ≡ length l = omega arith in
    same_editor (set now (e.length - 1) 0) (padded (erased l e.cursor)) _ _ (e.cursor - 1) e.mode e.profile
    (ap (λ (x : List ℕ). set x (e.length - 1) 0)
    (q ∙ ap (λ (x : List ℕ). copy_within x e.cursor e.length (e.cursor - 1)) (full_line e g))
    ∙ ap (λ (i : ℕ). set (copy_within (l ++ zeros (255 - e.length)) e.cursor i (e.cursor - 1)) (i - 1) 0) whole
    ∙ erase_whole l (255 - e.length) e.cursor h c
    ∙ ap (λ (j : ℕ). erased l e.cursor ++ zeros j) gap
    ∙ sym (padded_is (erased l e.cursor)))
    long

-- what is shown of a line is no longer than the line
pub content_short : (l : List ℕ) → length (content l) ≤ length l
unfolding content
content_short l = by (well_formed l)
  where
    by : (t : Bool) → length (cond t l []) ≤ length l
    by true = omega arith
    by false = omega arith

pub line_short : (e : Editor) (n : ℕ) → e.length ≤ n → length (content (line_of e)) ≤ n
line_short e n h = let a = content_short (line_of e) in let b = length_line e in omega arith
