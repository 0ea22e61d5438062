-- Laws of a list of rows: one frame's row, then the rows of the frames after it; a row is at most 64 times as long as its frame.
use Prim.Native.Nat.{ℕ, ◌+◌, ◌*◌, ◌<◌, ◌≤◌}
use mathlib.Core.Path.{◌≡◌, refl, sym, ap, ◌∙◌}
use mathlib.Core.Bool.{Bool, true, false, cond}
use mathlib.Core.List.{List, [], ◌++◌}
use native.Mathlib.Omega.{arith}
use lib.Dec.{eqb}
use borrow.Author.Tests.{eq-eqb, ne_eqb}
use lib.ListN.{length, drop, length-append, length-drop}
use lib.Seq.{drop-drop}
use Rattle.buffer.proofs.Lists.{drop_end}
use Rattle.buffer.specs.Numbers.{Bytes}
use Rattle.buffer.proofs.Numbers.{bytes_drop}
use Rattle.image.specs.Frames.{Perhaps, absent, present, Frame, node, option, flag, text, perhaps, encode_frame}
use Rattle.image.specs.Reading.{Read, read, broken, ended, read_first}
use Rattle.image.proofs.Encoding.{length_text, read_within, read_size}
use Rattle.tree.specs.Images.{frames_of}
use Rattle.tree.proofs.Items.{frames_read}
use Rattle.lookup.proofs.Seeks.{frames_broken, frames_ended, frames_none}
use Rattle.buffer.specs.Ascii.{ascii}
use Rattle.buffer.specs.Inks.{Inked, InkedFrom, Countable}
use Rattle.buffer.proofs.Inking.{inked_nothing, inked_both, inked_as, cond_most}
use Rattle.rows.specs.Rows.{blanks, padded, short_then, shown_as, required_mark, entry, option_row, flag_row, node_row, row_of, ends_list, rows, titled}
use Rattle.std.specs.Prelude.{Some, None}
use Rattle.rows.specs.Inner.{row_by, size_by}
use Rattle.rows.specs.declared.row.Listing.{Listing}
use Rattle.rows.specs.declared.row.Listing.TheVariants.{Options, Flags, Subcommands, Commands}
use Rattle.rows.proofs.OneRow.{blanks_length}

-- how long each part of a row is at most
unfoldable pub perhaps_length : Perhaps → ℕ
perhaps_length absent = 0
perhaps_length (present t) = length t

perhaps_length_lem : (x : Perhaps) → length (perhaps x) ≡ 1 + perhaps_length x
unfolding perhaps perhaps_length
perhaps_length_lem absent = refl
perhaps_length_lem (present t) = length_text t

short_most : (c : ℕ) (tail : List ℕ) → length (short_then c tail) ≤ 2 + length tail
unfolding short_then ascii
short_most c tail = cond_most (eqb c 0) _ _ _ (omega arith) (omega arith)

shown_most : (c : ℕ) (n : List ℕ) (x : Perhaps) → length (shown_as c n x) ≤ 6 + length n + perhaps_length x
unfolding shown_as perhaps_length ascii
shown_most c n absent = let s = short_most c [] in cond_most (eqb c 0) _ _ _ (omega arith) (omega arith)
shown_most c n (present t) =
    let s = short_most c (ascii ", ") in
    let a = length-append (short_then c (ascii ", ") ++ ascii "--") t in
    let b = length-append (short_then c (ascii ", ")) (ascii "--") in
    omega arith

entry_most : (indent : List ℕ) (w : ℕ) (label ds : List ℕ) → w ≤ 20 → length (entry indent w label ds) ≤ 21 + length indent + length label + length ds
unfolding entry padded ascii
entry_most indent w label ds h =
    let a = length-append (indent ++ (label ++ blanks w (length label)) ++ ascii " ") ds in
    let b = length-append (indent ++ (label ++ blanks w (length label))) (ascii " ") in
    let d = length-append indent (label ++ blanks w (length label)) in
    let e = length-append label (blanks w (length label)) in
    let f = blanks_length w (length label) in
    omega arith

pub node_most : (indent : List ℕ) (w : ℕ) (n ds : List ℕ) → w ≤ 20 → length (node_row indent w n ds) ≤ 22 + length indent + length n + length ds
unfolding node_row ascii
node_most indent w n ds h = let a = length-append (entry indent w n ds) (ascii "\n") in let e = entry_most indent w n ds h in omega arith

node_long : (d h : ℕ) (n ds : List ℕ) (u : Perhaps) → 6 + length n + length ds ≤ length (encode_frame (node d h n ds u))
unfolding encode_frame
node_long d h n ds u =
    let a = length-append (text n ++ text ds) (perhaps u) in
    let b = length-append (text n) (text ds) in
    let c = length_text n in
    let e = length_text ds in
    omega arith

definition_long : (n : List ℕ) (x : Perhaps) (ds : List ℕ) → 3 + length n + perhaps_length x + length ds ≤ length (text n ++ perhaps x ++ text ds)
definition_long n x ds =
    let a = length-append (text n ++ perhaps x) (text ds) in
    let b = length-append (text n) (perhaps x) in
    let c = length_text n in
    let e = length_text ds in
    let f = perhaps_length_lem x in
    omega arith

pub definition_most : (c : ℕ) (n : List ℕ) (x : Perhaps) (ds : List ℕ) → length (entry (ascii "  ") 20 (shown_as c n x) ds) ≤ 29 + length n + perhaps_length x + length ds
unfolding ascii
definition_most c n x ds = let e = entry_most (ascii "  ") 20 (shown_as c n x) ds (omega arith) in let s = shown_most c n x in omega arith

option_most : (r c : ℕ) (n : List ℕ) (x : Perhaps) (ds : List ℕ) → length (option_row r c n x ds) ≤ 64 * length (encode_frame (option r c n x ds))
unfolding option_row required_mark ascii encode_frame
option_most r c n x ds =
    let e : List ℕ = entry (ascii "  ") 20 (shown_as c n x) ds in
    let a = length-append (e ++ cond (eqb r 1) (ascii " (required)") []) (ascii "\n") in
    let b = length-append e (cond (eqb r 1) (ascii " (required)") []) in
    let m = cond_most (eqb r 1) (ascii " (required)") [] 11 (omega arith) (omega arith) in
    let k = definition_most c n x ds in
    let l = definition_long n x ds in
    omega arith

flag_most : (c : ℕ) (n : List ℕ) (x : Perhaps) (ds : List ℕ) → length (flag_row c n x ds) ≤ 64 * length (encode_frame (flag c n x ds))
unfolding flag_row ascii encode_frame
flag_most c n x ds =
    let a = length-append (entry (ascii "  ") 20 (shown_as c n x) ds) (ascii "\n") in
    let k = definition_most c n x ds in
    let l = definition_long n x ds in
    omega arith

row_most : (k : Listing) (f : Frame) → length (row_of k f) ≤ 64 * length (encode_frame f)
unfolding ascii
row_most Options (node d h n ds u) = omega arith
row_most Options (option r c n x ds) = option_most r c n x ds
row_most Options (flag c n x ds) = omega arith
row_most Flags (node d h n ds u) = omega arith
row_most Flags (option r c n x ds) = omega arith
row_most Flags (flag c n x ds) = flag_most c n x ds
row_most (Subcommands e) (node d h n ds u) =
    let l = node_long d h n ds u in
    let a = node_most (ascii "  ") 20 n ds (omega arith) in
    cond_most (eqb d e) _ _ _ (omega arith) (omega arith)
row_most (Subcommands e) (option r c n x ds) = omega arith
row_most (Subcommands e) (flag c n x ds) = omega arith
row_most Commands (node d h n ds u) =
    let l = node_long d h n ds u in
    let a = node_most (ascii "  ") 15 n ds (omega arith) in
    let b = node_most (ascii "    ") 13 n ds (omega arith) in
    cond_most (eqb d 0) _ _ _ (omega arith) (cond_most (eqb d 1) _ _ _ (omega arith) (omega arith))
row_most Commands (option r c n x ds) = omega arith
row_most Commands (flag c n x ds) = omega arith

none_some : (n : ℕ) → None ≡ Some n → ⊥
none_some n e = let z : ◌≡◌ {A = ℕ} 0 1 = cc in omega arith

module _ (listing : Listing) (s : List ℕ) where
  -- the list ends here
  pub rows_stop : size_by listing (read_first s) ≡ None → rows listing (frames_of s) ≡ []
  unfolding rows
  rows_stop z = by (read_first s) refl z
    where
      choose : (t : Bool) (n : ℕ) (l : List ℕ) → cond t None (Some n) ≡ None → cond t [] l ≡ []
      choose true n l e = refl
      choose false n l e = cc

      by : (x : Read) → read_first s ≡ x → size_by listing x ≡ None → rows listing (frames_of s) ≡ []
      by (read f n) q e = rw (frames_read s f n q) (choose (ends_list listing f) n _ e)
      by broken q e = rw (frames_broken s q)
      by ended q e = rw (frames_ended s q)

  -- a frame, and those after it
  pub record RowAt (size : ℕ) : Type 0 where
    pub some : 0 < size
    pub fits : size ≤ length s
    pub short : length (row_by listing (read_first s)) ≤ 64 * size
    pub goes_on_lem : rows listing (frames_of s) ≡ row_by listing (read_first s) ++ rows listing (frames_of (drop size s))

  pub row_at : (size : ℕ) → Bytes s → size_by listing (read_first s) ≡ Some size → RowAt size
  unfolding rows
  row_at size b e = by (read_first s) refl e
    where
      choose : (t : Bool) (m : ℕ) (l : List ℕ) → cond t None (Some m) ≡ Some size → (m ≡ size) × (cond t [] l ≡ l)
      choose true m l k = (cc, cc)
      choose false m l k = (cc, refl)

      by : (x : Read) → read_first s ≡ x → size_by listing x ≡ Some size → RowAt size
      by (read f m) q k =
          let w = read_within s f m q in
          let c = choose (ends_list listing f) m (row_of listing f ++ rows listing (frames_of (drop m s))) k in
          let is : m ≡ size = c.0 in
          let l = read_size s f m b q in
          let r = row_most listing f in
          record {
            some = omega arith;
            fits = omega arith;
            short = rw q (omega arith);
            goes_on_lem = rw (frames_read s f m q, q) (c.1 ∙ rw is);
          }
      by broken q k = absurd (none_some size k)
      by ended q k = absurd (none_some size k)

-- a list on its way: whoever writes the rows of the frames that are left has written them all
pub record OnWay (listing : Listing) (frames out₀ : List ℕ) (at : ℕ) (out : List ℕ) (place end : ℕ) : Type 0 where
  pub within : place ≤ length frames
  pub size : length out ≡ length out₀
  pub most : end ≤ at + 64 * place
  pub finish : (r : ℕ) (left : List ℕ) → Inked (rows listing (frames_of (drop place frames))) out end r left → Inked (rows listing (frames_of frames)) out₀ at r left

module _ (listing : Listing) (frames out₀ : List ℕ) (at : ℕ) where
  pub sets_out : OnWay listing frames out₀ at out₀ 0 at
  sets_out = record { within = omega arith; size = refl; most = omega arith; finish = λ r left a. a }

  module _ (out : List ℕ) (place end : ℕ) (way : OnWay listing frames out₀ at out place end) where
    ends : rows listing (frames_of (drop place frames)) ≡ [] → InkedFrom frames (rows listing (frames_of frames)) out₀ at end out
    ends e =
        let m = way.most in
        let w = way.within in
        record { inked = way.finish end out (inked_nothing _ out end (sym e)); most = omega arith }

    pub arrives : length frames ≤ place → InkedFrom frames (rows listing (frames_of frames)) out₀ at end out
    unfolding rows
    arrives h = ends (rw (drop_end frames place h, frames_none))

    module _ (s : List ℕ) (lent : s ≡ drop place frames) where
      pub stops : None ≡ size_by listing (read_first s) → InkedFrom frames (rows listing (frames_of frames)) out₀ at end out
      stops e = ends (rw lent at (rows_stop listing s (sym e)))

      module _ (size : ℕ) (e : Some size ≡ size_by listing (read_first s)) (b : Bytes frames) where
        at_place : RowAt listing (drop place frames) size
        at_place = row_at listing (drop place frames) size (bytes_drop place frames b) (sym (rw lent at e))

        pub row_counts : at + 64 * length frames < 4294967296 → Countable (row_by listing (read_first s)) end
        row_counts h =
            let k = at_place in
            let short = k.short in
            let fits = k.fits in
            let l = length-drop place frames in
            let m = way.most in
            let w = way.within in
            rw lent (omega arith)

        pub goes_on_lem : (r : ℕ) (left : List ℕ) → Inked (row_by listing (read_first s)) out end r left → (place < place + size) × OnWay listing frames out₀ at left (place + size) r
        goes_on_lem r left a =
            let k = at_place in
            let some = k.some in
            let short = k.short in
            let fits = k.fits in
            let l = length-drop place frames in
            let m = way.most in
            let w = way.within in
            let i : Inked (row_by listing (read_first (drop place frames))) out end r left = rw lent at a in
            let p = i.place in (
              omega arith,
              record {
                within = omega arith;
                size = i.size ∙ way.size;
                most = omega arith;
                finish =
                    λ q last c. way.finish q last (inked_as _ _ _ _ _ _ (ap (λ (x : List ℕ). row_by listing (read_first (drop place frames)) ++ rows listing (frames_of x)) (sym (drop-drop size place frames)) ∙ sym k.goes_on_lem) (inked_both _ _ _ _ _ _ _ _ i c));
              },
            )

-- a list after its title
pub titled_none : (title list : List ℕ) → length list ≡ 0 → [] ≡ titled title list
unfolding titled
titled_none title list e = rw (eq-eqb (length list) 0 e)

pub titled_some : (title list : List ℕ) → (length list ≡ 0 → ⊥) → title ++ list ≡ titled title list
unfolding titled
titled_some title list n = rw (ne_eqb (length list) 0 n)
