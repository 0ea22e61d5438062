-- Laws of one row: how the code puts it together, and what each frame gives in each list.
use Prim.Native.Nat.{ℕ, zero, suc, ◌+◌, ◌-◌, ◌<◌, ◌≤◌}
use mathlib.Core.Path.{◌≡◌, refl, sym, ap, ◌∙◌}
use mathlib.Core.Bool.{Bool, true, false, cond}
use mathlib.Core.List.{List, [], ◌∷◌, ◌++◌, append_assoc, append-nil}
use native.Mathlib.Omega.{arith}
use lib.ListN.{length, take, drop, replicate, length-replicate}
use borrow.Author.Tests.{eq-eqb, ne_eqb}
use types.Run.{OneOf, miss}
use denote.Enum.Declared.{tag_of}
use Rattle.buffer.specs.Numbers.{Bytes}
use Rattle.image.specs.Frames.{Perhaps, Frame, node, option, flag}
use Rattle.image.specs.Reading.{span, perhaps_in, definition_lengths, name_in, long_in, note_in, option_in, flag_in, head_first, read, read_by, read_first}
use Rattle.image.specs.declared.head.Lengths.{Lengths}
use Rattle.image.specs.declared.head.Head.{Head}
use Rattle.image.specs.declared.head.Head.TheVariants.{Node as NodeHead, Option as OptionHead, Flag as FlagHead, Bad, End}
use Rattle.image.specs.contracts.head.Head.{the_type as head_type}
use Rattle.image.proofs.HeadBytes.{view, definition_small}
use Rattle.buffer.specs.Ascii.{ascii}
use Rattle.buffer.specs.Inks.{Inked, Countable}
use Rattle.rows.specs.Rows.{blanks, padded, short_then, shown_as, entry, required_mark, option_row, node_row, row_of, ends_list}
use Rattle.std.specs.Prelude.{Some, None}
use mathlib.Core.Logic.{◌⊎◌, inl, inr}
use Rattle.rows.specs.Inner.{label_in, ReadLengths, row_by, size_by}
use Rattle.rows.specs.declared.row.Listing.{Listing}
use Rattle.rows.specs.declared.row.Listing.TheVariants.{Options, Flags, Subcommands, Commands}
use Rattle.rows.specs.contracts.row.Listing.{the_type}
use Rattle.buffer.proofs.Inking.{inked_both, counts_first, counts_then}

-- spaces: none, or as many of twenty as are missing
pub blanks_none : (width used : ℕ) → width ≤ used → blanks width used ≡ []
unfolding blanks
blanks_none width used h = let e : width - used ≡ 0 = omega arith in rw e

take_replicate : (n m : ℕ) → n ≤ m → take n (replicate {A = ℕ} m 0x20) ≡ replicate n 0x20
take_replicate zero m h = refl
take_replicate (suc n) zero h = absurd (omega arith)
take_replicate (suc n) (suc m) h = ap (λ (l : List ℕ). 0x20 ∷ l) (take_replicate n m (omega arith))

pub blanks_some : (width used : ℕ) → width ≤ 20 → take (width - used) (replicate {A = ℕ} 20 0x20) ≡ blanks width used
unfolding blanks
blanks_some width used h = take_replicate (width - used) 20 (omega arith)

pub blanks_length : (width used : ℕ) → length (blanks width used) ≡ width - used
unfolding blanks
blanks_length width used = length-replicate {A = ℕ} (width - used) 0x20

-- a short with its dash
pub short_none : (short : ℕ) (tail : List ℕ) → short ≡ 0 → [] ≡ short_then short tail
unfolding short_then
short_none short tail e = rw (eq-eqb short 0 e)

pub short_some : (short : ℕ) (tail : List ℕ) → (short ≡ 0 → ⊥) → short_then short tail ≡ ascii "-" ++ (short ∷ []) ++ tail
unfolding short_then ascii
short_some short tail n = rw (ne_eqb short 0 n)

-- a label: with a long, with neither, with a short alone
module _ (s : List ℕ) (p short : ℕ) (texts : Lengths) where
  pub label_long : (long : List ℕ) (n : ℕ) → texts.other ≡ Some n → long ≡ take n (drop (p + 2 + texts.name) s)
      → label_in s p short texts ≡ short_then short (ascii ", ") ++ ascii "--" ++ long
  unfolding label_in shown_as perhaps_in
  label_long long n o e = rw (o, e)

  pub label_name : (name : List ℕ) → texts.other ≡ None → short ≡ 0 → name ≡ take texts.name (drop (p + 1) s) → label_in s p short texts ≡ name
  unfolding label_in shown_as perhaps_in
  label_name name o z e = rw (o, eq-eqb short 0 z, e)

  pub label_short : texts.other ≡ None → (short ≡ 0 → ⊥) → label_in s p short texts ≡ short_then short []
  unfolding label_in shown_as perhaps_in
  label_short o n = rw (o, ne_eqb short 0 n)

-- an entry as it is written: indent and label, then what stands after the label
pub entry_is : (indent label description : List ℕ) (width : ℕ) → entry indent width label description ≡ (indent ++ label) ++ (blanks width (length label) ++ ascii " " ++ description)
unfolding entry padded
entry_is indent label description width =
    let b : List ℕ = blanks width (length label) in
    ap (λ (l : List ℕ). l ++ ascii " " ++ description) (sym (append_assoc indent label b))
    ∙ ap (λ (l : List ℕ). l ++ description) (append_assoc (indent ++ label) b (ascii " "))
    ∙ append_assoc (indent ++ label) (b ++ ascii " ") description

-- how an entry is put
module _ (indent label description : List ℕ) (width at : ℕ) (h : Countable (entry indent width label description) at) where
  whole : Countable ((indent ++ label) ++ (blanks width (length label) ++ ascii " " ++ description)) at
  whole = rw (entry_is indent label description width) at h

  pub entry_1 : Countable indent at
  entry_1 = counts_first indent label at (counts_first (indent ++ label) _ at whole)

  pub entry_2 : (out : List ℕ) (p : ℕ) (mid : List ℕ) → Inked indent out at p mid → Countable label p
  entry_2 out p mid a = counts_then indent label out at p mid (counts_first (indent ++ label) _ at whole) a

  pub entry_3 : (out : List ℕ) (p : ℕ) (mid : List ℕ) (q : ℕ) (next : List ℕ) (used : ℕ) → Inked indent out at p mid → Inked label mid p q next → used ≡ length label
      → Countable (blanks width used ++ ascii " " ++ description) q
  entry_3 out p mid q next used a b e = rw e (counts_then (indent ++ label) _ out at q next whole (inked_both indent label out at p mid q next a b))

pub entry_put : (indent label description out : List ℕ) (width at p : ℕ) (mid : List ℕ) (q : ℕ) (next : List ℕ) (r : ℕ) (left : List ℕ) (used : ℕ)
    → Inked indent out at p mid → Inked label mid p q next → used ≡ length label → Inked (blanks width used ++ ascii " " ++ description) next q r left
    → Inked (entry indent width label description) out at r left
entry_put indent label description out width at p mid q next r left used a b e c =
    rw (entry_is indent label description width)
    (inked_both (indent ++ label) _ out at q next r left (inked_both indent label out at p mid q next a b) (rw e at c))

-- a definition as it was read
pub read_lengths : (p : ℕ) (s : List ℕ) (t : Lengths) → Bytes s → t ≡ definition_lengths p s → ReadLengths p t
unfolding definition_lengths
read_lengths p s t b e = record { small = definition_small p s t b e; size = rw e }

pub note_place : (p : ℕ) (s : List ℕ) (t : Lengths) → ReadLengths p t → take t.description (drop (t.size - t.description) s) ≡ note_in s p t
note_place p s t m =
    let k = m.size in
    let e : t.size - t.description ≡ p + 2 + t.name + span t.other + 1 = omega arith in
    rw e

-- what each frame gives in each list
module _ (listing : Listing) where
  module _ (depth h : ℕ) (n ds : List ℕ) (u : Perhaps) (name note : List ℕ) (a : name ≡ n) (b : note ≡ ds) where
    pub row_child : (d : ℕ) → listing ≡ Subcommands d → depth ≡ d → row_of listing (node depth h n ds u) ≡ node_row (ascii "  ") 20 name note
    row_child d e k = rw (e, eq-eqb depth d k, a, b)

    pub row_top : listing ≡ Commands → depth ≡ 0 → row_of listing (node depth h n ds u) ≡ node_row (ascii "  ") 15 name note
    row_top e k = rw (e, eq-eqb depth 0 k, a, b)

    pub row_second : listing ≡ Commands → depth ≡ 1 → row_of listing (node depth h n ds u) ≡ node_row (ascii "    ") 13 name note
    row_second e k = let z : depth ≡ 0 → ⊥ = λ q. omega arith in rw (e, ne_eqb depth 0 z, eq-eqb depth 1 k, a, b)

  module _ (depth h : ℕ) (n ds : List ℕ) (u : Perhaps) where
    pub row_other : (d : ℕ) → listing ≡ Subcommands d → (depth ≡ d → ⊥) → [] ≡ row_of listing (node depth h n ds u)
    row_other d e k = rw (e, ne_eqb depth d k)

    pub row_deeper : listing ≡ Commands → (depth ≡ 0 → ⊥) → (depth ≡ 1 → ⊥) → [] ≡ row_of listing (node depth h n ds u)
    row_deeper e k l = rw (e, ne_eqb depth 0 k, ne_eqb depth 1 l)

    pub row_definitions : OneOf (0 ∷ 1 ∷ []) (tag_of the_type listing) → [] ≡ row_of listing (node depth h n ds u)
    row_definitions o = by listing o
      where
        by : (x : Listing) → OneOf (0 ∷ 1 ∷ []) (tag_of the_type x) → [] ≡ row_of x (node depth h n ds u)
        by Options k = refl
        by Flags k = refl
        by (Subcommands d) k = absurd (miss (0 ∷ 1 ∷ []) 2 tt k)
        by Commands k = absurd (miss (0 ∷ 1 ∷ []) 3 tt k)

    -- a node ends the lists of definitions, and no other
    pub ends_definitions : OneOf (0 ∷ 1 ∷ []) (tag_of the_type listing) → true ≡ ends_list listing (node depth h n ds u)
    ends_definitions o = by listing o
      where
        by : (x : Listing) → OneOf (0 ∷ 1 ∷ []) (tag_of the_type x) → true ≡ ends_list x (node depth h n ds u)
        by Options k = refl
        by Flags k = refl
        by (Subcommands d) k = absurd (miss (0 ∷ 1 ∷ []) 2 tt k)
        by Commands k = absurd (miss (0 ∷ 1 ∷ []) 3 tt k)

    pub ends_not : OneOf (2 ∷ 3 ∷ []) (tag_of the_type listing) → false ≡ ends_list listing (node depth h n ds u)
    ends_not o = by listing o
      where
        by : (x : Listing) → OneOf (2 ∷ 3 ∷ []) (tag_of the_type x) → false ≡ ends_list x (node depth h n ds u)
        by Options k = absurd (miss (2 ∷ 3 ∷ []) 0 tt k)
        by Flags k = absurd (miss (2 ∷ 3 ∷ []) 1 tt k)
        by (Subcommands d) k = refl
        by Commands k = refl

    -- the handler is nowhere shown
    pub row_handler : (g : ℕ) → row_of listing (node depth g n ds u) ≡ row_of listing (node depth h n ds u)
    row_handler g = by listing
      where
        by : (x : Listing) → row_of x (node depth g n ds u) ≡ row_of x (node depth h n ds u)
        by Options = refl
        by Flags = refl
        by (Subcommands d) = refl
        by Commands = refl

  pub option_unlisted : (s : List ℕ) (r c : ℕ) (t : Lengths) → OneOf (1 ∷ 2 ∷ 3 ∷ []) (tag_of the_type listing) → [] ≡ row_of listing (option_in s r c t)
  unfolding option_in
  option_unlisted s r c t o = by listing o
    where
      by : (x : Listing) → OneOf (1 ∷ 2 ∷ 3 ∷ []) (tag_of the_type x) → [] ≡ row_of x (option r c (name_in s 3 t) (long_in s 3 t) (note_in s 3 t))
      by Options k = absurd (miss (1 ∷ 2 ∷ 3 ∷ []) 0 tt k)
      by Flags k = refl
      by (Subcommands d) k = refl
      by Commands k = refl

  pub flag_unlisted : (s : List ℕ) (c : ℕ) (t : Lengths) → OneOf (0 ∷ 2 ∷ 3 ∷ []) (tag_of the_type listing) → [] ≡ row_of listing (flag_in s c t)
  unfolding flag_in
  flag_unlisted s c t o = by listing o
    where
      by : (x : Listing) → OneOf (0 ∷ 2 ∷ 3 ∷ []) (tag_of the_type x) → [] ≡ row_of x (flag c (name_in s 2 t) (long_in s 2 t) (note_in s 2 t))
      by Options k = refl
      by Flags k = absurd (miss (0 ∷ 2 ∷ 3 ∷ []) 1 tt k)
      by (Subcommands d) k = refl
      by Commands k = refl

  -- the same for what was read
  module _ (s : List ℕ) where
    pub row_read : (head : Head) (f : Frame) (n : ℕ) (known : Listing) → listing ≡ known → head ≡ head_first s → read_by s head ≡ read f n → row_of known f ≡ row_by listing (read_first s)
    unfolding read_first
    row_read head f n known q e k = rw (← e, k, q)

    pub row_none : (head : Head) → head ≡ head_first s → OneOf (3 ∷ 4 ∷ []) (tag_of head_type head) → [] ≡ row_by listing (read_first s)
    unfolding read_first
    row_none (NodeHead d h t) e k = absurd (miss (3 ∷ 4 ∷ []) 0 tt k)
    row_none (OptionHead q c t) e k = absurd (miss (3 ∷ 4 ∷ []) 1 tt k)
    row_none (FlagHead c t) e k = absurd (miss (3 ∷ 4 ∷ []) 2 tt k)
    row_none Bad e k = rw (← e)
    row_none End e k = rw (← e)

    pub size_read_lem : (head : Head) (f : Frame) (n : ℕ) (ends : Bool) → head ≡ head_first s → read_by s head ≡ read f n → ends ≡ ends_list listing f → cond ends None (Some n) ≡ size_by listing (read_first s)
    unfolding read_first
    size_read_lem head f n ends e k q = rw (← e, k, q)

    pub size_none : (head : Head) → head ≡ head_first s → (head ≡ Bad) ⊎ (head ≡ End) → None ≡ size_by listing (read_first s)
    unfolding read_first
    size_none head e (inl k) = rw (← e, k)
    size_none head e (inr k) = rw (← e, k)

  pub definition_goes_on : (r c : ℕ) (n : List ℕ) (x : Perhaps) (ds : List ℕ) → (false ≡ ends_list listing (option r c n x ds)) × (false ≡ ends_list listing (flag c n x ds))
  definition_goes_on r c n x ds = by listing
    where
      by : (k : Listing) → (false ≡ ends_list k (option r c n x ds)) × (false ≡ ends_list k (flag c n x ds))
      by Options = (refl, refl)
      by Flags = (refl, refl)
      by (Subcommands d) = (refl, refl)
      by Commands = (refl, refl)

-- an option's row after its entry, with the mark and without it
pub option_marked : (r c : ℕ) (n : List ℕ) (x : Perhaps) (ds : List ℕ) → r ≡ 1 → option_row r c n x ds ≡ entry (ascii "  ") 20 (shown_as c n x) ds ++ ascii " (required)\n"
unfolding option_row required_mark ascii
option_marked r c n x ds e = rw (eq-eqb r 1 e) (append_assoc (entry (ascii "  ") 20 (shown_as c n x) ds) (ascii " (required)") (ascii "\n"))

pub option_plain : (r c : ℕ) (n : List ℕ) (x : Perhaps) (ds : List ℕ) → (r ≡ 1 → ⊥) → option_row r c n x ds ≡ entry (ascii "  ") 20 (shown_as c n x) ds ++ ascii "\n"
unfolding option_row required_mark
option_plain r c n x ds e = rw (ne_eqb r 1 e, append-nil (entry (ascii "  ") 20 (shown_as c n x) ds))

-- what the bytes of a definition's head tell
module _ (s : List ℕ) (b : Bytes s) where
  pub option_told : (r c : ℕ) (t : Lengths) → head_first s ≡ OptionHead r c t → ReadLengths 3 t × (c < 256)
  unfolding Bytes
  option_told r c t e = let v = view s (OptionHead r c t) e in (read_lengths 3 s t b v.texts, let k = b 2 in omega (arith, v.short))

  pub flag_told : (c : ℕ) (t : Lengths) → head_first s ≡ FlagHead c t → ReadLengths 2 t × (c < 256)
  unfolding Bytes
  flag_told c t e = let v = view s (FlagHead c t) e in (read_lengths 2 s t b v.texts, let k = b 1 in omega (arith, v.short))
