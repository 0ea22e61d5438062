-- How long a list is at most, over frames within their limits: a row has a greatest length, and there are no more rows than frames of their kind.
use Prim.Native.Nat.{ℕ, ◌+◌, ◌*◌, ◌-◌, ◌≤◌}
use mathlib.Core.Path.{◌≡◌}
use mathlib.Core.Bool.{true, cond}
use mathlib.Core.List.{List, [], ◌∷◌, ◌++◌}
use native.Mathlib.Omega.{arith}
use lib.Dec.{eqb}
use lib.ListN.{length, length-append}
use Rattle.image.specs.Frames.{Perhaps, absent, present, Frame, node, option, flag}
use Rattle.image.specs.Limits.{is_name, optionally, fair}
use Rattle.lookup.proofs.FrameCounts.{name_short, node_short, option_short, flag_short, Few}
use Rattle.buffer.specs.Ascii.{ascii}
use Rattle.buffer.proofs.Inking.{cond_most}
use Rattle.rows.specs.Rows.{shown_as, required_mark, entry, option_row, flag_row, node_row, row_of, rows, titled}
use Rattle.rows.specs.declared.row.Listing.{Listing}
use Rattle.rows.specs.declared.row.Listing.TheVariants.{Options, Flags, Subcommands, Commands}
use Rattle.rows.proofs.Lists.{perhaps_length, node_most, definition_most}

perhaps_short : (x : Perhaps) → optionally is_name x ≡ true → perhaps_length x ≤ 32
unfolding perhaps_length
perhaps_short absent e = omega arith
perhaps_short (present t) e = name_short t e

option_row_lem : (r c : ℕ) (n : List ℕ) (x : Perhaps) (ds : List ℕ) → fair (option r c n x ds) ≡ true → length (option_row r c n x ds) ≤ 201
unfolding option_row required_mark ascii
option_row_lem r c n x ds e =
    let k = option_short r c n x ds e in
    let row : List ℕ = entry (ascii "  ") 20 (shown_as c n x) ds in
    let a = length-append (row ++ cond (eqb r 1) (ascii " (required)") []) (ascii "\n") in
    let b = length-append row (cond (eqb r 1) (ascii " (required)") []) in
    let m = cond_most (eqb r 1) (ascii " (required)") [] 11 (omega arith) (omega arith) in
    omega (arith, definition_most c n x ds, perhaps_short x k.1, k.0, k.2)

flag_row_lem : (c : ℕ) (n : List ℕ) (x : Perhaps) (ds : List ℕ) → fair (flag c n x ds) ≡ true → length (flag_row c n x ds) ≤ 201
unfolding flag_row ascii
flag_row_lem c n x ds e =
    let k = flag_short c n x ds e in
    let a = length-append (entry (ascii "  ") 20 (shown_as c n x) ds) (ascii "\n") in
    omega (arith, definition_most c n x ds, perhaps_short x k.1, k.0, k.2)

node_row_lem : (indent : List ℕ) (w d h : ℕ) (n ds : List ℕ) (u : Perhaps) → length indent ≤ 4 → w ≤ 20 → fair (node d h n ds u) ≡ true → length (node_row indent w n ds) ≤ 154
node_row_lem indent w d h n ds u i j e = let k = node_short d h n ds u e in omega (arith, node_most indent w n ds j, k.0, k.1)

-- how long each list is at most under so many nodes, options and flags
abbrev pub most : Listing → ℕ → ℕ → ℕ → ℕ
most Options n o g = 201 * o
most Flags n o g = 201 * g
most (Subcommands depth) n o g = 154 * n
most Commands n o g = 154 * n

-- a row, and the rows after it
joined : (row rest : List ℕ) (a b m : ℕ) → length row ≤ a → length rest ≤ b → a + b ≤ m → length (row ++ rest) ≤ m
joined row rest a b m h k l = let s = length-append row rest in omega arith

pub rows_bounded : (listing : Listing) (fs : List Frame) (n o g : ℕ) → Few n o g fs → length (rows listing fs) ≤ most listing n o g
unfolding rows ascii
rows_bounded listing [] n o g k = omega arith
rows_bounded Options (node d h name ds u ∷ l) n o g k = omega arith
rows_bounded Options (option r c name x ds ∷ l) n o g k =
    joined (option_row r c name x ds) (rows Options l) 201 (201 * (o - 1)) (201 * o) (option_row_lem r c name x ds k.0) (rows_bounded Options l n (o - 1) g k.2) (omega (arith, k.1))
rows_bounded Options (flag c name x ds ∷ l) n o g k = rows_bounded Options l n o (g - 1) k.2
rows_bounded Flags (node d h name ds u ∷ l) n o g k = omega arith
rows_bounded Flags (option r c name x ds ∷ l) n o g k = rows_bounded Flags l n (o - 1) g k.2
rows_bounded Flags (flag c name x ds ∷ l) n o g k =
    joined (flag_row c name x ds) (rows Flags l) 201 (201 * (g - 1)) (201 * g) (flag_row_lem c name x ds k.0) (rows_bounded Flags l n o (g - 1) k.2) (omega (arith, k.1))
rows_bounded (Subcommands e) (node d h name ds u ∷ l) n o g k =
    let row = node_row_lem (ascii "  ") 20 d h name ds u (omega arith) (omega arith) k.0 in
    joined (row_of (Subcommands e) (node d h name ds u)) (rows (Subcommands e) l) 154 (154 * (n - 1)) (154 * n) (cond_most (eqb d e) _ _ 154 row (omega arith))
    (rows_bounded (Subcommands e) l (n - 1) 32 32 k.2)
    (omega (arith, k.1))
rows_bounded (Subcommands e) (option r c name x ds ∷ l) n o g k = rows_bounded (Subcommands e) l n (o - 1) g k.2
rows_bounded (Subcommands e) (flag c name x ds ∷ l) n o g k = rows_bounded (Subcommands e) l n o (g - 1) k.2
rows_bounded Commands (node d h name ds u ∷ l) n o g k =
    let row = node_row_lem (ascii "  ") 15 d h name ds u (omega arith) (omega arith) k.0 in
    let below = node_row_lem (ascii "    ") 13 d h name ds u (omega arith) (omega arith) k.0 in
    joined (row_of Commands (node d h name ds u)) (rows Commands l) 154 (154 * (n - 1)) (154 * n) (cond_most (eqb d 0) _ _ 154 row (cond_most (eqb d 1) _ _ 154 below (omega arith)))
    (rows_bounded Commands l (n - 1) 32 32 k.2)
    (omega (arith, k.1))
rows_bounded Commands (option r c name x ds ∷ l) n o g k = rows_bounded Commands l n (o - 1) g k.2
rows_bounded Commands (flag c name x ds ∷ l) n o g k = rows_bounded Commands l n o (g - 1) k.2

-- a list after its title
pub titled_most : (title list : List ℕ) (n : ℕ) → length list ≤ n → length (titled title list) ≤ length title + n
unfolding titled
titled_most title list n h = let s = length-append title list in cond_most (eqb (length list) 0) _ _ _ (omega arith) (omega arith)
