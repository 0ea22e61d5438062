-- How long the two texts are at most, over frames within their limits.
use Prim.Native.Nat.{ℕ, ◌+◌, ◌*◌, ◌-◌, ◌≤◌}
use mathlib.Core.Path.{◌≡◌, ap}
use mathlib.Core.Bool.{Bool, true, false, cond}
use mathlib.Core.List.{List, [], ◌∷◌, ◌++◌, map}
use native.Mathlib.Omega.{arith}
use lib.ListN.{length, length-append}
use Rattle.text.specs.Decoding.{Piece, pieces_of, bytes_of, bytes_all}
use Rattle.text.specs.Apart.{white, unless_empty, words_after, words_between}
use Rattle.text.proofs.Pieces.{pieces_bytes}
use Rattle.text.proofs.WhiteRuns.{some_bytes}
use Rattle.image.specs.Frames.{Perhaps, absent, present, Frame, node, option, flag}
use Rattle.image.specs.Limits.{is_note, optionally}
use Rattle.lookup.proofs.FrameCounts.{note_short, node_short, Few}
use Rattle.buffer.specs.Ascii.{ascii}
use Rattle.rows.specs.Rows.{rows, titled}
use Rattle.rows.specs.declared.row.Listing.TheVariants.{Options, Flags, Subcommands, Commands}
use Rattle.rows.proofs.Bounds.{rows_bounded, titled_most}
use Rattle.help.specs.Texts.{spaced, usage_line, lists, about, help_text, available_head, available_foot, available_text}

pub spaced_more : (w : List ℕ) (words : List (List ℕ)) → length (spaced (w ∷ words)) ≡ 1 + length w + length (spaced words)
unfolding spaced ascii
spaced_more w words = let a = length-append (ascii " " ++ w) (spaced words) in omega arith

-- words have at least a byte, so that the spaces before them are no more than their bytes
ended_most : (word : List Piece) (words : List (List Piece))
    → length (spaced (map bytes_all (unless_empty word words))) ≤ 2 * length (bytes_all word) + length (spaced (map bytes_all words))
ended_most [] words = omega arith
ended_most (p ∷ word) words = omega (arith, some_bytes p word, spaced_more (bytes_all (p ∷ word)) (map bytes_all words))

bytes_snoc : (word : List Piece) (p : Piece) → length (bytes_all (word ++ (p ∷ []))) ≡ length (bytes_all word) + length (bytes_of p)
unfolding bytes_all
bytes_snoc [] p = let a = length-append (bytes_of p) [] in omega arith
bytes_snoc (q ∷ word) p = let a = length-append (bytes_of q) (bytes_all (word ++ (p ∷ []))) in let b = length-append (bytes_of q) (bytes_all word) in omega (arith, bytes_snoc word p)

after_most : (ps word : List Piece) → length (spaced (map bytes_all (words_after word ps))) ≤ 2 * (length (bytes_all word) + length (bytes_all ps))
unfolding words_after bytes_all spaced
after_most [] word = omega (arith, ended_most word [])
after_most (p ∷ ps) word = by (white p) (after_most ps []) (after_most ps (word ++ (p ∷ [])))
  where
    by : (t : Bool) → length (spaced (map bytes_all (words_after [] ps))) ≤ 2 * (0 + length (bytes_all ps))
        → length (spaced (map bytes_all (words_after (word ++ (p ∷ [])) ps))) ≤ 2 * (length (bytes_all (word ++ (p ∷ []))) + length (bytes_all ps))
        → length (spaced (map bytes_all (cond t (unless_empty word (words_after [] ps)) (words_after (word ++ (p ∷ [])) ps)))) ≤ 2 * (length (bytes_all word) + length (bytes_of p ++ bytes_all ps))
    by true h k = let a = length-append (bytes_of p) (bytes_all ps) in omega (arith, ended_most word (words_after [] ps))
    by false h k = let a = length-append (bytes_of p) (bytes_all ps) in omega (arith, bytes_snoc word p)

pub spaced_most : (s : List ℕ) → length (spaced (words_between s)) ≤ 2 * length s
unfolding words_between bytes_all
spaced_most s = let e = ap length (pieces_bytes s) in omega (arith, after_most (pieces_of s) [])

-- a node's own lines
usage_most : (u : Perhaps) → optionally is_note u ≡ true → length (usage_line u) ≤ 104
unfolding ascii
usage_most absent e = omega arith
usage_most (present t) e =
    let a = length-append (ascii "Usage: " ++ t) (ascii "\n") in
    let b = length-append (ascii "Usage: ") t in
    omega (arith, note_short t e)

about_most : (words : List (List ℕ)) (ds : List ℕ) (u : Perhaps) → length ds ≤ 96 → optionally is_note u ≡ true → length (about words ds u) ≤ 230 + length (spaced words)
unfolding about ascii
about_most words ds u h e =
    let a = length-append (ascii "Command:" ++ spaced words ++ ascii "\nDescription: " ++ ds ++ ascii "\n") (usage_line u) in
    let b = length-append (ascii "Command:" ++ spaced words ++ ascii "\nDescription: " ++ ds) (ascii "\n") in
    let c = length-append (ascii "Command:" ++ spaced words ++ ascii "\nDescription: ") ds in
    let d = length-append (ascii "Command:" ++ spaced words) (ascii "\nDescription: ") in
    let f = length-append (ascii "Command:") (spaced words) in
    omega (arith, usage_most u e)

lists_most : (depth n : ℕ) (below : List Frame) → Few n 32 32 below → length (lists depth below) ≤ 12900 + 154 * n
unfolding lists ascii
lists_most depth n below k =
    let one : List ℕ = titled (ascii "\nOptions:\n") (rows Options below) in
    let two : List ℕ = titled (ascii "\nFlags:\n") (rows Flags below) in
    let three : List ℕ = titled (ascii "\nSubcommands:\n") (rows (Subcommands (depth + 1)) below) in
    let a = length-append (one ++ two) three in
    let b = length-append one two in
    let p = titled_most (ascii "\nOptions:\n") (rows Options below) _ (rows_bounded Options below n 32 32 k) in
    let q = titled_most (ascii "\nFlags:\n") (rows Flags below) _ (rows_bounded Flags below n 32 32 k) in
    let r = titled_most (ascii "\nSubcommands:\n") (rows (Subcommands (depth + 1)) below) _ (rows_bounded (Subcommands (depth + 1)) below n 32 32 k) in
    omega arith

pub help_most : (words : List (List ℕ)) (fs : List Frame) (n : ℕ) → Few n 32 32 fs → length (help_text words fs) ≤ 13130 + 154 * n + length (spaced words)
unfolding help_text
help_most words [] n k = omega arith
help_most words (node d h name ds u ∷ below) n k =
    let s = node_short d h name ds u k.0 in
    let a = length-append (about words ds u) (lists d below) in
    omega (arith, about_most words ds u s.1 s.2, lists_most d (n - 1) below k.2, k.1)
help_most words (option r c name x ds ∷ below) n k = omega arith
help_most words (flag c name x ds ∷ below) n k = omega arith

-- the list of commands
pub available_most : (fs : List Frame) (n : ℕ) → Few n 32 32 fs → length (available_text fs) ≤ 400 + 154 * n
unfolding available_text available_head available_foot ascii
available_most fs n k =
    let a = length-append (available_head ++ rows Commands fs) available_foot in
    let b = length-append available_head (rows Commands fs) in
    omega (arith, rows_bounded Commands fs n 32 32 k)
