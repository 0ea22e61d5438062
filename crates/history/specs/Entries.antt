-- The entries of a history: at most 100, from oldest to newest (STANDARD 3.1, 3.4, 3.13, 3.15, 12.8).
use Rattle.std.specs.Prelude.{ℕ, ◌+◌, Bool, true, false, cond, not, List, [], ◌∷◌, ◌++◌, ltb, length, drop}
use Rattle.buffer.specs.Compare.{same_bytes}
use Rattle.text.specs.Decoding.{well_formed}
use Rattle.text.specs.Apart.{blank}

-- how many entries a history has at most: `History::MOST` (3.1)
unfoldable pub most_entries : ℕ
most_entries = 100

-- the newest entry is this text (3.4, 12.8)
unfoldable pub newest_is : List ℕ → List (List ℕ) → Bool
newest_is text [] = false
newest_is text (e ∷ []) = same_bytes e text
newest_is text (e ∷ d ∷ es) = newest_is text (d ∷ es)

-- a text that is added: it is non-blank and differs in bytes from the newest (3.4)
unfoldable pub is_new : List ℕ → List (List ℕ) → Bool
is_new text es = cond (blank text) false (not (newest_is text es))

-- without the oldest, if the history is full (3.4)
unfoldable pub with_room : List (List ℕ) → List (List ℕ)
with_room es = cond (ltb (length es) most_entries) es (drop 1 es)

-- the entries after a text was offered; the place is then their count (3.4)
unfoldable pub added : List ℕ → List (List ℕ) → List (List ℕ)
added text es = cond (is_new text es) (with_room es ++ (text ∷ [])) es

-- a text that a history may hold: well-formed and not blank (3.1, 3.13)
unfoldable pub usable : List ℕ → Bool
usable text = cond (blank text) false (well_formed text)

-- entries that follow another: each is usable and differs from the one before it. Before the first stands the empty text, which is blank.
-- (3.1, 3.13)
unfoldable pub sound : List ℕ → List (List ℕ) → Bool
sound before [] = true
sound before (e ∷ es) = cond (usable e) (cond (same_bytes before e) false (sound e es)) false

-- the total of the entries' lengths: the bytes in use (3.15)
unfoldable pub total : List (List ℕ) → ℕ
total [] = 0
total (e ∷ es) = length e + total es
