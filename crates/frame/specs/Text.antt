-- A text after its length, over the width of the length in bytes (STANDARD 6.5, 8.1).
use Rattle.std.specs.Prelude.{Option, Some, None, ℕ, ◌+◌, cond, List, ◌++◌, leb, length, take}
use Rattle.buffer.specs.Numbers.{number_bytes, number_of}

-- a text after its length
unfoldable pub text_of : ℕ → List ℕ → List ℕ
text_of width t = number_bytes width (length t) ++ t

-- what the first bytes are: a whole text, of the length that its first `width` bytes say, or broken
unfoldable pub read_text : ℕ → List ℕ → Option ℕ
read_text width s =
    cond (leb (width + number_of (take width s)) (length s)) (Some (number_of (take width s))) None
