-- The Rust's history and its redraw (docs/src/src/shell/command/history.rs) as functions on values: a `Vec<String>` is a list of texts, a `String` its bytes.
-- (STANDARD 2.19, 3.4, 3.8, 3.9, 3.19, 12.2)
use Rattle.std.specs.Prelude.{ℕ, zero, suc, ◌+◌, ◌-◌, Bool, false, cond, not, List, [], ◌∷◌, ◌++◌, length, drop, nat_le, nat_lt, slice_index_or}
use Rattle.std.proofs.Math.Option.{Option, none, some}
use Rattle.std.proofs.Math.ListN.{get_elem?}
use Rattle.buffer.specs.Compare.{same_bytes}
use Rattle.rust.specs.Std.{display, is_empty, trim}

-- pub struct CommandHistory { history: Vec<String>, current_index: usize, max_size: usize }
pub record CommandHistory : Type 0 where
  pub history : List (List ℕ)
  pub index : ℕ
  pub size : ℕ

-- CommandHistory::new
abbrev pub new : ℕ → CommandHistory
new size = record { history = []; index = 0; size = size }

-- self.history.last()
unfoldable pub last : List (List ℕ) → Option (List ℕ)
last [] = none
last (e ∷ []) = some e
last (e ∷ d ∷ es) = last (d ∷ es)

-- .. != Some(&cmd)
abbrev pub is_some : Option (List ℕ) → List ℕ → Bool
is_some none cmd = false
is_some (some e) cmd = same_bytes e cmd

-- if self.history.len() >= self.max_size { self.history.remove(0); } self.history.push(cmd);
unfoldable pub pushed : ℕ → List (List ℕ) → List ℕ → List (List ℕ)
pushed size es cmd = cond (nat_le size (length es)) (drop 1 es) es ++ (cmd ∷ [])

-- if !cmd.trim().is_empty() && self.history.last() != Some(&cmd) { .. }
unfoldable pub kept : ℕ → List (List ℕ) → List ℕ → List (List ℕ)
kept size es cmd = cond (not (is_empty (trim cmd))) (cond (not (is_some (last es) cmd)) (pushed size es cmd) es) es

-- pub fn add_command(&mut self, cmd: String): .. self.current_index = self.history.len(); (3.4)
unfoldable pub add_command : CommandHistory → List ℕ → CommandHistory
add_command h cmd =
    record { history = kept h.size h.history cmd; index = length (kept h.size h.history cmd); size = h.size }

-- The Rust has no call that takes an entry out. What follows has no line in history.rs: it is the Rust's history with the list shortened by Vec::remove, of entry k, and of the one
-- before it where entries k - 1 and k of what is left are equal; the index is the length, as after every add_command (3.19)
unfoldable pub removed : ℕ → List (List ℕ) → List (List ℕ)
removed i [] = []
removed zero (e ∷ es) = es
removed (suc i) (e ∷ es) = e ∷ removed i es

unfoldable pub meet : ℕ → List (List ℕ) → Bool
meet k es = cond (nat_lt 0 k) (cond (nat_lt k (length es)) (same_bytes (slice_index_or es (k - 1) []) (slice_index_or es k [])) false) false

unfoldable pub shortened_list : ℕ → List (List ℕ) → List (List ℕ)
shortened_list k es = cond (meet k (removed k es)) (removed (k - 1) (removed k es)) (removed k es)

unfoldable pub shortened : ℕ → CommandHistory → CommandHistory
shortened k h = record { history = shortened_list k h.history; index = length (shortened_list k h.history); size = h.size }

-- what a step gives back: the history after it, and the text
pub record Stepped : Type 0 where
  pub after : CommandHistory
  pub text : Option (List ℕ)

abbrev pub at : CommandHistory → ℕ → CommandHistory
at h i = record { history = h.history; index = i; size = h.size }

-- pub fn previous(&mut self) -> Option<&String> (3.8)
unfoldable pub previous : CommandHistory → Stepped
previous h =
    cond (nat_lt 0 h.index) (record { after = at h (h.index - 1); text = get_elem? h.history (h.index - 1) })
    (record { after = h; text = none })

-- pub fn next(&mut self) -> Option<&String> (3.9)
unfoldable pub next : CommandHistory → Stepped
next h =
    cond (nat_lt h.index (length h.history))
    (record {
      after = at h (h.index + 1);
      text = cond (nat_lt (h.index + 1) (length h.history)) (get_elem? h.history (h.index + 1)) none;
    })
    (record { after = h; text = none })

-- pub fn clear_line_and_redraw(stdout, prompt, content, cursor_pos): the bytes that it writes (2.19)
unfoldable pub clear_line_and_redraw : List ℕ → List ℕ → ℕ → List ℕ
clear_line_and_redraw prompt text cursor =
    0x0D ∷ 0x1B ∷ 0x5B ∷ 0x32 ∷ 0x4B
    ∷ (prompt ++ (text ++ cond (nat_lt cursor (length text)) (0x1B ∷ 0x5B ∷ (display (length text - cursor) ++ (0x44 ∷ []))) []))
