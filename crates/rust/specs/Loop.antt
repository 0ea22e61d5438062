-- The Rust's loop (docs/src/src/shell/mod.rs) as a function on values: what one key writes and runs, in the loop's order, and what it leaves.
-- `buf[..line_len]` is a list, and a `String` its bytes (STANDARD 2.5, 2.8, 2.9, 12.2).
use Rattle.std.specs.Prelude.{ℕ, ◌+◌, ◌-◌, min, cond, List, [], ◌∷◌, ◌++◌, length, take, drop, ◌==◌, nat_lt}
use Rattle.buffer.specs.Ascii.{ascii}
use Rattle.rust.specs.Std.{if_some, println, utf8_or_empty}
use Rattle.rust.specs.History.{CommandHistory, add_command, previous, next, clear_line_and_redraw}

-- enum InputState
pub data InputState : Type 0 where
  Normal : InputState
  Escape : InputState
  EscapeSeq : InputState

-- let mut buf, cursor, line_len, input_state, history
pub record Shell : Type 0 where
  pub buf : List ℕ
  pub cursor : ℕ
  pub input : InputState
  pub history : CommandHistory

-- what the loop does: it writes bytes to stdout, or runs a line, if !handle_builtin_commands(cmd) { run_cmd_bytes(bytes); }
pub data Event : Type 0 where
  writes : (bytes : List ℕ) → Event
  runs : (cmd bytes : List ℕ) → Event

-- one turn: the shell after it, and what it did, in order
pub record Loop : Type 0 where
  pub after : Shell
  pub events : List Event

abbrev pub turned : Shell → List Event → Loop
turned after events = record { after = after; events = events }

-- the bytes that a turn writes first, and the line that it runs; nothing where there are none
abbrev pub first_bytes : List Event → List ℕ
first_bytes [] = []
first_bytes (writes bytes ∷ events) = bytes
first_bytes (runs cmd bytes ∷ events) = []

abbrev pub line_run : List Event → List ℕ
line_run [] = []
line_run (writes bytes ∷ events) = line_run events
line_run (runs cmd bytes ∷ events) = bytes

-- #[cfg(not(feature = "fs"))] let prompt = "axvisor:$ ".to_string(); with `fs` the current directory stands in it (2.5)
unfoldable pub prompt_without_fs : List ℕ
prompt_without_fs = ascii "axvisor:$ "

-- the line, the cursor and the input state set anew
abbrev pub with_buf : Shell → List ℕ → ℕ → Shell
with_buf sh buf cursor = record { buf = buf; cursor = cursor; input = Normal; history = sh.history }

-- CR | LF: println!(); if line_len > 0 { let cmd_str = std::str::from_utf8(&buf[..line_len]).unwrap_or(""); history.add_command(cmd_str.to_string());
-- if !handle_builtin_commands(cmd_str) { run_cmd_bytes(&buf[..line_len]); } buf[..line_len].fill(0); cursor = 0; line_len = 0; } print_prompt();
-- (2.8, 2.9)
unfoldable pub crlf : List ℕ → Shell → Loop
crlf prompt sh =
    cond (nat_lt 0 (length sh.buf))
    (turned (record { buf = []; cursor = 0; input = sh.input; history = add_command sh.history (utf8_or_empty sh.buf) })
    (writes (println []) ∷ runs (utf8_or_empty sh.buf) sh.buf ∷ writes prompt ∷ []))
    (turned sh (writes (println []) ∷ writes prompt ∷ []))

-- BS | DL: if cursor > 0 { .. clear_line_and_redraw(&mut stdout, &prompt, current_content, cursor); }
abbrev pub without : List ℕ → ℕ → List ℕ
without buf cursor = take (cursor - 1) buf ++ drop cursor buf

unfoldable pub bsdl : List ℕ → Shell → Loop
bsdl prompt sh =
    cond (nat_lt 0 sh.cursor)
    (turned (record { buf = without sh.buf sh.cursor; cursor = sh.cursor - 1; input = sh.input; history = sh.history })
    (writes (clear_line_and_redraw prompt (utf8_or_empty (without sh.buf sh.cursor)) (sh.cursor - 1)) ∷ []))
    (turned sh [])

-- c: if line_len < MAX_LINE_LEN - 1 { .. }
abbrev pub with : List ℕ → ℕ → ℕ → List ℕ
with buf cursor c = take cursor buf ++ (c ∷ drop cursor buf)

unfoldable pub other : List ℕ → Shell → ℕ → Loop
other prompt sh c =
    cond (nat_lt (length sh.buf) 255)
    (turned (record { buf = with sh.buf sh.cursor c; cursor = sh.cursor + 1; input = sh.input; history = sh.history })
    (writes (clear_line_and_redraw prompt (utf8_or_empty (with sh.buf sh.cursor c)) (sh.cursor + 1)) ∷ []))
    (turned sh [])

-- InputState::Normal => match ch { CR | LF, BS | DL, ESC, 0..=31, c }
unfoldable pub normal : List ℕ → Shell → ℕ → Loop
normal prompt sh ch =
    cond (ch == 0x0D) (crlf prompt sh)
    (cond (ch == 0x0A) (crlf prompt sh)
    (cond (ch == 0x08) (bsdl prompt sh)
    (cond (ch == 0x7F) (bsdl prompt sh)
    (cond (ch == 0x1B) (turned (record { buf = sh.buf; cursor = sh.cursor; input = Escape; history = sh.history }) [])
    (cond (nat_lt ch 0x20) (turned sh [])
    (other prompt sh ch))))))

-- InputState::Escape => match ch { b'[' => EscapeSeq, _ => Normal }
unfoldable pub escape : Shell → ℕ → Loop
escape sh ch = turned (record { buf = sh.buf; cursor = sh.cursor; input = cond (ch == 0x5B) EscapeSeq Normal; history = sh.history }) []

-- a recalled command: copy_len = cmd_bytes.len().min(MAX_LINE_LEN - 1), cursor = line_len = copy_len, redrawn
unfoldable pub recalled_in : List ℕ → CommandHistory → List ℕ → Loop
recalled_in prompt h cmd =
    turned (record { buf = take (min (length cmd) 255) cmd; cursor = min (length cmd) 255; input = Normal; history = h })
    (writes (clear_line_and_redraw prompt cmd (min (length cmd) 255)) ∷ [])

-- b'A': if let Some(prev_cmd) = history.previous() { .. } input_state = Normal
unfoldable pub key_a : List ℕ → Shell → Loop
key_a prompt sh =
    if_some (previous sh.history).text (recalled_in prompt (previous sh.history).after)
    (turned (record { buf = sh.buf; cursor = sh.cursor; input = Normal; history = (previous sh.history).after }) [])

-- b'B': match history.next() { Some(next_cmd) => .., None => { .. clear_line_and_redraw(&mut stdout, &prompt, "", cursor); } }
unfoldable pub key_b : List ℕ → Shell → Loop
key_b prompt sh =
    if_some (next sh.history).text (recalled_in prompt (next sh.history).after)
    (turned (record { buf = []; cursor = 0; input = Normal; history = (next sh.history).after }) (writes (clear_line_and_redraw prompt [] 0) ∷ []))

-- b'C': if cursor < line_len { cursor += 1; stdout.write_all(b"\x1b[C") }; b'D': if cursor > 0 { cursor -= 1; .. b"\x1b[D" }
unfoldable pub key_c : Shell → Loop
key_c sh =
    cond (nat_lt sh.cursor (length sh.buf)) (turned (with_buf sh sh.buf (sh.cursor + 1)) (writes (0x1B ∷ 0x5B ∷ 0x43 ∷ []) ∷ []))
    (turned (with_buf sh sh.buf sh.cursor) [])

unfoldable pub key_d : Shell → Loop
key_d sh =
    cond (nat_lt 0 sh.cursor) (turned (with_buf sh sh.buf (sh.cursor - 1)) (writes (0x1B ∷ 0x5B ∷ 0x44 ∷ []) ∷ []))
    (turned (with_buf sh sh.buf sh.cursor) [])

-- InputState::EscapeSeq => match ch { b'A', b'B', b'C', b'D', b'3', _ }
unfoldable pub escape_seq : List ℕ → Shell → ℕ → Loop
escape_seq prompt sh ch =
    cond (ch == 0x41) (key_a prompt sh)
    (cond (ch == 0x42) (key_b prompt sh)
    (cond (ch == 0x43) (key_c sh)
    (cond (ch == 0x44) (key_d sh)
    (turned (with_buf sh sh.buf sh.cursor) []))))

-- match input_state
unfoldable pub rust_in : InputState → List ℕ → Shell → ℕ → Loop
rust_in Normal prompt sh ch = normal prompt sh ch
rust_in Escape prompt sh ch = escape sh ch
rust_in EscapeSeq prompt sh ch = escape_seq prompt sh ch

unfoldable pub rust_key : List ℕ → Shell → ℕ → Loop
rust_key prompt sh ch = rust_in sh.input prompt sh ch

-- loop { .. }: a turn for each byte that is read
unfoldable pub rust_keys : List ℕ → Shell → List ℕ → Loop
rust_keys prompt sh [] = turned sh []
rust_keys prompt sh (ch ∷ keys) =
    turned (rust_keys prompt (rust_key prompt sh ch).after keys).after ((rust_key prompt sh ch).events ++ (rust_keys prompt (rust_key prompt sh ch).after keys).events)
