-- A buffer of 65,533 bytes has room for whatever a line of at most 255 bytes is answered under a well-formed tree.
use Rattle.std.specs.Prelude.{Ok, Err, Result}
use Prim.Native.Nat.{ℕ, ◌+◌, ◌*◌, ◌≤◌}
use mathlib.Core.Path.{◌≡◌, refl, sym, ◌∙◌}
use mathlib.Core.Bool.{Bool, true, false, cond}
use mathlib.Core.List.{List, [], ◌∷◌}
use native.Mathlib.Omega.{arith}
use lib.Dec.{ltb, eqb}
use lib.ListN.{length, drop, length-append, length-drop}
use borrow.Author.Tests.{le-ltb, ltb-false}
use Rattle.buffer.specs.Write.{over}
use Rattle.text.specs.Decoding.{well_formed_length}
use Rattle.text.specs.Apart.{trimmed, blank, words_between}
use Rattle.text.proofs.Prefix.{prefix_fits}
use Rattle.buffer.specs.Numbers.{Bytes}
use Rattle.words.specs.Tokens.{words_of, word_frames}
use Rattle.words.specs.Answer.{written}
use Rattle.words.proofs.Standing.{written_most}
use Rattle.image.specs.Frames.{Frame}
use Rattle.tree.specs.Images.{frames_of}
use Rattle.tree.specs.Rules.{start, check_tree}
use Rattle.tree.proofs.WellFormedImages.{good_well_formed}
use Rattle.tree.specs.Subtrees.{subtree}
use Rattle.tree.specs.Commands.{descend}
use Rattle.lookup.proofs.FrameCounts.{Few, obey_few, few_subtree}
use Rattle.message.specs.Messages.{message, ill_formed, clear_screen}
use Rattle.message.specs.declared.error.ParseError.TheVariants.{NoHandler}
use Rattle.message.proofs.Bounds.{message_most, ill_formed_most, goodbye_most, clear_most, unknown_most}
use Rattle.help.specs.Texts.{spaced, available_text}
use Rattle.help.proofs.TextBounds.{spaced_more, spaced_most, available_most}
use Rattle.help.specs.Answer.{Reply, said, unknown, wordless, help_of}
use Rattle.help.proofs.ReplyBounds.{ReplyWithin, help_within}
use Rattle.parse.specs.Commands.{Outcome, parsed, fault, empty_command, parse_in}
use Rattle.parse.specs.Answer.{told_in}
use Rattle.parse.proofs.Bounds.{words_more, measure, path_within, parse_most}
use Rattle.shell.specs.Lines.{Said, silence, text, farewell, handed, builtin_of, on_builtin, begins_help, help_words, help_said, fault_message, joined, handler_of, carried, execute_in, execute, other_said, line_said, said_of}
use Rattle.shell.specs.Answer.{bytes_of, named, said_answer, said_leaves, run_answer, run_leaves, Running}
use Rattle.shell.specs.declared.answer.Ran.{Ran}
use Rattle.shell.specs.declared.answer.RunRefusal.{RunRefusal}
use Rattle.shell.specs.declared.answer.RunRefusal.TheVariants.{NoRoom}
use Rattle.shell.specs.declared.builtin.Builtin.{Builtin}
use Rattle.shell.specs.declared.builtin.Builtin.TheVariants.{Help, Exit, Clear, None}
use Rattle.shell.proofs.Lines.{trimmed_whole, trimmed_short}

-- how many bytes are written
abbrev size : Said → ℕ
size s = length (bytes_of s)

-- words joined by spaces are shorter than their frames
spaced_within : (words : List (List ℕ)) → length (spaced words) ≤ length (word_frames words)
unfolding spaced
spaced_within [] = omega arith
spaced_within (w ∷ words) = omega (arith, spaced_more w words, words_more w words, spaced_within words)

joined_within : (words : List (List ℕ)) → length (joined words) ≤ length (word_frames words)
unfolding joined
joined_within [] = omega arith
joined_within (w ∷ words) = let a = length-append w (spaced words) in omega (arith, words_more w words, spaced_within words)

carried_most : (handler : ℕ) (o : Outcome) → size (carried handler o) ≤ 70 + measure o
unfolding carried
carried_most handler (fault number told) = message_most (fault_message number) told
carried_most handler (parsed path found) = by (eqb handler 0)
  where
    by : (t : Bool) → size (cond t (text 8 (message NoHandler (joined path))) (handed handler (told_in (parsed path found)))) ≤ 70 + measure (parsed path found)
    by true = omega (arith, message_most NoHandler (joined path), joined_within path, path_within path found)
    by false = omega arith

-- EACH KIND OF LINE
module _ (frames : List Frame) (k : Few 256 32 32 frames) where
  execute_most : (words : List (List ℕ)) → size (execute frames words) ≤ 102 + 39 * length (word_frames words)
  unfolding execute execute_in
  execute_most [] = omega (arith, carried_most 0 (fault 4 empty_command))
  execute_most (w ∷ words) = omega (arith, carried_most (handler_of (descend 1 (subtree 0 w frames) (w ∷ []) words).frames) (parse_in (subtree 0 w frames) w words), parse_most (subtree 0 w frames) 256 (few_subtree 0 w frames 256 k) w words)

  reply_most : (reply : Reply) (n : ℕ) → ReplyWithin 256 n reply → size (help_said reply) ≤ 52700 + 6 * n
  reply_most (said bytes) n h = omega arith
  reply_most (unknown word) n h = omega (arith, unknown_most word)
  reply_most wordless n h = omega arith

  help_most : (line : List ℕ) → length line ≤ 255 → size (help_said (help_of frames (help_words line))) ≤ 65533
  unfolding help_words
  help_most line h =
      let words : List (List ℕ) = words_between (drop 5 line) in
      omega (arith, reply_most (help_of frames words) (length (spaced words)) (help_within frames 256 k words), spaced_most (drop 5 line), length-drop 5 line)

  command_most : (line : List ℕ) → length line ≤ 255 → well_formed_length line ≡ length line → size (execute frames (words_of (trimmed line))) ≤ 65533
  unfolding written
  command_most line h e = omega (arith, execute_most (words_of (trimmed line)), written_most (trimmed line) (trimmed_whole line e), trimmed_short line)

  other_most : (line : List ℕ) → length line ≤ 255 → well_formed_length line ≡ length line → size (other_said frames line) ≤ 65533
  unfolding other_said
  other_most line h e = by (begins_help line) (blank line)
    where
      by : (t u : Bool) → size (cond t (help_said (help_of frames (help_words line))) (cond u silence (execute frames (words_of (trimmed line))))) ≤ 65533
      by true u = help_most line h
      by false true = omega arith
      by false false = command_most line h e

  line_most : (line : List ℕ) → length line ≤ 255 → well_formed_length line ≡ length line → size (line_said frames line) ≤ 65533
  unfolding line_said
  line_most line h e = by (builtin_of (trimmed line))
    where
      by : (b : Builtin) → size (on_builtin b (text 0 (available_text frames)) farewell (text 0 clear_screen) (other_said frames line)) ≤ 65533
      by Help = omega (arith, available_most frames 256 k)
      by Exit = omega (arith, goodbye_most)
      by Clear = omega (arith, clear_most)
      by None = other_most line h e

  said_most : (line : List ℕ) → length line ≤ 255 → size (said_of frames line) ≤ 65533
  unfolding said_of
  said_most line h = by (ltb (well_formed_length line) (length line)) refl
    where
      by : (t : Bool) → ltb (well_formed_length line) (length line) ≡ t → size (cond t (text 3 ill_formed) (line_said frames line)) ≤ 65533
      by true q = omega (arith, ill_formed_most)
      by false q = line_most line h (omega (arith, prefix_fits line, ltb-false (well_formed_length line) (length line) q))

-- THE BOUND
pub said_fits : (image line : List ℕ) → Bytes image → check_tree image ≡ Ok tt → length line ≤ 255 → length (bytes_of (said_of (frames_of image) line)) ≤ 65533
said_fits image line b good h =
    said_most (frames_of image) (obey_few (frames_of image) start 256 32 32 refl refl refl (good_well_formed image b good).obey) line h

-- so such a line is answered in full, and never with 9
module _ (image line out left : List ℕ) (r : Result Ran RunRefusal) (b : Bytes image) (good : check_tree image ≡ Ok tt) (h : length line ≤ 255) (room : 65533 ≤ length out) (run : Running image line out r left) where
  fits : ltb (length out) (length (bytes_of (said_of (frames_of image) line))) ≡ false
  fits = let most = said_fits image line b good h in le-ltb (length out) (length (bytes_of (said_of (frames_of image) line))) (omega arith)

  pub run_answered : r ≡ named (said_of (frames_of image) line) (length (bytes_of (said_of (frames_of image) line)))
  unfolding run_answer said_answer
  run_answered = run.answer ∙ rw (good, le-ltb 1024 (length line) (omega arith), fits)

  pub run_written : left ≡ over (bytes_of (said_of (frames_of image) line)) out
  unfolding run_leaves said_leaves
  run_written = run.bytes ∙ rw (good, le-ltb 1024 (length line) (omega arith), fits)

  pub run_has_room : (n : ℕ) → r ≡ Err (NoRoom n) → ⊥
  run_has_room n e = by (said_of (frames_of image) line) (sym run_answered ∙ e)
    where
      by : (s : Said) → named s (length (bytes_of s)) ≡ Err (NoRoom n) → ⊥
      by silence q = let z : ◌≡◌ {A = ℕ} 0 1 = cc in omega arith
      by (text number bytes) q = let z : ◌≡◌ {A = ℕ} 0 1 = cc in omega arith
      by farewell q = let z : ◌≡◌ {A = ℕ} 0 1 = cc in omega arith
      by (handed handler report) q = let z : ◌≡◌ {A = ℕ} 0 1 = cc in omega arith
