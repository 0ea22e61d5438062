-- An editor's part of a saved state: 261 bytes, the mode, the line's length, the cursor, the 255 bytes of the line, then the profile and how far a
-- sequence is read. What they hold counts where it is good (STANDARD 4.2, 4.4).
use Rattle.std.specs.Prelude.{ℕ, ◌≤◌, Bool, false, cond, List, [], ◌∷◌, ◌++◌, eqb, length, take, drop, get_or, Some, None, Option}
use Rattle.keys.specs.declared.standing.Progress.{Progress}
use Rattle.keys.specs.Modes.{is_profile, profile_number, profile_of, mode_number, progress_of, is_mode, mode_of}
use Rattle.editor.specs.declared.line.Editor.{Editor}
use Rattle.editor.specs.Line.{good_editor}

-- how many bytes that is: `Editor::SAVED`
unfoldable pub saved_size : ℕ
saved_size = 261

-- (4.2)
unfoldable pub saved_of : Editor → List ℕ
saved_of e =
    mode_number e.mode ∷ e.length ∷ e.cursor
    ∷ (e.line ++ (profile_number e.profile ∷ (progress_of e.mode).read ∷ (progress_of e.mode).parameter ∷ []))

-- how far a sequence is read (4.2)
abbrev pub progress_in : List ℕ → Progress
progress_in bytes = record { read = get_or bytes 259 0; parameter = get_or bytes 260 0 }

-- the editor that bytes hold (4.2)
unfoldable pub saved_in : List ℕ → Editor
saved_in bytes =
    record {
      line = take 255 (drop 3 bytes);
      length = get_or bytes 1 0;
      cursor = get_or bytes 2 0;
      mode = mode_of (get_or bytes 0 0) (progress_in bytes);
      profile = profile_of (get_or bytes 258 0);
    }

-- the number of a profile, and of a mode with what belongs to it (4.4)
unfoldable pub has_keys : List ℕ → Bool
has_keys bytes = cond (is_profile (get_or bytes 258 0)) (is_mode (get_or bytes 0 0) (progress_in bytes)) false

-- and an editor's length (4.4)
unfoldable pub has_form : List ℕ → Bool
has_form bytes = cond (eqb (length bytes) saved_size) (has_keys bytes) false

-- bytes that are an editor: they have its form, and the editor that they hold is good (4.4)
unfoldable pub is_saved : List ℕ → Bool
is_saved bytes = cond (has_form bytes) (good_editor (saved_in bytes)) false

-- what is restored: the editor, or none (4.2)
unfoldable pub restored : List ℕ → Option Editor
restored bytes = cond (is_saved bytes) (Some (saved_in bytes)) None

-- numbers that fit their bytes, as those of a good editor do
pub record Fits (e : Editor) : Type 0 where
  pub size : e.length ≤ 255
  pub cursor : e.cursor ≤ 255
