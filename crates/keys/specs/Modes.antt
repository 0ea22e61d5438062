-- Which modes bytes lead to (STANDARD 2.6, 3.13), and a profile, a mode and how far a sequence is read as numbers (4.2).
use Rattle.std.specs.Prelude.{ℕ, Bool, true, false, cond, ltb, leb, eqb, Ok, Err, Result, Some, None, Option}
use Rattle.keys.specs.declared.standing.Profile.{Profile}
use Rattle.keys.specs.declared.standing.Profile.TheVariants.{Rust, Ecma48}
use Rattle.keys.specs.declared.standing.Progress.{Progress}
use Rattle.keys.specs.declared.numbers.NoProfile.{NoProfile}
use Rattle.keys.specs.declared.standing.Mode.{Mode}
use Rattle.keys.specs.declared.standing.Mode.TheVariants.{Typing, Escape, Sequence, Control}

-- nothing of a control sequence is read (2.14)
abbrev pub unread : Progress
unread = record { read = 0; parameter = 0 }

-- the parameter where what is read is no single digit that counts (4.2)
unfoldable pub other : ℕ
other = 255

-- the bytes that are read after ESC `[` at most, before the final one (2.26)
unfoldable pub longest : ℕ
longest = 15

-- the parameters that one byte makes (4.2)
unfoldable pub single : ℕ → Bool
single n = cond (eqb n 1) true (cond (eqb n 3) true (cond (eqb n 4) true (cond (eqb n 7) true (cond (eqb n 8) true (eqb n other)))))

-- bytes lead to it: no byte and no parameter, one byte and what it makes, two to fifteen and the parameter 255 (3.13)
unfoldable pub good_progress : Progress → Bool
good_progress p =
    cond (eqb p.read 0) (eqb p.parameter 0)
    (cond (eqb p.read 1) (single p.parameter)
    (cond (leb p.read longest) (eqb p.parameter other)
    false))

-- each profile has its own mode after ESC `[` (2.6, 3.13)
abbrev pub good_mode : Profile → Mode → Bool
good_mode profile Typing = true
good_mode profile Escape = true
good_mode Rust Sequence = true
good_mode Ecma48 Sequence = false
good_mode Rust (Control p) = false
good_mode Ecma48 (Control p) = good_progress p

-- so many bytes without ESC bring typing back from every mode of a profile (2.17, 2.29)
abbrev pub patience : Profile → ℕ
patience Rust = 2
patience Ecma48 = 17

-- (4.2)
unfoldable pub is_profile : ℕ → Bool
is_profile n = leb n 1

-- (4.2)
abbrev pub profile_number : Profile → ℕ
profile_number Rust = 0
profile_number Ecma48 = 1

-- (4.2)
unfoldable pub profile_of : ℕ → Profile
profile_of n = cond (eqb n 0) Rust Ecma48

-- the profile of a number, if one has it (4.2)
abbrev pub profile_in : ℕ → Result Profile NoProfile
profile_in n = cond (is_profile n) (Ok (profile_of n)) (Err (record { number = n }))

-- (2.6, 4.2)
abbrev pub mode_number : Mode → ℕ
mode_number Typing = 0
mode_number Escape = 1
mode_number Sequence = 2
mode_number (Control p) = 3

-- (4.2)
abbrev pub progress_of : Mode → Progress
progress_of Typing = unread
progress_of Escape = unread
progress_of Sequence = unread
progress_of (Control p) = p

-- outside a control sequence nothing of one is read (4.4)
unfoldable pub is_mode : ℕ → Progress → Bool
is_mode n p = cond (ltb n 3) (cond (eqb p.read 0) (eqb p.parameter 0) false) (eqb n 3)

-- (2.6, 4.2)
unfoldable pub mode_of : ℕ → Progress → Mode
mode_of n p = cond (eqb n 0) Typing (cond (eqb n 1) Escape (cond (eqb n 2) Sequence (Control p)))

-- the mode of a number, if one has it (4.4)
abbrev pub mode_in : ℕ → Progress → Option Mode
mode_in n p = cond (is_mode n p) (Some (mode_of n p)) None
