-- The four parts of a report: how long they are together, and where each goes.
use Prim.Native.Nat.{ℕ, ◌+◌, ◌-◌, ◌≤◌}
use mathlib.Core.Path.{◌≡◌, refl}
use mathlib.Core.List.{List, ◌++◌}
use native.Mathlib.Omega.{arith}
use lib.ListN.{length, take, drop, length-append}
use borrow.Rule.Slice.PartMut.{put_mid}
use Rattle.buffer.specs.Write.{over, Written}
use Rattle.frame.specs.Framed.{frame_of}
use Rattle.frame.specs.Series.{texts_in, runs}
use Rattle.table.specs.Inner.{map_of}
use Rattle.table.specs.declared.sorted.Table.{Table}
use Rattle.report.specs.Report.{option_frame, flag_frame, report_of}
use Rattle.report.specs.Inner.{report_held}
use Rattle.report.proofs.Ahead.{Ahead, ahead_first, ahead_lent, ahead_turn, last_lent, ahead_last}

module _ (words image path : List ℕ) (options flags : Table) (rest : List ℕ) where
  abbrev whole : List ℕ
  whole = report_held words image path options flags rest

  -- the parts
  abbrev path_part : List ℕ
  path_part = runs (frame_of 0x11) (texts_in path)

  abbrev options_part : List ℕ
  options_part = runs option_frame (map_of words image options)

  abbrev flags_part : List ℕ
  flags_part = runs flag_frame (map_of words image flags)

  abbrev rest_part : List ℕ
  rest_part = runs (frame_of 0x14) (texts_in rest)

  pub report_length : length whole ≡ length path_part + length rest_part + length options_part + length flags_part
  unfolding report_of
  report_length = simp length-append (omega arith)

  -- where the code stands after the path words, after the options, after the flags
  abbrev pub AfterPath : List ℕ → ℕ → List ℕ → Type 0
  AfterPath out o mid = Ahead whole out (options_part ++ (flags_part ++ rest_part)) o mid

  abbrev pub AfterOptions : List ℕ → ℕ → List ℕ → Type 0
  AfterOptions out o mid = Ahead whole out (flags_part ++ rest_part) o mid

  abbrev pub AfterFlags : List ℕ → ℕ → List ℕ → Type 0
  AfterFlags out o mid = Ahead whole out rest_part o mid

  -- each part fits into the rest that is lent, and once it is written what is after it is ahead
  module _ (out : List ℕ) (fits : length whole ≤ length out) where
    pub path_written : (o : ℕ) (left : List ℕ) → Written path_part out o left → AfterPath out o left
    unfolding report_of
    path_written o left w = ahead_first whole out fits path_part (options_part ++ (flags_part ++ rest_part)) o left refl w

    module _ (o : ℕ) (mid : List ℕ) where
      pub options_lent : AfterPath out o mid → length options_part ≤ length (take (length mid - o) (drop o mid))
      options_lent a = ahead_lent whole out _ options_part (flags_part ++ rest_part) o mid a refl fits

      pub options_written : AfterPath out o mid → (n : ℕ) (left : List ℕ) → Written options_part (take (length mid - o) (drop o mid)) n left
          → AfterOptions out (o + n) (put_mid o (length mid - o) mid left)
      options_written a n left w = ahead_turn whole out _ options_part (flags_part ++ rest_part) o mid a refl fits n left w

      pub flags_lent : AfterOptions out o mid → length flags_part ≤ length (take (length mid - o) (drop o mid))
      flags_lent a = ahead_lent whole out _ flags_part rest_part o mid a refl fits

      pub flags_written : AfterOptions out o mid → (n : ℕ) (left : List ℕ) → Written flags_part (take (length mid - o) (drop o mid)) n left
          → AfterFlags out (o + n) (put_mid o (length mid - o) mid left)
      flags_written a n left w = ahead_turn whole out _ flags_part rest_part o mid a refl fits n left w

      pub rest_lent : AfterFlags out o mid → length rest_part ≤ length (take (length mid - o) (drop o mid))
      rest_lent a = last_lent whole out fits rest_part o mid a

      pub rest_written : AfterFlags out o mid → (n : ℕ) (left : List ℕ) → Written rest_part (take (length mid - o) (drop o mid)) n left
          → put_mid o (length mid - o) mid left ≡ over whole out
      rest_written a n left w = (ahead_last whole out fits rest_part o mid a n left w).bytes
