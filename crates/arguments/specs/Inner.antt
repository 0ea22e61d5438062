-- What only contracts of inner calls cite. How the code holds where a line stands: tables for the maps, frames in a lent buffer for the positional words, parts of the split words
-- and of the image for keys and texts.
use Rattle.std.specs.Prelude.{ℕ, ◌+◌, ◌-◌, ◌<◌, ◌≤◌, ◌≡◌, List, ◌++◌, length, take, drop, replicate, Option, Some, None}
use Rattle.std.specs.Borrow.{MutBor}
use denote.Triple.Both.{Both}
use Rattle.text.specs.Unicode.{WellFormed}
use Rattle.text.specs.Decoding.{codes_in}
use Rattle.frame.specs.Framed.{frame_first}
use Rattle.frame.specs.Limits.{frames_limit}
use Rattle.frame.specs.Series.{texts_in, Whole, AllFrames}
use Rattle.frame.specs.declared.framed.Framed.TheVariants.{Frame as FrameOf}
use Rattle.image.specs.Frames.{Frame}
use Rattle.tree.specs.Images.{frames_of}
use Rattle.tree.specs.Rules.{image_limit}
use Rattle.tree.specs.Subtrees.{up_to}
use Rattle.lookup.specs.Searches.{is_node}
use Rattle.words.proofs.GoodWords.{Each, Good}
use Rattle.table.specs.Map.{put_within}
use Rattle.table.specs.Inner.{part_of, source_of, map_of, tabled, capacity, Fit}
use Rattle.table.specs.declared.packing.Source.{Source}
use Rattle.table.specs.declared.packing.Span.{Span}
use Rattle.arguments.specs.Meanings.{Means, a_flag, an_option, nothing}
use Rattle.arguments.specs.Forms.{dash, long_form, form_of}
use Rattle.arguments.specs.Arguments.{Found, Insert, none_found, with_option, with_flag, Stand, go, wait, unknown_option, missing_value, short_step, short_steps, form_step, word_step, args}
use Rattle.arguments.specs.declared.standing.FaultText.{FaultText}
use Rattle.arguments.specs.declared.standing.Progress.{Progress}
use Rattle.arguments.specs.declared.standing.Progress.TheVariants.{Going, Waiting, UnknownOption, MissingValue}
use Rattle.arguments.specs.declared.standing.Scan.{Scan}
use Rattle.arguments.specs.declared.standing.Stage.{Stage}
use Rattle.arguments.specs.declared.meaning.Meaning.{Meaning}
use Rattle.arguments.specs.declared.meaning.Meaning.TheVariants.{Flag, Option as OptionOf}

-- the definitions that stand in bytes from a place on
unfoldable pub definitions_at : List ℕ → ℕ → List Frame
definitions_at image at = up_to is_node (frames_of (drop at image))

-- a table's insert
abbrev pub stored : Insert
stored = put_within capacity

-- the text that a fault tells: dashes, and a part of the words
abbrev pub told_of : List ℕ → FaultText → List ℕ
told_of words t = replicate t.dashes dash ++ part_of words t.start t.length

unfoldable pub found_of : List ℕ → List ℕ → List ℕ → Scan → Found
found_of words image rest s =
    record {
      options = map_of words image s.options;
      flags = map_of words image s.flags;
      positionals = texts_in (take s.kept rest);
    }

abbrev pub stand_by : List ℕ → List ℕ → Found → Progress → Stand
stand_by words image f Going = go f
stand_by words image f (Waiting source key told) = wait f (part_of (source_of words image source) key.start key.length) (told_of words told)
stand_by words image f (UnknownOption told) = unknown_option (told_of words told)
stand_by words image f (MissingValue told) = missing_value (told_of words told)

unfoldable pub stand_of : List ℕ → List ℕ → List ℕ → Scan → Stand
stand_of words image rest s = stand_by words image (found_of words image rest s) s.progress

-- while words are read, the tables are lent
abbrev pub held : List ℕ → List ℕ → Stage → Scan
held o f s = record { options = tabled s.options o; flags = tabled s.flags f; kept = s.kept; progress = s.progress }

abbrev pub fresh : Stage
fresh = record { options = 0; flags = 0; kept = 0; progress = Going }

-- what a name means, told by where it stands in the image
abbrev pub means_of : List ℕ → Option Meaning → Means
means_of image None = nothing
means_of image (Some (Flag name)) = a_flag (part_of image name.start name.length)
means_of image (Some (OptionOf name)) = an_option (part_of image name.start name.length)

-- places small enough to be packed
abbrev pub KeySmall : Progress → Type 0
KeySmall Going = Unit
KeySmall (Waiting source key told) = (key.start < 0x10000) × (key.length < 0x10000)
KeySmall (UnknownOption told) = Unit
KeySmall (MissingValue told) = Unit

abbrev pub NameSmall : Option Meaning → Type 0
NameSmall None = Unit
NameSmall (Some (Flag name)) = (name.start < 0x10000) × (name.length < 0x10000)
NameSmall (Some (OptionOf name)) = (name.start < 0x10000) × (name.length < 0x10000)

-- words as they are split: frames up to the end, each of a text that is well-formed
pub record WellSplit (words : List ℕ) : Type 0 where
  pub frames : AllFrames words
  pub good : Each Good (texts_in words)

-- a state that can go on
pub record Apt (rest : List ℕ) (s : Scan) : Type 0 where
  pub small : KeySmall s.progress
  pub whole : Whole (take s.kept rest)
  pub frames : AllFrames (take s.kept rest)

-- the code's sizes: a line's words, and an image
abbrev pub Sizes : List ℕ → List ℕ → Type 0
Sizes words image = (length words ≤ frames_limit) × (length image ≤ image_limit)

-- a move that keeps no word: where it leads, whatever is kept
pub record Moved (words image : List ℕ) (s r : Scan) (to : List ℕ → Stand) : Type 0 where
  pub stand : (rest : List ℕ) → stand_of words image rest r ≡ to rest
  pub kept : r.kept ≡ s.kept
  pub small : KeySmall r.progress

-- a frame kept after those that are kept
pub record Kept (frame rest left : List ℕ) (s r : Scan) : Type 0 where
  pub options : r.options ≡ s.options
  pub flags : r.flags ≡ s.flags
  pub progress : r.progress ≡ s.progress
  pub kept : r.kept ≡ s.kept + length frame
  pub room : length left ≡ length rest
  pub bytes : take r.kept left ≡ take s.kept rest ++ frame

-- the same of a stage, whatever the tables hold
abbrev pub KeptBy : List ℕ → List ℕ → List ℕ → Stage → Stage → Type 0
KeptBy frame rest left s r = ((o f : List ℕ) → Kept frame rest left (held o f s) (held o f r)) × (r.options ≡ s.options) × (r.flags ≡ s.flags)

-- a word gone past, of a frame that takes `size` bytes
pub record Stepped (words image rest left : List ℕ) (s r : Scan) (size : ℕ) (to : Stand) : Type 0 where
  pub stand : stand_of words image left r ≡ to
  pub apt : Apt left r
  pub kept : r.kept ≤ s.kept + size
  pub room : length left ≡ length rest

-- all words gone past
pub record Scanned (words image rest left : List ℕ) (r : Scan) (to : Stand) : Type 0 where
  pub stand : stand_of words image left r ≡ to
  pub apt : Apt left r
  pub kept : r.kept ≤ length words
  pub room : length left ≡ length rest

-- WHAT EACH MOVE OF A STAGE COMES TO, from a stage s to r. Options and flags are in lent tables, o and f before the move, p and g after it.
abbrev pub Turned : Progress → Stage → Stage → Type 0
Turned progress s r =
    ((words image o f : List ℕ) → Moved words image (held o f s) (held o f r) (λ rest. stand_by words image (found_of words image rest (held o f s)) progress))
    × (r.options ≡ s.options) × (r.flags ≡ s.flags)

-- an option more, or a flag
abbrev pub OptionTaken : List ℕ → List ℕ → Source → Span → Span → List ℕ → Stage → List ℕ → Stage → Type 0
OptionTaken words image source key value o s p r =
    ((f : List ℕ) → Moved words image (held o f s) (held p f r)
    (λ rest. go (with_option stored (found_of words image rest (held o f s)) (part_of (source_of words image source) key.start key.length) (part_of words value.start value.length))))
    × Fit r.options p × (r.flags ≡ s.flags)

abbrev pub FlagTaken : List ℕ → List ℕ → Source → Span → List ℕ → Stage → List ℕ → Stage → Type 0
FlagTaken words image source key f s g r =
    ((o : List ℕ) → Moved words image (held o f s) (held o g r)
    (λ rest. go (with_flag stored (found_of words image rest (held o f s)) (part_of (source_of words image source) key.start key.length))))
    × Fit r.flags g × (r.options ≡ s.options)

-- a long form, a short one and a word of shorts, over the definitions from the place `first` on
abbrev pub LongRead : List ℕ → List ℕ → ℕ → ℕ → ℕ → List ℕ → List ℕ → Stage → List ℕ → List ℕ → Stage → Type 0
LongRead words image first start end o f s p g r =
    ((w : List ℕ) → Moved words image (held o f s) (held p g r)
    (λ rest. form_step stored (definitions_at image first) (found_of words image rest (held o f s)) w (long_form (take (end - start) (drop start words)))))
    × Fit r.options p × Fit r.flags g

abbrev pub ShortRead : List ℕ → List ℕ → ℕ → ℕ → List ℕ → Stage → List ℕ → Stage → Type 0
ShortRead words image first code f s g r =
    ((o : List ℕ) → Moved words image (held o f s) (held o g r) (λ rest. short_step stored (definitions_at image first) (stand_of words image rest (held o f s)) code))
    × Fit r.flags g × (r.options ≡ s.options)

abbrev pub ShortsRead : List ℕ → List ℕ → ℕ → ℕ → ℕ → List ℕ → Stage → List ℕ → Stage → Type 0
ShortsRead words image first start end f s g r =
    ((o : List ℕ) → Moved words image (held o f s) (held o g r)
    (λ rest. short_steps stored (definitions_at image first) (stand_of words image rest (held o f s)) (codes_in (take (end - start) (drop start words)))))
    × Fit r.flags g × (r.options ≡ s.options)

-- a slice that a call is lent: what it holds at entry and at exit
abbrev pub Slice : Type 0
Slice = Both (MutBor (List ℕ)) (MutBor (List ℕ))

-- a stage and the tables that are lent with it, gone past a word of n bytes to where `to` leads from the positional words and the scan before
abbrev pub WordPassed : List ℕ → List ℕ → ℕ → Slice → Slice → Stage → Slice → Stage → (List ℕ → Scan → Stand) → Type 0
WordPassed words image n options flags s rest r to =
    Stepped words image rest.entry.now rest.exit.now (held options.entry.now flags.entry.now s) (held options.exit.now flags.exit.now r) (3 + n)
    (to rest.entry.now (held options.entry.now flags.entry.now s))
    × Fit r.options options.exit.now × Fit r.flags flags.exit.now

-- a word that is no value, and any word: its text has n bytes and lies three bytes after the place `at`
abbrev pub ArgumentRead : List ℕ → List ℕ → ℕ → ℕ → ℕ → Slice → Slice → Stage → Slice → Stage → Type 0
ArgumentRead words image first at n options flags s rest r =
    WordPassed words image n options flags s rest r
    (λ kept scan. form_step stored (definitions_at image first) (found_of words image kept scan) (part_of words (at + 3) n) (form_of (part_of words (at + 3) n)))

abbrev pub WordRead : List ℕ → List ℕ → ℕ → ℕ → ℕ → Slice → Slice → Stage → Slice → Stage → Type 0
WordRead words image first at n options flags s rest r =
    WordPassed words image n options flags s rest r (λ kept scan. word_step stored (definitions_at image first) (stand_of words image kept scan) (part_of words (at + 3) n))

-- all words from the place `start` on
abbrev pub ArgsScanned : List ℕ → List ℕ → ℕ → ℕ → List ℕ → Scan → List ℕ → Type 0
ArgsScanned words image first start rest r left = Scanned words image rest left r (args stored (definitions_at image first) (go none_found) (texts_in (drop start words)))

abbrev pub ArgsRead : List ℕ → List ℕ → ℕ → ℕ → List ℕ → List ℕ → List ℕ → Stage → List ℕ → Type 0
ArgsRead words image first start rest p g r left = ArgsScanned words image first start rest (held p g r) left × Fit r.options p × Fit r.flags g

-- what a word of shorts asks
abbrev pub ShortsAsk : List ℕ → ℕ → ℕ → List ℕ → Stage → Type 0
ShortsAsk words start end f s =
    (start ≤ end) × (end ≤ length words) × KeySmall s.progress × Fit s.flags f × WellFormed (take (end - start) (drop start words))

-- a word at the place `at`: the frame of a well-formed text of n bytes
abbrev pub WordThere : List ℕ → ℕ → ℕ → Type 0
WordThere words at n = ((kind : ℕ) × (frame_first (drop at words) ≡ FrameOf kind n)) × WellFormed (part_of words (at + 3) n)

-- what it asks of the stage, where it is no value, and where it may be one
abbrev pub ArgumentAsks : ℕ → List ℕ → List ℕ → Stage → List ℕ → Type 0
ArgumentAsks n o f s rest = Apt rest (held o f s) × (s.progress ≡ Going) × (s.kept + 3 + n ≤ length rest) × Fit s.options o × Fit s.flags f

abbrev pub WordAsks : ℕ → List ℕ → List ℕ → Stage → List ℕ → Type 0
WordAsks n o f s rest = Apt rest (held o f s) × (s.kept + 3 + n ≤ length rest) × Fit s.options o × Fit s.flags f

-- what all words from the place `start` on ask: room for them, and tables of the full capacity
abbrev pub ArgsAsk : List ℕ → ℕ → List ℕ → List ℕ → List ℕ → Type 0
ArgsAsk words start o f rest =
    (length words ≤ length rest) × (length o ≡ capacity) × (length f ≡ capacity) × WellSplit (drop start words)
