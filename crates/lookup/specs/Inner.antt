-- What only contracts of inner functions cite: one frame of a search, and one of the pass over a node's definitions.
use Rattle.std.specs.Prelude.{ℕ, Bool, cond, List, Some, None, Option}
use Rattle.image.specs.Frames.{Perhaps, Frame, node, option, flag}
use Rattle.image.specs.Reading.{Read, read, broken, ended}
use Rattle.lookup.specs.declared.definition.Asked.{Asked}
use Rattle.lookup.specs.declared.definition.Asked.TheVariants.{Key, Short}
use Rattle.lookup.specs.declared.definition.Match.{Match}
use Rattle.lookup.specs.declared.definition.Match.TheVariants.{FlagHit, OptionHit, Pass as MatchPass, Stop as MatchStop}
use Rattle.lookup.specs.declared.look.Sought.{Sought}
use Rattle.lookup.specs.declared.look.Look.{Look}
use Rattle.lookup.specs.declared.look.Look.TheVariants.{Hit, Pass, Stop}
use Rattle.lookup.specs.Searches.{keyed, wanted, ended_by}
use Rattle.lookup.specs.Definitions.{short_is, has_key, has_short}

-- the first of two spots
abbrev pub or_else : Option ℕ → Option ℕ → Option ℕ
or_else (Some p) x = Some p
or_else None x = x

-- a definition of that short, name and long is asked for
abbrev pub asked_in : Asked → ℕ → List ℕ → Perhaps → Bool
asked_in (Key key) short name long = keyed key.now name long
asked_in (Short code) short name long = short_is code short

-- the definitions that are asked for
abbrev pub has_asked : Asked → Frame → Bool
has_asked (Key key) = has_key key.now
has_asked (Short code) = has_short code

-- one frame of the pass over definitions
abbrev pub match_at : (Frame → Bool) → Frame → ℕ → Match
match_at has (node d h name description usage) size = MatchStop
match_at has (option r c name long description) size = cond (has (option r c name long description)) (OptionHit size) (MatchPass size)
match_at has (flag c name long description) size = cond (has (flag c name long description)) FlagHit (MatchPass size)

abbrev pub match_by : (Frame → Bool) → Read → Match
match_by has (read f n) = match_at has f n
match_by has broken = MatchStop
match_by has ended = MatchStop

-- one frame of a search
abbrev pub hit_or : Bool → ℕ → Look
hit_or hit size = cond hit Hit (Pass size)

abbrev pub look_at : Sought → List ℕ → Frame → ℕ → Look
look_at sought key f size = cond (ended_by sought f) Stop (hit_or (wanted sought key f) size)

abbrev pub look_by : (Frame → Bool) → (Frame → Bool) → Read → Look
look_by want ends (read f n) = cond (ends f) Stop (hit_or (want f) n)
look_by want ends broken = Stop
look_by want ends ended = Stop
