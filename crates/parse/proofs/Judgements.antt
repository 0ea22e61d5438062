-- What a verdict rests on: the scan's stand, the command that was reached, and the limits of its node, within which a table holds what the map holds.
use Rattle.std.specs.Prelude.{Ok, Err, Option, Result, ⊤, MatchResult, IsErrAnd}
use Rattle.std.proofs.lemmas.Result.{err_from_is_err_and}
use Rattle.table.specs.declared.packing.Span.{Span}
use Prim.Native.Nat.{ℕ, suc, ◌+◌, ◌≤◌}
use mathlib.Core.Path.{◌≡◌, refl, sym, ap, ◌∙◌}
use mathlib.Core.Bool.{Bool, true, false, cond}
use mathlib.Core.List.{List, [], ◌∷◌, ◌++◌}
use mathlib.Core.Option.{Option as Maybe}
use native.Mathlib.Omega.{arith}
use borrow.Author.Tests.{leb-true}
use lib.Dec.{leb}
use lib.ListN.{length, take, drop}
use Rattle.buffer.specs.Compare.{order, same_bytes}
use Rattle.buffer.specs.Numbers.{Bytes}
use Rattle.frame.specs.Framed.{frame_first}
use Rattle.frame.specs.declared.framed.Framed.TheVariants.{Frame as Framed}
use Rattle.frame.specs.Series.{texts_in}
use Rattle.frame.proofs.Series.{words_more, all_parted}
use Rattle.table.specs.Inner.{part_of, map_of}
use Rattle.table.specs.Map.{put}
use Rattle.image.specs.Frames.{Perhaps, Frame, node, option, flag}
use Rattle.image.specs.Limits.{fair}
use Rattle.image.proofs.Fields.{both_first, both_second}
use Rattle.tree.specs.Images.{frames_of}
use Rattle.tree.specs.Rules.{is_less, after, check_tree}
use Rattle.tree.specs.Commands.{Reached, on_subtree, descend, reached_by}
use Rattle.tree.specs.Trails.{image_part, Within, Descended, Leads}
use Rattle.tree.specs.Forest.{Forest, bare, grown, flatten, options_in, flags_in, definitions_only, modest, orderly}
use Rattle.tree.proofs.WellFormedImages.{WellFormed, good_well_formed}
use Rattle.tree.proofs.Planting.{obeys_forest}
use Rattle.tree.specs.Subtrees.{up_to, subtree}
use Rattle.tree.specs.declared.command.Place.{Place}
use Rattle.lookup.specs.Searches.{is_node}
use Rattle.lookup.specs.Subtrees.{tree_named}
use Rattle.lookup.proofs.Lookups.{subtree_named, child_named, named_orderly}
use Rattle.arguments.specs.Meanings.{definitions_of}
use Rattle.arguments.specs.Inner.{definitions_at, stored, found_of, stand_by, stand_of, WellSplit, Scanned}
use Rattle.arguments.specs.Arguments.{Found, none_found, Stand, go, args}
use Rattle.arguments.specs.declared.standing.Progress.{Progress}
use Rattle.arguments.specs.declared.standing.Progress.TheVariants.{Going}
use Rattle.arguments.specs.declared.standing.Scan.{Scan}
use Rattle.arguments.proofs.Steps.{stand_by_lem}
use Rattle.arguments.proofs.Room.{options_few, flags_few, args_same}
use Rattle.words.proofs.GoodWords.{Each, also, Good as Worthy}
use Rattle.parse.proofs.Answers.{descent_keeps}
use Rattle.parse.specs.Commands.{missing_required, Outcome, parsed, fault, on_missing, outcome_of, concluded, parse_in, parse_words, empty_command}
use Rattle.parse.specs.Inner.{required_by, outcome_by, outcome_in, Parted, Judging}
use Rattle.parse.specs.declared.judging.Fault.{Fault}
use Rattle.parse.specs.declared.judging.Fault.TheVariants.{MissingRequired}
use Rattle.parse.specs.declared.judging.Judged.{Judged}

-- what is required decides: a name that is missing is the fault
pub required_decides : (words part : List ℕ) (path : List (List ℕ)) (found : Found) (v : Result ⊤ Span) (r : Result ⊤ Fault) → MatchResult v (λ x. r ≡ Ok x) (λ name. IsErrAnd r (λ f. f ≡ MissingRequired name))
    → outcome_by words part path found r ≡ on_missing (required_by part v) (λ name. fault 7 name) (parsed path found)
required_decides words part path found (Ok u) r m = ap (outcome_by words part path found) m
required_decides words part path found (Err name) r m =
    let p = err_from_is_err_and r m in
    ap (outcome_by words part path found) (p.1 ∙ ap Err p.2)

-- THE VERDICT on a scan
module _ (words part : List ℕ) (s : Scan) (defs : List Frame) (path : List (List ℕ)) (rest : List ℕ) where
  -- while it goes on, what is required decides
  pub verdict_going : (x : Maybe (List ℕ)) → s.progress ≡ Going → x ≡ missing_required defs (map_of words part s.options)
      → on_missing x (λ name. fault 7 name) (parsed path (found_of words part rest s)) ≡ outcome_of path defs (stand_of words part rest s)
  unfolding found_of
  verdict_going x e q =
      ap (λ (y : Maybe (List ℕ)). on_missing y (λ name. fault 7 name) (parsed path (found_of words part rest s))) q
      ∙ sym (ap (outcome_of path defs) (stand_by_lem words part rest s Going e))

  -- else its progress does
  pub verdict_by : (p : Progress) → s.progress ≡ p → outcome_of path defs (stand_by words part (found_of words part rest s) p) ≡ outcome_of path defs (stand_of words part rest s)
  verdict_by p e = sym (ap (outcome_of path defs) (stand_by_lem words part rest s p e))

-- THE ARGUMENTS of a command
pub arguments_judged : (words image rest left : List ℕ) (place : Place) (to : Reached) (j : Judged) («from» : ℕ)
    → Descended words image place to → j.place ≡ place → definitions_at (image_part image place) «from» ≡ definitions_of (frames_of (image_part image place))
    → Scanned words (image_part image place) rest left j.scan (args stored (definitions_at (image_part image place) «from») (go none_found) (texts_in (drop place.at words)))
    → ((path : List (List ℕ)) (rest : List ℕ) → outcome_by words (image_part image place) path (found_of words (image_part image place) rest j.scan) j.verdict ≡ outcome_of path (definitions_at (image_part image place) «from») (stand_of words (image_part image place) rest j.scan))
    → length words ≤ length rest → Parted words place.at
    → Judging words image rest left j (concluded stored to) to.frames
unfolding outcome_in concluded
arguments_judged words image rest left place to j «from» d at defs s v h p =
    record {
      outcome =
          ap (λ (p : Place). outcome_by words (image_part image p) (texts_in (take p.at words)) (found_of words (image_part image p) left j.scan) j.verdict) at
          ∙ v (texts_in (take place.at words)) left
          ∙ ap (λ (a : Stand). outcome_of (texts_in (take place.at words)) (definitions_at (image_part image place) «from») a) s.stand
          ∙ ap (λ (l : List Frame). outcome_of (texts_in (take place.at words)) l (args stored l (go none_found) (texts_in (drop place.at words)))) (defs ∙ ap definitions_of d.frames)
          ∙ ap (λ (p : List (List ℕ)). outcome_of p (definitions_of to.frames) (args stored (definitions_of to.frames) (go none_found) (texts_in (drop place.at words)))) d.path
          ∙ ap (λ (l : List (List ℕ)). outcome_of to.path (definitions_of to.frames) (args stored (definitions_of to.frames) (go none_found) l)) d.left;
      within = rw at d.within;
      kept = let k = s.kept in let l = s.room in omega arith;
      room = s.room;
      lent = λ k. record { path = rw at p.path; positionals = s.apt.frames };
      command = λ k. ap (λ (p : Place). frames_of (image_part image p)) at ∙ d.frames;
    }

-- THE LIMITS of a node
pub record Modest (fs : List Frame) : Type 0 where
  pub options : options_in (definitions_of fs) ≤ 32
  pub flags : flags_in (definitions_of fs) ≤ 32

-- a node's definitions are those before anything below it
none_up : (e : ℕ) (f : Forest) → up_to is_node (flatten e f ++ []) ≡ []
unfolding up_to flatten
none_up e bare = refl
none_up e (grown h n ds u defs below after) = refl

defs_up : (e : ℕ) (f : Forest) (defs : List Frame) → definitions_only defs ≡ true → up_to is_node (defs ++ (flatten e f ++ [])) ≡ defs
unfolding up_to definitions_only
defs_up e f [] o = none_up e f
defs_up e f (node d h n ds u ∷ l) o = absurd (let z : ◌≡◌ {A = ℕ} 0 1 = cc in omega arith)
defs_up e f (option r c n x ds ∷ l) o = ap (λ (m : List Frame). option r c n x ds ∷ m) (defs_up e f l (both_second (fair (option r c n x ds)) _ o))
defs_up e f (flag c n x ds ∷ l) o = ap (λ (m : List Frame). flag c n x ds ∷ m) (defs_up e f l (both_second (fair (flag c n x ds)) _ o))

module _ (before : List ℕ) (d h : ℕ) (n ds : List ℕ) (u : Perhaps) (defs : List Frame) (below : Forest) (o : orderly before d (grown h n ds u defs below bare) ≡ true) where
  limits : modest defs ≡ true
  unfolding orderly
  limits = both_first (modest defs) _ (both_second (fair (node d h n ds u)) _ (both_second (is_less (order before n)) _ o))

  beneath : orderly [] (suc d) below ≡ true
  unfolding orderly
  beneath = both_first (orderly [] (suc d) below) _ (both_second (modest defs) _ (both_second (fair (node d h n ds u)) _ (both_second (is_less (order before n)) _ o)))

  tree_modest : Modest (flatten d (grown h n ds u defs below bare))
  unfolding flatten definitions_of
  tree_modest =
      let only = both_first (definitions_only defs) _ limits in
      let both₂ = both_second (definitions_only defs) _ limits in
      let q = defs_up (suc d) below defs only in
      record {
        options = rw q (leb-true _ _ (both_first (leb (options_in defs) 32) _ both₂));
        flags = rw q (leb-true _ _ (both_second (leb (options_in defs) 32) _ both₂));
      }

-- a tree by its name stands alone
abbrev Alone : Forest → Type 0
Alone bare = Unit
Alone (grown h n ds u defs below after) = after ≡ bare

named_alone : (w : List ℕ) (f : Forest) → Alone (tree_named w f)
unfolding tree_named
named_alone w bare = tt
named_alone w (grown h n ds u defs below after) = by (same_bytes n w) (named_alone w after)
  where
    by : (t : Bool) → Alone (tree_named w after) → Alone (cond t (grown h n ds u defs below bare) (tree_named w after))
    by true more = refl
    by false more = more

-- the child that a word names, if there is one
module _ (d : ℕ) (frames : List Frame) (path : List (List ℕ)) (w : List ℕ) (l : List (List ℕ)) where
  abbrev onto : List Frame → Reached
  onto c = descend (suc (suc d)) c (path ++ (w ∷ [])) l

  abbrev stay : Reached
  stay = record { path = path; words = w ∷ l; frames = frames }

  abbrev Below : Type 0
  Below = (m : List ℕ) (h : ℕ) (n ds : List ℕ) (u : Perhaps) (defs : List Frame) (below : Forest) → orderly m (suc d) (grown h n ds u defs below bare) ≡ true
      → Modest (onto (flatten (suc d) (grown h n ds u defs below bare))).frames

  alone_modest : (m : List ℕ) (h : ℕ) (n ds : List ℕ) (u : Perhaps) (defs : List Frame) (below after : Forest) → after ≡ bare → orderly m (suc d) (grown h n ds u defs below after) ≡ true
      → Below → Modest (onto (flatten (suc d) (grown h n ds u defs below after))).frames
  alone_modest m h n ds u defs below after a o more = rw a (more m h n ds u defs below (rw a at o))

  child_modest : (t : Forest) → Alone t → (m : List ℕ) → orderly m (suc d) t ≡ true → Modest frames → Below → Modest (on_subtree (flatten (suc d) t) stay onto).frames
  unfolding flatten
  child_modest bare a m o here more = here
  child_modest (grown h n ds u defs below after) a m o here more = alone_modest m h n ds u defs below after a o more

-- THE WHOLE DESCENT stays within the limits
descent_modest : (l : List (List ℕ)) (path : List (List ℕ)) (before : List ℕ) (d h : ℕ) (n ds : List ℕ) (u : Perhaps) (defs : List Frame) (below : Forest)
    → orderly before d (grown h n ds u defs below bare) ≡ true → Modest (descend (suc d) (flatten d (grown h n ds u defs below bare)) path l).frames
unfolding descend
descent_modest [] path before d h n ds u defs below o = tree_modest before d h n ds u defs below o
descent_modest (w ∷ l) path before d h n ds u defs below o =
    let x = named_orderly below [] (suc d) w (beneath before d h n ds u defs below o) in
    rw (child_named h n ds u defs below before d w o)
    (child_modest d (flatten d (grown h n ds u defs below bare)) path w l (tree_named w below) (named_alone w below) x.0 x.1 (tree_modest before d h n ds u defs below o)
    (λ m h₂ n₂ ds₂ u₂ defs₂ below₂ o₂. descent_modest l (path ++ (w ∷ [])) m (suc d) h₂ n₂ ds₂ u₂ defs₂ below₂ o₂))

-- the command of a first word, in a forest
command_modest : (t : Forest) → Alone t → (m : List ℕ) → orderly m 0 t ≡ true → (l path : List (List ℕ)) (g : Frame) (rest : List Frame) → flatten 0 t ≡ g ∷ rest → Modest (descend 1 (flatten 0 t) path l).frames
unfolding flatten
command_modest bare a m o l path g rest e = absurd (let z : ◌≡◌ {A = ℕ} 0 1 = cc in omega arith)
command_modest (grown h n ds u defs below after) a m o l path g rest e = only h n ds u defs below after a o
  where
    only : (h : ℕ) (n ds : List ℕ) (u : Perhaps) (defs : List Frame) (below after : Forest) → after ≡ bare → orderly m 0 (grown h n ds u defs below after) ≡ true
        → Modest (descend 1 (flatten 0 (grown h n ds u defs below after)) path l).frames
    only h n ds u defs below after a o = rw a (descent_modest l path m 0 h n ds u defs below (rw a at o))

-- within the limits a table's insert is the map's
pub concluded_same : (r : Reached) → Modest r.frames → concluded put r ≡ concluded stored r
unfolding concluded
concluded_same r m =
    let a = options_few (definitions_of r.frames) in
    let b = flags_few (definitions_of r.frames) in
    let c = m.options in
    let d = m.flags in
    let s = args_same (definitions_of r.frames) (omega arith) (omega arith) r.words in
    ap (outcome_of r.path (definitions_of r.frames)) s.same

-- A WELL-FORMED IMAGE
module _ (image : List ℕ) (b : Bytes image) (good : check_tree image ≡ Ok tt) where
  whole_image : WellFormed image (frames_of image)
  whole_image = good_well_formed image b good

  pub good_short : length image ≤ 32768
  good_short = whole_image.short

  subtree_modest : (w : List ℕ) (l path : List (List ℕ)) (g : Frame) (rest : List Frame) → subtree 0 w (frames_of image) ≡ g ∷ rest → Modest (descend 1 (subtree 0 w (frames_of image)) path l).frames
  subtree_modest w l path g rest e =
      let f = obeys_forest (frames_of image) whole_image.obey in
      let q : subtree 0 w (frames_of image) ≡ flatten 0 (tree_named w f.forest) = ap (subtree 0 w) f.flattened ∙ subtree_named f.forest [] 0 w f.rising in
      let o = named_orderly f.forest [] 0 w f.rising in
      rw q (command_modest (tree_named w f.forest) (named_alone w f.forest) o.0 o.1 l path g rest (sym q ∙ e))

-- a path keeps the words that it begins with
path_begins : (l : List (List ℕ)) (d : ℕ) (fs : List Frame) (w : List ℕ) (p : List (List ℕ)) → (q : List (List ℕ)) × ((descend d fs (w ∷ p) l).path ≡ w ∷ q)
unfolding descend
path_begins [] d fs w p = (p, refl)
path_begins (x ∷ l) d fs w p = by (subtree d x fs) (λ c. path_begins l (suc d) c w (p ++ (x ∷ [])))
  where
    by : (c : List Frame) → ((c : List Frame) → (q : List (List ℕ)) × ((descend (suc d) c (w ∷ (p ++ (x ∷ []))) l).path ≡ w ∷ q))
        → (q : List (List ℕ)) × ((on_subtree c (record { path = w ∷ p; words = x ∷ l; frames = fs }) (λ child. descend (suc d) child (w ∷ (p ++ (x ∷ []))) l)).path ≡ w ∷ q)
    by [] more = (p, refl)
    by (f ∷ m) more = more (f ∷ m)

-- THE FIRST WORD
module _ (words image : List ℕ) (kind n : ℕ) (e : frame_first words ≡ Framed kind n) (bi : Bytes image) (good : check_tree image ≡ Ok tt) where
  abbrev first : List ℕ
  first = part_of words 3 n

  abbrev later : List (List ℕ)
  later = texts_in (drop (3 + n) words)

  abbrev command : List Frame
  command = subtree 0 first (frames_of image)

  texts_first : texts_in words ≡ first ∷ later
  texts_first = words_more words 0 kind n e

  -- the descent from the top of the tree, by the subtree of the first word
  abbrev reached : List Frame → Reached
  reached c = on_subtree c (record { path = []; words = first ∷ later; frames = frames_of image }) (λ child. descend 1 child (first ∷ []) later)

  from_top : (c : List Frame) → command ≡ c → reached_by image words ≡ reached c
  unfolding reached_by descend
  from_top c q = ap (descend 0 (frames_of image) []) texts_first ∙ ap reached q

  -- it names none: the path is empty
  pub first_unknown : (reached_by image words).path ≡ [] → fault 4 first ≡ parse_words (frames_of image) (texts_in words)
  unfolding parse_words parse_in
  first_unknown no-path = sym (ap (parse_words (frames_of image)) texts_first ∙ ap (λ (fs : List Frame). parse_in fs first later) (by command refl))
    where
      by : (c : List Frame) → command ≡ c → command ≡ []
      by [] q = q
      by (g ∷ m) q =
          let p = path_begins later 1 (g ∷ m) first [] in
          let x : first ∷ p.0 ≡ [] = sym p.1 ∙ sym (ap (λ (r : Reached). r.path) (from_top (g ∷ m) q)) ∙ no-path in
          absurd (let y : ◌≡◌ {A = ℕ} 0 1 = cc in omega arith)

  -- it names a command, and the words lead into it
  module _ (named : (reached_by image words).path ≡ [] → ⊥) where
    there : (g : Frame) × ((m : List Frame) × (command ≡ g ∷ m))
    there = by command refl
      where
        by : (c : List Frame) → command ≡ c → (g : Frame) × ((m : List Frame) × (command ≡ g ∷ m))
        by [] q = absurd (named (ap (λ (r : Reached). r.path) (from_top [] q)))
        by (g ∷ m) q = (g, (m, q))

    says : (g : Frame) (m : List Frame) → command ≡ g ∷ m → concluded put (descend 1 command (first ∷ []) later) ≡ parse_in command first later
    unfolding parse_in
    says g m q =
        ap (λ (fs : List Frame). concluded put (descend 1 fs (first ∷ []) later)) q
        ∙ sym (ap (λ (fs : List Frame). on_subtree fs (fault 4 first) (λ found. concluded put (descend 1 found (first ∷ []) later))) q)

    pub first_judged : concluded stored (reached_by image words) ≡ parse_words (frames_of image) (texts_in words)
    unfolding parse_words
    first_judged =
        let m = subtree_modest image bi good first later (first ∷ []) there.0 there.1.0 there.1.1 in
        ap (concluded stored) (from_top (there.0 ∷ there.1.0) there.1.1 ∙ sym (ap (λ (fs : List Frame). descend 1 fs (first ∷ []) later) there.1.1))
        ∙ sym (concluded_same (descend 1 command (first ∷ []) later) m)
        ∙ says there.0 there.1.0 there.1.1
        ∙ sym (ap (parse_words (frames_of image)) texts_first)

-- what was found, by what it is
pub leads_as : (words image : List ℕ) (x y : Option Place) (r : Reached) → x ≡ y → Leads words image x r → Leads words image y r
leads_as words image x y r e l = rw e at l

-- THE WORDS that lead to a command are parted after its path
each_later : (l m : List (List ℕ)) → Each Worthy (l ++ m) → Each Worthy m
each_later [] m e = e
each_later (w ∷ l) m (also g e) = each_later l m e

pub words_parted : (words image : List ℕ) (place : Place) → WellSplit words → Descended words image place (reached_by image words) → Parted words place.at
unfolding reached_by
words_parted words image place s d =
    let e : texts_in words ≡ texts_in (take place.at words) ++ texts_in (drop place.at words) =
    sym (descent_keeps (texts_in words) 0 (frames_of image) [])
    ∙ ap (λ (l : List (List ℕ)). l ++ (descend 0 (frames_of image) [] (texts_in words)).words) (sym d.path)
    ∙ ap (λ (l : List (List ℕ)). texts_in (take place.at words) ++ l) (sym d.left)
    in
    let f = all_parted words place.at s.frames e in
    record { path = f.0; later = record { frames = f.1; good = each_later (texts_in (take place.at words)) (texts_in (drop place.at words)) (rw e at s.good) } }

-- a judgement told in other words
pub judged_as : (words image rest left : List ℕ) (j : Judged) (a b : Outcome) (f g : List Frame) → a ≡ b → f ≡ g → Judging words image rest left j a f → Judging words image rest left j b g
judged_as words image rest left j a b f g e q x = record { outcome = x.outcome ∙ e; within = x.within; kept = x.kept; room = x.room; lent = x.lent; command = λ k. x.command k ∙ q }

-- a fault where there is no command
pub judged_without : (words image rest : List ℕ) (j : Judged) (f : Fault) (o : Outcome) (frames : List Frame) → j.verdict ≡ Err f → j.scan.kept ≡ 0 → ((words image : List ℕ) → Within words image j.place)
    → ((part : List ℕ) (path : List (List ℕ)) (found : Found) → outcome_by words part path found (Err f) ≡ o) → Judging words image rest rest j o frames
unfolding outcome_in
judged_without words image rest j f o frames e k w q =
    record {
      outcome = ap (outcome_by words (image_part image j.place) (texts_in (take j.place.at words)) (found_of words (image_part image j.place) rest j.scan)) e
          ∙ q (image_part image j.place) (texts_in (take j.place.at words)) (found_of words (image_part image j.place) rest j.scan);
      within = w words image;
      kept = omega arith;
      room = refl;
      lent = λ z. cc;
      command = λ z. cc;
    }

pub no_words_lem : (words image : List ℕ) → texts_in words ≡ [] → fault 4 empty_command ≡ parse_words (frames_of image) (texts_in words)
unfolding parse_words
no_words_lem words image e = sym (ap (parse_words (frames_of image)) e)
