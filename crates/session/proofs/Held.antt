-- A session from its first line on: what the calls hold is where the definitions say that the session stands, key after key.
use Rattle.std.specs.Prelude.{Ok}
use Prim.Native.Nat.{ℕ, ◌≤◌}
use mathlib.Core.Path.{◌≡◌, refl, sym, ap, ◌∙◌, subst}
use mathlib.Core.Bool.{Bool, true, false, cond}
use mathlib.Core.List.{List}
use lib.ListN.{length}
use Rattle.tree.specs.Images.{frames_of}
use Rattle.tree.specs.Rules.{check_tree}
use Rattle.tree.proofs.Grown.{Stands, start_stands, stands_good}
use Rattle.history.specs.Journal.{no_entries, slots_of as journal_slots}
use Rattle.history.specs.declared.stepping.History.{History}
use Rattle.keys.specs.declared.standing.Profile.{Profile}
use Rattle.editor.specs.declared.line.Editor.{Editor}
use Rattle.editor.specs.Line.{holding}
use Rattle.editor.specs.Turns.{State, Turn, turn_of}
use Rattle.editor.specs.Answer.{state_of, editor_of, history_of, slots_of, good_state}
use Rattle.editor.proofs.Fine.{fresh_fine, turn_fine, fine_good}
use Rattle.editor.proofs.Called.{held_state}
use Rattle.session.specs.Prints.{prompt, key_prints, key_ends}
use Rattle.session.specs.Lines.{Standing, beginning, press_key}
use Rattle.session.specs.Held.{Holds}
use Rattle.session.specs.Calls.{fresh, image_of, turn_in, is_enter, tree_before, Laid, PressingKey}
use Rattle.session.specs.Sizes.{key_room}
use Rattle.session.specs.declared.standing.Session.{Session}
use Rattle.session.specs.declared.pressing.Pressing.{Pressing}

-- at the beginning
pub holds_fresh : (profile : Profile) (image : List ℕ) → Holds (beginning profile) (fresh profile) image (journal_slots no_entries)
unfolding editor_of holding
holds_fresh profile image =
    record { editor = refl; history = refl; held = refl; fine = fresh_fine profile; stands = start_stands image; tree = refl; keyed = refl; lines = refl }

module _ (s : Standing) (h : Session) (image slots : List ℕ) (k : Holds s h image slots) where
  same_state : {e e' : Editor} {p p' : History} {l l' : List ℕ} → e ≡ e' → p ≡ p' → l ≡ l' → (state_of e p l ≡ state_of e' p' l') × (good_state e p l ≡ good_state e' p' l')
  same_state a b c = (cc, cc)

  -- its state is good, and its tree well-formed
  pub holds_state : state_of h.editor h.history slots ≡ s.state
  holds_state = (same_state k.editor k.history k.held).0 ∙ held_state s.state k.fine

  pub holds_good : good_state h.editor h.history slots ≡ true
  holds_good = (same_state k.editor k.history k.held).1 ∙ fine_good s.state k.fine

  pub holds_tree : check_tree (image_of h image) ≡ Ok tt
  holds_tree = stands_good image h.walk k.stands

  holds_tested : (byte : ℕ) → tree_before byte (image_of h image) ≡ Ok tt
  unfolding tree_before
  holds_tested byte = by (is_enter byte)
    where
      by : (t : Bool) → cond t (check_tree (image_of h image)) (Ok tt) ≡ Ok tt
      by true = holds_tree
      by false = refl

  -- a key prints what the definition says, and leads where it says: a key is never refused, whatever it is
  pub key_held : (byte : ℕ) (out : List ℕ) (r : Pressing) (slots' out' : List ℕ) → key_room ≤ length out → PressingKey h image slots byte out r slots' out'
      → Laid (press_key s byte).prints (press_key s byte).ends out r.answer out' × Holds (press_key s byte).after r.session image slots'
  unfolding press_key
  key_held byte out r slots' out' room p =
      let d = p.pressed room (holds_tested byte) holds_good in
      let t : turn_in h slots byte ≡ turn_of prompt s.state byte = ap (λ (x : State). turn_of prompt x byte) holds_state in
      let after : State = (turn_of prompt s.state byte).after in
      let w : r.session.walk ≡ h.walk = ap (λ (x : Session). x.walk) d.session in
      let tree : image_of r.session image ≡ s.image = ap (λ (x : Session). image_of x image) d.session ∙ k.tree in (
        subst (λ (x : List ℕ). Laid (key_prints (frames_of x) (turn_of prompt s.state byte)) (key_ends (frames_of x) (turn_of prompt s.state byte)) out r.answer out') k.tree
            (subst (λ (x : Turn). Laid (key_prints (frames_of (image_of h image)) x) (key_ends (frames_of (image_of h image)) x) out r.answer out') t d.lines),
        record {
          editor = ap (λ (x : Session). x.editor) d.session ∙ ap (λ (x : Turn). editor_of x.after) t;
          history = ap (λ (x : Session). x.history) d.session ∙ ap (λ (x : Turn). history_of x.after) t;
          held = d.held ∙ ap (λ (x : Turn). slots_of x.after) t;
          fine = turn_fine prompt s.state byte k.fine;
          stands = subst (Stands image) (sym w) k.stands;
          tree = tree;
          keyed = ap (λ (x : Session). x.keyed) d.session ∙ k.keyed;
          lines = ap (λ (x : Session). x.lines) d.session ∙ k.lines;
        },
      )
