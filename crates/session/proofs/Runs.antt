-- Laws of a line that was run: the buffer that holds what it said, and what is printed of it.
use Rattle.std.specs.Prelude.{Ok, Result, IsOk}
use Rattle.std.proofs.Common.{rules}
use Prim.Native.Nat.{ℕ, suc, ◌+◌, ◌-◌, ◌*◌, ◌≤◌}
use mathlib.Core.Path.{◌≡◌, refl, sym, ap, ◌∙◌, subst}
use mathlib.Core.Bool.{true, false}
use mathlib.Core.List.{List, [], ◌∷◌, ◌++◌}
use native.Mathlib.Omega.{arith}
use borrow.Rule.Slice.PartMut.{put_mid}
use lib.ListN.{length, take, drop, get_or, set, length-drop}
use lib.Seq.{drop-cons, length-take-le, take-append-add, take-append_seam}
use Rattle.buffer.specs.Write.{over, Pushed}
use Rattle.buffer.proofs.Lending.{length_over, length_over_at}
use Rattle.buffer.proofs.Writing.{pushed_both}
use Rattle.buffer.specs.Numbers.{Bytes}
use Rattle.frame.specs.House.{house_line}
use Rattle.frame.proofs.Lines.{length_house_line}
use Rattle.tree.specs.Images.{frames_of}
use Rattle.tree.specs.Rules.{check_tree}
use Rattle.shell.specs.Lines.{Said, silence, text, farewell, handed, said_of}
use Rattle.shell.specs.Answer.{bytes_of, named, Running}
use Rattle.shell.specs.declared.answer.Ran.{Ran}
use Rattle.shell.specs.declared.answer.RunRefusal.{RunRefusal}
use Rattle.shell.specs.declared.answer.Ran.TheVariants.{Nothing, Text, Exit, Handler}
use Rattle.shell.proofs.Bounds.{said_fits, run_answered, run_written}
use Rattle.session.specs.Prints.{Printed, handler, exit, wide, frame_of, lines_of, shown, prompt, answered, leaves}
use Rattle.session.specs.Inner.{Fits, Says, Answers}
use Rattle.session.specs.declared.running.Printing.TheVariants.{Goes, Ends}
use Rattle.session.proofs.Marks.{lent_size, returned_size, returned_kind, returned_after}
use Rattle.session.proofs.Printings.{lines_both, line_alone, shown_size}

-- a text after its kind
module _ (s : List ℕ) (size : ℕ) (full : length s ≡ 65536) (h : size ≤ 65533) where
  pub text_frame : (n : ℕ) → n ≡ suc size → get_or s 2 0 ≡ 0x22 → take n (drop 2 s) ≡ 0x22 ∷ take size (drop 3 s)
  text_frame n e k =
      ap (λ (x : ℕ). take x (drop 2 s)) e
      ∙ ap (λ (x : List ℕ). take (suc size) x) (drop-cons s 2 0 (omega arith))
      ∙ ap (λ (x : ℕ). x ∷ take size (drop 3 s)) k

  pub text_size_lem : length (take size (drop 3 s)) ≡ size
  text_size_lem = let d = length-drop 3 s in length-take-le size (drop 3 s) (omega arith)

  -- a report after the head that was put before it
  pub handler_frame : (number : ℕ) → take (3 + size) (over (0x21 ∷ wide number) s) ≡ frame_of (handler number (take size (drop 3 s)))
  unfolding over wide frame_of
  handler_frame number = take-append-add (0x21 ∷ wide number) (drop 3 s) size

  -- room after them
  pub text_room : (out left : List ℕ) (at r : ℕ) → at + 131096 ≤ length out → Pushed (lines_of (shown (take size (drop 3 s)))) out at r left → r + 23 ≤ length left
  text_room out left at r room p =
      let a = shown_size (take size (drop 3 s)) in
      let b = text_size_lem in
      let k : at + length (lines_of (shown (take size (drop 3 s)))) ≤ length out = omega arith in
      let l = ap length p.bytes ∙ length_over_at (lines_of (shown (take size (drop 3 s)))) out at k in
      let e = p.place in
      omega arith

  pub handler_size : (number : ℕ) → length (house_line (frame_of (handler number (take size (drop 3 s))))) ≡ 2 * size + 7
  unfolding frame_of wide
  handler_size number = let a = text_size_lem in let l = length_house_line (frame_of (handler number (take size (drop 3 s)))) in omega arith

  pub handler_room : (number : ℕ) (out left : List ℕ) (at r : ℕ) → at + 131096 ≤ length out
      → Pushed (house_line (frame_of (handler number (take size (drop 3 s))))) out at r left → r + 23 ≤ length left
  handler_room number out left at r room p =
      let a = handler_size number in
      let k : at + length (house_line (frame_of (handler number (take size (drop 3 s))))) ≤ length out = omega arith in
      let l = ap length p.bytes ∙ length_over_at (house_line (frame_of (handler number (take size (drop 3 s))))) out at k in
      let e = p.place in
      omega arith

-- what was answered lies within the buffer
module _ (room : ℕ) where
  pub fits_text : (ran : Ran) (m n : ℕ) → Fits ran room → ran ≡ Text m n → n ≤ room
  fits_text ran m n f e = subst (λ (x : Ran). Fits x room) e f

  pub fits_exit : (ran : Ran) (n : ℕ) → Fits ran room → ran ≡ Exit n → n ≤ room
  fits_exit ran n f e = subst (λ (x : Ran). Fits x room) e f

  pub fits_handler : (ran : Ran) (m n : ℕ) → Fits ran room → ran ≡ Handler m n → n ≤ room
  fits_handler ran m n f e = subst (λ (x : Ran). Fits x room) e f

-- two writes in a row, of which the first is short enough
both : (a b : List Printed) (out mid left : List ℕ) (at p r : ℕ) → at + length (lines_of a) ≤ length out → Pushed (lines_of a) out at p mid → Pushed (lines_of b) mid p r left
    → Pushed (lines_of (a ++ b)) out at r left
both a b out mid left at p r h x y = rw (lines_both a b) (pushed_both (lines_of a) (lines_of b) out mid left at p r h x y)

goes : (said : Said) (out left : List ℕ) (at r : ℕ) → leaves said ≡ false → Pushed (lines_of (answered said)) out at r left → Answers said out at (Ok (Goes r)) left
goes said out left at r e p = record { answer = ap (λ (n : ℕ). Ok (Goes n)) p.place ∙ rw e refl; bytes = p.bytes }

ends : (said : Said) (out left : List ℕ) (at r : ℕ) → leaves said ≡ true → Pushed (lines_of (answered said)) out at r left → Answers said out at (Ok (Ends r)) left
ends said out left at r e p = record { answer = ap (λ (n : ℕ). Ok (Ends n)) p.place ∙ rw e refl; bytes = p.bytes }

-- each thing that a line may say, printed
module _ (said : Said) (ran : Ran) (s : List ℕ) (h : Says said (Ok ran) s) (out left : List ℕ) (at r : ℕ) where
  pub prints_nothing : ran ≡ Nothing → Pushed (lines_of (shown prompt)) out at r left → Answers said out at (Ok (Goes r)) left
  unfolding answered leaves
  prints_nothing e p = by said h.answer
    where
      by : (q : Said) → Ok ran ≡ named q (length (bytes_of said)) → Answers q out at (Ok (Goes r)) left
      by silence k = goes silence out left at r refl p
      by (text number b) k = absurd (let z : ◌≡◌ {A = ℕ} 0 1 = cc in omega arith)
      by farewell k = absurd (let z : ◌≡◌ {A = ℕ} 0 1 = cc in omega arith)
      by (handed number b) k = absurd (let z : ◌≡◌ {A = ℕ} 0 1 = cc in omega arith)

  -- what a text prints, with whatever is printed after it
  shown_after : (b : List ℕ) (n p : ℕ) (mid : List ℕ) (more : List Printed) → n ≡ length b → take (length b) (drop 3 s) ≡ b → n ≤ 65533 → at + 131096 ≤ length out
      → Pushed (lines_of (shown (take n (drop 3 s)))) out at p mid → Pushed (lines_of more) mid p r left → Pushed (lines_of (shown b ++ more)) out at r left
  shown_after b n p mid more e k fits room x y =
      let same : take n (drop 3 s) ≡ b = ap (λ (i : ℕ). take i (drop 3 s)) e ∙ k in
      let size = shown_size b in
      both (shown b) more out mid left at p r (omega arith) (subst (λ (z : List ℕ). Pushed (lines_of (shown z)) out at p mid) same x) y

  pub prints_text : (m n p : ℕ) (mid : List ℕ) → ran ≡ Text m n → n ≤ 65533 → at + 131096 ≤ length out → Pushed (lines_of (shown (take n (drop 3 s)))) out at p mid
      → Pushed (lines_of (shown prompt)) mid p r left → Answers said out at (Ok (Goes r)) left
  unfolding answered leaves
  prints_text m n p mid e fits room x y = by said h.answer h.bytes
    where
      by : (q : Said) → Ok ran ≡ named q (length (bytes_of q)) → take (length (bytes_of q)) (drop 3 s) ≡ bytes_of q → Answers q out at (Ok (Goes r)) left
      by silence k l = absurd (let z : ◌≡◌ {A = ℕ} 0 1 = cc in omega arith)
      by (text number b) k l =
          let same : n ≡ length b = cc in
          goes (text number b) out left at r refl (shown_after b n p mid (shown prompt) same l fits room x y)
      by farewell k l = absurd (let z : ◌≡◌ {A = ℕ} 0 1 = cc in omega arith)
      by (handed number b) k l = absurd (let z : ◌≡◌ {A = ℕ} 0 1 = cc in omega arith)

  pub prints_exit : (n p : ℕ) (mid : List ℕ) → ran ≡ Exit n → n ≤ 65533 → at + 131096 ≤ length out → Pushed (lines_of (shown (take n (drop 3 s)))) out at p mid
      → Pushed (house_line (0x23 ∷ [])) mid p r left → Answers said out at (Ok (Ends r)) left
  unfolding answered leaves frame_of
  prints_exit n p mid e fits room x y = by said h.answer h.bytes
    where
      by : (q : Said) → Ok ran ≡ named q (length (bytes_of q)) → take (length (bytes_of q)) (drop 3 s) ≡ bytes_of q → Answers q out at (Ok (Ends r)) left
      by silence k l = absurd (let z : ◌≡◌ {A = ℕ} 0 1 = cc in omega arith)
      by (text number b) k l = absurd (let z : ◌≡◌ {A = ℕ} 0 1 = cc in omega arith)
      by farewell k l =
          let same : n ≡ length (bytes_of farewell) = cc in
          ends farewell out left at r refl
          (shown_after (bytes_of farewell) n p mid (exit ∷ []) same l fits room x (subst (λ (z : List ℕ). Pushed z mid p r left) (sym (line_alone exit)) y))
      by (handed number b) k l = absurd (let z : ◌≡◌ {A = ℕ} 0 1 = cc in omega arith)

  pub prints_handler : (m n p : ℕ) (mid : List ℕ) → ran ≡ Handler m n → length s ≡ 65536 → n ≤ 65533 → at + 131096 ≤ length out
      → Pushed (house_line (frame_of (handler m (take n (drop 3 s))))) out at p mid → Pushed (lines_of (shown prompt)) mid p r left → Answers said out at (Ok (Goes r)) left
  unfolding answered leaves
  prints_handler m n p mid e full fits room x y = by said h.answer h.bytes
    where
      by : (q : Said) → Ok ran ≡ named q (length (bytes_of q)) → take (length (bytes_of q)) (drop 3 s) ≡ bytes_of q → Answers q out at (Ok (Goes r)) left
      by silence k l = absurd (let z : ◌≡◌ {A = ℕ} 0 1 = cc in omega arith)
      by (text number b) k l = absurd (let z : ◌≡◌ {A = ℕ} 0 1 = cc in omega arith)
      by farewell k l = absurd (let z : ◌≡◌ {A = ℕ} 0 1 = cc in omega arith)
      by (handed number b) k l =
          let first : m ≡ number = cc in
          let size : n ≡ length b = cc in
          let same : take n (drop 3 s) ≡ b = ap (λ (i : ℕ). take i (drop 3 s)) size ∙ l in
          let line : house_line (frame_of (handler m (take n (drop 3 s)))) ≡ lines_of (handler number b ∷ []) =
          ap (λ (z : ℕ). house_line (frame_of (handler z (take n (drop 3 s))))) first ∙ ap (λ (z : List ℕ). house_line (frame_of (handler number z))) same ∙ sym (line_alone (handler number b)) in
          let long = handler_size s n full fits m in
          let narrow : at + length (lines_of (handler number b ∷ [])) ≤ length out = let w = ap length line in omega arith in
          goes (handed number b) out left at r refl (both (handler number b ∷ []) (shown prompt) out mid left at p r narrow (subst (λ (z : List ℕ). Pushed z out at p mid) line x) y)

-- a line that was run under a well-formed tree, into the part after the kind of a text
module _ (s e : List ℕ) (full : length s ≡ 65536) (image line : List ℕ) (told : Result Ran RunRefusal) (bytes : Bytes image) (good : check_tree image ≡ Ok tt) (short : length line ≤ 255)
    (r : Running image line (take (length (set s 2 0x22) - 3) (drop 3 (set s 2 0x22))) told e) where
  abbrev heard : Said
  heard = said_of (frames_of image) line

  abbrev lent : List ℕ
  lent = take (length (set s 2 0x22) - 3) (drop 3 (set s 2 0x22))

  lent_is : length lent ≡ 65533
  lent_is = lent_size s e 2 65536 full (omega arith)

  heard_fits : length (bytes_of heard) ≤ 65533
  heard_fits = said_fits image line bytes good short

  told_is : told ≡ named heard (length (bytes_of heard))
  told_is = run_answered image line lent e told bytes good short (let l = lent_is in omega arith) r

  left_is : e ≡ over (bytes_of heard) lent
  left_is = run_written image line lent e told bytes good short (let l = lent_is in omega arith) r

  pub run_back : length (put_mid 3 (length (set s 2 0x22) - 3) (set s 2 0x22) e) ≡ 65536
  run_back =
      returned_size s e 2 65536 full (omega arith)
      (ap length left_is ∙ length_over (bytes_of heard) lent (let l = lent_is in let f = heard_fits in omega arith) ∙ lent_is)

  -- the line is not refused
  pub run_ok : IsOk told
  run_ok = subst IsOk (sym told_is) (each heard)
    where
      each : (q : Said) → IsOk (named q (length (bytes_of heard)))
      each silence = search rules
      each (text number b) = search rules
      each farewell = search rules
      each (handed number b) = search rules

  pub run_ready : (ran : Ran) → told ≡ Ok ran → Fits ran 65533 × (length (put_mid 3 (length (set s 2 0x22) - 3) (set s 2 0x22) e) ≡ 65536)
      × (get_or (put_mid 3 (length (set s 2 0x22) - 3) (set s 2 0x22) e) 2 0 ≡ 0x22)
  run_ready ran w = (each heard heard_fits ran (sym w ∙ told_is), run_back, returned_kind s e 2 65536 full (omega arith))
    where
      each : (q : Said) → length (bytes_of q) ≤ 65533 → (x : Ran) → Ok x ≡ named q (length (bytes_of q)) → Fits x 65533
      each silence h x k = let same : x ≡ Nothing = cc in rw same tt
      each (text number b) h x k = let same : x ≡ Text number (length b) = cc in rw same h
      each farewell h x k = let same : x ≡ Exit (length (bytes_of farewell)) = cc in rw same h
      each (handed number b) h x k = let same : x ≡ Handler number (length b) = cc in rw same h

  pub run_says : (ran : Ran) → told ≡ Ok ran → Says heard (Ok ran) (put_mid 3 (length (set s 2 0x22) - 3) (set s 2 0x22) e)
  unfolding over
  run_says ran w =
      record {
        answer = sym w ∙ told_is;
        bytes = ap (λ (x : List ℕ). take (length (bytes_of heard)) x) (returned_after s e 2 65536 full (omega arith) ∙ left_is)
            ∙ take-append_seam (bytes_of heard) (drop (length (bytes_of heard)) lent);
      }
