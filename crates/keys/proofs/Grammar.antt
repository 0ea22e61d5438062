-- The reader that takes a byte at a time does what the grammar of ECMA-48 says: a control sequence of at most fifteen bytes between ESC `[` and its final byte
-- acts by its row of the table, and one that is longer or broken off does nothing.
use Prim.Native.Nat.{ℕ, suc, ◌+◌, ◌≤◌}
use mathlib.Core.Path.{◌≡◌, refl, sym, ap, ◌∙◌}
use mathlib.Core.Bool.{Bool, true, false, cond}
use mathlib.Core.List.{List, [], ◌∷◌, ◌++◌, append-nil}
use native.Mathlib.Omega.{arith}
use native.Mathlib.Nat.{add-zero, add-suc, suc-add}
use native.Mathlib.Numerals.{add-one}
use lib.Dec.{eqb}
use lib.ListN.{length, replicate}
use borrow.Author.Tests.{ne_eqb}
use Rattle.buffer.specs.Compare.{same_bytes}
use Rattle.buffer.proofs.Choices.{then_is, else_is, true_is_not_false}
use Rattle.buffer.proofs.Ordering.{same_is}
use Rattle.keys.specs.declared.standing.Profile.TheVariants.{Ecma48}
use Rattle.keys.specs.declared.standing.Progress.{Progress}
use Rattle.keys.specs.declared.standing.Mode.{Mode}
use Rattle.keys.specs.declared.standing.Mode.TheVariants.{Typing, Control}
use Rattle.keys.specs.declared.standing.Action.{Action}
use Rattle.keys.specs.declared.standing.Action.TheVariants.{Nothing}
use Rattle.keys.specs.Modes.{unread, other}
use Rattle.keys.specs.Control.{between, goes_on, is_final, arrow_of, letter, tilde, ended, digit, further}
use Rattle.keys.specs.Keys.{typed, escaped, meaning, mode_after, actions}
use Rattle.keys.specs.Sequences.{is_parameter, is_intermediate, all, ControlSequence, Formed, body, bytes_of, Acting, acting, among, without, said}
use Rattle.keys.proofs.Ranges.{each, met, within, below, within_is, at_onward, at_final, at_outside, at_short, at_long}

-- so many bytes that do nothing
abbrev pub nothings : ℕ → List Action
nothings n = replicate n Nothing

-- bytes from a mode on: what each does, and what is waited for after them
pub record Reads (m : Mode) (bytes : List ℕ) (acts : List Action) (n : Mode) : Type 0 where
  pub does : actions Ecma48 m bytes ≡ acts
  pub after : mode_after Ecma48 m bytes ≡ n

pub nothing_read : {m : Mode} → Reads m [] [] m
unfolding actions mode_after
nothing_read = record { does = refl; after = refl }

step : {m n k : Mode} {b : ℕ} {act : Action} {bytes : List ℕ} {acts : List Action}
    → meaning Ecma48 m b ≡ record { action = act; mode = n } → Reads n bytes acts k → Reads m (b ∷ bytes) (act ∷ acts) k
unfolding actions mode_after
step {act = act} e r = record { does = rw e (ap (λ (l : List Action). act ∷ l) r.does); after = rw e r.after }

-- how far a sequence is read after bytes more
unfoldable pub progressed : Progress → List ℕ → Progress
progressed p [] = p
progressed p (b ∷ bytes) = progressed (further p b) bytes

-- after the first byte the parameter counts no more
pub progressed_later : (n : ℕ) (bytes : List ℕ) → progressed (record { read = suc n; parameter = other }) bytes ≡ record { read = suc n + length bytes; parameter = other }
unfolding progressed further
progressed_later n [] = rw add-zero
progressed_later n (b ∷ bytes) = rw (add-one, ne_eqb (suc n) 0 (λ e. omega arith), progressed_later (suc n) bytes, add-suc, suc-add)

-- ESC `[`, and bytes that go on, up to the fifteenth
begins : {bytes : List ℕ} {acts : List Action} {n : Mode} → Reads (Control unread) bytes acts n → Reads Typing (0x1B ∷ 0x5B ∷ bytes) (Nothing ∷ Nothing ∷ acts) n
unfolding typed escaped
begins r = step refl (step refl r)

goes : {rest : List ℕ} {acts : List Action} {n : Mode} (p : Progress) (bytes : List ℕ) → all goes_on bytes ≡ true → p.read + length bytes ≤ 15
    → Reads (Control (progressed p bytes)) rest acts n → Reads (Control p) (bytes ++ rest) (nothings (length bytes) ++ acts) n
unfolding all progressed further
goes p [] g h r = r
goes p (b ∷ bytes) g h r =
    let t = each _ _ g in
    step (at_onward b p t.0 ∙ at_short b p (omega arith)) (goes (further p b) bytes t.1 (omega arith) r)

-- the sixteenth is the last
ends : (p : Progress) (b : ℕ) (bytes : List ℕ) → all goes_on (b ∷ bytes) ≡ true → p.read + length bytes ≡ 15
    → Reads (Control p) (b ∷ bytes) (nothings (length (b ∷ bytes))) Typing
unfolding all further
ends p b [] g h = step (at_onward b p (each _ _ g).0 ∙ at_long b p (omega arith)) nothing_read
ends p b (c ∷ bytes) g h =
    let t = each _ _ g in
    step (at_onward b p t.0 ∙ at_short b p (omega arith)) (ends (further p b) c bytes t.1 (omega arith))

-- no row has parameters that fail a test which all rows pass
unlike : (is : List ℕ → Bool) (x y : List ℕ) → is x ≡ false → is y ≡ true → same_bytes x y ≡ false
unlike is x y n h = by (same_bytes x y) refl
  where
    by : (t : Bool) → same_bytes x y ≡ t → same_bytes x y ≡ false
    by true q = absurd (true_is_not_false (sym h ∙ ap is (sym (same_is x y q)) ∙ n))
    by false q = q

unfoldable rows_are : (List ℕ → Bool) → List Acting → Bool
rows_are is [] = true
rows_are is (a ∷ rows) = cond (is a.parameters) (rows_are is rows) false

no_row : (is : List ℕ → Bool) (rows : List Acting) (parameters : List ℕ) (final : ℕ) → rows_are is rows ≡ true → is parameters ≡ false
    → among rows parameters final ≡ Nothing
unfolding among rows_are
no_row is [] parameters final h n = refl
no_row is (a ∷ rows) parameters final h n =
    let t = each _ _ h in
    else_is _ _ _ (unlike is parameters a.parameters n t.0) ∙ no_row is rows parameters final t.1 n

-- a final byte does by the parameter before it what the table has for it and the bytes before it: no byte or `1`, one byte, more
letters : (final : ℕ) → (ended 0 final ≡ among acting [] final) × (ended 1 final ≡ among acting (0x31 ∷ []) final)
unfolding ended tilde letter arrow_of among same_bytes
letters final =
    met P final 0x41 (refl, refl)
    (λ a. met P final 0x42 (refl, refl)
    (λ b. met P final 0x43 (refl, refl)
    (λ c. met P final 0x44 (refl, refl)
    (λ d. met P final 0x48 (refl, refl)
    (λ h. met P final 0x46 (refl, refl)
    (λ f. met P final 0x7E (refl, refl)
    (λ t. (simp (a, b, c, d, h, f, t), simp (a, b, c, d, h, f, t)))))))))
  where
    P : ℕ → Type 0
    P x = (ended 0 x ≡ among acting [] x) × (ended 1 x ≡ among acting (0x31 ∷ []) x)

ended_other : (final : ℕ) → ended other final ≡ Nothing
unfolding ended tilde other
ended_other final = by (eqb final 0x7E)
  where
    by : (t : Bool) → cond t Nothing Nothing ≡ Nothing
    by true = refl
    by false = refl

one : (b final : ℕ) → ended (digit b) final ≡ among acting (b ∷ []) final
unfolding ended tilde digit among same_bytes
one b final =
    met P b 0x31 (letters final).1
    (λ e. met P b 0x33 refl
    (λ f. met P b 0x34 refl
    (λ g. met P b 0x37 refl
    (λ h. met P b 0x38 refl
    (λ k. rw (e, f, g, h, k) (ended_other final))))))
  where
    P : ℕ → Type 0
    P x = ended (digit x) final ≡ among acting (x ∷ []) final

-- at most one byte
unfoldable few : List ℕ → Bool
few [] = true
few (b ∷ []) = true
few (b ∷ c ∷ bytes) = false

pub ended_is : (bytes : List ℕ) (final : ℕ) → ended (progressed unread bytes).parameter final ≡ among acting bytes final
unfolding progressed further few rows_are
ended_is [] final = (letters final).0
ended_is (b ∷ []) final = one b final
ended_is (b ∷ c ∷ bytes) final =
    ap (λ (p : Progress). ended p.parameter final) (progressed_later 1 bytes) ∙ ended_other final ∙ sym (no_row few acting (b ∷ c ∷ bytes) final refl refl)

-- ESC `[`, a body, and what comes after it
pub opened : {rest : List ℕ} {acts : List Action} {n : Mode} (bytes : List ℕ) → all goes_on bytes ≡ true → length bytes ≤ 15
    → Reads (Control (progressed unread bytes)) rest acts n → Reads Typing (0x1B ∷ 0x5B ∷ (bytes ++ rest)) (nothings (2 + length bytes) ++ acts) n
opened bytes g l r = let two : 2 + length bytes ≡ suc (suc (length bytes)) = omega arith in rw two (begins (goes unread bytes g (omega arith) r))

-- a body and its final byte
pub body_read : (bytes : List ℕ) (final : ℕ) → all goes_on bytes ≡ true → length bytes ≤ 15 → is_final final ≡ true
    → Reads Typing (0x1B ∷ 0x5B ∷ (bytes ++ (final ∷ []))) (nothings (2 + length bytes) ++ (among acting bytes final ∷ [])) Typing
body_read bytes final g l f = rw (← ended_is bytes final) (opened bytes g l (step (at_final final _ f) nothing_read))

-- a body, and a byte that no sequence holds
pub broken_off : (bytes : List ℕ) (b : ℕ) → all goes_on bytes ≡ true → length bytes ≤ 15 → goes_on b ≡ false → is_final b ≡ false
    → Reads Typing (0x1B ∷ 0x5B ∷ (bytes ++ (b ∷ []))) (nothings (2 + length bytes) ++ (Nothing ∷ [])) Typing
broken_off bytes b g l h k = opened bytes g l (step (at_outside b _ h k) nothing_read)

-- a body of sixteen bytes ends at its last, and does nothing
pub too_long : (bytes : List ℕ) → all goes_on bytes ≡ true → length bytes ≡ 16 → Reads Typing (0x1B ∷ 0x5B ∷ bytes) (nothings 18) Typing
too_long [] g l = absurd (omega arith)
too_long (b ∷ bytes) g l = let e : length bytes ≡ 15 = omega arith in begins (rw e at (ends unread b bytes g (omega arith)))

-- an intermediate byte, wherever it stands
not_all : (is : ℕ → Bool) (front : List ℕ) (b : ℕ) (back : List ℕ) → is b ≡ false → all is (front ++ (b ∷ back)) ≡ false
unfolding all
not_all is [] b back n = else_is _ _ _ n
not_all is (a ∷ front) b back n = by (is a) (not_all is front b back n)
  where
    by : (t : Bool) {u : Bool} → u ≡ false → cond t u false ≡ false
    by true h = h
    by false h = refl

pub intermediate_nothing : (front : List ℕ) (b : ℕ) (back : List ℕ) (final : ℕ) → is_intermediate b ≡ true → among acting (front ++ (b ∷ back)) final ≡ Nothing
unfolding rows_are all between
intermediate_nothing front b back final h =
    let r = within_is b 0x20 0x2F h in
    no_row (all is_parameter) acting (front ++ (b ∷ back)) final refl (not_all is_parameter front b back (below b 0x30 0x3F (omega arith)))

-- what a sequence says is what its body and its final byte do
pub said_is : (q : ControlSequence) → Formed q → among acting (body q) q.final ≡ said q
unfolding said all
said_is q h = by q.intermediates h.intermediates
  where
    by : (bytes : List ℕ) → all is_intermediate bytes ≡ true → among acting (q.parameters ++ bytes) q.final ≡ without bytes (among acting q.parameters q.final)
    by [] g = rw append-nil
    by (b ∷ bytes) g = intermediate_nothing q.parameters b bytes q.final (each _ _ g).0

-- a test of all bytes: for another that it implies, and of two lists
all_for : (is was : ℕ → Bool) → ((b : ℕ) → is b ≡ true → was b ≡ true) → (bytes : List ℕ) → all is bytes ≡ true → all was bytes ≡ true
unfolding all
all_for is was f [] h = refl
all_for is was f (b ∷ bytes) h = let t = each _ _ h in then_is _ _ _ (f b t.0) ∙ all_for is was f bytes t.1

all_both : (is : ℕ → Bool) (a b : List ℕ) → all is a ≡ true → all is b ≡ true → all is (a ++ b) ≡ true
unfolding all
all_both is [] b g h = h
all_both is (x ∷ a) b g h = let t = each (is x) (all is a) g in then_is _ _ _ t.0 ∙ all_both is a b t.1 h

-- a sequence that is formed: its body goes on, and it is read whole if that is not too long
pub body_on : (q : ControlSequence) → Formed q → all goes_on (body q) ≡ true
body_on q h =
    all_both goes_on q.parameters q.intermediates
    (all_for is_parameter goes_on (λ b k. let r = within_is b 0x30 0x3F k in within b 0x20 0x3F (omega arith) (omega arith)) q.parameters h.parameters)
    (all_for is_intermediate goes_on (λ b k. let r = within_is b 0x20 0x2F k in within b 0x20 0x3F (omega arith) (omega arith)) q.intermediates h.intermediates)

pub sequence_read : (q : ControlSequence) → Formed q → length (body q) ≤ 15 → Reads Typing (bytes_of q) (nothings (2 + length (body q)) ++ (said q ∷ [])) Typing
sequence_read q h l = rw (← said_is q h) (body_read (body q) q.final (body_on q h) l h.final)
