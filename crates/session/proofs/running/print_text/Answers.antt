-- `session::running::print_text` meets its contract: the kind and the text are one part of the buffer.
use lib.ListN.{length, drop}
use mathlib.Core.List.{List, ◌∷◌}
use Prim.Native.Nat.{ℕ, ◌+◌, ◌-◌}
use mathlib.Core.Path.{ap, sym, ◌∙◌}
use native.Mathlib.Omega.{arith}
use Rattle.session.proofs.Runs.{text_frame, text_size_lem}
use Rattle.session.proofs.running.print_text.Goals as goal

pub print_screen-requires : goal.print_screen-requires
print_screen-requires c =
    let e = text_frame c.args.text.now c.args.size c.requires.0 c.requires.1 (3 + c.args.size - 2) (omega arith) c.requires.2 in
    let l = ap length e in
    let s = text_size_lem c.args.text.now c.args.size c.requires.0 c.requires.1 in
    (omega (arith, c.requires.1, c.requires.3), e ∙ sym (ap (λ (x : List ℕ). 0x22 ∷ drop 1 x) e))

pub returns : goal.returns
returns c =
    let e = text_frame c.args.text.now c.args.size c.requires.0 c.requires.1 (3 + c.args.size - 2) (omega arith) c.requires.2 in
    rw (sym (ap (λ (x : List ℕ). drop 1 x) e)) c.print_screen.ensures
