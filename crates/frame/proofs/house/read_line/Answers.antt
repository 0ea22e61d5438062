-- `frame::read_line` meets its contract: a refusal leaves out as it was, and a frame's digits are written as the bytes they stand for.
use Rattle.std.proofs.lemmas.Result.{err_from_is_err_and}
use Rattle.frame.proofs.Lines.{ended_some, house_told, refusal_keeps}
use Rattle.frame.specs.House.{read_house, digits_of, house_leaves}
use Rattle.frame.specs.Hex.{unhex}
use mathlib.Core.Path.{◌≡◌, sym, ◌∙◌}
use Rattle.std.specs.Prelude.{Ok, Err, length}
use Rattle.frame.proofs.house.read_line.Goals as goal

pub returns-in_err-n : goal.returns-in_err-n
unfolding house_leaves
returns-in_err-n c =
    let p = err_from_is_err_and c.from_residual.result c.from_residual.ensures.1 in
    let kept = refusal_keeps c.in_err-n.field-0.0 (unhex (digits_of c.args.line.now)) c.args.out.now in
    let told : read_house c.args.line.now (length c.args.out.now) ≡ Err c.in_err-n.field-0.0 = sym c.read_house.ensures ∙ c.in_err-n.was in
    record {
      answer = rw (p.1, p.2) (sym told);
      bytes = rw told (sym kept);
    }

pub overflow_sub-last : goal.overflow_sub-last
overflow_sub-last c =
    let told = house_told c.args.line.now _ _ (sym c.read_house.ensures ∙ c.in_ok-n.was) in ended_some _ told.0

pub unhex_into-requires : goal.unhex_into-requires
unfolding digits_of
unhex_into-requires c =
    (house_told c.args.line.now _ _ (sym c.read_house.ensures ∙ c.in_ok-n.was)).1.fits

pub returns : goal.returns
unfolding house_leaves digits_of
returns c =
    let told : read_house c.args.line.now (length c.args.out.now) ≡ Ok c.in_ok-n.n = sym c.read_house.ensures ∙ c.in_ok-n.was in
    record {
      answer = sym told;
      bytes = rw told c.unhex_into.ensures.bytes;
    }
