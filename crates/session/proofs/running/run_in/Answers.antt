-- `session::running::run_in` meets its contract: what the line says stands after the place of its kind.
use Rattle.buffer.specs.Numbers.{Bytes}
use Rattle.session.proofs.Runs.{run_ok, run_ready, run_says}
use native.Mathlib.Omega.{arith}
use lib.ListN.{length-set}
use Rattle.session.proofs.running.run_in.Goals as goal

pub slice_bounds-run-count : goal.slice_bounds-run-count
slice_bounds-run-count c =
    omega (arith, length-set c.args.text.now 2 0x22, c.requires.2)

pub slice_bounds-run-start : goal.slice_bounds-run-start
slice_bounds-run-start c =
    omega (arith, length-set c.args.text.now 2 0x22, c.requires.2)

pub unwrap-ran-requires : goal.unwrap-ran-requires
unfolding Bytes
unwrap-ran-requires c =
    run_ok c.args.text.now _ c.requires.2 c.args.image.now c.args.line.now _ (λ i. (c.type_inv.image i).fits) c.requires.0 c.requires.1 c.run.ensures

pub print_ran-requires : goal.print_ran-requires
unfolding Bytes
print_ran-requires c =
    let r = run_ready c.args.text.now _ c.requires.2 c.args.image.now c.args.line.now _ (λ i. (c.type_inv.image i).fits) c.requires.0 c.requires.1 c.run.ensures _ c.unwrap-ran.ensures in
    (r.0, r.1, r.2, c.requires.3)

pub returns : goal.returns
unfolding Bytes
returns c =
    c.print_ran.ensures _ (run_says c.args.text.now _ c.requires.2 c.args.image.now c.args.line.now _ (λ i. (c.type_inv.image i).fits) c.requires.0 c.requires.1 c.run.ensures _ c.unwrap-ran.ensures)
