-- `table::sorted::seek` meets its contract. The keys passed are less: what is found in the rest is found in the whole.
use Rattle.table.specs.Inner.{tabled, size_of}
use Rattle.table.proofs.TableMaps.{size_tabled, seek_end, seek_turn}
use native.Mathlib.Omega.{arith}
use Prim.Native.Nat.{◌≤◌, ◌<◌}
use lib.ListN.{length}
use mathlib.Core.Path.{◌≡◌, sym, ◌∙◌}
use Rattle.table.proofs.sorted.seek.Goals as goal

pub returns-in-Less : goal.returns-in-Less
returns-in-Less c =
    let z = size_tabled (length c.args.entries.now) c.args.entries.now (omega arith) in
    let h : c.loop-i.i < size_of (tabled (length c.args.entries.now) c.args.entries.now) = omega arith in
    sym (seek_turn c.args.words.now c.args.image.now (tabled (length c.args.entries.now) c.args.entries.now) c.args.wanted.now _ _ h c.key.ensures _ (sym c.in-Less.ensures)) ∙ c.loop-i.invariant

pub returns-in-Equal : goal.returns-in-Equal
returns-in-Equal c =
    let z = size_tabled (length c.args.entries.now) c.args.entries.now (omega arith) in
    let h : c.loop-i.i < size_of (tabled (length c.args.entries.now) c.args.entries.now) = omega arith in
    sym (seek_turn c.args.words.now c.args.image.now (tabled (length c.args.entries.now) c.args.entries.now) c.args.wanted.now _ _ h c.key.ensures _ (sym c.in-Equal.ensures)) ∙ c.loop-i.invariant

pub loop-i-preserved : goal.loop-i-preserved
loop-i-preserved c =
    let z = size_tabled (length c.args.entries.now) c.args.entries.now (omega arith) in
    let h : c.loop-i.i < size_of (tabled (length c.args.entries.now) c.args.entries.now) = omega arith in
    sym (seek_turn c.args.words.now c.args.image.now (tabled (length c.args.entries.now) c.args.entries.now) c.args.wanted.now _ _ h c.key.ensures _ (sym c.in-Greater.ensures)) ∙ c.loop-i.invariant

pub returns : goal.returns
returns c =
    let z = size_tabled (length c.args.entries.now) c.args.entries.now (omega arith) in
    let i : c.loop-i.i ≡ length c.args.entries.now = omega arith in
    let h : size_of (tabled (length c.args.entries.now) c.args.entries.now) ≤ c.loop-i.i = omega arith in
    sym (seek_end c.args.words.now c.args.image.now (tabled (length c.args.entries.now) c.args.entries.now) c.args.wanted.now c.loop-i.i h _ i) ∙ c.loop-i.invariant
