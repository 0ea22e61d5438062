-- `image::limits::is_fair` meets its contract: a head is kept where its frame is fair.
use Rattle.image.proofs.HeadBytes.{view, node_small, definition_small, node_bytes, node_strict, option_refused, option_strict, flag_strict, rest_strict}
use Rattle.buffer.specs.Numbers.{Bytes}
use native.Mathlib.Omega.{arith}
use borrow.Author.Tests.{lt-leb}
use mathlib.Core.Path.{sym, ◌∙◌}
use Rattle.image.proofs.limits.is_fair.Goals as goal

pub fair_node-requires : goal.fair_node-requires
unfolding Bytes
fair_node-requires c =
    let e = sym c.requires ∙ c.in-Node.is in
    node_small c.args.s.now _ (λ i. (c.shared_slice_known-1.given i).fits) (view _ _ e).texts

pub is_definable-requires : goal.is_definable-requires
unfolding Bytes
is_definable-requires c =
    let e = sym c.requires ∙ c.in-Option.is in
    (omega arith, definition_small 3 c.args.s.now _ (λ i. (c.shared_slice_known-1.given i).fits) (view _ _ e).texts)

pub is_definable-requires-in-Flag : goal.is_definable-requires-in-Flag
unfolding Bytes
is_definable-requires-in-Flag c =
    let e = sym c.requires ∙ c.in-Flag.is in
    (omega arith, definition_small 2 c.args.s.now _ (λ i. (c.shared_slice_known-1.given i).fits) (view _ _ e).texts)

pub returns-in-Node : goal.returns-in-Node
unfolding Bytes
returns-in-Node c =
    let e = sym c.requires ∙ c.in-Node.is in
    let k = node_bytes c.args.s.now _ _ _ e (λ i. (c.shared_slice_known-1.given i).fits) in
    rw c.in-Node.is (sym (node_strict c.args.s.now _ _ _ e _ (c.fair_node.ensures _ k)))

pub returns-then-required-le1 : goal.returns-then-required-le1
returns-then-required-le1 c =
    let e = sym c.requires ∙ c.in-Option.is in
    rw c.in-Option.is (sym (option_strict c.args.s.now _ _ _ e c.if-required-le1.true _ c.is_definable.ensures))

pub returns-else-required-le1 : goal.returns-else-required-le1
returns-else-required-le1 c =
    let e = sym c.requires ∙ c.in-Option.is in
    rw (lt-leb c.in-Option.required 1 c.if-required-le1.false) (option_refused c.args.s.now _ _ _ e c.if-required-le1.false)

pub returns-in-Flag : goal.returns-in-Flag
returns-in-Flag c =
    let e = sym c.requires ∙ c.in-Flag.is in
    rw c.in-Flag.is (sym (flag_strict c.args.s.now _ _ e _ c.is_definable-in-Flag.ensures))

pub returns-in-Bad : goal.returns-in-Bad
returns-in-Bad c = rest_strict c.args.s.now _ c.requires c.in-Bad.is
