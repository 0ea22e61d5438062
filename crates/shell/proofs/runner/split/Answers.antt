-- `shell::runner::split` meets its contract: a line that is not refused is split into its words, which always find room.
use mathlib.Core.Path.{refl, ap, ◌∙◌}
use native.Mathlib.Omega.{arith}
use Rattle.frame.specs.Series.{texts_in}
use Rattle.parse.proofs.Lines.{line_by, line_split, line_words, line_texts}
use Rattle.shell.proofs.Lines.{words_there, split_none}
use Rattle.std.proofs.Common.{rules}
use Rattle.shell.proofs.runner.split.Goals as goal

pub returns-in_default : goal.returns-in_default
returns-in_default c =
    (omega arith, search rules, λ h w. absurd (words_there c.args.line.now c.tokenize.result h w (line_by c.args.line.now _ _ _ c.tokenize.ensures ((omega arith, λ l. omega arith)) _ refl) c.in_default.not-Ok), split_none)

pub returns-in-Ok : goal.returns-in-Ok
returns-in-Ok c =
    let t = line_by c.args.line.now _ _ _ c.tokenize.ensures ((omega arith, λ l. omega arith)) _ c.in-Ok.is in (let a = t.2 in let b = t.3 in omega arith, search rules, λ h w. ap texts_in (line_words c.args.line.now _ _ _ c.tokenize.ensures ((omega arith, λ l. omega arith)) _ c.in-Ok.is) ∙ line_texts c.args.line.now t.2, rw (line_words c.args.line.now _ _ _ c.tokenize.ensures ((omega arith, λ l. omega arith)) _ c.in-Ok.is) (line_split c.args.line.now t.2))
