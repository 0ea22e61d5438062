-- `session::running::print_ran` meets its contract: what each answer prints is what the line said.
use native.Mathlib.Omega.{arith}
use Rattle.session.proofs.Runs.{text_room, handler_room, fits_text, fits_exit, fits_handler, prints_nothing, prints_text, prints_exit, prints_handler}
use Rattle.session.proofs.running.print_ran.Goals as goal

pub print_text-after-requires : goal.print_text-after-requires
print_text-after-requires c =
    (c.requires.1, fits_text 65533 _ _ _ c.requires.0 c.in-Text.is, c.requires.2, omega (arith, c.requires.3))

pub print_prompt-requires-in-Text : goal.print_prompt-requires-in-Text
print_prompt-requires-in-Text c =
    text_room c.args.text.now _ c.requires.1 (fits_text 65533 _ _ _ c.requires.0 c.in-Text.is) c.args.out.now _ c.args.at _ c.requires.3 c.print_text-after.ensures

pub print_text-after-requires-in-Exit : goal.print_text-after-requires-in-Exit
print_text-after-requires-in-Exit c =
    (c.requires.1, fits_exit 65533 _ _ c.requires.0 c.in-Exit.is, c.requires.2, omega (arith, c.requires.3))

pub print-requires : goal.print-requires
print-requires c =
    let l = text_room c.args.text.now _ c.requires.1 (fits_exit 65533 _ _ c.requires.0 c.in-Exit.is) c.args.out.now _ c.args.at _ c.requires.3 c.print_text-after-in-Exit.ensures in omega (arith, l)

pub print_handler-after-requires : goal.print_handler-after-requires
print_handler-after-requires c =
    (c.requires.1, fits_handler 65533 _ _ _ c.requires.0 c.in-Handler.is, omega (arith, c.requires.3))

pub print_prompt-requires-in-Handler : goal.print_prompt-requires-in-Handler
print_prompt-requires-in-Handler c =
    handler_room c.args.text.now _ c.requires.1 (fits_handler 65533 _ _ _ c.requires.0 c.in-Handler.is) _ c.args.out.now _ c.args.at _ c.requires.3 c.print_handler-after.ensures

pub returns-in-Text : goal.returns-in-Text
returns-in-Text c =
    λ said h. prints_text said _ _ h c.args.out.now _ c.args.at _ _ _ _ _ c.in-Text.is (fits_text 65533 _ _ _ c.requires.0 c.in-Text.is) c.requires.3 c.print_text-after.ensures c.print_prompt-in-Text.ensures

pub returns-in-Exit : goal.returns-in-Exit
returns-in-Exit c =
    λ said h. prints_exit said _ _ h c.args.out.now _ c.args.at _ _ _ _ c.in-Exit.is (fits_exit 65533 _ _ c.requires.0 c.in-Exit.is) c.requires.3 c.print_text-after-in-Exit.ensures c.print.ensures

pub returns-in-Handler : goal.returns-in-Handler
returns-in-Handler c =
    λ said h. prints_handler said _ _ h c.args.out.now _ c.args.at _ _ _ _ _ c.in-Handler.is c.requires.1 (fits_handler 65533 _ _ _ c.requires.0 c.in-Handler.is) c.requires.3 c.print_handler-after.ensures c.print_prompt-in-Handler.ensures

pub returns-in-Nothing : goal.returns-in-Nothing
returns-in-Nothing c =
    λ said h. prints_nothing said _ _ h c.args.out.now _ c.args.at _ c.in-Nothing.is c.print_prompt.ensures
