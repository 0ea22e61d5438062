-- `editor::line::Editor::act` meets its contract.
use Rattle.editor.proofs.States.{good_parts}
use Rattle.editor.proofs.Turns.{quiet, go_end}
use Rattle.editor.proofs.Keeping.{quiet_leaves, erase_leaves, insert_leaves, up_keeps, down_keeps, right_leaves, left_leaves, go_leaves, delete_leaves, acted, acted_alone, entered}
use Rattle.editor.specs.Answer.{state_of}
use Rattle.editor.proofs.line.Editor.act.Goals as goal

pub erase_key-requires : goal.erase_key-requires
erase_key-requires c =
    ((good_parts c.args.self c.args.history c.args.slots.now c.requires.slots_value).0, c.requires.prompt_len_bound.0)

pub insert_key-requires : goal.insert_key-requires
insert_key-requires c =
    ((good_parts c.args.self c.args.history c.args.slots.now c.requires.slots_value).0, c.requires.prompt_len_bound.0)

pub right-requires : goal.right-requires
right-requires c =
    (good_parts c.args.self c.args.history c.args.slots.now c.requires.slots_value).0

pub left-requires : goal.left-requires
left-requires c =
    (good_parts c.args.self c.args.history c.args.slots.now c.requires.slots_value).0

pub go_to-requires : goal.go_to-requires
go_to-requires c =
    ((good_parts c.args.self c.args.history c.args.slots.now c.requires.slots_value).0, c.requires.prompt_len_bound.0)

pub go_to-requires-in-End : goal.go_to-requires-in-End
go_to-requires-in-End c =
    ((good_parts c.args.self c.args.history c.args.slots.now c.requires.slots_value).0, c.requires.prompt_len_bound.0)

pub delete_key-requires : goal.delete_key-requires
delete_key-requires c =
    ((good_parts c.args.self c.args.history c.args.slots.now c.requires.slots_value).0, c.requires.prompt_len_bound.0)

pub returns-in-Nothing : goal.returns-in-Nothing
returns-in-Nothing c =
    let good = good_parts c.args.self c.args.history c.args.slots.now c.requires.slots_value in
    rw c.answers.ensures (acted_alone c.args.self c.args.history c.args.slots.now c.args.prompt.now c.args.line.now c.args.screen.now _ _ c.in-Nothing.is _ _ good.1 (quiet_leaves c.args.prompt.now (state_of c.args.self c.args.history c.args.slots.now)) (quiet c.args.self c.args.history c.args.slots.now c.args.screen.now good.0))

pub returns-in-Enter : goal.returns-in-Enter
returns-in-Enter c =
    entered c.args.self c.args.history c.args.slots.now c.args.prompt.now c.args.line.now c.args.screen.now _ _ c.in-Enter.is _ _ _ _ c.enter.ensures

pub returns-in-Erase : goal.returns-in-Erase
returns-in-Erase c =
    let is = (good_parts c.args.self c.args.history c.args.slots.now c.requires.slots_value).1 in
    acted_alone c.args.self c.args.history c.args.slots.now c.args.prompt.now c.args.line.now c.args.screen.now _ _ c.in-Erase.is _ _ is (erase_leaves c.args.prompt.now (state_of c.args.self c.args.history c.args.slots.now)) (c.erase_key.ensures c.args.slots.now)

pub returns-in-Insert : goal.returns-in-Insert
returns-in-Insert c =
    let is = (good_parts c.args.self c.args.history c.args.slots.now c.requires.slots_value).1 in
    acted_alone c.args.self c.args.history c.args.slots.now c.args.prompt.now c.args.line.now c.args.screen.now _ _ c.in-Insert.is _ _ is (insert_leaves c.args.prompt.now (state_of c.args.self c.args.history c.args.slots.now) _) (c.insert_key.ensures c.args.slots.now)

pub returns-in-Up : goal.returns-in-Up
returns-in-Up c =
    let is = (good_parts c.args.self c.args.history c.args.slots.now c.requires.slots_value).1 in
    acted c.args.self c.args.history c.args.slots.now c.args.prompt.now c.args.line.now c.args.screen.now _ _ c.in-Up.is _ _ is (up_keeps c.args.prompt.now (state_of c.args.self c.args.history c.args.slots.now)) c.up.ensures

pub returns-in-Down : goal.returns-in-Down
returns-in-Down c =
    let is = (good_parts c.args.self c.args.history c.args.slots.now c.requires.slots_value).1 in
    acted c.args.self c.args.history c.args.slots.now c.args.prompt.now c.args.line.now c.args.screen.now _ _ c.in-Down.is _ _ is (down_keeps c.args.prompt.now (state_of c.args.self c.args.history c.args.slots.now)) c.down.ensures

pub returns-in-Right : goal.returns-in-Right
returns-in-Right c =
    let is = (good_parts c.args.self c.args.history c.args.slots.now c.requires.slots_value).1 in
    acted_alone c.args.self c.args.history c.args.slots.now c.args.prompt.now c.args.line.now c.args.screen.now _ _ c.in-Right.is _ _ is (right_leaves c.args.prompt.now (state_of c.args.self c.args.history c.args.slots.now)) (c.right.ensures c.args.slots.now)

pub returns-in-Left : goal.returns-in-Left
returns-in-Left c =
    let is = (good_parts c.args.self c.args.history c.args.slots.now c.requires.slots_value).1 in
    acted_alone c.args.self c.args.history c.args.slots.now c.args.prompt.now c.args.line.now c.args.screen.now _ _ c.in-Left.is _ _ is (left_leaves c.args.prompt.now (state_of c.args.self c.args.history c.args.slots.now)) (c.left.ensures c.args.slots.now)

pub returns-in-Home : goal.returns-in-Home
returns-in-Home c =
    let is = (good_parts c.args.self c.args.history c.args.slots.now c.requires.slots_value).1 in
    acted_alone c.args.self c.args.history c.args.slots.now c.args.prompt.now c.args.line.now c.args.screen.now _ _ c.in-Home.is _ _ is (go_leaves c.args.prompt.now (state_of c.args.self c.args.history c.args.slots.now) 0) (c.go_to.ensures c.args.slots.now)

pub returns-in-End : goal.returns-in-End
returns-in-End c =
    let good = good_parts c.args.self c.args.history c.args.slots.now c.requires.slots_value in
    acted_alone c.args.self c.args.history c.args.slots.now c.args.prompt.now c.args.line.now c.args.screen.now _ _ c.in-End.is _ _ good.1 (go_leaves c.args.prompt.now (state_of c.args.self c.args.history c.args.slots.now) _) (go_end c.args.self c.args.history c.args.slots.now c.args.screen.now good.0 c.args.prompt.now _ _ (c.go_to-in-End.ensures c.args.slots.now))

pub returns-in-Delete : goal.returns-in-Delete
returns-in-Delete c =
    let is = (good_parts c.args.self c.args.history c.args.slots.now c.requires.slots_value).1 in
    acted_alone c.args.self c.args.history c.args.slots.now c.args.prompt.now c.args.line.now c.args.screen.now _ _ c.in-Delete.is _ _ is (delete_leaves c.args.prompt.now (state_of c.args.self c.args.history c.args.slots.now)) (c.delete_key.ensures c.args.slots.now)
