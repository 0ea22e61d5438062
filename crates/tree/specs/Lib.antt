-- Definitions of the crate `tree`: an image as a list of frames, the rules over that list, the test's answer in numbers, the steps by which the code goes, subtrees and the command that words name, how the code follows them, an image that grows by a frame, and the forest that an image stands for.
pub mod Images
pub mod Rules
pub mod Answer
pub mod Steps
pub mod Subtrees
pub mod Commands
pub mod Trails
pub mod Forest
pub mod Growth
pub mod Inner
