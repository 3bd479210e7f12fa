-- Texts as lines of bytes, the effect of calls on the bytes of a device, and the position of a fault in a line.
-- Source: ours.
pub mod Device
pub mod Putting
pub mod Line
pub mod Text
pub mod Names
pub mod Pieces
pub mod Position
