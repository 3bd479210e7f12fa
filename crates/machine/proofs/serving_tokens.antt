-- The slots that token calls find, and their refusals.
pub mod SlotLaws
pub mod TokenRefusals
