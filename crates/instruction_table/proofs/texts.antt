-- Each instruction has exactly one text.
pub mod OctalLaws
pub mod ReadingLaws
pub mod FieldLaws
pub mod TextLaws
