-- Decks: the meaning and the effect of their lines. Reading defines the results of reading a deck. ParsedLine, in
-- inner, connects the parts of a line with the definitions that a reader checks.
-- Source: ours.
pub mod Image
pub mod Code
pub mod Deck
pub mod Reading
pub mod inner
