-- Lemmas: several next events, boxes as pointers, calls on handles, copying words, and the choice of the next event.
mod AsBox
mod Copying
mod Handles
mod Idle
mod Steps
