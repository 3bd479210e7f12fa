-- The texts that the program prints and answers, and the schedules that it reads. SessionResult defines the results of
-- a session; SessionParts, in inner, relates the results of its parts to them. Running has the result and the output of
-- a sequential run of a deck.
-- Source: ours.
pub mod Dump
pub mod Listing
pub mod Replaying
pub mod Schedule
pub mod AnswerText
pub mod Session
pub mod SessionResult
pub mod inner
pub mod Running
